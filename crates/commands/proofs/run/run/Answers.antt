use Rattle.std.proofs.Common.{◌≡◌, ◌∙◌, ◌⊎◌, ℕ, IfErr, IfOk, List, Option, Some, ap, map, string_bytes, subst, sym}
use Rattle.std.specs.Prelude.{option_map}
use Rattle.std.specs.Io.KnownBytes.{Appends}
use Rattle.ignore_files.specs.Gives.{IsHonest}
use Rattle.ignore_files.specs.Tree.{Tree}
use Rattle.ignore_walk.specs.Entry.{Item}
use Rattle.commands.specs.Checking.{AreAnswers, AreAnswersSoFar, AreFirst, Checked, Checks, line_for, report_for, with_next}
use Rattle.commands.specs.Listing.{Lists, lines_of, reports_of}
use Rattle.commands.specs.Matching.{Prints}
use Rattle.commands.specs.Stops.{EndsReported, EndsReportedAfter, EndsUnreported, EndsUnreportedAfter, SaidBy}
use Rattle.commands.specs.Walking.{AreBegunOf, AreListedOf}
use Rattle.commands.specs.Words.{Question, command_view, of_check, of_list, of_match, request_view}
use Rattle.commands.proofs.run.run.Goals as goal

-- the command is the one of the words
pub returns-in-Some-Match-clause-prints : goal.returns-in-Some-Match-clause-prints
returns-in-Some-Match-clause-prints g c = λ question is.
    let read : Some (of_match (request_view c.in-Some-Match.request)) ≡ Some (of_match question)
    = sym (ap (option_map command_view) (c.in-Some-Match.is ∙ ap Some c.in-Some-Match.field-0-is)) ∙ (c.read_command.ensures ∙ is) in
    let same : request_view c.in-Some-Match.request ≡ question = cc in
    let out = Appends (g.W.Output.contents c.args.out.now) (g.W.Output.contents c.answer_or_report.new.out) in
    let err = Appends (g.E.Write.contents c.args.err.now) (g.E.Write.contents c.answer_or_report.new.err) in
    subst (λ (q : Question). IfOk c.answer_or_report.result (λ status. Prints q status out err ⊎ ((status ≡ 2) × EndsReported (SaidBy (g.W.Output.fails c.answer_or_report.new.out)) q out err))) same
    c.answer_or_report.ensures.prints

pub returns-in-Some-Match-clause-unreported : goal.returns-in-Some-Match-clause-unreported
returns-in-Some-Match-clause-unreported g c = λ question is.
    let read : Some (of_match (request_view c.in-Some-Match.request)) ≡ Some (of_match question)
    = sym (ap (option_map command_view) (c.in-Some-Match.is ∙ ap Some c.in-Some-Match.field-0-is)) ∙ (c.read_command.ensures ∙ is) in
    let same : request_view c.in-Some-Match.request ≡ question = cc in
    let out = Appends (g.W.Output.contents c.args.out.now) (g.W.Output.contents c.answer_or_report.new.out) in
    let err = Appends (g.E.Write.contents c.args.err.now) (g.E.Write.contents c.answer_or_report.new.err) in
    subst (λ (q : Question). IfErr c.answer_or_report.result (EndsUnreported q out err)) same c.answer_or_report.ensures.unreported

-- the roots that are listed are those of the words
pub returns-in-Some-List-clause-lists : goal.returns-in-Some-List-clause-lists
returns-in-Some-List-clause-lists g c = λ roots is.
    let read : Some (of_list (map string_bytes c.in-Some-List.roots.now)) ≡ Some (of_list roots)
    = sym (ap (option_map command_view) (c.in-Some-List.is ∙ ap Some c.in-Some-List.field-0-is)) ∙ (c.read_command.ensures ∙ is) in
    let same : map string_bytes c.in-Some-List.roots.now ≡ roots = cc in
    let out = Appends (g.W.Output.contents c.args.out.now) (g.W.Output.contents c.list.new.out) in
    let err = Appends (g.E.Write.contents c.args.err.now) (g.E.Write.contents c.list.new.err) in
    subst (λ (rs : List (List ℕ)). IfOk c.list.result (λ status.
    ((items : List Item) × Lists items status out err
    × AreListedOf g.F.Files c.args.world.now.files.now c.args.world.now.env.now rs items)
    ⊎ ((status ≡ 2) × (items : List Item) × (next : Option Item) × EndsReportedAfter (SaidBy (g.W.Output.fails c.list.new.out)) lines_of reports_of items next out err
    × AreBegunOf g.F.Files c.args.world.now.files.now c.args.world.now.env.now rs items next))) same c.list.ensures.lists

pub returns-in-Some-List-clause-unreported_list : goal.returns-in-Some-List-clause-unreported_list
returns-in-Some-List-clause-unreported_list g c = λ roots is.
    let read : Some (of_list (map string_bytes c.in-Some-List.roots.now)) ≡ Some (of_list roots)
    = sym (ap (option_map command_view) (c.in-Some-List.is ∙ ap Some c.in-Some-List.field-0-is)) ∙ (c.read_command.ensures ∙ is) in
    let same : map string_bytes c.in-Some-List.roots.now ≡ roots = cc in
    let out = Appends (g.W.Output.contents c.args.out.now) (g.W.Output.contents c.list.new.out) in
    let err = Appends (g.E.Write.contents c.args.err.now) (g.E.Write.contents c.list.new.err) in
    subst (λ (rs : List (List ℕ)). IfErr c.list.result (λ stop. (items : List Item) × (next : Option Item)
    × EndsUnreportedAfter lines_of reports_of items next out err stop
    × AreBegunOf g.F.Files c.args.world.now.files.now c.args.world.now.env.now rs items next)) same c.list.ensures.unreported

-- the paths that are asked about are those of the words
pub returns-in-Some-Check-clause-checks : goal.returns-in-Some-Check-clause-checks
returns-in-Some-Check-clause-checks g c = λ root paths is.
    let read : Some (of_check c.in-Some-Check.root.now (map string_bytes c.in-Some-Check.paths.now)) ≡ Some (of_check root paths)
    = sym (ap (option_map command_view) (c.in-Some-Check.is ∙ ap Some c.in-Some-Check.field-0-is)) ∙ (c.read_command.ensures ∙ is) in
    let of_root : c.in-Some-Check.root.now ≡ root = cc in
    let of_paths : map string_bytes c.in-Some-Check.paths.now ≡ paths = cc in
    let same : (c.in-Some-Check.root.now, map string_bytes c.in-Some-Check.paths.now) ≡ (root, paths) = cc in
    let out = Appends (g.W.Output.contents c.args.out.now) (g.W.Output.contents c.check.new.out) in
    let err = Appends (g.E.Write.contents c.args.err.now) (g.E.Write.contents c.check.new.err) in
    subst (λ (q : List ℕ × List (List ℕ)). IfOk c.check.result (λ status.
    ((all : List Checked) × Checks q.1 all status out err
    × ((tree : Tree) → IsHonest g.F.Files c.args.world.now.files.now tree → AreAnswers tree c.args.world.now.env.now q.0 all))
    ⊎ ((status ≡ 2) × (all : List Checked) × (next : Option Checked) × AreFirst q.1 (with_next all next)
    × EndsReportedAfter (SaidBy (g.W.Output.fails c.check.new.out)) line_for report_for all next out err
    × ((tree : Tree) → IsHonest g.F.Files c.args.world.now.files.now tree → AreAnswersSoFar tree c.args.world.now.env.now q.0 (with_next all next))))) same
    c.check.ensures.checks

pub returns-in-Some-Check-clause-unreported_check : goal.returns-in-Some-Check-clause-unreported_check
returns-in-Some-Check-clause-unreported_check g c = λ root paths is.
    let read : Some (of_check c.in-Some-Check.root.now (map string_bytes c.in-Some-Check.paths.now)) ≡ Some (of_check root paths)
    = sym (ap (option_map command_view) (c.in-Some-Check.is ∙ ap Some c.in-Some-Check.field-0-is)) ∙ (c.read_command.ensures ∙ is) in
    let of_root : c.in-Some-Check.root.now ≡ root = cc in
    let of_paths : map string_bytes c.in-Some-Check.paths.now ≡ paths = cc in
    let same : (c.in-Some-Check.root.now, map string_bytes c.in-Some-Check.paths.now) ≡ (root, paths) = cc in
    let out = Appends (g.W.Output.contents c.args.out.now) (g.W.Output.contents c.check.new.out) in
    let err = Appends (g.E.Write.contents c.args.err.now) (g.E.Write.contents c.check.new.err) in
    subst (λ (q : List ℕ × List (List ℕ)). IfErr c.check.result (λ stop. (all : List Checked) × (next : Option Checked)
    × AreFirst q.1 (with_next all next) × EndsUnreportedAfter line_for report_for all next out err stop
    × ((tree : Tree) → IsHonest g.F.Files c.args.world.now.files.now tree → AreAnswersSoFar tree c.args.world.now.env.now q.0 (with_next all next)))) same
    c.check.ensures.unreported
