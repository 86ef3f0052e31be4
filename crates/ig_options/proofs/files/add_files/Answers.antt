use Rattle.std.proofs.Common.{ap, map, option_map}
use Rattle.std.proofs.lemmas.Result.{IfOk-weaker, on_ok_weaker}
use Rattle.ignore_base.specs.Problem.{problem_of}
use Rattle.ig_options.proofs.LoopLemmas.{no_files, no_files_by, some_files, some_files_by}
use Rattle.ig_options.proofs.files.add_files.Goals as goal

pub returns-then-options-clause-read : goal.returns-then-options-clause-read
returns-then-options-clause-read g c = λ tree honest.
    let o = c.args.options.now in
    no_files tree c.args.env.now o.no_ignore_files o.ignore_files c.args.walk.now _ c.if-options.true
    (ap (map (option_map problem_of)) c.new.ensures.items)

pub returns-clause-read : goal.returns-clause-read
returns-clause-read g c = λ tree honest.
    let o = c.args.options.now in
    IfOk-weaker c.push_files.result _ _
    (λ errors h. some_files tree c.args.env.now o.no_ignore_files o.ignore_files c.args.walk.now c.push_files.new.walk _ c.if-options.false h)
    (c.push_files.ensures.read tree honest)

-- the same over any files
pub returns-then-options-clause-answered : goal.returns-then-options-clause-answered
returns-then-options-clause-answered g c =
    let o = c.args.options.now in
    no_files_by (g.F.Files.contents_gives c.args.files.now) c.args.env.now o.no_ignore_files o.ignore_files c.args.walk.now c.if-options.true

pub returns-clause-answered : goal.returns-clause-answered
returns-clause-answered g c =
    let o = c.args.options.now in
    on_ok_weaker c.push_files.result
    (λ h. some_files_by (g.F.Files.contents_gives c.args.files.now) c.args.env.now o.no_ignore_files o.ignore_files c.args.walk.now
    c.push_files.new.walk c.if-options.false h) c.push_files.ensures.answered
