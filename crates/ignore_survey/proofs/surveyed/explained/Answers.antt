use Rattle.std.proofs.Common.{◌≡◌, ◌≢◌, Bool, true, option_map, string_bytes, ◌∙◌, ap, subst}
use Rattle.ignore_base.specs.Problem.{problem_of}
use Rattle.ignore_base.specs.Text.{Path}
use Rattle.ignore_dir.specs.Query.{names_of, query}
use Rattle.ignore_query.specs.Agrees.{Agrees}
use Rattle.ignore_query.specs.InTurn.{Leaves}
use Rattle.ignore_query.specs.Needs.{KeepsNeeded, is_decided, needed}
use Rattle.ignore_query.specs.Reports.{reported}
use Rattle.ignore_why.specs.QueryWhy.{query_why, query_why_of}
use Rattle.ignore_survey.proofs.SuitLemmas.{entry_is, grows_asked, suits_still, where_suits}
use Rattle.ignore_survey.proofs.surveyed.explained.Goals as goal

pub returns-in_err-explanation-clause-suits : goal.returns-in_err-explanation-clause-suits
returns-in_err-explanation-clause-suits g c = λ s suits.
    let m = c.args.matcher.now in
    suits_still g.F.Files c.args.files.now m s c.explain.new.self suits c.explain.ensures.leaves.same
    (where_suits g.F.Files c.args.files.now m s (λ x. Agrees x c.explain.new.self.cache) suits c.explain.ensures.leaves.agrees)

pub returns-clause-suits : goal.returns-clause-suits
returns-clause-suits g c = λ s suits.
    let m = c.args.matcher.now in
    suits_still g.F.Files c.args.files.now m s c.explain.new.self suits c.explain.ensures.leaves.same
    (where_suits g.F.Files c.args.files.now m s (λ x. Agrees x c.explain.new.self.cache) suits c.explain.ensures.leaves.agrees)

pub returns-in_err-explanation-clause-grows : goal.returns-in_err-explanation-clause-grows
returns-in_err-explanation-clause-grows g c =
    grows_asked g.F.Files c.args.files.now c.args.matcher.now c.explain.new.self (c.as_str.result.now, c.is_dir.result) c.explain.ensures.leaves

pub returns-clause-grows : goal.returns-clause-grows
returns-clause-grows g c =
    grows_asked g.F.Files c.args.files.now c.args.matcher.now c.explain.new.self (c.as_str.result.now, c.is_dir.result) c.explain.ensures.leaves

pub returns-clause-entry : goal.returns-clause-entry
returns-clause-entry g c = λ s suits.
    let m = c.args.matcher.now in
    let p = c.as_str.result.now in
    let d = c.is_dir.result in
    let e = c.in_ok-explanation.explanation in
    entry_is s (string_bytes c.args.path) p c.args.file_type d e.answer (query_why_of e.reason) c.as_str.ensures.value c.is_dir.ensures
    (where_suits g.F.Files c.args.files.now m s (λ x. e.answer ≡ (query x p d).0) suits c.in_ok-explanation.ensures.value)
    (where_suits g.F.Files c.args.files.now m s (λ x. query_why_of e.reason ≡ query_why x p d) suits c.in_ok-explanation.ensures.why)

pub returns-clause-reports : goal.returns-clause-reports
returns-clause-reports g c = λ s suits.
    let m = c.args.matcher.now in
    let p = c.as_str.result.now in
    let d = c.is_dir.result in
    where_suits g.F.Files c.args.files.now m s
    (λ x. option_map problem_of c.in_ok-explanation.error ≡ reported x m.cache p d) suits c.in_ok-explanation.ensures.reports
    ∙ (ap (λ (x : Path). reported s m.cache x d) c.as_str.ensures.value
    ∙ ap (λ b. reported s m.cache (string_bytes c.args.path) b) c.is_dir.ensures)

-- what is kept is what the query leaves, for the path and the kind of the entry
pub returns-clause-leaves : goal.returns-clause-leaves
returns-clause-leaves g c = λ s suits.
    let m = c.args.matcher.now in
    let p = c.as_str.result.now in
    let d = c.is_dir.result in
    let n = c.explain.new.self in
    let leaves : Leaves s (p, d) m.cache n.cache = record {
      stays = c.explain.ensures.leaves.stays;
      kept = where_suits g.F.Files c.args.files.now m s (λ x. is_decided x p d ≡ true → KeepsNeeded (needed x (names_of p)) m.cache n.cache)
          suits c.in_ok-explanation.ensures.kept;
      unchanged = where_suits g.F.Files c.args.files.now m s (λ x. is_decided x p d ≢ true → n.cache ≡ m.cache)
          suits c.explain.ensures.leaves.unchanged;
    } in
    subst (λ (b : Bool). Leaves s (string_bytes c.args.path, b) m.cache n.cache) c.is_dir.ensures
    (subst (λ (x : Path). Leaves s (x, d) m.cache n.cache) c.as_str.ensures.value leaves)
