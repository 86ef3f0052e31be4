use Rattle.std.proofs.Common.{◌≡◌, ◌∙◌, ◌||◌, false, ap, option_map, refl, string_bytes, sym}
use Rattle.ignore_base.specs.Paths.{ends_with_slash, join_of}
use Rattle.ignore_base.specs.Problem.{problem_of}
use Rattle.ignore_base.specs.Text.{Path}
use Rattle.ignore_dir.specs.Query.{is_dir_there}
use Rattle.ignore_dir.specs.Verdict.{is_ignore}
use Rattle.ignore_dir.specs.declared.incremental.IncrementalMatch.{IncrementalMatch}
use Rattle.ignore_query.specs.InTurn.{Leaves}
use Rattle.ignore_query.specs.Reached.{scene_of}
use Rattle.ignore_why.specs.QueryWhy.{query_why_of}
use Rattle.ig_commands.specs.Why.{Answered, is_dir_at}
use Rattle.ig_commands.proofs.WhyLemmas.{answered}
use Rattle.ig_commands.proofs.why.ask_path.Goals as goal

-- a path that has no text below the root
pub returns-in_default-below-clause-said : goal.returns-in_default-below-clause-said
returns-in_default-below-clause-said g c = λ tree loads honest are agrees.
    (refl, sym c.in-Ok.ensures.value ∙ ap (option_map string_bytes) c.in_default-below.is, refl)

pub returns-in-Ok-explain-clause-said : goal.returns-in-Ok-explain-clause-said
returns-in-Ok-explain-clause-said g c = λ tree loads honest are agrees.
    let m = c.args.matcher.now in
    let s = scene_of m.asked tree loads in
    let text : Path = string_bytes c.in-Some.below in
    let p = c.as_str-2.result.now in
    let d = c.in_ok-is_dir.is_dir in
    let e = c.in-Ok-explain.explanation in
    let t : Answered = record {
      path = c.args.path.now;
      why = query_why_of e.reason;
      is_ignored = is_ignore e.answer.verdict;
      problem = option_map problem_of c.in-Ok-explain.error;
    } in
    let kind : d ≡ is_dir_at s t.path text =
    c.in_ok-is_dir.ensures.value tree honest
    ∙ (ap (λ (r : Path). is_dir_there (tree.stat (join_of r c.as_str.result.now) false) || ends_with_slash c.args.path.now) c.root.ensures
    ∙ ap (λ (x : Path). is_dir_there (tree.stat (join_of s.root x) false) || ends_with_slash c.args.path.now) c.as_str.ensures.value) in
    let leaves : Leaves s (p, d) m.cache c.explain.new.self.cache = record {
      stays = c.explain.ensures.leaves.stays;
      kept = c.in-Ok-explain.ensures.kept tree loads honest are agrees;
      unchanged = c.explain.ensures.leaves.unchanged tree loads honest are agrees;
    } in (
      refl,
      text,
      sym c.in-Ok.ensures.value ∙ ap (option_map string_bytes) c.in-Some.is,
      answered s text p d m.cache c.explain.new.self.cache t c.as_str-2.ensures.value kind
          (c.in-Ok-explain.ensures.why tree loads honest are agrees)
          (ap (λ (a : IncrementalMatch). is_ignore a.verdict) (c.in-Ok-explain.ensures.value tree loads honest are agrees))
          leaves (c.in-Ok-explain.ensures.reports tree loads honest are agrees),
    )
