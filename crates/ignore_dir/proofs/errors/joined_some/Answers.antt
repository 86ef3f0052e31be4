use Rattle.std.proofs.Common.{◌++◌, [], ◌∷◌, List, map, sym, ap, ◌∙◌}
use Rattle.std.proofs.lemmas.List.{map-append}
use Rattle.std.specs.List.{filter_map}
use Rattle.std.specs.Option.{option_map, option_to_list}
use Rattle.ignore_base.specs.Problem.{Problem, problem_of}
use Rattle.ignore_dir.proofs.SoftLemmas.{collected-more}
use Rattle.ignore_dir.proofs.errors.joined_some.Goals as goal

pub loop-error-preserved : goal.loop-error-preserved
loop-error-preserved c =
    let before = map (option_map problem_of) c.loop-error.yielded in
    let more = option_map problem_of c.in-Some.error in
    c.in_ok-push_some.ensures.added
    ∙ (ap (λ (l : List Problem). l ++ option_to_list more) c.loop-error.invariant
    ∙ (sym (collected-more before more) ∙ ap (filter_map (λ q. q))
    (sym (map-append (option_map problem_of) c.loop-error.yielded (c.in-Some.error ∷ [])))))
