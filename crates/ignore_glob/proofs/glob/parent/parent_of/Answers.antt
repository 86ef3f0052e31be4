use Rattle.std.proofs.Common.{◌≡◌, ◌++◌, ◌∷◌, [], Some, length, ap, subst, sym, take, string_bytes, ◌∙◌, ◌-◌, arith}
use Rattle.std.specs.Option.{option_map}
use Rattle.std.proofs.lemmas.Str.Pattern.{ends_char}
use Rattle.ignore_glob.specs.Forms.{literals}
use Rattle.ignore_glob.specs.View.{tokens_view}
use Rattle.ignore_glob.proofs.ParentLemmas.{has_parent}
use Rattle.ignore_glob.proofs.glob.parent.parent_of.Goals as goal

pub returns-then-ends_with : goal.returns-then-ends_with
returns-then-ends_with c = λ text utf8 matches.
    let parent = string_bytes c.in-Some.text in
    let size = c.past_slashes-size.result in
    let spelt : literals (tokens_view (take size c.args.tokens.now)) ≡ Some parent =
    sym c.in_ok-literal_text.ensures ∙ ap (option_map string_bytes) c.in-Some.is in
    let ends : parent ≡ take (length parent - 1) parent ++ 47 ∷ [] =
    subst (λ l. l ≡ take (length l - 1) l ++ 47 ∷ []) c.as_str.ensures.value
    ((ends_char 47 c.as_str.result.now c.ends_with.result c.ends_with.ensures.cases (omega arith)).0 c.if-ends_with.true) in
    has_parent c.args.tokens.now size parent text spelt (take (length parent - 1) parent, ends) c.past_slashes-size.ensures.plain utf8 matches
