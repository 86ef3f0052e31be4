-- The index finds the last of the globs that matches the name.
use Rattle.std.proofs.Common.{◌<◌, ℕ, Option, Some, None, false, length, map, ap, subst, ◌∙◌}
use Rattle.std.specs.Option.{option_map_or}
use Rattle.std.specs.Str.{chars}
use Rattle.std.proofs.lemmas.List.{length-map}
use Rattle.std.proofs.lemmas.Option.{slice_get_within}
use Rattle.ignore_base.specs.declared.match_result.Match.TheVariants as match
use Rattle.ignore_set.specs.Sets.{IsLastMatch}
use Rattle.ignore_types.specs.TypeIndex.{name_member}
use Rattle.ignore_types.specs.TypeMatch.{Chosen, last_place, match_by_glob}
use Rattle.ignore_types.proofs.TypeAnswers.{last_found}
use Rattle.ignore_types.proofs.types.chosen.ChosenType.matched.Goals as goal

pub returns-in-Some : goal.returns-in-Some
returns-in-Some c =
    let name = chars c.args.name.now in
    let found = subst (λ (o : Option ℕ). IsLastMatch name false (map name_member c.deref.result.now) o) c.in-Some.is
    c.in_ok-place.ensures.value in
    let same = c.deref.ensures.value ∙ ap (λ (t : Chosen). t.readings) c.self.view_is in
    c.verdict.ensures
    ∙ (ap (λ o. option_map_or (match_by_glob c.args.self.now) o match.None)
    (last_found c.matching_is_decided.ensures name c.deref.result.now (Some c.in-Some.place) found)
    ∙ ap (λ rs. option_map_or (match_by_glob c.args.self.now) (last_place name rs) match.None) same)

pub returns-in-None : goal.returns-in-None
returns-in-None c =
    let name = chars c.args.name.now in
    let found = subst (λ (o : Option ℕ). IsLastMatch name false (map name_member c.deref.result.now) o) c.in-None.is
    c.in_ok-place.ensures.value in
    let same = c.deref.ensures.value ∙ ap (λ (t : Chosen). t.readings) c.self.view_is in
    ap (λ o. option_map_or (match_by_glob c.args.self.now) o match.None)
    (last_found c.matching_is_decided.ensures name c.deref.result.now None found)
    ∙ ap (λ rs. option_map_or (match_by_glob c.args.self.now) (last_place name rs) match.None) same

pub verdict-requires : goal.verdict-requires
verdict-requires c =
    let name = chars c.args.name.now in
    let found = subst (λ (o : Option ℕ). IsLastMatch name false (map name_member c.deref.result.now) o) c.in-Some.is
    c.in_ok-place.ensures.value in
    let same = c.deref.ensures.value ∙ ap (λ (t : Chosen). t.readings) c.self.view_is in
    subst (λ rs. c.in-Some.place < length rs) same
    (subst (λ n. c.in-Some.place < n) (length-map c.deref.result.now name_member)
    (slice_get_within (map name_member c.deref.result.now) c.in-Some.place found.0 found.1))
