-- Items of roots with whether each is left out, one more at a time.
use Rattle.std.proofs.Common.{◌≡◌, ◌∙◌, ◌+◌, ℕ, All, Bool, List, [], ◌∷◌, ◌++◌, Option, map, refl, sym, ap, subst}
use Rattle.std.proofs.lemmas.List.{map-append}
use Rattle.std.proofs.lemmas.List.Elements.{All-map, All-nil, All-push}
use Rattle.std.specs.Io.KnownBytes.{Appends}
use Rattle.ignore_files.specs.Tree.{Tree}
use Rattle.ignore_base.specs.declared.error.Error.{Error}
use Rattle.ignore_survey.specs.declared.surveyed.Surveyed.{Surveyed}
use Rattle.std.specs.Prelude.{Result}
use Rattle.ig_options.specs.declared.options.Options.{Options}
use Rattle.ig_commands.specs.Counts.{capped, counted}
use Rattle.ig_commands.specs.Ignored.{AreJudged, IsJudged, OfShown, Shown, all_met, found_in, is_found, seen_in}
use Rattle.ig_commands.specs.Surveys.{OfRoot, Seen, all_seen, all_told, begun_in, begun_told, is_wrong, seen_of, told_in}
use Rattle.ig_commands.proofs.NameLemmas.{begun_root}
use Rattle.ig_commands.proofs.SurveyLemmas.{counts_over, seen_counts}
use Rattle.ig_commands.proofs.TurnLemmas.{text_more}

-- the items of one root more
pub met_more : (all : List OfShown) (r : OfShown) → all_met (all ++ r ∷ []) ≡ all_met all ++ seen_in r ∷ []
met_more all r = map-append seen_in all (r ∷ [])

pub told_root : (o : Options) (all : List OfShown) (r : OfShown) (a b c : Option (List ℕ)) → Appends a b (all_told o (all_met all))
    → Appends b c (told_in o (seen_in r).1) → Appends a c (all_told o (all_met (all ++ r ∷ [])))
told_root o all r a b c h k =
    subst (λ (xs : List OfRoot). Appends a c (all_told o xs)) (sym (met_more all r))
    (text_more (λ (x : OfRoot). told_in o x.1) (all_met all) (seen_in r) a b c h k)

-- the first items of one root more are reported
pub begun_met : (o : Options) (all : List OfShown) (r : OfShown) (a b c : Option (List ℕ)) → Appends a b (all_told o (all_met all))
    → Appends b c (begun_in o (seen_in r).1) → Appends a c (begun_told o (all_met (all ++ r ∷ [])))
begun_met o all r a b c h k =
    subst (λ (xs : List OfRoot). Appends a c (begun_told o xs)) (sym (met_more all r)) (begun_root o (all_met all) (seen_in r) a b c h k)

pub wrong_root : (o : Options) (all : List OfShown) (r : OfShown) (old more new : ℕ)
    → old ≡ counted 0 (map (is_wrong o) (all_seen (all_met all))) → more ≡ counted 0 (map (is_wrong o) (seen_in r).1)
    → new ≡ capped (old + more) → new ≡ counted 0 (map (is_wrong o) (all_seen (all_met (all ++ r ∷ []))))
wrong_root o all r old more new before here sum =
    seen_counts (is_wrong o) (all_met all) (seen_in r) old more new before here sum
    ∙ ap (λ (xs : List OfRoot). counted 0 (map (is_wrong o) (all_seen xs))) (sym (met_more all r))

pub found_root : (o : Options) (all : List OfShown) (r : OfShown) (old more new : ℕ) → old ≡ found_in o all
    → more ≡ counted 0 (map (is_found o) r.1) → new ≡ capped (old + more) → new ≡ found_in o (all ++ r ∷ [])
found_root o all r old more new before here sum = counts_over (is_found o) all r old more new before here sum

pub judged_root : (tree : Tree) (o : Options) (all : List OfShown) (r : OfShown) → AreJudged tree o all
    → All (IsJudged tree o r.0) r.1 → AreJudged tree o (all ++ r ∷ [])
judged_root tree o all r h k = All-push (λ (x : OfShown). All (IsJudged tree o x.0) x.1) all r h k

-- the roots of the items
pub roots_met : (all : List OfShown) → map (λ (x : OfShown). (seen_in x).0) all ≡ map (λ (r : OfRoot). r.0) (all_met all)
roots_met [] = refl
roots_met (x ∷ all) = ap (λ (ps : List (List ℕ)). x.0 ∷ ps) (roots_met all)

-- what holds of the items of each root
pub each_met : (Q : OfRoot → Type 0) (all : List OfShown) → All (λ x. Q (seen_in x)) all → All Q (all_met all)
each_met Q all h = All-map Q seen_in all h

-- one item more
pub items_more : (shown : List Shown) (all : List (Result Surveyed Error)) (item : Result Surveyed Error) (left_out : Bool)
    → map (λ (s : Shown). s.0) shown ≡ map seen_of all
    → map (λ (s : Shown). s.0) (shown ++ (seen_of item, left_out) ∷ []) ≡ map seen_of (all ++ item ∷ [])
items_more shown all item left_out h =
    map-append (λ (s : Shown). s.0) shown ((seen_of item, left_out) ∷ [])
    ∙ (ap (λ (xs : List Seen). xs ++ seen_of item ∷ []) h ∙ sym (map-append seen_of all (item ∷ [])))

-- of no root
pub none_judged : (tree : Tree) (o : Options) → AreJudged tree o []
none_judged tree o = All-nil (λ (x : OfShown). All (IsJudged tree o x.0) x.1)
