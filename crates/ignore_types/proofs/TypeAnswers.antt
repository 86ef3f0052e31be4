-- Choices answer by the last one that matches.
use Rattle.std.proofs.Common.{◌≡◌, ℕ, zero, suc, ◌+◌, ◌<◌, Bool, true, false, ◌||◌, List, [], ◌∷◌, length, get_or, map, drop, drop-cons}
use Rattle.std.proofs.Common.{add-one, All, Decides, Option, refl, sym, ap, subst, ◌∙◌, inl, inr, ◌⊎◌, cond, arith}
use Rattle.std.specs.Prelude as option
use Rattle.std.specs.Str.{chars}
use Rattle.std.specs.Option.{option_map, option_map_or}
use Rattle.std.proofs.lemmas.Bool.{false_from_ne_true, or_from, or_left, or_right}
use Rattle.std.proofs.lemmas.List.{length-map}
use Rattle.std.proofs.lemmas.Option.{slice_get-map, slice_get-get_or, slice_get_within}
use Rattle.std.proofs.lemmas.Bool.Decides.{Decides-or, not_from_Decides}
use Rattle.ignore_base.specs.declared.match_result.Match.{Match}
use Rattle.ignore_base.specs.declared.match_result.Match.TheVariants.{None, Ignore, Whitelist}
use Rattle.ignore_glob.specs.DoesMatch.{does_match}
use Rattle.ignore_base.specs.Match.{match_or}
use Rattle.ignore_glob.specs.Reading.{Reading, Matches}
use Rattle.ignore_set.specs.Sets.{Member, Applies, IsLastMatch}
use Rattle.ignore_types.specs.TypeIndex.{name_member}
use Rattle.ignore_types.specs.TypeMatch.{Chosen, TypeGlob, last_place, glob_at, match_by_glob, choice_answer, choices_answer, unmatched}
use Rattle.ignore_types.specs.TypeMatch.{SomeMatches, NoneMatches, IsLastGlob, IsDeciding, IsNameAnswer, AnswersByTheLastChoice, type_answer}

some_one : {A : Type 0} (a b : A) → option.Some a ≡ option.Some b → a ≡ b
some_one a b e = cc

verdict-some : (c : Chosen) (i : ℕ) (flag : Bool)
    → cond flag (Ignore (option.Some (glob_at c i))) (Whitelist (option.Some (glob_at c i))) ≡ None → ⊥
verdict-some c i true e = cc
verdict-some c i false e = cc

verdict-or : (c : Chosen) (i : ℕ) (flag : Bool) (other : Match (Option TypeGlob))
    → match_or (cond flag (Ignore (option.Some (glob_at c i))) (Whitelist (option.Some (glob_at c i)))) other
    ≡ cond flag (Ignore (option.Some (glob_at c i))) (Whitelist (option.Some (glob_at c i)))
verdict-or c i true other = refl
verdict-or c i false other = refl

or_settled : (m other : Match (Option TypeGlob)) → (m ≡ None → ⊥) → match_or m other ≡ m
or_settled None other some = absurd (some refl)
or_settled (Ignore d) other some = refl
or_settled (Whitelist d) other some = refl

-- One choice of a list, the later ones having no match: how a scan from the end goes on.
module _ (cs : List Chosen) (name : List ℕ) where
  pub at_choice : (i : ℕ) (c : Chosen) → i < length cs → c ≡ get_or cs i c → choices_answer (drop (i + 1) cs) name ≡ None
      → choices_answer (drop i cs) name ≡ choice_answer name c
  at_choice i c fits is none =
      let place : drop i cs ≡ c ∷ drop (i + 1) cs = rw add-one (drop-cons cs i c fits ∙ ap (λ r. r ∷ drop (suc i) cs) (sym is)) in
      ap (λ rest. choices_answer rest name) place ∙ ap (λ m. match_or m (choice_answer name c)) none

settled : (cs : List Chosen) (name : List ℕ) (i : ℕ) → (choices_answer (drop i cs) name ≡ None → ⊥)
    → choices_answer cs name ≡ choices_answer (drop i cs) name
settled cs name zero some = refl
settled [] name (suc i) some = refl
settled (c ∷ cs) name (suc i) some =
    let later = settled cs name i some in
    or_settled (choices_answer cs name) (choice_answer name c) (λ e. some (sym later ∙ e)) ∙ later

-- a choice that has a match decides
pub decided : (cs : List Chosen) (name : List ℕ) (i : ℕ) (c : Chosen) → i < length cs → c ≡ get_or cs i c
    → choices_answer (drop (i + 1) cs) name ≡ None → (choice_answer name c ≡ None → ⊥) → choices_answer cs name ≡ choice_answer name c
decided cs name i c fits is none some =
    let here = at_choice cs name i c fits is none in
    settled cs name i (λ f. some (sym here ∙ f)) ∙ here

abbrev shifted : Option ℕ → Bool → Option ℕ
shifted later here = option_map_or (λ i. option.Some (suc i)) later (cond here (option.Some zero) option.None)

-- The law that the test of matching decides matching is handed in.
module _ (decides : (reading : Reading) (text : List ℕ) → Decides (does_match reading text) (Matches reading text)) where
  not_here : (name : List ℕ) (r : Reading) → (Matches r name → ⊥) → does_match r name ≡ false
  not_here name r never = false_from_ne_true _ (λ e. never ((decides r name).0 e))

  none_last : (name : List ℕ) (rs : List Reading) → All (λ m. Applies name false m → ⊥) (map name_member rs)
      → last_place name rs ≡ option.None
  none_last name [] h = refl
  none_last name (r ∷ rs) h =
      ap (λ o. shifted o (does_match r name)) (none_last name rs (λ k d l. h (suc k) d (omega (arith, l))))
      ∙ ap (λ b. shifted option.None b) (not_here name r (λ m. h zero (name_member r) (omega arith) (inl refl, m)))

  -- the last match of the globs of a choice
  pub last_found : (name : List ℕ) (rs : List Reading) (found : Option ℕ) → IsLastMatch name false (map name_member rs) found
      → found ≡ last_place name rs
  last_found name rs option.None none = sym (none_last name rs none)
  last_found name [] (option.Some i) (m, here, applies, later) = cc
  last_found name (r ∷ rs) (option.Some zero) (m, here, applies, later) =
      let same : m ≡ name_member r = some_one _ _ (sym here) in
      let matches : Matches r name = subst (λ (x : Member). Matches x.reading name) same applies.1 in
      sym (ap (λ o. shifted o (does_match r name)) (none_last name rs later)
      ∙ ap (λ b. shifted option.None b) ((decides r name).1 matches))
  last_found name (r ∷ rs) (option.Some (suc i)) (m, here, applies, later) =
      let next : suc i + 1 ≡ suc (i + 1) = omega arith in
      let rest = subst (λ n. All (λ (k : Member). Applies name false k → ⊥) (drop n (map name_member (r ∷ rs)))) next later in
      ap (λ o. shifted o (does_match r name)) (last_found name rs (option.Some i) (m, here, applies, rest))

  -- the last of the globs that matches the name, or none
  last_of_globs : (name : List ℕ) (rs : List Reading)
      → ((i : ℕ) × IsLastGlob name rs i × (last_place name rs ≡ option.Some i))
      ⊎ ((SomeMatches name rs → ⊥) × (last_place name rs ≡ option.None))
  last_of_globs name [] = inr ((λ h. absurd h), refl)
  last_of_globs name (r ∷ rs) = step (last_of_globs name rs) (does_match r name) refl
    where
      step : ((i : ℕ) × IsLastGlob name rs i × (last_place name rs ≡ option.Some i))
          ⊎ ((SomeMatches name rs → ⊥) × (last_place name rs ≡ option.None))
          → (here : Bool) → does_match r name ≡ here
          → ((i : ℕ) × IsLastGlob name (r ∷ rs) i × (last_place name (r ∷ rs) ≡ option.Some i))
          ⊎ ((SomeMatches name (r ∷ rs) → ⊥) × (last_place name (r ∷ rs) ≡ option.None))
      step (inl (i, h, e)) here f = inl (
        suc i,
        record {
          before = r ∷ h.before;
          reading = h.reading;
          after = h.after;
          split = ap (λ l. r ∷ l) h.split;
          there = ap suc h.there;
          matches = h.matches;
          later = h.later;
        },
        ap (λ o. shifted o (does_match r name)) e,
      )
      step (inr (none, e)) true f = inl (
        zero,
        record {
          before = [];
          reading = r;
          after = rs;
          split = refl;
          there = refl;
          matches = (decides r name).0 f;
          later = none;
        },
        ap (λ o. shifted o (does_match r name)) e ∙ ap (λ b. shifted option.None b) f,
      )
      step (inr (none, e)) false f = inr (
        not_from_Decides _ (Decides-or (does_match r name) false (decides r name) ((λ g. cc), (λ h. absurd (none h)))) (or_from _ _ f refl),
        ap (λ o. shifted o (does_match r name)) e ∙ ap (λ b. shifted option.None b) f,
      )

  -- the last choice that matches, or none
  last_of : (cs : List Chosen) (name : List ℕ)
      → ((c : Chosen) × (i : ℕ) × IsDeciding name cs c i × (choices_answer cs name ≡ match_by_glob c i))
      ⊎ (NoneMatches name cs × (choices_answer cs name ≡ None))
  last_of [] name = inr (tt, refl)
  last_of (c ∷ cs) name = step (last_of cs name) (last_of_globs name c.readings)
    where
      step : ((d : Chosen) × (i : ℕ) × IsDeciding name cs d i × (choices_answer cs name ≡ match_by_glob d i))
          ⊎ (NoneMatches name cs × (choices_answer cs name ≡ None))
          → ((i : ℕ) × IsLastGlob name c.readings i × (last_place name c.readings ≡ option.Some i))
          ⊎ ((SomeMatches name c.readings → ⊥) × (last_place name c.readings ≡ option.None))
          → ((d : Chosen) × (i : ℕ) × IsDeciding name (c ∷ cs) d i × (choices_answer (c ∷ cs) name ≡ match_by_glob d i))
          ⊎ (NoneMatches name (c ∷ cs) × (choices_answer (c ∷ cs) name ≡ None))
      step (inl (d, i, h, e)) here = inl (
        d,
        i,
        record { before = c ∷ h.before; after = h.after; split = ap (λ l. c ∷ l) h.split; last = h.last; later = h.later },
        ap (λ m. match_or m (choice_answer name c)) e ∙ verdict-or d i d.negated (choice_answer name c),
      )
      step (inr (none, e)) (inl (i, last, f)) = inl (
        c,
        i,
        record { before = []; after = cs; split = refl; last = last; later = none },
        ap (λ m. match_or m (choice_answer name c)) e ∙ ap (λ o. option_map_or (match_by_glob c) o None) f,
      )
      step (inr (none, e)) (inr (never, f)) = inr (
        (never, none),
        ap (λ m. match_or m (choice_answer name c)) e ∙ ap (λ o. option_map_or (match_by_glob c) o None) f,
      )

  pub answers_by_the_last_choice : AnswersByTheLastChoice
  answers_by_the_last_choice choices true name = refl
  answers_by_the_last_choice choices false option.None = refl
  answers_by_the_last_choice choices false (option.Some name) = go (last_of choices (chars name))
    where
      go : ((c : Chosen) × (i : ℕ) × IsDeciding (chars name) choices c i × (choices_answer choices (chars name) ≡ match_by_glob c i))
          ⊎ (NoneMatches (chars name) choices × (choices_answer choices (chars name) ≡ None))
          → IsNameAnswer choices (chars name) (match_or (choices_answer choices (chars name)) (unmatched choices))
      go (inl (c, i, h, e)) =
          inl (c, i, h, ap (λ m. match_or m (unmatched choices)) e ∙ verdict-or c i c.negated (unmatched choices))
      go (inr (none, e)) = inr (none, ap (λ m. match_or m (unmatched choices)) e)
