-- Paths a character at a time: a clean path is walked, and so is one that is reached.
use Rattle.std.proofs.Common.{◌≡◌, ◌≢◌, ℕ, Bool, true, false, List, [], ◌∷◌, ◌++◌, All, refl, sym, ap, subst, ◌∙◌, append_assoc, cond, eqb}
use Rattle.std.specs.Char.{IsScalar}
use Rattle.std.proofs.lemmas.List.{append-nil}
use Rattle.std.proofs.lemmas.List.Elements.{All-head, All-tail}
use Rattle.std.proofs.lemmas.Bool.Decides.{Decides-eqb}
use Rattle.ignore_base.specs.Text.{Chars, slash, is_slash}
use Rattle.ignore_rules.specs.Rules.{Rule}
use Rattle.ignore_every.specs.Questions.{IsNameCharacter, IsCleanName, path_of, IsClean, IsIgnored, HasNoIgnoredAncestor, IsAsked}
use Rattle.ignore_every.specs.Names.{after_dot, name_after}
use Rattle.ignore_every.specs.declared.place.NameStart.{NameStart}
use Rattle.ignore_every.specs.declared.place.NameStart.TheVariants.{Empty, Dot, Dots, Named}

-- The path goes on a character at a time, with how its present name begins. Where only reached paths
-- are asked about, a slash follows none that is ignored.
pub data Walked (reached : Bool) (rules : List Rule) : Chars → NameStart → Type 0 where
  at_root : Walked reached rules [] Empty
  by_character : (u : Chars) (n : NameStart) (c : ℕ) → Walked reached rules u n → IsScalar c → c ≢ 0 → is_slash c ≡ false
      → Walked reached rules (u ++ c ∷ []) (name_after n c)
  by_slash : (u : Chars) → Walked reached rules u Named → (reached ≡ true → IsIgnored rules u true → ⊥)
      → Walked reached rules (u ++ slash ∷ []) Empty

-- how a name begins that goes on with these characters
unfoldable pub name_of : NameStart → Chars → NameStart
name_of n [] = n
name_of n (c ∷ cs) = name_of (name_after n c) cs

no_slash : (c : ℕ) → c ≢ slash → is_slash c ≡ false
no_slash c ne = go (eqb c slash) refl
  where
    go : (b : Bool) → eqb c slash ≡ b → eqb c slash ≡ false
    go true e = absurd (ne ((Decides-eqb c slash).0 e))
    go false e = e

-- after a character that is no slash and, or no dot
after_other : (n : NameStart) (c : ℕ) → is_slash c ≡ false → eqb c 46 ≡ false → name_after n c ≡ Named
after_other n c s d = λ i. cond (s i) Empty (cond (d i) (after_dot n) Named)

after_a_dot : (n : NameStart) (c : ℕ) → is_slash c ≡ false → eqb c 46 ≡ true → name_after n c ≡ after_dot n
after_a_dot n c s d = λ i. cond (s i) Empty (cond (d i) (after_dot n) Named)

-- what is no dot, `.` or `..` stays a name
stays_named : (n : NameStart) (c : ℕ) → is_slash c ≡ false → after_dot n ≡ Named → name_after n c ≡ Named
stays_named n c s dot = go (eqb c 46) refl
  where
    go : (b : Bool) → eqb c 46 ≡ b → name_after n c ≡ Named
    go true e = after_a_dot n c s e ∙ dot
    go false e = after_other n c s e

slash_free : (c : ℕ) (cs : Chars) → All IsNameCharacter (c ∷ cs) → is_slash c ≡ false
slash_free c cs all = no_slash c (All-head IsNameCharacter c cs all).1

named_on : (cs : Chars) → All IsNameCharacter cs → name_of Named cs ≡ Named
unfolding name_of
named_on [] all = refl
named_on (c ∷ cs) all =
    ap (λ n. name_of n cs) (stays_named Named c (slash_free c cs all) refl) ∙ named_on cs (All-tail IsNameCharacter c cs all)

dots_on : (cs : Chars) → All IsNameCharacter cs → cs ≢ [] → name_of Dots cs ≡ Named
unfolding name_of
dots_on [] all ne = absurd (ne refl)
dots_on (c ∷ cs) all ne =
    ap (λ n. name_of n cs) (stays_named Dots c (slash_free c cs all) refl) ∙ named_on cs (All-tail IsNameCharacter c cs all)

dot_on : (cs : Chars) → All IsNameCharacter cs → cs ≢ [] → cs ≢ 46 ∷ [] → name_of Dot cs ≡ Named
unfolding name_of
dot_on [] all ne one = absurd (ne refl)
dot_on (c ∷ cs) all ne one = go (eqb c 46) refl
  where
    tail : All IsNameCharacter cs
    tail = All-tail IsNameCharacter c cs all

    go : (b : Bool) → eqb c 46 ≡ b → name_of (name_after Dot c) cs ≡ Named
    go true e =
        let same : c ≡ 46 = (Decides-eqb c 46).0 e in
        ap (λ n. name_of n cs) (after_a_dot Dot c (slash_free c cs all) e) ∙ dots_on cs tail (λ none. one (cc (same, none)))
    go false e = ap (λ n. name_of n cs) (after_other Dot c (slash_free c cs all) e) ∙ named_on cs tail

clean_named : (name : Chars) → IsCleanName name → name_of Empty name ≡ Named
unfolding name_of
clean_named [] h = absurd (h.filled refl)
clean_named (c ∷ cs) h = go (eqb c 46) refl
  where
    tail : All IsNameCharacter cs
    tail = All-tail IsNameCharacter c cs h.characters

    go : (b : Bool) → eqb c 46 ≡ b → name_of (name_after Empty c) cs ≡ Named
    go true e =
        let same : c ≡ 46 = (Decides-eqb c 46).0 e in
        ap (λ n. name_of n cs) (after_a_dot Empty c (slash_free c cs h.characters) e)
        ∙ dot_on cs tail (λ none. h.no_dot (cc (same, none))) (λ one. h.no_dots (cc (same, one)))
    go false e = ap (λ n. name_of n cs) (after_other Empty c (slash_free c cs h.characters) e) ∙ named_on cs tail

module _ (reached : Bool) (rules : List Rule) where
  characters_walked : (cs u : Chars) (n : NameStart) → Walked reached rules u n → All IsNameCharacter cs
      → Walked reached rules (u ++ cs) (name_of n cs)
  unfolding name_of
  characters_walked [] u n w all = subst (λ p. Walked reached rules p n) (sym (append-nil u)) w
  characters_walked (c ∷ cs) u n w all =
      let is = All-head IsNameCharacter c cs all in
      let step = by_character u n c w is.0 is.2 (no_slash c is.1) in
      subst (λ p. Walked reached rules p (name_of (name_after n c) cs)) (append_assoc u (c ∷ []) cs)
      (characters_walked cs (u ++ c ∷ []) (name_after n c) step (All-tail IsNameCharacter c cs all))

  name_walked : (u name : Chars) → Walked reached rules u Empty → IsCleanName name → Walked reached rules (u ++ name) Named
  name_walked u name w clean =
      subst (λ n. Walked reached rules (u ++ name) n) (clean_named name clean) (characters_walked name u Empty w clean.characters)

  names_walked : (others : List Chars) (first u path : Chars) → Walked reached rules u Empty → IsCleanName first → All IsCleanName others
      → path ≡ u ++ path_of first others → (reached ≡ true → HasNoIgnoredAncestor rules path) → Walked reached rules path Named
  names_walked [] first u path w clean all is free = subst (λ p. Walked reached rules p Named) (sym is) (name_walked u first w clean)
  names_walked (next ∷ others) first u path w clean all is free =
      let more = path_of next others in
      let dir = u ++ first in
      let cut : path ≡ dir ++ slash ∷ more = is ∙ sym (append_assoc u first (slash ∷ more)) in
      let inside = by_slash dir (name_walked u first w clean) (λ asks ignored. free asks dir more cut ignored) in
      names_walked others next (dir ++ slash ∷ []) path inside (All-head IsCleanName next others all)
      (All-tail IsCleanName next others all) (cut ∙ sym (append_assoc dir (slash ∷ []) more)) free

  clean_walked : (path : Chars) → IsClean path → (reached ≡ true → HasNoIgnoredAncestor rules path) → Walked reached rules path Named
  clean_walked path clean free = names_walked clean.others clean.first [] path at_root clean.clean_first clean.clean_others clean.joined free

-- what is asked about is walked
pub asked_walked : (reached : Bool) (rules : List Rule) (path : Chars) → IsAsked reached rules path → Walked reached rules path Named
asked_walked false rules path asked = clean_walked false rules path asked (λ wrong. absurd (cc wrong))
asked_walked true rules path asked = clean_walked true rules path asked.0 (λ asks. asked.1)
