-- The test of matching decides matching.
use Rattle.std.proofs.Common.{◌≡◌, ◌⊎◌, ℕ, Bool, true, false, not, eqb, ◌&&◌, ◌||◌, List, [], ◌∷◌, ◌++◌, All, Decides, refl, sym, ap, subst}
use Rattle.std.proofs.Common.{inl, inr}
use Rattle.std.specs.List.{list_all}
use Rattle.std.proofs.lemmas.Bool.{false≢true}
use Rattle.std.proofs.lemmas.Bool.Decides.{Decides-eqb, Decides-or, Decides-and, Decides-not, Decides-like, Decides-by_and}
use Rattle.ignore_glob.specs.Glob.{Token, literal, any, star, start, middle, end, class, alternates, Tokens, done, then, Branches}
use Rattle.ignore_glob.specs.Glob.{no_branch, branch}
use Rattle.ignore_glob.specs.Matches.{slash, other_case, is_listed, IsCaseOf, IsMember, BeginsWithSlash, EndsWithSlash, token_matches}
use Rattle.ignore_glob.specs.Matches.{tokens_match, branch_matches}
use Rattle.ignore_glob.specs.Reading.{Reading, Matches}
use Rattle.ignore_glob.specs.DoesMatch.{some_split, is_one, is_empty, begins_with_slash, is_last_slash, is_case_of, is_member}
use Rattle.ignore_glob.specs.DoesMatch.{has_no_branch, does_token_match, do_tokens_match, does_branch_match, is_lone_start, does_match}

never : {P : Type 0} → (P → ⊥) → Decides false P
never wrong = (λ e. absurd (false≢true e), λ h. absurd (wrong h))

always : {P : Type 0} → P → Decides true P
always h = (λ _. h, λ _. refl)

Decides-is_empty : (w : List ℕ) → Decides (is_empty w) (w ≡ [])
Decides-is_empty [] = always refl
Decides-is_empty (c ∷ cs) = never (λ e. cc)

Decides-is_one : (p : ℕ → Bool) (P : ℕ → Type 0) → ((c : ℕ) → Decides (p c) (P c)) → (w : List ℕ)
    → Decides (is_one p w) ((d : ℕ) × (w ≡ d ∷ []) × P d)
Decides-is_one p P each [] = never (λ h. let e = h.1 in cc)
Decides-is_one p P each (c ∷ []) =
    Decides-like (p c) (λ h. (c, refl, h)) (λ h. let e = h.1 in let same : h.0 ≡ c = cc in subst P same h.2) (each c)
Decides-is_one p P each (c ∷ (d ∷ ds)) = never (λ h. let e = h.1 in cc)

-- the cuts of a text, one character further
cut_back : (c : ℕ) (cs a b : List ℕ) → c ∷ cs ≡ a ++ b → ((a ≡ []) × (c ∷ cs ≡ b)) ⊎ ((m : List ℕ) × (a ≡ c ∷ m) × (cs ≡ m ++ b))
cut_back c cs [] b e = inl (refl, e)
cut_back c cs (d ∷ ds) b e = inr (ds, cc, cc)

no_cut : (a b : List ℕ) → [] ≡ a ++ b → (a ≡ []) × (b ≡ [])
no_cut [] b e = (refl, sym e)
no_cut (c ∷ cs) b e = absurd cc

Decides-some_split : (p : List ℕ → List ℕ → Bool) (P : List ℕ → List ℕ → Type 0) → ((a b : List ℕ) → Decides (p a b) (P a b)) → (w : List ℕ)
    → Decides (some_split p w) ((a b : List ℕ) × (w ≡ a ++ b) × P a b)
Decides-some_split p P each [] =
    Decides-like (p [] []) (λ h. ([], [], refl, h))
    (λ h. let e = no_cut h.0 h.1 h.2 in subst (λ b. P [] b) e.1 (subst (λ a. P a h.1) e.0 h.3)) (each [] [])
Decides-some_split p P each (c ∷ cs) =
    Decides-like (p [] (c ∷ cs) || some_split (λ a b. p (c ∷ a) b) cs)
    (λ h. elim h [ inl now ↦ ([], c ∷ cs, refl, now) | inr later ↦ (c ∷ later.0, later.1, ap (λ l. c ∷ l) later.2, later.3) ])
    (λ h. elim (cut_back c cs h.0 h.1 h.2) [
      | inl now ↦ inl (subst (λ b. P [] b) (sym now.1) (subst (λ a. P a h.1) now.0 h.3))
      | inr later ↦ inr (later.0, h.1, later.2, subst (λ a. P a h.1) later.1 h.3)
    ])
    (Decides-or (p [] (c ∷ cs)) (some_split (λ a b. p (c ∷ a) b) cs) (each [] (c ∷ cs))
    (Decides-some_split (λ a b. p (c ∷ a) b) (λ a b. P (c ∷ a) b) (λ a b. each (c ∷ a) b) cs))

Decides-has_prefix : (w : List ℕ) → Decides (begins_with_slash w) (BeginsWithSlash w)
Decides-has_prefix [] = never (λ h. let e = h.1 in cc)
Decides-has_prefix (c ∷ cs) =
    Decides-like (eqb c slash) (λ e. (cs, ap (λ d. d ∷ cs) e)) (λ h. let e = h.1 in cc) (Decides-eqb c slash)

end_back : (c : ℕ) (cs a : List ℕ) → c ∷ cs ≡ a ++ slash ∷ [] → ((cs ≡ []) × (c ≡ slash)) ⊎ EndsWithSlash cs
end_back c cs [] e = inl (cc, cc)
end_back c cs (d ∷ ds) e = inr (ds, cc)

Decides-ends : (w : List ℕ) → Decides (is_last_slash w) (EndsWithSlash w)
Decides-ends [] = never (λ h. let e = no_cut h.0 (slash ∷ []) h.1 in let f = e.1 in cc)
Decides-ends (c ∷ cs) =
    Decides-like ((is_empty cs && eqb c slash) || is_last_slash cs)
    (λ h. elim h [ inl last ↦ ([], cc (last.0, last.1)) | inr later ↦ (c ∷ later.0, ap (λ l. c ∷ l) later.1) ])
    (λ h. end_back c cs h.0 h.1)
    (Decides-or (is_empty cs && eqb c slash) (is_last_slash cs)
    (Decides-and (is_empty cs) (eqb c slash) (Decides-is_empty cs) (Decides-eqb c slash)) (Decides-ends cs))

Decides-is_case_of : (fold : Bool) (c d : ℕ) → Decides (is_case_of fold c d) (IsCaseOf fold c d)
Decides-is_case_of false c d = Decides-eqb d c
Decides-is_case_of true c d = Decides-or (eqb d c) (eqb d (other_case c)) (Decides-eqb d c) (Decides-eqb d (other_case c))

itself : (b : Bool) → Decides b (b ≡ true)
itself b = (λ e. e, λ e. e)

Decides-is_member : (fold negated : Bool) (ranges : List (ℕ × ℕ)) (c : ℕ)
    → Decides (is_member fold negated ranges c) (IsMember fold negated ranges c)
Decides-is_member fold false ranges c = itself (is_listed fold ranges c)
Decides-is_member fold true ranges c = Decides-not (is_listed fold ranges c) (itself (is_listed fold ranges c))

Decides-no_branch : (bs : Branches) → Decides (has_no_branch bs) (bs ≡ no_branch)
Decides-no_branch no_branch = always refl
Decides-no_branch (branch ts bs) = never (λ e. cc)

not_slash : (d : ℕ) → Decides (not (eqb d slash)) (d ≡ slash → ⊥)
not_slash d = Decides-not (eqb d slash) (Decides-eqb d slash)

no_slash : (w : List ℕ) → Decides (list_all (λ d. not (eqb d slash)) w) (All (λ d. d ≡ slash → ⊥) w)
no_slash w = Decides-by_and (λ d. not (eqb d slash)) (λ d. d ≡ slash → ⊥) (list_all (λ d. not (eqb d slash))) not_slash refl (λ _ _. refl) w

mutual
  pub token_decided : (fold : Bool) (t : Token) (w : List ℕ) → Decides (does_token_match fold t w) (token_matches fold t w)
  token_decided fold (literal c) w = Decides-is_one (is_case_of fold c) (IsCaseOf fold c) (Decides-is_case_of fold c) w
  token_decided fold any w = Decides-is_one (λ d. not (eqb d slash)) (λ d. d ≡ slash → ⊥) not_slash w
  token_decided fold star w = no_slash w
  token_decided fold start w = Decides-or (is_empty w) (is_last_slash w) (Decides-is_empty w) (Decides-ends w)
  token_decided fold middle w = Decides-and (begins_with_slash w) (is_last_slash w) (Decides-has_prefix w) (Decides-ends w)
  token_decided fold end w = Decides-has_prefix w
  token_decided fold (class negated ranges) w =
      Decides-is_one (is_member fold negated ranges) (IsMember fold negated ranges) (Decides-is_member fold negated ranges) w
  token_decided fold (alternates bs) w =
      Decides-or (has_no_branch bs && is_empty w) (does_branch_match fold bs w)
      (Decides-and (has_no_branch bs) (is_empty w) (Decides-no_branch bs) (Decides-is_empty w)) (branch_decided fold bs w)

  pub tokens_decided : (fold : Bool) (ts : Tokens) (w : List ℕ) → Decides (do_tokens_match fold ts w) (tokens_match fold ts w)
  tokens_decided fold done w = Decides-is_empty w
  tokens_decided fold (then t ts) w =
      Decides-like (some_split (λ a b. does_token_match fold t a && do_tokens_match fold ts b) w)
      (λ h. (h.0, h.1, h.2, h.3.0, h.3.1)) (λ h. (h.0, h.1, h.2, (h.3, h.4)))
      (Decides-some_split (λ a b. does_token_match fold t a && do_tokens_match fold ts b)
      (λ a b. token_matches fold t a × tokens_match fold ts b)
      (λ a b. Decides-and (does_token_match fold t a) (do_tokens_match fold ts b) (token_decided fold t a)
      (tokens_decided fold ts b)) w)

  pub branch_decided : (fold : Bool) (bs : Branches) (w : List ℕ) → Decides (does_branch_match fold bs w) (branch_matches fold bs w)
  branch_decided fold no_branch w = never (λ h. h)
  branch_decided fold (branch ts bs) w =
      Decides-or (do_tokens_match fold ts w) (does_branch_match fold bs w) (tokens_decided fold ts w) (branch_decided fold bs w)

Decides-lone : (ts : Tokens) → Decides (is_lone_start ts) (ts ≡ then start done)
Decides-lone done = never (λ e. cc)
Decides-lone (then (literal c) ts) = never (λ e. cc)
Decides-lone (then any ts) = never (λ e. cc)
Decides-lone (then star ts) = never (λ e. cc)
Decides-lone (then start done) = always refl
Decides-lone (then start (then u us)) = never (λ e. cc)
Decides-lone (then middle ts) = never (λ e. cc)
Decides-lone (then end ts) = never (λ e. cc)
Decides-lone (then (class negated ranges) ts) = never (λ e. cc)
Decides-lone (then (alternates bs) ts) = never (λ e. cc)

pub matching_decided : (reading : Reading) (w : List ℕ) → Decides (does_match reading w) (Matches reading w)
unfolding does_match
matching_decided reading w =
    Decides-or (is_lone_start reading.tokens) (do_tokens_match reading.case_insensitive reading.tokens w) (Decides-lone reading.tokens)
    (tokens_decided reading.case_insensitive reading.tokens w)
