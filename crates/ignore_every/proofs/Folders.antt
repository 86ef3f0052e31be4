-- The first folder on the way to a path that rules ignore.
use Rattle.std.proofs.Common.{◌≡◌, ◌⊎◌, ◌++◌, ◌∷◌, ℕ, Bool, List, [], None, Option, Some, true, inl, inr, length, refl, slice_get, subst, sym, ap}
use Rattle.std.proofs.lemmas.Option.{slice_get_within}
use Rattle.ignore_base.specs.Text.{Chars, slash}
use Rattle.ignore_rules.specs.Rules.{Rule}
use Rattle.ignore_every.specs.Machines.{IsLastOf}
use Rattle.ignore_every.specs.Questions.{Decides, HasNoIgnoredAncestor, IsIgnored}
use Rattle.ignore_every.proofs.Deciders.{slice_is_there}

-- no text is nothing
no_more : (above below : Chars) → [] ≡ above ++ slash ∷ below → ⊥
no_more [] below e = cc e
no_more (a ∷ above) below e = cc e

-- what stands before a slash of a text with one character more: the text, or what stands before one of its own
cut : (folder above below : Chars) (c : ℕ) → folder ++ c ∷ [] ≡ above ++ slash ∷ below
    → ((folder ≡ above) × (c ≡ slash)) ⊎ ((rest : Chars) × (folder ≡ above ++ slash ∷ rest))
cut [] [] below c e = inl (refl, cc e)
cut [] (a ∷ above) below c e = absurd (no_more above below (cc e))
cut (x ∷ folder) [] below c e =
    let is : x ≡ slash = cc e in inr (folder, ap (λ y. y ∷ folder) is)
cut (x ∷ folder) (a ∷ above) below c e =
    let first : x ≡ a = cc e in
    elim (cut folder above below c (cc e)) [
      | inl h ↦ inl (cc (first, h.0), h.1)
      | inr h ↦ inr (h.0, cc (first, h.1))
    ]

-- a folder of one character more is reached, unless the folder before its last slash is ignored
pub reached_on : (rules : List Rule) (folder : Chars) (c : ℕ) → HasNoIgnoredAncestor rules folder → (c ≡ slash → IsIgnored rules folder true → ⊥)
    → HasNoIgnoredAncestor rules (folder ++ c ∷ [])
reached_on rules folder c reached free above below is ignored =
    elim (cut folder above below c is) [
      | inl h ↦ free h.1 (subst (λ t. IsIgnored rules t true) (sym h.0) ignored)
      | inr h ↦ reached above h.0 h.1 ignored
    ]

pub reached_first : (rules : List Rule) → HasNoIgnoredAncestor rules []
reached_first rules above below is ignored = no_more above below is

-- the last rule that applies decides
pub last_decides : (rules : List Rule) (path : Chars) (is_dir : Bool) (k : ℕ) → IsLastOf rules 0 (length rules) path is_dir (Some k)
    → Decides rules k path is_dir
last_decides rules path is_dir k last = go (slice_get rules k) refl
  where
    go : (o : Option Rule) → slice_get rules k ≡ o → Decides rules k path is_dir
    go None at = absurd (slice_is_there rules k last.1 at)
    go (Some rule) at = record {
      rule = rule;
      place = at;
      applies = last.2 rule at;
      last = λ i later less is. last.3 i later less (slice_get_within rules i later is) is;
    }
