-- A path has one answer of a list of rules.
use Rattle.std.proofs.Common.{◌≡◌, ℕ, Bool, true, false, List, [], ◌∷◌, ◌++◌, All, refl, sym, ap, ◌∙◌, subst}
use Rattle.std.proofs.lemmas.Bool.{false≢true}
use Rattle.std.proofs.lemmas.List.Elements.{All-head, All-tail}
use Rattle.ignore_base.specs.declared.match_result.Match.{Match}
use Rattle.ignore_base.specs.declared.match_result.Match.TheVariants.{None, Ignore, Whitelist}
use Rattle.ignore_rules.specs.Rules.{Rule}
use Rattle.ignore_rules.specs.Answer.{Applies, IsLast, IsAnswer}

-- none of these rules applies
abbrev NoneApplies : List ℕ → Bool → List Rule → Type 0
NoneApplies text is_dir rules = All (λ rule. Applies text is_dir rule → ⊥) rules

none_at : (text : List ℕ) (is_dir : Bool) (before : List Rule) (c : Rule) (after : List Rule)
    → NoneApplies text is_dir (before ++ c ∷ after) → Applies text is_dir c → ⊥
none_at text is_dir [] c after none applies = All-head (λ rule. Applies text is_dir rule → ⊥) c after none applies
none_at text is_dir (b ∷ before) c after none applies =
    none_at text is_dir before c after (All-tail (λ rule. Applies text is_dir rule → ⊥) b (before ++ c ∷ after) none) applies

one_rule : (text : List ℕ) (is_dir : Bool) (before front : List Rule) (c d : Rule) (after rest : List Rule)
    → before ++ c ∷ after ≡ front ++ d ∷ rest → Applies text is_dir c → NoneApplies text is_dir after → Applies text is_dir d
    → NoneApplies text is_dir rest → c ≡ d
one_rule text is_dir [] [] c d after rest e applies none other later = let same : c ≡ d = cc e in same
one_rule text is_dir [] (x ∷ front) c d after rest e applies none other later =
    let left : after ≡ front ++ d ∷ rest = cc e in
    absurd (none_at text is_dir front d rest (subst (NoneApplies text is_dir) left none) other)
one_rule text is_dir (b ∷ before) [] c d after rest e applies none other later =
    let left : before ++ c ∷ after ≡ rest = cc e in
    absurd (none_at text is_dir before c after (subst (NoneApplies text is_dir) (sym left) later) applies)
one_rule text is_dir (b ∷ before) (x ∷ front) c d after rest e applies none other later =
    let left : before ++ c ∷ after ≡ front ++ d ∷ rest = cc e in
    one_rule text is_dir before front c d after rest left applies none other later

-- a list has one last rule that applies
IsLast-one : (rules : List Rule) (text : List ℕ) (is_dir : Bool) (c d : Rule) → IsLast rules text is_dir c → IsLast rules text is_dir d
    → c ≡ d
IsLast-one rules text is_dir c d h k =
    one_rule text is_dir h.before k.before c d h.after k.after (sym h.place ∙ k.place) h.applies h.last k.applies k.last

-- no rule is the last that applies where none applies
IsLast-never : (rules : List Rule) (text : List ℕ) (is_dir : Bool) (c : Rule) → IsLast rules text is_dir c
    → NoneApplies text is_dir rules → ⊥
IsLast-never rules text is_dir c h none =
    none_at text is_dir h.before c h.after (subst (NoneApplies text is_dir) h.place none) h.applies

two_flags : (c d : Rule) → c ≡ d → c.is_whitelist ≡ false → d.is_whitelist ≡ true → ⊥
two_flags c d same h k = false≢true (sym h ∙ (ap (λ (rule : Rule). rule.is_whitelist) same ∙ k))

-- a path has one answer
IsAnswer-one : (rules : List Rule) (text : List ℕ) (is_dir : Bool) (m k : Match Rule) → IsAnswer rules text is_dir m
    → IsAnswer rules text is_dir k → m ≡ k
IsAnswer-one rules text is_dir None None h j = refl
IsAnswer-one rules text is_dir None (Ignore d) h j = absurd (IsLast-never rules text is_dir d j.0 h)
IsAnswer-one rules text is_dir None (Whitelist d) h j = absurd (IsLast-never rules text is_dir d j.0 h)
IsAnswer-one rules text is_dir (Ignore c) None h j = absurd (IsLast-never rules text is_dir c h.0 j)
IsAnswer-one rules text is_dir (Ignore c) (Ignore d) h j = ap (λ (x : Rule). Ignore x) (IsLast-one rules text is_dir c d h.0 j.0)
IsAnswer-one rules text is_dir (Ignore c) (Whitelist d) h j =
    absurd (two_flags c d (IsLast-one rules text is_dir c d h.0 j.0) h.1 j.1)
IsAnswer-one rules text is_dir (Whitelist c) None h j = absurd (IsLast-never rules text is_dir c h.0 j)
IsAnswer-one rules text is_dir (Whitelist c) (Ignore d) h j =
    absurd (two_flags d c (IsLast-one rules text is_dir d c j.0 h.0) j.1 h.1)
IsAnswer-one rules text is_dir (Whitelist c) (Whitelist d) h j =
    ap (λ (x : Rule). Whitelist x) (IsLast-one rules text is_dir c d h.0 j.0)
