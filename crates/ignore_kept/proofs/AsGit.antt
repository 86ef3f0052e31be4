-- The directories that a path is in, one by one, as a pass over its bytes comes to them.
use Rattle.std.proofs.Common.{◌≡◌, ◌∙◌, ◌++◌, ◌+◌, ◌<◌, ℕ, Bool, true, false, List, [], ◌∷◌, map, filter, length, take, drop, get_or, refl, sym, ap, arith}
use Rattle.std.proofs.lemmas.Bool.{eqb-true}
use Rattle.std.proofs.lemmas.List.{append_assoc, append-nil, drop_more, length-take-le, take_more}
use Rattle.std.specs.Str.{chars}
use Rattle.ignore_base.specs.Match.{is_ignore, match_map}
use Rattle.ignore_base.specs.Text.{Path, is_slash}
use Rattle.ignore_base.specs.declared.match_result.Match.{Match}
use Rattle.ignore_base.specs.declared.match_result.Match.TheVariants.{None, Ignore, Whitelist}
use Rattle.ignore_rules.specs.Answer.{list_answer}
use Rattle.ignore_rules.specs.Parents.{slash_prefixes}
use Rattle.ignore_rules.specs.Rules.{Rule}
use Rattle.ignore_kept.specs.AsGit.{first_ignored, folders, ignore_or, is_named}

-- the first ignored directory of those that come in the rest of a path, after its front
abbrev pub ahead : List Rule → Path → Path → Match Rule
ahead rules front rest = first_ignored rules (filter is_named (map (λ p. front ++ p) (slash_prefixes rest)))

-- a byte more in front
shifted : (front : Path) (c : ℕ) (ps : List Path)
    → map (λ p. front ++ p) (map (λ p. c ∷ p) ps) ≡ map (λ p. (front ++ c ∷ []) ++ p) ps
shifted front c [] = refl
shifted front c (p ∷ ps) =
    ap (λ (q : Path). q ∷ map (λ p. front ++ p) (map (λ p. c ∷ p) ps)) (sym (append_assoc front (c ∷ []) p))
    ∙ ap (λ (qs : List Path). ((front ++ c ∷ []) ++ p) ∷ qs) (shifted front c ps)

unmoved : (ps : List Path) → map (λ p. [] ++ p) ps ≡ ps
unmoved [] = refl
unmoved (p ∷ ps) = ap (λ (qs : List Path). p ∷ qs) (unmoved ps)

-- at first all of them come
pub all_ahead : (rules : List Rule) (path : Path) → first_ignored rules (folders path) ≡ ahead rules [] path
all_ahead rules path = ap (λ (ps : List Path). first_ignored rules (filter is_named ps)) (sym (unmoved (slash_prefixes path)))

-- after a byte that is no slash the same come
past_name : (rules : List Rule) (front : Path) (c : ℕ) (rest : Path) → is_slash c ≡ false
    → ahead rules front (c ∷ rest) ≡ ahead rules (front ++ c ∷ []) rest
past_name rules front c rest other =
    rw other (ap (λ (ps : List Path). first_ignored rules (filter is_named ps)) (shifted front c (slash_prefixes rest)))

-- after a slash that the path begins with, too
past_start : (rules : List Rule) (c : ℕ) (rest : Path) → is_slash c ≡ true
    → ahead rules [] (c ∷ rest) ≡ ahead rules (c ∷ []) rest
past_start rules c rest slash =
    rw slash (ap (λ (ps : List Path). first_ignored rules (filter is_named ps)) (shifted [] c (slash_prefixes rest)))

-- and after another one all but the directory before it
past_folder : (rules : List Rule) (d : ℕ) (front : Path) (c : ℕ) (rest : Path) → is_slash c ≡ true
    → ahead rules (d ∷ front) (c ∷ rest)
    ≡ ignore_or (list_answer rules (chars (d ∷ front)) true) (ahead rules (d ∷ (front ++ c ∷ [])) rest)
past_folder rules d front c rest slash =
    rw (slash, append-nil front)
    (ap (λ (ps : List Path). ignore_or (list_answer rules (chars (d ∷ front)) true) (first_ignored rules (filter is_named ps)))
    (shifted (d ∷ front) c (slash_prefixes rest)))

skipped : (m other : Match Rule) → is_ignore m ≡ false → ignore_or m other ≡ other
skipped None other h = refl
skipped (Whitelist rule) other h = refl
skipped (Ignore rule) other h = absurd (cc h)

past : (rules : List Rule) (front : Path) (c : ℕ) (rest : Path) (is : Bool) → is_slash c ≡ is
    → (is ≡ true → 0 < length front → is_ignore (list_answer rules (chars front) true) ≡ false)
    → ahead rules front (c ∷ rest) ≡ ahead rules (front ++ c ∷ []) rest
past rules front c rest false e h = past_name rules front c rest e
past rules [] c rest true e h = past_start rules c rest e
past rules (d ∷ front) c rest true e h =
    past_folder rules d front c rest e
    ∙ skipped (list_answer rules (chars (d ∷ front)) true) (ahead rules (d ∷ (front ++ c ∷ [])) rest) (h refl (omega arith))

-- a byte further: the same come, unless it is a slash after a directory that is ignored
pub further : (rules : List Rule) (path : Path) (i : ℕ) → i < length path
    → (get_or path i 0 ≡ 47 → 0 < i → is_ignore (list_answer rules (chars (take i path)) true) ≡ false)
    → ahead rules (take i path) (drop i path) ≡ ahead rules (take (i + 1) path) (drop (i + 1) path)
further rules path i inside h =
    let c = get_or path i 0 in
    let long : length (take i path) ≡ i = length-take-le i path (omega (arith, inside)) in
    ap (ahead rules (take i path)) (drop_more path i 0 inside)
    ∙ past rules (take i path) c (drop (i + 1) path) (is_slash c) refl (λ slash some. h (eqb-true c 47 slash) (omega (arith, some, long)))
    ∙ ap (λ (front : Path). ahead rules front (drop (i + 1) path)) (sym (take_more path i 0 inside))

-- what is asked of references is asked of what they point to
pub is_ignore-map : {T U : Type 0} (f : T → U) (m : Match T) → is_ignore (match_map f m) ≡ is_ignore m
is_ignore-map f None = refl
is_ignore-map f (Ignore x) = refl
is_ignore-map f (Whitelist x) = refl
