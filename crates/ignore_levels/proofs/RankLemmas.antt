-- Lists asked one at a time, from the front and from the back.
use Rattle.std.proofs.Common.{◌≡◌, ℕ, zero, suc, ◌+◌, ◌<◌, Bool, true, false, List, [], ◌∷◌, ◌++◌, length, get_or, drop}
use Rattle.std.proofs.Common.{Bor, map, reverse, refl, sym, ap, ◌∙◌, add-one}
use Rattle.std.proofs.Math.Seq.{drop-cons}
use Rattle.std.proofs.lemmas.List.{map-append, reverse-append}
use Rattle.ignore_base.specs.Match.{match_or, match_map, is_none}
use Rattle.ignore_base.specs.declared.match_result.Match.{Match}
use Rattle.ignore_base.specs.declared.match_result.Match.TheVariants.{None, Ignore, Whitelist}
use Rattle.ignore_rules.specs.Parents.{first_match}
use Rattle.ignore_rules.specs.Rules.{Rule, Ruleset}
use Rattle.ignore_dir.specs.Ranks.{explicit_answer, rules_answer}
use Rattle.ignore_levels.specs.Sites.{Site, sited}

pub front_of : {A : Type 0} (xs : List A) (i : ℕ) (x : A) → i < length xs → x ≡ get_or xs i x → drop i xs ≡ x ∷ drop (i + 1) xs
front_of xs i x lt is = rw add-one (drop-cons xs i x lt ∙ ap (λ y. y ∷ drop (suc i) xs) (sym is))

match_or-assoc : {U : Type 0} (a b c : Match U) → match_or (match_or a b) c ≡ match_or a (match_or b c)
match_or-assoc None b c = refl
match_or-assoc (Ignore x) b c = refl
match_or-assoc (Whitelist x) b c = refl

pub match_or-none : {U : Type 0} (a : Match U) → match_or a None ≡ a
match_or-none None = refl
match_or-none (Ignore x) = refl
match_or-none (Whitelist x) = refl

first_match-append : (ms ns : List (Match Rule)) → first_match (ms ++ ns) ≡ match_or (first_match ms) (first_match ns)
first_match-append [] ns = refl
first_match-append (m ∷ ms) ns = ap (match_or m) (first_match-append ms ns) ∙ sym (match_or-assoc m (first_match ms) (first_match ns))

-- the file before others is asked after them
explicit-front : (g : Ruleset) (gs : List Ruleset) (path : List ℕ) (is_dir : Bool)
    → explicit_answer (g ∷ gs) path is_dir ≡ match_or (explicit_answer gs path is_dir) (rules_answer path is_dir g)
explicit-front g gs path is_dir =
    ap (λ (l : List Ruleset). first_match (map (rules_answer path is_dir) l)) (reverse-append (g ∷ []) gs)
    ∙ (ap first_match (map-append (rules_answer path is_dir) (reverse gs) (g ∷ []))
    ∙ (first_match-append (map (rules_answer path is_dir) (reverse gs)) (rules_answer path is_dir g ∷ [])
    ∙ ap (match_or (explicit_answer gs path is_dir)) (match_or-none (rules_answer path is_dir g))))

first_kept : (m other : Match Rule) → is_none m ≡ false → match_or m other ≡ m
first_kept None other e = cc
first_kept (Ignore x) other e = refl
first_kept (Whitelist x) other e = refl

-- files before others don't change an answer
explicit_kept : (gs : List Ruleset) (i : ℕ) (path : List ℕ) (is_dir : Bool) (m : Match Rule)
    → explicit_answer (drop i gs) path is_dir ≡ m → is_none m ≡ false → explicit_answer gs path is_dir ≡ m
explicit_kept [] zero path is_dir m e some = e
explicit_kept [] (suc i) path is_dir m e some = e
explicit_kept (g ∷ gs) zero path is_dir m e some = e
explicit_kept (g ∷ gs) (suc i) path is_dir m e some =
    explicit-front g gs path is_dir
    ∙ (ap (λ k. match_or k (rules_answer path is_dir g)) (explicit_kept gs i path is_dir m e some)
    ∙ first_kept m (rules_answer path is_dir g) some)

same_none : {T : Type 0} (f : T → Rule) (m : Match T) → is_none m ≡ false → is_none (match_map f m) ≡ false
same_none f None e = e
same_none f (Ignore x) e = refl
same_none f (Whitelist x) e = refl

explicit_next : (gs : List Ruleset) (i : ℕ) (g : Ruleset) (path : List ℕ) (is_dir : Bool) → i < length gs → g ≡ get_or gs i g
    → explicit_answer (drop (i + 1) gs) path is_dir ≡ None → explicit_answer (drop i gs) path is_dir ≡ rules_answer path is_dir g
explicit_next gs i g path is_dir lt is none =
    ap (λ (l : List Ruleset). explicit_answer l path is_dir) (front_of gs i g lt is)
    ∙ (explicit-front g (drop (i + 1) gs) path is_dir ∙ ap (λ m. match_or m (rules_answer path is_dir g)) none)

no_match : {T : Type 0} (f : T → Rule) (m : Match T) → is_none m ≡ true → match_map f m ≡ None
no_match f None e = refl
no_match f (Ignore x) e = cc
no_match f (Whitelist x) e = cc

-- no match, of the rules at this place, where none after it has one
pub explicit_missed : {T : Type 0} (f : T → Rule) (gs : List Ruleset) (i : ℕ) (g : Ruleset) (path : List ℕ) (is_dir : Bool) (m : Match T)
    → i < length gs → g ≡ get_or gs i g → explicit_answer (drop (i + 1) gs) path is_dir ≡ None
    → match_map f m ≡ rules_answer path is_dir g → is_none m ≡ true → explicit_answer (drop i gs) path is_dir ≡ None
explicit_missed f gs i g path is_dir m lt is none e missed = explicit_next gs i g path is_dir lt is none ∙ (sym e ∙ no_match f m missed)

-- a match that was found, of the rules at this place, where none after it has one
pub explicit_found : {T : Type 0} (f : T → Rule) (gs : List Ruleset) (i : ℕ) (g : Ruleset) (path : List ℕ) (is_dir : Bool) (m : Match T)
    → i < length gs → g ≡ get_or gs i g → explicit_answer (drop (i + 1) gs) path is_dir ≡ None
    → match_map f m ≡ rules_answer path is_dir g → is_none m ≡ false → match_map f m ≡ explicit_answer gs path is_dir
explicit_found f gs i g path is_dir m lt is none e some =
    sym (explicit_kept gs i path is_dir (match_map f m) (explicit_next gs i g path is_dir lt is none ∙ sym e) (same_none f m some))

-- a match decides over what comes after it
pub decides : {T U : Type 0} (f : T → U) (a : Match T) (first rest : Match U) → match_map f a ≡ first → is_none a ≡ false
    → match_map f a ≡ match_or first rest
decides f None first rest is some = absurd (cc (some))
decides f (Ignore x) first rest is some = ap (λ m. match_or m rest) is
decides f (Whitelist x) first rest is some = ap (λ m. match_or m rest) is

-- no match leaves what comes after it
pub passes : {T U : Type 0} (f : T → U) (a : Match T) (first rest : Match U) → match_map f a ≡ first → is_none a ≡ true
    → match_or first rest ≡ rest
passes f None first rest is none = ap (λ m. match_or m rest) (sym is)
passes f (Ignore x) first rest is none = absurd (cc (none))
passes f (Whitelist x) first rest is none = absurd (cc (none))

-- no match of a list is no match
pub none_of : {T U : Type 0} (f : T → U) (a : Match T) (first : Match U) → match_map f a ≡ first → is_none a ≡ true → first ≡ None
none_of f None first is none = sym is
none_of f (Ignore x) first is none = absurd (cc (none))
none_of f (Whitelist x) first is none = absurd (cc (none))

-- the answer of rules with a site
pub at_site : (site : Site) (a : Match (Bor Rule)) (answer : Match Rule) → match_map (λ (g : Bor Rule). g.now) a ≡ answer
    → match_map (λ (g : Bor Rule). sited site g.now) a ≡ match_map (sited site) answer
at_site site None answer is = ap (match_map (sited site)) is
at_site site (Ignore x) answer is = ap (match_map (sited site)) is
at_site site (Whitelist x) answer is = ap (match_map (sited site)) is
