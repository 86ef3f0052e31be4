-- What is met, written, reported and counted of roots in turn, one more at a time.
use Rattle.std.proofs.Common.{◌≡◌, ◌∙◌, ◌<◌, ◌≤◌, ℕ, ◌+◌, suc, length, take, drop, get_or, min, Bool, true, false, All, List, [], ◌∷◌, ◌++◌, Option, None, Some, map, string_bytes, refl, sym, ap, subst, arith}
use Rattle.std.proofs.lemmas.Grind.{flat_map-append}
use Rattle.std.proofs.lemmas.List.Elements.{All-cons, All-head, All-nil, All-tail}
use Rattle.std.proofs.lemmas.List.{append-nil, map-append}
use Rattle.std.specs.List.{AllZip, flat_map}
use Rattle.commands.proofs.StopLemmas.{around}
use Rattle.commands.specs.Walking.{IsTrimmed}
use Rattle.ignore_dir.specs.Load.{AreLoads, Loaded}
use Rattle.ignore_dir.specs.Scene.{QueryScene, scene}
use Rattle.ignore_dir.specs.declared.outside.Outside.{Outside}
use Rattle.ignore_dir.specs.declared.settings.Settings.{Settings}
use Rattle.ignore_files.specs.Gives.{IsHonest}
use Rattle.ignore_files.specs.Tree.{Tree}
use Rattle.ignore_files.specs.declared.env.Env.{Env}
use Rattle.ignore_files.specs.declared.files.Files.{Ghosts as Files}
use Rattle.ignore_query.specs.Fresh.{KeepsNothing}
use Rattle.ignore_query.specs.declared.incremental.IncrementalIgnore.{IncrementalIgnore}
use Rattle.ignore_rules.specs.Rules.{Ruleset}
use Rattle.ignore.specs.Asked.{IsGlobalIf, base_dir}
use Rattle.ignore.specs.Builder.{with_roots}
use Rattle.ignore.specs.Matchers.{AreMatchers, asked_by}
use Rattle.ignore.specs.declared.options.WalkOptions.{WalkOptions}
use Rattle.ig_options.specs.declared.options.Options.{Options}
use Rattle.ig_commands.specs.Counts.{capped, counted, one_more}
use Rattle.ig_commands.specs.Surveys.{AreRootsBy, OfMatcher, OfRoot, Seen, all_seen}

-- one pair more
pub zip_push : {A B : Type 0} (R : A → B → Type 0) (xs : List A) (ys : List B) (x : A) (y : B) → AllZip R xs ys → R x y
    → AllZip R (xs ++ x ∷ []) (ys ++ y ∷ [])
zip_push R [] [] x y h k = (k, tt)
zip_push R [] (b ∷ ys) x y h k = absurd h
zip_push R (a ∷ xs) [] x y h k = absurd h
zip_push R (a ∷ xs) (b ∷ ys) x y h k = (h.0, zip_push R xs ys x y h.1 k)

pub map_same : {A : Type 0} (xs : List A) → map (λ y. y) xs ≡ xs
map_same [] = refl
map_same (x ∷ xs) = ap (λ (ys : List _). x ∷ ys) (map_same xs)

-- a list by its members so far, one of them, and the others
pub split_at : {A : Type 0} (xs ys : List A) (x : A) → map (λ y. y) ys ≡ take (length ys) xs → length ys < length xs
    → x ≡ get_or xs (length ys) x → xs ≡ ys ++ x ∷ drop (suc (length ys)) xs
split_at xs ys x front within here =
    around xs (length ys) x within here
    ∙ ap (λ (zs : List _). zs ++ x ∷ drop (suc (length ys)) xs) (sym front ∙ map_same ys)

pub all_yielded : {A : Type 0} (xs ys : List A) → map (λ y. y) ys ≡ xs → ys ≡ xs
all_yielded xs ys all = sym (map_same ys) ∙ all

-- the items of one root more
items_over : {A : Type 0} (all : List (List ℕ × List A)) (r : List ℕ × List A)
    → flat_map (λ (x : List ℕ × List A). x.1) (all ++ r ∷ []) ≡ flat_map (λ (x : List ℕ × List A). x.1) all ++ r.1
items_over {A} all r =
    flat_map-append (λ (x : List ℕ × List A). x.1) all (r ∷ [])
    ∙ ap (λ (xs : List A). flat_map (λ (x : List ℕ × List A). x.1) all ++ xs) (append-nil r.1)

pub all_seen_more : (all : List OfRoot) (r : OfRoot) → all_seen (all ++ r ∷ []) ≡ all_seen all ++ r.1
all_seen_more all r = items_over all r

pub counted_append : (n : ℕ) (xs ys : List Bool) → counted n (xs ++ ys) ≡ counted (counted n xs) ys
counted_append n [] ys = refl
counted_append n (x ∷ xs) ys = counted_append (one_more n x) xs ys

min_sum : (most n c d : ℕ) → n ≤ most → min (min (n + d) most + c) most ≡ min (n + min (min (0 + d) most + c) most) most
min_sum most n c d within = omega (arith, within)

abbrev bit : Bool → ℕ
bit true = 1
bit false = 0

one_more_is : (n : ℕ) (h : Bool) → one_more n h ≡ min (n + bit h) 18446744073709551615
one_more_is n true = refl
one_more_is n false = refl

capped_within : (m : ℕ) → capped m ≤ 18446744073709551615
capped_within m = omega arith

-- a count that begins at a number is their sum, up to the greatest number
counted_from : (n : ℕ) (bs : List Bool) → n ≤ 18446744073709551615 → counted n bs ≡ capped (n + counted 0 bs)
counted_from n [] within = omega (arith, within)
counted_from n (h ∷ bs) within =
    counted_from (one_more n h) bs (subst (λ m. m ≤ 18446744073709551615) (sym (one_more_is n h)) (capped_within (n + bit h)))
    ∙ (ap (λ m. capped (m + counted 0 bs)) (one_more_is n h)
    ∙ (min_sum 18446744073709551615 n (counted 0 bs) (bit h) within
    ∙ sym (ap (λ m. capped (n + m)) (counted_from (one_more 0 h) bs
    (subst (λ m. m ≤ 18446744073709551615) (sym (one_more_is 0 h)) (capped_within (0 + bit h)))
    ∙ ap (λ m. capped (m + counted 0 bs)) (one_more_is 0 h)))))

counted_within : (n : ℕ) (bs : List Bool) → n ≤ 18446744073709551615 → counted n bs ≤ 18446744073709551615
counted_within n bs within = subst (λ m. m ≤ 18446744073709551615) (sym (counted_from n bs within)) (capped_within (n + counted 0 bs))

-- a count over the items of one root more
pub counts_over : {A : Type 0} (f : A → Bool) (all : List (List ℕ × List A)) (r : List ℕ × List A) (old more new : ℕ)
    → old ≡ counted 0 (map f (flat_map (λ (x : List ℕ × List A). x.1) all)) → more ≡ counted 0 (map f r.1) → new ≡ capped (old + more)
    → new ≡ counted 0 (map f (flat_map (λ (x : List ℕ × List A). x.1) (all ++ r ∷ [])))
counts_over {A} f all r old more new before here sum =
    let xs = map f (flat_map (λ (x : List ℕ × List A). x.1) all) in
    let ys = map f r.1 in
    sum
    ∙ (ap (λ n. capped (n + more)) before
    ∙ (ap (λ n. capped (counted 0 xs + n)) here
    ∙ (sym (counted_from (counted 0 xs) ys (counted_within 0 xs (omega arith)))
    ∙ (sym (counted_append 0 xs ys)
    ∙ ap (counted 0) (sym (ap (map f) (items_over all r) ∙ map-append f (flat_map (λ (x : List ℕ × List A). x.1) all) r.1))))))

pub seen_counts : (f : Seen → Bool) (all : List OfRoot) (r : OfRoot) (old more new : ℕ) → old ≡ counted 0 (map f (all_seen all))
    → more ≡ counted 0 (map f r.1) → new ≡ capped (old + more) → new ≡ counted 0 (map f (all_seen (all ++ r ∷ [])))
seen_counts f all r old more new before here sum = counts_over f all r old more new before here sum

-- what a matcher asks by, of its root
abbrev By : Type 0
By = Settings × Outside × List ℕ × Option (List ℕ)

abbrev by_root : Settings → Outside → Option (List ℕ) → List ℕ → By
by_root s outside dir root = (s, outside, root, dir)

-- the root of a matcher that asks by some root
named : (m : IncrementalIgnore) (root : List ℕ) (r : OfRoot) {s : Settings} {outside : Outside} {dir : Option (List ℕ)}
    → asked_by m ≡ by_root s outside dir root → r.0 ≡ string_bytes m.asked.root → r.0 ≡ root
named m root r asked at = at ∙ ap (λ (t : By). t.2) asked

-- matchers ask by the same settings and rules from outside, each about its root, of which a value has
-- the items
module _ {F X : Type 0} (files : Files F) (f : F) (view : X → OfRoot) (P : X → QueryScene → List Seen → Type 0) (s : Settings)
    (outside : Outside) (dir : Option (List ℕ)) where
  abbrev Of : IncrementalIgnore → X → Type 0
  Of m x = OfMatcher files f (P x) m (view x)

  same_roots : (ms : List IncrementalIgnore) (roots : List (List ℕ)) (all : List X) → map asked_by ms ≡ map (by_root s outside dir) roots
      → AllZip Of ms all → map (λ (x : X). (view x).0) all ≡ roots
  same_roots [] [] [] asked zip = refl
  same_roots [] [] (x ∷ all) asked zip = absurd zip
  same_roots [] (root ∷ roots) all asked zip = absurd (cc asked)
  same_roots (m ∷ ms) [] all asked zip = absurd (cc asked)
  same_roots (m ∷ ms) (root ∷ roots) [] asked zip = absurd zip
  same_roots (m ∷ ms) (root ∷ roots) (x ∷ all) asked zip =
      let here : asked_by m ≡ by_root s outside dir root = cc asked in
      let others : map asked_by ms ≡ map (by_root s outside dir) roots = cc asked in
      ap (λ (p : List ℕ). p ∷ map (λ (x : X). (view x).0) all) (named m root (view x) here zip.0.0)
      ∙ ap (λ (ps : List (List ℕ)). root ∷ ps) (same_roots ms roots all others zip.1)

  -- the roots of the first matchers, that of the one after them, and the others
  first_same : (ms : List IncrementalIgnore) (m : IncrementalIgnore) (others : List IncrementalIgnore) (roots : List (List ℕ))
      (done : List X) (last : OfRoot) → map asked_by (ms ++ m ∷ others) ≡ map (by_root s outside dir) roots → AllZip Of ms done
      → last.0 ≡ string_bytes m.asked.root → (rest : List (List ℕ)) × (map (λ (x : X). (view x).0) done ++ last.0 ∷ rest ≡ roots)
  first_same [] m others [] done last asked zip at = absurd (cc asked)
  first_same [] m others (root ∷ roots) [] last asked zip at =
      let here : asked_by m ≡ by_root s outside dir root = cc asked in (roots, ap (λ (p : List ℕ). p ∷ roots) (named m root last here at))
  first_same [] m others (root ∷ roots) (d ∷ done) last asked zip at = absurd zip
  first_same (x ∷ ms) m others [] done last asked zip at = absurd (cc asked)
  first_same (x ∷ ms) m others (root ∷ roots) [] last asked zip at = absurd zip
  first_same (x ∷ ms) m others (root ∷ roots) (d ∷ done) last asked zip at =
      let here : asked_by x ≡ by_root s outside dir root = cc asked in
      let more : map asked_by (ms ++ m ∷ others) ≡ map (by_root s outside dir) roots = cc asked in
      let rest = first_same ms m others roots done last more zip.1 at in (
        rest.0,
        ap (λ (p : List ℕ). p ∷ (map (λ (x : X). (view x).0) done ++ last.0 ∷ rest.0)) (named x root (view d) here zip.0.0)
            ∙ ap (λ (ps : List (List ℕ)). root ∷ ps) rest.1,
      )

  -- what holds of the scenes of each matcher holds of those of its root
  module _ (tree : Tree) (loads : List ℕ → Loaded) (honest : IsHonest files f tree) (are : AreLoads tree s loads) where
    one_root : (Q : QueryScene → List Seen → Type 0) (m : IncrementalIgnore) (root : List ℕ) (r : OfRoot)
        → asked_by m ≡ by_root s outside dir root → KeepsNothing m.cache → OfMatcher files f Q m r
        → Q (scene tree loads s outside r.0) r.1
    one_root Q m root r asked empty of =
        let mine = subst (λ (x : Settings). AreLoads tree x loads) (sym (ap (λ (t : By). t.0) asked)) are in
        subst (λ (x : List ℕ). Q (scene tree loads s outside x) r.1) (sym (named m root r asked of.0))
        (subst (λ (t : By). Q (scene tree loads t.0 t.1 t.2) r.1) asked (of.1 empty tree loads honest mine))

    abbrev Holds : X → Type 0
    Holds x = P x (scene tree loads s outside (view x).0) (view x).1

    each_root : (ms : List IncrementalIgnore) (roots : List (List ℕ)) (all : List X) → map asked_by ms ≡ map (by_root s outside dir) roots
        → All (λ m. KeepsNothing m.cache) ms → AllZip Of ms all → All Holds all
    each_root [] [] [] asked empty zip = All-nil Holds
    each_root [] [] (x ∷ all) asked empty zip = absurd zip
    each_root [] (root ∷ roots) all asked empty zip = absurd (cc asked)
    each_root (m ∷ ms) [] all asked empty zip = absurd (cc asked)
    each_root (m ∷ ms) (root ∷ roots) [] asked empty zip = absurd zip
    each_root (m ∷ ms) (root ∷ roots) (x ∷ all) asked empty zip =
        let here : asked_by m ≡ by_root s outside dir root = cc asked in
        let others : map asked_by ms ≡ map (by_root s outside dir) roots = cc asked in
        All-cons Holds x all (one_root (P x) m root (view x) here (All-head (λ (y : IncrementalIgnore). KeepsNothing y.cache) m ms empty) zip.0)
        (each_root ms roots all others (All-tail (λ (y : IncrementalIgnore). KeepsNothing y.cache) m ms empty) zip.1)

    first_roots : (Q : QueryScene → List Seen → Type 0) (ms : List IncrementalIgnore) (m : IncrementalIgnore)
        (others : List IncrementalIgnore) (roots : List (List ℕ)) (done : List X) (last : OfRoot)
        → map asked_by (ms ++ m ∷ others) ≡ map (by_root s outside dir) roots → All (λ m. KeepsNothing m.cache) (ms ++ m ∷ others)
        → AllZip Of ms done → OfMatcher files f Q m last → All Holds done × Q (scene tree loads s outside last.0) last.1
    first_roots Q [] m others [] done last asked empty zip of = absurd (cc asked)
    first_roots Q [] m others (root ∷ roots) [] last asked empty zip of =
        let here : asked_by m ≡ by_root s outside dir root = cc asked in
        (All-nil Holds, one_root Q m root last here (All-head (λ (y : IncrementalIgnore). KeepsNothing y.cache) m others empty) of)
    first_roots Q [] m others (root ∷ roots) (d ∷ done) last asked empty zip of = absurd zip
    first_roots Q (x ∷ ms) m others [] done last asked empty zip of = absurd (cc asked)
    first_roots Q (x ∷ ms) m others (root ∷ roots) [] last asked empty zip of = absurd zip
    first_roots Q (x ∷ ms) m others (root ∷ roots) (d ∷ done) last asked empty zip of =
        let here : asked_by x ≡ by_root s outside dir root = cc asked in
        let more : map asked_by (ms ++ m ∷ others) ≡ map (by_root s outside dir) roots = cc asked in
        let none = All-head (λ (y : IncrementalIgnore). KeepsNothing y.cache) x (ms ++ m ∷ others) empty in
        let tail = All-tail (λ (y : IncrementalIgnore). KeepsNothing y.cache) x (ms ++ m ∷ others) empty in
        let rest = first_roots Q ms m others roots done last more tail zip.1 of in
        (All-cons Holds d done (one_root (P d) x root (view d) here none zip.0) rest.0, rest.1)

-- the rules of the global file don't depend on the roots
same_global : (asked : Bool) (tree : Tree) (env : Env) (b : WalkOptions) (roots : List (List ℕ)) (dir : Option (List ℕ)) (rules : Ruleset)
    → IsGlobalIf asked tree env (with_roots b roots) dir rules → IsGlobalIf asked tree env b dir rules
same_global false tree env b roots dir rules h = h
same_global true tree env b roots None rules h = h
same_global true tree env b roots (Some d) rules h = h

-- matchers of the roots that are asked for, which keep nothing
module _ {F X : Type 0} (files : Files F) (f : F) (view : X → OfRoot) (P : X → QueryScene → List Seen → Type 0) (tree : Tree) (env : Env)
    (o : Options) (b : WalkOptions) (honest : IsHonest files f tree) (none : b.roots ≡ []) (roots : List (List ℕ))
    (trimmed : AllZip IsTrimmed (map string_bytes o.roots.items) roots) (ms : List IncrementalIgnore)
    (made : AreMatchers tree env (with_roots b roots) ms) (empty : All (λ m. KeepsNothing m.cache) ms) where
  asked_all : map asked_by ms ≡ map (by_root b.settings made.0 env.current_dir) roots
  asked_all = made.2 ∙ ap (λ (rs : List (List ℕ)). map (by_root b.settings made.0 env.current_dir) (rs ++ roots)) none

  -- the rules from outside don't depend on the roots
  goes_by : (names : List (List ℕ)) → names ≡ roots → AreRootsBy tree env o b names made.0
  goes_by names same = record {
    trimmed = subst (λ (rs : List (List ℕ)). AllZip IsTrimmed (map string_bytes o.roots.items) rs) (sym same) trimmed;
    read = record {
      overrides = made.1.overrides;
      types = made.1.types;
      explicit = made.1.explicit;
      global = same_global b.settings.git_global tree env b roots (base_dir b env) made.0.global made.1.global;
    };
  }

  -- what holds of each matcher holds of each root
  pub roots_of : (all : List X) → AllZip (λ m x. OfMatcher files f (P x) m (view x)) ms all
      → (outside : Outside) × AreRootsBy tree env o b (map (λ (x : X). (view x).0) all) outside
      × ((loads : List ℕ → Loaded) → AreLoads tree b.settings loads
      → All (λ x. P x (scene tree loads b.settings outside (view x).0) (view x).1) all)
  roots_of all zip = (
    made.0,
    goes_by (map (λ (x : X). (view x).0) all) (same_roots files f view P b.settings made.0 env.current_dir ms roots all asked_all zip),
    λ loads are. each_root files f view P b.settings made.0 env.current_dir tree loads honest are ms roots all asked_all empty zip,
  )

  -- the same of the first, and another fact of the one after them
  pub begun_of : (Q : QueryScene → List Seen → Type 0) (first : List IncrementalIgnore) (m : IncrementalIgnore)
      (others : List IncrementalIgnore) (done : List X) (last : OfRoot) → ms ≡ first ++ m ∷ others
      → AllZip (λ m x. OfMatcher files f (P x) m (view x)) first done → OfMatcher files f Q m last
      → (rest : List (List ℕ)) × (outside : Outside) × AreRootsBy tree env o b (map (λ (x : X). (view x).0) done ++ last.0 ∷ rest) outside
      × ((loads : List ℕ → Loaded) → AreLoads tree b.settings loads
      → All (λ x. P x (scene tree loads b.settings outside (view x).0) (view x).1) done × Q (scene tree loads b.settings outside last.0) last.1)
  begun_of Q first m others done last split zip of =
      let asked = subst (λ (xs : List IncrementalIgnore). map asked_by xs ≡ map (by_root b.settings made.0 env.current_dir) roots) split asked_all in
      let fresh = subst (λ (xs : List IncrementalIgnore). All (λ m. KeepsNothing m.cache) xs) split empty in
      let names = first_same files f view P b.settings made.0 env.current_dir first m others roots done last asked zip of.0 in (
        names.0,
        made.0,
        goes_by (map (λ (x : X). (view x).0) done ++ last.0 ∷ names.0) names.1,
        λ loads are.
            first_roots files f view P b.settings made.0 env.current_dir tree loads honest are Q first m others roots done last asked fresh zip of,
      )
