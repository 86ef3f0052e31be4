-- The names that are counted, and what is reported, of the items of surveys, one more at a time.
use Rattle.std.proofs.Common.{◌≡◌, ◌∙◌, ℕ, List, [], ◌∷◌, ◌++◌, Option, None, map, sym, ap, subst, refl, append_assoc}
use Rattle.std.proofs.lemmas.List.{append-nil, map-append}
use Rattle.std.specs.Io.KnownBytes.{Appends}
use Rattle.commands.proofs.LineLemmas.{appends_on}
use Rattle.ig_options.specs.declared.options.Options.{Options}
use Rattle.ig_commands.specs.Names.{names_told}
use Rattle.ig_commands.specs.Surveys.{OfRoot, Seen, all_told, begun_in, begun_told, left_from, names_by, reports, told_from, told_in}
use Rattle.ig_commands.specs.declared.names.Unnamed.{Unnamed}

-- what is reported of some items and one more
told_push : (o : Options) (names : Option Unnamed) (seen : List Seen) (one : Seen)
    → told_from o names (seen ++ one ∷ []) ≡ told_from o names seen ++ reports o (left_from names seen) one
told_push o names [] one = append-nil (reports o names one)
told_push o names (s ∷ seen) one =
    let here = reports o names s in
    let now = names_by names s in
    ap (λ (bs : List _). here ++ bs) (told_push o now seen one)
    ∙ sym (append_assoc here (told_from o now seen) (reports o (left_from now seen) one))

-- the names that are counted after them
left_push : (names : Option Unnamed) (seen : List Seen) (one : Seen) → left_from names (seen ++ one ∷ []) ≡ names_by (left_from names seen) one
left_push names [] one = refl
left_push names (s ∷ seen) one = left_push (names_by names s) seen one

-- one item more of those that values of the code stand for is reported
pub seen_told : {A : Type 0} (view : A → Seen) (o : Options) (names now : Option Unnamed) (all : List A) (one : A) (a b c : Option (List ℕ))
    → now ≡ left_from names (map view all) → Appends a b (told_from o names (map view all)) → Appends b c (reports o now (view one))
    → Appends a c (told_from o names (map view (all ++ one ∷ [])))
seen_told view o names now all one a b c is before here =
    let told = subst (λ (u : Option Unnamed). Appends b c (reports o u (view one))) is here in
    subst (Appends a c)
    (sym (ap (told_from o names) (map-append view all (one ∷ [])) ∙ told_push o names (map view all) (view one)))
    (appends_on a b c _ _ before told)

pub seen_left : {A : Type 0} (view : A → Seen) (names now new : Option Unnamed) (all : List A) (one : A)
    → now ≡ left_from names (map view all) → new ≡ names_by now (view one) → new ≡ left_from names (map view (all ++ one ∷ []))
seen_left view names now new all one is next =
    next
    ∙ (ap (λ (u : Option Unnamed). names_by u (view one)) is
    ∙ sym (ap (left_from names) (map-append view all (one ∷ [])) ∙ left_push names (map view all) (view one)))

-- all items of a root are reported, and the names that were counted last
pub told_whole : (o : Options) (names : Option Unnamed) (seen : List Seen) (a b c : Option (List ℕ)) → names ≡ left_from None seen
    → Appends a b (begun_in o seen) → Appends b c (names_told names) → Appends a c (told_in o seen)
told_whole o names seen a b c is before here =
    appends_on a b c (begun_in o seen) (names_told (left_from None seen)) before
    (subst (λ (u : Option Unnamed). Appends b c (names_told u)) is here)

-- the first items of a root after whole roots
begun_push : (o : Options) (all : List OfRoot) (r : OfRoot) → begun_told o (all ++ r ∷ []) ≡ all_told o all ++ begun_in o r.1
begun_push o [] r = refl
begun_push o (x ∷ []) r = ap (λ (bs : List _). bs ++ begun_in o r.1) (sym (append-nil (told_in o x.1)))
begun_push o (x ∷ (y ∷ more)) r =
    ap (λ (bs : List _). told_in o x.1 ++ bs) (begun_push o (y ∷ more) r)
    ∙ sym (append_assoc (told_in o x.1) (all_told o (y ∷ more)) (begun_in o r.1))

pub begun_root : (o : Options) (all : List OfRoot) (r : OfRoot) (a b c : Option (List ℕ)) → Appends a b (all_told o all)
    → Appends b c (begun_in o r.1) → Appends a c (begun_told o (all ++ r ∷ []))
begun_root o all r a b c before here =
    subst (Appends a c) (sym (begun_push o all r)) (appends_on a b c (all_told o all) (begun_in o r.1) before here)
