-- The folder of a folder is shorter, and has the nearest mark where the folder has none.
use Rattle.std.proofs.Common.{◌≡◌, ◌≢◌, ◌∙◌, ◌<◌, ◌&&◌, ℕ, Bool, true, false, cond, eqb, eqb-true, List, [], ◌∷◌, length, refl, sym, ap, subst, arith}
use Rattle.std.proofs.lemmas.Bool.{and_parts, both_ways}
use Rattle.std.proofs.lemmas.List.{length-append}
use Rattle.std.proofs.lemmas.Slice.Eq.{bytes_eq-Decides}
use Rattle.std.specs.Prelude.{codes}
use Rattle.std.specs.Str.{bytes_eq}
use Rattle.ignore_base.proofs.ComponentLemmas.{joined-components}
use Rattle.ignore_base.specs.Paths.{but_last, components, folder_of, is_absolute, joined}
use Rattle.ig_commands.specs.Root.{parent_of}

front_of : (x y : List ℕ) (ys : List (List ℕ)) → length (joined (but_last (x ∷ (y ∷ ys)))) < length (joined (x ∷ (y ∷ ys)))
front_of x y [] = omega (arith, length-append x (47 ∷ y))
front_of x y (z ∷ zs) =
    omega (
      arith,
      length-append x (47 ∷ joined (y ∷ but_last (z ∷ zs))),
      length-append x (47 ∷ joined (y ∷ (z ∷ zs))),
      front_of y z zs,
    )

front : (cs : List (List ℕ)) → 0 < length (joined cs) → length (joined (but_last cs)) < length (joined cs)
front [] h = absurd (omega (arith, h))
front (x ∷ []) h = h
front (x ∷ (y ∷ ys)) h = front_of x y ys

-- a full path but `/` has two bytes
two : (path : List ℕ) → is_absolute path ≡ true → bytes_eq path (codes "/") ≡ false → 1 < length path
two [] h other = cc h
two (x ∷ []) h other =
    absurd (both_ways (bytes_eq (x ∷ []) (codes "/")) other
    ((bytes_eq-Decides (x ∷ []) (codes "/")).1 (ap (λ (y : ℕ). y ∷ []) (eqb-true x 47 h))))
two (x ∷ (y ∷ ys)) h other = omega arith

chosen : (b : Bool) (folder path : List ℕ) → (b ≡ true → 1 < length path) → length folder < length path
    → length (cond b (codes "/") folder) < length path
chosen true folder path h k = h refl
chosen false folder path h k = k

folder_shorter : (path : List ℕ) → 0 < length path → bytes_eq path (codes "/") ≡ false → length (folder_of path) < length path
folder_shorter path some other =
    let folder = joined (but_last (components path)) in
    let less : length folder < length path =
    subst (λ (p : List ℕ). length folder < length p) (joined-components path)
    (front (components path) (subst (λ (p : List ℕ). 0 < length p) (sym (joined-components path)) some)) in
    chosen (is_absolute path && eqb (length folder) 0) folder path
    (λ e. two path (and_parts (is_absolute path) (eqb (length folder) 0) e).0 other) less

by_root : (dir : List ℕ) (b : Bool) → 0 < length dir → bytes_eq dir (codes "/") ≡ b → length (cond b [] (folder_of dir)) < length dir
by_root dir true some e = some
by_root dir false some e = folder_shorter dir some e

pub parent_shorter : (dir : List ℕ) → 0 < length dir → length (parent_of dir) < length dir
parent_shorter dir some = by_root dir (bytes_eq dir (codes "/")) some refl

-- a text that is empty, and one that isn't
pub not_empty : (text : List ℕ) (b : Bool) → b ≡ eqb (length text) 0 → b ≡ false → text ≢ []
not_empty [] b is h = λ e. cc (sym is ∙ h)
not_empty (x ∷ xs) b is h = λ e. cc e

pub some_left : (text : List ℕ) (b : Bool) → b ≡ eqb (length text) 0 → b ≡ false → 0 < length text
some_left [] b is h = cc (sym is ∙ h)
some_left (x ∷ xs) b is h = omega arith

pub empty : (text : List ℕ) (b : Bool) → b ≡ eqb (length text) 0 → b ≡ true → text ≡ []
empty [] b is h = refl
empty (x ∷ xs) b is h = absurd (omega (arith, eqb-true (length (x ∷ xs)) 0 (sym is ∙ h)))
