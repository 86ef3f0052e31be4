-- What a directory gives, and listed things, by what they are.
use Rattle.std.proofs.Common.{◌≡◌, ℕ, true, false, List, [], ◌∷◌, ◌++◌, map, Ok, Err, refl, sym, ◌∙◌, ap, subst}
use Rattle.std.proofs.lemmas.Cmp.{nat_list_cmp_total}
use Rattle.std.proofs.lemmas.List.MinMax.{ranks_by}
use Rattle.std.specs.Cmp.{IsStrictWeakOrder}
use Rattle.std.specs.Cmp.Lexicographic.{slice_cmp}
use Rattle.std.specs.Ordering.{is_lt, nat_cmp}
use Rattle.ignore_base.specs.Paths.{join_of}
use Rattle.ignore_base.specs.Text.{Bytes, Path}
use Rattle.ignore_base.specs.declared.fault.Fault.{Fault}
use Rattle.ignore_dir.specs.Scene.{QueryScene}
use Rattle.ignore_files.specs.Tree.{Tree}
use Rattle.ignore_files.specs.declared.types.FileType.{FileType}
use Rattle.ignore_files.specs.declared.types.Listed.{Listed}
use Rattle.ignore_files.specs.declared.types.Listed.TheVariants as thing
use Rattle.ignore_walk.proofs.Arranged.{before_order, one_arrangement}
use Rattle.ignore_walk.specs.Child.{named}
use Rattle.ignore_walk.specs.Walked.{IsArranged, comes_before}
use Rattle.ignore_survey.specs.Survey.{Below, Each, Item, Lists, by_name, entry_at, goes_on, place, unlisted}
use Rattle.ignore_survey.specs.Survey.Below.{fails, lists}
use Rattle.ignore_survey.specs.Survey.Each.{none, fault, leaf, inner}

-- the order of names is one in which two may tie, and so is that of listed things

pub names_order : IsStrictWeakOrder (λ (a b : List ℕ). is_lt (slice_cmp nat_cmp a b))
names_order = ranks_by nat_list_cmp_total (λ (a : List ℕ). a)

pub things_order : IsStrictWeakOrder (comes_before (λ a b. is_lt (slice_cmp nat_cmp a b)))
things_order = before_order (λ a b. is_lt (slice_cmp nat_cmp a b)) names_order

-- a directory lists things in one order alone
pub one_listing : (tree : Tree) (path : Path) (xs ys : List Listed) → Lists tree path xs → Lists tree path ys → ys ≡ xs
one_listing tree path xs ys a b =
    let same : a.0 ≡ b.0 = let e = sym a.1 ∙ b.1 in cc (e) in
    one_arrangement by_name path (map named b.0) xs ys (λ dir. names_order)
    (subst (λ (l : List Listed). IsArranged by_name path (map named l) xs) same a.2) b.2

-- of a directory that can't be listed
pub below_failed : (g : QueryScene) (dir : Path) (own : List Item) (f : Fault) → g.tree.list (place g.root dir) ≡ Err f
    → Below g dir own → own ≡ unlisted g dir f ∷ []
below_failed g dir own f shut (fails {fault = k} is) = let e = sym shut ∙ is in let same : k ≡ f = cc (e) in ap (λ (x : Fault). unlisted g dir x ∷ []) same
below_failed g dir own f shut (lists listed each) = absurd (let e = sym shut ∙ listed.1 in cc (e))

-- of one that lists these things
pub below_listed : (g : QueryScene) (dir : Path) (own : List Item) (xs : List Listed) → Lists g.tree (place g.root dir) xs
    → Below g dir own → Each g dir xs own
below_listed g dir own xs listed (fails is) = absurd (let e = sym is ∙ listed.1 in cc (e))
below_listed g dir own xs listed (lists {things = ys} other each) =
    subst (λ (l : List Listed). Each g dir l own) (one_listing g.tree (place g.root dir) xs ys listed other) each

-- of no things
pub each_none : (g : QueryScene) (dir : Path) (own : List Item) → Each g dir [] own → own ≡ []
each_none g dir own none = refl

-- of a fault, and then other things
pub each_fault : (g : QueryScene) (dir : Path) (f : Fault) (xs : List Listed) (own : List Item) → Each g dir (thing.Fault f ∷ xs) own
    → (items : List Item) × (own ≡ unlisted g dir f ∷ items) × Each g dir xs items
each_fault g dir f xs own (fault {items = items} each) = (items, refl, each)

-- of an entry, and then other things: what is below it is nothing where the survey doesn't go on
pub record AnEntry (g : QueryScene) (dir : Path) (name : Bytes) (kind : FileType) (xs : List Listed) (own : List Item) : Type 0 where
  pub inside : List Item
  pub items : List Item
  pub leaf_there : goes_on g (join_of dir name) kind ≡ false → inside ≡ []
  pub inner_there : goes_on g (join_of dir name) kind ≡ true → Below g (join_of dir name) inside
  pub each : Each g dir xs items
  pub are : own ≡ Ok (entry_at g (join_of dir name) kind) ∷ (inside ++ items)

pub each_entry : (g : QueryScene) (dir : Path) (name : Bytes) (kind : FileType) (xs : List Listed) (own : List Item)
    → Each g dir (thing.Entry name kind ∷ xs) own → AnEntry g dir name kind xs own
each_entry g dir name kind xs own (leaf {items = items} shut each) =
    record {
      inside = [];
      items = items;
      leaf_there = λ h. refl;
      inner_there = λ goes. absurd (let e = sym shut ∙ goes in cc (e));
      each = each;
      are = refl;
    }
each_entry g dir name kind xs own (inner {inside = inside} {items = items} goes below each) =
    record {
      inside = inside;
      items = items;
      leaf_there = λ shut. absurd (let e = sym shut ∙ goes in cc (e));
      inner_there = λ h. below;
      each = each;
      are = refl;
    }
