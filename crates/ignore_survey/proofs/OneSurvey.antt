-- A survey gives one list.
use Rattle.std.proofs.Common.{◌≡◌, List, [], ◌∷◌, ◌++◌, Ok, refl, sym, ◌∙◌, ap}
use Rattle.ignore_base.specs.Paths.{join_of}
use Rattle.ignore_base.specs.Text.{Path}
use Rattle.ignore_dir.specs.Scene.{QueryScene}
use Rattle.ignore_files.specs.declared.types.Listed.{Listed}
use Rattle.ignore_survey.specs.Survey.{Below, Each, Item, IsSurvey, entry_at, unlisted}
use Rattle.ignore_survey.specs.Survey.{fails, lists, none, fault, leaf, inner, closed, of_root}
use Rattle.ignore_survey.proofs.SurveyLemmas.{below_failed, below_listed, each_entry, each_fault, each_none}

mutual
  one_below : (g : QueryScene) (dir : Path) (xs ys : List Item) → Below g dir xs → Below g dir ys → ys ≡ xs
  one_below g dir xs ys (fails {fault = f} shut) b = below_failed g dir ys f shut b
  one_below g dir xs ys (lists {things = things} ls each) b = one_each g dir things xs ys each (below_listed g dir ys things ls b)

  one_each : (g : QueryScene) (dir : Path) (things : List Listed) (xs ys : List Item) → Each g dir things xs → Each g dir things ys → ys ≡ xs
  one_each g dir things xs ys none e = each_none g dir ys e
  one_each g dir things xs ys (fault {f = f} {things = rest} {items = items} each) e =
      let h = each_fault g dir f rest ys e in
      h.1 ∙ ap (λ (o : List Item). unlisted g dir f ∷ o) (one_each g dir rest items h.0 each h.2)
  one_each g dir things xs ys (leaf {name = name} {kind = kind} {things = rest} {items = items} shut each) e =
      let h = each_entry g dir name kind rest ys e in
      let own = entry_at g (join_of dir name) kind in
      h.are ∙ (ap (λ (o : List Item). Ok own ∷ (o ++ h.items)) (h.leaf_there shut)
      ∙ ap (λ (o : List Item). Ok own ∷ o) (one_each g dir rest items h.items each h.each))
  one_each g dir things xs ys (inner {name = name} {kind = kind} {things = rest} {inside = inside} {items = items} goes below each) e =
      let h = each_entry g dir name kind rest ys e in
      let own = entry_at g (join_of dir name) kind in
      h.are ∙ (ap (λ (o : List Item). Ok own ∷ (o ++ h.items)) (one_below g (join_of dir name) inside h.inside below (h.inner_there goes))
      ∙ ap (λ (o : List Item). Ok own ∷ (inside ++ o)) (one_each g dir rest items h.items each h.each))

pub one_survey : (g : QueryScene) (xs ys : List Item) → IsSurvey g xs → IsSurvey g ys → ys ≡ xs
one_survey g xs ys (closed shut) (closed also) = refl
one_survey g xs ys (closed shut) (of_root goes below) = absurd (let e = sym shut ∙ goes in cc (e))
one_survey g xs ys (of_root goes below) (closed shut) = absurd (let e = sym shut ∙ goes in cc (e))
one_survey g xs ys (of_root goes below) (of_root also other) = one_below g [] xs ys below other
