-- What a survey has yielded when it answers none, and that no item of a list ends one.
use Rattle.std.proofs.Common.{◌≡◌, ◌≤◌, List, [], ◌∷◌, ◌++◌, length, map, Bool, false, Option, None, Result, Ok, if◌then◌else◌, suc, inl, inr, sym, ◌∙◌, ap, subst, arith}
use Rattle.std.specs.Iterator.{Drains}
use Rattle.ignore_base.specs.declared.error.Error.{Error}
use Rattle.ignore_base.specs.declared.fault.Fault.{Fault}
use Rattle.ignore_base.specs.Text.{Path}
use Rattle.ignore_dir.specs.Scene.{QueryScene}
use Rattle.ignore_files.specs.declared.files.Files.{Ghosts as Files}
use Rattle.ignore_files.specs.declared.types.Listed.{Listed}
use Rattle.ignore_survey.specs.Finished.{IsEnd, IsFinished}
use Rattle.ignore_survey.specs.Nexts.{NextGives, Starts}
use Rattle.ignore_survey.specs.Stands.{Stands}
use Rattle.ignore_survey.specs.Suits.{Suits}
use Rattle.ignore_survey.specs.Survey.{Below, Each, Entry, IsSurvey, Item, unlisted}
use Rattle.ignore_survey.specs.Survey.{fails, lists, none, fault, leaf, inner, closed, of_root}
use Rattle.ignore_survey.specs.Surveyed.{item_of}
use Rattle.ignore_survey.specs.declared.survey.Survey.{Survey}
use Rattle.ignore_survey.specs.declared.surveyed.Surveyed.{Surveyed}

abbrev Step : {F : Type 0} → Files F → Survey F → Option (Result Surveyed Error) → Survey F → Type 0
Step files a answer b = NextGives files a answer b

-- a survey that is asked until it answers none still gave what it yielded
run_stands : {F : Type 0} (files : Files F) (g : QueryScene) (a : Survey F) (xs : List (Result Surveyed Error))
    → Drains (Step files) a xs → Suits files a.files.now a.matcher g → a.ended ≡ false → IsFinished (map item_of xs)
    → Stands g a.stack (map item_of xs) × (length xs ≤ a.left)
run_stands files g a [] (u, (t, same, s)) suits on done =
    ((subst (λ (t : Survey _). Step files t None u) (sym same) s).shows g suits on, omega arith)
run_stands files g a (x ∷ xs) (u, (t, (j, s, y), e)) suits on (goes, done) =
    elim (s.shows g suits on) [
      | inl end ↦ absurd (goes end.0)
      | inr h ↦
          let r = run_stands files g j xs (u, (t, y, e)) (s.suits g suits) h.0 done in
          let few = r.1 in
          let one = s.counted ∙ ap (λ (over : Bool). if over then j.left else suc j.left) h.0 in
          (h.1 (map item_of xs) r.0, omega (few, one, arith))
    ]

pub run_is_the_list : {F : Type 0} (files : Files F) (g : QueryScene) (a : Survey F) (xs : List (Result Surveyed Error))
    → Drains (Step files) a xs → Starts files g a → IsFinished (map item_of xs) → IsSurvey g (map item_of xs) × (length xs ≤ a.left)
run_is_the_list files g a xs drains starts done =
    let r = run_stands files g a xs drains starts.suits starts.goes_on done in (starts.whole (map item_of xs) r.0, r.1)

-- no item of a list ends a survey

no_end_at_a_fault : (g : QueryScene) (dir : Path) (f : Fault) → IsEnd (unlisted g dir f) → ⊥
no_end_at_a_fault g dir f (inl h) = cc (h)
no_end_at_a_fault g dir f (inr h) = cc (h)

no_end_at_an_entry : (e : Entry) → IsEnd (Ok e) → ⊥
no_end_at_an_entry e (inl h) = cc (h)
no_end_at_an_entry e (inr h) = cc (h)

both_finished : (xs ys : List Item) → IsFinished xs → IsFinished ys → IsFinished (xs ++ ys)
both_finished [] ys h k = k
both_finished (x ∷ xs) ys h k = (h.0, both_finished xs ys h.1 k)

mutual
  below_finished : (g : QueryScene) (dir : Path) (items : List Item) → Below g dir items → IsFinished items
  below_finished g dir items (fails {fault = f} shut) = (no_end_at_a_fault g dir f, tt)
  below_finished g dir items (lists {things = things} ls each) = each_finished g dir things items each

  each_finished : (g : QueryScene) (dir : Path) (things : List Listed) (items : List Item) → Each g dir things items → IsFinished items
  each_finished g dir things items none = tt
  each_finished g dir things items (fault {f = f} {things = rest} {items = more} each) =
      (no_end_at_a_fault g dir f, each_finished g dir rest more each)
  each_finished g dir things items (leaf {things = rest} {items = more} shut each) =
      (no_end_at_an_entry _, each_finished g dir rest more each)
  each_finished g dir things items (inner {things = rest} {inside = inside} {items = more} goes below each) =
      (no_end_at_an_entry _, both_finished inside more (below_finished g _ inside below) (each_finished g dir rest more each))

pub survey_finished : (g : QueryScene) (items : List Item) → IsSurvey g items → IsFinished items
survey_finished g items (closed shut) = tt
survey_finished g items (of_root goes below) = below_finished g [] items below
