-- What the clauses of a list and of a check give whoever knows the walk, or the loads of directories.
use Rattle.std.proofs.Common.{◌≡◌, ◌≤◌, inl, inr, ℕ, All, List, ◌∷◌, ◌++◌, ◌∙◌, Option, Some, ap, arith}
use Rattle.std.specs.List.{flat_map}
use Rattle.ignore_base.specs.Text.{Bytes, Path}
use Rattle.ignore_dir.specs.Load.{AreLoads, Loaded}
use Rattle.ignore_dir.specs.Scene.{scene}
use Rattle.ignore_dir.specs.Standard.{standard}
use Rattle.ignore_dir.specs.declared.outside.Outside.{Outside}
use Rattle.ignore_files.specs.Gives.{IsHonest}
use Rattle.ignore_files.specs.Tree.{Tree}
use Rattle.ignore_files.specs.declared.env.Env.{Env}
use Rattle.ignore_files.specs.declared.files.Files.{Ghosts as Files}
use Rattle.ignore_query.specs.Fresh.{KeepsNothing}
use Rattle.ignore_query.specs.declared.kept.Cache.{Cache}
use Rattle.ignore_walk.specs.Entry.{Item}
use Rattle.ignore_walk.specs.Scene.{Scene}
use Rattle.ignore_walk.specs.Whole.{Whole}
use Rattle.ignore.specs.Asked.{IsOutside}
use Rattle.ignore.specs.Builder.{unset, with_root}
use Rattle.ignore.specs.Headline.{IsBareScene}
use Rattle.ignore.specs.declared.options.WalkOptions.{WalkOptions}
use Rattle.commands.specs.Checking.{AreAnswers, AreAnswersSoFar, Checked, IsAnswer, ReportsInTurn}
use Rattle.commands.specs.Listing.{Lists, lines_of, reports_of}
use Rattle.commands.specs.Walking.{AreBegun, AreListed, HasRoots, most_steps}

-- a list writes the paths of its items, and reports their problems
Lists-writes : (items : List Item) (status : ℕ) (out err : Bytes → Type 0) → Lists items status out err
    → out (flat_map lines_of items) × err (flat_map reports_of items)
Lists-writes items status out err h = (h.lists, h.reports)

module _ {F : Type 0} (files : Files F) (f : F) (env : Env) (b : WalkOptions) (tree : Tree) (all items : List Item) (g : Scene) (n : ℕ)
    (honest : IsHonest files f tree) (plain : (o : Outside) → IsOutside tree env b o → IsBareScene b tree o g)
    (walk : Whole g b.roots items n) where
  -- where the walk of some settings is known, and stays within the limit, its items are listed
  AreListed-all : AreListed files f env b all → n ≤ b.limit → all ≡ items
  AreListed-all (inl (whole, only)) le =
      let l = only tree honest in (l.2 g items n (plain l.0 l.1) walk).0
  AreListed-all (inr (ends, cut)) le =
      let l = cut tree honest in absurd (omega (arith, (l.2 g items n (plain l.0 l.1) walk).0, le))

  -- and what a list that ended early has listed are first items of it
  AreBegun-first : (next : Option Item) → AreBegun files f env b all next → (rest : List Item) × (items ≡ all ++ rest)
  AreBegun-first next begun =
      let l = begun tree honest in
      let first = l.2 g items n (plain l.0 l.1) walk in (first.0, first.1)

  -- and where the walk stays within the limit, the next one is the next of them
  AreBegun-next : (item : Item) → AreBegun files f env b all (Some item) → n ≤ b.limit
      → (rest : List Item) × (items ≡ all ++ item ∷ rest)
  AreBegun-next item begun le =
      let l = begun tree honest in
      let first = l.2 g items n (plain l.0 l.1) walk in
      elim first.2 [
        | inl (others, is) ↦ (others, first.1 ∙ ap (λ (rest : List Item). all ++ rest) is)
        | inr (ended, many) ↦ absurd (omega (arith, many, le))
      ]

-- the settings of a list have the limit of a list
HasRoots-limit : (given : List Path) (old b : WalkOptions) → HasRoots given old b → b.limit ≡ most_steps
HasRoots-limit given old b h = ap (λ (w : WalkOptions). w.limit) h.2

-- where the loads of the directories are known, each answer is that of the bare tree, and the problems
-- are those of what each path in turn loads
AreAnswers-right : (tree : Tree) (env : Env) (root : Path) (all : List Checked) (loads : Path → Loaded) → AreLoads tree standard loads
    → AreAnswers tree env root all
    → (o : Outside) × IsOutside tree env (with_root unset root) o × All (IsAnswer (scene tree loads standard o root)) all
    × (old new : Cache) × KeepsNothing old × ReportsInTurn (scene tree loads standard o root) all old new
AreAnswers-right tree env root all loads right (o, outside, are) =
    let here = are loads right in (o, outside, here.0, here.1, here.2, here.3, here.4)

-- a check that ended after an answer has given answers of the bare tree
AreAnswersSoFar-some : (tree : Tree) (env : Env) (root : Path) (c : Checked) (all : List Checked)
    → AreAnswersSoFar tree env root (c ∷ all) → AreAnswers tree env root (c ∷ all)
AreAnswersSoFar-some tree env root c all (inl none) = absurd (cc none)
AreAnswersSoFar-some tree env root c all (inr are) = are
