-- Steps that were taken, one after the other.
use Rattle.std.proofs.Common.{◌≡◌, inl, inr, ℕ, suc, ◌+◌, ◌<◌, Bool, true, false, List, [], ◌∷◌, OnOk, Ok, Err, Result, refl, sym, ◌∙◌, ap, subst, arith}
use Rattle.std.proofs.lemmas.Bool.{false≢true}
use Rattle.ignore_base.specs.Text.{Path}
use Rattle.ignore_files.specs.declared.files.Files.{Ghosts as Files}
use Rattle.ignore_files.specs.declared.types.Listed.{Listed}
use Rattle.ignore_files.specs.declared.types.Listed.TheVariants as thing
use Rattle.ignore_walk.specs.Below.{IsThing}
use Rattle.ignore_walk.specs.Entry.{Entry}
use Rattle.ignore_walk.specs.Paces.{Enters, IsListed, IsStep, Lists, MayEnter, MayEnterIn, TakesOne, TookSteps, Work, more, none, work_at}
use Rattle.ignore_walk.specs.declared.frame.Frame.{Frame}
use Rattle.ignore_walk.specs.declared.ground.Ground.{Ground}
use Rattle.ignore_walk.specs.declared.open.Directory.{Directory}

abbrev pub work : List Path → List Frame → Work
work roots frames = record { roots = roots; frames = frames }

-- nothing was begun
pub work_first : (own roots : List Path) (frames : List Frame) → own ≡ roots → frames ≡ [] → work own frames ≡ work_at roots
work_first own roots frames h k = cc (h, k)

-- a directory was entered that was listed
pub entered : (lists : Lists) (path : Path) (directory : Directory) (old new : List Frame) → directory.path ≡ path
    → IsListed lists directory.path directory.rest.items → Enters directory old new → MayEnter lists path old new
entered lists path directory old new at listed e =
    inr (
      e.0,
      e.1 ∙ at,
      subst (λ (p : Path). IsListed lists p e.0.rest.items) at
          (subst (λ (things : List Listed). IsListed lists directory.path things) (sym e.2) listed),
      e.3,
    )

-- the same of a listed thing
pub entered_in : (lists : Lists) (dir : Path) (depth : ℕ) (x : Listed) (e : Entry) (old new : List Frame) → IsThing dir depth x e
    → MayEnter lists e.path old new → MayEnterIn lists dir x old new
entered_in lists dir depth (thing.Entry name kind) e old new is enters = subst (λ (p : Path). MayEnter lists p old new) is.0 enters
entered_in lists dir depth (thing.Fault fault) e old new is enters = absurd is

-- none was entered
pub none_in : (lists : Lists) (dir : Path) (x : Listed) (frames : List Frame) → MayEnterIn lists dir x frames frames
none_in lists dir (thing.Entry name kind) frames = inl refl
none_in lists dir (thing.Fault fault) frames = refl

-- a root was begun
pub begun : (lists : Lists) (old new : Work) (root : Path) (roots : List Path) → old.frames ≡ [] → old.roots ≡ root ∷ roots
    → new.roots ≡ roots → MayEnter lists root [] new.frames → IsStep lists old new
begun lists old new root roots outside was now enters =
    inl (record { root = root; outside = outside; roots = was ∙ ap (λ (l : List Path). root ∷ l) (sym now); enters = enters })

-- a listed thing was taken, and what it gives was made
pub taken : (lists : Lists) (old between new : Work) (x : Listed) → (one : TakesOne old x between)
    → MayEnterIn lists one.before.path x between.frames new.frames → new.roots ≡ between.roots → IsStep lists old new
taken lists old between new x one enters roots =
    inr (inl (record { thing = x; between = between; taken = one; enters = enters; roots = roots }))

-- one step more
pub step_more : (lists : Lists) (k : ℕ) (a b c d : Work) → TookSteps lists k a b → IsStep lists b c → d ≡ c → TookSteps lists (suc k) a d
step_more lists k a b c d steps step same = subst (λ (w : Work). TookSteps lists (suc k) a w) (sym same) (more steps step)

-- none yet
pub no_step : (lists : Lists) (a b : Work) → b ≡ a → TookSteps lists 0 a b
no_step lists a b same = subst (λ (w : Work). TookSteps lists 0 a w) (sym same) none

pub one_more_step : (lists : Lists) (first left : ℕ) (a b c d : Work) → 0 < left
    → (s : (k : ℕ) × (left + k ≡ first) × TookSteps lists k a b) → IsStep lists b c → d ≡ c → (now : ℕ) → suc now ≡ left
    → (k : ℕ) × (now + k ≡ first) × TookSteps lists k a d
one_more_step lists first left a b c d some s step same now fewer =
    let sum = s.1 in (suc s.0, omega (sum, fewer, arith), step_more lists s.0 a b c d s.2 step same)

-- the steps from a work that is the same
pub from_same : (lists : Lists) (first left : ℕ) (a b c : Work) → b ≡ a → (k : ℕ) × (left + k ≡ first) × TookSteps lists k b c
    → (k : ℕ) × (left + k ≡ first) × TookSteps lists k a c
from_same lists first left a b c same s = (s.0, s.1, subst (λ (w : Work). TookSteps lists s.0 w c) same s.2)

pub all_steps : (lists : Lists) (first left : ℕ) (a b : Work) → left ≡ 0 → (s : (k : ℕ) × (left + k ≡ first) × TookSteps lists k a b)
    → TookSteps lists first a b
all_steps lists first left a b zero s =
    let sum = s.1 in
    let is : s.0 ≡ first = omega (sum, zero, arith) in
    subst (λ (k : ℕ). TookSteps lists k a b) is s.2

-- the files are the same
pub same_step : {F S : Type 0} (files : Files F) (a b : Ground F S) (old new : Work) → b ≡ a → IsStep (files.list_gives b.files.now) old new
    → IsStep (files.list_gives a.files.now) old new
same_step files a b old new same step = subst (λ (by : Ground _ _). IsStep (files.list_gives by.files.now) old new) same step

pub same_steps : {F S : Type 0} (files : Files F) (a b : Ground F S) (k : ℕ) (old new : Work) → b ≡ a
    → TookSteps (files.list_gives b.files.now) k old new → TookSteps (files.list_gives a.files.now) k old new
same_steps files a b k old new same steps =
    subst (λ (by : Ground _ _). TookSteps (files.list_gives by.files.now) k old new) same steps

-- some steps, and then others
pub both_steps : (lists : Lists) (j k m : ℕ) (a b c : Work) → j + k ≡ m → TookSteps lists j a b → TookSteps lists k b c
    → TookSteps lists m a c
both_steps lists j k m a b c sum s none = subst (λ (n : ℕ). TookSteps lists n a b) (omega (sum, arith)) s
both_steps lists j k m a b d sum s (more {k = i} {b = c} t step) =
    subst (λ (n : ℕ). TookSteps lists n a d) (omega (sum, arith)) (more (both_steps lists j i (j + i) a b c refl s t) step)

-- a fact of each `Ok`
pub on_any_ok : {A E : Type 0} {P : Type 0} (r : Result A E) → P → OnOk r P
on_any_ok (Ok a) p = p
on_any_ok (Err e) p = tt

-- what was listed, by the files under another name
pub listed_by : {F : Type 0} (files : Files F) (a b : F) (path : Path) (things : List Listed) → a ≡ b
    → IsListed (files.list_gives a) path things → IsListed (files.list_gives b) path things
listed_by {F = F} files a b path things same listed = subst (λ (f : F). IsListed (files.list_gives f) path things) same listed

-- a walk wasn't both ended and not
pub not_both : (ended : Bool) → ended ≡ true → ended ≡ false → ⊥
not_both ended h k = false≢true (sym k ∙ h)
