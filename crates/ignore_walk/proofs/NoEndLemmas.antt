-- Items after which a walk goes on.
use Rattle.std.proofs.Common.{◌≡◌, ℕ, ◌||◌, Bool, true, false, cond, List, [], ◌∷◌, ◌++◌, length, map, Option, None, Some, MatchOption, Result, Ok, Err, option_map, refl, sym, ap, subst, ◌∙◌}
use Rattle.std.specs.Option.{option_to_list}
use Rattle.std.specs.Prelude.{⊤}
use Rattle.std.specs.Result.{result_err}
use Rattle.ignore_base.specs.Problem.{Problem, at_depth, at_line, at_path, glob, invalid_definition, io, loop, memory, problem_of, problem_step, several, unrecognized}
use Rattle.ignore_base.specs.declared.error.Error.{Error, Io, Memory}
use Rattle.ignore_base.specs.declared.error.Error.TheFolds.{fold-roll-Error}
use Rattle.ignore_base.specs.declared.error.Error.TheOpen as open_error
use Rattle.ignore_base.specs.declared.error.Error.TheVariants.{rolls-Io, rolls-Memory}
use Rattle.ignore_base.specs.declared.fault.Fault.{Fault}
use Rattle.ignore_base.specs.declared.fault.Fault.TheVariants.{StepLimit}
use Rattle.ignore_files.specs.declared.types.Listed.{Listed}
use Rattle.ignore_dir.specs.Above.{problems_of_loads}
use Rattle.ignore_dir.specs.Load.{AreLoads, joined_some}
use Rattle.ignore_dir.specs.Soft.{IsSoft, holds_memory}
use Rattle.ignore_dir.specs.declared.settings.Settings.{Settings}
use Rattle.ignore_walk.specs.Entry.{Entry, Item, item_of}
use Rattle.ignore_walk.specs.GoesOn.{AllGoOn, GoesOn, HasNoEnd, is_fatal, is_limit}
use Rattle.ignore_walk.specs.Scene.{Scene}
use Rattle.ignore_walk.specs.Walked.{is_at_least, unlisted, yielded}
use Rattle.ignore_walk.specs.declared.entry.DirEntry.{DirEntry}
use Rattle.ignore_walk.specs.declared.stack.Stack.{Stack}
use Rattle.ignore_walk.proofs.PlacedLemmas.{IsPlaced, is_bare, joined_some-placed, loads_placed}

both_go_on : (xs ys : List Item) → AllGoOn xs → AllGoOn ys → AllGoOn (xs ++ ys)
both_go_on [] ys h k = k
both_go_on (x ∷ xs) ys h k = (h.0, both_go_on xs ys h.1 k)

-- these were in hand, and those were made
pub made_go_on : (old new own : List Item) → new ≡ old ++ own → AllGoOn old → AllGoOn own → AllGoOn new
made_go_on old new own are h k = subst AllGoOn (sym are) (both_go_on old own h k)

-- nothing was made
pub same_no_end : (a b : Stack) → b.made ≡ a.made → HasNoEnd a → HasNoEnd b
same_no_end a b same h = subst AllGoOn (sym (ap (λ m. map item_of m.items) same)) h

-- nothing is in hand
pub none_go_on : (made : List (Result DirEntry Error)) → length made ≡ 0 → AllGoOn (map item_of made)
none_go_on [] h = tt
none_go_on (x ∷ made) h = absurd (cc (h))

-- an entry with what is wrong with its files of rules
pub yielded_go_on : (s : Settings) (e : Entry) (problem : Option Problem) → IsSoft problem → AllGoOn (yielded s e problem)
yielded_go_on s e problem h = cases (is_at_least s.min_depth e.depth)
  where
    cases : (b : Bool) → AllGoOn (cond b (Ok (e, problem) ∷ []) [])
    cases true = (h, tt)
    cases false = tt

-- the fault of a listing
pub unlisted_go_on : (e : Entry) (r : Result (List Listed) Fault) → AllGoOn (unlisted e r)
unlisted_go_on e (Ok xs) = tt
unlisted_go_on e (Err fault) = (refl, tt)

-- the answer that has a fault, or none
abbrev pub answer_by : Option Fault → Result (List Listed) Fault
answer_by None = Ok []
answer_by (Some fault) = Err fault

pub answer_by-fault : (fault : Option Fault) → fault ≡ result_err (answer_by fault)
answer_by-fault None = refl
answer_by-fault (Some fault) = refl

-- what is reported before a root says where it is

placed_no_limit : (p : Problem) → is_bare p ≡ false → is_limit p ≡ false
placed_no_limit (several ps) h = refl
placed_no_limit (at_line line p) h = refl
placed_no_limit (at_path path p) h = refl
placed_no_limit (at_depth depth p) h = refl
placed_no_limit (loop ancestor child) h = refl
placed_no_limit (io fault) h = let e : true ≡ false = h in absurd (cc (e))
placed_no_limit (glob pattern err) h = refl
placed_no_limit (unrecognized name) h = refl
placed_no_limit invalid_definition h = refl
placed_no_limit memory h = refl

some_no_limit : (p : Option Problem) → IsPlaced p → MatchOption p ⊤ (λ q. is_limit q ≡ false)
some_no_limit None h = tt
some_no_limit (Some p) h = placed_no_limit p h

pub reported_no_limit : (g : Scene) (paths : List (List ℕ)) (p : Option Problem) → AreLoads g.tree g.settings g.loads
    → p ≡ joined_some (problems_of_loads g.loads paths) → MatchOption p ⊤ (λ q. is_limit q ≡ false)
reported_no_limit g paths p are is =
    some_no_limit p
    (subst IsPlaced (sym is) (joined_some-placed (problems_of_loads g.loads paths) (loads_placed g.tree g.settings g.loads paths are)))

-- one more was handed out, after which the walk goes on
pub more_go_on : (all : List Item) (item : Item) → AllGoOn all → GoesOn item → AllGoOn (all ++ item ∷ [])
more_go_on all item h k = both_go_on all (item ∷ []) h (k, tt)

-- the first item is handed out, if there is one
pub first_goes_on : (old new : List (Result DirEntry Error)) (r : Option (Result DirEntry Error)) → old ≡ option_to_list r ++ new
    → AllGoOn (map item_of old) → AllGoOn (map item_of new) × MatchOption r ⊤ (λ item. GoesOn (item_of item))
first_goes_on old new None is h = (subst (λ (l : List (Result DirEntry Error)). AllGoOn (map item_of l)) is h, tt)
first_goes_on old new (Some x) is h = let t = subst (λ (l : List (Result DirEntry Error)). AllGoOn (map item_of l)) is h in (t.1, t.0)

-- a problem without memory that isn't the limit alone
pub no_end_by : (p : Problem) → holds_memory p ≡ false → is_limit p ≡ false → is_fatal p ≡ false
no_end_by p h k = ap (λ b. b || is_limit p) h ∙ k

-- an error that is there

pub some_no_limit_at : (error : Option Error) (e : Error) → error ≡ Some e
    → MatchOption (option_map problem_of error) ⊤ (λ p. is_limit p ≡ false) → is_limit (problem_of e) ≡ false
some_no_limit_at error e is h = subst (λ (o : Option Error). MatchOption (option_map problem_of o) ⊤ (λ p. is_limit p ≡ false)) is h

pub some_soft_at : (error : Option Error) (e : Error) → error ≡ Some e → IsSoft (option_map problem_of error)
    → holds_memory (problem_of e) ≡ false
some_soft_at error e is h = subst (λ (o : Option Error). IsSoft (option_map problem_of o)) is h

-- what errors report that hold no other

pub problem_of-Io : (fault : Fault) → problem_of (Io fault) ≡ io fault
problem_of-Io fault = ap problem_of (sym (rolls-Io fault)) ∙ fold-roll-Error Problem problem_step (open_error.Io fault)

pub problem_of-Memory : problem_of Memory ≡ memory
problem_of-Memory = ap problem_of (sym rolls-Memory) ∙ fold-roll-Error Problem problem_step open_error.Memory

pub memory_no_limit : (answer : Option Item) → answer ≡ Some (Err (problem_of Memory)) → answer ≡ Some (Err (io StepLimit)) → ⊥
memory_no_limit answer m l = cc (m, l, problem_of-Memory)
