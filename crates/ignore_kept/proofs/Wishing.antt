-- What a builder is told is told to what the handle keeps.
use Rattle.std.proofs.Common.{◌≡◌, ◌⊎◌, false, List, Option, None, Some, Result, Ok, Err, inl, inr, refl, sym, ap, subst, option_map, ◌∙◌, Bor}
use Rattle.ignore.specs.Asked.{AddsIgnore}
use Rattle.ignore.specs.declared.options.WalkOptions.{WalkOptions}
use Rattle.ignore_base.specs.Problem.{Problem, invalid_definition, memory, problem_of}
use Rattle.ignore_base.specs.Text.{Bytes, Path}
use Rattle.ignore_base.specs.declared.error.Error.{Error}
use Rattle.ignore_files.specs.Answers.{tree_of}
use Rattle.ignore_files.specs.Memory.{Memory}
use Rattle.ignore_rules.specs.RuleFile.{is_memory}
use Rattle.ignore_rules.specs.Rules.{AddsLine, Building, Refuses}
use Rattle.ignore_types.specs.Building.{IsRefusedWith}
use Rattle.ignore_types.specs.Defaults.{Row, with_defaults}
use Rattle.ignore_types.specs.Types.{Becomes, Draft, after_request, one_glob, request_of}
use Rattle.ignore_kept.specs.Kinds.{setup_in, tree_in}
use Rattle.ignore_kept.specs.Setups.{keeping}
use Rattle.ignore_kept.specs.Trees as tree
use Rattle.ignore_kept.specs.Wishes.{AddsDefaults, AddsOf, AddsRules, Ails, Blames, Faulty, IsDenied, Takes, Wishes, well}
use Rattle.ignore_kept.specs.declared.kept.Kept.{Kept}
use Rattle.ignore_kept.specs.declared.setup.Setup.{Setup}
use Rattle.ignore_kept.specs.declared.stopped.Stopped.{Stopped}
use Rattle.ignore_kept.specs.declared.stopped.Stopped.TheVariants.{NotUtf8, Memory as Full, Limit, Invalid, Misused, Tree}
use Rattle.ignore_kept.specs.declared.wish.Wish.{Wish}
use Rattle.ignore_kept.specs.declared.wish.Wish.TheVariants as wish

pub wishes : (wish : Wish) (kept : Kept) (old : Setup) (r : Result (Unit {0}) Stopped) (new : Setup)
    → kept ≡ keeping old → Takes wish old r new → Wishes wish kept r (keeping new)
wishes wish kept old r new is h =
    subst (λ (k : Kept). Wishes wish k r (keeping new)) (sym is) (new, refl, h)

-- the types that are there by default are added to what the handle keeps
pub adds_defaults : (rows : List Row) (kept : Kept) (old new : Setup) → kept ≡ keeping old
    → new ≡ record (well old) { types = with_defaults rows old.types } → AddsDefaults rows kept (Ok tt) (keeping new)
adds_defaults rows kept old new is h = (old, ap setup_in is, ap keeping h)

pub adds_no_defaults : (rows : List Row) (kept : Kept) (old new : Setup) → kept ≡ keeping old → new ≡ old
    → AddsDefaults rows kept (Err Full) (keeping new)
adds_no_defaults rows kept old new is h = ap keeping h ∙ sym is

pub adds : (kept files : Kept) (path : Path) (old : Setup) (told : Memory) (r : Result (Unit {0}) Stopped) (new : Setup)
    → kept ≡ keeping old → files ≡ tree.keeping told → AddsRules told path old r new
    → AddsOf (setup_in kept) (tree_in files) path kept r (keeping new)
adds kept files path old told r new is t h =
    subst (λ (k : Kept). AddsOf (setup_in k) (tree_in files) path k r (keeping new)) (sym is)
    (subst (λ (f : Kept). AddsOf (Some old) (tree_in f) path (keeping old) r (keeping new)) (sym t) (new, refl, h))

-- a problem that isn't that memory ran out
not_memory : (problem : Problem) → is_memory problem ≡ false → problem ≡ memory → ⊥
not_memory problem other m = cc (subst (λ (p : Problem). is_memory p ≡ false) m other)

-- a problem that is kept is what is wrong with what was told
pub blamed : (wish : Wish) (old mid : Setup) (problem : Problem) (r : Result (Unit {0}) Stopped) (new : Setup) → mid ≡ old
    → (problem ≡ memory) ⊎ Faulty wish old problem → Blames problem mid r new → Takes wish old r new
blamed wish old mid problem (Err Full) new same why h = h ∙ same
blamed wish old mid problem (Err Invalid) new same (inr faulty) h =
    (problem, faulty, subst (λ (s : Setup). Ails problem s new) same h.1)
blamed wish old mid problem (Err Invalid) new same (inl m) h =
    absurd (not_memory problem h.0 m)
blamed wish old mid problem (Ok done) new same why h = absurd h
blamed wish old mid problem (Err other) new same why h = absurd h

-- a glob at a text is added to those that were begun
pub glob_added : (glob : Bor Bytes) (text : Bytes) (old : Setup) (before after : Building) → old.globs ≡ Some before
    → text ≡ glob.now → AddsLine before None text after
    → Takes (wish.Glob glob) old (Ok tt) (record old { globs = Some after; problem = None })
glob_added glob text old before after is e h =
    (before, after, is, subst (λ (t : Bytes). AddsLine before None t after) e h, refl)

-- or refused, and its problem kept
pub glob_refused : (glob : Bor Bytes) (text : Bytes) (old mid : Setup) (before : Building) (problem : Problem)
    (r : Result (Unit {0}) Stopped) (new : Setup) → old.globs ≡ Some before → text ≡ glob.now → mid ≡ old
    → (problem ≡ memory) ⊎ Refuses before.options text problem → Blames problem mid r new → Takes (wish.Glob glob) old r new
glob_refused glob text old mid before problem r new is e same (inl m) h = blamed (wish.Glob glob) old mid problem r new same (inl m) h
glob_refused glob text old mid before problem r new is e same (inr why) h =
    blamed (wish.Glob glob) old mid problem r new same
    (inr (before, is, subst (λ (t : Bytes). Refuses before.options t problem) e why)) h

-- a glob of a type is added
pub type_asked : (name glob : Bor Bytes) (n g : Bytes) (old : Setup) (types : Draft) → n ≡ name.now → g ≡ glob.now
    → Becomes old.types (after_request (one_glob n g) old.types.definitions) types
    → Takes (wish.TypeGlob name glob) old (Ok tt) (record old { types = types; problem = None })
type_asked name glob n g old types is same h =
    let h2 = subst (λ (x : Bytes). Becomes old.types (after_request (one_glob x g) old.types.definitions) types) is h in
    (subst (λ (y : Bytes). Becomes old.types (after_request (one_glob name.now y) old.types.definitions) types) same h2, refl)

pub type_refused : (name glob : Bor Bytes) (n g : Bytes) (old mid : Setup) (problem : Problem) (r : Result (Unit {0}) Stopped)
    (new : Setup) → n ≡ name.now → g ≡ glob.now → mid ≡ old
    → (problem ≡ memory) ⊎ ((problem ≡ invalid_definition) × (after_request (one_glob n g) old.types.definitions ≡ None))
    → Blames problem mid r new → Takes (wish.TypeGlob name glob) old r new
type_refused name glob n g old mid problem r new is of same (inl m) h =
    blamed (wish.TypeGlob name glob) old mid problem r new same (inl m) h
type_refused name glob n g old mid problem r new is of same (inr why) h =
    let w = subst (λ (x : Bytes). IsDenied (one_glob x g) old problem) is why in
    blamed (wish.TypeGlob name glob) old mid problem r new same
    (inr (subst (λ (y : Bytes). IsDenied (one_glob name.now y) old problem) of w)) h

-- a definition of a type is added
pub def_asked : (bytes : Bor Bytes) (text : Bytes) (old : Setup) (types : Draft) → text ≡ bytes.now
    → Becomes old.types (after_request (request_of text) old.types.definitions) types
    → Takes (wish.TypeDef bytes) old (Ok tt) (record old { types = types; problem = None })
def_asked bytes text old types is h =
    (subst (λ (x : Bytes). Becomes old.types (after_request (request_of x) old.types.definitions) types) is h, refl)

pub def_refused : (bytes : Bor Bytes) (text : Bytes) (old mid : Setup) (problem : Problem) (r : Result (Unit {0}) Stopped)
    (new : Setup) → text ≡ bytes.now → mid ≡ old
    → (problem ≡ memory) ⊎ ((problem ≡ invalid_definition) × (after_request (request_of text) old.types.definitions ≡ None))
    → Blames problem mid r new → Takes (wish.TypeDef bytes) old r new
def_refused bytes text old mid problem r new is same (inl m) h =
    blamed (wish.TypeDef bytes) old mid problem r new same (inl m) h
def_refused bytes text old mid problem r new is same (inr why) h =
    blamed (wish.TypeDef bytes) old mid problem r new same
    (inr (subst (λ (x : Bytes). IsDenied (request_of x) old problem) is why)) h

-- the chosen types don't count
pub types_refused : (old : Setup) (problem : Problem) (r : Result (Unit {0}) Stopped) (new : Setup)
    → (problem ≡ memory) ⊎ IsRefusedWith old.types problem → Blames problem old r new → Takes wish.SetTypes old r new
types_refused old problem r new why h = blamed wish.SetTypes old old problem r new refl why h

-- the rules of a file at a text are added
pub rules_added : (tree : Memory) (path text : Path) (old : Setup) (options : WalkOptions) (problem : Option Error) → text ≡ path
    → problem ≡ None → AddsIgnore (tree_of tree) old.env text old.options options (option_map problem_of problem)
    → AddsRules tree path old (Ok tt) (record old { options = options; problem = problem })
rules_added tree path text old options problem is none h = (
  subst (λ (p : Path). AddsIgnore (tree_of tree) old.env p old.options options None) is
      (subst (λ (e : Option Error). AddsIgnore (tree_of tree) old.env text old.options options (option_map problem_of e)) none h),
  ap (λ (e : Option Error). record old { options = options; problem = e }) none,
)

-- and what is wrong with it is kept
pub rules_refused : (tree : Memory) (path text : Path) (old : Setup) (options : WalkOptions) (problem : Option Error) (error : Error)
    → text ≡ path → problem ≡ Some error → AddsIgnore (tree_of tree) old.env text old.options options (option_map problem_of problem)
    → AddsRules tree path old (Err Invalid) (record old { options = options; problem = problem })
rules_refused tree path text old options problem error is one h = (
  problem_of error,
  subst (λ (p : Path). AddsIgnore (tree_of tree) old.env p old.options options (Some (problem_of error))) is
      (subst (λ (e : Option Error). AddsIgnore (tree_of tree) old.env text old.options options (option_map problem_of e)) one h),
  (ap (λ (e : Option Error). option_map problem_of e) one, refl),
)
