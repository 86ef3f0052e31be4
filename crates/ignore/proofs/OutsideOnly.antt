-- A tree has one list of rules from outside. So the matchers of a builder are asked one thing, a
-- finished walk has yielded one list, and no list is both within the limit of steps and above it.
use Rattle.std.proofs.Common.{◌≡◌, inl, inr, ℕ, Bool, true, false, List, map, Option, None, Some, sym, ap, ◌∙◌, subst, arith}
use Rattle.ignore_files.specs.declared.env.Env.{Env}
use Rattle.ignore_files.specs.declared.files.Files.{Ghosts as Files}
use Rattle.ignore_files.specs.Gives.{IsHonest}
use Rattle.ignore_files.specs.Tree.{Tree}
use Rattle.ignore_rules.specs.Rules.{Ruleset, empty}
use Rattle.ignore_rules.proofs.FilesOnly.{BuildsGlobal-one}
use Rattle.ignore_types.specs.TypeMatch.{Matcher}
use Rattle.ignore_dir.specs.declared.outside.Outside.{Outside}
use Rattle.ignore_dir.specs.Load.{started}
use Rattle.ignore_query.specs.declared.incremental.IncrementalIgnore.{IncrementalIgnore}
use Rattle.ignore_walk.specs.Entry.{Item}
use Rattle.ignore_walk.specs.Scene.{Scene}
use Rattle.ignore_walk.specs.Whole.{Whole}
use Rattle.ignore_walk.specs.declared.callbacks.Callbacks.{Ghosts as Callbacks}
use Rattle.ignore_walk.specs.declared.callbacks.Order.{Order}
use Rattle.ignore.specs.declared.options.WalkOptions.{WalkOptions}
use Rattle.ignore.specs.Asked.{IsGlobalByIf, IsGlobalIf, IsOutside, IsOutsideBy, base_dir}
use Rattle.ignore.specs.Headline.{IsAboveLimit, IsOnlyListIn, IsSceneOf}
use Rattle.ignore.specs.Matchers.{AreMatchers, asked_at, asked_by}

-- The rules from outside.

-- a builder has one list of rules of the global file
IsGlobalIf-one : (on : Bool) (tree : Tree) (env : Env) (b : WalkOptions) (dir : Option (List ℕ)) (rules others : Ruleset)
    → IsGlobalIf on tree env b dir rules → IsGlobalIf on tree env b dir others → rules ≡ others
IsGlobalIf-one false tree env b dir rules others h k = h ∙ sym k
IsGlobalIf-one true tree env b None rules others h k = h ∙ sym k
IsGlobalIf-one true tree env b (Some dir) rules others h k =
    (BuildsGlobal-one tree env (started b.settings dir) rules others h.0 k.0 h.1 k.1).0

-- rules from outside are four things
same_outside : (a b : Outside) → a.overrides ≡ b.overrides → a.types ≡ b.types → a.global ≡ b.global → a.explicit ≡ b.explicit → a ≡ b
same_outside a b o t g e =
    ap (λ (x : Ruleset). let o : Outside = record {
      overrides = x;
      types = a.types;
      global = a.global;
      explicit = a.explicit;
    } in o) o
    ∙ (ap (λ (x : Matcher). let o : Outside = record {
      overrides = b.overrides;
      types = x;
      global = a.global;
      explicit = a.explicit;
    } in o) t
    ∙ (ap (λ (x : Ruleset). let o : Outside = record {
      overrides = b.overrides;
      types = b.types;
      global = x;
      explicit = a.explicit;
    } in o) g
    ∙ ap (λ (x : List Ruleset). let o : Outside = record {
      overrides = b.overrides;
      types = b.types;
      global = b.global;
      explicit = x;
    } in o) e))

-- a tree, an environment and a builder have one list of rules from outside
pub IsOutside-one : (tree : Tree) (env : Env) (b : WalkOptions) (o p : Outside) → IsOutside tree env b o → IsOutside tree env b p → o ≡ p
IsOutside-one tree env b o p h k =
    same_outside o p (h.overrides ∙ sym k.overrides) (h.types ∙ sym k.types)
    (IsGlobalIf-one b.settings.git_global tree env b (base_dir b env) o.global p.global h.global k.global) (h.explicit ∙ sym k.explicit)

-- by files that answer nothing the global file has no rules
IsGlobalByIf-silent : (on : Bool) (b : WalkOptions) (dir : Option (List ℕ)) (rules : Ruleset)
    → IsGlobalByIf on (λ path answer. ⊥) b dir rules → rules ≡ empty
IsGlobalByIf-silent false b dir rules h = h
IsGlobalByIf-silent true b None rules h = h
IsGlobalByIf-silent true b (Some dir) rules (problem, inl none) = none.0
IsGlobalByIf-silent true b (Some dir) rules (problem, inr (path, answer, gives, builds)) = absurd gives

-- and so the rules from outside are those that the builder has
IsOutsideBy-silent : (env : Env) (b : WalkOptions) (o : Outside) → IsOutsideBy (λ path answer. ⊥) env b o
    → o ≡ record { overrides = b.overrides; types = b.types; global = empty; explicit = b.explicit }
IsOutsideBy-silent env b o h =
    same_outside o (record { overrides = b.overrides; types = b.types; global = empty; explicit = b.explicit }) h.overrides h.types
    (IsGlobalByIf-silent b.settings.git_global b (base_dir b env) o.global h.global) h.explicit

-- What follows.

-- the matchers of a builder are asked by one list of settings, rules from outside, roots and
-- directories
AreMatchers-one : (tree : Tree) (env : Env) (b : WalkOptions) (ms ns : List IncrementalIgnore) → AreMatchers tree env b ms
    → AreMatchers tree env b ns → map asked_by ms ≡ map asked_by ns
AreMatchers-one tree env b ms ns h k =
    h.2 ∙ (ap (λ (o : Outside). asked_at b o env.current_dir) (IsOutside-one tree env b h.0 k.0 h.1 k.1) ∙ sym k.2)

-- a scene by some rules from outside is one by any that the builder has
pub scene_by : {S : Type 0} (calls : Callbacks S) (owner : S) (env : Env) (b : WalkOptions) (order : Order) (tree : Tree) (o p : Outside)
    (g : Scene) → IsOutside tree env b o → IsOutside tree env b p → IsSceneOf calls owner b order tree o g
    → IsSceneOf calls owner b order tree p g
scene_by calls owner env b order tree o p g h k scene =
    subst (λ (x : Outside). IsSceneOf calls owner b order tree x g) (IsOutside-one tree env b o p h k) scene

-- two finished walks of a builder have yielded one list in a tree, that of the definition
IsOnlyListIn-one : {S : Type 0} (calls : Callbacks S) (owner : S) (env : Env) (b : WalkOptions) (order : Order) (tree : Tree) (o : Outside)
    (g : Scene) (xs ys items : List Item) (n : ℕ) → IsOutside tree env b o → IsSceneOf calls owner b order tree o g
    → Whole g b.roots items n → IsOnlyListIn calls owner env b order tree xs → IsOnlyListIn calls owner env b order tree ys → xs ≡ ys
IsOnlyListIn-one calls owner env b order tree o g xs ys items n outside scene whole h k =
    (h.2 g items n (scene_by calls owner env b order tree o h.0 g outside h.1 scene) whole).0
    ∙ sym (k.2 g items n (scene_by calls owner env b order tree o k.0 g outside k.1 scene) whole).0

-- a walk that has yielded the list of the definition in a tree isn't above the limit of steps
IsAboveLimit-never : {F S : Type 0} (files : Files F) (calls : Callbacks S) (f : F) (owner : S) (env : Env) (b : WalkOptions)
    (order : Order) (tree : Tree) (o : Outside) (g : Scene) (all items : List Item) (n : ℕ) → IsHonest files f tree
    → IsOutside tree env b o → IsSceneOf calls owner b order tree o g → Whole g b.roots items n
    → IsOnlyListIn calls owner env b order tree all → IsAboveLimit files calls f owner env b order → ⊥
IsAboveLimit-never files calls f owner env b order tree o g all items n honest outside scene whole h above =
    let k = above tree honest in
    let within = (h.2 g items n (scene_by calls owner env b order tree o h.0 g outside h.1 scene) whole).1 in
    let more = k.2 g items n (scene_by calls owner env b order tree o k.0 g outside k.1 scene) whole in
    omega (arith, within, more)
