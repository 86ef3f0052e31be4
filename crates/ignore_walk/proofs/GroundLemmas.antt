-- From the frames, the settings and the devices of the code to those of a scene.
use Rattle.std.proofs.Common.{◌≡◌, ℕ, Bool, true, false, cond, not, ◌&&◌, ◌||◌, List, ◌∷◌, map, option_map, Option, None, Result, Ok, Err, refl, sym, ◌∙◌, subst}
use Rattle.std.specs.Result.{result_err}
use Rattle.ignore_base.specs.declared.fault.Fault.{Fault}
use Rattle.ignore_base.specs.Problem.{problem_of}
use Rattle.ignore_files.specs.declared.files.Files.{Ghosts as Files}
use Rattle.ignore_files.specs.declared.types.Identity.{Identity}
use Rattle.ignore_dir.specs.Load.{AreLoads}
use Rattle.ignore_dir.specs.declared.outside.Outside.{Outside}
use Rattle.ignore_dir.specs.declared.settings.Settings.{Settings}
use Rattle.ignore_dir.specs.Limits.{is_deepest}
use Rattle.ignore_walk.specs.declared.callbacks.Callbacks.{Ghosts as Callbacks}
use Rattle.ignore_walk.specs.declared.callbacks.Options.{Options}
use Rattle.ignore_walk.specs.declared.frame.Frame.{Frame}
use Rattle.ignore_walk.specs.declared.open.Opened.{Opened}
use Rattle.ignore_walk.specs.Branch.{Branch, entered}
use Rattle.ignore_walk.specs.Child.{identity_at, is_dir_kind}
use Rattle.ignore_walk.specs.Entry.{Entry}
use Rattle.ignore_walk.specs.Fates.{differ}
use Rattle.ignore_walk.specs.Frames.{AreFrames, device_of, inside, known_device, outermost}
use Rattle.ignore_walk.specs.Opens.{Opens}
use Rattle.ignore_walk.specs.Scene.{Scene}
use Rattle.ignore_walk.specs.Suits.{Suits}
use Rattle.ignore_walk.specs.Walked.{IsArranged, are_apart, enter, fate, ignores, is_foreign, is_skipped, is_too_large, leads_in, listing_of, load, yield}

-- Frames.

pub frames-paths : (g : Scene) (root : List ℕ) (b : Branch) (fs : List Frame) → AreFrames g root b fs
    → map (λ (f : Frame). f.path) fs ≡ entered root b
frames-paths g root b fs (outermost h) = rw h.path refl
frames-paths g root b fs (inside {b = c} {fs = others} h k) = rw (h.path, frames-paths g root c others k) refl

-- Scenes.

pub suited-loads : {F S : Type 0} (files : Files F) (calls : Callbacks S) (f : F) (owner : S) (s : Settings) (o : Outside) (options : Options)
    (g : Scene) → Suits files calls f owner s o options g → AreLoads g.tree s g.loads
suited-loads files calls f owner s o options g h = subst (λ (x : Settings). AreLoads g.tree x g.loads) h.settings h.loads

pub opens : (g : Scene) (p path text : List ℕ) (o : Opened) → p ≡ path → o.directory.path ≡ p → o.directory.text ≡ text
    → o.directory.dir ≡ (g.loads p).0 → option_map problem_of o.error ≡ (g.loads p).1
    → IsArranged g.order p (listing_of (g.tree.list p)) o.directory.rest.items → o.fault ≡ result_err (g.tree.list p) → Opens g path text o
opens g p path text o same at seen_as dir problem rest fault =
    subst (λ (q : List ℕ). Opens g q text o) same
    (record { at = at; seen_as = seen_as; dir = dir; problem = problem; rest = rest; fault = fault })

-- Which entries are skipped.

pub skipped-ignored : (g : Scene) (root : List ℕ) (b : Branch) (name : List ℕ) (e : Entry) → ignores g root (name ∷ b) (is_dir_kind e.kind) ≡ true
    → is_skipped g root (name ∷ b) e ≡ true
unfolding is_skipped
skipped-ignored g root b name e h = rw h refl

pub skipped-large : (g : Scene) (root : List ℕ) (b : Branch) (name : List ℕ) (e : Entry) → ignores g root (name ∷ b) (is_dir_kind e.kind) ≡ false
    → is_too_large g e ≡ true → is_skipped g root (name ∷ b) e ≡ true
unfolding is_skipped
skipped-large g root b name e h l = rw (h, l) refl

pub skipped-filtered : (g : Scene) (root : List ℕ) (b : Branch) (name : List ℕ) (e : Entry) → ignores g root (name ∷ b) (is_dir_kind e.kind) ≡ false
    → is_too_large g e ≡ false → is_skipped g root (name ∷ b) e ≡ not (g.keep e)
unfolding is_skipped
skipped-filtered g root b name e h l = rw (h, l) refl

-- What becomes of the others.

differ-by : (same : Bool) (r s : Result Identity Fault)
    → differ (cond same (known_device r) None) (cond same (known_device s) None) ≡ same && are_apart r s
differ-by false r s = refl
differ-by true (Ok a) (Ok b) = refl
differ-by true (Ok a) (Err f) = refl
differ-by true (Err f) s = refl

pub differ-foreign : (g : Scene) (root : List ℕ) (e : Entry) (a b : Option ℕ) → a ≡ device_of g root → b ≡ device_of g e.path
    → differ a b ≡ is_foreign g root e
differ-foreign g root e a b h k = rw (h, k) (differ-by g.same_file_system (identity_at g.tree root) (identity_at g.tree e.path))

pub fate-yield : (g : Scene) (root : List ℕ) (b : Branch) (e : Entry) → is_skipped g root b e ≡ false
    → not (leads_in g b e) || is_deepest g.settings.max_depth e.depth ≡ true → fate g root b e ≡ yield
unfolding fate
fate-yield g root b e h k = rw (h, k) refl

pub fate-load : (g : Scene) (root : List ℕ) (b : Branch) (e : Entry) → is_skipped g root b e ≡ false
    → not (leads_in g b e) || is_deepest g.settings.max_depth e.depth ≡ false → is_foreign g root e ≡ true → fate g root b e ≡ load
unfolding fate
fate-load g root b e h k f = rw (h, k, f) refl

pub fate-enter : (g : Scene) (root : List ℕ) (b : Branch) (e : Entry) → is_skipped g root b e ≡ false
    → not (leads_in g b e) || is_deepest g.settings.max_depth e.depth ≡ false → is_foreign g root e ≡ false → fate g root b e ≡ enter
unfolding fate
fate-enter g root b e h k f = rw (h, k, f) refl

-- an entry that isn't a leaf leads in
pub inner-leads : (leads leaf : Bool) → not leads || leaf ≡ false → leads ≡ true
inner-leads true leaf h = refl
inner-leads false leaf h = absurd (cc (h))

-- whether an entry is a leaf, as the code finds it
pub leaf-is : (g : Scene) (b : Branch) (e : Entry) (s : Settings) (leads : Bool) (depth : ℕ) (leaf value : Bool) → g.settings ≡ s
    → leads ≡ leads_in g b e → depth ≡ e.depth → leaf ≡ not leads || is_deepest s.max_depth depth → leaf ≡ value
    → not (leads_in g b e) || is_deepest g.settings.max_depth e.depth ≡ value
leaf-is g b e s leads depth leaf value same into deep is v = rw (same, sym into, sym deep) (sym is ∙ v)
