-- A change of a tree is one of what the handle keeps.
use Rattle.std.proofs.Common.{◌≡◌, ◌⊎◌, Result, Ok, Err, inl, inr, refl, sym, ap, subst, ◌∙◌}
use Rattle.ignore_base.specs.Text.{Bytes, Path}
use Rattle.ignore_files.specs.Changes.{Leaves, LeavesIfRoom, MakesIfRoom, link_added, made}
use Rattle.ignore_files.specs.Memory.{Memory}
use Rattle.ignore_files.specs.declared.tree_error.TreeError.{TreeError}
use Rattle.ignore_files.specs.declared.tree_error.TreeError.TheVariants.{Memory as NoMemory}
use Rattle.ignore_kept.specs.Kinds.{setup_in, tree_in}
use Rattle.ignore_kept.specs.Setups as setup
use Rattle.ignore_kept.specs.Setups.{Sets, SetsText, with_text}
use Rattle.ignore_kept.specs.Trees.{Applies, AppliesAs, Begins, Changes, keeping, told_of}
use Rattle.ignore_kept.specs.declared.change.Change.{Change}
use Rattle.ignore_kept.specs.declared.kept.Kept.{Kept}
use Rattle.ignore_kept.specs.declared.setup.Setup.{Setup}
use Rattle.ignore_kept.specs.declared.setup.Text.{Text}
use Rattle.ignore_kept.specs.declared.stopped.Stopped.{Stopped}
use Rattle.ignore_kept.specs.declared.stopped.Stopped.TheVariants.{NotUtf8, Memory as Full, Limit, Invalid, Misused, Tree}

begins_as : (due : Result Memory TreeError) (tree : Memory) → MakesIfRoom due (Ok tree) → due ≡ Ok tree
begins_as (Ok made) tree h = ap Ok (sym h)
begins_as (Err refused) tree h = absurd h

-- a tree that is made at a text that is the working directory is what the handle keeps
pub begins : (cwd text : Bytes) (tree : Memory) → text ≡ cwd → MakesIfRoom (made text) (Ok tree) → Begins cwd (Ok (keeping tree))
begins cwd text tree is h =
    (tree, subst (λ (t : Bytes). made t ≡ Ok tree) is (begins_as (made text) tree h), refl)

refuses_as : (due : Result Memory TreeError) (e : TreeError) → MakesIfRoom due (Err e) → (e ≡ NoMemory) ⊎ (due ≡ Err e)
refuses_as (Ok made) e h = inl h
refuses_as (Err refused) e h = inr (ap Err (sym h))

pub begins_none : (cwd text : Bytes) (e : TreeError) → text ≡ cwd → MakesIfRoom (made text) (Err e) → Begins cwd (Err (Tree e))
begins_none cwd text e is h =
    subst (λ (t : Bytes). (e ≡ NoMemory) ⊎ (made t ≡ Err e)) is (refuses_as (made text) e h)

leaves_room : (due : Result Memory TreeError) (text : Bytes) (r : Result (Unit {0}) TreeError) (old new : Memory)
    → LeavesIfRoom due r old new → AppliesAs due text old (told_of r) new
leaves_room (Ok after) text (Ok done) old new h = ap Ok (sym h)
leaves_room (Ok after) text (Err e) old new h = (h.1, inl h.0)
leaves_room (Err refused) text (Ok done) old new h = absurd h
leaves_room (Err refused) text (Err e) old new h = (h.1, inr (ap Err (sym h.0)))

leaves_surely : (due : Result Memory TreeError) (text : Bytes) (r : Result (Unit {0}) TreeError) (old new : Memory)
    → Leaves due r old new → AppliesAs due text old (told_of r) new
leaves_surely (Ok after) text (Ok done) old new h = ap Ok (sym h)
leaves_surely (Ok after) text (Err e) old new h = absurd h
leaves_surely (Err refused) text (Ok done) old new h = absurd h
leaves_surely (Err refused) text (Err e) old new h = (h.1, inr (ap Err (sym h.0)))

-- a call that may be out of memory
pub applied : (due : Result Memory TreeError) (text : Bytes) (r : Result (Unit {0}) TreeError) (s : Result (Unit {0}) Stopped)
    (old new : Memory) → LeavesIfRoom due r old new → s ≡ told_of r → AppliesAs due text old s new
applied due text r s old new h is =
    subst (λ (t : Result (Unit {0}) Stopped). AppliesAs due text old t new) (sym is) (leaves_room due text r old new h)

-- one that takes none
pub applied_surely : (due : Result Memory TreeError) (text : Bytes) (r : Result (Unit {0}) TreeError)
    (s : Result (Unit {0}) Stopped) (old new : Memory) → Leaves due r old new → s ≡ told_of r → AppliesAs due text old s new
applied_surely due text r s old new h is =
    subst (λ (t : Result (Unit {0}) Stopped). AppliesAs due text old t new) (sym is) (leaves_surely due text r old new h)

-- one that takes the text of a target
pub linked : (path target text : Bytes) (r : Result (Unit {0}) TreeError) (s : Result (Unit {0}) Stopped) (old new : Memory)
    → text ≡ target → LeavesIfRoom (link_added text old path) r old new → s ≡ told_of r
    → AppliesAs (link_added target old path) target old s new
linked path target text r s old new e h is =
    applied (link_added target old path) target r s old new (subst (λ (t : Bytes). LeavesIfRoom (link_added t old path) r old new) e h) is

changed : (kept : Kept) (change : Change) (path : Path) (old : Memory) (r : Result (Unit {0}) Stopped) (new : Memory)
    → kept ≡ keeping old → Applies change path old r new → Changes kept change path r (keeping new)
changed kept change path old (Ok done) new is h = (old, new, ap tree_in is, h, refl)
changed kept change path old (Err (Tree error)) new is h = (old, ap tree_in is, ap keeping h.0 ∙ sym is, h.1)
changed kept change path old (Err NotUtf8) new is h = (ap keeping h.0 ∙ sym is, inr h.1)
changed kept change path old (Err other) new is h = absurd h

-- the change of a tree at a text that is the path
pub changes : (kept : Kept) (change : Change) (path text : Path) (old : Memory) (r : Result (Unit {0}) Stopped) (new : Memory)
    → kept ≡ keeping old → text ≡ path → Applies change text old r new → Changes kept change path r (keeping new)
changes kept change path text old r new is e h =
    subst (λ (p : Path). Changes kept change p r (keeping new)) e (changed kept change text old r new is h)

-- a setting of options is one of what the handle keeps
pub sets : (f : Setup → Setup) (kept : Kept) (old new : Setup) → kept ≡ setup.keeping old → new ≡ f old
    → Sets f kept (Ok tt) (setup.keeping new)
sets f kept old new is h = (old, ap setup_in is, ap setup.keeping h)

-- a text of a builder is one of what the handle keeps
pub named : (what : Text) (bytes text : Bytes) (kept : Kept) (old new : Setup) → kept ≡ setup.keeping old → text ≡ bytes
    → new ≡ with_text what text old → SetsText what bytes kept (Ok tt) (setup.keeping new)
named what bytes text kept old new is e h =
    (old, ap setup_in is, ap setup.keeping (h ∙ ap (λ (t : Bytes). with_text what t old) e))

pub unnamed : (what : Text) (bytes : Bytes) (kept : Kept) (old new : Setup) → kept ≡ setup.keeping old → new ≡ old
    → SetsText what bytes kept (Err Full) (setup.keeping new)
unnamed what bytes kept old new is h = ap setup.keeping h ∙ sym is
