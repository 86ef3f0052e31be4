-- What asks about the same is one for every reader; so is a copy of a copy.
use Rattle.std.proofs.Common.{◌≡◌, List, ℕ, Option, string_bytes, refl, sym, ap, ◌∙◌, subst}
use Rattle.ignore_dir.specs.declared.outside.Outside.{Outside}
use Rattle.ignore_dir.specs.declared.settings.Settings.{Settings}
use Rattle.ignore_dir.specs.Load.{AreLoads, Loaded}
use Rattle.ignore_dir.specs.Scene.{QueryScene, scene}
use Rattle.ignore_files.specs.Tree.{Tree}
use Rattle.ignore_files.specs.declared.files.Files.{Ghosts as Files}
use Rattle.ignore_query.specs.declared.asked.Asked.{Asked}
use Rattle.ignore_query.specs.Reached.{InEachScene, IsSame, dir_of, scene_of}

-- one that reads the settings, the rules from outside, the root and the working directory
abbrev pub Reader : Type 0 → Type 0
Reader R = Settings → Outside → List ℕ → Option (List ℕ) → R

abbrev pub read_of : {R : Type 0} → Reader R → Asked → R
read_of read a = read a.settings a.outside (string_bytes a.root) (dir_of a)

-- each reader reads the same of a copy
pub IsSame-reads : {R : Type 0} (read : Reader R) (a b : Asked) → IsSame a b → read_of read b ≡ read_of read a
IsSame-reads read a b h =
    ap (λ s. read s b.outside (string_bytes b.root) (dir_of b)) h.settings
    ∙ (ap (λ o. read a.settings o (string_bytes b.root) (dir_of b)) h.outside
    ∙ (ap (λ r. read a.settings a.outside r (dir_of b)) h.root
    ∙ ap (λ d. read a.settings a.outside (string_bytes a.root) d) h.dir))

-- the working directory of a copy is the same, and so is the scene over each tree
pub IsSame-dir : (a b : Asked) → IsSame a b → dir_of b ≡ dir_of a
IsSame-dir a b h = IsSame-reads (λ s o r d. d) a b h

pub IsSame-scene : (a b : Asked) (tree : Tree) (loads : List ℕ → Loaded) → IsSame a b → scene_of b tree loads ≡ scene_of a tree loads
IsSame-scene a b tree loads h = IsSame-reads (λ s o r d. scene tree loads s o r) a b h

-- what holds of each scene holds of each scene of a copy
pub IsSame-each : {F : Type 0} (files : Files F) (f : F) (a b : Asked) (P : QueryScene → Type 0) → IsSame a b → InEachScene files f a P
    → InEachScene files f b P
IsSame-each files f a b P h all tree loads honest are =
    subst P (sym (IsSame-scene a b tree loads h)) (all tree loads honest (subst (λ s. AreLoads tree s loads) h.settings are))

-- each is a copy of itself, and a copy of a copy is one of the first
pub IsSame-itself : (a : Asked) → IsSame a a
IsSame-itself a = record { settings = refl; outside = refl; root = refl; dir = refl }

pub IsSame-then : (a b c : Asked) → IsSame a b → IsSame b c → IsSame a c
IsSame-then a b c h k = record {
  settings = k.settings ∙ h.settings;
  outside = k.outside ∙ h.outside;
  root = k.root ∙ h.root;
  dir = k.dir ∙ h.dir;
}
