-- Worked: where nothing is, which `stat` counts, and trees whose answers don't show that their listings
-- are whole.
use Rattle.std.proofs.Common.{◌≡◌, true, false, [], Result, Ok, Err, codes, refl, ap, if◌then◌else◌}
use Rattle.std.specs.Prelude.{is_ok}
use Rattle.std.specs.Str.{bytes_eq}
use Rattle.ignore_base.specs.Paths.{join_of}
use Rattle.ignore_base.specs.Text.{Path}
use Rattle.ignore_base.specs.declared.fault.Fault.{Fault}
use Rattle.ignore_base.specs.declared.fault.Fault.TheVariants.{NotFound}
use Rattle.ignore_files.specs.Tree.{Tree}
use Rattle.ignore_files.specs.Whole.{AreWhole, IsAbsent, IsWhole, is_found}
use Rattle.ignore_files.specs.declared.types.FileType.TheVariants as kind
use Rattle.ignore_files.specs.declared.types.Metadata.{Metadata}
use Rattle.ignore_files.specs.declared.types.Refusal.TheVariants as refusal

apart : true ≡ false → ⊥
apart same = cc (same)

-- with something at `/t/b`, or with something at `/t/b/c`, not all is absent at `/t/b`

pub not_here : IsAbsent (λ path. bytes_eq path (codes "/t/b")) (codes "/t/b") → ⊥
not_here h = apart h.here

pub not_below : IsAbsent (λ path. bytes_eq path (codes "/t/b/c")) (codes "/t/b") → ⊥
unfolding join_of
not_below h = apart (h.below (codes "c") refl)

-- so a listing of `/t` that lacks `b` isn't whole where `/t/b/c` is
pub not_whole_below : IsWhole (λ path. bytes_eq path (codes "/t/b/c")) (λ path. if bytes_eq path (codes "/t") then Ok [] else Err NotFound) → ⊥
unfolding join_of
not_whole_below whole = apart ((whole (codes "/t") (codes "b") [] refl refl).below (codes "c") refl)

-- a tree of directories that list nothing, where everything is
abbrev everywhere : Tree
everywhere = record {
  stat = λ p follow. Ok (record { file_type = kind.Dir; len = 0 });
  list = λ p. Ok [];
  contents = λ p. Err NotFound;
  canonical = λ p. Ok p;
  identity = λ p follow. Err NotFound;
}

-- the same, where everything is a link that leads nowhere
abbrev links : Tree
links = record everywhere { stat = λ p follow. if follow then Err NotFound else Ok (record { file_type = kind.Symlink; len = 1 }) }

-- a link that leads nowhere isn't found: the `stat` that counts follows links
pub link_to_nowhere : (is_found links (codes "/t/l") ≡ false) × (is_found everywhere (codes "/t/l") ≡ true)
link_to_nowhere = (refl, refl)

-- where no answers are given, a tree may have listings that aren't whole
pub none_answered : AreWhole (λ path follow r. ⊥) (λ path r. ⊥) → ⊥
unfolding join_of
none_answered h = apart (h everywhere (λ path follow r none. absurd none) (λ path r none. absurd none) (codes "/t") (codes "b") [] refl refl).here

-- where each `stat` answers that nothing is there, all listings are whole
pub nothing_there : AreWhole (λ path follow r. r ≡ Err (refusal.Fault NotFound)) (λ path r. ⊥)
nothing_there tree stats lists dir name listing answers lacking =
    record { here = missing (join_of dir name); below = λ rest relative. missing (join_of (join_of dir name) rest) }
  where
    missing : (path : Path) → is_found tree path ≡ false
    missing path = ap (λ (r : Result Metadata Fault). is_ok r) (stats path true (Err (refusal.Fault NotFound)) refl)
