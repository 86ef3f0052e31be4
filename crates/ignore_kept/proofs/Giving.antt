-- What a host gives, by the numbers of C.
use Rattle.std.proofs.Common.{◌≡◌, ◌≢◌, ℕ, Option, Some, None, refl, sym}
use Rattle.ignore_base.specs.Text.{Bytes}
use Rattle.ignore_base.specs.declared.fault.Fault.{Fault}
use Rattle.ignore_base.specs.declared.fault.Fault.TheVariants.{NotFound, PermissionDenied, NotADirectory, IsADirectory, InvalidData, BadName}
use Rattle.ignore_base.specs.declared.fault.Fault.TheVariants.{LinkLimit, NoIdentity, NoCurrentDir, StepLimit, NoMetadata, Other}
use Rattle.ignore_files.specs.declared.types.FileType.TheVariants as kind
use Rattle.ignore_guide.specs.Hosted.{path_answer, read_answer}
use Rattle.ignore_guide.specs.declared.hosted.Given.{Given}
use Rattle.ignore_guide.specs.declared.missing.Wanted.{Wanted}
use Rattle.ignore_guide.specs.declared.missing.Wanted.TheVariants as wanteds
use Rattle.ignore_kept.specs.Given.{IsGiven, IsNoFault, IsNoKind, fault_number, path_given, read_given}
use Rattle.ignore_kept.specs.Walking.{kind_code}

-- a number that is none of these is that of no kind
pub no_kind : (n : ℕ) → (n ≡ 0 → ⊥) → (n ≡ 1 → ⊥) → (n ≡ 2 → ⊥) → (n ≡ 4 → ⊥) → IsNoKind n
no_kind n a b c d None e = absurd (a (sym e))
no_kind n a b c d (Some kind.File) e = absurd (b (sym e))
no_kind n a b c d (Some kind.Dir) e = absurd (c (sym e))
no_kind n a b c d (Some kind.Symlink) e = refl
no_kind n a b c d (Some kind.Other) e = absurd (d (sym e))

-- nor of a fault
pub no_fault : (n : ℕ) → (n ≡ 0 → ⊥) → (n ≡ 1 → ⊥) → (n ≡ 2 → ⊥) → (n ≡ 3 → ⊥) → (n ≡ 4 → ⊥) → (n ≡ 5 → ⊥) → (n ≡ 6 → ⊥)
    → (n ≡ 7 → ⊥) → (n ≡ 8 → ⊥) → (n ≡ 9 → ⊥) → (n ≡ 10 → ⊥) → (n ≡ 11 → ⊥) → (n ≡ 255 → ⊥) → IsNoFault n
no_fault n a b c d e f g h i j k l m None is = m (sym is)
no_fault n a b c d e f g h i j k l m (Some NotFound) is = a (sym is)
no_fault n a b c d e f g h i j k l m (Some PermissionDenied) is = b (sym is)
no_fault n a b c d e f g h i j k l m (Some NotADirectory) is = c (sym is)
no_fault n a b c d e f g h i j k l m (Some IsADirectory) is = d (sym is)
no_fault n a b c d e f g h i j k l m (Some InvalidData) is = e (sym is)
no_fault n a b c d e f g h i j k l m (Some BadName) is = f (sym is)
no_fault n a b c d e f g h i j k l m (Some LinkLimit) is = g (sym is)
no_fault n a b c d e f g h i j k l m (Some NoIdentity) is = h (sym is)
no_fault n a b c d e f g h i j k l m (Some NoCurrentDir) is = i (sym is)
no_fault n a b c d e f g h i j k l m (Some StepLimit) is = j (sym is)
no_fault n a b c d e f g h i j k l m (Some NoMetadata) is = k (sym is)
no_fault n a b c d e f g h i j k l m (Some Other) is = l (sym is)

-- what is given has this kind, these bytes and this fault
pub given_is : (wanted : Wanted) (number : ℕ) (bytes : Bytes) (fault : ℕ) (why : Option Fault) (g : Given) → fault_number why ≡ fault
    → kind_code g.kind ≡ number → g.kind ≢ Some kind.Symlink → read_answer g.bytes g.fault ≡ read_given bytes why
    → (wanted ≡ wanteds.Canonical → path_answer g.path ≡ path_given bytes why) → IsGiven wanted number bytes fault g
given_is wanted number bytes fault why g n k unlinked r p =
    record { why = why; numbered = n; is_kind = k; no_link = unlinked; read = r; path = p }
