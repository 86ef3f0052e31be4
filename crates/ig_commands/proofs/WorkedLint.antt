-- Worked findings of `lint`: what is told, what has notes, and what can't be read.
use Rattle.std.proofs.Common.{◌≡◌, zero, suc, Bool, true, false, List, [], ◌∷◌, None, Some, Ok, arith, sym, subst, ◌∙◌}
use Rattle.ignore_base.specs.Text.{Path}
use Rattle.ignore_base.specs.declared.fault.Fault.{Fault}
use Rattle.ignore_files.specs.Tree.{Tree}
use Rattle.ignore_files.specs.declared.types.Contents.{Contents}
use Rattle.ig_every.specs.declared.diagnostic.Diagnostic.{Diagnostic}
use Rattle.ig_every.specs.declared.diagnostic.Wrong.TheVariants.{Nothing}
use Rattle.ig_options.specs.declared.options.Options.{Options}
use Rattle.ig_commands.specs.Lint.{HasOther, IsInFolders, IsLook, IsTold, MayNote, unread}

-- a rule that applies to no path is told, whichever files there are
pub no_path_is_told : (files : List Path) (path : Path) (d : Diagnostic) → d.wrong ≡ Nothing → IsTold files path (Some d) None → ⊥
no_path_is_told files path d is (inside, other) = subst IsInFolders is inside

-- of a single file each rule is told, since no other may re-include a folder
none_beside : (path : Path) → HasOther (path ∷ []) path → ⊥
none_beside path (other, (zero, less, is), differs) = differs (sym is)
none_beside path (other, (suc i, less, is), differs) = omega (arith, less)

pub single_is_told : (path : Path) (d : Diagnostic) → IsTold (path ∷ []) path (Some d) None → ⊥
single_is_told path d (inside, other) = none_beside path other

-- no notes are asked for where there may be none
pub no_notes : MayNote false true → ⊥
no_notes asked = cc asked

-- a file that can be read isn't told as one that can't
pub can_be_read : (tree : Tree) (o : Options) (files : List Path) (may : Bool) (path p : Path) (fault : Fault) (contents : Contents)
    → tree.contents path ≡ Ok contents → IsLook tree o files may path (unread p fault) → ⊥
can_be_read tree o files may path p fault contents is (same, cannot) = cc (sym is ∙ cannot)
