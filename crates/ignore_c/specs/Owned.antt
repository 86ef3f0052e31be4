-- What a handle owns: what it keeps, where it points, and the right to free that block.
use base.Fml.{Fml}
use base.Stored.{Coded}
use denote.RawPtr.{Ptr}
use Rattle.std.specs.Box.Ownership.{box_owns}
use Rattle.std.specs.Global.{Global}
use Rattle.std.specs.contracts.impls.GlobalAllocator.TheImpl.{ghosts}
use Rattle.ignore_kept.specs.contracts.kept.Kept.{the_row}
use Rattle.ignore_kept.specs.declared.kept.Kept.{Kept}

abbrev pub handle_owns : Global → Ptr → Kept → Fml
handle_owns alloc p kept = box_owns (ghosts.dealloc_token alloc) the_row p kept

-- how what a handle keeps is stored
abbrev pub kept_code : Coded Kept
kept_code = the_row.coded
