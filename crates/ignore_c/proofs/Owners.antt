-- A box, its pointer and a handle own the same, and have the same two fields: what the library
-- shows of a box serves for all three.
use mir.Syntax.{Dict, impl, tnil, dnil}
use mathlib.Core.List.{[]}
use denote.RattleType.{RattleType}
use denote.Param.Laws.{Laws}
use Rattle.std.specs.declared.alloc.Allocator.{Ghosts}
use Rattle.std.specs.contracts.alloc.Global as heap
use Rattle.std.proofs.alloc.Global.TheLaws as heap_laws
use Rattle.std.specs.contracts.impls.GlobalAllocator.TheImpl.{ghosts}
use Rattle.std_alloc.proofs.BoxSteps.Form.{Bx}
use Rattle.ignore_c.specs.contracts.handle.Handle as handle
use Rattle.ignore_kept.specs.contracts.kept.Kept as kept
use Rattle.ignore_c.specs.contracts.loose.Loose as loose
use Rattle.ignore_kept.proofs.kept.Kept.TheLaws as kept_laws

-- a box of a value of any type, by any allocator
abbrev pub boxed : (T A : RattleType) → Laws T → Laws A → Ghosts A.Denot → Dict → Dict → Bx
boxed T A of_value of_alloc g d drops =
    record { row = T; laws = of_value; al = record { row = A; laws = of_alloc; g = g; d = d; drops = drops } }

-- a box of what a handle keeps
abbrev pub kept_box : Bx
kept_box = boxed kept.the_row heap.the_row kept_laws.the_row_laws heap_laws.the_row_laws ghosts (impl [] tnil dnil) (impl [] tnil dnil)

-- its pointer, and a handle
abbrev pub loose_row : RattleType
loose_row = loose.the_row kept.the_row heap.the_row ghosts

abbrev pub handle_row : RattleType
handle_row = handle.the_row
