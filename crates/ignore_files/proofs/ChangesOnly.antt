-- What a call leaves of a tree in memory is one tree; what it refuses with is one refusal.
use Rattle.std.proofs.Common.{◌≡◌, Result, Ok, Err, sym, ◌∙◌}
use Rattle.ignore_files.specs.Memory.{Memory}
use Rattle.ignore_files.specs.Changes.{Leaves, LeavesIfRoom, MakesIfRoom}
use Rattle.ignore_files.specs.declared.tree_error.TreeError.{TreeError}

Leaves-one : {A : Type 0} (reported : Result Memory TreeError) (r s : Result A TreeError) (old a b : Memory) → Leaves reported r old a
    → Leaves reported s old b → a ≡ b
Leaves-one (Ok after) (Ok x) (Ok y) old a b h k = h ∙ sym k
Leaves-one (Ok after) (Ok x) (Err e) old a b h k = absurd k
Leaves-one (Ok after) (Err e) s old a b h k = absurd h
Leaves-one (Err refused) (Ok x) s old a b h k = absurd h
Leaves-one (Err refused) (Err e) (Ok y) old a b h k = absurd k
Leaves-one (Err refused) (Err e) (Err f) old a b h k = h.1 ∙ sym k.1

Leaves-refuses : (A : Type 0) (reported : Result Memory TreeError) (e f : TreeError) (old a b : Memory)
    → Leaves {A = A} reported (Err e) old a → Leaves {A = A} reported (Err f) old b → e ≡ f
Leaves-refuses A (Ok after) e f old a b h k = absurd h
Leaves-refuses A (Err refused) e f old a b h k = h.0 ∙ sym k.0

-- a call that needs memory: where it isn't refused it leaves one tree, and where it is refused it
-- has one refusal and changes nothing
LeavesIfRoom-one : {A : Type 0} (reported : Result Memory TreeError) (x y : A) (old a b : Memory) → LeavesIfRoom reported (Ok x) old a
    → LeavesIfRoom reported (Ok y) old b → a ≡ b
LeavesIfRoom-one (Ok after) x y old a b h k = h ∙ sym k
LeavesIfRoom-one (Err refused) x y old a b h k = absurd h

LeavesIfRoom-refuses : (A : Type 0) (reported : Result Memory TreeError) (e f : TreeError) (old a b : Memory)
    → LeavesIfRoom {A = A} reported (Err e) old a → LeavesIfRoom {A = A} reported (Err f) old b → (e ≡ f) × (a ≡ old)
LeavesIfRoom-refuses A (Ok after) e f old a b h k = (h.0 ∙ sym k.0, h.1)
LeavesIfRoom-refuses A (Err refused) e f old a b h k = (h.0 ∙ sym k.0, h.1)

MakesIfRoom-one : (reported : Result Memory TreeError) (a b : Memory) → MakesIfRoom reported (Ok a) → MakesIfRoom reported (Ok b) → a ≡ b
MakesIfRoom-one (Ok made) a b h k = h ∙ sym k
MakesIfRoom-one (Err refused) a b h k = absurd h

MakesIfRoom-refuses : (reported : Result Memory TreeError) (e f : TreeError) → MakesIfRoom reported (Err e) → MakesIfRoom reported (Err f)
    → e ≡ f
MakesIfRoom-refuses (Ok made) e f h k = h ∙ sym k
MakesIfRoom-refuses (Err refused) e f h k = h ∙ sym k
