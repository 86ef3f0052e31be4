-- What a directory gives, reported one by one.
use Rattle.std.proofs.Common.{◌≡◌, inl, inr, List, [], ◌∷◌, ◌++◌, Option, Some, None, Result, MatchOption, subst, sym}
use Rattle.std.specs.declared.io.Error.{Error}
use Rattle.ignore_files.specs.declared.machine.Machine.{Ghosts}
use Rattle.ignore_files.specs.declared.types.Listed.{Listed}
use Rattle.ignore_files.specs.Machine.{AreReported, IsReported, IsGone}

-- one more is reported
AreReported-push : {R M E D F : Type 0} (machine : Ghosts R M E D F) (all : List (Result E Error))
    (items : List Listed) (one : Result E Error) (item : Listed) → AreReported machine all items
    → IsReported machine one item → AreReported machine (all ++ one ∷ []) (items ++ item ∷ [])
AreReported-push machine [] [] one item reported next = inl (next, tt)
AreReported-push machine [] (i ∷ items) one item reported next = absurd reported
AreReported-push machine (o ∷ all) [] one item (gone, reported) next =
    inr (gone, AreReported-push machine all [] one item reported next)
AreReported-push machine (o ∷ all) (i ∷ items) one item (inl (is, reported)) next =
    inl (is, AreReported-push machine all items one item reported next)
AreReported-push machine (o ∷ all) (i ∷ items) one item (inr (gone, reported)) next =
    inr (gone, AreReported-push machine all (i ∷ items) one item reported next)

-- one more is gone
AreReported-gone : {R M E D F : Type 0} (machine : Ghosts R M E D F) (all : List (Result E Error))
    (items : List Listed) (one : Result E Error) → AreReported machine all items
    → IsGone machine one → AreReported machine (all ++ one ∷ []) items
AreReported-gone machine [] [] one reported next = (next, tt)
AreReported-gone machine [] (i ∷ items) one reported next = absurd reported
AreReported-gone machine (o ∷ all) [] one (gone, reported) next =
    (gone, AreReported-gone machine all [] one reported next)
AreReported-gone machine (o ∷ all) (i ∷ items) one (inl (is, reported)) next =
    inl (is, AreReported-gone machine all items one reported next)
AreReported-gone machine (o ∷ all) (i ∷ items) one (inr (gone, reported)) next =
    inr (gone, AreReported-gone machine all (i ∷ items) one reported next)

-- either
pub AreReported-next : {R M E D F : Type 0} (machine : Ghosts R M E D F) (all : List (Result E Error))
    (items new : List Listed) (one : Result E Error) (item : Option Listed) → AreReported machine all items
    → MatchOption item (IsGone machine one) (λ listed. IsReported machine one listed)
    → MatchOption item (new ≡ items) (λ listed. new ≡ items ++ listed ∷ []) → AreReported machine (all ++ one ∷ []) new
AreReported-next machine all items new one None reported gone same =
    subst (λ l. AreReported machine (all ++ one ∷ []) l) (sym same) (AreReported-gone machine all items one reported gone)
AreReported-next machine all items new one (Some item) reported is same =
    subst (λ l. AreReported machine (all ++ one ∷ []) l) (sym same) (AreReported-push machine all items one item reported is)
