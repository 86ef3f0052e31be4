-- Why a run ends early, and what was written and reported by then. Errors are reported line by
-- line, so a report begins with the rejected lines among the first ones.
use Rattle.std.specs.Prelude.{◌≡◌, ◌≢◌, List, [], ◌∷◌, ◌++◌, codes, ⊤, Option, None, Some}
use Rattle.std.specs.List.{flat_map}
use Rattle.std.specs.Str.Lines.{lines}
use Rattle.std.specs.declared.io.ErrorKind.{ErrorKind}
use Rattle.ignore_base.specs.Text.{Bytes, Path}
use Rattle.ignore_base.specs.Problem.{Problem, glob}
use Rattle.ignore_rules.specs.Rules.{Building, LineOptions, Refuses}
use Rattle.commands.specs.declared.stop.Stop.{Stop}
use Rattle.commands.specs.declared.stop.Stop.TheVariants.{Usage, Memory, Write, Silence}
use Rattle.commands.specs.Matching.{Adds}
use Rattle.commands.specs.Words.{Question}

-- the report of each early end; nothing where nothing can be written to the errors
abbrev pub reason : Stop → Bytes
reason Usage = codes "usage: igwalk match ROOT RULES PATH d|f | list ROOT.. | check ROOT PATH.." ++ 10 ∷ []
reason Memory = codes "igwalk: out of memory" ++ 10 ∷ []
reason Write = codes "igwalk: cannot write" ++ 10 ∷ []
reason Silence = []

-- that the output can't be written ends a run only where the output said so: by an error of some kind
abbrev pub SaidBy : (ErrorKind → Type 0) → Stop → Type 0
SaidBy fails Usage = ⊤
SaidBy fails Memory = ⊤
SaidBy fails Write = (kind : ErrorKind) × fails kind
SaidBy fails Silence = ⊤

-- what ends a run at a line with this problem: an invalid glob can't be reported, and the only
-- other problem is out of memory
abbrev pub line_stop : Problem → Stop
line_stop (glob pattern err) = Silence
line_stop _ = Memory

-- one line ended the run: out of memory, with nothing reported of it, or it is rejected and can't
-- be reported
abbrev pub EndsLine : LineOptions → Bytes → (Bytes → Type 0) → Stop → Type 0
EndsLine options line err Usage = ⊥
EndsLine options line err Memory = err []
EndsLine options line err Write = ⊥
EndsLine options line err Silence = (problem : Problem) × Refuses options line problem

-- these lines were added in turn, and the rejected ones reported
abbrev pub Reports : Path → List Bytes → (Bytes → Type 0) → Type 0
Reports root lines err = (builder : Building) × (reported : Bytes) × Adds root lines builder reported × err reported

-- the same for the first of these lines, up to some line
abbrev pub ReportsFirst : Path → List Bytes → (Bytes → Type 0) → Type 0
ReportsFirst root lines err = (first rest : List Bytes) × (lines ≡ first ++ rest) × Reports root first err

-- one of these lines is rejected, after the earlier ones were added in turn
abbrev pub HasRefused : Path → List Bytes → Type 0
HasRefused root lines =
    (first rest : List Bytes) × (line : Bytes) × (builder : Building) × (reported : Bytes) × (problem : Problem)
    × (lines ≡ first ++ line ∷ rest) × Adds root first builder reported × Refuses builder.options line problem

-- adding of lines ended: out of memory, or at a rejected line that can't be reported
abbrev pub EndsLines : Path → List Bytes → (Bytes → Type 0) → Stop → Type 0
EndsLines root lines err Usage = ⊥
EndsLines root lines err Memory = ReportsFirst root lines err
EndsLines root lines err Write = ⊥
EndsLines root lines err Silence = HasRefused root lines

-- writing the answer ended: out of memory, with nothing written, or a failed write
abbrev pub EndsAnswer : (Bytes → Type 0) → Stop → Type 0
EndsAnswer out Usage = ⊥
EndsAnswer out Memory = out []
EndsAnswer out Write = ⊤
EndsAnswer out Silence = ⊥

-- what was written when a run ended: nothing, unless writing the output failed
abbrev pub Wrote : (Bytes → Type 0) → Stop → Type 0
Wrote out Usage = out []
Wrote out Memory = out []
Wrote out Write = ⊤
Wrote out Silence = out []

-- what was reported by then of the lines of a question: of the first ones, or of all of them where
-- the answer can't be written; there is a rejected one where the errors can't be written
abbrev pub ReportedOf : Question → (Bytes → Type 0) → Stop → Type 0
ReportedOf question err Usage = ⊥
ReportedOf question err Memory = ReportsFirst question.root (lines question.rules) err
ReportedOf question err Write = Reports question.root (lines question.rules) err
ReportedOf question err Silence = HasRefused question.root (lines question.rules)

-- the run of a question ended early, with this output and these errors
abbrev pub Ends : Question → (Bytes → Type 0) → (Bytes → Type 0) → Stop → Type 0
Ends question out err stop = Wrote out stop × ReportedOf question err stop

-- of this line a beginning was written, after what was written before, and not all of it
abbrev pub BreaksOff : Bytes → Bytes → (Bytes → Type 0) → Type 0
BreaksOff written line out = (part rest : Bytes) × (line ≡ part ++ rest) × (rest ≢ []) × out (written ++ part)

-- a list or a check ended early, after some things, and at the next one if there is one: out of
-- memory, with the lines and the reports of those before it; by a failed write, with a beginning of
-- its line besides; or by a report of it that can't be written, with its whole line
abbrev pub EndsAfter : {T : Type 0} → (T → Bytes) → (T → Bytes) → List T → Option T → (Bytes → Type 0) → (Bytes → Type 0) → Stop → Type 0
EndsAfter line report all next out err Usage = ⊥
EndsAfter line report all next out err Memory = out (flat_map line all) × err (flat_map report all)
EndsAfter line report all None out err Write = ⊥
EndsAfter line report all (Some x) out err Write = BreaksOff (flat_map line all) (line x) out × err (flat_map report all)
EndsAfter line report all None out err Silence = ⊥
EndsAfter line report all (Some x) out err Silence = out (flat_map line all ++ line x) × (report x ≢ [])

-- the same for a reason of which this holds, which was reported after the other reports
abbrev pub EndsReportedAfter : (Stop → Type 0) → {T : Type 0} → (T → Bytes) → (T → Bytes) → List T → Option T → (Bytes → Type 0) → (Bytes → Type 0) → Type 0
EndsReportedAfter said line report all next out err =
    (stop : Stop) × (stop ≢ Silence) × EndsAfter line report all next out (λ bs. err (bs ++ reason stop)) stop × said stop

-- the same, and the reason can't be reported: after the other reports a beginning of it was written,
-- and not all of it
abbrev pub EndsUnreportedAfter : {T : Type 0} → (T → Bytes) → (T → Bytes) → List T → Option T → (Bytes → Type 0) → (Bytes → Type 0) → Stop → Type 0
EndsUnreportedAfter line report all next out err stop =
    EndsAfter line report all next out (λ bs. BreaksOff bs (reason stop) err) stop

-- the run of a question ended early for a reason of which this holds, which was reported after the
-- rejected lines
abbrev pub EndsReported : (Stop → Type 0) → Question → (Bytes → Type 0) → (Bytes → Type 0) → Type 0
EndsReported said question out err =
    (stop : Stop) × (stop ≢ Silence) × Wrote out stop × ReportedOf question (λ reported. err (reported ++ reason stop)) stop × said stop

-- the same, and the reason can't be reported: a beginning of it was written after the rejected lines,
-- and not all of it
abbrev pub EndsUnreported : Question → (Bytes → Type 0) → (Bytes → Type 0) → Stop → Type 0
EndsUnreported question out err stop =
    Wrote out stop × ReportedOf question (λ reported. BreaksOff reported (reason stop) err) stop

-- a reason can't be reported: a beginning of it was written, and not all of it; in silence nothing
abbrev pub IsUnreported : (Bytes → Type 0) → Stop → Type 0
IsUnreported err Usage = BreaksOff [] (reason Usage) err
IsUnreported err Memory = BreaksOff [] (reason Memory) err
IsUnreported err Write = BreaksOff [] (reason Write) err
IsUnreported err Silence = err []

-- the run of a question ended early, its output is gone, and the reason was reported after the
-- rejected lines
abbrev pub GoneReported : Question → (Bytes → Type 0) → Type 0
GoneReported question err =
    (stop : Stop) × (stop ≢ Silence) × ReportedOf question (λ reported. err (reported ++ reason stop)) stop

-- the same, and of the reason only a beginning was written
abbrev pub GoneUnreported : Question → (Bytes → Type 0) → Stop → Type 0
GoneUnreported question err stop = ReportedOf question (λ reported. BreaksOff reported (reason stop) err) stop

-- a list or a check ended early whose output is gone, after the reports of some things, and at the
-- next one if there is one: out of memory, or by a failed write; or by a report of it that can't be
-- written
abbrev pub GoneAfter : {T : Type 0} → (T → Bytes) → List T → Option T → (Bytes → Type 0) → Stop → Type 0
GoneAfter report all next err Usage = ⊥
GoneAfter report all next err Memory = err (flat_map report all)
GoneAfter report all next err Write = err (flat_map report all)
GoneAfter report all None err Silence = ⊥
GoneAfter report all (Some x) err Silence = report x ≢ []

-- the same, and the reason was reported after the other reports
abbrev pub GoneReportedAfter : {T : Type 0} → (T → Bytes) → List T → Option T → (Bytes → Type 0) → Type 0
GoneReportedAfter report all next err =
    (stop : Stop) × (stop ≢ Silence) × GoneAfter report all next (λ bs. err (bs ++ reason stop)) stop

-- the same, and of the reason only a beginning was written
abbrev pub GoneUnreportedAfter : {T : Type 0} → (T → Bytes) → List T → Option T → (Bytes → Type 0) → Stop → Type 0
GoneUnreportedAfter report all next err stop = GoneAfter report all next (λ bs. BreaksOff bs (reason stop) err) stop
