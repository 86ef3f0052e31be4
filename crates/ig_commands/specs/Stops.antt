-- Why a command ends early, and what was written and reported by then.
use Rattle.std.specs.Prelude.{◌≡◌, ◌⊎◌, ℕ, [], ◌∷◌, ◌++◌, codes, ⊤}
use Rattle.std.specs.declared.io.ErrorKind.{ErrorKind}
use Rattle.std.specs.declared.io.ErrorKind.TheVariants.{BrokenPipe, FileTooLarge, OutOfMemory, QuotaExceeded, StorageFull}
use Rattle.ignore_base.specs.Text.{Bytes}
use Rattle.ig_commands.specs.declared.stop.Stop.{Stop}
use Rattle.ig_commands.specs.declared.stop.Stop.TheVariants.{Memory, Read, Write, Closed, Silence}
use Rattle.ig_commands.specs.declared.stop.Unwritten.{Unwritten}
use Rattle.ig_commands.specs.declared.stop.Unwritten.TheVariants.{Full, Quota, TooLarge, Other}

-- the text of why an output can't be written, after a colon; none where it isn't known
abbrev pub unwritten_text : Unwritten → Bytes
unwritten_text Full = codes ": no space left on the device"
unwritten_text Quota = codes ": the quota of the device is exceeded"
unwritten_text TooLarge = codes ": the file would be too large"
unwritten_text Other = []

-- the output can't be written, or nobody reads it any more
abbrev pub IsUnwritten : Stop → Type 0
IsUnwritten stop = ((why : Unwritten) × (stop ≡ Write why)) ⊎ (stop ≡ Closed)

-- the report of each early end; nothing of a closed pipe, and nothing where nothing can be written
abbrev pub reason : Stop → Bytes
reason Memory = codes "ig: out of memory" ++ 10 ∷ []
reason Read = codes "ig: cannot read standard input" ++ 10 ∷ []
reason (Write why) = codes "ig: cannot write" ++ (unwritten_text why ++ 10 ∷ [])
reason Closed = []
reason Silence = []

-- the status of each early end: that of a closed pipe is 0
abbrev pub stop_status : Stop → ℕ
stop_status Memory = 2
stop_status Read = 2
stop_status (Write why) = 2
stop_status Closed = 0
stop_status Silence = 2

-- why a failed write of this kind, and a failed read, ends a command
abbrev pub write_stop : ErrorKind → Stop
write_stop BrokenPipe = Closed
write_stop StorageFull = Write Full
write_stop QuotaExceeded = Write Quota
write_stop FileTooLarge = Write TooLarge
write_stop _ = Write Other

abbrev pub read_stop : ErrorKind → Stop
read_stop OutOfMemory = Memory
read_stop _ = Read

-- where a command ends since its output can't be written, or nobody reads it, the output fails by an
-- error of a kind that ends it so
abbrev pub SaidBy : (ErrorKind → Type 0) → Stop → Type 0
SaidBy fails Memory = ⊤
SaidBy fails Read = ⊤
SaidBy fails (Write why) = (kind : ErrorKind) × fails kind × (write_stop kind ≡ Write why)
SaidBy fails Closed = (kind : ErrorKind) × fails kind × (write_stop kind ≡ Closed)
SaidBy fails Silence = ⊤

-- it isn't the output that ended it
abbrev pub IsOther : Stop → Type 0
IsOther Memory = ⊤
IsOther Read = ⊤
IsOther (Write why) = ⊥
IsOther Closed = ⊥
IsOther Silence = ⊤

-- a command ended early, at one more thing to write, after these bytes were written and these
-- reported: out of memory, with nothing more written or reported; by a failed write or a closed
-- pipe, with nothing more reported; or by a report that can't be written
abbrev pub EndsAfter : Bytes → Bytes → (Bytes → Type 0) → (Bytes → Type 0) → Stop → Type 0
EndsAfter written reported out err Memory = out written × err reported
EndsAfter written reported out err Read = ⊥
EndsAfter written reported out err (Write why) = err reported
EndsAfter written reported out err Closed = err reported
EndsAfter written reported out err Silence = ⊤

-- the same of a command that reads standard input: that may not be readable, with nothing more written
-- or reported
abbrev pub EndsReading : Bytes → Bytes → (Bytes → Type 0) → (Bytes → Type 0) → Stop → Type 0
EndsReading written reported out err stop = EndsAfter written reported out err stop ⊎ ((stop ≡ Read) × out written × err reported)
