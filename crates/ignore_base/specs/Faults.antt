-- The text of a fault.
use Rattle.std.specs.Prelude.{codes}
use Rattle.ignore_base.specs.Text.{Bytes}
use Rattle.ignore_base.specs.declared.fault.Fault.{Fault}
use Rattle.ignore_base.specs.declared.fault.Fault.TheVariants.{NotFound, PermissionDenied, NotADirectory, IsADirectory, InvalidData}
use Rattle.ignore_base.specs.declared.fault.Fault.TheVariants.{BadName, LinkLimit, NoIdentity, NoCurrentDir, StepLimit, NoMetadata, Other}

-- what a fault prints
abbrev pub fault_text : Fault → Bytes
fault_text NotFound = codes "not found"
fault_text PermissionDenied = codes "permission denied"
fault_text NotADirectory = codes "not a directory"
fault_text IsADirectory = codes "is a directory"
fault_text InvalidData = codes "invalid data"
fault_text BadName = codes "file name is not UTF-8"
fault_text LinkLimit = codes "too many links"
fault_text NoIdentity = codes "identity unknown"
fault_text NoCurrentDir = codes "current directory unknown"
fault_text StepLimit = codes "step limit reached"
fault_text NoMetadata = codes "<stdin> has no metadata"
fault_text Other = codes "input or output failed"
