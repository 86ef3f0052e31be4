-- What a buffer answers where it stands for a file.
use Rattle.std.specs.Prelude.{◌≡◌, None, Result, Ok, Err}
use Rattle.ignore.specs.Words.{Bytes}
use Rattle.ignore.specs.FileWords.{Contents, Memory, Refusal}

-- all of the text, or that memory ran out
abbrev pub IsText : Bytes → Result Contents Refusal → Type 0
IsText text (Ok contents) = contents ≡ record { bytes = text; fault = None }
IsText text (Err refusal) = refusal ≡ Memory
