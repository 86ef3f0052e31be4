-- Words of fd, as globs and types.
use Rattle.std.specs.Prelude.{◌==◌, [], ◌∷◌, ◌++◌, codes, if◌then◌else◌}
use Rattle.ignore_base.specs.Text.{Bytes}

-- an extension without a dot before it
abbrev pub without_dot : Bytes → Bytes
without_dot [] = []
without_dot (byte ∷ rest) = if byte == 46 then rest else byte ∷ rest

-- the definition of the type `extension` by an extension: what ends in a dot and that
abbrev pub definition_of : Bytes → Bytes
definition_of extension = codes "extension:*." ++ without_dot extension
