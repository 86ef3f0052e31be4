-- Vectors: values with a name, a kind, an input and wanted fields.
use Rattle.std.specs.Prelude.{◌≡◌, codes, Option, Some, None, IsSome, is_some, option_and_then, if◌then◌else◌}
use Rattle.vectors.specs.Text.{Bytes}
use Rattle.serde_json.specs.Data.{Data, Members}
use Rattle.serde_json.specs.Find.{get, as_str, as_object}
use Rattle.vectors.specs.declared.trouble.Trouble.{Trouble}
use Rattle.vectors.specs.declared.trouble.Trouble.TheVariants.{Field, Memory}

-- the field that is reported as missing or of another form
abbrev pub named_field : Trouble → Option Bytes
named_field (Field name) = Some name.now
named_field Memory = None

-- the text in this field, if it has one
abbrev pub text_in : Bytes → Data → Option Bytes
text_in name d = option_and_then as_str (get name d)

-- the members of the object in this field, if it has one
abbrev pub object_in : Bytes → Data → Option Members
object_in name d = option_and_then as_object (get name d)

-- the value is a vector with this name, this kind, an object as input, and these wanted fields
pub record IsVector (d : Data) (id kind : Bytes) (input : Data) (wanted : Members) : Type 0 where
  pub named : text_in (codes "id") d ≡ Some id
  pub of_kind : text_in (codes "kind") d ≡ Some kind
  pub asks : get (codes "in") d ≡ Some input
  pub about : IsSome (as_object input)
  pub wants : object_in (codes "out") d ≡ Some wanted

-- the first of the four fields that is missing or of another form
abbrev pub wrong_field : Data → Option Bytes
wrong_field d =
    if is_some (text_in (codes "id") d)
    then (if is_some (text_in (codes "kind") d)
    then (if is_some (object_in (codes "in") d)
    then (if is_some (object_in (codes "out") d) then None else Some (codes "out"))
    else Some (codes "in"))
    else Some (codes "kind"))
    else Some (codes "id")
