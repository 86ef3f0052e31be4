-- The errors of a builder of file types for a definition.
use Rattle.std.specs.Prelude.{◌≡◌, ◌⊎◌, List, Option, None}
use Rattle.ignore_base.specs.declared.error.Error.{Error}
use Rattle.ignore_base.specs.Problem.{problem_of, memory, invalid_definition}
use Rattle.ignore_types.specs.Types.{Definition}

-- the error is out of memory, or the definition isn't allowed and is reported as invalid
abbrev pub IsRefusal : Option (List Definition) → Error → Type 0
IsRefusal allowed e = (problem_of e ≡ memory) ⊎ ((problem_of e ≡ invalid_definition) × (allowed ≡ None))
