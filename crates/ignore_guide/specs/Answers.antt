-- Answers by paths.
use Rattle.std.specs.Prelude.{List, Option, option_map, reverse}
use Rattle.std.specs.List.{find}
use Rattle.std.specs.Str.{bytes_eq}
use Rattle.ignore_base.specs.Text.{Path}
use Rattle.ignore_guide.specs.declared.answers.Answer.{Answer}

-- the last answer of a path
abbrev pub answer_at : {V : Type 0} → List (Answer V) → Path → Option V
answer_at answers path = option_map (λ a. a.value) (find (λ a. bytes_eq a.path path) (reverse answers))
