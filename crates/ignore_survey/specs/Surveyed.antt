-- The items of a survey of the code.
use Rattle.std.specs.Prelude.{Result, Ok, Err, string_bytes}
use Rattle.ignore_base.specs.Problem.{problem_of}
use Rattle.ignore_base.specs.declared.error.Error.{Error}
use Rattle.ignore_why.specs.QueryWhy.{query_why_of}
use Rattle.ignore_survey.specs.Survey.{Entry, Item}
use Rattle.ignore_survey.specs.declared.surveyed.Surveyed.{Surveyed}

-- the entry that a value of the code stands for
abbrev pub entry_of : Surveyed → Entry
entry_of s =
    record { path = string_bytes s.path; kind = s.file_type; answer = s.explanation.answer; why = query_why_of s.explanation.reason }

-- the item that a value of the code stands for
abbrev pub item_of : Result Surveyed Error → Item
item_of (Ok s) = Ok (entry_of s)
item_of (Err e) = Err (problem_of e)
