use Rattle.std.proofs.lemmas.Str.Pattern.{contains_text}
use Rattle.uses.proofs.WordLemmas.{is_test}
use Rattle.uses.proofs.search.has_word.Goals as goal

pub returns : goal.returns
returns c =
    let test = contains_text c.contains.result c.args.word.now c.args.line.now c.contains.ensures.cases in
    record { value = is_test c.contains.result c.args.word.now c.args.line.now test; stands = test }
