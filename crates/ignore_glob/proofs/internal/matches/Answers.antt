use Rattle.std.proofs.Common.{◌↔◌, IsTrue, subst}
use Rattle.std.specs.Str.{chars}
use Rattle.std.proofs.lemmas.Bool.Decides.{same_from_decides}
use Rattle.ignore_glob.specs.Reading.{Reading, Matches}
use Rattle.ignore_glob.proofs.DoesMatchLemmas.{matching_decided}
use Rattle.ignore_glob.proofs.internal.matches.Goals as goal

pub returns-clause-value : goal.returns-clause-value
returns-clause-value c =
    let R : Reading → Type 0 = λ r. IsTrue c.in_ok-matches.field-0 ↔ Matches r (chars c.args.text.now) in
    subst R c.matcher.ensures c.in_ok-matches.ensures.value

pub returns-clause-decided : goal.returns-clause-decided
returns-clause-decided c =
    same_from_decides _ _ (returns-clause-value c) (matching_decided c.args.pattern.now (chars c.args.text.now))
