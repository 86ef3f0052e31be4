use Rattle.std.proofs.Common.{rules, ◌≡◌, false, All}
use Rattle.ignore_excludes.specs.Excludes.{is_space}
use Rattle.ignore_excludes.proofs.ExcludesBlanks.{one_by_one}
use Rattle.ignore_excludes.proofs.excludes.split_word.Goals as goal

pub returns-clause-word : goal.returns-clause-word
returns-clause-word c =
    let solid : All (λ b. is_space b ≡ false) c.split_at.result.0.now = search rules in
    one_by_one (λ b. is_space b ≡ false) c.split_at.result.0.now solid
