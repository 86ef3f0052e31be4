-- How large tokens are, by which their compilation ends.
use Rattle.std.proofs.Common.{ℕ, ◌+◌}
use Rattle.ignore_glob.specs.Glob.{Token, literal, any, star, start, middle, end, class, alternates, Tokens, done, then, Branches}
use Rattle.ignore_glob.specs.Glob.{no_branch, branch}

-- how many tokens and branches there are, at all depths
abbrev mutual
  pub token_size : Token → ℕ
  token_size (literal c) = 1
  token_size any = 1
  token_size star = 1
  token_size start = 1
  token_size middle = 1
  token_size end = 1
  token_size (class negated ranges) = 1
  token_size (alternates bs) = 1 + branches_size bs

  pub size : Tokens → ℕ
  size done = 0
  size (then t ts) = 1 + (token_size t + size ts)

  pub branches_size : Branches → ℕ
  branches_size no_branch = 0
  branches_size (branch ts bs) = 1 + (size ts + branches_size bs)
