-- Worked forms: by which text a pattern is looked up, how many passes a set may take, and which
-- patterns are short.
use Rattle.std.proofs.Common.{◌≡◌, ℕ, true, false, Bool, List, [], ◌∷◌, replicate, codes, refl, arith}
use Rattle.std.specs.Char.{encode_utf8}
use Rattle.ignore_glob.specs.Glob.{Tokens, done, then, literal, any, star, start, alternates, no_branch, branch}
use Rattle.ignore_glob.specs.Forms.{form_of, whole, name, ending, other}
use Rattle.ignore_set.specs.Sets.{Member, IsShort, pass_bound}

-- these letters, and then these tokens
spelled : List ℕ → Tokens → Tokens
spelled [] ts = ts
spelled (c ∷ cs) ts = then (literal c) (spelled cs ts)

-- `**/*.rs`, `**/main.rs`, `src/main.rs`, `**/li?.rs`, `{a}`
suffix : Tokens
suffix = then start (then star (spelled (codes ".rs") done))

file : Tokens
file = then start (spelled (codes "main.rs") done)

path : Tokens
path = spelled (codes "src/main.rs") done

letter : Tokens
letter = then start (spelled (codes "li") (then any (spelled (codes ".rs") done)))

braced : Tokens
braced = then (alternates (branch (spelled (codes "a") done) no_branch)) done

member : Tokens → Member
member ts = record { reading = record { tokens = ts; case_insensitive = false }; only_dir = false }

suffix-form : form_of (record { tokens = suffix; case_insensitive = false }) ≡ ending (codes ".rs")
unfolding suffix spelled encode_utf8
suffix-form = refl

file-form : form_of (record { tokens = file; case_insensitive = false }) ≡ name (codes "main.rs")
unfolding file spelled encode_utf8
file-form = refl

path-form : form_of (record { tokens = path; case_insensitive = false }) ≡ whole (codes "src/main.rs")
unfolding path spelled encode_utf8
path-form = refl

letter-form : form_of (record { tokens = letter; case_insensitive = false }) ≡ other
unfolding letter spelled encode_utf8
letter-form = refl

folded-form : form_of (record { tokens = path; case_insensitive = true }) ≡ other
folded-form = refl

one_pass : pass_bound (member suffix ∷ member file ∷ member path ∷ member letter ∷ []) ≡ 1
unfolding member suffix file path letter spelled encode_utf8
one_pass = refl

no_pass : pass_bound (member suffix ∷ member file ∷ member path ∷ []) ≡ 0
unfolding member suffix file path spelled encode_utf8
no_pass = refl

-- `src/main.rs` is short, whether it folds case or not
path-short : (fold : Bool) → IsShort (record { tokens = path; case_insensitive = fold })
unfolding path spelled
path-short fold = (refl, omega arith)

-- so is `**/li?.rs`
letter-short : (fold : Bool) → IsShort (record { tokens = letter; case_insensitive = fold })
unfolding letter spelled
letter-short fold = (refl, omega arith)

-- 62 letters are short
sixty_two-short : (fold : Bool) → IsShort (record { tokens = spelled (replicate 62 97) done; case_insensitive = fold })
unfolding spelled
sixty_two-short fold = (refl, omega arith)

-- 63 letters are not
sixty_three-long : (fold : Bool) → IsShort (record { tokens = spelled (replicate 63 97) done; case_insensitive = fold }) → ⊥
unfolding spelled
sixty_three-long fold short = absurd (omega (arith, short.1))

-- `{a}` is not short: it has braces
braces-long : (fold : Bool) → IsShort (record { tokens = braced; case_insensitive = fold }) → ⊥
unfolding braced
braces-long fold short = cc short.0
