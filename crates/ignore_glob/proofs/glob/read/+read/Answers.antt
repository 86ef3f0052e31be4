use Rattle.std.proofs.Common.{◌≡◌, ◌++◌, ◌∷◌, [], suc, List, length, ap, sym, ◌∙◌, subst, arith}
use Rattle.std.proofs.lemmas.Grind.{common_steps}
use Rattle.ignore_glob.specs.declared.glob.token.Token.TheVariants as Code
use Rattle.ignore_glob.specs.Glob.{then, alternates, no_branch, done}
use Rattle.ignore_glob.specs.Lexing.{Lexeme, comma, closing}
use Rattle.ignore_glob.specs.Row.{gives, braces, times, add_branch, nothing, further, nested}
use Rattle.ignore_glob.specs.View.{tokens_view, branches_view}
use Rattle.ignore_glob.specs.LexemeViews.{row_view, left_view, simple_token_view}
use Rattle.ignore_glob.specs.ParserSteps.{Balanced, put_tokens}
use Rattle.ignore_glob.proofs.Views.{view-Alternates}
use Rattle.ignore_glob.proofs.RowExists.{Means-leaves}
use Rattle.ignore_glob.proofs.ReadLemmas.{put_tokens-push, put_tokens-done, put_branches-none, Row-at, Inner-at, last_at, further_at}
use Rattle.ignore_glob.proofs.glob.read.+read.Goals as goal

pub read_level-returns-in-Ended-clause-level : goal.read_level-returns-in-Ended-clause-level
read_level-returns-in-Ended-clause-level t c =
    let rest = row_view c.loop-n.rest.now in
    rw (← put_tokens-done) (c.loop-n.invariant.level done rest (nothing (left_view c.loop-n.here) rest c.in-Ended.ensures))

pub read_level-loop-n-smaller-in_ok-push_times-in-Gives : goal.read_level-loop-n-smaller-in_ok-push_times-in-Gives
read_level-loop-n-smaller-in_ok-push_times-in-Gives t c =
    (Means-leaves (left_view c.loop-n.here) (row_view c.loop-n.rest.now)
    (gives c.in-Gives.n (simple_token_view c.in-Gives.given) (row_view c.in-Gives.more.now)) c.in-Gives.ensures).0

pub read_level-loop-n-preserved-in_ok-push_times-in-Gives : goal.read_level-loop-n-preserved-in_ok-push_times-in-Gives
read_level-loop-n-preserved-in_ok-push_times-in-Gives t c =
    let here = left_view c.loop-n.here in
    let rest = row_view c.loop-n.rest.now in
    let more = row_view c.in-Gives.more.now in
    let given = simple_token_view c.in-Gives.given in
    let leaves = Means-leaves here rest (gives c.in-Gives.n given more) c.in-Gives.ensures in
    record {
      level =
          λ ts out r. Row-at _ _ out _ _ (sym (c.in_ok-push_times-in-Gives.ensures ts))
          (c.loop-n.invariant.level (times c.in-Gives.n given ts) out
          (further here rest more out c.in-Gives.n given ts c.in-Gives.ensures r));
      balance = λ d b. leaves.1 d (c.loop-n.invariant.balance d b);
      shorter = omega (arith, leaves.0, c.loop-n.invariant.shorter);
    }

pub read_level-loop-n-preserved : goal.read_level-loop-n-preserved
read_level-loop-n-preserved t c =
    let here = left_view c.loop-n.here in
    let rest = row_view c.loop-n.rest.now in
    let inner = row_view c.in-Braces.inner.now in
    let after = row_view c.in_ok-branches-in-Braces.after.now in
    let branches = c.in_ok-branches-in-Braces.branches in
    let bs = branches_view branches.items in
    let read = c.in_ok-branches-in-Braces.ensures in
    let old = c.loop-n.tokens.items in
    let leaves = Means-leaves here rest (braces inner) c.in-Braces.ensures in
    let pushed : c.push.new.self.items ≡ old ++ Code.Alternates branches ∷ [] = grind (arith, common_steps) in
    record {
      level = λ ts out r.
          let one_more = ap (λ x. put_tokens x ts) pushed
          ∙ (put_tokens-push old (Code.Alternates branches) ts ∙ ap (λ v. put_tokens old (then v ts)) (view-Alternates branches)) in
          Row-at _ _ out _ _ (sym one_more) (c.loop-n.invariant.level (then (alternates bs) ts) out
          (nested here rest inner after out bs ts c.in-Braces.ensures read.inner r));
      balance = λ d b. read.balance d (leaves.1 d (c.loop-n.invariant.balance d b));
      shorter = omega (arith, leaves.0, read.shorter, c.loop-n.invariant.shorter);
    }

pub read_branches-returns-then-is_last-clause-inner : goal.read_branches-returns-then-is_last-clause-inner
read_branches-returns-then-is_last-clause-inner t c =
    let after = row_view c.in_ok-tokens.after.now in
    let more = row_view c.past_branch-is_last.result.1.now in
    let ts = tokens_view c.in_ok-tokens.tokens.items in
    let last : after ≡ closing ∷ more = c.past_branch-is_last.ensures.last c.if-is_last.true in
    let new = c.push_branch.new.branches.items in
    Inner-at _ more _ (branches_view new) (sym (c.in_ok-push_branch.ensures no_branch) ∙ put_branches-none new)
    (c.loop-branches.invariant.inner (add_branch ts no_branch) more
    (last_at (row_view c.loop-branches.rest.now) after more ts last c.in_ok-tokens.ensures.level))

pub read_branches-loop-branches-preserved : goal.read_branches-loop-branches-preserved
read_branches-loop-branches-preserved t c =
    let after = row_view c.in_ok-tokens.after.now in
    let more = row_view c.past_branch-is_last.result.1.now in
    let ts = tokens_view c.in_ok-tokens.tokens.items in
    let next : after ≡ comma ∷ more = c.past_branch-is_last.ensures.further (λ h. cc (h, c.if-is_last.false)) in
    record {
      inner =
          λ bs out i. Inner-at _ out _ _ (sym (c.in_ok-push_branch.ensures bs))
          (c.loop-branches.invariant.inner (add_branch ts bs) out
          (further_at (row_view c.loop-branches.rest.now) after more out ts bs next c.in_ok-tokens.ensures.level i));
      balance =
          λ d b. let B : List Lexeme → Type 0 = λ x. Balanced x (suc d) in
          subst B next (c.in_ok-tokens.ensures.balance (suc d) (c.loop-branches.invariant.balance d b));
      shorter = omega (arith, c.in_ok-tokens.ensures.shorter, c.loop-branches.invariant.shorter, ap length next);
    }
