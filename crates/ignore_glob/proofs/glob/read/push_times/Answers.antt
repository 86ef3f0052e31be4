use Rattle.std.proofs.Common.{◌≡◌, ◌++◌, ◌∷◌, [], ap, ◌∙◌, add-one, arith}
use Rattle.std.proofs.lemmas.Grind.{common_steps}
use Rattle.ignore_glob.specs.Glob.{then}
use Rattle.ignore_glob.specs.View.{view}
use Rattle.ignore_glob.specs.LexemeViews.{simple_token_view}
use Rattle.ignore_glob.specs.ParserSteps.{put_tokens}
use Rattle.ignore_glob.proofs.ReadLemmas.{put_tokens-push, times-more}
use Rattle.ignore_glob.proofs.glob.read.push_times.Goals as goal

pub loop-i-preserved : goal.loop-i-preserved
loop-i-preserved c ts =
    let old = c.loop-i.tokens.items in
    let token = c.in_ok-token.token in
    let t = simple_token_view c.args.given in
    let pushed : c.push.new.self.items ≡ old ++ token ∷ [] = grind (arith, common_steps) in
    let same : view token ≡ t = c.in_ok-token.ensures in
    let more = ap (λ x. put_tokens c.args.tokens.now.items x) (times-more c.loop-i._i t ts) in
    rw add-one (ap (λ x. put_tokens x ts) pushed ∙
    (put_tokens-push old token ts ∙ (ap (λ v. put_tokens old (then v ts)) same ∙ (c.loop-i.invariant (then t ts) ∙ more))))
