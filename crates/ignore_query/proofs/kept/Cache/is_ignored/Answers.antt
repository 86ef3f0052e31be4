use Rattle.std.proofs.Common.{◌≡◌, ◌++◌, ℕ, List, All, sym, ap, ◌∙◌, subst}
use Rattle.ignore_base.specs.Paths.{IsName}
use Rattle.ignore_dir.specs.Chains.{slashed}
use Rattle.ignore_dir.specs.Query.{is_ignored}
use Rattle.ignore_dir.specs.Verdict.{is_ignore}
use Rattle.ignore_query.specs.Agrees.{Agrees, IsNext}
use Rattle.ignore_query.specs.Reached.{scene_of}
use Rattle.ignore_query.proofs.ChainLemmas.{joined-slashed}
use Rattle.ignore_query.proofs.KeepLemmas.{Ends, empty_key, ends, ignored_last, key_end, last, none, root_named, some_named}
use Rattle.ignore_query.proofs.kept.Cache.is_ignored.Goals as goal

pub returns-then-is_empty : goal.returns-then-is_empty
returns-then-is_empty c = record {
  value = λ tree loads names agrees clean key next.
      root_named (scene_of c.args.asked.now tree loads) names (empty_key names c.args.key.now key (sym c.is_empty.ensures ∙ c.if-is_empty.true));
}

pub returns : goal.returns
returns c = record {
  value = λ tree loads names agrees clean key next. by names tree loads agrees clean key next (ends names);
}
  where
    by : (names : List (List ℕ)) (tree : _) (loads : _) → Agrees (scene_of c.args.asked.now tree loads) c.args.self.now → All IsName names
        → c.args.key.now ≡ slashed names → IsNext c.args.self.now names c.args.place → Ends names
        → c.is_ignore.result ≡ is_ignored (scene_of c.args.asked.now tree loads) names
    by names tree loads agrees clean key next (none e) = absurd (some_named names c.args.key.now key (sym c.is_empty.ensures ∙ c.if-is_empty.false) e)
    by names tree loads agrees clean key next (last front name is) =
        let g = scene_of c.args.asked.now tree loads in
        let cut = c.without_slash.ensures.below (slashed front ++ name) (key_end names front name c.args.key.now is key)
        ∙ sym (joined-slashed front name) in
        let judged = c.in_ok-verdict.ensures.value tree loads front name agrees (subst (All IsName) is clean) (next.inside front name is) cut in
        c.is_ignore.ensures ∙ (ap is_ignore judged ∙ (ignored_last g front name ∙ ap (is_ignored g) (sym is)))
