use Rattle.std.proofs.Common.{◌≡◌, sym, ◌∙◌}
use Rattle.ignore_guide.proofs.GivenLemmas.{kinds_more, lacked_alone, nothing_lacked, told_then}
use Rattle.ignore_guide.proofs.given_laws.what_is_given_is_of_the_tree.Goals as goal

pub returns-clause-at_first : goal.returns-clause-at_first
returns-clause-at_first c = λ tree told f. nothing_lacked tree told f

pub returns-clause-lacked : goal.returns-clause-lacked
returns-clause-lacked c = λ tree told f lacks. lacked_alone tree told f lacks

pub returns-clause-more : goal.returns-clause-more
returns-clause-more c = λ tree q g old new are given told. record {
  kinds = λ path answer is. kinds_more tree q g old new are given told path answer is;
  reads = λ path answer is. told_then (λ p a. tree.contents p ≡ a) q.path _ _ path answer given.read (are.reads path) (sym (told.reads path) ∙ is);
  paths = λ path answer is. told_then (λ p a. tree.canonical p ≡ a) q.path _ _ path answer given.path (are.paths path) (sym (told.paths path) ∙ is);
}
