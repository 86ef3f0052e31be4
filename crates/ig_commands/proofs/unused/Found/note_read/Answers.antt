use Rattle.std.proofs.Common.{◌∙◌, List, ap, map, refl, subst}
use Rattle.std.proofs.lemmas.Iterator.Adapters.{YieldsList-from_vec}
use Rattle.std.proofs.lemmas.Iterator.Consumers.{YieldsList-end}
use Rattle.ignore_why.specs.Cited.{Named, named_of}
use Rattle.ig_commands.specs.Found.{first_at}
use Rattle.ig_commands.specs.Rules.{Grows}
use Rattle.ig_commands.proofs.GrowLemmas.{grows_none, grows_push}
use Rattle.ig_commands.proofs.SurveyLemmas.{all_yielded}
use Rattle.ig_commands.proofs.unused.Found.note_read.Goals as goal

pub loop-rule-init : goal.loop-rule-init
loop-rule-init c = record { read = grows_none c.args.self.now.read; used = refl }

pub loop-rule-preserved : goal.loop-rule-preserved
loop-rule-preserved c =
    let l = c.loop-rule in
    record {
      read = grows_push l.yielded c.in-Some.rule c.args.self.now.read l.self.read c.add.new.self l.invariant.read c.in_ok-add.ensures.adds;
      used = l.invariant.used;
    }

-- all rules of the directories are noted
pub returns-clause-read : goal.returns-clause-read
returns-clause-read c =
    let l = c.loop-rule in
    let all = c.in_ok-rule-items.rule-items.items in
    let gives = c.into_iter-rule-iterator.ensures.into_iter_gives in
    let list = YieldsList-from_vec {s = c.into_iter-rule-iterator.result} all gives.0 (gives.1 ∙ c.in_ok-rule-items.rule-items.ok.0) in
    let end = (YieldsList-end list l.yielded l.rule-iterator l.yielded_by _ c.next.new.self c.in-None.is c.next.ensures.steps).0 in
    subst (λ (rs : List Named). Grows (first_at rs) c.args.self.now.read l.self.read)
    (ap (map named_of) (all_yielded all l.yielded end) ∙ c.in_ok-rule-items.ensures.rules) l.invariant.read
