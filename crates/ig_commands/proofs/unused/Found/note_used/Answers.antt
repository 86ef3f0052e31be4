use Rattle.std.proofs.Common.{sym}
use Rattle.std.proofs.lemmas.Result.{on_ok_weaker}
use Rattle.ignore_why.specs.Cited.{named_of}
use Rattle.ignore_why.specs.QueryWhy.{query_why_of}
use Rattle.ig_commands.specs.Form.{rule_of}
use Rattle.ig_commands.proofs.GrowLemmas.{grows_cause, grows_no_cause}
use Rattle.ig_commands.proofs.unused.Found.note_used.Goals as goal

pub returns-in-Some-clause-used : goal.returns-in-Some-clause-used
returns-in-Some-clause-used c =
    on_ok_weaker c.add.result
    (grows_cause (rule_of (query_why_of c.args.entry.now.explanation.reason)) (named_of c.in-Some.rule.now) c.args.self.now.used c.add.new.self
    (sym c.in-Some.ensures)) c.add.ensures.adds

pub returns-in-None-clause-used : goal.returns-in-None-clause-used
returns-in-None-clause-used c =
    grows_no_cause (rule_of (query_why_of c.args.entry.now.explanation.reason)) c.args.self.now.used (sym c.in-None.ensures)
