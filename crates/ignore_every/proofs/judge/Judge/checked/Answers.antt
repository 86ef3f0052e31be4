use Rattle.std.proofs.Common.{◌≡◌, IfSome, Some, length, string_bytes, sym, subst}
use Rattle.std.specs.Str.{chars}
use Rattle.ignore_every.specs.Findings.{IsShortest, MissesBefore}
use Rattle.ignore_every.specs.Questions.{IsAsked, Decides}
use Rattle.ignore_every.specs.Rows.{table_of}
use Rattle.ignore_every.specs.Scopes.{scope_of}
use Rattle.ignore_every.proofs.Missing.{shortest_from}
use Rattle.ignore_every.proofs.judge.Judge.checked.Goals as goal

pub returns-clause-shortest : goal.returns-clause-shortest
returns-clause-shortest c =
    let judge = c.args.self.now in
    let rules = judge.rules.now.rules in
    let left = judge.search.left.rules.now in
    let table = table_of judge.search.left.rows.now in
    let sound = c.requires in
    let bytes = string_bytes c.in-Some.path in
    let index = c.args.index in
    let text = c.args.text.now in
    let asked : IsAsked judge.search.reached rules (chars bytes) =
    subst (λ o. IfSome o (λ p. IsAsked judge.search.reached rules (chars (string_bytes p)))) c.in-Some.is c.in_ok-asked.ensures.asked in
    let same : chars bytes ≡ text = subst (λ o. IfSome o (λ p. chars (string_bytes p) ≡ text)) c.in-Some.is c.in_ok-asked.ensures.same in
    let decides = c.in_ok-is_decided.ensures c.if-not-is_decided.false in
    let by_rules : Decides rules index (chars c.as_str.result.now) c.args.is_dir =
    subst (λ rs. Decides rs index (chars c.as_str.result.now) c.args.is_dir) c.rules.ensures decides in
    let decided : Decides rules index (chars bytes) c.args.is_dir =
    subst (λ bs. Decides rules index (chars bs) c.args.is_dir) c.as_str.ensures.value by_rules in
    let misses : MissesBefore table judge.trail.places.items index (Some (length text)) =
    subst (λ ps. MissesBefore table ps index (Some (length text))) c.deref.ensures.value (c.all_miss.ensures c.if-not-all_miss.false) in
    let asked_left : IsAsked judge.search.reached left (chars bytes) =
    subst (λ rs. IsAsked judge.search.reached rs (chars bytes)) (sym sound.same) asked in
    let decided_left : Decides left index (chars bytes) c.args.is_dir =
    subst (λ rs. Decides rs index (chars bytes) c.args.is_dir) (sym sound.same) decided in
    let shortest : IsShortest judge.search.reached left index (chars bytes) c.args.is_dir =
    shortest_from (scope_of judge.search) judge.trail.places.items sound.sound index (chars bytes) text c.args.is_dir asked_left same
    decided_left misses in
    subst (λ rs. IsShortest judge.search.reached rs index (chars bytes) c.args.is_dir) sound.same shortest
