use Rattle.std.proofs.Common.{rules, ◌≡◌, filter, not, string_bytes}
use Rattle.std.proofs.Math.Logic.{∥∥₁_map}
use Rattle.std.proofs.lemmas.Map.Made.{filter_same_pairs}
use Rattle.ignore_query.specs.Forget.{is_key_in}
use Rattle.ignore_query.proofs.CountLemmas.{forgotten_sum}
use Rattle.ignore_query.proofs.ForgetLemmas.{still}
use Rattle.ignore_query.proofs.KeyLemmas.{keys-left}
use Rattle.ignore_query.proofs.dirs.Dirs.drop_from.Goals as goal

pub invariant_of-self : goal.invariant_of-self
invariant_of-self c =
    let before = c.args.self.now.map in
    let after = c.retain.new.self in
    let entries : after.entries ≡ filter (λ e. not (is_key_in c.args.dir.now (string_bytes e.0))) before.entries =
    filter_same_pairs _ (λ e. not (is_key_in c.args.dir.now (string_bytes e.0))) _
    (λ k v b w f' t. search rules) _ _ c.retain.ensures.filtered in record {
      keys = ∥∥₁_map c.args.self.now.keys (keys-left before after c.args.dir.now (still before after c.args.dir.now entries));
    }

pub returns-clause-looked : goal.returns-clause-looked
returns-clause-looked c = λ text.
    let before = c.args.self.now.map in
    let after = c.retain.new.self in
    let entries : after.entries ≡ filter (λ e. not (is_key_in c.args.dir.now (string_bytes e.0))) before.entries =
    filter_same_pairs _ (λ e. not (is_key_in c.args.dir.now (string_bytes e.0))) _
    (λ k v b w f' t. search rules) _ _ c.retain.ensures.filtered in
    still before after c.args.dir.now entries text

pub returns-clause-fewer : goal.returns-clause-fewer
returns-clause-fewer c = λ clean.
    let before = c.args.self.now.map in
    let after = c.retain.new.self in
    let entries : after.entries ≡ filter (λ e. not (is_key_in c.args.dir.now (string_bytes e.0))) before.entries =
    filter_same_pairs _ (λ e. not (is_key_in c.args.dir.now (string_bytes e.0))) _
    (λ k v b w f' t. search rules) _ _ c.retain.ensures.filtered in
    forgotten_sum before after c.args.dir.now clean c.args.self.now.keys c.retain.ensures.was_ordered entries
