use Rattle.std.proofs.Common.{ap, string_bytes, OnErr, OnOk, Result, Ok, Err, Some}
use Rattle.std.proofs.Math.Logic.{∥∥₁_map}
use Rattle.std.proofs.lemmas.Map.Text.{btree_map_updates_text}
use Rattle.std.specs.Map.{lookup}
use Rattle.ignore_query.specs.Keys.{AreKeys}
use Rattle.ignore_query.proofs.EntryLemmas.{at_text}
use Rattle.ignore_query.proofs.KeyLemmas.{keys-put, keys-same}
use Rattle.ignore_query.proofs.dirs.Dirs.insert.Goals as goal

-- what follows from success and from failure
either : {A E : Type 0} (P Q G : Type 0) (r : Result A E) → OnOk r P → OnErr r Q → (P → G) → (Q → G) → G
either P Q G (Ok a) p q f g = f p
either P Q G (Err e) p q f g = g q

pub invariant_of-self : goal.invariant_of-self
invariant_of-self c =
    let m = c.args.self.now.map in
    let n = c.insert.new.self in
    let key = string_bytes c.args.key in record {
      keys = ∥∥₁_map c.args.self.now.keys (λ are. either _ _ (AreKeys n) c.insert.result c.insert.ensures.updates c.insert.ensures.err
          (λ updates. keys-put m n key c.args.kept (btree_map_updates_text key m n (Some c.args.kept) updates) c.requires.named are)
          (λ same. keys-same m n (λ cs. ap (λ es. lookup (at_text cs) es) same) are));
    }

pub returns-clause-added : goal.returns-clause-added
returns-clause-added c = λ text.
    btree_map_updates_text (string_bytes c.args.key) c.args.self.now.map c.insert.new.self (Some c.args.kept) c.in_ok-insert.ensures.updates text
