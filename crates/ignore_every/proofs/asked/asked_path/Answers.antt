use Rattle.std.proofs.Common.{◌≡◌, ◌++◌, ◌∷◌, [], string_bytes, encode_utf8, refl, sym, ap, subst, ◌∙◌}
use Rattle.std.specs.Str.{chars}
use Rattle.std.proofs.lemmas.Slice.{pushed}
use Rattle.std.proofs.lemmas.Str.{chars-nil, IsUtf8-string_bytes}
use Rattle.ignore_every.specs.Names.{IsNext}
use Rattle.ignore_every.specs.declared.place.NameStart.TheVariants.{Empty}
use Rattle.ignore_every.proofs.Texts.{begun, chars_push, grown}
use Rattle.ignore_every.proofs.Walked.{named_is, walk_on, walked_asked}
use Rattle.ignore_every.proofs.Walks.{Walked, at_root}
use Rattle.ignore_every.proofs.asked.asked_path.Goals as goal

pub loop-c-init : goal.loop-c-init
loop-c-init c =
    let none = c.new-path.ensures.bytes in
    record {
      walked = subst (λ cs. Walked c.args.reached c.args.rules.now.rules cs Empty) (sym (ap chars none ∙ chars-nil)) at_root;
      same = begun (string_bytes c.new-path.result) c.args.text.now none;
    }

pub loop-c-preserved : goal.loop-c-preserved
loop-c-preserved c =
    let rules = c.args.rules.now.rules in
    let text = c.args.text.now in
    let i = c.loop-c.c-index in
    let ch = c.c-item.result in
    let old = string_bytes c.loop-c.path in
    let scalar = c.in_ok-goes.ensures.scalar in
    let next : IsNext c.args.reached rules (chars old) c.loop-c.name ch =
    subst (λ bs. IsNext c.args.reached rules (chars bs) c.loop-c.name ch) c.as_str.ensures.value (c.in_ok-goes.ensures.next c.if-not-goes.false) in
    let longer : string_bytes c.push.new.self ≡ old ++ encode_utf8 ch = pushed (encode_utf8 ch) refl c.in_ok-push.was c.push.ensures.bytes in
    let utf8 = IsUtf8-string_bytes c.loop-c.path in
    let more : chars (string_bytes c.push.new.self) ≡ chars old ++ ch ∷ [] = ap chars longer ∙ chars_push old ch utf8 scalar in
    record {
      walked = walk_on c.args.reached rules (chars old) (chars (string_bytes c.push.new.self)) c.loop-c.name c.after-longer.result ch
          c.loop-c.invariant.walked scalar next more c.after-longer.ensures;
      same = grown old (string_bytes c.push.new.self) text i ch utf8 c.loop-c.invariant.same c.loop-c-test.true c.c-item.is scalar longer;
    }

pub returns-then-is_named-clause-asked : goal.returns-then-is_named-clause-asked
returns-then-is_named-clause-asked c =
    let rules = c.args.rules.now.rules in
    let path = chars (string_bytes c.loop-c.path) in
    let named = named_is c.loop-c.name (sym c.is_named.ensures ∙ c.if-is_named.true) in
    walked_asked c.args.reached rules path (subst (λ n. Walked c.args.reached rules path n) named c.loop-c.invariant.walked)
