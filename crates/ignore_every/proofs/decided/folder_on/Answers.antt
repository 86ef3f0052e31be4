use Rattle.std.proofs.Common.{◌≡◌, ◌++◌, ◌∷◌, [], suc, drop, string_bytes, encode_utf8, refl, true, IfSome, Some, sym, ap, subst, ◌∙◌}
use Rattle.std.specs.Str.{chars}
use Rattle.std.proofs.lemmas.Slice.{pushed}
use Rattle.std.proofs.lemmas.Str.{IsUtf8-string_bytes}
use Rattle.ignore_base.specs.Text.{slash}
use Rattle.ignore_every.specs.Machines.{ignores}
use Rattle.ignore_every.specs.Questions.{Decides, HasNoIgnoredAncestor, IsIgnored}
use Rattle.ignore_every.proofs.Folders.{reached_first, reached_on}
use Rattle.ignore_every.proofs.Texts.{begun, chars_push, cut_at, grown}
use Rattle.ignore_every.proofs.decided.folder_on.Goals as goal

pub loop-c-init : goal.loop-c-init
loop-c-init c =
    let bytes = string_bytes c.new-folder.result in (
      begun bytes c.args.text.now c.new-folder.ensures.bytes,
      subst (HasNoIgnoredAncestor c.args.rules.now) (sym (begun bytes [] c.new-folder.ensures.bytes)) (reached_first c.args.rules.now),
    )

pub loop-c-preserved : goal.loop-c-preserved
loop-c-preserved c =
    let text = c.args.text.now in
    let i = c.loop-c.c-index in
    let ch = c.c-item.result in
    let old = string_bytes c.loop-c.folder in
    let longer : string_bytes c.push.new.self ≡ old ++ encode_utf8 ch = pushed (encode_utf8 ch) refl c.in_ok-push.was c.push.ensures.bytes in
    let utf8 = IsUtf8-string_bytes c.loop-c.folder in
    let scalar = c.in_ok-found.ensures.scalar in (
      grown old (string_bytes c.push.new.self) text i ch utf8 c.loop-c.invariant.0 c.loop-c-test.true c.c-item.is scalar longer,
      subst (HasNoIgnoredAncestor c.args.rules.now) (sym (ap chars longer ∙ chars_push old ch utf8 scalar))
          (reached_on c.args.rules.now (chars old) ch c.loop-c.invariant.1 (λ is ignored. c.in_ok-found.ensures.none c.in_default.is is
          (subst (λ bs. IsIgnored c.args.rules.now (chars bs) true) (sym c.as_str.ensures.value) ignored))),
    )

pub returns-in-Some : goal.returns-in-Some
returns-in-Some c =
    let rules = c.args.rules.now in
    let text = c.args.text.now in
    let i = c.loop-c.c-index in
    let folder = chars (string_bytes c.loop-c.folder) in
    let rule = c.in-Some.rule in
    let is_slash : c.c-item.result ≡ slash = subst (λ o. IfSome o (λ k. c.c-item.result ≡ slash)) c.in-Some.is c.in_ok-found.ensures.slash in
    let decided : Decides rules rule (chars c.as_str.result.now) true =
    subst (λ o. IfSome o (λ k. Decides rules k (chars c.as_str.result.now) true)) c.in-Some.is c.in_ok-found.ensures.decided in
    record {
      below = drop (suc i) text;
      way = cut_at text i c.c-item.result slash c.loop-c-test.true c.c-item.is is_slash ∙ ap (λ l. l ++ slash ∷ drop (suc i) text) (sym c.loop-c.invariant.0);
      reached = c.loop-c.invariant.1;
      decided = subst (λ bs. Decides rules rule (chars bs) true) c.as_str.ensures.value decided;
      ignored = subst (λ o. IfSome o (λ k. ignores rules (Some k) ≡ true)) c.in-Some.is c.in_ok-found.ensures.ignored;
    }
