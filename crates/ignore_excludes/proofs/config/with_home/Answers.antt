-- Each turn writes what stands before the first `~`, and the home directory.
use Rattle.std.proofs.Common.{rules, ◌++◌, None, Some, string_bytes, sym, ◌∙◌, ap, lit<}
use Rattle.std.proofs.lemmas.Str.Pattern.{split_once_first}
use Rattle.ignore_excludes.proofs.ExcludesHome.{flat_map-no_tilde, written_more}
use Rattle.ignore_excludes.proofs.config.with_home.Goals as goal

pub loop-before-preserved : goal.loop-before-preserved
loop-before-preserved c =
    let rest = c.loop-before.rest.now in
    let before = c.in-Some.before in
    let after = c.in-Some.after in
    let cut = split_once_first 126 rest (Some (before, after)) c.in-Some.ensures.cases (lit< tt) in
    record {
      written = written_more c.args.home.now c.args.value.now (string_bytes c.loop-before.text) rest before.now after.now
          (string_bytes c.push_str.new.self) (string_bytes c.push_str-in-Some.new.self) cut.0 cut.1 cut.2
          c.in_ok-push_str.ensures.bytes c.in_ok-push_str-2.ensures.bytes c.loop-before.invariant.written;
      text = search rules;
    }

pub returns : goal.returns
returns c =
    let rest = c.loop-before.rest.now in
    let none = flat_map-no_tilde c.args.home.now rest (split_once_first 126 rest None c.in_default.ensures.cases (lit< tt)) in
    c.in_ok-push_str-3.ensures.bytes ∙ (ap (λ t. string_bytes c.loop-before.text ++ t) (sym none) ∙ c.loop-before.invariant.written)
