use Rattle.std.proofs.Common.{◌≡◌, ◌&&◌, ap, ◌∙◌, true, false, rules}
use Rattle.ignore_base.specs.Match.{is_ignore, is_none}
use Rattle.ignore_base.specs.Paths.{file_name_of}
use Rattle.ignore_types.specs.TypeMatch.{type_answer}
use Rattle.ignore_dir.specs.Verdict.{is_dotted}
use Rattle.ignore_levels.proofs.ReasonLemmas as l
use Rattle.ignore_levels.proofs.reason.by_file.Goals as goal

pub returns-then-is_ignore-clause-why : goal.returns-then-is_ignore-clause-why
returns-then-is_ignore-clause-why c = λ chain is after.
    let ruled = c.in_ok-ruled.ruled in
    let hides = c.args.settings.now.hidden && is_dotted (file_name_of c.args.asked.now.path.now) in
    let said : is_ignore ruled ≡ true = search rules in
    c.by_rule.ensures.why c.args.asked.now.text.now ∙ l.ignores c.args.asked.now.text.now hides ruled _ _ (c.in_ok-ruled.ensures.answered chain is after) said

pub returns-then-not-is_none-clause-why : goal.returns-then-not-is_none-clause-why
returns-then-not-is_none-clause-why c = λ chain is after.
    let ruled = c.in_ok-ruled.ruled in
    let typed = c.in_ok-typed.typed in
    let hides = c.args.settings.now.hidden && is_dotted (file_name_of c.args.asked.now.path.now) in
    let denied : is_ignore ruled ≡ false = search rules in
    let some : is_none typed ≡ false = search rules in
    let same = c.in_ok-typed.ensures.answered
    ∙ ap (λ p. type_answer c.args.outside.now.types.choices c.args.asked.now.is_dir (file_name_of p)) c.trim_root.ensures in
    c.by_type.ensures.why c.args.asked.now.text.now ∙ l.typed c.args.asked.now.text.now hides ruled _ typed _ (c.in_ok-ruled.ensures.answered chain is after) denied same some

pub returns-then-is_none-clause-why : goal.returns-then-is_none-clause-why
returns-then-is_none-clause-why c = λ chain is after.
    let ruled = c.in_ok-ruled.ruled in
    let typed = c.in_ok-typed.typed in
    let hides = c.args.settings.now.hidden && is_dotted (file_name_of c.args.asked.now.path.now) in
    let none : is_none ruled ≡ true = search rules in
    let none' : is_none typed ≡ true = search rules in
    let same = c.in_ok-typed.ensures.answered
    ∙ ap (λ p. type_answer c.args.outside.now.types.choices c.args.asked.now.is_dir (file_name_of p)) c.trim_root.ensures in
    c.by_name.ensures.why c.args.asked.now.text.now ∙ l.named c.args.asked.now.text.now hides ruled _ typed _ (c.in_ok-ruled.ensures.answered chain is after) none same none'

pub returns-clause-why : goal.returns-clause-why
returns-clause-why c = λ chain is after.
    let ruled = c.in_ok-ruled.ruled in
    let typed = c.in_ok-typed.typed in
    let hides = c.args.settings.now.hidden && is_dotted (file_name_of c.args.asked.now.path.now) in
    let denied : is_ignore ruled ≡ false = search rules in
    let some : is_none ruled ≡ false = search rules in
    let none : is_none typed ≡ true = search rules in
    let same = c.in_ok-typed.ensures.answered
    ∙ ap (λ p. type_answer c.args.outside.now.types.choices c.args.asked.now.is_dir (file_name_of p)) c.trim_root.ensures in
    c.by_rule-2.ensures.why c.args.asked.now.text.now ∙ l.whitelists c.args.asked.now.text.now hides ruled _ typed _ (c.in_ok-ruled.ensures.answered chain is after) denied some same none

pub returns-then-is_ignore-clause-inside : goal.returns-then-is_ignore-clause-inside
returns-then-is_ignore-clause-inside c = c.by_rule.ensures.inside c.args.asked.now.text.now c.in_ok-ruled.ensures.inside

pub returns-then-not-is_none-clause-inside : goal.returns-then-not-is_none-clause-inside
returns-then-not-is_none-clause-inside c = c.by_type.ensures.inside c.args.asked.now.text.now

pub returns-then-is_none-clause-inside : goal.returns-then-is_none-clause-inside
returns-then-is_none-clause-inside c = c.by_name.ensures.inside c.args.asked.now.text.now

pub returns-clause-inside : goal.returns-clause-inside
returns-clause-inside c = c.by_rule-2.ensures.inside c.args.asked.now.text.now c.in_ok-ruled.ensures.inside
