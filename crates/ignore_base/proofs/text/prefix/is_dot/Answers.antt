use Rattle.std.proofs.Common.{◌≡◌, ◌||◌, ◌&&◌, ◌==◌, Bool, true, List, ℕ, length, get_or, codes, sym, ap, ◌∙◌, rules, tests, lit<, eq-eqb}
use Rattle.std.specs.Str.{bytes_eq}
use Rattle.std.specs.List.{list_all}
use Rattle.std.proofs.lemmas.Iterator.Search.{all_from_yields_List}
use Rattle.std.proofs.lemmas.Iterator.Splits.{YieldsList-from_str_split}
use Rattle.std.proofs.lemmas.Str.Pattern.{starts_char}
use Rattle.ignore_base.specs.Paths.{components}
use Rattle.ignore_base.proofs.text.prefix.is_dot.Goals as goal

pub returns-then-starts_with : goal.returns-then-starts_with
returns-then-starts_with c =
    let root = c.args.root.now in
    let test : List ℕ → Bool = λ component. bytes_eq component (codes ".") || length component == 0 in
    let first : (get_or root 0 0 == 46) ≡ true = eq-eqb _ 46
    ((starts_char 46 root c.starts_with.result c.starts_with.ensures.cases (lit< tt) (lit< tt)).0 c.if-starts_with.true) in
    all_from_yields_List test _ _ c.all.result c.all.ensures.ran
    (YieldsList-from_str_split 47 root (lit< tt) c.split.ensures.text c.split.ensures.has_more c.split.ensures.pattern)
    (λ x b q k. search (rules, tests))
    ∙ sym (ap (λ b. b && list_all test (components root)) first)
