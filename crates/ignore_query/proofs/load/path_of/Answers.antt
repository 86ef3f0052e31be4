use Rattle.std.proofs.Common.{◌≡◌, ◌++◌, [], ◌==◌, List, ℕ, All, true, IfOk, length, string_bytes, sym, ap, ◌∙◌, subst}
use Rattle.ignore_base.specs.Paths.{IsName, join_of}
use Rattle.ignore_dir.specs.Above.{path_along}
use Rattle.ignore_dir.specs.Chains.{slashed}
use Rattle.ignore_query.proofs.ChainLemmas.{joined-slashed, joined_along}
use Rattle.ignore_query.proofs.KeepLemmas.{Ends, ends, key_end, last, none}
use Rattle.ignore_query.proofs.load.path_of.Goals as goal

empty_key : (key : List ℕ) → key ≡ [] → (length key == 0) ≡ true
empty_key key e = ap (λ (t : List ℕ). length t == 0) e

pub returns : goal.returns
returns c = record {
  value = λ names clean key. cases names clean key (ends names);
}
  where
    cases : (names : List (List ℕ)) → All IsName names → c.args.key.now ≡ slashed names → Ends names
        → IfOk c.join.result (λ path. string_bytes path ≡ path_along c.args.root.now names)
    cases names clean key (none e) =
        let empty = empty_key c.args.key.now (key ∙ ap slashed e) in
        absurd (cc)
    cases names clean key (last front name e) =
        let cut = c.without_slash.ensures.below (slashed front ++ name) (key_end names front name c.args.key.now e key)
        ∙ sym (joined-slashed front name) in
        let there = ap (join_of c.args.root.now) cut
        ∙ (joined_along c.join_law.ensures.name c.args.root.now front name (subst (All IsName) e clean)
        ∙ ap (path_along c.args.root.now) (sym e)) in
        subst (λ w. IfOk c.join.result (λ path. string_bytes path ≡ w)) there c.join.ensures
