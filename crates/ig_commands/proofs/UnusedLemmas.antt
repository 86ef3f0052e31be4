-- The rules that decide on no entry met, by what surveys have found.
use Rattle.std.proofs.Common.{◌≡◌, ◌∙◌, ◌≤◌, ℕ, All, Bool, true, false, not, cond, codes, length, Contains, List, [], ◌∷◌, ◌++◌, Option, None, Some, is_some, map, inl, inr, refl, sym, ap, subst}
use Rattle.std.proofs.lemmas.Bool.{false≢true}
use Rattle.std.proofs.lemmas.List.Elements.{All-contains, All-map, All-weaker}
use Rattle.std.specs.Io.KnownBytes.{Appends}
use Rattle.std.specs.List.{flat_map}
use Rattle.ignore_base.specs.Paths.{IsName}
use Rattle.ignore_dir.specs.Scene.{QueryScene}
use Rattle.ignore_query.specs.Forget.{ListsKept, kept_dirs}
use Rattle.ignore_query.specs.KeptRules.{rules_of}
use Rattle.ignore_query.specs.Needs.{is_kept}
use Rattle.ignore_query.specs.declared.kept.Cache.{Cache}
use Rattle.ignore_why.specs.Cited.{Named}
use Rattle.ig_options.specs.declared.options.Options.{Options}
use Rattle.ig_commands.specs.Form.{at_end, rule_fields}
use Rattle.ig_commands.specs.Found.{Finds, deciding, first_at, met, read_in}
use Rattle.ig_commands.specs.Rules.{AreWithout, rule_at, rule_line}
use Rattle.ig_commands.specs.Surveys.{AreAll, IsWhole, OfRoot, Seen, all_seen, most_items}
use Rattle.ig_commands.specs.Unused.{AreUnused, FileRule, IsReadBelow, IsUnused, written}
use Rattle.ig_commands.specs.declared.rules.FileRules.{FileRules}
use Rattle.ig_commands.proofs.FoundLemmas.{StandsAt, among_contains, contains_among, decided_by, decider, first_stands, kept_by, opened_kept, stands_first}
use Rattle.ig_commands.proofs.MetLemmas.{not_cut}
use Rattle.ig_commands.proofs.MemberLemmas.{contains_flat, contains_map, flat_contains, map_contains}

-- where no more items were met than a survey may have, they are all, and so are the rules
found_all : (g : QueryScene) (seen : List Seen) (rules : List Named) → length seen ≤ most_items → Finds rules g seen
    → (new : Cache) × AreAll g seen new × (rules ≡ flat_map (rules_of g) (kept_dirs new)) × ListsKept new
found_all g seen rules within (inl all) = all
found_all g seen rules within (inr cut) = absurd (not_cut g seen within cut)

-- a rule of a directory that is kept after a survey is one of a file that is read
read_below : (g : QueryScene) (seen : List Seen) (rules : List Named) (rule : Named) (r : FileRule) → length seen ≤ most_items
    → Finds rules g seen → Contains rules rule → StandsAt rule r.source r.line → rule.original ≡ r.pattern → IsReadBelow g (map (λ (s : Seen). s.0) seen) r
read_below g seen rules rule r within finds among at pattern =
    let f = found_all g seen rules within finds in
    let in_dir = contains_flat (rules_of g) (kept_dirs f.0) rule (subst (λ (rs : List Named). Contains rs rule) f.2 among) in
    let names = in_dir.0 in
    let named = All-contains (All IsName) (kept_dirs f.0) names f.3.named in_dir.1 in
    let kept : is_kept f.0 names ≡ true = sym (f.3.each names named) ∙ among_contains (kept_dirs f.0) names in_dir.1 in
    elim (kept_by g seen f.1.met.old f.0 names f.1.met.reported named kept) [
      | inl before ↦ absurd (false≢true (sym (ap is_some (f.1.met.fresh.dirs names)) ∙ before))
      | inr opened ↦ (names, opened, rule, in_dir.2, record { source = at.source; line = at.line; pattern = pattern })
    ]

-- and a rule that is read is one of those
read_back : (g : QueryScene) (seen : List Seen) (rules : List Named) (r : FileRule) → length seen ≤ most_items → Finds rules g seen
    → IsReadBelow g (map (λ (s : Seen). s.0) seen) r → (rule : Named) × Contains rules rule × StandsAt rule r.source r.line
read_back g seen rules r within finds below =
    let f = found_all g seen rules within finds in
    let names = below.0 in
    let opened = below.1 in
    let kept = opened_kept g seen f.1.met.old f.0 names f.1.met.reported opened in
    let among = contains_among (kept_dirs f.0) names (f.3.each names opened.3 ∙ kept) in (
      below.2,
      subst (λ (rs : List Named). Contains rs below.2) (sym f.2) (flat_contains (rules_of g) (kept_dirs f.0) names below.2 among below.3),
      record { source = below.4.source; line = below.4.line },
    )

module _ (at : List ℕ → QueryScene) (all : List (OfRoot × List Named)) (read used : FileRules)
    (finds : All (λ x. Finds x.1 (at x.0.0) x.0.1) all) (within : All (λ r. length r.1 ≤ most_items) (met all))
    (reads : (source : List ℕ) (line : ℕ) → rule_at read source line ≡ first_at (read_in all) source line)
    (uses : (source : List ℕ) (line : ℕ) → rule_at used source line ≡ first_at (deciding (all_seen (met all))) source line) where
  finds_of : (x : OfRoot × List Named) → Contains all x → Finds x.1 (at x.0.0) x.0.1
  finds_of x h = All-contains (λ (x : OfRoot × List Named). Finds x.1 (at x.0.0) x.0.1) all x finds h

  within_of : (x : OfRoot × List Named) → Contains all x → length x.0.1 ≤ most_items
  within_of x h =
      All-contains (λ (r : OfRoot). length r.1 ≤ most_items) (met all) x.0 within (map_contains (λ (y : OfRoot × List Named). y.0) all x h)

  is_unused : (r : FileRule) → rule_at read r.source r.line ≡ Some r.pattern → rule_at used r.source r.line ≡ None → IsUnused at (met all) r
  is_unused r there unused =
      let rule = stands_first (read_in all) r.source r.line r.pattern (sym (reads r.source r.line) ∙ there) in
      let root = contains_flat (λ (x : OfRoot × List Named). x.1) all rule.0 rule.1 in
      record {
        read = (
          root.0.0,
          map_contains (λ (y : OfRoot × List Named). y.0) all root.0 root.1,
          read_below (at root.0.0.0) root.0.0.1 root.0.1 rule.0 r (within_of root.0 root.1) (finds_of root.0 root.1) root.2 rule.2 rule.3,
        );
        decides_nothing = λ e p met_it decides.
            let place : StandsAt decides.rule r.source r.line = record { source = decides.source; line = decides.line } in
            let first = first_stands (deciding (all_seen (met all))) decides.rule r.source r.line
            (decider (all_seen (met all)) e p decides.rule met_it decides.is) place in
            let no : None ≡ Some first.0 = sym unused ∙ (uses r.source r.line ∙ first.1) in
            absurd (cc no);
      }

  not_used : (r : FileRule) → IsUnused at (met all) r → (v : Option (List ℕ)) → rule_at used r.source r.line ≡ v
      → rule_at used r.source r.line ≡ None
  not_used r unused None is = is
  not_used r unused (Some q) is =
      let rule = stands_first (deciding (all_seen (met all))) r.source r.line q (sym (uses r.source r.line) ∙ is) in
      let entry = decided_by (all_seen (met all)) rule.0 rule.1 in
      absurd (unused.decides_nothing entry.0 entry.1 entry.2
      (record { rule = rule.0; is = entry.3; source = rule.2.source; line = rule.2.line }))

  pub are_unused : (unused : List FileRule) → AreWithout read used unused → AreUnused at (met all) unused
  are_unused unused left = record {
    each = λ r h. let k = (left.are r).0 h in is_unused r k.0 k.1;
    complete = λ r is.
        let root = contains_map (λ (y : OfRoot × List Named). y.0) all is.read.0 is.read.1 in
        let below = subst (λ (x : OfRoot). IsReadBelow (at x.0) (map (λ (s : Seen). s.0) x.1) r) (sym root.2) is.read.2 in
        let rule = read_back (at root.0.0.0) root.0.0.1 root.0.1 r (within_of root.0 root.1) (finds_of root.0 root.1) below in
        let among = flat_contains (λ (x : OfRoot × List Named). x.1) all root.0 rule.0 root.1 rule.1 in
        let first = first_stands (read_in all) rule.0 r.source r.line among rule.2 in
        let q : FileRule = record { source = r.source; line = r.line; pattern = first.0 } in (
          q,
          (left.are q).1 (reads r.source r.line ∙ first.1, not_used r is (rule_at used r.source r.line) refl),
          refl,
          refl,
        );
    in_order = left.in_order;
  }

-- what a survey has found is all that it met
pub finds_whole : (rules : List Named) (g : QueryScene) (seen : List Seen) → Finds rules g seen → IsWhole g seen
finds_whole rules g seen (inl found) = inl (found.0, found.1)
finds_whole rules g seen (inr cut) = inr cut

pub whole_met : (at : List ℕ → QueryScene) (all : List (OfRoot × List Named)) → All (λ x. Finds x.1 (at x.0.0) x.0.1) all
    → All (λ r. IsWhole (at r.0) r.1) (met all)
whole_met at all finds =
    All-map (λ (r : OfRoot). IsWhole (at r.0) r.1) (λ (x : OfRoot × List Named). x.0) all
    (All-weaker (λ (x : OfRoot × List Named). Finds x.1 (at x.0.0) x.0.1) (λ (x : OfRoot × List Named). IsWhole (at x.0.0) x.0.1)
    (λ x f. finds_whole x.1 (at x.0.0) x.0.1 f) all finds)

pub names_met : (all : List (OfRoot × List Named)) → map (λ (x : OfRoot × List Named). x.0.0) all ≡ map (λ (r : OfRoot). r.0) (met all)
names_met [] = refl
names_met (x ∷ all) = ap (λ (ps : List (List ℕ)). x.0.0 ∷ ps) (names_met all)

-- what is written of rules

one_line : (q : Bool) (text : List ℕ) → cond (not q) text [] ≡ cond q [] text
one_line true text = refl
one_line false text = refl

all_lines : (o : Options) (rs : List FileRule)
    → flat_map (rule_line (cond o.is_bare (Some (codes ".")) None) o.null (not o.quiet)) rs ≡ flat_map (written o) rs
all_lines o [] = refl
all_lines o (r ∷ rs) =
    let base : Option (List ℕ) = cond o.is_bare (Some (codes ".")) None in
    ap (λ (bs : List ℕ). bs ++ flat_map (rule_line base o.null (not o.quiet)) rs)
    (one_line o.quiet (rule_fields base o.null r.source (Some r.line) r.pattern ++ at_end o.null))
    ∙ ap (λ (bs : List ℕ). written o r ++ bs) (all_lines o rs)

pub written_as : (o : Options) (rs : List FileRule) (base : Option (List ℕ)) (null : Bool) (a b : Option (List ℕ))
    → base ≡ cond o.is_bare (Some (codes ".")) None → null ≡ o.null → Appends a b (flat_map (rule_line base null (not o.quiet)) rs)
    → Appends a b (flat_map (written o) rs)
written_as o rs base null a b is same h =
    subst (Appends a b) (all_lines o rs)
    (subst (λ (n : Bool). Appends a b (flat_map (rule_line (cond o.is_bare (Some (codes ".")) None) n (not o.quiet)) rs)) same
    (subst (λ (x : Option (List ℕ)). Appends a b (flat_map (rule_line x null (not o.quiet)) rs)) is h))
