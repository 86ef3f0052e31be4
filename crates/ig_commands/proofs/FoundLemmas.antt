-- Which rules are read and decide on nothing, by what is kept after surveys.
use lib.Pointwise.{pointwise}
use Rattle.std.proofs.Common.{◌≡◌, ◌∙◌, ◌⊎◌, ◌==◌, ◌&&◌, ◌||◌, ℕ, All, Bool, true, false, cond, Contains, List, [], ◌∷◌, map, Option, None, Some, Ok, Err, inl, inr, refl, sym, ap, subst}
use Rattle.std.proofs.lemmas.Bool.{false≢true}
use Rattle.std.proofs.lemmas.Bool.Decides.{Decides-eqb}
use Rattle.std.proofs.lemmas.List.Elements.{Contains-append_cases, Contains-append_left, Contains-append_right}
use Rattle.std.proofs.lemmas.Slice.Eq.{bytes_eq-Decides, slice_eq-Decides}
use Rattle.std.specs.Option.{option_or, option_to_list}
use Rattle.std.specs.Str.{bytes_eq}
use Rattle.ignore_base.specs.Paths.{IsName}
use Rattle.ignore_base.specs.Problem.{Problem}
use Rattle.ignore_dir.specs.Query.{names_of}
use Rattle.ignore_dir.specs.Scene.{QueryScene}
use Rattle.ignore_files.specs.Kinds.{is_dir}
use Rattle.ignore_query.specs.InTurn.{Leaves}
use Rattle.ignore_query.specs.Needs.{is_among, is_decided, is_kept, needed}
use Rattle.ignore_query.specs.declared.kept.Cache.{Cache}
use Rattle.ignore_survey.specs.Survey.{Entry}
use Rattle.ignore_why.specs.Cited.{Named}
use Rattle.ig_commands.specs.Form.{rule_of}
use Rattle.ig_commands.specs.Found.{deciding, first_at}
use Rattle.ig_commands.specs.Rules.{given_at}
use Rattle.ig_commands.specs.Surveys.{AreReported, Seen}
use Rattle.ig_commands.specs.Unused.{IsOpened}
use Rattle.ig_commands.proofs.MemberLemmas.{contains_cons, contains_here, contains_none, contains_option, contains_there, first_some, or_cases}

-- directories that are among some

or_right : (a b : Bool) → b ≡ true → (a || b) ≡ true
or_right true b h = refl
or_right false b h = h

pub among_contains : (dirs : List (List (List ℕ))) (names : List (List ℕ)) → Contains dirs names → is_among dirs names ≡ true
among_contains [] names h = absurd (contains_none names h)
among_contains (d ∷ dirs) names h =
    elim (contains_cons d dirs names h) [
      | inl same ↦ ap (λ b. b || is_among dirs names) ((slice_eq-Decides bytes_eq-Decides names d (pointwise bytes_eq names d) refl).1 (sym same))
      | inr rest ↦ or_right (pointwise bytes_eq names d) (is_among dirs names) (among_contains dirs names rest)
    ]

pub contains_among : (dirs : List (List (List ℕ))) (names : List (List ℕ)) → is_among dirs names ≡ true → Contains dirs names
contains_among [] names h = absurd (false≢true h)
contains_among (d ∷ dirs) names h =
    elim (or_cases (pointwise bytes_eq names d) (is_among dirs names) h) [
      | inl same ↦ subst (λ (n : List (List ℕ)). Contains (d ∷ dirs) n)
          (sym ((slice_eq-Decides bytes_eq-Decides names d (pointwise bytes_eq names d) refl).0 same)) (contains_here d dirs)
      | inr rest ↦ contains_there d dirs names (contains_among dirs names rest)
    ]

-- what is kept after items are met, besides what was kept before

one_kept : (g : QueryScene) (e : Entry) (old new : Cache) (names : List (List ℕ)) (d : Bool) → is_decided g e.path (is_dir e.kind) ≡ d
    → Leaves g (e.path, is_dir e.kind) old new → All IsName names → is_kept new names ≡ true
    → (is_kept old names ≡ true) ⊎ ((is_decided g e.path (is_dir e.kind) ≡ true) × (is_among (needed g (names_of e.path)) names ≡ true))
one_kept g e old new names true is leaves named kept =
    elim (or_cases (is_kept old names) (is_among (needed g (names_of e.path)) names) (sym ((leaves.kept is).dirs names named) ∙ kept)) [
      | inl before ↦ inl before
      | inr now ↦ inr (is, now)
    ]
one_kept g e old new names false is leaves named kept =
    let same = leaves.unchanged (λ t. absurd (false≢true (sym is ∙ t))) in
    inl (subst (λ (c : Cache). is_kept c names ≡ true) same kept)

pub kept_by : (g : QueryScene) (seen : List Seen) (old new : Cache) (names : List (List ℕ)) → AreReported g old seen new → All IsName names
    → is_kept new names ≡ true → (is_kept old names ≡ true) ⊎ IsOpened g (map (λ (s : Seen). s.0) seen) names
kept_by g [] old new names same named kept = inl (subst (λ (c : Cache). is_kept c names ≡ true) same kept)
kept_by g ((Ok e, p) ∷ more) old new names h named kept =
    elim (kept_by g more h.0 new names h.2 named kept) [
      | inl before ↦
          elim (one_kept g e old h.0 names (is_decided g e.path (is_dir e.kind)) refl h.1.0 named before) [
            | inl first ↦ inl first
            | inr (is, now) ↦ inr (e, contains_here (Ok e) (map (λ (s : Seen). s.0) more), is, named, now)
          ]
      | inr o ↦ inr (o.0, contains_there (Ok e) (map (λ (s : Seen). s.0) more) (Ok o.0) o.1, o.2, o.3, o.4)
    ]
kept_by g ((Err q, p) ∷ more) old new names h named kept =
    elim (kept_by g more h.0 new names h.2 named kept) [
      | inl before ↦ inl (subst (λ (c : Cache). is_kept c names ≡ true) h.1.1 before)
      | inr o ↦ inr (o.0, contains_there (Err q) (map (λ (s : Seen). s.0) more) (Ok o.0) o.1, o.2, o.3, o.4)
    ]

one_keeps : (g : QueryScene) (e : Entry) (old new : Cache) (names : List (List ℕ)) (d : Bool) → is_decided g e.path (is_dir e.kind) ≡ d
    → Leaves g (e.path, is_dir e.kind) old new → All IsName names → is_kept old names ≡ true → is_kept new names ≡ true
one_keeps g e old new names true is leaves named kept =
    (leaves.kept is).dirs names named ∙ ap (λ b. b || is_among (needed g (names_of e.path)) names) kept
one_keeps g e old new names false is leaves named kept =
    subst (λ (c : Cache). is_kept c names ≡ true) (sym (leaves.unchanged (λ t. absurd (false≢true (sym is ∙ t))))) kept

still_kept : (g : QueryScene) (seen : List Seen) (old new : Cache) (names : List (List ℕ)) → AreReported g old seen new → All IsName names
    → is_kept old names ≡ true → is_kept new names ≡ true
still_kept g [] old new names same named kept = subst (λ (c : Cache). is_kept c names ≡ true) (sym same) kept
still_kept g ((Ok e, p) ∷ more) old new names h named kept =
    still_kept g more h.0 new names h.2 named (one_keeps g e old h.0 names (is_decided g e.path (is_dir e.kind)) refl h.1.0 named kept)
still_kept g ((Err q, p) ∷ more) old new names h named kept =
    still_kept g more h.0 new names h.2 named (subst (λ (c : Cache). is_kept c names ≡ true) (sym h.1.1) kept)

pub opened_kept : (g : QueryScene) (seen : List Seen) (old new : Cache) (names : List (List ℕ)) → AreReported g old seen new
    → IsOpened g (map (λ (s : Seen). s.0) seen) names → is_kept new names ≡ true
opened_kept g [] old new names h o = absurd (contains_none (Ok o.0) o.1)
opened_kept g ((Ok e, p) ∷ more) old new names h o =
    elim (contains_cons (Ok e) (map (λ (s : Seen). s.0) more) (Ok o.0) o.1) [
      | inl same ↦
          let here : o.0 ≡ e = cc same in
          let is = subst (λ (x : Entry). is_decided g x.path (is_dir x.kind) ≡ true) here o.2 in
          let needs = subst (λ (x : Entry). is_among (needed g (names_of x.path)) names ≡ true) here o.4 in
          still_kept g more h.0 new names h.2 o.3
          ((h.1.0.kept is).dirs names o.3 ∙ or_right (is_kept old names) (is_among (needed g (names_of e.path)) names) needs)
      | inr rest ↦ opened_kept g more h.0 new names h.2 (o.0, rest, o.2, o.3, o.4)
    ]
opened_kept g ((Err q, p) ∷ more) old new names h o =
    elim (contains_cons (Err q) (map (λ (s : Seen). s.0) more) (Ok o.0) o.1) [
      | inl same ↦ absurd (cc same)
      | inr rest ↦ opened_kept g more h.0 new names h.2 (o.0, rest, o.2, o.3, o.4)
    ]

-- rules at their places

pub record StandsAt (rule : Named) (file : List ℕ) (number : ℕ) : Type 0 where
  pub source : rule.from ≡ Some file
  pub line : rule.line ≡ Some number

given_stands : (b : Bool) (text p : List ℕ) → cond b (Some text) None ≡ Some p → (b ≡ true) × (text ≡ p)
given_stands true text p e = (refl, cc e)
given_stands false text p e = absurd (cc e)

and_both : (a b : Bool) → (a && b) ≡ true → (a ≡ true) × (b ≡ true)
and_both true b e = (refl, e)
and_both false b e = absurd (false≢true e)

stands_given : (from : Option (List ℕ)) (number : Option ℕ) (text source : List ℕ) (line : ℕ) (p : List ℕ)
    → given_at from number text source line ≡ Some p → (from ≡ Some source) × (number ≡ Some line) × (text ≡ p)
stands_given None number text source line p e = absurd (cc e)
stands_given (Some f) None text source line p e = absurd (cc e)
stands_given (Some f) (Some n) text source line p e =
    let k = given_stands (bytes_eq f source && n == line) text p e in
    let both = and_both (bytes_eq f source) (n == line) k.0 in
    (ap Some ((bytes_eq-Decides f source).0 both.0), ap Some ((Decides-eqb n line).0 both.1), k.1)

given_there : (from : Option (List ℕ)) (number : Option ℕ) (text source : List ℕ) (line : ℕ) → from ≡ Some source → number ≡ Some line
    → given_at from number text source line ≡ Some text
given_there None number text source line h k = absurd (cc h)
given_there (Some f) None text source line h k = absurd (cc k)
given_there (Some f) (Some n) text source line h k =
    let same : f ≡ source = cc h in
    let at : n ≡ line = cc k in
    ap (λ b. cond b (Some text) None)
    (ap (λ b. b && n == line) ((bytes_eq-Decides f source).1 same) ∙ (Decides-eqb n line).1 at)

pub stands_first : (rules : List Named) (source : List ℕ) (line : ℕ) (p : List ℕ) → first_at rules source line ≡ Some p
    → (rule : Named) × Contains rules rule × StandsAt rule source line × (rule.original ≡ p)
stands_first [] source line p e = absurd (cc e)
stands_first (r ∷ rules) source line p e =
    elim (first_some (given_at r.from r.line r.original source line) (first_at rules source line) p e) [
      | inl here ↦
          let k = stands_given r.from r.line r.original source line p here in
          (r, contains_here r rules, record { source = k.0; line = k.1 }, k.2)
      | inr rest ↦ let k = stands_first rules source line p rest in (k.0, contains_there r rules k.0 k.1, k.2, k.3)
    ]

or_there : {A : Type 0} (a b : Option A) (x : A) → b ≡ Some x → (y : A) × (option_or a b ≡ Some y)
or_there None b x e = (x, e)
or_there (Some y) b x e = (y, refl)

pub first_stands : (rules : List Named) (rule : Named) (source : List ℕ) (line : ℕ) → Contains rules rule → StandsAt rule source line
    → (p : List ℕ) × (first_at rules source line ≡ Some p)
first_stands [] rule source line h at = absurd (contains_none rule h)
first_stands (r ∷ rules) rule source line h at =
    elim (contains_cons r rules rule h) [
      | inl same ↦
          let here = given_there r.from r.line r.original source line
          (ap (λ (x : Named). x.from) same ∙ at.source) (ap (λ (x : Named). x.line) same ∙ at.line) in
          (r.original, ap (λ (o : Option (List ℕ)). option_or o (first_at rules source line)) here)
      | inr rest ↦
          let k = first_stands rules rule source line rest at in
          or_there (given_at r.from r.line r.original source line) (first_at rules source line) k.0 k.1
    ]

-- rules that decide on entries met

pub decider : (seen : List Seen) (e : Entry) (p : Option Problem) (rule : Named) → Contains seen (Ok e, p) → rule_of e.why ≡ Some rule
    → Contains (deciding seen) rule
decider [] e p rule h is = absurd (contains_none _ h)
decider ((Ok x, q) ∷ more) e p rule h is =
    elim (contains_cons (Ok x, q) more (Ok e, p) h) [
      | inl same ↦
          let first = ap (λ (s : Seen). s.0) same in
          let here : x ≡ e = cc first in
          let o : rule_of x.why ≡ Some rule = ap (λ (y : Entry). rule_of y.why) here ∙ is in
          Contains-append_left (option_to_list (rule_of x.why)) (deciding more) rule
          (subst (λ (o : Option Named). Contains (option_to_list o) rule) (sym o) (contains_here rule []))
      | inr rest ↦ Contains-append_right (option_to_list (rule_of x.why)) (deciding more) rule (decider more e p rule rest is)
    ]
decider ((Err x, q) ∷ more) e p rule h is =
    elim (contains_cons (Err x, q) more (Ok e, p) h) [
      | inl same ↦ let first = ap (λ (s : Seen). s.0) same in absurd (cc first)
      | inr rest ↦ decider more e p rule rest is
    ]

pub decided_by : (seen : List Seen) (rule : Named) → Contains (deciding seen) rule
    → (e : Entry) × (p : Option Problem) × Contains seen (Ok e, p) × (rule_of e.why ≡ Some rule)
decided_by [] rule h = absurd (contains_none rule h)
decided_by ((Ok x, q) ∷ more) rule h =
    elim (Contains-append_cases (option_to_list (rule_of x.why)) (deciding more) rule h) [
      | inl here ↦ (x, q, contains_here (Ok x, q) more, contains_option (rule_of x.why) rule here)
      | inr rest ↦ let k = decided_by more rule rest in (k.0, k.1, contains_there (Ok x, q) more (Ok k.0, k.1) k.2, k.3)
    ]
decided_by ((Err x, q) ∷ more) rule h =
    let k = decided_by more rule h in (k.0, k.1, contains_there (Err x, q) more (Ok k.0, k.1) k.2, k.3)
