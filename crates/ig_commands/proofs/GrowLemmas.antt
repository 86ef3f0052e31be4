-- Rules that are noted in turn, at the places where they stand.
use Rattle.std.proofs.Common.{◌≡◌, ◌∙◌, ℕ, List, [], ◌∷◌, ◌++◌, Option, None, Some, Result, Ok, Err, map, append_assoc, refl, sym, ap, subst}
use Rattle.std.proofs.lemmas.Grind.{flat_map-append}
use Rattle.std.proofs.lemmas.List.{append-nil, map-append}
use Rattle.std.specs.Option.{option_or, option_to_list}
use Rattle.ignore_base.specs.declared.error.Error.{Error}
use Rattle.ignore_survey.specs.declared.surveyed.Surveyed.{Surveyed}
use Rattle.ignore_why.specs.Cited.{Named, named_of}
use Rattle.ignore_why.specs.QueryWhy.{query_why_of}
use Rattle.ignore_why.specs.declared.cause.NamedRule.{NamedRule}
use Rattle.ig_commands.specs.Found.{deciding, first_at, read_in}
use Rattle.ig_commands.specs.Form.{rule_of}
use Rattle.ig_commands.specs.Rules.{Adds, Grows, given_at, rule_at}
use Rattle.ig_commands.specs.Surveys.{OfRoot, Seen, all_seen, seen_of}
use Rattle.ig_commands.specs.declared.rules.FileRules.{FileRules}
use Rattle.ig_commands.proofs.SurveyLemmas.{all_seen_more}

or_none : {A : Type 0} (a : Option A) → option_or a None ≡ a
or_none None = refl
or_none (Some x) = refl

or_assoc : {A : Type 0} (a b c : Option A) → option_or (option_or a b) c ≡ option_or a (option_or b c)
or_assoc None b c = refl
or_assoc (Some x) b c = refl

-- nothing is noted
pub grows_none : (rules : FileRules) → Grows (first_at []) rules rules
grows_none rules = λ source line. sym (or_none (rule_at rules source line))

-- one rule is the first of a list of one
pub first_one : (r : Named) (source : List ℕ) (line : ℕ) → first_at (r ∷ []) source line ≡ given_at r.from r.line r.original source line
first_one r source line = or_none (given_at r.from r.line r.original source line)

first_append : (xs ys : List Named) (source : List ℕ) (line : ℕ)
    → first_at (xs ++ ys) source line ≡ option_or (first_at xs source line) (first_at ys source line)
first_append [] ys source line = refl
first_append (x ∷ xs) ys source line =
    ap (λ (o : Option (List ℕ)). option_or (given_at x.from x.line x.original source line) o) (first_append xs ys source line)
    ∙ sym (or_assoc (given_at x.from x.line x.original source line) (first_at xs source line) (first_at ys source line))

-- rules are noted, and then others
pub grows_on : (xs ys : List Named) (a b c : FileRules) → Grows (first_at xs) a b → Grows (first_at ys) b c → Grows (first_at (xs ++ ys)) a c
grows_on xs ys a b c h k = λ source line.
    k source line
    ∙ (ap (λ (o : Option (List ℕ)). option_or o (first_at ys source line)) (h source line)
    ∙ (or_assoc (rule_at a source line) (first_at xs source line) (first_at ys source line)
    ∙ ap (λ (o : Option (List ℕ)). option_or (rule_at a source line) o) (sym (first_append xs ys source line))))

deciding_append : (xs ys : List Seen) → deciding (xs ++ ys) ≡ deciding xs ++ deciding ys
deciding_append [] ys = refl
deciding_append ((Ok e, p) ∷ xs) ys =
    ap (λ (rs : List Named). option_to_list (rule_of e.why) ++ rs) (deciding_append xs ys)
    ∙ sym (append_assoc (option_to_list (rule_of e.why)) (deciding xs) (deciding ys))
deciding_append ((Err q, p) ∷ xs) ys = deciding_append xs ys

grows_as : (xs ys : List Named) (a b : FileRules) → xs ≡ ys → Grows (first_at xs) a b → Grows (first_at ys) a b
grows_as xs ys a b same h = subst (λ (rs : List Named). Grows (first_at rs) a b) same h

-- the rule that decides on one item more is noted
pub grows_by : (all : List (Result Surveyed Error)) (one : Result Surveyed Error) (a b c : FileRules)
    → Grows (first_at (deciding (map seen_of all))) a b → Grows (first_at (deciding (seen_of one ∷ []))) b c
    → Grows (first_at (deciding (map seen_of (all ++ one ∷ [])))) a c
grows_by all one a b c h k =
    grows_as _ _ a c
    (sym (ap deciding (map-append seen_of all (one ∷ [])) ∙ deciding_append (map seen_of all) (seen_of one ∷ [])))
    (grows_on (deciding (map seen_of all)) (deciding (seen_of one ∷ [])) a b c h k)

-- a rule is noted as the only one of a list
grows_first : (r : Named) (a b : FileRules) → Adds r a b → Grows (first_at (r ∷ [])) a b
grows_first r a b h = λ source line.
    h source line ∙ ap (λ (o : Option (List ℕ)). option_or (rule_at a source line) o) (sym (first_one r source line))

-- one rule more is noted
pub grows_push : (rules : List NamedRule) (one : NamedRule) (a b c : FileRules) → Grows (first_at (map named_of rules)) a b
    → Adds (named_of one) b c → Grows (first_at (map named_of (rules ++ one ∷ []))) a c
grows_push rules one a b c h k =
    grows_as _ _ a c (sym (map-append named_of rules (one ∷ [])))
    (grows_on (map named_of rules) (named_of one ∷ []) a b c h (grows_first (named_of one) b c k))

-- the rule that decides is noted, if one does
pub grows_cause : (o : Option Named) (r : Named) (a b : FileRules) → o ≡ Some r → Adds r a b → Grows (first_at (option_to_list o)) a b
grows_cause o r a b is h =
    subst (λ (x : Option Named). Grows (first_at (option_to_list x)) a b) (sym is) (grows_first r a b h)

pub grows_no_cause : (o : Option Named) (a : FileRules) → o ≡ None → Grows (first_at (option_to_list o)) a a
grows_no_cause o a is = subst (λ (x : Option Named). Grows (first_at (option_to_list x)) a a) (sym is) (grows_none a)

-- that of an item of a survey
pub grows_item : (item : Result Surveyed Error) (s : Surveyed) (a b : FileRules) → item ≡ Ok s
    → Grows (first_at (option_to_list (rule_of (query_why_of s.explanation.reason)))) a b
    → Grows (first_at (deciding (seen_of item ∷ []))) a b
grows_item item s a b is h =
    subst (λ (x : Result Surveyed Error). Grows (first_at (deciding (seen_of x ∷ []))) a b) (sym is)
    (grows_as _ _ a b (sym (append-nil (option_to_list (rule_of (query_why_of s.explanation.reason))))) h)

pub grows_fault : (item : Result Surveyed Error) (e : Error) (a : FileRules) → item ≡ Err e → Grows (first_at (deciding (seen_of item ∷ []))) a a
grows_fault item e a is = subst (λ (x : Result Surveyed Error). Grows (first_at (deciding (seen_of x ∷ []))) a a) (sym is) (grows_none a)

-- those that decide on the items of one root more
pub grows_root : (all : List OfRoot) (r : OfRoot) (a b c : FileRules) → Grows (first_at (deciding (all_seen all))) a b
    → Grows (first_at (deciding r.1)) b c → Grows (first_at (deciding (all_seen (all ++ r ∷ [])))) a c
grows_root all r a b c h k =
    grows_as _ _ a c (sym (ap deciding (all_seen_more all r) ∙ deciding_append (all_seen all) r.1))
    (grows_on (deciding (all_seen all)) (deciding r.1) a b c h k)

-- those that are read below one root more
pub grows_read : (all : List (OfRoot × List Named)) (r : OfRoot × List Named) (a b c : FileRules) → Grows (first_at (read_in all)) a b
    → Grows (first_at r.1) b c → Grows (first_at (read_in (all ++ r ∷ []))) a c
grows_read all r a b c h k =
    grows_as _ _ a c
    (sym (flat_map-append (λ (x : OfRoot × List Named). x.1) all (r ∷ []) ∙ ap (λ (rs : List Named). read_in all ++ rs) (append-nil r.1)))
    (grows_on (read_in all) r.1 a b c h k)

-- what rules are that nothing was noted in before
pub grown_at : (xs : List Named) (a b : FileRules) → ((source : List ℕ) (line : ℕ) → rule_at a source line ≡ None)
    → Grows (first_at xs) a b → (source : List ℕ) (line : ℕ) → rule_at b source line ≡ first_at xs source line
grown_at xs a b none h = λ source line.
    h source line ∙ ap (λ (o : Option (List ℕ)). option_or o (first_at xs source line)) (none source line)
