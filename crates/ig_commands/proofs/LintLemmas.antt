-- What is written of files in turn, and of the rules of one.
use Rattle.std.proofs.Common.{◌≡◌, ◌<◌, ◌+◌, ◌||◌, ℕ, Bool, true, false, List, [], ◌∷◌, ◌++◌, Option, None, arith, get_or, length, refl, sym, subst, ap, take, ◌∙◌}
use Rattle.std.proofs.lemmas.Grind.{flat_map-append}
use Rattle.std.proofs.lemmas.List.{append-nil, take_more}
use Rattle.std.proofs.lemmas.List.Elements.{Contains-append_left, Contains-append_right}
use Rattle.std.proofs.lemmas.List.Folds.{list_any-append}
use Rattle.std.specs.Io.KnownBytes.{Appends}
use Rattle.std.specs.List.{AllZip, flat_map, list_any}
use Rattle.ignore_base.specs.Text.{Path}
use Rattle.commands.proofs.LineLemmas.{appends_nothing, appends_on}
use Rattle.ig_commands.specs.Lint.{CountsSoFar, HasOther, IsCounted, given_path}
use Rattle.ig_commands.specs.Names.{names_told}
use Rattle.ig_commands.specs.declared.names.Unnamed.{Unnamed}
use Rattle.ig_options.specs.declared.given.Given.{Given}
use Rattle.ig_options.specs.declared.options.Options.{Options}
use Rattle.ig_commands.proofs.SurveyLemmas.{zip_push}

or-none : (b : Bool) → (b || false) ≡ b
or-none true = refl
or-none false = refl

-- whether one of some things passes, with one more
pub any_more : {A : Type 0} (p : A → Bool) (all : List A) (one : A) (old new holds : Bool) → old ≡ list_any p all → holds ≡ p one
    → new ≡ (old || holds) → new ≡ list_any p (all ++ one ∷ [])
any_more p all one old new holds e f is =
    is ∙ (ap (λ b. b || holds) e ∙ (ap (λ b. list_any p all || b) (f ∙ sym (or-none (p one))) ∙ sym (list_any-append p all (one ∷ []))))

-- the members of a list up to one more, each with another
pub zip_more : {A B : Type 0} (R : A → B → Type 0) (all : List A) (i : ℕ) (one : A) (others : List B) (other : B) → i < length all
    → one ≡ get_or all i one → AllZip R (take i all) others → R one other → AllZip R (take (i + 1) all) (others ++ other ∷ [])
zip_more R all i one others other within here h k =
    let more : take (i + 1) all ≡ take i all ++ one ∷ [] = take_more all i one within ∙ ap (λ x. take i all ++ x ∷ []) (sym here) in
    subst (λ (xs : List _). AllZip R xs (others ++ other ∷ [])) (sym more) (zip_push R (take i all) others one other h k)

-- the paths that are given, up to one more
pub given_more : (all : List Given) (i : ℕ) (one : Given) (old new : List Path) → i < length all → one ≡ get_or all i one
    → old ≡ flat_map given_path (take i all) → new ≡ old ++ given_path one → new ≡ flat_map given_path (take (i + 1) all)
given_more all i one old new within here h is =
    let more : take (i + 1) all ≡ take i all ++ one ∷ [] = take_more all i one within ∙ ap (λ x. take i all ++ x ∷ []) (sym here) in
    is
    ∙ (ap (λ ps. ps ++ given_path one) h
    ∙ sym (ap (flat_map given_path) more
    ∙ (flat_map-append given_path (take i all) (one ∷ []) ∙ ap (λ ps. flat_map given_path (take i all) ++ ps) (append-nil (given_path one)))))

-- what was reported of files that were looked at, after what was reported while they were sought
pub reports_then : (a b d : Option (List ℕ)) (text : List ℕ) (reports : ℕ) → IsCounted reports (Appends a b) → Appends b d text
    → IsCounted reports (λ told. Appends a d (told ++ text))
reports_then a b d text reports (told, are, none) more = (told, appends_on a b d told text are more, none)

-- nothing is reported yet
pub none_yet : (a : Option (List ℕ)) → IsCounted 0 (Appends a a)
none_yet a = ([], appends_nothing a, λ none. refl)

-- one more is
pub one_report : (a b d : Option (List ℕ)) (old new : ℕ) (text : List ℕ) → IsCounted old (Appends a b) → Appends b d text → 0 < new
    → IsCounted new (Appends a d)
one_report a b d old new text (told, are, none) more some = (told ++ text, appends_on a b d told text are more, λ is. absurd (omega (arith, is, some)))

-- an item is noted
pub noted_item : (a b d : Option (List ℕ)) (old new : ℕ) (names more : Option Unnamed) (text : List ℕ) → CountsSoFar old names a b → Appends b d text
    → 0 < new → CountsSoFar new more a d
noted_item a b d old new names more text (told, are, none) adds some =
    (told ++ text, appends_on a b d told text are adds, λ is. absurd (omega (arith, is, some)))

-- the names that were counted last are told
pub told_names : (a b d : Option (List ℕ)) (reports : ℕ) (names : Option Unnamed) → CountsSoFar reports names a b → Appends b d (names_told names)
    → IsCounted reports (Appends a d)
told_names a b d reports names (told, are, none) more = (
  told ++ names_told names,
  appends_on a b d told (names_told names) are more,
  λ is. (let h = none is in ap (λ t. t ++ names_told names) h.0 ∙ ap names_told h.1),
)

-- another of some files is one of them and more
pub other_left : (xs ys : List Path) (path : Path) → HasOther xs path → HasOther (xs ++ ys) path
other_left xs ys path (other, among, differs) = (other, Contains-append_left xs ys other among, differs)

pub other_right : (xs ys : List Path) (path : Path) → HasOther ys path → HasOther (xs ++ ys) path
other_right xs ys path (other, among, differs) = (other, Contains-append_right xs ys other among, differs)
