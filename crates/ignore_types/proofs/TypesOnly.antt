-- A path has one answer of types. A draft is built as one matcher, or is rejected with one problem;
-- the text of a definition changes a draft in one way, or is rejected.
use Rattle.std.proofs.Common.{◌≡◌, ◌⊎◌, ℕ, suc, length, Bool, true, false, List, [], ◌∷◌, ◌++◌, map, Option, Some, None, refl, sym, ap, ◌∙◌, subst, inl}
use Rattle.std.proofs.Common.{inr}
use Rattle.std.specs.List.{AllZip}
use Rattle.std.proofs.lemmas.List.Sorted.{sum_by-IsPermutation}
use Rattle.std.specs.Str.{chars}
use Rattle.ignore_glob.specs.Glob.{Tokens}
use Rattle.ignore_glob.specs.GlobFaults.{glob_fault_text}
use Rattle.ignore_glob.specs.declared.glob.fault.GlobFault.{GlobFault}
use Rattle.ignore_base.specs.declared.match_result.Match.{Match}
use Rattle.ignore_base.specs.Problem.{Problem, problem_of, glob, invalid_definition, memory}
use Rattle.ignore_glob.specs.Reading.{Reading, Matches}
use Rattle.ignore_glob.proofs.RowLemmas.{Reads-same, one_fault, never_both}
use Rattle.ignore_base.specs.declared.error.Error.{Error}
use Rattle.std.specs.declared.cmp.Ordering.TheVariants.{Less}
use Rattle.ignore_types.specs.Types.{Definition, Choice, Draft, Becomes, IsSortedCopy, IsAscending, text_cmp, definition_of}
use Rattle.ignore_types.specs.TypeMatch.{Chosen, Matcher, TypeGlob, SomeMatches, NoneMatches, IsLastGlob, IsNameAnswer, IsTypeAnswer, match_by_glob}
use Rattle.ignore_types.specs.Building.{plain, IsReadAs, IsChosen, IsBuilt, FirstBad, IsGlobProblem, IsChoiceProblem, IsRefusedWith}
use Rattle.ignore_types.specs.Refusals.{IsRefusal}
use Rattle.ignore_types.proofs.SortedTexts.{sorted_one}

-- The answer.

none_at : (name : List ℕ) (before : List Chosen) (c : Chosen) (after : List Chosen) → NoneMatches name (before ++ c ∷ after)
    → SomeMatches name c.readings → ⊥
none_at name [] c after none matches = none.0 matches
none_at name (b ∷ before) c after none matches = none_at name before c after none.1 matches

one_choice : (name : List ℕ) (before front : List Chosen) (c d : Chosen) (after rest : List Chosen)
    → before ++ c ∷ after ≡ front ++ d ∷ rest → SomeMatches name c.readings → NoneMatches name after → SomeMatches name d.readings
    → NoneMatches name rest → c ≡ d
one_choice name [] [] c d after rest e matches none others later = let same : c ≡ d = cc e in same
one_choice name [] (x ∷ front) c d after rest e matches none others later =
    let left : after ≡ front ++ d ∷ rest = cc e in absurd (none_at name front d rest (subst (NoneMatches name) left none) others)
one_choice name (b ∷ before) [] c d after rest e matches none others later =
    let left : before ++ c ∷ after ≡ rest = cc e in absurd (none_at name before c after (subst (NoneMatches name) (sym left) later) matches)
one_choice name (b ∷ before) (x ∷ front) c d after rest e matches none others later =
    let left : before ++ c ∷ after ≡ front ++ d ∷ rest = cc e in one_choice name before front c d after rest left matches none others later

some_at : (name : List ℕ) (before : List Reading) (r : Reading) (after : List Reading) → Matches r name
    → SomeMatches name (before ++ r ∷ after)
some_at name [] r after matches = inl matches
some_at name (b ∷ before) r after matches = inr (some_at name before r after matches)

one_matches : (name : List ℕ) (rs : List Reading) (i : ℕ) → IsLastGlob name rs i → SomeMatches name rs
one_matches name rs i h = subst (SomeMatches name) (sym h.split) (some_at name h.before h.reading h.after h.matches)

one_place : (name : List ℕ) (before front : List Reading) (r q : Reading) (after rest : List Reading)
    → before ++ r ∷ after ≡ front ++ q ∷ rest → Matches r name → (SomeMatches name after → ⊥) → Matches q name
    → (SomeMatches name rest → ⊥) → length before ≡ length front
one_place name [] [] r q after rest e matches none others later = refl
one_place name [] (x ∷ front) r q after rest e matches none others later =
    let left : after ≡ front ++ q ∷ rest = cc e in
    absurd (none (subst (SomeMatches name) (sym left) (some_at name front q rest others)))
one_place name (b ∷ before) [] r q after rest e matches none others later =
    let left : before ++ r ∷ after ≡ rest = cc e in absurd (later (subst (SomeMatches name) left (some_at name before r after matches)))
one_place name (b ∷ before) (x ∷ front) r q after rest e matches none others later =
    let left : before ++ r ∷ after ≡ front ++ q ∷ rest = cc e in
    ap suc (one_place name before front r q after rest left matches none others later)

IsLastGlob-one : (name : List ℕ) (rs : List Reading) (i j : ℕ) → IsLastGlob name rs i → IsLastGlob name rs j → i ≡ j
IsLastGlob-one name rs i j h k =
    sym h.there ∙ (one_place name h.before k.before h.reading k.reading h.after k.after (sym h.split ∙ k.split) h.matches h.later
    k.matches k.later ∙ k.there)

IsNameAnswer-one : (choices : List Chosen) (name : List ℕ) (m k : Match (Option TypeGlob)) → IsNameAnswer choices name m
    → IsNameAnswer choices name k → m ≡ k
IsNameAnswer-one choices name m k (inl (c, i, here, e)) (inl (d, j, there, f)) =
    let same : c ≡ d = one_choice name here.before there.before c d here.after there.after (sym here.split ∙ there.split)
    (one_matches name c.readings i here.last) here.later (one_matches name d.readings j there.last) there.later in
    let place : i ≡ j = IsLastGlob-one name c.readings i j here.last
    (subst (λ (x : Chosen). IsLastGlob name x.readings j) (sym same) there.last) in
    e ∙ (ap (λ (x : Chosen). match_by_glob x i) same ∙ (ap (λ n. match_by_glob d n) place ∙ sym f))
IsNameAnswer-one choices name m k (inl (c, i, here, e)) (inr (none, f)) =
    absurd (none_at name here.before c here.after (subst (NoneMatches name) here.split none) (one_matches name c.readings i here.last))
IsNameAnswer-one choices name m k (inr (none, e)) (inl (d, j, there, f)) =
    absurd (none_at name there.before d there.after (subst (NoneMatches name) there.split none) (one_matches name d.readings j there.last))
IsNameAnswer-one choices name m k (inr (none, e)) (inr (others, f)) = e ∙ sym f

-- a path has one answer
IsTypeAnswer-one : (choices : List Chosen) (is_dir : Bool) (name : Option (List ℕ)) (m k : Match (Option TypeGlob))
    → IsTypeAnswer choices is_dir name m → IsTypeAnswer choices is_dir name k → m ≡ k
IsTypeAnswer-one choices true name m k h j = h ∙ sym j
IsTypeAnswer-one choices false None m k h j = h ∙ sym j
IsTypeAnswer-one choices false (Some name) m k h j = IsNameAnswer-one choices (chars name) m k h j

-- What a choice becomes.

IsReadAs-one : (text : List ℕ) (a b : Reading) → IsReadAs text a → IsReadAs text b → a ≡ b
IsReadAs-one text a b h k =
    ap (λ (tokens : Tokens). let read : Reading = record { tokens = tokens; case_insensitive = a.case_insensitive } in read)
    (Reads-same plain (chars text) a.tokens b.tokens h.reads k.reads)
    ∙ ap (λ (fold : Bool). let read : Reading = record { tokens = b.tokens; case_insensitive = fold } in read) (h.case ∙ sym k.case)

readings_one : (texts : List (List ℕ)) (rs qs : List Reading) → AllZip IsReadAs texts rs → AllZip IsReadAs texts qs → rs ≡ qs
readings_one [] [] [] h k = refl
readings_one [] [] (q ∷ qs) h k = absurd k
readings_one [] (r ∷ rs) qs h k = absurd h
readings_one (t ∷ texts) [] qs h k = absurd h
readings_one (t ∷ texts) (r ∷ rs) [] h k = absurd k
readings_one (t ∷ texts) (r ∷ rs) (q ∷ qs) h k =
    ap (λ (x : Reading). x ∷ rs) (IsReadAs-one t r q h.0 k.0) ∙ ap (λ (xs : List Reading). q ∷ xs) (readings_one texts rs qs h.1 k.1)

some_one : {A : Type 0} (a b : A) → Some a ≡ Some b → a ≡ b
some_one a b e = cc

IsChosen-one : (definitions : List Definition) (choice : Choice) (a b : Chosen) → IsChosen definitions choice a
    → IsChosen definitions choice b → a ≡ b
IsChosen-one definitions choice a b h k =
    let same : a.definition ≡ b.definition = some_one a.definition b.definition (sym h.defined ∙ k.defined) in
    let read : a.readings ≡ b.readings = readings_one a.definition.globs a.readings b.readings h.readings
    (subst (λ (d : Definition). AllZip IsReadAs d.globs b.readings) (sym same) k.readings) in
    ap (λ (d : Definition). let c : Chosen = record { definition = d; readings = a.readings; negated = a.negated } in c) same
    ∙ (ap (λ (rs : List Reading). let c : Chosen = record { definition = b.definition; readings = rs; negated = a.negated } in c) read
    ∙ ap (λ (negated : Bool). let c : Chosen = record { definition = b.definition; readings = b.readings; negated = negated } in c)
    (h.negated ∙ sym k.negated))

-- The first that is bad.

good_at : {A B : Type 0} (Good : A → B → Type 0) (before : List A) (x : A) (after : List A) (goods : List B)
    → AllZip Good (before ++ x ∷ after) goods → (y : B) × Good x y
good_at Good [] x after [] all = absurd all
good_at Good [] x after (y ∷ goods) all = (y, all.0)
good_at Good (b ∷ before) x after [] all = absurd all
good_at Good (b ∷ before) x after (y ∷ goods) all = good_at Good before x after goods all.1

-- all are good, or one is the first that is bad
FirstBad-never : {A B : Type 0} (Good : A → B → Type 0) (Bad : A → Type 0) (xs : List A) (goods : List B)
    → ((x : A) (y : B) → Good x y → Bad x → ⊥) → AllZip Good xs goods → FirstBad Good Bad xs → ⊥
FirstBad-never Good Bad xs goods never all first =
    let found = good_at Good first.before first.bad first.after goods (subst (λ l. AllZip Good l goods) first.split all) in
    never first.bad found.0 found.1 first.fails

one_bad : {A B : Type 0} (Good : A → B → Type 0) (Bad Worse : A → Type 0) (P : Type 0) (before front : List A) (x y : A)
    (after rest : List A) (goods others : List B)
    → ((z : A) (w : B) → Good z w → Bad z → ⊥) → ((z : A) (w : B) → Good z w → Worse z → ⊥) → ((z : A) → Bad z → Worse z → P)
    → before ++ x ∷ after ≡ front ++ y ∷ rest → AllZip Good before goods → AllZip Good front others → Bad x → Worse y → P
one_bad Good Bad Worse P [] [] x y after rest goods others never neither both e good fine bad worse =
    let same : x ≡ y = cc e in both x bad (subst Worse (sym same) worse)
one_bad Good Bad Worse P [] (z ∷ front) x y after rest goods [] never neither both e good fine bad worse = absurd fine
one_bad Good Bad Worse P [] (z ∷ front) x y after rest goods (w ∷ others) never neither both e good fine bad worse =
    let same : x ≡ z = cc e in absurd (never z w fine.0 (subst Bad same bad))
one_bad Good Bad Worse P (z ∷ before) [] x y after rest [] others never neither both e good fine bad worse = absurd good
one_bad Good Bad Worse P (z ∷ before) [] x y after rest (w ∷ goods) others never neither both e good fine bad worse =
    let same : z ≡ y = cc e in absurd (neither z w good.0 (subst Worse (sym same) worse))
one_bad Good Bad Worse P (z ∷ before) (t ∷ front) x y after rest [] others never neither both e good fine bad worse = absurd good
one_bad Good Bad Worse P (z ∷ before) (t ∷ front) x y after rest (w ∷ goods) [] never neither both e good fine bad worse = absurd fine
one_bad Good Bad Worse P (z ∷ before) (t ∷ front) x y after rest (w ∷ goods) (v ∷ others) never neither both e good fine bad worse =
    let left : before ++ x ∷ after ≡ front ++ y ∷ rest = cc e in
    one_bad Good Bad Worse P before front x y after rest goods others never neither both left good.1 fine.1 bad worse

-- two problems that the first bad one has are one
FirstBad-one : {A B : Type 0} (Good : A → B → Type 0) (Bad : Problem → A → Type 0) (xs : List A) (p q : Problem)
    → ((r : Problem) (x : A) (y : B) → Good x y → Bad r x → ⊥) → ((x : A) → Bad p x → Bad q x → p ≡ q) → FirstBad Good (Bad p) xs
    → FirstBad Good (Bad q) xs → p ≡ q
FirstBad-one Good Bad xs p q never one h k =
    one_bad Good (Bad p) (Bad q) (p ≡ q) h.before k.before h.bad k.bad h.after k.after h.goods k.goods (never p) (never q) one
    (sym h.split ∙ k.split) h.good k.good h.fails k.fails

-- What rejects.

IsGlobProblem-never : (p : Problem) (text : List ℕ) (reading : Reading) → IsReadAs text reading → IsGlobProblem p text → ⊥
IsGlobProblem-never p text reading h k = never_both plain (chars text) reading.tokens k.0 h.reads k.1

IsGlobProblem-one : (p q : Problem) (text : List ℕ) → IsGlobProblem p text → IsGlobProblem q text → p ≡ q
IsGlobProblem-one p q text h k =
    h.2 ∙ (ap (λ (f : GlobFault). glob (Some text) (glob_fault_text f)) (one_fault plain (chars text) h.0 k.0 h.1 k.1) ∙ sym k.2)

none_or_some : {A : Type 0} (o : Option A) (x : A) → o ≡ None → o ≡ Some x → ⊥
none_or_some o x e f = cc

IsChoiceProblem-never : (definitions : List Definition) (p : Problem) (choice : Choice) (chosen : Chosen)
    → IsChosen definitions choice chosen → IsChoiceProblem definitions p choice → ⊥
IsChoiceProblem-never definitions p choice chosen h (inl (none, e)) =
    none_or_some (definition_of choice.name definitions) chosen.definition none h.defined
IsChoiceProblem-never definitions p choice chosen h (inr (d, here, first)) =
    let same : chosen.definition ≡ d = some_one chosen.definition d (sym h.defined ∙ here) in
    FirstBad-never IsReadAs (IsGlobProblem p) d.globs chosen.readings (λ text reading. IsGlobProblem-never p text reading)
    (subst (λ (x : Definition). AllZip IsReadAs x.globs chosen.readings) same h.readings) first

IsChoiceProblem-one : (definitions : List Definition) (choice : Choice) (p q : Problem) → IsChoiceProblem definitions p choice
    → IsChoiceProblem definitions q choice → p ≡ q
IsChoiceProblem-one definitions choice p q (inl (none, e)) (inl (missing, f)) = e ∙ sym f
IsChoiceProblem-one definitions choice p q (inl (none, e)) (inr (d, there, first)) =
    absurd (none_or_some (definition_of choice.name definitions) d none there)
IsChoiceProblem-one definitions choice p q (inr (d, here, first)) (inl (none, f)) =
    absurd (none_or_some (definition_of choice.name definitions) d none here)
IsChoiceProblem-one definitions choice p q (inr (d, here, first)) (inr (c, there, other)) =
    let same : d ≡ c = some_one d c (sym here ∙ there) in
    FirstBad-one IsReadAs IsGlobProblem d.globs p q (λ r text reading. IsGlobProblem-never r text reading)
    (λ text. IsGlobProblem-one p q text) first
    (subst (λ (x : Definition). FirstBad IsReadAs (IsGlobProblem q) x.globs) (sym same) other)

-- a draft is rejected with one problem
IsRefusedWith-one : (draft : Draft) (p q : Problem) → IsRefusedWith draft p → IsRefusedWith draft q → p ≡ q
IsRefusedWith-one draft p q h k =
    FirstBad-one (IsChosen draft.definitions) (IsChoiceProblem draft.definitions) draft.choices p q
    (λ r choice chosen. IsChoiceProblem-never draft.definitions r choice chosen)
    (λ choice. IsChoiceProblem-one draft.definitions choice p q) h k

-- What a matcher is built as.

choices_one : (definitions : List Definition) (choices : List Choice) (cs ds : List Chosen) → AllZip (IsChosen definitions) choices cs
    → AllZip (IsChosen definitions) choices ds → cs ≡ ds
choices_one definitions [] [] [] h k = refl
choices_one definitions [] [] (d ∷ ds) h k = absurd k
choices_one definitions [] (c ∷ cs) ds h k = absurd h
choices_one definitions (x ∷ choices) [] ds h k = absurd h
choices_one definitions (x ∷ choices) (c ∷ cs) [] h k = absurd k
choices_one definitions (x ∷ choices) (c ∷ cs) (d ∷ ds) h k =
    ap (λ (y : Chosen). y ∷ cs) (IsChosen-one definitions x c d h.0 k.0)
    ∙ ap (λ (ys : List Chosen). d ∷ ys) (choices_one definitions choices cs ds h.1 k.1)

-- a definition has one sorted copy
IsSortedCopy-one : (d a b : Definition) → IsSortedCopy d a → IsSortedCopy d b → a ≡ b
IsSortedCopy-one d a b h k =
    let same : a.globs ≡ b.globs = sorted_one a.globs b.globs (λ f. sum_by-IsPermutation f d.globs a.globs h.same_globs
    ∙ sym (sum_by-IsPermutation f d.globs b.globs k.same_globs)) h.in_order k.in_order in
    ap (λ (name : List ℕ). let e : Definition = record { name = name; globs = a.globs } in e) (h.same_name ∙ sym k.same_name)
    ∙ ap (λ (globs : List (List ℕ)). let e : Definition = record { name = b.name; globs = globs } in e) same

copies_one : (ds es bs : List Definition) → AllZip IsSortedCopy ds es → AllZip IsSortedCopy ds bs → es ≡ bs
copies_one [] [] [] h k = refl
copies_one [] [] (b ∷ bs) h k = absurd k
copies_one [] (a ∷ es) bs h k = absurd h
copies_one (d ∷ ds) [] bs h k = absurd h
copies_one (d ∷ ds) (a ∷ es) [] h k = absurd k
copies_one (d ∷ ds) (a ∷ es) (b ∷ bs) h k =
    ap (λ (x : Definition). x ∷ es) (IsSortedCopy-one d a b h.0 k.0)
    ∙ ap (λ (xs : List Definition). b ∷ xs) (copies_one ds es bs h.1 k.1)

names_one : (ds es : List Definition) → AllZip IsSortedCopy ds es
    → map (λ (d : Definition). d.name) es ≡ map (λ (d : Definition). d.name) ds
names_one [] [] h = refl
names_one [] (e ∷ es) h = absurd h
names_one (d ∷ ds) [] h = absurd h
names_one (d ∷ ds) (e ∷ es) h =
    ap (λ (name : List ℕ). name ∷ map (λ (x : Definition). x.name) es) h.0.same_name
    ∙ ap (λ (names : List (List ℕ)). d.name ∷ names) (names_one ds es h.1)

-- a draft is built as one matcher, with the names that it has
IsBuilt-one : (draft : Draft) (a b : Matcher) → IsBuilt draft a → IsBuilt draft b
    → (a ≡ b) × (map (λ (d : Definition). d.name) a.definitions ≡ map (λ (d : Definition). d.name) draft.definitions)
IsBuilt-one draft a b h k = (
  ap (λ (ds : List Definition). let m : Matcher = record { definitions = ds; choices = a.choices } in m)
      (copies_one draft.definitions a.definitions b.definitions h.definitions k.definitions)
      ∙ ap (λ (cs : List Chosen). let m : Matcher = record { definitions = b.definitions; choices = cs } in m)
      (choices_one draft.definitions draft.choices a.choices b.choices h.choices k.choices),
  names_one draft.definitions a.definitions h.definitions,
)

two_ascend : (d e : Definition) (ds : List Definition) → AllZip IsSortedCopy (d ∷ (e ∷ [])) ds → IsAscending ds
    → text_cmp d.name e.name ≡ Less
two_ascend d e [] h k = absurd h
two_ascend d e (x ∷ []) h k = absurd h.1
two_ascend d e (x ∷ (y ∷ [])) h k =
    subst (λ (n : List ℕ). text_cmp n e.name ≡ Less) h.0.same_name (subst (λ (n : List ℕ). text_cmp x.name n ≡ Less) h.1.0.same_name k.0.0)
two_ascend d e (x ∷ (y ∷ (z ∷ ds))) h k = absurd h.1.1

-- a draft of two definitions is built only where their names stand in text order
IsBuilt-two : (d e : Definition) (choices : List Choice) (m : Matcher)
    → IsBuilt (record { definitions = d ∷ (e ∷ []); choices = choices }) m → text_cmp d.name e.name ≡ Less
IsBuilt-two d e choices m h = two_ascend d e m.definitions h.definitions h.by_name

-- What a text of a definition makes of a draft.

Becomes-one : (old : Draft) (definitions : Option (List Definition)) (a b : Draft) → Becomes old definitions a → Becomes old definitions b
    → a ≡ b
Becomes-one old definitions a b h k =
    let same : a.definitions ≡ b.definitions = some_one a.definitions b.definitions (sym h.0 ∙ k.0) in
    ap (λ (ds : List Definition). let d : Draft = record { definitions = ds; choices = a.choices } in d) same
    ∙ ap (λ (cs : List Choice). let d : Draft = record { definitions = b.definitions; choices = cs } in d) (h.1 ∙ sym k.1)

-- the error is out of memory, or the definition isn't allowed and is reported as invalid
IsRefusal-problem_of : (allowed : Option (List Definition)) (e : Error) → IsRefusal allowed e
    → (problem_of e ≡ memory) ⊎ (problem_of e ≡ invalid_definition)
IsRefusal-problem_of allowed e (inl h) = inl h
IsRefusal-problem_of allowed e (inr h) = inr h.0

apart : (p : Problem) → p ≡ memory → p ≡ invalid_definition → ⊥
apart p h k = cc

IsRefusal-never : (old new : Draft) (allowed : Option (List Definition)) (e : Error) → problem_of e ≡ invalid_definition
    → IsRefusal allowed e → Becomes old allowed new → ⊥
IsRefusal-never old new allowed e invalid (inl h) k = apart (problem_of e) h invalid
IsRefusal-never old new allowed e invalid (inr h) k = none_or_some allowed new.definitions h.1 k.0
