-- What is written for the answers about some paths, one more at a time.
use Rattle.std.proofs.Common.{◌≡◌, ◌∙◌, ℕ, ◌+◌, ◌<◌, suc, zero, Bool, true, false, ◌||◌, cond, List, [], ◌∷◌, ◌++◌, All, IfSome, None, Some, append_assoc, drop, take-append-drop}
use Rattle.std.proofs.Common.{Option, length, map, take, get_or, refl, sym, ap, subst, arith, add-one}
use Rattle.std.proofs.lemmas.Grind.{flat_map-append}
use Rattle.std.proofs.lemmas.List.{append-nil, map-append}
use Rattle.std.proofs.lemmas.List.Elements.{All-push}
use Rattle.std.proofs.lemmas.List.Folds.{list_any-append}
use Rattle.std.specs.Io.KnownBytes.{Appends}
use Rattle.std.specs.List.{flat_map, list_any}
use Rattle.ignore_dir.specs.Load.{AreLoads, Loaded}
use Rattle.ignore_dir.specs.Scene.{QueryScene, scene}
use Rattle.ignore_dir.specs.declared.outside.Outside.{Outside}
use Rattle.ignore_dir.specs.declared.settings.Settings.{Settings}
use Rattle.ignore_files.specs.Tree.{Tree}
use Rattle.ignore_files.specs.declared.env.Env.{Env}
use Rattle.ignore_base.specs.Problem.{Problem}
use Rattle.ignore_query.specs.Fresh.{KeepsNothing}
use Rattle.ignore_query.specs.InTurn.{Leaves, ReportInTurn}
use Rattle.ignore_query.specs.InTurn.{Question as Asked}
use Rattle.ignore_query.specs.Reached.{scene_of}
use Rattle.ignore_query.specs.Reports.{reported}
use Rattle.ignore_query.specs.declared.kept.Cache.{Cache}
use Rattle.ignore_query.specs.declared.incremental.IncrementalIgnore.{IncrementalIgnore}
use Rattle.commands.specs.Checking.{AreAnswers, AreFirst, Checked, Checks, IsAnswer, IsMatcher, IsReport, ReportsInTurn}
use Rattle.commands.specs.Checking.{is_wrong, line_for, question_at, report_for, with_next}
use Rattle.commands.proofs.LineLemmas.{appends_nothing, appends_on, or-false}
use Rattle.commands.proofs.StopLemmas.{around}

map-take-suc : {A B : Type 0} (f : A → B) (xs : List A) (i : ℕ) (x : A) → i < length xs → x ≡ get_or xs i x
    → map f (take (suc i) xs) ≡ map f (take i xs) ++ f x ∷ []
map-take-suc f [] i x within read = absurd (omega (arith, within))
map-take-suc f (y ∷ ys) zero x within read = λ j. f (sym read j) ∷ []
map-take-suc f (y ∷ ys) (suc i) x within read = ap (λ l. f y ∷ l) (map-take-suc f ys i x (omega (arith, within)) read)

-- the images of the members up to one more
pub map-take-push : {A B : Type 0} (f : A → B) (xs : List A) (i : ℕ) (x : A) → i < length xs → x ≡ get_or xs i x
    → map f (take (i + 1) xs) ≡ map f (take i xs) ++ f x ∷ []
map-take-push f xs i x within read = rw add-one (map-take-suc f xs i x within read)

same_number : (a b : Bool) → ◌≡◌ {A = ℕ} (cond a 1 0) (cond b 1 0) → a ≡ b
same_number true true e = refl
same_number true false e = absurd (omega (arith, e))
same_number false true e = absurd (omega (arith, e))
same_number false false e = refl

-- what is written for one answer more
grown : (a b c : Option (List ℕ)) (f : Checked → List ℕ) (all : List Checked) (one : Checked)
    → Appends a b (flat_map f all) → Appends b c (f one) → Appends a c (flat_map f (all ++ one ∷ []))
grown a b c f all one h k =
    subst (Appends a c) (sym (flat_map-append f all (one ∷ []) ∙ ap (λ ys. flat_map f all ++ ys) (append-nil (f one))))
    (appends_on a b c _ _ h k)

-- nothing is asked yet
pub checks_none : (out err : Option (List ℕ)) → Checks [] [] 0 (Appends out out) (Appends err err)
checks_none out err = record { asked = refl; answers = appends_nothing out; reports = appends_nothing err; ends = refl }

-- one path more is answered
pub checks_more : (paths : List (List ℕ)) (path : List ℕ) (all : List Checked) (one : Checked) (any more : Bool)
    (a b c x y z : Option (List ℕ)) → Checks paths all (cond any 1 0) (Appends a b) (Appends x y) → one.path ≡ path
    → Appends b c (line_for one) → Appends y z (report_for one) → more ≡ is_wrong one
    → Checks (paths ++ path ∷ []) (all ++ one ∷ []) (cond (any || more) 1 0) (Appends a c) (Appends x z)
checks_more paths path all one any more a b c x y z h is line report wrong = record {
  asked = map-append (λ (o : Checked). o.path) all (one ∷ [])
      ∙ (ap (λ ps. ps ++ one.path ∷ []) h.asked ∙ ap (λ p. paths ++ p ∷ []) is);
  answers = grown a b c line_for all one h.answers line;
  reports = grown x y z report_for all one h.reports report;
  ends = ap (λ (r : Bool). cond r 1 0)
      (ap (λ r. r || more) (same_number any (list_any is_wrong all) h.ends)
      ∙ (ap (λ r. list_any is_wrong all || r) wrong
      ∙ sym (list_any-append is_wrong all (one ∷ []) ∙ ap (λ r. list_any is_wrong all || r) (or-false (is_wrong one)))));
}

-- one question more is asked in turn
turn_more : (g : QueryScene) (qs : List Asked) (ps : List (Option Problem)) (q : Asked) (p : Option Problem) (old middle new : Cache)
    → ReportInTurn g qs ps old middle → Leaves g q middle new → p ≡ reported g middle q.0 q.1
    → ReportInTurn g (qs ++ q ∷ []) (ps ++ p ∷ []) old new
turn_more g [] ps q p old middle new (none, same) leaves is = (
  new,
  [],
  subst (λ (c : Cache). Leaves g q c new) same leaves,
  ap (λ xs. xs ++ p ∷ []) none ∙ ap (λ x. x ∷ []) (is ∙ ap (λ (c : Cache). reported g c q.0 q.1) same),
  (refl, refl),
)
turn_more g (r ∷ qs) ps q p old middle new (between, rest, left, first, after) leaves is = (
  between,
  rest ++ p ∷ [],
  left,
  ap (λ xs. xs ++ p ∷ []) first,
  turn_more g qs rest q p between middle new after leaves is,
)

-- one path more is asked in turn
pub reports_more : (g : QueryScene) (all : List Checked) (one : Checked) (old middle new : Cache) → ReportsInTurn g all old middle
    → IsReport g middle new one.path one.problem → ReportsInTurn g (all ++ one ∷ []) old new
reports_more g all one old middle new h k =
    let asked : Checked → Asked = λ c. question_at g c.path in
    let problem : Checked → Option Problem = λ c. c.problem in
    subst (λ (qs : List Asked). ReportInTurn g qs (map problem (all ++ one ∷ [])) old new) (sym (map-append asked all (one ∷ [])))
    (subst (λ (ps : List (Option Problem)). ReportInTurn g (map asked all ++ asked one ∷ []) ps old new)
    (sym (map-append problem all (one ∷ [])))
    (turn_more g (map asked all) (map problem all) (asked one) one.problem old middle new h k.0 k.1))

-- the answers of a matcher that keeps nothing are those of the bare tree by its settings and rules,
-- and the problems those of what each path in turn loads
pub answers_of : (tree : Tree) (env : Env) (root : List ℕ) (m : IncrementalIgnore) (last : Cache) (all : List Checked)
    → IsMatcher tree env root m → KeepsNothing m.cache
    → ((loads : List ℕ → Loaded) → AreLoads tree m.asked.settings loads
    → All (IsAnswer (scene_of m.asked tree loads)) all × ReportsInTurn (scene_of m.asked tree loads) all m.cache last)
    → AreAnswers tree env root all
answers_of tree env root m last all w empty right = (
  w.0,
  w.1,
  λ loads are.
      let both = subst
      (λ (t : Settings × Outside × List ℕ × Option (List ℕ)). All (IsAnswer (scene tree loads t.0 t.1 t.2)) all
      × ReportsInTurn (scene tree loads t.0 t.1 t.2) all m.cache last) w.2
      (right loads (subst (λ (s : Settings). AreLoads tree s loads) (sym (ap (λ t. t.0) w.2)) are)) in
      (both.0, m.cache, last, empty, both.1),
)

-- the paths that were answered, and the next one, if there is one, are the first
pub first_of : {A : Type 0} (f : A → List ℕ) (xs : List A) (n : ℕ) (x : A) (all : List Checked) (next : Option Checked)
    → n < length xs → x ≡ get_or xs n x → map (λ (c : Checked). c.path) all ≡ map f (take n xs)
    → IfSome next (λ c. c.path ≡ f x) → AreFirst (map f xs) (with_next all next)
first_of f xs n x all None within here asked is = (
  map f (drop n xs),
  ap (map f) (sym (take-append-drop n xs))
      ∙ (map-append f (take n xs) (drop n xs)
      ∙ ap (λ ps. ps ++ map f (drop n xs)) (sym asked ∙ ap (map (λ (c : Checked). c.path)) (sym (append-nil all)))),
)
first_of f xs n x all (Some c) within here asked is =
    let rest = map f (drop (suc n) xs) in (
      rest,
      ap (map f) (around xs n x within here)
          ∙ (map-append f (take n xs) (x ∷ drop (suc n) xs)
          ∙ (ap (λ ps. ps ++ f x ∷ rest) (sym asked)
          ∙ (ap (λ (q : List ℕ). map (λ (o : Checked). o.path) all ++ q ∷ rest) (sym is)
          ∙ sym (ap (λ ps. ps ++ rest) (map-append (λ (o : Checked). o.path) all (c ∷ []))
          ∙ append_assoc (map (λ (o : Checked). o.path) all) (c.path ∷ []) rest)))),
    )

-- what is kept after the next path, if there is one
pub last_of : Option Checked → Cache → Cache → Cache
last_of None middle new = middle
last_of (Some c) middle new = new

-- the next path, if there is one, is answered as those before it
pub answers_with : (g : QueryScene) (all : List Checked) (next : Option Checked) (old middle new : Cache) → All (IsAnswer g) all
    → ReportsInTurn g all old middle → IfSome next (λ c. IsAnswer g c × IsReport g middle new c.path c.problem)
    → All (IsAnswer g) (with_next all next) × ReportsInTurn g (with_next all next) old (last_of next middle new)
unfolding last_of
answers_with g all None old middle new h k is =
    subst (λ (xs : List Checked). All (IsAnswer g) xs × ReportsInTurn g xs old middle) (sym (append-nil all)) (h, k)
answers_with g all (Some c) old middle new h k is = (All-push (IsAnswer g) all c h is.0, reports_more g all c old middle new k is.1)
