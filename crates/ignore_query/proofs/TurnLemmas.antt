-- Paths asked about in turn, and one more.
use Rattle.std.proofs.Common.{◌≡◌, ◌≢◌, ◌+◌, ◌<◌, ℕ, Bool, true, All, List, [], ◌∷◌, ◌++◌, Option, None, String, Global, length, map, option_map}
use Rattle.std.proofs.Common.{string_bytes, take, get_or, refl, sym, ap, ◌∙◌, subst}
use Rattle.std.proofs.lemmas.List.{length_push, map-append, take_more}
use Rattle.std.proofs.lemmas.List.Elements.{All-nil, All-push}
use Rattle.ignore_base.specs.declared.error.Error.{Error}
use Rattle.ignore_base.specs.Problem.{Problem, problem_of}
use Rattle.ignore_dir.specs.declared.incremental.IncrementalMatch.{IncrementalMatch}
use Rattle.ignore_dir.specs.Load.{Loaded}
use Rattle.ignore_dir.specs.Query.{limit_of, names_of, query}
use Rattle.ignore_dir.specs.Scene.{QueryScene}
use Rattle.ignore_dir.specs.Soft.{IsSoft}
use Rattle.ignore_files.specs.Tree.{Tree}
use Rattle.ignore_files.specs.declared.files.Files.{Ghosts as Files}
use Rattle.ignore_query.specs.declared.asked.Asked.{Asked}
use Rattle.ignore_query.specs.declared.incremental.IncrementalIgnore.{IncrementalIgnore}
use Rattle.ignore_query.specs.declared.kept.Cache.{Cache}
use Rattle.ignore_query.specs.Agrees.{Agrees}
use Rattle.ignore_query.specs.InTurn.{IsFromKept, Leaves, Question, ReportInTurn}
use Rattle.ignore_query.specs.KeptLoads.{KeepsLoads}
use Rattle.ignore_query.specs.Left.{LeavesMatcher}
use Rattle.ignore_query.specs.Needs.{KeepsNeeded, Stays, is_decided, is_known, needed}
use Rattle.ignore_query.specs.Reached.{InEachScene, scene_of}
use Rattle.ignore_query.specs.Reports.{reported}
use Rattle.ignore_query.proofs.KeptLoadLemmas.{loads_nothing, loads_then}
use Rattle.ignore_query.proofs.NeedLemmas.{stays_itself, stays_then}
use Rattle.ignore_query.proofs.WayLemmas.{map-map}
use Rattle.ignore_why.specs.declared.explanation.Explanation.{Explanation}
use Rattle.ignore_why.specs.QueryWhy.{QueryWhy, query_why, query_why_of}

-- Questions and results.

-- a path, and whether it is a directory
abbrev pub Entry : Type 0
Entry = String Global × Bool

abbrev pub question : Entry → Question
question p = (string_bytes p.0, p.1)

-- an answer as it is, and that of a question
abbrev pub itself : IncrementalMatch → IncrementalMatch
itself m = m

abbrev pub match_to : QueryScene → Question → IncrementalMatch
match_to g q = (query g q.0 q.1).0

-- an explanation as plain data, and that of a question
abbrev pub explained : Explanation → QueryWhy × IncrementalMatch
explained e = (query_why_of e.reason, e.answer)

abbrev pub explained_to : QueryScene → Question → QueryWhy × IncrementalMatch
explained_to g q = (query_why g q.0 q.1, match_to g q)

pub pair : {A B : Type 0} {a c : A} {b d : B} → a ≡ c → b ≡ d → ◌≡◌ {A = A × B} (a, b) (c, d)
pair {A = A} {B = B} {a = a} {c = c} {b = b} {d = d} e f =
    let P : A → A × B = λ x. (x, b) in let Q : B → A × B = λ x. (c, x) in ap P e ∙ ap Q f

-- results with their errors, if any
abbrev pub Reported : Type 0 → Type 0
Reported R = R × Option Error

abbrev pub problem_by : {R : Type 0} → Reported R → Option Problem
problem_by r = option_map problem_of r.1

-- of explanations, each half
pub halves : (g : QueryScene) (rs : List (Reported Explanation)) (ps : List Entry)
    → map (λ r. explained r.0) rs ≡ map (λ p. explained_to g (question p)) ps
    → (map (λ r. query_why_of r.0.reason) rs ≡ map (λ p. query_why g (string_bytes p.0) p.1) ps)
    × (map (λ r. r.0.answer) rs ≡ map (λ p. match_to g (question p)) ps)
halves g rs ps e =
    let f : Reported Explanation → QueryWhy × IncrementalMatch = λ r. explained r.0 in
    let h : Entry → QueryWhy × IncrementalMatch = λ p. explained_to g (question p) in
    let one : QueryWhy × IncrementalMatch → QueryWhy = λ z. z.0 in
    let two : QueryWhy × IncrementalMatch → IncrementalMatch = λ z. z.1 in (
      sym (map-map one f rs) ∙ (ap (map one) e ∙ map-map one h ps),
      sym (map-map two f rs) ∙ (ap (map two) e ∙ map-map two h ps),
    )

-- One question.

-- what it leaves of what is kept, with an answer or out of memory
pub record Goes {F : Type 0} (files : Files F) (f : F) (a : Asked) (q : Question) (old new : Cache) : Type 0 where
  pub stays : Stays old new
  pub loaded : KeepsLoads files f a old new
  pub agrees : InEachScene files f a (λ g. Agrees g old → Agrees g new)
  pub unchanged : InEachScene files f a (λ g. Agrees g old → is_decided g q.0 q.1 ≢ true → new ≡ old)
  pub known : (tree : Tree) (loads : List ℕ → Loaded) → let g = scene_of a tree loads in Agrees g old → IsFromKept g old q → new ≡ old

-- what it is answered, where `said` is what a result says
pub record Gives {R V F : Type 0} (said : R → V) (to : QueryScene → Question → V) (files : Files F) (f : F) (a : Asked) (q : Question)
    (old new : Cache) (r : Reported R) : Type 0 where
  pub value : InEachScene files f a (λ g. Agrees g old → said r.0 ≡ to g q)
  pub reports : InEachScene files f a (λ g. Agrees g old → problem_by r ≡ reported g old q.0 q.1)
  pub kept : InEachScene files f a (λ g. Agrees g old → is_decided g q.0 q.1 ≡ true → KeepsNeeded (needed g (names_of q.0)) old new)
  pub from_kept : (tree : Tree) (loads : List ℕ → Loaded) → let g = scene_of a tree loads in
      Agrees g old → IsFromKept g old q → (said r.0 ≡ to g q) × (r.1 ≡ None)
  pub soft : IsSoft (problem_by r)

-- Questions in turn.

-- what they left of what is kept
pub record Left {F : Type 0} (files : Files F) (f : F) (a : Asked) (paths : List Entry) (first now : Cache) : Type 0 where
  pub stays : Stays first now
  pub loaded : KeepsLoads files f a first now
  pub agrees : InEachScene files f a (λ g. Agrees g first → Agrees g now)
  pub known : (tree : Tree) (loads : List ℕ → Loaded) → let g = scene_of a tree loads in
      Agrees g first → All (λ p. IsFromKept g first (question p)) paths → now ≡ first

-- what they were answered, those of the paths that are done
pub record Turns {R V F : Type 0} (said : R → V) (to : QueryScene → Question → V) (files : Files F) (f : F) (a : Asked)
    (paths done : List Entry) (first now : Cache) (rs : List (Reported R)) : Type 0 where
  pub left : Left files f a paths first now
  pub each : length rs ≡ length done
  pub soft : All (λ r. IsSoft (problem_by r)) rs
  pub value : InEachScene files f a (λ g. Agrees g first → map (λ r. said r.0) rs ≡ map (λ p. to g (question p)) done)
  pub reports : InEachScene files f a (λ g. Agrees g first → ReportInTurn g (map question done) (map problem_by rs) first now)
  pub from_kept : (tree : Tree) (loads : List ℕ → Loaded) → let g = scene_of a tree loads in
      Agrees g first → All (λ p. IsFromKept g first (question p)) paths
      → All (λ r. r.1 ≡ None) rs × (map (λ r. said r.0) rs ≡ map (λ p. to g (question p)) done)

pub turns_none : {R V F : Type 0} (said : R → V) (to : QueryScene → Question → V) (files : Files F) (f : F) (a : Asked)
    (paths : List Entry) (c : Cache) (rs : List (Reported R)) → rs ≡ [] → Turns said to files f a paths [] c c rs
turns_none {R = R} {V = V} said to files f a paths c rs none =
    let on : Reported R → V = λ r. said r.0 in
    let P : Reported R → Type 0 = λ r. IsSoft (problem_by r) in
    let N : Reported R → Type 0 = λ r. r.1 ≡ None in
    record {
      left = record {
        stays = stays_itself c;
        loaded = loads_nothing files f a c;
        agrees = λ tree loads honest are h. h;
        known = λ tree loads h all. refl;
      };
      each = ap length none;
      soft = subst (All P) (sym none) (All-nil P);
      value = λ tree loads honest are h. ap (map on) none;
      reports = λ tree loads honest are h. (ap (map problem_by) none, refl);
      from_kept = λ tree loads h all. (subst (All N) (sym none) (All-nil N), ap (map on) none);
    }

-- a question that is from what was kept is so after others that are
asked_kept : (g : QueryScene) (paths : List Entry) (i : ℕ) (p : Entry) (q : Question) (first old : Cache) → i < length paths
    → p ≡ get_or paths i p → q ≡ question p → old ≡ first → All (λ p. IsFromKept g first (question p)) paths → IsFromKept g old q
asked_kept g paths i p q first old lt at is same all =
    subst (λ x. IsFromKept g x q) (sym same)
    (subst (λ x. IsFromKept g first x) (sym is) (subst (λ x. IsFromKept g first (question x)) (sym at) (all i p lt)))

left_next : {F : Type 0} (files : Files F) (f : F) (a : Asked) (paths : List Entry) (i : ℕ) (p : Entry) (q : Question)
    (first old new : Cache) → i < length paths → p ≡ get_or paths i p → q ≡ question p → Left files f a paths first old
    → Goes files f a q old new → Left files f a paths first new
left_next files f a paths i p q first old new lt at is left goes = record {
  stays = stays_then first old new left.stays goes.stays;
  loaded = loads_then files f a first old new left.loaded goes.stays goes.loaded;
  agrees = λ tree loads honest are h. goes.agrees tree loads honest are (left.agrees tree loads honest are h);
  known = λ tree loads h all.
      let g = scene_of a tree loads in
      let same = left.known tree loads h all in
      goes.known tree loads (subst (λ x. Agrees g x) (sym same) h) (asked_kept g paths i p q first old lt at is same all) ∙ same;
}

one_more : {A B V : Type 0} (f : A → V) (h : B → V) (xs xs' : List A) (ys : List B) (x : A) (y : B) → xs' ≡ xs ++ x ∷ []
    → map f xs ≡ map h ys → f x ≡ h y → map f xs' ≡ map h (ys ++ y ∷ [])
one_more f h xs xs' ys x y e all one = rw (e, map-append f xs (x ∷ []), all, one) (sym (map-append h ys (y ∷ [])))

turn_next : (g : QueryScene) (qs : List Question) (ps : List (Option Problem)) (old c c' : Cache) (q : Question)
    → ReportInTurn g qs ps old c → Leaves g q c c' → ReportInTurn g (qs ++ q ∷ []) (ps ++ reported g c q.0 q.1 ∷ []) old c'
turn_next g [] ps old c c' q turn leaves =
    let P : Cache → Type 0 = λ x. Leaves g q x c' → ReportInTurn g (q ∷ []) (ps ++ reported g x q.0 q.1 ∷ []) old c' in
    let first : P old = λ l. (c', [], l, ap (λ t. t ++ reported g old q.0 q.1 ∷ []) turn.0, (refl, refl)) in
    subst P (sym turn.1) first leaves
turn_next g (x ∷ qs) ps old c c' q turn leaves = (
  turn.0,
  turn.1 ++ reported g c q.0 q.1 ∷ [],
  turn.2,
  ap (λ t. t ++ reported g c q.0 q.1 ∷ []) turn.3,
  turn_next g qs turn.1 turn.0 c c' q turn.4 leaves,
)

-- one question more
turns_next : {R V F : Type 0} (said : R → V) (to : QueryScene → Question → V) (files : Files F) (f : F) (a : Asked)
    (paths : List Entry) (i : ℕ) (p : Entry) (q : Question) (first old new : Cache) (rs rs' : List (Reported R)) (r : Reported R)
    → i < length paths → p ≡ get_or paths i p → q ≡ question p → Turns said to files f a paths (take i paths) first old rs
    → Goes files f a q old new → Gives said to files f a q old new r → rs' ≡ rs ++ r ∷ []
    → Turns said to files f a paths (take (i + 1) paths) first new rs'
turns_next {R = R} {V = V} said to files f a paths i p q first old new rs rs' r lt at is turns goes gives more =
    let done : List Entry = take i paths in
    let next : take (i + 1) paths ≡ done ++ p ∷ [] = take_more paths i p lt ∙ ap (λ (x : Entry). done ++ x ∷ []) (sym at) in
    let T : List Entry → Type 0 = λ l. Turns said to files f a paths l first new rs' in
    let P : Reported R → Type 0 = λ x. IsSoft (problem_by x) in
    let N : Reported R → Type 0 = λ x. x.1 ≡ None in
    let on : Reported R → V = λ x. said x.0 in
    subst T (sym next) (record {
      left = left_next files f a paths i p q first old new lt at is turns.left goes;
      each = ap length more ∙ (length_push rs r ∙ (ap (λ n. n + 1) turns.each ∙ sym (length_push done p)));
      soft = subst (All P) (sym more) (All-push P rs r turns.soft gives.soft);
      value = λ tree loads honest are h.
          let g = scene_of a tree loads in
          one_more on (λ x. to g (question x)) rs rs' done r p more (turns.value tree loads honest are h)
          (gives.value tree loads honest are (turns.left.agrees tree loads honest are h) ∙ ap (to g) is);
      reports = λ tree loads honest are h.
          let g = scene_of a tree loads in
          let b = turns.left.agrees tree loads honest are h in
          let leaves : Leaves g q old new = record {
            stays = goes.stays;
            kept = gives.kept tree loads honest are b;
            unchanged = goes.unchanged tree loads honest are b;
          } in
          let qs = ap (λ (x : Question). map question done ++ x ∷ []) is ∙ sym (map-append question done (p ∷ [])) in
          let problems = ap (λ (x : Option Problem). map problem_by rs ++ x ∷ []) (sym (gives.reports tree loads honest are b))
          ∙ (sym (map-append problem_by rs (r ∷ [])) ∙ sym (ap (map problem_by) more)) in
          let Q : List Question → Type 0 = λ l. ReportInTurn g l (map problem_by rs') first new in
          let S : List (Option Problem) → Type 0 = λ l. ReportInTurn g (map question done ++ q ∷ []) l first new in
          subst Q qs (subst S problems
          (turn_next g (map question done) (map problem_by rs) first old new q (turns.reports tree loads honest are h) leaves));
      from_kept = λ tree loads h all.
          let g = scene_of a tree loads in
          let same = turns.left.known tree loads h all in
          let here = gives.from_kept tree loads (subst (λ x. Agrees g x) (sym same) h) (asked_kept g paths i p q first old lt at is same all) in
          let before = turns.from_kept tree loads h all in (
            subst (All N) (sym more) (All-push N rs r before.0 here.1),
            one_more on (λ x. to g (question x)) rs rs' done r p more before.1 (here.0 ∙ ap (to g) is),
          );
    })

-- As a call leaves a matcher.

-- where it is from what is kept, nothing comes to that
abbrev pub KeepsKnown : Question → IncrementalIgnore → IncrementalIgnore → Type 0
KeepsKnown q old new = (tree : Tree) (loads : List ℕ → Loaded) → let g = scene_of old.asked tree loads in
    Agrees g old.cache → is_known g old.cache (names_of q.0) ≡ true → limit_of g q.0 q.1 ≡ None → new.cache ≡ old.cache

goes_on : {F : Type 0} (files : Files F) (f : F) (a : Asked) (q : Question) (old new : IncrementalIgnore) → old.asked ≡ a
    → LeavesMatcher files f q old new → KeepsKnown q old new → Goes files f a q old.cache new.cache
goes_on files f a q old new is leaves known =
    let P : Asked → Type 0 = λ x. Goes files f x q old.cache new.cache in
    subst P is (record {
      stays = leaves.stays;
      loaded = leaves.loaded;
      agrees = leaves.agrees;
      unchanged = leaves.unchanged;
      known = λ tree loads h k. known tree loads h k.0 k.1;
    })

asks : (text : List ℕ) (p : Entry) → text ≡ string_bytes p.0 → ◌≡◌ {A = Question} (text, p.1) (question p)
asks text p e = let P : List ℕ → Question = λ t. (t, p.1) in ap P e

pub left_then : {F : Type 0} (files : Files F) (f : F) (a : Asked) (paths : List Entry) (i : ℕ) (p : Entry) (text : List ℕ)
    (first : Cache) (old new : IncrementalIgnore) → i < length paths → p ≡ get_or paths i p → text ≡ string_bytes p.0 → old.asked ≡ a
    → Left files f a paths first old.cache → LeavesMatcher files f (text, p.1) old new → KeepsKnown (text, p.1) old new
    → Left files f a paths first new.cache
left_then files f a paths i p text first old new lt at e same left leaves known =
    left_next files f a paths i p (text, p.1) first old.cache new.cache lt at (asks text p e) left
    (goes_on files f a (text, p.1) old new same leaves known)

pub turns_then : {R V F : Type 0} (said : R → V) (to : QueryScene → Question → V) (files : Files F) (f : F) (a : Asked)
    (paths : List Entry) (i : ℕ) (p : Entry) (text : List ℕ) (first : Cache) (old new : IncrementalIgnore) (rs rs' : List (Reported R))
    (r : Reported R) → i < length paths → p ≡ get_or paths i p → text ≡ string_bytes p.0 → old.asked ≡ a
    → Turns said to files f a paths (take i paths) first old.cache rs → LeavesMatcher files f (text, p.1) old new
    → KeepsKnown (text, p.1) old new → Gives said to files f old.asked (text, p.1) old.cache new.cache r → rs' ≡ rs ++ r ∷ []
    → Turns said to files f a paths (take (i + 1) paths) first new.cache rs'
turns_then said to files f a paths i p text first old new rs rs' r lt at e same turns leaves known gives more =
    let P : Asked → Type 0 = λ x. Gives said to files f x (text, p.1) old.cache new.cache r in
    turns_next said to files f a paths i p (text, p.1) first old.cache new.cache rs rs' r lt at (asks text p e) turns
    (goes_on files f a (text, p.1) old new same leaves known) (subst P same gives) more
