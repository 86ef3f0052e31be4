-- What `why` says of paths in turn, and its matcher.
use Rattle.std.proofs.Common.{◌≡◌, ◌∙◌, ℕ, Bool, List, [], ◌∷◌, ◌++◌, Option, map, refl, sym, ap, subst}
use Rattle.std.proofs.lemmas.List.{append-nil, map-append}
use Rattle.ignore_dir.specs.Load.{AreLoads, Loaded}
use Rattle.ignore_dir.specs.Query.{query}
use Rattle.ignore_dir.specs.Scene.{QueryScene, scene}
use Rattle.ignore_dir.specs.Verdict.{is_ignore}
use Rattle.ignore_dir.specs.declared.outside.Outside.{Outside}
use Rattle.ignore_dir.specs.declared.settings.Settings.{Settings}
use Rattle.ignore_files.specs.Tree.{Tree}
use Rattle.ignore_files.specs.declared.env.Env.{Env}
use Rattle.ignore_query.specs.Fresh.{KeepsNothing}
use Rattle.ignore_query.specs.InTurn.{Leaves}
use Rattle.ignore_query.specs.Reached.{dir_of, scene_of}
use Rattle.ignore_query.specs.Reports.{reported}
use Rattle.ignore_query.specs.declared.incremental.IncrementalIgnore.{IncrementalIgnore}
use Rattle.ignore_query.specs.declared.kept.Cache.{Cache}
use Rattle.ignore_why.specs.QueryWhy.{query_why}
use Rattle.ignore.specs.Asked.{IsOutside}
use Rattle.ignore.specs.Builder.{with_root}
use Rattle.ignore.specs.Matchers.{asked_by}
use Rattle.ignore.specs.declared.options.WalkOptions.{WalkOptions}
use Rattle.std.specs.Prelude.{string_bytes}
use Rattle.ig_options.specs.declared.given.Given.{Given}
use Rattle.ig_commands.specs.Root.{IsRoot}
use Rattle.ig_commands.specs.Why.{Answered, AreAll, AreFirst, AreSaid, IsAnswered, IsMatcherOf, IsSaid, Said, is_dir_at}

-- the same is said of the paths up to one more
pub said_more : (g : QueryScene) (dir : Option (List ℕ)) (all : List Given) (given : Given) (old middle new : Cache)
    (said : List Said) (one : Said) → AreSaid g dir all old middle said → IsSaid g dir given middle new one
    → AreSaid g dir (all ++ given ∷ []) old new (said ++ one ∷ [])
said_more g dir [] given old middle new [] one same is =
    (new, subst (λ (c : Cache). IsSaid g dir given c new one) same is, refl)
said_more g dir [] given old middle new (s ∷ said) one h is = absurd h
said_more g dir (x ∷ all) given old middle new [] one h is = absurd h
said_more g dir (x ∷ all) given old middle new (s ∷ said) one h is =
    (h.0, h.1, said_more g dir all given h.0 middle new said one h.2 is)

-- what is said of the first paths, by a matcher that keeps nothing at first
pub first_of : (tree : Tree) (env : Env) (b : WalkOptions) (m : IncrementalIgnore) (all first rest : List Given) (said : List Said)
    (last : Cache) → IsMatcherOf tree env b m → KeepsNothing m.cache → all ≡ first ++ rest
    → ((loads : List ℕ → Loaded) → AreLoads tree m.asked.settings loads
    → AreSaid (scene_of m.asked tree loads) (dir_of m.asked) first m.cache last said)
    → AreFirst tree env b all (string_bytes m.asked.root) said
first_of tree env b m all first rest said last w empty is right =
    let o : Outside = w.0 in
    let root : List ℕ = string_bytes m.asked.root in
    let same : w.1 ≡ root = sym (ap (λ (t : Settings × Outside × List ℕ × Option (List ℕ)). t.2) w.4) in
    let asked = subst (λ (r : List ℕ). asked_by m ≡ (b.settings, o, r, env.current_dir)) same w.4 in
    record {
      is_root = subst (IsRoot tree env.current_dir) same w.2;
      first = first;
      rest = rest;
      are = is;
      outside = o;
      read = subst (λ (r : List ℕ). IsOutside tree env (with_root b r) o) same w.3;
      old = m.cache;
      fresh = empty;
      new = last;
      says = λ loads are. subst (λ (t : Settings × Outside × List ℕ × Option (List ℕ)).
          AreSaid (scene tree loads t.0 t.1 t.2) t.3 first m.cache last said) asked
          (right loads (subst (λ (s : Settings). AreLoads tree s loads)
          (sym (ap (λ (t : Settings × Outside × List ℕ × Option (List ℕ)). t.0) w.4)) are));
    }

-- what is said of all of them
pub all_of : (tree : Tree) (env : Env) (b : WalkOptions) (m : IncrementalIgnore) (all : List Given) (said : List Said) (last : Cache)
    → IsMatcherOf tree env b m → KeepsNothing m.cache
    → ((loads : List ℕ → Loaded) → AreLoads tree m.asked.settings loads
    → AreSaid (scene_of m.asked tree loads) (dir_of m.asked) all m.cache last said)
    → AreAll tree env b all (string_bytes m.asked.root) said
unfolding first_of
all_of tree env b m all said last w empty right = (first_of tree env b m all all [] said last w empty (sym (append-nil all)) right, refl)

abbrev last_or : {A : Type 0} → A → List A → A
last_or d [] = d
last_or d (x ∷ xs) = last_or x xs

last_pushed : {A : Type 0} (d : A) (xs : List A) (y : A) → last_or d (xs ++ y ∷ []) ≡ y
last_pushed d [] y = refl
last_pushed d (x ∷ xs) y = last_pushed x xs y

-- the last of mapped things is what the last one is mapped to
pub last_mapped : {A B C : Type 0} (f : A → C) (k : B → C) (xs : List A) (x : A) (ys : List B) (y : B)
    → map f (xs ++ x ∷ []) ≡ map k (ys ++ y ∷ []) → f x ≡ k y
last_mapped f k xs x ys y e =
    let same = sym (map-append f xs (x ∷ [])) ∙ (e ∙ map-append k ys (y ∷ [])) in
    sym (last_pushed (f x) (map f xs) (f x)) ∙ (ap (last_or (f x)) same ∙ last_pushed (f x) (map k ys) (k y))

-- what is answered of a text and a kind is answered of the same ones
pub answered : (g : QueryScene) (text p : List ℕ) (d : Bool) (old new : Cache) (t : Answered) → p ≡ text → d ≡ is_dir_at g t.path text
    → t.why ≡ query_why g p d → t.is_ignored ≡ is_ignore (query g p d).0.verdict → Leaves g (p, d) old new → t.problem ≡ reported g old p d
    → IsAnswered g text old new t
answered g text p d old new t same is why ignored leaves reports =
    let at_text = subst
    (λ (x : List ℕ). (t.why ≡ query_why g x d) × ((t.is_ignored ≡ is_ignore (query g x d).0.verdict)
    × (Leaves g (x, d) old new × (t.problem ≡ reported g old x d)))) same (why, (ignored, (leaves, reports))) in
    let all = subst
    (λ (b : Bool). (t.why ≡ query_why g text b) × ((t.is_ignored ≡ is_ignore (query g text b).0.verdict)
    × (Leaves g (text, b) old new × (t.problem ≡ reported g old text b)))) is at_text in
    record { why = all.0; is_ignored = all.1.0; leaves = all.1.1.0; reports = all.1.1.1 }
