-- Where a path stands, and what is kept on the way to it.
use lib.Pointwise.{pointwise}
use Rattle.std.proofs.Common.{◌≡◌, ℕ, Bool, true, false, not, ◌&&◌, ◌||◌, cond, All, List, [], ◌∷◌, ◌++◌, map, Option, Some, None}
use Rattle.std.proofs.Common.{Result, Ok, Err, IfOk, is_some, string_bytes, ◌⊎◌, inl, inr, refl, sym, ap, ◌∙◌, subst, append_assoc}
use Rattle.std.proofs.lemmas.Bool.{and_parts, or_parts}
use Rattle.std.proofs.lemmas.List.{append-nil}
use Rattle.std.proofs.lemmas.List.Folds.{list_all-append, list_any-append}
use Rattle.std.proofs.lemmas.Slice.Eq.{bytes_eq-Decides}
use Rattle.std.specs.BTreeMap.{get_by_text}
use Rattle.std.specs.List.{filter_map, list_all, list_any}
use Rattle.std.specs.Option.{option_to_list}
use Rattle.std.specs.Str.{bytes_eq}
use Rattle.ignore_base.specs.Paths.{IsName, components, is_proper}
use Rattle.ignore_base.specs.Problem.{Problem}
use Rattle.ignore_dir.specs.Chains.{slashed}
use Rattle.ignore_dir.specs.Load as load
use Rattle.ignore_dir.specs.Query.{ancestors, has_rules, is_dir_there, is_ignored, names_of}
use Rattle.ignore_dir.specs.Scene.{QueryScene}
use Rattle.ignore_dir.specs.Soft.{AllSoft}
use Rattle.ignore_files.specs.Tree.{Tree}
use Rattle.ignore_files.specs.declared.files.Files.{Ghosts as Files}
use Rattle.ignore_levels.specs.Levels.{Keeps, slots_of}
use Rattle.ignore_levels.specs.declared.list.Place.{Place}
use Rattle.ignore_why.specs.QueryWhy.{first_ignored}
use Rattle.ignore_query.specs.declared.asked.Asked.{Asked}
use Rattle.ignore_query.specs.declared.asked.Call.{Call}
use Rattle.ignore_query.specs.declared.kept.Cache.{Cache}
use Rattle.ignore_query.specs.declared.kept.Kept.{Kept}
use Rattle.ignore_query.specs.declared.kept.Kept.TheVariants.{Ignored, Loaded}
use Rattle.ignore_query.specs.declared.stand.Stand.{Stand}
use Rattle.ignore_query.specs.declared.stand.Stand.TheVariants.{Unasked, Beyond, Unruled, Inside, At}
use Rattle.ignore_query.specs.Agrees.{Agrees, IsInLoaded, IsNext}
use Rattle.ignore_query.specs.Listed.{kept_at}
use Rattle.ignore_query.specs.Needs.{KeepsNeeded, is_among, is_decided, is_kept, is_known, needed}
use Rattle.ignore_query.specs.Reached.{scene_of}
use Rattle.ignore_query.specs.Reports.{new_above, new_below, problem_in, problems_at}
use Rattle.ignore_query.specs.Stands.{Grows, IsPlaced, IsStand, IsUnruled, IsWithin, LeavesKept, next_on}
use Rattle.ignore_query.specs.Where.{InCall}
use Rattle.ignore_query.proofs.ChainLemmas.{front_names}
use Rattle.ignore_query.proofs.KeepLemmas.{Ends, SameAbove, ends, last, none}
use Rattle.ignore_query.proofs.KeptLoadLemmas.{loads_nothing, loads_same, loads_then}
use Rattle.ignore_query.proofs.KnownLemmas.{next_inside, next_top, parent_open}
use Rattle.ignore_query.proofs.ListLemmas.{grown_agrees}
use Rattle.ignore_query.proofs.NeedLemmas.{ancestors-append, ancestors-more, needed_way, or_assoc, or_false, same_key, stays_itself, stays_then, way}
use Rattle.ignore_query.proofs.QueryLemmas.{root_dir}
use Rattle.ignore_query.proofs.WayLemmas.{collected, ignored_problems, left, left_all, left_next, next_problems, no_problems, problems_of, below_is}

-- What is kept grows.

pub grows_itself : {F : Type 0} (files : Files F) (f : F) (a : Asked) (c : Cache) → Grows files f a c c
grows_itself files f a c = record {
  stays = stays_itself c;
  loaded = loads_nothing files f a c;
  agrees = λ tree loads honest are there h. h;
}

pub grows_then : {F : Type 0} (files : Files F) (f : F) (a : Asked) (old mid new : Cache) → Grows files f a old mid → Grows files f a mid new
    → Grows files f a old new
grows_then files f a old mid new p q = record {
  stays = stays_then old mid new p.stays q.stays;
  loaded = loads_then files f a old mid new p.loaded q.stays q.loaded;
  agrees = λ tree loads honest are there h. q.agrees tree loads honest are there (p.agrees tree loads honest are there h);
}

-- by levels alone
pub grows_levels : {F : Type 0} (files : Files F) (f : F) (a : Asked) (old new : Cache) → SameAbove old new
    → Keeps (slots_of old.levels) (slots_of new.levels)
    → ((key : List ℕ) → get_by_text new.dirs.map key ≡ get_by_text old.dirs.map key) → Grows files f a old new
grows_levels files f a old new same keeps look = record {
  stays = record { above = λ h. (same.0 ∙ h, same.1); dirs = λ names k h. look (slashed names) ∙ h; levels = keeps };
  loaded = loads_same files f a old new same.0 (λ q. look (slashed q));
  agrees = λ tree loads honest are there h. grown_agrees (scene_of a tree loads) old new h same keeps look;
}

-- What a question leaves.

pub leaves_itself : {F : Type 0} (files : Files F) (call : Call F) (c : Cache) → LeavesKept files call c c
leaves_itself files call c = record {
  stays = stays_itself c;
  loaded = loads_nothing files call.files.now call.asked.now c;
  agrees = λ tree loads honest are h. h;
  unchanged = λ tree loads honest are h off. refl;
  outside = λ no. refl;
  known = λ tree loads h all. refl;
}

decided_from : (a b r : Bool) → a ≡ true → b ≡ false → r ≡ true → (a && (not b && r)) ≡ true
decided_from a b r p q s = ap (λ x. x && (not b && r)) p ∙ (ap (λ x. not x && r) q ∙ s)

pub decided_ruled : (a : Asked) (tree : Tree) (loads : List ℕ → load.Loaded) (path : List ℕ) (is_dir : Bool) → IsWithin a path is_dir
    → has_rules tree (string_bytes a.root) path ≡ true → is_decided (scene_of a tree loads) path is_dir ≡ true
decided_ruled a tree loads path is_dir w ruled = decided_from _ _ _ w.asked w.within ruled

pub leaves_grown : {F : Type 0} (files : Files F) (call : Call F) (old new : Cache)
    → Grows files call.files.now call.asked.now old new → IsWithin call.asked.now call.path.now call.is_dir
    → InCall files call (λ g. Agrees g old → has_rules g.tree g.root call.path.now ≡ true)
    → ((tree : Tree) (loads : List ℕ → load.Loaded) → let g = scene_of call.asked.now tree loads in
    Agrees g old → is_known g old (names_of call.path.now) ≡ true → new ≡ old)
    → LeavesKept files call old new
leaves_grown files call old new grows within ruled known = record {
  stays = grows.stays;
  loaded = grows.loaded;
  agrees = λ tree loads honest are h.
      grows.agrees tree loads honest are (root_dir tree (string_bytes call.asked.now.root) call.path.now (ruled tree loads honest are h)) h;
  unchanged = λ tree loads honest are h off.
      absurd (off (decided_ruled call.asked.now tree loads call.path.now call.is_dir within (ruled tree loads honest are h)));
  outside = λ no. absurd (no within);
  known = known;
}

-- Where a path stands.

pub ok_map : {A E : Type 0} {P Q : A → Type 0} (r : Result A E) → ((x : A) → P x → Q x) → IfOk r P → IfOk r Q
ok_map (Ok a) f h = f a h
ok_map (Err e) f h = tt

pub placed_stands : (a : Asked) (c : Cache) (path : List ℕ) (is_dir : Bool) → IsWithin a path is_dir
    → list_all is_proper (components path) ≡ true → (s : Stand) → IsPlaced c (components path) s → IsStand a c path is_dir s
placed_stands a c path is_dir w named Unasked h = absurd h
placed_stands a c path is_dir w named Beyond h = absurd h
placed_stands a c path is_dir w named Unruled h = w
placed_stands a c path is_dir w named (Inside key) h = (w, (named, h))
placed_stands a c path is_dir w named (At place) h = (w, (named, h))

pub placed_ruled : (g : QueryScene) (c : Cache) (names : List (List ℕ)) (path : List ℕ) (s : Stand) → IsPlaced c names s → IsUnruled g path s
placed_ruled g c names path s h e = let no : ⊥ = subst (IsPlaced c names) e h in absurd no

-- No directory on the way to a kept one is ignored.

pub in_open : (g : QueryScene) (c : Cache) (names : List (List ℕ)) → Agrees g c → All IsName names → IsInLoaded c names
    → list_any (is_ignored g) (ancestors names) ≡ false
in_open g c names a clean h = by (ends names)
  where
    by : Ends names → list_any (is_ignored g) (ancestors names) ≡ false
    by (none e) = ap (λ l. list_any (is_ignored g) (ancestors l)) e
    by (last front name e) =
        ap (λ l. list_any (is_ignored g) (ancestors l)) e
        ∙ parent_open g c front name a (subst (All IsName) e clean) (h front name e)

-- The directories that an answer needs, by the last one on the way.

way_front : (g : QueryScene) (done xs ys : List (List ℕ)) → list_any (is_ignored g) (left done xs) ≡ false
    → way g done (xs ++ ys) ≡ left done xs ++ way g (done ++ xs) ys
way_front g done [] ys h = ap (λ l. way g l ys) (sym (append-nil done))
way_front g done (n ∷ xs) ys h =
    let next = left (done ++ n ∷ []) xs in
    let all = sym (ap (list_any (is_ignored g)) (left_next done n xs)) ∙ h in
    ap (λ b. let l : List (List (List ℕ)) = done ∷ cond b [] (way g (done ++ n ∷ []) (xs ++ ys)) in l) (or_parts (is_ignored g done) (list_any (is_ignored g) next) all).0
    ∙ (ap (λ (l : List (List (List ℕ))). done ∷ l) (way_front g (done ++ n ∷ []) xs ys (or_parts (is_ignored g done) (list_any (is_ignored g) next) all).1)
    ∙ (ap (λ (l : List (List ℕ)). done ∷ (next ++ way g l ys)) (append_assoc done (n ∷ []) xs)
    ∙ ap (λ (l : List (List (List ℕ))). l ++ way g (done ++ n ∷ xs) ys) (sym (left_next done n xs))))

needed_at : (g : QueryScene) (front rest : List (List ℕ)) (name : List ℕ) → list_any (is_ignored g) (ancestors front) ≡ false
    → needed g (front ++ name ∷ rest) ≡ ancestors front ++ front ∷ cond (is_ignored g front) [] (way g (front ++ name ∷ []) rest)
needed_at g front rest name h =
    needed_way g (front ++ name ∷ rest)
    ∙ (way_front g [] front (name ∷ rest) (ap (list_any (is_ignored g)) (left_all front) ∙ h)
    ∙ ap (λ (l : List (List (List ℕ))). l ++ way g front (name ∷ rest)) (left_all front))

-- the way ends at this directory: it is ignored, or no other is on the way after it
abbrev pub EndsWay : QueryScene → List (List ℕ) → List (List ℕ) → Type 0
EndsWay g front rest = (is_ignored g front ≡ true) ⊎ ((is_ignored g front ≡ false) × (rest ≡ []))

pub needed_seen : (g : QueryScene) (front rest : List (List ℕ)) (name : List ℕ) → list_any (is_ignored g) (ancestors front) ≡ false
    → EndsWay g front rest → needed g (front ++ name ∷ rest) ≡ ancestors (front ++ name ∷ [])
needed_seen g front rest name h end = needed_at g front rest name h ∙ (by end ∙ sym (ancestors-more front name))
  where
    by : EndsWay g front rest
        → ancestors front ++ front ∷ cond (is_ignored g front) [] (way g (front ++ name ∷ []) rest) ≡ ancestors front ++ front ∷ []
    by (inl on) = ap (λ b. let l : List (List (List ℕ)) = ancestors front ++ front ∷ cond b [] (way g (front ++ name ∷ []) rest) in l) on
    by (inr off) =
        ap (λ b. let l : List (List (List ℕ)) = ancestors front ++ front ∷ cond b [] (way g (front ++ name ∷ []) rest) in l) off.0
        ∙ ap (λ (l : List (List ℕ)). ancestors front ++ front ∷ way g (front ++ name ∷ []) l) off.1

-- where all that is needed is kept, this directory is
pub here_kept : (g : QueryScene) (c : Cache) (front rest : List (List ℕ)) (name : List ℕ) → list_any (is_ignored g) (ancestors front) ≡ false
    → is_known g c (front ++ name ∷ rest) ≡ true → is_kept c front ≡ true
here_kept g c front rest name h all =
    let more : List (List (List ℕ)) = cond (is_ignored g front) [] (way g (front ++ name ∷ []) rest) in
    let both = and_parts (list_all (is_kept c) (ancestors front)) (list_all (is_kept c) (front ∷ more))
    (sym (list_all-append (is_kept c) (ancestors front) (front ∷ more)) ∙ (sym (ap (list_all (is_kept c)) (needed_at g front rest name h)) ∙ all)) in
    (and_parts (is_kept c front) (list_all (is_kept c) more) both.1).0

-- the first ignored directory
first_more : (g : QueryScene) (xs ys : List (List (List ℕ))) → list_any (is_ignored g) xs ≡ false
    → first_ignored g (xs ++ ys) ≡ first_ignored g ys
first_more g [] ys h = refl
first_more g (x ∷ xs) ys h =
    ap (λ b. cond b (Some x) (first_ignored g (xs ++ ys))) (or_parts (is_ignored g x) (list_any (is_ignored g) xs) h).0
    ∙ first_more g xs ys (or_parts (is_ignored g x) (list_any (is_ignored g) xs) h).1

ancestors-at : (front rest : List (List ℕ)) (name : List ℕ)
    → ancestors (front ++ name ∷ rest) ≡ ancestors front ++ front ∷ left (front ++ name ∷ []) rest
ancestors-at front rest name =
    ancestors-append front (name ∷ rest) ∙ ap (λ (l : List (List (List ℕ))). ancestors front ++ l) (left_next front name rest)

pub first_here : (g : QueryScene) (front rest : List (List ℕ)) (name : List ℕ) → list_any (is_ignored g) (ancestors front) ≡ false
    → is_ignored g front ≡ true → first_ignored g (ancestors (front ++ name ∷ rest)) ≡ Some front
first_here g front rest name h on = rw (ancestors-at front rest name, first_more g (ancestors front) _ h, on)

-- The problems of directories that are looked for.

abbrev pub gathered : QueryScene → Cache → List (List (List ℕ)) → List Problem
gathered g c [] = []
gathered g c (front ∷ fronts) = problems_at g c front ++ gathered g c fronts

gathered-more : (g : QueryScene) (c : Cache) (xs : List (List (List ℕ))) (x : List (List ℕ))
    → gathered g c (xs ++ x ∷ []) ≡ gathered g c xs ++ problems_at g c x
gathered-more g c [] x = append-nil (problems_at g c x)
gathered-more g c (y ∷ xs) x =
    ap (λ (l : List Problem). problems_at g c y ++ l) (gathered-more g c xs x)
    ∙ sym (append_assoc (problems_at g c y) (gathered g c xs) (problems_at g c x))

collected-front : (g : QueryScene) (c : Cache) (xs ys : List (List (List ℕ))) → list_any (is_ignored g) xs ≡ false
    → collected (problems_of g c (xs ++ ys)) ≡ gathered g c xs ++ collected (problems_of g c ys)
collected-front g c [] ys h = refl
collected-front g c (x ∷ xs) ys h =
    next_problems g c x (xs ++ ys) (or_parts (is_ignored g x) (list_any (is_ignored g) xs) h).0
    ∙ (ap (λ (l : List Problem). problems_at g c x ++ l) (collected-front g c xs ys (or_parts (is_ignored g x) (list_any (is_ignored g) xs) h).1)
    ∙ sym (append_assoc (problems_at g c x) (gathered g c xs) (collected (problems_of g c ys))))

pub below_seen : (g : QueryScene) (c : Cache) (front rest : List (List ℕ)) (name : List ℕ) → list_any (is_ignored g) (ancestors front) ≡ false
    → EndsWay g front rest → filter_map (λ p. p) (new_below g c (front ++ name ∷ rest)) ≡ gathered g c (ancestors (front ++ name ∷ []))
below_seen g c front rest name h end =
    below_is g c (front ++ name ∷ rest)
    ∙ (ap (λ l. collected (problems_of g c l)) (left_all (front ++ name ∷ rest) ∙ ancestors-at front rest name)
    ∙ (collected-front g c (ancestors front) (front ∷ left (front ++ name ∷ []) rest) h
    ∙ (ap (λ (l : List Problem). gathered g c (ancestors front) ++ l) (by end)
    ∙ (sym (gathered-more g c (ancestors front) front) ∙ ap (gathered g c) (sym (ancestors-more front name))))))
  where
    by : EndsWay g front rest → collected (problems_of g c (front ∷ left (front ++ name ∷ []) rest)) ≡ problems_at g c front
    by (inl on) = no_problems g c front (left (front ++ name ∷ []) rest) on ∙ sym (ignored_problems g c front on)
    by (inr off) =
        ap (λ (l : List (List ℕ)). collected (problems_of g c (front ∷ left (front ++ name ∷ []) l))) off.1
        ∙ (next_problems g c front [] off.0 ∙ append-nil (problems_at g c front))

-- On the way.

among-inner : (n : List ℕ) (front : List (List ℕ)) (dirs : List (List (List ℕ)))
    → is_among (map (λ q. n ∷ q) dirs) (n ∷ front) ≡ is_among dirs front
among-inner n front [] = refl
among-inner n front (d ∷ dirs) =
    ap (λ b. (b && pointwise bytes_eq front d) || is_among (map (λ q. n ∷ q) dirs) (n ∷ front)) ((bytes_eq-Decides n n).1 refl)
    ∙ ap (λ b. pointwise bytes_eq front d || b) (among-inner n front dirs)

-- no directory is an ancestor of its own
not_own : (front : List (List ℕ)) → is_among (ancestors front) front ≡ false
not_own [] = refl
not_own (n ∷ front) = among-inner n front (ancestors front) ∙ not_own front

among-more : (front q : List (List ℕ)) (n : List ℕ)
    → is_among (ancestors (front ++ n ∷ [])) q ≡ (is_among (ancestors front) q || pointwise bytes_eq q front)
among-more front q n = rw (ancestors-more front n, list_any-append, or_false)

-- these directories were looked up or kept, one after the other, or were known to be kept, with these
-- problems
pub record Visited {F : Type 0} (files : Files F) (call : Call F) (old new : Cache) (before after : List Problem)
    (fronts : List (List (List ℕ))) : Type 0 where
  pub grows : Grows files call.files.now call.asked.now old new
  pub kept : (g : QueryScene) → Agrees g old → (q : List (List ℕ)) → All IsName q → is_kept new q ≡ (is_kept old q || is_among fronts q)
  pub problems : InCall files call (λ g. is_dir_there (g.tree.stat g.root true) ≡ true → Agrees g old
      → after ≡ before ++ (option_to_list (new_above g old) ++ gathered g old fronts))
  pub known : (tree : Tree) (loads : List ℕ → load.Loaded) → let g = scene_of call.asked.now tree loads in
      Agrees g old → is_known g old (components call.path.now) ≡ true → (new ≡ old) × (after ≡ before)
  pub soft : AllSoft before → AllSoft after

-- those before the one with a key were, and what is above the root
pub record OnWay {F : Type 0} (files : Files F) (call : Call F) (old new : Cache) (before after : List Problem) (place : Option Place)
    (text : List ℕ) : Type 0 where
  pub front : List (List ℕ)
  pub name : List ℕ
  pub rest : List (List ℕ)
  pub split : components call.path.now ≡ front ++ name ∷ rest
  pub key : text ≡ slashed front
  pub next : IsNext new front place
  pub visited : Visited files call old new before after (ancestors front)

-- one more is, that with a key
pub record Visits {F : Type 0} (files : Files F) (call : Call F) (old new : Cache) (before after : List Problem) (place : Option Place)
    (text : List ℕ) (k : Kept) : Type 0 where
  pub grows : Grows files call.files.now call.asked.now old new
  pub kept : (cs : List ℕ) → is_some (get_by_text new.dirs.map cs) ≡ (is_some (get_by_text old.dirs.map cs) || bytes_eq text cs)
  pub found : get_by_text new.dirs.map text ≡ Some k
  pub problems : InCall files call (λ g. (names : List (List ℕ)) → Agrees g old → All IsName names → text ≡ slashed names
      → IsNext old names place → after ≡ before ++ problems_at g old names)
  pub known : is_some (get_by_text old.dirs.map text) ≡ true → (new ≡ old) × (after ≡ before)
  pub soft : AllSoft before → AllSoft after

next_loaded : (c : Cache) (names : List (List ℕ)) (place : Option Place) → IsNext c names place → IsInLoaded c names
next_loaded c names place h front name e = (place, h.inside front name e)

module _ {F : Type 0} (files : Files F) (call : Call F) (old mid : Cache) (before between : List Problem) (place : Option Place) (text : List ℕ)
    (clean : All IsName (components call.path.now)) (w : OnWay files call old mid before between place text) where
  pub way_front_names : All IsName w.front
  way_front_names = front_names w.front (w.name ∷ w.rest) (subst (All IsName) w.split clean)

  -- where all that is needed was kept, this directory is
  pub way_known : (tree : Tree) (loads : List ℕ → load.Loaded) → Agrees (scene_of call.asked.now tree loads) old
      → is_known (scene_of call.asked.now tree loads) old (components call.path.now) ≡ true
      → (mid ≡ old) × ((between ≡ before) × (is_some (get_by_text mid.dirs.map text) ≡ true))
  way_known tree loads a all =
      let g = scene_of call.asked.now tree loads in
      let k = w.visited.known tree loads a all in
      let opened = in_open g mid w.front (subst (λ x. Agrees g x) (sym k.0) a) way_front_names (next_loaded mid w.front place w.next) in (
        k.0,
        (
          k.1,
          ap (λ (x : Cache). is_some (get_by_text x.dirs.map text)) k.0 ∙ (ap (λ t. is_some (get_by_text old.dirs.map t)) w.key
              ∙ here_kept g old w.front w.rest w.name opened (ap (is_known g old) (sym w.split) ∙ all)),
        ),
      )

module _ {F : Type 0} (files : Files F) (call : Call F) (old mid new : Cache) (before between after : List Problem) (place : Option Place)
    (text : List ℕ) (k : Kept) (clean : All IsName (components call.path.now)) (w : OnWay files call old mid before between place text)
    (s : Visits files call mid new between after place text k) where
  cleanf : All IsName w.front
  cleanf = way_front_names files call old mid before between place text clean w

  pub visited_next : Visited files call old new before after (ancestors (w.front ++ w.name ∷ []))
  visited_next = record {
    grows = grows_then files call.files.now call.asked.now old mid new w.visited.grows s.grows;
    kept = λ g a q cleanq.
        s.kept (slashed q)
        ∙ (ap (λ t. is_kept mid q || bytes_eq t (slashed q)) w.key
        ∙ (ap (λ b. is_kept mid q || b) (same_key w.front q cleanf cleanq)
        ∙ (ap (λ b. b || pointwise bytes_eq q w.front) (w.visited.kept g a q cleanq)
        ∙ (sym (or_assoc (is_kept old q) (is_among (ancestors w.front) q) (pointwise bytes_eq q w.front))
        ∙ ap (λ b. is_kept old q || b) (sym (among-more w.front q w.name))))));
    problems = λ tree loads honest are there a.
        let g = scene_of call.asked.now tree loads in
        let front = w.front in
        let am = w.visited.grows.agrees tree loads honest are there a in
        let same : is_kept mid front ≡ is_kept old front =
        w.visited.kept g a front cleanf ∙ (ap (λ b. is_kept old front || b) (not_own front) ∙ or_false (is_kept old front)) in
        let first = option_to_list (new_above g old) in
        s.problems tree loads honest are front am cleanf w.key w.next
        ∙ (ap (λ b. between ++ cond (b || is_ignored g front) [] (option_to_list (problem_in g front))) same
        ∙ (ap (λ (l : List Problem). l ++ problems_at g old front) (w.visited.problems tree loads honest are there a)
        ∙ (append_assoc before (first ++ gathered g old (ancestors front)) (problems_at g old front)
        ∙ ap (λ (l : List Problem). before ++ l) (append_assoc first (gathered g old (ancestors front)) (problems_at g old front)
        ∙ ap (λ (l : List Problem). first ++ l) (sym (gathered-more g old (ancestors front) front)
        ∙ ap (gathered g old) (sym (ancestors-more front w.name)))))));
    known = λ tree loads a all.
        let k = way_known files call old mid before between place text clean w tree loads a all in
        let e = s.known k.1.1 in
        (e.0 ∙ k.0, e.1 ∙ k.1.0);
    soft = λ h. s.soft (w.visited.soft h);
  }

  -- The end of the way.

  visited_at : kept_at new w.front ≡ Some k
  visited_at = ap (λ t. get_by_text new.dirs.map t) (sym w.key) ∙ s.found

  opened_at : (g : QueryScene) → Agrees g new → list_any (is_ignored g) (ancestors w.front) ≡ false
  opened_at g an = in_open g new w.front an cleanf (an.inside w.front k cleanf visited_at)

  -- where the way ends at this directory, all that the answer needs is kept, and no more
  pub way_needed : ((g : QueryScene) → Agrees g new → EndsWay g w.front w.rest)
      → InCall files call (λ g. is_dir_there (g.tree.stat g.root true) ≡ true → Agrees g old
      → KeepsNeeded (needed g (components call.path.now)) old new)
  way_needed end tree loads honest are there a =
      let g = scene_of call.asked.now tree loads in
      let an = visited_next.grows.agrees tree loads honest are there a in
      record {
        above = an.first w.front k visited_at;
        dirs = λ q cleanq.
            visited_next.kept g a q cleanq
            ∙ ap (λ l. is_kept old q || is_among l q) (sym (ap (needed g) w.split ∙ needed_seen g w.front w.rest w.name (opened_at g an) (end g an)));
      }

  -- and these problems were met
  pub way_problems : ((g : QueryScene) → Agrees g new → EndsWay g w.front w.rest)
      → InCall files call (λ g. is_dir_there (g.tree.stat g.root true) ≡ true → Agrees g old
      → after ≡ before ++ (option_to_list (new_above g old) ++ filter_map (λ p. p) (new_below g old (components call.path.now))))
  way_problems end tree loads honest are there a =
      let g = scene_of call.asked.now tree loads in
      let an = visited_next.grows.agrees tree loads honest are there a in
      visited_next.problems tree loads honest are there a
      ∙ ap (λ (l : List Problem). before ++ (option_to_list (new_above g old) ++ l))
      (sym (ap (λ l. filter_map (λ p. p) (new_below g old l)) w.split ∙ below_seen g old w.front w.rest w.name (opened_at g an) (end g an)))

pub ends_shut : (c : Cache) (front rest : List (List ℕ)) → All IsName front → kept_at c front ≡ Some Ignored → (g : QueryScene) → Agrees g c
    → EndsWay g front rest
ends_shut c front rest clean here g a = inl (a.right front Ignored clean here)

pub ends_last : (c : Cache) (front rest : List (List ℕ)) (place : Option Place) → All IsName front → kept_at c front ≡ Some (Loaded place)
    → rest ≡ [] → (g : QueryScene) → Agrees g c → EndsWay g front rest
ends_last c front rest place clean here e g a = inr ((a.right front (Loaded place) clean here).0, e)

pub next_none : (front rest : List (List ℕ)) (name : List ℕ) → next_on front name rest ≡ None → rest ≡ []
next_none front [] name h = refl
next_none front (m ∷ rest) name h = absurd (cc (h))

pub next_some : (front rest : List (List ℕ)) (name key : List ℕ) → next_on front name rest ≡ Some key
    → (m : List ℕ) × (more : List (List ℕ)) × (rest ≡ m ∷ more) × (key ≡ slashed (front ++ name ∷ []))
next_some front [] name key h = absurd (cc (h))
next_some front (m ∷ rest) name key h = (m, rest, refl, let e : key ≡ slashed (front ++ name ∷ []) = cc (h) in e)

-- the way goes on at the next directory
pub way_next : {F : Type 0} (files : Files F) (call : Call F) (old mid new : Cache) (before between after : List Problem)
    (place : Option Place) (text key : List ℕ) (found : Option Place) → All IsName (components call.path.now)
    → (w : OnWay files call old mid before between place text) → Visits files call mid new between after place text (Loaded found)
    → next_on w.front w.name w.rest ≡ Some key → OnWay files call old new before after found key
way_next files call old mid new before between after place text key found clean w s is =
    let n = next_some w.front w.rest w.name key is in
    let here = visited_at files call old mid new before between after place text (Loaded found) clean w s in
    record {
      front = w.front ++ w.name ∷ [];
      name = n.0;
      rest = n.1;
      split = w.split ∙ (ap (λ l. w.front ++ w.name ∷ l) n.2 ∙ sym (append_assoc w.front (w.name ∷ []) (n.0 ∷ n.1)));
      key = n.3;
      next = record {
        rooted = (s.grows.stays.above w.next.rooted).0;
        top = λ e. absurd (next_top w.front w.name e);
        inside = λ f m e. next_inside new w.front f w.name m found e here;
      };
      visited = visited_next files call old mid new before between after place text (Loaded found) clean w s;
    }
