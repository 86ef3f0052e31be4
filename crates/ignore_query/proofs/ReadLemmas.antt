-- What is read off where a path stands: the answer, its reason, and its problems.
use Rattle.std.proofs.Common.{◌≡◌, ℕ, Bool, true, false, not, ◌&&◌, nat_lt, cond, All, List, [], ◌∷◌, ◌++◌, length, Option, Some, None, Result, Ok, Err}
use Rattle.std.proofs.Common.{OnOk, string_bytes, refl, sym, ap, ◌∙◌, subst}
use Rattle.std.proofs.Math.Dec.{eqb-suc-zero}
use Rattle.std.proofs.lemmas.List.{append-nil}
use Rattle.std.proofs.lemmas.List.Splits.{join_with_byte-slice_split}
use Rattle.std.specs.List.{filter_map, list_all, list_any}
use Rattle.std.specs.Option.{option_to_list}
use Rattle.ignore_base.proofs.CleanLemmas.{names-components}
use Rattle.ignore_base.specs.Paths.{IsName, components, is_proper, join_of, joined}
use Rattle.ignore_base.specs.Problem.{Problem, joined_problems}
use Rattle.ignore_base.specs.declared.fault.Fault.{Fault}
use Rattle.ignore_base.specs.declared.match_result.Match.{Match}
use Rattle.ignore_files.specs.Tree.{Tree}
use Rattle.ignore_files.specs.declared.files.Files.{Ghosts as Files}
use Rattle.ignore_files.specs.declared.types.Metadata.{Metadata}
use Rattle.ignore_dir.specs.declared.verdict.Verdict.{Verdict}
use Rattle.ignore_dir.specs.declared.verdict.Verdict.TheVariants as v
use Rattle.ignore_dir.specs.Limits.{is_beyond, limited, size_limit, size_problem, sized}
use Rattle.ignore_dir.specs.Load as load
use Rattle.ignore_dir.specs.Query.{ancestors, answer_of_rules, depth_of_path, has_rules, is_asked, is_dir_there, is_ignored, limit_of, names_of, query}
use Rattle.ignore_dir.specs.Query.{rules_verdict, size_of}
use Rattle.ignore_dir.specs.Scene.{QueryScene}
use Rattle.ignore_levels.specs.declared.list.Place.{Place}
use Rattle.ignore_why.specs.Cited.{Cited}
use Rattle.ignore_why.specs.QueryWhy.{first_ignored, path_cited, why_by_rules, why_by_size}
use Rattle.ignore_why.specs.QueryWhy.QueryWhy.{decided, inside, larger}
use Rattle.ignore_why.proofs.QueryWhyLemmas.{first_some}
use Rattle.ignore_query.specs.declared.asked.Asked.{Asked}
use Rattle.ignore_query.specs.declared.asked.Call.{Call}
use Rattle.ignore_query.specs.declared.kept.Cache.{Cache}
use Rattle.ignore_query.specs.declared.kept.Kept.{Kept}
use Rattle.ignore_query.specs.declared.kept.Kept.TheVariants.{Ignored, Loaded}
use Rattle.ignore_query.specs.declared.stand.Stand.{Stand}
use Rattle.ignore_query.specs.declared.stand.Stand.TheVariants.{Unasked, Beyond, Unruled, Inside, At}
use Rattle.ignore_query.specs.Agrees.{Agrees}
use Rattle.ignore_query.specs.Listed.{kept_at}
use Rattle.ignore_query.specs.Needs.{is_decided}
use Rattle.ignore_query.specs.Reached.{scene_of}
use Rattle.ignore_query.specs.Reports.{new_above, new_below, reported, reported_by_rules}
use Rattle.ignore_query.specs.Stands.{IsIn, IsInside, IsSized, IsStand, IsWithin, StandsIn, larger_by, problems_of_loads, problems_of_size}
use Rattle.ignore_query.proofs.ChainLemmas.{front_names}
use Rattle.ignore_query.proofs.KeepLemmas.{Ends, ends, last, none}
use Rattle.ignore_query.proofs.KnownLemmas.{parent_open, shut_verdict}
use Rattle.ignore_query.proofs.QueryLemmas.{collected_three, names_are, query_rules}
use Rattle.ignore_query.proofs.StandLemmas.{decided_ruled, first_here, in_open}
use Rattle.ignore_query.proofs.WhyLemmas.{root_shut, shut_size, why_shut}

-- Where the rules don't decide.

pub unasked_off : (a : Asked) (tree : Tree) (loads : List ℕ → load.Loaded) (path : List ℕ) (is_dir : Bool)
    → is_asked (string_bytes a.root) path ≡ false → is_decided (scene_of a tree loads) path is_dir ≡ false
unasked_off a tree loads path is_dir h = rw h

and_off : (a b : Bool) → b ≡ false → (a && b) ≡ false
and_off true b h = h
and_off false b h = refl

pub beyond_off : (a : Asked) (tree : Tree) (loads : List ℕ → load.Loaded) (path : List ℕ) (is_dir : Bool)
    → is_beyond a.settings (depth_of_path path) is_dir ≡ true → is_decided (scene_of a tree loads) path is_dir ≡ false
beyond_off a tree loads path is_dir h =
    and_off (is_asked (string_bytes a.root) path) _ (ap (λ x. not x && has_rules tree (string_bytes a.root) path) h)

pub unruled_off : (a : Asked) (tree : Tree) (loads : List ℕ → load.Loaded) (path : List ℕ) (is_dir : Bool)
    → has_rules tree (string_bytes a.root) path ≡ false → is_decided (scene_of a tree loads) path is_dir ≡ false
unruled_off a tree loads path is_dir h =
    and_off (is_asked (string_bytes a.root) path) _ (and_off (not (is_beyond a.settings (depth_of_path path) is_dir)) _ h)

-- Where they do.

-- the rules decide on a path of names
pub record Ruled (a : Asked) (tree : Tree) (path : List ℕ) : Type 0 where
  pub ruled : has_rules tree (string_bytes a.root) path ≡ true
  pub names : components path ≡ names_of path
  pub clean : All IsName (components path)

filled_rules : (tree : Tree) (root path : List ℕ) → list_all is_proper (components path) ≡ true
    → is_dir_there (tree.stat root true) ≡ true → has_rules tree root path ≡ true
filled_rules tree root [] named there = cc (named)
filled_rules tree root (b ∷ bs) named there = ap (λ t. not t && is_dir_there (tree.stat root true)) (eqb-suc-zero (length bs)) ∙ there

pub ruled_by : (a : Asked) (tree : Tree) (loads : List ℕ → load.Loaded) (c : Cache) (path : List ℕ) (front : List (List ℕ)) (k : Kept)
    → Agrees (scene_of a tree loads) c → list_all is_proper (components path) ≡ true → kept_at c front ≡ Some k → Ruled a tree path
ruled_by a tree loads c path front k agrees named kept =
    let ruled = filled_rules tree (string_bytes a.root) path named (agrees.above (agrees.first front k kept)).root in
    record { ruled = ruled; names = names_are tree (string_bytes a.root) path ruled; clean = names-components path named }

pub at_open : (g : QueryScene) (c : Cache) (names : List (List ℕ)) (place : Option Place) → Agrees g c → All IsName names → IsIn c names place
    → list_any (is_ignored g) (ancestors names) ≡ false
at_open g c names place a clean h =
    ap (λ l. list_any (is_ignored g) (ancestors l)) h.split
    ∙ parent_open g c h.front h.name a (subst (All IsName) h.split clean) (place, h.kept)

pub inside_names : (c : Cache) (names : List (List ℕ)) (text : List ℕ) → All IsName names → (h : IsInside c names text) → All IsName h.front
inside_names c names text clean h = front_names h.front (h.name ∷ h.rest) (subst (All IsName) h.split clean)

pub inside_first : (g : QueryScene) (c : Cache) (names : List (List ℕ)) (text : List ℕ) → Agrees g c → All IsName names
    → (h : IsInside c names text) → first_ignored g (ancestors names) ≡ Some h.front
inside_first g c names text a clean h =
    let cleanf = inside_names c names text clean h in
    ap (λ l. first_ignored g (ancestors l)) h.split
    ∙ first_here g h.front h.rest h.name (in_open g c h.front a cleanf (a.inside h.front Ignored cleanf h.kept)) (a.right h.front Ignored cleanf h.kept)

pub inside_shut : (g : QueryScene) (c : Cache) (names : List (List ℕ)) (text : List ℕ) → Agrees g c → All IsName names
    → IsInside c names text → list_any (is_ignored g) (ancestors names) ≡ true
inside_shut g c names text a clean h = first_some g (ancestors names) h.front (inside_first g c names text a clean h)

-- The answer.

pub query_ruled : (a : Asked) (tree : Tree) (loads : List ℕ → load.Loaded) (path : List ℕ) (is_dir : Bool) → IsWithin a path is_dir
    → has_rules tree (string_bytes a.root) path ≡ true → let g = scene_of a tree loads in (query g path is_dir).0
    ≡ limited g.settings (depth_of_path path) is_dir (sized (limit_of g path is_dir) (size_of g path) (rules_verdict g (names_of path) is_dir))
unfolding answer_of_rules
query_ruled a tree loads path is_dir w ruled = ap (λ y. y.0) (query_rules (scene_of a tree loads) path is_dir w.asked w.within ruled)

-- By the size.

size_step : (b : Bool) (x y : ℕ × ℕ) (w : Verdict) → cond b (Some x) None ≡ Some y → cond b v.Ignore w ≡ v.Ignore
size_step true x y w h = refl
size_step false x y w h = cc (h)

pub larger_ignores : (limit : Option ℕ) (size : Result Metadata Fault) (w : Verdict) (y : ℕ × ℕ) → larger_by limit size ≡ Some y
    → sized limit size w ≡ v.Ignore
larger_ignores None size w y h = cc (h)
larger_ignores (Some most) (Ok m) w y h = size_step (nat_lt most m.len) (m.len, most) y w h
larger_ignores (Some most) (Err fault) w y h = cc (h)

within_step : {T : Type 0} (b : Bool) (x : ℕ × ℕ) (w u : T) → cond b (Some x) None ≡ None → cond b w u ≡ u
within_step true x w u h = absurd (cc (h))
within_step false x w u h = refl

pub larger_not : (limit : Option ℕ) (size : Result Metadata Fault) (w : Verdict) → larger_by limit size ≡ None → sized limit size w ≡ w
larger_not None size w h = refl
larger_not (Some most) (Ok m) w h = within_step (nat_lt most m.len) (m.len, most) v.Ignore w h
larger_not (Some most) (Err fault) w h = refl

same_both : {T : Type 0} (b : Bool) (x : T) → cond b x x ≡ x
same_both true x = refl
same_both false x = refl

pub ignored_sized : (limit : Option ℕ) (size : Result Metadata Fault) → sized limit size v.Ignore ≡ v.Ignore
ignored_sized limit size = same_both _ v.Ignore

why_step : (b : Bool) (x : ℕ × ℕ) (n m : ℕ) (said : Match Cited) → cond b (Some x) None ≡ Some (n, m)
    → larger n m ≡ cond b (larger x.0 x.1) (decided said)
why_step true x n m said h = let e : x ≡ (n, m) = cc (h) in sym (ap (λ (y : ℕ × ℕ). larger y.0 y.1) e)
why_step false x n m said h = cc (h)

pub why_larger : (limit : Option ℕ) (size : Result Metadata Fault) (said : Match Cited) (n m : ℕ) → larger_by limit size ≡ Some (n, m)
    → larger n m ≡ why_by_size limit size said
why_larger None size said n m h = cc (h)
why_larger (Some most) (Ok x) said n m h = why_step (nat_lt most x.len) (x.len, most) n m said h
why_larger (Some most) (Err fault) said n m h = cc (h)

pub why_not : (limit : Option ℕ) (size : Result Metadata Fault) (said : Match Cited) → larger_by limit size ≡ None
    → decided said ≡ why_by_size limit size said
why_not None size said h = refl
why_not (Some most) (Ok m) said h = sym (within_step (nat_lt most m.len) (m.len, most) (larger m.len most) (decided said) h)
why_not (Some most) (Err fault) said h = refl

-- The problems.

pub loads_none : (g : QueryScene) (c : Cache) (path : List ℕ) (is_dir : Bool) (errors : List Problem) → is_decided g path is_dir ≡ false
    → errors ≡ errors ++ problems_of_loads g c path is_dir
loads_none g c path is_dir errors h = rw h (sym (append-nil errors))

pub loads_decided : (g : QueryScene) (c : Cache) (path : List ℕ) (is_dir : Bool) → is_decided g path is_dir ≡ true
    → problems_of_loads g c path is_dir ≡ option_to_list (new_above g c) ++ filter_map (λ p. p) (new_below g c (names_of path))
loads_decided g c path is_dir h = rw h

pub sizes_inside : (g : QueryScene) (path : List ℕ) (is_dir : Bool) → list_any (is_ignored g) (ancestors (names_of path)) ≡ true
    → problems_of_size g path is_dir ≡ []
sizes_inside g path is_dir h =
    ap (λ (l : List Problem). cond (is_decided g path is_dir) l []) (shut_size g path (join_of g.root path) is_dir h)
    ∙ same_both (is_decided g path is_dir) []

pub sizes_unlimited : (g : QueryScene) (path : List ℕ) (is_dir : Bool) → limit_of g path is_dir ≡ None → problems_of_size g path is_dir ≡ []
sizes_unlimited g path is_dir h = rw h (same_both _ [])

pub sizes_decided : (g : QueryScene) (path : List ℕ) (is_dir : Bool) → is_decided g path is_dir ≡ true
    → problems_of_size g path is_dir ≡ option_to_list (size_problem (join_of g.root path) (limit_of g path is_dir) (size_of g path))
sizes_decided g path is_dir h = rw h

report_cases : (a b r : Bool) (p : Option Problem) (xs ys : List Problem) → p ≡ joined_problems (xs ++ ys)
    → cond (not a) None (cond b None (cond r p None))
    ≡ joined_problems (cond (a && (not b && r)) xs [] ++ cond (a && (not b && r)) ys [])
report_cases false b r p xs ys e = refl
report_cases true true r p xs ys e = refl
report_cases true false true p xs ys e = e
report_cases true false false p xs ys e = refl

pub reported_is : (g : QueryScene) (c : Cache) (path : List ℕ) (is_dir : Bool)
    → reported g c path is_dir ≡ joined_problems (problems_of_loads g c path is_dir ++ problems_of_size g path is_dir)
unfolding reported reported_by_rules
reported_is g c path is_dir =
    let size = size_problem (join_of g.root path) (limit_of g path is_dir) (size_of g path) in
    report_cases (is_asked g.root path) (is_beyond g.settings (depth_of_path path) is_dir) (has_rules g.tree g.root path) _
    (option_to_list (new_above g c) ++ filter_map (λ p. p) (new_below g c (names_of path))) (option_to_list size)
    (ap joined_problems (sym (collected_three (new_above g c) (new_below g c (names_of path)) size)))

-- Outside of the rules.

pub stands_unasked : (a : Asked) (c : Cache) (path : List ℕ) (is_dir : Bool) (s : Stand) → is_asked (string_bytes a.root) path ≡ false
    → IsStand a c path is_dir s → s ≡ Unasked
stands_unasked a c path is_dir Unasked off h = refl
stands_unasked a c path is_dir Beyond off h = absurd (cc (off, h.0))
stands_unasked a c path is_dir Unruled off h = absurd (cc (off, h.asked))
stands_unasked a c path is_dir (Inside key) off h = absurd (cc (off, h.0.asked))
stands_unasked a c path is_dir (At place) off h = absurd (cc (off, h.0.asked))

pub stands_beyond : (a : Asked) (c : Cache) (path : List ℕ) (is_dir : Bool) (s : Stand) → is_asked (string_bytes a.root) path ≡ true
    → is_beyond a.settings (depth_of_path path) is_dir ≡ true → IsStand a c path is_dir s → s ≡ Beyond
stands_beyond a c path is_dir Unasked on far h = absurd (cc (on, h))
stands_beyond a c path is_dir Beyond on far h = refl
stands_beyond a c path is_dir Unruled on far h = absurd (cc (far, h.within))
stands_beyond a c path is_dir (Inside key) on far h = absurd (cc (far, h.0.within))
stands_beyond a c path is_dir (At place) on far h = absurd (cc (far, h.0.within))

-- At a place.

-- what the rules say there
pub record AtPlace {F : Type 0} (files : Files F) (call : Call F) (tree : Tree) (loads : List ℕ → load.Loaded) (w : Verdict) : Type 0 where
  pub within : IsWithin call.asked.now call.path.now call.is_dir
  pub ruled : Ruled call.asked.now tree call.path.now
  pub opened : list_any (is_ignored (scene_of call.asked.now tree loads)) (ancestors (names_of call.path.now)) ≡ false
  pub said : w ≡ rules_verdict (scene_of call.asked.now tree loads) (names_of call.path.now) call.is_dir
  pub sized : IsSized files call.files.now tree (size_limit call.asked.now.settings call.is_dir w)

-- what holds of an entry by its names holds of the path
pub at_place : {F : Type 0} (files : Files F) (call : Call F) (tree : Tree) (loads : List ℕ → load.Loaded) (c : Cache) (stand : Stand)
    (place : Option Place) (w : Verdict) (P : List (List ℕ) → Type 0)
    → let g = scene_of call.asked.now tree loads in
    StandsIn files call g c stand → stand ≡ At place
    → ((front : List (List ℕ)) (name : List ℕ) → Agrees g c → All IsName (front ++ name ∷ []) → kept_at c front ≡ Some (Loaded place)
    → call.path.now ≡ joined (front ++ name ∷ []) → P (front ++ name ∷ []))
    → (P (names_of call.path.now) → list_any (is_ignored g) (ancestors (names_of call.path.now)) ≡ false
    → w ≡ rules_verdict g (names_of call.path.now) call.is_dir)
    → AtPlace files call tree loads w × P (names_of call.path.now)
at_place files call tree loads c stand place w P h is by said =
    let g = scene_of call.asked.now tree loads in
    let path = call.path.now in
    let s = subst (IsStand call.asked.now c path call.is_dir) is h.stands in
    let at = s.1.1 in
    let r = ruled_by call.asked.now tree loads c path at.front (Loaded place) h.agrees s.1.0 at.kept in
    let whole = sym (join_with_byte-slice_split 47 path) ∙ ap joined at.split in
    let opened = ap (λ l. list_any (is_ignored g) (ancestors l)) (sym r.names) ∙ at_open g c (components path) place h.agrees r.clean at in
    let here = subst P (sym at.split ∙ r.names) (by at.front at.name h.agrees (subst (All IsName) at.split r.clean) at.kept whole) in
    let verdict = said here opened in (
      record {
        within = s.0;
        ruled = r;
        opened = opened;
        said = verdict;
        sized = subst (IsSized files call.files.now tree) (sym (ap (size_limit call.asked.now.settings call.is_dir) verdict)) h.sized;
      },
      here,
    )

pub at_ignored : (a : Asked) (tree : Tree) (loads : List ℕ → load.Loaded) (path : List ℕ) (is_dir : Bool) (w : Verdict) (y : ℕ × ℕ)
    → let g = scene_of a tree loads in
    IsWithin a path is_dir → Ruled a tree path → w ≡ rules_verdict g (names_of path) is_dir
    → larger_by (size_limit a.settings is_dir w) (size_of g path) ≡ Some y
    → limited a.settings (depth_of_path path) is_dir v.Ignore ≡ (query g path is_dir).0
at_ignored a tree loads path is_dir w y within r said h =
    let g = scene_of a tree loads in
    let is = sym (ap (λ x. larger_by (size_limit a.settings is_dir x) (size_of g path)) said) ∙ h in
    sym (query_ruled a tree loads path is_dir within r.ruled
    ∙ ap (limited a.settings (depth_of_path path) is_dir) (larger_ignores (limit_of g path is_dir) (size_of g path) (rules_verdict g (names_of path) is_dir) y is))

pub at_kept : (a : Asked) (tree : Tree) (loads : List ℕ → load.Loaded) (path : List ℕ) (is_dir : Bool) (w : Verdict)
    → let g = scene_of a tree loads in
    IsWithin a path is_dir → Ruled a tree path → w ≡ rules_verdict g (names_of path) is_dir
    → larger_by (size_limit a.settings is_dir w) (size_of g path) ≡ None
    → limited a.settings (depth_of_path path) is_dir w ≡ (query g path is_dir).0
at_kept a tree loads path is_dir w within r said h =
    let g = scene_of a tree loads in
    let is = sym (ap (λ x. larger_by (size_limit a.settings is_dir x) (size_of g path)) said) ∙ h in
    sym (query_ruled a tree loads path is_dir within r.ruled
    ∙ ap (limited a.settings (depth_of_path path) is_dir)
    (larger_not (limit_of g path is_dir) (size_of g path) (rules_verdict g (names_of path) is_dir) is ∙ sym said))

pub at_sizes : (a : Asked) (tree : Tree) (loads : List ℕ → load.Loaded) (path : List ℕ) (is_dir : Bool) (w : Verdict) (errors : List Problem)
    → let g = scene_of a tree loads in
    IsWithin a path is_dir → Ruled a tree path → w ≡ rules_verdict g (names_of path) is_dir
    → errors ++ option_to_list (size_problem (join_of g.root path) (size_limit a.settings is_dir w) (size_of g path))
    ≡ errors ++ problems_of_size g path is_dir
at_sizes a tree loads path is_dir w errors within r said =
    let g = scene_of a tree loads in
    ap (λ x. errors ++ option_to_list (size_problem (join_of g.root path) (size_limit a.settings is_dir x) (size_of g path))) said
    ∙ ap (λ (l : List Problem). errors ++ l) (sym (sizes_decided g path is_dir (decided_ruled a tree loads path is_dir within r.ruled)))

-- Inside an ignored directory.

pub inside_answer : (a : Asked) (tree : Tree) (loads : List ℕ → load.Loaded) (c : Cache) (path text : List ℕ) (is_dir : Bool)
    → let g = scene_of a tree loads in
    Agrees g c → IsWithin a path is_dir → Ruled a tree path → IsInside c (components path) text
    → limited a.settings (depth_of_path path) is_dir v.Ignore ≡ (query g path is_dir).0
inside_answer a tree loads c path text is_dir agrees within r h =
    let g = scene_of a tree loads in
    let on = ap (λ l. list_any (is_ignored g) (ancestors l)) (sym r.names) ∙ inside_shut g c (components path) text agrees r.clean h in
    sym (query_ruled a tree loads path is_dir within r.ruled
    ∙ ap (limited a.settings (depth_of_path path) is_dir)
    (ap (sized (limit_of g path is_dir) (size_of g path)) (sym (shut_verdict g (names_of path) is_dir on))
    ∙ ignored_sized (limit_of g path is_dir) (size_of g path)))

pub inside_sizes : (a : Asked) (tree : Tree) (loads : List ℕ → load.Loaded) (c : Cache) (path text : List ℕ) (is_dir : Bool)
    (errors : List Problem) → let g = scene_of a tree loads in
    Agrees g c → Ruled a tree path → IsInside c (components path) text → errors ≡ errors ++ problems_of_size g path is_dir
inside_sizes a tree loads c path text is_dir errors agrees r h =
    let g = scene_of a tree loads in
    let on = ap (λ l. list_any (is_ignored g) (ancestors l)) (sym r.names) ∙ inside_shut g c (components path) text agrees r.clean h in
    sym (ap (λ (l : List Problem). errors ++ l) (sizes_inside g path is_dir on) ∙ append-nil errors)

-- what holds anyway holds on `Ok`
pub always : {A E : Type 0} {P : Type 0} (r : Result A E) → P → OnOk r P
always (Ok a) p = p
always (Err e) p = tt

-- an ignored directory has a name
pub inside_named : (a : Asked) (tree : Tree) (loads : List ℕ → load.Loaded) (c : Cache) (path text : List ℕ)
    → Agrees (scene_of a tree loads) c → Ruled a tree path → (h : IsInside c (components path) text)
    → (front : List (List ℕ)) × (name : List ℕ) × (h.front ≡ front ++ name ∷ []) × All IsName (front ++ name ∷ [])
inside_named a tree loads c path text agrees r h = by (ends h.front)
  where
    by : Ends h.front → (front : List (List ℕ)) × (name : List ℕ) × (h.front ≡ front ++ name ∷ []) × All IsName (front ++ name ∷ [])
    by (none e) = absurd (root_shut (scene_of a tree loads) c h.front agrees h.kept e)
    by (last front name e) = (front, name, e, subst (All IsName) e (inside_names c (components path) text r.clean h))

pub inside_why : (a : Asked) (tree : Tree) (loads : List ℕ → load.Loaded) (c : Cache) (path text : List ℕ) (is_dir : Bool)
    → let g = scene_of a tree loads in
    Agrees g c → Ruled a tree path → (h : IsInside c (components path) text)
    → (n : (front : List (List ℕ)) × (name : List ℕ) × (h.front ≡ front ++ name ∷ []) × All IsName (front ++ name ∷ []))
    → inside (joined (n.0 ++ n.1 ∷ [])) (path_cited g (n.0 ++ n.1 ∷ []) true) ≡ why_by_rules g path is_dir
inside_why a tree loads c path text is_dir agrees r h n =
    let g = scene_of a tree loads in
    why_shut g path (n.0 ++ n.1 ∷ []) is_dir
    (ap (λ l. first_ignored g (ancestors l)) (sym r.names) ∙ (inside_first g c (components path) text agrees r.clean h
    ∙ ap (λ (l : List (List ℕ)). Some l) n.2))
