-- Where the way to a path begins.
use Rattle.std.proofs.Common.{◌≡◌, ℕ, true, ◌||◌, cond, All, List, [], ◌∷◌, ◌++◌, Option, Some, None, is_some}
use Rattle.std.proofs.Common.{inr, refl, sym, ap, ◌∙◌, subst}
use Rattle.std.proofs.lemmas.Bool.{and_parts}
use Rattle.std.proofs.lemmas.List.{append-nil}
use Rattle.std.specs.BTreeMap.{get_by_text}
use Rattle.std.specs.List.{list_all}
use Rattle.std.specs.Option.{option_to_list}
use Rattle.ignore_base.specs.Paths.{IsName}
use Rattle.ignore_base.specs.Problem.{Problem}
use Rattle.ignore_dir.specs.Chains.{slashed}
use Rattle.ignore_dir.specs.Query.{ancestors, is_ignored}
use Rattle.ignore_dir.specs.Scene.{QueryScene}
use Rattle.ignore_dir.specs.Soft.{AllSoft}
use Rattle.ignore_files.specs.declared.files.Files.{Ghosts as Files}
use Rattle.ignore_levels.specs.declared.list.Place.{Place}
use Rattle.ignore_query.specs.declared.asked.Call.{Call}
use Rattle.ignore_query.specs.declared.kept.Cache.{Cache}
use Rattle.ignore_query.specs.declared.kept.Kept.TheVariants.{Loaded}
use Rattle.ignore_query.specs.Agrees.{Agrees, IsInLoaded, IsNext}
use Rattle.ignore_query.specs.Listed.{kept_at}
use Rattle.ignore_query.specs.Needs.{is_among, is_kept}
use Rattle.ignore_query.specs.Reached.{scene_of}
use Rattle.ignore_query.specs.Reports.{new_above, problem_in}
use Rattle.ignore_query.specs.Stands.{Grows, IsBegin, open_in}
use Rattle.ignore_query.specs.Where.{InCall}
use Rattle.ignore_query.proofs.ChainLemmas.{front_names}
use Rattle.ignore_query.proofs.KeepLemmas.{Ends, ends, last, none}
use Rattle.ignore_query.proofs.KnownLemmas.{kept_among, known_above, next_inside, next_top, parent_known}
use Rattle.ignore_query.proofs.NeedLemmas.{or_same}
use Rattle.ignore_query.proofs.StandLemmas.{EndsWay, Visited, gathered, in_open, needed_seen}
use Rattle.ignore_query.proofs.WayLemmas.{no_last}
use Rattle.ignore_query.proofs.WhyLemmas.{opened_is}

-- At the root.

pub begins_above : (c : Cache) (names : List (List ℕ)) (name : List ℕ) (rest : List (List ℕ)) → names ≡ name ∷ rest → IsBegin c names [] c.above
begins_above c names name rest e = record {
  front = [];
  name = name;
  rest = rest;
  split = e;
  key = refl;
  next = λ rooted. record { rooted = rooted; top = λ e. refl; inside = λ f n is. absurd (no_last f n is) };
}

-- At the directory in which the path is, by what was found above it.

pub begins_in : (c : Cache) (names front : List (List ℕ)) (name text : List ℕ) (found : Option (Option Place)) (place : Option Place)
    → names ≡ front ++ name ∷ [] → text ≡ slashed front → All IsName names → found ≡ Some place → (text ≡ [] → found ≡ None)
    → ((f : List (List ℕ)) (n : List ℕ) → All IsName (f ++ n ∷ []) → text ≡ slashed (f ++ n ∷ []) → found ≡ open_in (kept_at c f))
    → IsBegin c names text place
begins_in c names front name text found place split key clean is root below = record {
  front = front;
  name = name;
  rest = [];
  split = split;
  key = key;
  next = λ rooted. by rooted (ends front);
}
  where
    by : c.has_above ≡ true → Ends front → IsNext c front place
    by rooted (none e) = let no : None ≡ Some place = sym (root (key ∙ ap slashed e)) ∙ is in absurd (cc (no))
    by rooted (last f n e) =
        let named = subst (All IsName) e (front_names front (name ∷ []) (subst (All IsName) split clean)) in
        let here = opened_is (kept_at c f) place (sym (below f n named (key ∙ ap slashed e)) ∙ is) in
        record {
          rooted = rooted;
          top = λ t. absurd (next_top f n (sym e ∙ t));
          inside = λ q m s. next_inside c f q n m place (sym e ∙ s) here;
        }

-- What is above that directory.

-- all directories on the way to it are kept
front_kept : (g : QueryScene) (c : Cache) (front : List (List ℕ)) → Agrees g c → All IsName front → IsInLoaded c front
    → list_all (is_kept c) (ancestors front) ≡ true
front_kept g c front a clean h = by (ends front)
  where
    by : Ends front → list_all (is_kept c) (ancestors front) ≡ true
    by (none e) = ap (λ l. list_all (is_kept c) (ancestors l)) e
    by (last f n e) =
        let here = h f n e in
        let named = subst (All IsName) e clean in
        let names = front_names f (n ∷ []) named in
        let end : EndsWay g f [] = inr ((a.right f (Loaded here.0) names here.1).0, refl) in
        let opened = in_open g c f a names (a.inside f (Loaded here.0) names here.1) in
        ap (λ l. list_all (is_kept c) (ancestors l)) e
        ∙ (sym (ap (list_all (is_kept c)) (needed_seen g f [] n opened end)) ∙ parent_known g c f n (Loaded here.0) a named here.1)

-- what is kept has no new problems
none_gathered : (g : QueryScene) (c : Cache) (fronts : List (List (List ℕ))) → list_all (is_kept c) fronts ≡ true → gathered g c fronts ≡ []
none_gathered g c [] h = refl
none_gathered g c (front ∷ fronts) h =
    let both = and_parts (is_kept c front) (list_all (is_kept c) fronts) h in
    ap (λ b. cond (b || is_ignored g front) [] (option_to_list (problem_in g front)) ++ gathered g c fronts) both.0
    ∙ none_gathered g c fronts both.1

-- so they count as looked up, once what is above the root is kept
pub visited_front : {F : Type 0} (files : Files F) (call : Call F) (old new : Cache) (before after : List Problem) (front : List (List ℕ))
    (place : Option Place) → All IsName front → IsNext new front place → new.dirs ≡ old.dirs
    → Grows files call.files.now call.asked.now old new → InCall files call (λ g. after ≡ before ++ option_to_list (new_above g old))
    → (old.has_above ≡ true → (new ≡ old) × (after ≡ before)) → (AllSoft before → AllSoft after)
    → Visited files call old new before after (ancestors front)
visited_front files call old new before after front place clean next same grows problems known soft =
    let inside : IsInLoaded old front = λ f n e. (place, sym (ap (λ d. get_by_text d.map (slashed f)) same) ∙ next.inside f n e) in
    record {
      grows = grows;
      kept = λ g a q cleanq.
          ap (λ d. is_some (get_by_text d.map (slashed q))) same
          ∙ or_same (is_kept old q) (is_among (ancestors front) q) (kept_among old (ancestors front) q (front_kept g old front a clean inside));
      problems = λ tree loads honest are there a.
          let g = scene_of call.asked.now tree loads in
          let first = option_to_list (new_above g old) in
          let no = none_gathered g old (ancestors front) (front_kept g old front a clean inside) in
          problems tree loads honest are
          ∙ ap (λ (l : List Problem). before ++ l) (sym (append-nil first) ∙ ap (λ (l : List Problem). first ++ l) (sym no));
      known = λ tree loads a all. known (known_above (scene_of call.asked.now tree loads) old call.path.now a all);
      soft = soft;
    }
