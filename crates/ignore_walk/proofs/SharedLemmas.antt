-- What a way has passed: with one directory more, one above an earlier root or a new one.
use Rattle.std.proofs.Common.{◌≡◌, ℕ, ◌+◌, Bool, true, false, cond, not, ◌||◌, List, [], ◌∷◌, ◌++◌, length, map, reverse, Option, None, Ok, refl, sym, ap, subst, ◌∙◌, append_assoc, arith}
use Rattle.std.proofs.lemmas.List.{append-nil, length-append, map-append, reverse-append}
use Rattle.std.proofs.lemmas.List.Folds.{list_any-append}
use Rattle.std.proofs.lemmas.Slice.Eq.{bytes_eq-Decides}
use Rattle.std.specs.List.{filter_map}
use Rattle.std.specs.Option.{option_to_list}
use Rattle.std.specs.Str.{bytes_eq}
use Rattle.std.specs.String.{string_bytes}
use Rattle.ignore_base.specs.Paths.{join_of}
use Rattle.ignore_base.specs.Problem.{Problem, problem_of}
use Rattle.ignore_dir.specs.declared.dir.Dir.{Dir}
use Rattle.ignore_dir.specs.Above.{canonical_names, directories_along, dirs_above, kept_above, path_along, problems_of_loads}
use Rattle.ignore_dir.specs.Chains.{placed_along, slashed}
use Rattle.ignore_dir.specs.Lists.{Placed}
use Rattle.ignore_levels.specs.declared.list.Place.{Place}
use Rattle.ignore_levels.specs.declared.list.Slot.{Slot}
use Rattle.ignore_levels.specs.Levels.{IsChain, counted, counting}
use Rattle.ignore_levels.specs.Levels.IsChain.{no_level}
use Rattle.ignore_walk.specs.Scene.{Scene}
use Rattle.ignore_walk.specs.Shared.{AreSeen, AreShared, HasCome, HasPassed, is_among, paths_of, placed_down, placed_through}
use Rattle.ignore_walk.specs.Whole.{unseen}
use Rattle.ignore_walk.specs.declared.above.Seen.{Seen}
use Rattle.ignore_walk.specs.declared.above.Way.{Way}
use Rattle.ignore_walk.proofs.AboveLemmas.{directories_along-more, path_along-more, slashed-more, unseen-more}
use Rattle.ignore_walk.proofs.PlaceLemmas.{length-held, placed_along-end}

-- what stands for a chain in one list does so in another
abbrev pub KeepsChains : List Slot → List Slot → Type 0
KeepsChains a b = (place : Option Place) (chain : List Placed) → IsChain a place chain → IsChain b place chain

pub shared-kept : (g : Scene) (kept : List Seen) (a b : List Slot) → KeepsChains a b → AreShared g a kept → AreShared g b kept
shared-kept g [] a b h are = tt
shared-kept g (s ∷ kept) a b h are =
    (h s.place (counting (placed_through g s.path)) are.0, shared-kept g kept a b h are.1)

pub shared-append : (g : Scene) (slots : List Slot) (xs ys : List Seen) → AreShared g slots xs → AreShared g slots ys → AreShared g slots (xs ++ ys)
shared-append g slots [] ys h k = k
shared-append g slots (x ∷ xs) ys h k = (h.0, shared-append g slots xs ys h.1 k)

-- what stands for a directory, by the names on the way to it

placed_along-more : (offset : ℕ) (dirs : List Dir) (names : List (List ℕ)) (dir : Dir) (name : List ℕ) → length dirs ≡ length names
    → placed_along offset (dirs ++ dir ∷ []) (names ++ name ∷ []) ≡ placed_along offset dirs names ++ (dir, offset + length (slashed names)) ∷ []
placed_along-more offset [] [] dir name e = ap (λ n. let l : List Placed = (dir, n) ∷ [] in l) (omega arith)
placed_along-more offset [] (n ∷ names) dir name e = absurd (omega arith)
placed_along-more offset (d ∷ dirs) [] dir name e = absurd (omega arith)
placed_along-more offset (d ∷ dirs) (n ∷ names) dir name e =
    let size : length (n ++ 47 ∷ slashed names) ≡ length n + (1 + length (slashed names)) = length-append n (47 ∷ slashed names) ∙ omega arith in
    ap (λ (l : List Placed). (d, offset) ∷ l)
    (placed_along-more (offset + length n + 1) dirs names dir name (omega arith)
    ∙ ap (λ k. placed_along (offset + length n + 1) dirs names ++ (dir, k) ∷ []) (omega arith))

module _ (g : Scene) where
  abbrev held : List (List ℕ) → List Dir
  held names = dirs_above g.loads g.settings (directories_along (47 ∷ []) names)

  abbrev one : List ℕ → Dir
  one path = kept_above g.settings (g.loads path).0

  held-more : (names : List (List ℕ)) (path : List ℕ)
      → dirs_above g.loads g.settings (directories_along (47 ∷ []) names ++ path ∷ []) ≡ held names ++ one path ∷ []
  held-more names path = map-append one (directories_along (47 ∷ []) names) (path ∷ [])

  down-more : (names : List (List ℕ)) (name : List ℕ)
      → placed_down g (names ++ name ∷ []) ≡ (one (path_along (47 ∷ []) names), 1 + length (slashed names)) ∷ placed_down g names
  down-more names name =
      let path = path_along (47 ∷ []) names in
      let far = placed_along 1 (held names) names in
      ap (λ (l : List (List ℕ)). reverse (placed_along 1 (dirs_above g.loads g.settings l) (names ++ name ∷ [])))
      (directories_along-more (47 ∷ []) names name)
      ∙ (ap (λ (l : List Dir). reverse (placed_along 1 l (names ++ name ∷ []))) (held-more names path)
      ∙ (ap reverse (placed_along-more 1 (held names) names (one path) name (length-held g names))
      ∙ reverse-append far ((one path, 1 + length (slashed names)) ∷ [])))

  through-is : (names : List (List ℕ)) (path : List ℕ) → canonical_names (Ok path) ≡ names
      → placed_through g path ≡ (one path, 1 + length (slashed names)) ∷ placed_down g names
  through-is names path e =
      let far = placed_along 1 (held names) names in
      ap (λ (ns : List (List ℕ)). reverse (placed_along 1 (dirs_above g.loads g.settings (directories_along (47 ∷ []) ns ++ path ∷ [])) ns)) e
      ∙ (ap (λ (l : List Dir). reverse (placed_along 1 l names)) (held-more names path)
      ∙ (ap reverse (placed_along-end 1 (held names) names (one path) (length-held g names))
      ∙ reverse-append far ((one path, 1 + length (slashed names)) ∷ [])))

  passed-through : (names : List (List ℕ)) (name path : List ℕ) → path ≡ path_along (47 ∷ []) names → canonical_names (Ok path) ≡ names
      → placed_down g (names ++ name ∷ []) ≡ placed_through g path
  passed-through names name path at e =
      down-more names name
      ∙ (ap (λ (p : List ℕ). let l : List Placed = (one p, 1 + length (slashed names)) ∷ placed_down g names in l) (sym at)
      ∙ sym (through-is names path e))

-- which directories are kept

either : (a b e : Bool) → (e ≡ true → a ≡ true) → (a || (b || (e || false))) ≡ (a || b)
either true b e h = refl
either false true e h = refl
either false false false h = refl
either false false true h = sym (h refl)

known-more : (p path : List ℕ) (seen dirs : List (List ℕ)) → is_among path seen ≡ true
    → is_among p (seen ++ (dirs ++ path ∷ [])) ≡ is_among p (seen ++ dirs)
known-more p path seen dirs known =
    let a = is_among p seen in
    let b = is_among p dirs in
    let e = bytes_eq p path in
    list_any-append (bytes_eq p) seen (dirs ++ path ∷ [])
    ∙ (ap (λ (x : Bool). a || x) (list_any-append (bytes_eq p) dirs (path ∷ []))
    ∙ (either a b e (λ t. ap (λ (q : List ℕ). is_among q seen) ((bytes_eq-Decides p path).0 t) ∙ known)
    ∙ sym (list_any-append (bytes_eq p) seen dirs)))

new-more : (kept new : List Seen) (s : Seen) (seen dirs : List (List ℕ)) → AreSeen (kept ++ new) (seen ++ dirs)
    → AreSeen (kept ++ (new ++ s ∷ [])) (seen ++ (dirs ++ s.path ∷ []))
new-more kept new s seen dirs are p =
    let e = bytes_eq p s.path || false in
    ap (λ (l : List Seen). is_among p (paths_of l)) (sym (append_assoc kept new (s ∷ [])))
    ∙ (ap (is_among p) (map-append (λ (x : Seen). x.path) (kept ++ new) (s ∷ []))
    ∙ (list_any-append (bytes_eq p) (paths_of (kept ++ new)) (s.path ∷ [])
    ∙ (ap (λ (x : Bool). x || e) (are p)
    ∙ (sym (list_any-append (bytes_eq p) (seen ++ dirs) (s.path ∷ []))
    ∙ ap (is_among p) (append_assoc seen dirs (s.path ∷ []))))))

-- a directory is passed

module _ (g : Scene) (kept : List Seen) (seen names : List (List ℕ)) (name path : List ℕ) where
  abbrev some : Option Problem → Option Problem
  some p = p

  abbrev dirs : List (List ℕ)
  dirs = directories_along (47 ∷ []) names

  more : path ≡ path_along (47 ∷ []) names → directories_along (47 ∷ []) (names ++ name ∷ []) ≡ dirs ++ path ∷ []
  more at = directories_along-more (47 ∷ []) names name ∙ ap (λ (p : List ℕ). dirs ++ p ∷ []) (sym at)

  errors-more : (es fs : List Problem) (was : Bool) → path ≡ path_along (47 ∷ []) names → was ≡ is_among path seen
      → es ≡ filter_map some (problems_of_loads g.loads (unseen seen dirs)) → fs ≡ es ++ cond (not was) (option_to_list (g.loads path).1) []
      → fs ≡ filter_map some (problems_of_loads g.loads (unseen seen (directories_along (47 ∷ []) (names ++ name ∷ []))))
  errors-more es fs was at known before after =
      after
      ∙ (ap (λ (l : List Problem). l ++ cond (not was) (option_to_list (g.loads path).1) []) before
      ∙ (sym (unseen-more g.loads seen dirs path was known)
      ∙ ap (λ (l : List (List ℕ)). filter_map some (problems_of_loads g.loads (unseen seen l))) (sym (more at))))

  -- one that is above an earlier root
  pub pass-known : (slots : List Slot) (w w' : Way) → w'.added.items ≡ w.added.items → w'.errors.items ≡ w.errors.items
      → IsChain slots w'.place (counting (placed_through g path)) → is_among path (paths_of kept) ≡ true → path ≡ path_along (47 ∷ []) names
      → canonical_names (Ok path) ≡ names → AreSeen kept seen → HasCome g slots kept seen names w
      → HasPassed g slots kept seen (names ++ name ∷ []) w'
  pass-known slots w w' same_new same_errors chain known at e are come =
      let known' : is_among path seen ≡ true = sym (are path) ∙ known in
      let before = come.passed in
      record {
        place = subst (λ (l : List Placed). IsChain slots w'.place (counting l)) (sym (passed-through g names name path at e)) chain;
        new = subst (AreShared g slots) (sym same_new) before.new;
        all = λ p.
            ap (λ (l : List Seen). is_among p (paths_of (kept ++ l))) same_new
            ∙ (before.all p
            ∙ (sym (known-more p path seen dirs known') ∙ ap (λ (l : List (List ℕ)). is_among p (seen ++ l)) (sym (more at))));
        errors = errors-more (map problem_of w.errors.items) (map problem_of w'.errors.items) true at (sym known') before.errors
            (ap (map problem_of) same_errors ∙ sym (append-nil (map problem_of w.errors.items)));
      }

  -- one that is above none
  pub pass-new : (old new : List Slot) (w w' : Way) (s : Seen) (dir : Dir) (offset : ℕ) → KeepsChains old new
      → w'.added.items ≡ w.added.items ++ s ∷ [] → s.path ≡ path → s.place ≡ w'.place
      → map problem_of w'.errors.items ≡ map problem_of w.errors.items ++ option_to_list (g.loads path).1
      → dir ≡ kept_above g.settings (g.loads path).0 → offset ≡ 1 + length (slashed names)
      → IsChain new w'.place (counted dir offset (counting (placed_down g names)))
      → is_among path (paths_of kept) ≡ false → path ≡ path_along (47 ∷ []) names → canonical_names (Ok path) ≡ names → AreSeen kept seen
      → HasCome g old kept seen names w → HasPassed g new kept seen (names ++ name ∷ []) w'
  pass-new old new w w' s dir offset keeps more_new at_path at_place more_errors is_dir is_offset chain unknown at e are come =
      let unknown' : is_among path seen ≡ false = sym (are path) ∙ unknown in
      let before = come.passed in
      let chain' : IsChain new w'.place (counting (placed_through g path)) =
      subst (λ (l : List Placed). IsChain new w'.place (counting l)) (sym (through-is g names path e))
      (subst (λ (d : Dir). IsChain new w'.place (counting ((d, 1 + length (slashed names)) ∷ placed_down g names))) is_dir
      (subst (λ (n : ℕ). IsChain new w'.place (counting ((dir, n) ∷ placed_down g names))) is_offset chain)) in
      let own : IsChain new s.place (counting (placed_through g s.path)) =
      subst (λ (p : List ℕ). IsChain new s.place (counting (placed_through g p))) (sym at_path)
      (subst (λ (p : Option Place). IsChain new p (counting (placed_through g path))) (sym at_place) chain') in
      record {
        place = subst (λ (l : List Placed). IsChain new w'.place (counting l)) (sym (passed-through g names name path at e)) chain';
        new = subst (AreShared g new) (sym more_new)
            (shared-append g new w.added.items (s ∷ []) (shared-kept g w.added.items old new keeps before.new) (own, tt));
        all = λ p.
            ap (λ (l : List Seen). is_among p (paths_of (kept ++ l))) more_new
            ∙ (new-more kept w.added.items s seen dirs before.all p
            ∙ (ap (λ (q : List ℕ). is_among p (seen ++ (dirs ++ q ∷ []))) at_path
            ∙ ap (λ (l : List (List ℕ)). is_among p (seen ++ l)) (sym (more at))));
        errors = errors-more (map problem_of w.errors.items) (map problem_of w'.errors.items) false at (sym unknown') before.errors more_errors;
      }

-- a way that has come to `/`
pub come-first : (g : Scene) (slots : List Slot) (kept : List Seen) (seen : List (List ℕ)) (w : Way) → AreSeen kept seen
    → string_bytes w.path ≡ 47 ∷ [] → string_bytes w.text ≡ 47 ∷ [] → w.place ≡ None → w.added.items ≡ [] → w.errors.items ≡ []
    → HasCome g slots kept seen [] w
come-first g slots kept seen w are path text place added errors =
    record {
      path = path;
      text = text;
      passed = record {
        place = subst (λ (p : Option Place). IsChain slots p []) (sym place) no_level;
        new = subst (AreShared g slots) (sym added) tt;
        all = λ p.
            ap (λ (l : List Seen). is_among p (paths_of (kept ++ l))) added
            ∙ (ap (λ (l : List Seen). is_among p (paths_of l)) (append-nil kept)
            ∙ (are p ∙ ap (is_among p) (sym (append-nil seen))));
        errors = ap (map problem_of) errors;
      };
    }

-- a way goes on by a name
pub come-next : (g : Scene) (slots : List Slot) (kept : List Seen) (seen names : List (List ℕ)) (name : List ℕ) (w w' : Way)
    → string_bytes w.path ≡ path_along (47 ∷ []) names → string_bytes w.text ≡ 47 ∷ slashed names
    → string_bytes w'.path ≡ join_of (string_bytes w.path) name → string_bytes w'.text ≡ string_bytes w.text ++ (name ++ 47 ∷ [])
    → w'.place ≡ w.place → w'.added ≡ w.added → w'.errors ≡ w.errors → HasPassed g slots kept seen (names ++ name ∷ []) w
    → HasCome g slots kept seen (names ++ name ∷ []) w'
come-next g slots kept seen names name w w' path text path' text' place added errors passed =
    record {
      path = path' ∙ (ap (λ (p : List ℕ). join_of p name) path ∙ sym (path_along-more (47 ∷ []) names name));
      text = text'
          ∙ (ap (λ (t : List ℕ). t ++ (name ++ 47 ∷ [])) text ∙ ap (λ (t : List ℕ). 47 ∷ t) (sym (slashed-more names name)));
      passed = record {
        place = rw place passed.place;
        new = rw added passed.new;
        all = λ p. rw added (passed.all p);
        errors = rw errors passed.errors;
      };
    }
