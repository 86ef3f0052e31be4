-- What it says that a cache keeps loads, in small cases: nothing of itself; no directory out of
-- nowhere; each at its place, in one that is kept; and what is above the root by its names.
use Rattle.std.proofs.Common.{◌≡◌, ◌+◌, ℕ, Bool, true, false, All, List, [], ◌∷◌, Option, None, Some, Result, codes, length, map, reverse, refl, sym, ◌∙◌, ap, subst, string_bytes}
use Rattle.ignore_base.specs.Text.{Bytes}
use Rattle.ignore_base.specs.Paths.{IsName}
use Rattle.ignore_base.specs.Problem.{Problem}
use Rattle.ignore_base.specs.declared.fault.Fault.{Fault}
use Rattle.ignore_dir.specs.Above.{canonical_names, kept_above, needs_above, path_along}
use Rattle.ignore_dir.specs.AboveBy.{AreNamesBy}
use Rattle.ignore_dir.specs.Chains.{placed_along, slashed}
use Rattle.ignore_dir.specs.LoadsBy.{LoadsBy, as_answer, reads_of, stats_of}
use Rattle.ignore_dir.specs.declared.dir.Dir.{Dir}
use Rattle.ignore_files.specs.declared.files.Files.{Ghosts as Files}
use Rattle.ignore_levels.specs.Levels.{HasLevel, counts, slots_of}
use Rattle.ignore_levels.specs.declared.list.Place.{Place}
use Rattle.ignore_query.specs.declared.asked.Asked.{Asked}
use Rattle.ignore_query.specs.declared.kept.Cache.{Cache}
use Rattle.ignore_query.specs.declared.kept.Kept.{Kept}
use Rattle.ignore_query.specs.declared.kept.Kept.TheVariants.{Loaded}
use Rattle.ignore_query.specs.Agrees.{StandsFor}
use Rattle.ignore_query.specs.KeptLoads.{IsFound, IsKeptAbove, IsKeptLoad, KeepsLoads}
use Rattle.ignore_query.specs.Listed.{kept_at}

module _ {F : Type 0} (files : Files F) (f : F) (a : Asked) where
  -- a directory `d` of the root, of which nothing was kept, is kept at a place now
  pub record Comes (old new : Cache) (place : Option Place) : Type 0 where
    pub loads : KeepsLoads files f a old new
    pub named : All IsName (codes "d" ∷ [])
    pub before : kept_at old (codes "d" ∷ []) ≡ None
    pub now : kept_at new (codes "d" ∷ []) ≡ Some (Loaded place)

  abbrev load : (old new : Cache) (place : Option Place) → Comes old new place → IsKeptLoad files f a new (codes "d" ∷ []) place
  load old new place c = c.loads.dirs (codes "d" ∷ []) place c.named c.before c.now

  -- then what is above the root is kept, and the root is, and isn't ignored
  pub in_the_root : (old new : Cache) (place : Option Place) → Comes old new place
      → (new.has_above ≡ true) × ((parent : Option Place) × (kept_at new [] ≡ Some (Loaded parent)))
  in_the_root old new place c =
      let k = load old new place c in
      (k.next.rooted, (k.parent, k.next.inside [] (codes "d") refl))

  -- so it can't come where nothing is kept above the root
  pub not_without_above : (old new : Cache) (place : Option Place) → new.has_above ≡ false → Comes old new place → ⊥
  not_without_above old new place none c = let e = sym none ∙ (load old new place c).next.rooted in cc (e)

  -- it was loaded by answers that the files may give, as the directory `d` below the root
  pub by_answers : (old new : Cache) (place : Option Place) → Comes old new place
      → (dir : Dir) × (problem : Option Problem)
      × LoadsBy (stats_of files f) (reads_of files f) a.settings (path_along (string_bytes a.root) (codes "d" ∷ [])) dir problem
  by_answers old new place c = let k = load old new place c in (k.dir, k.problem, k.loads)

  -- with rules or a mark it stands at a level of its own, whose offset is two past what is above the
  -- root and holds what was loaded; else where the root stands
  pub at_its_place : (old new : Cache) (place : Option Place) (c : Comes old new place) → let k = load old new place c in
      (counts k.dir ≡ true → HasLevel (slots_of new.levels) k.dir k.parent (length (string_bytes new.base) + 2) place)
      × (counts k.dir ≡ false → place ≡ k.parent)
  at_its_place old new place c = let k = load old new place c in (k.added.own, k.added.shared)

  -- what is above the root comes to be kept
  pub record ComesAbove (old new : Cache) : Type 0 where
    pub loads : KeepsLoads files f a old new
    pub before : old.has_above ≡ false
    pub now : new.has_above ≡ true

  abbrev above : (old new : Cache) → ComesAbove old new → IsKeptAbove files f a new
  above old new c = c.loads.above c.before c.now

  -- then its text has some names, each with a slash; its place stands for what was loaded; and what
  -- counts of each directory is with its offset
  pub above_by_names : (old new : Cache) (c : ComesAbove old new) → let k = above old new c in
      (string_bytes new.base ≡ 47 ∷ slashed k.loads.0) × StandsFor new new.above (reverse k.dirs)
      × (k.dirs ≡ placed_along 1 (map (λ l. kept_above a.settings l.0) k.loads.2.loads) k.loads.0)
  above_by_names old new c = let k = above old new c in (k.loads.2.text, k.stands, k.loads.2.counts)

  -- the text is `/` where the settings ask for nothing above the root; else the names are those of an
  -- answer of the files

  abbrev Canonical : Result (List ℕ) Fault → Type 0
  Canonical answer = files.canonical_gives f (string_bytes a.root) (as_answer answer)

  pub nothing_above : (old new : Cache) → ComesAbove old new → needs_above a.settings ≡ false → string_bytes new.base ≡ codes "/"
  nothing_above old new c none =
      let k = above old new c in
      let names = subst (λ (b : Bool). AreNamesBy b Canonical k.loads.0) none k.loads.1 in
      k.loads.2.text ∙ ap (λ (ns : List Bytes). 47 ∷ slashed ns) names

  pub above_by_an_answer : (old new : Cache) → ComesAbove old new → needs_above a.settings ≡ true
      → (answer : Result (List ℕ) Fault) × Canonical answer × (string_bytes new.base ≡ 47 ∷ slashed (canonical_names answer))
  above_by_an_answer old new c some =
      let k = above old new c in
      let found = subst (λ (b : Bool). AreNamesBy b Canonical k.loads.0) some k.loads.1 in
      (found.0, found.1, k.loads.2.text ∙ ap (λ (ns : List Bytes). 47 ∷ slashed ns) found.2)

  -- where nothing comes to be kept, nothing was loaded: a cache keeps loads over itself
  pub over_itself : (c : Cache) → KeepsLoads files f a c c
  over_itself c = record {
    above = λ none some. absurd (no_above (sym none ∙ some));
    dirs = λ names place named none some. absurd (no_dir place (sym some ∙ none));
  }
    where
      no_above : false ≡ true → ⊥
      no_above e = cc (e)

      no_dir : (place : Option Place) → let found : Option Kept = Some (Loaded place) in found ≡ None → ⊥
      no_dir place e = cc (e)

  -- what is found as loaded was loaded by answers
  pub found_by_answers : (c : Cache) (parent place : Option Place) (names : List Bytes) → IsFound files f a c parent names (Loaded place)
      → (dir : Dir) × (problem : Option Problem)
      × LoadsBy (stats_of files f) (reads_of files f) a.settings (path_along (string_bytes a.root) names) dir problem
  found_by_answers c parent place names h = (h.0, h.1, h.2)
