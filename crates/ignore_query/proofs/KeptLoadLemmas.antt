-- What is kept of directories that were loaded by answers of files.
use Rattle.std.proofs.Common.{◌≡◌, ◌+◌, ℕ, Bool, true, false, All, List, Option, None, Some, inl, inr, length, map, refl, reverse, string_bytes}
use Rattle.std.proofs.Common.{sym, ap, ◌∙◌, subst, arith, codes}
use Rattle.std.proofs.lemmas.Bool.{false≢true}
use Rattle.std.proofs.lemmas.List.{length-map}
use Rattle.ignore_base.specs.Paths.{IsName}
use Rattle.ignore_base.specs.Problem.{Problem}
use Rattle.ignore_dir.specs.Above.{directories_along, kept_above}
use Rattle.ignore_dir.specs.AboveBy.{AreAlongBy, IsAboveBy}
use Rattle.ignore_dir.specs.Chains.{slashed}
use Rattle.ignore_dir.specs.Lists.{Placed}
use Rattle.ignore_dir.specs.LoadsBy.{Reads, Stats}
use Rattle.ignore_dir.specs.declared.settings.Settings.{Settings}
use Rattle.ignore_dir.proofs.AboveByLemmas.{are-length}
use Rattle.ignore_dir.specs.declared.dir.Dir.{Dir}
use Rattle.ignore_files.specs.declared.files.Files.{Ghosts as Files}
use Rattle.ignore_levels.specs.Levels.{HasLevel, IsAdded, IsChain, IsRising, Keeps, counting, slots_of}
use Rattle.ignore_levels.specs.declared.list.Place.{Place}
use Rattle.ignore_levels.specs.declared.list.Slot.{Slot}
use Rattle.ignore_levels.proofs.ChainLemmas.{chain-kept}
use Rattle.ignore_query.specs.declared.asked.Asked.{Asked}
use Rattle.ignore_query.specs.declared.kept.Cache.{Cache}
use Rattle.ignore_query.specs.declared.kept.Kept.{Kept}
use Rattle.ignore_query.specs.declared.dirs.Dirs.{Dirs}
use Rattle.ignore_query.specs.declared.kept.Kept.TheVariants.{Ignored, Loaded}
use Rattle.ignore_query.specs.Agrees.{IsNext}
use Rattle.ignore_query.specs.KeptLoads.{IsFound, IsKeptAbove, IsKeptLoad, KeepsLoads}
use Rattle.ignore_query.specs.Listed.{kept_at}
use Rattle.ignore_query.specs.Needs.{Stays}
use Rattle.ignore_query.proofs.KeepLemmas.{Puts, put_cases}
use Rattle.ignore_query.proofs.ListLemmas.{along-length, rising-along}

has_level-kept : (old new : List Slot) (dir : Dir) (parent : Option Place) (offset : ℕ) (place : Option Place) → Keeps old new
    → HasLevel old dir parent offset place → HasLevel new dir parent offset place
has_level-kept old new dir parent offset place keeps h =
    record {
      own = h.own;
      level = h.level;
      same = h.same;
      there = keeps h.own h.level h.there;
      holds = h.holds;
      below = h.below;
      begins = h.begins;
    }

added-kept : (old new : List Slot) (dir : Dir) (parent : Option Place) (offset : ℕ) (place : Option Place) → Keeps old new
    → IsAdded old dir parent offset place → IsAdded new dir parent offset place
added-kept old new dir parent offset place keeps h =
    record { own = λ yes. has_level-kept old new dir parent offset place keeps (h.own yes); shared = h.shared }

next-stays : (old new : Cache) (names : List (List ℕ)) (place : Option Place) → Stays old new → IsNext old names place
    → IsNext new names place
next-stays old new names place stays next =
    let above = stays.above next.rooted in
    record {
      rooted = above.0;
      top = λ e. next.top e ∙ sym above.1.0;
      inside = λ front name e. stays.dirs front (Loaded place) (next.inside front name e);
    }

load-stays : {F : Type 0} (files : Files F) (f : F) (a : Asked) (old new : Cache) (names : List (List ℕ)) (place : Option Place)
    → Stays old new → IsKeptLoad files f a old names place → IsKeptLoad files f a new names place
load-stays files f a old new names place stays h =
    let base : string_bytes old.base ≡ string_bytes new.base = ap string_bytes (sym (stays.above h.next.rooted).1.1) in
    record {
      dir = h.dir;
      problem = h.problem;
      parent = h.parent;
      loads = h.loads;
      next = next-stays old new names h.parent stays h.next;
      added = subst (λ (b : List ℕ). IsAdded (slots_of new.levels) h.dir h.parent (length b + length (slashed names)) place) base
          (added-kept (slots_of old.levels) (slots_of new.levels) h.dir h.parent (length (string_bytes old.base) + length (slashed names)) place
          stays.levels h.added);
    }

above-stays : {F : Type 0} (files : Files F) (f : F) (a : Asked) (old new : Cache) → old.has_above ≡ true → Stays old new
    → IsKeptAbove files f a old → IsKeptAbove files f a new
above-stays files f a old new has stays h =
    let same = stays.above has in
    record {
      dirs = h.dirs;
      reported = h.reported;
      loads = subst (λ b. IsAboveBy files f a.settings (string_bytes a.root) h.dirs (string_bytes b) h.reported) (sym same.1.1) h.loads;
      stands = subst (λ p. IsChain (slots_of new.levels) p (counting (reverse h.dirs))) (sym same.1.0)
          (chain-kept (slots_of old.levels) (slots_of new.levels) stays.levels h.stands);
    }

-- the offsets of the directories above a root rise
pub along-rising : (Stat : Stats) (Read : Reads) (s : Settings) (names : List (List ℕ)) (dirs : List Placed) (base : List ℕ)
    (reported : List (Option Problem)) → AreAlongBy Stat Read s names dirs base reported → IsRising 0 dirs
along-rising Stat Read s names dirs base reported h =
    let size = length-map h.loads (λ l. kept_above s l.0)
    ∙ (are-length Stat Read s (directories_along (codes "/") names) h.loads h.loaded ∙ along-length (codes "/") names) in
    subst (IsRising 0) (sym h.counts) (rising-along 0 1 (map (λ l. kept_above s l.0) h.loads) names (omega arith) (omega (arith, size)))

-- where nothing more is kept, there is nothing to load
pub loads_same : {F : Type 0} (files : Files F) (f : F) (a : Asked) (old new : Cache) → new.has_above ≡ old.has_above
    → ((names : List (List ℕ)) → kept_at new names ≡ kept_at old names) → KeepsLoads files f a old new
loads_same files f a old new rooted same =
    record {
      above = λ off on. absurd (false≢true (sym off ∙ (sym rooted ∙ on)));
      dirs = λ names place clean none now.
          let is : None ≡ Some (Loaded place) = sym none ∙ (sym (same names) ∙ now) in absurd (cc (is));
    }

pub loads_nothing : {F : Type 0} (files : Files F) (f : F) (a : Asked) (c : Cache) → KeepsLoads files f a c c
loads_nothing files f a c = loads_same files f a c c refl (λ names. refl)

-- one after another
pub loads_then : {F : Type 0} (files : Files F) (f : F) (a : Asked) (old mid new : Cache) → KeepsLoads files f a old mid
    → Stays mid new → KeepsLoads files f a mid new → KeepsLoads files f a old new
loads_then files f a old mid new first stays second =
    record {
      above = λ off on. above (mid.has_above) refl off on;
      dirs = λ names place clean none now. at names place clean (kept_at mid names) refl none now;
    }
  where
    above : (b : Bool) → mid.has_above ≡ b → old.has_above ≡ false → new.has_above ≡ true → IsKeptAbove files f a new
    above false e off on = second.above e on
    above true e off on = above-stays files f a mid new e stays (first.above off e)

    at : (names : List (List ℕ)) (place : Option Place) → All IsName names → (k : Option Kept) → kept_at mid names ≡ k
        → kept_at old names ≡ None → kept_at new names ≡ Some (Loaded place) → IsKeptLoad files f a new names place
    at names place clean None e none now = second.dirs names place clean e now
    at names place clean (Some k) e none now =
        let both : Some k ≡ Some (Loaded place) = sym (stays.dirs names k e) ∙ now in
        let same : k ≡ Loaded place = cc (both) in
        load-stays files f a mid new names place stays (first.dirs names place clean none (e ∙ ap Some same))

-- one directory more, at its key
pub loads_put : {F : Type 0} (files : Files F) (f : F) (a : Asked) (old new : Cache) (names : List (List ℕ)) (parent : Option Place)
    (k : Kept)
    → All IsName names → Puts old new (slashed names) k → Stays old new → IsNext old names parent
    → IsFound files f a new parent names k → KeepsLoads files f a old new
loads_put files f a old new names parent k clean puts stays next found =
    record {
      above = λ off on. absurd (false≢true (sym off ∙ next.rooted));
      dirs = λ q place cleanq none now. elim (put_cases old new names k puts clean q (Loaded place) cleanq now) as (λ _. IsKeptLoad files f a new q place) [
        | inl e ↦ subst (λ x. IsKeptLoad files f a new x place) (sym e.0)
            (made place (subst (λ x. IsFound files f a new parent names x) (sym e.1) found))
        | inr x ↦ let is : None ≡ Some (Loaded place) = sym none ∙ x in absurd (cc (is))
      ];
    }
  where
    made : (place : Option Place) → IsFound files f a new parent names (Loaded place) → IsKeptLoad files f a new names place
    made place (dir, problem, loads, added) =
        record {
          dir = dir;
          problem = problem;
          parent = parent;
          loads = loads;
          next = next-stays old new names parent stays next;
          added = added;
        }

-- what was found doesn't rest on what else is kept
pub found_with : {F : Type 0} (files : Files F) (f : F) (a : Asked) (c : Cache) (dirs : Dirs) (parent : Option Place)
    (names : List (List ℕ)) (k : Kept)
    → IsFound files f a c parent names k
    → let after : Cache = record c { dirs = dirs } in
    IsFound files f a after parent names k
found_with files f a c dirs parent names Ignored h = h
found_with files f a c dirs parent names (Loaded place) h = h
