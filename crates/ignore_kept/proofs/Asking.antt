-- A matcher is one of what the handle keeps.
use Rattle.std.proofs.Common.{arith, ◌≡◌, ◌≢◌, ◌+◌, ℕ, suc, Bool, List, [], ◌∷◌, ◌++◌, length-append, Result, Ok, Err, IfOk, IfErr, inl, inr, refl, sym, ap, subst, ◌∙◌, length}
use Rattle.std.specs.Prelude.{All}
use Rattle.ignore.specs.QueryWords.{SameKeptAgrees}
use Rattle.ignore.specs.WalkWords.{Agrees, AreMatchers, IncrementalIgnore, IncrementalMatch, KeepsNothing, Loaded, Stays, query, scene_of}
use Rattle.ignore.specs.declared.options.WalkOptions.{WalkOptions}
use Rattle.ignore_files.specs.Answers.{tree_of}
use Rattle.ignore_files.specs.declared.env.Env.{Env}
use Rattle.ignore_base.specs.Text.{Path}
use Rattle.ignore_files.specs.Memory.{Memory}
use Rattle.ignore_kept.specs.Kinds.{matcher_in, setup_in, tree_in}
use Rattle.ignore_kept.specs.Matching.{Builds, Forgets, Forgot, InScene, IsBuilt, IsRight, Matches, keeping}
use Rattle.ignore_kept.specs.Setups as setup
use Rattle.ignore_kept.specs.Trees as tree
use Rattle.ignore_kept.specs.declared.kept.Kept.{Kept}
use Rattle.ignore_kept.specs.declared.setup.Setup.{Setup}
use Rattle.ignore_kept.specs.declared.stopped.Stopped.{Stopped}
use Rattle.ignore_kept.specs.declared.stopped.Stopped.TheVariants.{NotUtf8, Memory as Full, Limit, Invalid, Misused, Tree}

module _ (builder files : Kept) (options : Setup) (told : Memory) (b : builder ≡ setup.keeping options) (t : files ≡ tree.keeping told) where
  pub builds : (matcher : IncrementalIgnore) → IsBuilt told options.env options.options (Ok matcher) → Builds builder files (Ok (keeping matcher))
  builds matcher h = (options, told, matcher, ap setup_in b, ap tree_in t, h, refl)

  pub builds_none : (e : Stopped) → IsBuilt told options.env options.options (Err e) → Builds builder files (Err e)
  builds_none Misused h = inr (inr (options, ap setup_in b, h))
  builds_none Full h = tt
  builds_none other h = absurd h

-- the one matcher of a builder is the matcher of its options; there is none where it has not one root
pub one_matcher : (tree : Memory) (env : Env) (options copy taken : WalkOptions) (ms : List IncrementalIgnore)
    (r : Result IncrementalIgnore Stopped) → copy ≡ options → taken ≡ copy → AreMatchers (tree_of tree) env taken ms
    → All (λ m. KeepsNothing m.cache) ms → length ms ≡ length taken.roots → IfOk r (λ m. ms ≡ m ∷ [])
    → IfErr r (λ e. (e ≡ Misused) × (length ms ≢ 1)) → IsBuilt tree env options r
one_matcher tree env options copy taken ms (Ok m) copied same are fresh counted one misused =
    let alone : All (λ m. KeepsNothing m.cache) (m ∷ []) = subst (λ (l : List IncrementalIgnore). All (λ m. KeepsNothing m.cache) l) one fresh in (
      subst (λ (b : WalkOptions). AreMatchers (tree_of tree) env b (m ∷ [])) (same ∙ copied)
          (subst (λ (l : List IncrementalIgnore). AreMatchers (tree_of tree) env taken l) one are),
      alone 0 m (omega arith),
    )
one_matcher tree env options copy taken ms (Err e) copied same are fresh counted one misused =
    subst (λ (s : Stopped). IsBuilt tree env options (Err s)) (sym misused.0)
    (λ single. misused.1 (counted ∙ ap (λ (b : WalkOptions). length b.roots) (same ∙ copied) ∙ single))

-- what is right for a scene agrees with it
pub right : SameKeptAgrees → (m : IncrementalIgnore) (tree : Memory) (loads : Path → Loaded)
    → IsRight m (scene_of m.asked (tree_of tree) loads) → Agrees (scene_of m.asked (tree_of tree) loads) m.cache
right stays m tree loads (inl agree) = agree
right stays m tree loads (inr (earlier, past, h)) = stays m.asked earlier (tree_of tree) past loads m.cache h.0 h.1

answered : (kept files : Kept) (path : Path) (is_dir : Bool) (old : IncrementalIgnore) (told : Memory)
    (r : Result IncrementalMatch Stopped) (new : IncrementalIgnore) → kept ≡ keeping old → files ≡ tree.keeping told
    → InScene old told (λ g. IfOk r (λ m. m ≡ (query g path is_dir).0)) → InScene old told (λ g. Agrees g new.cache)
    → Stays old.cache new.cache → new.asked ≡ old.asked → IfErr r (λ e. e ≡ Full) → Matches kept files path is_dir r (keeping new)
answered kept files path is_dir old told (Ok m) new is t value agrees stays same memory =
    (old, new, told, ap matcher_in is, ap tree_in t, refl, (agrees, stays, same), value)
answered kept files path is_dir old told (Err e) new is t value agrees stays same memory =
    subst (λ (x : Stopped). Matches kept files path is_dir (Err x) (keeping new)) (sym memory)
    (old, new, told, ap matcher_in is, ap tree_in t, refl, (agrees, stays, same))

pub matched : (kept files : Kept) (path text : Path) (is_dir : Bool) (old : IncrementalIgnore) (told : Memory)
    (r : Result IncrementalMatch Stopped) (new : IncrementalIgnore) → kept ≡ keeping old → files ≡ tree.keeping told → text ≡ path
    → InScene old told (λ g. IfOk r (λ m. m ≡ (query g text is_dir).0)) → InScene old told (λ g. Agrees g new.cache)
    → Stays old.cache new.cache → new.asked ≡ old.asked → IfErr r (λ e. e ≡ Full) → Matches kept files path is_dir r (keeping new)
matched kept files path text is_dir old told r new is t e value agrees stays same memory =
    subst (λ (p : Path). Matches kept files p is_dir r (keeping new)) e
    (answered kept files text is_dir old told r new is t value agrees stays same memory)

-- what is forgotten at a text that is the path
pub forgets : (kept : Kept) (dir text : Path) (old : IncrementalIgnore) (count : ℕ) (new : IncrementalIgnore) → kept ≡ keeping old
    → text ≡ dir → Forgot old text count new → Forgets kept dir (Ok count) (keeping new)
forgets kept dir text old count new is e h = (old, new, ap matcher_in is, refl, subst (λ (d : Path). Forgot old d count new) e h)

no_successor : (n : ℕ) → suc n ≡ 0 → ⊥
no_successor n h = omega arith

-- a list of which one thing was taken, and then none, had that thing alone
pub single : {X : Type 0} (all rest : List X) (m : X) → all ≡ rest ++ m ∷ [] → length rest ≡ 0 → all ≡ m ∷ []
single all [] m is none = is
single all (x ∷ rest) m is none = absurd (no_successor (length rest) none)

-- and one of which a second thing was taken had more
pub several : {X : Type 0} (all rest : List X) (m : X) (left : ℕ) → all ≡ rest ++ m ∷ [] → left + 1 ≡ length rest → length all ≢ 1
several all rest m left is more one =
    let counted : length all ≡ length rest + 1 = ap length is ∙ length-append rest (m ∷ []) in omega arith
