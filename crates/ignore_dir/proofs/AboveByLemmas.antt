-- One directory more above a root, loaded by answers.
use Rattle.std.proofs.Common.{◌≡◌, ℕ, suc, ◌+◌, List, [], ◌∷◌, ◌++◌, length, map, Option, refl, sym, ap, ◌∙◌, subst, arith, codes}
use Rattle.std.proofs.lemmas.List.{map-append, length-map}
use Rattle.ignore_base.specs.Problem.{Problem}
use Rattle.ignore_dir.specs.declared.dir.Dir.{Dir}
use Rattle.ignore_dir.specs.declared.settings.Settings.{Settings}
use Rattle.ignore_dir.specs.Above.{directories_along, kept_above, path_along}
use Rattle.ignore_dir.specs.AboveBy.{AreAlongBy, AreLoadsBy}
use Rattle.ignore_dir.specs.Chains.{placed_along, slashed}
use Rattle.ignore_dir.specs.Lists.{Placed}
use Rattle.ignore_dir.specs.Load.{Loaded}
use Rattle.ignore_dir.specs.LoadsBy.{LoadsBy, Reads, Stats}
use Rattle.ignore_dir.proofs.AboveLemmas.{directories_along-more, length-directories}
use Rattle.ignore_dir.proofs.ChainLemmas.{placed_along-more, slashed-more}

are-more : (Stat : Stats) (Read : Reads) (s : Settings) (paths : List (List ℕ)) (loads : List Loaded) (path : List ℕ) (l : Loaded)
    → AreLoadsBy Stat Read s paths loads → LoadsBy Stat Read s path l.0 l.1 → AreLoadsBy Stat Read s (paths ++ path ∷ []) (loads ++ l ∷ [])
are-more Stat Read s [] [] path l h k = (k, tt)
are-more Stat Read s [] (x ∷ loads) path l h k = absurd h
are-more Stat Read s (p ∷ paths) [] path l h k = absurd h
are-more Stat Read s (p ∷ paths) (x ∷ loads) path l h k = (h.0, are-more Stat Read s paths loads path l h.1 k)

pub are-length : (Stat : Stats) (Read : Reads) (s : Settings) (paths : List (List ℕ)) (loads : List Loaded)
    → AreLoadsBy Stat Read s paths loads → length loads ≡ length paths
are-length Stat Read s [] [] h = refl
are-length Stat Read s [] (x ∷ loads) h = absurd h
are-length Stat Read s (p ∷ paths) [] h = absurd h
are-length Stat Read s (p ∷ paths) (x ∷ loads) h = ap suc (are-length Stat Read s paths loads h.1)

pub along-none : (Stat : Stats) (Read : Reads) (s : Settings) (dirs : List Placed) (base : List ℕ) (reported : List (Option Problem))
    → dirs ≡ [] → base ≡ codes "/" → reported ≡ [] → AreAlongBy Stat Read s [] dirs base reported
along-none Stat Read s dirs base reported d b r =
    record { loads = []; loaded = tt; counts = d; text = b; problems = r }

pub along-more : (Stat : Stats) (Read : Reads) (s : Settings) (names : List (List ℕ)) (name path : List ℕ) (loaded : Dir)
    (problem : Option Problem) (dirs after : List Placed) (base grown : List ℕ) (reported more : List (Option Problem))
    → AreAlongBy Stat Read s names dirs base reported → path ≡ path_along (codes "/") names → LoadsBy Stat Read s path loaded problem
    → after ≡ dirs ++ (kept_above s loaded, length base) ∷ [] → grown ≡ base ++ (name ++ 47 ∷ []) → more ≡ reported ++ problem ∷ []
    → AreAlongBy Stat Read s (names ++ name ∷ []) after grown more
along-more Stat Read s names name path loaded problem dirs after base grown reported more h at by new text problems =
    let l : Loaded = (loaded, problem) in
    let kept : List Dir = map (λ l. kept_above s l.0) h.loads in
    let here : Dir = kept_above s loaded in
    let size : length kept ≡ length names = length-map h.loads (λ l. kept_above s l.0)
    ∙ (are-length Stat Read s (directories_along (codes "/") names) h.loads h.loaded ∙ length-directories (codes "/") names) in
    let ends : length base ≡ 1 + length (slashed names) = ap (λ (t : List ℕ). length t) h.text ∙ omega arith in
    record {
      loads = h.loads ++ l ∷ [];
      loaded = subst (λ ps. AreLoadsBy Stat Read s ps (h.loads ++ l ∷ [])) (sym (directories_along-more (codes "/") names name))
          (are-more Stat Read s (directories_along (codes "/") names) h.loads (path_along (codes "/") names) l h.loaded
          (subst (λ p. LoadsBy Stat Read s p loaded problem) at by));
      counts = new
          ∙ (ap (λ (ps : List Placed). ps ++ (here, length base) ∷ []) h.counts
          ∙ (ap (λ k. placed_along 1 kept names ++ (here, k) ∷ []) ends
          ∙ (sym (placed_along-more 1 kept names here name size)
          ∙ ap (λ (ds : List Dir). placed_along 1 ds (names ++ name ∷ [])) (sym (map-append (λ l. kept_above s l.0) h.loads (l ∷ []))))));
      text = text ∙ (ap (λ t. t ++ (name ++ 47 ∷ [])) h.text ∙ ap (λ t. 47 ∷ t) (sym (slashed-more names name)));
      problems = problems
          ∙ (ap (λ (ps : List (Option Problem)). ps ++ problem ∷ []) h.problems ∙ sym (map-append (λ l. l.1) h.loads (l ∷ [])));
    }
