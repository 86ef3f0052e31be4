use Rattle.std.proofs.Common.{◌≡◌, ◌++◌, [], ◌∷◌, ◌+◌, take, get_or, map, ℕ, List, codes, sym, ap, ◌∙◌, append_assoc, subst}
use Rattle.std.proofs.Common.{All, Bor, length, rules}
use Rattle.std.proofs.lemmas.List.{map_more}
use Rattle.std.proofs.lemmas.List.Elements.{All-push}
use Rattle.std.specs.Option.{option_map}
use Rattle.std.specs.String.{string_bytes}
use Rattle.ignore_base.specs.Paths.{join_of}
use Rattle.ignore_base.specs.Problem.{problem_of}
use Rattle.ignore_dir.specs.Above.{directories_along, dirs_above, kept_above, path_along, problems_of_loads}
use Rattle.ignore_dir.specs.Chains.{placed_along, slashed}
use Rattle.ignore_dir.specs.AboveBy.{AreAlongBy}
use Rattle.ignore_dir.specs.Lists.{IsAfterSlash, Placed}
use Rattle.ignore_dir.specs.LoadsBy.{reads_of, stats_of}
use Rattle.ignore_dir.specs.Soft.{IsSoft}
use Rattle.ignore_dir.proofs.AboveByLemmas.{along-more, along-none}
use Rattle.ignore_dir.proofs.AboveLemmas.{above-more, path_along-more, problems-more}
use Rattle.ignore_dir.proofs.ChainLemmas.{slashed-more}
use Rattle.ignore_dir.proofs.SlashLemmas.{after_slash-end, after_slash-longer, placed-longer}
use Rattle.ignore_dir.proofs.above.load_along.Goals as goal

pub loop-name-init : goal.loop-name-init
loop-name-init g c =
    let none = c.in_ok-above.ensures.value in
    record {
      dir = search rules;
      base = search rules;
      ends = search rules;
      placed = search rules;
      along = along-none (stats_of g.F.Files c.args.ground.now.files.now) (reads_of g.F.Files c.args.ground.now.files.now) c.args.ground.now.settings.now
          c.in_ok-above.above.dirs.items (string_bytes c.in_ok-above.above.base) (map (option_map problem_of) c.in_ok-above.above.errors.items)
          none.0 none.2 (ap (map (option_map problem_of)) none.1);
      soft = search rules;
      dirs = search rules;
      errors = search rules;
    }

pub loop-name-preserved : goal.loop-name-preserved
loop-name-preserved g c =
    let s = c.args.ground.now.settings.now in
    let names = c.args.names.now in
    let i = c.loop-name.name-index in
    let nothing : Bor (List ℕ) = record { ref_ptr = (0, 0); now = [] } in
    let before = map (λ n. n.now) (take i names) in
    let name = (get_or names i nothing).now in
    let more : map (λ n. n.now) (take (i + 1) names) ≡ before ++ name ∷ [] = map_more (λ n. n.now) names i nothing c.loop-name-test.true in
    let inv = c.loop-name.invariant in
    let base = string_bytes c.loop-name.above.base in
    let dirs = c.loop-name.above.dirs.items in
    let path = c.as_str.result.now in
    let at : path ≡ path_along (codes "/") before = c.as_str.ensures.value ∙ inv.dir in
    let grown : string_bytes c.push.new.self.base ≡ base ++ (name ++ 47 ∷ []) = c.in_ok-push.ensures.base in
    record {
      dir = c.in_ok-dir-2.ensures
          ∙ (ap (λ d. join_of d name) (c.as_str-in-loop-name.ensures.value ∙ inv.dir)
          ∙ (sym (path_along-more (codes "/") before name) ∙ ap (path_along (codes "/")) (sym more)));
      base = grown
          ∙ (ap (λ t. t ++ (name ++ 47 ∷ [])) inv.base
          ∙ (ap (λ t. 47 ∷ t) (sym (slashed-more before name)) ∙ ap (λ ns. 47 ∷ slashed ns) (sym more)));
      ends = subst (λ t. IsAfterSlash t (length t)) (sym (grown ∙ sym (append_assoc base name (47 ∷ [])))) (after_slash-end (base ++ name));
      placed = subst (λ t. All (λ p. IsAfterSlash t p.1) c.push.new.self.dirs.items) (sym grown)
          (subst (λ (ps : List Placed). All (λ p. IsAfterSlash (base ++ (name ++ 47 ∷ [])) p.1) ps) (sym c.in_ok-push.ensures.dirs)
          (All-push (λ p. IsAfterSlash (base ++ (name ++ 47 ∷ [])) p.1) dirs (c.kept_above.result, length base)
          (placed-longer base (name ++ 47 ∷ []) dirs inv.placed) (after_slash-longer base (name ++ 47 ∷ []) (length base) inv.ends)));
      along = subst (λ ns. AreAlongBy (stats_of g.F.Files c.args.ground.now.files.now) (reads_of g.F.Files c.args.ground.now.files.now) s ns
          c.push.new.self.dirs.items (string_bytes c.push.new.self.base) (map (option_map problem_of) c.push.new.self.errors.items)) (sym more)
          (along-more (stats_of g.F.Files c.args.ground.now.files.now) (reads_of g.F.Files c.args.ground.now.files.now) s before name path
          c.in_ok-loaded.loaded (option_map problem_of c.in_ok-loaded.error) dirs c.push.new.self.dirs.items base
          (string_bytes c.push.new.self.base) (map (option_map problem_of) c.loop-name.above.errors.items)
          (map (option_map problem_of) c.push.new.self.errors.items) inv.along at c.in_ok-loaded.ensures.answered
          (c.in_ok-push.ensures.dirs ∙ ap (λ d. dirs ++ (d, length base) ∷ []) c.kept_above.ensures) grown c.in_ok-push.ensures.errors);
      soft = subst (All IsSoft) (sym c.in_ok-push.ensures.errors)
          (All-push IsSoft (map (option_map problem_of) c.loop-name.above.errors.items)
          (option_map problem_of c.in_ok-loaded.error) inv.soft c.in_ok-loaded.ensures.soft);
      dirs = λ tree loads honest are.
          let one = c.one_load.ensures.one tree s path c.in_ok-loaded.loaded (loads path).0
          (option_map problem_of c.in_ok-loaded.error) (loads path).1
          (c.in_ok-loaded.ensures.read tree honest) (are path) in
          above-more loads s (codes "/") before name path base dirs c.push.new.self.dirs.items at inv.base (inv.dirs tree loads honest are)
          (c.in_ok-push.ensures.dirs ∙ ap (λ d. dirs ++ (d, length base) ∷ []) (c.kept_above.ensures ∙ ap (kept_above s) one.0))
          ∙ ap (λ ns. placed_along 1 (dirs_above loads s (directories_along (codes "/") ns)) ns) (sym more);
      errors = λ tree loads honest are.
          let one = c.one_load.ensures.one tree s path c.in_ok-loaded.loaded (loads path).0
          (option_map problem_of c.in_ok-loaded.error) (loads path).1
          (c.in_ok-loaded.ensures.read tree honest) (are path) in
          problems-more loads (codes "/") before name path (map (option_map problem_of) c.loop-name.above.errors.items)
          (map (option_map problem_of) c.push.new.self.errors.items)
          at (inv.errors tree loads honest are)
          (c.in_ok-push.ensures.errors ∙ ap (λ p. map (option_map problem_of) c.loop-name.above.errors.items ++ p ∷ []) one.1)
          ∙ ap (λ ns. problems_of_loads loads (directories_along (codes "/") ns)) (sym more);
    }
