use Rattle.std.proofs.Common.{◌≡◌, ◌∷◌, take, map, length, codes, All, option_map}
use Rattle.std.specs.String.{string_bytes}
use Rattle.ignore_base.specs.Problem.{problem_of}
use Rattle.ignore_dir.specs.Above.{path_along, directories_along, dirs_above, problems_of_loads}
use Rattle.ignore_dir.specs.AboveBy.{AreAlongBy}
use Rattle.ignore_dir.specs.Chains.{placed_along, slashed}
use Rattle.ignore_dir.specs.Ground.{InLoads}
use Rattle.ignore_dir.specs.Lists.{IsAfterSlash}
use Rattle.ignore_dir.specs.LoadsBy.{reads_of, stats_of}
use Rattle.ignore_dir.specs.Soft.{IsSoft}
use Rattle.ignore_dir.proofs.above.load_along.Given as goal

abbrev pub invariant-loop-name : goal.invariant-loop-name
invariant-loop-name g l = record {
  dir : string_bytes l.dir ≡ path_along (codes "/") (map (λ n. n.now) (take l.name-index l.names));
  base : string_bytes l.above.base ≡ 47 ∷ slashed (map (λ n. n.now) (take l.name-index l.names));
  ends : IsAfterSlash (string_bytes l.above.base) (length (string_bytes l.above.base));
  placed : All (λ p. IsAfterSlash (string_bytes l.above.base) p.1) l.above.dirs.items;
  along : AreAlongBy (stats_of g.F.Files l.ground.files.now) (reads_of g.F.Files l.ground.files.now) l.ground.settings.now
      (map (λ n. n.now) (take l.name-index l.names)) l.above.dirs.items (string_bytes l.above.base)
      (map (option_map problem_of) l.above.errors.items);
  soft : All IsSoft (map (option_map problem_of) l.above.errors.items);
  dirs : InLoads g.F.Files l.ground (λ tree loads.
      l.above.dirs.items ≡ placed_along 1 (dirs_above loads l.ground.settings.now
      (directories_along (codes "/") (map (λ n. n.now) (take l.name-index l.names))))
      (map (λ n. n.now) (take l.name-index l.names)));
  errors : InLoads g.F.Files l.ground (λ tree loads.
      map (option_map problem_of) l.above.errors.items
      ≡ problems_of_loads loads (directories_along (codes "/") (map (λ n. n.now) (take l.name-index l.names))));
}
