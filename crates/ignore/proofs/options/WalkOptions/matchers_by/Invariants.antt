use Rattle.std.proofs.Common.{◌≡◌, All, map, take}
use Rattle.ignore_query.specs.Fresh.{KeepsNothing}
use Rattle.ignore.specs.Matchers.{asked_by}
use Rattle.ignore.proofs.options.WalkOptions.matchers_by.Given as goal

-- the matchers are those of the roots before this one, and keep nothing
abbrev pub invariant-loop-root : goal.invariant-loop-root
invariant-loop-root l =
    record {
      value : map asked_by l.matchers.items ≡ map (λ root. (l.self.settings, l.outside, root, l.env.current_dir)) (take l.root-index l.root-items);
      empty : All (λ m. KeepsNothing m.cache) l.matchers.items;
    }
