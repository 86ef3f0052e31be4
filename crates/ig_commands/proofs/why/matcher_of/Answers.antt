use Rattle.std.proofs.Common.{◌≡◌, ◌∙◌, ◌∷◌, ◌++◌, ℕ, [], List, Option, ap, arith, length, length-append, map, string_bytes, subst}
use Rattle.std.proofs.lemmas.List.Elements.{All-pop}
use Rattle.std.specs.Option.{option_to_list}
use Rattle.ignore_dir.specs.declared.outside.Outside.{Outside}
use Rattle.ignore_dir.specs.declared.settings.Settings.{Settings}
use Rattle.ignore_query.specs.Agrees.{Agrees}
use Rattle.ignore_query.specs.Fresh.{KeepsNothing}
use Rattle.ignore_query.specs.Reached.{scene_of}
use Rattle.ignore_query.specs.declared.incremental.IncrementalIgnore.{IncrementalIgnore}
use Rattle.ignore.specs.Builder.{with_root}
use Rattle.ignore.specs.Matchers.{AreMatchers, asked_by}
use Rattle.ignore.specs.declared.options.WalkOptions.{WalkOptions}
use Rattle.ig_commands.proofs.WhyLemmas.{last_mapped}
use Rattle.ig_commands.proofs.why.matcher_of.Goals as goal

-- the matcher of the root, which was added last
pub returns-clause-asked : goal.returns-clause-asked
returns-clause-asked g c = λ tree honest.
    let root : List ℕ = string_bytes c.in_ok-root.root in
    let b = c.args.walk in
    let env = c.args.world.now.env.now in
    let all = c.in_ok-matchers.matchers.items in
    let made : c.from_options.result.options ≡ with_root b root =
    c.from_options.ensures.options ∙ (c.in_ok-push_root.ensures.added ∙ ap (with_root b) c.as_str.ensures.value) in
    let ms = subst (λ (o : WalkOptions). AreMatchers tree env o all) made (c.in_ok-matchers.ensures.read tree honest) in
    let items : all ≡ c.pop.new.self.items ++ c.in-Some.matcher ∷ [] =
    c.pop.ensures.items ∙ ap (λ (o : Option IncrementalIgnore). c.pop.new.self.items ++ option_to_list o) c.in-Some.is in
    let by : List ℕ → Settings × Outside × List ℕ × Option (List ℕ) = λ r. (b.settings, ms.0, r, env.current_dir) in (
      ms.0,
      root,
      c.in_ok-root.ensures.root tree honest,
      ms.1,
      last_mapped asked_by by c.pop.new.self.items c.in-Some.matcher b.roots root
          (subst (λ (xs : List IncrementalIgnore). map asked_by xs ≡ map by (b.roots ++ root ∷ [])) items ms.2),
    )

pub returns-clause-fresh : goal.returns-clause-fresh
returns-clause-fresh g c = λ tree loads.
    let s = scene_of c.in-Some.matcher.asked tree loads in
    rw c.in-Some.is at (All-pop (λ (m : IncrementalIgnore). Agrees s m.cache) c.in_ok-matchers.matchers.items c.pop.new.self.items c.pop.result
    c.pop.ensures.items (c.in_ok-matchers.ensures.fresh s)).1

pub returns-clause-empty : goal.returns-clause-empty
returns-clause-empty g c =
    rw c.in-Some.is at (All-pop (λ (m : IncrementalIgnore). KeepsNothing m.cache) c.in_ok-matchers.matchers.items c.pop.new.self.items c.pop.result
    c.pop.ensures.items c.in_ok-matchers.ensures.empty).1

-- there is at least the one
pub unreachable-requires : goal.unreachable-requires
unreachable-requires g c =
    let root : List ℕ = string_bytes c.in_ok-root.root in
    let b = c.args.walk in
    let made : c.from_options.result.options ≡ with_root b root =
    c.from_options.ensures.options ∙ (c.in_ok-push_root.ensures.added ∙ ap (with_root b) c.as_str.ensures.value) in
    let none = rw c.in-None.is at c.pop.ensures.cases in
    let counted : length c.in_ok-matchers.matchers.items ≡ length (b.roots ++ root ∷ []) =
    c.in_ok-matchers.ensures.counted ∙ ap (λ (o : WalkOptions). length o.roots) made in
    omega (arith, none.0, counted, length-append b.roots (root ∷ []), c.in_ok-matchers.matchers.ok.0)
