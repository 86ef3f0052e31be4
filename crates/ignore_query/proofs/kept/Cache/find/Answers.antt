use Rattle.std.proofs.Common.{◌≡◌, ◌+◌, length, string_bytes, string_len, sym, ap, ◌∙◌, subst, arith}
use Rattle.ignore_dir.specs.Steps.{reached_in}
use Rattle.ignore_levels.specs.Levels.{IsBelow, IsChain, counting}
use Rattle.ignore_query.specs.Reached.{scene_of}
use Rattle.ignore_query.proofs.ChainLemmas.{text-length}
use Rattle.ignore_query.proofs.GrowLemmas.{Parent, grown_chain, parent_of}
use Rattle.ignore_query.proofs.KeepLemmas.{ends}
use Rattle.ignore_levels.specs.Levels.{IsAdded, slots_of}
use Rattle.ignore_query.proofs.kept.Cache.find.Goals as goal

pub returns-clause-value : goal.returns-clause-value
returns-clause-value g c = λ tree loads honest are names agrees clean key next.
    let scene = scene_of c.args.call.now.asked.now tree loads in
    let self = c.args.self.now in
    let parent : Parent scene self names c.args.place =
    parent_of scene self names c.args.place (c.steps_are_whole.ensures.root scene) (c.steps_are_whole.ensures.entered scene) agrees clean next
    (ends names) in
    let size : string_len self.base ≡ length (string_bytes self.base) = omega (arith, self.base.bytes.ok.0) in
    let offset : length (string_bytes self.base) + length c.args.key.now ≡ length (reached_in scene names).text =
    ap (λ t. length (string_bytes self.base) + length t) key ∙ text-length scene self names agrees next.rooted in
    let at = ap (λ n. n + length c.args.key.now) (c.len.ensures ∙ size) ∙ offset in
    let below = subst (λ n. IsBelow n (counting parent.chain)) (sym at) parent.below in
    let dir = c.in_ok-dir.ensures.value tree loads honest are names clean key in (
      sym (c.in_ok-is_ignored.ensures.value tree loads names agrees clean key next) ∙ c.if-branch.false,
      subst (IsChain c.add.new.self.slots.items c.in_ok-place.place)
          (grown_chain scene self names c.args.place c.in_ok-dir.dir _ parent.chain parent.whole dir at)
          (c.in_ok-place.ensures.chain (counting parent.chain) parent.is below),
    )

pub returns-clause-loaded : goal.returns-clause-loaded
returns-clause-loaded g c = λ names clean key.
    let self = c.args.self.now in
    let l = c.in_ok-dir.ensures.loaded names clean key in
    let size : string_len self.base ≡ length (string_bytes self.base) = omega (arith, self.base.bytes.ok.0) in
    let at = ap (λ n. n + length c.args.key.now) (c.len.ensures ∙ size) ∙ ap (λ t. length (string_bytes self.base) + length t) key in (
      c.in_ok-dir.dir,
      l.0,
      l.1,
      subst (λ n. IsAdded (slots_of c.add.new.self) c.in_ok-dir.dir c.args.place n c.in_ok-place.place) at c.in_ok-place.ensures.added,
    )
