-- A text is cut at its zeros, one at a time.
use Rattle.std.proofs.Common.{arith, refl, rules}
use Rattle.ignore_kept.proofs.Cutting.{piece_more}
use Rattle.ignore_kept.proofs.entries.pieces.Goals as goal

pub loop-piece-preserved : goal.loop-piece-preserved
loop-piece-preserved c =
    let l = c.loop-piece in
    record {
      so = piece_more c.args.text.now l.rest.now c.in-Some.piece.now c.in-Some.after.now l.all.items c.push.new.self.items c.in-Some.piece refl
          l.invariant.so c.in-Some.ensures.0 c.in_ok-push.ensures.items;
      text = search rules;
    }

pub loop-piece-smaller : goal.loop-piece-smaller
loop-piece-smaller c = omega (arith, c.in-Some.ensures.1)
