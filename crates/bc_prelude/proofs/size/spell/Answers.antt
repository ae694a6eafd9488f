use Rattle.std.proofs.Common.{◌+◌, ◌*◌, ◌%◌, arith}
use Rattle.bc_prelude.proofs.Entries.{grown}
use Rattle.bc_prelude.proofs.Written.{byte_taken, byte_last, size_more, size_last}
use Rattle.bc_prelude.proofs.size.spell.Goals as goal

pub loop-left-preserved : goal.loop-left-preserved
loop-left-preserved c =
    let l = c.loop-left in
    record {
      whole = byte_taken l.out.items _ _ _ _ (128 + 2 * (l.left % 64)) (size_more l.left (omega arith)) c.in_ok-push.ensures.items l.invariant.whole;
      front = grown _ _ _ l.invariant.front.0 _ l.invariant.front.1 c.in_ok-push.ensures.items;
    }

pub returns-clause-ok : goal.returns-clause-ok
returns-clause-ok c =
    let l = c.loop-left in
    byte_last l.out.items _ _ _ (2 * (l.left % 64)) (size_last l.left (omega arith)) c.in_ok-push-2.ensures.items l.invariant.whole
