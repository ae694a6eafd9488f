use Rattle.std.proofs.Common.{◌+◌, ◌<◌, arith}
use Rattle.bc_prelude.proofs.Entries.{grown}
use Rattle.bc_prelude.proofs.Written.{byte_taken, signature_more, signature_last, byte_last}
use Rattle.bc_prelude.proofs.signature.spell.Goals as goal
use Rattle.bc_prelude.proofs.signature.spell.Goals.{then-slots-gt0, else-slots-gt0+then-handlers-gt0, else-slots-gt0+else-handlers-gt0+then-arguments-gt0, else-slots-gt0+else-handlers-gt0+else-arguments-gt0+then-defaults-gt0}

pub loop-slots-preserved : goal.loop-slots-preserved
loop-slots-preserved c =
    let l = c.loop-slots in
    let some : 0 < l.slots + l.handlers + l.arguments + l.defaults = elim c.if-slots-gt0.branch [
      | then-slots-gt0 w ↦ omega arith
      | else-slots-gt0+then-handlers-gt0 w ↦ omega arith
      | else-slots-gt0+else-handlers-gt0+then-arguments-gt0 w ↦ omega arith
      | else-slots-gt0+else-handlers-gt0+else-arguments-gt0+then-defaults-gt0 w ↦ omega arith
    ] in
    let sum : 0 < l.slots + l.handlers + l.arguments + l.defaults = some in
    record {
      low = omega arith;
      whole = byte_taken l.out.items _ _ _ _ (128 + l.byte) (signature_more l.byte l.slots l.handlers l.arguments l.defaults sum) c.in_ok-push.ensures.items l.invariant.whole;
      front = grown _ _ _ l.invariant.front.0 _ l.invariant.front.1 c.in_ok-push.ensures.items;
    }

pub returns-clause-ok : goal.returns-clause-ok
returns-clause-ok c =
    let l = c.loop-slots in
    byte_last l.out.items _ _ _ l.byte (signature_last l.byte l.slots l.handlers l.arguments l.defaults (omega arith)) c.in_ok-push-2.ensures.items l.invariant.whole
