use Rattle.std.proofs.Common.{refl}
use Rattle.emit_measures.proofs.Sums.{none_summed, whole}
use Rattle.emit_measures.proofs.Names.{reads_in, read_next}
use Rattle.emit_measures.proofs.imports.reads_length.Goals as goal

pub loop-byte-init : goal.loop-byte-init
loop-byte-init c = none_summed reads_in c.args.name.now

pub loop-byte-preserved : goal.loop-byte-preserved
loop-byte-preserved c = read_next c.args.name.now c.args.name.now c.loop-byte.byte-index _ _ _ _ c.loop-byte.invariant c.loop-byte-test.true c.dot_length.ensures c.saturating_add-length.ensures

pub returns : goal.returns
returns c = whole c.args.name.now c.loop-byte.byte-index c.loop-byte.invariant c.loop-byte-test.false (λ m. refl) 0
