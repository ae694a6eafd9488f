use Rattle.mpy_dump.specs.Texts.{name_byte}
use Rattle.mpy_dump.proofs.Putting.{step_at, stop_at}
use Rattle.mpy_dump.proofs.texts.put_name_bytes.Goals as goal

pub loop-byte-preserved : goal.loop-byte-preserved
loop-byte-preserved g c =
    step_at name_byte c.args.name.now c.loop-byte.byte-index _ c.loop-byte-test.true c.loop-byte.invariant c.in_ok-put_name_byte.ensures

pub returns-in_err-put_name_byte : goal.returns-in_err-put_name_byte
returns-in_err-put_name_byte g c =
    stop_at name_byte c.args.name.now c.loop-byte.byte-index _ c.from_residual.result c.from_residual.ensures.0 c.loop-byte-test.true c.loop-byte.invariant c.in_err-put_name_byte.ensures
