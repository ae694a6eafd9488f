use Rattle.std.proofs.Common.{drop}
use Rattle.mpy_dump.specs.Texts.{inside}
use Rattle.mpy_dump.proofs.Putting.{Partway}
use Rattle.mpy_dump.proofs.texts.put_inside.Given as goal

abbrev pub invariant-loop-byte : goal.invariant-loop-byte
invariant-loop-byte g l =
    Partway g.S.Sink.told g.S.Sink.count l.fn.out l.out (inside l.quote l.text) (inside l.quote (drop l.byte-index l.text))
