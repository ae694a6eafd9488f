use Rattle.std.proofs.Common.{drop}
use Rattle.mpy_dump.specs.Texts.{name_text}
use Rattle.mpy_dump.proofs.Putting.{Partway}
use Rattle.mpy_dump.proofs.texts.put_name_bytes.Given as goal

abbrev pub invariant-loop-byte : goal.invariant-loop-byte
invariant-loop-byte g l =
    Partway g.S.Sink.told g.S.Sink.count l.fn.out l.out (name_text l.name) (name_text (drop l.byte-index l.name))
