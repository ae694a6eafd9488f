use Rattle.std.proofs.Common.{◌++◌, drop, length}
use Rattle.mpy_dump.specs.Numbered.{numbered}
use Rattle.mpy_dump.specs.Objects.{closing}
use Rattle.mpy_dump.proofs.Putting.{Partway}
use Rattle.mpy_dump.proofs.Tuples.{item_at, tuple_text}
use Rattle.mpy_dump.proofs.objects.+objects.Given as goal

abbrev pub invariant-put_tuple-loop-place : goal.invariant-put_tuple-loop-place
invariant-put_tuple-loop-place g l =
    Partway g.S.Sink.told g.S.Sink.count l.fn.out l.out (tuple_text l.items)
    (numbered item_at l.place (drop l.place l.items) ++ closing (length l.items))
