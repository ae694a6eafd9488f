use Rattle.std.proofs.Common.{[], ◌++◌, drop}
use Rattle.mpy_dump.specs.Numbered.{numbered}
use Rattle.mpy_dump.specs.Listing.{object_line}
use Rattle.mpy_dump.proofs.Putting.{Partway}
use Rattle.mpy_dump.proofs.whole.put_objects.Given as goal

abbrev pub invariant-loop-n : goal.invariant-loop-n
invariant-loop-n g l =
    Partway g.S.Sink.told g.S.Sink.count l.fn.out l.out (numbered object_line 0 l.objects) (numbered object_line l.n (drop l.n l.objects) ++ [])
