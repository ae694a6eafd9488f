use Rattle.std.proofs.Common.{map, take}
use Rattle.std.specs.List.{AllZip}
use Rattle.mpy_writer.specs.File.{labelled}
use Rattle.mpy_writer.specs.Layouts.{IsLaidOut}
use Rattle.mpy_writer.proofs.code.layouts.Given as goal

-- the layouts so far
abbrev pub invariant-loop-code : goal.invariant-loop-code
invariant-loop-code l =
    AllZip (λ code layout. IsLaidOut (labelled l.tables code) layout) (take l.code-index (map (λ c. c.now) l.codes)) l.all.items
