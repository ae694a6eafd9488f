use Rattle.std.specs.Prelude.{All}
use Rattle.vm_starting.specs.Kept.{is_empty}
use Rattle.vm_starting.proofs.codes.Codes.new.Given as goal

abbrev pub invariant-loop-code : goal.invariant-loop-code
invariant-loop-code l = All is_empty l.codes.items
