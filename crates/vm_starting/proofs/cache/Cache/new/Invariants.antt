use Rattle.std.specs.Prelude.{All}
use Rattle.vm_starting.specs.Kept.{is_empty}
use Rattle.vm_starting.proofs.cache.Cache.new.Given as goal

abbrev pub invariant-loop-number : goal.invariant-loop-number
invariant-loop-number l = All (All is_empty) l.modules.items
