use Rattle.std.proofs.Common.{take, drop}
use Rattle.bc_prelude.proofs.Indexes.{Walked}
use Rattle.bc_prelude.proofs.names.read_names.Given as goal

-- as many indexes are passed
abbrev pub invariant-loop : goal.invariant-loop
invariant-loop l = Walked (drop l.at (take l.end l.code)) l.at l.counter l.behind
