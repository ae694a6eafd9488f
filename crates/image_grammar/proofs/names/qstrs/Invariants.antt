use Rattle.std.proofs.Common.{◌-◌, []}
use Rattle.image_grammar.specs.Opening.{qstr}
use Rattle.image_grammar.proofs.Times.{Reaches}
use Rattle.image_grammar.proofs.names.qstrs.Given as goal

abbrev pub invariant-loop : goal.invariant-loop
invariant-loop l = Reaches (qstr l.pool) l.count (record { qstrs = []; used = l.used }) l.bytes (l.count - l.counter) l.table l.rest
