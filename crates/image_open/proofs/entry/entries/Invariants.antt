use Rattle.std.proofs.Common.{◌≡◌, ◌-◌, length}
use Rattle.image_grammar.specs.Opening.{entry, none_opened}
use Rattle.image_grammar.proofs.Times.{Reaches}
use Rattle.image_grammar.specs.Base.{base_of}
use Rattle.image_open.proofs.entry.entries.Given as goal

abbrev pub invariant-loop : goal.invariant-loop
invariant-loop l = Reaches (entry (base_of l.below) l.pool) l.count (none_opened (base_of l.below)) l.bytes (l.count - l.counter) l.opened l.rest × (length l.opened.entries ≡ l.counter)
