use Rattle.std.proofs.Common.{◌≡◌, ◌+◌, ◌-◌, length}
use Rattle.image_grammar.specs.Opening.{own_text}
use Rattle.image_grammar.proofs.Times.{Reaches}
use Rattle.image_grammar.proofs.texts.own_texts.Given as goal

abbrev pub invariant-loop : goal.invariant-loop
invariant-loop l = Reaches own_text l.count l.fn.pool l.bytes (l.count - l.counter) l.pool l.rest × (length l.pool.texts ≡ length l.fn.pool.texts + l.counter)
