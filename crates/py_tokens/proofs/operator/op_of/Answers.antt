use Rattle.py_tokens.proofs.Operators.{reads, slot_has, slot_lacks}
use Rattle.py_tokens.proofs.operator.op_of.Goals as goal

pub returns-then-eq : goal.returns-then-eq
returns-then-eq c = slot_has c.args.text.now _ _ _ (reads c.args.text.now _ _ c.from-first.ensures c.from-last.ensures) c.spelling.ensures c.eq.ensures c.if-eq.true

pub returns-else-eq : goal.returns-else-eq
returns-else-eq c op = (λ e. absurd cc, λ is. absurd (slot_lacks c.args.text.now _ _ _ (reads c.args.text.now _ _ c.from-first.ensures c.from-last.ensures) c.spelling.ensures c.eq.ensures c.if-eq.false op is))
