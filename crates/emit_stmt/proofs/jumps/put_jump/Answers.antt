use Rattle.emit_stmt.proofs.StmtForms.{jump_emits, popped_emits, as_iterator}
use Rattle.emit_stmt.proofs.jumps.put_jump.Goals as goal

pub returns-then-not-iterator : goal.returns-then-not-iterator
returns-then-not-iterator c s = as_iterator (jump_emits s c.in_ok-put.ensures) c.if-not-iterator.true

pub returns : goal.returns
returns c s = as_iterator (popped_emits s c.in_ok-put_plain.ensures c.in_ok-put_plain-2.ensures c.in_ok-put_plain-3.ensures c.in_ok-put_plain-4.ensures c.in_ok-put-2.ensures) c.if-not-iterator.false
