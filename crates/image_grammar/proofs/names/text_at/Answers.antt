use Rattle.std.proofs.Common.{◌∙◌}
use Rattle.bc_library.proofs.Pools.{below_first, from_first_own}
use Rattle.image_grammar.proofs.names.text_at.Goals as goal

pub returns-then-n-lt-FIRST_OWN : goal.returns-then-n-lt-FIRST_OWN
returns-then-n-lt-FIRST_OWN c = c.static_text.ensures.text ∙ below_first c.args.pool.now c.args.n c.if-n-lt-FIRST_OWN.true

pub returns-else-n-lt-FIRST_OWN : goal.returns-else-n-lt-FIRST_OWN
returns-else-n-lt-FIRST_OWN c = c.text.ensures ∙ from_first_own c.args.pool.now c.args.n c.if-n-lt-FIRST_OWN.false
