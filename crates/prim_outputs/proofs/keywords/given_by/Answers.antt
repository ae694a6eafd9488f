use Rattle.std.proofs.Common.{arith}
use Rattle.prim_builtins.specs.arena_heap.declared.value.Value.TheVariants as values
use Rattle.prim_outputs.proofs.keywords.given_by.Goals as goal

-- a pair of the list is known
pub one_more-requires-clause-name : goal.one_more-requires-clause-name
one_more-requires-clause-name g c = let known = c.requires.known c.loop-pair.pair-index (values.None, values.None) (omega (arith, c.loop-pair-test.true)) in known.0

pub one_more-requires-clause-value : goal.one_more-requires-clause-value
one_more-requires-clause-value g c = let known = c.requires.known c.loop-pair.pair-index (values.None, values.None) (omega (arith, c.loop-pair-test.true)) in known.1
