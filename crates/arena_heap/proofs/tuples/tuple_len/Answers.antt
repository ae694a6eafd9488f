use Rattle.qstr_pool.specs.mpy_base.World.{ATuple}
use Rattle.arena_heap.proofs.TupleSeen.{tuple_length}
use Rattle.arena_heap.proofs.Seen.{seen_within, seen_head}
use Rattle.arena_heap.proofs.tuples.tuple_len.Goals as goal

pub tuple_count-requires-clause-within : goal.tuple_count-requires-clause-within
tuple_count-requires-clause-within c = seen_within c.arena.inside c.arena.view_is ATuple c.args.t.cell c.requires

pub tuple_count-requires-clause-tuple : goal.tuple_count-requires-clause-tuple
tuple_count-requires-clause-tuple c = seen_head c.arena.inside c.arena.view_is ATuple c.args.t.cell c.requires

pub returns : goal.returns
returns c = tuple_length c.arena.inside c.arena.invariant c.arena.view_is c.args.t.cell c.tuple_count.ensures
