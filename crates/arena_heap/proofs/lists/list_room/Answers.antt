use Rattle.qstr_pool.specs.mpy_base.World.{AList}
use Rattle.arena_heap.proofs.ListSeen.{seen_room}
use Rattle.arena_heap.proofs.Seen.{seen_within, seen_head}
use Rattle.arena_heap.proofs.lists.list_room.Goals as goal

pub list_region-requires-clause-within : goal.list_region-requires-clause-within
list_region-requires-clause-within c = seen_within c.arena.inside c.arena.view_is AList c.args.l.cell c.requires

pub list_region-requires-clause-list : goal.list_region-requires-clause-list
list_region-requires-clause-list c = seen_head c.arena.inside c.arena.view_is AList c.args.l.cell c.requires

pub returns : goal.returns
returns c = seen_room c.arena.inside c.arena.view_is c.args.l.cell c.list_region.ensures
