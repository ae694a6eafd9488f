use Rattle.qstr_pool.specs.mpy_base.World.{ADict}
use Rattle.arena_heap.proofs.DictSeen.{seen_dict_room}
use Rattle.arena_heap.proofs.Seen.{seen_within, seen_head}
use Rattle.arena_heap.proofs.dicts.dict_room.Goals as goal

pub dict_region-requires-clause-within : goal.dict_region-requires-clause-within
dict_region-requires-clause-within c = seen_within c.arena.inside c.arena.view_is ADict c.args.d.cell c.requires

pub dict_region-requires-clause-dict : goal.dict_region-requires-clause-dict
dict_region-requires-clause-dict c = seen_head c.arena.inside c.arena.view_is ADict c.args.d.cell c.requires

pub returns : goal.returns
returns c = seen_dict_room c.arena.inside c.arena.view_is c.args.d.cell c.dict_region.ensures
