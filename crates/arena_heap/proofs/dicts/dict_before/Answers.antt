use Rattle.std.proofs.Common.{◌+◌, ◌*◌, refl, arith}
use Rattle.qstr_pool.specs.mpy_base.World.{ADict}
use Rattle.arena_heap.proofs.DictSeen.{seen_dict_len, dict_lies, seen_next}
use Rattle.arena_heap.proofs.Seen.{seen_within, seen_head}
use Rattle.arena_heap.proofs.dicts.dict_before.Goals as goal

pub dict_region-region-requires-clause-within : goal.dict_region-region-requires-clause-within
dict_region-region-requires-clause-within c = seen_within c.arena.inside c.arena.view_is ADict c.args.d.cell c.requires.dict

pub dict_region-region-requires-clause-dict : goal.dict_region-region-requires-clause-dict
dict_region-region-requires-clause-dict c = seen_head c.arena.inside c.arena.view_is ADict c.args.d.cell c.requires.dict

pub overflow_mul-at : goal.overflow_mul-at
overflow_mul-at c =
    let lies = dict_lies c.arena.inside c.arena.invariant c.args.d.cell c.dict_region-region.ensures in
    let len = seen_dict_len c.arena.inside c.arena.view_is c.args.d.cell c.dict_region-region.ensures in
    omega (arith, c.requires.within)

pub overflow_add-region : goal.overflow_add-region
overflow_add-region c =
    let lies = dict_lies c.arena.inside c.arena.invariant c.args.d.cell c.dict_region-region.ensures in
    let len = seen_dict_len c.arena.inside c.arena.view_is c.args.d.cell c.dict_region-region.ensures in
    omega (arith, c.requires.within)

pub overflow_add-region-2 : goal.overflow_add-region-2
overflow_add-region-2 c =
    let lies = dict_lies c.arena.inside c.arena.invariant c.args.d.cell c.dict_region-region.ensures in
    let len = seen_dict_len c.arena.inside c.arena.view_is c.args.d.cell c.dict_region-region.ensures in
    omega (arith, c.requires.within)

pub index-requires : goal.index-requires
index-requires c =
    let lies = dict_lies c.arena.inside c.arena.invariant c.args.d.cell c.dict_region-region.ensures in
    let len = seen_dict_len c.arena.inside c.arena.view_is c.args.d.cell c.dict_region-region.ensures in
    omega (arith, c.requires.within)

pub returns-in-Some : goal.returns-in-Some
returns-in-Some c =
    let r = c.dict_region-region.result in
    let len = seen_dict_len c.arena.inside c.arena.view_is c.args.d.cell c.dict_region-region.ensures in
    seen_next c.arena.inside c.arena.invariant c.arena.view_is c.args.d.cell c.dict_region-region.ensures c.in-Some.is c.args.at (r.start + 3 * c.args.at + 2) c.next-front.result c.index.result.now
    (omega (arith, c.requires.within)) refl c.index.ensures c.next-front.ensures
