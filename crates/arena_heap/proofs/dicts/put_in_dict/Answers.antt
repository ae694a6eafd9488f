use Rattle.std.specs.Vec.{vec_capacity}
use Rattle.arena_heap.specs.declared.cells.Cell.TheVariants.{DictHead}
use Rattle.std.proofs.Common.{ℕ, ◌+◌, List, Option, set, length, sym, ap, subst, arith}
use Rattle.arena_heap.specs.declared.value.Value.{Value}
use Rattle.arena_heap.specs.declared.cells.Cell.{Cell}
use Rattle.arena_heap.specs.Cells.{IsArena}
use Rattle.arena_heap.proofs.KeyTexts.{bytes_same}
use Rattle.arena_heap.proofs.Frame.{length-objects}
use Rattle.qstr_pool.specs.mpy_base.World.{Heap, ADict}
use Rattle.arena_heap.proofs.DictCells.{pushed_plain, pushed_heads}
use Rattle.arena_heap.proofs.DictSeen.{seen_dict_room, seen_dict_len, dict_lies, pushed_seen, text_end_fits}
use Rattle.arena_heap.proofs.Seen.{seen_within, seen_head, holds_now}
use Rattle.arena_heap.proofs.dicts.put_in_dict.Goals as goal

pub dict_region-region-requires-clause-within : goal.dict_region-region-requires-clause-within
dict_region-region-requires-clause-within c = seen_within c.arena.inside c.arena.view_is ADict c.args.d.cell c.requires.dict

pub dict_region-region-requires-clause-dict : goal.dict_region-region-requires-clause-dict
dict_region-region-requires-clause-dict c = seen_head c.arena.inside c.arena.view_is ADict c.args.d.cell c.requires.dict

pub index_mut-requires : goal.index_mut-requires
index_mut-requires c =
    let lies = dict_lies c.arena.inside c.arena.invariant c.args.d.cell c.dict_region-region.ensures in
    let len = seen_dict_len c.arena.inside c.arena.view_is c.args.d.cell c.dict_region-region.ensures in
    let room = seen_dict_room c.arena.inside c.arena.view_is c.args.d.cell c.dict_region-region.ensures in
    omega arith

pub index_mut-requires-2 : goal.index_mut-requires-2
index_mut-requires-2 c =
    let lies = dict_lies c.arena.inside c.arena.invariant c.args.d.cell c.dict_region-region.ensures in
    let len = seen_dict_len c.arena.inside c.arena.view_is c.args.d.cell c.dict_region-region.ensures in
    let room = seen_dict_room c.arena.inside c.arena.view_is c.args.d.cell c.dict_region-region.ensures in
    omega arith

pub link-requires-clause-within : goal.link-requires-clause-within
link-requires-clause-within c =
    let len = seen_dict_len c.arena.inside c.arena.view_is c.args.d.cell c.dict_region-region.ensures in
    let room = seen_dict_room c.arena.inside c.arena.view_is c.args.d.cell c.dict_region-region.ensures in
    omega (arith, c.requires.room)

pub link-requires-clause-plain : goal.link-requires-clause-plain
link-requires-clause-plain c =
    let a = c.arena.inside in
    let len = seen_dict_len a c.arena.view_is c.args.d.cell c.dict_region-region.ensures in
    let room = seen_dict_room a c.arena.view_is c.args.d.cell c.dict_region-region.ensures in
    pushed_plain (holds_now a c.arena.invariant) c.args.d.cell c.dict_region-region.result c.args.key c.args.v c.of.result c.of-2.result
    (seen_within a c.arena.view_is ADict c.args.d.cell c.requires.dict) c.dict_region-region.ensures (omega (arith, c.requires.room)) c.of.ensures c.of-2.ensures

pub link-requires-clause-bytes : goal.link-requires-clause-bytes
link-requires-clause-bytes c =
    let a = c.arena.inside in
    let len = seen_dict_len a c.arena.view_is c.args.d.cell c.dict_region-region.ensures in
    let room = seen_dict_room a c.arena.view_is c.args.d.cell c.dict_region-region.ensures in
    bytes_same a.cells.items _ a.bytes.items
    (λ m. ap (λ (f : ℕ → Cell). f m) (pushed_heads (holds_now a c.arena.invariant) c.args.d.cell c.dict_region-region.result c.args.key c.args.v c.of.result c.of-2.result
    (seen_within a c.arena.view_is ADict c.args.d.cell c.requires.dict) c.dict_region-region.ensures (omega (arith, c.requires.room)) c.of.ensures c.of-2.ensures))
    c.arena.invariant.kept.bytes_apart.inside

pub with_key-keys-requires : goal.with_key-keys-requires
with_key-keys-requires c =
    let a = c.arena.inside in
    omega (
      arith,
      text_end_fits c.args.arena.now.objects c.args.key c.requires.key_leads,
      ap (λ (h : Heap Value ℕ). length h.objects) c.arena.view_is,
      length-objects a.cells.items a.bytes.items,
      c.arena.invariant.cells_fit,
      c.arena.invariant.cells_few,
    )

pub invariant_of-arena : goal.invariant_of-arena
invariant_of-arena c =
    let a = c.arena.inside in
    let r = c.dict_region-region.result in
    let cells : List Cell = set c.link.new.cells.items c.args.d.cell (DictHead (record r { len = r.len + 1 })) in
    let capacity : ℕ = vec_capacity c.link.new.cells in
    subst (λ (k : Option ℕ). IsArena k cells a.bytes.items a.room.cells a.room.bytes capacity (vec_capacity a.bytes)) (sym c.with_key-keys.ensures)
    (pushed_seen a c.arena.invariant c.arena.view_is c.args.d.cell c.dict_region-region.ensures c.requires.dict c.args.key c.args.v c.of.result c.of-2.result
    c.link.new.cells.items capacity c.requires.room c.of.ensures c.of-2.ensures c.link.ensures.relinked c.link.ensures.linked c.link.ensures.capacity c.requires.key c.requires.key_leads c.requires.leads).0

pub returns : goal.returns
returns c =
    (pushed_seen c.arena.inside c.arena.invariant c.arena.view_is c.args.d.cell c.dict_region-region.ensures c.requires.dict c.args.key c.args.v c.of.result c.of-2.result
    c.link.new.cells.items _ c.requires.room c.of.ensures c.of-2.ensures c.link.ensures.relinked c.link.ensures.linked c.link.ensures.capacity c.requires.key c.requires.key_leads c.requires.leads).1
