use Rattle.std.proofs.Common.{ℕ, ◌+◌, ◌*◌, List, Some, sym, subst, set, refl, le_refl, arith}
use Rattle.std.proofs.Math.Path.{ap₂}
use Rattle.arena_heap.specs.declared.value.Value.{Value}
use Rattle.arena_heap.specs.declared.cells.Cell.{Cell}
use Rattle.qstr_pool.specs.mpy_base.World.{Heap, ADict, DictObject, Later, pairs_at, room_at}
use Rattle.qstr_pool.proofs.mpy_base_lemmas.Worlds.{later_dict}
use Rattle.arena_heap.specs.Dicts.{with_value}
use Rattle.arena_heap.specs.Cells.{Holds}
use Rattle.arena_heap.proofs.DictCells.{region_pairs, dict_stored}
use Rattle.arena_heap.proofs.DictSeen.{seen_dict_len, dict_pairs, dict_lies, with_value_pairs, dict_holds, dict_again_seen}
use Rattle.arena_heap.proofs.Seen.{objects, seen_within, seen_head, holds_now, replaced_seen}
use Rattle.arena_heap.proofs.dicts.dict_set_at.Goals as goal

pub dict_region-region-requires-clause-within : goal.dict_region-region-requires-clause-within
dict_region-region-requires-clause-within c = seen_within c.arena.inside c.arena.view_is ADict c.args.d.cell c.requires.dict

pub dict_region-region-requires-clause-dict : goal.dict_region-region-requires-clause-dict
dict_region-region-requires-clause-dict c = seen_head c.arena.inside c.arena.view_is ADict c.args.d.cell c.requires.dict

pub overflow_mul-place : goal.overflow_mul-place
overflow_mul-place c =
    let lies = dict_lies c.arena.inside c.arena.invariant c.args.d.cell c.dict_region-region.ensures in
    let len = seen_dict_len c.arena.inside c.arena.view_is c.args.d.cell c.dict_region-region.ensures in
    omega arith

pub overflow_add-place : goal.overflow_add-place
overflow_add-place c =
    let lies = dict_lies c.arena.inside c.arena.invariant c.args.d.cell c.dict_region-region.ensures in
    let len = seen_dict_len c.arena.inside c.arena.view_is c.args.d.cell c.dict_region-region.ensures in
    omega arith

pub index_mut-requires : goal.index_mut-requires
index_mut-requires c =
    let lies = dict_lies c.arena.inside c.arena.invariant c.args.d.cell c.dict_region-region.ensures in
    let len = seen_dict_len c.arena.inside c.arena.view_is c.args.d.cell c.dict_region-region.ensures in
    omega arith

new : (c : goal.After-arena-1) → Holds c.arena.inside.keys (set c.arena.inside.cells.items (c.dict_region-region.result.start + 3 * c.args.at + 1) c.of.result) c.arena.inside.bytes.items
    (set (objects c.arena.inside) c.args.d.cell (Some (DictObject (with_value (pairs_at c.args.arena.now c.args.d.cell) c.args.at c.args.v) (room_at c.args.arena.now c.args.d.cell))))
new c =
    let a = c.arena.inside in
    let n = c.args.d.cell in
    let r = c.dict_region-region.result in
    let len = seen_dict_len a c.arena.view_is n c.dict_region-region.ensures in
    dict_holds a c.arena.view_is n c.dict_region-region.ensures (λ (ps : List (Value × Value)). with_value ps c.args.at c.args.v) _
    (subst (λ (x : List Cell). Holds c.arena.inside.keys x a.bytes.items (set (objects a) n (Some (DictObject (with_value (region_pairs a.cells.items r) c.args.at c.args.v) r.room))))
    (ap₂ (λ (j : ℕ) (x : Cell). set a.cells.items j x) (omega arith) (sym c.of.ensures))
    (dict_stored (holds_now a c.arena.invariant) n c.args.at r c.args.v (seen_within a c.arena.view_is ADict n c.requires.dict) c.dict_region-region.ensures (omega arith)))

pub invariant_of-arena : goal.invariant_of-arena
invariant_of-arena c =
    let a = c.arena.inside in
    let n = c.args.d.cell in
    let h = c.args.arena.now in
    dict_again_seen a c.arena.invariant c.arena.view_is n c.requires.dict (with_value (pairs_at h n) c.args.at c.args.v) _ _ (new c) (le_refl _)
    (with_value_pairs h.objects (pairs_at h n) c.args.at c.args.v c.requires.within c.requires.leads (dict_pairs a c.arena.invariant c.arena.view_is n c.requires.dict))

pub returns-clause-set : goal.returns-clause-set
returns-clause-set c = replaced_seen c.arena.inside c.arena.view_is c.args.d.cell _ _ c.arena.inside.bytes.items (new c) refl

pub returns-clause-later : goal.returns-clause-later
returns-clause-later c =
    subst (λ (h : Heap Value ℕ). Later c.args.arena.now.objects h.objects) (sym (returns-clause-set c))
    (later_dict c.args.arena.now c.args.d.cell (with_value (pairs_at c.args.arena.now c.args.d.cell) c.args.at c.args.v) c.requires.dict)
