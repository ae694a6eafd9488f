use Rattle.std.proofs.Common.{ℕ, ◌+◌, ◌*◌, ◌≡◌, Some, sym, ◌∙◌, ap, subst, get_or, refl, le_refl, arith}
use Rattle.std.proofs.lemmas.Option.{slice_get-get_or}
use Rattle.std.specs.List.{remove}
use Rattle.std.specs.Vec.{vec_capacity}
use Rattle.arena_heap.specs.declared.value.Value.{Value}
use Rattle.qstr_pool.specs.mpy_base.World.{Heap, ADict, Later, pairs_at}
use Rattle.qstr_pool.proofs.mpy_base_lemmas.Worlds.{later_dict}
use Rattle.arena_heap.specs.Values.{Leads}
use Rattle.arena_heap.proofs.DictCells.{removed_plain, removed_heads}
use Rattle.arena_heap.proofs.KeyTexts.{bytes_same}
use Rattle.arena_heap.proofs.DictSeen.{seen_dict_len, seen_pair, dict_pairs, dict_lies, removed_seen}
use Rattle.arena_heap.proofs.Seen.{seen_within, seen_head, holds_now}
use Rattle.arena_heap.proofs.dicts.dict_remove_at.Goals as goal

pub dict_region-region-requires-clause-within : goal.dict_region-region-requires-clause-within
dict_region-region-requires-clause-within c = seen_within c.arena.inside c.arena.view_is ADict c.args.d.cell c.requires.dict

pub dict_region-region-requires-clause-dict : goal.dict_region-region-requires-clause-dict
dict_region-region-requires-clause-dict c = seen_head c.arena.inside c.arena.view_is ADict c.args.d.cell c.requires.dict

pub overflow_mul-place : goal.overflow_mul-place
overflow_mul-place c =
    let lies = dict_lies c.arena.inside c.arena.invariant c.args.d.cell c.dict_region-region.ensures in
    let len = seen_dict_len c.arena.inside c.arena.view_is c.args.d.cell c.dict_region-region.ensures in
    omega arith

pub overflow_add-place : goal.overflow_add-place
overflow_add-place c =
    let lies = dict_lies c.arena.inside c.arena.invariant c.args.d.cell c.dict_region-region.ensures in
    let len = seen_dict_len c.arena.inside c.arena.view_is c.args.d.cell c.dict_region-region.ensures in
    omega arith

pub index-requires : goal.index-requires
index-requires c =
    let lies = dict_lies c.arena.inside c.arena.invariant c.args.d.cell c.dict_region-region.ensures in
    let len = seen_dict_len c.arena.inside c.arena.view_is c.args.d.cell c.dict_region-region.ensures in
    omega arith

pub index-requires-2 : goal.index-requires-2
index-requires-2 c =
    let lies = dict_lies c.arena.inside c.arena.invariant c.args.d.cell c.dict_region-region.ensures in
    let len = seen_dict_len c.arena.inside c.arena.view_is c.args.d.cell c.dict_region-region.ensures in
    omega arith

pub copy_within-requires-clause-start_le_end : goal.copy_within-requires-clause-start_le_end
copy_within-requires-clause-start_le_end c =
    let lies = dict_lies c.arena.inside c.arena.invariant c.args.d.cell c.dict_region-region.ensures in
    let len = seen_dict_len c.arena.inside c.arena.view_is c.args.d.cell c.dict_region-region.ensures in
    omega arith

pub copy_within-requires-clause-dest_in_bounds : goal.copy_within-requires-clause-dest_in_bounds
copy_within-requires-clause-dest_in_bounds c =
    let lies = dict_lies c.arena.inside c.arena.invariant c.args.d.cell c.dict_region-region.ensures in
    let len = seen_dict_len c.arena.inside c.arena.view_is c.args.d.cell c.dict_region-region.ensures in
    omega arith

pub overflow_sub-shorter : goal.overflow_sub-shorter
overflow_sub-shorter c =
    let lies = dict_lies c.arena.inside c.arena.invariant c.args.d.cell c.dict_region-region.ensures in
    let len = seen_dict_len c.arena.inside c.arena.view_is c.args.d.cell c.dict_region-region.ensures in
    omega arith

pair : (c : goal.After-arena-1) (d : Value × Value) → (c.value-key.result, c.value-v.result) ≡ get_or (pairs_at c.args.arena.now c.args.d.cell) c.args.at d
pair c d =
    let r = c.dict_region-region.result in
    let len = seen_dict_len c.arena.inside c.arena.view_is c.args.d.cell c.dict_region-region.ensures in
    seen_pair c.arena.inside c.arena.view_is c.args.d.cell c.dict_region-region.ensures c.arena.invariant c.args.at (r.start + 3 * c.args.at) (r.start + 3 * c.args.at + 1) (omega arith) refl (omega arith)
    c.index.result.now c.index-2.result.now _ _ c.index.ensures c.value-key.ensures c.index-2.ensures c.value-v.ensures d

pub link_all-requires-clause-plain : goal.link_all-requires-clause-plain
link_all-requires-clause-plain c =
    let a = c.arena.inside in
    let n = c.args.d.cell in
    let r = c.dict_region-region.result in
    let b = c.copy_within.ensures.by_index in
    let lies = dict_lies a c.arena.invariant n c.dict_region-region.ensures in
    let len = seen_dict_len a c.arena.view_is n c.dict_region-region.ensures in
    removed_plain (holds_now a c.arena.invariant) n c.args.at r c.copy_within.new.self.items
    (seen_within a c.arena.view_is ADict n c.requires.dict) c.dict_region-region.ensures (omega arith) (omega arith)
    (λ k d lo hi. b.0 k d lo (omega arith) ∙ ap (λ j. get_or a.cells.items j d) (omega arith))
    (λ k d hi. b.1 k d hi)
    (λ k d lo. b.2 k d (omega arith))

pub link_all-requires-clause-bytes : goal.link_all-requires-clause-bytes
link_all-requires-clause-bytes c =
    let a = c.arena.inside in
    let n = c.args.d.cell in
    let r = c.dict_region-region.result in
    let b = c.copy_within.ensures.by_index in
    let lies = dict_lies a c.arena.invariant n c.dict_region-region.ensures in
    let len = seen_dict_len a c.arena.view_is n c.dict_region-region.ensures in
    bytes_same a.cells.items c.copy_within.new.self.items a.bytes.items
    (removed_heads (holds_now a c.arena.invariant) n c.args.at r c.copy_within.new.self.items
    (seen_within a c.arena.view_is ADict n c.requires.dict) c.dict_region-region.ensures (omega arith) (omega arith)
    (λ k d lo hi. b.0 k d lo (omega arith) ∙ ap (λ j. get_or a.cells.items j d) (omega arith))
    (λ k d hi. b.1 k d hi)
    (λ k d lo. b.2 k d (omega arith)))
    c.arena.invariant.kept.bytes_apart.inside

pub invariant_of-arena : goal.invariant_of-arena
invariant_of-arena c =
    let a = c.arena.inside in
    let n = c.args.d.cell in
    let r = c.dict_region-region.result in
    let b = c.copy_within.ensures.by_index in
    let lies = dict_lies a c.arena.invariant n c.dict_region-region.ensures in
    let len = seen_dict_len a c.arena.view_is n c.dict_region-region.ensures in
    (removed_seen a c.arena.invariant c.arena.view_is n c.dict_region-region.ensures c.requires.dict c.args.at c.copy_within.new.self.items c.link_all.new.cells.items _ c.requires.within (omega arith)
    (λ k d lo hi. b.0 k d lo (omega arith) ∙ ap (λ j. get_or a.cells.items j d) (omega arith))
    (λ k d hi. b.1 k d hi)
    (λ k d lo. b.2 k d (omega arith))
    c.link_all.ensures.relinked c.link_all.ensures.linked (omega (arith, c.copy_within.ensures.capacity, c.link_all.ensures.capacity))).0

pub returns-clause-pair : goal.returns-clause-pair
returns-clause-pair c =
    let d : Value × Value = (c.value-key.result, c.value-v.result) in
    slice_get-get_or (pairs_at c.args.arena.now c.args.d.cell) c.args.at d c.requires.within ∙ ap (λ (p : Value × Value). Some p) (sym (pair c d))

pub returns-clause-removed : goal.returns-clause-removed
returns-clause-removed c =
    let a = c.arena.inside in
    let n = c.args.d.cell in
    let r = c.dict_region-region.result in
    let b = c.copy_within.ensures.by_index in
    let lies = dict_lies a c.arena.invariant n c.dict_region-region.ensures in
    let len = seen_dict_len a c.arena.view_is n c.dict_region-region.ensures in
    (removed_seen a c.arena.invariant c.arena.view_is n c.dict_region-region.ensures c.requires.dict c.args.at c.copy_within.new.self.items c.link_all.new.cells.items (vec_capacity a.cells) c.requires.within (omega arith)
    (λ k d lo hi. b.0 k d lo (omega arith) ∙ ap (λ j. get_or a.cells.items j d) (omega arith))
    (λ k d hi. b.1 k d hi)
    (λ k d lo. b.2 k d (omega arith))
    c.link_all.ensures.relinked c.link_all.ensures.linked (le_refl _)).1

pub returns-clause-leads : goal.returns-clause-leads
returns-clause-leads c =
    let d : Value × Value = (c.value-key.result, c.value-v.result) in
    subst (λ (p : Value × Value). Leads c.args.arena.now.objects p.1) (sym (pair c d)) (dict_pairs c.arena.inside c.arena.invariant c.arena.view_is c.args.d.cell c.requires.dict c.args.at d c.requires.within).leads

pub returns-clause-later : goal.returns-clause-later
returns-clause-later c =
    subst (λ (h : Heap Value ℕ). Later c.args.arena.now.objects h.objects) (sym (returns-clause-removed c))
    (later_dict c.args.arena.now c.args.d.cell (remove (pairs_at c.args.arena.now c.args.d.cell) c.args.at) c.requires.dict)
