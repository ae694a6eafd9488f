use Rattle.std.proofs.Common.{◌+◌, ◌*◌, ◌≡◌, Some, sym, ◌∙◌, ap, subst, get_or, refl, arith}
use Rattle.std.proofs.lemmas.Option.{slice_get-get_or, slice_get_past}
use Rattle.arena_heap.specs.declared.value.Value.{Value}
use Rattle.qstr_pool.specs.mpy_base.World.{ADict, pairs_at}
use Rattle.arena_heap.proofs.DictSeen.{IsPair, seen_dict_len, seen_pair, dict_pairs}
use Rattle.arena_heap.proofs.Seen.{seen_within, seen_head}
use Rattle.arena_heap.proofs.dicts.dict_at.Goals as goal

pub dict_region-region-requires-clause-within : goal.dict_region-region-requires-clause-within
dict_region-region-requires-clause-within c = seen_within c.arena.inside c.arena.view_is ADict c.args.d.cell c.requires

pub dict_region-region-requires-clause-dict : goal.dict_region-region-requires-clause-dict
dict_region-region-requires-clause-dict c = seen_head c.arena.inside c.arena.view_is ADict c.args.d.cell c.requires

pair : (c : goal.After-value-v) (d : Value × Value) → (c.value-key.result, c.value-v.result) ≡ get_or (pairs_at c.args.arena.now c.args.d.cell) c.args.at d
pair c d =
    let r = c.dict_region-region.result in
    seen_pair c.arena.inside c.arena.view_is c.args.d.cell c.dict_region-region.ensures c.arena.invariant c.args.at (r.start + 3 * c.args.at) (r.start + 3 * c.args.at + 1) c.if-at-region.true refl (omega arith)
    c.index.result.now c.index-then-at-region.result.now _ _ c.index.ensures c.value-key.ensures c.index-then-at-region.ensures c.value-v.ensures d

is_pair : (c : goal.After-value-v) → IsPair c.args.arena.now.objects (c.value-key.result, c.value-v.result)
is_pair c =
    let d : Value × Value = (c.value-key.result, c.value-v.result) in
    let len = seen_dict_len c.arena.inside c.arena.view_is c.args.d.cell c.dict_region-region.ensures in
    subst (IsPair c.args.arena.now.objects) (sym (pair c d)) (dict_pairs c.arena.inside c.arena.invariant c.arena.view_is c.args.d.cell c.requires c.args.at d (omega arith))

pub returns-then-at-region-clause-pair : goal.returns-then-at-region-clause-pair
returns-then-at-region-clause-pair c =
    let d : Value × Value = (c.value-key.result, c.value-v.result) in
    let len = seen_dict_len c.arena.inside c.arena.view_is c.args.d.cell c.dict_region-region.ensures in
    ap (λ (p : Value × Value). Some p) (pair c d) ∙ sym (slice_get-get_or (pairs_at c.args.arena.now c.args.d.cell) c.args.at d (omega arith))

pub returns-then-at-region-clause-key : goal.returns-then-at-region-clause-key
returns-then-at-region-clause-key c = (is_pair c).key

pub returns-then-at-region-clause-key_leads : goal.returns-then-at-region-clause-key_leads
returns-then-at-region-clause-key_leads c = (is_pair c).key_leads

pub returns-then-at-region-clause-leads : goal.returns-then-at-region-clause-leads
returns-then-at-region-clause-leads c = (is_pair c).leads

pub returns-else-at-region-clause-pair : goal.returns-else-at-region-clause-pair
returns-else-at-region-clause-pair c =
    let len = seen_dict_len c.arena.inside c.arena.view_is c.args.d.cell c.dict_region-region.ensures in
    sym (slice_get_past (pairs_at c.args.arena.now c.args.d.cell) c.args.at (omega arith))
