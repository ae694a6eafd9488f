use Rattle.std.proofs.Common.{ℕ, ◌+◌, ◌*◌, ◌%◌, length, refl, ap, ◌∙◌, subst}
use Rattle.qstr_pool.specs.mpy_base.World.{ADict, pairs_at}
use Rattle.arena_heap.specs.Links.{IsLast, text_code, buckets_at}
use Rattle.arena_heap.proofs.DictSeen.{seen_dict_room, some_buckets, seen_first}
use Rattle.arena_heap.proofs.Seen.{seen_within, seen_head}
use Rattle.arena_heap.proofs.dicts.dict_last_text.Goals as goal

pub dict_region-region-requires-clause-within : goal.dict_region-region-requires-clause-within
dict_region-region-requires-clause-within c = seen_within c.arena.inside c.arena.view_is ADict c.args.d.cell c.requires

pub dict_region-region-requires-clause-dict : goal.dict_region-region-requires-clause-dict
dict_region-region-requires-clause-dict c = seen_head c.arena.inside c.arena.view_is ADict c.args.d.cell c.requires

pub text_bucket-bucket-requires : goal.text_bucket-bucket-requires
text_bucket-bucket-requires c = some_buckets c.arena.inside c.arena.invariant c.arena.view_is c.args.d.cell c.dict_region-region.ensures

pub returns-in-Some : goal.returns-in-Some
returns-in-Some c =
    let a = c.arena.inside in
    let h = c.args.arena.now in
    let n = c.args.d.cell in
    let r = c.dict_region-region.result in
    let bucket = c.text_bucket-bucket.result in
    subst (λ b. IsLast (buckets_at h n) b (length (pairs_at h n)) c.first-last.result)
    (c.text_bucket-bucket.ensures.bucket ∙ ap (λ (room : ℕ). text_code c.args.bytes.now % room) (seen_dict_room a c.arena.view_is n c.dict_region-region.ensures))
    (seen_first a c.arena.invariant c.arena.view_is n c.dict_region-region.ensures c.in-Some.is bucket (r.start + 3 * bucket + 2) c.first-last.result c.index.result.now
    c.text_bucket-bucket.ensures.within refl c.index.ensures c.first-last.ensures)
