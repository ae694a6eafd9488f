use Rattle.std.proofs.Common.{ℕ, List, ◌+◌, ◌*◌, length, refl, sym, ◌∙◌, subst}
use Rattle.std.proofs.Math.Path.{ap₂}
use Rattle.qstr_pool.specs.mpy_base.World.{ADict, pairs_at}
use Rattle.arena_heap.specs.Links.{IsLast, bucket_of, buckets_at}
use Rattle.arena_heap.proofs.DictSeen.{seen_dict_room, some_buckets, seen_first, texts_seen}
use Rattle.arena_heap.proofs.Seen.{seen_within, seen_head}
use Rattle.arena_heap.proofs.dicts.dict_last.Goals as goal

pub dict_region-region-requires-clause-within : goal.dict_region-region-requires-clause-within
dict_region-region-requires-clause-within c = seen_within c.arena.inside c.arena.view_is ADict c.args.d.cell c.requires

pub dict_region-region-requires-clause-dict : goal.dict_region-region-requires-clause-dict
dict_region-region-requires-clause-dict c = seen_head c.arena.inside c.arena.view_is ADict c.args.d.cell c.requires

pub bucket_of-bucket-requires-clause-room : goal.bucket_of-bucket-requires-clause-room
bucket_of-bucket-requires-clause-room c = some_buckets c.arena.inside c.arena.invariant c.arena.view_is c.args.d.cell c.dict_region-region.ensures

pub bucket_of-bucket-requires-clause-bytes : goal.bucket_of-bucket-requires-clause-bytes
bucket_of-bucket-requires-clause-bytes c = c.arena.invariant.kept.bytes_apart.inside

pub returns-in-Some : goal.returns-in-Some
returns-in-Some c =
    let a = c.arena.inside in
    let h = c.args.arena.now in
    let n = c.args.d.cell in
    let r = c.dict_region-region.result in
    let bucket = c.bucket_of-bucket.result in
    subst (λ b. IsLast (buckets_at h n) b (length (pairs_at h n)) c.first-last.result)
    (c.bucket_of-bucket.ensures.bucket
    ∙ ap₂ (λ (texts : ℕ → List ℕ) (room : ℕ). bucket_of texts room c.args.key) (sym (texts_seen a c.arena.view_is)) (seen_dict_room a c.arena.view_is n c.dict_region-region.ensures))
    (seen_first a c.arena.invariant c.arena.view_is n c.dict_region-region.ensures c.in-Some.is bucket (r.start + 3 * bucket + 2) c.first-last.result c.index.result.now
    c.bucket_of-bucket.ensures.within refl c.index.ensures c.first-last.ensures)
