use Rattle.std.proofs.Common.{◌+◌, ◌*◌, refl, below_more, subst, arith}
use Rattle.qstr_pool.specs.mpy_base.World.{ADict, pairs_at}
use Rattle.arena_heap.specs.Named.{IsNamed}
use Rattle.arena_heap.proofs.DictSeen.{seen_dict_len}
use Rattle.arena_heap.proofs.NamedKeys.{named_key}
use Rattle.arena_heap.proofs.Seen.{seen_within, seen_head}
use Rattle.arena_heap.proofs.dicts.dict_named.Goals as goal

pub dict_region-region-requires-clause-within : goal.dict_region-region-requires-clause-within
dict_region-region-requires-clause-within c = seen_within c.arena.inside c.arena.view_is ADict c.args.d.cell c.requires

pub dict_region-region-requires-clause-dict : goal.dict_region-region-requires-clause-dict
dict_region-region-requires-clause-dict c = seen_head c.arena.inside c.arena.view_is ADict c.args.d.cell c.requires

pub loop-at-init : goal.loop-at-init
loop-at-init c = λ k lt. absurd (omega arith)

pub returns-then-other-number : goal.returns-then-other-number
returns-then-other-number c =
    let r = c.dict_region-region.result in
    let len = seen_dict_len c.arena.inside c.arena.view_is c.args.d.cell c.dict_region-region.ensures in (
      omega arith,
      subst (IsNamed (pairs_at c.args.arena.now c.args.d.cell) c.loop-at.at) c.if-other-number.true
          (named_key c.arena.inside c.arena.view_is c.args.d.cell c.dict_region-region.ensures c.arena.invariant c.loop-at.at (r.start + 3 * c.loop-at.at) c.loop-at-test.true refl
          c.index.result.now c.in-Pool.other c.index.ensures c.in-Pool.is),
      c.loop-at.invariant,
    )

pub loop-at-preserved : goal.loop-at-preserved
loop-at-preserved c =
    let r = c.dict_region-region.result in
    below_more _ _ c.loop-at.invariant (
      c.in-Pool.other,
      named_key c.arena.inside c.arena.view_is c.args.d.cell c.dict_region-region.ensures c.arena.invariant c.loop-at.at (r.start + 3 * c.loop-at.at) c.loop-at-test.true refl
          c.index.result.now c.in-Pool.other c.index.ensures c.in-Pool.is,
      c.if-other-number.false,
    )

pub returns : goal.returns
returns c =
    let len = seen_dict_len c.arena.inside c.arena.view_is c.args.d.cell c.dict_region-region.ensures in
    λ k lt. c.loop-at.invariant k (omega arith)
