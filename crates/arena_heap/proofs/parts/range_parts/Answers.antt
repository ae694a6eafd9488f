use Rattle.std.proofs.Common.{arith}
use Rattle.arena_heap.specs.declared.value.Value.TheVariants as values
use Rattle.qstr_pool.specs.mpy_base.World.{RangeObject, ARange}
use Rattle.arena_heap.proofs.PartSeen.{sound_parts}
use Rattle.arena_heap.proofs.Seen.{seen_within, seen_head, seen_object}
use Rattle.arena_heap.proofs.parts.range_parts.Goals as goal

pub range_head-requires-clause-within : goal.range_head-requires-clause-within
range_head-requires-clause-within c = seen_within c.arena.inside c.arena.view_is ARange c.args.r.cell c.requires

pub range_head-requires-clause-range : goal.range_head-requires-clause-range
range_head-requires-clause-range c = seen_head c.arena.inside c.arena.view_is ARange c.args.r.cell c.requires

pub returns-clause-parts : goal.returns-clause-parts
returns-clause-parts c = seen_object c.arena.inside c.arena.view_is c.args.r.cell c.range_head.ensures

pub returns-clause-start : goal.returns-clause-start
returns-clause-start c = let sound = sound_parts c.arena.inside c.arena.invariant c.arena.view_is c.args.r.cell (RangeObject c.range_head.result.0 c.range_head.result.1 c.range_head.result.2) (returns-clause-parts c) in (sound.0 0 values.None (omega arith)).small

pub returns-clause-stop : goal.returns-clause-stop
returns-clause-stop c = let sound = sound_parts c.arena.inside c.arena.invariant c.arena.view_is c.args.r.cell (RangeObject c.range_head.result.0 c.range_head.result.1 c.range_head.result.2) (returns-clause-parts c) in (sound.0 1 values.None (omega arith)).small

pub returns-clause-step : goal.returns-clause-step
returns-clause-step c = let sound = sound_parts c.arena.inside c.arena.invariant c.arena.view_is c.args.r.cell (RangeObject c.range_head.result.0 c.range_head.result.1 c.range_head.result.2) (returns-clause-parts c) in (sound.0 2 values.None (omega arith)).small

pub returns-clause-nonzero : goal.returns-clause-nonzero
returns-clause-nonzero c = let sound = sound_parts c.arena.inside c.arena.invariant c.arena.view_is c.args.r.cell (RangeObject c.range_head.result.0 c.range_head.result.1 c.range_head.result.2) (returns-clause-parts c) in sound.1
