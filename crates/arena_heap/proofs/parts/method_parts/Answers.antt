use Rattle.std.proofs.Common.{arith}
use Rattle.arena_heap.specs.declared.value.Value.TheVariants as values
use Rattle.qstr_pool.specs.mpy_base.World.{MethodObject, AMethod}
use Rattle.arena_heap.proofs.PartSeen.{sound_parts, seen_method}
use Rattle.arena_heap.proofs.Seen.{seen_within, seen_head}
use Rattle.arena_heap.proofs.parts.method_parts.Goals as goal

pub bound_method-method-requires-clause-within : goal.bound_method-method-requires-clause-within
bound_method-method-requires-clause-within c = seen_within c.arena.inside c.arena.view_is AMethod c.args.m.cell c.requires

pub bound_method-method-requires-clause-method : goal.bound_method-method-requires-clause-method
bound_method-method-requires-clause-method c = seen_head c.arena.inside c.arena.view_is AMethod c.args.m.cell c.requires

pub returns-clause-parts : goal.returns-clause-parts
returns-clause-parts c = seen_method c.arena.inside c.arena.invariant c.arena.view_is c.args.m.cell c.index.result.now c.value-object.result c.bound_method-method.ensures c.index.ensures c.value-object.ensures

pub returns-clause-leads : goal.returns-clause-leads
returns-clause-leads c = let sound = sound_parts c.arena.inside c.arena.invariant c.arena.view_is c.args.m.cell (MethodObject c.value-object.result c.bound_method-method.result) (returns-clause-parts c) in sound.0 0 values.None (omega arith)

pub returns-clause-method : goal.returns-clause-method
returns-clause-method c = let sound = sound_parts c.arena.inside c.arena.invariant c.arena.view_is c.args.m.cell (MethodObject c.value-object.result c.bound_method-method.result) (returns-clause-parts c) in sound.1
