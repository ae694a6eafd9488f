use Rattle.std.proofs.Common.{arith}
use Rattle.arena_heap.specs.declared.value.Value.TheVariants as values
use Rattle.qstr_pool.specs.mpy_base.World.{FunctionObject, AFunction}
use Rattle.arena_heap.proofs.PartSeen.{sound_parts, seen_function}
use Rattle.arena_heap.proofs.Seen.{seen_within, seen_head}
use Rattle.arena_heap.proofs.parts.fun_parts.Goals as goal

pub fun_head-name-requires-clause-within : goal.fun_head-name-requires-clause-within
fun_head-name-requires-clause-within c = seen_within c.arena.inside c.arena.view_is AFunction c.args.f.cell c.requires

pub fun_head-name-requires-clause-function : goal.fun_head-name-requires-clause-function
fun_head-name-requires-clause-function c = seen_head c.arena.inside c.arena.view_is AFunction c.args.f.cell c.requires

pub returns-clause-parts : goal.returns-clause-parts
returns-clause-parts c =
    seen_function c.arena.inside c.arena.invariant c.arena.view_is c.args.f.cell c.index.result.now c.index-2.result.now c.dict-names.result.cell c.value-defaults.result c.fun_head-name.ensures
    c.index.ensures c.index-2.ensures c.dict-names.ensures c.value-defaults.ensures

pub returns-clause-names : goal.returns-clause-names
returns-clause-names c = let sound = sound_parts c.arena.inside c.arena.invariant c.arena.view_is c.args.f.cell (FunctionObject c.fun_head-name.result.0 c.fun_head-name.result.1 c.fun_head-name.result.2 c.dict-names.result.cell c.value-defaults.result) (returns-clause-parts c) in (sound.0 0 values.None (omega arith)).meets

pub returns-clause-leads : goal.returns-clause-leads
returns-clause-leads c = let sound = sound_parts c.arena.inside c.arena.invariant c.arena.view_is c.args.f.cell (FunctionObject c.fun_head-name.result.0 c.fun_head-name.result.1 c.fun_head-name.result.2 c.dict-names.result.cell c.value-defaults.result) (returns-clause-parts c) in sound.0 1 values.None (omega arith)

pub returns-clause-defaults : goal.returns-clause-defaults
returns-clause-defaults c = let sound = sound_parts c.arena.inside c.arena.invariant c.arena.view_is c.args.f.cell (FunctionObject c.fun_head-name.result.0 c.fun_head-name.result.1 c.fun_head-name.result.2 c.dict-names.result.cell c.value-defaults.result) (returns-clause-parts c) in sound.1
