use Rattle.std.specs.Option.{option_map}
use Rattle.arena_heap.specs.declared.value.DictNo.{DictNo}
use Rattle.qstr_pool.specs.mpy_base.World.{AModule}
use Rattle.arena_heap.proofs.PartSeen.{namespace, seen_module}
use Rattle.arena_heap.proofs.Seen.{seen_within, seen_head}
use Rattle.arena_heap.proofs.parts.module_parts.Goals as goal

pub module_name-name-requires-clause-within : goal.module_name-name-requires-clause-within
module_name-name-requires-clause-within c = seen_within c.arena.inside c.arena.view_is AModule c.args.m.cell c.requires

pub module_name-name-requires-clause-is_module : goal.module_name-name-requires-clause-is_module
module_name-name-requires-clause-is_module c = seen_head c.arena.inside c.arena.view_is AModule c.args.m.cell c.requires

pub returns-clause-parts : goal.returns-clause-parts
returns-clause-parts c =
    let names = option_map (λ (d : DictNo). d.cell) c.names-names.result in
    seen_module c.arena.inside c.arena.invariant c.arena.view_is c.args.m.cell c.index.result.now names c.module_name-name.ensures c.index.ensures c.names-names.ensures

pub returns-clause-names : goal.returns-clause-names
returns-clause-names c = namespace c.arena.inside c.arena.invariant c.arena.view_is c.args.m.cell c.module_name-name.result c.names-names.result (returns-clause-parts c)
