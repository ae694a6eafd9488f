use Rattle.std.proofs.Common.{arith}
use Rattle.arena_heap.specs.declared.value.Value.TheVariants as values
use Rattle.qstr_pool.specs.mpy_base.World.{ExceptionObject, AnException}
use Rattle.arena_heap.proofs.PartSeen.{sound_parts, seen_exception}
use Rattle.arena_heap.proofs.Seen.{seen_within, seen_head}
use Rattle.arena_heap.proofs.parts.exc_parts.Goals as goal

pub exc_kind-kind-requires-clause-within : goal.exc_kind-kind-requires-clause-within
exc_kind-kind-requires-clause-within c = seen_within c.arena.inside c.arena.view_is AnException c.args.e.cell c.requires

pub exc_kind-kind-requires-clause-exception : goal.exc_kind-kind-requires-clause-exception
exc_kind-kind-requires-clause-exception c = seen_head c.arena.inside c.arena.view_is AnException c.args.e.cell c.requires

pub returns-clause-parts : goal.returns-clause-parts
returns-clause-parts c =
    seen_exception c.arena.inside c.arena.invariant c.arena.view_is c.args.e.cell c.index.result.now c.index-2.result.now c.value-args.result c.place-file.result.0 c.place-file.result.1 c.place-file.result.2 c.exc_kind-kind.ensures
    c.index.ensures c.index-2.ensures c.value-args.ensures c.place-file.ensures.file c.place-file.ensures.line c.place-file.ensures.name

pub returns-clause-leads : goal.returns-clause-leads
returns-clause-leads c = let sound = sound_parts c.arena.inside c.arena.invariant c.arena.view_is c.args.e.cell (ExceptionObject c.exc_kind-kind.result c.value-args.result c.place-file.result.0 c.place-file.result.1 c.place-file.result.2) (returns-clause-parts c) in sound.0 0 values.None (omega arith)

pub returns-clause-tuple : goal.returns-clause-tuple
returns-clause-tuple c = let sound = sound_parts c.arena.inside c.arena.invariant c.arena.view_is c.args.e.cell (ExceptionObject c.exc_kind-kind.result c.value-args.result c.place-file.result.0 c.place-file.result.1 c.place-file.result.2) (returns-clause-parts c) in sound.1
