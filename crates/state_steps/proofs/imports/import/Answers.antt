use Rattle.std.proofs.Common.{◌≡◌, Result, subst, ◌∙◌}
use Rattle.state_calls.specs.bc_rows.declared.row.Row.{Row}
use Rattle.state_calls.specs.prim_faults.declared.stop.Stop.{Stop}
use Rattle.state_values.specs.vm_states.Means.{Program}
use Rattle.state_exits.specs.Importing.{fetched_import, ImportsBehind}
use Rattle.state_steps.proofs.Rooms.{rooms_through}
use Rattle.state_steps.proofs.Imported.{imported, import_stopped, import_known, import_comes}
use Rattle.state_steps.proofs.imports.import.Goals as goal

pub import_on-requires-clause-runs : goal.import_on-requires-clause-runs
import_on-requires-clause-runs g c = (c.args.row.now, c.requires.runs)

pub import_on-requires-clause-rows : goal.import_on-requires-clause-rows
import_on-requires-clause-rows g c = c.requires.rows

pub import_on-requires-clause-key : goal.import_on-requires-clause-key
import_on-requires-clause-key g c = c.requires.key

pub import_on-requires-clause-short : goal.import_on-requires-clause-short
import_on-requires-clause-short g c = c.requires.short

pub stop_on-requires-clause-runs : goal.stop_on-requires-clause-runs
stop_on-requires-clause-runs g c = (fetched_import c.args.name c.args.end, import_stopped (g.C.Constants.text_of c.args.consts.now) (g.C.Constants.items_of c.args.consts.now) c.args.names.now c.args.rows.now c.args.row.now c.args.name c.args.end c.args.arena.now c.import_on.new.arena c.args.modules.now c.import_on.new.modules c.args.frames.now c.import_on.new.frames c.in-Err.stop (subst (λ (r : Result (Unit {0}) Stop). (p : Program) (w : Row) → p.shelf ≡ c.args.rows.now → ImportsBehind p (g.C.Constants.text_of c.args.consts.now) (g.C.Constants.items_of c.args.consts.now) c.args.names.now w c.args.name c.args.end c.args.arena.now c.import_on.new.arena c.args.modules.now c.import_on.new.modules c.args.frames.now c.import_on.new.frames r) c.in-Err.is c.import_on.ensures.comes) c.requires.runs)

pub stop_on-requires-clause-stop : goal.stop_on-requires-clause-stop
stop_on-requires-clause-stop g c = import_known (g.C.Constants.text_of c.args.consts.now) (g.C.Constants.items_of c.args.consts.now) c.args.names.now c.args.rows.now c.args.row.now c.args.name c.args.end c.args.arena.now c.import_on.new.arena c.args.modules.now c.import_on.new.modules c.args.frames.now c.import_on.new.frames c.in-Err.stop (subst (λ (r : Result (Unit {0}) Stop). (p : Program) (w : Row) → p.shelf ≡ c.args.rows.now → ImportsBehind p (g.C.Constants.text_of c.args.consts.now) (g.C.Constants.items_of c.args.consts.now) c.args.names.now w c.args.name c.args.end c.args.arena.now c.import_on.new.arena c.args.modules.now c.import_on.new.modules c.args.frames.now c.import_on.new.frames r) c.in-Err.is c.import_on.ensures.comes) c.requires.runs

pub returns-in-Ok-clause-comes : goal.returns-in-Ok-clause-comes
returns-in-Ok-clause-comes g c = imported (g.C.Constants.text_of c.args.consts.now) (g.C.Constants.items_of c.args.consts.now) c.args.names.now c.args.rows.now c.args.row.now c.args.name c.args.end c.args.arena.now c.import_on.new.arena c.args.modules.now c.import_on.new.modules c.args.frames.now c.import_on.new.frames (subst (λ (r : Result (Unit {0}) Stop). (p : Program) (w : Row) → p.shelf ≡ c.args.rows.now → ImportsBehind p (g.C.Constants.text_of c.args.consts.now) (g.C.Constants.items_of c.args.consts.now) c.args.names.now w c.args.name c.args.end c.args.arena.now c.import_on.new.arena c.args.modules.now c.import_on.new.modules c.args.frames.now c.import_on.new.frames r) c.in-Ok.is c.import_on.ensures.comes)

pub returns-in-Err-clause-comes : goal.returns-in-Err-clause-comes
returns-in-Err-clause-comes g c = import_comes (g.C.Constants.text_of c.args.consts.now) (g.C.Constants.items_of c.args.consts.now) c.args.names.now c.args.rows.now c.args.row.now c.args.name c.args.end c.args.arena.now c.import_on.new.arena c.args.modules.now c.import_on.new.modules c.args.frames.now c.import_on.new.frames c.in-Err.stop (subst (λ (r : Result (Unit {0}) Stop). (p : Program) (w : Row) → p.shelf ≡ c.args.rows.now → ImportsBehind p (g.C.Constants.text_of c.args.consts.now) (g.C.Constants.items_of c.args.consts.now) c.args.names.now w c.args.name c.args.end c.args.arena.now c.import_on.new.arena c.args.modules.now c.import_on.new.modules c.args.frames.now c.import_on.new.frames r) c.in-Err.is c.import_on.ensures.comes) c.stop_on.new.arena c.stop_on.new.modules c.stop_on.new.frames c.stop_on.result c.stop_on.ensures.comes

pub returns-in-Ok-clause-rooms : goal.returns-in-Ok-clause-rooms
returns-in-Ok-clause-rooms g c = c.import_on.ensures.rooms

pub returns-in-Ok-clause-registry : goal.returns-in-Ok-clause-registry
returns-in-Ok-clause-registry g c = c.import_on.ensures.registry

pub returns-in-Err-clause-rooms : goal.returns-in-Err-clause-rooms
returns-in-Err-clause-rooms g c = rooms_through c.args.frames.now c.import_on.new.frames c.stop_on.new.frames c.import_on.ensures.rooms c.stop_on.ensures.rooms

pub returns-in-Err-clause-registry : goal.returns-in-Err-clause-registry
returns-in-Err-clause-registry g c = c.stop_on.ensures.registry ∙ c.import_on.ensures.registry
