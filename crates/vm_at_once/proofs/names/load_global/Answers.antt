use Rattle.std.proofs.Common.{ℕ, List, Option, ap}
use Rattle.state_values.specs.bc_progress.bc_ops.declared.instr.Op.TheVariants as ops
use Rattle.state_values.specs.prim_assignments.arena_heap.declared.value.StrNo.{StrNo}
use Rattle.state_values.specs.prim_assignments.arena_objects.Iterables.{or_nothing}
use Rattle.state_values.specs.bc_progress.bc_machine.Library.{Names}
use Rattle.state_values.specs.vm_fetching.Instructions as fetched
use Rattle.state_values.specs.vm_fetching.declared.operations.NameOp.TheVariants as name_ops
use Rattle.vm_at_once.proofs.Ending as ending
use Rattle.vm_at_once.proofs.Finding as finding
use Rattle.vm_at_once.proofs.Done.{at_once}
use Rattle.vm_at_once.proofs.names.load_global.Goals as goal

pub load_name-requires-clause-room : goal.load_name-requires-clause-room
load_name-requires-clause-room g c = finding.has_room c.requires.runs

pub load_name-requires-clause-names : goal.load_name-requires-clause-names
load_name-requires-clause-names g c = finding.has_names c.requires.runs

pub load_name-requires-clause-name : goal.load_name-requires-clause-name
load_name-requires-clause-name g c = finding.text_told c.requires.runs c.args.name c.requires.runs.ready.text

pub load_name-requires-clause-all_told : goal.load_name-requires-clause-all_told
load_name-requires-clause-all_told g c = finding.all_told c.requires.runs

pub returns : goal.returns
returns g c =
    at_once (g.C.Constants.text_of c.args.consts.now) (g.C.Constants.items_of c.args.consts.now) (record { instruction = fetched.name name_ops.LoadGlobal c.args.name; end = c.args.end }) c.args.arena.now c.args.frames.now c.load_name.new.frames c.load_name.result c.done.result c.done.ensures
    (ending.puts c.acting_law.ensures.acts (record { instruction = fetched.name name_ops.LoadGlobal c.args.name; end = c.args.end }) (λ p s row r. r.begins tt) 0 (Names ops.LoadGlobal (or_nothing (g.C.Constants.text_of c.args.consts.now c.args.name))) c.args.frames.now c.load_name.new.frames
    c.load_name.ensures.leaves (λ p d tells. ap (λ (t : StrNo → Option (List ℕ)). Names ops.LoadGlobal (or_nothing (t c.args.name))) tells.texts_are) c.load_name.ensures.global 0 c.load_name.ensures.moved)
