use Rattle.std.proofs.Common.{refl}
use Rattle.state_values.specs.bc_progress.bc_ops.declared.instr.Op.TheVariants as ops
use Rattle.state_values.specs.bc_progress.bc_ops.declared.instr.Instr.TheVariants as instrs
use Rattle.state_values.specs.bc_progress.bc_machine.Library.{Plain}
use Rattle.state_values.specs.vm_fetching.declared.instruction.Fetched.{Fetched}
use Rattle.state_values.specs.vm_fetching.Instructions as fetched
use Rattle.state_values.specs.vm_fetching.declared.operations.LocalOp.TheVariants as local_ops
use Rattle.vm_at_once.proofs.Ending as ending
use Rattle.vm_at_once.proofs.Finding as finding
use Rattle.vm_at_once.proofs.Done.{at_once}
use Rattle.vm_at_once.proofs.locals.load_long.Goals as goal

pub load-requires-clause-room : goal.load-requires-clause-room
load-requires-clause-room g c = finding.has_room c.requires.runs

pub load-requires-clause-local : goal.load-requires-clause-local
load-requires-clause-local g c = finding.has_local c.requires.runs c.args.n c.requires.runs.ready.local

pub load-requires-clause-all_told : goal.load-requires-clause-all_told
load-requires-clause-all_told g c = finding.all_told c.requires.runs

pub returns : goal.returns
returns g c =
    let f : Fetched = record { instruction = fetched.local local_ops.LoadFastN c.args.n; end = c.args.end } in
    at_once (g.C.Constants.text_of c.args.consts.now) (g.C.Constants.items_of c.args.consts.now) f c.args.arena.now c.args.frames.now c.load.new.frames c.load.result c.done.result c.done.ensures
    (ending.puts c.acting_law.ensures.acts f (λ p s row r. r.begins tt) 0 (Plain (instrs.Num ops.LoadFastN c.args.n)) c.args.frames.now c.load.new.frames c.load.ensures.leaves (λ p d tells. refl) c.load.ensures.long 0 c.load.ensures.moved)
