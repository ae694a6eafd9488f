use Rattle.std.proofs.Common.{◌≡◌, List, Err, ap, subst}
use Rattle.mpy_base.specs.declared.refused.Refused.TheVariants as refusals
use Rattle.command_files.specs.mpy_writer.mpy_tree.Raw.{Module}
use Rattle.mpy_merge.specs.Faults.{FirstFault}
use Rattle.file_commands.proofs.merging.merge_files.Goals as goal

pub returns-in-Err-Fault-clause-went : goal.returns-in-Err-Fault-clause-went
returns-in-Err-Fault-clause-went g c =
    let fault = c.in-Err-Fault.fault in
    let e : c.in-Err-Fault.field-0 ≡ refusals.Fault fault = cc in
    let first = c.in-Err-Fault.ensures.first fault (ap Err e) in
    (record { modules = c.in-Ok.modules.items; hold = c.in-Ok.ensures.opened; first = subst (λ (ms : List Module). FirstFault ms fault) c.deref.ensures.value first }, c.in-Ok.ensures.files)
