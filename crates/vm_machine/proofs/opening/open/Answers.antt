use Rattle.std.proofs.Common.{◌∙◌, arith}
use Rattle.state_steps.specs.vm_frames.py_effects.Ends.{new_world}
use Rattle.vm_machine.proofs.Opened.{starts_at, opened}
use Rattle.vm_machine.proofs.opening.open.Goals as goal

pub open-requires-clause-rows : goal.open-requires-clause-rows
open-requires-clause-rows c = c.requires.rows

pub open-requires-clause-there : goal.open-requires-clause-there
open-requires-clause-there c = c.requires.there

pub returns-in-Ok-clause-starts : goal.returns-in-Ok-clause-starts
returns-in-Ok-clause-starts c p name ports of name_is =
    c.in-Ok.ensures.starts p name ports of name_is ∙ starts_at p c.in-Ok.vm (new_world c.args.room.cells c.args.room.bytes ports) c.in-Ok.ensures.paid

pub returns-in-Ok-clause-vm : goal.returns-in-Ok-clause-vm
returns-in-Ok-clause-vm c =
    let few = c.library_law.ensures.few in
    opened c.args.library.now c.args.number c.args.room c.in-Ok.vm c.registered_law.ensures.begins c.begins_law.ensures.one c.runnable_law.ensures (omega (arith, few)) c.in-Ok.ensures.memory c.in-Ok.ensures.state c.in-Ok.ensures.begun c.in-Ok.ensures.ended c.in-Ok.ensures.all_told

pub returns-in-Ok-clause-paid : goal.returns-in-Ok-clause-paid
returns-in-Ok-clause-paid c = c.in-Ok.ensures.paid
