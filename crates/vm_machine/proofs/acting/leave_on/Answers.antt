use Rattle.std.proofs.Common.{refl}
use Rattle.vm_kept.specs.state_exits.Running.{fetched_leave}
use Rattle.vm_machine.proofs.Fetched.{in_program, runs_with, without_visits}
use Rattle.vm_machine.proofs.acting.leave_on.Goals as goal

pub leave-ended-requires-clause-runs : goal.leave-ended-requires-clause-runs
leave-ended-requires-clause-runs c = (c.args.end, runs_with c.args.library.now c.args.vm.now c.args.row.now (fetched_leave c.args.op c.args.end) c.requires.fetched c.deref.result.now c.deref.ensures.value)

pub leave-ended-requires-clause-rows : goal.leave-ended-requires-clause-rows
leave-ended-requires-clause-rows c = c.requires.rows

pub returns : goal.returns
returns c = record {
  comes = λ p of. without_visits p c.args.vm.now.arena c.leave-ended.new.arena c.args.vm.now.modules c.leave-ended.new.modules c.args.vm.now.frames c.leave-ended.new.frames c.leave-ended.result
      (in_program c.args.library.now c.args.vm.now c.args.row.now (fetched_leave c.args.op c.args.end) c.requires.fetched p of c.deref.result.now c.deref.ensures.value (c.leave-ended.ensures.comes p c.args.end of.shelf_is));
  memory = record { frames = c.leave-ended.ensures.rooms; modules = c.leave-ended.ensures.registry; names = refl; operands = refl; bindings = refl; items = refl };
  paid = refl;
}
