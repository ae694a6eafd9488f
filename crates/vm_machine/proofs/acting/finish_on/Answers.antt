use Rattle.std.proofs.Common.{refl}
use Rattle.vm_kept.specs.state_exits.Running.{fetched_finish}
use Rattle.vm_machine.proofs.Fetched.{in_program, runs_with}
use Rattle.vm_machine.proofs.acting.finish_on.Goals as goal

pub finish-ended-requires-clause-runs : goal.finish-ended-requires-clause-runs
finish-ended-requires-clause-runs c =
    let h = c.requires.fetched in
    let p = h.program in
    let of = h.is_program in
    let r = h.is_vm.runs h.goes_on p of in (
      c.args.row.now,
      runs_with c.args.library.now c.args.vm.now c.args.row.now (fetched_finish c.args.end) c.requires.fetched c.deref.result.now c.deref.ensures.value,
      c.cause_law.ensures p c.args.vm.now.arena.objects c.args.vm.now.frames c.args.row.now c.args.end of.means r.state (h.ready p of) r.kept,
    )

pub finish-ended-requires-clause-rows : goal.finish-ended-requires-clause-rows
finish-ended-requires-clause-rows c = c.requires.rows

pub returns : goal.returns
returns c =
    let h = c.requires.fetched in
    record {
      comes = λ p of.
          (let r = h.is_vm.runs h.goes_on p of in
          let cause = c.cause_law.ensures p c.args.vm.now.arena.objects c.args.vm.now.frames c.args.row.now c.args.end of.means r.state (h.ready p of) r.kept in
          in_program c.args.library.now c.args.vm.now c.args.row.now (fetched_finish c.args.end) c.requires.fetched p of c.deref.result.now c.deref.ensures.value (c.finish-ended.ensures.comes p c.args.row.now of.shelf_is cause));
      memory = record { frames = c.finish-ended.ensures.rooms; modules = c.finish-ended.ensures.registry; names = refl; operands = refl; bindings = refl; items = refl };
      paid = refl;
    }
