use Rattle.std.proofs.Common.{refl}
use Rattle.vm_kept.specs.state_calls.vm_fetching.Instructions as fetched
use Rattle.vm_kept.specs.state_calls.vm_fetching.declared.operations.MakeOp.TheVariants as make_ops
use Rattle.vm_machine.proofs.Fetched.{in_program, runs_with}
use Rattle.vm_machine.proofs.acting.make_on.Goals as goal

pub make-ended-requires-clause-runs : goal.make-ended-requires-clause-runs
make-ended-requires-clause-runs c = runs_with c.args.library.now c.args.vm.now c.args.row.now (record { instruction = fetched.make make_ops.MakeFunction c.args.number; end = c.args.end }) c.requires.fetched c.deref.result.now c.deref.ensures.value

pub make-ended-requires-clause-rows : goal.make-ended-requires-clause-rows
make-ended-requires-clause-rows c = c.requires.rows

pub returns : goal.returns
returns c = record {
  comes = λ p of. in_program c.args.library.now c.args.vm.now c.args.row.now (record { instruction = fetched.make make_ops.MakeFunction c.args.number; end = c.args.end }) c.requires.fetched p of c.deref.result.now c.deref.ensures.value (c.make-ended.ensures.comes p of.shelf_is);
  memory = record { frames = c.make-ended.ensures.rooms; modules = c.make-ended.ensures.registry; names = refl; operands = refl; bindings = refl; items = refl };
  paid = refl;
}
