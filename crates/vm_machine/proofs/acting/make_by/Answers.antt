use Rattle.std.proofs.Common.{ap}
use Rattle.vm_kept.specs.state_calls.vm_fetching.declared.operations.MakeOp.{MakeOp}
use Rattle.vm_kept.specs.state_calls.vm_fetching.declared.operations.MakeOp.TheVariants as make_ops
use Rattle.vm_kept.specs.state_calls.vm_fetching.Instructions as fetched
use Rattle.vm_machine.proofs.Fetched.{at_form}
use Rattle.vm_machine.proofs.acting.make_by.Goals as goal

pub make_on-requires-clause-fetched : goal.make_on-requires-clause-fetched
make_on-requires-clause-fetched c = at_form c.args.library.now c.args.vm.now c.args.row.now (record { instruction = fetched.make c.args.op c.args.number; end = c.args.end }) c.requires.fetched (fetched.make make_ops.MakeFunction c.args.number) (ap (λ (o : MakeOp). fetched.make o c.args.number) c.in-MakeFunction.is)

pub make_on-requires-clause-rows : goal.make_on-requires-clause-rows
make_on-requires-clause-rows c = c.requires.rows

pub returns-in-MakeFunction : goal.returns-in-MakeFunction
returns-in-MakeFunction c = c.make_on.ensures

pub make_with_on-requires-clause-fetched : goal.make_with_on-requires-clause-fetched
make_with_on-requires-clause-fetched c = at_form c.args.library.now c.args.vm.now c.args.row.now (record { instruction = fetched.make c.args.op c.args.number; end = c.args.end }) c.requires.fetched (fetched.make make_ops.MakeFunctionDefargs c.args.number) (ap (λ (o : MakeOp). fetched.make o c.args.number) c.in-MakeFunctionDefargs.is)

pub make_with_on-requires-clause-rows : goal.make_with_on-requires-clause-rows
make_with_on-requires-clause-rows c = c.requires.rows

pub returns-in-MakeFunctionDefargs : goal.returns-in-MakeFunctionDefargs
returns-in-MakeFunctionDefargs c = c.make_with_on.ensures
