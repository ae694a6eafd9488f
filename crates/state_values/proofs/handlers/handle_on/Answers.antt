use Rattle.std.proofs.Common.{Ok, ap, false, true}
use Rattle.state_values.proofs.Families.{step_runs, step_acts}
use Rattle.state_values.proofs.Finding as finding
use Rattle.state_values.proofs.Shifting as shifting
use Rattle.vm_states.specs.vm_fetching.Instructions as fetched
use Rattle.vm_states.specs.vm_fetching.declared.instruction.Step.TheVariants as steps
use Rattle.vm_states.specs.vm_fetching.declared.operations.HandlerOp.TheVariants as handler_ops
use Rattle.vm_states.specs.vm_fetching.declared.operations.HandlerOp.{HandlerOp}
use Rattle.state_values.proofs.handlers.handle_on.Goals as goal

pub begin_except-requires : goal.begin_except-requires
begin_except-requires g c =
    let h = step_runs (g.C.Constants.text_of c.args._consts.now) (g.C.Constants.items_of c.args._consts.now) (steps.Handle c.args.op c.args.target) (steps.Handle handler_ops.SetupExcept c.args.target) c.args.end (ap (λ (o : HandlerOp). steps.Handle o c.args.target) c.in-SetupExcept.is) c.args._arena.now c.args.frames.now c.requires.runs in
    record { runs = finding.runs h }

pub returns-in-SetupExcept : goal.returns-in-SetupExcept
returns-in-SetupExcept g c =
    let texts = g.C.Constants.text_of c.args._consts.now in
    let tuples = g.C.Constants.items_of c.args._consts.now in
    let heap = c.args._arena.now in
    let old = c.args.frames.now in
    let new = c.begin_except.new.frames in
    record {
      acts = step_acts (g.C.Constants.text_of c.args._consts.now) (g.C.Constants.items_of c.args._consts.now) (steps.Handle c.args.op c.args.target) (steps.Handle handler_ops.SetupExcept c.args.target) c.args.end (ap (λ (o : HandlerOp). steps.Handle o c.args.target) c.in-SetupExcept.is) c.args._arena.now c.args._arena.now c.args.frames.now c.begin_except.new.frames (Ok tt) (c.acting_law.ensures.moves texts tuples (record { instruction = fetched.handle handler_ops.SetupExcept c.args.target; end = c.args.end }) heap old new c.begin_except.ensures.goes
          (shifting.set_up_on texts tuples heap.objects old new c.args.end c.args.target false c.begin_except.ensures.moved));
    }

pub begin_finally-requires : goal.begin_finally-requires
begin_finally-requires g c =
    let h = step_runs (g.C.Constants.text_of c.args._consts.now) (g.C.Constants.items_of c.args._consts.now) (steps.Handle c.args.op c.args.target) (steps.Handle handler_ops.SetupFinally c.args.target) c.args.end (ap (λ (o : HandlerOp). steps.Handle o c.args.target) c.in-SetupFinally.is) c.args._arena.now c.args.frames.now c.requires.runs in
    record { runs = finding.runs h }

pub returns-in-SetupFinally : goal.returns-in-SetupFinally
returns-in-SetupFinally g c =
    let texts = g.C.Constants.text_of c.args._consts.now in
    let tuples = g.C.Constants.items_of c.args._consts.now in
    let heap = c.args._arena.now in
    let old = c.args.frames.now in
    let new = c.begin_finally.new.frames in
    record {
      acts = step_acts (g.C.Constants.text_of c.args._consts.now) (g.C.Constants.items_of c.args._consts.now) (steps.Handle c.args.op c.args.target) (steps.Handle handler_ops.SetupFinally c.args.target) c.args.end (ap (λ (o : HandlerOp). steps.Handle o c.args.target) c.in-SetupFinally.is) c.args._arena.now c.args._arena.now c.args.frames.now c.begin_finally.new.frames (Ok tt) (c.acting_law.ensures.moves texts tuples (record { instruction = fetched.handle handler_ops.SetupFinally c.args.target; end = c.args.end }) heap old new c.begin_finally.ensures.goes
          (shifting.set_up_on texts tuples heap.objects old new c.args.end c.args.target true c.begin_finally.ensures.moved));
    }

pub end_except-requires : goal.end_except-requires
end_except-requires g c =
    let h = step_runs (g.C.Constants.text_of c.args._consts.now) (g.C.Constants.items_of c.args._consts.now) (steps.Handle c.args.op c.args.target) (steps.Handle handler_ops.PopExceptJump c.args.target) c.args.end (ap (λ (o : HandlerOp). steps.Handle o c.args.target) c.in-PopExceptJump.is) c.args._arena.now c.args.frames.now c.requires.runs in
    record { runs = finding.runs h }

pub returns-in-PopExceptJump : goal.returns-in-PopExceptJump
returns-in-PopExceptJump g c =
    let texts = g.C.Constants.text_of c.args._consts.now in
    let tuples = g.C.Constants.items_of c.args._consts.now in
    let heap = c.args._arena.now in
    let old = c.args.frames.now in
    let new = c.end_except.new.frames in
    record {
      acts = step_acts (g.C.Constants.text_of c.args._consts.now) (g.C.Constants.items_of c.args._consts.now) (steps.Handle c.args.op c.args.target) (steps.Handle handler_ops.PopExceptJump c.args.target) c.args.end (ap (λ (o : HandlerOp). steps.Handle o c.args.target) c.in-PopExceptJump.is) c.args._arena.now c.args._arena.now c.args.frames.now c.end_except.new.frames (Ok tt) (c.acting_law.ensures.moves texts tuples (record { instruction = fetched.handle handler_ops.PopExceptJump c.args.target; end = c.args.end }) heap old new c.end_except.ensures.goes
          (shifting.entry_left texts tuples heap.objects old new c.args.target c.end_except.ensures.moved));
    }
