use Rattle.std.proofs.Common.{◌∙◌, Ok, sym, ap, subst}
use Rattle.state_values.specs.vm_fetching.declared.instruction.Instruction.{Instruction}
use Rattle.state_values.specs.vm_fetching.declared.instruction.Action.{Action}
use Rattle.state_values.specs.vm_fetching.Instructions as fetched
use Rattle.state_values.specs.Keeping.{ActsKeeping}
use Rattle.vm_at_once.proofs.Forms.{runs_at}
use Rattle.vm_at_once.proofs.acting.store_at_once.Goals as goal

pub store_step-requires : goal.store_step-requires
store_step-requires g c =
    record { runs = runs_at (g.C.Constants.text_of c.args.consts.now) (g.C.Constants.items_of c.args.consts.now) c.args.fetched (fetched.stays c.in-Stays.step) (c.in-Acts.is ∙ ap (λ (a : Action). fetched.acts a) c.in-Stays.is) c.args.arena.now c.args.frames.now c.requires.runs }

pub returns-in-Stays-clause-done : goal.returns-in-Stays-clause-done
returns-in-Stays-clause-done g c done =
    subst (λ (i : Instruction). ActsKeeping (g.C.Constants.text_of c.args.consts.now) (g.C.Constants.items_of c.args.consts.now) (record { instruction = i; end = c.args.fetched.end }) 0 c.args.arena.now c.store_step.new.arena c.args.frames.now c.store_step.new.frames (Ok tt)) (sym (c.in-Acts.is ∙ ap (λ (a : Action). fetched.acts a) c.in-Stays.is))
    (c.store_step.ensures.done done)
