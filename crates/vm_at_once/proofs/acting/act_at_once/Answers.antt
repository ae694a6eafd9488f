use Rattle.std.proofs.Common.{◌∙◌, ap}
use Rattle.state_values.specs.vm_fetching.declared.instruction.Action.{Action}
use Rattle.state_values.specs.vm_fetching.Instructions as fetched
use Rattle.vm_at_once.proofs.Forms.{runs_at, acts_at}
use Rattle.vm_at_once.proofs.acting.act_at_once.Goals as goal

pub step_at_once-requires : goal.step_at_once-requires
step_at_once-requires g c = record { runs = runs_at (g.C.Constants.text_of c.args.consts.now) (g.C.Constants.items_of c.args.consts.now) c.args.fetched (fetched.stays c.in-Stays.step) (c.in-Acts.is ∙ ap (λ (a : Action). fetched.acts a) c.in-Stays.is) c.args.arena.now c.args.frames.now c.requires.runs }

pub returns-in-Stays : goal.returns-in-Stays
returns-in-Stays g c = record { acts = acts_at (g.C.Constants.text_of c.args.consts.now) (g.C.Constants.items_of c.args.consts.now) c.args.fetched (fetched.stays c.in-Stays.step) (c.in-Acts.is ∙ ap (λ (a : Action). fetched.acts a) c.in-Stays.is) c.args.arena.now c.args.frames.now c.step_at_once.new.frames c.step_at_once.result c.step_at_once.ensures.acts }

pub binary_at_once-requires : goal.binary_at_once-requires
binary_at_once-requires g c = record { runs = runs_at (g.C.Constants.text_of c.args.consts.now) (g.C.Constants.items_of c.args.consts.now) c.args.fetched (fetched.binary c.in-Binary.number) c.in-Binary.is c.args.arena.now c.args.frames.now c.requires.runs }

pub returns-in-Binary : goal.returns-in-Binary
returns-in-Binary g c = record { acts = acts_at (g.C.Constants.text_of c.args.consts.now) (g.C.Constants.items_of c.args.consts.now) c.args.fetched (fetched.binary c.in-Binary.number) c.in-Binary.is c.args.arena.now c.args.frames.now c.binary_at_once.new.frames c.binary_at_once.result c.binary_at_once.ensures }
