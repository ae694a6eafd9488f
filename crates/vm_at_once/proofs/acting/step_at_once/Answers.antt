use Rattle.std.proofs.Common.{ℤ, sym, subst, rules, SFits, w32}
use Rattle.std.proofs.lemmas.Int.{to_z-of_z}
use Rattle.state_values.specs.vm_fetching.declared.instruction.Step.TheVariants as steps
use Rattle.state_values.specs.vm_fetching.Instructions as fetched
use Rattle.state_values.specs.vm_states.Acting.{RunsOver}
use Rattle.state_values.specs.Keeping.{ActsKeeping}
use Rattle.vm_at_once.proofs.Done.{at_once}
use Rattle.vm_at_once.proofs.Forms.{step_runs, step_acts}
use Rattle.vm_at_once.proofs.acting.step_at_once.Goals as goal

pub move_on-requires : goal.move_on-requires
move_on-requires g c = record { runs = step_runs (g.C.Constants.text_of c.args.consts.now) (g.C.Constants.items_of c.args.consts.now) c.args.step (steps.Move c.in-Move.op) c.args.end c.in-Move.is c.args.arena.now c.args.frames.now c.requires.runs }

pub returns-in-Move : goal.returns-in-Move
returns-in-Move g c =
    record {
      acts = step_acts (g.C.Constants.text_of c.args.consts.now) (g.C.Constants.items_of c.args.consts.now) c.args.step (steps.Move c.in-Move.op) c.args.end c.in-Move.is c.args.arena.now c.args.frames.now c.move_on.new.frames c.done.result
          (at_once (g.C.Constants.text_of c.args.consts.now) (g.C.Constants.items_of c.args.consts.now) (record { instruction = fetched.move c.in-Move.op; end = c.args.end }) c.args.arena.now c.args.frames.now c.move_on.new.frames c.move_on.result c.done.result c.done.ensures c.move_on.ensures.acts);
    }

pub load_int-requires : goal.load_int-requires
load_int-requires g c =
    let fits : SFits w32 c.in-Int.n = search rules in
    record {
      runs = subst (λ (z : ℤ). RunsOver (g.C.Constants.text_of c.args.consts.now) (g.C.Constants.items_of c.args.consts.now) c.args.arena.now c.args.frames.now (record { instruction = fetched.int z; end = c.args.end })) (sym (to_z-of_z w32 c.in-Int.n fits))
          (step_runs (g.C.Constants.text_of c.args.consts.now) (g.C.Constants.items_of c.args.consts.now) c.args.step (steps.Int c.in-Int.n) c.args.end c.in-Int.is c.args.arena.now c.args.frames.now c.requires.runs);
    }

pub returns-in-Int : goal.returns-in-Int
returns-in-Int g c =
    let fits : SFits w32 c.in-Int.n = search rules in
    record {
      acts = step_acts (g.C.Constants.text_of c.args.consts.now) (g.C.Constants.items_of c.args.consts.now) c.args.step (steps.Int c.in-Int.n) c.args.end c.in-Int.is c.args.arena.now c.args.frames.now c.load_int.new.frames c.done-in-Int.result
          (at_once (g.C.Constants.text_of c.args.consts.now) (g.C.Constants.items_of c.args.consts.now) (record { instruction = fetched.int c.in-Int.n; end = c.args.end }) c.args.arena.now c.args.frames.now c.load_int.new.frames c.load_int.result c.done-in-Int.result c.done-in-Int.ensures
          (subst (λ (z : ℤ). ActsKeeping (g.C.Constants.text_of c.args.consts.now) (g.C.Constants.items_of c.args.consts.now) (record { instruction = fetched.int z; end = c.args.end }) 0 c.args.arena.now c.args.arena.now c.args.frames.now c.load_int.new.frames c.load_int.result)
          (to_z-of_z w32 c.in-Int.n fits) c.load_int.ensures.acts));
    }

pub load_object-requires : goal.load_object-requires
load_object-requires g c = record { runs = step_runs (g.C.Constants.text_of c.args.consts.now) (g.C.Constants.items_of c.args.consts.now) c.args.step (steps.Object c.in-Object.v) c.args.end c.in-Object.is c.args.arena.now c.args.frames.now c.requires.runs }

pub returns-in-Object : goal.returns-in-Object
returns-in-Object g c =
    record {
      acts = step_acts (g.C.Constants.text_of c.args.consts.now) (g.C.Constants.items_of c.args.consts.now) c.args.step (steps.Object c.in-Object.v) c.args.end c.in-Object.is c.args.arena.now c.args.frames.now c.load_object.new.frames c.done-in-Object.result
          (at_once (g.C.Constants.text_of c.args.consts.now) (g.C.Constants.items_of c.args.consts.now) (record { instruction = fetched.object c.in-Object.v; end = c.args.end }) c.args.arena.now c.args.frames.now c.load_object.new.frames c.load_object.result c.done-in-Object.result c.done-in-Object.ensures c.load_object.ensures.acts);
    }

pub unary_op-requires : goal.unary_op-requires
unary_op-requires g c = record { runs = step_runs (g.C.Constants.text_of c.args.consts.now) (g.C.Constants.items_of c.args.consts.now) c.args.step (steps.Unary c.in-Unary.number) c.args.end c.in-Unary.is c.args.arena.now c.args.frames.now c.requires.runs }

pub returns-in-Unary : goal.returns-in-Unary
returns-in-Unary g c =
    record {
      acts = step_acts (g.C.Constants.text_of c.args.consts.now) (g.C.Constants.items_of c.args.consts.now) c.args.step (steps.Unary c.in-Unary.number) c.args.end c.in-Unary.is c.args.arena.now c.args.frames.now c.unary_op.new.frames c.done-in-Unary.result
          (at_once (g.C.Constants.text_of c.args.consts.now) (g.C.Constants.items_of c.args.consts.now) (record { instruction = fetched.unary c.in-Unary.number; end = c.args.end }) c.args.arena.now c.args.frames.now c.unary_op.new.frames c.unary_op.result c.done-in-Unary.result c.done-in-Unary.ensures c.unary_op.ensures.acts);
    }

pub load_text-requires : goal.load_text-requires
load_text-requires g c = record { runs = step_runs (g.C.Constants.text_of c.args.consts.now) (g.C.Constants.items_of c.args.consts.now) c.args.step (steps.Text c.in-Text.text) c.args.end c.in-Text.is c.args.arena.now c.args.frames.now c.requires.runs }

pub returns-in-Text : goal.returns-in-Text
returns-in-Text g c =
    record {
      acts = step_acts (g.C.Constants.text_of c.args.consts.now) (g.C.Constants.items_of c.args.consts.now) c.args.step (steps.Text c.in-Text.text) c.args.end c.in-Text.is c.args.arena.now c.args.frames.now c.load_text.new.frames c.done-in-Text.result
          (at_once (g.C.Constants.text_of c.args.consts.now) (g.C.Constants.items_of c.args.consts.now) (record { instruction = fetched.text c.in-Text.text; end = c.args.end }) c.args.arena.now c.args.frames.now c.load_text.new.frames c.load_text.result c.done-in-Text.result c.done-in-Text.ensures c.load_text.ensures.acts);
    }

pub local_at_once-requires : goal.local_at_once-requires
local_at_once-requires g c = record { runs = step_runs (g.C.Constants.text_of c.args.consts.now) (g.C.Constants.items_of c.args.consts.now) c.args.step (steps.Local c.in-Local.op c.in-Local.n) c.args.end c.in-Local.is c.args.arena.now c.args.frames.now c.requires.runs }

pub returns-in-Local : goal.returns-in-Local
returns-in-Local g c = record { acts = step_acts (g.C.Constants.text_of c.args.consts.now) (g.C.Constants.items_of c.args.consts.now) c.args.step (steps.Local c.in-Local.op c.in-Local.n) c.args.end c.in-Local.is c.args.arena.now c.args.frames.now c.local_at_once.new.frames c.local_at_once.result c.local_at_once.ensures }

pub item_at_once-requires : goal.item_at_once-requires
item_at_once-requires g c = record { runs = step_runs (g.C.Constants.text_of c.args.consts.now) (g.C.Constants.items_of c.args.consts.now) c.args.step (steps.Item c.in-Item.op) c.args.end c.in-Item.is c.args.arena.now c.args.frames.now c.requires.runs }

pub returns-in-Item : goal.returns-in-Item
returns-in-Item g c = record { acts = step_acts (g.C.Constants.text_of c.args.consts.now) (g.C.Constants.items_of c.args.consts.now) c.args.step (steps.Item c.in-Item.op) c.args.end c.in-Item.is c.args.arena.now c.args.frames.now c.item_at_once.new.frames c.item_at_once.result c.item_at_once.ensures }

pub name_at_once-requires : goal.name_at_once-requires
name_at_once-requires g c = record { runs = step_runs (g.C.Constants.text_of c.args.consts.now) (g.C.Constants.items_of c.args.consts.now) c.args.step (steps.Name c.in-Name.op c.in-Name.name) c.args.end c.in-Name.is c.args.arena.now c.args.frames.now c.requires.runs }

pub returns-in-Name : goal.returns-in-Name
returns-in-Name g c = record { acts = step_acts (g.C.Constants.text_of c.args.consts.now) (g.C.Constants.items_of c.args.consts.now) c.args.step (steps.Name c.in-Name.op c.in-Name.name) c.args.end c.in-Name.is c.args.arena.now c.args.frames.now c.name_at_once.new.frames c.name_at_once.result c.name_at_once.ensures }

pub jump-requires : goal.jump-requires
jump-requires g c = record { runs = step_runs (g.C.Constants.text_of c.args.consts.now) (g.C.Constants.items_of c.args.consts.now) c.args.step (steps.Jump c.in-Jump.target) c.args.end c.in-Jump.is c.args.arena.now c.args.frames.now c.requires.runs }

pub returns-in-Jump : goal.returns-in-Jump
returns-in-Jump g c =
    record {
      acts = step_acts (g.C.Constants.text_of c.args.consts.now) (g.C.Constants.items_of c.args.consts.now) c.args.step (steps.Jump c.in-Jump.target) c.args.end c.in-Jump.is c.args.arena.now c.args.frames.now c.jump.new.frames c.done-in-Jump.result
          (at_once (g.C.Constants.text_of c.args.consts.now) (g.C.Constants.items_of c.args.consts.now) (record { instruction = fetched.jump c.in-Jump.target; end = c.args.end }) c.args.arena.now c.args.frames.now c.jump.new.frames c.jump.result c.done-in-Jump.result c.done-in-Jump.ensures c.jump.ensures.acts);
    }

pub test_at_once-requires : goal.test_at_once-requires
test_at_once-requires g c = record { runs = step_runs (g.C.Constants.text_of c.args.consts.now) (g.C.Constants.items_of c.args.consts.now) c.args.step (steps.Test c.in-Test.op c.in-Test.target) c.args.end c.in-Test.is c.args.arena.now c.args.frames.now c.requires.runs }

pub returns-in-Test : goal.returns-in-Test
returns-in-Test g c = record { acts = step_acts (g.C.Constants.text_of c.args.consts.now) (g.C.Constants.items_of c.args.consts.now) c.args.step (steps.Test c.in-Test.op c.in-Test.target) c.args.end c.in-Test.is c.args.arena.now c.args.frames.now c.test_at_once.new.frames c.test_at_once.result c.test_at_once.ensures }

pub iterate-requires : goal.iterate-requires
iterate-requires g c = record { runs = step_runs (g.C.Constants.text_of c.args.consts.now) (g.C.Constants.items_of c.args.consts.now) c.args.step (steps.ForIter c.in-ForIter.target) c.args.end c.in-ForIter.is c.args.arena.now c.args.frames.now c.requires.runs }

pub returns-in-ForIter : goal.returns-in-ForIter
returns-in-ForIter g c = record { acts = step_acts (g.C.Constants.text_of c.args.consts.now) (g.C.Constants.items_of c.args.consts.now) c.args.step (steps.ForIter c.in-ForIter.target) c.args.end c.in-ForIter.is c.args.arena.now c.args.frames.now c.iterate.new.frames c.iterate.result c.iterate.ensures }
