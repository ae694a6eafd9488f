use Rattle.std.proofs.Common.{ℤ, sym, subst, rules, SFits, w32}
use Rattle.std.proofs.lemmas.Int.{to_z-of_z}
use Rattle.state_calls.specs.vm_fetching.declared.instruction.Step.TheVariants as steps
use Rattle.state_calls.specs.vm_fetching.Instructions as fetched
use Rattle.state_values.specs.vm_states.Acting.{RunsOver}
use Rattle.state_values.specs.Keeping.{ActsKeeping}
use Rattle.state_steps.proofs.Forms.{step_runs, step_acts}
use Rattle.state_steps.proofs.values.act_on.Goals as goal

pub move_on-requires : goal.move_on-requires
move_on-requires g c = record { runs = step_runs (g.C.Constants.text_of c.args.consts.now) (g.C.Constants.items_of c.args.consts.now) c.args.step (steps.Move c.in-Move.op) c.args.end c.in-Move.is c.args.arena.now c.args.frames.now c.requires.runs }

pub returns-in-Move : goal.returns-in-Move
returns-in-Move g c =
    record { acts = step_acts (g.C.Constants.text_of c.args.consts.now) (g.C.Constants.items_of c.args.consts.now) c.args.step (steps.Move c.in-Move.op) c.args.end c.in-Move.is c.args.arena.now c.args.arena.now c.args.frames.now c.move_on.new.frames c.move_on.result c.move_on.ensures.acts }

pub load_int-requires : goal.load_int-requires
load_int-requires g c =
    let fits : SFits w32 c.in-Int.n = search rules in
    record {
      runs = subst (λ (z : ℤ). RunsOver (g.C.Constants.text_of c.args.consts.now) (g.C.Constants.items_of c.args.consts.now) c.args.arena.now c.args.frames.now (record { instruction = fetched.int z; end = c.args.end })) (sym (to_z-of_z w32 c.in-Int.n fits))
          (step_runs (g.C.Constants.text_of c.args.consts.now) (g.C.Constants.items_of c.args.consts.now) c.args.step (steps.Int c.in-Int.n) c.args.end c.in-Int.is c.args.arena.now c.args.frames.now c.requires.runs);
    }

pub returns-in-Int : goal.returns-in-Int
returns-in-Int g c =
    let fits : SFits w32 c.in-Int.n = search rules in
    record {
      acts = step_acts (g.C.Constants.text_of c.args.consts.now) (g.C.Constants.items_of c.args.consts.now) c.args.step (steps.Int c.in-Int.n) c.args.end c.in-Int.is c.args.arena.now c.args.arena.now c.args.frames.now c.load_int.new.frames c.load_int.result
          (subst (λ (z : ℤ). ActsKeeping (g.C.Constants.text_of c.args.consts.now) (g.C.Constants.items_of c.args.consts.now) (record { instruction = fetched.int z; end = c.args.end }) 0 c.args.arena.now c.args.arena.now c.args.frames.now c.load_int.new.frames c.load_int.result)
          (to_z-of_z w32 c.in-Int.n fits) c.load_int.ensures.acts);
    }

pub unary_op-requires : goal.unary_op-requires
unary_op-requires g c = record { runs = step_runs (g.C.Constants.text_of c.args.consts.now) (g.C.Constants.items_of c.args.consts.now) c.args.step (steps.Unary c.in-Unary.number) c.args.end c.in-Unary.is c.args.arena.now c.args.frames.now c.requires.runs }

pub returns-in-Unary : goal.returns-in-Unary
returns-in-Unary g c =
    record { acts = step_acts (g.C.Constants.text_of c.args.consts.now) (g.C.Constants.items_of c.args.consts.now) c.args.step (steps.Unary c.in-Unary.number) c.args.end c.in-Unary.is c.args.arena.now c.args.arena.now c.args.frames.now c.unary_op.new.frames c.unary_op.result c.unary_op.ensures.acts }

pub load_object-requires : goal.load_object-requires
load_object-requires g c = record { runs = step_runs (g.C.Constants.text_of c.args.consts.now) (g.C.Constants.items_of c.args.consts.now) c.args.step (steps.Object c.in-Object.v) c.args.end c.in-Object.is c.args.arena.now c.args.frames.now c.requires.runs }

pub returns-in-Object : goal.returns-in-Object
returns-in-Object g c =
    record { acts = step_acts (g.C.Constants.text_of c.args.consts.now) (g.C.Constants.items_of c.args.consts.now) c.args.step (steps.Object c.in-Object.v) c.args.end c.in-Object.is c.args.arena.now c.args.arena.now c.args.frames.now c.load_object.new.frames c.load_object.result c.load_object.ensures.acts }

pub unwind_jump-requires : goal.unwind_jump-requires
unwind_jump-requires g c = record { runs = step_runs (g.C.Constants.text_of c.args.consts.now) (g.C.Constants.items_of c.args.consts.now) c.args.step (steps.Unwind c.in-Unwind.target c.in-Unwind.byte) c.args.end c.in-Unwind.is c.args.arena.now c.args.frames.now c.requires.runs }

pub returns-in-Unwind : goal.returns-in-Unwind
returns-in-Unwind g c =
    record { acts = step_acts (g.C.Constants.text_of c.args.consts.now) (g.C.Constants.items_of c.args.consts.now) c.args.step (steps.Unwind c.in-Unwind.target c.in-Unwind.byte) c.args.end c.in-Unwind.is c.args.arena.now c.args.arena.now c.args.frames.now c.unwind_jump.new.frames c.unwind_jump.result c.unwind_jump.ensures.acts }

pub load_text-requires : goal.load_text-requires
load_text-requires g c = record { runs = step_runs (g.C.Constants.text_of c.args.consts.now) (g.C.Constants.items_of c.args.consts.now) c.args.step (steps.Text c.in-Text.text) c.args.end c.in-Text.is c.args.arena.now c.args.frames.now c.requires.runs }

pub returns-in-Text : goal.returns-in-Text
returns-in-Text g c =
    record { acts = step_acts (g.C.Constants.text_of c.args.consts.now) (g.C.Constants.items_of c.args.consts.now) c.args.step (steps.Text c.in-Text.text) c.args.end c.in-Text.is c.args.arena.now c.args.arena.now c.args.frames.now c.load_text.new.frames c.load_text.result c.load_text.ensures.acts }

pub local_on-requires : goal.local_on-requires
local_on-requires g c = record { runs = step_runs (g.C.Constants.text_of c.args.consts.now) (g.C.Constants.items_of c.args.consts.now) c.args.step (steps.Local c.in-Local.op c.in-Local.n) c.args.end c.in-Local.is c.args.arena.now c.args.frames.now c.requires.runs }

pub returns-in-Local : goal.returns-in-Local
returns-in-Local g c =
    record { acts = step_acts (g.C.Constants.text_of c.args.consts.now) (g.C.Constants.items_of c.args.consts.now) c.args.step (steps.Local c.in-Local.op c.in-Local.n) c.args.end c.in-Local.is c.args.arena.now c.local_on.new.arena c.args.frames.now c.local_on.new.frames c.local_on.result c.local_on.ensures.acts }

pub item_on-requires : goal.item_on-requires
item_on-requires g c = record { runs = step_runs (g.C.Constants.text_of c.args.consts.now) (g.C.Constants.items_of c.args.consts.now) c.args.step (steps.Item c.in-Item.op) c.args.end c.in-Item.is c.args.arena.now c.args.frames.now c.requires.runs }

pub returns-in-Item : goal.returns-in-Item
returns-in-Item g c =
    record { acts = step_acts (g.C.Constants.text_of c.args.consts.now) (g.C.Constants.items_of c.args.consts.now) c.args.step (steps.Item c.in-Item.op) c.args.end c.in-Item.is c.args.arena.now c.item_on.new.arena c.args.frames.now c.item_on.new.frames c.item_on.result c.item_on.ensures.acts }

pub build_on-requires-clause-places : goal.build_on-requires-clause-places
build_on-requires-clause-places g c = c.requires.places

pub build_on-requires-clause-runs : goal.build_on-requires-clause-runs
build_on-requires-clause-runs g c = step_runs (g.C.Constants.text_of c.args.consts.now) (g.C.Constants.items_of c.args.consts.now) c.args.step (steps.Build c.in-Build.op c.in-Build.n) c.args.end c.in-Build.is c.args.arena.now c.args.frames.now c.requires.runs

pub returns-in-Build : goal.returns-in-Build
returns-in-Build g c =
    record { acts = step_acts (g.C.Constants.text_of c.args.consts.now) (g.C.Constants.items_of c.args.consts.now) c.args.step (steps.Build c.in-Build.op c.in-Build.n) c.args.end c.in-Build.is c.args.arena.now c.build_on.new.arena c.args.frames.now c.build_on.new.frames c.build_on.result c.build_on.ensures.acts }

pub name_on-requires : goal.name_on-requires
name_on-requires g c = record { runs = step_runs (g.C.Constants.text_of c.args.consts.now) (g.C.Constants.items_of c.args.consts.now) c.args.step (steps.Name c.in-Name.op c.in-Name.name) c.args.end c.in-Name.is c.args.arena.now c.args.frames.now c.requires.runs }

pub returns-in-Name : goal.returns-in-Name
returns-in-Name g c =
    record { acts = step_acts (g.C.Constants.text_of c.args.consts.now) (g.C.Constants.items_of c.args.consts.now) c.args.step (steps.Name c.in-Name.op c.in-Name.name) c.args.end c.in-Name.is c.args.arena.now c.name_on.new.arena c.args.frames.now c.name_on.new.frames c.name_on.result c.name_on.ensures.acts }

pub attribute_on-requires : goal.attribute_on-requires
attribute_on-requires g c = record { runs = step_runs (g.C.Constants.text_of c.args.consts.now) (g.C.Constants.items_of c.args.consts.now) c.args.step (steps.Attribute c.in-Attribute.op c.in-Attribute.name) c.args.end c.in-Attribute.is c.args.arena.now c.args.frames.now c.requires.runs }

pub returns-in-Attribute : goal.returns-in-Attribute
returns-in-Attribute g c =
    record { acts = step_acts (g.C.Constants.text_of c.args.consts.now) (g.C.Constants.items_of c.args.consts.now) c.args.step (steps.Attribute c.in-Attribute.op c.in-Attribute.name) c.args.end c.in-Attribute.is c.args.arena.now c.attribute_on.new.arena c.args.frames.now c.attribute_on.new.frames c.attribute_on.result c.attribute_on.ensures.acts }

pub jump-requires : goal.jump-requires
jump-requires g c = record { runs = step_runs (g.C.Constants.text_of c.args.consts.now) (g.C.Constants.items_of c.args.consts.now) c.args.step (steps.Jump c.in-Jump.target) c.args.end c.in-Jump.is c.args.arena.now c.args.frames.now c.requires.runs }

pub returns-in-Jump : goal.returns-in-Jump
returns-in-Jump g c =
    record { acts = step_acts (g.C.Constants.text_of c.args.consts.now) (g.C.Constants.items_of c.args.consts.now) c.args.step (steps.Jump c.in-Jump.target) c.args.end c.in-Jump.is c.args.arena.now c.args.arena.now c.args.frames.now c.jump.new.frames c.jump.result c.jump.ensures.acts }

pub test_jump-requires : goal.test_jump-requires
test_jump-requires g c = record { runs = step_runs (g.C.Constants.text_of c.args.consts.now) (g.C.Constants.items_of c.args.consts.now) c.args.step (steps.Test c.in-Test.op c.in-Test.target) c.args.end c.in-Test.is c.args.arena.now c.args.frames.now c.requires.runs }

pub returns-in-Test : goal.returns-in-Test
returns-in-Test g c =
    record { acts = step_acts (g.C.Constants.text_of c.args.consts.now) (g.C.Constants.items_of c.args.consts.now) c.args.step (steps.Test c.in-Test.op c.in-Test.target) c.args.end c.in-Test.is c.args.arena.now c.args.arena.now c.args.frames.now c.test_jump.new.frames c.test_jump.result c.test_jump.ensures.acts }

pub handle_on-requires : goal.handle_on-requires
handle_on-requires g c = record { runs = step_runs (g.C.Constants.text_of c.args.consts.now) (g.C.Constants.items_of c.args.consts.now) c.args.step (steps.Handle c.in-Handle.op c.in-Handle.target) c.args.end c.in-Handle.is c.args.arena.now c.args.frames.now c.requires.runs }

pub returns-in-Handle : goal.returns-in-Handle
returns-in-Handle g c =
    record { acts = step_acts (g.C.Constants.text_of c.args.consts.now) (g.C.Constants.items_of c.args.consts.now) c.args.step (steps.Handle c.in-Handle.op c.in-Handle.target) c.args.end c.in-Handle.is c.args.arena.now c.args.arena.now c.args.frames.now c.handle_on.new.frames c.handle_on.result c.handle_on.ensures.acts }

pub get_iter_stack-requires : goal.get_iter_stack-requires
get_iter_stack-requires g c = record { runs = step_runs (g.C.Constants.text_of c.args.consts.now) (g.C.Constants.items_of c.args.consts.now) c.args.step steps.Iterate c.args.end c.in-Iterate.is c.args.arena.now c.args.frames.now c.requires.runs }

pub returns-in-Iterate : goal.returns-in-Iterate
returns-in-Iterate g c =
    record { acts = step_acts (g.C.Constants.text_of c.args.consts.now) (g.C.Constants.items_of c.args.consts.now) c.args.step steps.Iterate c.args.end c.in-Iterate.is c.args.arena.now c.args.arena.now c.args.frames.now c.get_iter_stack.new.frames c.get_iter_stack.result c.get_iter_stack.ensures.acts }

pub for_iter-requires : goal.for_iter-requires
for_iter-requires g c = record { runs = step_runs (g.C.Constants.text_of c.args.consts.now) (g.C.Constants.items_of c.args.consts.now) c.args.step (steps.ForIter c.in-ForIter.target) c.args.end c.in-ForIter.is c.args.arena.now c.args.frames.now c.requires.runs }

pub returns-in-ForIter : goal.returns-in-ForIter
returns-in-ForIter g c =
    record { acts = step_acts (g.C.Constants.text_of c.args.consts.now) (g.C.Constants.items_of c.args.consts.now) c.args.step (steps.ForIter c.in-ForIter.target) c.args.end c.in-ForIter.is c.args.arena.now c.for_iter.new.arena c.args.frames.now c.for_iter.new.frames c.for_iter.result c.for_iter.ensures.acts }
