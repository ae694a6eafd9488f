use Rattle.std.proofs.Common.{length, ◌≤◌, arith}
use Rattle.state_values.specs.vm_frames.Calls.{Call}
use Rattle.state_values.proofs.frame_moves_lemmas.Changing.{then_is}
use Rattle.state_values.proofs.frame_values_lemmas.Calls.{dropped, dropped_one, can_drop, fewer, runs_on}
use Rattle.vm_at_once.proofs.items.drop_three.Goals as goal

pub pop-requires : goal.pop-requires
pop-requires c = fewer 1 3 c.args.frames.now.calls (omega arith) c.requires

pub pop-requires-2 : goal.pop-requires-2
pop-requires-2 c = can_drop 1 3 c.args.frames.now c.pop.new.self (omega arith) c.pop.ensures.rest c.requires

pub pop-requires-3 : goal.pop-requires-3
pop-requires-3 c = can_drop 2 3 c.args.frames.now c.pop-2.new.self (omega arith) (dropped_one 1 c.args.frames.now c.pop.new.self c.pop-2.new.self c.pop.ensures.rest c.pop-2.ensures.rest) c.requires

pub set_offset-requires : goal.set_offset-requires
set_offset-requires c =
    let two = dropped_one 1 c.args.frames.now c.pop.new.self c.pop-2.new.self c.pop.ensures.rest c.pop-2.ensures.rest in
    let three = dropped_one 2 c.args.frames.now c.pop-2.new.self c.pop-3.new.self two c.pop-3.ensures.rest in
    runs_on (dropped 3) c.args.frames.now c.pop-3.new.self (λ d. 3 ≤ length d.slots) three c.requires

pub returns : goal.returns
returns c =
    let two = dropped_one 1 c.args.frames.now c.pop.new.self c.pop-2.new.self c.pop.ensures.rest c.pop-2.ensures.rest in
    let three = dropped_one 2 c.args.frames.now c.pop-2.new.self c.pop-3.new.self two c.pop-3.ensures.rest in
    then_is (dropped 3) (λ (d : Call). record d { at = c.args.end }) c.args.frames.now c.pop-3.new.self c.set_offset.new.self three c.set_offset.ensures
