-- How many steps the running instruction is paid for before it acts.
use Rattle.std.specs.Prelude.{◌≡◌, ◌<◌, ◌≤◌, ℕ, suc}
use Rattle.mpy_base.specs.Val.{PlainWorld}
use Rattle.state_steps.specs.vm_frames.bc_machine.State.{State}
use Rattle.state_steps.specs.vm_frames.bc_machine.Step.{step}
use Rattle.vm_kept.specs.state_calls.frame_moves.Shown.{running_of}
use Rattle.vm_starting.specs.vm_states.Means.{Program}
use Rattle.vm_starting.specs.declared.opening.Vm.{Vm}
use Rattle.vm_machine.specs.Machine.{world_in}

-- where a machine is that hasn't ended, with so many steps paid on the running instruction, in a world with its output and its ports
abbrev pub paying_in : Program → Vm → (paid : ℕ) → PlainWorld → State
paying_in p vm paid w = running_of p.tables paid vm.frames.calls (world_in p vm w)

-- The running instruction is paid for so many steps before it acts, whatever the world: each of them does nothing but be paid, and
-- the step behind them does something else. Where there are `most` or more, these are counted
pub record IsDue (p : Program) (vm : Vm) (most due : ℕ) : Type 0 where
  pub few : due ≤ most
  pub pays : (w : PlainWorld) (paid : ℕ) → paid < due → step p.library (paying_in p vm paid w) ≡ paying_in p vm (suc paid) w
  pub acts : (w : PlainWorld) → due < most → step p.library (paying_in p vm due w) ≡ paying_in p vm (suc due) w → ⊥
