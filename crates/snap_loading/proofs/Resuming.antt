-- Steps of a machine in another's state are the rest of its run.
use Rattle.std.proofs.Common.{◌≡◌, ℕ, ◌+◌, List, [], ◌∷◌, ◌++◌, Option, Some, None, refl, sym, ap, ◌∙◌, subst}
use Rattle.mpy_base.specs.Val.{PlainWorld}
use Rattle.bc_machine.specs.py_effects.Ends.{End, Open, Ended, Raised, Memory, Run, report}
use Rattle.bc_machine.specs.Library.{Library}
use Rattle.bc_machine.specs.State.{State, Running, Halted, Stuck}
use Rattle.bc_machine.specs.Behind.{behind, state_behind, run_behind}
use Rattle.bc_machine.specs.Machine.{steps, run_of}
use Rattle.vm_starting.specs.vm_states.frame_exits.declared.ends.End as ended
use Rattle.vm_starting.specs.vm_states.vm_frames.Calls.{Call}
use Rattle.vm_starting.specs.vm_states.Means.{Program}
use Rattle.vm_starting.specs.declared.opening.Vm.{Vm}
use Rattle.vm_machine.specs.Machine.{machine_of, paid_state, world_in}
use Rattle.snap_laws.specs.Renamed.{Renaming}
use Rattle.snap_laws.specs.Worlds.{IsWorld, end_as}
use Rattle.snap_loading.specs.Resumed.{EndAlike, IsRestOf}

-- what was printed in front stays there
state_of_behind : (p : Program) (front : List ℕ) (end : Option ended.End) (paid : ℕ) (calls : List Call) (w : PlainWorld)
    → paid_state p end paid calls (behind front w) ≡ state_behind front (paid_state p end paid calls w)
state_of_behind p front (Some e) paid calls w = refl
state_of_behind p front None paid [] w = refl
state_of_behind p front None paid (c ∷ cs) w = refl

machine_behind : (p : Program) (vm : Vm) (front : List ℕ) (w : PlainWorld) → machine_of p vm (behind front w) ≡ state_behind front (machine_of p vm w)
machine_behind p vm front w = state_of_behind p front vm.end vm.paid vm.frames.calls (world_in p vm w)

run_of_behind : (front : List ℕ) (s : State) → run_of (state_behind front s) ≡ run_behind front (run_of s)
run_of_behind front (Running paid frame frames w) = refl
run_of_behind front (Halted end w) = refl
run_of_behind front (Stuck w) = refl

alike : (r : Renaming) (a b : End) → b ≡ end_as r a → EndAlike a b
alike r a b e = subst (EndAlike a) (sym e) (own a)
  where
    own : (a : End) → EndAlike a (end_as r a)
    own Open = tt
    own Ended = tt
    own (Raised x) = tt
    own (Memory e) = refl

pub rest_of : (r : Renaming) (front : List ℕ) (a b : Run) → IsWorld r a.world b.world → b.end ≡ end_as r a.end → report b ≡ report a → IsRestOf front (run_behind front a) b
rest_of r front a b world end told = record {
  output = ap (λ z. front ++ z) (sym world.output);
  ports = world.ports;
  ends = alike r a.end b.end end;
  report = told;
}

pub whole : (library : Library) (runs : (library : Library) (m n : ℕ) (s : State) → steps library n (steps library m s) ≡ steps library (m + n) s)
    → (moved : (library : Library) (n : ℕ) (s : State) (front : List ℕ) → steps library n (state_behind front s) ≡ state_behind front (steps library n s))
    → (p : Program) (vm : Vm) (first : State) (n m : ℕ) (w : PlainWorld) (front : List ℕ) → machine_of p vm (behind front w) ≡ steps library n first
    → run_of (steps library (n + m) first) ≡ run_behind front (run_of (steps library m (machine_of p vm w)))
whole library runs moved p vm first n m w front e =
    ap run_of
    (sym (runs library n m first) ∙ (ap (λ z. steps library m z) (sym e ∙ machine_behind p vm front w) ∙ moved library m (machine_of p vm w) front))
    ∙ run_of_behind front (steps library m (machine_of p vm w))
