-- A machine runs in a world without ports as it does behind any output.
use Rattle.std.proofs.Common.{◌≡◌, ◌⊎◌, inl, inr, ℕ, zero, suc, ◌+◌, ◌-◌, ◌<◌, List, [], ◌∷◌, ◌++◌, true, map, Option, Some, None, refl, sym, ap, subst, ◌∙◌, append_assoc, append-nil, arith}
use Rattle.std.specs.Prelude.{slice_get}
use Rattle.mpy_base.specs.Val.{PlainWorld}
use Rattle.mpy_base.specs.World.{PortState}
use Rattle.vm_machine.specs.vm_frames.py_effects.Growth.{Prints, Starts}
use Rattle.vm_machine.specs.vm_frames.bc_machine.Library.{Library}
use Rattle.vm_machine.specs.vm_frames.bc_machine.State.{State, Running, Halted, Stuck}
use Rattle.vm_machine.specs.vm_frames.bc_machine.Step.{step}
use Rattle.vm_machine.specs.vm_frames.bc_machine.Machine.{run_of, steps}
use Rattle.vm_machine.specs.vm_frames.bc_machine.Growth.{world_of}
use Rattle.vm_machine.specs.vm_frames.bc_machine.Behind.{behind, state_behind}
use Rattle.vm_machine.specs.vm_frames.Calls.{Call}
use Rattle.vm_machine.specs.state_calls.frame_exits.declared.ends.End.{End}
use Rattle.vm_machine.specs.state_calls.frame_moves.Shown.{running_of}
use Rattle.vm_machine.specs.vm_starting.vm_states.Means.{Program}
use Rattle.vm_machine.specs.vm_starting.declared.opening.Vm.{Vm}
use Rattle.vm_machine.specs.Machine.{paid_state, world_in, machine_of}
use Rattle.board_tasks.specs.Alone.{alone}

-- what the laws of outputs and of the machine say
abbrev pub StepsBehind : Type 0
StepsBehind = (library : Library) (n : ℕ) (s : State) (front : List ℕ) → steps library n (state_behind front s) ≡ state_behind front (steps library n s)

abbrev pub StepPrints : Type 0
StepPrints = (library : Library) (s : State) → Prints (world_of s) (world_of (step library s))

abbrev pub output_of : State → List ℕ
output_of s = (run_of s).world.output

-- the state with this output in the place of its own
abbrev printing : List ℕ → State → State
printing out (Running paid frame frames w) = Running paid frame frames (record w { output = out })
printing out (Halted end w) = Halted end (record w { output = out })
printing out (Stuck w) = Stuck (record w { output = out })

printing_behind : (out front : List ℕ) (s : State) → printing out (state_behind front s) ≡ printing out s
printing_behind out front (Running paid frame frames w) = refl
printing_behind out front (Halted end w) = refl
printing_behind out front (Stuck w) = refl

printing_own : (s : State) → printing (output_of s) s ≡ s
printing_own (Running paid frame frames w) = refl
printing_own (Halted end w) = refl
printing_own (Stuck w) = refl

pub output_behind : (front : List ℕ) (s : State) → output_of (state_behind front s) ≡ front ++ output_of s
output_behind front (Running paid frame frames w) = refl
output_behind front (Halted end w) = refl
output_behind front (Stuck w) = refl

same_world : (s : State) → (world_of s).output ≡ output_of s
same_world (Running paid frame frames w) = refl
same_world (Halted end w) = refl
same_world (Stuck w) = refl

module _ (p : Program) where
  paid_printing : (out : List ℕ) (end : Option End) (paid : ℕ) (calls : List Call) (w : PlainWorld) → printing out (paid_state p end paid calls w) ≡ paid_state p end paid calls (record w { output = out })
  paid_printing out None paid [] w = refl
  paid_printing out None paid (c ∷ cs) w = refl
  paid_printing out (Some end) paid calls w = refl

  paid_output : (end : Option End) (paid : ℕ) (calls : List Call) (w : PlainWorld) → output_of (paid_state p end paid calls w) ≡ w.output
  paid_output None paid [] w = refl
  paid_output None paid (c ∷ cs) w = refl
  paid_output (Some end) paid calls w = refl

  paid_behind : (front : List ℕ) (end : Option End) (paid : ℕ) (calls : List Call) (w : PlainWorld) → state_behind front (paid_state p end paid calls w) ≡ paid_state p end paid calls (behind front w)
  paid_behind front None paid [] w = refl
  paid_behind front None paid (c ∷ cs) w = refl
  paid_behind front (Some end) paid calls w = refl

  machine_output : (vm : Vm) (w : PlainWorld) → output_of (machine_of p vm w) ≡ w.output
  machine_output vm w = paid_output vm.end vm.paid vm.frames.calls (world_in p vm w)

  machine_printing : (out : List ℕ) (vm : Vm) (w : PlainWorld) → printing out (machine_of p vm w) ≡ machine_of p vm (record w { output = out })
  machine_printing out vm w = paid_printing out vm.end vm.paid vm.frames.calls (world_in p vm w)

  -- a world without ports is one that is alone
  machine_alone : (vm : Vm) (w : PlainWorld) → w.ports ≡ [] → machine_of p vm w ≡ machine_of p vm (alone w.output)
  machine_alone vm w none = ap (λ (ports : List PortState). paid_state p vm.end vm.paid vm.frames.calls (record (world_in p vm w) { ports = ports })) none

  -- more in front of what was printed
  pub behind_alone : (front printed : List ℕ) (vm : Vm) → state_behind front (machine_of p vm (alone printed)) ≡ machine_of p vm (alone (front ++ printed))
  behind_alone front printed vm = paid_behind front vm.end vm.paid vm.frames.calls (world_in p vm (alone printed))

  behind_nothing : (front : List ℕ) (vm : Vm) → state_behind front (machine_of p vm (alone [])) ≡ machine_of p vm (alone front)
  behind_nothing front vm = behind_alone front [] vm ∙ ap (λ (out : List ℕ). machine_of p vm (alone out)) (append-nil front)

  module _ (steps_behind : StepsBehind) (count : ℕ) (old : Vm) where
    -- the steps behind nothing
    abbrev pub made : State
    made = steps p.library count (machine_of p old (alone []))

    pub made_behind : (front : List ℕ) → steps p.library count (machine_of p old (alone front)) ≡ state_behind front made
    made_behind front = ap (steps p.library count) (sym (behind_nothing front old)) ∙ steps_behind p.library count (machine_of p old (alone [])) front

    -- they come to the same machine behind any output
    module _ (new : Vm) (front : List ℕ) (after : PlainWorld) (none : after.ports ≡ []) (comes : steps p.library count (machine_of p old (alone front)) ≡ machine_of p new after) where
      at : state_behind front made ≡ machine_of p new after
      at = sym (made_behind front) ∙ comes

      pub made_is : made ≡ machine_of p new (alone (output_of made))
      made_is =
          let out = output_of made in
          sym (printing_own made) ∙ (sym (printing_behind out front made) ∙ (ap (printing out) at
          ∙ (machine_printing out new after ∙ machine_alone new (record after { output = out }) none)))

      pub output_is : after.output ≡ front ++ output_of made
      output_is = sym (machine_output new after) ∙ (ap output_of (sym at) ∙ output_behind front made)

      pub comes_behind : (earlier : List ℕ) → steps p.library count (machine_of p old (alone earlier)) ≡ machine_of p new (alone (earlier ++ output_of made))
      comes_behind earlier = made_behind earlier ∙ (ap (state_behind earlier) made_is ∙ behind_alone earlier (output_of made) new)

-- what was printed stays in front
module _ (prints : StepPrints) (library : Library) where
  starts_on : (a b c : List ℕ) → Starts a b → Starts b c → Starts a c
  starts_on a b c x y = (x.0 ++ y.0, y.1 ∙ (ap (λ (front : List ℕ). front ++ y.0) x.1 ∙ append_assoc a x.0 y.0))

  one_on : (s : State) → Starts (output_of s) (output_of (step library s))
  one_on s =
      let more = (prints library s).more in
      (more.0, sym (same_world (step library s)) ∙ (more.1 ∙ ap (λ (out : List ℕ). out ++ more.0) (same_world s)))

  pub begins : (n : ℕ) (s : State) → Starts (output_of s) (output_of (steps library n s))
  begins zero s = ([], sym (append-nil (output_of s)))
  begins (suc n) s = starts_on (output_of s) (output_of (step library s)) (output_of (steps library n (step library s))) (one_on s) (begins n (step library s))
