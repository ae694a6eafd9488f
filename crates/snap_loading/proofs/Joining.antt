-- Machines whose worlds and frames are the same are in the same state.
use Rattle.std.proofs.Common.{◌≡◌, ℕ, List, [], ◌∷◌, map, drop, Option, Some, None, slice_get, sym, ap, ap₂, subst}
use Rattle.mpy_base.specs.Val.{PlainWorld}
use Rattle.bc_machine.specs.State.{Frame, State, Running}
use Rattle.vm_starting.specs.vm_states.frame_exits.declared.ends.End.{End}
use Rattle.vm_starting.specs.vm_states.frame_moves.Shown.{running_of, view_of}
use Rattle.vm_starting.specs.vm_states.vm_frames.Calls.{Call}
use Rattle.vm_starting.specs.vm_states.vm_frames.Views.{frame_of}
use Rattle.vm_starting.specs.vm_states.Means.{Program}
use Rattle.vm_machine.specs.Machine.{paid_state}
use Rattle.snap_laws.specs.Renamed.{Renaming}
use Rattle.snap_laws.specs.Worlds.{IsWorld}
use Rattle.snap_laws.specs.States.{frame_as, IsState, runs, sticks}

some_is : {A : Type 0} (x y : A) → Some x ≡ Some y → x ≡ y
some_is x y e = cc

module _ (p : Program) (r : Renaming) where
  abbrev frames : List Call → List Frame
  frames calls = map (frame_of (view_of p.tables)) calls

  running_same : (calls others : List Call) (paid : ℕ) (w u : PlainWorld) → IsWorld r w u → frames others ≡ map (frame_as r) (frames calls)
      → IsState r (running_of p.tables paid calls w) (running_of p.tables paid others u)
  running_same [] [] paid w u world e = sticks world
  running_same [] (d ∷ ds) paid w u world e = absurd cc
  running_same (c ∷ cs) [] paid w u world e = absurd cc
  running_same (c ∷ cs) (d ∷ ds) paid w u world e =
      let first : frame_of (view_of p.tables) d ≡ frame_as r (frame_of (view_of p.tables) c) = some_is _ _ (ap (λ (z : List Frame). slice_get z 0) e) in
      let rest : frames ds ≡ map (frame_as r) (frames cs) = ap (λ (z : List Frame). drop 1 z) e in
      subst (λ (z : State). IsState r (Running paid (frame_of (view_of p.tables) c) (frames cs) w) z) (sym (ap₂ (λ (a : Frame) (b : List Frame). Running paid a b u) first rest)) (runs world)

  pub states_same : (a b : Option End) (calls others : List Call) (paid other_paid : ℕ) (w u : PlainWorld) → a ≡ None → b ≡ None → paid ≡ other_paid → IsWorld r w u
      → frames others ≡ map (frame_as r) (frames calls) → IsState r (paid_state p a paid calls w) (paid_state p b other_paid others u)
  states_same a b calls others paid other_paid w u e f paid_same world same =
      subst (λ (z : Option End). IsState r (paid_state p z paid calls w) (paid_state p b other_paid others u)) (sym e)
      (subst (λ (z : Option End). IsState r (running_of p.tables paid calls w) (paid_state p z other_paid others u)) (sym f)
      (subst (λ (k : ℕ). IsState r (running_of p.tables paid calls w) (running_of p.tables k others u)) paid_same (running_same calls others paid w u world same)))
