-- A local gets the top value.
use Rattle.std.proofs.Common.{◌≡◌, ℕ, suc, List, [], ◌∷◌, drop, Some, slice_get, slice_set, refl, ap, ◌∙◌}
use Rattle.prim_raising.specs.mpy_base.Val.{PlainWorld}
use Rattle.vm_frames.specs.py_effects.Effect.{Place}
use Rattle.vm_frames.specs.bc_ops.declared.instr.Op.TheVariants as ops
use Rattle.prim_raising.specs.prim_faults.arena_heap.declared.value.Value.{Value}
use Rattle.vm_frames.specs.declared.slot.Slot.{Slot}
use Rattle.vm_frames.specs.declared.slot.Slot.TheVariants as slots
use Rattle.vm_frames.specs.Calls.{Call, Calls, on_running}
use Rattle.vm_frames.specs.Views.{View, slots_of}
use Rattle.vm_frames.specs.bc_machine.Library.{Library}
use Rattle.vm_frames.specs.bc_machine.State as states
use Rattle.vm_frames.specs.bc_machine.State.{State, go}
use Rattle.vm_frames.specs.bc_machine.Step.{number_step}
use Rattle.frame_moves.specs.Shown.{IsTop}
use Rattle.frame_moves.proofs.Changing.{then_is, at_end}
use Rattle.frame_moves.proofs.Testing.{on_top}

module _ (view : View) (starts : List ℕ) (library : Library) (place : Place) (paid : ℕ) (frame : states.Frame) (frames : List states.Frame) (w : PlainWorld) (n : ℕ) where
  abbrev With : Value → List Slot → State
  With v st = go (suc frame.position) (slots_of view starts st) frame.entries (record frame { locals = slice_set frame.locals n (Some (view.plain v)) }) frames w

  pub short : (st : List Slot) (v : Value) → slice_get st 0 ≡ Some (slots.Value v) → number_step library place paid frame frames w ops.StoreFast n (slots_of view starts st) ≡ With v (drop 1 st)
  short st v e = on_top (λ z. number_step library place paid frame frames w ops.StoreFast n (slots_of view starts z) ≡ With v (drop 1 z)) st (slots.Value v) e refl

  pub long : (st : List Slot) (v : Value) → slice_get st 0 ≡ Some (slots.Value v) → number_step library place paid frame frames w ops.StoreFastN n (slots_of view starts st) ≡ With v (drop 1 st)
  long st v e = on_top (λ z. number_step library place paid frame frames w ops.StoreFastN n (slots_of view starts z) ≡ With v (drop 1 z)) st (slots.Value v) e refl

pub top_value : (cs : List Call) (s : Slot) (v : Value) → IsTop s cs → s ≡ slots.Value v → IsTop (slots.Value v) cs
top_value [] s v p e = p
top_value (c ∷ cs) s v p e = p ∙ ap Some e

abbrev pub stored : (n : ℕ) → Value → (end : ℕ) → Call → Call
stored n v end c = record c { at = end; slots = drop 1 c.slots; locals = slice_set c.locals n (Some v) }

abbrev pub popped : Call → Call
popped c = record c { slots = drop 1 c.slots }

abbrev pub with_local : ℕ → Value → Call → Call
with_local n v c = record c { locals = slice_set c.locals n (Some v) }

pub storing : (n : ℕ) (v : Value) (end : ℕ) (s0 s1 s2 s3 : Calls) → s1 ≡ on_running popped s0 → s2 ≡ on_running (with_local n v) s1 → s3 ≡ on_running (at_end end) s2
    → s3 ≡ on_running (stored n v end) s0
storing n v end s0 s1 s2 s3 d e f =
    then_is (λ c. with_local n v (popped c)) (at_end end) s0 s2 s3 (then_is popped (with_local n v) s0 s1 s2 d e) f
