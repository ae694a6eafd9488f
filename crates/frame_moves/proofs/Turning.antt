-- Slots that move: what frames do, and what the machine does.
use Rattle.std.proofs.Common.{◌≡◌, ℕ, suc, ◌<◌, List, [], ◌∷◌, length, drop, Some, slice_get, slice_set, refl, sym, ap, ◌∙◌, arith}
use Rattle.std.proofs.lemmas.Option.{none-some, same_Some}
use Rattle.prim_raising.specs.mpy_base.Val.{PlainWorld}
use Rattle.vm_frames.specs.py_effects.Effect.{Place}
use Rattle.vm_frames.specs.bc_ops.declared.instr.Op.TheVariants as ops
use Rattle.vm_frames.specs.declared.slot.Slot.{Slot}
use Rattle.vm_frames.specs.Views.{View, slots_of}
use Rattle.vm_frames.specs.bc_machine.Library.{Library}
use Rattle.vm_frames.specs.bc_machine.State as states
use Rattle.vm_frames.specs.bc_machine.State.{go}
use Rattle.vm_frames.specs.bc_machine.Step.{plain_step}
use Rattle.frame_moves.specs.Stacks.{doubled, doubled_two, turned_two, turned_three}

-- frames
-- ======

pub doubled_is : (st : List Slot) (a : Slot) → slice_get st 0 ≡ Some a → a ∷ st ≡ doubled st
doubled_is [] a e = absurd (none-some a e)
doubled_is (x ∷ st) a e = ap (λ (z : Slot). z ∷ x ∷ st) (sym (same_Some x a e))

pub doubled_two_is : (st : List Slot) (a b : Slot) → slice_get st 0 ≡ Some a → slice_get st 1 ≡ Some b → a ∷ b ∷ st ≡ doubled_two st
doubled_two_is [] a b e f = absurd (none-some a e)
doubled_two_is (x ∷ []) a b e f = absurd (none-some b f)
doubled_two_is (x ∷ y ∷ st) a b e f = ap (λ (z : Slot). z ∷ b ∷ x ∷ y ∷ st) (sym (same_Some x a e)) ∙ ap (λ (z : Slot). x ∷ z ∷ x ∷ y ∷ st) (sym (same_Some y b f))

pub turned_two_is : (st : List Slot) (a b : Slot) → slice_get st 0 ≡ Some a → slice_get st 1 ≡ Some b → slice_set (slice_set st 0 b) 1 a ≡ turned_two st
turned_two_is [] a b e f = absurd (none-some a e)
turned_two_is (x ∷ []) a b e f = absurd (none-some b f)
turned_two_is (x ∷ y ∷ st) a b e f = ap (λ (z : Slot). b ∷ z ∷ st) (sym (same_Some x a e)) ∙ ap (λ (z : Slot). z ∷ x ∷ st) (sym (same_Some y b f))

pub turned_three_is : (st : List Slot) (a b c : Slot) → slice_get st 0 ≡ Some a → slice_get st 1 ≡ Some b → slice_get st 2 ≡ Some c
    → slice_set (slice_set (slice_set st 0 b) 1 c) 2 a ≡ turned_three st
turned_three_is [] a b c e f g = absurd (none-some a e)
turned_three_is (x ∷ []) a b c e f g = absurd (none-some b f)
turned_three_is (x ∷ y ∷ []) a b c e f g = absurd (none-some c g)
turned_three_is (x ∷ y ∷ z ∷ st) a b c e f g =
    ap (λ (s : Slot). b ∷ c ∷ s ∷ st) (sym (same_Some x a e)) ∙ ap (λ (s : Slot). s ∷ c ∷ x ∷ st) (sym (same_Some y b f)) ∙ ap (λ (s : Slot). y ∷ s ∷ x ∷ st) (sym (same_Some z c g))

-- the machine
-- ===========

module _ (view : View) (starts : List ℕ) (library : Library) (place : Place) (paid : ℕ) (frame : states.Frame) (frames : List states.Frame) (w : PlainWorld) where
  abbrev On : List Slot → states.State
  On st = go (suc frame.position) (slots_of view starts st) frame.entries frame frames w

  pub dup_top : (st : List Slot) → 0 < length st → plain_step library place paid frame frames w ops.DupTop (slots_of view starts st) ≡ On (doubled st)
  dup_top [] h = absurd (omega (arith, h))
  dup_top (a ∷ st) h = refl

  pub dup_top_two : (st : List Slot) → 1 < length st → plain_step library place paid frame frames w ops.DupTopTwo (slots_of view starts st) ≡ On (doubled_two st)
  dup_top_two [] h = absurd (omega (arith, h))
  dup_top_two (a ∷ []) h = absurd (omega (arith, h))
  dup_top_two (a ∷ b ∷ st) h = refl

  pub pop_top : (st : List Slot) → 0 < length st → plain_step library place paid frame frames w ops.PopTop (slots_of view starts st) ≡ On (drop 1 st)
  pop_top [] h = absurd (omega (arith, h))
  pop_top (a ∷ st) h = refl

  pub rot_two : (st : List Slot) → 1 < length st → plain_step library place paid frame frames w ops.RotTwo (slots_of view starts st) ≡ On (turned_two st)
  rot_two [] h = absurd (omega (arith, h))
  rot_two (a ∷ []) h = absurd (omega (arith, h))
  rot_two (a ∷ b ∷ st) h = refl

  pub rot_three : (st : List Slot) → 2 < length st → plain_step library place paid frame frames w ops.RotThree (slots_of view starts st) ≡ On (turned_three st)
  rot_three [] h = absurd (omega (arith, h))
  rot_three (a ∷ []) h = absurd (omega (arith, h))
  rot_three (a ∷ b ∷ []) h = absurd (omega (arith, h))
  rot_three (a ∷ b ∷ c ∷ st) h = refl
