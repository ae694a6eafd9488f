-- Locals that are read and emptied.
use Rattle.std.proofs.Common.{◌≡◌, ℕ, zero, suc, List, [], ◌∷◌, map, Option, Some, None, Result, slice_get, slice_set, refl, ap, ◌∙◌}
use Rattle.std.specs.Option.{option_map}
use Rattle.std.specs.Prelude.{option_and_then}
use Rattle.frame_moves.specs.mpy_base.World.{Heap}
use Rattle.frame_moves.specs.mpy_base.Val.{Val, PlainWorld}
use Rattle.prim_names.specs.arena_heap.declared.value.Value.{Value}
use Rattle.prim_names.specs.arena_heap.declared.value.StrNo.{StrNo}
use Rattle.prim_names.specs.arena_heap.declared.value.ConstNo.{ConstNo}
use Rattle.frame_moves.specs.bc_ops.declared.instr.Op.TheVariants as ops
use Rattle.frame_moves.specs.bc_ops.declared.instr.Instr.TheVariants as instrs
use Rattle.frame_moves.specs.py_effects.Effect.{Effect}
use Rattle.frame_moves.specs.py_effects.Names.{assigned, load_local, without_local}
use Rattle.prim_names.specs.prim_walks.Plain.{plain}
use Rattle.prim_names.specs.prim_faults.declared.stop.Stop.{Stop}
use Rattle.prim_names.specs.prim_faults.Sights.{world_over}
use Rattle.frame_moves.specs.vm_frames.Calls.{Call, Calls, OfRunning}
use Rattle.frame_moves.specs.bc_labels.Positions.{position_in}
use Rattle.frame_moves.specs.vm_frames.Views.{View, slots_of, locals_of, entries_of, starts_of, position_of, frame_of}
use Rattle.frame_moves.specs.bc_machine.Library.{Plain}
use Rattle.frame_moves.specs.bc_machine.State as states
use Rattle.frame_moves.specs.bc_machine.State.{State, Running, go}
use Rattle.frame_moves.specs.bc_machine.Step as step
use Rattle.frame_moves.specs.Shown.{view_of}
use Rattle.frame_moves.proofs.Stepping.{both, goes_to}
use Rattle.frame_values.specs.Slots.{with_empty}
use Rattle.frame_values.specs.Settled.{Settles}
use Rattle.frame_values.specs.Effects.{Layout, tables_of, Steps}
use Rattle.frame_values.proofs.Items.{get_map}
use Rattle.frame_values.proofs.Settling.{Answers, does}

set-map : {A B : Type 0} (f : A → B) (xs : List A) (i : ℕ) (x : A) → slice_set (map f xs) i (f x) ≡ map f (slice_set xs i x)
set-map f [] i x = refl
set-map f (y ∷ xs) zero x = refl
set-map f (y ∷ xs) (suc i) x = ap (λ z. f y ∷ z) (set-map f xs i x)

-- the local as the machine loads it
pub loaded : (view : View) (w : PlainWorld) (locals : List (Option Value)) (n : ℕ) (local : Option Value) → slice_get locals n ≡ Some local
    → load_local w (locals_of view locals) n ≡ assigned w (option_map view.plain local)
loaded view w locals n local e = ap (λ (o : Option (Option Val)). assigned w (option_and_then (λ v. v) o)) (get_map (option_map view.plain) locals n local e)

-- on with an empty local
emptied : (view : View) (c : Call) (n end : ℕ) (frames : List states.Frame) (w : PlainWorld) → position_in (starts_of view c) end ≡ suc (position_of view c)
    → go (suc (position_of view c)) (slots_of view (starts_of view c) c.slots) (entries_of (starts_of view c) (position_of view c) c.entries)
    (record (frame_of view c) { locals = without_local (locals_of view c.locals) n }) frames w
    ≡ Running 0 (frame_of view (with_empty n end c)) frames w
emptied view c n end frames w e =
    let F = frame_of view c in
    let starts = starts_of view c in
    ap (λ (z : List (Option Val)). go (suc (position_of view c)) (slots_of view starts c.slots) (entries_of starts (position_of view c) c.entries) (record F { locals = z }) frames w)
    (set-map (option_map view.plain) c.locals n None)
    ∙ goes_to view (record c { locals = slice_set c.locals n None }) (suc (position_of view c)) end c.slots frames w e

module _ (texts : StrNo → Option (List ℕ)) (tuples : ConstNo → Option (List Value)) (end n : ℕ) (heap : Heap Value ℕ) (old new : Calls) (result : Result (Unit {0}) Stop) (local : Option Value) (given : Result Value Stop)
    (answers : Answers texts tuples heap heap given 0 (λ w. assigned w (option_map (plain texts tuples) local))) (settled : Settles (λ (v : Value). with_empty n end) given old new result) where
  abbrev Has : Call → Type 0
  Has c = slice_get c.locals n ≡ Some local

  abbrev Next : Layout → Call → Type 0
  Next layout c = let view = view_of (tables_of texts tuples layout) in position_in (starts_of view c) end ≡ suc (position_of view c)

  abbrev behind : View → Call → List states.Frame → Val → PlainWorld → State
  behind view c frames v w = go (suc (position_of view c)) (frame_of view c).slots (frame_of view c).entries (record (frame_of view c) { locals = without_local (locals_of view c.locals) n }) frames w

  pub empties_steps : OfRunning Has old.calls → Steps texts tuples (Plain (instrs.Num ops.DeleteFast n)) 0 end heap heap old.calls new.calls result
  empties_steps p layout next =
      let view = view_of (tables_of texts tuples layout) in
      does texts tuples (λ (v : Value). with_empty n end) old new result layout (Plain (instrs.Num ops.DeleteFast n)) 0 heap heap (λ c. Has c × Next layout c) (λ w. assigned w (option_map (plain texts tuples) local)) (behind view)
      (λ library place paid c frames w h. ap (λ (e : Effect Val). step.does library place paid (frame_of view c) frames (world_over texts tuples w heap) e (behind view c frames)) (loaded view (world_over texts tuples w heap) c.locals n local h.0))
      (λ v c frames w h. emptied view c n end frames w h.1)
      given answers (both Has (Next layout) old.calls p next) settled
