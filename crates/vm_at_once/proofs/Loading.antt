-- A local that is loaded.
use Rattle.std.proofs.Common.{◌≡◌, ℕ, List, drop, Option, Some, slice_get, Result, Ok, Err, refl, sym, ap, subst}
use Rattle.std.specs.Option.{option_map}
use Rattle.state_values.specs.mpy_base.World.{Heap}
use Rattle.state_values.specs.mpy_base.Val.{Val, PlainWorld}
use Rattle.state_values.specs.prim_assignments.arena_heap.declared.value.Value.{Value}
use Rattle.state_values.specs.prim_assignments.arena_heap.declared.value.StrNo.{StrNo}
use Rattle.state_values.specs.prim_assignments.arena_heap.declared.value.ConstNo.{ConstNo}
use Rattle.state_values.specs.bc_progress.bc_ops.declared.instr.Op.TheVariants as ops
use Rattle.state_values.specs.bc_progress.bc_ops.declared.instr.Instr.TheVariants as instrs
use Rattle.state_values.specs.py_effects.Effect.{Effect}
use Rattle.state_values.specs.py_effects.Names.{assigned}
use Rattle.state_values.specs.bc_progress.bc_machine.Library.{Plain}
use Rattle.state_values.specs.prim_assignments.prim_faults.declared.stop.Stop.{Stop}
use Rattle.state_values.specs.prim_assignments.prim_faults.Sights.{Sight, sight_of as sight, world_over}
use Rattle.state_values.specs.prim_raising.Worlds.{HasEffect}
use Rattle.state_values.specs.vm_frames.Calls.{Call, Calls, OfRunning}
use Rattle.state_values.specs.vm_frames.Views.{starts_of, frame_of}
use Rattle.state_values.specs.frame_moves.Shown.{view_of}
use Rattle.state_values.specs.frame_values.Effects.{tables_of, Steps, Leaves}
use Rattle.state_values.specs.frame_values.Settled.{Settles}
use Rattle.state_values.specs.frame_values.Slots.{Puts, with_value}
use Rattle.state_values.proofs.frame_values_lemmas.Emptying.{loaded}
use Rattle.state_values.proofs.frame_values_lemmas.Items as items
use Rattle.state_values.proofs.frame_values_lemmas.Settling as settling
use Rattle.state_values.proofs.frame_values_lemmas.Settling.{Answers, of_effect, puts_steps}

module _ (texts : StrNo → Option (List ℕ)) (tuples : ConstNo → Option (List Value)) (heap : Heap Value ℕ) (old new : Calls) (n end : ℕ) (local : Option Value)
    (there : OfRunning (λ c. slice_get c.locals n ≡ Some local) old.calls) (given : Result Value Stop) (does : HasEffect texts tuples heap heap given (λ w see. assigned w (option_map see.value local)))
    (result : Result (Unit {0}) Stop) (settled : Settles (with_value end 0) given old new result) where
  abbrev assigns : PlainWorld → Sight → Effect Val
  assigns w see = assigned w (option_map see.value local)

  answers : Answers texts tuples heap heap given 0 (λ w. assigns w (sight texts tuples))
  answers = of_effect texts tuples heap heap given assigns does

  pub short : Steps texts tuples (Plain (instrs.Num ops.LoadFast n)) 0 end heap heap old.calls new.calls result
  short =
      puts_steps texts tuples end 0 heap heap old new result given 0 (λ w. assigns w (sight texts tuples)) answers (Plain (instrs.Num ops.LoadFast n)) (λ (d : Call). slice_get d.locals n ≡ Some local) there
      (λ layout library place paid d frames w h.
      let view = view_of (tables_of texts tuples layout) in
      ap (λ (e : Effect Val). items.Gave view (starts_of view d) library place paid (frame_of view d) frames (world_over texts tuples w heap) (drop 0 d.slots) e) (loaded view (world_over texts tuples w heap) d.locals n local h))
      settled

  pub long : Steps texts tuples (Plain (instrs.Num ops.LoadFastN n)) 0 end heap heap old.calls new.calls result
  long =
      puts_steps texts tuples end 0 heap heap old new result given 0 (λ w. assigns w (sight texts tuples)) answers (Plain (instrs.Num ops.LoadFastN n)) (λ (d : Call). slice_get d.locals n ≡ Some local) there
      (λ layout library place paid d frames w h.
      let view = view_of (tables_of texts tuples layout) in
      ap (λ (e : Effect Val). items.Gave view (starts_of view d) library place paid (frame_of view d) frames (world_over texts tuples w heap) (drop 0 d.slots) e) (loaded view (world_over texts tuples w heap) d.locals n local h))
      settled

  pub moved : Puts texts tuples heap.objects (with_value end 0) old new result
  moved = settling.moved texts tuples (with_value end 0) old new result heap heap given 0 (λ w. assigns w (sight texts tuples)) answers settled

  pub leaves : Leaves texts tuples heap heap result
  leaves = settling.leaves texts tuples (with_value end 0) old new result heap heap given 0 (λ w. assigns w (sight texts tuples)) answers settled

-- the running call has the value, or the stop is passed on
pub is_put : (end : ℕ) (old new : Calls) (given : Result Value Stop) (v : Value) → given ≡ Ok v → Settles (with_value end 0) (Ok v) old new (Ok tt) → Settles (with_value end 0) given old new (Ok tt)
is_put end old new given v is h = subst (λ (r : Result Value Stop). Settles (with_value end 0) r old new (Ok tt)) (sym is) h

pub is_left : (end : ℕ) (old : Calls) (given : Result Value Stop) (stop : Stop) → given ≡ Err stop → Settles (with_value end 0) given old old (Err stop)
is_left end old given stop is = subst (λ (r : Result Value Stop). Settles (with_value end 0) r old old (Err stop)) (sym is) (refl, refl)
