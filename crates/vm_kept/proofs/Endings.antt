-- The running call at the end of a finally.
use Rattle.std.proofs.Common.{◌≡◌, ℕ, suc, ◌<◌, List, [], ◌∷◌, length, Bool, true, false, Some, All, refl, sym, ap, ◌∙◌, subst, arith, if◌then◌else◌, ◌⊎◌, inl, inr}
use Rattle.std.specs.Prelude.{slice_get, nat_eq}
use Rattle.std.proofs.lemmas.Bool.{eqb-true}
use Rattle.std.proofs.lemmas.List.Elements.{All-head}
use Rattle.std.proofs.lemmas.Option.{same_Some}
use Rattle.state_calls.specs.mpy_base.World.{AnException, Objects, IsA}
use Rattle.state_calls.specs.mpy_base.Val.{Val, Nil, At}
use Rattle.state_calls.specs.arena_heap.declared.value.Value.{Value}
use Rattle.state_calls.specs.bc_labels.Positions.{Starts, position_in}
use Rattle.state_calls.specs.bc_machine.Library.{Code}
use Rattle.state_calls.specs.bc_machine.State as states
use Rattle.state_calls.specs.bc_machine.State.{Frame}
use Rattle.state_calls.specs.bc_progress.Fits.{StandsIn}
use Rattle.state_calls.specs.bc_progress.Known.{facts_of}
use Rattle.state_calls.specs.bc_rows.declared.row.Row.{Row}
use Rattle.state_calls.specs.vm_states.OnTop as tops
use Rattle.state_calls.specs.vm_states.OnTop.{IsCause, Ending}
use Rattle.state_calls.specs.prim_faults.Faults.{IsKnown}
use Rattle.state_calls.specs.vm_frames.declared.slot.Slot.{Slot}
use Rattle.state_calls.specs.vm_frames.declared.slot.Slot.TheVariants as slots
use Rattle.state_calls.specs.vm_frames.Calls.{Call, Calls, OfRunning}
use Rattle.state_calls.specs.vm_frames.Views.{slot_of, slots_of, starts_of, frame_of}
use Rattle.state_calls.specs.frame_moves.Shown.{view_of, value_of, IsTop}
use Rattle.state_calls.specs.frame_exits.declared.causes.Cause.{Cause}
use Rattle.state_calls.specs.frame_exits.declared.causes.Cause.TheVariants as causes
use Rattle.state_calls.specs.frame_exits.Causes.{cause_slot}
use Rattle.state_calls.specs.vm_states.Means.{Program, Means}
use Rattle.state_calls.specs.vm_states.Ready.{IsReady}
use Rattle.state_calls.specs.vm_states.State.{IsKnownSlot, IsKnownCall, IsState}
use Rattle.state_exits.specs.Keeping.{TargetStarts, KeepsCause}
use Rattle.state_exits.specs.Running.{fetched_finish}
use Rattle.vm_kept.specs.Kept.{KeepCalls, HoldsKept}
use Rattle.vm_kept.proofs.Causes as kept

-- positions
-- =========

-- an offset whose position is below the number of starts is one
pub starts_there : (starts : List ℕ) (offset : ℕ) → position_in starts offset < length starts → Starts starts offset
starts_there [] offset lt = absurd (omega (arith, lt))
starts_there (start ∷ starts) offset lt = by (nat_eq start offset) refl lt (λ less. starts_there starts offset less)
  where
    by : (b : Bool) → nat_eq start offset ≡ b → (if b then 0 else suc (position_in starts offset)) < length (start ∷ starts) → (position_in starts offset < length starts → Starts starts offset)
        → slice_get (start ∷ starts) (if b then 0 else suc (position_in starts offset)) ≡ Some offset
    by true e lt k = ap Some (eqb-true start offset e)
    by false e lt k = k (omega (arith, lt))

-- causes
-- ======

abbrev Or : Val → Type 0
Or w = (w ≡ Nil) ⊎ ((k : ℕ) × (w ≡ At k))

same_value : (v w : Val) → states.Value v ≡ states.Value w → v ≡ w
same_value v w e = cc

value_cause : (entries : ℕ) (w : Val) (x : states.Slot) → IsCause entries x → x ≡ states.Value w → Or w
value_cause entries w x tops.nothing e = inl (sym (same_value Nil w e))
value_cause entries w x (tops.exception k) e = inr (k, sym (same_value (At k) w e))
value_cause entries w x (tops.returned v) e = absurd cc
value_cause entries w x (tops.jump target count it few) e = absurd cc

no_cause : (entries : ℕ) (x : states.Slot) → IsCause entries x → ((v : Val) → x ≡ states.Value v → ⊥) → ((v : Val) → x ≡ states.KeptReturn v → ⊥) → ((target count : ℕ) (it : Bool) → x ≡ states.KeptJump target count it → ⊥) → ⊥
no_cause entries x tops.nothing v r j = v Nil refl
no_cause entries x (tops.exception k) v r j = v (At k) refl
no_cause entries x (tops.returned u) v r j = r u refl
no_cause entries x (tops.jump target count it few) v r j = j target count it refl

module _ (p : Program) (objects : Objects Value ℕ) (means : Means p) (row : Row) (end : ℕ) (s : Calls) (state : IsState p objects s) (r : IsReady p s row (fetched_finish end)) (holds : HoldsKept p objects s) where
  abbrev c : Call
  c = r.first

  abbrev frame : Frame
  frame = frame_of (view_of p.tables) c

  abbrev starts : List ℕ
  starts = starts_of (view_of p.tables) c

  stands : StandsIn (facts_of objects) p.plans p.library frame
  stands = let h : KeepCalls p objects (c ∷ r.others) = subst (KeepCalls p objects) r.are holds.calls in h.0

  known : IsKnownCall p objects c
  known = All-head (IsKnownCall p objects) c r.others (subst (All (IsKnownCall p objects)) r.are state.known)

  ending : Ending frame.slots frame.entries
  ending = r.finds

  code_same : r.code ≡ stands.code
  code_same = same_Some r.code stands.code (sym r.code_is ∙ stands.code_is)

  line_is : slice_get stands.code.lines frame.position ≡ Some r.line
  line_is = subst (λ (z : Code). slice_get z.lines frame.position ≡ Some r.line) code_same r.line_is

  exceptions : (n : ℕ) → slice_get frame.slots 0 ≡ Some (states.Value (At n)) → IsA objects AnException n
  exceptions n e = kept.exception_known (facts_of objects) p.plans p.library means.follows frame stands r.line line_is r.item_is n e

  targets : (to count : ℕ) (it : Bool) → slice_get frame.slots 0 ≡ Some (states.KeptJump to count it) → to < length starts
  targets to count it e =
      let lt = kept.target_within (facts_of objects) p.plans p.library means.follows frame stands r.line line_is r.item_is to count it ending.entry ending.others e ending.entries_are in
      let as_many : length stands.code.lines ≡ length starts = subst (λ (z : Code). length z.lines ≡ length starts) code_same r.as_many in
      omega (arith, lt, as_many)

  record Cause_on (st : List Slot) : Type 0 where
    pub cause : Cause
    pub top : slice_get st 0 ≡ Some (cause_slot cause)
    pub target : TargetStarts (view_of p.tables) cause c

  abbrev Tops : List Slot → Type 0
  Tops st = (n : ℕ) → slice_get (slots_of (view_of p.tables) starts st) 0 ≡ Some (states.Value (At n)) → IsA objects AnException n

  abbrev Jumps : List Slot → Type 0
  Jumps st = (to count : ℕ) (it : Bool) → slice_get (slots_of (view_of p.tables) starts st) 0 ≡ Some (states.KeptJump to count it) → to < length starts

  value_on : (v : Value) (st : List Slot) → IsKnown p.tables.texts p.tables.tuples objects v → Or (value_of p.tables v) → Tops (slots.Value v ∷ st) → Cause_on (slots.Value v ∷ st)
  value_on v st k (inl e) exception = record { cause = causes.Nothing; top = ap (λ z. Some (slots.Value z)) (kept.nil_is p.tables.texts p.tables.tuples objects v e); target = tt }
  value_on v st k (inr q) exception =
      let is = exception q.0 (ap (λ z. Some (states.Value z)) q.1) in
      let x = kept.exception_is p.tables.texts p.tables.tuples objects v q.0 k.leads q.1 is in
      record { cause = causes.Exception x.0; top = ap (λ z. Some (slots.Value z)) x.1; target = tt }

  slot_on : (x : Slot) (st : List Slot) → IsKnownSlot p objects x → IsCause (length ending.others) (slot_of (view_of p.tables) starts x) → Tops (x ∷ st) → Jumps (x ∷ st) → Cause_on (x ∷ st)
  slot_on (slots.Value v) st k is exception jump = value_on v st k (value_cause (length ending.others) (value_of p.tables v) (states.Value (value_of p.tables v)) is refl) exception
  slot_on (slots.Return v) st k is exception jump = record { cause = causes.Return v; top = refl; target = tt }
  slot_on (slots.Jump target count it) st k is exception jump = record { cause = causes.Jump target count it; top = refl; target = starts_there starts target (jump (position_in starts target) count it refl) }
  slot_on slots.Null st k is exception jump = absurd (no_cause (length ending.others) states.Null is (λ v e. absurd cc) (λ v e. absurd cc) (λ a b it e. absurd cc))
  slot_on (slots.Object o) st k is exception jump = absurd (no_cause (length ending.others) (slot_of (view_of p.tables) starts (slots.Object o)) is (λ v e. absurd cc) (λ v e. absurd cc) (λ a b it e. absurd cc))
  slot_on (slots.Iter over at part) st k is exception jump = absurd (no_cause (length ending.others) (slot_of (view_of p.tables) starts (slots.Iter over at part)) is (λ v e. absurd cc) (λ v e. absurd cc) (λ a b it e. absurd cc))

  slots_on : (st : List Slot) → All (IsKnownSlot p objects) st → slots_of (view_of p.tables) starts st ≡ ending.cause ∷ ending.below → Tops st → Jumps st → Cause_on st
  slots_on [] k are exception jump = absurd cc
  slots_on (x ∷ st) k are exception jump =
      let f = slot_of (view_of p.tables) starts in
      let same : f x ≡ ending.cause = same_Some (f x) ending.cause (ap (λ z. slice_get z 0) are) in
      slot_on x st (All-head (IsKnownSlot p objects) x st k) (subst (IsCause (length ending.others)) (sym same) ending.is) exception jump

  pub keeps_cause : KeepsCause p s
  keeps_cause =
      let on = slots_on c.slots known.slots ending.slots_are exceptions targets in
      record {
        cause = on.cause;
        top = subst (IsTop (cause_slot on.cause)) (sym r.are) on.top;
        target = subst (OfRunning (TargetStarts (view_of p.tables) on.cause)) (sym r.are) on.target;
      }
