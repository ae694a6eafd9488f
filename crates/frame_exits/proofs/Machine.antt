-- The machine's imports.
use Rattle.std.proofs.Common.{◌≡◌, ℕ, suc, ◌≤◌, List, [], ◌∷◌, length, map, take, drop, Bool, true, false, Option, Some, None, Err, slice_get, refl, sym, ap, ◌∙◌, subst, if◌then◌else◌}
use Rattle.std.specs.Prelude.{nat_lt, IsSome}
use Rattle.std.proofs.lemmas.Option.{none-some, same_Some}
use Rattle.std.proofs.lemmas.List.{length-map}
use Rattle.mpy_base.specs.declared.limits.TheConstants.{MAX_CALLS}
use Rattle.mpy_base.specs.World.{Heap}
use Rattle.mpy_base.specs.Val.{Val, Nil, PlainWorld}
use Rattle.frame_moves.specs.bc_ops.declared.instr.Op.TheVariants as ops
use Rattle.frame_moves.specs.arena_heap.declared.value.Value.{Value}
use Rattle.frame_moves.specs.arena_heap.declared.value.StrNo.{StrNo}
use Rattle.frame_moves.specs.arena_heap.declared.value.StrNo.TheVariants as strs
use Rattle.frame_moves.specs.arena_heap.declared.value.ConstNo.{ConstNo}
use Rattle.frame_moves.specs.py_values.Shown.{shown}
use Rattle.frame_moves.specs.py_primitives.Faults.{NoModule, RelativeImport}
use Rattle.frame_moves.specs.py_effects.Effect.{Place, fault_at}
use Rattle.frame_moves.specs.py_effects.Modules.{prefixes, module_named}
use Rattle.bc_library.specs.Shelf.{Shelf}
use Rattle.frame_moves.specs.bc_machine.Library as machine
use Rattle.frame_moves.specs.bc_machine.Library.{Name, Names, Library, Entry, Holds, entry_in}
use Rattle.frame_moves.specs.bc_machine.State as states
use Rattle.frame_moves.specs.bc_machine.State.{State, fail, go}
use Rattle.frame_moves.specs.bc_machine.Parts.{is_zero, first_absent, has_depth}
use Rattle.frame_moves.specs.bc_machine.Step as step
use Rattle.frame_moves.specs.prim_walks.Plain.{plain_name}
use Rattle.frame_moves.specs.prim_faults.declared.stop.Stop.{Stop}
use Rattle.frame_moves.specs.prim_faults.declared.stop.Stop.TheVariants as stops
use Rattle.frame_moves.specs.prim_faults.Outcomes.{IsKnownAnswer}
use Rattle.frame_moves.specs.vm_frames.declared.slot.Slot.{Slot}
use Rattle.frame_moves.specs.vm_frames.declared.slot.Slot.TheVariants as slots
use Rattle.frame_moves.specs.vm_frames.Calls.{Call, Calls, on_running}
use Rattle.frame_moves.specs.bc_labels.Positions.{position_in}
use Rattle.frame_moves.specs.vm_frames.Views.{slots_of, starts_of, position_of, frame_of}
use Rattle.frame_moves.specs.Shown.{Tables, value_of, view_of, step_of, Steps, IsNext}
use Rattle.frame_moves.specs.Outcomes.{world_of, stopping_of}
use Rattle.frame_moves.specs.Stacks.{gone}
use Rattle.frame_moves.proofs.Stepping.{both, goes_to, steps_by}
use Rattle.frame_exits.specs.declared.importing.Import.TheVariants as imports
use Rattle.frame_exits.specs.declared.importing.Refusal.{Refusal}
use Rattle.frame_exits.specs.declared.importing.Refusal.TheVariants as refusals
use Rattle.frame_exits.specs.Importing.{HasOperands, AreOperands, given_name, IsAbsent, IsGiven, Begins, IsImport, StandsFor, refusal_fault}
use Rattle.frame_exits.proofs.Fronts.{last_prefix}

-- the two slots on top
two_on_top : (P : List Slot → Type 0) (st : List Slot) (a b : Slot) → slice_get st 0 ≡ Some a → slice_get st 1 ≡ Some b → P (a ∷ b ∷ drop 2 st) → P st
two_on_top P [] a b e d h = absurd (none-some a e)
two_on_top P (x ∷ []) a b e d h = absurd (none-some b d)
two_on_top P (x ∷ y ∷ st) a b e d h =
    subst (λ (z : Slot). P (z ∷ y ∷ st)) (sym (same_Some x a e)) (subst (λ (z : Slot). P (a ∷ z ∷ st)) (sym (same_Some y b d)) h)

-- the same depth
pub depth_is : (t : Tables) (c : Call) (cs : List Call) → has_depth (map (frame_of (view_of t)) cs) ≡ nat_lt (length (c ∷ cs)) MAX_CALLS
depth_is t c cs = ap (λ (n : ℕ). nat_lt (suc n) MAX_CALLS) (length-map cs (frame_of (view_of t)))

module _ (t : Tables) (library : Library) (place : Place) (paid : ℕ) (c : Call) (Fs : List states.Frame) (w : PlainWorld) (name : Name) (from level : Value) where
  abbrev F : states.Frame
  F = frame_of (view_of t) c

  abbrev Imports : List Slot → State
  Imports st = step.import library place paid F Fs w name (slots_of (view_of t) (starts_of (view_of t) c) st)

  abbrev Absent : List Slot → Option Name → State
  Absent st first = step.import_absent library place paid F Fs w (value_of t from) (prefixes name) (slots_of (view_of t) (starts_of (view_of t) c) st) first

  abbrev Either : List Slot → Bool → State
  Either st zero = if zero then Absent (drop 2 st) (first_absent w (prefixes name)) else fail (fault_at place w RelativeImport) F Fs

  judged : HasOperands from level c → (zero : Bool) → is_zero (shown w.heap (value_of t level)) ≡ zero → Imports c.slots ≡ Either c.slots zero
  judged has zero is = two_on_top (λ st. Imports st ≡ Either st zero) c.slots (slots.Value from) (slots.Value level) has.from_is has.level_is (ap (λ (z : Bool). Either (slots.Value from ∷ slots.Value level ∷ drop 2 c.slots) z) is)

  -- a level that isn't 0
  pub relative : HasOperands from level c → is_zero (shown w.heap (value_of t level)) ≡ false → Imports c.slots ≡ fail (fault_at place w RelativeImport) F Fs
  relative has is = judged has false is

  absolute : HasOperands from level c → is_zero (shown w.heap (value_of t level)) ≡ true → (first : Option Name) → first_absent w (prefixes name) ≡ first → Imports c.slots ≡ Absent (drop 2 c.slots) first
  absolute has is first e = judged has true is ∙ ap (λ (z : Option Name). Absent (drop 2 c.slots) z) e

  wanted_is : (v : Val) → step.wanted library place paid F Fs w v (prefixes name) ≡ given_name v name
  wanted_is Nil = refl
  wanted_is _ = last_prefix name

  -- no prefix is absent
  pub gives : (v : Value) (shelf : Shelf) (deep : Bool) → HasOperands from level c → IsGiven t.texts t.tuples shelf w deep name from level v
      → Imports c.slots ≡ go (suc F.position) (slots_of (view_of t) (starts_of (view_of t) c) (slots.Value v ∷ drop 2 c.slots)) F.entries F Fs w
  gives v shelf deep has is =
      absolute has is.absolute None is.none_absent
      ∙ ap (λ (z : Val). go (suc F.position) (states.Value z ∷ slots_of (view_of t) (starts_of (view_of t) c) (drop 2 c.slots)) F.entries F Fs w)
      (ap (λ (z : Name). module_named w z) (wanted_is (value_of t from)) ∙ sym is.value_is)

  -- the first prefix that is absent begins
  pub begins : (len : ℕ) (shelf : Shelf) (deep : Bool) (entry : Option Entry) → HasOperands from level c → IsAbsent t.texts t.tuples shelf w deep name from level len
      → has_depth Fs ≡ deep → entry_in library (take len name) ≡ entry → Imports c.slots ≡ step.begin library place paid F Fs w (take len name) entry deep
  begins len shelf deep entry has is depth e =
      absolute has is.absolute (Some (take len name)) is.absent
      ∙ ap (λ (z : Option Entry). step.begin library place paid F Fs w (take len name) z (has_depth Fs)) e
      ∙ ap (λ (z : Bool). step.begin library place paid F Fs w (take len name) entry z) depth

-- a module that is given
-- ======================

abbrev GoesOn : Tables → Value → Value → ℕ → Call → Type 0
GoesOn t from level end c = HasOperands from level c × (position_in (starts_of (view_of t) c) end ≡ suc (position_of (view_of t) c))

pub gives_steps : (t : Tables) (shelf : Shelf) (w : PlainWorld) (deep : Bool) (name : Name) (from level v : Value) (end : ℕ) (old new : Calls)
    → new ≡ on_running (λ c. gone end (slots.Value v ∷ drop 2 c.slots) c) old → AreOperands from level old.calls → IsGiven t.texts t.tuples shelf w deep name from level v
    → IsNext t end old.calls → Steps t w (Names ops.ImportName name) old.calls new.calls
gives_steps t shelf w deep name from level v end old new e has is next =
    steps_by t w (Names ops.ImportName name) (λ (c : Call). gone end (slots.Value v ∷ drop 2 c.slots) c) (GoesOn t from level end)
    (λ library place paid c frames h.
    gives t library place paid c frames w name from level v shelf deep h.0 is ∙ goes_to (view_of t) c (suc (position_of (view_of t) c)) end (slots.Value v ∷ drop 2 c.slots) frames w h.1)
    old new e (both (HasOperands from level) (λ c. position_in (starts_of (view_of t) c) end ≡ suc (position_of (view_of t) c)) old.calls has next)

-- an import that fails
-- ====================

module _ (t : Tables) (shelf : Shelf) (library : Library) (w : PlainWorld) (heap : Heap Value ℕ) (name : ℕ) (from level : Value) where
  abbrev W : PlainWorld
  W = world_of t w heap

  abbrev N : Name
  N = plain_name t.texts t.tuples name

  abbrev stop_of : Refusal → Stop
  stop_of refusal = stops.Raises (refusal_fault name refusal)

  module _ (stands : StandsFor t shelf library) (place : Place) (paid : ℕ) (c : Call) (cs : List Call) (has : HasOperands from level c) where
    abbrev Fs : List states.Frame
    Fs = map (frame_of (view_of t)) cs

    abbrev Fails : Refusal → Type 0
    Fails refusal = step_of t library place paid (c ∷ cs) W (Names ops.ImportName N) ≡ stopping_of t place w heap (c ∷ cs) (stop_of refusal)

    abbrev Deep : Bool
    Deep = nat_lt (length (c ∷ cs)) MAX_CALLS

    refused : (refusal : Refusal) → Begins t.texts t.tuples shelf W Deep N from level (imports.Stops refusal) → Fails refusal
    refused refusals.Relative (len, absent, is) = absurd is
    refused (refusals.Missing missing) (len, absent, is) =
        begins t library place paid c Fs W N from level len shelf Deep None has absent (depth_is t c cs) (stands.absent (take len N) is.0)
        ∙ ap (λ (k : ℕ). fail (fault_at place W (NoModule (take k N))) (frame_of (view_of t) c) Fs) (sym is.1)
    refused refusals.Incompatible (len, absent, is) =
        begins t library place paid c Fs W N from level len shelf Deep (Some machine.Refused) has absent (depth_is t c cs) (stands.refused (take len N) is)
    refused refusals.TooDeep (len, absent, is) =
        let m = stands.modules (take len N) is.0 is.1 in
        begins t library place paid c Fs W N from level len shelf false (Some (Holds m.0)) has
        (record { absolute = absent.absolute; absent = absent.absent; within = absent.within }) (depth_is t c cs ∙ is.2) m.1

    fails_here : (refusal : Refusal) → IsImport t.texts t.tuples shelf W Deep N from level (imports.Stops refusal) → Fails refusal
    fails_here refusals.Relative is = relative t library place paid c Fs W N from level has is
    fails_here (refusals.Missing len) is = refused (refusals.Missing len) is
    fails_here refusals.Incompatible is = refused refusals.Incompatible is
    fails_here refusals.TooDeep is = refused refusals.TooDeep is

  pub fails_steps : (refusal : Refusal) (calls : List Call) → AreOperands from level calls
      → IsImport t.texts t.tuples shelf W (nat_lt (length calls) MAX_CALLS) N from level (imports.Stops refusal) → StandsFor t shelf library → (place : Place) (paid : ℕ)
      → step_of t library place paid calls W (Names ops.ImportName N) ≡ stopping_of t place w heap calls (stop_of refusal)
  fails_steps refusal [] has is stands place paid = absurd has
  fails_steps refusal (c ∷ cs) has is stands place paid = fails_here stands place paid c cs has refusal is

module _ (texts : StrNo → Option (List ℕ)) (tuples : ConstNo → Option (List Value)) (shelf : Shelf) (w : PlainWorld) (heap : Heap Value ℕ) (deep : Bool) (name : ℕ) (from level : Value) where
  pub fault_known : (refusal : Refusal) → IsImport texts tuples shelf w deep (plain_name texts tuples name) from level (imports.Stops refusal) → IsSome (texts (strs.Pool name))
      → IsKnownAnswer texts tuples heap.objects (Err (stops.Raises (refusal_fault name refusal)))
  fault_known refusals.Relative is told = tt
  fault_known (refusals.Missing missing) (len, absent, is) told = (told, subst (λ (k : ℕ). k ≤ length (plain_name texts tuples name)) (sym is.1) absent.within)
  fault_known refusals.Incompatible is told = tt
  fault_known refusals.TooDeep is told = tt
