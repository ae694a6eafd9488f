-- The machine's makings of functions, where the child of the running code is known.
use Rattle.std.proofs.Common.{◌≡◌, ℕ, ◌≤◌, length, List, [], ◌∷◌, drop, Bool, true, false, Option, Some, slice_get, sym, ap, ◌∙◌, subst, arith}
use Rattle.std.specs.Prelude.{if◌then◌else◌}
use Rattle.std.proofs.lemmas.Option.{none-some, same_Some}
use Rattle.mpy_base.specs.Val.{Val, PlainWorld}
use Rattle.frame_moves.specs.arena_heap.declared.value.DictNo.{DictNo}
use Rattle.frame_moves.specs.py_values.Shown.{shown}
use Rattle.frame_moves.specs.py_primitives.Faults.{BadDefaults}
use Rattle.frame_moves.specs.py_effects.Effect.{Effect, Place, faults, fault_at}
use Rattle.frame_moves.specs.py_effects.Modules.{has_items, make_function}
use Rattle.frame_moves.specs.prim_walks.Plain.{plain_name}
use Rattle.frame_moves.specs.vm_frames.declared.slot.Slot.{Slot}
use Rattle.frame_moves.specs.vm_frames.Calls.{Call, OfRunning}
use Rattle.frame_moves.specs.vm_frames.Views.{frame_of}
use Rattle.frame_moves.specs.bc_machine.Library.{Code, Library}
use Rattle.frame_moves.specs.bc_machine.State as states
use Rattle.frame_moves.specs.bc_machine.State.{State, fail}
use Rattle.frame_moves.specs.bc_machine.Step as step
use Rattle.frame_moves.specs.Shown.{Tables, view_of}
use Rattle.frame_calls.specs.Children.{IsChild, judged}
use Rattle.frame_calls.specs.Operands.{running_slots}
use Rattle.frame_calls.specs.declared.making.Child.{Child}
use Rattle.frame_calls.proofs.Coming.{paid_off}
use Rattle.frame_calls.proofs.Slots.{size_there, slot_within}

module _ (t : Tables) (library : Library) (place : Place) (paid : ℕ) (c : Call) (frames : List states.Frame) (w : PlainWorld) (at : ℕ) (child : Child) (is : IsChild t library at child c) (st : List states.Slot) (defaults : Val) where
  abbrev F : states.Frame
  F = frame_of (view_of t) c

  -- the function of the child
  abbrev Made : Effect Val
  Made = make_function w (plain_name t.texts t.tuples child.name) (plain_name t.texts t.tuples child.module_name) child.code c.names.cell defaults

  makes : step.made_function library place paid F frames w child.code st defaults (Some is.code) ≡ step.gives library place paid F frames w st Made
  makes =
      ap (λ (name : List ℕ). step.gives library place paid F frames w st (make_function w name F.module_name child.code F.names defaults)) is.name_is
      ∙ ap (λ (name : List ℕ). step.gives library place paid F frames w st (make_function w (plain_name t.texts t.tuples child.name) name child.code F.names defaults)) is.module_is

  pub made_plain : step.make library place paid F frames w st defaults (step.child library place paid F frames w at) ≡ step.gives library place paid F frames w st Made
  made_plain =
      ap (λ (code : Option Code). step.make library place paid F frames w st defaults (step.child_of library place paid F frames w code at)) is.runs
      ∙ (ap (λ (number : Option ℕ). step.make library place paid F frames w st defaults number) is.numbered
      ∙ (ap (λ (code : Option Code). step.made_function library place paid F frames w child.code st defaults code) is.there ∙ makes))

  -- it is judged before
  abbrev Choice : Bool → Option Code → State
  Choice fits code = if fits then step.made_function library place paid F frames w child.code st defaults code else fail (fault_at place w BadDefaults) F frames

  abbrev Judging : ℕ → Bool
  Judging given = has_items given (shown w.heap defaults)

  abbrev Behind : Bool → Effect Val
  Behind fits = if fits then Made else faults BadDefaults w

  chosen : (fits : Bool) → Choice fits (Some is.code) ≡ step.gives library place paid F frames w st (Behind fits)
  chosen true = makes
  chosen false =
      let effect : Effect Val = faults BadDefaults w in
      sym (paid_off library place paid F frames w effect (λ v. step.next library place paid F frames w (states.Value v ∷ st)) (omega arith))

  pub made_with : step.make_with library place paid F frames w st defaults (step.child library place paid F frames w at)
      ≡ step.gives library place paid F frames w st (judged w child.given (plain_name t.texts t.tuples child.name) (plain_name t.texts t.tuples child.module_name) child.code c.names.cell defaults)
  made_with =
      ap (λ (code : Option Code). step.make_with library place paid F frames w st defaults (step.child_of library place paid F frames w code at)) is.runs
      ∙ (ap (λ (number : Option ℕ). step.make_with library place paid F frames w st defaults number) is.numbered
      ∙ (ap (λ (code : Option Code). Choice (Judging (step.given_by library place paid F frames w code)) code) is.there
      ∙ (ap (λ (given : ℕ). Choice (Judging given) (Some is.code)) is.given_is ∙ chosen (Judging child.given))))

-- the two topmost slots
pub two_on : (Q : List Slot → Type 0) (st : List Slot) (a b : Slot) → slice_get st 0 ≡ Some a → slice_get st 1 ≡ Some b → Q (a ∷ b ∷ drop 2 st) → Q st
two_on Q [] a b e f q = absurd (none-some a e)
two_on Q (x ∷ []) a b e f q = absurd (none-some b f)
two_on Q (x ∷ y ∷ st) a b e f q = subst (λ (s : Slot). Q (s ∷ y ∷ st)) (sym (same_Some x a e)) (subst (λ (s : Slot). Q (a ∷ s ∷ st)) (sym (same_Some y b f)) q)

pub names_same : (names : DictNo) (P : Call → Type 0) (cs : List Call) → OfRunning P cs → OfRunning (λ c. names ≡ c.names) cs → OfRunning (λ c. P c × (names ≡ c.names)) cs
names_same names P [] p n = p
names_same names P (c ∷ cs) p n = (p, n)

pub names_are : (names : DictNo) (Q : DictNo → Type 0) (cs : List Call) → OfRunning (λ c. Q c.names) cs → OfRunning (λ c. names ≡ c.names) cs → Q names
names_are names Q [] q n = absurd q
names_are names Q (c ∷ cs) q n = subst Q (sym n) q

-- what is known where defaults lie on top
pub record HasTwo (P : Call → Type 0) (names : DictNo) (a b : Slot) (c : Call) : Type 0 where
  pub other : P c
  pub names_are : names ≡ c.names
  pub above : slice_get c.slots 0 ≡ Some a
  pub below : slice_get c.slots 1 ≡ Some b

pub has_two : (P : Call → Type 0) (names : DictNo) (a b : Slot) (cs : List Call) → OfRunning P cs → OfRunning (λ c. names ≡ c.names) cs
    → slice_get (running_slots cs) 0 ≡ Some a → slice_get (running_slots cs) 1 ≡ Some b → OfRunning (HasTwo P names a b) cs
has_two P names a b [] p n e f = p
has_two P names a b (c ∷ cs) p n e f = record { other = p; names_are = n; above = e; below = f }

pub two_there : (cs : List Call) (s : Slot) → slice_get (running_slots cs) 1 ≡ Some s → OfRunning (λ c. 2 ≤ length c.slots) cs
two_there cs s e = let less = slot_within cs 1 s e in size_there 2 cs (omega arith) (omega (arith, less))
