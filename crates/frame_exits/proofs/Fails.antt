-- Instructions that raise.
use Rattle.std.proofs.Common.{◌≡◌, ℕ, List, [], ◌∷◌, map, Option, Some, None, All, slice_get, refl, sym, ap, ◌∙◌, subst}
use Rattle.std.specs.Prelude.{IfSome}
use Rattle.std.specs.List.{cons_option}
use Rattle.std.proofs.lemmas.List.Elements.{All-nil, All-cons, All-head, All-tail}
use Rattle.std.proofs.lemmas.Option.{none-some, same_Some}
use Rattle.mpy_base.specs.World.{Objects, Heap, AnException, IsA}
use Rattle.mpy_base.specs.Val.{PlainWorld}
use Rattle.frame_moves.specs.bc_ops.declared.instr.Op.TheVariants as ops
use Rattle.frame_moves.specs.bc_ops.declared.instr.Instr.TheVariants as instrs
use Rattle.frame_moves.specs.arena_heap.declared.value.Value.{Value}
use Rattle.frame_moves.specs.arena_heap.declared.value.StrNo.{StrNo}
use Rattle.frame_moves.specs.arena_heap.declared.value.ConstNo.{ConstNo}
use Rattle.frame_moves.specs.arena_heap.declared.value.ExcNo.{ExcNo}
use Rattle.frame_moves.specs.arena_objects.Keys.{AllTold}
use Rattle.frame_moves.specs.py_primitives.Faults.{NothingToRaise}
use Rattle.frame_moves.specs.py_effects.Effect.{Place, Fails, Thrown, fault_at}
use Rattle.frame_moves.specs.py_effects.Names.{raise_value, raise_again}
use Rattle.frame_moves.specs.bc_machine.Library.{Library, Plain}
use Rattle.frame_moves.specs.bc_machine.State as states
use Rattle.frame_moves.specs.bc_machine.State.{State, fail}
use Rattle.frame_moves.specs.bc_machine.Operations.{kept_of}
use Rattle.frame_moves.specs.bc_machine.Step.{plain_step}
use Rattle.frame_moves.specs.prim_faults.Faults.{IsKnown}
use Rattle.frame_moves.specs.prim_raising.Worlds.{Stands}
use Rattle.frame_moves.specs.vm_frames.declared.slot.Slot.{Slot}
use Rattle.frame_moves.specs.vm_frames.declared.slot.Slot.TheVariants as slots
use Rattle.frame_moves.specs.vm_frames.declared.slot.Entry.{Entry}
use Rattle.frame_moves.specs.vm_frames.Calls.{Call, OfRunning}
use Rattle.frame_moves.specs.vm_frames.Moves.{kept_in}
use Rattle.frame_moves.specs.vm_frames.Views.{View, slot_of, slots_of, entries_of, starts_of, position_of, frame_of}
use Rattle.frame_moves.specs.Shown.{Tables, value_of, view_of, step_of, IsTop}
use Rattle.frame_moves.specs.Outcomes.{failing_of}
use Rattle.frame_exits.specs.Known.{KeepsException}

-- what a call over an arena stands on
-- ==================================

module _ (texts : StrNo → Option (List ℕ)) (tuples : ConstNo → Option (List Value)) (arena : Heap Value ℕ) (all_told : AllTold texts tuples arena.objects) where
  pub nothing_known : Stands texts tuples arena []
  nothing_known = record { known = All-nil (IsKnown texts tuples arena.objects); all_told = all_told }

  pub one_known : (v : Value) → IsKnown texts tuples arena.objects v → Stands texts tuples arena (v ∷ [])
  one_known v k = record { known = All-cons (IsKnown texts tuples arena.objects) v [] k (All-nil (IsKnown texts tuples arena.objects)); all_told = all_told }

-- the top slot is one
pub top_same : (cs : List Call) (s t : Slot) → OfRunning (λ c. slice_get c.slots 0 ≡ Some s) cs → IsTop t cs → s ≡ t
top_same [] s t e f = absurd e
top_same (c ∷ cs) s t e f = same_Some s t (sym e ∙ f)

-- the value that was read there
pub top_value : (cs : List Call) (v u : Value) (s : Slot) → IsTop (slots.Value v) cs → OfRunning (λ c. slice_get c.slots 0 ≡ Some s) cs → s ≡ slots.Value u → IsTop (slots.Value u) cs
top_value [] v u s e f is = absurd e
top_value (c ∷ cs) v u s e f is = f ∙ ap (λ (z : Slot). Some z) is

pub same_value : (cs : List Call) (v u : Value) → IsTop (slots.Value v) cs → IsTop (slots.Value u) cs → v ≡ u
same_value [] v u e f = absurd e
same_value (c ∷ cs) v u e f = let same : slots.Value v ≡ slots.Value u = same_Some (slots.Value v) (slots.Value u) (sym e ∙ f) in cc

obj_slots : (view : View) (starts : List ℕ) (library : Library) (place : Place) (paid : ℕ) (frame : states.Frame) (frames : List states.Frame) (w : PlainWorld) (v : Value) (st : List Slot) → slice_get st 0 ≡ Some (slots.Value v)
    → plain_step library place paid frame frames w ops.RaiseObj (slots_of view starts st) ≡ fail (raise_value place w (view.plain v)) frame frames
obj_slots view starts library place paid frame frames w v [] e = absurd (none-some (slots.Value v) e)
obj_slots view starts library place paid frame frames w v (s ∷ st) e =
    ap (λ (z : Slot). plain_step library place paid frame frames w ops.RaiseObj (slot_of view starts z ∷ slots_of view starts st)) (same_Some s (slots.Value v) e)

pub obj_fails : (t : Tables) (library : Library) (place : Place) (paid : ℕ) (w : PlainWorld) (v : Value) (cs : List Call) → IsTop (slots.Value v) cs
    → step_of t library place paid cs w (Plain (instrs.Plain ops.RaiseObj)) ≡ failing_of t cs (raise_value place w (value_of t v))
obj_fails t library place paid w v [] e = absurd e
obj_fails t library place paid w v (c ∷ cs) e =
    obj_slots (view_of t) (starts_of (view_of t) c) library place paid (frame_of (view_of t) c) (map (frame_of (view_of t)) cs) w v c.slots e

-- the exception that is handled innermost
-- =======================================

again_some : (place : Place) (w : PlainWorld) (x : ExcNo) (ks : List ExcNo) → Some x ≡ slice_get ks 0 → raise_again place w (map (λ (k : ExcNo). k.cell) ks) ≡ Thrown x.cell w
again_some place w x [] e = absurd (none-some x (sym e))
again_some place w x (k ∷ ks) e = ap (λ (z : ExcNo). Thrown z.cell w) (same_Some k x (sym e))

again_none : (place : Place) (w : PlainWorld) (ks : List ExcNo) → None ≡ slice_get ks 0 → raise_again place w (map (λ (k : ExcNo). k.cell) ks) ≡ fault_at place w NothingToRaise
again_none place w [] e = refl
again_none place w (k ∷ ks) e = absurd (none-some k e)

-- what entries keep is the machine's
abbrev pub KeepsLaw : Type 0
KeepsLaw = (starts : List ℕ) (position : ℕ) (es : List Entry) → kept_of (entries_of starts position es) ≡ map (λ (x : ExcNo). x.cell) (kept_in es)

last_fails : KeepsLaw → (t : Tables) (library : Library) (place : Place) (paid : ℕ) (w : PlainWorld) (c : Call) (cs : List Call)
    → step_of t library place paid (c ∷ cs) w (Plain (instrs.Plain ops.RaiseLast)) ≡ failing_of t (c ∷ cs) (raise_again place w (map (λ (k : ExcNo). k.cell) (kept_in c.entries)))
last_fails keeps t library place paid w c cs =
    let view = view_of t in
    ap (λ (ks : List ℕ). fail (raise_again place w ks) (frame_of view c) (map (frame_of view) cs)) (keeps (starts_of view c) (position_of view c) c.entries)

pub last_throws : KeepsLaw → (t : Tables) (library : Library) (place : Place) (paid : ℕ) (w : PlainWorld) (x : ExcNo) (cs : List Call) → OfRunning (λ c. Some x ≡ slice_get (kept_in c.entries) 0) cs
    → step_of t library place paid cs w (Plain (instrs.Plain ops.RaiseLast)) ≡ failing_of t cs (Thrown x.cell w)
last_throws keeps t library place paid w x [] e = absurd e
last_throws keeps t library place paid w x (c ∷ cs) e =
    last_fails keeps t library place paid w c cs ∙ ap (λ (z : Fails). failing_of t (c ∷ cs) z) (again_some place w x (kept_in c.entries) e)

pub last_faults : KeepsLaw → (t : Tables) (library : Library) (place : Place) (paid : ℕ) (w : PlainWorld) (cs : List Call) → OfRunning (λ c. None ≡ slice_get (kept_in c.entries) 0) cs
    → step_of t library place paid cs w (Plain (instrs.Plain ops.RaiseLast)) ≡ failing_of t cs (fault_at place w NothingToRaise)
last_faults keeps t library place paid w [] e = absurd e
last_faults keeps t library place paid w (c ∷ cs) e =
    last_fails keeps t library place paid w c cs ∙ ap (λ (z : Fails). failing_of t (c ∷ cs) z) (again_none place w (kept_in c.entries) e)

kept_first : (objects : Objects Value ℕ) (x : ExcNo) (kept : Option ExcNo) (ks : List ExcNo) → IfSome kept (λ k. IsA objects AnException k.cell)
    → (Some x ≡ slice_get ks 0 → IsA objects AnException x.cell) → Some x ≡ slice_get (cons_option kept ks) 0 → IsA objects AnException x.cell
kept_first objects x None ks k rest e = rest e
kept_first objects x (Some y) ks k rest e = subst (λ (z : ExcNo). IsA objects AnException z.cell) (same_Some y x (sym e)) k

kept_exception : (objects : Objects Value ℕ) (x : ExcNo) (es : List Entry) → All (KeepsException objects) es → Some x ≡ slice_get (kept_in es) 0 → IsA objects AnException x.cell
kept_exception objects x [] h e = absurd (none-some x (sym e))
kept_exception objects x (d ∷ es) h e =
    let K : Entry → Type 0 = λ z. KeepsException objects z in
    kept_first objects x d.kept (kept_in es) (All-head K d es h) (kept_exception objects x es (All-tail K d es h)) e

pub last_exception : (objects : Objects Value ℕ) (x : ExcNo) (cs : List Call) → OfRunning (λ c. All (KeepsException objects) c.entries) cs → OfRunning (λ c. Some x ≡ slice_get (kept_in c.entries) 0) cs → IsA objects AnException x.cell
last_exception objects x [] h e = absurd e
last_exception objects x (c ∷ cs) h e = kept_exception objects x c.entries h e
