-- Tests, jumps, stores and handlers: what the machine does.
use Rattle.std.proofs.Common.{◌≡◌, ℕ, zero, suc, ◌<◌, List, [], ◌∷◌, map, length, drop, Bool, true, false, not, Option, Some, None, slice_get, slice_set, refl, sym, ap, ◌∙◌, subst, arith, if◌then◌else◌}
use Rattle.std.proofs.lemmas.Option.{none-some, same_Some}
use Rattle.std.specs.Option.{option_map}
use Rattle.prim_raising.specs.mpy_base.Val.{Val, PlainWorld}
use Rattle.prim_raising.specs.prim_faults.py_values.Shown.{truth}
use Rattle.vm_frames.specs.py_effects.Effect.{Place}
use Rattle.vm_frames.specs.bc_ops.declared.instr.Op.{Op}
use Rattle.vm_frames.specs.bc_ops.declared.instr.Op.TheVariants as ops
use Rattle.prim_raising.specs.prim_faults.arena_heap.declared.value.Value.{Value}
use Rattle.vm_frames.specs.declared.slot.Slot.{Slot}
use Rattle.vm_frames.specs.declared.slot.Slot.TheVariants as slots
use Rattle.vm_frames.specs.declared.slot.Entry.{Entry}
use Rattle.vm_frames.specs.Calls.{Call}
use Rattle.vm_frames.specs.bc_labels.Positions.{position_in}
use Rattle.vm_frames.specs.Views.{View, slots_of, locals_of, entries_of, starts_of, position_of, frame_of}
use Rattle.vm_frames.specs.bc_machine.Library.{Library}
use Rattle.vm_frames.specs.bc_machine.State as states
use Rattle.vm_frames.specs.bc_machine.State.{State, Running, go}
use Rattle.vm_frames.specs.bc_machine.Step.{jump_step, pop_except}
use Rattle.frame_moves.specs.Stacks.{gone, entry_over}
use Rattle.frame_moves.proofs.Stepping.{goes_with, goes_to}

pub on_top : (P : List Slot → Type 0) (st : List Slot) (s : Slot) → slice_get st 0 ≡ Some s → P (s ∷ drop 1 st) → P st
on_top P [] s e h = absurd (none-some s e)
on_top P (x ∷ st) s e h = subst (λ (z : Slot). P (z ∷ st)) (sym (same_Some x s e)) h

-- offset and position of what is chosen
pub chosen : (starts : List ℕ) (b : Bool) (x y p q : ℕ) → position_in starts x ≡ p → position_in starts y ≡ q → position_in starts (if b then x else y) ≡ (if b then p else q)
chosen starts true x y p q d e = d
chosen starts false x y p q d e = e

both_ways : {A : Type 0} (f : ℕ → A) (b : Bool) (x y : ℕ) → (if b then f x else f y) ≡ f (if b then x else y)
both_ways f true x y = refl
both_ways f false x y = refl

module _ (view : View) (starts : List ℕ) (library : Library) (place : Place) (paid : ℕ) (frame : states.Frame) (frames : List states.Frame) (w : PlainWorld) (p : ℕ) where
  abbrev To : ℕ → List Slot → State
  To position st = go position (slots_of view starts st) frame.entries frame frames w

  abbrev Jumping : Op → List Slot → State
  Jumping op st = jump_step library place paid frame frames w op p (slots_of view starts st)

  pub pop_true : (st : List Slot) (v : Value) (b : Bool) → slice_get st 0 ≡ Some (slots.Value v) → truth w.heap (view.plain v) ≡ b
      → Jumping ops.PopJumpIfTrue st ≡ To (if b then p else suc frame.position) (drop 1 st)
  pop_true st v b e t =
      let rest = drop 1 st in
      on_top (λ z. Jumping ops.PopJumpIfTrue z ≡ To (if b then p else suc frame.position) (drop 1 z)) st (slots.Value v) e
      (ap (λ (z : Bool). if z then To p rest else To (suc frame.position) rest) t ∙ both_ways (λ (z : ℕ). To z rest) b p (suc frame.position))

  pub pop_false : (st : List Slot) (v : Value) (b : Bool) → slice_get st 0 ≡ Some (slots.Value v) → truth w.heap (view.plain v) ≡ b
      → Jumping ops.PopJumpIfFalse st ≡ To (if b then suc frame.position else p) (drop 1 st)
  pop_false st v b e t =
      let rest = drop 1 st in
      on_top (λ z. Jumping ops.PopJumpIfFalse z ≡ To (if b then suc frame.position else p) (drop 1 z)) st (slots.Value v) e
      (ap (λ (z : Bool). if z then To (suc frame.position) rest else To p rest) t ∙ both_ways (λ (z : ℕ). To z rest) b (suc frame.position) p)

  pub keep_true : (st : List Slot) (v : Value) (b : Bool) → slice_get st 0 ≡ Some (slots.Value v) → truth w.heap (view.plain v) ≡ b
      → Jumping ops.JumpIfTrueOrPop st ≡ (if b then To p st else To (suc frame.position) (drop 1 st))
  keep_true st v b e t =
      on_top (λ z. Jumping ops.JumpIfTrueOrPop z ≡ (if b then To p z else To (suc frame.position) (drop 1 z))) st (slots.Value v) e
      (ap (λ (z : Bool). if z then To p (slots.Value v ∷ drop 1 st) else To (suc frame.position) (drop 1 st)) t)

  turned : {A : Type 0} (b : Bool) (x y : A) → (if b then y else x) ≡ (if not b then x else y)
  turned true x y = refl
  turned false x y = refl

  pub keep_false : (st : List Slot) (v : Value) (b : Bool) → slice_get st 0 ≡ Some (slots.Value v) → truth w.heap (view.plain v) ≡ b
      → Jumping ops.JumpIfFalseOrPop st ≡ (if not b then To p st else To (suc frame.position) (drop 1 st))
  keep_false st v b e t =
      on_top (λ z. Jumping ops.JumpIfFalseOrPop z ≡ (if not b then To p z else To (suc frame.position) (drop 1 z))) st (slots.Value v) e
      (ap (λ (z : Bool). if z then To (suc frame.position) (drop 1 st) else To p (slots.Value v ∷ drop 1 st)) t
      ∙ turned b (To p (slots.Value v ∷ drop 1 st)) (To (suc frame.position) (drop 1 st)))

-- the running call behind a jump that keeps the value, or a pop
pub kept_or_popped : (view : View) (c : Call) (b : Bool) (position target end : ℕ) (frames : List states.Frame) (w : PlainWorld)
    → position_in (starts_of view c) target ≡ position → position_in (starts_of view c) end ≡ suc (position_of view c)
    → (if b
    then go position (slots_of view (starts_of view c) c.slots) (entries_of (starts_of view c) (position_of view c) c.entries) (frame_of view c) frames w
    else go (suc (position_of view c)) (slots_of view (starts_of view c) (drop 1 c.slots)) (entries_of (starts_of view c) (position_of view c) c.entries) (frame_of view c) frames w)
    ≡ Running 0 (frame_of view (if b then gone target c.slots c else gone end (drop 1 c.slots) c)) frames w
kept_or_popped view c true position target end frames w t e = goes_to view c position target c.slots frames w t
kept_or_popped view c false position target end frames w t e = goes_to view c (suc (position_of view c)) end (drop 1 c.slots) frames w e

-- stores
-- ======

map-set : {A B : Type 0} (f : A → B) (xs : List A) (i : ℕ) (x : A) → slice_set (map f xs) i (f x) ≡ map f (slice_set xs i x)
map-set f [] i x = refl
map-set f (y ∷ xs) zero x = refl
map-set f (y ∷ xs) (suc i) x = ap (λ z. f y ∷ z) (map-set f xs i x)

pub stores : (view : View) (c : Call) (n end : ℕ) (v : Value) (frames : List states.Frame) (w : PlainWorld) → position_in (starts_of view c) end ≡ suc (position_of view c)
    → go (suc (position_of view c)) (slots_of view (starts_of view c) (drop 1 c.slots)) (entries_of (starts_of view c) (position_of view c) c.entries)
    (record (frame_of view c) { locals = slice_set (locals_of view c.locals) n (Some (view.plain v)) }) frames w
    ≡ Running 0 (frame_of view (record c { at = end; slots = drop 1 c.slots; locals = slice_set c.locals n (Some v) })) frames w
stores view c n end v frames w e =
    let F = frame_of view c in
    let starts = starts_of view c in
    ap (λ (z : List (Option Val)). go (suc (position_of view c)) (slots_of view starts (drop 1 c.slots)) (entries_of starts (position_of view c) c.entries) (record F { locals = z }) frames w)
    (map-set (option_map view.plain) c.locals n (Some v))
    ∙ goes_to view (record c { locals = slice_set c.locals n (Some v) }) (suc (position_of view c)) end (drop 1 c.slots) frames w e

-- handlers
-- ========

map-length : {A B : Type 0} (f : A → B) (xs : List A) → length (map f xs) ≡ length xs
map-length f [] = refl
map-length f (x ∷ xs) = ap suc (map-length f xs)

pub sets_up : (view : View) (c : Call) (position handler end : ℕ) (last : Bool) (frames : List states.Frame) (w : PlainWorld)
    → position_in (starts_of view c) handler ≡ position → position_in (starts_of view c) end ≡ suc (position_of view c)
    → go (suc (position_of view c)) (slots_of view (starts_of view c) c.slots)
    (record { handler = position; is_finally = last; height = length (slots_of view (starts_of view c) c.slots); active = false; kept = None } ∷ entries_of (starts_of view c) (position_of view c) c.entries)
    (frame_of view c) frames w
    ≡ Running 0 (frame_of view (record c { at = end; entries = entry_over c.slots handler last ∷ c.entries })) frames w
sets_up view c position handler end last frames w d e =
    let starts = starts_of view c in
    let F = frame_of view c in
    let es = entries_of starts (position_of view c) c.entries in
    let st = slots_of view starts c.slots in
    let S : ℕ → ℕ → State = λ (p h : ℕ). go (suc (position_of view c)) st (record { handler = p; is_finally = last; height = h; active = false; kept = None } ∷ es) F frames w in
    ap (λ (z : ℕ). S z (length st)) (sym d) ∙ ap (S (position_in starts handler)) (map-length (Rattle.vm_frames.specs.Views.slot_of view starts) c.slots)
    ∙ goes_with view c (suc (position_of view c)) end c.slots (entry_over c.slots handler last ∷ c.entries) frames w e

pub pops : (starts : List ℕ) (position : ℕ) (library : Library) (place : Place) (paid : ℕ) (frame : states.Frame) (frames : List states.Frame) (w : PlainWorld) (p : ℕ) (st : List states.Slot) (es : List Entry) → 0 < length es
    → pop_except library place paid frame frames w p st (entries_of starts position es) ≡ go p st (entries_of starts position (drop 1 es)) frame frames w
pops starts position library place paid frame frames w p st [] h = absurd (omega (arith, h))
pops starts position library place paid frame frames w p st (e ∷ es) h = refl
