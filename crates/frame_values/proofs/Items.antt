-- What the machine's instructions do, by the slots that they take.
use Rattle.std.proofs.Common.{◌≡◌, ℕ, List, [], ◌∷◌, drop, Some, slice_get, refl, sym, subst, zero, suc, map, ap}
use Rattle.std.proofs.lemmas.Option.{none-some, same_Some}
use Rattle.frame_moves.specs.mpy_base.Val.{Val, PlainWorld}
use Rattle.prim_names.specs.arena_heap.declared.value.Value.{Value}
use Rattle.frame_moves.specs.bc_ops.declared.instr.Op.{Op}
use Rattle.frame_moves.specs.bc_ops.declared.instr.Op.TheVariants as ops
use Rattle.prim_names.specs.prim_types.py_primitives.Uses.{get_item, set_item, delete_item, get_attr, set_attr}
use Rattle.frame_moves.specs.py_effects.Effect.{Effect, on_heap, Place}
use Rattle.frame_moves.specs.py_effects.Names.{store_global, import_from, store_pair}
use Rattle.frame_moves.specs.vm_frames.declared.slot.Slot.{Slot}
use Rattle.frame_moves.specs.vm_frames.declared.slot.Slot.TheVariants as slots
use Rattle.frame_moves.specs.vm_frames.Views.{View, slots_of}
use Rattle.frame_moves.specs.bc_machine.Library.{Name, Library}
use Rattle.frame_moves.specs.bc_machine.State as states
use Rattle.frame_moves.specs.bc_machine.State.{State}
use Rattle.frame_moves.specs.bc_machine.Step as step

pub get_map : {A B : Type 0} (f : A → B) (xs : List A) (i : ℕ) (x : A) → slice_get xs i ≡ Some x → slice_get (map f xs) i ≡ Some (f x)
get_map f [] i x e = absurd (none-some x e)
get_map f (y ∷ xs) zero x e = ap (λ z. Some (f z)) (same_Some y x e)
get_map f (y ∷ xs) (suc i) x e = get_map f xs i x e

pub on_one : (P : List Slot → Type 0) (st : List Slot) (a : Slot) → slice_get st 0 ≡ Some a → P (a ∷ drop 1 st) → P st
on_one P [] a e h = absurd (none-some a e)
on_one P (x ∷ st) a e h = subst (λ (z : Slot). P (z ∷ st)) (sym (same_Some x a e)) h

pub on_two : (P : List Slot → Type 0) (st : List Slot) (a b : Slot) → slice_get st 0 ≡ Some a → slice_get st 1 ≡ Some b → P (a ∷ b ∷ drop 2 st) → P st
on_two P [] a b d e h = absurd (none-some a d)
on_two P (x ∷ st) a b d e h = on_one P (x ∷ st) a d (on_one (λ (z : List Slot). P (a ∷ z)) st b e h)

pub on_three : (P : List Slot → Type 0) (st : List Slot) (a b c : Slot) → slice_get st 0 ≡ Some a → slice_get st 1 ≡ Some b → slice_get st 2 ≡ Some c → P (a ∷ b ∷ c ∷ drop 3 st) → P st
on_three P [] a b c d e f h = absurd (none-some a d)
on_three P (x ∷ st) a b c d e f h = on_one P (x ∷ st) a d (on_two (λ (z : List Slot). P (a ∷ z)) st b c e f h)

module _ (view : View) (starts : List ℕ) (library : Library) (place : Place) (paid : ℕ) (frame : states.Frame) (frames : List states.Frame) (w : PlainWorld) where
  -- an effect whose value goes onto these slots, and one without a value
  abbrev pub Gave : List Slot → Effect Val → State
  Gave st effect = step.gives library place paid frame frames w (slots_of view starts st) effect

  abbrev pub Dropped : List Slot → Effect Val → State
  Dropped st effect = step.puts library place paid frame frames w (slots_of view starts st) effect

  abbrev pub Named : Op → Name → List Slot → State
  Named op name st = step.name_step library place paid frame frames w op name (slots_of view starts st)

  abbrev pub Plainly : Op → List Slot → State
  Plainly op st = step.plain_step library place paid frame frames w op (slots_of view starts st)

  pub store_name : (name : Name) (st : List Slot) (v : Value) → slice_get st 0 ≡ Some (slots.Value v)
      → Named ops.StoreName name st ≡ Dropped (drop 1 st) (store_global w frame.names name (view.plain v))
  store_name name st v e = on_one (λ z. Named ops.StoreName name z ≡ Dropped (drop 1 z) (store_global w frame.names name (view.plain v))) st (slots.Value v) e refl

  pub store_global_name : (name : Name) (st : List Slot) (v : Value) → slice_get st 0 ≡ Some (slots.Value v)
      → Named ops.StoreGlobal name st ≡ Dropped (drop 1 st) (store_global w frame.names name (view.plain v))
  store_global_name name st v e = on_one (λ z. Named ops.StoreGlobal name z ≡ Dropped (drop 1 z) (store_global w frame.names name (view.plain v))) st (slots.Value v) e refl

  pub load_attr : (name : Name) (st : List Slot) (o : Value) → slice_get st 0 ≡ Some (slots.Value o)
      → Named ops.LoadAttr name st ≡ Gave (drop 1 st) (on_heap w (get_attr w.heap (view.plain o) name))
  load_attr name st o e = on_one (λ z. Named ops.LoadAttr name z ≡ Gave (drop 1 z) (on_heap w (get_attr w.heap (view.plain o) name))) st (slots.Value o) e refl

  pub store_attr : (name : Name) (st : List Slot) (o v : Value) → slice_get st 0 ≡ Some (slots.Value o) → slice_get st 1 ≡ Some (slots.Value v)
      → Named ops.StoreAttr name st ≡ Dropped (drop 2 st) (on_heap w (set_attr w.heap (view.plain o) name (view.plain v)))
  store_attr name st o v d e =
      on_two (λ z. Named ops.StoreAttr name z ≡ Dropped (drop 2 z) (on_heap w (set_attr w.heap (view.plain o) name (view.plain v)))) st (slots.Value o) (slots.Value v) d e refl

  pub import_name : (name : Name) (st : List Slot) (m : Value) → slice_get st 0 ≡ Some (slots.Value m)
      → Named ops.ImportFrom name st ≡ Gave (drop 0 st) (import_from w (view.plain m) name)
  import_name name st m e = on_one (λ z. Named ops.ImportFrom name z ≡ Gave (drop 0 z) (import_from w (view.plain m) name)) st (slots.Value m) e refl

  pub load_subscr : (st : List Slot) (i o : Value) → slice_get st 0 ≡ Some (slots.Value i) → slice_get st 1 ≡ Some (slots.Value o)
      → Plainly ops.LoadSubscr st ≡ Gave (drop 2 st) (on_heap w (get_item w.heap (view.plain o) (view.plain i)))
  load_subscr st i o d e = on_two (λ z. Plainly ops.LoadSubscr z ≡ Gave (drop 2 z) (on_heap w (get_item w.heap (view.plain o) (view.plain i)))) st (slots.Value i) (slots.Value o) d e refl

  pub store_subscr : (st : List Slot) (i o v : Value) → slice_get st 0 ≡ Some (slots.Value i) → slice_get st 1 ≡ Some (slots.Value o) → slice_get st 2 ≡ Some (slots.Value v)
      → Plainly ops.StoreSubscr st ≡ Dropped (drop 3 st) (on_heap w (set_item w.heap (view.plain o) (view.plain i) (view.plain v)))
  store_subscr st i o v d e f =
      on_three (λ z. Plainly ops.StoreSubscr z ≡ Dropped (drop 3 z) (on_heap w (set_item w.heap (view.plain o) (view.plain i) (view.plain v)))) st (slots.Value i) (slots.Value o) (slots.Value v) d e f refl

  pub delete_subscr : (st : List Slot) (i o : Value) → slice_get st 0 ≡ Some (slots.Value i) → slice_get st 1 ≡ Some (slots.Value o) → slice_get st 2 ≡ Some slots.Null
      → Plainly ops.StoreSubscr st ≡ Dropped (drop 3 st) (on_heap w (delete_item w.heap (view.plain o) (view.plain i)))
  delete_subscr st i o d e f =
      on_three (λ z. Plainly ops.StoreSubscr z ≡ Dropped (drop 3 z) (on_heap w (delete_item w.heap (view.plain o) (view.plain i)))) st (slots.Value i) (slots.Value o) slots.Null d e f refl

  pub store_map : (st : List Slot) (k v o : Value) → slice_get st 0 ≡ Some (slots.Value k) → slice_get st 1 ≡ Some (slots.Value v) → slice_get st 2 ≡ Some (slots.Value o)
      → Plainly ops.StoreMap st ≡ Dropped (drop 2 st) (store_pair w (view.plain o) (view.plain k) (view.plain v))
  store_map st k v o d e f =
      on_three (λ z. Plainly ops.StoreMap z ≡ Dropped (drop 2 z) (store_pair w (view.plain o) (view.plain k) (view.plain v))) st (slots.Value k) (slots.Value v) (slots.Value o) d e f refl
