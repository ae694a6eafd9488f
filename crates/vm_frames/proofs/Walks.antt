-- Walks through the entries of a call, as the machine's through those of its frame.
use Rattle.std.proofs.Common.{◌≡◌, ℕ, zero, suc, ◌≤◌, List, [], ◌∷◌, length, Bool, true, false, not, ◌&&◌, Some, refl, sym, ap, ◌∙◌, arith, if◌then◌else◌}
use Rattle.std.specs.Prelude.{nat_le}
use Rattle.std.specs.List.{AllByRecursion}
use Rattle.std.proofs.lemmas.List.Elements.{recursion_from_All}
use Rattle.mpy_base.specs.Val.{Val, At, PlainWorld}
use Rattle.arena_heap.specs.declared.value.Value.{Value}
use Rattle.arena_heap.specs.declared.value.Value.TheVariants as values
use Rattle.arena_heap.specs.declared.value.ExcNo.{ExcNo}
use Rattle.vm_frames.specs.declared.slot.Slot.{Slot}
use Rattle.vm_frames.specs.declared.slot.Slot.TheVariants as slots
use Rattle.vm_frames.specs.declared.slot.Entry.{Entry}
use Rattle.vm_frames.specs.Calls.{Call}
use Rattle.vm_frames.specs.Moves as moves
use Rattle.vm_frames.specs.Moves.{Moved, is_active, is_run, from_first, into_first, with_kept, without_iterator, raised, returned, jumped}
use Rattle.bc_labels.specs.Positions.{position_in, Starts}
use Rattle.bc_labels.proofs.Order.{order}
use Rattle.bc_machine.specs.State as states
use Rattle.bc_machine.specs.State.{State, Running, go, enter, cut, give, throw_in, leave, unwind}
use Rattle.vm_frames.specs.Views.{View, slots_of, entry_of, entries_of, starts_of, position_of, frame_of, behind}
use Rattle.vm_frames.specs.Placed.{IsPlaced}
use Rattle.vm_frames.proofs.Lists.{cut_is, without_is, goes, enters}

-- each entry is active by positions where it is by offsets
abbrev Marks : List ℕ → ℕ → ℕ → List Entry → Type 0
Marks starts position at [] = Unit {0}
Marks starts position at (e ∷ es) = (nat_le (position_in starts e.handler) position ≡ nat_le e.handler at) × Marks starts position at es

marks : (view : View) (c : Call) (pl : IsPlaced view c) (es : List Entry) → AllByRecursion (λ (e : Entry). Starts pl.list.offsets e.handler) es → Marks (starts_of view c) (position_of view c) c.at es
marks view c pl [] h = tt
marks view c pl (e ∷ es) h = (
  ap (λ (z : List ℕ). nat_le (position_in z e.handler) (position_in z c.at)) pl.starts_are ∙ order pl.bytes pl.list e.handler c.at pl.listed h.0 pl.here,
  marks view c pl es h.1,
)

all_marks : (view : View) (c : Call) → IsPlaced view c → Marks (starts_of view c) (position_of view c) c.at c.entries
all_marks view c pl = marks view c pl c.entries (recursion_from_All (λ (e : Entry). Starts pl.list.offsets e.handler) c.entries pl.handlers)

-- choices
-- =======

same_choice : (t b : Bool) (s u s1 u1 : State) → t ≡ b → s ≡ s1 → u ≡ u1 → (if t then s else u) ≡ (if b then s1 else u1)
same_choice t b s u s1 u1 e f g =
    ap (λ (z : Bool). if z then s else u) e ∙ (ap (λ (z : State). if b then z else u) f ∙ ap (λ (z : State). if b then s1 else z) g)

chosen : (to : List Entry → State) (b : Bool) (xs ys : List Entry) → to (if b then xs else ys) ≡ (if b then to xs else to ys)
chosen to true xs ys = refl
chosen to false xs ys = refl

chosen_not : (to : List Entry → State) (b : Bool) (xs ys : List Entry) → to (if not b then xs else ys) ≡ (if b then to ys else to xs)
chosen_not to true xs ys = refl
chosen_not to false xs ys = refl

chosen_call : (to : Moved → State) (b : Bool) (m n : Moved) → to (if b then m else n) ≡ (if b then to m else to n)
chosen_call to true m n = refl
chosen_call to false m n = refl

-- the walks
-- =========

module _ (view : View) (c : Call) (frames : List states.Frame) (w : PlainWorld) where
  abbrev starts : List ℕ
  starts = starts_of view c

  abbrev position : ℕ
  position = position_of view c

  throwing : (x : ExcNo) (outside : State) (es : List Entry) → Marks starts position c.at es
      → throw_in x.cell (entries_of starts position es) (frame_of view c) frames w outside
      ≡ behind view (into_first (with_kept x) (slots.Value (values.Exc x)) (from_first (λ e. not (is_active c.at e)) es) c) frames w outside
  throwing x outside [] m = refl
  throwing x outside (e ∷ es) m =
      let F = frame_of view c in
      let to : List Entry → State = λ z. behind view (into_first (with_kept x) (slots.Value (values.Exc x)) z c) frames w outside in
      let passes : Entry → Bool = λ (d : Entry). not (is_active c.at d) in
      let on : State = throw_in x.cell (entries_of starts position es) F frames w outside in
      let inside : Val → State = λ v. enter (record (entry_of starts position e) { kept = Some x.cell }) (entries_of starts position es) (states.Value v) F.slots F frames w in
      let here : inside (At x.cell) ≡ to (e ∷ es) = ap inside (sym (view.exceptions x)) ∙ enters view c (with_kept x e) (slots.Value (values.Exc x)) c.slots es frames w in
      same_choice (nat_le (position_in starts e.handler) position) (is_active c.at e) on (inside (At x.cell)) (to (from_first passes es)) (to (e ∷ es)) m.0 (throwing x outside es m.1) here
      ∙ sym (chosen_not to (is_active c.at e) (e ∷ es) (from_first passes es))

  leaving : (v : Value) (es : List Entry) → Marks starts position c.at es
      → leave (view.plain v) (entries_of starts position es) (frame_of view c) frames w
      ≡ behind view (into_first (λ e. e) (slots.Return v) (from_first (is_run c.at) es) c) frames w (give (view.plain v) (frame_of view c).role frames w)
  leaving v [] m = refl
  leaving v (e ∷ es) m =
      let F = frame_of view c in
      let to : List Entry → State = λ z. behind view (into_first (λ (d : Entry). d) (slots.Return v) z c) frames w (give (view.plain v) F.role frames w) in
      let on : State = leave (view.plain v) (entries_of starts position es) F frames w in
      let inside : State = enter (entry_of starts position e) (entries_of starts position es) (states.KeptReturn (view.plain v)) F.slots F frames w in
      let here : inside ≡ to (e ∷ es) = enters view c e (slots.Return v) c.slots es frames w in
      same_choice (e.is_finally && not (nat_le (position_in starts e.handler) position)) (is_run c.at e) inside on (to (e ∷ es)) (to (from_first (is_run c.at) es)) (ap (λ (z : Bool). e.is_finally && not z) m.0) here (leaving v es m.1)
      ∙ sym (chosen to (is_run c.at e) (e ∷ es) (from_first (is_run c.at) es))

  unwinding : (target count : ℕ) (it : Bool) (es : List Entry) (st : List Slot) → Marks starts position c.at es → count ≤ length es
      → unwind (position_in starts target) it count (entries_of starts position es) (slots_of view starts st) (frame_of view c) frames w
      ≡ Running 0 (frame_of view (jumped target count it es st c).call) frames w
  unwinding target zero it es st m le =
      ap (λ (z : List states.Slot). go (position_in starts target) z (entries_of starts position es) (frame_of view c) frames w) (without_is view starts it st)
      ∙ goes view c target (without_iterator it st) es frames w
  unwinding target (suc count) it [] st m le = absurd (omega arith)
  unwinding target (suc count) it (e ∷ es) st m le =
      let F = frame_of view c in
      let to : Moved → State = λ z. Running 0 (frame_of view z.call) frames w in
      let entered : Moved = record { handler = Some e.handler; call = record c { at = e.handler; slots = slots.Jump target count it ∷ moves.cut e.height st; entries = e ∷ es } } in
      let further : Moved = jumped target count it es (moves.cut e.height st) c in
      let on : List states.Slot → State = λ z. unwind (position_in starts target) it count (entries_of starts position es) z F frames w in
      let inside : State = enter (entry_of starts position e) (entries_of starts position es) (states.KeptJump (position_in starts target) count it) (slots_of view starts st) F frames w in
      let here : inside ≡ to entered = enters view c e (slots.Jump target count it) st es frames w in
      let there : on (cut e.height (slots_of view starts st)) ≡ to further = ap on (cut_is view starts e.height st) ∙ unwinding target count it es (moves.cut e.height st) m.1 (omega arith) in
      same_choice (e.is_finally && not (nat_le (position_in starts e.handler) position)) (is_run c.at e) inside (on (cut e.height (slots_of view starts st))) (to entered) (to further) (ap (λ (z : Bool). e.is_finally && not z) m.0) here there
      ∙ sym (chosen_call to (is_run c.at e) entered further)

pub raises : (view : View) (x : ExcNo) (c : Call) (frames : List states.Frame) (w : PlainWorld) (outside : State) → IsPlaced view c
    → throw_in x.cell (frame_of view c).entries (frame_of view c) frames w outside ≡ behind view (raised x c) frames w outside
raises view x c frames w outside pl = throwing view c frames w x outside c.entries (all_marks view c pl)

pub returns : (view : View) (v : Value) (c : Call) (frames : List states.Frame) (w : PlainWorld) → IsPlaced view c
    → leave (view.plain v) (frame_of view c).entries (frame_of view c) frames w ≡ behind view (returned v c) frames w (give (view.plain v) (frame_of view c).role frames w)
returns view v c frames w pl = leaving view c frames w v c.entries (all_marks view c pl)

pub jumps : (view : View) (target count : ℕ) (it : Bool) (c : Call) (frames : List states.Frame) (w : PlainWorld) → IsPlaced view c → count ≤ length c.entries
    → unwind (position_in (starts_of view c) target) it count (frame_of view c).entries (frame_of view c).slots (frame_of view c) frames w
    ≡ Running 0 (frame_of view (jumped target count it c.entries c.slots c).call) frames w
jumps view target count it c frames w pl le = unwinding view c frames w target count it c.entries c.slots (all_marks view c pl) le
