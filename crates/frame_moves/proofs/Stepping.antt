-- A step of the machine on calls whose running one goes on.
use Rattle.std.proofs.Common.{◌≡◌, ℕ, suc, List, [], ◌∷◌, map, refl, sym, ap, ◌∙◌}
use Rattle.prim_raising.specs.mpy_base.Val.{PlainWorld}
use Rattle.vm_frames.specs.py_effects.Effect.{Place}
use Rattle.vm_frames.specs.declared.slot.Slot.{Slot}
use Rattle.vm_frames.specs.declared.slot.Entry.{Entry}
use Rattle.vm_frames.specs.Calls.{Call, Calls, OfRunning, change_first, on_running}
use Rattle.vm_frames.specs.bc_labels.Positions.{position_in}
use Rattle.vm_frames.specs.Views.{View, slots_of, entry_of, entries_of, starts_of, position_of, frame_of}
use Rattle.vm_frames.specs.bc_machine.Library.{Item, Library}
use Rattle.vm_frames.specs.bc_machine.State as states
use Rattle.vm_frames.specs.bc_machine.State.{Running, remark, go}
use Rattle.vm_frames.specs.bc_machine.Step.{item_step}
use Rattle.frame_moves.specs.Shown.{Tables, view_of, running_of, Steps, IsNext}
use Rattle.frame_moves.specs.Stacks.{gone}

pub both : (P Q : Call → Type 0) (cs : List Call) → OfRunning P cs → OfRunning Q cs → OfRunning (λ c. P c × Q c) cs
both P Q [] p q = p
both P Q (c ∷ cs) p q = (p, q)

pub weaker : (P Q : Call → Type 0) (cs : List Call) → ((c : Call) → P c → Q c) → OfRunning P cs → OfRunning Q cs
weaker P Q [] f p = p
weaker P Q (c ∷ cs) f p = f c p

-- the machine's step is the change of the running call, in the calls that the change comes to
stepping : (t : Tables) (w : PlainWorld) (item : Item) (change : Call → Call) (P : Call → Type 0)
    → ((library : Library) (place : Place) (paid : ℕ) (c : Call) (frames : List states.Frame) → P c
    → item_step library place paid (frame_of (view_of t) c) frames w item ≡ Running 0 (frame_of (view_of t) (change c)) frames w)
    → (old : List Call) → OfRunning P old → Steps t w item old (change_first change old)
stepping t w item change P f [] p library place paid = absurd p
stepping t w item change P f (c ∷ cs) p library place paid = f library place paid c (map (frame_of (view_of t)) cs) p

pub steps_by : (t : Tables) (w : PlainWorld) (item : Item) (change : Call → Call) (P : Call → Type 0)
    → ((library : Library) (place : Place) (paid : ℕ) (c : Call) (frames : List states.Frame) → P c
    → item_step library place paid (frame_of (view_of t) c) frames w item ≡ Running 0 (frame_of (view_of t) (change c)) frames w)
    → (old new : Calls) → new ≡ on_running change old → OfRunning P old.calls → Steps t w item old.calls new.calls
steps_by t w item change P f old new e p library place paid =
    stepping t w item change P f old.calls p library place paid ∙ ap (λ (z : Calls). running_of t 0 z.calls w) (sym e)

remarked : (starts : List ℕ) (p q : ℕ) (es : List Entry) → map (remark q) (entries_of starts p es) ≡ entries_of starts q es
remarked starts p q [] = refl
remarked starts p q (e ∷ es) = ap (λ (z : List states.Entry). entry_of starts q e ∷ z) (remarked starts p q es)

-- on at an offset, whose position the machine goes on at
pub goes_with : (view : View) (c : Call) (position offset : ℕ) (st : List Slot) (es : List Entry) (frames : List states.Frame) (w : PlainWorld) → position_in (starts_of view c) offset ≡ position
    → go position (slots_of view (starts_of view c) st) (entries_of (starts_of view c) (position_of view c) es) (frame_of view c) frames w
    ≡ Running 0 (frame_of view (record c { at = offset; slots = st; entries = es })) frames w
goes_with view c position offset st es frames w e =
    let starts = starts_of view c in
    let F = frame_of view c in
    let q = position_in starts offset in
    ap (λ (z : ℕ). go z (slots_of view starts st) (entries_of starts (position_of view c) es) F frames w) (sym e)
    ∙ ap (λ (z : List states.Entry). Running 0 (record F { position = q; slots = slots_of view starts st; entries = z }) frames w) (remarked starts (position_of view c) q es)

pub goes_to : (view : View) (c : Call) (position offset : ℕ) (st : List Slot) (frames : List states.Frame) (w : PlainWorld) → position_in (starts_of view c) offset ≡ position
    → go position (slots_of view (starts_of view c) st) (entries_of (starts_of view c) (position_of view c) c.entries) (frame_of view c) frames w
    ≡ Running 0 (frame_of view (gone offset st c)) frames w
goes_to view c position offset st frames w e = goes_with view c position offset st c.entries frames w e

-- an instruction that goes on with a slot more
pub puts : (t : Tables) (w : PlainWorld) (item : Item) (s : Slot) (end : ℕ)
    → ((library : Library) (place : Place) (paid : ℕ) (frame : states.Frame) (frames : List states.Frame) (starts : List ℕ)
    → item_step library place paid frame frames w item ≡ go (suc frame.position) (Rattle.vm_frames.specs.Views.slot_of (view_of t) starts s ∷ frame.slots) frame.entries frame frames w)
    → (old new : Calls) → new ≡ on_running (λ c. gone end (s ∷ c.slots) c) old → IsNext t end old.calls → Steps t w item old.calls new.calls
puts t w item s end f old new e next =
    let view = view_of t in
    let P : Call → Type 0 = λ (c : Call). position_in (starts_of view c) end ≡ suc (position_of view c) in
    steps_by t w item (λ (c : Call). gone end (s ∷ c.slots) c) P
    (λ library place paid c frames p. f library place paid (frame_of view c) frames (starts_of view c) ∙ goes_to view c (suc (position_of view c)) end (s ∷ c.slots) frames w p)
    old new e next

-- an instruction that goes on with other slots
pub turns : (t : Tables) (w : PlainWorld) (item : Item) (turn : List Slot → List Slot) (P : Call → Type 0) (end : ℕ)
    → ((library : Library) (place : Place) (paid : ℕ) (c : Call) (frames : List states.Frame) → P c
    → item_step library place paid (frame_of (view_of t) c) frames w item
    ≡ go (suc (position_of (view_of t) c)) (slots_of (view_of t) (starts_of (view_of t) c) (turn c.slots)) (frame_of (view_of t) c).entries (frame_of (view_of t) c) frames w)
    → (old new : Calls) → new ≡ on_running (λ c. gone end (turn c.slots) c) old → OfRunning P old.calls → IsNext t end old.calls → Steps t w item old.calls new.calls
turns t w item turn P end f old new e p next =
    let view = view_of t in
    let Q : Call → Type 0 = λ (c : Call). position_in (starts_of view c) end ≡ suc (position_of view c) in
    steps_by t w item (λ (c : Call). gone end (turn c.slots) c) (λ c. P c × Q c)
    (λ library place paid c frames h. f library place paid c frames h.0 ∙ goes_to view c (suc (position_of view c)) end (turn c.slots) frames w h.1)
    old new e (both P Q old.calls p next)
