-- Slots and entries of a frame as those of the machine.
use Rattle.std.proofs.Common.{◌≡◌, ℕ, zero, suc, ◌-◌, List, [], ◌∷◌, map, drop, length, Bool, true, false, Option, Some, None, refl, ap, ◌∙◌}
use Rattle.std.specs.Option.{option_map}
use Rattle.std.specs.List.{cons_option}
use Rattle.mpy_base.specs.Val.{PlainWorld}
use Rattle.arena_heap.specs.declared.value.ExcNo.{ExcNo}
use Rattle.vm_frames.specs.declared.slot.Slot.{Slot}
use Rattle.vm_frames.specs.declared.slot.Entry.{Entry}
use Rattle.vm_frames.specs.Calls.{Call}
use Rattle.vm_frames.specs.Moves as moves
use Rattle.vm_frames.specs.Moves.{kept_in, without_iterator}
use Rattle.bc_labels.specs.Positions.{position_in}
use Rattle.bc_machine.specs.State as states
use Rattle.bc_machine.specs.State.{Running, remark, go, cut, without_iter}
use Rattle.bc_machine.specs.Operations.{kept_of}
use Rattle.vm_frames.specs.Views.{View, slot_of, slots_of, entry_of, entries_of, starts_of, position_of, frame_of}

pub map-length : {A B : Type 0} (f : A → B) (xs : List A) → length (map f xs) ≡ length xs
map-length f [] = refl
map-length f (x ∷ xs) = ap suc (map-length f xs)

map-drop : {A B : Type 0} (f : A → B) (k : ℕ) (xs : List A) → drop k (map f xs) ≡ map f (drop k xs)
map-drop f zero xs = refl
map-drop f (suc k) [] = refl
map-drop f (suc k) (x ∷ xs) = map-drop f k xs

pub cut_is : (view : View) (starts : List ℕ) (h : ℕ) (st : List Slot) → cut h (slots_of view starts st) ≡ slots_of view starts (moves.cut h st)
cut_is view starts h st =
    ap (λ (n : ℕ). drop (n - h) (slots_of view starts st)) (map-length (slot_of view starts) st) ∙ map-drop (slot_of view starts) (length st - h) st

pub without_is : (view : View) (starts : List ℕ) (it : Bool) (st : List Slot) → without_iter it (slots_of view starts st) ≡ slots_of view starts (without_iterator it st)
without_is view starts true st = map-drop (slot_of view starts) 4 st
without_is view starts false st = refl

remarked : (starts : List ℕ) (p q : ℕ) (es : List Entry) → map (remark q) (entries_of starts p es) ≡ entries_of starts q es
remarked starts p q [] = refl
remarked starts p q (e ∷ es) = ap (λ (z : List states.Entry). entry_of starts q e ∷ z) (remarked starts p q es)

pub goes : (view : View) (c : Call) (at : ℕ) (st : List Slot) (es : List Entry) (frames : List states.Frame) (w : PlainWorld)
    → go (position_in (starts_of view c) at) (slots_of view (starts_of view c) st) (entries_of (starts_of view c) (position_of view c) es) (frame_of view c) frames w
    ≡ Running 0 (frame_of view (record c { at = at; slots = st; entries = es })) frames w
goes view c at st es frames w =
    let starts = starts_of view c in
    let q = position_in starts at in
    let F = frame_of view c in
    ap (λ (z : List states.Entry). Running 0 (record F { position = q; slots = slots_of view starts st; entries = z }) frames w) (remarked starts (position_of view c) q es)

-- into a handler
pub enters : (view : View) (c : Call) (k : Entry) (s : Slot) (st : List Slot) (es : List Entry) (frames : List states.Frame) (w : PlainWorld)
    → go (position_in (starts_of view c) k.handler) (slot_of view (starts_of view c) s ∷ cut k.height (slots_of view (starts_of view c) st)) (entries_of (starts_of view c) (position_of view c) (k ∷ es)) (frame_of view c) frames w
    ≡ Running 0 (frame_of view (record c { at = k.handler; slots = s ∷ moves.cut k.height st; entries = k ∷ es })) frames w
enters view c k s st es frames w =
    let starts = starts_of view c in
    ap (λ (z : List states.Slot). go (position_in starts k.handler) (slot_of view starts s ∷ z) (entries_of starts (position_of view c) (k ∷ es)) (frame_of view c) frames w) (cut_is view starts k.height st)
    ∙ goes view c k.handler (s ∷ moves.cut k.height st) (k ∷ es) frames w

map-cons : (k : Option ExcNo) (xs : List ExcNo) → cons_option (option_map (λ (x : ExcNo). x.cell) k) (map (λ (x : ExcNo). x.cell) xs) ≡ map (λ (x : ExcNo). x.cell) (cons_option k xs)
map-cons None xs = refl
map-cons (Some x) xs = refl

pub keeps : (starts : List ℕ) (position : ℕ) (es : List Entry) → kept_of (entries_of starts position es) ≡ map (λ (x : ExcNo). x.cell) (kept_in es)
keeps starts position [] = refl
keeps starts position (e ∷ es) =
    ap (cons_option (option_map (λ (x : ExcNo). x.cell) e.kept)) (keeps starts position es) ∙ map-cons e.kept (kept_in es)
