-- A call that is placed stays so.
use Rattle.std.proofs.Common.{◌≡◌, ℕ, zero, suc, ◌<◌, List, [], ◌∷◌, drop, length, Bool, true, false, not, refl, sym, ap, ◌∙◌, subst, if◌then◌else◌}
use Rattle.std.specs.List.{AllByRecursion}
use Rattle.std.proofs.lemmas.List.Elements.{recursion_from_All, All-from_recursion}
use Rattle.arena_heap.specs.declared.value.Value.{Value}
use Rattle.arena_heap.specs.declared.value.Value.TheVariants as values
use Rattle.arena_heap.specs.declared.value.ExcNo.{ExcNo}
use Rattle.vm_frames.specs.declared.slot.Slot.{Slot}
use Rattle.vm_frames.specs.declared.slot.Slot.TheVariants as slots
use Rattle.vm_frames.specs.declared.slot.Entry.{Entry}
use Rattle.vm_frames.specs.Calls.{Call}
use Rattle.vm_frames.specs.Moves.{Moved, cut, is_active, is_run, from_first, into_first, with_kept, raised, returned, jumped}
use Rattle.bc_labels.specs.Positions.{CodeList, Listed, Starts}
use Rattle.bc_labels.proofs.Order as offsets
use Rattle.vm_frames.specs.Views.{View, starts_of}
use Rattle.vm_frames.specs.Placed.{IsPlaced}

abbrev Handlers : List ℕ → List Entry → Type 0
Handlers starts es = AllByRecursion (λ (e : Entry). Starts starts e.handler) es

handlers_of : (view : View) (c : Call) (pl : IsPlaced view c) → Handlers pl.list.offsets c.entries
handlers_of view c pl = recursion_from_All (λ (e : Entry). Starts pl.list.offsets e.handler) c.entries pl.handlers

there : (view : View) (c d : Call) (pl : IsPlaced view c) → starts_of view d ≡ starts_of view c → Starts pl.list.offsets d.at → Handlers pl.list.offsets d.entries → IsPlaced view d
there view c d pl e here hs = record {
  bytes = pl.bytes;
  list = pl.list;
  listed = pl.listed;
  starts_are = e ∙ pl.starts_are;
  here = here;
  handlers = All-from_recursion (λ (e : Entry). Starts pl.list.offsets e.handler) d.entries hs;
}

in_list : (view : View) (c : Call) (pl : IsPlaced view c) (at : ℕ) → Starts (starts_of view c) at → Starts pl.list.offsets at
in_list view c pl at s = subst (λ (z : List ℕ). Starts z at) pl.starts_are s

either_list : (starts : List ℕ) (b : Bool) (xs ys : List Entry) → Handlers starts xs → Handlers starts ys → Handlers starts (if b then xs else ys)
either_list starts true xs ys h k = h
either_list starts false xs ys h k = k

from_start : (starts : List ℕ) (passes : Entry → Bool) (es : List Entry) → Handlers starts es → Handlers starts (from_first passes es)
from_start starts passes [] h = tt
from_start starts passes (e ∷ es) h = either_list starts (passes e) (e ∷ es) (from_first passes es) h (from_start starts passes es h.1)

into : (view : View) (c : Call) (pl : IsPlaced view c) (mark : Entry → Entry) (slot : Slot) → ((e : Entry) → e.handler ≡ (mark e).handler) → (es : List Entry) → Handlers pl.list.offsets es
    → IsPlaced view (into_first mark slot es c).call
into view c pl mark slot same [] h = there view c (record c { entries = [] }) pl refl pl.here tt
into view c pl mark slot same (e ∷ es) h =
    there view c (record c { at = e.handler; slots = slot ∷ cut e.height c.slots; entries = mark e ∷ es }) pl refl h.0 (subst (Starts pl.list.offsets) (same e) h.0, h.1)

pub goes : (view : View) (c : Call) (at : ℕ) (st : List Slot) → IsPlaced view c → Starts (starts_of view c) at → IsPlaced view (record c { at = at; slots = st })
goes view c at st pl s = there view c (record c { at = at; slots = st }) pl refl (in_list view c pl at s) (handlers_of view c pl)

pub sets_up : (view : View) (c : Call) (e : Entry) → IsPlaced view c → Starts (starts_of view c) e.handler → IsPlaced view (record c { entries = e ∷ c.entries })
sets_up view c e pl s = there view c (record c { entries = e ∷ c.entries }) pl refl pl.here (in_list view c pl e.handler s, handlers_of view c pl)

but_first : (starts : List ℕ) (es : List Entry) → Handlers starts es → Handlers starts (drop 1 es)
but_first starts [] h = tt
but_first starts (e ∷ es) h = h.1

pub drops : (view : View) (c : Call) → IsPlaced view c → IsPlaced view (record c { entries = drop 1 c.entries })
drops view c pl = there view c (record c { entries = drop 1 c.entries }) pl refl pl.here (but_first pl.list.offsets c.entries (handlers_of view c pl))

pub raises : (view : View) (x : ExcNo) (c : Call) → IsPlaced view c → IsPlaced view (raised x c).call
raises view x c pl =
    let passes : Entry → Bool = λ (e : Entry). not (is_active c.at e) in
    into view c pl (with_kept x) (slots.Value (values.Exc x)) (λ e. refl) (from_first passes c.entries) (from_start pl.list.offsets passes c.entries (handlers_of view c pl))

pub returns : (view : View) (v : Value) (c : Call) → IsPlaced view c → IsPlaced view (returned v c).call
returns view v c pl =
    into view c pl (λ (e : Entry). e) (slots.Return v) (λ e. refl) (from_first (is_run c.at) c.entries) (from_start pl.list.offsets (is_run c.at) c.entries (handlers_of view c pl))

either_call : (view : View) (b : Bool) (m n : Moved) → IsPlaced view m.call → IsPlaced view n.call → IsPlaced view (if b then m else n).call
either_call view true m n h k = h
either_call view false m n h k = k

jumping : (view : View) (c : Call) (pl : IsPlaced view c) (target count : ℕ) (it : Bool) (es : List Entry) (st : List Slot) → Starts pl.list.offsets target → Handlers pl.list.offsets es
    → IsPlaced view (jumped target count it es st c).call
jumping view c pl target zero it es st s h = there view c (jumped target zero it es st c).call pl refl s h
jumping view c pl target (suc count) it [] st s h = there view c (jumped target (suc count) it [] st c).call pl refl s tt
jumping view c pl target (suc count) it (e ∷ es) st s h =
    let entered : Call = record c { at = e.handler; slots = slots.Jump target count it ∷ cut e.height st; entries = e ∷ es } in
    let further : Moved = jumped target count it es (cut e.height st) c in
    either_call view (is_run c.at e) (record { handler = Rattle.std.proofs.Common.Some e.handler; call = entered }) further (there view c entered pl refl h.0 h) (jumping view c pl target count it es (cut e.height st) s h.1)

pub jumps : (view : View) (target count : ℕ) (it : Bool) (c : Call) → IsPlaced view c → Starts (starts_of view c) target → IsPlaced view (jumped target count it c.entries c.slots c).call
jumps view target count it c pl s = jumping view c pl target count it c.entries c.slots (in_list view c pl target s) (handlers_of view c pl)

pub begins : (view : View) (c : Call) (bytes : List ℕ) (l : CodeList) → Listed bytes l → 0 < length bytes → starts_of view c ≡ l.offsets → c.at ≡ 0 → c.entries ≡ [] → IsPlaced view c
begins view c bytes l ls some e at none =
    let E : List Entry → Type 0 = λ z. Handlers l.offsets z in
    let hs : Handlers l.offsets c.entries = subst E (sym none) tt in
    record {
      bytes = bytes;
      list = l;
      listed = ls;
      starts_are = e;
      here = subst (Starts l.offsets) (sym at) (offsets.begins bytes l ls some);
      handlers = All-from_recursion (λ (e : Entry). Starts l.offsets e.handler) c.entries hs;
    }
