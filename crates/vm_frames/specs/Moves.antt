-- Moves of a call through its handler entries.
use Rattle.std.specs.Prelude.{ℕ, zero, suc, ◌-◌, ◌≤◌, List, [], ◌∷◌, length, drop, filter_map, Bool, true, false, not, ◌&&◌}
use Rattle.std.specs.Prelude.{Option, Some, None, nat_le, if◌then◌else◌}
use Rattle.arena_heap.specs.declared.value.Value.{Value}
use Rattle.arena_heap.specs.declared.value.Value.TheVariants as values
use Rattle.arena_heap.specs.declared.value.ExcNo.{ExcNo}
use Rattle.vm_frames.specs.declared.slot.Slot.{Slot}
use Rattle.vm_frames.specs.declared.slot.Slot.TheVariants as slots
use Rattle.vm_frames.specs.declared.slot.Entry.{Entry}
use Rattle.vm_frames.specs.Calls.{Call}

-- where a move came: the handler that it entered, if it did, and the call as it then is
pub record Moved : Type 0 where
  pub handler : Option ℕ
  pub call : Call

-- an entry is active from its handler on
abbrev pub is_active : ℕ → Entry → Bool
is_active at e = nat_le e.handler at

-- a return or a jump out of an entry runs its handler
abbrev pub is_run : ℕ → Entry → Bool
is_run at e = e.is_finally && not (is_active at e)

-- the entries from the first one on that passes
abbrev pub from_first : (Entry → Bool) → List Entry → List Entry
from_first passes [] = []
from_first passes (e ∷ es) = if passes e then e ∷ es else from_first passes es

-- the lowest `height` slots
abbrev pub cut : ℕ → List Slot → List Slot
cut height st = drop (length st - height) st

-- into the innermost of these entries, with this slot on its height, or out where there is none
abbrev pub into_first : (Entry → Entry) → Slot → List Entry → Call → Moved
into_first mark slot [] c = record { handler = None; call = record c { entries = [] } }
into_first mark slot (e ∷ es) c =
    record { handler = Some e.handler; call = record c { at = e.handler; slots = slot ∷ cut e.height c.slots; entries = mark e ∷ es } }

-- the exception that entered it is kept
abbrev pub with_kept : ExcNo → Entry → Entry
with_kept x e = record e { kept = Some x }

-- a raise drops the active entries, and enters the first other one
abbrev pub raised : ExcNo → Call → Moved
raised x c = into_first (with_kept x) (slots.Value (values.Exc x)) (from_first (λ e. not (is_active c.at e)) c.entries) c

-- a return drops entries up to the first finally that it runs
abbrev pub returned : Value → Call → Moved
returned v c = into_first (λ e. e) (slots.Return v) (from_first (is_run c.at) c.entries) c

-- the four slots of an iterator are taken, or not
abbrev pub without_iterator : Bool → List Slot → List Slot
without_iterator true st = drop 4 st
without_iterator false st = st

-- a jump to `target` out of `count` entries, up to the first finally that it runs, which keeps what is left of the jump. Each
-- entry that is left cuts the slots to its height
abbrev pub jumped : (target count : ℕ) → Bool → List Entry → List Slot → Call → Moved
jumped target zero it es st c = record { handler = None; call = record c { at = target; slots = without_iterator it st; entries = es } }
jumped target (suc count) it [] st c = record { handler = None; call = record c { at = target; slots = without_iterator it st; entries = [] } }
jumped target (suc count) it (e ∷ es) st c =
    if is_run c.at e
    then record { handler = Some e.handler; call = record c { at = e.handler; slots = slots.Jump target count it ∷ cut e.height st; entries = e ∷ es } }
    else jumped target count it es (cut e.height st) c

-- a slot that a finally keeps goes on
abbrev pub unwound : Slot → Call → Moved
unwound (slots.Return v) c = returned v c
unwound (slots.Jump target count it) c = jumped target count it c.entries c.slots c
unwound (slots.Value v) c = record { handler = None; call = c }
unwound slots.Null c = record { handler = None; call = c }
unwound (slots.Object o) c = record { handler = None; call = c }
unwound (slots.Iter over at part) c = record { handler = None; call = c }

-- a return, or a jump out of no more entries than there are
abbrev pub CanUnwind : Slot → Call → Type 0
CanUnwind (slots.Return v) c = Unit {0}
CanUnwind (slots.Jump target count it) c = count ≤ length c.entries
CanUnwind (slots.Value v) c = ⊥
CanUnwind slots.Null c = ⊥
CanUnwind (slots.Object o) c = ⊥
CanUnwind (slots.Iter over at part) c = ⊥

-- the exceptions that entries keep, the innermost first
abbrev pub kept_in : List Entry → List ExcNo
kept_in es = filter_map (λ (e : Entry). e.kept) es
