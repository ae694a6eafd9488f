-- Slots of frames against the shapes of positions, as tests.
use Rattle.std.specs.Prelude.{ℕ, zero, suc, Bool, true, false, not, ◌&&◌, ◌||◌, List, [], ◌∷◌, length, map, drop, Option}
use Rattle.std.specs.Prelude.{Some, None, nat_lt}
use Rattle.bc_shapes.specs.declared.kinds.Kind.{Kind}
use Rattle.bc_shapes.specs.declared.kinds.Kind.TheVariants as kinds
use Rattle.bc_shapes.specs.declared.shape.Entry.{Entry}
use Rattle.bc_shapes.specs.Shape.{At, same_entries}
use Rattle.bc_flow.specs.Edges.{iterator_if}
use Rattle.bc_flow.specs.Machine.{Slot, Stack, Value, NoneOrException, KeptReturn, KeptJump, Iter1, Iter2, Iter3, Iter4, Null}
use Rattle.bc_flow.specs.Machine.{Method, all_wanted, cut, remark, is_run}
use Rattle.bc_flow.specs.Verified.{Assigned}
use Rattle.snap_states.specs.declared.slot.Slot.{Slot as RustSlot}
use Rattle.snap_states.specs.declared.slot.Slot.TheVariants as rust

-- what lies in a slot
abbrev pub slot_as : RustSlot → Slot
slot_as rust.Value = Value
slot_as rust.NoneOrException = NoneOrException
slot_as rust.KeptReturn = KeptReturn
slot_as (rust.KeptJump target count iterator) = KeptJump target count iterator
slot_as rust.Iter1 = Iter1
slot_as rust.Iter2 = Iter2
slot_as rust.Iter3 = Iter3
slot_as rust.Iter4 = Iter4
slot_as rust.Null = Null
slot_as rust.Method = Method

-- the slots
abbrev pub stack_as : List RustSlot → Stack
stack_as slots = map slot_as slots

-- the slot is of the kind
abbrev pub fits_kind : Slot → Kind → Bool
fits_kind Value kinds.Value = true
fits_kind NoneOrException kinds.Value = true
fits_kind NoneOrException kinds.Cause = true
fits_kind NoneOrException kinds.Either = true
fits_kind KeptReturn kinds.Cause = true
fits_kind (KeptJump target count iterator) kinds.Cause = true
fits_kind Iter1 kinds.Iter1 = true
fits_kind Iter2 kinds.Iter2 = true
fits_kind Iter3 kinds.Iter3 = true
fits_kind Iter4 kinds.Iter4 = true
fits_kind Null kinds.Null = true
fits_kind Method kinds.Method = true
fits_kind slot kind = false

-- equally many slots, each of its kind
abbrev pub fit_kinds : Stack → List Kind → Bool
fit_kinds [] [] = true
fit_kinds [] (k ∷ ks) = false
fit_kinds (s ∷ st) [] = false
fit_kinds (s ∷ st) (k ∷ ks) = fits_kind s k && fit_kinds st ks

-- the shape is that of these slots and entries
abbrev pub is_shape_of : Option At → ℕ → Stack → List Entry → Bool
is_shape_of None p st es = false
is_shape_of (Some x) p st es = same_entries x.entries (map (remark p) es) && fit_kinds st x.slots

-- what the assignment has at a position is the shape of these slots and entries
abbrev pub is_shape : Assigned → ℕ → Stack → List Entry → Bool
is_shape a p st es = is_shape_of (a p) p st es

-- at its target a jump finds its shape
abbrev pub arrives : Assigned → ℕ → Bool → List Entry → Stack → Bool
arrives a t it es st = all_wanted (iterator_if it) st && is_shape a t (drop (length (iterator_if it)) st) es

-- a jump out of an entry finds the shape of the finally that it runs, with as many entries still to leave
abbrev pub passes : Assigned → ℕ → Bool → ℕ → Entry → List Entry → Stack → Bool
passes a t it d e es st = not (is_run e) || is_shape a e.handler (KeptJump t d it ∷ cut e.height st) (e ∷ es)

-- so does a jump out of the first of some entries
abbrev pub leaves_first : Assigned → ℕ → Bool → ℕ → List Entry → Stack → Bool
leaves_first a t it d [] st = false
leaves_first a t it d (e ∷ es) st = passes a t it d e es st

-- a jump out of as many entries goes through each finally that it runs, to its target
abbrev pub leads_on : Assigned → ℕ → Bool → ℕ → List Entry → Stack → Bool
leads_on a t it zero es st = arrives a t it es st
leads_on a t it (suc d) [] st = false
leads_on a t it (suc d) (e ∷ es) st = passes a t it d e es st && leads_on a t it d es (cut e.height st)

-- the jump that the topmost slot keeps leads on below it
abbrev pub top_leads_on : Assigned → List Entry → Stack → Bool
top_leads_on a es (KeptJump t d it ∷ st) = leads_on a t it d es st
top_leads_on a es _ = true

-- the jump that the slot at this height keeps leads on
abbrev pub jump_leads_on : Assigned → List Entry → ℕ → Stack → Bool
jump_leads_on a es h st = not (nat_lt h (length st)) || top_leads_on a es (cut (suc h) st)

-- each kept jump leads on out of entries below its own
abbrev pub jumps_lead_on : Assigned → List Entry → Stack → Bool
jumps_lead_on a [] st = true
jumps_lead_on a (e ∷ es) st = jump_leads_on a es e.height st && jumps_lead_on a es (cut e.height st)

-- a slot on others, if there is one
abbrev pub on_top : Option RustSlot → Stack → Stack
on_top None st = st
on_top (Some s) st = slot_as s ∷ st

-- slot by slot the same, or what may be None or an exception where the other is a value
pub data Covers : Stack → Stack → Type 0 where
  both_empty : Covers [] []
  same : {s : Slot} {st su : Stack} → Covers st su → Covers (s ∷ st) (s ∷ su)
  caught : {st su : Stack} → Covers st su → Covers (NoneOrException ∷ st) (Value ∷ su)
