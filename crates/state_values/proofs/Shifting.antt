-- The running call stays known where frames alone move.
use Rattle.std.proofs.Common.{◌≡◌, ℕ, List, [], ◌∷◌, drop, Bool, true, false, Option, Some, All}
use Rattle.std.specs.Prelude.{IfSome, slice_set}
use Rattle.std.proofs.lemmas.List.Elements.{All-cons, All-head, All-tail, All-drop, All-set}
use Rattle.vm_states.specs.mpy_base.World.{Objects}
use Rattle.vm_states.specs.prim_names.arena_heap.declared.value.Value.{Value}
use Rattle.vm_states.specs.prim_names.arena_heap.declared.value.Value.TheVariants as values
use Rattle.vm_states.specs.prim_names.arena_heap.declared.value.StrNo.{StrNo}
use Rattle.vm_states.specs.prim_names.arena_heap.declared.value.ConstNo.{ConstNo}
use Rattle.vm_states.specs.prim_names.prim_faults.Faults.{IsKnown}
use Rattle.vm_states.specs.vm_frames.declared.slot.Slot.{Slot}
use Rattle.vm_states.specs.vm_frames.declared.slot.Slot.TheVariants as slots
use Rattle.vm_states.specs.vm_frames.Calls.{Call, Calls, on_running}
use Rattle.vm_states.specs.vm_frames.Moves.{jumped as jumped_by}
use Rattle.vm_states.specs.frame_moves.Stacks.{gone, doubled, doubled_two, turned_two, turned_three, entry_over, set_up}
use Rattle.vm_states.specs.frame_exits.Known.{IsKnownSlot, KeepsException}
use Rattle.vm_states.proofs.frame_exits_lemmas.Finishes.{jumped_known}
use Rattle.vm_states.specs.vm_fetching.declared.operations.MoveOp.{MoveOp}
use Rattle.vm_states.specs.vm_fetching.declared.operations.MoveOp.TheVariants as move_ops
use Rattle.state_values.specs.Moving.{moved_slots}
use Rattle.state_values.specs.Onward.{Changed}

module _ (texts : StrNo → Option (List ℕ)) (tuples : ConstNo → Option (List Value)) (objects : Objects Value ℕ) where
  abbrev Known : Slot → Type 0
  Known s = IsKnownSlot texts tuples objects s

  abbrev KnownLocal : Option Value → Type 0
  KnownLocal v = IfSome v (IsKnown texts tuples objects)

  true_known : (b : Bool) → IsKnown texts tuples objects (values.Bool b)
  true_known b = record { leads = record { meets = tt; small = tt }; told = tt }

  doubled_known : (st : List Slot) → All Known st → All Known (doubled st)
  doubled_known [] k = k
  doubled_known (a ∷ st) k = All-cons Known a (a ∷ st) (All-head Known a st k) k

  doubled_two_known : (st : List Slot) → All Known st → All Known (doubled_two st)
  doubled_two_known [] k = k
  doubled_two_known (a ∷ []) k = k
  doubled_two_known (a ∷ b ∷ st) k =
      All-cons Known a (b ∷ a ∷ b ∷ st) (All-head Known a (b ∷ st) k) (All-cons Known b (a ∷ b ∷ st) (All-head Known b st (All-tail Known a (b ∷ st) k)) k)

  turned_two_known : (st : List Slot) → All Known st → All Known (turned_two st)
  turned_two_known [] k = k
  turned_two_known (a ∷ []) k = k
  turned_two_known (a ∷ b ∷ st) k =
      let rest = All-tail Known a (b ∷ st) k in
      All-cons Known b (a ∷ st) (All-head Known b st rest) (All-cons Known a st (All-head Known a (b ∷ st) k) (All-tail Known b st rest))

  turned_three_known : (st : List Slot) → All Known st → All Known (turned_three st)
  turned_three_known [] k = k
  turned_three_known (a ∷ []) k = k
  turned_three_known (a ∷ b ∷ []) k = k
  turned_three_known (a ∷ b ∷ c ∷ st) k =
      let rest = All-tail Known a (b ∷ c ∷ st) k in
      let last = All-tail Known b (c ∷ st) rest in
      All-cons Known b (c ∷ a ∷ st) (All-head Known b (c ∷ st) rest)
      (All-cons Known c (a ∷ st) (All-head Known c st last) (All-cons Known a st (All-head Known a (b ∷ c ∷ st) k) (All-tail Known c st last)))

  slots_known : (op : MoveOp) (st : List Slot) → All Known st → All Known (moved_slots op st)
  slots_known move_ops.LoadConstFalse st k = All-cons Known (slots.Value (values.Bool false)) st (true_known false) k
  slots_known move_ops.LoadConstNone st k = All-cons Known (slots.Value values.None) st (record { leads = record { meets = tt; small = tt }; told = tt }) k
  slots_known move_ops.LoadConstTrue st k = All-cons Known (slots.Value (values.Bool true)) st (true_known true) k
  slots_known move_ops.LoadNull st k = All-cons Known slots.Null st tt k
  slots_known move_ops.DupTop st k = doubled_known st k
  slots_known move_ops.DupTopTwo st k = doubled_two_known st k
  slots_known move_ops.PopTop st k = All-drop Known 1 st k
  slots_known move_ops.RotTwo st k = turned_two_known st k
  slots_known move_ops.RotThree st k = turned_three_known st k

  module _ (old new : Calls) where
    -- at an offset, with other slots
    slots_changed : (at : ℕ) (st : Call → List Slot) → ((c : Call) → All Known c.slots → All Known (st c)) → new ≡ on_running (λ c. gone at (st c) c) old → Changed texts tuples objects old new
    slots_changed at st known moved = record {
      change = λ c. gone at (st c) c;
      moved = moved;
      known = λ modules c k. record { of_module = k.of_module; names = k.names; role = k.role; locals = k.locals; slots = known c k.slots; entries = k.entries };
    }

    pub moved : (end : ℕ) (op : MoveOp) → new ≡ on_running (λ c. gone end (moved_slots op c.slots) c) old → Changed texts tuples objects old new
    moved end op e = slots_changed end (λ c. moved_slots op c.slots) (λ c k. slots_known op c.slots k) e

    pub pushed : (end : ℕ) (slot : Slot) → Known slot → new ≡ on_running (λ c. gone end (slot ∷ c.slots) c) old → Changed texts tuples objects old new
    pushed end slot is e = slots_changed end (λ c. slot ∷ c.slots) (λ c k. All-cons Known slot c.slots is k) e

    pub gone_to : (at : ℕ) → new ≡ on_running (λ c. gone at c.slots c) old → Changed texts tuples objects old new
    gone_to at e = slots_changed at (λ c. c.slots) (λ c k. k) e

    pub stored : (end n : ℕ) (v : Value) → IsKnown texts tuples objects v → new ≡ on_running (λ c. record c { at = end; slots = drop 1 c.slots; locals = slice_set c.locals n (Some v) }) old → Changed texts tuples objects old new
    stored end n v is e = record {
      change = λ c. record c { at = end; slots = drop 1 c.slots; locals = slice_set c.locals n (Some v) };
      moved = e;
      known = λ modules c k. record { of_module = k.of_module; names = k.names; role = k.role; locals = All-set KnownLocal c.locals n (Some v) is k.locals; slots = All-drop Known 1 c.slots k.slots; entries = k.entries };
    }

    pub set_up_on : (end handler : ℕ) (is_finally : Bool) → new ≡ on_running (λ c. set_up handler is_finally end c) old → Changed texts tuples objects old new
    set_up_on end handler is_finally e = record {
      change = λ c. set_up handler is_finally end c;
      moved = e;
      known = λ modules c k. record {
        of_module = k.of_module;
        names = k.names;
        role = k.role;
        locals = k.locals;
        slots = k.slots;
        entries = All-cons (KeepsException objects) (entry_over c.slots handler is_finally) c.entries tt k.entries;
      };
    }

    pub entry_left : (at : ℕ) → new ≡ on_running (λ c. record c { at = at; entries = drop 1 c.entries }) old → Changed texts tuples objects old new
    entry_left at e = record {
      change = λ c. record c { at = at; entries = drop 1 c.entries };
      moved = e;
      known = λ modules c k. record { of_module = k.of_module; names = k.names; role = k.role; locals = k.locals; slots = k.slots; entries = All-drop (KeepsException objects) 1 c.entries k.entries };
    }

    pub jumped_out : (target count : ℕ) (iterator : Bool) → new ≡ on_running (λ c. (jumped_by target count iterator c.entries c.slots c).call) old → Changed texts tuples objects old new
    jumped_out target count iterator e = record {
      change = λ c. (jumped_by target count iterator c.entries c.slots c).call;
      moved = e;
      known = λ modules c k. jumped_known texts tuples modules objects c k target count iterator c.entries c.slots k.entries k.slots;
    }
