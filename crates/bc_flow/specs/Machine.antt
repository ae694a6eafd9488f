-- A machine over slots, where a choice says whether an instruction raises and which way it goes.
use Rattle.std.specs.Prelude.{◌≡◌, ℕ, zero, suc, ◌+◌, ◌-◌, Bool, true, false, not, ◌&&◌, List, [], ◌∷◌, ◌++◌, length, map, get_or}
use Rattle.std.specs.Prelude.{drop, Option, Some, None, nat_le, slice_get, if◌then◌else◌}
use Rattle.bc_shapes.specs.declared.kinds.Kind.{Kind}
use Rattle.bc_shapes.specs.declared.kinds.Kind.TheVariants as kinds
use Rattle.bc_shapes.specs.declared.kinds.Want.{Want}
use Rattle.bc_shapes.specs.declared.kinds.Want.TheVariants as wants
use Rattle.bc_shapes.specs.declared.kinds.Give.{Give}
use Rattle.bc_shapes.specs.declared.kinds.Give.TheVariants.{New, Again}
use Rattle.bc_shapes.specs.declared.shape.Entry.{Entry}
use Rattle.bc_flow.specs.Action.{Action, Setup, PopExcept, EndFinally, Unwind, Return}
use Rattle.bc_flow.specs.Code.{Code}
use Rattle.bc_flow.specs.Edges.{takes, gives, gives_there, falls, target, iterator_if}

-- what lies in a slot
pub data Slot : Type 0 where
  Value : Slot
  NoneOrException : Slot
  -- a return, and a jump that goes on to the position `target`, out of `count` more entries and with the iterator or not
  KeptReturn : Slot
  KeptJump : (target count : ℕ) → (iterator : Bool) → Slot
  Iter1 Iter2 Iter3 Iter4 : Slot
  Null Method : Slot

-- the slots, the topmost first
abbrev pub Stack : Type 0
Stack = List Slot

-- a state: at a position with slots and entries, at the end of the code's frame, or where an instruction can't go on
pub data St : Type 0 where
  Run : (p : ℕ) → Stack → List Entry → St
  Ends : St
  Stuck : St

-- what slots alone don't decide: whether an instruction raises, and whether a branch goes straight on
pub record Choice : Type 0 where
  pub raises : Bool
  pub straight : Bool

-- the slot is what is asked
abbrev pub is_wanted : Want → Slot → Bool
is_wanted wants.Value Value = true
is_wanted wants.Value NoneOrException = true
is_wanted wants.Cause NoneOrException = true
is_wanted wants.Cause KeptReturn = true
is_wanted wants.Cause (KeptJump t d it) = true
is_wanted wants.Top Value = true
is_wanted wants.Top NoneOrException = true
is_wanted wants.Top Iter1 = true
is_wanted wants.Top Iter2 = true
is_wanted wants.Top Iter3 = true
is_wanted wants.Top Iter4 = true
is_wanted wants.ValueOrNull Value = true
is_wanted wants.ValueOrNull NoneOrException = true
is_wanted wants.ValueOrNull Null = true
is_wanted wants.Null Null = true
is_wanted wants.Method Method = true
is_wanted wants.Iter1 Iter1 = true
is_wanted wants.Iter2 Iter2 = true
is_wanted wants.Iter3 Iter3 = true
is_wanted wants.Iter4 Iter4 = true
is_wanted _ _ = false

-- what is asked lies on top
abbrev pub all_wanted : List Want → Stack → Bool
all_wanted [] st = true
all_wanted (w ∷ ws) [] = false
all_wanted (w ∷ ws) (s ∷ st) = is_wanted w s && all_wanted ws st

-- a new slot of a kind
abbrev pub slot_of : Kind → Slot
slot_of kinds.Value = Value
slot_of kinds.Cause = NoneOrException
slot_of kinds.Either = NoneOrException
slot_of kinds.Iter1 = Iter1
slot_of kinds.Iter2 = Iter2
slot_of kinds.Iter3 = Iter3
slot_of kinds.Iter4 = Iter4
slot_of kinds.Null = Null
slot_of kinds.Method = Method

-- the slot that is given
abbrev pub give_slot : Stack → Give → Slot
give_slot st (New k) = slot_of k
give_slot st (Again n) = get_or st n NoneOrException

-- the stack once `n` slots are taken and these given
abbrev pub given : List Give → ℕ → Stack → Stack
given gs n st = map (give_slot st) gs ++ drop n st

-- the lowest `h` of them
abbrev pub cut : {A : Type 0} → ℕ → List A → List A
cut h xs = drop (length xs - h) xs

-- an entry is active from its handler's position on
abbrev pub remark : ℕ → Entry → Entry
remark p e = record e { active = nat_le e.handler p }

-- on at the position, with these slots and entries
abbrev pub go : ℕ → Stack → List Entry → St
go p st es = Run p st (map (remark p) es)

-- on at an entry's handler, with a slot more on the entry's height
abbrev pub enter : Entry → List Entry → Slot → Stack → St
enter e es s st = go e.handler (s ∷ cut e.height st) (e ∷ es)

-- a raise: active entries are dropped, and the first other one's handler is entered
abbrev pub throw : List Entry → Stack → St
throw [] st = Ends
throw (e ∷ es) st = if e.active then throw es (cut e.height st) else enter e es NoneOrException st

-- a return or a jump out of the entry runs its handler
abbrev pub is_run : Entry → Bool
is_run e = e.is_finally && not e.active

-- a return, through the finallys that it runs
abbrev pub leave : List Entry → Stack → St
leave [] st = Ends
leave (e ∷ es) st = if is_run e then enter e es KeptReturn st else leave es (cut e.height st)

-- a jump that takes an iterator or not
abbrev pub without_iter : ℕ → Bool → Stack → List Entry → St
without_iter t it st es = if all_wanted (iterator_if it) st then go t (drop (length (iterator_if it)) st) es else Stuck

-- a jump to `t` out of as many entries as the third argument says, which takes the iterator where `it` says so
abbrev pub unwind : ℕ → Bool → ℕ → List Entry → Stack → St
unwind t it zero es st = without_iter t it st es
unwind t it (suc d) [] st = Stuck
unwind t it (suc d) (e ∷ es) st = if is_run e then enter e es (KeptJump t d it) st else unwind t it d es (cut e.height st)

-- on with what a finally's slot has kept
abbrev pub resume : Slot → Bool → ℕ → List Entry → Stack → St
resume NoneOrException raises p es st = if raises then throw es st else go (suc p) st es
resume KeptReturn raises p es st = leave es st
resume (KeptJump t d it) raises p es st = unwind t it d es st
resume _ raises p es st = Stuck

-- on to the next instruction, there, or a raise
abbrev pub goes : Option ℕ → Bool → Bool → ℕ → Stack → Stack → Stack → List Entry → St
goes (Some t) false falls p next there st es = go t there es
goes (Some t) true true p next there st es = go (suc p) next es
goes (Some t) true false p next there st es = go t there es
goes None straight true p next there st es = go (suc p) next es
goes None straight false p next there st es = throw es st

-- an instruction that finds what it takes
abbrev pub plain : Action → Bool → ℕ → Stack → List Entry → St
plain i straight p st es =
    if all_wanted (takes i) st
    then goes (target i) straight (falls i) p (given (gives i) (length (takes i)) st) (given (gives_there i) (length (takes i)) st) st es
    else Stuck

-- what an instruction does that doesn't raise
abbrev pub act : Action → Bool → ℕ → Stack → List Entry → St
act (Setup h last) b p st es = go (suc p) st (record { handler = h; is_finally = last; active = false; height = length st } ∷ es)
act Return b p [] es = Stuck
act Return b p (s ∷ st) es = if is_wanted wants.Value s then leave es (s ∷ st) else Stuck
act (Unwind t d it) b p st es = unwind t it d es st
act EndFinally b p (s ∷ st) (e ∷ es) = if e.active then resume s b p es st else Stuck
act EndFinally b p _ _ = Stuck
act (PopExcept t) b p st [] = Stuck
act (PopExcept t) b p st (e ∷ es) = if e.is_finally then Stuck else go t st es
act i b p st es = plain i b p st es

-- the instruction at the position, if there is one
abbrev pub fetched : Option Action → Choice → ℕ → Stack → List Entry → St
fetched None c p st es = Stuck
fetched (Some i) c p st es = if c.raises then throw es st else act i c.straight p st es

-- stuck, where it has no room
abbrev pub within : Bool → St → St
within true s = s
within false s = Stuck

-- one step. It is stuck where slots or entries pass their room, outside the code, and where a slot is missing or wrong.
abbrev pub step : Code → Choice → St → St
step code c (Run p st es) =
    within (nat_le (code.locals + length st) code.n_state && nat_le (length es) code.n_exc) (fetched (slice_get code.actions p) c p st es)
step code c Ends = Ends
step code c Stuck = Stuck

-- a step for each choice
abbrev pub steps : Code → List Choice → St → St
steps code [] s = s
steps code (c ∷ cs) s = steps code cs (step code c s)

-- whatever is chosen, for however long
abbrev pub NeverStuck : Code → Type 0
NeverStuck code = (cs : List Choice) → steps code cs (Run 0 [] []) ≡ Stuck → ⊥
