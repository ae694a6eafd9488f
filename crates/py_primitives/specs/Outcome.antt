-- What a primitive gives: a value, a fault or a making that doesn't fit, with the heap behind it and its visits.
use Rattle.std.specs.Prelude.{ℕ, zero, suc, ◌+◌, List, [], ◌∷◌, length, replicate, Option, Some, None, Result, Ok, Err, if◌then◌else◌}
use Rattle.py_values.specs.mpy_base.declared.kind.Kind.{Kind}
use Rattle.py_values.specs.mpy_base.declared.room.NoRoom.{NoRoom}
use Rattle.py_values.specs.mpy_base.World.{Object, ListObject, TupleObject, TextObject, ExceptionObject, with_list, with_tuple}
use Rattle.py_values.specs.mpy_base.Val.{Val, Nil, Str, Empty, At}
use Rattle.py_values.specs.mpy_base.Weights.{used, does_fit, no_room, cells_of, bytes_of, with_made, room_for}
use Rattle.py_values.specs.Shown.{PlainHeap}
use Rattle.py_values.specs.Equality.{Walk}
use Rattle.py_primitives.specs.Faults.{Fault, TooDeep, fault_kind, fault_value, fault_text}

-- why there is no value
pub data Stop : Type 0 where
  Raises : Fault → Stop
  Full : NoRoom → Stop

-- what there is behind a primitive. The makings that fitted stay, also in front of one that doesn't fit
pub record Outcome (A : Type 0) : Type 0 where
  pub answer : Result A Stop
  pub heap : PlainHeap
  pub visits : ℕ

-- this value, with this heap behind it
abbrev pub gives : {A : Type 0} → A → PlainHeap → Outcome A
gives a heap = record { answer = Ok a; heap = heap; visits = 0 }

-- this fault, with this heap behind it
abbrev pub raises : {A : Type 0} → Fault → PlainHeap → Outcome A
raises fault heap = record { answer = Err (Raises fault); heap = heap; visits = 0 }

-- `cells` cells and `bytes` bytes don't fit
abbrev pub is_full : {A : Type 0} → PlainHeap → ℕ → ℕ → Outcome A
is_full heap cells bytes = record { answer = Err (Full (no_room heap cells bytes)); heap = heap; visits = 0 }

-- the outcome with visits more
abbrev pub with_visits : {A : Type 0} → ℕ → Outcome A → Outcome A
with_visits visits outcome = record outcome { visits = visits + outcome.visits }

-- on with a value, behind these visits
abbrev pub go_on_with : {A B : Type 0} → Result A Stop → PlainHeap → ℕ → (A → PlainHeap → Outcome B) → Outcome B
go_on_with (Ok a) heap visits next = with_visits visits (next a heap)
go_on_with (Err stop) heap visits next = record { answer = Err stop; heap = heap; visits = visits }

-- what comes next, where there is a value
abbrev pub followed_by : {A B : Type 0} → Outcome A → (A → PlainHeap → Outcome B) → Outcome B
followed_by first next = go_on_with first.answer first.heap first.visits next

-- on with the answer of a walk, which goes too deep where it has none
abbrev pub after_answer : {A B : Type 0} → Option A → PlainHeap → (A → Outcome B) → Outcome B
after_answer (Some a) heap next = next a
after_answer None heap next = raises TooDeep heap

-- what comes behind a walk, which is a fault where the walk goes too deep. A walk changes nothing
abbrev pub after_walk : {A B : Type 0} → PlainHeap → Walk A → (A → Outcome B) → Outcome B
after_walk heap walk next = with_visits walk.visits (after_answer walk.answer heap next)

-- makings
-- =======

-- an object is made, where it fits
abbrev pub making : PlainHeap → Object Val (List ℕ) → Outcome Val
making heap o =
    if does_fit heap (cells_of o) (bytes_of o)
    then gives (At (used heap)) (with_made heap o)
    else is_full heap (cells_of o) (bytes_of o)

-- a text, of which the empty one takes no room
abbrev pub making_text : PlainHeap → List ℕ → Outcome Val
making_text heap [] = gives (Str []) heap
making_text heap (byte ∷ bytes) = making heap (TextObject (byte ∷ bytes))

-- a tuple, of which the empty one takes no room
abbrev pub making_tuple : PlainHeap → List Val → Outcome Val
making_tuple heap [] = gives Empty heap
making_tuple heap (item ∷ items) = making heap (TupleObject (item ∷ items))

-- a list that holds these items
abbrev pub making_list : PlainHeap → List Val → Outcome Val
making_list heap items = making heap (ListObject items (room_for (length items)))

-- a text for each of these, in order
abbrev pub making_texts : PlainHeap → List (List ℕ) → Outcome (List Val)
making_texts heap [] = gives [] heap
making_texts heap (text ∷ texts) =
    followed_by (making_text heap text) (λ v behind. followed_by (making_texts behind texts) (λ vs last. gives (v ∷ vs) last))

-- a list with room for `count` items, which are made behind it
abbrev pub list_of : PlainHeap → ℕ → (PlainHeap → Outcome (List Val)) → Outcome Val
list_of heap count kept =
    followed_by (making heap (ListObject [] (room_for count))) (λ made behind.
    followed_by (kept behind) (λ items last. gives made (with_list last (used heap) items)))

-- a tuple with room for `count` items, which are made behind it
abbrev pub tuple_of : PlainHeap → ℕ → (PlainHeap → Outcome (List Val)) → Outcome Val
tuple_of heap zero kept = gives Empty heap
tuple_of heap (suc count) kept =
    followed_by (making heap (TupleObject (replicate (suc count) Nil))) (λ made behind.
    followed_by (kept behind) (λ items last. gives made (with_tuple last (used heap) items)))

-- a new exception, which was raised nowhere yet
abbrev pub making_exception : PlainHeap → Kind → List Val → Outcome Val
making_exception heap kind items =
    followed_by (making_tuple heap items) (λ args behind. making behind (ExceptionObject kind args [] 0 []))

-- the argument of a fault's exception: a value, or a text that is made
abbrev pub fault_argument : PlainHeap → Fault → Option Val → Outcome Val
fault_argument heap fault (Some v) = gives v heap
fault_argument heap fault None = making_text heap (fault_text fault)

-- the exception of a fault
abbrev pub making_fault : PlainHeap → Fault → Outcome Val
making_fault heap fault =
    followed_by (fault_argument heap fault (fault_value fault)) (λ v behind. making_exception behind (fault_kind fault) (v ∷ []))
