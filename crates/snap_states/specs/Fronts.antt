-- What slots are, from the topmost on: the least that they may be taken for.
use Rattle.std.specs.Prelude.{◌≡◌, ◌≤◌, ℕ, Bool, true, false, List, [], ◌∷◌, ◌++◌, length, drop, Option, Some, None, slice_get}
use Rattle.std.specs.Prelude.{option_and_then, nat_eq, nat_lt, ◌&&◌, if◌then◌else◌}
use Rattle.mpy_base.specs.World.{AnException}
use Rattle.bc_library.specs.bc_shapes.declared.kinds.Kind.{Kind}
use Rattle.bc_library.specs.bc_shapes.declared.kinds.Kind.TheVariants as kinds
use Rattle.bc_library.specs.bc_flow.Machine.{Slot, Stack, Value, Iter1, Iter2, Iter3, Iter4, Method}
use Rattle.bc_library.specs.Shelf.{Shelf}
use Rattle.bc_flow.proofs.Sound.{Stands}
use Rattle.snap_grammar.specs.declared.parts.ValuePart.{ValuePart}
use Rattle.snap_grammar.specs.declared.parts.ValuePart.TheVariants as parts
use Rattle.snap_grammar.specs.declared.parts.SlotPart.{SlotPart}
use Rattle.snap_grammar.specs.declared.parts.SlotPart.TheVariants as slots
use Rattle.snap_grammar.specs.declared.parts.Snapshot.{Snapshot}
use Rattle.snap_states.specs.declared.slots.Front.{Front}
use Rattle.snap_states.specs.declared.slots.Front.TheVariants as fronts
use Rattle.snap_states.specs.Stacks.{Covers, slot_as}
use Rattle.snap_states.specs.States.{IsAt, IsBound, IsPlain, ShowsParts}

-- the slots of a front
abbrev pub front_slots : Front → Stack
front_slots (fronts.One slot) = slot_as slot ∷ []
front_slots fronts.Whole = Iter4 ∷ Iter3 ∷ Iter2 ∷ Iter1 ∷ []
front_slots fronts.Three = Iter3 ∷ Iter2 ∷ Iter1 ∷ []
front_slots fronts.Two = Iter2 ∷ Iter1 ∷ []
front_slots fronts.Last = Iter1 ∷ []
front_slots fronts.Method = Method ∷ Value ∷ []

-- how many parts it has besides the first
abbrev pub front_more : Front → ℕ
front_more fronts.Method = 1
front_more (fronts.One slot) = 0
front_more fronts.Whole = 0
front_more fronts.Three = 0
front_more fronts.Two = 0
front_more fronts.Last = 0

-- a kind of a slot by itself
abbrev pub is_single : Kind → Bool
is_single kinds.Value = true
is_single kinds.Cause = true
is_single kinds.Either = true
is_single kinds.Null = true
is_single kinds.Iter1 = false
is_single kinds.Iter2 = false
is_single kinds.Iter3 = false
is_single kinds.Iter4 = false
is_single kinds.Method = false

-- the kind of a slot that None or an exception may have, and no other value
abbrev pub is_open : Kind → Bool
is_open kinds.Cause = true
is_open kinds.Either = true
is_open kinds.Value = false
is_open kinds.Null = false
is_open kinds.Iter1 = false
is_open kinds.Iter2 = false
is_open kinds.Iter3 = false
is_open kinds.Iter4 = false
is_open kinds.Method = false

-- the kind of a slot of an iterator
abbrev pub is_iterating : Kind → Bool
is_iterating kinds.Iter1 = true
is_iterating kinds.Iter2 = true
is_iterating kinds.Iter3 = true
is_iterating kinds.Iter4 = true
is_iterating kinds.Value = false
is_iterating kinds.Cause = false
is_iterating kinds.Either = false
is_iterating kinds.Null = false
is_iterating kinds.Method = false

-- the iterator, whole or of the slots that are left of it, that kinds begin with
abbrev pub iterator_in : List Kind → Option Front
iterator_in (kinds.Iter4 ∷ kinds.Iter3 ∷ kinds.Iter2 ∷ kinds.Iter1 ∷ ks) = Some fronts.Whole
iterator_in (kinds.Iter3 ∷ kinds.Iter2 ∷ kinds.Iter1 ∷ ks) = Some fronts.Three
iterator_in (kinds.Iter2 ∷ kinds.Iter1 ∷ ks) = Some fronts.Two
iterator_in (kinds.Iter1 ∷ ks) = Some fronts.Last
iterator_in _ = None

-- how many slots are left of an iterator that isn't whole, or 0
abbrev pub left_of : Front → ℕ
left_of fronts.Three = 3
left_of fronts.Two = 2
left_of fronts.Last = 1
left_of (fronts.One slot) = 0
left_of fronts.Whole = 0
left_of fronts.Method = 0

-- the value, where so many slots are left as are asked
abbrev pub if_left : ℕ → ℕ → ValuePart → Option ValuePart
if_left asked count over = if nat_lt 0 asked && nat_eq count asked then Some over else None

-- the value, where the whole is asked
abbrev pub if_whole : Front → ValuePart → Option ValuePart
if_whole fronts.Whole over = Some over
if_whole (fronts.One slot) over = None
if_whole fronts.Three over = None
if_whole fronts.Two over = None
if_whole fronts.Last over = None
if_whole fronts.Method over = None

-- what the iterator of a part goes over, if it is one with these slots
abbrev pub over_of : Front → SlotPart → Option ValuePart
over_of f (slots.Iterator over at) = if_whole f over
over_of f (slots.Left count over at) = if_left (left_of f) count over
over_of f (slots.Value v) = None
over_of f slots.Empty = None
over_of f (slots.Return v) = None
over_of f (slots.Jump target entries iterator) = None

-- the first of the kinds is that of a value
abbrev pub begins_with_value : List Kind → Bool
begins_with_value (kinds.Value ∷ ks) = true
begins_with_value _ = false

-- the value of a part, if it is one
abbrev pub value_in : SlotPart → Option ValuePart
value_in (slots.Value v) = Some v
value_in slots.Empty = None
value_in (slots.Iterator over at) = None
value_in (slots.Left count over at) = None
value_in (slots.Return v) = None
value_in (slots.Jump target entries iterator) = None

-- the value that the first of some parts is, if it is one
abbrev pub top_in : List SlotPart → Option ValuePart
top_in ps = option_and_then value_in (slice_get ps 0)

-- each offset stands once among these
abbrev pub StartOnce : List ℕ → Type 0
StartOnce offsets = (p q offset : ℕ) → slice_get offsets p ≡ Some offset → slice_get offsets q ≡ Some offset → p ≡ q

module _ (shelf : Shelf) (s : Snapshot) where
  -- None or an exception
  abbrev pub IsCaught : ValuePart → Type 0
  IsCaught parts.None = Unit {0}
  IsCaught parts.False = ⊥
  IsCaught parts.True = ⊥
  IsCaught (parts.Int z) = ⊥
  IsCaught (parts.Object number) = IsAt s AnException number
  IsCaught (parts.Str text) = ⊥
  IsCaught (parts.Fixed m n) = ⊥
  IsCaught parts.Empty = ⊥
  IsCaught (parts.Named name) = ⊥

  -- parts from the topmost on are these slots, which are of these kinds
  pub record Lies (offsets : List ℕ) (ps : List SlotPart) (ks : List Kind) (st : Stack) : Type 0 where
    pub shows : ShowsParts shelf s offsets ps st
    pub stands : Stands st ks

  -- slots that begin with some that the front covers, and behind them these parts lie
  pub record GoesOn (offsets : List ℕ) (front : Stack) (ps : List SlotPart) (ks : List Kind) (st : Stack) : Type 0 where
    pub first : Stack
    pub rest : Stack
    pub parts : st ≡ first ++ rest
    pub covers : Covers front first
    pub lies : Lies offsets ps ks rest

  -- the parts `ps` of the kinds `ks` are the front, and then the parts `qs` of the kinds `ls`
  pub record IsFront (offsets : List ℕ) (ps : List SlotPart) (ks : List Kind) (front : Stack) (qs : List SlotPart) (ls : List Kind) : Type 0 where
    pub forth : (st : Stack) → Lies offsets qs ls st → Lies offsets ps ks (front ++ st)
    pub back : (st : Stack) → Lies offsets ps ks st → GoesOn offsets front qs ls st

  -- the part is this slot, whatever lies below
  pub record IsSlot (offsets : List ℕ) (part : SlotPart) (kind : Kind) (slot : Slot) : Type 0 where
    pub front : (ps : List SlotPart) (ks : List Kind) → IsFront offsets (part ∷ ps) (kind ∷ ks) (slot ∷ []) ps ks

  -- the part is no slot of this kind
  pub record IsNoSlot (offsets : List ℕ) (part : SlotPart) (kind : Kind) : Type 0 where
    pub none : (ps : List SlotPart) (ks : List Kind) (st : Stack) → Lies offsets (part ∷ ps) (kind ∷ ks) st → ⊥

  -- what a part is on others, where these kinds are asked
  pub record IsTaken (offsets : List ℕ) (part : SlotPart) (ps : List SlotPart) (ks : List Kind) (f : Front) : Type 0 where
    pub front : IsFront offsets (part ∷ ps) ks (front_slots f) (drop (front_more f) ps) (drop (length (front_slots f)) ks)
    pub long : length (front_slots f) ≤ length ks
    pub more : front_more f ≤ length ps

  -- these parts are no slots of these kinds
  pub record AreNone (offsets : List ℕ) (ps : List SlotPart) (ks : List Kind) : Type 0 where
    pub none : (st : Stack) → Lies offsets ps ks st → ⊥

  -- the two slots of a look-up: an object on a method of its type, or nothing on a value
  abbrev pub IsLookUp : SlotPart → ValuePart → Type 0
  IsLookUp (slots.Value v) (parts.Named name) = IsBound shelf s name v
  IsLookUp slots.Empty below = IsPlain shelf s below
  IsLookUp _ _ = ⊥

  -- the parts are these slots, which may serve wherever any others do that the parts are
  pub record IsLowest (offsets : List ℕ) (ps : List SlotPart) (ks : List Kind) (st : Stack) : Type 0 where
    pub lies : Lies offsets ps ks st
    pub covers : (su : Stack) → Lies offsets ps ks su → Covers st su
