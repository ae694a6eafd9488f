-- What constants are told to be.
use Rattle.std.specs.Prelude.{◌≡◌, ℕ, zero, suc, ◌<◌, List, Option, Some, None, IsSome, IfSome, All, slice_get}
use Rattle.arena_heap.specs.declared.value.Value.{Value}
use Rattle.arena_heap.specs.declared.value.Value.TheVariants as values
use Rattle.arena_heap.specs.declared.value.StrNo.{StrNo}
use Rattle.arena_heap.specs.declared.value.ConstNo.{ConstNo}
use Rattle.arena_heap.specs.Values.{IsSmall}

-- an item that the tuple c may have, where texts and tuples are told so
abbrev pub IsItemOf : (StrNo → Option (List ℕ)) → (ConstNo → Option (List Value)) → ConstNo → Value → Type 0
IsItemOf texts tuples c values.None = Unit {0}
IsItemOf texts tuples c (values.Bool b) = Unit {0}
IsItemOf texts tuples c (values.Int z) = IsSmall z
IsItemOf texts tuples c values.Empty = Unit {0}
IsItemOf texts tuples c (values.Str s) = IsSome (texts s)
IsItemOf texts tuples c (values.Fixed d) = IsSome (tuples d) × (d.«module» ≡ c.«module») × (c.object < d.object)
IsItemOf texts tuples c _ = ⊥

-- the tuple, where it is told, has tuples in it to this depth at most
abbrev pub NestsWithin : (ConstNo → Option (List Value)) → ℕ → ConstNo → Type 0
NestsWithin tuples zero c = tuples c ≡ None
NestsWithin tuples (suc depth) c =
    IfSome (tuples c) (λ items. (k : ℕ) (d : ConstNo) → slice_get items k ≡ Some (values.Fixed d) → NestsWithin tuples depth d)

-- the texts and tuples of a value are told
abbrev pub IsTold : (StrNo → Option (List ℕ)) → (ConstNo → Option (List Value)) → Value → Type 0
IsTold texts tuples (values.Str s) = IsSome (texts s)
IsTold texts tuples (values.Fixed c) = IsSome (tuples c)
IsTold texts tuples _ = Unit {0}

-- a value that leads to no object of an arena
abbrev pub HoldsNoObject : Value → Type 0
HoldsNoObject (values.List l) = ⊥
HoldsNoObject (values.Dict d) = ⊥
HoldsNoObject (values.Tuple t) = ⊥
HoldsNoObject (values.Text t) = ⊥
HoldsNoObject (values.Fun f) = ⊥
HoldsNoObject (values.Exc e) = ⊥
HoldsNoObject (values.Method m) = ⊥
HoldsNoObject (values.Range r) = ⊥
HoldsNoObject (values.Module m) = ⊥
HoldsNoObject _ = Unit {0}

-- no item of a constant tuple leads to an object
abbrev pub HoldNoObjects : (ConstNo → Option (List Value)) → Type 0
HoldNoObjects tuples = (c : ConstNo) → IfSome (tuples c) (All HoldsNoObject)
