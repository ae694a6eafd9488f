-- What an arena is under constants, which have the texts and tuples of its values: what the meaning of programs sees of it,
-- and what a call does to it. In a clause `C.Constants consts.now` are the constants.
use Rattle.std.specs.Prelude.{◌≡◌, ℕ, min, List, map, Option, Result, All}
use Rattle.prim_walks.specs.mpy_base.World.{Heap}
use Rattle.prim_walks.specs.mpy_base.declared.builtin.Builtin.{Builtin}
use Rattle.prim_walks.specs.mpy_base.Val.{Val, PlainWorld}
use Rattle.prim_walks.specs.arena_heap.declared.value.Value.{Value}
use Rattle.prim_walks.specs.arena_heap.declared.value.StrNo.{StrNo}
use Rattle.prim_walks.specs.arena_heap.declared.value.ConstNo.{ConstNo}
use Rattle.prim_walks.specs.arena_heap.declared.constants.Constants.{Ghosts}
use Rattle.prim_walks.specs.arena_heap.Constants.{IsTold}
use Rattle.prim_walks.specs.arena_objects.Iterables.{or_nothing, spelled}
use Rattle.prim_walks.specs.arena_objects.Keys.{AllTold}
use Rattle.prim_walks.specs.py_values.Shown.{PlainHeap}
use Rattle.prim_walks.specs.py_primitives.Outcome.{Outcome}
use Rattle.prim_walks.specs.py_primitives.Calls.{call}
use Rattle.prim_walks.specs.py_primitives.Methods.{call_method}
use Rattle.prim_walks.specs.Plain.{plain, plain_pair, plain_name, plain_heap}
use Rattle.prim_faults.specs.declared.fault.Fault.{Fault}
use Rattle.prim_faults.specs.declared.stop.Stop.{Stop}
use Rattle.prim_faults.specs.Faults.{IsKnown, IsKnownStr, IsKnownFault}
use Rattle.prim_faults.specs.Outcomes.{IsKnownAnswer, IsOutcome}

-- the texts and tuples that constants have, and what the meaning has for values, pairs, arenas, texts, names by their
-- numbers, and for the bytes of a str
pub record Sight : Type 0 where
  pub texts : StrNo → Option (List ℕ)
  pub tuples : ConstNo → Option (List Value)
  pub value : Value → Val
  pub pair : Value × Value → Val × Val
  pub heap : Heap Value ℕ → PlainHeap
  pub text : StrNo → List ℕ
  pub name : ℕ → List ℕ
  pub bytes : Heap Value ℕ → Value → List ℕ

-- what is seen by these texts and tuples
abbrev pub sight_of : (StrNo → Option (List ℕ)) → (ConstNo → Option (List Value)) → Sight
sight_of texts tuples = record {
  texts = texts;
  tuples = tuples;
  value = plain texts tuples;
  pair = plain_pair texts tuples;
  heap = plain_heap texts tuples;
  text = λ s. or_nothing (texts s);
  name = plain_name texts tuples;
  bytes = spelled texts;
}

-- a built-in is called, or a method of a value
abbrev pub calling : Builtin → (args : List Value) → (keys : List (Value × Value)) → PlainHeap → Sight → Outcome Val
calling builtin args keys heap see = call heap builtin (map see.value args) (map see.pair keys)

abbrev pub calling_method : Builtin → (object : Value) → (args : List Value) → (keys : List (Value × Value)) → PlainHeap → Sight → Outcome Val
calling_method method object args keys heap see = call_method heap method (see.value object) (map see.value args) (map see.pair keys)

-- what is said of texts and tuples is said of those that the constants have
abbrev pub under {ℓ} : {T : Type 0} {A : Type ℓ} → Ghosts T → T → ((StrNo → Option (List ℕ)) → (ConstNo → Option (List Value)) → A) → A
under C consts said = said (C.text_of consts) (C.items_of consts)

-- the world with the heap of an arena in the place of its own
abbrev pub world_over : (StrNo → Option (List ℕ)) → (ConstNo → Option (List Value)) → PlainWorld → Heap Value ℕ → PlainWorld
world_over texts tuples w arena = record w { heap = plain_heap texts tuples arena }

module _ {T : Type 0} (C : Ghosts T) (consts : T) where
  abbrev pub sight : Sight
  sight = sight_of (C.text_of consts) (C.items_of consts)

  -- the texts and tuples of a value are told, and of all values that the objects of an arena hold
  abbrev pub Tells : Value → Type 0
  Tells = IsTold (C.text_of consts) (C.items_of consts)

  abbrev pub TellsAll : Heap Value ℕ → Type 0
  TellsAll arena = AllTold (C.text_of consts) (C.items_of consts) arena.objects

  -- a value leads to an object of the arena and is told; so do values, pairs, a str, and the values of a fault and of an answer
  abbrev pub Knows : Heap Value ℕ → Value → Type 0
  Knows arena = IsKnown (C.text_of consts) (C.items_of consts) arena.objects

  abbrev pub KnowsAll : Heap Value ℕ → List Value → Type 0
  KnowsAll arena = All (IsKnown (C.text_of consts) (C.items_of consts) arena.objects)

  abbrev pub KnowsPairs : Heap Value ℕ → List (Value × Value) → Type 0
  KnowsPairs arena = All (λ pair. Knows arena pair.0 × Knows arena pair.1)

  abbrev pub KnowsStr : Heap Value ℕ → Value → Type 0
  KnowsStr arena = IsKnownStr (C.text_of consts) (C.items_of consts) arena.objects

  abbrev pub KnowsFault : Heap Value ℕ → Fault → Type 0
  KnowsFault arena = IsKnownFault (C.text_of consts) (C.items_of consts) arena.objects

  abbrev pub KnowsAnswer : Heap Value ℕ → Result Value Stop → Type 0
  KnowsAnswer arena = IsKnownAnswer (C.text_of consts) (C.items_of consts) arena.objects

  -- a call that leaves the new arena in the place of the old one, and answers so, does what the primitive does to its heap
  abbrev pub Does : (old new : Heap Value ℕ) → Result Value Stop → (PlainHeap → Sight → Outcome Val) → Type 0
  Does old new result primitive =
      IsOutcome (C.text_of consts) (C.items_of consts) old new result (primitive (plain_heap (C.text_of consts) (C.items_of consts) old) sight)

  -- a number is that of the primitive's visits, up to the most that is asked for
  abbrev pub CountsUpTo : {A : Type 0} → (count most : ℕ) → Heap Value ℕ → (PlainHeap → Sight → Outcome A) → Type 0
  CountsUpTo count most arena primitive =
      count ≡ min (primitive (plain_heap (C.text_of consts) (C.items_of consts) arena) sight).visits most
