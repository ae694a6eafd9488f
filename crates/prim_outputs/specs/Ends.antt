-- What the keyword arguments of print give.
use Rattle.std.specs.Prelude.{ℕ, List, Option, None, Result, Ok, Err, IfSome}
use Rattle.std.specs.Option.{option_map}
use Rattle.mpy_base.specs.World.{Heap}
use Rattle.prim_builtins.specs.arena_heap.declared.value.Value.{Value}
use Rattle.prim_builtins.specs.arena_heap.declared.value.StrNo.{StrNo}
use Rattle.prim_builtins.specs.arena_heap.declared.value.ConstNo.{ConstNo}
use Rattle.prim_builtins.specs.arena_objects.Iterables.{spelled}
use Rattle.prim_builtins.specs.py_primitives.Faults as plain
use Rattle.prim_builtins.specs.py_primitives.Output.{Ends}
use Rattle.prim_builtins.specs.prim_faults.declared.fault.Fault.{Fault}
use Rattle.prim_builtins.specs.prim_faults.Faults.{plain_fault, IsKnownFault, IsKnownStr}
use Rattle.prim_outputs.specs.declared.keywords.Given.{Given}

-- what is given before the first keyword argument
abbrev pub nothing_given : Ends
nothing_given = record { sep = None; last = None }

module _ (texts : StrNo → Option (List ℕ)) (tuples : ConstNo → Option (List Value)) (heap : Heap Value ℕ) where
  -- the bytes of what is given
  abbrev pub plain_ends : Given → Ends
  plain_ends given = record { sep = option_map (spelled texts heap) given.sep; last = option_map (spelled texts heap) given.last }

  -- what is given, or the fault, as the meaning has it
  abbrev pub plain_found : Result Given Fault → Result Ends plain.Fault
  plain_found (Ok given) = Ok (plain_ends given)
  plain_found (Err fault) = Err (plain_fault texts tuples heap fault)

  -- what is given are strs
  pub record AreStrs (given : Given) : Type 0 where
    pub sep : IfSome given.sep (IsKnownStr texts tuples heap.objects)
    pub last : IfSome given.last (IsKnownStr texts tuples heap.objects)

  -- what is given is told, or the fault is known
  abbrev pub IsKnownFound : Result Given Fault → Type 0
  IsKnownFound (Ok given) = AreStrs given
  IsKnownFound (Err fault) = IsKnownFault texts tuples heap.objects fault

  -- what print goes on with where a str is given by a name
  abbrev pub given_as : (List ℕ → Ends) → Result Value Fault → Result Ends plain.Fault
  given_as with_bytes (Ok v) = Ok (with_bytes (spelled texts heap v))
  given_as with_bytes (Err fault) = Err (plain_fault texts tuples heap fault)
