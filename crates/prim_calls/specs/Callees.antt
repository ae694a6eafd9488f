-- What a callee is over an arena.
use Rattle.std.specs.Prelude.{◌≡◌, ℕ, List, Option, Some}
use Rattle.mpy_base.specs.declared.builtin.Builtin.{Builtin}
use Rattle.mpy_base.specs.World.{FunctionObject, Objects, ADict, IsA}
use Rattle.mpy_base.specs.Val.{PlainWorld}
use Rattle.prim_methods.specs.arena_heap.declared.value.Value.{Value}
use Rattle.prim_methods.specs.arena_heap.declared.value.StrNo.{StrNo}
use Rattle.prim_methods.specs.arena_heap.declared.value.ConstNo.{ConstNo}
use Rattle.prim_methods.specs.arena_heap.Values.{ArenaObject, IsDefaults, IsMethodOf}
use Rattle.prim_types.specs.py_primitives.Faults.{NotCallable}
use Rattle.prim_outputs.specs.py_effects.Effect.{faults}
use Rattle.prim_outputs.specs.py_effects.Calling as plain
use Rattle.prim_methods.specs.prim_walks.Plain.{plain as plain_value, plain_name}
use Rattle.prim_methods.specs.prim_faults.Faults.{IsKnown}
use Rattle.prim_methods.specs.prim_faults.Types.{type_text}
use Rattle.prim_calls.specs.declared.callees.Callee.{Callee}
use Rattle.prim_calls.specs.declared.callees.Callee.TheVariants as callees
use Rattle.prim_calls.specs.declared.callees.Function.{Function}

-- the object is a function of these parts, whatever its name is
pub record HasParts (o : Option ArenaObject) (f : Function) : Type 0 where
  pub name : ℕ
  pub is : o ≡ Some (FunctionObject name f.module_name f.code f.names.cell f.defaults)

module _ (texts : StrNo → Option (List ℕ)) (tuples : ConstNo → Option (List Value)) where
  -- a function as the meaning has it
  abbrev pub plain_function : Function → plain.Function
  plain_function f = record {
    module_name = plain_name texts tuples f.module_name;
    code = f.code;
    names = f.names.cell;
    defaults = plain_value texts tuples f.defaults;
  }

  -- what a call of it does in this world
  abbrev pub plain_callee : PlainWorld → Callee → plain.Callee
  plain_callee w (callees.Runs f) = plain.Runs (plain_function f)
  plain_callee w (callees.Method object method) = plain.Acts (plain.call_method w method (plain_value texts tuples object))
  plain_callee w (callees.Built b) = plain.Acts (plain.call_builtin w b)
  plain_callee w (callees.NotCallable t) = plain.Acts (λ args keys. faults (NotCallable (type_text t)) w)

  -- the dict of a function's names
  pub record IsKnownFunction (objects : Objects Value ℕ) (f : Function) : Type 0 where
    pub names : IsA objects ADict f.names.cell
    pub defaults : IsKnown texts tuples objects f.defaults
    pub are_defaults : IsDefaults f.defaults

  -- a method, and an object of its type
  pub record IsKnownMethod (objects : Objects Value ℕ) (object : Value) (method : Builtin) : Type 0 where
    pub known : IsKnown texts tuples objects object
    pub of_type : IsMethodOf method object

  -- a callee whose values lead to objects and are told
  abbrev pub IsKnownCallee : Objects Value ℕ → Callee → Type 0
  IsKnownCallee objects (callees.Runs f) = IsKnownFunction objects f
  IsKnownCallee objects (callees.Method object method) = IsKnownMethod objects object method
  IsKnownCallee objects _ = Unit {0}
