-- The world of a run as one list of numbers.
use Rattle.std.proofs.Common.{ℕ, ℤ, Bool, length, ◌++◌, List, [], ◌∷◌, Option, Some, None, true, false, pos, negsuc}
use Rattle.std.specs.List.{flat_map}
use Rattle.bc_scheme.specs.mpy_base.Kind.{kind_name}
use Rattle.bc_scheme.specs.mpy_base.Val as vals
use Rattle.bc_scheme.specs.mpy_base.Val.{Val, Vals, Nil, Truth, Int, Str, Fixed, Empty, Built, At}
use Rattle.bc_scheme.specs.mpy_base.World.{PortState, Object, ListObject, TupleObject, TextObject, DictObject, FunctionObject, ExceptionObject, MethodObject, RangeObject, ModuleObject}
use Rattle.bc_scheme.specs.py_values.Names.{builtin_name}
use Rattle.bc_scheme.specs.py_effects.Ends.{Run}

abbrev of_int : ℤ → List ℕ
of_int (pos n) = 0 ∷ n ∷ []
of_int (negsuc n) = 1 ∷ n ∷ []

abbrev of_text : List ℕ → List ℕ
of_text text = length text ∷ text

abbrev of_bool : Bool → ℕ
of_bool true = 1
of_bool false = 0

abbrev mutual
  of_val : Val → List ℕ
  of_val Nil = 0 ∷ []
  of_val (Truth b) = 1 ∷ of_bool b ∷ []
  of_val (Int z) = 2 ∷ of_int z
  of_val (Str s) = 3 ∷ of_text s
  of_val (Fixed vs) = 4 ∷ of_vals vs
  of_val Empty = 5 ∷ []
  of_val (Built b) = 6 ∷ of_text (builtin_name b)
  of_val (At n) = 7 ∷ n ∷ []

  of_vals : Vals → List ℕ
  of_vals (vals.Only v) = of_val v
  of_vals (vals.Then v vs) = of_val v ++ of_vals vs

abbrev of_object : Option (Object Val (List ℕ)) → List ℕ
of_object None = 0 ∷ []
of_object (Some (ListObject items room)) = 1 ∷ length items ∷ room ∷ flat_map of_val items
of_object (Some (TupleObject items)) = 2 ∷ length items ∷ flat_map of_val items
of_object (Some (TextObject s)) = 3 ∷ of_text s
of_object (Some (DictObject pairs room)) = 4 ∷ length pairs ∷ room ∷ flat_map (λ pair. of_val pair.0 ++ of_val pair.1) pairs
of_object (Some (FunctionObject name m code names d)) = 5 ∷ (of_text name ++ (of_text m ++ (code ∷ names ∷ of_val d)))
of_object (Some (ExceptionObject kind args file line name)) = 6 ∷ (of_text (kind_name kind) ++ (of_val args ++ (of_text file ++ (line ∷ of_text name))))
of_object (Some (MethodObject v m)) = 7 ∷ (of_val v ++ of_text (builtin_name m))
of_object (Some (RangeObject a b c)) = 8 ∷ (of_int a ++ (of_int b ++ of_int c))
of_object (Some (ModuleObject name None)) = 9 ∷ of_text name
of_object (Some (ModuleObject name (Some n))) = 10 ∷ n ∷ of_text name

abbrev of_port : PortState → List ℕ
of_port port = flat_map of_int port.pending ++ (99 ∷ (flat_map of_int port.written ++ (99 ∷ port.calls ∷ [])))

abbrev pub of_run : Run → List ℕ
of_run run = flat_map of_object run.world.heap.objects ++ (run.world.heap.bytes ∷ (flat_map (λ m. m.1 ∷ of_text m.0) run.world.modules ++ (flat_map of_port run.world.ports ++ run.world.output)))
