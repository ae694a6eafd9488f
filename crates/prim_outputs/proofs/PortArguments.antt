-- Calls of ports by their arguments.
use Rattle.std.proofs.Common.{◌≡◌, ◌<◌, ℕ, pos, List, [], ◌∷◌, map, length, get_or, Option, Result, refl, sym, ap, ◌∙◌, subst, arith}
use Rattle.prim_builtins.specs.arena_heap.declared.value.Value.{Value}
use Rattle.prim_builtins.specs.arena_heap.declared.value.StrNo.{StrNo}
use Rattle.prim_builtins.specs.arena_heap.declared.value.ConstNo.{ConstNo}
use Rattle.mpy_base.specs.declared.builtin.Builtin.TheVariants as builtins
use Rattle.mpy_base.specs.World.{Heap, PortState}
use Rattle.mpy_io.specs.Ports.{PortView}
use Rattle.port_set.specs.Calls.{Tell}
use Rattle.prim_builtins.specs.py_primitives.Output.{number_answer, call_port, call_port_put, call_port_get}
use Rattle.prim_builtins.specs.prim_walks.Plain.{plain, plain_pair, plain_heap}
use Rattle.prim_builtins.specs.prim_faults.declared.stop.Stop.{Stop}
use Rattle.prim_builtins.specs.prim_operators.Operands.{number_in}
use Rattle.prim_outputs.specs.PortCalls.{IsNumberAnswer, IsPortOutcome, called_number}
use Rattle.prim_outputs.proofs.PortsTold.{as_many}

-- the first of some arguments names the port
pub first_called : (args : List Value) (v : Value) → 0 < length args → called_number args ≡ number_in (get_or args 0 v)
first_called [] v lt = absurd (omega arith)
first_called (a ∷ args) v lt = refl

module _ (texts : StrNo → Option (List ℕ)) (tuples : ConstNo → Option (List Value)) (h : Heap Value ℕ) (new : List PortView) (contents : List PortState) (tell : Tell new contents) where
  -- with no arguments, ports are counted
  pub counted_told : (args : List Value) (keys : List (Value × Value)) (result : Result Value Stop) → length args ≡ 0 → keys ≡ [] → IsNumberAnswer (pos (length new)) result
      → IsPortOutcome texts tuples h new result (call_port (plain_heap texts tuples h) contents builtins.PortCount (map (plain texts tuples) args) (map (plain_pair texts tuples) keys))
  counted_told (a ∷ args) keys result e none is = absurd (omega arith)
  counted_told [] keys result e none is =
      subst (λ (ks : List (Value × Value)). IsPortOutcome texts tuples h new result (call_port (plain_heap texts tuples h) contents builtins.PortCount [] (map (plain_pair texts tuples) ks))) (sym none)
      (record { answer = is texts tuples h ∙ ap (λ (k : ℕ). number_answer (pos k)) (as_many new contents tell); ports = tell })

module _ (texts : StrNo → Option (List ℕ)) (tuples : ConstNo → Option (List Value)) (h : Heap Value ℕ) (contents : List PortState) where
  -- a put has two arguments
  pub put_called : (args : List Value) (keys : List (Value × Value)) (v : Value) → length args ≡ 2 → keys ≡ []
      → call_port (plain_heap texts tuples h) contents builtins.PortPut (map (plain texts tuples) args) (map (plain_pair texts tuples) keys)
      ≡ call_port_put (plain_heap texts tuples h) contents (plain texts tuples (get_or args 0 v)) (plain texts tuples (get_or args 1 v))
  put_called [] keys v two none = absurd (omega arith)
  put_called (a ∷ []) keys v two none = absurd (omega arith)
  put_called (a ∷ b ∷ []) keys v two none =
      ap (λ (ks : List (Value × Value)). call_port (plain_heap texts tuples h) contents builtins.PortPut (plain texts tuples a ∷ plain texts tuples b ∷ []) (map (plain_pair texts tuples) ks)) none
  put_called (a ∷ b ∷ d ∷ args) keys v two none = absurd (omega arith)

  -- and a get has one
  pub get_called : (args : List Value) (keys : List (Value × Value)) (i : Value) → args ≡ i ∷ [] → keys ≡ []
      → call_port (plain_heap texts tuples h) contents builtins.PortGet (map (plain texts tuples) args) (map (plain_pair texts tuples) keys)
      ≡ call_port_get (plain_heap texts tuples h) contents (plain texts tuples i)
  get_called args keys i one none =
      ap (λ (vs : List Value). call_port (plain_heap texts tuples h) contents builtins.PortGet (map (plain texts tuples) vs) (map (plain_pair texts tuples) keys)) one
      ∙ ap (λ (ks : List (Value × Value)). call_port (plain_heap texts tuples h) contents builtins.PortGet (plain texts tuples i ∷ []) (map (plain_pair texts tuples) ks)) none
