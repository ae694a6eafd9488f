-- Arguments of ports' calls that are refused.
use Rattle.std.proofs.Common.{◌≡◌, ℕ, List, [], ◌∷◌, map, length, Bool, true, false, cond, Option, Some, None, Err, sym, ap, ◌∙◌, subst}
use Rattle.std.specs.Prelude.{nat_eq, nat_lt}
use Rattle.prim_builtins.specs.arena_heap.declared.value.Value.{Value}
use Rattle.prim_builtins.specs.arena_heap.declared.value.StrNo.{StrNo}
use Rattle.prim_builtins.specs.arena_heap.declared.value.ConstNo.{ConstNo}
use Rattle.mpy_base.specs.declared.builtin.Builtin.{Builtin}
use Rattle.mpy_base.specs.World.{Heap, PortState}
use Rattle.mpy_base.specs.Val.{Val, Nil}
use Rattle.mpy_io.specs.Ports.{PortView}
use Rattle.port_set.specs.Calls.{Tell}
use Rattle.prim_builtins.specs.py_values.Shown.{PlainHeap}
use Rattle.prim_builtins.specs.py_primitives.Faults as plain
use Rattle.prim_builtins.specs.py_primitives.Outcome as primitives
use Rattle.prim_builtins.specs.py_primitives.Outcome.{Outcome, gives, raises}
use Rattle.prim_builtins.specs.py_primitives.Calls as calls
use Rattle.prim_builtins.specs.py_primitives.Calls.{Counts, Exactly, Between, AtLeast, counts_of, count_fault}
use Rattle.prim_builtins.specs.py_primitives.Output.{PortOutcome, refused, port_called, port_unless_fault, call_port}
use Rattle.prim_builtins.specs.prim_walks.Plain.{plain as plain_value, plain_pair, plain_heap}
use Rattle.prim_builtins.specs.prim_faults.declared.fault.Fault.{Fault}
use Rattle.prim_builtins.specs.prim_faults.declared.fault.Fault.TheVariants as faults
use Rattle.prim_builtins.specs.prim_faults.declared.stop.Stop.TheVariants as stops
use Rattle.prim_builtins.specs.prim_faults.Faults.{plain_fault}
use Rattle.prim_builtins.specs.Arguments.{IsRefusal}
use Rattle.prim_outputs.specs.PortCalls.{IsPortOutcome}

either_no_port : (b : Bool) (f : plain.Fault) → (f ≡ plain.PortFailed → ⊥) → cond b None (Some f) ≡ Some plain.PortFailed → ⊥
either_no_port true f n e = absurd cc
either_no_port false f n e = n (let same : f ≡ plain.PortFailed = cc in same)

count_no_port : (c : Counts) (given : ℕ) → count_fault c given ≡ Some plain.PortFailed → ⊥
count_no_port (Exactly n) given e = either_no_port (nat_eq n given) (plain.WrongCount n given) (λ h. absurd cc) e
count_no_port (Between least most) given e = between (nat_lt given least) (nat_lt most given) e
  where
    between : (a b : Bool) → cond a (Some (plain.TooFew least given)) (cond b (Some (plain.TooMany most given)) None) ≡ Some plain.PortFailed → ⊥
    between true b e = absurd cc
    between false true e = absurd cc
    between false false e = absurd cc
count_no_port (AtLeast least) given e = few (nat_lt given least) e
  where
    few : (a : Bool) → cond a (Some (plain.TooFew least given)) None ≡ Some plain.PortFailed → ⊥
    few true e = absurd cc
    few false e = absurd cc

module _ (heap : PlainHeap) (contents : List PortState) (f : plain.Fault) where
  same_fault : (g : plain.Fault) → raises {A = Val} g heap ≡ raises f heap → g ≡ f
  same_fault g e =
      let answers : Err (primitives.Raises g) ≡ Err (primitives.Raises f) = ap (λ (o : Outcome Val). o.answer) e in
      cc

  unless_same : (o : Option plain.Fault) (next : PortOutcome) → calls.unless_fault heap o (gives Nil heap) ≡ raises f heap → port_unless_fault contents o next ≡ refused f contents
  unless_same (Some g) next e = ap (λ (x : plain.Fault). refused x contents) (same_fault g e)
  unless_same None next e = absurd (let answers = ap (λ (o : Outcome Val). o.answer) e in cc)

  fault_is : (o : Option plain.Fault) → calls.unless_fault heap o (gives Nil heap) ≡ raises f heap → o ≡ Some f
  fault_is (Some g) e = ap (λ (x : plain.Fault). Some x) (same_fault g e)
  fault_is None e = absurd (let answers = ap (λ (o : Outcome Val). o.answer) e in cc)

  module _ (b : Builtin) (args : List Val) (nothing : calls.called heap b args ≡ gives Nil heap) where
    -- what a built-in with this count refuses, a port's call refuses
    pub port_refused : (keys : List (Val × Val)) → calls.call heap b args keys ≡ raises f heap → call_port heap contents b args keys ≡ refused f contents
    port_refused [] e = unless_same (count_fault (counts_of b) (length args)) (port_called heap contents b args) (ap (calls.unless_fault heap (count_fault (counts_of b) (length args))) (sym nothing) ∙ e)
    port_refused (key ∷ keys) e = ap (λ (x : plain.Fault). refused x contents) (same_fault plain.NoKeywords e)

    pub no_port_fault : (keys : List (Val × Val)) → calls.call heap b args keys ≡ raises f heap → f ≡ plain.PortFailed → ⊥
    no_port_fault [] e is =
        count_no_port (counts_of b) (length args)
        (fault_is (count_fault (counts_of b) (length args)) (ap (calls.unless_fault heap (count_fault (counts_of b) (length args))) (sym nothing) ∙ e) ∙ ap (λ (x : plain.Fault). Some x) is)
    no_port_fault (key ∷ keys) e is = let same = same_fault plain.NoKeywords e ∙ is in absurd cc

module _ (texts : StrNo → Option (List ℕ)) (tuples : ConstNo → Option (List Value)) (h : Heap Value ℕ) (args : List Value) (keys : List (Value × Value)) (b : Builtin) (counts : Counts) (fault : Fault)
    (is : IsRefusal counts args keys fault) (counted : counts_of b ≡ counts) (nothing : calls.called (plain_heap texts tuples h) b (map (plain_value texts tuples) args) ≡ gives Nil (plain_heap texts tuples h)) where
  pub refusal_told : (new : List PortView) (contents : List PortState) → Tell new contents
      → IsPortOutcome texts tuples h new (Err (stops.Raises fault)) (call_port (plain_heap texts tuples h) contents b (map (plain_value texts tuples) args) (map (plain_pair texts tuples) keys))
  refusal_told new contents tell =
      let e = port_refused (plain_heap texts tuples h) contents (plain_fault texts tuples h fault) b (map (plain_value texts tuples) args) nothing (map (plain_pair texts tuples) keys) (is.raised texts tuples h b counted) in
      record { answer = sym (ap (λ (o : PortOutcome). o.answer) e); ports = subst (λ (o : PortOutcome). Tell new o.ports) (sym e) tell }

  pub refusal_no_port : fault ≡ faults.PortFailed → ⊥
  refusal_no_port e =
      no_port_fault (plain_heap texts tuples h) [] (plain_fault texts tuples h fault) b (map (plain_value texts tuples) args) nothing (map (plain_pair texts tuples) keys) (is.raised texts tuples h b counted)
      (ap (plain_fault texts tuples h) e)
