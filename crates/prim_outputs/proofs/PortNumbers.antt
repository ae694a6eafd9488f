-- Calls of ports by what their arguments show.
use Rattle.std.proofs.Common.{◌≡◌, ℕ, ℤ, pos, negsuc, List, Option, Some, None, Result, Err, refl, sym, ap, ap₂, ◌∙◌, subst}
use Rattle.prim_builtins.specs.arena_heap.declared.value.Value.{Value}
use Rattle.prim_builtins.specs.arena_heap.declared.value.StrNo.{StrNo}
use Rattle.prim_builtins.specs.arena_heap.declared.value.ConstNo.{ConstNo}
use Rattle.mpy_base.specs.World.{Heap, PortState}
use Rattle.mpy_base.specs.Val.{Val}
use Rattle.mpy_io.specs.Ports.{PortView}
use Rattle.port_set.specs.Calls.{Tell}
use Rattle.prim_builtins.specs.py_values.Shown.{PlainHeap, Shown, Number, shown}
use Rattle.prim_builtins.specs.py_primitives.Faults as plain
use Rattle.prim_builtins.specs.py_primitives.Outcome.{Raises}
use Rattle.prim_builtins.specs.py_primitives.Output.{PortOutcome, put_shown, get_shown, not_a_number, call_port_put, call_port_get}
use Rattle.prim_builtins.specs.prim_walks.Plain.{plain, plain_heap}
use Rattle.prim_builtins.specs.prim_faults.declared.fault.Fault.{Fault}
use Rattle.prim_builtins.specs.prim_faults.declared.fault.Fault.TheVariants as faults
use Rattle.prim_builtins.specs.prim_faults.declared.stop.Stop.{Stop}
use Rattle.prim_builtins.specs.prim_faults.declared.stop.Stop.TheVariants as stops
use Rattle.prim_builtins.specs.prim_faults.Faults.{plain_fault}
use Rattle.prim_builtins.specs.prim_operators.Operands.{number_in}
use Rattle.prim_builtins.proofs.prim_operators_lemmas.Looked.{shown_number, number_shown, shows_number}
use Rattle.prim_builtins.specs.Numbers.{IsNoNumber}
use Rattle.prim_outputs.specs.PortCalls.{IsPortOutcome, put_at, get_at}

put_first : (heap : PlainHeap) (ports : List PortState) (i n : Val) (s t : Shown) → shown_number s ≡ None → put_shown heap ports i n s t ≡ not_a_number heap i ports
put_first heap ports i n (Number z) t e = absurd cc
put_first heap ports i n _ t e = refl

put_second : (heap : PlainHeap) (ports : List PortState) (i n : Val) (z : ℤ) (t : Shown) → shown_number t ≡ None → put_shown heap ports i n (Number z) t ≡ not_a_number heap n ports
put_second heap ports i n z (Number m) e = absurd cc
put_second heap ports i n (pos at) _ e = refl
put_second heap ports i n (negsuc at) _ e = refl

put_both : (heap : PlainHeap) (ports : List PortState) (i n : Val) (z m : ℤ) → put_shown heap ports i n (Number z) (Number m) ≡ put_at ports z m
put_both heap ports i n (pos at) m = refl
put_both heap ports i n (negsuc at) m = refl

get_first : (heap : PlainHeap) (ports : List PortState) (i : Val) (s : Shown) → shown_number s ≡ None → get_shown heap ports i s ≡ not_a_number heap i ports
get_first heap ports i (Number z) e = absurd cc
get_first heap ports i _ e = refl

get_number : (heap : PlainHeap) (ports : List PortState) (i : Val) (z : ℤ) → get_shown heap ports i (Number z) ≡ get_at ports z
get_number heap ports i (pos at) = refl
get_number heap ports i (negsuc at) = refl

-- the fault of what is no number isn't that of a port
pub no_port_fault : (h : Heap Value ℕ) (v : Value) (fault : Fault) → IsNoNumber h v fault → (e : Result Value Stop) → e ≡ Err (stops.Raises fault) → e ≡ Err (stops.Raises faults.PortFailed) → ⊥
no_port_fault h v fault is e f g =
    let same : fault ≡ faults.PortFailed = cc in
    let named = (is (λ s. None) (λ c. None)).1 in
    let q = sym (ap (plain_fault (λ s. None) (λ c. None) h) same) ∙ named in
    absurd cc

module _ (texts : StrNo → Option (List ℕ)) (tuples : ConstNo → Option (List Value)) (h : Heap Value ℕ) (new : List PortView) (contents : List PortState) (tell : Tell new contents) where
  -- what is no number
  pub refused_told : (v : Value) (fault : Fault) (outcome : PortOutcome) → IsNoNumber h v fault → outcome ≡ not_a_number (plain_heap texts tuples h) (plain texts tuples v) contents
      → IsPortOutcome texts tuples h new (Err (stops.Raises fault)) outcome
  refused_told v fault outcome is e = record {
    answer = ap (λ (f : plain.Fault). Err (Raises f)) ((is texts tuples).1) ∙ sym (ap (λ (o : PortOutcome). o.answer) e);
    ports = subst (λ (o : PortOutcome). Tell new o.ports) (sym e) tell;
  }

module _ (texts : StrNo → Option (List ℕ)) (tuples : ConstNo → Option (List Value)) (h : Heap Value ℕ) (contents : List PortState) (i : Value) where
  abbrev heap : PlainHeap
  heap = plain_heap texts tuples h

  pub put_no_place : (n : Value) → number_in i ≡ None → call_port_put heap contents (plain texts tuples i) (plain texts tuples n) ≡ not_a_number heap (plain texts tuples i) contents
  put_no_place n none = put_first heap contents (plain texts tuples i) (plain texts tuples n) _ _ (number_shown texts tuples h i ∙ none)

  pub put_no_number : (n : Value) (z : ℤ) → number_in i ≡ Some z → number_in n ≡ None → call_port_put heap contents (plain texts tuples i) (plain texts tuples n) ≡ not_a_number heap (plain texts tuples n) contents
  put_no_number n z one none =
      ap (λ (s : Shown). put_shown heap contents (plain texts tuples i) (plain texts tuples n) s (shown heap (plain texts tuples n))) (shows_number texts tuples h i z one)
      ∙ put_second heap contents (plain texts tuples i) (plain texts tuples n) z _ (number_shown texts tuples h n ∙ none)

  pub put_numbers : (n : Value) (z m : ℤ) → number_in i ≡ Some z → number_in n ≡ Some m → call_port_put heap contents (plain texts tuples i) (plain texts tuples n) ≡ put_at contents z m
  put_numbers n z m one two =
      ap₂ (λ (s t : Shown). put_shown heap contents (plain texts tuples i) (plain texts tuples n) s t) (shows_number texts tuples h i z one) (shows_number texts tuples h n m two)
      ∙ put_both heap contents (plain texts tuples i) (plain texts tuples n) z m

  pub get_no_place : number_in i ≡ None → call_port_get heap contents (plain texts tuples i) ≡ not_a_number heap (plain texts tuples i) contents
  get_no_place none = get_first heap contents (plain texts tuples i) _ (number_shown texts tuples h i ∙ none)

  pub get_place : (z : ℤ) → number_in i ≡ Some z → call_port_get heap contents (plain texts tuples i) ≡ get_at contents z
  get_place z one = ap (get_shown heap contents (plain texts tuples i)) (shows_number texts tuples h i z one) ∙ get_number heap contents (plain texts tuples i) z
