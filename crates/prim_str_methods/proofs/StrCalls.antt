-- Calls of str methods with their arguments.
use Rattle.std.proofs.Common.{◌≡◌, ℕ, ◌≤◌, length, arith, List, [], ◌∷◌, map, Option, Result, refl, sym, ap, ap₂, ◌∙◌, subst}
use Rattle.std.specs.Prelude.{codes}
use Rattle.prim_builtins.specs.arena_heap.declared.value.Value.{Value}
use Rattle.prim_builtins.specs.arena_heap.declared.value.StrNo.{StrNo}
use Rattle.prim_builtins.specs.arena_heap.declared.value.ConstNo.{ConstNo}
use Rattle.prim_builtins.specs.arena_heap.Values.{Leads, IsStr}
use Rattle.prim_builtins.specs.arena_objects.Iterables.{spelled}
use Rattle.mpy_base.specs.declared.builtin.Builtin.{Builtin}
use Rattle.mpy_base.specs.declared.builtin.Builtin.TheVariants as builtins
use Rattle.mpy_base.specs.World.{Heap}
use Rattle.mpy_base.specs.Val.{Val, At}
use Rattle.prim_builtins.specs.py_values.Shown.{PlainHeap, Shown, Text, shown}
use Rattle.prim_builtins.specs.py_primitives.Outcome.{Outcome}
use Rattle.prim_builtins.specs.py_primitives.Operators.{unsupported}
use Rattle.prim_builtins.specs.py_primitives.Methods.{call_method, method_shown, str_method, of_str}
use Rattle.prim_builtins.specs.py_primitives.Calls.{Counts, Exactly, counts_of, count_fault, unless_fault}
use Rattle.prim_builtins.specs.prim_walks.Plain.{plain, plain_pair, plain_heap}
use Rattle.prim_builtins.specs.prim_walks.Looks.{seen}
use Rattle.prim_builtins.specs.prim_walks.declared.look.Look.{Look}
use Rattle.prim_builtins.specs.prim_walks.declared.look.Look.TheVariants as looks
use Rattle.prim_builtins.specs.prim_faults.declared.stop.Stop.{Stop}
use Rattle.prim_builtins.specs.prim_faults.Outcomes.{IsOutcome}
use Rattle.prim_builtins.proofs.prim_operators_lemmas.ItemsShown.{str_shown}

-- a method of a str
text_method : (heap : PlainHeap) (method : Builtin) (object : Val) (args : List Val) (bytes : List ℕ) → method_shown heap method object args (Text bytes) ≡ str_method heap method object bytes args
text_method heap method (At n) args bytes = refl
text_method heap method _ args bytes = refl

module _ (texts : StrNo → Option (List ℕ)) (tuples : ConstNo → Option (List Value)) (h : Heap Value ℕ) where
  pub shown_method : (method : Builtin) (object : Value) (args : List Val) → IsStr object → Leads h.objects object
      → method_shown (plain_heap texts tuples h) method (plain texts tuples object) args (shown (plain_heap texts tuples h) (plain texts tuples object))
      ≡ str_method (plain_heap texts tuples h) method (plain texts tuples object) (spelled texts h object) args
  shown_method method object args str leads =
      ap (λ (s : Shown). method_shown (plain_heap texts tuples h) method (plain texts tuples object) args s) (str_shown texts tuples h object str leads)
      ∙ text_method (plain_heap texts tuples h) method (plain texts tuples object) args (spelled texts h object)

  -- one argument, as the method takes it
  pub str_call : (method : Builtin) (object : Value) (args : List Value) (keys : List (Value × Value)) (v : Value)
      → IsStr object → Leads h.objects object → args ≡ v ∷ [] → keys ≡ [] → counts_of method ≡ Exactly 1
      → call_method (plain_heap texts tuples h) method (plain texts tuples object) (map (plain texts tuples) args) (map (plain_pair texts tuples) keys)
      ≡ str_method (plain_heap texts tuples h) method (plain texts tuples object) (spelled texts h object) (plain texts tuples v ∷ [])
  str_call method object args keys v str leads is none counts =
      let heap = plain_heap texts tuples h in
      let shows = method_shown heap method (plain texts tuples object) (plain texts tuples v ∷ []) (shown heap (plain texts tuples object)) in
      ap₂ (λ (vs : List Value) (ks : List (Value × Value)). call_method heap method (plain texts tuples object) (map (plain texts tuples) vs) (map (plain_pair texts tuples) ks)) is none
      ∙ (ap (λ (c : Counts). unless_fault heap (count_fault c 1) shows) counts
      ∙ shown_method method object (plain texts tuples v ∷ []) str leads)

  pub str_called : (method : Builtin) (object : Value) (args : List Value) (keys : List (Value × Value)) (new : Heap Value ℕ) (v : Value) (result : Result Value Stop)
      → IsStr object → Leads h.objects object → args ≡ v ∷ [] → keys ≡ [] → counts_of method ≡ Exactly 1
      → IsOutcome texts tuples h new result (str_method (plain_heap texts tuples h) method (plain texts tuples object) (spelled texts h object) (plain texts tuples v ∷ []))
      → IsOutcome texts tuples h new result (call_method (plain_heap texts tuples h) method (plain texts tuples object) (map (plain texts tuples) args) (map (plain_pair texts tuples) keys))
  str_called method object args keys new v result str leads is none counts done =
      subst (λ (o : Outcome Val). IsOutcome texts tuples h new result o) (sym (str_call method object args keys v str leads is none counts)) done

  -- split takes one argument at most
  pub split_call : (object : Value) (args : List Value) (keys : List (Value × Value)) → IsStr object → Leads h.objects object → length args ≤ 1 → keys ≡ []
      → call_method (plain_heap texts tuples h) builtins.StrSplit (plain texts tuples object) (map (plain texts tuples) args) (map (plain_pair texts tuples) keys)
      ≡ str_method (plain_heap texts tuples h) builtins.StrSplit (plain texts tuples object) (spelled texts h object) (map (plain texts tuples) args)
  split_call object args keys str leads few none =
      ap (λ (ks : List (Value × Value)). call_method (plain_heap texts tuples h) builtins.StrSplit (plain texts tuples object) (map (plain texts tuples) args) (map (plain_pair texts tuples) ks)) none
      ∙ counted args few
    where
      counted : (vs : List Value) → length vs ≤ 1 → call_method (plain_heap texts tuples h) builtins.StrSplit (plain texts tuples object) (map (plain texts tuples) vs) []
          ≡ str_method (plain_heap texts tuples h) builtins.StrSplit (plain texts tuples object) (spelled texts h object) (map (plain texts tuples) vs)
      counted [] few = shown_method builtins.StrSplit object [] str leads
      counted (v ∷ []) few = shown_method builtins.StrSplit object (plain texts tuples v ∷ []) str leads
      counted (v ∷ w ∷ vs) few = absurd (omega arith)

  -- an argument that is no str
  pub refuses : (heap : PlainHeap) (object v : Val) (next : List ℕ → Outcome Val) (look : Look) (w : Value) (s : Shown) → ((part : _) → look ≡ looks.Text part → ⊥) → seen texts tuples h w look ≡ s
      → of_str heap object v s next ≡ unsupported heap (codes "__contains__") object v
  refuses heap object v next looks.Nothing w s apart is = sym (ap (λ (t : Shown). of_str heap object v t next) is)
  refuses heap object v next (looks.Number z) w s apart is = sym (ap (λ (t : Shown). of_str heap object v t next) is)
  refuses heap object v next (looks.Text part) w s apart is = absurd (apart part refl)
  refuses heap object v next (looks.Tuple count) w s apart is = sym (ap (λ (t : Shown). of_str heap object v t next) is)
  refuses heap object v next (looks.Items count) w s apart is = sym (ap (λ (t : Shown). of_str heap object v t next) is)
  refuses heap object v next (looks.Pairs d) w s apart is = sym (ap (λ (t : Shown). of_str heap object v t next) is)
  refuses heap object v next (looks.Range start stop step) w s apart is = sym (ap (λ (t : Shown). of_str heap object v t next) is)
  refuses heap object v next looks.Other w s apart is = sym (ap (λ (t : Shown). of_str heap object v t next) is)
