-- Calls of functions and built-ins, and the binding of arguments, give plain values of plain ones.
use Rattle.std.proofs.Common.{◌≡◌, ℕ, zero, suc, ◌-◌, List, [], ◌∷◌, map, length, replicate, Bool, true, false, cond, Option, Some, None, Result, Ok, Err, refl, subst}
use Rattle.std.specs.Prelude.{ℤ, pos, negsuc, slice_get, bytes_eq, codes, nat_lt, position, option_and_then}
use Rattle.std.specs.List.{AllByRecursion as Each}
use Rattle.bc_progress.specs.bc_machine.Library.{Library}
use Rattle.bc_progress.specs.mpy_base.declared.builtin.Builtin.{Builtin}
use Rattle.bc_progress.specs.mpy_base.declared.builtin.Builtin.TheVariants as builtins
use Rattle.bc_progress.specs.mpy_base.World.{PortState, FunctionObject, MethodObject, object}
use Rattle.bc_progress.specs.mpy_base.Val.{Val, Built, At, PlainWorld}
use Rattle.bc_progress.specs.py_values.Shown.{PlainHeap, Shown, Nothing, Number, Text, Tuple, Items, Pairs, Range, Other, shown}
use Rattle.bc_progress.specs.py_values.Range.{is_small}
use Rattle.bc_progress.specs.py_primitives.Faults.{Fault}
use Rattle.bc_progress.specs.py_primitives.Outcome.{Stop, Raises, Full}
use Rattle.bc_progress.specs.py_primitives.Calls.{counts_of, count_fault, call}
use Rattle.bc_progress.specs.py_primitives.Methods as methods
use Rattle.bc_progress.specs.py_primitives.Output.{Ends, if_new, one_end, ends_from, printed, call_fails, PortOutcome, put_to, number_answer, taken, get_from, put_shown, get_shown, port_called, port_unless_fault, call_port}
use Rattle.bc_progress.specs.py_effects.Effect.{does, faults}
use Rattle.bc_progress.specs.py_effects.Names.{Locals}
use Rattle.bc_progress.specs.py_effects.Calling.{Keys, call_builtin, call_method, Callee, Runs, Acts, callee_object, callee_of, first_slots, filled, into_slot, one_key, with_keys, default_items, or_default, with_defaults, last_slots, empty_slots, complete, all_filled, bound, bind, on_ports}
use Rattle.snap_kept.specs.Values.{IsNamespace, IsPlain, AreFine}
use Rattle.snap_kept.specs.Effects.{IsLocal, AreLocals, IsSound}
use Rattle.snap_kept.proofs.Onward.{Obj, onward_same}
use Rattle.snap_kept.proofs.Changes.{ShownIn, shown_in}
use Rattle.snap_kept.proofs.Lists.{each_append, each_set, each_replicate, each_map}
use Rattle.snap_kept.proofs.Making.{Plains, FaultIn}
use Rattle.snap_kept.proofs.Calling.{count_in, call_in, method_in}
use Rattle.snap_kept.proofs.Acting.{world_same, heap_in, EffectIn, E, nothing, printed_by, written_in}

module _ (library : Library) (h : PlainHeap) where
  -- a fault holds no value that isn't plain
  abbrev pub ResultIn : {A : Type 0} → (A → Type 0) → Result A Fault → Type 0
  ResultIn In (Ok a) = In a
  ResultIn In (Err fault) = FaultIn library h fault

  abbrev AnyEnds : Ends → Type 0
  AnyEnds ends = Unit {0}

  new_in : (name : List ℕ) (o : Option (List ℕ)) (v : Shown) (given : List ℕ → Ends) → ResultIn AnyEnds (if_new name o v given)
  new_in name (Some old) v given = tt
  new_in name None (Text bytes) given = tt
  new_in name None _ given = tt

  either_in : {A : Type 0} (In : A → Type 0) (b : Bool) (x y : Result A Fault) → ResultIn In x → ResultIn In y → ResultIn In (cond b x y)
  either_in In true x y p q = p
  either_in In false x y p q = q

  end_in : (ends : Ends) (s v : Shown) → ResultIn AnyEnds (one_end ends s v)
  end_in ends (Text name) v =
      either_in AnyEnds (bytes_eq name (codes "sep")) _ _ (new_in name ends.sep v _)
      (either_in AnyEnds (bytes_eq name (codes "end")) _ _ (new_in name ends.last v _) tt)
  end_in ends _ v = tt

  ends_in : (r : Result Ends Fault) (keys : Keys) → ResultIn AnyEnds r → ResultIn AnyEnds (ends_from h r keys)
  ends_in (Ok ends) [] p = p
  ends_in (Ok ends) (key ∷ keys) p = ends_in (one_end ends (shown h (key.0)) (shown h (key.1))) keys (end_in ends (shown h (key.0)) (shown h (key.1)))
  ends_in (Err fault) keys p = p

  pub ends_fault : (keys : Keys) (fault : Fault) → ends_from h (Ok (record { sep = None; last = None })) keys ≡ Err fault → FaultIn library h fault
  ends_fault keys fault e = subst (ResultIn AnyEnds) e (ends_in (Ok (record { sep = None; last = None })) keys tt)

  -- ports
  -- =====

  abbrev pub AnswerP : Result Val Stop → Type 0
  AnswerP (Ok v) = IsPlain library h v
  AnswerP (Err (Raises fault)) = FaultIn library h fault
  AnswerP (Err (Full e)) = Unit {0}

  either_port : (b : Bool) (x y : PortOutcome) → AnswerP x.answer → AnswerP y.answer → AnswerP (PortOutcome.answer (cond b x y))
  either_port true x y p q = p
  either_port false x y p q = q

  put_in : (ports : List PortState) (at : ℕ) (n : ℤ) (o : Option PortState) → AnswerP (put_to ports at n o).answer
  put_in ports at n (Some port) = either_port (call_fails port) _ _ tt tt
  put_in ports at n None = tt

  either_number : (b : Bool) (x y : Result Val Stop) → AnswerP x → AnswerP y → AnswerP (cond b x y)
  either_number true x y p q = p
  either_number false x y p q = q

  number_in : (n : ℤ) → AnswerP (number_answer n)
  number_in n = either_number (is_small n) _ _ tt tt

  taken_in : (ns : List ℤ) → AnswerP (taken ns)
  taken_in [] = tt
  taken_in (n ∷ _) = number_in n

  get_in : (ports : List PortState) (at : ℕ) (o : Option PortState) → AnswerP (get_from ports at o).answer
  get_in ports at (Some port) = either_port (call_fails port) _ _ tt (taken_in port.pending)
  get_in ports at None = tt

  put_by : (ports : List PortState) (i n : Val) (s t : Shown) → AnswerP (put_shown h ports i n s t).answer
  put_by ports i n (Number (pos at)) (Number z) = put_in ports at z (slice_get ports at)
  put_by ports i n (Number (negsuc _)) (Number z) = tt
  put_by ports i n (Number _) _ = tt
  put_by ports i n _ _ = tt

  get_by : (ports : List PortState) (i : Val) (s : Shown) → AnswerP (get_shown h ports i s).answer
  get_by ports i (Number (pos at)) = get_in ports at (slice_get ports at)
  get_by ports i (Number (negsuc _)) = tt
  get_by ports i _ = tt

  port_in : (ports : List PortState) (b : Builtin) (args : List Val) → AnswerP (port_called h ports b args).answer
  port_in ports builtins.PortPut (i ∷ n ∷ _) = put_by ports i n (shown h i) (shown h n)
  port_in ports builtins.PortGet (i ∷ _) = get_by ports i (shown h i)
  port_in ports builtins.PortCount _ = number_in (pos (length ports))
  port_in ports _ _ = tt

  unless_port : (ports : List PortState) (o : Option Fault) (next : PortOutcome) → ((fault : Fault) → o ≡ Some fault → FaultIn library h fault) → AnswerP next.answer → AnswerP (port_unless_fault ports o next).answer
  unless_port ports None next p q = q
  unless_port ports (Some fault) next p q = p fault refl

  pub call_port_in : (ports : List PortState) (b : Builtin) (args : List Val) (keys : Keys) → AnswerP (call_port h ports b args keys).answer
  call_port_in ports b args [] = unless_port ports (count_fault (counts_of b) (length args)) (port_called h ports b args) (λ fault e. count_in library h (counts_of b) (length args) fault e) (port_in ports b args)
  call_port_in ports b args (_ ∷ _) = tt

  -- binding
  -- =======

  abbrev pub KeysIn : Keys → Type 0
  KeysIn keys = Each (λ key. IsPlain library h (key.1)) keys

  first_in : (size : ℕ) (args : List Val) → Plains library h args → AreLocals library h (first_slots size args)
  first_in size args p =
      each_append (IsLocal library h) (map Some args) (replicate (size - length args) None)
      (each_map (IsPlain library h) (IsLocal library h) Some (λ v q. q) args p) (each_replicate (IsLocal library h) (size - length args) None tt)

  filled_in : (slots : Locals) (slot : ℕ) (name : List ℕ) (v : Val) (o : Option Val) → AreLocals library h slots → IsPlain library h v → ResultIn (AreLocals library h) (filled slots slot name v o)
  filled_in slots slot name v None p q = each_set (IsLocal library h) slots slot (Some v) p q
  filled_in slots slot name v (Some old) p q = tt

  into_in : (slots : Locals) (name : List ℕ) (v : Val) (o : Option ℕ) → AreLocals library h slots → IsPlain library h v → ResultIn (AreLocals library h) (into_slot slots name v o)
  into_in slots name v (Some slot) p q = filled_in slots slot name v (option_and_then (λ old. old) (slice_get slots slot)) p q
  into_in slots name v None p q = tt

  key_in : (params : List (List ℕ)) (slots : Locals) (v : Val) (s : Shown) → AreLocals library h slots → IsPlain library h v → ResultIn (AreLocals library h) (one_key params slots v s)
  key_in params slots v (Text name) p q = into_in slots name v (position (bytes_eq name) params) p q
  key_in params slots v _ p q = tt

  keys_in : (params : List (List ℕ)) (r : Result Locals Fault) (keys : Keys) → ResultIn (AreLocals library h) r → KeysIn keys → ResultIn (AreLocals library h) (with_keys h params r keys)
  keys_in params (Ok slots) [] p q = p
  keys_in params (Ok slots) (key ∷ keys) p q = keys_in params (one_key params slots (key.1) (shown h (key.0))) keys (key_in params slots (key.1) (shown h (key.0)) p (q.0)) (q.1)
  keys_in params (Err fault) keys p q = p

  default_in : (s : Shown) → ShownIn library h s → Plains library h (default_items s)
  default_in (Tuple items) p = p
  default_in Nothing p = tt
  default_in (Number z) p = tt
  default_in (Text bytes) p = tt
  default_in (Items items) p = tt
  default_in (Pairs pairs) p = tt
  default_in (Range start stop step) p = tt
  default_in Other p = tt

  or_default_in : (o : Option Val) (v : Val) → IsLocal library h o → IsPlain library h v → IsLocal library h (or_default o v)
  or_default_in (Some u) v p q = p
  or_default_in None v p q = q

  defaults_in : (slots : Locals) (defaults : List Val) → AreLocals library h slots → Plains library h defaults → AreLocals library h (with_defaults slots defaults)
  defaults_in [] defaults p q = p
  defaults_in (slot ∷ slots) [] p q = p
  defaults_in (slot ∷ slots) (default ∷ defaults) p q = (or_default_in slot default (p.0) (q.0), defaults_in slots defaults (p.1) (q.1))

  last_in : (before : ℕ) (slots : Locals) (defaults : List Val) → AreLocals library h slots → Plains library h defaults → AreLocals library h (last_slots before slots defaults)
  last_in zero slots defaults p q = defaults_in slots defaults p q
  last_in (suc before) [] defaults p q = tt
  last_in (suc before) (slot ∷ slots) defaults p q = (p.0, last_in before slots defaults (p.1) q)

  complete_in : (slots : Locals) (count : ℕ) → AreLocals library h slots → ResultIn (AreLocals library h) (complete slots count)
  complete_in slots zero p = p
  complete_in slots (suc count) p = tt

  all_in : (before : ℕ) (defaults : List Val) (r : Result Locals Fault) → Plains library h defaults → ResultIn (AreLocals library h) r → ResultIn (AreLocals library h) (all_filled before defaults r)
  all_in before defaults (Ok slots) q p = complete_in (last_slots before slots defaults) (empty_slots (last_slots before slots defaults)) (last_in before slots defaults p q)
  all_in before defaults (Err fault) q p = p

  pub bound_in : (params : List (List ℕ)) (given : ℕ) (defaults : Val) (args : List Val) (keys : Keys) → AreFine library h → IsPlain library h defaults → Plains library h args → KeysIn keys → ResultIn (AreLocals library h) (bound h params given defaults args keys)
  bound_in params given defaults args keys f d p q =
      either_in (AreLocals library h) (nat_lt (length params) (length args)) _ _ tt
      (all_in (length params - given) (default_items (shown h defaults)) (with_keys h params (Ok (first_slots (length params) args)) keys) (default_in (shown h defaults) (shown_in library h defaults f d))
      (keys_in params (Ok (first_slots (length params) args)) keys (first_in (length params) args p) q))

module _ (library : Library) (w : PlainWorld) (s : IsSound library w) where
  bind_by : (r : Result Locals Fault) → ResultIn library w.heap (AreLocals library w.heap) r → EffectIn library (AreLocals library) w (elim r [ Ok slots ↦ does slots w | Err fault ↦ faults fault w ])
  bind_by (Ok slots) p = (world_same library w s, p)
  bind_by (Err fault) p = (world_same library w s, p)

  pub bind_in : (params : List (List ℕ)) (given : ℕ) (defaults : Val) (args : List Val) (keys : Keys) → IsPlain library w.heap defaults → Plains library w.heap args → KeysIn library w.heap keys → EffectIn library (AreLocals library) w (bind w params given defaults args keys)
  bind_in params given defaults args keys d p q = bind_by (bound w.heap params given defaults args keys) (bound_in library w.heap params given defaults args keys s.heap d p q)

  -- built-ins
  ports_by : (r : Result Val Stop) (ports : List PortState) → AnswerP library w.heap r → E library w s (on_ports w (record { answer = r; ports = ports }))
  ports_by (Ok v) ports p = (record { onward = onward_same w.heap; sound = record { heap = s.heap; titles = s.titles } }, p)
  ports_by (Err (Raises fault)) ports p = (record { onward = onward_same w.heap; sound = record { heap = s.heap; titles = s.titles } }, p)
  ports_by (Err (Full e)) ports p = tt

  on_ports_in : (b : Builtin) (args : List Val) (keys : Keys) → E library w s (on_ports w (call_port w.heap w.ports b args keys))
  on_ports_in b args keys = let o = call_port w.heap w.ports b args keys in ports_by o.answer o.ports (call_port_in library w.heap w.ports b args keys)

  pub builtin_in : (b : Builtin) (args : List Val) (keys : Keys) → Plains library w.heap args → E library w s (call_builtin w b args keys)
  builtin_in builtins.Print args keys p =
      let o = printed w.heap args keys in
      written_in library w s o o.answer (printed_by library w s args (ends_from w.heap (Ok (record { sep = None; last = None })) keys) (λ fault e. ends_fault library w.heap keys fault e))
  builtin_in builtins.PortPut args keys p = on_ports_in builtins.PortPut args keys
  builtin_in builtins.PortGet args keys p = on_ports_in builtins.PortGet args keys
  builtin_in builtins.PortCount args keys p = on_ports_in builtins.PortCount args keys
  builtin_in builtins.Port args keys p = nothing library w s
  builtin_in b args keys p = heap_in library (IsPlain library) w (call w.heap b args keys) s (call_in library w.heap s.heap b args keys p)

  pub method_call_in : (m : Builtin) (object : Val) (args : List Val) (keys : Keys) → IsPlain library w.heap object → Plains library w.heap args → E library w s (call_method w m object args keys)
  method_call_in m object args keys o p = heap_in library (IsPlain library) w (methods.call_method w.heap m object args keys) s (method_in library w.heap s.heap m object args keys o p)

  -- callees: a function's names are a module's, and what acts gives plain values
  abbrev pub CalleeIn : Callee → Type 0
  CalleeIn (Runs c) = IsNamespace w.heap c.names × IsPlain library w.heap c.defaults
  CalleeIn (Acts act) = (args : List Val) (keys : Keys) → Plains library w.heap args → E library w s (act args keys)

  callee_by : (n : ℕ) (o : Obj) → object w.heap.objects n ≡ o → CalleeIn (callee_object w (At n) o)
  callee_by n (Some (FunctionObject name module_name code names defaults)) e = let c = s.heap.fine n (FunctionObject name module_name code names defaults) e in (c.namespace, c.plain)
  callee_by n (Some (MethodObject obj m)) e = let c = s.heap.fine n (MethodObject obj m) e in λ args keys p. method_call_in m obj args keys (c.0) p
  callee_by n _ e = λ args keys p. nothing library w s

  pub callee_in : (v : Val) → CalleeIn (callee_of w v)
  callee_in (At n) = callee_by n (object w.heap.objects n) refl
  callee_in (Built b) = λ args keys p. builtin_in b args keys p
  callee_in v = λ args keys p. nothing library w s
