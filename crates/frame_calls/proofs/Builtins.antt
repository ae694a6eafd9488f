-- The effects of built-ins, from what their calls do to the arena, the output and the ports.
use Rattle.std.proofs.Common.{◌≡◌, ℕ, List, ◌++◌, map, true, Option, Some, None, Result, Ok, Err, inl, inr, refl, sym, ap, ◌∙◌, subst}
use Rattle.std.specs.Prelude.{◌⊎◌}
use Rattle.std.specs.Option.{option_map}
use Rattle.std.specs.Io.KnownBytes.{Appends}
use Rattle.mpy_base.specs.declared.builtin.Builtin.{Builtin}
use Rattle.mpy_base.specs.declared.builtin.Builtin.TheVariants as builtins
use Rattle.mpy_base.specs.World.{Heap}
use Rattle.mpy_base.specs.Val.{Val, Nil, PlainWorld}
use Rattle.mpy_io.specs.Ports.{PortView}
use Rattle.port_set.specs.Calls.{Tell}
use Rattle.frame_moves.specs.arena_heap.declared.value.Value.{Value}
use Rattle.frame_moves.specs.arena_heap.declared.value.StrNo.{StrNo}
use Rattle.frame_moves.specs.arena_heap.declared.value.ConstNo.{ConstNo}
use Rattle.frame_moves.specs.py_values.Shown.{PlainHeap}
use Rattle.frame_moves.specs.py_primitives.Faults as plain
use Rattle.frame_moves.specs.py_primitives.Outcome as primitives
use Rattle.frame_moves.specs.py_primitives.Outcome.{Outcome, raises, after_answer}
use Rattle.frame_moves.specs.py_primitives.Calls.{call}
use Rattle.frame_moves.specs.py_primitives.Output.{Ends, printed, printed_with, ends_from, call_port}
use Rattle.frame_moves.specs.py_effects.Effect.{Effect, on_heap}
use Rattle.frame_moves.specs.py_effects.Calling.{Keys, written, call_builtin}
use Rattle.frame_moves.specs.prim_walks.Plain.{plain as plain_value, plain_pair, plain_heap}
use Rattle.frame_moves.specs.prim_faults.declared.fault.Fault.TheVariants as faults
use Rattle.frame_moves.specs.prim_faults.declared.stop.Stop.{Stop}
use Rattle.frame_moves.specs.prim_faults.declared.stop.Stop.TheVariants as stops
use Rattle.frame_moves.specs.prim_faults.Faults.{plain_fault}
use Rattle.frame_moves.specs.prim_faults.Outcomes.{plain_answer, IsOutcome}
use Rattle.prim_calls.specs.prim_outputs.declared.prints.PrintStop.{PrintStop}
use Rattle.prim_calls.specs.prim_outputs.declared.prints.PrintStop.TheVariants as print_stops
use Rattle.prim_calls.specs.prim_outputs.Prints.{Puts, IsPrint}
use Rattle.prim_calls.specs.prim_outputs.PortCalls.{IsPortOutcome}
use Rattle.frame_moves.specs.prim_faults.Sights.{world_over}
use Rattle.prim_calls.specs.declared.calls.CallStop.{CallStop}
use Rattle.prim_calls.specs.declared.calls.CallStop.TheVariants as calls
use Rattle.prim_calls.specs.Calls.{as_call, as_print, Seen, IsCall, heap_of, plain_args, plain_keys, ActsOnHeap}
use Rattle.prim_calls.specs.Families.{IsOnHeap, IsOfPorts}
use Rattle.prim_calls.proofs.FamilyEffects.{ports_effect}

-- print changes nothing of the heap
walked_same : {A : Type 0} (heap : PlainHeap) (answer : Option A) (next : A → Outcome (List ℕ)) → ((a : A) → (next a).heap ≡ heap) → (after_answer answer heap next).heap ≡ heap
walked_same heap (Some a) next same = same a
walked_same heap None next same = refl

printed_so : (heap : PlainHeap) (args : List Val) (found : Result Ends plain.Fault) → (printed_with heap args found).heap ≡ heap
printed_so heap args (Ok ends) = walked_same heap _ _ (λ texts. refl)
printed_so heap args (Err fault) = refl

printed_same : (heap : PlainHeap) (args : List Val) (keys : List (Val × Val)) → (printed heap args keys).heap ≡ heap
printed_same heap args keys = printed_so heap args (ends_from heap (Ok (record { sep = None; last = None })) keys)

-- the families
-- ============

pub family : (b : Builtin) → IsOnHeap b ⊎ ((b ≡ builtins.Print) ⊎ (IsOfPorts b ⊎ (b ≡ builtins.Port)))
family builtins.Print = inr (inl refl)
family builtins.PortPut = inr (inr (inl tt))
family builtins.PortGet = inr (inr (inl tt))
family builtins.PortCount = inr (inr (inl tt))
family builtins.Port = inr (inr (inr refl))
family _ = inl tt

told_more : (old new : Option (List ℕ)) (text more : List ℕ) → Appends old new more → old ≡ Some text → new ≡ Some (text ++ more)
told_more None new text more h e = absurd cc
told_more (Some xs) None text more h e = absurd h
told_more (Some xs) (Some ys) text more h e = ap (λ (z : List ℕ). Some z) h ∙ ap (λ (z : Option (List ℕ)). option_map (λ (zs : List ℕ). zs ++ more) z) e

module _ {S : Type 0} (told : S → Option (List ℕ)) (count : S → ℕ) (texts : StrNo → Option (List ℕ)) (tuples : ConstNo → Option (List Value)) (old new : Seen S) (args : List Value) (keys : List (Value × Value)) (given : Result Value CallStop) where
  pub heap_call : (b : Builtin) → IsOnHeap b → IsCall told count texts tuples old new args keys given b
      → ActsOnHeap told count texts tuples old new args keys given (call (heap_of told count texts tuples old new args keys given) b (plain_args told count texts tuples old new args keys given) (plain_keys told count texts tuples old new args keys given))
  heap_call builtins.Print is acts = absurd is
  heap_call builtins.PortPut is acts = absurd is
  heap_call builtins.PortGet is acts = absurd is
  heap_call builtins.PortCount is acts = absurd is
  heap_call builtins.Port is acts = absurd is
  heap_call _ is acts = acts

module _ {S : Type 0} (told : S → Option (List ℕ)) (count : S → ℕ) (texts : StrNo → Option (List ℕ)) (tuples : ConstNo → Option (List Value)) (old new : Seen S) (args : List Value) (keys : List (Value × Value)) (w : PlainWorld) (b : Builtin) where
  abbrev A : List Val
  A = map (plain_value texts tuples) args

  abbrev K : Keys
  K = map (plain_pair texts tuples) keys

  abbrev W : PlainWorld
  W = world_over texts tuples w old.heap

  -- what the call does to this world, where it gives a value or stops
  pub record Effected (given : Result Value Stop) : Type 0 where
    pub after : PlainWorld
    pub modules : after.modules ≡ w.modules
    pub output : told old.out ≡ Some w.output → told new.out ≡ Some after.output
    pub ports : Tell old.ports w.ports → Tell new.ports after.ports
    pub answer : plain_answer texts tuples new.heap given ≡ (call_builtin W b A K).answer
    pub world : world_over texts tuples after new.heap ≡ (call_builtin W b A K).world

  -- where the sink failed
  pub record Half : Type 0 where
    pub text : List ℕ
    pub puts : Puts told count old.out new.out true text
    pub heap : new.heap ≡ old.heap
    pub ports : new.ports ≡ old.ports
    pub answer : (call_builtin W b A K).answer ≡ Ok Nil
    pub world : (call_builtin W b A K).world ≡ record W { output = w.output ++ text }

  -- a port fails only where that of the world does
  abbrev pub Alike : Result Value Stop → Type 0
  Alike given = given ≡ Err (stops.Raises faults.PortFailed) → (call_builtin W b A K).answer ≡ Err (primitives.Raises plain.PortFailed)

  pub of_outcome : (outcome : Outcome Val) (given : Result Value Stop) → call_builtin W b A K ≡ on_heap W outcome → IsOutcome texts tuples old.heap new.heap given outcome → new.out ≡ old.out → new.ports ≡ old.ports → Effected given
  of_outcome outcome given e is same_out same_ports = record {
    after = w;
    modules = refl;
    output = λ h. ap told same_out ∙ h;
    ports = λ h. subst (λ (z : List PortView). Tell z w.ports) (sym same_ports) h;
    answer = is.answer ∙ sym (ap (λ (z : Effect Val). z.answer) e);
    world = ap (λ (z : PlainHeap). record w { heap = z }) is.heap ∙ sym (ap (λ (z : Effect Val). z.world) e);
  }

  pub of_port : (given : Result Value Stop) → IsOfPorts b → Tell old.ports w.ports → IsPortOutcome texts tuples old.heap new.ports given (call_port W.heap w.ports b A K) → new.heap ≡ old.heap → new.out ≡ old.out → Effected given
  of_port given of_ports tell is same_heap same_out =
      let e = ports_effect W b A K of_ports in
      record {
        after = record w { ports = (call_port W.heap w.ports b A K).ports };
        modules = refl;
        output = λ h. ap told same_out ∙ h;
        ports = λ h. is.ports;
        answer = ap (λ (z : Heap Value ℕ). plain_answer texts tuples z given) same_heap ∙ (is.answer ∙ sym (ap (λ (z : Effect Val). z.answer) e));
        world = ap (λ (z : Heap Value ℕ). record w { heap = plain_heap texts tuples z; ports = (call_port W.heap w.ports b A K).ports }) same_heap ∙ sym (ap (λ (z : Effect Val). z.world) e);
      }

  -- the effect of a print that was made
  print_made : b ≡ builtins.Print → (text : List ℕ) → (printed W.heap A K).answer ≡ Ok text → call_builtin W b A K ≡ record { answer = Ok Nil; world = record W { output = w.output ++ text }; visits = (printed W.heap A K).visits }
  print_made is text e =
      let o = printed W.heap A K in
      ap (λ (z : Builtin). call_builtin W z A K) is ∙ (ap (λ (z : Result (List ℕ) primitives.Stop). written W o z) e
      ∙ ap (λ (z : PlainHeap). record { answer = Ok Nil; world = record W { heap = z; output = w.output ++ text }; visits = o.visits }) (printed_same W.heap A K))

  print_raised : b ≡ builtins.Print → (fault : plain.Fault) → (printed W.heap A K).answer ≡ Err (primitives.Raises fault) → call_builtin W b A K ≡ record { answer = Err (primitives.Raises fault); world = W; visits = (printed W.heap A K).visits }
  print_raised is fault e =
      let o = printed W.heap A K in
      ap (λ (z : Builtin). call_builtin W z A K) is ∙ (ap (λ (z : Result (List ℕ) primitives.Stop). written W o z) e
      ∙ ap (λ (z : PlainHeap). record { answer = Err (primitives.Raises fault); world = record W { heap = z }; visits = o.visits }) (printed_same W.heap A K))

  -- what a print gives, with the sink that failed or not
  abbrev pub Printing : Result Value PrintStop → Type 0
  Printing (Ok v) = Effected (Ok v)
  Printing (Err (print_stops.Raises fault)) = Effected (Err (stops.Raises fault))
  Printing (Err (print_stops.Out failed)) = Half

  pub of_print : (r : Result Value PrintStop) → b ≡ builtins.Print → IsPrint told count texts tuples old.heap old.out new.out r (printed W.heap A K) → new.heap ≡ old.heap → new.ports ≡ old.ports → Printing r
  of_print (Ok v) is p same_heap same_ports =
      let q = p.1 in
      let e = print_made is q.text q.is in
      record {
        after = record w { output = w.output ++ q.text };
        modules = refl;
        output = λ h. told_more (told old.out) (told new.out) w.output q.text (q.puts.whole refl) h;
        ports = λ h. subst (λ (z : List PortView). Tell z w.ports) (sym same_ports) h;
        answer = ap (λ (z : Value). Ok (plain_value texts tuples z)) p.0 ∙ sym (ap (λ (z : Effect Val). z.answer) e);
        world = ap (λ (z : Heap Value ℕ). record w { heap = plain_heap texts tuples z; output = w.output ++ q.text }) same_heap ∙ sym (ap (λ (z : Effect Val). z.world) e);
      }
  of_print (Err (print_stops.Raises fault)) is p same_heap same_ports =
      let e = print_raised is (plain_fault texts tuples old.heap fault) p.is in
      record {
        after = w;
        modules = refl;
        output = λ h. ap told p.unchanged ∙ h;
        ports = λ h. subst (λ (z : List PortView). Tell z w.ports) (sym same_ports) h;
        answer = ap (λ (z : Heap Value ℕ). plain_answer texts tuples z (Err (stops.Raises fault))) same_heap ∙ sym (ap (λ (z : Effect Val). z.answer) e);
        world = ap (λ (z : Heap Value ℕ). record w { heap = plain_heap texts tuples z }) same_heap ∙ sym (ap (λ (z : Effect Val). z.world) e);
      }
  of_print (Err (print_stops.Out failed)) is p same_heap same_ports =
      let e = print_made is p.text p.is in
      record {
        text = p.text;
        puts = p.puts;
        heap = same_heap;
        ports = same_ports;
        answer = ap (λ (z : Effect Val). z.answer) e;
        world = ap (λ (z : Effect Val). z.world) e;
      }

  -- whatever is given
  abbrev pub Giving : Result Value CallStop → Type 0
  Giving (Ok v) = Effected (Ok v)
  Giving (Err (calls.Stops stop)) = Alike (Err stop) → Effected (Err stop)
  Giving (Err (calls.Out failed)) = Half

  pub giving_call : (r : Result Value Stop) → (Alike r → Effected r) → Giving (as_call r)
  giving_call (Ok v) h = h (λ e. absurd cc)
  giving_call (Err stop) h = h

  pub giving_print : (r : Result Value PrintStop) → Printing r → Giving (as_print r)
  giving_print (Ok v) h = h
  giving_print (Err (print_stops.Raises fault)) h = λ alike. h
  giving_print (Err (print_stops.Out failed)) h = h
