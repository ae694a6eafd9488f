-- What a call does to the heap, the sink's count of faults and the ports, whatever the output and the ports tell.
use Rattle.std.proofs.Common.{◌≡◌, ℕ, List, map, true, false, Option, Result, Ok, Err, inl, inr, refl, sym, ap, subst, ◌∙◌, arith}
use Rattle.std.specs.Prelude.{◌⊎◌}
use Rattle.vm_states.specs.mpy_base.declared.builtin.Builtin.{Builtin}
use Rattle.vm_states.specs.mpy_base.declared.builtin.Builtin.TheVariants as builtins
use Rattle.vm_states.specs.mpy_base.Val.{Val, Built, PlainWorld}
use Rattle.mpy_io.specs.Count.{Counts}
use Rattle.port_set.specs.Calls.{Tell}
use Rattle.port_set.specs.Counts.{CountsKeep}
use Rattle.port_set.proofs.Counting.{counts_are}
use Rattle.frame_calls.specs.arena_heap.declared.value.Value.{Value}
use Rattle.frame_calls.specs.arena_heap.declared.value.StrNo.{StrNo}
use Rattle.frame_calls.specs.arena_heap.declared.value.ConstNo.{ConstNo}
use Rattle.bc_progress.specs.py_effects.py_values.Names.{type_name}
use Rattle.bc_progress.specs.py_effects.py_primitives.Faults as plain
use Rattle.bc_progress.specs.py_effects.py_primitives.Faults.{NotCallable}
use Rattle.bc_progress.specs.py_effects.py_primitives.Outcome as primitives
use Rattle.bc_progress.specs.py_effects.py_primitives.Outcome.{Outcome, raises}
use Rattle.bc_progress.specs.py_effects.py_primitives.Calls.{call}
use Rattle.bc_progress.specs.py_effects.Effect.{Effect, on_heap}
use Rattle.bc_progress.specs.py_effects.Calling.{written, call_builtin}
use Rattle.vm_states.specs.bc_library.Constants.{items_at, text_at}
use Rattle.vm_states.specs.bc_library.Shelf.{Shelf}
use Rattle.vm_states.specs.bc_rows.declared.row.Row.{Row}
use Rattle.frame_calls.specs.prim_walks.Plain.{plain_pair}
use Rattle.frame_calls.specs.prim_faults.declared.fault.Fault.{Fault}
use Rattle.frame_calls.specs.prim_faults.declared.fault.Fault.TheVariants as faults
use Rattle.frame_calls.specs.prim_faults.Faults.{plain_fault}
use Rattle.frame_calls.specs.prim_faults.declared.stop.Stop.{Stop}
use Rattle.frame_calls.specs.prim_faults.declared.stop.Stop.TheVariants as stops
use Rattle.frame_calls.specs.prim_faults.Outcomes.{plain_answer, IsOutcome}
use Rattle.frame_calls.specs.prim_outputs.declared.prints.PrintStop.{PrintStop}
use Rattle.frame_calls.specs.prim_outputs.declared.prints.PrintStop.TheVariants as print_stops
use Rattle.frame_calls.specs.prim_outputs.Prints.{IsPrint}
use Rattle.frame_calls.specs.prim_outputs.PortCalls.{Failed, IsListed, called_number}
use Rattle.frame_calls.proofs.prim_outputs_lemmas.PortsTold.{failed_beyond}
use Rattle.bc_progress.specs.py_effects.py_primitives.Output.{printed}
use Rattle.frame_calls.specs.prim_calls.declared.calls.CallStop.{CallStop}
use Rattle.frame_calls.specs.prim_calls.declared.calls.CallStop.TheVariants as calls
use Rattle.frame_calls.specs.prim_calls.declared.callees.Callee.TheVariants as callees
use Rattle.frame_calls.specs.prim_calls.Calls.{as_call, as_print, Seen, IsCall}
use Rattle.frame_calls.specs.prim_calls.Families.{IsOnHeap, IsOfPorts}
use Rattle.frame_calls.proofs.prim_calls_lemmas.FamilyEffects.{on_heap_effect}
use Rattle.vm_states.specs.vm_frames.Calls.{Calls}
use Rattle.vm_states.specs.frame_moves.Shown.{value_of}
use Rattle.vm_states.specs.frame_moves.Outcomes.{world_of, outcome_of}
use Rattle.vm_states.specs.vm_fetching.declared.instruction.Fetched.{Fetched}
use Rattle.frame_calls.specs.Built.{Acts, ActsBuilt, IsCalled}
use Rattle.frame_calls.specs.Putting.{done_of, Puts}
use Rattle.frame_calls.specs.Operands.{Given}
use Rattle.frame_calls.proofs.Builtins.{family, heap_call}
use Rattle.vm_states.specs.Means.{Program}
use Rattle.vm_states.specs.Ready.{item_at, IsReady}
use Rattle.state_calls.specs.Called.{of_stop, is_out, visits, Comes, Strays, Reaches, HeapComes}
use Rattle.state_calls.proofs.Comings.{Decided, by_step}

-- a call that puts nothing
pub quiet : (acted : Result (Unit {0}) Stop) → is_out (of_stop acted) ≡ false
quiet (Ok done) = refl
quiet (Err stop) = refl

pub quiet_counts : (acted : Result (Unit {0}) Stop) (n : ℕ) → Counts n n (is_out (of_stop acted))
quiet_counts acted n = subst (Counts n n) (sym (quiet acted)) refl

-- answers
-- =======

call_quiet : (r : Result Value Stop) → is_out (done_of (as_call r)) ≡ false
call_quiet (Ok v) = refl
call_quiet (Err stop) = refl

stop_in : (r : Result Value Stop) (stop : Stop) → as_call r ≡ Err (calls.Stops stop) → r ≡ Err stop
stop_in (Ok v) stop e = cc
stop_in (Err other) stop e = cc

stop_given : (r : Result Value CallStop) (stop : Stop) → done_of r ≡ Err (calls.Stops stop) → r ≡ Err (calls.Stops stop)
stop_given (Ok v) stop e = cc
stop_given (Err other) stop e = cc

-- whether a stop is that of a port that failed
at_port : (stop : Stop) → (stop ≡ stops.Raises faults.PortFailed) ⊎ (stop ≡ stops.Raises faults.PortFailed → ⊥)
at_port (stops.Raises faults.PortFailed) = inl refl
at_port _ = inr (λ e. cc)

fails_at_port : (answer : Result Val primitives.Stop) → (answer ≡ Err (primitives.Raises plain.PortFailed)) ⊎ (answer ≡ Err (primitives.Raises plain.PortFailed) → ⊥)
fails_at_port (Err (primitives.Raises plain.PortFailed)) = inl refl
fails_at_port _ = inr (λ e. cc)

stopped_call : (r : Result Value Stop) (stop : Stop) → done_of (as_call r) ≡ Err (calls.Stops stop) → r ≡ Err stop
stopped_call (Ok v) stop e = cc
stopped_call (Err other) stop e = cc

module _ {S : Type 0} (told : S → Option (List ℕ)) (count : S → ℕ) (texts : StrNo → Option (List ℕ)) (tuples : ConstNo → Option (List Value)) (old new : Seen S) (args : List Value) (keys : List (Value × Value)) (given : Result Value CallStop) where
  abbrev Done : Builtin → Type 0
  Done b = IsCall told count texts tuples old new args keys given b

  -- what the sink and the ports show of a call
  record Shows : Type 0 where
    counts : Counts (count old.out) (count new.out) (is_out (done_of given))
    ports : is_out (done_of given) ≡ true → new.ports ≡ old.ports
    faults : CountsKeep old.ports new.ports

  still : (r : Result Value Stop) → given ≡ as_call r → new.out ≡ old.out → CountsKeep old.ports new.ports → Shows
  still r is out faults =
      let quietly : is_out (done_of given) ≡ false = ap (λ (z : Result Value CallStop). is_out (done_of z)) is ∙ call_quiet r in
      record {
        counts = subst (Counts (count old.out) (count new.out)) (sym quietly) (ap count out);
        ports = λ h. absurd (let wrong : true ≡ false = sym h ∙ quietly in cc);
        faults = faults;
      }

  print_counts : (r : Result Value PrintStop) (outcome : Outcome (List ℕ)) → IsPrint told count texts tuples old.heap old.out new.out r outcome → Counts (count old.out) (count new.out) (is_out (done_of (as_print r)))
  print_counts (Ok v) outcome h = h.1.puts.cause
  print_counts (Err (print_stops.Raises fault)) outcome h = ap count h.unchanged
  print_counts (Err (print_stops.Out failed)) outcome h = h.puts.cause

  shows_print : Done builtins.Print → Shows
  shows_print acts = record {
    counts = subst (λ (z : Result Value CallStop). Counts (count old.out) (count new.out) (is_out (done_of z))) (sym acts.does.is) (print_counts acts.does.answer _ acts.does.holds);
    ports = λ h. acts.ports;
    faults = counts_are old.ports new.ports acts.ports;
  }

  shows_heap : (b : Builtin) → IsOnHeap b → Done b → Shows
  shows_heap b is h = let acts = heap_call told count texts tuples old new args keys given b is h in still acts.does.answer acts.does.is acts.out (counts_are old.ports new.ports acts.ports)

  shows_ports : (b : Builtin) → IsOfPorts b → Done b → Shows
  shows_ports builtins.PortPut is acts = still acts.does.answer acts.does.is acts.out acts.faults
  shows_ports builtins.PortGet is acts = still acts.does.answer acts.does.is acts.out acts.faults
  shows_ports builtins.PortCount is acts = still acts.does.answer acts.does.is acts.out (counts_are old.ports new.ports acts.ports)
  shows_ports _ is acts = absurd is

  shows_port : Done builtins.Port → Shows
  shows_port acts = still acts.does.answer acts.does.is acts.out (counts_are old.ports new.ports acts.ports)

  shows : (b : Builtin) → Done b → Shows
  shows b h = elim (family b) [
    | inl is ↦ shows_heap b is h
    | inr (inl e) ↦ shows_print (subst Done e h)
    | inr (inr (inl is)) ↦ shows_ports b is h
    | inr (inr (inr e)) ↦ shows_port (subst Done e h)
  ]

  -- a call of ports, and a print, leave the heap
  pub ports_heap : (b : Builtin) → IsOfPorts b → Done b → new.heap ≡ old.heap
  ports_heap builtins.PortPut is acts = acts.heap
  ports_heap builtins.PortGet is acts = acts.heap
  ports_heap builtins.PortCount is acts = acts.heap
  ports_heap _ is acts = absurd is

  pub print_heap : Done builtins.Print → new.heap ≡ old.heap
  print_heap acts = acts.heap

module _ {S : Type 0} (told : S → Option (List ℕ)) (count : S → ℕ) (texts : StrNo → Option (List ℕ)) (tuples : ConstNo → Option (List Value)) (old new : Seen S) (args : List Value) (keys : List (Value × Value)) (b : Builtin) (result : Result (Unit {0}) CallStop) (h : IsCalled told count texts tuples old new args keys b result) where
  pub built_counts : Counts (count old.out) (count new.out) (is_out result)
  built_counts = subst (λ (z : Result (Unit {0}) CallStop). Counts (count old.out) (count new.out) (is_out z)) (sym h.done) (shows told count texts tuples old new args keys h.given b h.call).counts

  pub built_ports : is_out result ≡ true → new.ports ≡ old.ports
  built_ports e = (shows told count texts tuples old new args keys h.given b h.call).ports (sym (ap is_out h.done) ∙ e)

  pub built_faults : CountsKeep old.ports new.ports
  built_faults = (shows told count texts tuples old new args keys h.given b h.call).faults

-- the heap
-- ========

apart : (b : Builtin) → IsOnHeap b → IsOfPorts b → ⊥
apart builtins.PortPut h p = h
apart builtins.PortGet h p = h
apart builtins.PortCount h p = h
apart builtins.Print h p = h
apart builtins.Port h p = h
apart _ h p = p

module _ {S : Type 0} (told : S → Option (List ℕ)) (count : S → ℕ) (p : Program) (row : Row) (s new : Calls) (fetched : Fetched) (r : IsReady p s row fetched) (given : Given) (before behind : Seen S) (b : Builtin) (size : ℕ) (shelf : Shelf) where
  abbrev W : PlainWorld → PlainWorld
  W w = world_of p.tables w before.heap

  abbrev effect : PlainWorld → Effect Val
  effect w = call_builtin (W w) b (map (value_of p.tables) given.args) (map (plain_pair p.tables.texts p.tables.tuples) given.keys)

  abbrev ActsIn : Result (Unit {0}) CallStop → PlainWorld → Type 0
  ActsIn result w = ActsBuilt told count p.tables p.library (item_at p r.first fetched) size fetched.end b given.args given.keys before behind s.calls new.calls w result

  abbrev ActsOf : Result (Unit {0}) Stop → PlainWorld → Type 0
  ActsOf result w = Acts told count p.tables p.library (item_at p r.first fetched) size fetched.end b given.args given.keys before behind s.calls new.calls w result

  abbrev Out : Result (Unit {0}) CallStop → Type 0
  Out result = HeapComes p r.place fetched.end size before.heap behind.heap s new result

  reached : (result : Result (Unit {0}) Stop) (w : PlainWorld) → ActsOf result w → Reaches p r.place fetched.end size before.heap behind.heap s new result w
  reached result w h =
      let c : Comes p (callees.Built b) given before.heap w s (outcome_of p.tables r.place h.after behind.heap s.calls new.calls result) =
      by_step p row s fetched r (callees.Built b) given before.heap w (λ place. outcome_of p.tables place h.after behind.heap s.calls new.calls result) h.comes in
      record { paid = visits p (callees.Built b) given before.heap w; after = h.after; modules = h.modules; steps = c.steps (visits p (callees.Built b) given before.heap w) (omega arith) }

  abbrev Moved : Result (Unit {0}) CallStop → Type 0
  Moved result = Puts (text_at shelf) (items_at shelf) behind.heap.objects fetched.end size s new result

  stays : (result : Result (Unit {0}) CallStop) → Moved result → behind.heap ≡ before.heap → Out result
  stays (Ok done) moved e = inl (record { heap = e; value = moved.0; calls = moved.2 })
  stays (Err (calls.Stops stop)) moved e = inl e
  stays (Err (calls.Out failed)) moved e = e

  -- a print fails as a port's only where that of the world does
  print_answer : (w : PlainWorld) (r : Result Value PrintStop) → as_print r ≡ Err (calls.Stops (stops.Raises faults.PortFailed))
      → IsPrint told count p.tables.texts p.tables.tuples before.heap before.out behind.out r (printed (W w).heap (map (value_of p.tables) given.args) (map (plain_pair p.tables.texts p.tables.tuples) given.keys))
      → (call_builtin (W w) builtins.Print (map (value_of p.tables) given.args) (map (plain_pair p.tables.texts p.tables.tuples) given.keys)).answer ≡ Err (primitives.Raises plain.PortFailed)
  print_answer w (Ok v) e h = absurd cc
  print_answer w (Err (print_stops.Out failed)) e h = absurd cc
  print_answer w (Err (print_stops.Raises fault)) e h =
      let is : fault ≡ faults.PortFailed = cc in
      let o = printed (W w).heap (map (value_of p.tables) given.args) (map (plain_pair p.tables.texts p.tables.tuples) given.keys) in
      ap (λ (z : Result (List ℕ) primitives.Stop). (written (W w) o z).answer) (h.is ∙ ap (λ (z : Fault). Err (primitives.Raises (plain_fault p.tables.texts p.tables.tuples before.heap z))) is)

  -- a call on the heap fails as a port's only where that of the world does
  alike : (w : PlainWorld) (outcome : Outcome Val) → effect w ≡ on_heap (W w) outcome → (r : Result Value Stop) → IsOutcome p.tables.texts p.tables.tuples before.heap behind.heap r outcome → (stop : Stop) → r ≡ Err stop
      → stop ≡ stops.Raises faults.PortFailed → (effect w).answer ≡ Err (primitives.Raises plain.PortFailed)
  alike w outcome e r is stop at failed =
      ap (λ (z : Effect Val). z.answer) e ∙ (sym is.answer ∙ ap (λ (z : Result Value Stop). plain_answer p.tables.texts p.tables.tuples behind.heap z) (at ∙ ap (λ (z : Stop). Err z) failed))

  module _ (none : IsOfPorts b → ⊥) (given_is : Result Value CallStop) where
    on_heap_comes : (outcome : PlainWorld → Outcome Val) → ((w : PlainWorld) → effect w ≡ on_heap (W w) (outcome w)) → (answer : Result Value Stop) → given_is ≡ as_call answer
        → ((w : PlainWorld) → IsOutcome p.tables.texts p.tables.tuples before.heap behind.heap answer (outcome w))
        → (result : Result (Unit {0}) CallStop) → result ≡ done_of given_is → ((w : PlainWorld) → (IsOfPorts b → Tell before.ports w.ports) → ActsIn result w) → Out result
    on_heap_comes outcome e answer is holds (Ok done) d acts = inr (λ w. reached (Ok done) w (acts w (λ of. absurd (none of))))
    on_heap_comes outcome e answer is holds (Err (calls.Stops stop)) d acts =
        let at : answer ≡ Err stop = stopped_call answer stop (sym (ap (λ (z : Result Value CallStop). done_of z) is) ∙ sym d) in
        inr (λ w. reached (Err stop) w (acts w (λ of. absurd (none of)) (alike w (outcome w) (e w) answer (holds w) stop at)))
    on_heap_comes outcome e answer is holds (Err (calls.Out failed)) d acts =
        absurd (let wrong : true ≡ false = ap is_out (d ∙ ap (λ (z : Result Value CallStop). done_of z) is) ∙ call_quiet answer in cc)

  abbrev Called : Result Value CallStop → Builtin → Type 0
  Called given_is z = IsCall told count p.tables.texts p.tables.tuples before behind given.args given.keys given_is z

  pub heap_built : (result : Result (Unit {0}) CallStop) → ((w : PlainWorld) → (IsOfPorts b → Tell before.ports w.ports) → ActsIn result w)
      → IsCalled told count p.tables.texts p.tables.tuples before behind given.args given.keys b result → Moved result → Out result
  heap_built result acts h moved = elim (family b) [
    | inl is ↦
        let does = heap_call told count p.tables.texts p.tables.tuples before behind given.args given.keys h.given b is h.call in
        on_heap_comes (apart b is) h.given (λ w. call (W w).heap b (map (value_of p.tables) given.args) (map (plain_pair p.tables.texts p.tables.tuples) given.keys))
        (λ w. on_heap_effect (W w) b (map (value_of p.tables) given.args) (map (plain_pair p.tables.texts p.tables.tuples) given.keys) is)
        does.does.answer does.does.is (λ w. does.does.holds) result h.done acts
    | inr (inl e) ↦ stays result moved (print_heap told count p.tables.texts p.tables.tuples before behind given.args given.keys h.given (subst (Called h.given) e h.call))
    | inr (inr (inl is)) ↦ stays result moved (ports_heap told count p.tables.texts p.tables.tuples before behind given.args given.keys h.given b is h.call)
    | inr (inr (inr e)) ↦
        let does = subst (Called h.given) e h.call in
        on_heap_comes (λ of. subst IsOfPorts e of) h.given (λ w. raises (NotCallable (type_name (W w).heap (Built builtins.Port))) (W w).heap)
        (λ w. ap (λ (z : Builtin). call_builtin (W w) z (map (value_of p.tables) given.args) (map (plain_pair p.tables.texts p.tables.tuples) given.keys)) e)
        does.does.answer does.does.is (λ w. does.does.holds) result h.done acts
  ]

  -- the ports
  -- =========

  module _ (w : PlainWorld) (tell : Tell before.ports w.ports) (given_is : Result Value CallStop) (stop : Stop) (at : given_is ≡ Err (calls.Stops stop)) where
    abbrev Alike : Type 0
    Alike = stop ≡ stops.Raises faults.PortFailed → (effect w).answer ≡ Err (primitives.Raises plain.PortFailed)

    abbrev Choice : Type 0
    Choice = Alike ⊎ Strays p (callees.Built b) given before.heap w before.ports behind.ports

    -- by whether the call failed at the port, and whether that of the world does
    chosen : (given_is ≡ Err (calls.Stops (stops.Raises faults.PortFailed)) → Failed (called_number given.args) before.ports behind.ports)
        → (given_is ≡ Err (calls.Stops (stops.Raises faults.PortFailed)) → IsListed (called_number given.args) w.ports → (effect w).answer ≡ Err (primitives.Raises plain.PortFailed)) → Choice
    chosen failed listed = elim (at_port stop) [
      | inl at_one ↦ elim (fails_at_port (effect w).answer) [
        | inl so ↦ inl (λ e. so)
        | inr other ↦
            let is = at ∙ ap (λ (z : Stop). Err (calls.Stops z)) at_one in
            inr (record { failed = failed is; untold = other; rose = failed_beyond (called_number given.args) before.ports behind.ports w.ports tell (failed is) (λ l. other (listed is l)) })
      ]
      | inr elsewhere ↦ inl (λ e. absurd (elsewhere e))
    ]

    heap_alike : (outcome : Outcome Val) → effect w ≡ on_heap (W w) outcome → (answer : Result Value Stop) → given_is ≡ as_call answer → IsOutcome p.tables.texts p.tables.tuples before.heap behind.heap answer outcome → Choice
    heap_alike outcome e answer is holds = inl (alike w outcome e answer holds stop (stop_in answer stop (sym is ∙ at)))

    print_alike : b ≡ builtins.Print → Called given_is builtins.Print → Choice
    print_alike e acts = inl (λ failed. ap (λ (z : Builtin). (call_builtin (W w) z (map (value_of p.tables) given.args) (map (plain_pair p.tables.texts p.tables.tuples) given.keys)).answer) e
        ∙ print_answer w acts.does.answer (sym acts.does.is ∙ (at ∙ ap (λ (z : Stop). Err (calls.Stops z)) failed)) acts.does.holds)

    -- the answer of the world's call
    answer_of : {z : Builtin} → b ≡ z → (effect w).answer ≡ (call_builtin (W w) z (map (value_of p.tables) given.args) (map (plain_pair p.tables.texts p.tables.tuples) given.keys)).answer
    answer_of e = ap (λ (z : Builtin). (call_builtin (W w) z (map (value_of p.tables) given.args) (map (plain_pair p.tables.texts p.tables.tuples) given.keys)).answer) e

    ports_alike : (z : Builtin) → b ≡ z → IsOfPorts z → Called given_is z → Choice
    ports_alike builtins.PortPut e of acts = chosen acts.failed (λ is l. answer_of e ∙ acts.listed is w.ports l)
    ports_alike builtins.PortGet e of acts = chosen acts.failed (λ is l. answer_of e ∙ acts.listed is w.ports l)
    ports_alike builtins.PortCount e of acts =
        let answer : acts.does.answer ≡ Err stop = stop_in acts.does.answer stop (sym acts.does.is ∙ at) in
        inl (λ failed. ap (λ (z : Builtin). (call_builtin (W w) z (map (value_of p.tables) given.args) (map (plain_pair p.tables.texts p.tables.tuples) given.keys)).answer) e
        ∙ (sym (acts.does.holds w.ports tell).answer ∙ ap (λ (z : Result Value Stop). plain_answer p.tables.texts p.tables.tuples before.heap z) (answer ∙ ap (λ (z : Stop). Err z) failed)))
    ports_alike _ e of acts = absurd of

    choose : Called given_is b → Choice
    choose call_is = elim (family b) [
      | inl is ↦
          let does = heap_call told count p.tables.texts p.tables.tuples before behind given.args given.keys given_is b is call_is in
          heap_alike (call (W w).heap b (map (value_of p.tables) given.args) (map (plain_pair p.tables.texts p.tables.tuples) given.keys))
          (on_heap_effect (W w) b (map (value_of p.tables) given.args) (map (plain_pair p.tables.texts p.tables.tuples) given.keys) is) does.does.answer does.does.is does.does.holds
      | inr (inl e) ↦ print_alike e (subst (Called given_is) e call_is)
      | inr (inr (inl is)) ↦ ports_alike b refl is call_is
      | inr (inr (inr e)) ↦
          let does = subst (Called given_is) e call_is in
          heap_alike (raises (NotCallable (type_name (W w).heap (Built builtins.Port))) (W w).heap)
          (ap (λ (z : Builtin). call_builtin (W w) z (map (value_of p.tables) given.args) (map (plain_pair p.tables.texts p.tables.tuples) given.keys)) e) does.does.answer does.does.is does.does.holds
    ]

  pub decided : (w : PlainWorld) → Tell before.ports w.ports → (result : Result (Unit {0}) CallStop) → IsCalled told count p.tables.texts p.tables.tuples before behind given.args given.keys b result
      → Decided told count p row s new fetched r given before behind b size w result
  decided w tell (Ok done) h = tt
  decided w tell (Err (calls.Stops stop)) h = choose w tell h.given stop (stop_given h.given stop (sym h.done)) h.call
  decided w tell (Err (calls.Out failed)) h = tt
