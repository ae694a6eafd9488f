-- Calls of built-ins as the machine's steps.
use Rattle.std.proofs.Common.{◌≡◌, ℕ, suc, List, [], ◌∷◌, ◌++◌, map, drop, Option, Result, Ok, Err, inl, inr, refl, sym, ap, ◌∙◌, subst}
use Rattle.mpy_base.specs.declared.builtin.Builtin.{Builtin}
use Rattle.mpy_base.specs.declared.builtin.Builtin.TheVariants as builtins
use Rattle.mpy_base.specs.World.{Heap}
use Rattle.mpy_base.specs.Val.{Val, Built, PlainWorld}
use Rattle.frame_moves.specs.arena_heap.declared.value.StrNo.{StrNo}
use Rattle.frame_moves.specs.arena_heap.declared.value.ConstNo.{ConstNo}
use Rattle.port_set.specs.Calls.{Tell}
use Rattle.frame_moves.specs.arena_heap.declared.value.Value.{Value}
use Rattle.frame_moves.specs.arena_heap.declared.value.Value.TheVariants as values
use Rattle.frame_moves.specs.py_values.Names.{type_name}
use Rattle.frame_moves.specs.py_primitives.Faults.{NotCallable}
use Rattle.frame_moves.specs.py_primitives.Outcome as primitives
use Rattle.frame_moves.specs.py_primitives.Outcome.{raises}
use Rattle.frame_moves.specs.py_primitives.Calls.{call}
use Rattle.frame_moves.specs.py_effects.Effect.{Effect}
use Rattle.frame_moves.specs.py_effects.Calling.{call_builtin}
use Rattle.frame_moves.specs.bc_machine.Library.{Item, Library}
use Rattle.frame_moves.specs.bc_machine.State as states
use Rattle.frame_moves.specs.bc_machine.State.{State, go}
use Rattle.frame_moves.specs.prim_walks.Plain.{plain_pair}
use Rattle.frame_moves.specs.prim_faults.declared.fault.Fault.TheVariants as faults
use Rattle.frame_moves.specs.prim_faults.declared.stop.Stop.{Stop}
use Rattle.frame_moves.specs.prim_faults.declared.stop.Stop.TheVariants as stops
use Rattle.prim_calls.specs.declared.calls.CallStop.{CallStop}
use Rattle.prim_calls.specs.declared.calls.CallStop.TheVariants as calls
use Rattle.prim_calls.specs.Calls.{Seen, IsCall, IsKnownCall}
use Rattle.prim_calls.specs.Families.{IsOnHeap, IsOfPorts}
use Rattle.prim_calls.proofs.FamilyEffects.{on_heap_effect}
use Rattle.frame_moves.specs.vm_frames.declared.slot.Slot.TheVariants as slots
use Rattle.frame_moves.specs.vm_frames.Calls.{Call, Calls, OfRunning, change_first}
use Rattle.frame_moves.specs.bc_labels.Positions.{position_in}
use Rattle.frame_moves.specs.vm_frames.Views.{slots_of, starts_of, position_of, frame_of}
use Rattle.frame_moves.specs.Shown.{Tables, view_of, value_of, running_of}
use Rattle.frame_moves.specs.Outcomes.{world_of, outcome_of}
use Rattle.frame_moves.proofs.Stepping.{goes_to}
use Rattle.frame_calls.specs.Coming.{Comes}
use Rattle.frame_calls.specs.Putting.{with_value, put_in, done_of, Puts}
use Rattle.frame_calls.specs.Built.{Acts, ActsBuilt, IsKnownCallStop}
use Rattle.frame_calls.proofs.Coming.{GivesIn, put_calls, put_calls_are, comes, puts_list, ends, known_stop}
use Rattle.frame_calls.proofs.Builtins.{Effected, Half, Giving, family, heap_call, giving_call, giving_print, of_outcome, of_port, of_print}

module _ {S : Type 0} (told : S → Option (List ℕ)) (count : S → ℕ) (t : Tables) (args : List Value) (keys : List (Value × Value)) (w : PlainWorld) (old new : Seen S) (given : Result Value CallStop) where
  abbrev Gift : Builtin → Type 0
  Gift b = Giving told count t.texts t.tuples old new args keys w b given

  abbrev Call_of : Builtin → Type 0
  Call_of b = IsCall told count t.texts t.tuples old new args keys given b

  heap_gift : (b : Builtin) → IsOnHeap b → Call_of b → Gift b
  heap_gift b is h =
      let acts = heap_call told count t.texts t.tuples old new args keys given b is h in
      let W = world_of t w old.heap in
      let A = map (value_of t) args in
      let K = map (plain_pair t.texts t.tuples) keys in
      subst (λ (r : Result Value CallStop). Giving told count t.texts t.tuples old new args keys w b r) (sym acts.does.is)
      (giving_call told count t.texts t.tuples old new args keys w b acts.does.answer
      (λ alike. of_outcome told count t.texts t.tuples old new args keys w b (call W.heap b A K) acts.does.answer (on_heap_effect W b A K is) acts.does.holds acts.out acts.ports))

  port_module_gift : Call_of builtins.Port → Gift builtins.Port
  port_module_gift acts =
      let W = world_of t w old.heap in
      subst (λ (r : Result Value CallStop). Giving told count t.texts t.tuples old new args keys w builtins.Port r) (sym acts.does.is)
      (giving_call told count t.texts t.tuples old new args keys w builtins.Port acts.does.answer
      (λ alike. of_outcome told count t.texts t.tuples old new args keys w builtins.Port (raises (NotCallable (type_name W.heap (Built builtins.Port))) W.heap) acts.does.answer refl acts.does.holds acts.out acts.ports))

  print_gift : Call_of builtins.Print → Gift builtins.Print
  print_gift acts =
      subst (λ (r : Result Value CallStop). Giving told count t.texts t.tuples old new args keys w builtins.Print r) (sym acts.does.is)
      (giving_print told count t.texts t.tuples old new args keys w builtins.Print acts.does.answer
      (of_print told count t.texts t.tuples old new args keys w builtins.Print acts.does.answer refl acts.does.holds acts.heap acts.ports))

  ports_gift : (b : Builtin) → IsOfPorts b → Tell old.ports w.ports → Call_of b → Gift b
  ports_gift builtins.PortPut is tell acts =
      subst (λ (r : Result Value CallStop). Giving told count t.texts t.tuples old new args keys w builtins.PortPut r) (sym acts.does.is)
      (giving_call told count t.texts t.tuples old new args keys w builtins.PortPut acts.does.answer
      (λ alike. of_port told count t.texts t.tuples old new args keys w builtins.PortPut acts.does.answer tt tell (acts.does.holds w.ports tell alike) acts.heap acts.out))
  ports_gift builtins.PortGet is tell acts =
      subst (λ (r : Result Value CallStop). Giving told count t.texts t.tuples old new args keys w builtins.PortGet r) (sym acts.does.is)
      (giving_call told count t.texts t.tuples old new args keys w builtins.PortGet acts.does.answer
      (λ alike. of_port told count t.texts t.tuples old new args keys w builtins.PortGet acts.does.answer tt tell (acts.does.holds w.ports tell alike) acts.heap acts.out))
  ports_gift builtins.PortCount is tell acts =
      subst (λ (r : Result Value CallStop). Giving told count t.texts t.tuples old new args keys w builtins.PortCount r) (sym acts.does.is)
      (giving_call told count t.texts t.tuples old new args keys w builtins.PortCount acts.does.answer
      (λ alike. of_port told count t.texts t.tuples old new args keys w builtins.PortCount acts.does.answer tt tell (acts.does.holds w.ports tell) acts.heap acts.out))
  ports_gift _ is tell acts = absurd is

  -- what a call of a built-in gives in a world
  pub gift : (b : Builtin) → (IsOfPorts b → Tell old.ports w.ports) → Call_of b → Gift b
  gift b tell h = elim (family b) [
    | inl is ↦ heap_gift b is h
    | inr (inl e) ↦ subst Gift (sym e) (print_gift (subst Call_of e h))
    | inr (inr (inl is)) ↦ ports_gift b is (tell is) h
    | inr (inr (inr e)) ↦ subst Gift (sym e) (port_module_gift (subst Call_of e h))
  ]

same_stop : (r : Result Value Stop) (a b : Stop) → r ≡ Err a → r ≡ Err b → a ≡ b
same_stop r a b e f = cc

module _ {S : Type 0} (told : S → Option (List ℕ)) (count : S → ℕ) (t : Tables) (library : Library) (item : Item) (size end : ℕ) (b : Builtin) (args : List Value) (keys : List (Value × Value)) (old new : Seen S) (s0 s1 : Calls) (w : PlainWorld) where
  abbrev W : PlainWorld
  W = world_of t w old.heap

  abbrev effect : Effect Val
  effect = call_builtin W b (map (value_of t) args) (map (plain_pair t.texts t.tuples) keys)

  abbrev Next : Call → Type 0
  Next c = position_in (starts_of (view_of t) c) end ≡ suc (position_of (view_of t) c)

  abbrev Goal : Result (Unit {0}) CallStop → Type 0
  Goal result = ActsBuilt told count t library item size end b args keys old new s0.calls s1.calls w result

  acts_by : GivesIn t library item size s0.calls W effect → OfRunning Next s0.calls → (given : Result Value Stop) → Effected told count t.texts t.tuples old new args keys w b given → s1.calls ≡ put_calls end size given s0.calls
      → Acts told count t library item size end b args keys old new s0.calls s1.calls w (done_of given)
  acts_by is next given h calls = record {
    after = h.after;
    modules = h.modules;
    output = h.output;
    ports = h.ports;
    comes = subst (λ (cs : List Call). Comes t library item effect.visits W s0.calls (λ place. outcome_of t place h.after new.heap s0.calls cs (done_of given))) (sym calls)
        (puts_list t library item effect.visits new.heap end size given W h.after effect (record { answer = h.answer; world = h.world; visits_are = refl }) s0.calls is next);
  }

  half_list : (cs : List Call) → GivesIn t library item size cs W effect → OfRunning Next cs → (h : Half told count t.texts t.tuples old new args keys w b)
      → Comes t library item effect.visits W cs (λ place. running_of t 0 (change_first (with_value end size values.None) cs) (record W { output = w.output ++ h.text }))
  half_list [] is next h = absurd next
  half_list (c ∷ cs) is next h =
      let F = frame_of (view_of t) c in
      let Fs = map (frame_of (view_of t)) cs in
      let after : PlainWorld = record W { output = w.output ++ h.text } in
      let behind : Val → PlainWorld → State = λ v w1. go (suc (position_of (view_of t) c)) (states.Value v ∷ slots_of (view_of t) (starts_of (view_of t) c) (drop size c.slots)) F.entries F Fs w1 in
      comes t library item effect.visits W c cs (λ place. running_of t 0 (with_value end size values.None c ∷ cs) after) effect (λ place. behind) is refl
      (λ place.
      ap (λ (z : PlainWorld). ends place F Fs z behind effect.answer) h.world
      ∙ (ap (λ (z : Result Val primitives.Stop). ends place F Fs after behind z) h.answer
      ∙ goes_to (view_of t) c (suc (position_of (view_of t) c)) end (slots.Value values.None ∷ drop size c.slots) Fs after next))

  goal_of : GivesIn t library item size s0.calls W effect → OfRunning Next s0.calls → (given : Result Value CallStop) → Giving told count t.texts t.tuples old new args keys w b given → s1.calls ≡ put_calls end size given s0.calls → Goal (done_of given)
  goal_of is next (Ok v) h calls = acts_by is next (Ok v) h calls
  goal_of is next (Err (calls.Stops stop)) h calls = λ alike. acts_by is next (Err stop) (h (λ e. alike (same_stop (Err stop) stop (stops.Raises faults.PortFailed) refl e))) calls
  goal_of is next (Err (calls.Out failed)) h calls = record { text = h.text; puts = h.puts; heap = h.heap; ports = h.ports; comes = half_list s0.calls is next h }

  -- the call in its world
  pub acts_built : GivesIn t library item size s0.calls W effect → OfRunning Next s0.calls → (given : Result Value CallStop) → (IsOfPorts b → Tell old.ports w.ports) → IsCall told count t.texts t.tuples old new args keys given b
      → (result : Result (Unit {0}) CallStop) → s1 ≡ put_in end size given s0 → result ≡ done_of given → Goal result
  acts_built is next given tell h result e d =
      subst Goal (sym d) (goal_of is next given (gift told count t args keys w old new given b tell h) (ap (λ (z : Calls). z.calls) e ∙ put_calls_are end size given s0))

-- what is known
-- =============

module _ (texts : StrNo → Option (List ℕ)) (tuples : ConstNo → Option (List Value)) (heap : Heap Value ℕ) where
  pub called_moved : (end size : ℕ) (s0 s1 : Calls) (result : Result (Unit {0}) CallStop) (given : Result Value CallStop) → IsKnownCall texts tuples heap.objects given
      → s1 ≡ put_in end size given s0 → result ≡ done_of given → Puts texts tuples heap.objects end size s0 s1 result
  called_moved end size s0 s1 result (Ok v) known e d = subst (Puts texts tuples heap.objects end size s0 s1) (sym d) (v, known, e)
  called_moved end size s0 s1 result (Err stop) known e d = subst (Puts texts tuples heap.objects end size s0 s1) (sym d) e

  done_known : (given : Result Value CallStop) → IsKnownCall texts tuples heap.objects given → IsKnownCallStop texts tuples heap.objects (done_of given)
  done_known (Ok v) known = tt
  done_known (Err (calls.Stops stop)) known = known_stop texts tuples heap stop known
  done_known (Err (calls.Out failed)) known = tt

  pub call_known : (result : Result (Unit {0}) CallStop) (given : Result Value CallStop) → IsKnownCall texts tuples heap.objects given → result ≡ done_of given → IsKnownCallStop texts tuples heap.objects result
  call_known result given known d = subst (IsKnownCallStop texts tuples heap.objects) (sym d) (done_known given known)
