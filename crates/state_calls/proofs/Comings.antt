-- What a call comes to, from what was done.
use Rattle.std.proofs.Common.{◌≡◌, ℕ, List, ◌++◌, map, Option, Some, Result, Ok, Err, inl, inr, refl, sym, ap, subst, ◌∙◌}
use Rattle.std.specs.Prelude.{◌⊎◌}
use Rattle.vm_states.specs.mpy_base.declared.builtin.Builtin.{Builtin}
use Rattle.vm_states.specs.mpy_base.World.{Heap}
use Rattle.vm_states.specs.mpy_base.Val.{PlainWorld}
use Rattle.port_set.specs.Calls.{Tell}
use Rattle.frame_calls.specs.arena_heap.declared.value.Value.{Value}
use Rattle.frame_calls.specs.arena_heap.declared.value.Value.TheVariants as values
use Rattle.bc_progress.specs.py_effects.py_primitives.Faults as plain_faults
use Rattle.bc_progress.specs.py_effects.py_primitives.Outcome as primitives
use Rattle.bc_progress.specs.py_effects.Calling.{call_builtin}
use Rattle.bc_progress.specs.py_effects.Effect.{Place}
use Rattle.vm_states.specs.bc_library.Constants.{items_at, text_at}
use Rattle.vm_states.specs.bc_library.Shelf.{Shelf}
use Rattle.frame_calls.specs.bc_machine.State.{State}
use Rattle.vm_states.specs.bc_rows.declared.row.Row.{Row}
use Rattle.frame_calls.specs.prim_walks.Plain.{plain_pair}
use Rattle.frame_calls.specs.prim_faults.declared.fault.Fault.TheVariants as faults
use Rattle.frame_calls.specs.prim_faults.declared.stop.Stop.{Stop}
use Rattle.frame_calls.specs.prim_faults.declared.stop.Stop.TheVariants as stops
use Rattle.frame_calls.specs.prim_calls.Calls.{Seen}
use Rattle.frame_calls.specs.prim_calls.declared.callees.Callee.{Callee}
use Rattle.frame_calls.specs.prim_calls.declared.callees.Callee.TheVariants as callees
use Rattle.frame_calls.specs.prim_calls.declared.calls.CallStop.{CallStop}
use Rattle.frame_calls.specs.prim_calls.declared.calls.CallStop.TheVariants as calls
use Rattle.vm_states.specs.vm_frames.Calls.{Calls, change_first}
use Rattle.vm_states.specs.frame_moves.Shown.{Tables, value_of, running_of}
use Rattle.vm_states.specs.frame_moves.Outcomes.{outcome_of, Does}
use Rattle.vm_states.specs.vm_fetching.declared.instruction.Fetched.{Fetched}
use Rattle.frame_calls.specs.Coming as invoking
use Rattle.frame_calls.specs.Coming.{ComesTo}
use Rattle.frame_calls.specs.Built.{ActsBuilt}
use Rattle.frame_calls.specs.Layouts.{Layout, tables_of}
use Rattle.frame_calls.specs.Operands.{Given}
use Rattle.frame_calls.specs.Putting.{with_value}
use Rattle.vm_states.specs.Means.{Program, Means}
use Rattle.vm_states.specs.Ready.{item_at, IsReady}
use Rattle.vm_states.proofs.frame_exits_lemmas.Tabling.{by_parts}
use Rattle.state_calls.specs.Called.{of_stop, begins_in, visits, Comes, Strays, CallComes}
use Rattle.state_calls.proofs.Places.{texts_are, tuples_are}

-- what holds of all tables of a library's texts and constant tuples holds of the program's
pub with_tables : (p : Program) → Means p → (shelf : Shelf) → p.shelf ≡ shelf → (P : Tables → Type 0) → ((layout : Layout) → P (tables_of (text_at shelf) (items_at shelf) layout)) → P p.tables
with_tables p means shelf shelf_is P f =
    by_parts (text_at shelf) (items_at shelf) P (λ names starts. f (record { module_name = names; starts = starts })) p.tables (texts_are p means shelf shelf_is) (tuples_are p means shelf shelf_is)

module _ (p : Program) (row : Row) (s : Calls) (fetched : Fetched) (r : IsReady p s row fetched) (callee : Callee) (given : Given) (before : Heap Value ℕ) (w : PlainWorld) where
  pub by_step : (outcome : Place → State) → invoking.Comes p.tables p.library (item_at p r.first fetched) (visits p callee given before w) (begins_in p callee given before w) s.calls outcome → Comes p callee given before w s (outcome r.place)
  by_step outcome h = record {
    pays = λ paid less. r.steps paid (begins_in p callee given before w) ∙ h.pays r.place paid less;
    steps = λ paid enough. r.steps paid (begins_in p callee given before w) ∙ h.steps r.place paid enough;
  }

  pub by_does : (behind : Heap Value ℕ) (new : Calls) (result : Result (Unit {0}) Stop) → Does p.tables (item_at p r.first fetched) (visits p callee given before w) before behind s.calls new.calls result
      → Comes p callee given before w s (outcome_of p.tables r.place w behind s.calls new.calls result)
  by_does behind new result h = record {
    pays = λ paid less. r.steps paid (begins_in p callee given before w) ∙ h.pays p.library r.place paid w less;
    steps = λ paid enough. r.steps paid (begins_in p callee given before w) ∙ h.steps p.library r.place paid w enough;
  }

-- a call that puts nothing and calls no port
pub alone : {S : Type 0} (told : S → Option (List ℕ)) (count : S → ℕ) (p : Program) (place : Place) (callee : Callee) (given : Given) (before behind : Seen S) (old new : Calls) (w : PlainWorld)
    → behind.out ≡ before.out → behind.ports ≡ before.ports → told before.out ≡ Some w.output → Tell before.ports w.ports → (result : Result (Unit {0}) Stop)
    → Comes p callee given before.heap w old (outcome_of p.tables place w behind.heap old.calls new.calls result) → CallComes told count p place callee given before behind old new w (of_stop result)
alone told count p place callee given before behind old new w out ports told_is tell (Ok done) comes = record {
  after = w;
  modules = refl;
  output = ap told out ∙ told_is;
  ports = subst (λ z. Tell z w.ports) (sym ports) tell;
  comes = comes;
}
alone told count p place callee given before behind old new w out ports told_is tell (Err stop) comes = inl (record {
  after = w;
  modules = refl;
  output = ap told out ∙ told_is;
  ports = subst (λ z. Tell z w.ports) (sym ports) tell;
  comes = comes;
})

-- a call of a built-in
module _ {S : Type 0} (told : S → Option (List ℕ)) (count : S → ℕ) (p : Program) (row : Row) (s new : Calls) (fetched : Fetched) (r : IsReady p s row fetched) (given : Given) (before behind : Seen S) (b : Builtin) (size : ℕ) (w : PlainWorld) where
  -- a port fails only where that of the world does, or it strays
  abbrev pub Decided : Result (Unit {0}) CallStop → Type 0
  Decided (Ok done) = Unit {0}
  Decided (Err (calls.Stops stop)) =
      (stop ≡ stops.Raises faults.PortFailed → (call_builtin (begins_in p (callees.Built b) given before.heap w) b (map (value_of p.tables) given.args) (map (plain_pair p.tables.texts p.tables.tuples) given.keys)).answer ≡ Err (primitives.Raises plain_faults.PortFailed))
      ⊎ Strays p (callees.Built b) given before.heap w before.ports behind.ports
  Decided (Err (calls.Out failed)) = Unit {0}

  pub built : told before.out ≡ Some w.output → Tell before.ports w.ports → (result : Result (Unit {0}) CallStop)
      → ActsBuilt told count p.tables p.library (item_at p r.first fetched) size fetched.end b given.args given.keys before behind s.calls new.calls w result
      → Decided result → CallComes told count p r.place (callees.Built b) given before behind s new w result
  built told_is tell (Ok done) h decided = record {
    after = h.after;
    modules = h.modules;
    output = h.output told_is;
    ports = h.ports tell;
    comes = by_step p row s fetched r (callees.Built b) given before.heap w (λ place. outcome_of p.tables place h.after behind.heap s.calls new.calls (Ok done)) h.comes;
  }
  built told_is tell (Err (calls.Stops stop)) h (inl alike) =
      let acts = h alike in
      inl (record {
        after = acts.after;
        modules = acts.modules;
        output = acts.output told_is;
        ports = acts.ports tell;
        comes = by_step p row s fetched r (callees.Built b) given before.heap w (λ place. outcome_of p.tables place acts.after behind.heap s.calls new.calls (Err stop)) acts.comes;
      })
  built told_is tell (Err (calls.Stops stop)) h (inr strays) = inr strays
  built told_is tell (Err (calls.Out failed)) h decided = record {
    text = h.text;
    puts = h.puts;
    heap = h.heap;
    ports = h.ports;
    onwards = change_first (with_value fetched.end size values.None) s.calls;
    comes = by_step p row s fetched r (callees.Built b) given before.heap w (λ place. running_of p.tables 0 (change_first (with_value fetched.end size values.None) s.calls) (record (begins_in p (callees.Built b) given before.heap w) { output = w.output ++ h.text })) h.comes;
  }
