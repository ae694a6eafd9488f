-- Where a call comes to, and its stop.
use Rattle.std.proofs.Common.{◌≡◌, ◌≤◌, ℕ, List, [], Option, Some, None, Result, Ok, Err, inl, inr, refl, sym, subst, ap, ◌∙◌, arith}
use Rattle.std.specs.Prelude.{◌⊎◌, OnErr}
use Rattle.state_calls.specs.mpy_base.World.{Heap, Later}
use Rattle.state_calls.specs.mpy_base.Val.{PlainWorld}
use Rattle.mpy_io.specs.declared.fault.Failed.{Failed as SinkFault}
use Rattle.mpy_io.specs.Ports.{PortView}
use Rattle.port_set.specs.Calls.{Tell}
use Rattle.state_calls.specs.arena_heap.declared.value.Value.{Value}
use Rattle.state_calls.specs.arena_heap.declared.value.StrNo.{StrNo}
use Rattle.state_calls.specs.arena_heap.declared.value.ConstNo.{ConstNo}
use Rattle.state_values.specs.py_effects.Ends.{new_world}
use Rattle.state_values.specs.bc_library.Constants.{items_at, text_at}
use Rattle.state_values.specs.bc_library.Shelf.{Shelf}
use Rattle.state_calls.specs.bc_rows.declared.row.Row.{Row}
use Rattle.state_calls.specs.prim_faults.declared.stop.Stop.{Stop}
use Rattle.state_calls.specs.prim_faults.declared.stop.Stop.TheVariants as stops
use Rattle.state_calls.specs.prim_faults.Outcomes.{IsKnownAnswer}
use Rattle.state_calls.specs.prim_calls.Calls.{Seen}
use Rattle.state_calls.specs.prim_calls.declared.callees.Callee.{Callee}
use Rattle.state_calls.specs.prim_calls.declared.calls.CallStop.{CallStop}
use Rattle.state_calls.specs.prim_calls.declared.calls.CallStop.TheVariants as calls
use Rattle.state_calls.specs.prim_modules.Registry.{Registry, plain_modules}
use Rattle.state_values.specs.vm_frames.Calls.{Calls}
use Rattle.state_calls.specs.frame_moves.Shown.{Tables, running_of}
use Rattle.state_calls.specs.frame_moves.Outcomes.{world_of, stopping_of}
use Rattle.state_calls.specs.frame_calls.Built.{IsKnownCallStop}
use Rattle.state_calls.specs.frame_calls.Operands.{Given}
use Rattle.state_calls.specs.frame_exits.declared.names.ModuleName.{ModuleName}
use Rattle.state_calls.specs.frame_exits.declared.ends.End.{End}
use Rattle.state_calls.specs.frame_exits.Ends.{with_modules, state_of}
use Rattle.state_calls.specs.vm_fetching.declared.instruction.Fetched.{Fetched}
use Rattle.state_values.specs.vm_states.Means.{Program, Means}
use Rattle.state_values.specs.vm_states.Ready.{IsReady}
use Rattle.state_values.specs.vm_states.State.{IsState}
use Rattle.state_values.specs.vm_states.Acting.{Tells}
use Rattle.state_calls.specs.Called.{CallsIn, CallComes, HeapComes, HeapComesIn}
use Rattle.state_calls.specs.Runs.{RunsIn, RunsWithin, RunsAgain}
use Rattle.state_exits.specs.Modules.{AreNames, AreRegistered}
use Rattle.state_exits.specs.Running.{stepped_with, RunsAt, RunsWith, IsRun, StopsOn}
use Rattle.state_steps.specs.Calling.{CallsOn, CallReaches, Went, steps, gives, raises}
use Rattle.state_steps.proofs.Landing.{RegisteredLaw}

abbrev Nothing : PlainWorld
Nothing = new_world 0 0 []

-- a world with these modules registered
pub registers : (t : Tables) (after : PlainWorld) (modules : Registry) → after.modules ≡ plain_modules t.texts t.tuples modules → after ≡ with_modules t after modules
registers t after modules e = ap (λ z. record after { modules = z }) e

-- what a stop tells
stop_known : (texts : StrNo → Option (List ℕ)) (tuples : ConstNo → Option (List Value)) (heap : Heap Value ℕ) (stop : Stop) → IsKnownCallStop texts tuples heap.objects (Err (calls.Stops stop)) → IsKnownAnswer texts tuples heap.objects (Err stop)
stop_known texts tuples heap (stops.Raises fault) h = h
stop_known texts tuples heap (stops.Full room) h = tt

module _ {S : Type 0} (told : S → Option (List ℕ)) (count : S → ℕ) (shelf : Shelf) (names : List ModuleName) (row : Row) (fetched : Fetched) (callee : Callee) (given : Given) (size : ℕ)
    (before between : Heap Value ℕ) (out0 out1 : S) (ports0 ports1 : List PortView) (earlier : Registry) (old mid : Calls) where
  abbrev Runs : Type 0
  Runs = RunsWith (text_at shelf) (items_at shelf) names shelf before earlier old row fetched

  abbrev Before : Seen S
  Before = record { heap = before; out = out0; ports = ports0 }

  abbrev Mid : Seen S
  Mid = record { heap = between; out = out1; ports = ports1 }

  pub roomy : (room : ℕ) → old.slot_room ≤ room → Runs → RunsWithin room shelf before old fetched
  roomy room most h = record {
    runs = record { program = h.runs.program; row = row; means = h.runs.means; shelf_is = h.shelf_is; state = h.runs.state; ready = h.runs.ready };
    roomy = λ name number code is. let n = h.runs.state.running.rooms.slots name number code is in omega (arith, n, most);
  }

  module _ (again : RunsAgain shelf fetched before between old mid) where
    -- behind a stop the calls still run the program, at the instruction
    pub call_stopped : mid ≡ old → Runs → RunsAt (text_at shelf) (items_at shelf) names between.objects mid row fetched
    call_stopped stays h = record {
      program = h.runs.program;
      means = h.runs.means;
      tells = h.runs.tells;
      named = h.runs.named;
      state = again h.runs.program row h.runs.means h.shelf_is h.runs.state h.runs.ready;
      ready = subst (λ (s : Calls). IsReady h.runs.program s row fetched) (sym stays) h.runs.ready;
      number = h.runs.number;
      verified = h.runs.verified;
    }

    -- what the stop tells is known
    pub call_known : (stop : Stop) → IsKnownCallStop (text_at shelf) (items_at shelf) between.objects (Err (calls.Stops stop)) → IsKnownAnswer (text_at shelf) (items_at shelf) between.objects (Err stop)
    call_known stop h = stop_known (text_at shelf) (items_at shelf) between stop h

    module _ (registered_law : RegisteredLaw) (later : Later before.objects between.objects) where
      module _ (p : Program) (same : p.shelf ≡ shelf) (means : Means p) (tells : Tells (text_at shelf) (items_at shelf) p) (named : AreNames p names) (state : IsState p before.objects old) (registered : AreRegistered p before earlier)
          (r : IsReady p old row fetched) where
        kept : between ≡ before → AreRegistered p between earlier
        kept e = subst (λ (h : Heap Value ℕ). AreRegistered p h earlier) (sym e) registered

        registered_behind : HeapComes p r.place fetched.end size before between old mid (Ok tt) → AreRegistered p between earlier
        registered_behind (inl gave) = kept gave.heap
        registered_behind (inr f) =
            let q = f (with_modules p.tables Nothing earlier) in
            registered_law p old mid q.paid 0 before between earlier Nothing q.after state registered
            (q.steps ∙ ap (λ (v : PlainWorld). running_of p.tables 0 mid.calls (world_of p.tables v between)) (registers p.tables q.after earlier q.modules))

        -- it is done
        pub called : CallsIn told count shelf fetched callee given Before Mid old mid (Ok tt) → HeapComesIn shelf fetched size before between old mid (Ok tt) → CallsOn told count p callee given Before Mid earlier earlier old mid (Ok None)
        called calls_in heap_in =
            let behind : IsState p between.objects mid = again p row means same state r in
            record {
              reaches = λ w told_is tell.
                  let g = calls_in p row means same state r (with_modules p.tables w earlier) told_is tell in
                  inl (record {
                    after = g.after;
                    output = g.output;
                    ports = g.ports;
                    comes = record {
                      pays = g.comes.pays;
                      steps = λ paid enough. g.comes.steps paid enough ∙ ap (λ (v : PlainWorld). running_of p.tables 0 mid.calls (world_of p.tables v between)) (registers p.tables g.after earlier g.modules);
                    };
                  });
              run = record { state = behind; ended = tt; registered = registered_behind (heap_in p row means same state r); all_told = behind.all_told };
              objects = later;
              stays = tt;
            }

        pub called_went : HeapComesIn shelf fetched size before between old mid (Ok tt) → Went p r.place fetched.end size before between earlier earlier old mid None
        called_went heap_in = elim (heap_in p row means same state r) [
          | inl gave ↦ gives gave.value gave.calls
          | inr f ↦
              let q = f (with_modules p.tables Nothing earlier) in
              steps q.paid Nothing q.after (q.steps ∙ ap (λ (v : PlainWorld). running_of p.tables 0 mid.calls (world_of p.tables v between)) (registers p.tables q.after earlier q.modules))
        ]

        -- the sink failed
        pub call_refused : (failed : SinkFault) → mid ≡ old → ports1 ≡ ports0 → CallsIn told count shelf fetched callee given Before Mid old mid (Err (calls.Out failed)) → HeapComesIn shelf fetched size before between old mid (Err (calls.Out failed))
            → CallsOn told count p callee given Before Mid earlier earlier old mid (Err failed)
        call_refused failed stays ports calls_in heap_in =
            let behind : IsState p between.objects mid = again p row means same state r in
            let e : between ≡ before = heap_in p row means same state r in
            record {
              reaches = λ w told_is tell.
                  let f = calls_in p row means same state r (with_modules p.tables w earlier) told_is tell in
                  record { text = f.text; puts = f.puts; onwards = f.onwards; comes = record { pays = f.comes.pays; steps = f.comes.steps } };
              run = record { state = behind; ended = tt; registered = kept e; all_told = behind.all_told };
              objects = later;
              stays = record { calls = stays; heap = e; ports = ports; modules = refl };
            }

        -- it stops, and the stop is raised
        module _ (stop : Stop) (stays : mid ≡ old) (behind : Heap Value ℕ) (later_modules : Registry) (new : Calls) (ended : Option End) where
          abbrev Behind : Seen S
          Behind = record { heap = behind; out = out1; ports = ports1 }

          abbrev Raised : Calls → Type 0
          Raised s =
              (p : Program) (f : Fetched) → Means p → Tells (text_at shelf) (items_at shelf) p → AreNames p names → IsState p between.objects s → (r : IsReady p s row f)
              → StopsOn p r.place between behind earlier later_modules s new stop ended

          state_there : IsState p between.objects old
          state_there = subst (IsState p between.objects) stays (again p row means same state r)

          stopping : (after : PlainWorld) → after.modules ≡ plain_modules p.tables.texts p.tables.tuples earlier
              → stopping_of p.tables r.place after between old.calls stop ≡ stopping_of p.tables r.place (with_modules p.tables after earlier) between old.calls stop
          stopping after e = ap (λ (v : PlainWorld). stopping_of p.tables r.place v between old.calls stop) (registers p.tables after earlier e)

          run_by : StopsOn p r.place between behind earlier later_modules old new stop ended → HeapComes p r.place fetched.end size before between old mid (Err (calls.Stops stop)) → IsRun p behind later_modules new ended
          run_by s (inl e) = s.again state_there (kept e)
          run_by s (inr f) = let q = f (with_modules p.tables Nothing earlier) in s.run before q.paid Nothing q.after state registered (q.steps ∙ stopping q.after q.modules)

          reach : StopsOn p r.place between behind earlier later_modules old new stop ended → (w : PlainWorld) → CallComes told count p r.place callee given Before Mid old mid (with_modules p.tables w earlier) (Err (calls.Stops stop))
              → CallReaches told count p callee given Before Behind earlier later_modules old new w (Ok ended)
          reach s w (inl g) =
              inl (record {
                after = g.after;
                output = g.output;
                ports = g.ports;
                comes = record { pays = g.comes.pays; steps = λ paid enough. g.comes.steps paid enough ∙ (stopping g.after g.modules ∙ s.steps g.after) };
              })
          reach s w (inr strays) = inr strays

          pub call_raised : Raised mid → CallsIn told count shelf fetched callee given Before Mid old mid (Err (calls.Stops stop)) → HeapComesIn shelf fetched size before between old mid (Err (calls.Stops stop))
              → CallsOn told count p callee given Before Behind earlier later_modules old new (Ok ended)
          call_raised raised calls_in heap_in =
              let on : Raised old = subst Raised stays raised in
              let s = on p fetched means tells named state_there r in
              record {
                reaches = λ w told_is tell. reach s w (calls_in p row means same state r (with_modules p.tables w earlier) told_is tell);
                run = run_by s (heap_in p row means same state r);
                objects = record { keeps = λ kind n h. s.objects.keeps kind n (later.keeps kind n h) };
                stays = tt;
              }

          went_by : StopsOn p r.place between behind earlier later_modules old new stop ended → HeapComes p r.place fetched.end size before between old mid (Err (calls.Stops stop)) → Went p r.place fetched.end size before behind earlier later_modules old new ended
          went_by s (inl e) = raises stop between Nothing Nothing later s.objects (s.steps Nothing)
          went_by s (inr f) = let q = f (with_modules p.tables Nothing earlier) in steps q.paid Nothing q.after (q.steps ∙ (stopping q.after q.modules ∙ s.steps q.after))

          pub call_went : Raised mid → HeapComesIn shelf fetched size before between old mid (Err (calls.Stops stop)) → Went p r.place fetched.end size before behind earlier later_modules old new ended
          call_went raised heap_in =
              let on : Raised old = subst Raised stays raised in
              went_by (on p fetched means tells named state_there r) (heap_in p row means same state r)
