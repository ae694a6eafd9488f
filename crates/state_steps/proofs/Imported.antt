-- Where an import comes to, and its stop.
use Rattle.std.proofs.Common.{◌≡◌, ℕ, List, [], Option, None, Result, Ok, Err, sym, subst, ◌∙◌, arith}
use Rattle.state_calls.specs.mpy_base.World.{Heap}
use Rattle.state_calls.specs.mpy_base.Val.{PlainWorld}
use Rattle.state_calls.specs.arena_heap.declared.value.Value.{Value}
use Rattle.state_calls.specs.arena_heap.declared.value.StrNo.{StrNo}
use Rattle.state_calls.specs.arena_heap.declared.value.ConstNo.{ConstNo}
use Rattle.state_values.specs.py_effects.Ends.{new_world}
use Rattle.state_values.specs.bc_library.Shelf.{Shelf}
use Rattle.state_calls.specs.bc_rows.declared.row.Row.{Row}
use Rattle.state_calls.specs.prim_faults.declared.stop.Stop.{Stop}
use Rattle.state_calls.specs.prim_faults.Outcomes.{IsKnownAnswer}
use Rattle.state_calls.specs.prim_modules.Registry.{Registry}
use Rattle.state_values.specs.vm_frames.Calls.{Calls}
use Rattle.state_calls.specs.frame_moves.Outcomes.{stopping_of}
use Rattle.state_calls.specs.frame_exits.declared.names.ModuleName.{ModuleName}
use Rattle.state_calls.specs.frame_exits.declared.ends.End.{End}
use Rattle.state_calls.specs.frame_exits.Ends.{with_modules}
use Rattle.state_calls.specs.vm_fetching.declared.instruction.Fetched.{Fetched}
use Rattle.state_values.specs.vm_states.Means.{Program, Means}
use Rattle.state_values.specs.vm_states.Ready.{IsReady}
use Rattle.state_values.specs.vm_states.State.{IsState}
use Rattle.state_values.specs.vm_states.Acting.{Tells}
use Rattle.state_exits.specs.Importing.{fetched_import, Imports, ImportsBehind}
use Rattle.state_exits.specs.Modules.{AreNames, AreRegistered}
use Rattle.state_exits.specs.Running.{stepped_with, RunsAt, RunsWith, StopsOn}
use Rattle.state_steps.specs.Comes.{ComesOn}

abbrev Nothing : PlainWorld
Nothing = new_world 0 0 []

module _ (texts : StrNo → Option (List ℕ)) (tuples : ConstNo → Option (List Value)) (names : List ModuleName) (shelf : Shelf) (row : Row) (name end : ℕ) (before between : Heap Value ℕ) (earlier middle : Registry) (old mid : Calls) where
  abbrev F : Fetched
  F = fetched_import name end

  abbrev ImportsIn : Result (Unit {0}) Stop → Type 0
  ImportsIn result = (p : Program) (r : Row) → p.shelf ≡ shelf → ImportsBehind p texts tuples names r name end before between earlier middle old mid result

  abbrev Runs : Type 0
  Runs = RunsWith texts tuples names shelf before earlier old row F

  -- it is done
  pub imported : ImportsIn (Ok tt) → (p : Program) → p.shelf ≡ shelf → Means p → Tells texts tuples p → AreNames p names → IsState p before.objects old → AreRegistered p before earlier → IsReady p old row F
      → ComesOn p 0 before between earlier middle old mid None
  imported imports p same means tells named state registered r =
      let i = imports p row same means tells named state registered r in
      record {
        pays = λ paid w less. absurd (omega (arith, less));
        steps = λ paid w enough. i.steps paid w;
        run = record { state = i.state; ended = tt; registered = i.registered; all_told = i.state.all_told };
        objects = i.objects;
      }

  module _ (stop : Stop) (imports : ImportsIn (Err stop)) where
    here : (h : Runs) → Imports h.runs.program h.runs.ready.place before between earlier middle old mid (Err stop)
    here h = imports h.runs.program row h.shelf_is h.runs.means h.runs.tells h.runs.named h.runs.state h.registered h.runs.ready

    -- behind a stop the calls still run the program, at the import
    pub import_stopped : Runs → RunsAt texts tuples names between.objects mid row F
    import_stopped h =
        let i = here h in
        record {
          program = h.runs.program;
          means = h.runs.means;
          tells = h.runs.tells;
          named = h.runs.named;
          state = i.state;
          ready = subst (λ (s : Calls). IsReady h.runs.program s row F) (sym i.stays.calls) h.runs.ready;
          number = h.runs.number;
          verified = h.runs.verified;
        }

    -- what the stop tells is known
    pub import_known : Runs → IsKnownAnswer texts tuples between.objects (Err stop)
    import_known h =
        subst (λ (t : StrNo → Option (List ℕ)). IsKnownAnswer t tuples between.objects (Err stop)) h.runs.tells.texts_are
        (subst (λ (u : ConstNo → Option (List Value)). IsKnownAnswer h.runs.program.tables.texts u between.objects (Err stop)) h.runs.tells.tuples_are (here h).stop)

    abbrev Raised : (behind : Heap Value ℕ) (later : Registry) (new : Calls) → Option End → Calls → Type 0
    Raised behind later new ended s =
        (p : Program) (f : Fetched) → Means p → Tells texts tuples p → AreNames p names → IsState p between.objects s → (r : IsReady p s row f)
        → StopsOn p r.place between behind middle later s new stop ended

    -- where it comes to
    pub import_comes : (behind : Heap Value ℕ) (later : Registry) (new : Calls) (ended : Option End) → Raised behind later new ended mid
        → (p : Program) → p.shelf ≡ shelf → Means p → Tells texts tuples p → AreNames p names → IsState p before.objects old → AreRegistered p before earlier → IsReady p old row F
        → ComesOn p 0 before behind earlier later old new ended
    import_comes behind later new ended raised p same means tells named state registered r =
        let i = imports p row same means tells named state registered r in
        let on : Raised behind later new ended old = subst (Raised behind later new ended) i.stays.calls raised in
        let again : IsState p between.objects old = subst (IsState p between.objects) i.stays.calls i.state in
        let s = on p F means tells named again r in
        record {
          pays = λ paid w less. absurd (omega (arith, less));
          steps = λ paid w enough. i.steps paid w ∙ s.steps w;
          run = s.run before 0 Nothing Nothing state (subst (AreRegistered p before) (sym i.stays.registered) registered)
              (subst (λ (z : Registry). stepped_with p 0 old Nothing before z ≡ stopping_of p.tables r.place (with_modules p.tables Nothing middle) between old.calls stop) (sym i.stays.registered) (i.steps 0 Nothing));
          objects = record { keeps = λ kind n h. s.objects.keeps kind n (i.objects.keeps kind n h) };
        }
