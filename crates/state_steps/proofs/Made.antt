-- Where an instruction comes to that makes a function, and its stop.
use Rattle.std.proofs.Common.{◌≡◌, ℕ, List, Option, None, Ok, Err, sym, subst, ap, ◌∙◌}
use Rattle.state_calls.specs.mpy_base.World.{Heap}
use Rattle.state_calls.specs.arena_heap.declared.value.Value.{Value}
use Rattle.state_calls.specs.arena_heap.declared.value.StrNo.{StrNo}
use Rattle.state_calls.specs.arena_heap.declared.value.ConstNo.{ConstNo}
use Rattle.state_values.specs.bc_library.Constants.{items_at, text_at}
use Rattle.state_values.specs.bc_library.Shelf.{Shelf}
use Rattle.state_calls.specs.bc_rows.declared.row.Row.{Row}
use Rattle.state_calls.specs.prim_walks.Plain.{plain_name}
use Rattle.state_calls.specs.prim_faults.declared.stop.Stop.{Stop}
use Rattle.state_calls.specs.prim_faults.Outcomes.{IsKnownAnswer}
use Rattle.state_calls.specs.prim_modules.Registry.{Registry}
use Rattle.state_values.specs.vm_frames.Calls.{Calls}
use Rattle.state_calls.specs.frame_exits.declared.names.ModuleName.{ModuleName}
use Rattle.state_calls.specs.frame_exits.declared.ends.End.{End}
use Rattle.state_calls.specs.vm_fetching.declared.instruction.Fetched.{Fetched}
use Rattle.state_values.specs.vm_states.Means.{Program, Means}
use Rattle.state_values.specs.vm_states.Ready.{IsReady}
use Rattle.state_values.specs.vm_states.State.{IsState}
use Rattle.state_values.specs.vm_states.Acting.{Tells, Acts}
use Rattle.state_exits.specs.Modules.{AreNames, AreRegistered}
use Rattle.state_exits.specs.Running.{RunsAt, RunsWith, StopsOn}
use Rattle.state_calls.specs.Names as numbers
use Rattle.state_calls.specs.Runs.{RunsIn, ActsIn}
use Rattle.state_steps.specs.Comes.{ComesOn}
use Rattle.state_steps.proofs.Landing.{RegisteredLaw, lands, stops}

module _ (shelf : Shelf) (names : List ModuleName) (row : Row) (fetched : Fetched) (before between : Heap Value ℕ) (earlier : Registry) (old mid : Calls) where
  abbrev Runs : Type 0
  Runs = RunsWith (text_at shelf) (items_at shelf) names shelf before earlier old row fetched

  pub within : Runs → RunsIn shelf before old fetched
  within h = record { program = h.runs.program; row = row; means = h.runs.means; shelf_is = h.shelf_is; state = h.runs.state; ready = h.runs.ready }

  -- the names have the numbers of their texts
  pub numbered : Runs → numbers.AreNames shelf names
  numbered h =
      let p = h.runs.program in
      let constants = h.runs.means.constants in
      let same : (n : ℕ) → plain_name p.tables.texts p.tables.tuples n ≡ plain_name (text_at p.shelf) (items_at p.shelf) n =
      λ n. ap (λ (t : StrNo → Option (List ℕ)). plain_name t p.tables.tuples n) constants.texts ∙ ap (λ (u : ConstNo → Option (List Value)). plain_name (text_at p.shelf) u n) constants.tuples in
      subst (λ (z : Shelf). numbers.AreNames z names) h.shelf_is
      (record {
        many = h.runs.named.as_many;
        named = λ i number n is held. sym (same number.name) ∙ (sym (h.runs.named.names_are i number is) ∙ (h.runs.means.modules i n held).name_is);
      })

  pub made : RegisteredLaw → ActsIn shelf fetched 0 before between old mid (Ok tt)
      → (p : Program) → p.shelf ≡ shelf → Means p → Tells (text_at shelf) (items_at shelf) p → AreNames p names → IsState p before.objects old → AreRegistered p before earlier → IsReady p old row fetched
      → ComesOn p 0 before between earlier earlier old mid None
  made law acts p same means tells named state registered r = lands p row fetched 0 before between earlier old state registered r law mid (acts p row means same state r)

  module _ (stop : Stop) (acts : ActsIn shelf fetched 0 before between old mid (Err stop)) (stays : mid ≡ old) where
    here : (h : Runs) → Acts h.runs.program h.runs.ready.place 0 before between old mid (Err stop)
    here h = acts h.runs.program row h.runs.means h.shelf_is h.runs.state h.runs.ready

    -- behind a stop the calls still run the program, at the instruction
    pub make_stopped : Runs → RunsAt (text_at shelf) (items_at shelf) names between.objects mid row fetched
    make_stopped h = record {
      program = h.runs.program;
      means = h.runs.means;
      tells = h.runs.tells;
      named = h.runs.named;
      state = (here h).state;
      ready = subst (λ (s : Calls). IsReady h.runs.program s row fetched) (sym stays) h.runs.ready;
      number = h.runs.number;
      verified = h.runs.verified;
    }

    -- what the stop tells is known
    pub make_known : Runs → IsKnownAnswer (text_at shelf) (items_at shelf) between.objects (Err stop)
    make_known h =
        subst (λ (t : StrNo → Option (List ℕ)). IsKnownAnswer t (items_at shelf) between.objects (Err stop)) h.runs.tells.texts_are
        (subst (λ (u : ConstNo → Option (List Value)). IsKnownAnswer h.runs.program.tables.texts u between.objects (Err stop)) h.runs.tells.tuples_are (here h).stop)

    abbrev Raised : (behind : Heap Value ℕ) (later : Registry) (new : Calls) → Option End → Calls → Type 0
    Raised behind later new ended s =
        (p : Program) (f : Fetched) → Means p → Tells (text_at shelf) (items_at shelf) p → AreNames p names → IsState p between.objects s → (r : IsReady p s row f)
        → StopsOn p r.place between behind earlier later s new stop ended

    -- where it comes to
    pub make_comes : (behind : Heap Value ℕ) (later : Registry) (new : Calls) (ended : Option End) → Raised behind later new ended mid
        → (p : Program) → p.shelf ≡ shelf → Means p → Tells (text_at shelf) (items_at shelf) p → AreNames p names → IsState p before.objects old → AreRegistered p before earlier → IsReady p old row fetched
        → ComesOn p 0 before behind earlier later old new ended
    make_comes behind later new ended raised p same means tells named state registered r =
        let a : Acts p r.place 0 before between old old (Err stop) = subst (λ (s : Calls). Acts p r.place 0 before between old s (Err stop)) stays (acts p row means same state r) in
        let on : Raised behind later new ended old = subst (Raised behind later new ended) stays raised in
        stops p row fetched 0 before between earlier old state registered r stop behind later new ended a (on p fetched means tells named a.state r)
