-- Where an instruction comes to that acts, and its stop.
use Rattle.std.proofs.Common.{◌≡◌, ℕ, List, [], Option, None, Ok, Err, sym, subst, ◌∙◌, arith}
use Rattle.state_calls.specs.mpy_base.World.{Heap}
use Rattle.state_calls.specs.mpy_base.Val.{PlainWorld}
use Rattle.state_calls.specs.arena_heap.declared.value.Value.{Value}
use Rattle.state_calls.specs.arena_heap.declared.value.StrNo.{StrNo}
use Rattle.state_calls.specs.arena_heap.declared.value.ConstNo.{ConstNo}
use Rattle.state_values.specs.py_effects.Ends.{new_world}
use Rattle.state_calls.specs.bc_rows.declared.row.Row.{Row}
use Rattle.state_calls.specs.prim_faults.declared.stop.Stop.{Stop}
use Rattle.state_calls.specs.prim_faults.Outcomes.{IsKnownAnswer}
use Rattle.state_calls.specs.prim_modules.Registry.{Registry}
use Rattle.state_values.specs.vm_frames.Calls.{Calls}
use Rattle.state_calls.specs.frame_moves.Shown.{running_of}
use Rattle.state_calls.specs.frame_moves.Outcomes.{world_of}
use Rattle.state_calls.specs.frame_exits.declared.names.ModuleName.{ModuleName}
use Rattle.state_calls.specs.frame_exits.declared.ends.End.{End}
use Rattle.state_calls.specs.frame_exits.Ends.{with_modules}
use Rattle.state_calls.specs.vm_fetching.declared.instruction.Fetched.{Fetched}
use Rattle.state_values.specs.vm_states.Means.{Program, Means}
use Rattle.state_values.specs.vm_states.Ready.{IsReady}
use Rattle.state_values.specs.vm_states.State.{IsState}
use Rattle.state_values.specs.vm_states.Acting.{Tells, Acts, RunsOver}
use Rattle.state_exits.specs.Modules.{AreNames, AreRegistered}
use Rattle.state_exits.specs.Running.{stepped_with, RunsAt, StopsOn}
use Rattle.state_values.specs.Keeping.{ActsKeeping}
use Rattle.state_steps.specs.Comes.{ComesOn}

abbrev pub RegisteredLaw : Type 0
RegisteredLaw = (p : Program) (s new : Calls) (paid again : ℕ) (before behind : Heap Value ℕ) (modules : Registry) (w v : PlainWorld) → IsState p before.objects s → AreRegistered p before modules
    → stepped_with p paid s w before modules ≡ running_of p.tables again new.calls (world_of p.tables (with_modules p.tables v modules) behind) → AreRegistered p behind modules

abbrev Nothing : PlainWorld
Nothing = new_world 0 0 []

module _ (p : Program) (row : Row) (fetched : Fetched) (visits : ℕ) (before between : Heap Value ℕ) (earlier : Registry) (old : Calls)
    (state : IsState p before.objects old) (registered : AreRegistered p before earlier) (r : IsReady p old row fetched) where
  -- it is done
  pub lands : RegisteredLaw → (new : Calls) → Acts p r.place visits before between old new (Ok tt) → ComesOn p visits before between earlier earlier old new None
  lands law new a = record {
    pays = λ paid w less. a.pays paid (with_modules p.tables w earlier) less;
    steps = λ paid w enough. a.steps paid (with_modules p.tables w earlier) enough;
    run = record {
      state = a.state;
      ended = tt;
      registered = law p old new visits 0 before between earlier Nothing Nothing state registered (a.steps visits (with_modules p.tables Nothing earlier) (omega arith));
      all_told = a.state.all_told;
    };
    objects = a.later;
  }

  -- it stops, and the calls stay
  pub stops : (stop : Stop) (behind : Heap Value ℕ) (later : Registry) (new : Calls) (end : Option End)
      → Acts p r.place visits before between old old (Err stop) → StopsOn p r.place between behind earlier later old new stop end → ComesOn p visits before behind earlier later old new end
  stops stop behind later new end a s = record {
    pays = λ paid w less. a.pays paid (with_modules p.tables w earlier) less;
    steps = λ paid w enough. a.steps paid (with_modules p.tables w earlier) enough ∙ s.steps w;
    run = s.run before visits Nothing Nothing state registered (a.steps visits (with_modules p.tables Nothing earlier) (omega arith));
    objects = record { keeps = λ kind n h. s.objects.keeps kind n (a.later.keeps kind n h) };
  }

module _ (texts : StrNo → Option (List ℕ)) (tuples : ConstNo → Option (List Value)) (names : List ModuleName) (row : Row) (fetched : Fetched) (visits : ℕ) (before between : Heap Value ℕ) (old : Calls) where
  -- an instruction runs over the arena
  pub over : RunsAt texts tuples names before.objects old row fetched → RunsOver texts tuples before old fetched
  over h = record { program = h.program; row = row; means = h.means; tells = h.tells; state = h.state; ready = h.ready }

  module _ (stop : Stop) where
    -- behind a stop the calls still run the program, at the instruction
    here : ActsKeeping texts tuples fetched visits before between old old (Err stop) → RunsAt texts tuples names before.objects old row fetched → RunsAt texts tuples names between.objects old row fetched
    here k h = record {
      program = h.program;
      means = h.means;
      tells = h.tells;
      named = h.named;
      state = (k.acts h.program row h.means h.tells h.state h.ready).state;
      ready = h.ready;
      number = h.number;
      verified = h.verified;
    }

    pub stopped : (mid : Calls) → ActsKeeping texts tuples fetched visits before between old mid (Err stop) → RunsAt texts tuples names before.objects old row fetched → RunsAt texts tuples names between.objects mid row fetched
    stopped mid k h =
        subst (λ (s : Calls). ActsKeeping texts tuples fetched visits before between old s (Err stop) → RunsAt texts tuples names between.objects s row fetched) (sym k.stays) (λ a. here a h) k

    -- what the stop tells is known
    pub known : (mid : Calls) → ActsKeeping texts tuples fetched visits before between old mid (Err stop) → RunsAt texts tuples names before.objects old row fetched → IsKnownAnswer texts tuples between.objects (Err stop)
    known mid k h =
        subst (λ (t : StrNo → Option (List ℕ)). IsKnownAnswer t tuples between.objects (Err stop)) h.tells.texts_are
        (subst (λ (u : ConstNo → Option (List Value)). IsKnownAnswer h.program.tables.texts u between.objects (Err stop)) h.tells.tuples_are
        (k.acts h.program row h.means h.tells h.state h.ready).stop)

    -- where it comes to
    abbrev Raised : (earlier later : Registry) (behind : Heap Value ℕ) (new : Calls) → Option End → Calls → Type 0
    Raised earlier later behind new end s =
        (p : Program) (f : Fetched) → Means p → Tells texts tuples p → AreNames p names → IsState p between.objects s → (r : IsReady p s row f)
        → StopsOn p r.place between behind earlier later s new stop end

    pub comes : (mid : Calls) (behind : Heap Value ℕ) (earlier later : Registry) (new : Calls) (end : Option End)
        → ActsKeeping texts tuples fetched visits before between old mid (Err stop) → Raised earlier later behind new end mid
        → (p : Program) → Means p → Tells texts tuples p → AreNames p names → IsState p before.objects old → AreRegistered p before earlier → IsReady p old row fetched
        → ComesOn p visits before behind earlier later old new end
    comes mid behind earlier later new end k raised p means tells named state registered r =
        let at : ActsKeeping texts tuples fetched visits before between old old (Err stop) =
        subst (λ (s : Calls). ActsKeeping texts tuples fetched visits before between old s (Err stop)) k.stays k in
        let on : Raised earlier later behind new end old = subst (Raised earlier later behind new end) k.stays raised in
        let a = at.acts p row means tells state r in
        stops p row fetched visits before between earlier old state registered r stop behind later new end a (on p fetched means tells named a.state r)
