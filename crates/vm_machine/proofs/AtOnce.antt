-- Instructions that are carried out at once.
use Rattle.std.proofs.Common.{◌≡◌, ℕ, ◌+◌, ◌-◌, ◌≤◌, List, [], ◌∷◌, Option, None, Ok, refl, sym, ap, ap₂, subst, ◌∙◌, arith}
use Rattle.mpy_base.specs.World.{Heap}
use Rattle.mpy_base.specs.Val.{PlainWorld}
use Rattle.state_steps.specs.prim_faults.arena_heap.declared.value.Value.{Value}
use Rattle.bc_library.specs.Constants.{items_at, text_at}
use Rattle.bc_library.specs.Shelf.{Shelf}
use Rattle.state_steps.specs.vm_frames.bc_machine.Machine.{steps}
use Rattle.state_steps.specs.vm_frames.bc_machine.State.{State}
use Rattle.state_steps.specs.vm_frames.bc_machine.Step.{step}
use Rattle.vm_kept.specs.state_calls.bc_rows.declared.row.Row.{Row}
use Rattle.state_steps.specs.vm_frames.py_effects.Ends.{new_world}
use Rattle.state_steps.specs.prim_modules.Registry.{Registry}
use Rattle.state_steps.specs.vm_frames.Calls.{Call, Calls, OfRunning}
use Rattle.vm_kept.specs.state_calls.frame_moves.Shown.{running_of}
use Rattle.vm_kept.specs.state_calls.frame_moves.Outcomes.{world_of}
use Rattle.vm_kept.specs.state_calls.frame_exits.declared.ends.End.{End}
use Rattle.vm_kept.specs.state_calls.frame_exits.Ends.{with_modules, state_of}
use Rattle.vm_kept.specs.state_calls.vm_fetching.declared.instruction.Fetched.{Fetched}
use Rattle.vm_starting.specs.vm_states.Means.{Program}
use Rattle.vm_starting.specs.vm_states.State.{IsState}
use Rattle.vm_kept.specs.Kept.{HoldsKept}
use Rattle.vm_kept.specs.state_calls.Runs.{IsFetchedAt}
use Rattle.vm_kept.specs.state_exits.Modules.{AreRegistered}
use Rattle.vm_kept.specs.state_exits.Running.{IsRun, stepped_with}
use Rattle.vm_at_once.specs.state_values.Keeping.{ActsKeeping}
use Rattle.vm_starting.specs.Programs.{IsProgramOf}
use Rattle.state_steps.specs.Comes.{ComesOn}
use Rattle.vm_starting.specs.Kept.{IsFetchedOf}
use Rattle.vm_starting.specs.declared.opening.Vm.{Vm}
use Rattle.vm_machine.specs.Acting.{Acted, HasFetched, SameMemory, Stepped}
use Rattle.vm_machine.specs.Machine.{IsVm, machine_of, paid_state, world_in}
use Rattle.vm_machine.proofs.Machines.{tells, running, arrived, vm_paid, is_vm}
use Rattle.vm_machine.proofs.Stepped.{StepLaw}
use Rattle.vm_machine.proofs.Steps.{in_parts, one_more, paid_for}

-- modules stay registered behind a step of the machine
abbrev pub RegisteredLaw : Type 0
RegisteredLaw = (p : Program) (s new : Calls) (paid again : ℕ) (before behind : Heap Value ℕ) (modules : Registry) (w v : PlainWorld) → IsState p before.objects s → AreRegistered p before modules
    → stepped_with p paid s w before modules ≡ running_of p.tables again new.calls (world_of p.tables (with_modules p.tables v modules) behind) → AreRegistered p behind modules

-- what was read for the running call is what is fetched at its place
pub read_of : (shelf : Shelf) (f : Fetched) (module_number code at : ℕ) (calls : List Call) → OfRunning (λ c. module_number ≡ c.module_number) calls → OfRunning (λ c. code ≡ c.code) calls → OfRunning (λ c. at ≡ c.at) calls
    → OfRunning (IsFetchedAt shelf f) calls → IsFetchedOf shelf module_number code at f
read_of shelf f module_number code at [] m k a r = absurd r
read_of shelf f module_number code at (c ∷ cs) m k a r =
    subst (λ (n : ℕ). IsFetchedOf shelf n code at f) (sym m)
    (subst (λ (n : ℕ). IsFetchedOf shelf c.module_number n at f) (sym k)
    (subst (λ (n : ℕ). IsFetchedOf shelf c.module_number c.code n f) (sym a) (record { row = r.row; is_row = r.is_row; is_fetched = r.is_fetched })))

abbrev Nothing : PlainWorld
Nothing = new_world 0 0 []

module _ (shelf : Shelf) (row : Row) (f : Fetched) (old : Vm) (h : HasFetched shelf old row f) (frames : Calls) (arena : Heap Value ℕ) where
  abbrev Moved : Vm
  Moved = record old { frames = frames; arena = arena }

  module _ (unpaid : old.paid ≡ 0) (visits : ℕ) (a : ActsKeeping (text_at shelf) (items_at shelf) f visits old.arena arena old.frames frames (Ok tt)) (step_law : StepLaw) (registered_law : RegisteredLaw) where
    comes : (p : Program) → IsProgramOf shelf p → ComesOn p visits old.arena arena old.modules old.modules old.frames frames None
    comes p of =
        let r = h.is_vm.runs h.goes_on p of in
        let acts = a.acts p row of.means (tells shelf p of) r.state (h.ready p of) in
        record {
          pays = λ paid w less. acts.pays paid (with_modules p.tables w old.modules) less;
          steps = λ paid w enough. acts.steps paid (with_modules p.tables w old.modules) enough;
          run = record {
            state = acts.state;
            ended = tt;
            registered = registered_law p old.frames frames visits 0 old.arena arena old.modules Nothing Nothing r.state r.registered (acts.steps visits (with_modules p.tables Nothing old.modules) (omega arith));
            all_told = acts.state.all_told;
          };
          objects = acts.later;
        }

    same_memory : SameMemory old Moved
    same_memory = record { frames = a.rooms; modules = refl; names = refl; operands = refl; bindings = refl; items = refl }

    run : (p : Program) → IsProgramOf shelf p → IsRun p arena old.modules frames old.end
    run p of = subst (λ (o : Option End). IsRun p arena old.modules frames o) (sym h.goes_on) (comes p of).run

    kept : old.end ≡ None → (p : Program) → IsProgramOf shelf p → HoldsKept p arena.objects frames
    kept goes_on p of =
        let c = comes p of in
        step_law p old.arena arena old.modules old.modules visits 0 Nothing Nothing old.frames frames of.means (h.is_vm.runs h.goes_on p of).kept c.objects (c.steps visits Nothing (omega arith))

    paid_up : (p : Program) → IsProgramOf shelf p → (w : PlainWorld) → steps p.library visits (machine_of p old w) ≡ running_of p.tables visits old.frames.calls (world_in p old w)
    paid_up p of w =
        let at : ℕ → State = λ k. running_of p.tables k old.frames.calls (world_in p old w) in
        let all : 0 + visits ≡ visits = omega arith in
        ap (λ (s : State). steps p.library visits s) (running p old w h.goes_on ∙ ap at unpaid)
        ∙ (paid_for p.library at visits (λ paid less. (comes p of).pays paid w less) visits 0 (λ k less. omega (arith, less)) ∙ ap at all)

    -- the machine pays its visits, and then takes its step
    pub at_once : Stepped shelf (visits + 1) old Moved
    at_once = record {
      vm = is_vm shelf old Moved h.is_vm h.program h.is_program same_memory run kept;
      leads = λ p of w.
          one_more p.library visits (machine_of p old w)
          ∙ (ap (λ (s : State). step p.library s) (paid_up p of w)
          ∙ ((comes p of).steps visits w (omega arith)
          ∙ (arrived p None frames.calls (world_in p Moved w)
          ∙ ap₂ (λ (o : Option End) (k : ℕ). paid_state p o k frames.calls (world_in p Moved w)) (sym h.goes_on) (sym unpaid))));
      paid = omega arith;
    }

  -- where it is left, the machine stays
  pub stays : frames ≡ old.frames → arena ≡ old.arena → Moved ≡ old
  stays same heap = ap₂ (λ (s : Calls) (a : Heap Value ℕ). record old { frames = s; arena = a }) same heap

module _ (shelf : Shelf) (row : Row) (f : Fetched) (old : Vm) (h : HasFetched shelf old row f) where
  -- no step is taken
  pub left : Stepped shelf 0 old old
  left = record { vm = h.is_vm; leads = λ p of w. refl; paid = omega arith }

  -- one step is taken, where no visits are made
  pub carried_unpaid : old.paid ≡ 0 → (mid : Vm) → Acted shelf 0 old mid → StepLaw → Stepped shelf 1 old (record mid { paid = 0 })
  carried_unpaid unpaid mid a law =
      let kept : mid.end ≡ None → (p : Program) → IsProgramOf shelf p → HoldsKept p mid.arena.objects mid.frames = λ goes_on p of.
      (let c = a.comes p of in
      law p old.arena mid.arena old.modules mid.modules 0 0 Nothing Nothing old.frames mid.frames of.means (h.is_vm.runs h.goes_on p of).kept c.objects
      (c.steps 0 Nothing (omega arith) ∙ ap (λ (o : Option End). state_of p.tables o mid.frames.calls (world_in p mid Nothing)) goes_on)) in
      record {
        vm = vm_paid shelf mid 0 (is_vm shelf old mid h.is_vm h.program h.is_program a.memory (λ p of. (a.comes p of).run) kept);
        leads = λ p of w.
            (let at : ℕ → State = λ k. running_of p.tables k old.frames.calls (world_in p old w) in
            ap (λ (s : State). steps p.library 1 s) (running p old w h.goes_on ∙ ap at unpaid)
            ∙ ((a.comes p of).steps 0 w (omega arith) ∙ arrived p mid.end mid.frames.calls (world_in p mid w)));
        paid = omega arith;
      }

-- as far as they have come
pub record AtOnceSoFar (shelf : Shelf) (old now : Vm) (taken most : ℕ) : Type 0 where
  pub stepped : Stepped shelf taken old now
  pub unpaid : now.paid ≡ 0
  pub few : taken ≤ most

pub none_yet : (shelf : Shelf) (vm : Vm) (most : ℕ) → IsVm shelf vm → vm.paid ≡ 0 → AtOnceSoFar shelf vm vm 0 most
none_yet shelf vm most is unpaid =
    record { stepped = record { vm = is; leads = λ p of w. refl; paid = omega arith }; unpaid = unpaid; few = omega arith }

pub in_turn : (shelf : Shelf) (old mid new : Vm) (a b : ℕ) → Stepped shelf a old mid → Stepped shelf b mid new → Stepped shelf (a + b) old new
in_turn shelf old mid new a b first second = record {
  vm = second.vm;
  leads = λ p of w. in_parts p.library a b (machine_of p old w) ∙ (ap (λ (s : State). steps p.library b s) (first.leads p of w) ∙ second.leads p of w);
  paid = (let n = first.paid in let m = second.paid in omega (arith, n, m));
}

pub more_at_once : (shelf : Shelf) (old now new : Vm) (taken more most : ℕ) → AtOnceSoFar shelf old now taken most → more ≤ most - taken → Stepped shelf more now new → new.paid ≡ 0 → AtOnceSoFar shelf old new (taken + more) most
more_at_once shelf old now new taken more most so_far few stepped unpaid = record {
  stepped = in_turn shelf old now new taken more so_far.stepped stepped;
  unpaid = unpaid;
  few = (let n = so_far.few in omega (arith, n, few));
}
