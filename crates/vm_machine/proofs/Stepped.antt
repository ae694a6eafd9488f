-- Steps of an instruction that is no call.
use Rattle.std.proofs.Common.{◌≡◌, ℕ, suc, ◌+◌, ◌-◌, ◌<◌, ◌≤◌, [], Option, None, sym, ap, ◌∙◌, arith}
use Rattle.std.specs.Prelude.{min}
use Rattle.mpy_base.specs.World.{Heap, Later}
use Rattle.mpy_base.specs.Val.{PlainWorld}
use Rattle.state_steps.specs.prim_faults.arena_heap.declared.value.Value.{Value}
use Rattle.state_steps.specs.vm_frames.py_effects.Ends.{new_world}
use Rattle.bc_library.specs.Constants.{items_at, text_at}
use Rattle.bc_library.specs.Shelf.{Shelf}
use Rattle.state_steps.specs.vm_frames.bc_machine.Machine.{steps}
use Rattle.state_steps.specs.vm_frames.bc_machine.State.{State}
use Rattle.state_steps.specs.vm_frames.bc_machine.Step.{step}
use Rattle.vm_kept.specs.state_calls.bc_rows.declared.row.Row.{Row}
use Rattle.state_steps.specs.prim_modules.Registry.{Registry}
use Rattle.state_steps.specs.vm_frames.Calls.{Calls}
use Rattle.vm_kept.specs.state_calls.frame_moves.Shown.{running_of}
use Rattle.vm_kept.specs.state_calls.frame_moves.Outcomes.{world_of}
use Rattle.vm_kept.specs.state_calls.frame_exits.declared.ends.End.{End}
use Rattle.vm_kept.specs.state_calls.frame_exits.Ends.{with_modules, state_of}
use Rattle.vm_kept.specs.state_calls.vm_fetching.declared.instruction.Fetched.{Fetched}
use Rattle.vm_starting.specs.vm_states.Means.{Program, Means}
use Rattle.vm_kept.specs.Kept.{HoldsKept}
use Rattle.vm_kept.specs.state_exits.Running.{stepped_with}
use Rattle.vm_starting.specs.Programs.{IsProgramOf}
use Rattle.state_steps.specs.Values.{value_visits}
use Rattle.vm_starting.specs.declared.opening.Vm.{Vm}
use Rattle.vm_machine.specs.Acting.{HasFetched, Acted, Stepped}
use Rattle.vm_machine.specs.Machine.{machine_of, world_in}
use Rattle.vm_machine.proofs.Machines.{in_program, running, arrived, vm_paid, is_vm}
use Rattle.vm_machine.proofs.Pays.{instruction_pays}
use Rattle.vm_machine.proofs.Steps.{one_more, paid_for}

-- calls keep what they hold, behind a step of the machine
abbrev pub StepLaw : Type 0
StepLaw =
    (p : Program) (before behind : Heap Value ℕ) (earlier later : Registry) (paid again : ℕ) (w v : PlainWorld) (old new : Calls) → Means p → HoldsKept p before.objects old → Later before.objects behind.objects
    → stepped_with p paid old w before earlier ≡ running_of p.tables again new.calls (world_of p.tables (with_modules p.tables v later) behind) → HoldsKept p behind.objects new

abbrev Nothing : PlainWorld
Nothing = new_world 0 0 []

module _ (shelf : Shelf) (row : Row) (f : Fetched) (old : Vm) (h : HasFetched shelf old row f) where
  abbrev Visits : ℕ
  Visits = value_visits (text_at shelf) (items_at shelf) old.arena old.frames.calls f.instruction

  -- a step that is paid for a visit
  pays : (p : Program) → IsProgramOf shelf p → (w : PlainWorld) (paid : ℕ) → paid < Visits
      → step p.library (running_of p.tables paid old.frames.calls (world_in p old w)) ≡ running_of p.tables (suc paid) old.frames.calls (world_in p old w)
  pays p of w paid less =
      instruction_pays p row old.frames f (h.ready p of) old.arena paid (with_modules p.tables w old.modules)
      (in_program shelf p of (λ t u. paid < value_visits t u old.arena old.frames.calls f.instruction) less)

  -- steps that are paid
  paid_to : (n : ℕ) → ((k : ℕ) → k < n → old.paid + k < Visits) → (p : Program) → IsProgramOf shelf p → (w : PlainWorld)
      → steps p.library n (machine_of p old w) ≡ running_of p.tables (old.paid + n) old.frames.calls (world_in p old w)
  paid_to n less p of w =
      ap (λ (s : State). steps p.library n s) (running p old w h.goes_on)
      ∙ paid_for p.library (λ k. running_of p.tables k old.frames.calls (world_in p old w)) Visits (pays p of w) n old.paid less

  -- no more than these are made
  pub paid_only : (most due : ℕ) → due ≡ min Visits (old.paid + most) → due ≡ old.paid + most → Stepped shelf most old (record old { paid = old.paid + most })
  paid_only most due least all =
      let le : old.paid + most ≤ Visits = omega (arith, least, all) in
      record {
        vm = vm_paid shelf old (old.paid + most) h.is_vm;
        leads = λ p of w. paid_to most (λ k lt. omega (arith, lt, le)) p of w ∙ sym (running p (record old { paid = old.paid + most }) w h.goes_on);
        paid = omega arith;
      }

  -- the instruction is carried out behind them
  module _ (mid : Vm) (a : Acted shelf Visits old mid) (law : StepLaw) where
    kept : mid.end ≡ None → (p : Program) → IsProgramOf shelf p → HoldsKept p mid.arena.objects mid.frames
    kept goes_on p of =
        let c = a.comes p of in
        law p old.arena mid.arena old.modules mid.modules Visits 0 Nothing Nothing old.frames mid.frames of.means (h.is_vm.runs h.goes_on p of).kept c.objects
        (c.steps Visits Nothing (omega arith) ∙ ap (λ (o : Option End). state_of p.tables o mid.frames.calls (world_in p mid Nothing)) goes_on)

    pub carried_out : (most due before : ℕ) → due ≡ min Visits (old.paid + most) → before ≡ due - old.paid → before < most → Stepped shelf (before + 1) old (record mid { paid = 0 })
    carried_out most due before least is lt =
        let enough : Visits ≤ old.paid + before = omega (arith, least, is, lt) in
        let less : (k : ℕ) → k < before → old.paid + k < Visits = λ k l. omega (arith, l, least, is, lt) in
        record {
          vm = vm_paid shelf mid 0 (is_vm shelf old mid h.is_vm h.program h.is_program a.memory (λ p of. (a.comes p of).run) kept);
          leads = λ p of w.
              one_more p.library before (machine_of p old w)
              ∙ (ap (λ (s : State). step p.library s) (paid_to before less p of w)
              ∙ ((a.comes p of).steps (old.paid + before) w enough ∙ arrived p mid.end mid.frames.calls (world_in p mid w)));
          paid = omega arith;
        }
