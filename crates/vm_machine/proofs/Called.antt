-- Steps of a call.
use Rattle.std.proofs.Common.{◌≡◌, ℕ, ◌+◌, ◌-◌, ◌<◌, ◌≤◌, List, Option, None, Ok, Err, inl, inr, sym, ap, subst, ◌∙◌, arith}
use Rattle.std.specs.Prelude.{min}
use Rattle.mpy_base.specs.Val.{PlainWorld}
use Rattle.mpy_io.specs.declared.fault.Failed.{Failed as SinkFault}
use Rattle.port_set.proofs.Counting.{counts_same}
use Rattle.bc_library.specs.Shelf.{Shelf}
use Rattle.state_steps.specs.vm_frames.bc_machine.Machine.{steps}
use Rattle.state_steps.specs.vm_frames.bc_machine.State.{State}
use Rattle.state_steps.specs.vm_frames.bc_machine.Step.{step}
use Rattle.vm_kept.specs.state_calls.bc_rows.declared.row.Row.{Row}
use Rattle.vm_kept.specs.state_calls.frame_moves.Shown.{running_of}
use Rattle.vm_kept.specs.state_calls.frame_exits.declared.ends.End.{End}
use Rattle.vm_kept.specs.state_calls.frame_exits.Ends.{with_modules}
use Rattle.vm_kept.specs.state_calls.vm_fetching.declared.operations.CallOp.{CallOp}
use Rattle.vm_kept.specs.state_calls.vm_fetching.declared.instruction.Fetched.{Fetched}
use Rattle.vm_kept.specs.state_calls.vm_fetching.Instructions as fetched
use Rattle.vm_starting.specs.frame_calls.declared.calling.Invocation.{Invocation}
use Rattle.vm_starting.specs.vm_states.Means.{Program}
use Rattle.vm_kept.specs.state_calls.Called as called
use Rattle.vm_kept.specs.state_calls.Called.{visits}
use Rattle.vm_kept.specs.state_calls.Taken.{IsTaken}
use Rattle.vm_kept.specs.Kept.{HoldsKept}
use Rattle.vm_kept.specs.state_exits.Running.{IsRun}
use Rattle.vm_starting.specs.Programs.{IsProgramOf}
use Rattle.state_steps.specs.Calling as calling
use Rattle.vm_starting.specs.declared.opening.Vm.{Vm}
use Rattle.vm_machine.specs.Acting.{HasFetched, Called, seen_by}
use Rattle.vm_machine.specs.Machine.{IsVm, machine_of, world_in}
use Rattle.vm_machine.specs.Running.{Outside, Agree, RunsFor, Strays, SinkFails, Runs, RunsToFailure}
use Rattle.vm_machine.proofs.Machines.{running, arrived, vm_paid, is_vm}
use Rattle.vm_machine.proofs.Pays.{call_pays}
use Rattle.vm_machine.proofs.Steps.{one_more, paid_for}

abbrev pub at_call : (op : CallOp) → (number end : ℕ) → Fetched
at_call op number end = record { instruction = fetched.call op number; end = end }

module _ {S : Type 0} (told : S → Option (List ℕ)) (count : S → ℕ) (shelf : Shelf) (row : Row) (op : CallOp) (number end : ℕ) (old : Vm) (h : HasFetched shelf old row (at_call op number end))
    (call : Invocation) (taken : IsTaken shelf op number old.arena old.frames old.operands call) where
  abbrev VisitsIn : Program → PlainWorld → ℕ
  VisitsIn p w = visits p call.callee old.operands old.arena (with_modules p.tables w old.modules)

  -- steps that are paid
  paid_to : (n : ℕ) (p : Program) → IsProgramOf shelf p → (w : PlainWorld) → ((k : ℕ) → k < n → old.paid + k < VisitsIn p w)
      → steps p.library n (machine_of p old w) ≡ running_of p.tables (old.paid + n) old.frames.calls (world_in p old w)
  paid_to n p of w less =
      ap (λ (s : State). steps p.library n s) (running p old w h.goes_on)
      ∙ paid_for p.library (λ k. running_of p.tables k old.frames.calls (world_in p old w)) (VisitsIn p w)
      (λ paid lt. call_pays shelf p of row old.frames op number end (h.ready p of) old.arena old.operands call taken paid (with_modules p.tables w old.modules) lt)
      n old.paid less

  -- and lead to the same calls
  there : (n : ℕ) (p : Program) → IsProgramOf shelf p → (w : PlainWorld) → ((k : ℕ) → k < n → old.paid + k < VisitsIn p w)
      → steps p.library n (machine_of p old w) ≡ machine_of p (record old { paid = old.paid + n }) w
  there n p of w less = paid_to n p of w less ∙ sym (running p (record old { paid = old.paid + n }) w h.goes_on)

  -- `due` are the visits, up to those that can be paid
  module _ (most due : ℕ) (least : (p : Program) (w : PlainWorld) → IsProgramOf shelf p → due ≡ min (VisitsIn p w) (old.paid + most)) where
    -- no more than these are made
    pub call_paid : (before : Outside S) → due ≡ old.paid + most → Runs told shelf old before before most (record old { paid = old.paid + most })
    call_paid before all p of w agree =
        let l = least p w of in
        let le : old.paid + most ≤ VisitsIn p w = omega (arith, l, all) in
        inl (record { after = w; agree = agree; steps = there most p of w (λ k lt. omega (arith, lt, le)) })

    -- the call is made behind them
    module _ (n : ℕ) (is : n ≡ due - old.paid) (lt : n < most) (mid : Vm) (before behind : Outside S) where
      enough : (p : Program) (w : PlainWorld) → IsProgramOf shelf p → VisitsIn p w ≤ old.paid + n
      enough p w of = let l = least p w of in omega (arith, l, is, lt)

      less : (p : Program) (w : PlainWorld) → IsProgramOf shelf p → (k : ℕ) → k < n → old.paid + k < VisitsIn p w
      less p w of k k_lt = let l = least p w of in omega (arith, k_lt, l, is, lt)

      -- up to the call
      runs_to : (p : Program) → IsProgramOf shelf p → (w : PlainWorld) → Agree told before w → RunsFor told p old w n (record old { paid = old.paid + n }) before
      runs_to p of w agree = record { after = w; agree = agree; steps = there n p of w (less p w of) }

      module _ (done : Called told count shelf call.callee old mid before behind (Ok tt)) where
        reached : (p : Program) (of : IsProgramOf shelf p) (w : PlainWorld) → Agree told before w
            → calling.Reaches told count p call.callee old.operands (seen_by old before) (seen_by mid behind) old.modules mid.modules old.frames mid.frames w mid.end
            → RunsFor told p old w (n + 1) (record mid { paid = 0 }) behind
        reached p of w agree r = record {
          after = r.after;
          agree = record { output = r.output; ports = r.ports };
          steps = one_more p.library n (machine_of p old w)
              ∙ (ap (λ (s : State). step p.library s) (paid_to n p of w (less p w of))
              ∙ (r.comes.steps (old.paid + n) (enough p w of) ∙ arrived p mid.end mid.frames.calls (world_in p mid r.after)));
        }

        strayed : (p : Program) (of : IsProgramOf shelf p) (w : PlainWorld) → Agree told before w
            → called.Strays p call.callee old.operands old.arena (with_modules p.tables w old.modules) before.ports behind.ports
            → Strays told p old w (n + 1) before.ports behind.ports
        unfolding runs_to
        strayed p of w agree s = record {
          taken = n;
          within = omega arith;
          there = record old { paid = old.paid + n };
          between = before;
          runs = runs_to p of w agree;
          goes_on = h.goes_on;
          given = old.operands;
          call = call;
          stands = record {
            row = row;
            op = op;
            number = number;
            end = end;
            ready = h.ready p of;
            taken = subst (λ (z : Shelf). IsTaken z op number old.arena old.frames old.operands call) (sym of.shelf_is) taken;
          };
          after_call = behind.ports;
          strays = s;
          earlier = counts_same before.ports;
          later = counts_same behind.ports;
        }

        pub call_made : Runs told shelf old before behind (n + 1) (record mid { paid = 0 })
        call_made p of w agree =
            elim ((done.calls p of).reaches w agree.output agree.ports) [
              | inl r ↦ inl (reached p of w agree r)
              | inr s ↦ inr (strayed p of w agree s)
            ]

        pub vm_called : (mid.end ≡ None → (p : Program) → IsProgramOf shelf p → HoldsKept p mid.arena.objects mid.frames) → IsVm shelf (record mid { paid = 0 })
        vm_called kept = vm_paid shelf mid 0 (is_vm shelf old mid h.is_vm h.program h.is_program done.memory (λ p of. (done.calls p of).run) kept)

      module _ (failed : SinkFault) (done : Called told count shelf call.callee old mid before behind (Err failed)) where
        failed_so : (p : Program) (of : IsProgramOf shelf p) (w : PlainWorld) → Agree told before w
            → calling.PutsFront told count p call.callee old.operands (seen_by old before) (seen_by mid behind) old.modules mid.modules old.frames mid.frames w
            → SinkFails told p old w count most behind
        unfolding runs_to
        failed_so p of w agree f = record {
          taken = n;
          within = lt;
          there = record old { paid = old.paid + n };
          between = before;
          runs = runs_to p of w agree;
          goes_on = h.goes_on;
          text = f.text;
          puts = f.puts;
          onwards = f.onwards;
          next = ap (λ (s : State). step p.library s) (running p (record old { paid = old.paid + n }) w h.goes_on) ∙ f.comes.steps (old.paid + n) (enough p w of);
          ports = (done.calls p of).stays.ports;
        }

        pub call_failed : RunsToFailure told shelf old before behind most count
        call_failed p of w agree = inl (failed_so p of w agree ((done.calls p of).reaches w agree.output agree.ports))

        went_on : mid.end ≡ None
        went_on = done.stays ∙ h.goes_on

        run_again : (p : Program) → IsProgramOf shelf p → IsRun p mid.arena mid.modules mid.frames mid.end
        run_again p of = subst (λ (o : Option End). IsRun p mid.arena mid.modules mid.frames o) (sym went_on) (done.calls p of).run

        pub vm_failed : (mid.end ≡ None → (p : Program) → IsProgramOf shelf p → HoldsKept p mid.arena.objects mid.frames) → IsVm shelf mid
        vm_failed kept = is_vm shelf old mid h.is_vm h.program h.is_program done.memory run_again kept
