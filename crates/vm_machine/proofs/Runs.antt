-- A run in parts is one run.
use Rattle.std.proofs.Common.{◌≡◌, ℕ, ◌+◌, ◌-◌, ◌≤◌, List, Option, Some, None, inl, inr, refl, ap, subst, ◌∙◌, arith}
use Rattle.std.specs.Prelude.{IsSome}
use Rattle.mpy_base.specs.Val.{PlainWorld}
use Rattle.mpy_io.specs.Ports.{PortView}
use Rattle.port_set.specs.Counts.{CountsKeep}
use Rattle.port_set.proofs.Counting.{counts_same, counts_on}
use Rattle.bc_library.specs.Shelf.{Shelf}
use Rattle.state_steps.specs.vm_frames.bc_machine.Machine.{steps}
use Rattle.state_steps.specs.vm_frames.bc_machine.State.{State}
use Rattle.vm_kept.specs.state_calls.frame_exits.declared.ends.End.{End}
use Rattle.vm_kept.specs.state_calls.frame_exits.Ends.{end_of}
use Rattle.vm_starting.specs.vm_states.Means.{Program}
use Rattle.vm_starting.specs.declared.opening.Vm.{Vm}
use Rattle.vm_machine.specs.Acting.{Stepped}
use Rattle.vm_machine.specs.Machine.{IsVm, paid_state, machine_of, world_in}
use Rattle.vm_machine.specs.Running.{Outside, RunsFor, Strays, SinkFails, Runs, RunsToFailure}
use Rattle.vm_machine.proofs.Steps.{halted, in_parts}

-- as far as a run has come
pub record RanSoFar {S : Type 0} (told : S → Option (List ℕ)) (count : S → ℕ) (shelf : Shelf) (old now : Vm) (before behind : Outside S) (most left : ℕ) : Type 0 where
  pub vm : IsVm shelf now
  pub taken : ℕ
  pub all : taken + left ≡ most
  pub runs : Runs told shelf old before behind taken now
  pub counts : count behind.out ≡ count before.out
  pub faults : CountsKeep before.ports behind.ports
  pub paid : now.paid + left ≤ old.paid + most

module _ {S : Type 0} (told : S → Option (List ℕ)) where
  -- two parts one behind the other
  joined : (p : Program) (old mid new : Vm) (w : PlainWorld) (a b : ℕ) (between behind : Outside S) (first : RunsFor told p old w a mid between) → RunsFor told p mid first.after b new behind → RunsFor told p old w (a + b) new behind
  joined p old mid new w a b between behind first second = record {
    after = second.after;
    agree = second.agree;
    steps = in_parts p.library a b (machine_of p old w) ∙ (ap (λ (s : State). steps p.library b s) first.steps ∙ second.steps);
  }

  strays_on : (p : Program) (old mid : Vm) (w : PlainWorld) (a b : ℕ) (before : List PortView) (between : Outside S) (behind : List PortView) → CountsKeep before between.ports → (first : RunsFor told p old w a mid between) → Strays told p mid first.after b between.ports behind → Strays told p old w (a + b) before behind
  unfolding joined
  strays_on p old mid w a b before between behind keep first s = record {
    taken = a + s.taken;
    within = (let lt = s.within in omega (arith, lt));
    there = s.there;
    between = s.between;
    runs = joined p old mid s.there w a s.taken between s.between first s.runs;
    goes_on = s.goes_on;
    given = s.given;
    call = s.call;
    stands = s.stands;
    after_call = s.after_call;
    strays = s.strays;
    earlier = counts_on before between.ports s.between.ports keep s.earlier;
    later = s.later;
  }

  fails_on : (count : S → ℕ) (p : Program) (old mid : Vm) (w : PlainWorld) (a b : ℕ) (between behind : Outside S) (first : RunsFor told p old w a mid between) → SinkFails told p mid first.after count b behind → SinkFails told p old w count (a + b) behind
  unfolding joined
  fails_on count p old mid w a b between behind first f = record {
    taken = a + f.taken;
    within = (let lt = f.within in omega (arith, lt));
    there = f.there;
    between = f.between;
    runs = joined p old mid f.there w a f.taken between f.between first f.runs;
    goes_on = f.goes_on;
    text = f.text;
    puts = f.puts;
    onwards = f.onwards;
    next = f.next;
    ports = f.ports;
  }

  -- more steps
  longer : (p : Program) (old : Vm) (w : PlainWorld) (a b : ℕ) (before between behind : List PortView) → CountsKeep between behind → Strays told p old w a before between → Strays told p old w (a + b) before behind
  longer p old w a b before between behind keep s = record {
    taken = s.taken;
    within = (let lt = s.within in omega (arith, lt));
    there = s.there;
    between = s.between;
    runs = s.runs;
    goes_on = s.goes_on;
    given = s.given;
    call = s.call;
    stands = s.stands;
    after_call = s.after_call;
    strays = s.strays;
    earlier = s.earlier;
    later = counts_on s.after_call between behind s.later keep;
  }

  -- the same from where the machine is, too
  module _ (old other : Vm) (same : (p : Program) (w : PlainWorld) → machine_of p other w ≡ machine_of p old w) where
    runs_from : (p : Program) (w : PlainWorld) (n : ℕ) (new : Vm) (behind : Outside S) → RunsFor told p old w n new behind → RunsFor told p other w n new behind
    runs_from p w n new behind r = record { after = r.after; agree = r.agree; steps = ap (λ (s : State). steps p.library n s) (same p w) ∙ r.steps }

    strays_from : (p : Program) (w : PlainWorld) (n : ℕ) (before behind : List PortView) → Strays told p old w n before behind → Strays told p other w n before behind
    unfolding runs_from
    strays_from p w n before behind s = record {
      taken = s.taken;
      within = s.within;
      there = s.there;
      between = s.between;
      runs = runs_from p w s.taken s.there s.between s.runs;
      goes_on = s.goes_on;
      given = s.given;
      call = s.call;
      stands = s.stands;
      after_call = s.after_call;
      strays = s.strays;
      earlier = s.earlier;
      later = s.later;
    }

    fails_from : (count : S → ℕ) (p : Program) (w : PlainWorld) (n : ℕ) (behind : Outside S) → SinkFails told p old w count n behind → SinkFails told p other w count n behind
    unfolding runs_from
    fails_from count p w n behind f = record {
      taken = f.taken;
      within = f.within;
      there = f.there;
      between = f.between;
      runs = runs_from p w f.taken f.there f.between f.runs;
      goes_on = f.goes_on;
      text = f.text;
      puts = f.puts;
      onwards = f.onwards;
      next = f.next;
      ports = f.ports;
    }

    pub from_other : (shelf : Shelf) (before behind : Outside S) (n : ℕ) (new : Vm) → Runs told shelf old before behind n new → Runs told shelf other before behind n new
    from_other shelf before behind n new h p of w agree = elim (h p of w agree) [ inl r ↦ inl (runs_from p w n new behind r) | inr s ↦ inr (strays_from p w n before.ports behind.ports s) ]

    pub failed_other : (count : S → ℕ) (shelf : Shelf) (before behind : Outside S) (n : ℕ) → RunsToFailure told shelf old before behind n count → RunsToFailure told shelf other before behind n count
    failed_other count shelf before behind n h p of w agree = elim (h p of w agree) [ inl r ↦ inl (fails_from count p w n behind r) | inr s ↦ inr (strays_from p w n before.ports behind.ports s) ]

  -- steps that concern no output
  pub stepped_runs : (shelf : Shelf) (old new : Vm) (before : Outside S) (n : ℕ) → Stepped shelf n old new → Runs told shelf old before before n new
  stepped_runs shelf old new before n h p of w agree = inl (record { after = w; agree = agree; steps = h.leads p of w })

  -- nothing was run yet
  none_run : (shelf : Shelf) (old : Vm) (before : Outside S) → Runs told shelf old before before 0 old
  none_run shelf old before p of w agree = inl (record { after = w; agree = agree; steps = refl })

  joins : (shelf : Shelf) (old mid new : Vm) (before between behind : Outside S) (a b : ℕ) → CountsKeep before.ports between.ports → CountsKeep between.ports behind.ports → Runs told shelf old before between a mid → Runs told shelf mid between behind b new → Runs told shelf old before behind (a + b) new
  joins shelf old mid new before between behind a b earlier later first second p of w agree =
      elim (first p of w agree) [
        | inl r ↦ elim (second p of r.after r.agree) [ inl q ↦ inl (joined p old mid new w a b between behind r q) | inr s ↦ inr (strays_on p old mid w a b before.ports between behind.ports earlier r s) ]
        | inr s ↦ inr (longer p old w a b before.ports between.ports behind.ports later s)
      ]

  joins_failed : (count : S → ℕ) (shelf : Shelf) (old mid : Vm) (before between behind : Outside S) (a b : ℕ) → CountsKeep before.ports between.ports → CountsKeep between.ports behind.ports → Runs told shelf old before between a mid → RunsToFailure told shelf mid between behind b count → RunsToFailure told shelf old before behind (a + b) count
  joins_failed count shelf old mid before between behind a b earlier later first second p of w agree =
      elim (first p of w agree) [
        | inl r ↦ elim (second p of r.after r.agree) [ inl q ↦ inl (fails_on count p old mid w a b between behind r q) | inr s ↦ inr (strays_on p old mid w a b before.ports between behind.ports earlier r s) ]
        | inr s ↦ inr (longer p old w a b before.ports between.ports behind.ports later s)
      ]

  -- behind steps that concern no output
  pub after_steps : (shelf : Shelf) (old mid new : Vm) (before behind : Outside S) (taken n : ℕ) → Stepped shelf taken old mid → CountsKeep before.ports behind.ports → Runs told shelf mid before behind n new → Runs told shelf old before behind (taken + n) new
  after_steps shelf old mid new before behind taken n stepped keep runs =
      joins shelf old mid new before before behind taken n (counts_same before.ports) keep (stepped_runs shelf old mid before taken stepped) runs

  pub failed_after_steps : (count : S → ℕ) (shelf : Shelf) (old mid : Vm) (before behind : Outside S) (taken most : ℕ) → taken ≤ most → Stepped shelf taken old mid → CountsKeep before.ports behind.ports
      → RunsToFailure told shelf mid before behind (most - taken) count → RunsToFailure told shelf old before behind most count
  failed_after_steps count shelf old mid before behind taken most few stepped keep failed =
      let e : taken + (most - taken) ≡ most = omega (arith, few) in
      subst (λ (k : ℕ). RunsToFailure told shelf old before behind k count) e
      (joins_failed count shelf old mid before before behind taken (most - taken) (counts_same before.ports) keep (stepped_runs shelf old mid before taken stepped) failed)

  -- a run that has ended stays
  stays : (p : Program) (vm : Vm) (w : PlainWorld) (n : ℕ) → IsSome vm.end → steps p.library n (machine_of p vm w) ≡ machine_of p vm w
  stays p vm w n some = by vm.end some
    where
      by : (o : Option End) → IsSome o → steps p.library n (paid_state p o vm.paid vm.frames.calls (world_in p vm w)) ≡ paid_state p o vm.paid vm.frames.calls (world_in p vm w)
      by (Some e) is = halted p.library n (end_of e) (world_in p vm w)
      by None is = absurd cc

  pub ended_runs : (shelf : Shelf) (vm : Vm) (before : Outside S) (n : ℕ) → IsSome vm.end → Runs told shelf vm before before n vm
  ended_runs shelf vm before n some p of w agree = inl (record { after = w; agree = agree; steps = stays p vm w n some })

  -- a run step by step
  -- =================

  module _ (count : S → ℕ) (shelf : Shelf) (old now : Vm) (before behind : Outside S) (most left : ℕ) where
    pub begins : IsVm shelf old → RanSoFar told count shelf old old before before most most
    begins vm = record { vm = vm; taken = 0; all = omega arith; runs = none_run shelf old before; counts = refl; faults = counts_same before.ports; paid = omega arith }

    module _ (so_far : RanSoFar told count shelf old now before behind most left) where
      pub goes_on : (n rest : ℕ) (new : Vm) (later : Outside S) → rest ≡ left - n → n ≤ left → IsVm shelf new → Runs told shelf now behind later n new → count later.out ≡ count behind.out → CountsKeep behind.ports later.ports → new.paid ≤ now.paid + n
          → RanSoFar told count shelf old new before later most rest
      goes_on n rest new later rest_is le vm runs counts faults paid = record {
        vm = vm;
        taken = so_far.taken + n;
        all = (let a = so_far.all in omega (arith, a, rest_is, le));
        runs = joins shelf old now new before behind later so_far.taken n so_far.faults faults so_far.runs runs;
        counts = counts ∙ so_far.counts;
        faults = counts_on before.ports behind.ports later.ports so_far.faults faults;
        paid = (let a = so_far.paid in omega (arith, a, rest_is, le, paid));
      }

      pub is_done : left ≤ 0 → Runs told shelf old before behind most now
      is_done none =
          let a = so_far.all in
          let e : so_far.taken ≡ most = omega (arith, a, none) in
          subst (λ (n : ℕ). Runs told shelf old before behind n now) e so_far.runs

      pub has_failed : (later : Outside S) → CountsKeep behind.ports later.ports → RunsToFailure told shelf now behind later left count → RunsToFailure told shelf old before later most count
      has_failed later faults failed =
          subst (λ (n : ℕ). RunsToFailure told shelf old before later n count) so_far.all
          (joins_failed count shelf old now before behind later so_far.taken left so_far.faults faults so_far.runs failed)
