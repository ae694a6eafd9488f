-- What a machine that has run says of the run of its library.
use Rattle.std.proofs.Common.{◌≡◌, ◌⊎◌, inl, inr, ℕ, ◌+◌, ◌-◌, ◌≤◌, ◌<◌, List, [], ◌∷◌, ◌++◌, Bool, true, false, Option, Some, None, refl, sym, ap, subst, ◌∙◌, append_assoc, append-nil, add-one, zero, suc, arith}
use Rattle.std.proofs.lemmas.List.{append_cancel_left}
use Rattle.std.specs.Io.KnownBytes.{Appends, Keeps}
use Rattle.std.proofs.KnownBytes.{Appends-kept, Appends-trans}
use Rattle.mpy_base.specs.declared.room.Room.{Room}
use Rattle.mpy_base.specs.Val.{PlainWorld}
use Rattle.mpy_base.specs.World.{PortState}
use Rattle.mpy_io.specs.Ports.{PortView}
use Rattle.mpy_io.specs.Told.{AppendsFront}
use Rattle.port_set.specs.Calls.{Tell}
use Rattle.port_set.specs.Counts.{AreAccounted}
use Rattle.port_set.proofs.Counting.{beyond_within, none_beyond}
use Rattle.vm_machine.specs.vm_frames.py_effects.Ends as plain
use Rattle.vm_machine.specs.vm_frames.py_effects.Ends.{Run, new_world, end_report}
use Rattle.vm_machine.specs.vm_frames.py_effects.Growth.{Starts}
use Rattle.bc_library.specs.Constants.{items_at, text_at}
use Rattle.bc_library.specs.Shelf.{Named, Shelf}
use Rattle.vm_machine.specs.vm_frames.bc_machine.Library.{Name, Library}
use Rattle.vm_machine.specs.vm_frames.bc_machine.State.{State, Running, Halted, Stuck}
use Rattle.vm_machine.specs.vm_frames.bc_machine.Step.{step}
use Rattle.vm_machine.specs.vm_frames.bc_machine.Machine.{start, steps, steps as steps_of, run_of}
use Rattle.vm_machine.specs.vm_frames.bc_machine.Behind.{behind, state_behind, run_behind}
use Rattle.vm_machine.specs.vm_frames.bc_machine.Growth.{world_of as state_world}
use Rattle.bc_machine.proofs.Laws.{ahead, steps_print}
use Rattle.bc_machine.proofs.Steps.{run_is_behind, start_behind, steps_behind}
use Rattle.vm_machine.specs.vm_frames.Calls.{Call}
use Rattle.vm_machine.specs.state_calls.frame_moves.Shown.{Tables, running_of}
use Rattle.vm_machine.specs.prim_walks.Plain.{plain_heap}
use Rattle.prim_outputs.specs.Prints.{Puts}
use Rattle.vm_machine.specs.state_calls.frame_exits.declared.ends.End.{End}
use Rattle.vm_machine.specs.state_calls.frame_exits.declared.ends.End.TheVariants as stops
use Rattle.vm_machine.specs.vm_starting.vm_states.Means.{Program}
use Rattle.vm_machine.specs.vm_starting.Programs.{IsProgramOf}
use Rattle.vm_machine.specs.vm_starting.declared.opening.Vm.{Vm}
use Rattle.vm_machine.specs.Machine.{IsVm, paid_state, world_in, machine_of}
use Rattle.vm_machine.specs.Running.{Outside, Agree, RunsFor, Strays, SinkFails, RunsToFailure, Runs as MachineRuns}
use Rattle.std.specs.Prelude.{◌≢◌, MatchOption, slice_get}
use Rattle.library_runs.specs.declared.ending.RunEnd.{RunEnd}
use Rattle.library_runs.specs.declared.ending.RunEnd.TheVariants as ends
use Rattle.library_runs.specs.Reports.{answer_of, said_by}
use Rattle.library_runs.specs.Runs.{Sight, IsSaid, IsOver, RanFrom, CutFrom, EndsFrom, Strayed, StrayedOn, StandsAt, StandsOn, GoesOn, GoesSo, RunsAs, RunsSo, Says, StandsSo, end_of, said_of, begins_in, first_state, goes_in, run_from, standing, with_ports}

-- ends
-- ====

pub puts_said : {E : Type 0} (told : E → Option (List ℕ)) (count : E → ℕ) (old new : E) (failed : Bool) (text : List ℕ) → Puts told count old new failed text
    → Says (told old) (told new) (count old) (count new) text
puts_said told count old new true text p = inr (p.front refl, p.cause)
puts_said told count old new false text p = inl (p.whole refl, p.cause)

pub end_is_said : (shelf : Shelf) (vm : Vm) (end : Option End) → IsSaid (answer_of end) (said_by shelf vm end)
end_is_said shelf vm None = refl
end_is_said shelf vm (Some stops.Ended) = refl
end_is_said shelf vm (Some (stops.Raised x)) = (plain_heap (text_at shelf) (items_at shelf) vm.arena, x.cell, refl)
end_is_said shelf vm (Some (stops.Memory room)) = (room, refl)

pub end_is_over : (end : Option End) → IsOver (answer_of end)
end_is_over None = tt
end_is_over (Some stops.Ended) = tt
end_is_over (Some (stops.Raised x)) = tt
end_is_over (Some (stops.Memory room)) = tt

-- where the machine is
-- ====================

module _ (p : Program) where
  -- the end, the world and what is said, of a machine that goes on or has ended
  ends_as : (end : Option End) (paid : ℕ) (calls : List Call) (w : PlainWorld) → answer_of end ≡ end_of (run_of (paid_state p end paid calls w)).end
  ends_as None paid [] w = refl
  ends_as None paid (c ∷ cs) w = refl
  ends_as (Some stops.Ended) paid calls w = refl
  ends_as (Some (stops.Raised x)) paid calls w = refl
  ends_as (Some (stops.Memory room)) paid calls w = refl

  running_world : (paid : ℕ) (calls : List Call) (w : PlainWorld) → (run_of (running_of p.tables paid calls w)).world ≡ w
  running_world paid [] w = refl
  running_world paid (c ∷ cs) w = refl

  world_as : (end : Option End) (paid : ℕ) (calls : List Call) (w : PlainWorld) → (run_of (paid_state p end paid calls w)).world ≡ w
  world_as None paid calls w = running_world paid calls w
  world_as (Some end) paid calls w = refl

  said_as : (vm : Vm) (end : Option End) (paid : ℕ) (calls : List Call) (w : PlainWorld) → w.heap ≡ plain_heap (text_at p.shelf) (items_at p.shelf) vm.arena
      → said_by p.shelf vm end ≡ said_of w.heap (run_of (paid_state p end paid calls w)).end
  said_as vm None paid [] w e = refl
  said_as vm None paid (c ∷ cs) w e = refl
  said_as vm (Some stops.Ended) paid calls w e = refl
  said_as vm (Some (stops.Raised x)) paid calls w e = ap (λ heap. end_report heap (plain.Raised x.cell)) (sym e)
  said_as vm (Some (stops.Memory room)) paid calls w e = refl

  -- the world in which the machine is
  pub machine_world : (vm : Vm) (w : PlainWorld) → (run_of (machine_of p vm w)).world ≡ world_in p vm w
  machine_world vm w = world_as vm.end vm.paid vm.frames.calls (world_in p vm w)

  paid_behind : (front : List ℕ) (end : Option End) (paid : ℕ) (calls : List Call) (w : PlainWorld) → paid_state p end paid calls (behind front w) ≡ state_behind front (paid_state p end paid calls w)
  paid_behind front None paid [] w = refl
  paid_behind front None paid (c ∷ cs) w = refl
  paid_behind front (Some end) paid calls w = refl

  machine_behind : (front : List ℕ) (vm : Vm) (w : PlainWorld) → machine_of p vm (behind front w) ≡ state_behind front (machine_of p vm w)
  machine_behind front vm w = paid_behind front vm.end vm.paid vm.frames.calls (world_in p vm w)

  -- the heap of the arena, by the constants of the library
  heap_is : (shelf : Shelf) → IsProgramOf shelf p → (vm : Vm) (w : PlainWorld) → (world_in p vm w).heap ≡ plain_heap (text_at p.shelf) (items_at p.shelf) vm.arena
  heap_is shelf is vm w =
      let same = is.means.constants in
      ap (λ texts. plain_heap texts p.tables.tuples vm.arena) same.texts ∙ ap (λ tuples. plain_heap (text_at p.shelf) tuples vm.arena) same.tuples

-- the last step of some
steps_last : (library : Library) (n : ℕ) (s : State) → steps library (suc n) s ≡ step library (steps library n s)
steps_last library zero s = refl
steps_last library (suc n) s = steps_last library n (step library s)

run_world : (s : State) → (run_of s).world ≡ state_world s
run_world (Running paid frame frames w) = refl
run_world (Halted end w) = refl
run_world (Stuck w) = refl

-- the output of a longer run begins with what a step adds to a shorter one
begins_longer : (library : Library) (from : State) (n most : ℕ) (text : List ℕ) → n < most
    → (run_from library from (suc n)).world.output ≡ (run_from library from n).world.output ++ text → Starts ((run_from library from n).world.output ++ text) (run_from library from most).world.output
begins_longer library from n most text less puts =
    let behind_step = steps library (suc n) from in
    let last = steps library (most - suc n) behind_step in
    let later = (steps_print library (most - suc n) behind_step).more in
    let on : steps library most from ≡ last = ahead library (suc n) most from (omega (arith, less)) in
    let first : (run_from library from (suc n)).world.output ≡ (state_world behind_step).output = ap (λ (w : PlainWorld). w.output) (run_world behind_step) in
    let whole : (run_from library from most).world.output ≡ (state_world last).output =
    ap (λ (s : State). (run_of s).world.output) on ∙ ap (λ (w : PlainWorld). w.output) (run_world last) in
    (later.0, whole ∙ (later.1 ∙ ap (λ (out : List ℕ). out ++ later.0) (sym first ∙ puts)))

-- runs
-- ====

module _ {S : Type 0} (told : S → Option (List ℕ)) (shelf : Shelf) (p : Program) (is : IsProgramOf shelf p) (ports : List PortState) (printed : List ℕ) (vm : Vm) where
  abbrev here : PlainWorld
  here = goes_in ports printed

  abbrev from : State
  from = standing p vm ports

  abbrev r : ℕ → Run
  r n = run_from p.library from n

  -- the world in which it goes on is the one that the sink and the ports tell
  pub agrees : (before : Outside S) → told before.out ≡ Some printed → Tell before.ports ports → Agree told before here
  agrees before e t = record { output = e ∙ ap Some (sym (append-nil printed)); ports = t }

  runs_behind : (n : ℕ) → run_of (steps p.library n (machine_of p vm here)) ≡ run_behind printed (r n)
  runs_behind n =
      ap (λ (s : State). run_of (steps p.library n s)) (machine_behind p printed vm (with_ports ports))
      ∙ (ap run_of (steps_behind printed p.library n from) ∙ run_is_behind printed (steps p.library n from))

  -- where the machine comes to
  comes : (n : ℕ) (new : Vm) (after : PlainWorld) → steps p.library n (machine_of p vm here) ≡ machine_of p new after → run_of (machine_of p new after) ≡ run_behind printed (r n)
  comes n new after e = ap run_of (sym e) ∙ runs_behind n

  world_is : (n : ℕ) (new : Vm) (after : PlainWorld) → steps p.library n (machine_of p vm here) ≡ machine_of p new after → world_in p new after ≡ behind printed (r n).world
  world_is n new after e = sym (world_as p new.end new.paid new.frames.calls (world_in p new after)) ∙ ap (λ (x : Run). x.world) (comes n new after e)

  added : (n : ℕ) (new : Vm) (old : Option (List ℕ)) (seen : Outside S) → old ≡ Some printed → (x : RunsFor told p vm here n new seen) → Appends old (told seen.out) (r n).world.output
  added n new old seen e x =
      let out : x.after.output ≡ printed ++ (r n).world.output = ap (λ (w : PlainWorld). w.output) (world_is n new x.after x.steps) in
      subst (λ (o : Option (List ℕ)). Appends o (told seen.out) (r n).world.output) (sym e)
      (subst (λ (o : Option (List ℕ)). Appends (Some printed) o (r n).world.output) (sym x.agree.output) out)

  told_then : (n : ℕ) (new : Vm) (seen : Outside S) → (x : RunsFor told p vm here n new seen) → Tell seen.ports (r n).world.ports
  told_then n new seen x = subst (Tell seen.ports) (ap (λ (w : PlainWorld). w.ports) (world_is n new x.after x.steps)) x.agree.ports

  -- it ran to its end, or for all its steps, and what it printed was handed on
  pub ran : (n : ℕ) (new : Vm) (old behind_flush : Sight) (seen : Outside S) → old.out ≡ Some printed → RunsFor told p vm here n new seen
      → Keeps (told seen.out) behind_flush.out → behind_flush.ports ≡ seen.ports → RanFrom p.library from n old behind_flush (answer_of new.end) (said_by shelf new new.end)
  ran n new old now seen e x kept same =
      let state = comes n new x.after x.steps in
      let heap = ap (λ (w : PlainWorld). w.heap) (world_is n new x.after x.steps) in
      let end = ap (λ (y : Run). y.end) state in
      record {
        end_is = ends_as p new.end new.paid new.frames.calls (world_in p new x.after) ∙ ap end_of end;
        said_is = ap (λ (s : Shelf). said_by s new new.end) (sym is.shelf_is)
            ∙ (said_as p new new.end new.paid new.frames.calls (world_in p new x.after) (heap_is p shelf is new x.after)
            ∙ (ap (λ h. said_of h (run_of (machine_of p new x.after)).end) heap ∙ ap (λ y. said_of (r n).world.heap y) end));
        output = Appends-kept old.out (told seen.out) now.out (r n).world.output (added n new old.out seen e x) kept;
        told = subst (λ (views : List PortView). Tell views (r n).world.ports) (sym same) (told_then n new seen x);
      }

  -- it did, but what it printed couldn't be handed on
  pub ran_unflushed : (n : ℕ) (new : Vm) (old now : Sight) (seen : Outside S) → old.out ≡ Some printed → RunsFor told p vm here n new seen
      → Keeps (told seen.out) now.out → now.ports ≡ seen.ports → CutFrom p.library from n old now
  ran_unflushed n new old now seen e x kept same = record {
    output = record {
      front = (r n).world.output;
      rest = [];
      parts = sym (append-nil (r n).world.output);
      added = Appends-kept old.out (told seen.out) now.out (r n).world.output (added n new old.out seen e x) kept;
    };
    taken = n;
    within = grind arith;
    told = subst (λ (views : List PortView). Tell views (r n).world.ports) (sym same) (told_then n new seen x);
    more = [];
    added = subst (λ (out : List ℕ). Appends old.out now.out out) (sym (append-nil (r n).world.output))
        (Appends-kept old.out (told seen.out) now.out (r n).world.output (added n new old.out seen e x) kept);
    next = inl refl;
  }

  -- what the next step adds
  one_more : (n : ℕ) (text : List ℕ) → (run_of (step p.library (steps p.library n (machine_of p vm here)))).world.output ≡ (printed ++ (r n).world.output) ++ text
      → (r (suc n)).world.output ≡ (r n).world.output ++ text
  one_more n text next =
      let whole : printed ++ (r (suc n)).world.output ≡ (printed ++ (r n).world.output) ++ text =
      sym (ap (λ (x : Run). x.world.output) (runs_behind (suc n)))
      ∙ (ap (λ (s : State). (run_of s).world.output) (steps_last p.library n (machine_of p vm here)) ∙ next) in
      append_cancel_left printed (r (suc n)).world.output ((r n).world.output ++ text) (whole ∙ append_assoc printed (r n).world.output text)

  -- the sink failed in a put
  pub cut : (count : S → ℕ) (most : ℕ) (old : Sight) (seen : Outside S) → old.out ≡ Some printed → SinkFails told p vm here count most seen
      → CutFrom p.library from most old (record { out = told seen.out; ports = seen.ports })
  cut count most old seen e f =
      let x = f.runs in
      let before = (r f.taken).world.output in
      let there : x.after.output ≡ printed ++ before = ap (λ (w : PlainWorld). w.output) (world_is f.taken f.there x.after x.steps) in
      let puts : (run_of (step p.library (machine_of p f.there x.after))).world.output ≡ x.after.output ++ f.text =
      ap (λ (s : State). (run_of s).world.output) f.next ∙ ap (λ (w : PlainWorld). w.output) (running_world p 0 f.onwards _) in
      let next = ap (λ (s : State). (run_of (step p.library s)).world.output) x.steps ∙ (puts ∙ ap (λ (out : List ℕ). out ++ f.text) there) in
      let more = one_more f.taken f.text next in
      let stands = begins_longer p.library from f.taken most f.text f.within more in
      let part = f.puts.front refl in
      let fronts = Appends-trans old.out (told f.between.out) (told seen.out) before part.front (added f.taken f.there old.out f.between e x) part.added in
      record {
        output = record {
          front = before ++ part.front;
          rest = part.rest ++ stands.0;
          parts = stands.1 ∙ (ap (λ (t : List ℕ). (before ++ t) ++ stands.0) part.parts
              ∙ (ap (λ (t : List ℕ). t ++ stands.0) (sym (append_assoc before part.front part.rest)) ∙ append_assoc (before ++ part.front) part.rest stands.0));
          added = fronts;
        };
        taken = f.taken;
        within = omega (arith, f.within);
        told = subst (λ (views : List PortView). Tell views (r f.taken).world.ports) (sym f.ports) (told_then f.taken f.there f.between x);
        more = part.front;
        added = fronts;
        next = inr (f.within, (part.rest, ap (λ (k : ℕ). (r k).world.output) (add-one f.taken) ∙ (more ∙ (ap (λ (t : List ℕ). before ++ t) part.parts ∙ sym (append_assoc before part.front part.rest)))));
      }

  -- a port strayed
  pub strayed : (most : ℕ) (old now : Sight) → Strays told p vm here most old.ports now.ports → StrayedOn p vm most ports printed old now
  strayed most old now s = record {
    strays = record {
      taken = s.taken;
      within = s.within;
      there = s.there;
      between = record { out = told s.between.out; ports = s.between.ports };
      runs = record { after = s.runs.after; agree = record { output = s.runs.agree.output; ports = s.runs.agree.ports }; steps = s.runs.steps };
      goes_on = s.goes_on;
      given = s.given;
      call = s.call;
      stands = s.stands;
      after_call = s.after_call;
      strays = s.strays;
      earlier = s.earlier;
      later = s.later;
    };
    rose = beyond_within s.strays.failed.number old.ports s.between.ports s.after_call now.ports s.earlier s.strays.rose s.later;
  }

-- the answers of a run that is over
over : (library : Library) (from : State) (n : ℕ) (old now : Sight) (end : Option End) (said : List ℕ)
    → RanFrom library from n old now (answer_of end) said → EndsFrom library from n old now (answer_of end) said
over library from n old now None said x = x
over library from n old now (Some stops.Ended) said x = x
over library from n old now (Some (stops.Raised e)) said x = x
over library from n old now (Some (stops.Memory e)) said x = x

-- what is said of the run in every program
-- ========================================

module _ {S : Type 0} (told : S → Option (List ℕ)) (shelf : Shelf) (steps : ℕ) (vm : Vm) (before behind : Outside S) where
  abbrev old : Sight
  old = record { out = told before.out; ports = before.ports }

  -- the sink failed in the run
  pub cut_in_all : (count : S → ℕ) (said : List ℕ) → RunsToFailure told shelf vm before behind steps count
      → (p : Program) → IsProgramOf shelf p → (ports : List PortState) (printed : List ℕ) → told before.out ≡ Some printed → Tell before.ports ports
      → EndsFrom p.library (standing p vm ports) steps old (record { out = told behind.out; ports = behind.ports }) ends.WriteFault said ⊎ StrayedOn p vm steps ports printed old (record { out = told behind.out; ports = behind.ports })
  cut_in_all count said failed p is ports printed e t =
      elim (failed p is (goes_in ports printed) (agrees told shelf p is ports printed vm before e t)) [
        | inl f ↦ inl (cut told shelf p is ports printed vm count steps old behind e f)
        | inr s ↦ inr (strayed told shelf p is ports printed vm steps old (record { out = told behind.out; ports = behind.ports }) s)
      ]

  module _ (new : Vm) (runs : MachineRuns told shelf vm before behind steps new) (flushed : Option (List ℕ)) (kept : Keeps (told behind.out) flushed) where
    abbrev now : Sight
    now = record { out = flushed; ports = behind.ports }

    -- the run was made, and what it printed was handed on
    pub over_in_all : (p : Program) → IsProgramOf shelf p → (ports : List PortState) (printed : List ℕ) → told before.out ≡ Some printed → Tell before.ports ports
        → EndsFrom p.library (standing p vm ports) steps old now (answer_of new.end) (said_by shelf new new.end) ⊎ StrayedOn p vm steps ports printed old now
    over_in_all p is ports printed e t =
        elim (runs p is (goes_in ports printed) (agrees told shelf p is ports printed vm before e t)) [
          | inl x ↦ inl (over p.library (standing p vm ports) steps old now new.end (said_by shelf new new.end) (ran told shelf p is ports printed vm steps new old now behind e x kept refl))
          | inr s ↦ inr (strayed told shelf p is ports printed vm steps old now s)
        ]

    -- it took all its steps, and didn't end
    pub stands_in_all : IsVm shelf new → new.end ≡ None → StandsOn shelf vm steps old now new
    stands_in_all is_vm still_open = record {
      is_vm = is_vm;
      goes_on = still_open;
      stands = λ p is ports printed e t.
          elim (runs p is (goes_in ports printed) (agrees told shelf p is ports printed vm before e t)) [
            | inl x ↦ inl (x.after, x.steps)
            | inr s ↦ inr (strayed told shelf p is ports printed vm steps old now s)
          ];
    }

    -- it was made, and what it printed couldn't be handed on
    pub unflushed_in_all : (said : List ℕ) → (p : Program) → IsProgramOf shelf p → (ports : List PortState) (printed : List ℕ) → told before.out ≡ Some printed → Tell before.ports ports
        → EndsFrom p.library (standing p vm ports) steps old now ends.WriteFault said ⊎ StrayedOn p vm steps ports printed old now
    unflushed_in_all said p is ports printed e t =
        elim (runs p is (goes_in ports printed) (agrees told shelf p is ports printed vm before e t)) [
          | inl x ↦ inl (ran_unflushed told shelf p is ports printed vm steps new old now behind e x kept refl)
          | inr s ↦ inr (strayed told shelf p is ports printed vm steps old now s)
        ]

-- the run of a main module, with whose machine it begins
-- ======================================================

-- the main module's name in a program
main_named : (shelf : Shelf) (p : Program) → IsProgramOf shelf p → (main : ℕ) (n : Named) → slice_get shelf.modules main ≡ Some n → p.tables.module_name main ≡ n.name
main_named shelf p is main n at = (is.means.modules main n (subst (λ (s : Shelf). slice_get s.modules main ≡ Some n) (sym is.shelf_is) at)).name_is

abbrev OpensAs : (shelf : Shelf) (main : ℕ) (room : Room) (vm : Vm) → Type 0
OpensAs shelf main room vm = (p : Program) (name : Name) (ports : List PortState) → IsProgramOf shelf p → p.tables.module_name main ≡ name
    → start p.library name (new_world room.cells room.bytes ports) ≡ machine_of p vm (new_world room.cells room.bytes ports)

module _ (shelf : Shelf) (main : ℕ) (n : Named) (at : slice_get shelf.modules main ≡ Some n) (room : Room) (steps : ℕ) (vm : Vm) (opened : OpensAs shelf main room vm) (old now : Sight) where
  begins : (p : Program) → IsProgramOf shelf p → (ports : List PortState) → start p.library n.name (new_world room.cells room.bytes ports) ≡ standing p vm ports
  begins p is ports = opened p n.name ports is (main_named shelf p is main n at)

  begins_behind : (p : Program) → IsProgramOf shelf p → (ports : List PortState) (printed : List ℕ) → start p.library n.name (begins_in p n.name room steps ports printed) ≡ machine_of p vm (goes_in ports printed)
  begins_behind p is ports printed =
      start_behind printed p.library n.name (new_world room.cells room.bytes ports)
      ∙ (ap (state_behind printed) (begins p is ports) ∙ sym (machine_behind p printed vm (with_ports ports)))

  main_strayed : (p : Program) → IsProgramOf shelf p → (ports : List PortState) (printed : List ℕ) → StrayedOn p vm steps ports printed old now → Strayed p n.name room steps ports printed old now
  main_strayed p is ports printed s = record {
    vm = vm;
    starts = begins_behind p is ports printed;
    strays = record {
      taken = s.strays.taken;
      within = s.strays.within;
      there = s.strays.there;
      between = s.strays.between;
      runs = record { after = s.strays.runs.after; agree = s.strays.runs.agree; steps = s.strays.runs.steps };
      goes_on = s.strays.goes_on;
      given = s.strays.given;
      call = s.strays.call;
      stands = s.strays.stands;
      after_call = s.strays.after_call;
      strays = s.strays.strays;
      earlier = s.strays.earlier;
      later = s.strays.later;
    };
    rose = s.rose;
  }

  -- as its machine goes on
  pub main_ran : (end : RunEnd) (said : List ℕ) → GoesOn shelf vm steps old now end said → RunsAs shelf n.name room steps old now end said
  main_ran end said g = record {
    program = g.program;
    is_said = g.is_said;
    runs = λ p is ports printed e t.
        elim (g.runs p is ports printed e t) [
          | inl x ↦ inl (subst (λ (s : State). EndsFrom p.library s steps old now end said) (sym (begins p is ports)) x)
          | inr s ↦ inr (main_strayed p is ports printed s)
        ];
  }

  -- and it stands where that machine does
  main_stands : (left : Vm) → StandsOn shelf vm steps old now left → StandsAt shelf n.name room steps old now left
  main_stands left g = record {
    is_vm = g.is_vm;
    goes_on = g.goes_on;
    stands = λ p is ports printed e t.
        elim (g.stands p is ports printed e t) [
          | inl x ↦ inl (x.0, ap (steps_of p.library steps) (begins_behind p is ports printed) ∙ x.1)
          | inr s ↦ inr (main_strayed p is ports printed s)
        ];
  }

  pub main_left : (end : RunEnd) (kept : Option Vm) → MatchOption kept (end ≢ ends.Limit) (λ left. (end ≡ ends.Limit) × StandsOn shelf vm steps old now left)
      → MatchOption kept (end ≢ ends.Limit) (λ left. (end ≡ ends.Limit) × StandsAt shelf n.name room steps old now left)
  main_left end None h = h
  main_left end (Some left) h = (h.0, main_stands left h.1)

-- where a run stands that took all its steps
-- ==========================================

only_open : (end : Option End) → answer_of end ≡ ends.Limit → end ≡ None
only_open None e = refl
only_open (Some stops.Ended) e = absurd cc
only_open (Some (stops.Raised x)) e = absurd cc
only_open (Some (stops.Memory room)) e = absurd cc

-- the machine is left exactly where the run was stopped by its steps
pub leaves : (vm : Vm) (end : RunEnd) (left : Option Vm) (Stands : Vm → Type 0) → end ≡ answer_of vm.end → MatchOption left (vm.end ≢ None) (λ x. (x ≡ vm) × (vm.end ≡ None)) → (vm.end ≡ None → Stands vm)
    → MatchOption left (end ≢ ends.Limit) (λ x. (end ≡ ends.Limit) × Stands x)
leaves vm end None Stands e h s = λ limit. h (only_open vm.end (sym e ∙ limit))
leaves vm end (Some x) Stands e h s = (e ∙ ap answer_of h.1, subst Stands (sym h.0) (s h.1))

-- where each port's count of faults is accounted for
-- ==================================================

pub none_strayed : (p : Program) (name : Name) (room : Room) (steps : ℕ) (ports : List PortState) (printed : List ℕ) (old now : Sight) → AreAccounted old.ports now.ports → Strayed p name room steps ports printed old now → ⊥
none_strayed p name room steps ports printed old now all s = none_beyond old.ports now.ports all s.strays.strays.failed.number s.rose

pub runs_so : (shelf : Shelf) (name : Name) (room : Room) (steps : ℕ) (old now : Sight) (end : RunEnd) (said : List ℕ) → AreAccounted old.ports now.ports → RunsAs shelf name room steps old now end said → RunsSo shelf name room steps old now end said
runs_so shelf name room steps old now end said all runs p is ports printed e t = elim (runs.runs p is ports printed e t) [
  | inl so ↦ so
  | inr s ↦ absurd (none_strayed p name room steps ports printed old now all s)
]

pub goes_so : (shelf : Shelf) (vm : Vm) (steps : ℕ) (old now : Sight) (end : RunEnd) (said : List ℕ) → AreAccounted old.ports now.ports → GoesOn shelf vm steps old now end said → GoesSo shelf vm steps old now end said
goes_so shelf vm steps old now end said all goes p is ports printed e t = elim (goes.runs p is ports printed e t) [
  | inl so ↦ so
  | inr s ↦ absurd (none_beyond old.ports now.ports all s.strays.strays.failed.number s.rose)
]

-- a state where this was printed in place of all that was
abbrev with_output : List ℕ → State → State
with_output text (Running paid frame frames w) = Running paid frame frames (record w { output = text })
with_output text (Halted end w) = Halted end (record w { output = text })
with_output text (Stuck w) = Stuck (record w { output = text })

-- a state, by what it is behind a front
bare : (front : List ℕ) (s : State) → with_output (state_world s).output (state_behind front s) ≡ s
bare front (Running paid frame frames w) = refl
bare front (Halted end w) = refl
bare front (Stuck w) = refl

module _ (p : Program) (text : List ℕ) where
  paid_with : (end : Option End) (paid : ℕ) (calls : List Call) (w : PlainWorld) → with_output text (paid_state p end paid calls w) ≡ paid_state p end paid calls (record w { output = text })
  paid_with None paid [] w = refl
  paid_with None paid (c ∷ cs) w = refl
  paid_with (Some end) paid calls w = refl

  machine_with : (vm : Vm) (w : PlainWorld) → with_output text (machine_of p vm w) ≡ machine_of p vm (record w { output = text })
  machine_with vm w = paid_with vm.end vm.paid vm.frames.calls (world_in p vm w)

pub stands_so : (shelf : Shelf) (name : Name) (room : Room) (n : ℕ) (old now : Sight) (vm : Vm) → AreAccounted old.ports now.ports → StandsAt shelf name room n old now vm → StandsSo shelf name room n old vm
stands_so shelf name room n old now vm all at p is ports printed e t = elim (at.stands p is ports printed e t) [
  | inl x ↦
      let first = first_state p name room n ports in
      let s = steps_of p.library n first in
      let text = (state_world s).output in
      let there : state_behind printed s ≡ machine_of p vm x.0 =
      sym (steps_behind printed p.library n first) ∙ (ap (steps_of p.library n) (sym (start_behind printed p.library name (new_world room.cells room.bytes ports))) ∙ x.1) in
      (record x.0 { output = text }, sym (bare printed s) ∙ (ap (with_output text) there ∙ machine_with p text vm x.0))
  | inr s ↦ absurd (none_strayed p name room n ports printed old now all s)
]
