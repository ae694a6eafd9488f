-- What a run of the machine without ports says of a turn.
use Rattle.std.proofs.Common.{◌≡◌, ◌⊎◌, inl, inr, ℕ, suc, ◌+◌, ◌-◌, ◌<◌, List, [], ◌∷◌, ◌++◌, true, false, map, Option, Some, None, IsSome, refl, sym, ap, subst, ◌∙◌, append_assoc, arith}
use Rattle.std.specs.Prelude.{slice_get}
use Rattle.std.specs.Io.KnownBytes.{Appends}
use Rattle.std.proofs.KnownBytes.{Appends-trans}
use Rattle.mpy_base.specs.Val.{PlainWorld}
use Rattle.mpy_base.specs.World.{PortState}
use Rattle.mpy_io.specs.Ports.{PortView}
use Rattle.mpy_io.specs.Told.{AppendsFront}
use Rattle.port_set.specs.Calls.{Tell}
use Rattle.port_set.specs.Counts.{CountsKeep, RoseBeyond}
use Rattle.port_set.proofs.Counting.{beyond_within}
use Rattle.vm_machine.specs.vm_frames.py_effects.Growth.{Starts}
use Rattle.bc_library.specs.Shelf.{Shelf}
use Rattle.vm_machine.specs.vm_frames.bc_machine.Library.{Library}
use Rattle.vm_machine.specs.vm_frames.bc_machine.State.{State}
use Rattle.vm_machine.specs.vm_frames.bc_machine.Step.{step}
use Rattle.vm_machine.specs.vm_frames.bc_machine.Machine.{run_of, steps, steps as runs_in}
use Rattle.vm_machine.specs.vm_frames.bc_machine.Behind.{state_behind}
use Rattle.vm_machine.specs.vm_frames.Calls.{Call}
use Rattle.vm_machine.specs.state_calls.frame_moves.Shown.{running_of}
use Rattle.vm_machine.specs.vm_starting.vm_states.Means.{Program}
use Rattle.vm_machine.specs.vm_starting.Programs.{IsProgramOf}
use Rattle.vm_machine.specs.vm_starting.declared.opening.Vm.{Vm}
use Rattle.vm_machine.specs.Machine.{world_in, machine_of}
use Rattle.vm_machine.specs.Running.{Outside, Agree, RunsFor, Strays, SinkFails, Runs, RunsToFailure}
use Rattle.board_tasks.specs.Alone.{alone}
use Rattle.board_tasks.specs.declared.ending.TurnEnd.TheVariants as turns
use Rattle.board_tasks.specs.declared.turning.TaskRun.{TaskRun}
use Rattle.board_tasks.specs.Ends.{GoesOn}
use Rattle.board_tasks.specs.Turns.{Makes, MakesFront, TurnsSo}
use Rattle.board_tasks.proofs.Alone.{StepsBehind, StepPrints, output_of, output_behind, behind_alone, made, made_behind, output_is, comes_behind, begins}

-- no ports
-- ========

none_kept : (old new : List PortView) → old ≡ [] → CountsKeep old new → new ≡ []
none_kept [] [] e keep = refl
none_kept [] (a ∷ new) e keep = absurd keep
none_kept (a ∷ old) new e keep = absurd cc

none_told : (views : List PortView) (ports : List PortState) → views ≡ [] → Tell views ports → ports ≡ []
none_told views [] e tell = refl
none_told [] (a ∷ ports) e tell = absurd cc
none_told (v ∷ views) (a ∷ ports) e tell = absurd cc

tell_none : (views : List PortView) → views ≡ [] → Tell views []
tell_none [] e = refl
tell_none (v ∷ views) e = absurd cc

none_rose : (number : ℕ) (old new : List PortView) → old ≡ [] → RoseBeyond number old new → ⊥
none_rose number [] new e rose = let was = rose.was in absurd cc
none_rose number (v ∷ old) new e rose = absurd cc

-- the same front twice
cancel : (front a b : List ℕ) → front ++ a ≡ front ++ b → a ≡ b
cancel [] a b e = e
cancel (x ∷ front) a b e = cancel front a b (cc)

-- turns
-- =====

module _ {S : Type 0} (told : S → Option (List ℕ)) (p : Program) (old : Vm) (before : Outside S) (none : before.ports ≡ []) (front : List ℕ) (tells : told before.out ≡ Some front) where
  pub agrees : Agree told before (alone front)
  agrees = record { output = tells; ports = tell_none before.ports none }

  no_strays : (most : ℕ) (behind : List PortView) → Strays told p old (alone front) most before.ports behind → ⊥
  no_strays most behind s = none_rose s.strays.failed.number before.ports behind none (beyond_within s.strays.failed.number before.ports s.between.ports s.after_call behind s.earlier s.strays.rose s.later)

  module _ (steps_behind : StepsBehind) where
    -- what these steps print
    abbrev text : (count : ℕ) → List ℕ
    text count = output_of (made p steps_behind count old)

    module _ (count : ℕ) (new : Vm) (behind : Outside S) (no_ports : behind.ports ≡ []) (x : RunsFor told p old (alone front) count new behind) where
      no_after : x.after.ports ≡ []
      no_after = none_told behind.ports x.after.ports no_ports x.agree.ports

      out_after : x.after.output ≡ front ++ text count
      out_after = output_is p steps_behind count old new front x.after no_after x.steps

      puts : Appends (told before.out) (told behind.out) (text count)
      puts = subst (λ (o : Option (List ℕ)). Appends o (told behind.out) (text count)) (sym tells)
          (subst (λ (o : Option (List ℕ)). Appends (Some front) o (text count)) (sym x.agree.output) out_after)

      made_so : Makes p count old new (told before.out) (told behind.out)
      made_so = record {
        printed = text count;
        steps = comes_behind p steps_behind count old new front x.after no_after x.steps;
        put = puts;
      }

    -- the run was made
    pub went : (count : ℕ) (new : Vm) (behind : Outside S) → CountsKeep before.ports behind.ports
        → RunsFor told p old (alone front) count new behind ⊎ Strays told p old (alone front) count before.ports behind.ports → Makes p count old new (told before.out) (told behind.out)
    went count new behind keep (inl x) = made_so count new behind (none_kept before.ports behind.ports none keep) x
    went count new behind keep (inr s) = absurd (no_strays count behind.ports s)

    -- the sink failed in a put
    module _ (prints : StepPrints) (count : S → ℕ) (most : ℕ) (behind : Outside S) (f : SinkFails told p old (alone front) count most behind) where
      no_ports : CountsKeep before.ports behind.ports → f.between.ports ≡ []
      no_ports keep = sym f.ports ∙ none_kept before.ports behind.ports none keep

      abbrev there : State
      there = made p steps_behind f.taken old

      abbrev next : State
      next = step p.library there

      module _ (keep : CountsKeep before.ports behind.ports) where
        first_out : f.runs.after.output ≡ front ++ text f.taken
        first_out = out_after f.taken f.there f.between (no_ports keep) f.runs

        stands : state_behind front there ≡ machine_of p f.there f.runs.after
        stands = sym (made_behind p steps_behind f.taken old front) ∙ f.runs.steps

        running_out : (calls : List Call) (w : PlainWorld) → output_of (running_of p.tables 0 calls w) ≡ w.output
        running_out [] w = refl
        running_out (c ∷ cs) w = refl

        next_out : output_of next ≡ text f.taken ++ f.text
        next_out = cancel front (output_of next) (text f.taken ++ f.text)
            (sym (output_behind front next)
            ∙ (ap output_of (sym (steps_behind p.library 1 there front))
            ∙ (ap (λ (s : State). output_of (step p.library s)) stands
            ∙ (ap output_of f.next
            ∙ (running_out f.onwards (record (world_in p f.there f.runs.after) { output = f.runs.after.output ++ f.text })
            ∙ (ap (λ (out : List ℕ). out ++ f.text) first_out ∙ append_assoc front (text f.taken) f.text))))))

        -- what comes behind that put
        rest : Starts (output_of next) (output_of (steps p.library (most - suc f.taken) next))
        rest = begins prints p.library (most - suc f.taken) next

        module _ (runs : (m n : ℕ) (s : State) → steps p.library n (steps p.library m s) ≡ steps p.library (m + n) s) where
          whole : steps p.library (most - suc f.taken) next ≡ made p steps_behind most old
          whole =
              let start = machine_of p old (alone []) in
              let count_is : f.taken + suc (most - suc f.taken) ≡ most = let within = f.within in omega arith in
              runs f.taken (suc (most - suc f.taken)) start ∙ ap (λ (n : ℕ). steps p.library n start) count_is

          all_out : text most ≡ (text f.taken ++ f.text) ++ rest.0
          all_out = ap output_of (sym whole) ∙ (rest.1 ∙ ap (λ (out : List ℕ). out ++ rest.0) next_out)

          pub failed : MakesFront p most old (told before.out) (told behind.out)
          failed =
              let part = f.puts.front refl in
              record {
                printed = text most;
                prints = λ earlier. ap output_of (made_behind p steps_behind most old earlier) ∙ output_behind earlier (made p steps_behind most old);
                put = record {
                  front = text f.taken ++ part.front;
                  rest = part.rest ++ rest.0;
                  parts = all_out
                      ∙ (ap (λ (t : List ℕ). (text f.taken ++ t) ++ rest.0) part.parts
                      ∙ (ap (λ (t : List ℕ). t ++ rest.0) (sym (append_assoc (text f.taken) part.front part.rest)) ∙ append_assoc (text f.taken ++ part.front) part.rest rest.0));
                  added = Appends-trans (told before.out) (told f.between.out) (told behind.out) (text f.taken) part.front (puts f.taken f.there f.between (no_ports keep) f.runs) part.added;
                };
              }

-- turns of tasks
-- ==============

some_value : {A : Type 0} (o : Option A) → IsSome o → (x : A) × (o ≡ Some x)
some_value None some = absurd cc
some_value (Some x) some = (x, refl)

module _ {S : Type 0} (told : S → Option (List ℕ)) (steps_behind : StepsBehind) (shelf : Shelf) (steps : ℕ) (old new : TaskRun) (before behind : Outside S) (none : before.ports ≡ []) (keep : CountsKeep before.ports behind.ports) (goes_on : GoesOn old) where
  -- the run was made
  pub turn_went : new.failed ≡ false → Runs told shelf old.vm before behind steps new.vm → TurnsSo shelf steps old new (told before.out) (told behind.out) turns.Went
  turn_went unfailed runs = (
    goes_on,
    unfailed,
    λ p is tells.
        let front = some_value (told before.out) tells in
        went told p old.vm before none front.0 front.1 steps_behind steps new.vm behind keep (runs p is (alone front.0) (agrees told p old.vm before none front.0 front.1)),
  )

  -- the sink failed
  pub turn_failed : StepPrints → ((library : Library) (m n : ℕ) (s : State) → runs_in library n (runs_in library m s) ≡ runs_in library (m + n) s) → (count : S → ℕ) → new.failed ≡ true
      → RunsToFailure told shelf old.vm before behind steps count → TurnsSo shelf steps old new (told before.out) (told behind.out) turns.WriteFault
  turn_failed prints adds count failed_is runs = (
    goes_on,
    failed_is,
    λ p is tells.
        let front = some_value (told before.out) tells in
        elim (runs p is (alone front.0) (agrees told p old.vm before none front.0 front.1)) [
          | inl f ↦ failed told p old.vm before none front.0 front.1 steps_behind prints count steps behind f keep (adds p.library)
          | inr s ↦ absurd (no_strays told p old.vm before none front.0 front.1 steps behind.ports s)
        ],
  )
