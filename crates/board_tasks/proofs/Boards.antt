-- Turns of tasks alone, and of many.
use Rattle.std.proofs.Common.{◌≡◌, ◌≢◌, ℕ, zero, suc, ◌+◌, ◌==◌, List, [], ◌∷◌, ◌++◌, length, map, set, Bool, true, false, Option, Some, None, IsSome, option_map, if◌then◌else◌, refl, sym, ap, subst, ◌∙◌, append-nil, eqb-true, inl, inr}
use Rattle.std.proofs.lemmas.Bool.{eqb-false}
use Rattle.std.specs.Prelude.{slice_get}
use Rattle.std.specs.Io.KnownBytes.{Appends}
use Rattle.std.proofs.KnownBytes.{Appends-nil}
use Rattle.std.proofs.lemmas.List.{length-map}
use Rattle.std.proofs.lemmas.Option.{slice_get-map}
use Rattle.mpy_base.specs.declared.room.Room.{Room}
use Rattle.mpy_base.specs.Val.{PlainWorld}
use Rattle.arena_heap.specs.Values.{ArenaObject}
use Rattle.vm_machine.specs.vm_frames.py_effects.Ends.{End, Run}
use Rattle.bc_library.specs.Shelf.{Shelf}
use Rattle.vm_machine.specs.vm_frames.bc_machine.Library.{Library}
use Rattle.vm_machine.specs.vm_frames.bc_machine.State.{State, Running, Halted, Stuck}
use Rattle.vm_machine.specs.vm_frames.bc_machine.Machine.{run_of, steps}
use Rattle.vm_machine.specs.vm_frames.Calls.{Call}
use Rattle.vm_machine.specs.prim_walks.Plain.{plain_object}
use Rattle.vm_machine.specs.state_calls.frame_exits.declared.ends.End.{End as Stop}
use Rattle.vm_machine.specs.vm_starting.vm_states.Means.{Program}
use Rattle.vm_machine.specs.vm_starting.Programs.{IsProgramOf}
use Rattle.vm_machine.specs.vm_starting.declared.opening.Vm.{Vm}
use Rattle.vm_machine.specs.Machine.{paid_state, world_in, machine_of}
use Rattle.board_plan.specs.declared.plan.Task.{Task}
use Rattle.board_plan.specs.declared.plan.Turn.{Turn}
use Rattle.board_tasks.specs.declared.ending.TaskEnd.{TaskEnd}
use Rattle.board_tasks.specs.declared.ending.TurnEnd.{TurnEnd}
use Rattle.board_tasks.specs.declared.ending.TurnEnd.TheVariants as turns
use Rattle.board_tasks.specs.declared.turning.TaskRun.{TaskRun}
use Rattle.board_tasks.specs.Alone.{alone, start_of, run_of_task}
use Rattle.board_tasks.specs.Ends.{IsOver, GoesOn, HasEnd, EndsBy, Ends, RunEnds, UsesRoom, IsRoomOf, standing}
use Rattle.board_tasks.specs.Opened.{IsOpened}
use Rattle.board_tasks.specs.Schedules.{total, after_turn, with_turn, behind_turns, board_run}
use Rattle.board_tasks.specs.Turns.{Makes, TurnsSo, IsMade, Stands, StandsOn}
use Rattle.board_tasks.proofs.Stopped.{told_end, world_is}

-- what the laws of the machine say
abbrev pub EndedStays : Type 0
EndedStays = (library : Library) (n : ℕ) (end : End) (w : PlainWorld) → steps library n (Halted end w) ≡ Halted end w

abbrev pub StepsAdd : Type 0
StepsAdd = (library : Library) (m n : ℕ) (s : State) → steps library n (steps library m s) ≡ steps library (m + n) s

-- one task
-- ========

pub stands_first : (shelf : Shelf) (p : Program) (task : Task) (run : TaskRun) → IsProgramOf shelf p → IsOpened shelf task run → Stands p task 0 [] run
stands_first shelf p task run is o = record { unfailed = o.unfailed; comes = o.starts p is }

module _ (ended : EndedStays) (adds : StepsAdd) where
  paid_stays : (p : Program) (count : ℕ) (end : Option Stop) (paid : ℕ) (calls : List Call) (w : PlainWorld) → IsSome end → steps p.library count (paid_state p end paid calls w) ≡ paid_state p end paid calls w
  paid_stays p count None paid calls w some = absurd cc
  paid_stays p count (Some end) paid calls w some = ended p.library count _ w

  -- a task that stands somewhere has ended there only by its machine
  over_machine : (run : TaskRun) → run.failed ≡ false → IsOver run → IsSome run.vm.end
  over_machine run unfailed (inl failed) = absurd cc
  over_machine run unfailed (inr some) = some

  module _ (shelf : Shelf) (p : Program) (task : Task) (total count : ℕ) (printed : List ℕ) (old new : TaskRun) (before behind : Option (List ℕ)) (is : IsProgramOf shelf p) (tells : IsSome before) (stands : Stands p task total printed old) where
    further : steps p.library (total + count) (start_of p.library task) ≡ steps p.library count (machine_of p old.vm (alone printed))
    further = sym (adds p.library total count (start_of p.library task)) ∙ ap (steps p.library count) stands.comes

    pub stands_on : (end : TurnEnd) → TurnsSo shelf count old new before behind end → IsMade end → StandsOn p task (total + count) printed new before behind
    stands_on turns.Went t made =
        let m = t.2 p is tells in
        record { more = m.printed; stands = record { unfailed = t.1; comes = further ∙ m.steps printed }; put = m.put }
    stands_on turns.Over t made =
        let some = over_machine old stands.unfailed t.0 in
        let stays = paid_stays p count old.vm.end old.vm.paid old.vm.frames.calls (world_in p old.vm (alone printed)) some in
        let here : Stands p task (total + count) (printed ++ []) old = record {
          unfailed = stands.unfailed;
          comes = further ∙ (stays ∙ ap (λ (out : List ℕ). machine_of p old.vm (alone out)) (sym (append-nil printed)));
        } in
        record {
          more = [];
          stands = subst (λ (run : TaskRun). Stands p task (total + count) (printed ++ []) run) (sym t.1) here;
          put = subst (λ (told : Option (List ℕ)). Appends before told []) (sym t.2) (Appends-nil before);
        }
    stands_on turns.WriteFault t made = absurd made

  -- behind a turn of one task, many machines stand where theirs do
  module _ (library : Library) where
    after_steps : (count : ℕ) (s : State) → after_turn library count s ≡ steps library count s
    after_steps count (Running paid frame frames w) = refl
    after_steps count (Halted end w) = sym (ended library count end w)
    after_steps count (Stuck w) = refl

    set_same : (xs : List State) (i k : ℕ) (x y : State) → k ≡ i → slice_get xs i ≡ Some x → slice_get (set xs k y) i ≡ Some y
    set_same [] i k x y e there = absurd cc
    set_same (z ∷ xs) zero zero x y e there = refl
    set_same (z ∷ xs) zero (suc k) x y e there = absurd cc
    set_same (z ∷ xs) (suc i) zero x y e there = absurd cc
    set_same (z ∷ xs) (suc i) (suc k) x y e there = set_same xs i k x y (cc) there

    set_other : (xs : List State) (i k : ℕ) (x y : State) → k ≢ i → slice_get xs i ≡ Some x → slice_get (set xs k y) i ≡ Some x
    set_other [] i k x y apart there = absurd cc
    set_other (z ∷ xs) zero zero x y apart there = absurd (apart refl)
    set_other (z ∷ xs) zero (suc k) x y apart there = there
    set_other (z ∷ xs) (suc i) zero x y apart there = there
    set_other (z ∷ xs) (suc i) (suc k) x y apart there = set_other xs i k x y (λ e. apart (ap suc e)) there

    abbrev its : Bool → (steps : ℕ) → ℕ
    its b count = if b then count else 0

    one_turn : (turn : Turn) (states : List State) (i : ℕ) (s : State) (o : Option State) → slice_get states turn.task ≡ o → slice_get states i ≡ Some s → (b : Bool) → (turn.task == i) ≡ b
        → slice_get (with_turn library turn states o) i ≡ Some (steps library (its b turn.steps) s)
    one_turn turn states i s None e there true same = let here : slice_get states turn.task ≡ Some s = ap (slice_get states) (eqb-true turn.task i same) ∙ there in absurd cc
    one_turn turn states i s None e there false other = there
    one_turn turn states i s (Some x) e there true same =
        let at = eqb-true turn.task i same in
        let is : x ≡ s = let here : slice_get states turn.task ≡ Some s = ap (slice_get states) at ∙ there in cc in
        set_same states i turn.task s (after_turn library turn.steps x) at there ∙ ap (λ (y : State). Some y) (after_steps turn.steps x ∙ ap (steps library turn.steps) is)
    one_turn turn states i s (Some x) e there false other = set_other states i turn.task s (after_turn library turn.steps x) (eqb-false turn.task i other) there

    behind_all : (schedule : List Turn) (states : List State) (i : ℕ) (s : State) → slice_get states i ≡ Some s → slice_get (behind_turns library states schedule) i ≡ Some (steps library (total schedule i) s)
    behind_all [] states i s there = there
    behind_all (turn ∷ schedule) states i s there =
        let one = its (turn.task == i) turn.steps in
        behind_all schedule (with_turn library turn states (slice_get states turn.task)) i (steps library one s) (one_turn turn states i s (slice_get states turn.task) refl there (turn.task == i) refl)
        ∙ ap (λ (y : State). Some y) (adds library one (total schedule i) s)

    pub board_so : (tasks : List Task) (schedule : List Turn) (number : ℕ) (task : Task) → slice_get tasks number ≡ Some task
        → slice_get (board_run library tasks schedule) number ≡ Some (steps library (total schedule number) (start_of library task))
    board_so tasks schedule number task there =
        behind_all schedule (map (start_of library) tasks) number (start_of library task)
        (slice_get-map (start_of library) tasks number ∙ ap (λ (o : Option Task). option_map (start_of library) o) there)

-- what is told of a task is its run's
module _ (p : Program) (task : Task) (total : ℕ) (printed : List ℕ) (run : TaskRun) (stands : Stands p task total printed run) where
  run_is : run_of_task p.library task total ≡ run_of (machine_of p run.vm (alone printed))
  run_is = ap run_of stands.comes

  machine_world : (run_of (machine_of p run.vm (alone printed))).world ≡ world_in p run.vm (alone printed)
  machine_world = world_is p run.vm.end run.vm.paid run.vm.frames.calls (world_in p run.vm (alone printed))

  pub output_so : (run_of_task p.library task total).world.output ≡ printed
  output_so = ap (λ (r : Run). r.world.output) run_is ∙ ap (λ (w : PlainWorld). w.output) machine_world

  pub end_so : (end : Option TaskEnd) → HasEnd run end → RunEnds (run_of_task p.library task total) end
  end_so end has =
      let unfailed : Ends run.vm.arena (standing run.vm.end) end = subst (λ (b : Bool). EndsBy b run end) stands.unfailed has in
      subst (λ (r : Run). RunEnds r end) (sym run_is) (told_end p run.vm (alone printed) end unfailed)

  pub room_so : (room : Room) → IsRoomOf run room → UsesRoom (run_of_task p.library task total).world.heap room
  room_so room is =
      let world = ap (λ (r : Run). r.world) run_is ∙ machine_world in
      subst (λ (w : PlainWorld). UsesRoom w.heap room) (sym world) (record {
        cells = is.cells ∙ sym (length-map run.vm.arena.objects (plain_object p.tables.texts p.tables.tuples));
        bytes = is.bytes;
      })
