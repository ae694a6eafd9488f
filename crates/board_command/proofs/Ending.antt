-- How the command ends.
use Rattle.std.proofs.Common.{◌≡◌, inl, inr, ℕ, ◌<◌, ◌≤◌, List, [], length, Option, Some, None, Result, Ok, Err, OnOk, refl, sym, subst, append-nil, arith}
use Rattle.std.specs.Io.KnownBytes.{Keeps}
use Rattle.std.proofs.KnownBytes.{Appends-kept}
use Rattle.mpy_base.specs.declared.limits.TheConstants.{MAX_TASKS}
use Rattle.mpy_io.specs.Files.{FileOf}
use Rattle.meant_files.specs.image_open.bc_library.Shelf.{Shelf}
use Rattle.board_files.specs.vm_starting.vm_states.Means.{Program}
use Rattle.board_files.specs.vm_starting.Programs.{IsProgramOf}
use Rattle.board_plan.specs.declared.plan.Plan.{Plan}
use Rattle.board_files.specs.board_tasks.Opened.{first_missing}
use Rattle.board_files.specs.declared.stop.BoardStop.{BoardStop}
use Rattle.board_files.specs.declared.stop.BoardStop.TheVariants as stops
use Rattle.board_files.specs.Files.{KeepsOthers}
use Rattle.board_files.specs.Stopped.{HasStoppedIn}
use Rattle.board_files.specs.Summaries.{HasRunIn, HasRunFrontIn}
use Rattle.command_files.specs.mpy_endings.declared.ending.Ending.{Ending}
use Rattle.command_files.specs.mpy_endings.declared.ending.Ending.TheVariants.{Done, Unaccepted, Unread, Unverified, Unmerged, Unopened, Unfrozen, Unboarded, Different, Stopped, ReadFault, WriteFault, Unwritten, NoMemory, Absent}
use Rattle.command_files.specs.mpy_endings.declared.ending.BoardFault.TheVariants as boards
use Rattle.command_files.specs.Images.{HoldsImage}
use Rattle.board_command.specs.Plans.{RefusesPlan}
use Rattle.board_command.specs.Boards.{Boards, Holds, Untouched}
use Rattle.board_command.specs.Ends.{ending_of}

keeps_same : (told : Option (List ℕ)) → Keeps told told
keeps_same None = tt
keeps_same (Some bytes) = refl

-- the plan is refused
module _ (below : Shelf) (image plan_name : List ℕ) (old new : Option FileOf) (told : Option (List ℕ)) where
  untouched : new ≡ old → Untouched old new told told
  untouched e = record { files = e; prints = keeps_same told }

  pub plan_refused : (shelf : Shelf) (ending : Ending) → new ≡ old → HoldsImage below old image shelf → RefusesPlan old plan_name ending → Boards below image plan_name old new told told 2 ending
  plan_refused shelf Done e opened h = absurd h
  plan_refused shelf (Unaccepted fault) e opened h = absurd h
  plan_refused shelf (Unread fault) e opened h = absurd h
  plan_refused shelf (Unverified fault) e opened h = absurd h
  plan_refused shelf (Unmerged fault) e opened h = absurd h
  plan_refused shelf (Unopened fault) e opened h = absurd h
  plan_refused shelf (Unfrozen fault) e opened h = absurd h
  plan_refused shelf (Unboarded (boards.Plan fault)) e opened h = (inr (shelf, opened, h, refl), untouched e)
  plan_refused shelf (Unboarded (boards.NoModule name)) e opened h = absurd h
  plan_refused shelf (Unboarded (boards.Unwritten task)) e opened h = absurd h
  plan_refused shelf (Different difference) e opened h = absurd h
  plan_refused shelf (Stopped stop) e opened h = absurd h
  plan_refused shelf ReadFault e opened h = (inr (shelf, opened, h, refl), untouched e)
  plan_refused shelf WriteFault e opened h = absurd h
  plan_refused shelf Unwritten e opened h = absurd h
  plan_refused shelf NoMemory e opened h = inl (untouched e)
  plan_refused shelf Absent e opened h = (inr (shelf, opened, h, refl), untouched e)

-- the plan was run, or its run stopped
-- ====================================

-- what is told of a run
pub record Told (shelf : Shelf) (plan : Plan) (old new : Option FileOf) (before behind : Option (List ℕ)) (ran : Result (Unit {0}) BoardStop) : Type 0 where
  pub whole : OnOk ran ((p : Program) → IsProgramOf shelf p → HasRunIn p plan old new before behind)
  pub all_there : OnOk ran (first_missing shelf plan.tasks ≡ None)
  pub missing : (name : List ℕ) → ran ≡ Err (stops.NoModule name) → (first_missing shelf plan.tasks ≡ Some name) × (new ≡ old) × (behind ≡ before)
  pub unwritten : (task : ℕ) → ran ≡ Err (stops.Unwritten task) → (task < length plan.tasks) × (first_missing shelf plan.tasks ≡ None) × (behind ≡ before)
  pub unput : ran ≡ Err stops.WriteFault → (first_missing shelf plan.tasks ≡ None) × ((p : Program) → IsProgramOf shelf p → HasRunFrontIn p plan old new before behind)
  pub cut : (task : ℕ) → ran ≡ Err (stops.Unwritten task) → (p : Program) → IsProgramOf shelf p → HasStoppedIn p plan (Some task) old new
  pub starved : ran ≡ Err stops.NoMemory → behind ≡ before
  pub short : ran ≡ Err stops.NoMemory → (p : Program) → IsProgramOf shelf p → HasStoppedIn p plan None old new
  pub others : KeepsOthers (length plan.tasks) old new

keeps : (before behind : Option (List ℕ)) → behind ≡ before → Keeps before behind
keeps before behind e = subst (Keeps before) (sym e) (keeps_same before)

pub run_ended : (below : Shelf) (image plan_name : List ℕ) (old new : Option FileOf) (before behind : Option (List ℕ)) (shelf : Shelf) (plan : Plan) (ran : Result (Unit {0}) BoardStop)
    → Holds below image plan_name old shelf plan → Told shelf plan old new before behind ran → Boards below image plan_name old new before behind 2 (ending_of ran)
run_ended below image plan_name old new before behind shelf plan (Ok done) holds t = (shelf, plan, record { holds = holds; modules = t.all_there }, t.whole)
run_ended below image plan_name old new before behind shelf plan (Err (stops.NoModule name)) holds t =
    let m = t.missing name refl in (shelf, plan, holds, m.0, refl, record { files = m.1; prints = keeps before behind m.2 })
run_ended below image plan_name old new before behind shelf plan (Err (stops.Unwritten task)) holds t =
    let u = t.unwritten task refl in (shelf, plan, record { holds = holds; modules = u.1 }, (u.0, record { outputs = t.cut task refl; others = t.others; prints = keeps before behind u.2 }))
run_ended below image plan_name old new before behind shelf plan (Err stops.WriteFault) holds t =
    let u = t.unput refl in (shelf, plan, record { holds = holds; modules = u.0 }, u.1)
run_ended below image plan_name old new before behind shelf plan (Err stops.NoMemory) holds t =
    inr (shelf, plan, holds, record { outputs = t.short refl; others = t.others; prints = keeps before behind (t.starved refl) })

-- no file but those of sixteen tasks
pub others_within : (count : ℕ) (old new : Option FileOf) → count ≤ MAX_TASKS → KeepsOthers count old new → KeepsOthers MAX_TASKS old new
others_within count None new few h = tt
others_within count (Some file) new few h = (h.0, h.1, λ name none. h.2 name (λ task within. none task (omega (arith, within, few))))

-- what was printed isn't handed on

pub unflushed : (below : Shelf) (image plan_name : List ℕ) (old new : Option FileOf) (before behind last : Option (List ℕ)) (place : ℕ) → Keeps behind last
    → Boards below image plan_name old new before behind place Done → Boards below image plan_name old new before last place WriteFault
unflushed below image plan_name old new before behind last place kept (shelf, plan, can, ran) = (shelf, plan, can, λ p is. front p old (ran p is))
  where
    front : (p : Program) (files : Option FileOf) → HasRunIn p plan files new before behind → HasRunFrontIn p plan files new before last
    front p None h = tt
    front p (Some file) h = (
      h.0,
      h.1,
      record {
        outputs = h.2.outputs;
        others = h.2.others;
        summary = h.2.summary;
        summarizes = h.2.summarizes;
        added = record { front = h.2.summary; rest = []; parts = sym (append-nil h.2.summary); added = Appends-kept before behind last h.2.summary h.2.added kept };
      },
    )
