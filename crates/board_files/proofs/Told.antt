-- What is told of the runs of a plan.
use Rattle.std.proofs.Common.{◌≡◌, ◌⊎◌, inl, inr, ℕ, zero, suc, ◌+◌, ◌<◌, List, [], ◌∷◌, ◌++◌, length, Option, Some, None, IfSome, Result, Ok, Err, OnErr, refl, sym, ap, subst, ◌∙◌, append_assoc, length-append, arith}
use Rattle.std.specs.Prelude.{slice_get}
use Rattle.std.specs.List.{concat}
use Rattle.std.specs.Io.KnownBytes.{Appends}
use Rattle.std.proofs.KnownBytes.{Appends-trans}
use Rattle.std.proofs.lemmas.Option.{slice_get_within}
use Rattle.mpy_base.specs.declared.room.Room.{Room}
use Rattle.mpy_io.specs.Files.{FileOf}
use Rattle.mpy_io.specs.Told.{AppendsFront}
use Rattle.board_tasks.specs.vm_starting.bc_library.Shelf.{Shelf}
use Rattle.board_tasks.specs.vm_starting.vm_states.Means.{Program}
use Rattle.board_tasks.specs.vm_starting.Programs.{IsProgramOf}
use Rattle.board_plan.specs.declared.plan.Plan.{Plan}
use Rattle.board_plan.specs.declared.plan.Task.{Task}
use Rattle.board_tasks.specs.declared.ending.TaskEnd.{TaskEnd}
use Rattle.board_tasks.specs.declared.turning.TaskRun.{TaskRun}
use Rattle.board_tasks.specs.Alone.{run_of_task}
use Rattle.board_tasks.specs.Ends.{HasEnd, IsRoomOf, RunEnds, UsesRoom}
use Rattle.board_tasks.specs.Opened.{IsOpened, AreOpened}
use Rattle.board_tasks.specs.Schedules.{total}
use Rattle.board_tasks.specs.Turns.{Stands}
use Rattle.board_files.specs.Files.{AreEmpty, KeepsOthers}
use Rattle.board_files.specs.Runs.{HaveOutputs, GoesBy}
use Rattle.board_files.specs.Lines.{TellsRun, TellRuns, PutsLines}
use Rattle.board_files.specs.Summaries.{SaysRun, HasRunBy, run_in}
use Rattle.board_files.specs.Written.{Written}
use Rattle.board_files.proofs.Holding.{start}

-- lines, one by one
-- =================

get_more : {X : Type 0} (xs : List X) (x y : X) (i : ℕ) → slice_get (xs ++ x ∷ []) i ≡ Some y → (slice_get xs i ≡ Some y) ⊎ ((i ≡ length xs) × (x ≡ y))
get_more [] x y zero e = inr (refl, cc)
get_more [] x y (suc i) e = absurd cc
get_more (z ∷ xs) x y zero e = inl e
get_more (z ∷ xs) x y (suc i) e = elim (get_more xs x y i e) [ inl h ↦ inl h | inr h ↦ inr (ap suc h.0, h.1) ]

pub no_line : (runs : List TaskRun) → TellRuns runs 0 []
no_line runs = record { as_many = refl; each = λ number line e. absurd cc }

pub more_lines : (runs : List TaskRun) (count : ℕ) (lines : List (List ℕ)) (line : List ℕ) → TellRuns runs count lines → TellsRun runs count line → TellRuns runs (count + 1) (lines ++ line ∷ [])
more_lines runs count lines line before one = record {
  as_many = length-append lines (line ∷ []) ∙ ap (λ (n : ℕ). n + 1) before.as_many;
  each = λ number other e. elim (get_more lines line other number e) [
    | inl h ↦ before.each number other h
    | inr h ↦ subst (λ (l : List ℕ). TellsRun runs number l) h.1 (subst (λ (n : ℕ). TellsRun runs n line) (sym (h.0 ∙ before.as_many)) one)
  ];
}

-- a line in front of a front of others
pub front_on : (a b c : Option (List ℕ)) (line : List ℕ) (lines : List (List ℕ)) → Appends a b line → AppendsFront b c (concat lines) → AppendsFront a c (concat (line ∷ lines))
front_on a b c line lines first then = record {
  front = line ++ then.front;
  rest = then.rest;
  parts = ap (λ (bs : List ℕ). line ++ bs) then.parts ∙ sym (append_assoc line then.front then.rest);
  added = Appends-trans a b c line then.front first then.added;
}

pub on_err : {A E : Type 0} (r : Result A E) (P Q : Type 0) → (P → Q) → OnErr r P → OnErr r Q
on_err (Ok x) P Q f h = tt
on_err (Err e) P Q f h = f h

-- all runs
-- ========

pub run_at : (runs : List TaskRun) (i : ℕ) → i < length runs → (run : TaskRun) × (slice_get runs i ≡ Some run)
run_at [] i h = absurd (omega (arith, h))
run_at (r ∷ runs) zero h = (r, refl)
run_at (r ∷ runs) (suc i) h = run_at runs i (omega (arith, h))

-- what the law of tasks says of a run
abbrev pub OutputLaw : Type 0
OutputLaw = (p : Program) (task : Task) (total : ℕ) (printed : List ℕ) (run : TaskRun) → Stands p task total printed run → (run_of_task p.library task total).world.output ≡ printed

abbrev pub EndLaw : Type 0
EndLaw = (p : Program) (task : Task) (total : ℕ) (printed : List ℕ) (run : TaskRun) (end : Option TaskEnd) → Stands p task total printed run → HasEnd run end → RunEnds (run_of_task p.library task total) end

abbrev pub RoomLaw : Type 0
RoomLaw = (p : Program) (task : Task) (total : ℕ) (printed : List ℕ) (run : TaskRun) (room : Room) → Stands p task total printed run → IsRoomOf run room → UsesRoom (run_of_task p.library task total).world.heap room

module _ (output : OutputLaw) (end : EndLaw) (room : RoomLaw) (p : Program) (plan : Plan) (runs : List TaskRun) (new : Option FileOf) (h : HaveOutputs p plan.tasks (total plan.turns) runs new) where
  its_run : (number : ℕ) (task : Task) → slice_get plan.tasks number ≡ Some task → (run : TaskRun) × (slice_get runs number ≡ Some run)
  its_run number task at = run_at runs number (let within = slice_get_within plan.tasks number task at in let many = h.as_many in omega arith)

  module _ (Puts : Option (List ℕ) → Option (List ℕ) → List ℕ → Type 0) (before behind : Option (List ℕ)) (puts : PutsLines Puts runs before behind) where
    says : (number : ℕ) (task : Task) (line : List ℕ) → slice_get plan.tasks number ≡ Some task → slice_get puts.lines number ≡ Some line → SaysRun number (run_in p plan number task) line
    says number task line at there =
        let r = its_run number task at in
        let stands = (h.each number task r.0 at r.1).stands in
        let printed = (h.each number task r.0 at r.1).printed in
        let tells = puts.tell.each number line there in
        record {
          end = tells.end;
          ends = end p task (total plan.turns number) printed r.0 tells.end stands (tells.ends r.0 r.1);
          room = tells.room;
          uses = room p task (total plan.turns number) printed r.0 tells.room stands (tells.uses r.0 r.1);
          is = tells.is;
        }

    pub has_run : (old : Option FileOf) → KeepsOthers (length plan.tasks) old new → IfSome old (λ file. (now : FileOf) × (new ≡ Some now) × HasRunBy p plan Puts file now before behind)
    has_run None others = tt
    has_run (Some file) others =
        let same : Some others.0 ≡ Some h.file = sym others.1 ∙ h.told in
        let is : others.0 ≡ h.file = cc in (
          h.file,
          h.told,
          record {
            outputs = λ number task at.
                let r = its_run number task at in
                let has = h.each number task r.0 at r.1 in
                has.holds ∙ ap Some (sym (output p task (total plan.turns number) has.printed r.0 has.stands));
            others = λ name none. ap (λ (f : FileOf). f name) (sym is) ∙ others.2 name none;
            summary = concat puts.lines;
            summarizes = record {
              lines = puts.lines;
              text_is = refl;
              as_many = puts.tell.as_many ∙ h.as_many;
              each = says;
            };
            added = puts.put;
          },
        )

-- where the tasks' runs are told so
abbrev pub HasRunOf : Program → Plan → (Puts : Option (List ℕ) → Option (List ℕ) → List ℕ → Type 0) → (old new : Option FileOf) → (before behind : Option (List ℕ)) → Type 0
HasRunOf p plan Puts old new before behind = IfSome old (λ file. (now : FileOf) × (new ≡ Some now) × HasRunBy p plan Puts file now before behind)

pub all_ran : ((shelf : Shelf) (p : Program) (task : Task) (run : TaskRun) → IsProgramOf shelf p → IsOpened shelf task run → Stands p task 0 [] run) → OutputLaw → EndLaw → RoomLaw
    → (Puts : Option (List ℕ) → Option (List ℕ) → List ℕ → Type 0) (shelf : Shelf) (p : Program) → IsProgramOf shelf p → (plan : Plan) (old new : List TaskRun) (first empty last : Option FileOf) (before behind : Option (List ℕ)) → AreOpened shelf plan.tasks old
    → AreEmpty (length plan.tasks) first empty → GoesBy p plan.turns old new empty last → KeepsOthers (length plan.tasks) first last → PutsLines Puts new before behind
    → HasRunOf p plan Puts first last before behind
all_ran starts output end room Puts shelf p is plan old new None empty last before behind opened begun goes others puts = tt
all_ran starts output end room Puts shelf p is plan old new (Some file) empty last before behind opened begun goes others puts =
    let h = goes plan.tasks (start shelf p (λ task run o. starts shelf p task run is o) plan.tasks old (Some file) empty opened refl begun) in
    has_run output end room p plan new last h Puts before behind puts (Some file) others

pub ran_written : ((shelf : Shelf) (p : Program) (task : Task) (run : TaskRun) → IsProgramOf shelf p → IsOpened shelf task run → Stands p task 0 [] run) → OutputLaw → EndLaw → RoomLaw
    → (Puts : Option (List ℕ) → Option (List ℕ) → List ℕ → Type 0) (shelf : Shelf) (plan : Plan) (old new : List TaskRun) (first last : Option FileOf) (before behind : Option (List ℕ)) → AreOpened shelf plan.tasks old
    → ((p : Program) → IsProgramOf shelf p → Written p plan old new first last) → KeepsOthers (length plan.tasks) first last → PutsLines Puts new before behind
    → (p : Program) → IsProgramOf shelf p → HasRunOf p plan Puts first last before behind
ran_written starts output end room Puts shelf plan old new first last before behind opened written others puts p is =
    let w = written p is in
    all_ran starts output end room Puts shelf p is plan old new first w.empty last before behind opened w.begun w.goes others puts
