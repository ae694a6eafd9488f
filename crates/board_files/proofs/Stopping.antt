-- What the files of tasks hold where a call stopped.
use Rattle.std.proofs.Common.{◌≡◌, ◌≢◌, ◌⊎◌, inl, inr, ℕ, suc, ◌+◌, ◌<◌, ◌≤◌, ◌^◌, ◌==◌, Bool, true, false, List, [], ◌∷◌, ◌++◌, length, Option, Some, None, IsSome, Result, Ok, Err, if◌then◌else◌, refl, sym, ap, subst, ◌∙◌, append_assoc, append-nil, eqb-true, lit<, arith}
use Rattle.std.specs.Prelude.{IfErr, IfSome, slice_get}
use Rattle.std.proofs.lemmas.Bool.{eqb-false}
use Rattle.std.proofs.lemmas.Option.{slice_get_within}
use Rattle.mpy_base.specs.declared.limits.TheConstants.{MAX_TASKS}
use Rattle.mpy_io.specs.Files.{FileOf, Sets, Becomes, BecomesFront, AppendsFile, AppendsFileFront}
use Rattle.board_tasks.specs.vm_starting.bc_library.Shelf.{Shelf}
use Rattle.board_tasks.specs.vm_starting.vm_states.Means.{Program}
use Rattle.board_tasks.specs.vm_starting.Programs.{IsProgramOf}
use Rattle.board_plan.specs.declared.plan.Plan.{Plan}
use Rattle.board_plan.specs.declared.plan.Task.{Task}
use Rattle.board_plan.specs.declared.plan.Turn.{Turn}
use Rattle.board_tasks.specs.declared.ending.TurnEnd.{TurnEnd}
use Rattle.board_tasks.specs.declared.ending.TurnEnd.TheVariants as turns
use Rattle.board_tasks.specs.declared.turning.TaskRun.{TaskRun}
use Rattle.board_tasks.specs.Opened.{IsOpened, AreOpened}
use Rattle.board_tasks.specs.Schedules.{total}
use Rattle.board_tasks.specs.Turns.{TurnsOne, IsMade, Stands}
use Rattle.board_files.specs.declared.stop.OutputStop.{OutputStop}
use Rattle.board_files.specs.declared.stop.OutputStop.TheVariants as stops
use Rattle.board_files.specs.Files.{out_name, AreEmpty, cut_of}
use Rattle.board_files.specs.Runs.{HaveOutputs, HaveStopped, StopsBy, StopsIn, with_steps}
use Rattle.board_files.specs.Stopped.{IsAt, AreMade, some, all, printed_by, HavePrinted, HasBegun, HasBegunIn, HasMade, HasStoppedIn}
use Rattle.board_files.specs.Written.{Written}
use Rattle.board_files.proofs.Names.{same_task}
use Rattle.board_files.proofs.Holding.{TurnLaw, FileGoes, file_goes, its_sum, start, total_more}
use Rattle.board_files.proofs.Loops.{MadeSome, MadeTurns}
use Rattle.board_files.proofs.Told.{OutputLaw, run_at}

-- files that are begun
-- ====================

-- from the task of this number on each file is what it was
abbrev pub KeepsFrom : (from count : ℕ) → (old new : Option FileOf) → Type 0
KeepsFrom from count old new =
    IfSome old (λ file. (now : FileOf) × (new ≡ Some now) × ((number : ℕ) → from ≤ number → number < count → now (out_name number) ≡ file (out_name number)))

pub all_kept : (from count : ℕ) (old : Option FileOf) → KeepsFrom from count old old
all_kept from count None = tt
all_kept from count (Some file) = (file, refl, λ number above below. refl)

pub one_kept : (from count : ℕ) (old between new : Option FileOf) → count < 2 ^ 64 → from < count → KeepsFrom from count old between → Becomes between new (out_name from) []
    → KeepsFrom (suc from) count old new
one_kept from count None between new small within kept b = tt
one_kept from count (Some file) between new small within kept b =
    let sets = subst (λ (o : Option FileOf). Becomes o new (out_name from) []) kept.1 b in (
      sets.0,
      sets.1,
      λ number above below.
          sets.2.others (out_name number) (λ e. apart number above (same_task number from (omega (arith, below, small)) (omega (arith, within, small)) e))
          ∙ kept.2 number (omega (arith, above)) below,
    )
  where
    apart : (number : ℕ) → suc from ≤ number → number ≡ from → ⊥
    apart number above e = omega (arith, above, e)

none_front : (front rest : List ℕ) → [] ≡ front ++ rest → front ≡ []
none_front [] rest e = refl
none_front (x ∷ front) rest e = absurd cc

module _ (task count : ℕ) (cut : Option ℕ) (small : count < 2 ^ 64) (within : task < count) (at : IsAt cut task) where
  small_task : task < 2 ^ 64
  small_task = omega (arith, small, within)

  below_task : (number : ℕ) → number < task → out_name number ≢ out_name task
  below_task number below e = let same = same_task number task (omega (arith, below, small_task)) small_task e in omega (arith, below, same)

  above_task : (number : ℕ) → task < number → number < count → out_name number ≢ out_name task
  above_task number above fits e = let same = same_task number task (omega (arith, fits, small)) small_task e in omega (arith, above, same)

  pub begun_at : (old between new : Option FileOf) → AreEmpty task old between → KeepsFrom task count old between → BecomesFront between new (out_name task) [] → HasBegunIn count cut old new
  begun_at None between new empty kept b = tt
  begun_at (Some file) between new empty kept (inl same) =
      let both : Some kept.0 ≡ Some empty.0 = sym kept.1 ∙ empty.1 in
      let one : kept.0 ≡ empty.0 = cc in (
        kept.0,
        same ∙ kept.1,
        record {
          begun = task;
          at = at;
          empty = λ number below. ap (λ (f : FileOf). f (out_name number)) one ∙ empty.2 number below;
          next = inr (kept.2 task (omega arith) within);
          kept = λ number above fits. kept.2 number (omega (arith, above)) fits;
        },
      )
  begun_at (Some file) between new empty kept (inr b) =
      let both : Some kept.0 ≡ Some empty.0 = sym kept.1 ∙ empty.1 in
      let one : kept.0 ≡ empty.0 = cc in
      let sets = subst (λ (o : Option FileOf). Becomes o new (out_name task) b.0) kept.1 b.3 in (
        sets.0,
        sets.1,
        record {
          begun = task;
          at = at;
          empty = λ number below.
              sets.2.others (out_name number) (below_task number below) ∙ (ap (λ (f : FileOf). f (out_name number)) one ∙ empty.2 number below);
          next = inl (sets.2.here ∙ ap Some (none_front b.0 b.1 b.2));
          kept = λ number above fits. sets.2.others (out_name number) (above_task number above fits) ∙ kept.2 number (omega (arith, above)) fits;
        },
      )

-- what was printed
-- ================

none_more : (b : Bool) (k : ℕ) → k ≡ (if b then 0 else 0) + k
none_more true k = omega arith
none_more false k = omega arith

its_steps : (number i steps k : ℕ) → number ≡ i → k + steps ≡ (if number == i then steps else 0) + k
its_steps number i steps k same = by (number == i) refl where
  by : (b : Bool) → (number == i) ≡ b → k + steps ≡ (if b then steps else 0) + k
  by true e = omega arith
  by false e = absurd (eqb-false number i e same)

other_steps : (number i steps k : ℕ) → number ≢ i → k ≡ (if number == i then steps else 0) + k
other_steps number i steps k apart = by (number == i) refl where
  by : (b : Bool) → (number == i) ≡ b → k ≡ (if b then steps else 0) + k
  by true e = absurd (apart (eqb-true number i e))
  by false e = omega arith

pub same_printed : (p : Program) (tasks : List Task) (f g : ℕ → ℕ) (cut : Option ℕ) (file : FileOf) → ((i : ℕ) → f i ≡ g i) → HavePrinted p tasks f cut file → HavePrinted p tasks g cut file
same_printed p tasks f g cut file same h = record {
  whole = λ number task at other. h.whole number task at other ∙ ap (λ (n : ℕ). Some (printed_by p task n)) (same number);
  front = λ number task at is.
      let was = h.front number task at is in
      (was.0, was.1, ap (λ (n : ℕ). printed_by p task n) (sym (same number)) ∙ was.2, was.3);
}

module _ (output : OutputLaw) (p : Program) (tasks : List Task) where
  module _ (steps_of : ℕ → ℕ) (runs : List TaskRun) (files : Option FileOf) (h : HaveOutputs p tasks steps_of runs files) where
    printed : (i : ℕ) (task : Task) → slice_get tasks i ≡ Some task → h.file (out_name i) ≡ Some (printed_by p task (steps_of i))
    printed i task at =
        let run = run_at runs i (let within = slice_get_within tasks i task at in let many = h.as_many in omega arith) in
        let has = h.each i task run.0 at run.1 in
        has.holds ∙ ap Some (sym (output p task (steps_of i) has.printed run.0 has.stands))

    pub all_printed : HavePrinted p tasks steps_of None h.file
    all_printed = record {
      whole = λ number task at other. printed number task at;
      front = λ number task at is. absurd (let wrong : ◌≡◌ {A = Option ℕ} None (Some number) = is in cc);
    }

    pub starved_part : (number steps : ℕ) (behind : Option FileOf) → behind ≡ files
        → (made : ℕ) × (made ≤ steps) × HaveStopped p tasks (with_steps number made steps_of) None behind
    starved_part number steps behind same =
        (0, omega arith, (h.file, same ∙ h.told, same_printed p tasks steps_of (with_steps number 0 steps_of) None h.file (λ i. none_more (number == i) (steps_of i)) all_printed))

  -- a turn whose output isn't all in the task's file
  module _ (law : TurnLaw) (shelf : Shelf) (is : IsProgramOf shelf p) (number steps : ℕ) (old new : List TaskRun) (bytes : List ℕ) (end : TurnEnd)
      (turn : TurnsOne shelf number steps old new (Some []) (Some bytes) end) (made : IsMade end) (few : length old ≤ MAX_TASKS) (before behind : Option FileOf)
      (steps_of : ℕ → ℕ) (h : HaveOutputs p tasks steps_of old before) where
    small : (i : ℕ) → i < length old → i < 2 ^ 64
    small i within = let most : MAX_TASKS < 2 ^ 64 = lit< tt in omega (arith, within, few, most)

    module _ (front rest : List ℕ) (parts : bytes ≡ front ++ rest) (goes : FileGoes number front h.file behind) where
      other : (i : ℕ) (task : Task) → slice_get tasks i ≡ Some task → number ≢ i → goes.now (out_name i) ≡ Some (printed_by p task (with_steps number steps steps_of i))
      other i task at apart =
          let within = slice_get_within tasks i task at in
          let fits : i < length old = let many = h.as_many in omega arith in
          goes.others i (small i fits) apart
          ∙ (printed steps_of old before h i task at ∙ ap (λ (n : ℕ). Some (printed_by p task n)) (other_steps number i steps (steps_of i) apart))

      its : (i : ℕ) (task : Task) → slice_get tasks i ≡ Some task → number ≡ i
          → (begun : List ℕ) × (left : List ℕ) × (printed_by p task (with_steps number steps steps_of i) ≡ begun ++ left) × (goes.now (out_name i) ≡ Some begun)
      its i task at same =
          let here : slice_get old i ≡ Some turn.was = ap (slice_get old) (sym same) ∙ turn.here in
          let was = h.each i task turn.was at here in
          let on = law shelf p task (steps_of i) steps was.printed turn.was turn.is (Some []) (Some bytes) end is refl was.stands turn.turn made in
          let more : on.more ≡ bytes = sym on.put in
          let name : out_name number ≡ out_name i = ap out_name same in
          let holds : goes.now (out_name number) ≡ Some (was.printed ++ front) = goes.here was.printed (ap h.file name ∙ was.holds) in
          let prints = output p task (steps_of i + steps) (was.printed ++ on.more) turn.is on.stands in (
            was.printed ++ front,
            rest,
            ap (λ (n : ℕ). printed_by p task n) (sym (its_steps number i steps (steps_of i) same))
                ∙ (prints ∙ (ap (λ (out : List ℕ). was.printed ++ out) (more ∙ parts) ∙ sym (append_assoc was.printed front rest))),
            ap goes.now (sym name) ∙ holds,
          )

      cut_by : (t : ℕ) → t ≡ number → (made : ℕ) × (made ≤ steps) × HaveStopped p tasks (with_steps number made steps_of) (Some t) behind
      cut_by t same = (
        steps,
        omega arith,
        (
          goes.now,
          goes.told,
          record {
            whole = λ i task at not. other i task at (λ e. not (ap Some (same ∙ e)));
            front = λ i task at it. its i task at (let here : t ≡ i = cc in sym same ∙ here);
          },
        ),
      )

    pub cut_part : (t : ℕ) → t ≡ number → AppendsFileFront before behind (out_name number) bytes → (made : ℕ) × (made ≤ steps) × HaveStopped p tasks (with_steps number made steps_of) (Some t) behind
    cut_part t same (inl stays) =
        cut_by [] bytes refl (file_goes number [] before behind h.file (small number (slice_get_within old number turn.was turn.here)) h.told (inr (refl, stays))) t same
    cut_part t same (inr b) =
        cut_by b.0 b.1 b.2 (file_goes number b.0 before behind h.file (small number (slice_get_within old number turn.was turn.here)) h.told (inl b.3)) t same

pub went_stops : TurnLaw → OutputLaw → (shelf : Shelf) (number steps : ℕ) (old new : List TaskRun) (none bytes given : List ℕ) → none ≡ [] → given ≡ bytes
    → TurnsOne shelf number steps old new (Some none) (Some bytes) turns.Went → length old ≤ MAX_TASKS → (before behind : Option FileOf) (r : Result (Unit {0}) OutputStop)
    → IfErr r (λ stop. IsAt (cut_of stop) number × AppendsFileFront before behind (out_name number) given) → (r ≡ Err stops.NoMemory → behind ≡ before)
    → IfErr r (λ stop. (p : Program) → IsProgramOf shelf p → StopsIn p number steps (cut_of stop) old before behind)
went_stops law output shelf number steps old new none bytes given empty same turn few before behind (Ok done) at starved = tt
went_stops law output shelf number steps old new none bytes given empty same turn few before behind (Err (stops.Unwritten t)) at starved = λ p is tasks steps_of h.
    cut_part output p tasks law shelf is number steps old new bytes turns.Went (subst (λ (z : List ℕ). TurnsOne shelf number steps old new (Some z) (Some bytes) turns.Went) empty turn) tt few before behind steps_of h
    t at.0 (subst (λ (z : List ℕ). AppendsFileFront before behind (out_name number) z) same at.1)
went_stops law output shelf number steps old new none bytes given empty same turn few before behind (Err stops.NoMemory) at starved = λ p is tasks steps_of h.
    starved_part output p tasks steps_of old before h number steps behind (starved refl)

pub starved_stops : OutputLaw → (p : Program) (number steps : ℕ) (old : List TaskRun) (files : Option FileOf) → StopsIn p number steps None old files files
starved_stops output p number steps old files = λ tasks steps_of h. starved_part output p tasks steps_of old files h number steps files refl

-- behind some parts of a turn
pub part_stops : (shelf : Shelf) (number steps left part : ℕ) (old now : List TaskRun) (before between behind : Option FileOf) (cut : Option ℕ) → part ≤ left
    → MadeSome shelf number steps left old now before between → ((p : Program) → IsProgramOf shelf p → StopsIn p number part cut now between behind)
    → (p : Program) → IsProgramOf shelf p → StopsIn p number steps cut old before behind
part_stops shelf number steps left part old now before between behind cut within m stopped p is tasks steps_of h =
    let stop = stopped p is tasks (with_steps number m.made steps_of) (m.goes p is tasks steps_of h) in
    let sum = m.sum in
    let most = stop.1 in (
      m.made + stop.0,
      omega (arith, sum, within, most),
      (
        stop.2.0,
        stop.2.1,
        same_printed p tasks (with_steps number stop.0 (with_steps number m.made steps_of)) (with_steps number (m.made + stop.0) steps_of) cut stop.2.0
            (λ i. its_sum (number == i) m.made stop.0 (steps_of i)) stop.2.2,
      ),
    )

-- behind some turns
pub turn_stops : (shelf : Shelf) (turns : List Turn) (turn : Turn) (rest more : List Turn) (old now : List TaskRun) (before between behind : Option FileOf) (cut : Option ℕ) → more ≡ turn ∷ rest
    → MadeTurns shelf turns more old now before between → ((p : Program) → IsProgramOf shelf p → StopsIn p turn.task turn.steps cut now between behind)
    → (p : Program) → IsProgramOf shelf p → StopsBy p turns cut old before behind
turn_stops shelf turns turn rest more old now before between behind cut next m stopped p is tasks h =
    let r = m.reaches p is in
    let stop = stopped p is tasks r.steps_of (r.goes tasks h) in
    let part : Turn = record { task = turn.task; steps = stop.0 } in (
      r.done ++ part ∷ [],
      some r.done rest turn stop.0 (r.split ∙ ap (λ (ts : List Turn). r.done ++ ts) next) stop.1,
      (
        stop.2.0,
        stop.2.1,
        same_printed p tasks (with_steps turn.task stop.0 r.steps_of) (total (r.done ++ part ∷ [])) cut stop.2.0
            (λ i. ap (λ (n : ℕ). (if turn.task == i then stop.0 else 0) + n) (r.are i) ∙ sym (total_more r.done part i)) stop.2.2,
      ),
    )

-- the run of a plan
-- =================

pub begun_stops : (p : Program) (plan : Plan) (cut : Option ℕ) (count : ℕ) (old new : Option FileOf) → count ≡ length plan.tasks → HasBegunIn count cut old new → HasStoppedIn p plan cut old new
begun_stops p plan cut count None new same h = tt
begun_stops p plan cut count (Some file) new same h = (h.0, h.1, inl (subst (λ (n : ℕ). HasBegun n cut file h.0) same h.2))

-- nothing was done
pub untouched_stops : (p : Program) (plan : Plan) (files : Option FileOf) → HasStoppedIn p plan None files files
untouched_stops p plan None = tt
untouched_stops p plan (Some file) = (
  file,
  refl,
  inl (record { begun = 0; at = tt; empty = λ number below. absurd (omega (arith, below)); next = inr refl; kept = λ number above fits. refl }),
)

abbrev pub StartLaw : Type 0
StartLaw = (shelf : Shelf) (p : Program) (task : Task) (run : TaskRun) → IsProgramOf shelf p → IsOpened shelf task run → Stands p task 0 [] run

module _ (starts : StartLaw) (shelf : Shelf) (plan : Plan) (old : List TaskRun) (opened : AreOpened shelf plan.tasks old) where
  pub made_stops : (made : List Turn) (first empty last : Option FileOf) (r : Result (Unit {0}) OutputStop) → made ≡ plan.turns → AreEmpty (length plan.tasks) first empty
      → IfErr r (λ stop. (p : Program) → IsProgramOf shelf p → StopsBy p made (cut_of stop) old empty last)
      → IfErr r (λ stop. (p : Program) → IsProgramOf shelf p → HasStoppedIn p plan (cut_of stop) first last)
  made_stops made first empty last (Ok done) same begun stopped = tt
  made_stops made first empty last (Err stop) same begun stopped = λ p is. by first begun p is where
    by : (o : Option FileOf) → AreEmpty (length plan.tasks) o empty → (p : Program) → IsProgramOf shelf p → HasStoppedIn p plan (cut_of stop) o last
    by None begun p is = tt
    by (Some file) begun p is =
        let h = start shelf p (λ task run o. starts shelf p task run is o) plan.tasks old (Some file) empty opened refl begun in
        let s = stopped p is plan.tasks h in
        (s.2.0, s.2.1, inr (record { made = s.0; are_made = subst (λ (ts : List Turn). AreMade ts s.0) same s.1; printed = s.2.2 }))

  -- all turns were made
  pub whole_stops : OutputLaw → (new : List TaskRun) (first last : Option FileOf) (p : Program) → IsProgramOf shelf p → Written p plan old new first last → HasStoppedIn p plan None first last
  whole_stops output new first last p is w = by first w.begun where
    by : (o : Option FileOf) → AreEmpty (length plan.tasks) o w.empty → HasStoppedIn p plan None o last
    by None begun = tt
    by (Some file) begun =
        let h = w.goes plan.tasks (start shelf p (λ task run o. starts shelf p task run is o) plan.tasks old (Some file) w.empty opened refl begun) in
        (h.file, h.told, inr (record { made = plan.turns; are_made = all; printed = all_printed output p plan.tasks (total plan.turns) new last h }))
