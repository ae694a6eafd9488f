-- Tasks go further, and their files with them.
use Rattle.std.proofs.Common.{◌≡◌, ◌≢◌, inl, inr, ℕ, zero, suc, ◌+◌, ◌<◌, ◌≤◌, ◌^◌, ◌==◌, Bool, true, false, List, [], ◌∷◌, ◌++◌, length, set, Option, Some, None, IsSome, Result, Ok, Err, OnOk, if◌then◌else◌, refl, sym, ap, subst, ◌∙◌, append_assoc, append-nil, eqb-true, lit<, arith}
use Rattle.std.specs.Prelude.{All, slice_get}
use Rattle.std.proofs.lemmas.Bool.{eqb-false}
use Rattle.std.proofs.lemmas.List.Elements.{All-nil, All-cons, All-set, All-weaker}
use Rattle.std.proofs.lemmas.Option.{slice_get_within, get_or_from_slice_get}
use Rattle.mpy_base.specs.declared.limits.TheConstants.{MAX_TASKS}
use Rattle.mpy_io.specs.Files.{FileOf, AppendsFile, appended}
use Rattle.board_tasks.specs.vm_starting.bc_library.Shelf.{Shelf}
use Rattle.board_tasks.specs.vm_starting.vm_states.Means.{Program}
use Rattle.board_tasks.specs.vm_starting.Programs.{IsProgramOf}
use Rattle.board_plan.specs.declared.plan.Task.{Task}
use Rattle.board_plan.specs.declared.plan.Turn.{Turn}
use Rattle.board_tasks.specs.declared.ending.TurnEnd.{TurnEnd}
use Rattle.board_tasks.specs.declared.ending.TurnEnd.TheVariants as turns
use Rattle.board_tasks.specs.declared.turning.TaskRun.{TaskRun}
use Rattle.board_tasks.specs.Opened.{IsOpened, AreOpened}
use Rattle.board_tasks.specs.Schedules.{total}
use Rattle.board_tasks.specs.Turns.{AreRuns, TurnsSo, TurnsOne, IsMade, Stands, StandsOn}
use Rattle.board_files.specs.declared.stop.OutputStop.{OutputStop}
use Rattle.board_files.specs.Files.{out_name, Adds, AreEmpty}
use Rattle.board_files.specs.Runs.{HasOutput, HaveOutputs, with_steps, Goes, GoesBy, PaidWithin}
use Rattle.board_files.proofs.Names.{same_task}

-- what the law of tasks says of a turn
abbrev pub TurnLaw : Type 0
TurnLaw = (shelf : Shelf) (p : Program) (task : Task) (total count : ℕ) (printed : List ℕ) (old new : TaskRun) (before behind : Option (List ℕ)) (end : TurnEnd)
    → IsProgramOf shelf p → IsSome before → Stands p task total printed old → TurnsSo shelf count old new before behind end → IsMade end
    → StandsOn p task (total + count) printed new before behind

-- a list with another element
get_same : {X : Type 0} (xs : List X) (i : ℕ) (x y : X) → slice_get xs i ≡ Some x → slice_get (set xs i y) i ≡ Some y
get_same [] i x y there = absurd cc
get_same (z ∷ xs) zero x y there = refl
get_same (z ∷ xs) (suc i) x y there = get_same xs i x y there

get_other : {X : Type 0} (xs : List X) (i k : ℕ) (y : X) → k ≢ i → slice_get (set xs k y) i ≡ slice_get xs i
get_other [] i k y apart = refl
get_other (z ∷ xs) zero zero y apart = absurd (apart refl)
get_other (z ∷ xs) zero (suc k) y apart = refl
get_other (z ∷ xs) (suc i) zero y apart = refl
get_other (z ∷ xs) (suc i) (suc k) y apart = get_other xs i k y (λ e. apart (ap suc e))

set_length : {X : Type 0} (xs : List X) (i : ℕ) (y : X) → length (set xs i y) ≡ length xs
set_length [] i y = refl
set_length (x ∷ xs) zero y = refl
set_length (x ∷ xs) (suc i) y = ap suc (set_length xs i y)

pub as_many : (old new : List TaskRun) (number : ℕ) (run : TaskRun) → new ≡ set old number run → length new ≡ length old
as_many old new number run e = ap (λ (runs : List TaskRun). length runs) e ∙ set_length old number run

-- files
-- =====

-- the file of a task has more, and those of other tasks are what they were
pub record FileGoes (number : ℕ) (printed : List ℕ) (file : FileOf) (behind : Option FileOf) : Type 0 where
  pub now : FileOf
  pub told : behind ≡ Some now
  pub here : (old : List ℕ) → file (out_name number) ≡ Some old → now (out_name number) ≡ Some (old ++ printed)
  pub others : (i : ℕ) → i < 2 ^ 64 → number ≢ i → now (out_name i) ≡ file (out_name i)

pub file_goes : (number : ℕ) (printed : List ℕ) (before behind : Option FileOf) (file : FileOf) → number < 2 ^ 64 → before ≡ Some file → Adds before behind (out_name number) printed → FileGoes number printed file behind
file_goes number printed before behind file small told (inl a) =
    let b = subst (λ (o : Option FileOf). AppendsFile o behind (out_name number) printed) told a in
    record {
      now = b.0;
      told = b.1;
      here = λ old e. b.2.here ∙ ap (λ (o : Option (List ℕ)). Some (appended o printed)) e;
      others = λ i small_i apart. b.2.others (out_name i) (λ e. apart (sym (same_task i number small_i small e)));
    }
file_goes number printed before behind file small told (inr n) = record {
  now = file;
  told = n.1 ∙ told;
  here = λ old e. e ∙ ap Some (sym (append-nil old) ∙ ap (λ (more : List ℕ). old ++ more) (sym n.0));
  others = λ i small_i apart. refl;
}

-- turns
-- =====

module _ (law : TurnLaw) (shelf : Shelf) (p : Program) (is : IsProgramOf shelf p) (number steps : ℕ) (old new : List TaskRun) (bytes : List ℕ) (end : TurnEnd) (turn : TurnsOne shelf number steps old new (Some []) (Some bytes) end) (made : IsMade end)
    (before behind : Option FileOf) (adds : Adds before behind (out_name number) bytes) (few : length old ≤ MAX_TASKS) where
  small : (i : ℕ) (run : TaskRun) → slice_get old i ≡ Some run → i < 2 ^ 64
  small i run there = let within : i < length old = slice_get_within old i run there in let most : MAX_TASKS < 2 ^ 64 = lit< tt in omega (arith, within, few, most)

  abbrev its : Bool → ℕ → ℕ
  its b n = if b then n else 0

  module _ (tasks : List Task) (steps_of : ℕ → ℕ) (h : HaveOutputs p tasks steps_of old before) where
    goes : FileGoes number bytes h.file behind
    goes = file_goes number bytes before behind h.file (small number turn.was turn.here) h.told adds

    -- the task whose turn it was
    its_turn : (i : ℕ) (task : Task) (run : TaskRun) → number ≡ i → slice_get tasks i ≡ Some task → slice_get new i ≡ Some run → HasOutput p task (steps + steps_of i) run (goes.now (out_name i))
    its_turn i task run same at there =
        let here : slice_get old i ≡ Some turn.was = ap (slice_get old) (sym same) ∙ turn.here in
        let after : slice_get new i ≡ Some turn.is = ap (λ (runs : List TaskRun). slice_get runs i) turn.others ∙ (ap (λ (n : ℕ). slice_get (set old n turn.is) i) same ∙ get_same old i turn.was turn.is here) in
        let run_is : turn.is ≡ run = cc in
        let was = h.each i task turn.was at here in
        let on = law shelf p task (steps_of i) steps was.printed turn.was turn.is (Some []) (Some bytes) end is refl was.stands turn.turn made in
        let more : on.more ≡ bytes = sym on.put in
        let name : out_name number ≡ out_name i = ap out_name same in
        let holds : goes.now (out_name number) ≡ Some (was.printed ++ bytes) = goes.here was.printed (ap h.file name ∙ was.holds) in
        subst (λ (r : TaskRun). HasOutput p task (steps + steps_of i) r (goes.now (out_name i))) run_is (record {
          printed = was.printed ++ bytes;
          holds = ap goes.now (sym name) ∙ holds;
          stands =
              subst (λ (out : List ℕ). Stands p task (steps + steps_of i) (was.printed ++ out) turn.is) more
              (subst (λ (n : ℕ). Stands p task n (was.printed ++ on.more) turn.is) (omega arith) on.stands);
        })

    -- the others
    stays : (i : ℕ) (task : Task) (run : TaskRun) → number ≢ i → slice_get tasks i ≡ Some task → slice_get new i ≡ Some run → HasOutput p task (0 + steps_of i) run (goes.now (out_name i))
    stays i task run apart at there =
        let here : slice_get old i ≡ Some run = sym (get_other old i number turn.is apart) ∙ (ap (λ (runs : List TaskRun). slice_get runs i) (sym turn.others) ∙ there) in
        let was = h.each i task run at here in
        record {
          printed = was.printed;
          holds = goes.others i (small i run here) apart ∙ was.holds;
          stands = subst (λ (n : ℕ). Stands p task n was.printed run) (omega arith) was.stands;
        }

    each_by : (b : Bool) (i : ℕ) → (number == i) ≡ b → (task : Task) (run : TaskRun) → slice_get tasks i ≡ Some task → slice_get new i ≡ Some run → HasOutput p task (its b steps + steps_of i) run (goes.now (out_name i))
    each_by true i same task run at there = its_turn i task run (eqb-true number i same) at there
    each_by false i other task run at there = stays i task run (eqb-false number i other) at there

    part_of : HaveOutputs p tasks (with_steps number steps steps_of) new behind
    part_of = record {
      file = goes.now;
      told = goes.told;
      as_many = as_many old new number turn.is turn.others ∙ h.as_many;
      each = λ i task run at there. each_by (number == i) i refl task run at there;
    }

  pub part : Goes p number steps old new before behind
  part = λ tasks steps_of h. part_of tasks steps_of h

pub went_so : TurnLaw → (shelf : Shelf) (number steps : ℕ) (old new : List TaskRun) (none bytes given : List ℕ) → none ≡ [] → given ≡ bytes → TurnsOne shelf number steps old new (Some none) (Some bytes) turns.Went
    → length old ≤ MAX_TASKS → (before behind : Option FileOf) (r : Result (Unit {0}) OutputStop) → OnOk r (Adds before behind (out_name number) given)
    → OnOk r ((p : Program) → IsProgramOf shelf p → Goes p number steps old new before behind)
went_so law shelf number steps old new none bytes given empty same turn few before behind (Ok done) adds = λ p is.
    part law shelf p is number steps old new bytes turns.Went (subst (λ (t : List ℕ). TurnsOne shelf number steps old new (Some t) (Some bytes) turns.Went) empty turn) tt before behind
    (subst (λ (t : List ℕ). Adds before behind (out_name number) t) same adds) few
went_so law shelf number steps old new none bytes given empty same turn few before behind (Err e) adds = tt

pub over_so : TurnLaw → (shelf : Shelf) (number steps : ℕ) (old new : List TaskRun) (none bytes : List ℕ) → none ≡ [] → TurnsOne shelf number steps old new (Some none) (Some bytes) turns.Over
    → length old ≤ MAX_TASKS → (files : Option FileOf) (p : Program) → IsProgramOf shelf p → Goes p number steps old new files files
over_so law shelf number steps old new none bytes empty turn few files p is =
    let stays = turn.turn.2 in
    let same : bytes ≡ none = cc in
    part law shelf p is number steps old new bytes turns.Over (subst (λ (t : List ℕ). TurnsOne shelf number steps old new (Some t) (Some bytes) turns.Over) empty turn) tt files files (inr (same ∙ empty, refl)) few

-- steps that are as many
pub same_steps : (p : Program) (tasks : List Task) (f g : ℕ → ℕ) (runs : List TaskRun) (files : Option FileOf) → ((i : ℕ) → f i ≡ g i) → HaveOutputs p tasks f runs files → HaveOutputs p tasks g runs files
same_steps p tasks f g runs files same h = record {
  file = h.file;
  told = h.told;
  as_many = h.as_many;
  each = λ i task run at there. subst (λ (n : ℕ). HasOutput p task n run (h.file (out_name i))) (same i) (h.each i task run at there);
}

pub its_sum : (b : Bool) (m n k : ℕ) → (if b then n else 0) + ((if b then m else 0) + k) ≡ (if b then m + n else 0) + k
its_sum true m n k = omega arith
its_sum false m n k = omega arith

its_none : (b : Bool) (k : ℕ) → k ≡ (if b then 0 else 0) + k
its_none true k = omega arith
its_none false k = omega arith

pub goes_none : (p : Program) (number : ℕ) (runs : List TaskRun) (files : Option FileOf) → Goes p number 0 runs runs files files
goes_none p number runs files = λ tasks f h. same_steps p tasks f (with_steps number 0 f) runs files (λ i. its_none (number == i) (f i)) h

pub goes_on : (p : Program) (number m n : ℕ) (a b c : List TaskRun) (x y z : Option FileOf) → Goes p number m a b x y → Goes p number n b c y z → Goes p number (m + n) a c x z
goes_on p number m n a b c x y z first later = λ tasks f h.
    same_steps p tasks (with_steps number n (with_steps number m f)) (with_steps number (m + n) f) c z (λ i. its_sum (number == i) m n (f i)) (later tasks (with_steps number m f) (first tasks f h))

-- what was paid
pub paid_on : (old new : List TaskRun) (number steps paid : ℕ) (was is : TaskRun) → slice_get old number ≡ Some was → new ≡ set old number is → is.vm.paid ≤ was.vm.paid + steps → PaidWithin old paid → PaidWithin new (paid + steps)
paid_on old new number steps paid was is here others more within =
    let at : was.vm.paid ≤ paid = paid_at old number was paid here within in
    subst (λ (runs : List TaskRun). PaidWithin runs (paid + steps)) (sym others)
    (All-set (λ (r : TaskRun). r.vm.paid ≤ paid + steps) old number is (omega (arith, at, more))
    (All-weaker (λ (r : TaskRun). r.vm.paid ≤ paid) (λ (r : TaskRun). r.vm.paid ≤ paid + steps) (λ r h. omega (arith, h)) old within))
  where
    paid_at : (runs : List TaskRun) (i : ℕ) (run : TaskRun) (most : ℕ) → slice_get runs i ≡ Some run → PaidWithin runs most → run.vm.paid ≤ most
    paid_at runs i run most there all = subst (λ (r : TaskRun). r.vm.paid ≤ most) (get_or_from_slice_get runs i run run there) (all i run (slice_get_within runs i run there))

-- schedules
-- =========

swap_sum : (a b c : ℕ) → a + (b + c) ≡ b + (a + c)
swap_sum a b c = omega arith

-- the steps of a task with one more turn
pub total_more : (turns : List Turn) (turn : Turn) (i : ℕ) → total (turns ++ turn ∷ []) i ≡ (if turn.task == i then turn.steps else 0) + total turns i
total_more [] turn i = refl
total_more (t ∷ turns) turn i =
    ap (λ (n : ℕ). (if t.task == i then t.steps else 0) + n) (total_more turns turn i)
    ∙ swap_sum (if t.task == i then t.steps else 0) (if turn.task == i then turn.steps else 0) (total turns i)

-- the turns but these were made
pub record Reaches (p : Program) (turns rest : List Turn) (old now : List TaskRun) (before behind : Option FileOf) : Type 0 where
  pub steps_of : ℕ → ℕ
  pub goes : (tasks : List Task) → HaveOutputs p tasks (λ (number : ℕ). 0) old before → HaveOutputs p tasks steps_of now behind
  pub left : (i : ℕ) → total turns i ≡ steps_of i + total rest i
  pub done : List Turn
  pub split : turns ≡ done ++ rest
  pub are : (i : ℕ) → steps_of i ≡ total done i

pub reaches_none : (p : Program) (turns : List Turn) (runs : List TaskRun) (files : Option FileOf) → Reaches p turns turns runs runs files files
reaches_none p turns runs files = record {
  steps_of = λ number. 0;
  goes = λ tasks h. h;
  left = λ i. omega arith;
  done = [];
  split = refl;
  are = λ i. refl;
}

its_left : (b : Bool) (n done rest : ℕ) → done + ((if b then n else 0) + rest) ≡ ((if b then n else 0) + done) + rest
its_left true n done rest = omega arith
its_left false n done rest = omega arith

pub reaches_on : (p : Program) (turns : List Turn) (turn : Turn) (rest : List Turn) (a b c : List TaskRun) (x y z : Option FileOf) → Reaches p turns (turn ∷ rest) a b x y → Goes p turn.task turn.steps b c y z → Reaches p turns rest a c x z
reaches_on p turns turn rest a b c x y z r goes = record {
  steps_of = with_steps turn.task turn.steps r.steps_of;
  goes = λ tasks h. goes tasks r.steps_of (r.goes tasks h);
  left = λ i. r.left i ∙ its_left (turn.task == i) turn.steps (r.steps_of i) (total rest i);
  done = r.done ++ turn ∷ [];
  split = r.split ∙ sym (append_assoc r.done (turn ∷ []) rest);
  are = λ i. ap (λ (n : ℕ). (if turn.task == i then turn.steps else 0) + n) (r.are i) ∙ sym (total_more r.done turn i);
}

pub reaches_all : (p : Program) (turns : List Turn) (a b : List TaskRun) (x y : Option FileOf) → Reaches p turns [] a b x y → GoesBy p turns a b x y
reaches_all p turns a b x y r = λ tasks h. same_steps p tasks r.steps_of (total turns) b y (λ i. let left = r.left i in omega (arith, left)) (r.goes tasks h)

-- the start
-- =========

-- as many runs as tasks, which run the library, and have paid nothing
pub opened_many : (shelf : Shelf) (tasks : List Task) (runs : List TaskRun) → AreOpened shelf tasks runs → length runs ≡ length tasks
opened_many shelf [] [] o = refl
opened_many shelf [] (r ∷ runs) o = absurd o
opened_many shelf (t ∷ tasks) [] o = absurd o
opened_many shelf (t ∷ tasks) (r ∷ runs) o = ap suc (opened_many shelf tasks runs o.1)

opened_all : {P : TaskRun → Type 0} (shelf : Shelf) → ((task : Task) (run : TaskRun) → IsOpened shelf task run → P run) → (tasks : List Task) (runs : List TaskRun) → AreOpened shelf tasks runs → All P runs
opened_all {P} shelf each [] [] o = All-nil P
opened_all shelf each [] (r ∷ runs) o = absurd o
opened_all shelf each (t ∷ tasks) [] o = absurd o
opened_all {P} shelf each (t ∷ tasks) (r ∷ runs) o = All-cons P r runs (each t r o.0) (opened_all shelf each tasks runs o.1)

pub opened_runs : (shelf : Shelf) (tasks : List Task) (runs : List TaskRun) → AreOpened shelf tasks runs → AreRuns shelf runs
opened_runs shelf tasks runs o = opened_all shelf (λ task run it. it.vm) tasks runs o

pub opened_unpaid : (shelf : Shelf) (tasks : List Task) (runs : List TaskRun) → AreOpened shelf tasks runs → PaidWithin runs 0
opened_unpaid shelf tasks runs o = opened_all {P = λ (run : TaskRun). run.vm.paid ≤ 0} shelf (λ task run it. let paid = it.paid in omega arith) tasks runs o

pub start : (shelf : Shelf) (p : Program) → ((task : Task) (run : TaskRun) → IsOpened shelf task run → Stands p task 0 [] run) → (tasks : List Task) (runs : List TaskRun) (before behind : Option FileOf)
    → AreOpened shelf tasks runs → IsSome before → AreEmpty (length tasks) before behind → HaveOutputs p tasks (λ (number : ℕ). 0) runs behind
start shelf p stands tasks runs None behind opened some empty = absurd cc
start shelf p stands tasks runs (Some file) behind opened some empty = record {
  file = empty.0;
  told = empty.1;
  as_many = opened_many shelf tasks runs opened;
  each = λ i task run at there. record { printed = []; holds = empty.2 i (slice_get_within tasks i task at); stands = stands task run (opened_at tasks runs i task run opened at there) };
}
  where
    opened_at : (tasks : List Task) (runs : List TaskRun) (i : ℕ) (task : Task) (run : TaskRun) → AreOpened shelf tasks runs → slice_get tasks i ≡ Some task → slice_get runs i ≡ Some run → IsOpened shelf task run
    opened_at [] runs i task run o at there = absurd cc
    opened_at (t ∷ tasks) [] i task run o at there = absurd o
    opened_at (t ∷ tasks) (r ∷ runs) zero task run o at there =
        let a : t ≡ task = cc in let b : r ≡ run = cc in
        subst (λ (x : Task). IsOpened shelf x run) a (subst (λ (y : TaskRun). IsOpened shelf t y) b o.0)
    opened_at (t ∷ tasks) (r ∷ runs) (suc i) task run o at there = opened_at tasks runs i task run o.1 at there
