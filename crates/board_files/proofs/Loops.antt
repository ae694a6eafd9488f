-- How far turns have come.
use Rattle.std.proofs.Common.{◌≡◌, ℕ, ◌+◌, ◌-◌, ◌<◌, ◌≤◌, ◌^◌, List, [], ◌∷◌, length, All, Option, refl, ap, subst, ◌∙◌, arith}
use Rattle.std.proofs.lemmas.List.Elements.{All-head, All-rest, All-weaker}
use Rattle.mpy_io.specs.Files.{FileOf}
use Rattle.board_tasks.specs.vm_starting.bc_library.Shelf.{Shelf}
use Rattle.board_tasks.specs.vm_starting.vm_states.Means.{Program}
use Rattle.board_tasks.specs.vm_starting.Programs.{IsProgramOf}
use Rattle.board_plan.specs.declared.plan.Turn.{Turn}
use Rattle.board_plan.specs.Plans.{all_steps}
use Rattle.board_tasks.specs.declared.turning.TaskRun.{TaskRun}
use Rattle.board_tasks.specs.Turns.{AreRuns}
use Rattle.board_files.specs.Files.{KeepsOthers}
use Rattle.board_files.specs.Runs.{Goes, GoesBy, PaidWithin}
use Rattle.board_files.proofs.Holding.{Reaches, goes_none, goes_on, reaches_none, reaches_on, reaches_all}
use Rattle.board_files.proofs.Others.{others_same, others_on}

-- some of a turn's steps are made, and these are left
pub record MadeSome (shelf : Shelf) (number steps left : ℕ) (old now : List TaskRun) (before behind : Option FileOf) : Type 0 where
  pub made : ℕ
  pub sum : made + left ≡ steps
  pub runs : AreRuns shelf now
  pub many : length now ≡ length old
  pub paid : (most : ℕ) → PaidWithin old most → PaidWithin now (most + made)
  pub goes : (p : Program) → IsProgramOf shelf p → Goes p number made old now before behind
  pub others : KeepsOthers (length old) before behind

pub none_made : (shelf : Shelf) (number steps : ℕ) (old : List TaskRun) (files : Option FileOf) → AreRuns shelf old → MadeSome shelf number steps steps old old files files
none_made shelf number steps old files runs = record {
  made = 0;
  sum = omega arith;
  runs = runs;
  many = refl;
  paid = λ most within. subst (λ (n : ℕ). PaidWithin old n) (omega arith) within;
  goes = λ p is. goes_none p number old files;
  others = others_same (length old) files files refl;
}

pub more_made : (shelf : Shelf) (number steps left part : ℕ) (old now new : List TaskRun) (before between behind : Option FileOf) → part ≤ left → MadeSome shelf number steps left old now before between
    → AreRuns shelf new → length new ≡ length now → ((most : ℕ) → PaidWithin now most → PaidWithin new (most + part)) → ((p : Program) → IsProgramOf shelf p → Goes p number part now new between behind)
    → KeepsOthers (length now) between behind → MadeSome shelf number steps (left - part) old new before behind
more_made shelf number steps left part old now new before between behind within m runs many paid goes others = record {
  made = m.made + part;
  sum = let sum = m.sum in omega arith;
  runs = runs;
  many = many ∙ m.many;
  paid = λ most h. subst (λ (n : ℕ). PaidWithin new n) (omega arith) (paid (most + m.made) (m.paid most h));
  goes = λ p is. goes_on p number m.made part old now new before between behind (m.goes p is) (goes p is);
  others = others_on (length old) before between behind m.others (subst (λ (n : ℕ). KeepsOthers n between behind) m.many others);
}

pub all_made : (shelf : Shelf) (number steps left : ℕ) (old now : List TaskRun) (before behind : Option FileOf) → left ≡ 0 → MadeSome shelf number steps left old now before behind → MadeSome shelf number steps 0 old now before behind
all_made shelf number steps left old now before behind none m = subst (λ (n : ℕ). MadeSome shelf number steps n old now before behind) none m

-- what is made of a whole turn
pub whole_paid : (shelf : Shelf) (number steps : ℕ) (old now : List TaskRun) (before behind : Option FileOf) → MadeSome shelf number steps 0 old now before behind → (most : ℕ) → PaidWithin old most → PaidWithin now (most + steps)
whole_paid shelf number steps old now before behind m most h = subst (λ (n : ℕ). PaidWithin now n) (let sum = m.sum in omega arith) (m.paid most h)

pub whole_goes : (shelf : Shelf) (number steps : ℕ) (old now : List TaskRun) (before behind : Option FileOf) → MadeSome shelf number steps 0 old now before behind → (p : Program) → IsProgramOf shelf p → Goes p number steps old now before behind
whole_goes shelf number steps old now before behind m p is = subst (λ (n : ℕ). Goes p number n old now before behind) (let sum = m.sum in omega arith) (m.goes p is)

-- the turns but these are made
pub record MadeTurns (shelf : Shelf) (turns rest : List Turn) (old now : List TaskRun) (before behind : Option FileOf) : Type 0 where
  pub runs : AreRuns shelf now
  pub many : length now ≡ length old
  pub paid : ℕ
  pub within : PaidWithin now paid
  pub countable : paid + all_steps rest < 2 ^ 64
  pub have : All (λ (turn : Turn). turn.task < length old) rest
  pub reaches : (p : Program) → IsProgramOf shelf p → Reaches p turns rest old now before behind
  pub others : KeepsOthers (length old) before behind

pub no_turns : (shelf : Shelf) (turns : List Turn) (old : List TaskRun) (files : Option FileOf) → AreRuns shelf old → PaidWithin old 0 → all_steps turns < 2 ^ 64 → All (λ (turn : Turn). turn.task < length old) turns → MadeTurns shelf turns turns old old files files
no_turns shelf turns old files runs unpaid small have = record {
  runs = runs;
  many = refl;
  paid = 0;
  within = unpaid;
  countable = omega (arith, small);
  have = have;
  reaches = λ p is. reaches_none p turns old files;
  others = others_same (length old) files files refl;
}

pub more_turns : (shelf : Shelf) (turns : List Turn) (turn : Turn) (rest more : List Turn) (old now new : List TaskRun) (before between behind : Option FileOf) → more ≡ turn ∷ rest → MadeTurns shelf turns more old now before between
    → AreRuns shelf new → length new ≡ length now → ((most : ℕ) → PaidWithin now most → PaidWithin new (most + turn.steps)) → ((p : Program) → IsProgramOf shelf p → Goes p turn.task turn.steps now new between behind)
    → KeepsOthers (length now) between behind → MadeTurns shelf turns rest old new before behind
more_turns shelf turns turn rest more old now new before between behind next m runs many paid goes others = record {
  runs = runs;
  many = many ∙ m.many;
  paid = m.paid + turn.steps;
  within = paid m.paid m.within;
  countable = let small = m.countable in let sum : all_steps more ≡ turn.steps + all_steps rest = ap all_steps next in omega arith;
  have = All-rest (λ (t : Turn). t.task < length old) turn rest more next m.have;
  reaches = λ p is. reaches_on p turns turn rest old now new before between behind (subst (λ (ts : List Turn). Reaches p turns ts old now before between) next (m.reaches p is)) (goes p is);
  others = others_on (length old) before between behind m.others (subst (λ (n : ℕ). KeepsOthers n between behind) m.many others);
}

-- the steps of the next turn can be counted
pub next_countable : (shelf : Shelf) (turns : List Turn) (turn : Turn) (rest more : List Turn) (old now : List TaskRun) (before behind : Option FileOf) → more ≡ turn ∷ rest → MadeTurns shelf turns more old now before behind
    → (paid : ℕ) × PaidWithin now paid × (paid + turn.steps < 2 ^ 64)
next_countable shelf turns turn rest more old now before behind next m =
    (m.paid, m.within, let small = m.countable in let sum : all_steps more ≡ turn.steps + all_steps rest = ap all_steps next in omega arith)

-- and its task is there
pub next_there : (shelf : Shelf) (turns : List Turn) (turn : Turn) (rest more : List Turn) (old now : List TaskRun) (before behind : Option FileOf) → more ≡ turn ∷ rest → MadeTurns shelf turns more old now before behind
    → turn.task < length now
next_there shelf turns turn rest more old now before behind next m =
    let here : turn.task < length old = All-head (λ (t : Turn). t.task < length old) turn rest (subst (λ (ts : List Turn). All (λ (t : Turn). t.task < length old) ts) next m.have) in
    let many = m.many in
    omega arith

pub all_turns : (shelf : Shelf) (turns rest : List Turn) (old now : List TaskRun) (before behind : Option FileOf) → length rest ≡ 0 → MadeTurns shelf turns rest old now before behind → (p : Program) → IsProgramOf shelf p → GoesBy p turns old now before behind
all_turns shelf turns [] old now before behind none m p is = reaches_all p turns old now before behind (m.reaches p is)
all_turns shelf turns (turn ∷ rest) old now before behind none m p is = absurd (omega (arith, none))

-- the turn's part that a maker asks for can be counted
pub part_countable : (shelf : Shelf) (number steps left part : ℕ) (old now : List TaskRun) (before behind : Option FileOf) → part ≤ left → MadeSome shelf number steps left old now before behind
    → (paid : ℕ) × PaidWithin old paid × (paid + steps < 2 ^ 64) → (paid : ℕ) × PaidWithin now paid × (paid + part < 2 ^ 64)
part_countable shelf number steps left part old now before behind within m h = (h.0 + m.made, m.paid h.0 h.1, let sum = m.sum in let small = h.2 in omega arith)

-- what some parts of it have paid
pub some_paid : (shelf : Shelf) (number steps left part : ℕ) (old now new : List TaskRun) (before behind : Option FileOf) → part ≤ left → MadeSome shelf number steps left old now before behind
    → ((most : ℕ) → PaidWithin now most → PaidWithin new (most + part)) → (most : ℕ) → PaidWithin old most → PaidWithin new (most + steps)
some_paid shelf number steps left part old now new before behind within m paid most h =
    let sum = m.sum in
    All-weaker (λ (r : TaskRun). r.vm.paid ≤ most + m.made + part) (λ (r : TaskRun). r.vm.paid ≤ most + steps) (λ r fits. omega arith) new (paid (most + m.made) (m.paid most h))
