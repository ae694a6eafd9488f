-- Lines are one plan, or have one fault.
use Rattle.std.proofs.Common.{◌≡◌, ◌≢◌, inl, inr, ℕ, suc, ◌+◌, ◌<◌, ◌≤◌, List, [], ◌∷◌, ◌++◌, map, length, All, Option, Some, None, refl, sym, ap, subst, ◌∙◌, append_assoc, append-nil, length-append, arith}
use Rattle.std.specs.List.{AllByRecursion as ByRecursion}
use Rattle.std.proofs.lemmas.List.{map-append}
use Rattle.std.proofs.lemmas.List.Elements.{recursion_from_All}
use Rattle.mpy_base.specs.declared.limits.TheConstants.{MAX_TASKS}
use Rattle.board_plan.specs.declared.line.Line.{Line}
use Rattle.board_plan.specs.declared.line.Line.TheVariants as lines
use Rattle.board_plan.specs.declared.plan.Plan.{Plan}
use Rattle.board_plan.specs.declared.plan.PlanFault.{PlanFault}
use Rattle.board_plan.specs.declared.plan.Task.{Task}
use Rattle.board_plan.specs.declared.plan.Turn.{Turn}
use Rattle.board_plan.specs.Lines.{line_of}
use Rattle.board_plan.specs.Plans.{said_by, IsPlan, Breaks, HasFault}

-- the tasks and the turns among lines
tasks_in : List Line → List Task
tasks_in [] = []
tasks_in (lines.Task task ∷ more) = task ∷ tasks_in more
tasks_in (lines.Turn turn ∷ more) = tasks_in more

turns_in : List Line → List Turn
turns_in [] = []
turns_in (lines.Task task ∷ more) = turns_in more
turns_in (lines.Turn turn ∷ more) = turn ∷ turns_in more

tasks_of_turns : (turns : List Turn) → tasks_in (map lines.Turn turns) ≡ []
unfolding tasks_in
tasks_of_turns [] = refl
tasks_of_turns (turn ∷ turns) = tasks_of_turns turns

turns_of_turns : (turns : List Turn) → turns_in (map lines.Turn turns) ≡ turns
unfolding turns_in
turns_of_turns [] = refl
turns_of_turns (turn ∷ turns) = ap (λ (ts : List Turn). turn ∷ ts) (turns_of_turns turns)

tasks_said : (tasks : List Task) (turns : List Turn) → tasks_in (map lines.Task tasks ++ map lines.Turn turns) ≡ tasks
unfolding tasks_in
tasks_said [] turns = tasks_of_turns turns
tasks_said (task ∷ tasks) turns = ap (λ (ts : List Task). task ∷ ts) (tasks_said tasks turns)

turns_said : (tasks : List Task) (turns : List Turn) → turns_in (map lines.Task tasks ++ map lines.Turn turns) ≡ turns
unfolding turns_in
turns_said [] turns = turns_of_turns turns
turns_said (task ∷ tasks) turns = turns_said tasks turns

tasks_on : (a b : List Line) → tasks_in (a ++ b) ≡ tasks_in a ++ tasks_in b
unfolding tasks_in
tasks_on [] b = refl
tasks_on (lines.Task task ∷ a) b = ap (λ (ts : List Task). task ∷ ts) (tasks_on a b)
tasks_on (lines.Turn turn ∷ a) b = tasks_on a b

turns_on : (a b : List Line) → turns_in (a ++ b) ≡ turns_in a ++ turns_in b
unfolding turns_in
turns_on [] b = refl
turns_on (lines.Task task ∷ a) b = turns_on a b
turns_on (lines.Turn turn ∷ a) b = ap (λ (ts : List Turn). turn ∷ ts) (turns_on a b)

-- lines that are all said
same_said : (a b : List Line) → map Some a ≡ map Some b → a ≡ b
same_said [] [] e = refl
same_said [] (y ∷ b) e = absurd cc
same_said (x ∷ a) [] e = absurd cc
same_said (x ∷ a) (y ∷ b) e = let head : x ≡ y = cc in let rest = same_said a b cc in ap (λ (l : Line). l ∷ a) head ∙ ap (λ (ls : List Line). y ∷ ls) rest

same_plan : (a b : Plan) → said_by a ≡ said_by b → a ≡ b
same_plan a b e =
    let tasks : a.tasks ≡ b.tasks = sym (tasks_said a.tasks a.turns) ∙ (ap tasks_in e ∙ tasks_said b.tasks b.turns) in
    let turns : a.turns ≡ b.turns = sym (turns_said a.tasks a.turns) ∙ (ap turns_in e ∙ turns_said b.tasks b.turns) in
    ap (λ (ts : List Task). record { tasks = ts; turns = a.turns }) tasks ∙ ap (λ (us : List Turn). record { tasks = b.tasks; turns = us }) turns

pub one_plan : (text : List (List ℕ)) (plan other : Plan) → IsPlan text plan → IsPlan text other → plan ≡ other
one_plan text plan other is so = same_plan plan other (same_said (said_by plan) (said_by other) (sym is.lines_are ∙ so.lines_are))

-- what a line behind others says
record Next (front all : List Line) (line : Option Line) : Type 0 where
  says : Line
  more : List Line
  is : line ≡ Some says
  parts : all ≡ front ++ says ∷ more

next_said : (front : List Line) (line : Option Line) (behind : List (Option Line)) (all : List Line) → map Some front ++ line ∷ behind ≡ map Some all → Next front all line
next_said [] line behind [] e = absurd cc
next_said [] line behind (x ∷ all) e = record { says = x; more = all; is = cc; parts = refl }
next_said (y ∷ front) line behind [] e = absurd cc
next_said (y ∷ front) line behind (x ∷ all) e =
    let head : x ≡ y = cc in
    let rest = next_said front line behind all cc in
    record { says = rest.says; more = rest.more; is = rest.is; parts = ap (λ (ls : List Line). x ∷ ls) rest.parts ∙ ap (λ (l : Line). l ∷ (front ++ rest.says ∷ rest.more)) head }

-- behind a turn comes no task
no_tasks : (tasks : List Task) (turns : List Turn) (front : List Line) (turn : Turn) (more : List Line) → map lines.Task tasks ++ map lines.Turn turns ≡ front ++ lines.Turn turn ∷ more → tasks_in more ≡ []
unfolding tasks_in
no_tasks [] turns front turn more e =
    let all : tasks_in (front ++ lines.Turn turn ∷ more) ≡ [] = ap tasks_in (sym e) ∙ tasks_of_turns turns in
    none_behind (tasks_in front) (tasks_in more) (sym (tasks_on front (lines.Turn turn ∷ more)) ∙ all)
  where
    none_behind : (a b : List Task) → a ++ b ≡ [] → b ≡ []
    none_behind [] b h = h
    none_behind (x ∷ a) b h = absurd cc
no_tasks (task ∷ tasks) turns [] turn more e = absurd cc
no_tasks (task ∷ tasks) turns (x ∷ front) turn more e = no_tasks tasks turns front turn more cc

some_turn : (turns : List Turn) → turns ≢ [] → (front : List Turn) × (turn : Turn) × (more : List Turn) × (turns ≡ front ++ turn ∷ more)
some_turn [] some = absurd (some refl)
some_turn (turn ∷ turns) some = ([], turn, turns, refl)

module _ (plan first : Plan) (few : length plan.tasks ≤ MAX_TASKS) (have : All (λ (t : Turn). t.task < length plan.tasks) plan.turns) (more : List Line) where
  -- a task of the plan behind those of the lines before
  no_late_task : (task : Task) → said_by plan ≡ said_by first ++ lines.Task task ∷ more → first.turns ≢ [] → ⊥
  unfolding tasks_in
  no_late_task task e some =
      let t = some_turn first.turns some in
      let turns : map lines.Turn first.turns ≡ map lines.Turn t.0 ++ lines.Turn t.1 ∷ map lines.Turn t.2 = ap (map lines.Turn) t.3 ∙ map-append lines.Turn t.0 (t.1 ∷ t.2) in
      let parts : said_by plan ≡ (map lines.Task first.tasks ++ map lines.Turn t.0) ++ lines.Turn t.1 ∷ (map lines.Turn t.2 ++ lines.Task task ∷ more) =
      e ∙ (ap (λ (ls : List Line). (map lines.Task first.tasks ++ ls) ++ lines.Task task ∷ more) turns
      ∙ (ap (λ (ls : List Line). ls ++ lines.Task task ∷ more) (sym (append_assoc (map lines.Task first.tasks) (map lines.Turn t.0) (lines.Turn t.1 ∷ map lines.Turn t.2)))
      ∙ append_assoc (map lines.Task first.tasks ++ map lines.Turn t.0) (lines.Turn t.1 ∷ map lines.Turn t.2) (lines.Task task ∷ more))) in
      let none = no_tasks plan.tasks plan.turns (map lines.Task first.tasks ++ map lines.Turn t.0) t.1 (map lines.Turn t.2 ++ lines.Task task ∷ more) parts in
      let one : tasks_in (map lines.Turn t.2) ++ task ∷ tasks_in more ≡ [] = sym (tasks_on (map lines.Turn t.2) (lines.Task task ∷ more)) ∙ none in
      let many = length-append (tasks_in (map lines.Turn t.2)) (task ∷ tasks_in more) in
      let empty : length (tasks_in (map lines.Turn t.2) ++ task ∷ tasks_in more) ≡ 0 = ap (λ (ts : List Task). length ts) one in
      omega arith

  no_more_tasks : (task : Task) → said_by plan ≡ said_by first ++ lines.Task task ∷ more → MAX_TASKS ≤ length first.tasks → ⊥
  unfolding tasks_in
  no_more_tasks task e full =
      let all : plan.tasks ≡ first.tasks ++ task ∷ tasks_in more =
      sym (tasks_said plan.tasks plan.turns) ∙ (ap tasks_in e ∙ (tasks_on (said_by first) (lines.Task task ∷ more) ∙ ap (λ (ts : List Task). ts ++ task ∷ tasks_in more) (tasks_said first.tasks first.turns))) in
      let many : length plan.tasks ≡ length first.tasks + length (task ∷ tasks_in more) = ap (λ (ts : List Task). length ts) all ∙ length-append first.tasks (task ∷ tasks_in more) in
      omega arith

  no_late_turn : (turn : Turn) → said_by plan ≡ said_by first ++ lines.Turn turn ∷ more → length first.tasks ≤ turn.task → ⊥
  unfolding tasks_in turns_in
  no_late_turn turn e past =
      let none : tasks_in more ≡ [] = no_tasks plan.tasks plan.turns (said_by first) turn more e in
      let tasks : plan.tasks ≡ first.tasks =
      sym (tasks_said plan.tasks plan.turns) ∙ (ap tasks_in e ∙ (tasks_on (said_by first) (lines.Turn turn ∷ more)
      ∙ (ap (λ (ts : List Task). ts ++ tasks_in more) (tasks_said first.tasks first.turns) ∙ (ap (λ (ts : List Task). first.tasks ++ ts) none ∙ append-nil first.tasks)))) in
      let turns : plan.turns ≡ first.turns ++ turn ∷ turns_in more =
      sym (turns_said plan.tasks plan.turns) ∙ (ap turns_in e ∙ (turns_on (said_by first) (lines.Turn turn ∷ more) ∙ ap (λ (ts : List Turn). ts ++ turn ∷ turns_in more) (turns_said first.tasks first.turns))) in
      let within : turn.task < length plan.tasks = at first.turns turn (turns_in more) (subst (λ (ts : List Turn). All (λ (t : Turn). t.task < length plan.tasks) ts) turns have) in
      let same : length plan.tasks ≡ length first.tasks = ap (λ (ts : List Task). length ts) tasks in
      omega arith
    where
      behind : (a b : List Turn) → ByRecursion (λ (t : Turn). t.task < length plan.tasks) (a ++ b) → ByRecursion (λ (t : Turn). t.task < length plan.tasks) b
      behind [] b h = h
      behind (x ∷ a) b h = behind a b h.1

      at : (a : List Turn) (turn : Turn) (b : List Turn) → All (λ (t : Turn). t.task < length plan.tasks) (a ++ turn ∷ b) → turn.task < length plan.tasks
      at a turn b h = (behind a (turn ∷ b) (recursion_from_All (λ (t : Turn). t.task < length plan.tasks) (a ++ turn ∷ b) h)).0

  broken : (number : ℕ) (says : Line) (fault : PlanFault) → said_by plan ≡ said_by first ++ says ∷ more → Breaks first number (Some says) fault → ⊥
  broken number (lines.Task task) fault e (inl late) = no_late_task task e late.0
  broken number (lines.Task task) fault e (inr full) = no_more_tasks task e full.1
  broken number (lines.Turn turn) fault e past = no_late_turn turn e past.0

pub not_both : (text : List (List ℕ)) (plan : Plan) (fault : PlanFault) → IsPlan text plan → HasFault text fault → ⊥
not_both text plan fault is f =
    let said : map Some (said_by f.plan) ++ line_of f.line ∷ map line_of f.behind ≡ map Some (said_by plan) =
    ap (λ (ls : List (Option Line)). ls ++ line_of f.line ∷ map line_of f.behind) (sym f.is_plan.lines_are)
    ∙ (sym (map-append line_of f.before (f.line ∷ f.behind)) ∙ (ap (map line_of) (sym f.parts) ∙ is.lines_are)) in
    let next = next_said (said_by f.plan) (line_of f.line) (map line_of f.behind) (said_by plan) said in
    broken plan f.plan is.few is.have_tasks next.more (suc (length f.before)) next.says fault next.parts
    (subst (λ (line : Option Line). Breaks f.plan (suc (length f.before)) line fault) next.is f.breaks)

-- a fault of a line is one
one_break : (plan : Plan) (number : ℕ) (line : Option Line) (fault other : PlanFault) → Breaks plan number line fault → Breaks plan number line other → fault ≡ other
one_break plan number None fault other a b = a ∙ sym b
one_break plan number (Some (lines.Task task)) fault other (inl a) (inl b) = a.1 ∙ sym b.1
one_break plan number (Some (lines.Task task)) fault other (inl a) (inr b) = absurd (a.0 b.0)
one_break plan number (Some (lines.Task task)) fault other (inr a) (inl b) = absurd (b.0 a.0)
one_break plan number (Some (lines.Task task)) fault other (inr a) (inr b) = a.2 ∙ sym b.2
one_break plan number (Some (lines.Turn turn)) fault other a b = a.1 ∙ sym b.1

-- two fronts of a text: one goes on behind the other, or they are the same
data Fronts (a b : List (List ℕ)) (x y : List ℕ) : Type 0 where
  Same : a ≡ b → x ≡ y → Fronts a b x y
  Longer : (c : List (List ℕ)) → b ≡ a ++ x ∷ c → Fronts a b x y
  Shorter : (c : List (List ℕ)) → a ≡ b ++ y ∷ c → Fronts a b x y

fronts : (a b : List (List ℕ)) (x y : List ℕ) (more others : List (List ℕ)) → a ++ x ∷ more ≡ b ++ y ∷ others → Fronts a b x y
fronts [] [] x y more others e = Same refl cc
fronts [] (z ∷ b) x y more others e = Longer b (let head : z ≡ x = cc in ap (λ (l : List ℕ). l ∷ b) head)
fronts (z ∷ a) [] x y more others e = Shorter a (let head : z ≡ y = cc in ap (λ (l : List ℕ). l ∷ a) head)
fronts (z ∷ a) (w ∷ b) x y more others e =
    let head : z ≡ w = cc in
    elim (fronts a b x y more others cc) [
      | Same front line ↦ Same (ap (λ (ls : List (List ℕ)). z ∷ ls) front ∙ ap (λ (l : List ℕ). l ∷ b) head) line
      | Longer c parts ↦ Longer c (ap (λ (ls : List (List ℕ)). w ∷ ls) parts ∙ ap (λ (l : List ℕ). l ∷ (a ++ x ∷ c)) (sym head))
      | Shorter c parts ↦ Shorter c (ap (λ (ls : List (List ℕ)). z ∷ ls) parts ∙ ap (λ (l : List ℕ). l ∷ (b ++ y ∷ c)) head)
    ]

-- a fault of a front is a fault of it
front_fault : (text : List (List ℕ)) (fault : PlanFault) (f : HasFault text fault) (front c : List (List ℕ)) → front ≡ f.before ++ f.line ∷ c → HasFault front fault
front_fault text fault f front c parts = record { before = f.before; line = f.line; behind = c; parts = parts; plan = f.plan; is_plan = f.is_plan; breaks = f.breaks }

pub one_fault : (text : List (List ℕ)) (fault other : PlanFault) → HasFault text fault → HasFault text other → fault ≡ other
one_fault text fault other f g = elim (fronts f.before g.before f.line g.line f.behind g.behind (sym f.parts ∙ g.parts)) [
  | Same front line ↦
      let plan : f.plan ≡ g.plan = one_plan g.before f.plan g.plan (subst (λ (ls : List (List ℕ)). IsPlan ls f.plan) front f.is_plan) g.is_plan in
      let number : suc (length f.before) ≡ suc (length g.before) = ap (λ (ls : List (List ℕ)). suc (length ls)) front in
      let a : Breaks g.plan (suc (length g.before)) (line_of g.line) fault =
      subst (λ (l : List ℕ). Breaks g.plan (suc (length g.before)) (line_of l) fault) line
      (subst (λ (n : ℕ). Breaks g.plan n (line_of f.line) fault) number (subst (λ (p : Plan). Breaks p (suc (length f.before)) (line_of f.line) fault) plan f.breaks)) in
      one_break g.plan (suc (length g.before)) (line_of g.line) fault other a g.breaks
  | Longer c parts ↦ absurd (not_both g.before g.plan fault g.is_plan (front_fault text fault f g.before c parts))
  | Shorter c parts ↦ absurd (not_both f.before f.plan other f.is_plan (front_fault text other g f.before c parts))
]
