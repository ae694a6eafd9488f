-- Which lines are a plan, and which line keeps others from being one.
use Rattle.std.specs.Prelude.{◌≡◌, ◌⊎◌, ◌≢◌, ℕ, suc, ◌+◌, ◌<◌, ◌≤◌, List, [], ◌∷◌, ◌++◌, map, length, All, Option, Some, None}
use Rattle.mpy_base.specs.declared.limits.TheConstants.{MAX_TASKS}
use Rattle.board_plan.specs.declared.line.Line.{Line}
use Rattle.board_plan.specs.declared.line.Line.TheVariants as lines
use Rattle.board_plan.specs.declared.plan.Plan.{Plan}
use Rattle.board_plan.specs.declared.plan.Turn.{Turn}
use Rattle.board_plan.specs.declared.plan.PlanFault.{PlanFault}
use Rattle.board_plan.specs.declared.plan.PlanFault.TheVariants.{BadLine, NoTask, TooMany}
use Rattle.board_plan.specs.Lines.{line_of}

-- what the lines of a plan say: its tasks, and behind them its turns
abbrev pub said_by : Plan → List Line
said_by plan = map lines.Task plan.tasks ++ map lines.Turn plan.turns

-- the lines are those of the plan. It has no more tasks than a board, and each turn's task
pub record IsPlan (text : List (List ℕ)) (plan : Plan) : Type 0 where
  pub lines_are : map line_of text ≡ map Some (said_by plan)
  pub few : length plan.tasks ≤ MAX_TASKS
  pub have_tasks : All (λ turn. turn.task < length plan.tasks) plan.turns

-- why a line of this number that says this, or nothing, may not stand behind the lines of the plan
abbrev pub Breaks : Plan → (number : ℕ) → Option Line → PlanFault → Type 0
Breaks plan number None fault = fault ≡ BadLine number
Breaks plan number (Some (lines.Task task)) fault =
    ((plan.turns ≢ []) × (fault ≡ BadLine number)) ⊎ ((plan.turns ≡ []) × (MAX_TASKS ≤ length plan.tasks) × (fault ≡ TooMany))
Breaks plan number (Some (lines.Turn turn)) fault = (length plan.tasks ≤ turn.task) × (fault ≡ NoTask number)

-- the first line that keeps these from being a plan, counted from 1: those before it are one
pub record HasFault (text : List (List ℕ)) (fault : PlanFault) : Type 0 where
  pub before : List (List ℕ)
  pub line : List ℕ
  pub behind : List (List ℕ)
  pub parts : text ≡ before ++ line ∷ behind
  pub plan : Plan
  pub is_plan : IsPlan before plan
  pub breaks : Breaks plan (suc (length before)) (line_of line) fault

-- all steps of these turns
abbrev pub all_steps : List Turn → ℕ
all_steps [] = 0
all_steps (turn ∷ turns) = turn.steps + all_steps turns
