-- A plan with a line more.
use Rattle.std.proofs.Common.{◌≡◌, ℕ, ◌<◌, ◌≤◌, List, [], ◌∷◌, ◌++◌, map, length, All, Option, Some, sym, ap, subst, ◌∙◌, append_assoc, append-nil, length-append, arith}
use Rattle.std.proofs.lemmas.List.{map-append}
use Rattle.std.proofs.lemmas.List.Elements.{All-nil, All-push}
use Rattle.mpy_base.specs.declared.limits.TheConstants.{MAX_TASKS}
use Rattle.board_plan.specs.declared.line.Line.{Line}
use Rattle.board_plan.specs.declared.line.Line.TheVariants as lines
use Rattle.board_plan.specs.declared.plan.Plan.{Plan}
use Rattle.board_plan.specs.declared.plan.Task.{Task}
use Rattle.board_plan.specs.declared.plan.Turn.{Turn}
use Rattle.board_plan.specs.Lines.{line_of}
use Rattle.board_plan.specs.Plans.{said_by, IsPlan}

-- what the lines say, and one more
said_more : (text : List (List ℕ)) (line : List ℕ) (all : List Line) (says : Line) → map line_of text ≡ map Some all → line_of line ≡ Some says
    → map line_of (text ++ line ∷ []) ≡ map Some (all ++ says ∷ [])
said_more text line all says e one =
    map-append line_of text (line ∷ []) ∙ (ap (λ (ls : List (Option Line)). ls ++ line_of line ∷ []) e
    ∙ (ap (λ (l : Option Line). map Some all ++ l ∷ []) one ∙ sym (map-append Some all (says ∷ []))))

said_task : (old new : Plan) (task : Task) → old.turns ≡ [] → new.tasks ≡ old.tasks ++ task ∷ [] → new.turns ≡ old.turns → said_by new ≡ said_by old ++ lines.Task task ∷ []
said_task old new task none tasks turns =
    let a : said_by new ≡ map lines.Task (old.tasks ++ task ∷ []) ++ map lines.Turn [] =
    ap (λ (ts : List Task). map lines.Task ts ++ map lines.Turn new.turns) tasks ∙ ap (λ (ts : List Turn). map lines.Task (old.tasks ++ task ∷ []) ++ map lines.Turn ts) (turns ∙ none) in
    let b : said_by old ≡ map lines.Task old.tasks = ap (λ (ts : List Turn). map lines.Task old.tasks ++ map lines.Turn ts) none ∙ append-nil (map lines.Task old.tasks) in
    a ∙ (append-nil (map lines.Task (old.tasks ++ task ∷ [])) ∙ (map-append lines.Task old.tasks (task ∷ []) ∙ ap (λ (ls : List Line). ls ++ lines.Task task ∷ []) (sym b)))

said_turn : (old new : Plan) (turn : Turn) → new.tasks ≡ old.tasks → new.turns ≡ old.turns ++ turn ∷ [] → said_by new ≡ said_by old ++ lines.Turn turn ∷ []
said_turn old new turn tasks turns =
    ap (λ (ts : List Task). map lines.Task ts ++ map lines.Turn new.turns) tasks
    ∙ (ap (λ (ts : List Turn). map lines.Task old.tasks ++ map lines.Turn ts) turns
    ∙ (ap (λ (ls : List Line). map lines.Task old.tasks ++ ls) (map-append lines.Turn old.turns (turn ∷ [])) ∙ sym (append_assoc (map lines.Task old.tasks) (map lines.Turn old.turns) (lines.Turn turn ∷ []))))

one_more : (tasks : List Task) (task : Task) → length tasks < MAX_TASKS → length (tasks ++ task ∷ []) ≤ MAX_TASKS
one_more tasks task h = omega (arith, length-append tasks (task ∷ []))

pub with_task : (text : List (List ℕ)) (line : List ℕ) (old new : Plan) (task : Task) → line_of line ≡ Some (lines.Task task) → old.turns ≡ [] → length old.tasks < MAX_TASKS
    → new.tasks ≡ old.tasks ++ task ∷ [] → new.turns ≡ old.turns → IsPlan text old → IsPlan (text ++ line ∷ []) new
with_task text line old new task says none few tasks turns is = record {
  lines_are = said_more text line (said_by old) (lines.Task task) is.lines_are says ∙ ap (map Some) (sym (said_task old new task none tasks turns));
  few = subst (λ (ts : List Task). length ts ≤ MAX_TASKS) (sym tasks) (one_more old.tasks task few);
  have_tasks = subst (λ (ts : List Turn). All (λ (t : Turn). t.task < length new.tasks) ts) (sym (turns ∙ none)) (All-nil (λ (t : Turn). t.task < length new.tasks));
}

pub with_turn : (text : List (List ℕ)) (line : List ℕ) (old new : Plan) (turn : Turn) → line_of line ≡ Some (lines.Turn turn) → turn.task < length old.tasks
    → new.tasks ≡ old.tasks → new.turns ≡ old.turns ++ turn ∷ [] → IsPlan text old → IsPlan (text ++ line ∷ []) new
with_turn text line old new turn says there tasks turns is = record {
  lines_are = said_more text line (said_by old) (lines.Turn turn) is.lines_are says ∙ ap (map Some) (sym (said_turn old new turn tasks turns));
  few = subst (λ (ts : List Task). length ts ≤ MAX_TASKS) (sym tasks) is.few;
  have_tasks =
      subst (λ (ts : List Turn). All (λ (t : Turn). t.task < length new.tasks) ts) (sym turns)
      (subst (λ (ts : List Task). All (λ (t : Turn). t.task < length ts) (old.turns ++ turn ∷ [])) (sym tasks)
      (All-push (λ (t : Turn). t.task < length old.tasks) old.turns turn is.have_tasks there));
}

pub no_lines : (plan : Plan) → plan.tasks ≡ [] → plan.turns ≡ [] → IsPlan [] plan
no_lines plan tasks turns = record {
  lines_are = sym (ap (λ (ls : List Line). map Some ls) (ap (λ (ts : List Task). map lines.Task ts ++ map lines.Turn plan.turns) tasks ∙ ap (λ (ts : List Turn). map lines.Turn ts) turns));
  few = subst (λ (ts : List Task). length ts ≤ MAX_TASKS) (sym tasks) (omega arith);
  have_tasks = subst (λ (ts : List Turn). All (λ (t : Turn). t.task < length plan.tasks) ts) (sym turns) (All-nil (λ (t : Turn). t.task < length plan.tasks));
}
