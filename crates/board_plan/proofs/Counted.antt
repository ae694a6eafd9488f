-- The steps of a plan can be counted.
use Rattle.std.proofs.Common.{◌≡◌, ℕ, ◌+◌, ◌-◌, ◌*◌, ◌≤◌, ◌==◌, Bool, true, false, nat_le, if◌then◌else◌, List, [], ◌∷◌, ◌++◌, map, length, Option, Some, None, option_map, codes, refl, ap, ◌∙◌, leb-true, arith}
use Rattle.std.specs.Str.{bytes_eq}
use Rattle.std.specs.Char.{is_ascii_digit}
use Rattle.mpy_words.specs.Given.{most_steps}
use Rattle.mpy_words.specs.Number.{value_of, number_of}
use Rattle.board_plan.specs.declared.line.Line.{Line}
use Rattle.board_plan.specs.declared.line.Line.TheVariants as lines
use Rattle.board_plan.specs.declared.plan.Plan.{Plan}
use Rattle.board_plan.specs.declared.plan.Task.{Task}
use Rattle.board_plan.specs.declared.plan.Turn.{Turn}
use Rattle.board_plan.specs.Lines.{onto_first, lines_of, words_of, task_by, turn_with, turn_by, line_by, line_of}
use Rattle.board_plan.specs.Plans.{IsPlan, all_steps}

-- numbers within their bounds
fits : (b : Bool) (n most v : ℕ) → nat_le n most ≡ b → (if b then Some n else None) ≡ Some v → v ≤ most
fits true n most v le e = let is : n ≡ v = cc in let within : n ≤ most = leb-true n most le in omega arith
fits false n most v le e = absurd cc

digit_within : (b : Bool) (most v : ℕ) (rest : Option ℕ) → (rest ≡ Some v → v ≤ most) → (if b then rest else None) ≡ Some v → v ≤ most
digit_within true most v rest within e = within e
digit_within false most v rest within e = absurd cc

value_within : (most n : ℕ) (word : List ℕ) (v : ℕ) → value_of most n word ≡ Some v → v ≤ most
unfolding value_of
value_within most n [] v e = fits (nat_le n most) n most v refl e
value_within most n (byte ∷ word) v e = digit_within (is_ascii_digit byte) most v (value_of most (10 * n + (byte - 48)) word) (value_within most (10 * n + (byte - 48)) word v) e

number_by : (b : Bool) (most v : ℕ) (value : Option ℕ) → (value ≡ Some v → v ≤ most) → (if b then None else value) ≡ Some v → v ≤ most
number_by true most v value within e = absurd cc
number_by false most v value within e = within e

number_within : (most : ℕ) (word : List ℕ) (v : ℕ) → number_of most word ≡ Some v → v ≤ most
number_within most word v e = number_by (length word == 0) most v (value_of most 0 word) (value_within most 0 word v) e

-- the steps that a line says
abbrev steps_in : Option Line → ℕ
steps_in None = 0
steps_in (Some (lines.Task task)) = 0
steps_in (Some (lines.Turn turn)) = turn.steps

with_within : (task steps : Option ℕ) (most : ℕ) → ((v : ℕ) → steps ≡ Some v → v ≤ most) → steps_in (option_map lines.Turn (turn_with task steps)) ≤ most
with_within None steps most within = omega arith
with_within (Some task) None most within = omega arith
with_within (Some task) (Some steps) most within = within steps refl

turn_within : (words : List (List ℕ)) → steps_in (option_map lines.Turn (turn_by words)) ≤ most_steps
turn_within [] = omega arith
turn_within (task ∷ []) = omega arith
turn_within (task ∷ steps ∷ []) = with_within _ (number_of most_steps steps) most_steps (number_within most_steps steps)
turn_within (task ∷ steps ∷ word ∷ words) = omega arith

no_steps : (task : Option Task) → steps_in (option_map lines.Task task) ≤ most_steps
no_steps None = omega arith
no_steps (Some task) = omega arith

said_within : (is_task is_turn : Bool) (task : Option Task) (turn : Option Line) → steps_in turn ≤ most_steps
    → steps_in (if is_task then option_map lines.Task task else (if is_turn then turn else None)) ≤ most_steps
said_within true is_turn task turn within = no_steps task
said_within false true task turn within = within
said_within false false task turn within = omega arith

words_within : (words : List (List ℕ)) → steps_in (line_by words) ≤ most_steps
words_within [] = omega arith
words_within (first ∷ words) = said_within (bytes_eq first (codes "task")) (bytes_eq first (codes "turn")) (task_by words) (option_map lines.Turn (turn_by words)) (turn_within words)

-- the steps that lines say
abbrev all_in : List (Option Line) → ℕ
all_in [] = 0
all_in (line ∷ more) = steps_in line + all_in more

lines_within : (text : List (List ℕ)) → all_in (map line_of text) ≤ length text * most_steps
lines_within [] = omega arith
lines_within (line ∷ text) = omega (arith, words_within (words_of line), lines_within text)

turns_in : (turns : List Turn) → all_in (map Some (map lines.Turn turns)) ≡ all_steps turns
turns_in [] = refl
turns_in (turn ∷ turns) = ap (λ (n : ℕ). turn.steps + n) (turns_in turns)

said_in : (tasks : List Task) (turns : List Turn) → all_in (map Some (map lines.Task tasks ++ map lines.Turn turns)) ≡ all_steps turns
said_in [] turns = turns_in turns
said_in (task ∷ tasks) turns = let rest = said_in tasks turns in omega (arith, rest)

fewer : (byte : ℕ) (parts : List (List ℕ)) (n : ℕ) → length parts ≤ n → length (onto_first byte parts) ≤ n + 1
fewer byte [] n h = omega arith
fewer byte (part ∷ parts) n h = omega (arith, h)

one_fewer : (b : Bool) (byte : ℕ) (parts : List (List ℕ)) (n : ℕ) → length parts ≤ n → length (if b then [] ∷ parts else onto_first byte parts) ≤ n + 1
one_fewer true byte parts n h = omega (arith, h)
one_fewer false byte parts n h = fewer byte parts n h

few_lines : (text : List ℕ) → length (lines_of text) ≤ length text
few_lines [] = omega arith
few_lines (byte ∷ text) = omega (arith, one_fewer (byte == 10) byte (lines_of text) (length text) (few_lines text))

pub plan_steps : (text : List ℕ) (plan : Plan) → IsPlan (lines_of text) plan → all_steps plan.turns ≤ length text * most_steps
plan_steps text plan is =
    let same : all_in (map line_of (lines_of text)) ≡ all_steps plan.turns = ap all_in is.lines_are ∙ said_in plan.tasks plan.turns in
    let within = lines_within (lines_of text) in
    let few = few_lines text in
    omega arith
