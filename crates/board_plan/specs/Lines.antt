-- The lines of a text, the words of a line, and what a line of a plan says.
use Rattle.std.specs.Prelude.{ℕ, suc, Bool, true, false, ◌-◌, ◌^◌, ◌==◌, if◌then◌else◌, List, [], ◌∷◌, length, Option, Some, None, option_map, codes, bytes_eq}
use Rattle.mpy_base.specs.declared.room.Room.{Room}
use Rattle.mpy_words.specs.Given.{most_cells, most_bytes, most_steps}
use Rattle.mpy_words.specs.Number.{number_of}
use Rattle.board_plan.specs.declared.plan.Task.{Task}
use Rattle.board_plan.specs.declared.plan.Turn.{Turn}
use Rattle.board_plan.specs.declared.line.Line.{Line}
use Rattle.board_plan.specs.declared.line.Line.TheVariants as lines

-- ---- the parts of a text

-- how many bytes stand before the first one of this kind
abbrev pub front_length : (byte : ℕ) → List ℕ → ℕ
front_length byte [] = 0
front_length byte (other ∷ text) = if other == byte then 0 else suc (front_length byte text)

-- a byte in front of the first part, or a part of its own
abbrev pub onto_first : ℕ → List (List ℕ) → List (List ℕ)
onto_first byte [] = (byte ∷ []) ∷ []
onto_first byte (part ∷ parts) = (byte ∷ part) ∷ parts

-- the lines of a text, each without its LF (10), which the last one may lack
abbrev pub lines_of : List ℕ → List (List ℕ)
lines_of [] = []
lines_of (byte ∷ text) = if byte == 10 then [] ∷ lines_of text else onto_first byte (lines_of text)

-- the words of a line, one at least, which are parted by one space (32)
abbrev pub words_of : List ℕ → List (List ℕ)
words_of [] = [] ∷ []
words_of (byte ∷ line) = if byte == 32 then [] ∷ words_of line else onto_first byte (words_of line)

-- whether there are two of them
abbrev pub are_two : List (List ℕ) → Bool
are_two [] = false
are_two (first ∷ []) = false
are_two (first ∷ second ∷ []) = true
are_two (first ∷ second ∷ word ∷ words) = false

-- ---- what a line says

-- the room, where both of its numbers are there
abbrev pub room_with : Option ℕ → Option ℕ → Option Room
room_with None bytes = None
room_with (Some cells) None = None
room_with (Some cells) (Some bytes) = Some (record { cells = cells; bytes = bytes })

-- a room with the bounds of the options of a run
abbrev pub room_of : (cells bytes : List ℕ) → Option Room
room_of cells bytes = room_with (number_of most_cells cells) (number_of most_bytes bytes)

-- a name of one byte at least, and a room
abbrev pub named_task : (name cells bytes : List ℕ) → Option Task
named_task name cells bytes =
    if length name == 0 then None else option_map (λ room. record { «module» = name; room = room }) (room_of cells bytes)

-- the task that the words behind `task` are
abbrev pub task_by : List (List ℕ) → Option Task
task_by [] = None
task_by (name ∷ []) = None
task_by (name ∷ cells ∷ []) = None
task_by (name ∷ cells ∷ bytes ∷ []) = named_task name cells bytes
task_by (name ∷ cells ∷ bytes ∷ word ∷ words) = None

-- the turn, where both of its numbers are there
abbrev pub turn_with : Option ℕ → Option ℕ → Option Turn
turn_with None steps = None
turn_with (Some task) None = None
turn_with (Some task) (Some steps) = Some (record { task = task; steps = steps })

-- the turn that the words behind `turn` are: a number of 32 bits, and steps with the bound of the option of a run
abbrev pub turn_by : List (List ℕ) → Option Turn
turn_by [] = None
turn_by (task ∷ []) = None
turn_by (task ∷ steps ∷ []) = turn_with (number_of (2 ^ 32 - 1) task) (number_of most_steps steps)
turn_by (task ∷ steps ∷ word ∷ words) = None

-- what a line of these words says, if anything
abbrev pub line_by : List (List ℕ) → Option Line
line_by [] = None
line_by (first ∷ words) =
    if bytes_eq first (codes "task") then option_map lines.Task (task_by words)
    else (if bytes_eq first (codes "turn") then option_map lines.Turn (turn_by words) else None)

-- what a line says, None where it is no line of a plan
abbrev pub line_of : List ℕ → Option Line
line_of line = line_by (words_of line)
