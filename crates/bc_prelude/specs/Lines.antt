-- Line tables: at which bytes of the instructions a line of the source begins.
use Rattle.std.specs.Prelude.{ℕ, zero, suc, ◌+◌, ◌-◌, ◌*◌, ◌/◌, ◌%◌, ◌≤◌, min, List, [], ◌∷◌, ◌++◌, Bool, ◌&&◌, ◌||◌, ◌==◌, nat_lt, nat_le, if◌then◌else◌}

-- how many bytes of the instructions an entry passes, and by how many lines the line rises there
pub record Entry : Type 0 where
  pub bytes : ℕ
  pub lines : ℕ

-- an entry of one byte, `0LLBBBBB`
abbrev pub short_entry : ℕ → Entry
short_entry first = record { bytes = first % 32; lines = first / 32 }

-- an entry of two bytes, `1LLLBBBB LLLLLLLL`
abbrev pub long_entry : ℕ → ℕ → Entry
long_entry first second = record { bytes = first % 16; lines = 256 * (first / 16 % 8) + second }

-- the entries of a table, up to one that the table's end cuts
abbrev pub entries_of : List ℕ → List Entry
entries_of [] = []
entries_of (first ∷ []) = if nat_lt first 128 then short_entry first ∷ [] else []
entries_of (first ∷ second ∷ others) =
    if nat_lt first 128
    then short_entry first ∷ entries_of (second ∷ others)
    else long_entry first second ∷ entries_of others

-- the lines of the entries that are passed up to an offset
abbrev pub lines_passed : List Entry → ℕ → ℕ
lines_passed [] offset = 0
lines_passed (entry ∷ entries) offset =
    if nat_lt offset entry.bytes then 0 else entry.lines + lines_passed entries (offset - entry.bytes)

-- the line of the instruction at an offset
abbrev pub line_of : List ℕ → ℕ → ℕ
line_of table offset = 1 + lines_passed (entries_of table) offset

-- the lines of the entries together
abbrev pub lines_together : List Entry → ℕ
lines_together [] = 0
lines_together (entry ∷ entries) = entry.lines + lines_together entries

-- what is written
-- ===============

-- a change of bytes and lines begins with a short entry
abbrev pub is_short : ℕ → ℕ → Bool
is_short bytes lines = nat_le lines 6 || nat_lt 15 bytes

-- the entry that a change begins with
abbrev pub bytes_taken : ℕ → ℕ
bytes_taken bytes = min bytes 31

-- how many lines of a change its first entry takes
abbrev pub lines_taken : ℕ → ℕ → ℕ
lines_taken bytes lines =
    if is_short bytes lines then (if nat_le bytes 31 then min lines 3 else 0) else min lines 2047

-- the bytes of an entry
abbrev pub entry_bytes : Bool → ℕ → ℕ → List ℕ
entry_bytes short bytes lines =
    if short then (32 * lines + bytes) ∷ [] else (128 + 16 * (lines / 256) + bytes) ∷ (lines % 256) ∷ []

-- a change written in as many entries as it needs, with a step for each
unfoldable pub change_in : ℕ → ℕ → ℕ → List ℕ
change_in zero bytes lines = []
change_in (suc steps) bytes lines =
    if bytes == 0 && lines == 0
    then []
    else entry_bytes (is_short bytes lines) (bytes_taken bytes) (lines_taken bytes lines)
    ++ change_in steps (bytes - bytes_taken bytes) (lines - lines_taken bytes lines)

-- each entry takes something, so these are steps enough
unfoldable pub change : ℕ → ℕ → List ℕ
change bytes lines = change_in (bytes + lines) bytes lines

-- the table for the pairs of an offset and a line behind such a pair
abbrev pub table_behind : ℕ → ℕ → List (ℕ × ℕ) → List ℕ
table_behind offset line [] = []
table_behind offset line (pair ∷ pairs) =
    change (pair.0 - offset) (pair.1 - line) ++ table_behind pair.0 pair.1 pairs

-- the table for the pairs of an offset and a line, from offset 0 and line 1 on
abbrev pub table_of : List (ℕ × ℕ) → List ℕ
table_of pairs = table_behind 0 1 pairs

-- neither offsets nor lines fall, from such a pair on
abbrev pub RisesFrom : ℕ → ℕ → List (ℕ × ℕ) → Type 0
RisesFrom offset line [] = Unit {0}
RisesFrom offset line (pair ∷ pairs) = (offset ≤ pair.0) × (line ≤ pair.1) × RisesFrom pair.0 pair.1 pairs

-- neither offsets nor lines fall, from offset 0 and line 1 on
abbrev pub Rises : List (ℕ × ℕ) → Type 0
Rises pairs = RisesFrom 0 1 pairs

-- the line that the pairs give for an offset, behind pairs that gave a line
abbrev pub line_among : ℕ → List (ℕ × ℕ) → ℕ → ℕ
line_among line [] offset = line
line_among line (pair ∷ pairs) offset = if nat_lt offset pair.0 then line else line_among pair.1 pairs offset
