-- What the forms in memory hold, and which of their calls fail.
use Rattle.std.specs.Prelude.{ℕ, ◌+◌, ◌-◌, ◌/◌, ◌^◌, min, Bool, List, [], ◌∷◌, map, take, length, Some, None, String, Vec}
use Rattle.std.specs.Prelude.{string_bytes, bytes_eq, if◌then◌else◌}
use Rattle.std.specs.declared.alloc.Global.{Global}
use Rattle.mpy_io.specs.Files.{FileOf}

-- a sink in memory
pub record SinkState : Type 0 where
  pub bytes : List ℕ
  -- the numbers of the calls that fail
  pub fail : List ℕ
  -- how many calls were made, how many failed, and how many failed for want of memory
  pub calls : ℕ
  pub faults : ℕ
  pub starved : ℕ

-- a folder in memory: names and bytes, and the same
pub record FolderState : Type 0 where
  pub files : List (List ℕ × List ℕ)
  pub fail : List ℕ
  pub calls : ℕ
  pub faults : ℕ
  pub starved : ℕ

-- what a name stands for
abbrev pub file_of : List (List ℕ × List ℕ) → FileOf
file_of [] name = None
file_of (file ∷ files) name = if bytes_eq file.0 name then Some file.1 else file_of files name

-- the name and the bytes of a file that is held
abbrev pub entry_of : String Global × Vec ℕ Global → List ℕ × List ℕ
entry_of file = (string_bytes file.0, file.1.items)

-- the names and bytes of the files that are held
abbrev pub entries_of : List (String Global × Vec ℕ Global) → List (List ℕ × List ℕ)
entries_of files = map entry_of files

-- a count one greater, which stands still at the end of its type
abbrev pub next : ℕ → ℕ
next count = min (count + 1) (2 ^ 64 - 1)

-- the half of a piece that a call which is to fail leaves
abbrev pub half : List ℕ → List ℕ
half bytes = take (length bytes / 2) bytes

-- what a call leaves of its piece
abbrev pub left_of : Bool → List ℕ → List ℕ
left_of listed bytes = if listed then half bytes else bytes
