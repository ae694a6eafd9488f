-- A place in a table of lines.
use Rattle.std.specs.Prelude.{◌≡◌, ℕ, ◌+◌, ◌-◌, ◌*◌, ◌≤◌, List, length, drop}
use Rattle.bc_prelude.specs.Lines.{entries_of, lines_passed, line_of}
use Rattle.bc_prelude.specs.declared.cursor.Place.{Place}

-- the entries in front of it are passed by every offset that isn't in front of it
pub record IsPlace (table : List ℕ) (place : Place) : Type 0 where
  pub within : place.at ≤ length table
  pub room : place.line ≤ 1 + 2047 * place.at
  pub lines : (offset : ℕ) → place.passed ≤ offset
      → place.line + lines_passed (entries_of (drop place.at table)) (offset - place.passed) ≡ line_of table offset
