-- Where the code looks for a text among those that every file may name by number.
use Rattle.std.specs.Prelude.{ℕ, ◌+◌, ◌-◌, ◌*◌, ◌/◌, ◌%◌, min, List, length, slice_index}
use Rattle.qstr_pool.specs.declared.table.TheConstants.{SHIFTS}

-- the slot of a text
abbrev pub slot : List ℕ → ℕ
slot text =
    let shift = slice_index SHIFTS ((length text + 54 * slice_index text 0) % 32) in
    (9 * slice_index text (length text / 2) + 10 * slice_index text (min (length text - 1) 2) + shift) % 256
