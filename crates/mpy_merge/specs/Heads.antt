-- What stands in front of the codes in a code.
use Rattle.std.specs.Prelude.{ℕ, zero, suc, List, ◌++◌, length, true, false}
use Rattle.mpy_base.specs.Vuint.{vuint}
use Rattle.mpy_writer.specs.mpy_tree.File.{header_of}

-- the header, the own bytes and, where there are codes in it, their number
abbrev pub head_of : List ℕ → ℕ → List ℕ
head_of own zero = vuint (header_of (length own) false) ++ own
head_of own (suc n) = vuint (header_of (length own) true) ++ (own ++ vuint (suc n))
