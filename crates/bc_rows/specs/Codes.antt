-- The codes of a library by their modules and numbers.
use Rattle.std.specs.Prelude.{ℕ, Option, slice_get, option_and_then}
use Rattle.bc_machine.specs.mpy_tree.Codes.{Placed, codes_of}
use Rattle.bc_library.specs.Shelf.{Shelf, module_at}

-- the code that has the number `k` in the module `i`
abbrev pub code_numbered : Shelf → ℕ → ℕ → Option Placed
code_numbered shelf i k = option_and_then (λ m. slice_get (codes_of m) k) (module_at shelf i)
