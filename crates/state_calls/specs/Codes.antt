-- The codes of functions in a library.
use Rattle.std.specs.Prelude.{◌≡◌, ℕ, Option, None, position, option_and_then}
use Rattle.std.specs.Str.{bytes_eq}
use Rattle.vm_states.specs.bc_library.Constants.{items_at, text_at}
use Rattle.vm_states.specs.bc_library.Shelf.{Shelf, names}
use Rattle.vm_states.specs.bc_rows.Codes.{code_numbered}
use Rattle.frame_calls.specs.prim_walks.Plain.{plain_name}
use Rattle.frame_calls.specs.prim_calls.declared.callees.Function.{Function}

-- the first module whose name is the text of the number
abbrev pub module_of_name : Shelf → ℕ → Option ℕ
module_of_name shelf number = position (bytes_eq (plain_name (text_at shelf) (items_at shelf) number)) (names shelf)

-- the library has no code of the function
abbrev pub LacksCode : Shelf → Function → Type 0
LacksCode shelf f = option_and_then (λ i. code_numbered shelf i f.code) (module_of_name shelf f.module_name) ≡ None
