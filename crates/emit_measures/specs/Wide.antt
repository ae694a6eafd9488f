-- The wide length of code: the bytes of its instructions with each operand at its longest.
use Rattle.std.specs.Prelude.{ℕ, ◌+◌, List, [], ◌∷◌, nat_lt, if◌then◌else◌, ℤ, pos, negsuc}
use Rattle.bc_scheme.specs.bc_ops.declared.instr.Op.{Op}
use Rattle.bc_scheme.specs.bc_ops.declared.instr.Op.TheVariants as ops
use Rattle.bc_scheme.specs.bc_ops.declared.instr.Instr.{Instr}
use Rattle.bc_scheme.specs.bc_ops.declared.instr.Instr.TheVariants as instrs
use Rattle.bc_scheme.specs.bc_machine.Library.{Item, Plain, Names, Loads, Jumps, Unwinds, Line}

-- the short forms have their local inside the first byte
abbrev pub wide_number : Op → ℕ
wide_number ops.LoadFast = 1
wide_number ops.StoreFast = 1
wide_number op = 4

-- an integer from -16 to 47 stands inside the first byte
abbrev pub wide_int : ℤ → ℕ
wide_int (pos n) = if nat_lt n 48 then 1 else 6
wide_int (negsuc n) = if nat_lt n 16 then 1 else 6

-- an instruction as it stands in a file
abbrev pub wide_instr : Instr → ℕ
wide_instr (instrs.Plain op) = 1
wide_instr (instrs.Name op n) = 4
wide_instr (instrs.Num op n) = wide_number op
wide_instr (instrs.Int n) = wide_int n
wide_instr (instrs.Jump op offset wide) = 3
wide_instr (instrs.Unwind offset wide byte) = 4
wide_instr (instrs.Unary op) = 1
wide_instr (instrs.Binary op) = 1

-- an instruction as the machine has it
abbrev pub wide_item : Item → ℕ
wide_item (Plain instr) = wide_instr instr
wide_item (Names op text) = 4
wide_item (Loads value) = 4
wide_item (Jumps op position) = 3
wide_item (Unwinds position byte) = 4

-- all instructions of a code
abbrev pub wide_length : List Line → ℕ
wide_length [] = 0
wide_length (line ∷ lines) = wide_item line.item + wide_length lines
