-- The wide length of a code.
use Rattle.std.specs.Prelude.{ℕ, List}
use Rattle.emit_measures.specs.bc_scheme.bc_ops.declared.instr.Instr.{Instr}
use Rattle.emit_measures.specs.bc_scheme.bc_machine.Library.{Item, Line}
use Rattle.emit_measures.specs.Wide as counts

-- the bytes of an instruction with its operand at its longest
abbrev pub wide_instr : Instr → ℕ
wide_instr = counts.wide_instr

-- the bytes of any item with its operand at its longest
abbrev pub wide_item : Item → ℕ
wide_item = counts.wide_item

-- the bytes of a code's lines with each operand at its longest
abbrev pub wide_length : List Line → ℕ
wide_length = counts.wide_length
