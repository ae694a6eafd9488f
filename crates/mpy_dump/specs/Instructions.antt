-- The lines of a code's instructions.
use Rattle.std.specs.Prelude.{ℕ, ◌+◌, ◌-◌, List, [], ◌∷◌, ◌++◌, Option, Some, None, length, codes, decimal, pos, ◌+ℤ◌}
use Rattle.std.specs.Fmt.{signed_decimal}
use Rattle.mpy_tree.specs.bc_ops.declared.instr.Instr.{Instr}
use Rattle.mpy_tree.specs.bc_ops.declared.instr.Instr.TheVariants.{Plain, Name, Num, Int, Jump, Unwind, Unary, Binary}
use Rattle.mpy_tree.specs.bc_ops.Listing.{Piece}
use Rattle.mpy_tree.specs.bc_prelude.Lines.{line_of}
use Rattle.mpy_tree.specs.Raw.{Module}
use Rattle.mpy_tree.specs.Resolved.{name_at}
use Rattle.mpy_dump.specs.Texts.{name_text}
use Rattle.mpy_dump.specs.Operations.{operation_name, unary_sign, binary_sign, binary_name}

-- a name by what its number leads to
abbrev pub name_or_number : Option (List ℕ) → ℕ → List ℕ
name_or_number None n = codes "?" ++ decimal n
name_or_number (Some name) n = name_text name

-- the name of number `n` as it is listed, or the number where it leads to no text
abbrev pub name_text_at : Module → ℕ → List ℕ
name_text_at m n = name_or_number (name_at m n) n

-- the name of an instruction
abbrev pub instr_name : Instr → List ℕ
instr_name (Plain op) = operation_name op
instr_name (Name op n) = operation_name op
instr_name (Num op n) = operation_name op
instr_name (Int n) = codes "LOAD_CONST_SMALL_INT"
instr_name (Jump op offset wide) = operation_name op
instr_name (Unwind offset wide byte) = codes "UNWIND_JUMP"
instr_name (Unary op) = codes "UNARY_OP"
instr_name (Binary op) = binary_name op

-- the operand of an instruction that ends at the offset. A jump's is where it goes: it counts from the end of its own
-- offset, behind which an unwinding jump has one byte.
abbrev pub operand_text : Module → ℕ → Instr → List ℕ
operand_text m end (Plain op) = []
operand_text m end (Name op n) = codes " " ++ name_text_at m n
operand_text m end (Num op n) = codes " " ++ decimal n
operand_text m end (Int n) = codes " " ++ signed_decimal n
operand_text m end (Jump op offset wide) = codes " " ++ signed_decimal (pos end +ℤ offset)
operand_text m end (Unwind offset wide byte) =
    codes " " ++ (signed_decimal (pos (end - 1) +ℤ offset) ++ (codes " " ++ decimal byte))
operand_text m end (Unary op) = codes " " ++ unary_sign op
operand_text m end (Binary op) = codes " " ++ binary_sign op

-- the offset, the line and the name
abbrev pub instr_head : ℕ → ℕ → Instr → List ℕ
instr_head start line instr = decimal start ++ (codes " " ++ (decimal line ++ (codes " " ++ instr_name instr)))

-- what a line of an instruction begins with: the offset and the line, each with a blank behind
abbrev pub head_text : ℕ → ℕ → List ℕ
head_text start line = decimal start ++ (codes " " ++ (decimal line ++ codes " "))

-- the end of an instruction's line, from its name on
abbrev pub instr_tail : Module → ℕ → Instr → List ℕ
instr_tail m end instr = instr_name instr ++ (operand_text m end instr ++ codes "\n")

-- the line of an instruction that starts at `start` and ends at `end`
abbrev pub instr_line : Module → ℕ → ℕ → ℕ → Instr → List ℕ
instr_line m start line end instr = instr_head start line instr ++ (operand_text m end instr ++ codes "\n")

-- the lines of instructions by the table of their lines, where the first starts at the offset that is given
abbrev pub instr_lines : Module → List ℕ → ℕ → List Piece → List ℕ
instr_lines m table start [] = []
instr_lines m table start (piece ∷ pieces) =
    instr_line m start (line_of table start) (start + length piece.text) piece.instr
    ++ instr_lines m table (start + length piece.text) pieces
