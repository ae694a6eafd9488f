-- What the parts of the reader answer.
use Rattle.std.specs.Prelude.{◌≡◌, ℕ, List, ◌++◌, length, ℤ, Bool, Result, Ok, Err}
use Rattle.mpy_base.specs.Vuint as numbers
use Rattle.bc_ops.specs.declared.decoding.CodeFault.{CodeFault}
use Rattle.bc_ops.specs.declared.decoding.CodeFault.TheVariants as faults
use Rattle.bc_ops.specs.declared.form.Form.{Form}
use Rattle.bc_ops.specs.declared.form.Form.TheVariants as forms
use Rattle.bc_ops.specs.declared.instr.Instr.{Instr}
use Rattle.bc_ops.specs.Signed as integers
use Rattle.bc_ops.specs.Offset as offsets
use Rattle.bc_ops.specs.Code.{Operand, Spells, IsOutside, IsCut, IsPast, BeginsOutside, BeginsUnknown, EndsInside, PassesForm}

-- what is read of a number: the one in front of the bytes, or why there is none
abbrev pub ReadsNumber : List ℕ → Result (ℕ × ℕ) CodeFault → Type 0
ReadsNumber bytes (Ok found) = (text rest : List ℕ) × numbers.Spells text found.0 × (bytes ≡ text ++ rest) × (found.1 ≡ length text)
ReadsNumber bytes (Err faults.Truncated) = numbers.EndsInside bytes
ReadsNumber bytes (Err faults.BadNumber) = numbers.PassesForm bytes
ReadsNumber bytes (Err fault) = ⊥

-- what is read of groups: the number that those in front of the bytes are, or why there is none
abbrev pub ReadsGroups : List ℕ → Result (ℕ × ℕ) CodeFault → Type 0
ReadsGroups bytes (Ok found) = (text rest : List ℕ) × numbers.Groups text found.0 × (bytes ≡ text ++ rest) × (found.1 ≡ length text)
ReadsGroups bytes (Err faults.Truncated) = numbers.EndsInside bytes
ReadsGroups bytes (Err faults.BadNumber) = numbers.HasFiveMore bytes
ReadsGroups bytes (Err fault) = ⊥

-- what reading a signed number answers
abbrev pub ReadsSigned : List ℕ → Result (ℤ × ℕ) CodeFault → Type 0
ReadsSigned bytes (Ok found) = (text rest : List ℕ) × integers.Spells text found.0 × (bytes ≡ text ++ rest) × (found.1 ≡ length text)
ReadsSigned bytes (Err faults.Truncated) = numbers.EndsInside bytes
ReadsSigned bytes (Err faults.BadNumber) = integers.PassesForm bytes
ReadsSigned bytes (Err fault) = ⊥

-- what reading an offset answers, with whether it is wide
abbrev pub ReadsOffset : Bool → List ℕ → Result (ℤ × Bool × ℕ) CodeFault → Type 0
ReadsOffset signed bytes (Ok found) = (text rest : List ℕ) × offsets.Spells signed found.1 text found.0 × (bytes ≡ text ++ rest) × (found.2 ≡ length text)
ReadsOffset signed bytes (Err faults.Truncated) = offsets.EndsInside bytes
ReadsOffset signed bytes (Err fault) = ⊥

-- what reading the operand of an unwinding jump answers
abbrev pub ReadsUnwind : List ℕ → Result (Instr × ℕ) CodeFault → Type 0
ReadsUnwind bytes (Ok found) = (text rest : List ℕ) × Operand forms.Unwind text found.0 × (bytes ≡ text ++ rest) × (found.1 ≡ length text)
ReadsUnwind bytes (Err faults.Truncated) = IsCut forms.Unwind bytes
ReadsUnwind bytes (Err fault) = ⊥

-- what is read of bytes whose first has the form: the operand in front of those behind it, or why there is none
abbrev pub ReadsOperand : Form → ℕ → List ℕ → Result (Instr × ℕ) CodeFault → Type 0
ReadsOperand form first bytes (Ok found) = (text rest : List ℕ) × Operand form text found.0 × (bytes ≡ text ++ rest) × (found.1 ≡ length text)
ReadsOperand form first bytes (Err (faults.UnknownOpcode byte)) = (byte ≡ first) × (form ≡ forms.Unknown)
ReadsOperand form first bytes (Err (faults.OutsideProfile byte)) = (byte ≡ first) × IsOutside form bytes
ReadsOperand form first bytes (Err faults.Truncated) = IsCut form bytes
ReadsOperand form first bytes (Err faults.BadNumber) = IsPast form bytes

-- what is read of bytes: the instruction in front, or why there is none
abbrev pub Reads : List ℕ → Result (Instr × ℕ) CodeFault → Type 0
Reads bytes (Ok found) = (text rest : List ℕ) × Spells text found.0 × (bytes ≡ text ++ rest) × (found.1 ≡ length text)
Reads bytes (Err (faults.UnknownOpcode byte)) = BeginsUnknown byte bytes
Reads bytes (Err (faults.OutsideProfile byte)) = BeginsOutside byte bytes
Reads bytes (Err faults.Truncated) = EndsInside bytes
Reads bytes (Err faults.BadNumber) = PassesForm bytes
