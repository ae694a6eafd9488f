-- The instructions of a code as bytes.
use Rattle.std.specs.Prelude.{◌≡◌, ◌⊎◌, ℕ, ◌+◌, ◌-◌, ◌<◌, ◌≤◌, ◌^◌, List, [], ◌∷◌, ◌++◌, ℤ, pos, negsuc, Bool, true, false, nat_lt, if◌then◌else◌}
use Rattle.mpy_base.specs.Vuint as numbers
use Rattle.mpy_base.specs.Vuint.{vuint}
use Rattle.bc_ops.specs.declared.form.Form.{Form}
use Rattle.bc_ops.specs.declared.form.Form.TheVariants as forms
use Rattle.bc_ops.specs.declared.instr.Op.{Op}
use Rattle.bc_ops.specs.declared.instr.Instr.{Instr}
use Rattle.bc_ops.specs.declared.instr.Instr.TheVariants as instrs
use Rattle.bc_ops.specs.Table.{code_of, form_of}
use Rattle.bc_ops.specs.Signed as integers
use Rattle.bc_ops.specs.Offset as offsets

-- the bytes behind the first are an instruction's operand
abbrev pub Operand : Form → List ℕ → Instr → Type 0
Operand (forms.Whole whole) bytes instr = (bytes ≡ []) × (instr ≡ whole)
Operand (forms.Name op) bytes instr = (n : ℕ) × numbers.Spells bytes n × (instr ≡ instrs.Name op n)
Operand (forms.Number op) bytes instr = (n : ℕ) × numbers.Spells bytes n × (instr ≡ instrs.Num op n)
Operand (forms.Call op) bytes instr = (n : ℕ) × numbers.Spells bytes n × (n < 2 ^ 16) × (instr ≡ instrs.Num op n)
Operand forms.Signed bytes instr = (z : ℤ) × integers.Spells bytes z × (instr ≡ instrs.Int z)
Operand (forms.Offset op signed) bytes instr = (offset : ℤ) × (wide : Bool) × offsets.Spells signed wide bytes offset × (instr ≡ instrs.Jump op offset wide)
Operand forms.Unwind bytes instr = (text : List ℕ) × (byte : ℕ) × (offset : ℤ) × (wide : Bool) × offsets.Spells true wide text offset
    × (bytes ≡ text ++ byte ∷ []) × (instr ≡ instrs.Unwind offset wide byte)
Operand forms.Outside bytes instr = ⊥
Operand forms.Unknown bytes instr = ⊥

-- the bytes are the instruction
pub record Spells (bytes : List ℕ) (instr : Instr) : Type 0 where
  pub first : ℕ
  pub behind : List ℕ
  pub parts : bytes ≡ first ∷ behind
  pub operand : Operand (form_of first) behind instr

-- Why bytes begin with no instruction, by what follows the first byte: the counts of a call have sixteen bits.
abbrev pub IsOutside : Form → List ℕ → Type 0
IsOutside (forms.Call op) bytes = (text rest : List ℕ) × (n : ℕ) × numbers.Spells text n × (bytes ≡ text ++ rest) × (2 ^ 16 ≤ n)
IsOutside forms.Outside bytes = Unit {0}
IsOutside form bytes = ⊥

-- the bytes end inside the operand of this form
abbrev pub IsCut : Form → List ℕ → Type 0
IsCut (forms.Name op) bytes = numbers.EndsInside bytes
IsCut (forms.Number op) bytes = numbers.EndsInside bytes
IsCut (forms.Call op) bytes = numbers.EndsInside bytes
IsCut forms.Signed bytes = numbers.EndsInside bytes
IsCut (forms.Offset op signed) bytes = offsets.EndsInside bytes
IsCut forms.Unwind bytes = offsets.EndsInside bytes ⊎ ((offset : ℤ) × (wide : Bool) × offsets.Spells true wide bytes offset)
IsCut form bytes = ⊥

-- the operand of this form passes its form
abbrev pub IsPast : Form → List ℕ → Type 0
IsPast (forms.Name op) bytes = numbers.PassesForm bytes
IsPast (forms.Number op) bytes = numbers.PassesForm bytes
IsPast (forms.Call op) bytes = numbers.PassesForm bytes
IsPast forms.Signed bytes = integers.PassesForm bytes
IsPast form bytes = ⊥

-- the bytes begin with the byte, and with an instruction that isn't supported
abbrev pub BeginsOutside : ℕ → List ℕ → Type 0
BeginsOutside byte [] = ⊥
BeginsOutside byte (first ∷ behind) = (byte ≡ first) × IsOutside (form_of first) behind

-- the bytes begin with the byte, which no instruction does
abbrev pub BeginsUnknown : ℕ → List ℕ → Type 0
BeginsUnknown byte [] = ⊥
BeginsUnknown byte (first ∷ behind) = (byte ≡ first) × (form_of first ≡ forms.Unknown)

-- the bytes end inside an instruction
abbrev pub EndsInside : List ℕ → Type 0
EndsInside [] = Unit {0}
EndsInside (first ∷ behind) = IsCut (form_of first) behind

-- the operand has no spelling
abbrev pub PassesForm : List ℕ → Type 0
PassesForm [] = ⊥
PassesForm (first ∷ behind) = IsPast (form_of first) behind

-- the bytes of an operation with a number, which the short forms of locals have inside their byte
abbrev pub number_bytes : Form → ℕ → ℕ → List ℕ
number_bytes (forms.Whole whole) code n = (code + n) ∷ []
number_bytes form code n = code ∷ vuint n

-- is the offset of this form signed?
abbrev pub is_signed : Form → Bool
is_signed (forms.Offset op signed) = signed
is_signed form = false

-- the shortest bytes of an integer
abbrev pub int_bytes : ℤ → List ℕ
int_bytes (pos n) = if nat_lt n 48 then (0x80 + n) ∷ [] else 0x22 ∷ integers.signed (pos n)
int_bytes (negsuc n) = if nat_lt n 16 then (0x7f - n) ∷ [] else 0x22 ∷ integers.signed (negsuc n)

-- what is written for an instruction
abbrev pub spelling : Instr → List ℕ
spelling (instrs.Plain op) = code_of op ∷ []
spelling (instrs.Name op n) = code_of op ∷ vuint n
spelling (instrs.Num op n) = number_bytes (form_of (code_of op)) (code_of op) n
spelling (instrs.Int n) = int_bytes n
spelling (instrs.Jump op offset wide) = code_of op ∷ offsets.offset_bytes (is_signed (form_of (code_of op))) wide offset
spelling (instrs.Unwind offset wide byte) = 0x40 ∷ (offsets.offset_bytes true wide offset ++ byte ∷ [])
spelling (instrs.Unary op) = (0xd0 + op) ∷ []
spelling (instrs.Binary op) = (0xd7 + op) ∷ []

-- the operation of this form may have the number
abbrev pub TakesNumber : Form → Op → ℕ → Type 0
TakesNumber (forms.Whole whole) op n = (whole ≡ instrs.Num op 0) × (n < 16)
TakesNumber (forms.Number o) op n = (o ≡ op) × (n < 2 ^ 31)
TakesNumber (forms.Call o) op n = (o ≡ op) × (n < 2 ^ 16)
TakesNumber form op n = ⊥

-- the operation of this form may have the offset
abbrev pub TakesOffset : Form → Op → Bool → ℤ → Type 0
TakesOffset (forms.Offset o signed) op wide offset = (o ≡ op) × offsets.Fits signed wide offset
TakesOffset form op wide offset = ⊥

-- the operation is one of its variant, and the operand keeps its bounds
abbrev pub IsEncodable : Instr → Type 0
IsEncodable (instrs.Plain op) = form_of (code_of op) ≡ forms.Whole (instrs.Plain op)
IsEncodable (instrs.Name op n) = (form_of (code_of op) ≡ forms.Name op) × (n < 2 ^ 31)
IsEncodable (instrs.Num op n) = TakesNumber (form_of (code_of op)) op n
IsEncodable (instrs.Int n) = integers.IsSmall n
IsEncodable (instrs.Jump op offset wide) = TakesOffset (form_of (code_of op)) op wide offset
IsEncodable (instrs.Unwind offset wide byte) = offsets.Fits true wide offset
IsEncodable (instrs.Unary op) = op < 4
IsEncodable (instrs.Binary op) = (op < 35) × (form_of (0xd7 + op) ≡ forms.Whole (instrs.Binary op))
