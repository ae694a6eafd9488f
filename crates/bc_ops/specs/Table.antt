-- The table of the first bytes.
use Rattle.std.specs.Prelude.{ℕ, ◌-◌, List, [], ◌∷◌, pos, ◌-ℤ◌, Bool, true, false, ◌==◌, ◌||◌, nat_lt, if◌then◌else◌}
use Rattle.bc_ops.specs.declared.form.Form.{Form}
use Rattle.bc_ops.specs.declared.form.Form.TheVariants.{Whole, Name, Number, Call, Signed, Offset, Unwind, Outside, Unknown}
use Rattle.bc_ops.specs.declared.instr.Op.{Op}
use Rattle.bc_ops.specs.declared.instr.Op.TheVariants.{LoadConstString, LoadName, LoadGlobal, LoadAttr, LoadMethod, StoreName}
use Rattle.bc_ops.specs.declared.instr.Op.TheVariants.{StoreGlobal, StoreAttr, DeleteName, DeleteGlobal, ImportName, ImportFrom}
use Rattle.bc_ops.specs.declared.instr.Op.TheVariants.{LoadConstObj, LoadFastN, StoreFastN, DeleteFast, BuildTuple, BuildList}
use Rattle.bc_ops.specs.declared.instr.Op.TheVariants.{BuildMap, UnpackSequence, MakeFunction, MakeFunctionDefargs, CallFunction}
use Rattle.bc_ops.specs.declared.instr.Op.TheVariants.{CallMethod, Jump, PopJumpIfTrue, PopJumpIfFalse, JumpIfTrueOrPop}
use Rattle.bc_ops.specs.declared.instr.Op.TheVariants.{JumpIfFalseOrPop, SetupExcept, SetupFinally, PopExceptJump, ForIter}
use Rattle.bc_ops.specs.declared.instr.Op.TheVariants.{LoadConstFalse, LoadConstNone, LoadConstTrue, LoadNull, LoadSubscr}
use Rattle.bc_ops.specs.declared.instr.Op.TheVariants.{StoreSubscr, DupTop, DupTopTwo, PopTop, RotTwo, RotThree, EndFinally}
use Rattle.bc_ops.specs.declared.instr.Op.TheVariants.{GetIterStack, StoreMap, ReturnValue, RaiseLast, RaiseObj, LoadFast}
use Rattle.bc_ops.specs.declared.instr.Op.TheVariants.{StoreFast}
use Rattle.bc_ops.specs.declared.instr.Instr.TheVariants.{Plain, Num, Int, Unary, Binary}

-- the byte that an operation's instructions begin with
abbrev pub code_of : Op → ℕ
code_of LoadConstString = 0x10
code_of LoadName = 0x11
code_of LoadGlobal = 0x12
code_of LoadAttr = 0x13
code_of LoadMethod = 0x14
code_of StoreName = 0x16
code_of StoreGlobal = 0x17
code_of StoreAttr = 0x18
code_of DeleteName = 0x19
code_of DeleteGlobal = 0x1a
code_of ImportName = 0x1b
code_of ImportFrom = 0x1c
code_of LoadConstObj = 0x23
code_of LoadFastN = 0x24
code_of StoreFastN = 0x26
code_of DeleteFast = 0x28
code_of BuildTuple = 0x2a
code_of BuildList = 0x2b
code_of BuildMap = 0x2c
code_of UnpackSequence = 0x30
code_of MakeFunction = 0x32
code_of MakeFunctionDefargs = 0x33
code_of CallFunction = 0x34
code_of CallMethod = 0x36
code_of Jump = 0x42
code_of PopJumpIfTrue = 0x43
code_of PopJumpIfFalse = 0x44
code_of JumpIfTrueOrPop = 0x45
code_of JumpIfFalseOrPop = 0x46
code_of SetupExcept = 0x48
code_of SetupFinally = 0x49
code_of PopExceptJump = 0x4a
code_of ForIter = 0x4b
code_of LoadConstFalse = 0x50
code_of LoadConstNone = 0x51
code_of LoadConstTrue = 0x52
code_of LoadNull = 0x53
code_of LoadSubscr = 0x55
code_of StoreSubscr = 0x56
code_of DupTop = 0x57
code_of DupTopTwo = 0x58
code_of PopTop = 0x59
code_of RotTwo = 0x5a
code_of RotThree = 0x5b
code_of EndFinally = 0x5d
code_of GetIterStack = 0x5f
code_of StoreMap = 0x62
code_of ReturnValue = 0x63
code_of RaiseLast = 0x64
code_of RaiseObj = 0x65
code_of LoadFast = 0xb0
code_of StoreFast = 0xc0

-- the forms of the first bytes of instructions that name a text
abbrev pub name_rows : List Form
name_rows =
    Name LoadConstString ∷ Name LoadName ∷ Name LoadGlobal ∷ Name LoadAttr ∷ Name LoadMethod ∷ Name StoreName ∷
    Name StoreGlobal ∷ Name StoreAttr ∷ Name DeleteName ∷ Name DeleteGlobal ∷ Name ImportName ∷ Name ImportFrom ∷ []

-- the forms of the first bytes of instructions with a number
abbrev pub number_rows : List Form
number_rows =
    Signed ∷ Number LoadConstObj ∷ Number LoadFastN ∷ Number StoreFastN ∷ Number DeleteFast ∷ Number BuildTuple ∷
    Number BuildList ∷ Number BuildMap ∷ Number UnpackSequence ∷ Number MakeFunction ∷ Number MakeFunctionDefargs ∷
    Call CallFunction ∷ Call CallMethod ∷ []

-- the forms of the first bytes of jumps
abbrev pub jump_rows : List Form
jump_rows =
    Unwind ∷ Offset Jump true ∷ Offset PopJumpIfTrue true ∷ Offset PopJumpIfFalse true ∷
    Offset JumpIfTrueOrPop false ∷ Offset JumpIfFalseOrPop false ∷ Offset SetupExcept false ∷
    Offset SetupFinally false ∷ Offset PopExceptJump false ∷ Offset ForIter false ∷ []

-- the forms of the first bytes of instructions without an operand
abbrev pub plain_rows : List Form
plain_rows =
    Whole (Plain LoadConstFalse) ∷ Whole (Plain LoadConstNone) ∷ Whole (Plain LoadConstTrue) ∷
    Whole (Plain LoadNull) ∷ Whole (Plain LoadSubscr) ∷ Whole (Plain StoreSubscr) ∷ Whole (Plain DupTop) ∷
    Whole (Plain DupTopTwo) ∷ Whole (Plain PopTop) ∷ Whole (Plain RotTwo) ∷ Whole (Plain RotThree) ∷
    Whole (Plain EndFinally) ∷ Whole (Plain GetIterStack) ∷ Whole (Plain StoreMap) ∷ Whole (Plain ReturnValue) ∷
    Whole (Plain RaiseLast) ∷ Whole (Plain RaiseObj) ∷ []

-- the first byte of the instructions of a form in these lists, and 0 of another form
abbrev pub byte_of : Form → ℕ
byte_of (Whole (Plain op)) = code_of op
byte_of (Name op) = code_of op
byte_of (Number op) = code_of op
byte_of (Call op) = code_of op
byte_of Signed = 0x22
byte_of (Offset op signed) = code_of op
byte_of Unwind = 0x40
byte_of form = 0

-- the first bytes that aren't supported among those of instructions that name a text
abbrev pub name_outside : List ℕ
name_outside = 0x15 ∷ []

-- the first bytes that aren't supported among those of instructions with a number
abbrev pub number_outside : List ℕ
number_outside = 0x20 ∷ 0x21 ∷ 0x25 ∷ 0x27 ∷ 0x29 ∷ 0x2d ∷ 0x2e ∷ 0x2f ∷ 0x31 ∷ 0x35 ∷ 0x37 ∷ []

-- the first bytes that aren't supported among those of jumps
abbrev pub jump_outside : List ℕ
jump_outside = 0x47 ∷ []

-- the first bytes that aren't supported among those of instructions without an operand
abbrev pub plain_outside : List ℕ
plain_outside = 0x54 ∷ 0x5c ∷ 0x5e ∷ 0x66 ∷ 0x67 ∷ 0x68 ∷ 0x69 ∷ []

-- the first bytes that aren't supported among those of operators
abbrev pub short_outside : List ℕ
short_outside = 0xe8 ∷ 0xea ∷ 0xf5 ∷ 0xf7 ∷ []

-- is the byte one of these?
abbrev pub is_in : ℕ → List ℕ → Bool
is_in byte [] = false
is_in byte (b ∷ bs) = byte == b || is_in byte bs

-- the row with the byte, where none of the bytes that aren't supported is it
abbrev pub row_for : ℕ → List Form → List ℕ → Form
row_for byte [] outside = if is_in byte outside then Outside else Unknown
row_for byte (row ∷ rows) outside = if byte == byte_of row then row else row_for byte rows outside

-- the forms of the first bytes by their high half
unfoldable pub name_form : ℕ → Form
name_form byte = row_for byte name_rows name_outside

-- the form of a first byte among the instructions with a number
unfoldable pub number_form : ℕ → Form
number_form byte = row_for byte number_rows number_outside

-- the form of a first byte among the jumps
unfoldable pub jump_form : ℕ → Form
jump_form byte = row_for byte jump_rows jump_outside

-- the form of a first byte among the instructions without an operand
unfoldable pub plain_form : ℕ → Form
plain_form byte = row_for byte plain_rows plain_outside

-- from 0x70 on the byte has the operand inside it
unfoldable pub short_form : ℕ → Form
short_form byte =
    if nat_lt byte 0xb0 then Whole (Int (pos byte -ℤ pos 0x80))
    else if nat_lt byte 0xc0 then Whole (Num LoadFast (byte - 0xb0))
    else if nat_lt byte 0xd0 then Whole (Num StoreFast (byte - 0xc0))
    else if nat_lt byte 0xd4 then Whole (Unary (byte - 0xd0))
    else if nat_lt byte 0xd7 then Unknown
    else if nat_lt 0xf9 byte then Unknown
    else if is_in byte short_outside then Outside
    else Whole (Binary (byte - 0xd7))

-- the form of the instructions that begin with the byte
unfoldable pub form_of : ℕ → Form
form_of byte =
    if nat_lt byte 0x20 then name_form byte
    else if nat_lt byte 0x40 then number_form byte
    else if nat_lt byte 0x50 then jump_form byte
    else if nat_lt byte 0x70 then plain_form byte
    else short_form byte
