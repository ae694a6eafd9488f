-- The names of operations and the signs of operators.
use Rattle.std.specs.Prelude.{ℕ, List, [], ◌∷◌, codes, nat_le, ◌&&◌, slice_index_or, if◌then◌else◌}
use Rattle.mpy_tree.specs.bc_ops.declared.instr.Op.{Op}
use Rattle.mpy_tree.specs.bc_ops.declared.instr.Op.TheVariants.{LoadConstString, LoadName, LoadGlobal, LoadAttr, LoadMethod}
use Rattle.mpy_tree.specs.bc_ops.declared.instr.Op.TheVariants.{StoreName, StoreGlobal, StoreAttr, DeleteName, DeleteGlobal}
use Rattle.mpy_tree.specs.bc_ops.declared.instr.Op.TheVariants.{ImportName, ImportFrom, LoadConstObj, LoadFastN, StoreFastN}
use Rattle.mpy_tree.specs.bc_ops.declared.instr.Op.TheVariants.{DeleteFast, BuildTuple, BuildList, BuildMap, UnpackSequence}
use Rattle.mpy_tree.specs.bc_ops.declared.instr.Op.TheVariants.{MakeFunction, MakeFunctionDefargs, CallFunction, CallMethod, Jump}
use Rattle.mpy_tree.specs.bc_ops.declared.instr.Op.TheVariants.{PopJumpIfTrue, PopJumpIfFalse, JumpIfTrueOrPop, JumpIfFalseOrPop}
use Rattle.mpy_tree.specs.bc_ops.declared.instr.Op.TheVariants.{SetupExcept, SetupFinally, PopExceptJump, ForIter, LoadConstFalse}
use Rattle.mpy_tree.specs.bc_ops.declared.instr.Op.TheVariants.{LoadConstNone, LoadConstTrue, LoadNull, LoadSubscr, StoreSubscr}
use Rattle.mpy_tree.specs.bc_ops.declared.instr.Op.TheVariants.{DupTop, DupTopTwo, PopTop, RotTwo, RotThree, EndFinally}
use Rattle.mpy_tree.specs.bc_ops.declared.instr.Op.TheVariants.{GetIterStack, StoreMap, ReturnValue, RaiseLast, RaiseObj}
use Rattle.mpy_tree.specs.bc_ops.declared.instr.Op.TheVariants.{LoadFast, StoreFast}

-- the name of an operation: MicroPython's own
abbrev pub operation_name : Op → List ℕ
operation_name LoadConstString = codes "LOAD_CONST_STRING"
operation_name LoadName = codes "LOAD_NAME"
operation_name LoadGlobal = codes "LOAD_GLOBAL"
operation_name LoadAttr = codes "LOAD_ATTR"
operation_name LoadMethod = codes "LOAD_METHOD"
operation_name StoreName = codes "STORE_NAME"
operation_name StoreGlobal = codes "STORE_GLOBAL"
operation_name StoreAttr = codes "STORE_ATTR"
operation_name DeleteName = codes "DELETE_NAME"
operation_name DeleteGlobal = codes "DELETE_GLOBAL"
operation_name ImportName = codes "IMPORT_NAME"
operation_name ImportFrom = codes "IMPORT_FROM"
operation_name LoadConstObj = codes "LOAD_CONST_OBJ"
operation_name LoadFastN = codes "LOAD_FAST_N"
operation_name StoreFastN = codes "STORE_FAST_N"
operation_name DeleteFast = codes "DELETE_FAST"
operation_name BuildTuple = codes "BUILD_TUPLE"
operation_name BuildList = codes "BUILD_LIST"
operation_name BuildMap = codes "BUILD_MAP"
operation_name UnpackSequence = codes "UNPACK_SEQUENCE"
operation_name MakeFunction = codes "MAKE_FUNCTION"
operation_name MakeFunctionDefargs = codes "MAKE_FUNCTION_DEFARGS"
operation_name CallFunction = codes "CALL_FUNCTION"
operation_name CallMethod = codes "CALL_METHOD"
operation_name Jump = codes "JUMP"
operation_name PopJumpIfTrue = codes "POP_JUMP_IF_TRUE"
operation_name PopJumpIfFalse = codes "POP_JUMP_IF_FALSE"
operation_name JumpIfTrueOrPop = codes "JUMP_IF_TRUE_OR_POP"
operation_name JumpIfFalseOrPop = codes "JUMP_IF_FALSE_OR_POP"
operation_name SetupExcept = codes "SETUP_EXCEPT"
operation_name SetupFinally = codes "SETUP_FINALLY"
operation_name PopExceptJump = codes "POP_EXCEPT_JUMP"
operation_name ForIter = codes "FOR_ITER"
operation_name LoadConstFalse = codes "LOAD_CONST_FALSE"
operation_name LoadConstNone = codes "LOAD_CONST_NONE"
operation_name LoadConstTrue = codes "LOAD_CONST_TRUE"
operation_name LoadNull = codes "LOAD_NULL"
operation_name LoadSubscr = codes "LOAD_SUBSCR"
operation_name StoreSubscr = codes "STORE_SUBSCR"
operation_name DupTop = codes "DUP_TOP"
operation_name DupTopTwo = codes "DUP_TOP_TWO"
operation_name PopTop = codes "POP_TOP"
operation_name RotTwo = codes "ROT_TWO"
operation_name RotThree = codes "ROT_THREE"
operation_name EndFinally = codes "END_FINALLY"
operation_name GetIterStack = codes "GET_ITER_STACK"
operation_name StoreMap = codes "STORE_MAP"
operation_name ReturnValue = codes "RETURN_VALUE"
operation_name RaiseLast = codes "RAISE_LAST"
operation_name RaiseObj = codes "RAISE_OBJ"
operation_name LoadFast = codes "LOAD_FAST"
operation_name StoreFast = codes "STORE_FAST"

-- the signs by the numbers of the operators
abbrev pub unary_signs : List (List ℕ)
unary_signs = codes "+" ∷ codes "-" ∷ codes "~" ∷ codes "not" ∷ []

-- the signs of operators with two operands, by their numbers: comparisons, then in place, then plain
abbrev pub binary_signs : List (List ℕ)
binary_signs =
    codes "<" ∷ codes ">" ∷ codes "==" ∷ codes "<=" ∷ codes ">=" ∷ codes "!=" ∷ codes "in" ∷ codes "is" ∷ codes "match"
    ∷ codes "|" ∷ codes "^" ∷ codes "&" ∷ codes "<<" ∷ codes ">>" ∷ codes "+" ∷ codes "-" ∷ codes "*" ∷ codes "@" ∷ codes "//" ∷ codes "/"
    ∷ codes "%" ∷ codes "**"
    ∷ codes "|" ∷ codes "^" ∷ codes "&" ∷ codes "<<" ∷ codes ">>" ∷ codes "+" ∷ codes "-" ∷ codes "*" ∷ codes "@" ∷ codes "//" ∷ codes "/"
    ∷ codes "%" ∷ codes "**" ∷ []

-- the sign of an operator with one operand
abbrev pub unary_sign : ℕ → List ℕ
unary_sign n = slice_index_or unary_signs n []

-- the sign of an operator with two operands
abbrev pub binary_sign : ℕ → List ℕ
binary_sign n = slice_index_or binary_signs n []

-- the nine comparisons come first, then the operators in place, then the plain ones
abbrev pub binary_name : ℕ → List ℕ
binary_name n = if nat_le 9 n && nat_le n 21 then codes "INPLACE_OP" else codes "BINARY_OP"
