-- What a pattern of instructions stands in: one function's code, and what its names are.
use Rattle.std.specs.Prelude.{◌≡◌, ℕ, zero, suc, ◌+◌, List, length, Bool, true, false, Option, Some, None, nat_eq, nat_lt, nat_le}
use Rattle.std.specs.Prelude.{position, bytes_eq, slice_get, if◌then◌else◌}
use Rattle.bc_machine.specs.mpy_base.Val.{Val, Nil, Truth, Int, Str}
use Rattle.bc_machine.specs.bc_ops.declared.instr.Op.{Op}
use Rattle.bc_machine.specs.bc_ops.declared.instr.Op.TheVariants as ops
use Rattle.bc_machine.specs.bc_ops.declared.instr.Instr.TheVariants as instrs
use Rattle.py_meaning.specs.py_tree.declared.expr.UnaryOp.{UnaryOp}
use Rattle.py_meaning.specs.py_tree.declared.expr.UnaryOp.TheVariants as unaries
use Rattle.py_meaning.specs.py_tree.declared.expr.BinaryOp.{BinaryOp}
use Rattle.py_meaning.specs.py_tree.declared.expr.BinaryOp.TheVariants as binaries
use Rattle.py_meaning.specs.py_tree.declared.expr.CompareOp.{CompareOp}
use Rattle.py_meaning.specs.py_tree.declared.expr.CompareOp.TheVariants as compares
use Rattle.bc_machine.specs.Library.{Name, Item, Plain, Names, Loads, Line, Code}

-- is_module tells the text of a module from that of a function
pub record Context : Type 0 where
  pub lines : List Line
  pub level : ℕ
  pub is_module : Bool
  pub locals : List Name
  -- the numbers of the code's children, and the number that its source's functions stand behind
  pub children : List ℕ
  pub base : ℕ
  -- the codes of the module
  pub codes : List Code

-- the code of this number has this name, and `given` defaults
pub record IsChild (c : Context) (number : ℕ) (name : Name) (given : ℕ) : Type 0 where
  pub child : Code
  pub found : slice_get c.codes number ≡ Some child
  pub named : child.name ≡ name
  pub with_given : child.given ≡ given

-- the instruction at a position, with the line of its statement or header. At level 3 each has line 1
abbrev pub Has : Context → (line position : ℕ) → Item → Type 0
Has c line p item = slice_get c.lines p ≡ Some (record { item = item; line = if nat_eq c.level 3 then 1 else line })

-- the line of an instruction, and 1 where there is none
abbrev pub line_in : Option Line → ℕ
line_in (Some l) = l.line
line_in None = 1

-- the line of the instruction before a position
abbrev pub line_before : List Line → ℕ → ℕ
line_before lines zero = 1
line_before lines (suc p) = line_in (slice_get lines p)

-- what stands behind a body has the line of the instruction before it, or 1 where there is none
abbrev pub Behind : Context → (position : ℕ) → Item → Type 0
Behind c p item = slice_get c.lines p ≡ Some (record { item = item; line = line_before c.lines p })

-- an instruction without an operand
abbrev pub plain : Op → Item
plain op = Plain (instrs.Plain op)

-- an instruction with a number
abbrev pub number : Op → ℕ → Item
number op n = Plain (instrs.Num op n)

-- names
-- =====

-- the instruction `own` in the text of a module, and `other` in that of a function, each with the name
abbrev pub module_or : Context → Op → Op → Name → Item
module_or c own other name = Names (if c.is_module then own else other) name

-- the short form for the first 16 locals, and the long one for the others
abbrev pub short_or : Op → Op → ℕ → Item
short_or short long slot = number (if nat_lt slot 16 then short else long) slot

-- the load of a name that has this slot, or none
abbrev pub load_by : Context → Name → Option ℕ → Item
load_by c name (Some slot) = short_or ops.LoadFast ops.LoadFastN slot
load_by c name None = module_or c ops.LoadName ops.LoadGlobal name

-- the store into a name that has this slot, or none
abbrev pub store_by : Context → Name → Option ℕ → Item
store_by c name (Some slot) = short_or ops.StoreFast ops.StoreFastN slot
store_by c name None = module_or c ops.StoreName ops.StoreGlobal name

-- the deletion of a name that has this slot, or none
abbrev pub delete_by : Context → Name → Option ℕ → Item
delete_by c name (Some slot) = number ops.DeleteFast slot
delete_by c name None = module_or c ops.DeleteName ops.DeleteGlobal name

-- the slot of a name that is local
abbrev pub slot_of : Context → Name → Option ℕ
slot_of c name = position (bytes_eq name) c.locals

-- a name by its slot where it is local, else by the forms of a module's text or of a function's
abbrev pub loads : Context → Name → Item
loads c name = load_by c name (slot_of c name)

-- the store to a name: by its slot where it is local, else by the forms of a module's text or of a function's
abbrev pub stores : Context → Name → Item
stores c name = store_by c name (slot_of c name)

-- the deletion of a name: by its slot where it is local, else by the forms of a module's text or of a function's
abbrev pub deletes : Context → Name → Item
deletes c name = delete_by c name (slot_of c name)

-- constants and operators
-- =======================

-- a str of up to 10 bytes is named, and a longer one is an object
abbrev pub constant : Val → Item
constant Nil = plain ops.LoadConstNone
constant (Truth true) = plain ops.LoadConstTrue
constant (Truth false) = plain ops.LoadConstFalse
constant (Int z) = Plain (instrs.Int z)
constant (Str text) = if nat_le (length text) 10 then Names ops.LoadConstString text else Loads (Str text)
constant v = Loads v

-- the number of an operator with one operand
abbrev pub unary_number : UnaryOp → ℕ
unary_number unaries.Plus = 0
unary_number unaries.Minus = 1
unary_number unaries.Invert = 2

-- the instruction of `not`
abbrev pub negation : Item
negation = Plain (instrs.Unary 3)

-- the number of a comparison; `not in` has that of `in`, and `is not` that of `is`
abbrev pub comparing : CompareOp → ℕ
comparing compares.Lt = 0
comparing compares.Gt = 1
comparing compares.Eq = 2
comparing compares.Le = 3
comparing compares.Ge = 4
comparing compares.Ne = 5
comparing compares.In = 6
comparing compares.NotIn = 6
comparing compares.Is = 7
comparing compares.IsNot = 7

-- does a `not` stand behind the comparison?
abbrev pub is_negated : CompareOp → Bool
is_negated compares.NotIn = true
is_negated compares.IsNot = true
is_negated _ = false

-- the test of an exception against the class of a clause
abbrev pub matching : Item
matching = Plain (instrs.Binary 8)

-- in place; the plain ones stand 13 further
abbrev pub arithmetic : BinaryOp → ℕ
arithmetic binaries.Or = 9
arithmetic binaries.Xor = 10
arithmetic binaries.And = 11
arithmetic binaries.Shl = 12
arithmetic binaries.Shr = 13
arithmetic binaries.Add = 14
arithmetic binaries.Sub = 15
arithmetic binaries.Mul = 16
arithmetic binaries.FloorDiv = 18
arithmetic binaries.Mod = 20
arithmetic binaries.Pow = 21

-- the instruction of an assignment with an operator
abbrev pub in_place : BinaryOp → Item
in_place op = Plain (instrs.Binary (arithmetic op))

-- the instruction of an operator with two operands
abbrev pub binary : BinaryOp → Item
binary op = Plain (instrs.Binary (arithmetic op + 13))
