-- Operations of one kind among all.
use Rattle.frame_moves.specs.bc_ops.declared.instr.Op.{Op}
use Rattle.frame_moves.specs.bc_ops.declared.instr.Op.TheVariants as ops
use Rattle.vm_fetching.specs.declared.operations.MoveOp.{MoveOp}
use Rattle.vm_fetching.specs.declared.operations.MoveOp.TheVariants as move_ops
use Rattle.vm_fetching.specs.declared.operations.ItemOp.{ItemOp}
use Rattle.vm_fetching.specs.declared.operations.ItemOp.TheVariants as item_ops
use Rattle.vm_fetching.specs.declared.operations.LeaveOp.{LeaveOp}
use Rattle.vm_fetching.specs.declared.operations.LeaveOp.TheVariants as leave_ops
use Rattle.vm_fetching.specs.declared.operations.LocalOp.{LocalOp}
use Rattle.vm_fetching.specs.declared.operations.LocalOp.TheVariants as local_ops
use Rattle.vm_fetching.specs.declared.operations.BuildOp.{BuildOp}
use Rattle.vm_fetching.specs.declared.operations.BuildOp.TheVariants as build_ops
use Rattle.vm_fetching.specs.declared.operations.MakeOp.{MakeOp}
use Rattle.vm_fetching.specs.declared.operations.MakeOp.TheVariants as make_ops
use Rattle.vm_fetching.specs.declared.operations.CallOp.{CallOp}
use Rattle.vm_fetching.specs.declared.operations.CallOp.TheVariants as call_ops
use Rattle.vm_fetching.specs.declared.operations.MoveOp.{MoveOp}
use Rattle.vm_fetching.specs.declared.operations.MoveOp.TheVariants as move_ops
use Rattle.vm_fetching.specs.declared.operations.ItemOp.{ItemOp}
use Rattle.vm_fetching.specs.declared.operations.ItemOp.TheVariants as item_ops
use Rattle.vm_fetching.specs.declared.operations.LocalOp.{LocalOp}
use Rattle.vm_fetching.specs.declared.operations.LocalOp.TheVariants as local_ops
use Rattle.vm_fetching.specs.declared.operations.BuildOp.{BuildOp}
use Rattle.vm_fetching.specs.declared.operations.BuildOp.TheVariants as build_ops
use Rattle.vm_fetching.specs.declared.operations.NameOp.{NameOp}
use Rattle.vm_fetching.specs.declared.operations.NameOp.TheVariants as name_ops
use Rattle.vm_fetching.specs.declared.operations.AttributeOp.{AttributeOp}
use Rattle.vm_fetching.specs.declared.operations.AttributeOp.TheVariants as attribute_ops
use Rattle.vm_fetching.specs.declared.operations.TestOp.{TestOp}
use Rattle.vm_fetching.specs.declared.operations.TestOp.TheVariants as test_ops
use Rattle.vm_fetching.specs.declared.operations.HandlerOp.{HandlerOp}
use Rattle.vm_fetching.specs.declared.operations.HandlerOp.TheVariants as handler_ops
use Rattle.vm_fetching.specs.declared.operations.AttributeOp.{AttributeOp}
use Rattle.vm_fetching.specs.declared.operations.AttributeOp.TheVariants as attribute_ops
use Rattle.vm_fetching.specs.declared.operations.TestOp.{TestOp}
use Rattle.vm_fetching.specs.declared.operations.TestOp.TheVariants as test_ops
use Rattle.vm_fetching.specs.declared.operations.HandlerOp.{HandlerOp}
use Rattle.vm_fetching.specs.declared.operations.HandlerOp.TheVariants as handler_ops

-- one that moves slots
abbrev pub move_op : MoveOp → Op
move_op move_ops.LoadConstFalse = ops.LoadConstFalse
move_op move_ops.LoadConstNone = ops.LoadConstNone
move_op move_ops.LoadConstTrue = ops.LoadConstTrue
move_op move_ops.LoadNull = ops.LoadNull
move_op move_ops.DupTop = ops.DupTop
move_op move_ops.DupTopTwo = ops.DupTopTwo
move_op move_ops.PopTop = ops.PopTop
move_op move_ops.RotTwo = ops.RotTwo
move_op move_ops.RotThree = ops.RotThree

-- one on an item
abbrev pub item_op : ItemOp → Op
item_op item_ops.LoadSubscr = ops.LoadSubscr
item_op item_ops.StoreSubscr = ops.StoreSubscr
item_op item_ops.StoreMap = ops.StoreMap

-- one that leaves the call, or a part of it
abbrev pub leave_op : LeaveOp → Op
leave_op leave_ops.ReturnValue = ops.ReturnValue
leave_op leave_ops.RaiseLast = ops.RaiseLast
leave_op leave_ops.RaiseObj = ops.RaiseObj

-- one on a local
abbrev pub local_op : LocalOp → Op
local_op local_ops.LoadFast = ops.LoadFast
local_op local_ops.LoadFastN = ops.LoadFastN
local_op local_ops.StoreFast = ops.StoreFast
local_op local_ops.StoreFastN = ops.StoreFastN
local_op local_ops.DeleteFast = ops.DeleteFast

-- one that makes a collection or takes one apart
abbrev pub build_op : BuildOp → Op
build_op build_ops.BuildTuple = ops.BuildTuple
build_op build_ops.BuildList = ops.BuildList
build_op build_ops.BuildMap = ops.BuildMap
build_op build_ops.UnpackSequence = ops.UnpackSequence

-- one that makes a function
abbrev pub make_op : MakeOp → Op
make_op make_ops.MakeFunction = ops.MakeFunction
make_op make_ops.MakeFunctionDefargs = ops.MakeFunctionDefargs

-- one that calls
abbrev pub call_op : CallOp → Op
call_op call_ops.CallFunction = ops.CallFunction
call_op call_ops.CallMethod = ops.CallMethod

-- one on a name of the module
abbrev pub name_op : NameOp → Op
name_op name_ops.LoadName = ops.LoadName
name_op name_ops.LoadGlobal = ops.LoadGlobal
name_op name_ops.StoreName = ops.StoreName
name_op name_ops.StoreGlobal = ops.StoreGlobal
name_op name_ops.DeleteName = ops.DeleteName
name_op name_ops.DeleteGlobal = ops.DeleteGlobal

-- one on an attribute
abbrev pub attribute_op : AttributeOp → Op
attribute_op attribute_ops.LoadAttr = ops.LoadAttr
attribute_op attribute_ops.LoadMethod = ops.LoadMethod
attribute_op attribute_ops.StoreAttr = ops.StoreAttr
attribute_op attribute_ops.ImportFrom = ops.ImportFrom

-- a jump that tests the top value
abbrev pub test_op : TestOp → Op
test_op test_ops.PopJumpIfTrue = ops.PopJumpIfTrue
test_op test_ops.PopJumpIfFalse = ops.PopJumpIfFalse
test_op test_ops.JumpIfTrueOrPop = ops.JumpIfTrueOrPop
test_op test_ops.JumpIfFalseOrPop = ops.JumpIfFalseOrPop

-- one that sets up a handler or leaves one
abbrev pub handler_op : HandlerOp → Op
handler_op handler_ops.SetupExcept = ops.SetupExcept
handler_op handler_ops.SetupFinally = ops.SetupFinally
handler_op handler_ops.PopExceptJump = ops.PopExceptJump
