-- The flow leaves an instruction that goes on to the next one.
use Rattle.std.proofs.Common.{◌≡◌, ℕ, Bool, true, refl, ap}
use Rattle.std.proofs.lemmas.Bool.{false≢true}
use Rattle.bc_progress.specs.bc_ops.declared.form.Form.TheVariants as forms
use Rattle.bc_progress.specs.bc_ops.declared.instr.Op.{Op}
use Rattle.bc_progress.specs.bc_ops.declared.instr.Op.TheVariants as ops
use Rattle.bc_progress.specs.bc_ops.declared.instr.Instr.{Instr}
use Rattle.bc_progress.specs.bc_ops.declared.instr.Instr.TheVariants as instrs
use Rattle.bc_progress.specs.bc_ops.Table.{code_of, form_of, name_form, number_form, jump_form, plain_form, short_form}
use Rattle.bc_progress.specs.bc_flow.Action.{op_action, jump_action, instr_action}
use Rattle.bc_progress.specs.bc_flow.Edges.{falls}
use Rattle.bc_progress.specs.bc_machine.Library.{Item, Plain, Names, Loads, Jumps, Unwinds}
use Rattle.bc_progress.specs.Plans.{action_of, IsKnown}
use Rattle.vm_states.specs.Finds.{GoesOn}
use Rattle.vm_states.proofs.Items.{is_plain, is_name, is_offset, takes_none}

plain_on : (op : Op) → form_of (code_of op) ≡ forms.Whole (instrs.Plain op) → GoesOn (Plain (instrs.Plain op)) → falls (op_action op 0) ≡ true
unfolding op_action falls form_of name_form number_form jump_form plain_form short_form
plain_on ops.LoadConstFalse k on = refl
plain_on ops.LoadConstNone k on = refl
plain_on ops.LoadConstTrue k on = refl
plain_on ops.LoadNull k on = refl
plain_on ops.LoadSubscr k on = refl
plain_on ops.StoreSubscr k on = refl
plain_on ops.DupTop k on = refl
plain_on ops.DupTopTwo k on = refl
plain_on ops.PopTop k on = refl
plain_on ops.RotTwo k on = refl
plain_on ops.RotThree k on = refl
plain_on ops.EndFinally k on = refl
plain_on ops.GetIterStack k on = refl
plain_on ops.StoreMap k on = refl
plain_on ops.ReturnValue k on = absurd on
plain_on ops.RaiseLast k on = absurd on
plain_on ops.RaiseObj k on = absurd on
plain_on op k on = absurd (false≢true (ap is_plain k))

name_on : (op : Op) → form_of (code_of op) ≡ forms.Name op → falls (op_action op 0) ≡ true
unfolding op_action falls form_of name_form number_form jump_form plain_form short_form
name_on ops.LoadConstString k = refl
name_on ops.LoadName k = refl
name_on ops.LoadGlobal k = refl
name_on ops.StoreName k = refl
name_on ops.StoreGlobal k = refl
name_on ops.DeleteName k = refl
name_on ops.DeleteGlobal k = refl
name_on ops.LoadAttr k = refl
name_on ops.LoadMethod k = refl
name_on ops.StoreAttr k = refl
name_on ops.ImportName k = refl
name_on ops.ImportFrom k = refl
name_on op k = absurd (false≢true (ap is_name k))

number_on : (op : Op) (n : ℕ) → IsKnown (Plain (instrs.Num op n)) → falls (op_action op n) ≡ true
unfolding op_action falls form_of name_form number_form jump_form plain_form short_form
number_on ops.LoadFast n k = refl
number_on ops.LoadFastN n k = refl
number_on ops.StoreFast n k = refl
number_on ops.StoreFastN n k = refl
number_on ops.DeleteFast n k = refl
number_on ops.BuildTuple n k = refl
number_on ops.BuildList n k = refl
number_on ops.BuildMap n k = refl
number_on ops.UnpackSequence n k = refl
number_on ops.MakeFunction n k = refl
number_on ops.MakeFunctionDefargs n k = refl
number_on ops.CallFunction n k = refl
number_on ops.CallMethod n k = refl
number_on ops.LoadConstObj n k = absurd k
number_on op n k = absurd (takes_none (form_of (code_of op)) op n refl k)

jump_on : (op : Op) (to : ℕ) (signed : Bool) → form_of (code_of op) ≡ forms.Offset op signed → GoesOn (Jumps op to) → falls (jump_action op to) ≡ true
unfolding jump_action falls form_of name_form number_form jump_form plain_form short_form
jump_on ops.Jump to b k on = absurd on
jump_on ops.PopJumpIfTrue to b k on = refl
jump_on ops.PopJumpIfFalse to b k on = refl
jump_on ops.JumpIfTrueOrPop to b k on = refl
jump_on ops.JumpIfFalseOrPop to b k on = refl
jump_on ops.SetupExcept to b k on = refl
jump_on ops.SetupFinally to b k on = refl
jump_on ops.PopExceptJump to b k on = absurd on
jump_on ops.ForIter to b k on = refl
jump_on op to b k on = absurd (false≢true (ap is_offset k))

instr_on : (instr : Instr) → IsKnown (Plain instr) → GoesOn (Plain instr) → falls (instr_action instr) ≡ true
unfolding instr_action falls
instr_on (instrs.Plain op) k on = plain_on op k on
instr_on (instrs.Name op n) k on = absurd k
instr_on (instrs.Num op n) k on = number_on op n k
instr_on (instrs.Int z) k on = refl
instr_on (instrs.Jump op offset wide) k on = absurd k
instr_on (instrs.Unwind offset wide byte) k on = absurd k
instr_on (instrs.Unary n) k on = refl
instr_on (instrs.Binary n) k on = refl

loads_on : falls (op_action ops.LoadConstObj 0) ≡ true
unfolding op_action falls
loads_on = refl

pub item_on : (item : Item) → IsKnown item → GoesOn item → falls (action_of item) ≡ true
item_on (Plain instr) k on = instr_on instr k on
item_on (Names op name) k on = name_on op k
item_on (Loads v) k on = loads_on
item_on (Jumps op to) k on = jump_on op to k.0 k.1 on
item_on (Unwinds to byte) k on = absurd on
