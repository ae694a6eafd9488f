-- An operation of a form is one of its kind.
use Rattle.std.proofs.Common.{◌≡◌, ℕ, Bool, true, false, refl, sym, ap}
use Rattle.std.proofs.lemmas.Bool.{false≢true}
use Rattle.frame_moves.specs.bc_ops.declared.form.Form.{Form}
use Rattle.frame_moves.specs.bc_ops.declared.form.Form.TheVariants as forms
use Rattle.frame_moves.specs.bc_ops.declared.instr.Op.{Op}
use Rattle.frame_moves.specs.bc_ops.declared.instr.Op.TheVariants as ops
use Rattle.frame_moves.specs.bc_ops.declared.instr.Instr.TheVariants as instrs
use Rattle.frame_moves.specs.bc_ops.Code.{TakesNumber}
use Rattle.frame_moves.specs.bc_ops.Table.{code_of, form_of, name_form, number_form, jump_form, plain_form, short_form}

abbrev is_plain : Form → Bool
is_plain (forms.Whole (instrs.Plain op)) = true
is_plain _ = false

abbrev is_name : Form → Bool
is_name (forms.Name op) = true
is_name _ = false

abbrev is_offset : Form → Bool
is_offset (forms.Offset op signed) = true
is_offset _ = false

abbrev has_number : Form → Bool
has_number (forms.Number op) = true
has_number (forms.Call op) = true
has_number (forms.Whole (instrs.Num op n)) = true
has_number _ = false

takes_none : (form : Form) (op : Op) (n : ℕ) → has_number form ≡ false → TakesNumber form op n → ⊥
takes_none (forms.Number o) op n e t = false≢true (sym e)
takes_none (forms.Call o) op n e t = false≢true (sym e)
takes_none (forms.Whole (instrs.Num o k)) op n e t = false≢true (sym e)
takes_none (forms.Whole (instrs.Plain o)) op n e t = cc t.0
takes_none (forms.Whole (instrs.Name o k)) op n e t = cc t.0
takes_none (forms.Whole (instrs.Int z)) op n e t = cc t.0
takes_none (forms.Whole (instrs.Jump o z wide)) op n e t = cc t.0
takes_none (forms.Whole (instrs.Unwind z wide byte)) op n e t = cc t.0
takes_none (forms.Whole (instrs.Unary o)) op n e t = cc t.0
takes_none (forms.Whole (instrs.Binary o)) op n e t = cc t.0
takes_none (forms.Name o) op n e t = t
takes_none forms.Signed op n e t = t
takes_none (forms.Offset o signed) op n e t = t
takes_none forms.Unwind op n e t = t
takes_none forms.Outside op n e t = t
takes_none forms.Unknown op n e t = t

-- the operation is none of these
pub not_plain : (op : Op) → (op ≡ ops.LoadConstFalse → ⊥) → (op ≡ ops.LoadConstNone → ⊥) → (op ≡ ops.LoadConstTrue → ⊥) → (op ≡ ops.LoadNull → ⊥) → (op ≡ ops.LoadSubscr → ⊥) → (op ≡ ops.StoreSubscr → ⊥) → (op ≡ ops.DupTop → ⊥) → (op ≡ ops.DupTopTwo → ⊥) → (op ≡ ops.PopTop → ⊥) → (op ≡ ops.RotTwo → ⊥) → (op ≡ ops.RotThree → ⊥) → (op ≡ ops.EndFinally → ⊥) → (op ≡ ops.GetIterStack → ⊥) → (op ≡ ops.StoreMap → ⊥) → (op ≡ ops.ReturnValue → ⊥) → (op ≡ ops.RaiseLast → ⊥) → (op ≡ ops.RaiseObj → ⊥) → form_of (code_of op) ≡ forms.Whole (instrs.Plain op) → ⊥
unfolding form_of name_form number_form jump_form plain_form short_form
not_plain ops.LoadConstFalse h0 h1 h2 h3 h4 h5 h6 h7 h8 h9 h10 h11 h12 h13 h14 h15 h16 k = h0 refl
not_plain ops.LoadConstNone h0 h1 h2 h3 h4 h5 h6 h7 h8 h9 h10 h11 h12 h13 h14 h15 h16 k = h1 refl
not_plain ops.LoadConstTrue h0 h1 h2 h3 h4 h5 h6 h7 h8 h9 h10 h11 h12 h13 h14 h15 h16 k = h2 refl
not_plain ops.LoadNull h0 h1 h2 h3 h4 h5 h6 h7 h8 h9 h10 h11 h12 h13 h14 h15 h16 k = h3 refl
not_plain ops.LoadSubscr h0 h1 h2 h3 h4 h5 h6 h7 h8 h9 h10 h11 h12 h13 h14 h15 h16 k = h4 refl
not_plain ops.StoreSubscr h0 h1 h2 h3 h4 h5 h6 h7 h8 h9 h10 h11 h12 h13 h14 h15 h16 k = h5 refl
not_plain ops.DupTop h0 h1 h2 h3 h4 h5 h6 h7 h8 h9 h10 h11 h12 h13 h14 h15 h16 k = h6 refl
not_plain ops.DupTopTwo h0 h1 h2 h3 h4 h5 h6 h7 h8 h9 h10 h11 h12 h13 h14 h15 h16 k = h7 refl
not_plain ops.PopTop h0 h1 h2 h3 h4 h5 h6 h7 h8 h9 h10 h11 h12 h13 h14 h15 h16 k = h8 refl
not_plain ops.RotTwo h0 h1 h2 h3 h4 h5 h6 h7 h8 h9 h10 h11 h12 h13 h14 h15 h16 k = h9 refl
not_plain ops.RotThree h0 h1 h2 h3 h4 h5 h6 h7 h8 h9 h10 h11 h12 h13 h14 h15 h16 k = h10 refl
not_plain ops.EndFinally h0 h1 h2 h3 h4 h5 h6 h7 h8 h9 h10 h11 h12 h13 h14 h15 h16 k = h11 refl
not_plain ops.GetIterStack h0 h1 h2 h3 h4 h5 h6 h7 h8 h9 h10 h11 h12 h13 h14 h15 h16 k = h12 refl
not_plain ops.StoreMap h0 h1 h2 h3 h4 h5 h6 h7 h8 h9 h10 h11 h12 h13 h14 h15 h16 k = h13 refl
not_plain ops.ReturnValue h0 h1 h2 h3 h4 h5 h6 h7 h8 h9 h10 h11 h12 h13 h14 h15 h16 k = h14 refl
not_plain ops.RaiseLast h0 h1 h2 h3 h4 h5 h6 h7 h8 h9 h10 h11 h12 h13 h14 h15 h16 k = h15 refl
not_plain ops.RaiseObj h0 h1 h2 h3 h4 h5 h6 h7 h8 h9 h10 h11 h12 h13 h14 h15 h16 k = h16 refl
not_plain op h0 h1 h2 h3 h4 h5 h6 h7 h8 h9 h10 h11 h12 h13 h14 h15 h16 k = false≢true (ap is_plain k)

pub not_number : (op : Op) (n : ℕ) → (op ≡ ops.LoadFast → ⊥) → (op ≡ ops.LoadFastN → ⊥) → (op ≡ ops.StoreFast → ⊥) → (op ≡ ops.StoreFastN → ⊥) → (op ≡ ops.DeleteFast → ⊥) → (op ≡ ops.BuildTuple → ⊥) → (op ≡ ops.BuildList → ⊥) → (op ≡ ops.BuildMap → ⊥) → (op ≡ ops.UnpackSequence → ⊥) → (op ≡ ops.MakeFunction → ⊥) → (op ≡ ops.MakeFunctionDefargs → ⊥) → (op ≡ ops.CallFunction → ⊥) → (op ≡ ops.CallMethod → ⊥) → TakesNumber (form_of (code_of op)) op n → op ≡ ops.LoadConstObj
unfolding form_of name_form number_form jump_form plain_form short_form
not_number ops.LoadFast n h0 h1 h2 h3 h4 h5 h6 h7 h8 h9 h10 h11 h12 k = absurd (h0 refl)
not_number ops.LoadFastN n h0 h1 h2 h3 h4 h5 h6 h7 h8 h9 h10 h11 h12 k = absurd (h1 refl)
not_number ops.StoreFast n h0 h1 h2 h3 h4 h5 h6 h7 h8 h9 h10 h11 h12 k = absurd (h2 refl)
not_number ops.StoreFastN n h0 h1 h2 h3 h4 h5 h6 h7 h8 h9 h10 h11 h12 k = absurd (h3 refl)
not_number ops.DeleteFast n h0 h1 h2 h3 h4 h5 h6 h7 h8 h9 h10 h11 h12 k = absurd (h4 refl)
not_number ops.BuildTuple n h0 h1 h2 h3 h4 h5 h6 h7 h8 h9 h10 h11 h12 k = absurd (h5 refl)
not_number ops.BuildList n h0 h1 h2 h3 h4 h5 h6 h7 h8 h9 h10 h11 h12 k = absurd (h6 refl)
not_number ops.BuildMap n h0 h1 h2 h3 h4 h5 h6 h7 h8 h9 h10 h11 h12 k = absurd (h7 refl)
not_number ops.UnpackSequence n h0 h1 h2 h3 h4 h5 h6 h7 h8 h9 h10 h11 h12 k = absurd (h8 refl)
not_number ops.MakeFunction n h0 h1 h2 h3 h4 h5 h6 h7 h8 h9 h10 h11 h12 k = absurd (h9 refl)
not_number ops.MakeFunctionDefargs n h0 h1 h2 h3 h4 h5 h6 h7 h8 h9 h10 h11 h12 k = absurd (h10 refl)
not_number ops.CallFunction n h0 h1 h2 h3 h4 h5 h6 h7 h8 h9 h10 h11 h12 k = absurd (h11 refl)
not_number ops.CallMethod n h0 h1 h2 h3 h4 h5 h6 h7 h8 h9 h10 h11 h12 k = absurd (h12 refl)
not_number ops.LoadConstObj n h0 h1 h2 h3 h4 h5 h6 h7 h8 h9 h10 h11 h12 k = refl
not_number op n h0 h1 h2 h3 h4 h5 h6 h7 h8 h9 h10 h11 h12 k = absurd (takes_none (form_of (code_of op)) op n refl k)

pub not_name : (op : Op) → (op ≡ ops.LoadConstString → ⊥) → (op ≡ ops.LoadName → ⊥) → (op ≡ ops.LoadGlobal → ⊥) → (op ≡ ops.StoreName → ⊥) → (op ≡ ops.StoreGlobal → ⊥) → (op ≡ ops.DeleteName → ⊥) → (op ≡ ops.DeleteGlobal → ⊥) → (op ≡ ops.LoadAttr → ⊥) → (op ≡ ops.LoadMethod → ⊥) → (op ≡ ops.StoreAttr → ⊥) → (op ≡ ops.ImportName → ⊥) → (op ≡ ops.ImportFrom → ⊥) → form_of (code_of op) ≡ forms.Name op → ⊥
unfolding form_of name_form number_form jump_form plain_form short_form
not_name ops.LoadConstString h0 h1 h2 h3 h4 h5 h6 h7 h8 h9 h10 h11 k = h0 refl
not_name ops.LoadName h0 h1 h2 h3 h4 h5 h6 h7 h8 h9 h10 h11 k = h1 refl
not_name ops.LoadGlobal h0 h1 h2 h3 h4 h5 h6 h7 h8 h9 h10 h11 k = h2 refl
not_name ops.StoreName h0 h1 h2 h3 h4 h5 h6 h7 h8 h9 h10 h11 k = h3 refl
not_name ops.StoreGlobal h0 h1 h2 h3 h4 h5 h6 h7 h8 h9 h10 h11 k = h4 refl
not_name ops.DeleteName h0 h1 h2 h3 h4 h5 h6 h7 h8 h9 h10 h11 k = h5 refl
not_name ops.DeleteGlobal h0 h1 h2 h3 h4 h5 h6 h7 h8 h9 h10 h11 k = h6 refl
not_name ops.LoadAttr h0 h1 h2 h3 h4 h5 h6 h7 h8 h9 h10 h11 k = h7 refl
not_name ops.LoadMethod h0 h1 h2 h3 h4 h5 h6 h7 h8 h9 h10 h11 k = h8 refl
not_name ops.StoreAttr h0 h1 h2 h3 h4 h5 h6 h7 h8 h9 h10 h11 k = h9 refl
not_name ops.ImportName h0 h1 h2 h3 h4 h5 h6 h7 h8 h9 h10 h11 k = h10 refl
not_name ops.ImportFrom h0 h1 h2 h3 h4 h5 h6 h7 h8 h9 h10 h11 k = h11 refl
not_name op h0 h1 h2 h3 h4 h5 h6 h7 h8 h9 h10 h11 k = false≢true (ap is_name k)

pub not_jump : (op : Op) → (op ≡ ops.Jump → ⊥) → (op ≡ ops.PopJumpIfTrue → ⊥) → (op ≡ ops.PopJumpIfFalse → ⊥) → (op ≡ ops.JumpIfTrueOrPop → ⊥) → (op ≡ ops.JumpIfFalseOrPop → ⊥) → (op ≡ ops.SetupExcept → ⊥) → (op ≡ ops.SetupFinally → ⊥) → (op ≡ ops.PopExceptJump → ⊥) → (op ≡ ops.ForIter → ⊥) → (signed : Bool) × (form_of (code_of op) ≡ forms.Offset op signed) → ⊥
unfolding form_of name_form number_form jump_form plain_form short_form
not_jump ops.Jump h0 h1 h2 h3 h4 h5 h6 h7 h8 k = h0 refl
not_jump ops.PopJumpIfTrue h0 h1 h2 h3 h4 h5 h6 h7 h8 k = h1 refl
not_jump ops.PopJumpIfFalse h0 h1 h2 h3 h4 h5 h6 h7 h8 k = h2 refl
not_jump ops.JumpIfTrueOrPop h0 h1 h2 h3 h4 h5 h6 h7 h8 k = h3 refl
not_jump ops.JumpIfFalseOrPop h0 h1 h2 h3 h4 h5 h6 h7 h8 k = h4 refl
not_jump ops.SetupExcept h0 h1 h2 h3 h4 h5 h6 h7 h8 k = h5 refl
not_jump ops.SetupFinally h0 h1 h2 h3 h4 h5 h6 h7 h8 k = h6 refl
not_jump ops.PopExceptJump h0 h1 h2 h3 h4 h5 h6 h7 h8 k = h7 refl
not_jump ops.ForIter h0 h1 h2 h3 h4 h5 h6 h7 h8 k = h8 refl
not_jump op h0 h1 h2 h3 h4 h5 h6 h7 h8 k = false≢true (ap is_offset k.1)
