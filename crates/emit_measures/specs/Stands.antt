-- The whole code of a text.
use Rattle.std.specs.Prelude.{◌≡◌, ℕ, suc, false, length}
use Rattle.bc_scheme.specs.bc_ops.declared.instr.Op.TheVariants as ops
use Rattle.bc_scheme.specs.py_meaning.Program.{Text}
use Rattle.bc_scheme.specs.Context.{Context, Behind, plain}
use Rattle.bc_scheme.specs.Statements.{StandsB}

-- the code is that of the text's block, and a return of None behind it. No break stands outside a loop: its place there is
-- the code's end
pub record IsCodeOf (c : Context) (text : Text) : Type 0 where
  pub level : c.level ≡ text.level
  pub locals : c.locals ≡ text.locals
  pub last : ℕ
  pub length : length c.lines ≡ suc (suc last)
  pub body : StandsB c (record { brk = last; cont = last; count = 0; iterator = false }) 0 text.body last
  pub none : Behind c last (plain ops.LoadConstNone)
  pub return : Behind c (suc last) (plain ops.ReturnValue)
