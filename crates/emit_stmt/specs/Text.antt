-- The whole code of a module or a function.
use Rattle.std.specs.Prelude.{◌≡◌, ℕ, suc, false, length, map}
use Rattle.emit_expr.specs.bc_machine.bc_ops.declared.instr.Op.TheVariants as ops
use Rattle.emit_expr.specs.py_meaning.Tree.{Block}
use Rattle.emit_expr.specs.py_meaning.Plain.{Part}
use Rattle.emit_expr.specs.bc_scheme.Context.{Context, Behind, plain}
use Rattle.emit_expr.specs.bc_scheme.Statements.{StandsB}
use Rattle.emit_expr.specs.emit_draft.declared.draft.Draft.{Draft}
use Rattle.emit_expr.specs.emit_draft.declared.scope.Scope.{Scope}
use Rattle.emit_expr.specs.emit_draft.Emits.{line_at, Reads}
use Rattle.emit_stmt.specs.Children.{made, AreChildren}
use Rattle.emit_stmt.specs.Crowded.{crowded_block}

-- a text's block, and a return of None behind it. No break stands outside a loop: its place there is the code's end
pub record StandsText (c : Context) (text : Block) : Type 0 where
  pub last : ℕ
  pub length : length c.lines ≡ suc (suc last)
  pub body : StandsB c (record { brk = last; cont = last; count = 0; iterator = false }) 0 text last
  pub none : Behind c last (plain ops.LoadConstNone)
  pub return : Behind c (suc last) (plain ops.ReturnValue)

-- the code is the draft's, with its labels where they are bound
pub record IsFinished (d : Draft) (s : Scope) (c : Context) : Type 0 where
  pub lines : c.lines ≡ map (line_at d.labels.items) d.lines
  pub level : c.level ≡ d.level
  pub reads : Reads c s
  pub roomy : d.crowded ≡ false

-- the draft is that of the text
pub record EmitsText (d : Draft) (of_level : ℕ) (s : Scope) (part : Part Block) : Type 0 where
  pub level : d.level ≡ of_level
  pub crowded : (n : ℕ) → d.crowded ≡ crowded_block of_level 0 (part.make n)
  pub stands : (n : ℕ) (c : Context) → IsFinished d s c → AreChildren c 0 (made (part.make n)) → StandsText c (part.make n)
