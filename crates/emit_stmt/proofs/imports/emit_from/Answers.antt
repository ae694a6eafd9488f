use Rattle.std.proofs.Common.{pos, refl}
use Rattle.emit_expr.specs.bc_machine.bc_ops.declared.instr.Instr.TheVariants as instrs
use Rattle.emit_expr.specs.bc_machine.Library.{Plain}
use Rattle.emit_expr.proofs.Forms.{puts_item}
use Rattle.emit_stmt.proofs.ImportForms.{from_emits}
use Rattle.emit_stmt.proofs.imports.emit_from.Goals as goal

pub returns : goal.returns
returns c around =
    from_emits around (puts_item c.args.scope.now (Plain (instrs.Int (pos 0))) c.in_ok-put.ensures (λ labels. refl)) (c.in_ok-put_texts.ensures c.args.scope.now) refl c.in_ok-put_items.ensures c.in_ok-put_named.ensures
    c.in_ok-emit_taken.ensures c.in_ok-put_plain.ensures
