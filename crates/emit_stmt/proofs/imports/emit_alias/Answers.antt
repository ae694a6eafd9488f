use Rattle.std.proofs.Common.{◌∙◌, pos, map, refl, subst}
use Rattle.emit_expr.specs.bc_machine.bc_ops.declared.instr.Op.TheVariants as ops
use Rattle.emit_expr.specs.bc_machine.bc_ops.declared.instr.Instr.TheVariants as instrs
use Rattle.emit_expr.specs.bc_machine.Library.{Plain}
use Rattle.emit_expr.specs.emit_draft.Draft.{Puts}
use Rattle.emit_expr.specs.emit_draft.declared.draft.DraftItem.TheVariants as drafts
use Rattle.emit_expr.proofs.Forms.{on_ok, puts_item}
use Rattle.emit_stmt.proofs.ImportForms.{dots_turned, no_part_less, parts_split, loaded, plain_alias, bound_alias}
use Rattle.emit_stmt.proofs.imports.emit_alias.Goals as goal

pub unreachable-requires : goal.unreachable-requires
unreachable-requires c = no_part_less (λ r. r.now) c.in_ok-parts.parts.items c.deref.result.now c.bytes-2.result.now (c.in_ok-parts.ensures ∙ dots_turned c.bytes-2.result.now) c.deref.ensures.value c.in_default.ensures.cases

pub returns-in-None : goal.returns-in-None
returns-in-None c =
    let first = c.in-Some.first.now.now in
    let others = map (λ r. r.now) c.in-Some.others.now in
    let split = parts_split (λ r. r.now) c.in_ok-parts.parts.items c.deref.result.now c.in-Some.first.now c.in-Some.others.now c.bytes-2.result.now c.args.alias.now.name (c.in_ok-parts.ensures ∙ dots_turned c.bytes-2.result.now) c.deref.ensures.value c.in-Some.ensures.cases.0 c.bytes-2.ensures in
    let named = subst (λ n. Puts c.put_plain.new.draft c.put_named.new.draft c.args.line (drafts.Named ops.ImportName n)) c.bytes.ensures c.in_ok-put_named.ensures in
    let front = loaded (puts_item c.args.scope.now (Plain (instrs.Int (pos 0))) c.in_ok-put.ensures (λ labels. refl)) c.in_ok-put_plain.ensures named in
    on_ok c.put_store.result c.put_store.ensures (λ p. plain_alias c.args.alias.now others first front split c.in-None.is p refl)

pub returns : goal.returns
returns c =
    let first = c.in-Some.first.now.now in
    let others = map (λ r. r.now) c.in-Some.others.now in
    let split = parts_split (λ r. r.now) c.in_ok-parts.parts.items c.deref.result.now c.in-Some.first.now c.in-Some.others.now c.bytes-2.result.now c.args.alias.now.name (c.in_ok-parts.ensures ∙ dots_turned c.bytes-2.result.now) c.deref.ensures.value c.in-Some.ensures.cases.0 c.bytes-2.ensures in
    let named = subst (λ n. Puts c.put_plain.new.draft c.put_named.new.draft c.args.line (drafts.Named ops.ImportName n)) c.bytes.ensures c.in_ok-put_named.ensures in
    let front = loaded (puts_item c.args.scope.now (Plain (instrs.Int (pos 0))) c.in_ok-put.ensures (λ labels. refl)) c.in_ok-put_plain.ensures named in
    on_ok c.put_store-in-Some-bound.result c.put_store-in-Some-bound.ensures (λ p. bound_alias c.args.alias.now others first c.in-Some-bound.bound front split c.in-Some-bound.is (c.in_ok-put_reads-in-Some-bound.ensures c.args.scope.now) p c.bytes-in-Some-bound.ensures)
