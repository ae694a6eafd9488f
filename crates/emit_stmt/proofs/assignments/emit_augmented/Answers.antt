use Rattle.std.proofs.Common.{◌∙◌, [], map, sym, ap}
use Rattle.emit_expr.specs.py_meaning.Tree.{ToName, ToEach, AugName, AugAttr}
use Rattle.emit_expr.specs.py_meaning.Plain.{plain_expr, plain_target, from_targets, augmented}
use Rattle.emit_expr.proofs.Forms.{on_ok}
use Rattle.emit_expr.proofs.Rows.{filled_items}
use Rattle.emit_stmt.proofs.SimpleRows.{no_items}
use Rattle.emit_stmt.proofs.Plains.{plain_ToName, plain_ToAttr, plain_ToIndex, plain_ToEach}
use Rattle.emit_stmt.proofs.StmtForms.{as_stmt, pass_emits, aug_nothing}
use Rattle.emit_stmt.proofs.assignments.emit_augmented.Goals as goal

pub returns-in-Name : goal.returns-in-Name
returns-in-Name c =
    let op = c.args.op in
    let value = plain_expr c.args.value.now in
    on_ok c.emit_augmented_name.result c.emit_augmented_name.ensures (λ p around. as_stmt (p around)
    (ap (λ z. augmented z op value) (ap plain_target c.in-Name.is ∙ plain_ToName c.in-Name.name) ∙ ap (λ z. AugName z op value) (sym c.bytes.ensures)))

pub returns-in-Attr : goal.returns-in-Attr
returns-in-Attr c =
    let op = c.args.op in
    let value = plain_expr c.args.value.now in
    on_ok c.emit_augmented_attr.result c.emit_augmented_attr.ensures (λ p around. as_stmt (p around)
    (ap (λ z. augmented z op value) (ap plain_target c.in-Attr.is ∙ plain_ToAttr c.in-Attr.object c.in-Attr.name) ∙ ap (λ z. AugAttr (plain_expr c.in-Attr.object) z op value) (sym c.bytes-in-Attr.ensures)))

pub returns-in-Index : goal.returns-in-Index
returns-in-Index c =
    let op = c.args.op in
    let value = plain_expr c.args.value.now in
    on_ok c.emit_augmented_index.result c.emit_augmented_index.ensures (λ p around. as_stmt (p around)
    (ap (λ z. augmented z op value) (ap plain_target c.in-Index.is ∙ plain_ToIndex c.in-Index.object c.in-Index.index)))

pub returns-then-is_empty : goal.returns-then-is_empty
returns-then-is_empty c =
    let op = c.args.op in
    let value = plain_expr c.args.value.now in
    let none = no_items c.is_empty.result c.in-Unpack.targets c.is_empty.ensures c.if-is_empty.true in
    on_ok c.emit_augmented_name-then-is_empty.result c.emit_augmented_name-then-is_empty.ensures (λ p around. as_stmt (p around)
    (ap (λ z. augmented z op value) (ap plain_target c.in-Unpack.is ∙ plain_ToEach c.in-Unpack.targets ∙ ap (λ z. from_targets (ToName []) ToEach (map plain_target z)) none)))

pub returns-else-is_empty : goal.returns-else-is_empty
returns-else-is_empty c around =
    let op = c.args.op in
    let value = plain_expr c.args.value.now in
    as_stmt (pass_emits _ _ around _)
    (ap (λ z. augmented z op value) (ap plain_target c.in-Unpack.is ∙ plain_ToEach c.in-Unpack.targets)
    ∙ aug_nothing c.in-Unpack.targets op value (filled_items c.is_empty.result c.in-Unpack.targets c.is_empty.ensures c.if-is_empty.false))
