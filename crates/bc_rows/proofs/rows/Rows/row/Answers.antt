use Rattle.std.proofs.Common.{◌≡◌, sym, ap, subst, ◌∙◌, Some, None}
use Rattle.std.specs.Prelude.{IfSome, IfNone, slice_get}
use Rattle.bc_library.specs.Shelf.{Shelf}
use Rattle.bc_rows.specs.Codes.{code_numbered}
use Rattle.bc_rows.specs.Rows.{IsRow}
use Rattle.bc_rows.proofs.Tables.{row_found, row_missing, table_missing}
use Rattle.bc_rows.proofs.rows.Rows.row.Goals as goal

pub returns-in-Some-clause-is : goal.returns-in-Some-clause-is
returns-in-Some-clause-is c =
    let f = c.self.inside in
    let there : slice_get f.tables.items c.args.module_number ≡ Some c.in-Some.rows.now = sym (c.in-Some.ensures ∙ ap (λ z. slice_get z c.args.module_number) c.deref.ensures.value) in
    subst (λ (s : Shelf). IfSome c.get.result (λ row. IsRow s c.args.module_number c.args.code row.now)) c.self.view_is
    (row_found f.library.now f.tables.items c.args.module_number c.args.code c.in-Some.rows.now c.get.result c.self.invariant.rows there c.get.ensures.value)

pub returns-in-Some-clause-none : goal.returns-in-Some-clause-none
returns-in-Some-clause-none c =
    let f = c.self.inside in
    let there : slice_get f.tables.items c.args.module_number ≡ Some c.in-Some.rows.now = sym (c.in-Some.ensures ∙ ap (λ z. slice_get z c.args.module_number) c.deref.ensures.value) in
    subst (λ (s : Shelf). IfNone c.get.result (code_numbered s c.args.module_number c.args.code ≡ None)) c.self.view_is
    (row_missing f.library.now f.tables.items c.args.module_number c.args.code c.in-Some.rows.now c.get.result c.self.invariant.rows there c.get.ensures.value)

pub returns-in-None-clause-none : goal.returns-in-None-clause-none
returns-in-None-clause-none c =
    let f = c.self.inside in
    let missing : slice_get f.tables.items c.args.module_number ≡ None = sym (c.in-None.ensures ∙ ap (λ z. slice_get z c.args.module_number) c.deref.ensures.value) in
    subst (λ (s : Shelf). code_numbered s c.args.module_number c.args.code ≡ None) c.self.view_is
    (table_missing f.library.now f.tables.items f.named.items c.args.module_number c.args.code c.self.invariant missing)
