use Rattle.std.proofs.Common.{[], map, arith}
use Rattle.std.proofs.lemmas.List.Elements.{All-from_recursion}
use Rattle.std.proofs.lemmas.Result.{err_from_is_err_and}
use Rattle.mpy_writer.specs.Codes.{codes, texts_used}
use Rattle.mpy_writer.specs.Writable.{IsText}
use Rattle.mpy_writer.proofs.Faults.{codes_are, these_tables, tables_fault, far_fault, big_fault, a_file, a_big_file}
use Rattle.mpy_writer.proofs.Whole.{entries, fine_used}
use Rattle.mpy_writer.proofs.file.file.Goals as goal

pub returns-in_err-tables : goal.returns-in_err-tables
returns-in_err-tables c =
    let p = err_from_is_err_and c.from_residual-in_err-tables.result c.from_residual-in_err-tables.ensures.1 in
    tables_fault c.args.tree.now (λ v. v.items) (map (λ x. x.now) c.deref.result.now) _ _ _ (codes_are (λ x. x.now) c.new-codes.result.items c.add_codes.new.codes.items c.deref.result.now (codes c.args.tree.now) c.in_ok-add_codes.ensures c.new-codes.ensures.items c.deref.ensures.value) p.1 p.2 c.in_err-tables.ensures.fault

pub returns-in_err-layouts : goal.returns-in_err-layouts
returns-in_err-layouts c =
    let p = err_from_is_err_and c.from_residual-in_err-layouts.result c.from_residual-in_err-layouts.ensures.1 in
    let first = codes_are (λ x. x.now) c.new-codes.result.items c.add_codes.new.codes.items c.deref.result.now (codes c.args.tree.now) c.in_ok-add_codes.ensures c.new-codes.ensures.items c.deref.ensures.value in
    let tables = c.in_ok-tables.tables in
    let are = these_tables c.args.tree.now tables (map (λ x. x.now) c.deref.result.now) first c.in_ok-tables.ensures.texts c.in_ok-tables.ensures.objects in
    far_fault c.args.tree.now (λ v. v.items) tables (map (λ x. x.now) c.deref-2.result.now) _ _ _ (codes_are (λ x. x.now) c.new-codes.result.items c.add_codes.new.codes.items c.deref-2.result.now (codes c.args.tree.now) c.in_ok-add_codes.ensures c.new-codes.ensures.items c.deref-2.ensures.value) are c.in_ok-tables.ensures.fit p.1 p.2 c.in_err-layouts.ensures.fault

pub front-requires-clause-fine : goal.front-requires-clause-fine
front-requires-clause-fine c =
    let first = codes_are (λ x. x.now) c.new-codes.result.items c.add_codes.new.codes.items c.deref.result.now (codes c.args.tree.now) c.in_ok-add_codes.ensures c.new-codes.ensures.items c.deref.ensures.value in
    let tables = c.in_ok-tables.tables in
    let are = these_tables c.args.tree.now tables (map (λ x. x.now) c.deref.result.now) first c.in_ok-tables.ensures.texts c.in_ok-tables.ensures.objects in
    All-from_recursion IsText tables.texts.texts (entries IsText [] (texts_used c.args.tree.now) tables.texts.texts are.texts.texts (fine_used c.args.tree.now c.requires))

pub returns-in_err-write_codes : goal.returns-in_err-write_codes
returns-in_err-write_codes c =
    let p = err_from_is_err_and c.from_residual-in_err-write_codes.result c.from_residual-in_err-write_codes.ensures.1 in
    let first = codes_are (λ x. x.now) c.new-codes.result.items c.add_codes.new.codes.items c.deref.result.now (codes c.args.tree.now) c.in_ok-add_codes.ensures c.new-codes.ensures.items c.deref.ensures.value in
    let tables = c.in_ok-tables.tables in
    let are = these_tables c.args.tree.now tables (map (λ x. x.now) c.deref.result.now) first c.in_ok-tables.ensures.texts c.in_ok-tables.ensures.objects in
    big_fault c.args.tree.now (λ v. v.items) tables (map (λ x. x.now) c.deref-3.result.now) (map (λ x. x.now) c.deref-2.result.now) c.in_ok-layouts.layouts.items _ _ _ (codes_are (λ x. x.now) c.new-codes.result.items c.add_codes.new.codes.items c.deref-3.result.now (codes c.args.tree.now) c.in_ok-add_codes.ensures c.new-codes.ensures.items c.deref-3.ensures.value) (codes_are (λ x. x.now) c.new-codes.result.items c.add_codes.new.codes.items c.deref-2.result.now (codes c.args.tree.now) c.in_ok-add_codes.ensures c.new-codes.ensures.items c.deref-2.ensures.value) are c.in_ok-tables.ensures.fit c.in_ok-layouts.ensures.ok p.1 p.2
    c.in_err-write_codes.ensures.fault

pub returns-then-len-gt-MAX_FILE_BYTES : goal.returns-then-len-gt-MAX_FILE_BYTES
returns-then-len-gt-MAX_FILE_BYTES c =
    let first = codes_are (λ x. x.now) c.new-codes.result.items c.add_codes.new.codes.items c.deref.result.now (codes c.args.tree.now) c.in_ok-add_codes.ensures c.new-codes.ensures.items c.deref.ensures.value in
    let tables = c.in_ok-tables.tables in
    let are = these_tables c.args.tree.now tables (map (λ x. x.now) c.deref.result.now) first c.in_ok-tables.ensures.texts c.in_ok-tables.ensures.objects in
    let len = c.len.ensures in
    let past = c.if-len-gt-MAX_FILE_BYTES.true in
    let size = c.write_codes.new.out.ok.0 in
    a_big_file c.args.tree.now tables (map (λ x. x.now) c.deref-3.result.now) (map (λ x. x.now) c.deref-2.result.now) c.in_ok-layouts.layouts.items c.in_ok-out.out.items c.write_codes.new.out.items (codes_are (λ x. x.now) c.new-codes.result.items c.add_codes.new.codes.items c.deref-3.result.now (codes c.args.tree.now) c.in_ok-add_codes.ensures c.new-codes.ensures.items c.deref-3.ensures.value) (codes_are (λ x. x.now) c.new-codes.result.items c.add_codes.new.codes.items c.deref-2.result.now (codes c.args.tree.now) c.in_ok-add_codes.ensures c.new-codes.ensures.items c.deref-2.ensures.value) are c.in_ok-tables.ensures.fit
    c.in_ok-layouts.ensures.ok c.in_ok-out.ensures c.in_ok-write_codes.ensures.ok (omega (arith, len, past, size))

pub returns : goal.returns
returns c =
    let first = codes_are (λ x. x.now) c.new-codes.result.items c.add_codes.new.codes.items c.deref.result.now (codes c.args.tree.now) c.in_ok-add_codes.ensures c.new-codes.ensures.items c.deref.ensures.value in
    let tables = c.in_ok-tables.tables in
    let are = these_tables c.args.tree.now tables (map (λ x. x.now) c.deref.result.now) first c.in_ok-tables.ensures.texts c.in_ok-tables.ensures.objects in
    let len = c.len.ensures in
    let few = c.if-len-gt-MAX_FILE_BYTES.false in
    let size = c.write_codes.new.out.ok.0 in
    a_file c.args.tree.now tables (map (λ x. x.now) c.deref-3.result.now) c.in_ok-out.out.items c.write_codes.new.out.items (codes_are (λ x. x.now) c.new-codes.result.items c.add_codes.new.codes.items c.deref-3.result.now (codes c.args.tree.now) c.in_ok-add_codes.ensures c.new-codes.ensures.items c.deref-3.ensures.value) are c.in_ok-tables.ensures.fit c.in_ok-out.ensures c.in_ok-write_codes.ensures.ok (omega (arith, len, few, size))
