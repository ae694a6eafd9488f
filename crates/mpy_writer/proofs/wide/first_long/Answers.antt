use Rattle.std.proofs.Common.{◌≡◌, [], length, map, ap, arith}
use Rattle.std.proofs.lemmas.List.Elements.{All-from_recursion}
use Rattle.mpy_writer.specs.Codes.{codes, texts_used}
use Rattle.mpy_writer.specs.File.{front_bytes}
use Rattle.mpy_writer.specs.Writable.{IsText}
use Rattle.mpy_writer.proofs.Faults.{codes_are, these_tables}
use Rattle.mpy_writer.proofs.Judged.{judged_call, fault_past}
use Rattle.mpy_writer.proofs.Whole.{entries, fine_used}
use Rattle.mpy_writer.proofs.wide.first_long.Goals as goal

pub front-requires-clause-fine : goal.front-requires-clause-fine
front-requires-clause-fine c =
    let m = c.args.tree.now in
    let tables = c.in-Ok.tables in
    let first = codes_are (λ x. x.now) c.new-codes.result.items c.add_codes.new.codes.items c.deref.result.now (codes m) c.in_ok-add_codes.ensures c.new-codes.ensures.items c.deref.ensures.value in
    let are = these_tables m tables (map (λ x. x.now) c.deref.result.now) first c.in-Ok.ensures.texts c.in-Ok.ensures.objects in
    All-from_recursion IsText tables.texts.texts (entries IsText [] (texts_used m) tables.texts.texts are.texts.texts (fine_used m c.requires))

pub returns-in-Ok-clause-found : goal.returns-in-Ok-clause-found
returns-in-Ok-clause-found c =
    let m = c.args.tree.now in
    let tables = c.in-Ok.tables in
    let first = codes_are (λ x. x.now) c.new-codes.result.items c.add_codes.new.codes.items c.deref.result.now (codes m) c.in_ok-add_codes.ensures c.new-codes.ensures.items c.deref.ensures.value in
    let second = codes_are (λ x. x.now) c.new-codes.result.items c.add_codes.new.codes.items c.deref-in-Ok.result.now (codes m) c.in_ok-add_codes.ensures c.new-codes.ensures.items c.deref-in-Ok.ensures.value in
    let are = these_tables m tables (map (λ x. x.now) c.deref.result.now) first c.in-Ok.ensures.texts c.in-Ok.ensures.objects in
    let len = c.len.ensures in
    let kept = c.in_ok-front-in-Ok.front.ok.0 in
    let bytes = ap length c.in_ok-front-in-Ok.ensures in
    let size : c.len.result ≡ length (front_bytes tables) = omega (arith, len, kept, bytes) in
    (judged_call m tables (map (λ x. x.now) c.deref-in-Ok.result.now) c.len.result c.first_past.result second size are c.in-Ok.ensures.fit c.first_past.ensures).0

pub returns-in-Ok-clause-none : goal.returns-in-Ok-clause-none
returns-in-Ok-clause-none c =
    let m = c.args.tree.now in
    let tables = c.in-Ok.tables in
    let first = codes_are (λ x. x.now) c.new-codes.result.items c.add_codes.new.codes.items c.deref.result.now (codes m) c.in_ok-add_codes.ensures c.new-codes.ensures.items c.deref.ensures.value in
    let second = codes_are (λ x. x.now) c.new-codes.result.items c.add_codes.new.codes.items c.deref-in-Ok.result.now (codes m) c.in_ok-add_codes.ensures c.new-codes.ensures.items c.deref-in-Ok.ensures.value in
    let are = these_tables m tables (map (λ x. x.now) c.deref.result.now) first c.in-Ok.ensures.texts c.in-Ok.ensures.objects in
    let len = c.len.ensures in
    let kept = c.in_ok-front-in-Ok.front.ok.0 in
    let bytes = ap length c.in_ok-front-in-Ok.ensures in
    let size : c.len.result ≡ length (front_bytes tables) = omega (arith, len, kept, bytes) in
    (judged_call m tables (map (λ x. x.now) c.deref-in-Ok.result.now) c.len.result c.first_past.result second size are c.in-Ok.ensures.fit c.first_past.ensures).1

pub returns-in-Err-Fault-clause-found : goal.returns-in-Err-Fault-clause-found
returns-in-Err-Fault-clause-found c =
    let m = c.args.tree.now in
    let first = codes_are (λ x. x.now) c.new-codes.result.items c.add_codes.new.codes.items c.deref.result.now (codes m) c.in_ok-add_codes.ensures c.new-codes.ensures.items c.deref.ensures.value in
    fault_past m (map (λ x. x.now) c.deref.result.now) c.in-Err-Fault.field-0 c.in-Err-Fault.field-0-0 first c.in-Err-Fault.field-0-is c.in-Err-Fault.ensures.fault
