use Rattle.std.proofs.Common.{◌≡◌, Result, Ok, length, refl, sym, subst, ◌∙◌}
use Rattle.std.proofs.lemmas.Bool.{leb-false}
use Rattle.mpy_base.specs.declared.limits.TheConstants.{MAX_TABLE}
use Rattle.mpy_base.specs.declared.refused.NoMemory.{NoMemory}
use Rattle.mpy_writer.specs.qstr_pool.Pool.{Texts}
use Rattle.mpy_writer.specs.Outcome.{FaultIs, PassesTable, no_texts}
use Rattle.mpy_merge.specs.Merged.{texts_used, all_objects}
use Rattle.mpy_merge.proofs.Uses.{tables_are, tables_fit, tables_fine, many_texts, many_objects}
use Rattle.mpy_merge.proofs.names.make_tables.Goals as goal

none_yet : (t : Texts) → ◌≡◌ {A = Result Texts NoMemory} (Ok t) (Ok no_texts) → t ≡ no_texts
none_yet t e = cc

pub returns-in-Err-Fault-clause-fault : goal.returns-in-Err-Fault-clause-fault
returns-in-Err-Fault-clause-fault c =
    let told = subst (λ z. FaultIs z (PassesTable no_texts (texts_used c.args.modules.now))) c.in-Err-Fault.field-0-is c.in-Err-Fault.ensures.fault in
    (refl, many_texts c.args.modules.now told.1)

pub returns-then-not-are_few-clause-fault : goal.returns-then-not-are_few-clause-fault
returns-then-not-are_few-clause-fault c =
    (refl, many_objects c.args.modules.now (leb-false (length (all_objects c.args.modules.now)) MAX_TABLE (sym c.are_few.ensures ∙ c.if-not-are_few.true)))

pub returns-clause-are : goal.returns-clause-are
returns-clause-are c = tables_are c.args.modules.now c.in-Ok.texts c.in_ok-objects.objects c.in-Ok.ensures.ok (none_yet c.in_ok-objects.objects c.in_ok-objects.ensures)

pub returns-clause-fit : goal.returns-clause-fit
returns-clause-fit c = tables_fit c.args.modules.now c.in-Ok.texts c.in_ok-objects.objects c.in-Ok.ensures.ok (none_yet c.in_ok-objects.objects c.in_ok-objects.ensures) c.pool_law.ensures.is_pool.few

pub returns-clause-fine : goal.returns-clause-fine
returns-clause-fine c = tables_fine c.args.modules.now c.in-Ok.texts c.requires.read c.in-Ok.ensures.ok
