use Rattle.std.proofs.Common.{Result, Err, Vec, Global, ℕ, map, refl, ap, ◌∙◌, inr}
use Rattle.std.proofs.lemmas.Result.{err_from_is_err_and}
use Rattle.mpy_base.specs.declared.refused.Refused.{Refused}
use Rattle.image_open.specs.bc_library.Shelf.{Shelf}
use Rattle.image_open.specs.image_grammar.declared.fault.ImageFault.{ImageFault}
use Rattle.image_open.specs.image_grammar.Base.{base_of}
use Rattle.image_freeze.specs.Frozen.{entries_of}
use Rattle.image_freeze.proofs.Migrated.{fault_of, no_answer, second_of, write_starved}
use Rattle.image_freeze.proofs.Same.{copied, entries_again, names_ascii}
use Rattle.image_freeze.proofs.migrate.write.Goals as goal

pub returns-in_err-nothing : goal.returns-in_err-nothing
returns-in_err-nothing c =
    let p = err_from_is_err_and c.from_residual.result c.from_residual.ensures.1 in
    write_starved c.args.entries.now (λ (v : Vec ℕ Global). v.items) _ _ p.1 p.2

pub returns-in_err-modules : goal.returns-in_err-modules
returns-in_err-modules c =
    let p = err_from_is_err_and c.from_residual-in_err-modules.result c.from_residual-in_err-modules.ensures.1 in
    write_starved c.args.entries.now (λ (v : Vec ℕ Global). v.items) _ _ p.1 p.2

pub freeze-requires-clause-version : goal.freeze-requires-clause-version
freeze-requires-clause-version c = inr refl

pub freeze-requires-clause-alone : goal.freeze-requires-clause-alone
freeze-requires-clause-alone c = ap (λ (z : Shelf). z.refused) c.in_ok-nothing.ensures

pub freeze-requires-clause-ascii : goal.freeze-requires-clause-ascii
freeze-requires-clause-ascii c = names_ascii c.deref.result.now c.args.entries.now (ap (map copied) c.deref.ensures.value ∙ c.in_ok-modules.ensures) c.requires.plain

pub returns-in-Ok : goal.returns-in-Ok
returns-in-Ok c =
    let again = entries_again c.deref.result.now c.args.entries.now (ap (map copied) c.deref.ensures.value ∙ c.in_ok-modules.ensures) c.requires.same in
    second_of (base_of c.in_ok-nothing.nothing) (entries_of c.deref.result.now) c.args.entries.now c.in-Ok.out.items (ap base_of c.in_ok-nothing.ensures) again c.in-Ok.ensures.written c.in-Ok.ensures.image
    (λ f h. no_answer c.in-Ok.out f (c.in-Ok.ensures.fault f h))

pub returns-in-Err-Fault : goal.returns-in-Err-Fault
returns-in-Err-Fault c =
    let again = entries_again c.deref.result.now c.args.entries.now (ap (map copied) c.deref.ensures.value ∙ c.in_ok-modules.ensures) c.requires.same in
    let failed = λ (e : Refused ImageFault). let r : Result (Vec ℕ Global) (Refused ImageFault) = Err e in r in
    fault_of (base_of c.in_ok-nothing.nothing) (entries_of c.deref.result.now) c.args.entries.now c.in-Err-Fault.fault (ap base_of c.in_ok-nothing.ensures) again (c.in-Err-Fault.ensures.first c.in-Err-Fault.fault (ap failed c.in-Err-Fault.field-0-is))
