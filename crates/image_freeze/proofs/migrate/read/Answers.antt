use Rattle.std.proofs.Common.{Ok, sym, subst}
use Rattle.std.proofs.lemmas.Result.{err_from_is_err_and}
use Rattle.mpy_base.specs.declared.refused.Refused.{Refused}
use Rattle.image_open.specs.bc_library.Shelf.{Shelf, no_entries}
use Rattle.image_open.specs.image_grammar.declared.fault.ImageFault.{ImageFault}
use Rattle.image_open.specs.image_grammar.Opening.{image}
use Rattle.image_open.specs.image_grammar.Steps.{Fails}
use Rattle.image_open.specs.image_grammar.Base.{IsOpened, base_of}
use Rattle.image_open.proofs.Below.{nothing_opened}
use Rattle.image_freeze.proofs.Migrated.{read_starved}
use Rattle.image_freeze.proofs.migrate.read.Goals as goal

pub returns-in_err-nothing : goal.returns-in_err-nothing
returns-in_err-nothing c =
    let p = err_from_is_err_and c.from_residual.result c.from_residual.ensures.1 in
    read_starved c.args.bytes.now _ _ p.1 p.2

pub read_image-requires : goal.read_image-requires
read_image-requires c = subst IsOpened (sym c.in_ok-nothing.ensures) nothing_opened

pub returns-in-Ok : goal.returns-in-Ok
returns-in-Ok c = subst (λ (z : Shelf). image (base_of z) c.args.bytes.now (Ok c.in-Ok.entries)) c.in_ok-nothing.ensures c.in-Ok.ensures.read

pub returns-in-Err-Fault : goal.returns-in-Err-Fault
returns-in-Err-Fault c =
    let fails = subst (λ (z : Shelf). Fails c.in-Err-Fault.field-0 (image (base_of z) c.args.bytes.now)) c.in_ok-nothing.ensures c.in-Err-Fault.ensures.read in
    let P : Refused ImageFault → Type 0 = λ z. Fails z (image (base_of no_entries) c.args.bytes.now) in
    subst P c.in-Err-Fault.field-0-is fails
