use Rattle.std.proofs.Common.{◌≡◌, ◌<◌, ◌≤◌, ◌^◌, ℕ, List, length, All, Some, sym, ap, subst, ◌∙◌}
use Rattle.mpy_base.specs.declared.limits.TheConstants.{MAX_TABLE}
use Rattle.image_grammar.specs.bc_library.Shelf.{fault_in, fault_of, member_of, with_module}
use Rattle.image_open.proofs.Put.{Tells, none_told}
use Rattle.image_open.proofs.shelving.put.Goals as goal

pub add-requires-clause-short : goal.add-requires-clause-short
add-requires-clause-short c = subst (λ (z : List ℕ). length z < 2 ^ 31) (sym c.bytes.ensures) c.requires.plain.short

pub add-requires-clause-ascii : goal.add-requires-clause-ascii
add-requires-clause-ascii c = subst (All (λ (byte : ℕ). byte < 128)) (sym c.bytes.ensures) c.requires.plain.ascii

pub unreachable-requires : goal.unreachable-requires
unreachable-requires c =
    let lib = c.args.lib.now in
    let given = c.bytes.result.now in
    let held = c.args.entry.held in
    let fault = c.in-Err-Fault-default.field-0-0-0 in
    let e : fault_of c.add.result ≡ Some fault = ap fault_of c.in-Err-Fault-default.is ∙ ap fault_in c.in-Err-Fault-default.field-0-0-is in
    let tells : Tells lib given held (fault_of c.add.result) = record {
      twice = λ f. c.add.ensures.twice.0 f;
      too_many = λ f. (c.add.ensures.too_many.0 f).1;
      names = λ f. (c.add.ensures.names f).2;
    } in
    none_told lib given held (fault_of c.add.result) fault tells (ap (member_of lib) c.bytes.ensures ∙ c.requires.new) c.requires.room
    (subst (λ (z : List ℕ). length (with_module lib z held).pool.texts ≤ MAX_TABLE) (sym c.bytes.ensures) c.requires.fits) e
