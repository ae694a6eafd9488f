use Rattle.std.proofs.Common.{sym, subst, arith}
use Rattle.vm_states.specs.bc_library.Shelf.{Shelf}
use Rattle.vm_states.specs.bc_rows.Rows.{IsRow}
use Rattle.vm_starting.proofs.Openings.{code_there, locals_few}
use Rattle.vm_starting.proofs.opening.main_locals.Goals as goal

pub unreachable-requires : goal.unreachable-requires
unreachable-requires c = code_there c.args.rows.now c.args.number c.requires.there c.in_default.ensures.none

pub overflow_cast-result : goal.overflow_cast-result
overflow_cast-result c =
    let p = c.requires.program in
    let is = subst (λ (s : Shelf). IsRow s c.args.number 0 c.in-Some.row.now) (sym p.1.shelf_is) c.in-Some.ensures.is in
    let few = locals_few p.0 c.args.rows.now p.1 c.args.slots c.requires.few.0 c.requires.few.1 c.args.number c.in-Some.row.now (c.code_law.ensures p.0 c.args.number 0 c.in-Some.row.now p.1.means is) in
    omega (arith, few, c.ranges.slots)

pub returns-clause-few : goal.returns-clause-few
returns-clause-few c =
    let p = c.requires.program in
    let is = subst (λ (s : Shelf). IsRow s c.args.number 0 c.in-Some.row.now) (sym p.1.shelf_is) c.in-Some.ensures.is in
    let few = locals_few p.0 c.args.rows.now p.1 c.args.slots c.requires.few.0 c.requires.few.1 c.args.number c.in-Some.row.now (c.code_law.ensures p.0 c.args.number 0 c.in-Some.row.now p.1.means is) in
    omega (arith, few)
