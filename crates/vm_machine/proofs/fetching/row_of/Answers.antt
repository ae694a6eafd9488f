use Rattle.std.proofs.Common.{sym, ap, subst, ◌∙◌}
use Rattle.bc_library.specs.Shelf.{Shelf}
use Rattle.vm_kept.specs.state_calls.bc_rows.Codes.{code_numbered}
use Rattle.vm_kept.specs.state_calls.bc_rows.Rows.{IsRow}
use Rattle.vm_machine.proofs.AtOnce.{read_of}
use Rattle.vm_machine.proofs.Standing as fetching
use Rattle.vm_machine.proofs.fetching.row_of.Goals as goal

pub running-module_number-requires : goal.running-module_number-requires
running-module_number-requires c = let h = c.requires.fetched.1 in fetching.some_calls c.args._library.now c.args.vm.now h.is_vm h.goes_on h.program h.is_program

pub offset-at-requires : goal.offset-at-requires
offset-at-requires c = let h = c.requires.fetched.1 in fetching.some_calls c.args._library.now c.args.vm.now h.is_vm h.goes_on h.program h.is_program

pub unreachable-requires : goal.unreachable-requires
unreachable-requires c =
    let h = c.requires.fetched.1 in
    let laws : fetching.Laws = record { row = c.ready_law.ensures.row; verified = c.ready_law.ensures.verified; starts = c.ready_law.ensures.starts; ready = c.ready_law.ensures.ready } in
    fetching.row_there c.args._library.now c.args.vm.now h.is_vm h.goes_on h.program h.is_program laws c.running-module_number.result.0 c.running-module_number.result.1 c.offset-at.result
    c.running-module_number.ensures.module_number c.running-module_number.ensures.code c.offset-at.ensures
    (ap (λ (z : Shelf). code_numbered z c.running-module_number.result.0 c.running-module_number.result.1) (sym c.requires.rows) ∙ c.in-None.ensures.none)

pub returns : goal.returns
returns c =
    let h = c.requires.fetched.1 in
    let laws : fetching.Laws = record { row = c.ready_law.ensures.row; verified = c.ready_law.ensures.verified; starts = c.ready_law.ensures.starts; ready = c.ready_law.ensures.ready } in
    let is = subst (λ (z : Shelf). IsRow z c.running-module_number.result.0 c.running-module_number.result.1 c.in-Some.row.now) c.requires.rows c.in-Some.ensures.is in
    let of =
    read_of c.args._library.now c.args._fetched c.running-module_number.result.0 c.running-module_number.result.1 c.offset-at.result c.args.vm.now.frames.calls
    c.running-module_number.ensures.module_number c.running-module_number.ensures.code c.offset-at.ensures h.read in
    fetching.has_fetched c.args._library.now c.args.vm.now h.is_vm h.goes_on h.program h.is_program laws c.running-module_number.result.0 c.running-module_number.result.1 c.offset-at.result
    c.running-module_number.ensures.module_number c.running-module_number.ensures.code c.offset-at.ensures c.in-Some.row.now is c.args._fetched
    (c.row_law.ensures c.args._library.now c.running-module_number.result.0 c.running-module_number.result.1 c.offset-at.result c.args._fetched c.in-Some.row.now of is)
    h.named
