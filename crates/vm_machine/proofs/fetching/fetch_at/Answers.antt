use Rattle.std.proofs.Common.{sym, ap, subst, ◌∙◌}
use Rattle.bc_library.specs.Shelf.{Shelf}
use Rattle.vm_kept.specs.state_calls.bc_rows.Codes.{code_numbered}
use Rattle.vm_kept.specs.state_calls.bc_rows.Rows.{IsRow}
use Rattle.vm_machine.proofs.Standing as fetching
use Rattle.vm_machine.proofs.fetching.fetch_at.Goals as goal

pub running-module_number-requires : goal.running-module_number-requires
running-module_number-requires c =
    let p = c.program_law.ensures.exists c.args.library.now c.requires.vm.runnable in
    fetching.some_calls c.args.library.now c.args.vm.now c.requires.vm c.requires.goes_on p.0 p.1

pub offset-at-requires : goal.offset-at-requires
offset-at-requires c =
    let p = c.program_law.ensures.exists c.args.library.now c.requires.vm.runnable in
    fetching.some_calls c.args.library.now c.args.vm.now c.requires.vm c.requires.goes_on p.0 p.1

pub unreachable-requires : goal.unreachable-requires
unreachable-requires c =
    let p = c.program_law.ensures.exists c.args.library.now c.requires.vm.runnable in
    let laws : fetching.Laws = record { row = c.ready_law.ensures.row; verified = c.ready_law.ensures.verified; starts = c.ready_law.ensures.starts; ready = c.ready_law.ensures.ready } in
    fetching.row_there c.args.library.now c.args.vm.now c.requires.vm c.requires.goes_on p.0 p.1 laws c.running-module_number.result.0 c.running-module_number.result.1 c.offset-at.result
    c.running-module_number.ensures.module_number c.running-module_number.ensures.code c.offset-at.ensures
    (ap (λ (z : Shelf). code_numbered z c.running-module_number.result.0 c.running-module_number.result.1) (sym c.requires.rows) ∙ c.in_default.ensures.none)

pub fetch-fetched-requires-clause-row : goal.fetch-fetched-requires-clause-row
fetch-fetched-requires-clause-row c =
    let p = c.program_law.ensures.exists c.args.library.now c.requires.vm.runnable in
    let laws : fetching.Laws = record { row = c.ready_law.ensures.row; verified = c.ready_law.ensures.verified; starts = c.ready_law.ensures.starts; ready = c.ready_law.ensures.ready } in
    fetching.row_verified c.args.library.now c.args.vm.now c.requires.vm c.requires.goes_on p.0 p.1 laws c.running-module_number.result.0 c.running-module_number.result.1 c.offset-at.result
    c.running-module_number.ensures.module_number c.running-module_number.ensures.code c.offset-at.ensures c.in-Some.row.now
    (subst (λ (z : Shelf). IsRow z c.running-module_number.result.0 c.running-module_number.result.1 c.in-Some.row.now) c.requires.rows c.in-Some.ensures.is)

pub fetch-fetched-requires-clause-starts : goal.fetch-fetched-requires-clause-starts
fetch-fetched-requires-clause-starts c =
    let p = c.program_law.ensures.exists c.args.library.now c.requires.vm.runnable in
    let laws : fetching.Laws = record { row = c.ready_law.ensures.row; verified = c.ready_law.ensures.verified; starts = c.ready_law.ensures.starts; ready = c.ready_law.ensures.ready } in
    fetching.row_starts c.args.library.now c.args.vm.now c.requires.vm c.requires.goes_on p.0 p.1 laws c.running-module_number.result.0 c.running-module_number.result.1 c.offset-at.result
    c.running-module_number.ensures.module_number c.running-module_number.ensures.code c.offset-at.ensures c.in-Some.row.now
    (subst (λ (z : Shelf). IsRow z c.running-module_number.result.0 c.running-module_number.result.1 c.in-Some.row.now) c.requires.rows c.in-Some.ensures.is)

pub returns : goal.returns
returns c =
    let p = c.program_law.ensures.exists c.args.library.now c.requires.vm.runnable in
    let laws : fetching.Laws = record { row = c.ready_law.ensures.row; verified = c.ready_law.ensures.verified; starts = c.ready_law.ensures.starts; ready = c.ready_law.ensures.ready } in
    fetching.has_fetched c.args.library.now c.args.vm.now c.requires.vm c.requires.goes_on p.0 p.1 laws c.running-module_number.result.0 c.running-module_number.result.1 c.offset-at.result
    c.running-module_number.ensures.module_number c.running-module_number.ensures.code c.offset-at.ensures c.in-Some.row.now
    (subst (λ (z : Shelf). IsRow z c.running-module_number.result.0 c.running-module_number.result.1 c.in-Some.row.now) c.requires.rows c.in-Some.ensures.is)
    c.fetch-fetched.result c.fetch-fetched.ensures
    (fetching.names_in c.args.library.now c.args.vm.now c.requires.vm (record { tables = c.names_law.ensures.tables; told = c.names_law.ensures.told; last = c.names_law.ensures.last }))
