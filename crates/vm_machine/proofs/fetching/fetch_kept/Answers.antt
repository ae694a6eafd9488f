use Rattle.std.proofs.Common.{sym, subst, ◌∙◌}
use Rattle.vm_starting.specs.Kept.{AreFetched}
use Rattle.vm_machine.proofs.AtOnce.{read_of}
use Rattle.vm_machine.proofs.Standing as fetching
use Rattle.vm_machine.proofs.fetching.fetch_kept.Goals as goal

pub running-module_number-requires : goal.running-module_number-requires
running-module_number-requires c =
    let p = c.program_law.ensures.exists c.args.library.now c.requires.vm.runnable in
    fetching.some_calls c.args.library.now c.args.vm.now c.requires.vm c.requires.goes_on p.0 p.1

pub offset-at-requires : goal.offset-at-requires
offset-at-requires c =
    let p = c.program_law.ensures.exists c.args.library.now c.requires.vm.runnable in
    fetching.some_calls c.args.library.now c.args.vm.now c.requires.vm c.requires.goes_on p.0 p.1

pub returns-in-Some-clause-fetched : goal.returns-in-Some-clause-fetched
returns-in-Some-clause-fetched c =
    let p = c.program_law.ensures.exists c.args.library.now c.requires.vm.runnable in
    let laws : fetching.Laws = record { row = c.ready_law.ensures.row; verified = c.ready_law.ensures.verified; starts = c.ready_law.ensures.starts; ready = c.ready_law.ensures.ready } in
    let of = c.requires.kept c.running-module_number.result.0 c.running-module_number.result.1 c.offset-at.result c.in-Some.fetched (sym c.look.ensures ∙ c.in-Some.is) in (
      of.row,
      fetching.has_fetched c.args.library.now c.args.vm.now c.requires.vm c.requires.goes_on p.0 p.1 laws c.running-module_number.result.0 c.running-module_number.result.1 c.offset-at.result
          c.running-module_number.ensures.module_number c.running-module_number.ensures.code c.offset-at.ensures of.row of.is_row c.in-Some.fetched of.is_fetched
          (fetching.names_in c.args.library.now c.args.vm.now c.requires.vm (record { tables = c.names_law.ensures.tables; told = c.names_law.ensures.told; last = c.names_law.ensures.last })),
    )

pub returns-in-None-clause-fetched : goal.returns-in-None-clause-fetched
returns-in-None-clause-fetched c = (c.fetch_at.result.0.now, c.fetch_at.ensures)

pub returns-in-None-clause-kept : goal.returns-in-None-clause-kept
returns-in-None-clause-kept c =
    subst (AreFetched c.args.library.now) (sym c.keep.ensures)
    (c.cache_law.ensures c.args.library.now c.args.cache.now c.running-module_number.result.0 c.running-module_number.result.1 c.offset-at.result c.fetch_at.result.1 c.requires.kept
    (read_of c.args.library.now c.fetch_at.result.1 c.running-module_number.result.0 c.running-module_number.result.1 c.offset-at.result c.args.vm.now.frames.calls
    c.running-module_number.ensures.module_number c.running-module_number.ensures.code c.offset-at.ensures c.fetch_at.ensures.read))
