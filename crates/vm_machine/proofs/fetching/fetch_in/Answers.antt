use Rattle.std.proofs.Common.{◌≡◌, ℕ, sym, subst, ◌∙◌}
use Rattle.state_steps.specs.vm_frames.Calls.{OfRunning}
use Rattle.vm_machine.proofs.Standing as fetching
use Rattle.vm_machine.proofs.fetching.fetch_in.Goals as goal

pub running-here-requires : goal.running-here-requires
running-here-requires c =
    let p = c.program_law.ensures.exists c.args._library.now c.requires.vm.runnable in
    fetching.some_calls c.args._library.now c.args.vm.now c.requires.vm c.requires.goes_on p.0 p.1

pub offset-at-requires : goal.offset-at-requires
offset-at-requires c =
    let p = c.program_law.ensures.exists c.args._library.now c.requires.vm.runnable in
    fetching.some_calls c.args._library.now c.args.vm.now c.requires.vm c.requires.goes_on p.0 p.1

pub returns-in-Some : goal.returns-in-Some
returns-in-Some c =
    let p = c.program_law.ensures.exists c.args._library.now c.requires.vm.runnable in
    let laws : fetching.Laws = record { row = c.ready_law.ensures.row; verified = c.ready_law.ensures.verified; starts = c.ready_law.ensures.starts; ready = c.ready_law.ensures.ready } in
    let same = c.is_same.ensures c.if-not-is_same.false in
    let calls = c.args.vm.now.frames.calls in
    let of = c.requires.kept c.offset-at.result c.in-Some.fetched (sym c.look.ensures ∙ c.in-Some.is) in (
      of.row,
      fetching.has_fetched c.args._library.now c.args.vm.now c.requires.vm c.requires.goes_on p.0 p.1 laws c.args.module_number c.args.code c.offset-at.result
          (subst (λ (n : ℕ). OfRunning (λ d. n ≡ d.module_number) calls) same.0 c.running-here.ensures.module_number)
          (subst (λ (n : ℕ). OfRunning (λ d. n ≡ d.code) calls) same.1 c.running-here.ensures.code)
          c.offset-at.ensures of.row of.is_row c.in-Some.fetched of.is_fetched
          (fetching.names_in c.args._library.now c.args.vm.now c.requires.vm (record { tables = c.names_law.ensures.tables; told = c.names_law.ensures.told; last = c.names_law.ensures.last })),
    )
