use Rattle.std.proofs.Common.{ap, ◌∙◌, subst}
use Rattle.bc_library.specs.Constants.{items_at, text_at}
use Rattle.bc_library.specs.Shelf.{Shelf}
use Rattle.vm_starting.specs.Programs.{FindsAll}
use Rattle.vm_machine.specs.Machine.{world_in}
use Rattle.snap_loading.proofs.Gathering.{some_world, gathered}
use Rattle.snap_loading.proofs.Saming.{worlds_same}
use Rattle.snap_loading.proofs.Saving.{modules_titled}
use Rattle.snap_loading.proofs.same.same_law.Goals as goal

pub returns : goal.returns
returns c shelf vm other named is by saved also first second e =
    worlds_same shelf vm other named first second e
    (λ p program.
    let a = gathered shelf vm p is saved program in
    let b = gathered shelf other p by also program in (
      program.means.constants.texts ∙ ap text_at program.shelf_is,
      program.means.constants.tuples ∙ ap items_at program.shelf_is,
      subst (λ (z : Shelf). FindsAll z p.library) program.shelf_is (c.program_law.ensures.finds p program.means),
      record { fine = a.sound.heap; modules = modules_titled (world_in p vm some_world) a.sound.titles; titles = a.sound.titles },
      record { fine = b.sound.heap; modules = modules_titled (world_in p other some_world) b.sound.titles; titles = b.sound.titles },
    ))
