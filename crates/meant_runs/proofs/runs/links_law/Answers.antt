use Rattle.std.proofs.Common.{subst}
use Rattle.library_runs.specs.bc_library.Shelf.{Shelf}
use Rattle.library_runs.specs.vm_starting.Programs.{FindsAll}
use Rattle.meant_runs.proofs.Links.{links}
use Rattle.meant_runs.proofs.runs.links_law.Goals as goal

pub returns : goal.returns
returns c shelf p program is units =
    links c.resolves_law.ensures.one shelf p.library (subst (λ (s : Shelf). FindsAll s p.library) is.shelf_is (c.program_law.ensures.finds p is.means)) program units
