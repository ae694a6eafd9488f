use Rattle.std.proofs.Common.{arith, refl}
use Rattle.snap_loading.proofs.Numbering.{title_found}
use Rattle.snap_loading.proofs.names.module_title.Goals as goal

pub returns-in-Some : goal.returns-in-Some
returns-in-Some c =
    title_found c.args.library.now c.static_law.ensures.one_to_one (omega (arith, c.static_law.ensures.count)) c.library_law.ensures.first c.library_law.ensures.one_number c.args.module c.in-Some.title.name
    (c.in-Some.ensures.some.0 refl) (λ n at. (c.in-Some.ensures.is n at).name_is)
