use Rattle.std.proofs.Common.{◌≡◌, Some, refl, sym, ap, ◌∙◌}
use Rattle.std.specs.Prelude.{slice_get, is_some}
use Rattle.bc_library.proofs.Shelves.{title_told, there_told}
use Rattle.bc_library.proofs.library.Library.title.Goals as goal

pub returns-clause-is : goal.returns-clause-is
returns-clause-is c =
    let there : slice_get c.self.inside.modules.items c.args.module_number ≡ Some c.in_ok-loaded.loaded.now = ap (λ z. slice_get z c.args.module_number) (sym c.deref.ensures.value) ∙ sym c.in_ok-loaded.ensures in
    title_told c.self.inside.modules.items c.self.inside.refused c.self.inside.pool c.args.self.now c.args.module_number c.in_ok-loaded.loaded.now c.self.view_is c.self.invariant there

pub returns-clause-some : goal.returns-clause-some
returns-clause-some c =
    let there : slice_get c.self.inside.modules.items c.args.module_number ≡ Some c.in_ok-loaded.loaded.now = ap (λ z. slice_get z c.args.module_number) (sym c.deref.ensures.value) ∙ sym c.in_ok-loaded.ensures in
    let same = there_told c.self.inside.modules.items c.self.inside.refused c.self.inside.pool c.args.self.now c.args.module_number c.self.view_is in
    (λ e. sym same ∙ ap is_some there, λ e. refl)
