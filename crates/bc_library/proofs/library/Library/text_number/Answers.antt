use Rattle.std.proofs.Common.{◌≡◌, Some, sym, ap, ◌∙◌}
use Rattle.std.specs.Prelude.{slice_get}
use Rattle.bc_library.proofs.Shelves.{text_told, entry_told}
use Rattle.bc_library.proofs.library.Library.text_number.Goals as goal

there : (c : goal.After-number_at) → slice_get c.self.inside.modules.items c.args.module_number ≡ Some c.in_ok-loaded.loaded.now
there c = ap (λ z. slice_get z c.args.module_number) (sym c.deref.ensures.value) ∙ sym c.in_ok-loaded.ensures

pub returns-clause-text : goal.returns-clause-text
returns-clause-text c =
    text_told c.self.inside.modules.items c.self.inside.refused c.self.inside.pool c.args.self.now c.args.module_number c.args.qstr c.in_ok-loaded.loaded.now c.number_at.result c.self.view_is c.self.invariant (there c)
    (c.number_at.ensures ∙ ap (λ z. slice_get z c.args.qstr) c.deref-2.ensures.value)

pub returns-clause-some : goal.returns-clause-some
returns-clause-some c =
    let same = entry_told c.self.inside.modules.items c.self.inside.refused c.self.inside.pool c.args.self.now c.args.module_number c.args.qstr c.in_ok-loaded.loaded.now c.number_at.result c.self.view_is c.self.invariant (there c)
    (c.number_at.ensures ∙ ap (λ z. slice_get z c.args.qstr) c.deref-2.ensures.value) in
    (λ e. sym same ∙ e, λ e. same ∙ e)
