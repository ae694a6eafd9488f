use Rattle.std.proofs.Common.{◌≡◌, length, Some, None, sym, ap, ◌∙◌, arith}
use Rattle.std.specs.Prelude.{slice_get}
use Rattle.bc_library.proofs.Counts.{count_told, count_none}
use Rattle.bc_library.proofs.library.Library.constant_count.Goals as goal

pub returns-in-Some : goal.returns-in-Some
returns-in-Some c =
    let there : slice_get c.self.inside.modules.items c.args.module_number ≡ Some c.in-Some.loaded.now = ap (λ z. slice_get z c.args.module_number) (sym c.deref.ensures.value) ∙ sym c.in-Some.ensures in
    let many : c.len.result ≡ length c.in-Some.loaded.now.parts.items = omega arith in
    count_told c.self.inside.modules.items c.self.inside.refused c.self.inside.pool c.args.self.now c.args.module_number c.self.view_is c.self.invariant c.in-Some.loaded.now c.len.result there many

pub returns-in-None : goal.returns-in-None
returns-in-None c =
    let there : slice_get c.self.inside.modules.items c.args.module_number ≡ None = ap (λ z. slice_get z c.args.module_number) (sym c.deref.ensures.value) ∙ sym c.in-None.ensures in
    count_none c.self.inside.modules.items c.self.inside.refused c.self.inside.pool c.args.self.now c.args.module_number c.self.view_is there
