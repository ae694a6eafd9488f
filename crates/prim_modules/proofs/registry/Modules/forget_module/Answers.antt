use Rattle.std.proofs.Common.{ℕ, List, map, ap, ◌∙◌}
use Rattle.std.specs.Prelude.{filter, not, bytes_eq}
use Rattle.prim_modules.specs.declared.entry.Entry.{Entry}
use Rattle.prim_modules.specs.Registry.{Registry, plain_entry, plain_modules}
use Rattle.prim_modules.proofs.Modular.{kept_plain}
use Rattle.prim_modules.proofs.registry.Modules.forget_module.Goals as goal

pub returns-clause-forgotten : goal.returns-clause-forgotten
returns-clause-forgotten g c w =
    let texts = g.C.Constants.text_of c.args.consts.now in
    let tuples = g.C.Constants.items_of c.args.consts.now in
    let entry = plain_entry texts tuples in
    let other = λ (m : List ℕ × ℕ). not (bytes_eq (m.0) c.args.name.now) in
    ap (λ (ms : List (List ℕ × ℕ)). record w { modules = ms })
    (ap (λ (xs : List Entry). map entry xs) c.keep_others.ensures.items
    ∙ (kept_plain entry other c.self.inside.entries.items ∙ ap (λ (r : Registry). filter other (plain_modules texts tuples r)) c.self.view_is))
