use Rattle.std.proofs.Common.{◌≡◌, ℕ, List, sym, ap, ◌∙◌}
use Rattle.frame_moves.specs.py_effects.Modules.{forget_module}
use Rattle.frame_moves.specs.bc_machine.State.{abandoned}
use Rattle.frame_moves.specs.vm_frames.declared.slot.Role.{Role}
use Rattle.frame_moves.specs.vm_frames.Views.{role_of}
use Rattle.frame_moves.specs.Shown.{Tables, view_of}
use Rattle.frame_exits.specs.Ends.{with_modules}
use Rattle.frame_exits.proofs.Tabling.{by_tables}
use Rattle.frame_exits.proofs.throwing.abandon.Goals as goal

pub returns-in-Import-clause-abandoned : goal.returns-in-Import-clause-abandoned
returns-in-Import-clause-abandoned g c tables w are =
    let texts = g.C.Constants.text_of c.args.consts.now in
    let tuples = g.C.Constants.items_of c.args.consts.now in
    let old = c.args.modules.now in
    let new = c.forget_module.new.self in
    let n = c.args.module_number in
    by_tables texts tuples c.args.names.now
    (λ (t : Tables). with_modules t w new ≡ abandoned (role_of (view_of t) (t.module_name n) c.args.role) (with_modules t w old))
    (λ module_name starts named.
    let t : Tables = record { texts = texts; tuples = tuples; module_name = module_name; starts = starts } in
    c.forget_module.ensures.forgotten w
    ∙ ap (λ (z : List ℕ). forget_module (with_modules t w old) z) (c.name_bytes.ensures.bytes ∙ sym (named n c.name_of-name.result c.name_of-name.ensures))
    ∙ ap (λ (r : Role). abandoned (role_of (view_of t) (module_name n) r) (with_modules t w old)) (sym c.in-Import.is))
    tables are
