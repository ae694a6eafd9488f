use Rattle.std.proofs.Common.{◌≡◌, Some, None, sym, subst, ◌∙◌}
use Rattle.mpy_tree.specs.File.{IsAscii}
use Rattle.trans_check.proofs.Stored.{stored}
use Rattle.trans_check.proofs.names.stored_source.Goals as goal

pub unreachable-requires : goal.unreachable-requires
unreachable-requires c =
    let name = stored c.args.module.now c.module_law.ensures in
    let clash : None ≡ Some name.0 = c.in-None.ensures ∙ name.1 in
    absurd cc

pub returns : goal.returns
returns c =
    let name = stored c.args.module.now c.module_law.ensures in
    let found : Some c.in-Some.name.now ≡ Some name.0 = c.in-Some.ensures ∙ name.1 in
    let same : name.0 ≡ c.in-Some.name.now = cc in
    record { named = sym c.in-Some.ensures; ascii = subst IsAscii same name.2 }
