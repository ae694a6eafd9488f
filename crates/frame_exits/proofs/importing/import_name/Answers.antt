use Rattle.std.proofs.Common.{◌≡◌, ℕ, List, length, take, sym, ap, ◌∙◌, subst}
use Rattle.std.specs.Prelude.{nat_lt}
use Rattle.mpy_base.specs.declared.limits.TheConstants.{MAX_CALLS}
use Rattle.mpy_base.specs.Val.{PlainWorld}
use Rattle.frame_moves.specs.py_effects.Modules.{prefixes, module_named}
use Rattle.frame_moves.specs.bc_machine.Parts.{first_absent}
use Rattle.frame_moves.specs.prim_walks.Plain.{plain, plain_name}
use Rattle.prim_modules.specs.Registry.{plain_modules}
use Rattle.frame_exits.specs.declared.importing.Import.TheVariants as imports
use Rattle.frame_exits.specs.Importing.{IsModule, given_name}
use Rattle.frame_exits.proofs.Coming.{of_operands, begun_module}
use Rattle.frame_exits.proofs.importing.import_name.Goals as goal

pub returns-in-None-clause-comes : goal.returns-in-None-clause-comes
returns-in-None-clause-comes g c from level w has =
    let texts = g.C.Constants.text_of c.args.consts.now in
    let tuples = g.C.Constants.items_of c.args.consts.now in
    let world : PlainWorld = record w { modules = plain_modules texts tuples c.args.modules.now } in
    let bytes = c.text_of-text.ensures.bytes in
    of_operands texts tuples c.args.library.now world (nat_lt (length c.args.frames.now.calls) MAX_CALLS) (plain_name texts tuples c.args.name) from level
    c.value_at-from.result c.value_at-level.result c.args.frames.now.calls (imports.Put c.wanted.result) has c.value_at-from.ensures c.value_at-level.ensures
    (record {
      absolute = sym (c.if-not-is_zero.ensures texts tuples w.heap);
      none_absent = ap (λ (t : List ℕ). first_absent world (prefixes t)) (sym bytes) ∙ sym (c.in-None.ensures.first w);
      value_is = c.wanted.ensures.named w ∙ ap (λ (t : List ℕ). module_named world (given_name (plain texts tuples c.value_at-from.result) t)) bytes;
    })

pub returns-in-None-clause-given : goal.returns-in-None-clause-given
returns-in-None-clause-given g c v e = let same : c.wanted.result ≡ v = cc in subst IsModule same c.wanted.ensures.is

pub returns-in-Some-clause-given : goal.returns-in-Some-clause-given
returns-in-Some-clause-given g c v e =
    begun_module c.args.library.now (nat_lt (length c.args.frames.now.calls) MAX_CALLS) (length (take c.in-Some.len c.text_of-text.result.now)) (take c.in-Some.len c.text_of-text.result.now) c.beginning.result v c.beginning.ensures e
