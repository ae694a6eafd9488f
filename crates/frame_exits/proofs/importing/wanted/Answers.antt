use Rattle.std.proofs.Common.{ℕ, List, sym, ap, ◌∙◌}
use Rattle.mpy_base.specs.Val.{PlainWorld}
use Rattle.frame_moves.specs.arena_heap.declared.value.Value.{Value}
use Rattle.frame_moves.specs.py_effects.Modules.{module_named}
use Rattle.frame_moves.specs.prim_walks.Plain.{plain}
use Rattle.prim_modules.specs.Registry.{plain_modules}
use Rattle.frame_exits.specs.Importing.{given_name}
use Rattle.frame_exits.proofs.Plains.{names_given}
use Rattle.frame_exits.proofs.importing.wanted.Goals as goal

pub returns-in-None-clause-named : goal.returns-in-None-clause-named
returns-in-None-clause-named g c w =
    let texts = g.C.Constants.text_of c.args.consts.now in
    let tuples = g.C.Constants.items_of c.args.consts.now in
    let world : PlainWorld = record w { modules = plain_modules texts tuples c.args.modules.now } in
    c.module_of.ensures.named w
    ∙ ap (λ (n : List ℕ). module_named world n) (c.first_len.ensures.first ∙ sym (ap (λ (v : Value). given_name (plain texts tuples v) c.args.text.now) c.in-None.is))

pub returns-in_default-clause-named : goal.returns-in_default-clause-named
returns-in_default-clause-named g c w =
    let texts = g.C.Constants.text_of c.args.consts.now in
    let tuples = g.C.Constants.items_of c.args.consts.now in
    let world : PlainWorld = record w { modules = plain_modules texts tuples c.args.modules.now } in
    c.module_of-in_default.ensures.named w ∙ ap (λ (n : List ℕ). module_named world n) (names_given texts tuples c.args.text.now c.args.from c.in_default.not-None)
