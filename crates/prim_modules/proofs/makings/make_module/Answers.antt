use Rattle.std.proofs.Common.{Ok, sym, subst}
use Rattle.py_effects.specs.Modules.{making_module, make_module}
use Rattle.prim_assignments.specs.prim_walks.Plain.{plain_name}
use Rattle.prim_modules.specs.Registry.{Registry}
use Rattle.prim_modules.specs.Effects.{IsMaking}
use Rattle.prim_modules.proofs.Titles.{registers, registers_none}
use Rattle.prim_modules.proofs.makings.make_module.Goals as goal

pub returns-in-Ok-clause-effect : goal.returns-in-Ok-clause-effect
returns-in-Ok-clause-effect g c =
    let texts = g.C.Constants.text_of c.args.consts.now in
    let tuples = g.C.Constants.items_of c.args.consts.now in
    let h = c.args.arena.now in
    let new = c.making_module.new.arena in
    subst (λ (r : Registry). IsMaking texts tuples h new c.args.modules.now r (Ok c.in-Ok.made) (λ w. make_module w (plain_name texts tuples c.args.name))) (sym c.register.ensures)
    (registers texts tuples h new c.args.modules.now c.args.name (λ w. making_module w (plain_name texts tuples c.args.name)) c.in-Ok.made c.in-Ok.ensures.effect)

pub returns-in-Err-clause-effect : goal.returns-in-Err-clause-effect
returns-in-Err-clause-effect g c =
    let texts = g.C.Constants.text_of c.args.consts.now in
    let tuples = g.C.Constants.items_of c.args.consts.now in
    registers_none texts tuples c.args.arena.now c.making_module.new.arena c.args.modules.now c.args.name (λ w. making_module w (plain_name texts tuples c.args.name)) c.in-Err.stop c.in-Err.ensures.effect
