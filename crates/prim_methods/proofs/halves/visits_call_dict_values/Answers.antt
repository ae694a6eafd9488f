use Rattle.std.proofs.Common.{refl, ap, arith}
use Rattle.mpy_base.specs.declared.builtin.Builtin.TheVariants as builtins
use Rattle.mpy_base.specs.Val.{Val}
use Rattle.prim_builtins.specs.py_primitives.Outcome.{Outcome}
use Rattle.prim_assignments.specs.prim_walks.Plain.{plain}
use Rattle.prim_methods.proofs.halves.visits_call_dict_values.Goals as goal

pub returns-in-Err : goal.returns-in-Err
returns-in-Err g c =
    let texts = g.C.Constants.text_of c.args._consts.now in
    let tuples = g.C.Constants.items_of c.args._consts.now in
    let raised = ap (λ (o : Outcome Val). o.visits) (c.in-Err.ensures.refused.method_raised texts tuples c.args.arena.now builtins.DictValues (plain texts tuples c.args.object) refl) in
    omega (arith, raised)
