use Rattle.std.proofs.Common.{subst, arith}
use Rattle.std.specs.Prelude.{All}
use Rattle.prim_methods.specs.arena_heap.declared.value.Value.TheVariants as values
use Rattle.prim_methods.specs.arena_heap.Values.{held}
use Rattle.prim_methods.specs.arena_heap.Constants.{IsTold}
use Rattle.prim_calls.proofs.Callable.{not_callable}
use Rattle.prim_calls.proofs.callees.callee_of.Goals as goal

pub returns-in-Method-clause-known : goal.returns-in-Method-clause-known
returns-in-Method-clause-known g c =
    let texts = g.C.Constants.text_of c.args._consts.now in
    let tuples = g.C.Constants.items_of c.args._consts.now in
    let parts = c.method_parts-object.ensures in
    let told = subst (λ o. All (IsTold texts tuples) (held o)) parts.parts (c.requires.all_told.told c.in-Method.m.cell) in
    record { known = record { leads = parts.leads; told = told 0 values.None (omega arith) }; of_type = parts.method }

pub returns-in_default : goal.returns-in_default
returns-in_default g c =
    let texts = g.C.Constants.text_of c.args._consts.now in
    let tuples = g.C.Constants.items_of c.args._consts.now in
    record {
      callee = λ w. not_callable texts tuples c.args.arena.now w c.args.v _ c.in_default.not-Fun c.in_default.not-Method c.in_default.not-Built c.requires.known.leads (c.type_of.ensures texts tuples);
      known = tt;
    }
