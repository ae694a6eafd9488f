use Rattle.std.proofs.Common.{subst, arith}
use Rattle.std.specs.Prelude.{All}
use Rattle.prim_methods.specs.arena_heap.declared.value.Value.TheVariants as values
use Rattle.prim_methods.specs.arena_heap.Values.{held}
use Rattle.prim_methods.specs.arena_heap.Constants.{IsTold}
use Rattle.prim_calls.proofs.callees.function_of.Goals as goal

pub returns-clause-known : goal.returns-clause-known
returns-clause-known g c =
    let texts = g.C.Constants.text_of c.args._consts.now in
    let tuples = g.C.Constants.items_of c.args._consts.now in
    let parts = c.fun_parts-module_name.ensures in
    let told = subst (λ o. All (IsTold texts tuples) (held o)) parts.parts (c.requires.all_told.told c.args.f.cell) in
    record { names = parts.names; defaults = record { leads = parts.leads; told = told 1 values.None (omega arith) }; are_defaults = parts.defaults }
