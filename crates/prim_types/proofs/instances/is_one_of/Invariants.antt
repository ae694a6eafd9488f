use Rattle.std.proofs.Common.{◌≡◌, drop, map, false}
use Rattle.prim_builtins.specs.py_primitives.Calls.{is_instance, named_type}
use Rattle.prim_builtins.specs.prim_walks.Plain.{plain, plain_heap}
use Rattle.prim_types.specs.Members.{members_in}
use Rattle.prim_types.proofs.AnyOf.{any_from}
use Rattle.prim_types.proofs.instances.is_one_of.Given as goal

abbrev pub invariant-loop-at : goal.invariant-loop-at
invariant-loop-at g l =
    let texts = g.C.Constants.text_of l.consts in
    let tuples = g.C.Constants.items_of l.consts in
    let test = is_instance (plain_heap texts tuples l.arena) (plain texts tuples l.v) in
    let types = map (plain texts tuples) (members_in tuples l.arena l.types) in
    any_from named_type test l.found (drop l.at types) ≡ any_from named_type test false types
