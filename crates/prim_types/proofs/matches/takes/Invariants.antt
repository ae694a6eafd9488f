use Rattle.std.proofs.Common.{◌≡◌, drop, map, false}
use Rattle.prim_builtins.specs.py_primitives.Operators.{is_under, named_kind}
use Rattle.prim_builtins.specs.prim_walks.Plain.{plain}
use Rattle.prim_types.specs.Members.{members_in}
use Rattle.prim_types.proofs.AnyOf.{any_from}
use Rattle.prim_types.proofs.matches.takes.Given as goal

abbrev pub invariant-loop-at : goal.invariant-loop-at
invariant-loop-at g l =
    let texts = g.C.Constants.text_of l.consts in
    let tuples = g.C.Constants.items_of l.consts in
    let kinds = map (plain texts tuples) (members_in tuples l.arena l.kinds) in
    any_from named_kind (is_under l.kind) l.found (drop l.at kinds) ≡ any_from named_kind (is_under l.kind) false kinds
