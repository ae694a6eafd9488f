use Rattle.std.proofs.Common.{ap, ◌∙◌}
use Rattle.prim_builtins.specs.arena_heap.declared.value.Value.{Value}
use Rattle.prim_builtins.specs.py_primitives.Operators.{exception_kind}
use Rattle.prim_builtins.specs.prim_walks.Plain.{plain, plain_heap}
use Rattle.prim_types.proofs.TypeTests.{raised, no_exception}
use Rattle.prim_types.proofs.kinds.exception_kind.Goals as goal

pub returns-in-Exc : goal.returns-in-Exc
returns-in-Exc c = λ texts tuples.
    let h = c.args.arena.now in
    ap (λ (w : Value). exception_kind (plain_heap texts tuples h) (plain texts tuples w)) c.in-Exc.is ∙ raised texts tuples h c.in-Exc.e.cell _ _ _ _ _ c.exc_parts.ensures.parts

pub returns-in_default : goal.returns-in_default
returns-in_default c = λ texts tuples. no_exception texts tuples c.args.arena.now c.args.v c.requires c.in_default.not-Exc
