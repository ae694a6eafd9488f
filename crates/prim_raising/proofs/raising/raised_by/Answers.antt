use Rattle.std.proofs.Common.{sym, subst}
use Rattle.prim_types.specs.arena_heap.declared.value.Value.{Value}
use Rattle.prim_raising.specs.Raised.{IsRaised}
use Rattle.prim_types.proofs.TypeTests.{tuple_kind, no_exception}
use Rattle.prim_raising.proofs.raising.raised_by.Goals as goal

pub returns-in-Built : goal.returns-in-Built
returns-in-Built c = subst (λ (v : Value). IsRaised c.args._arena.now v c.raised_by_builtin.result) (sym c.in-Built.is) (c.raised_by_builtin.ensures c.args._arena.now)

pub returns-in-Fixed : goal.returns-in-Fixed
returns-in-Fixed c = λ texts tuples. (
  tuple_kind texts tuples c.args.v c.in-Fixed.field-0 c.in-Fixed.is,
  no_exception texts tuples c.args._arena.now c.args.v c.requires (λ x e. let no = c.in-Fixed.is in cc),
)
