use Rattle.std.proofs.Common.{sym, ap, ◌∙◌}
use Rattle.arena_objects.specs.arena_heap.declared.value.Value.{Value}
use Rattle.py_primitives.specs.mpy_base.Val.{Built}
use Rattle.py_primitives.specs.py_values.Equality.{is_same}
use Rattle.prim_walks.specs.Plain.{plain}
use Rattle.prim_walks.proofs.Identities.{nil_other, built_other, none_same}
use Rattle.prim_walks.proofs.identity.is_same.Goals as goal

pub returns-in_default-b : goal.returns-in_default-b
returns-in_default-b c texts tuples =
    sym (ap (λ (v : Value). is_same (plain texts tuples v) (plain texts tuples c.args.b)) c.in-None.is ∙ nil_other texts tuples c.args.b c.in_default-b.not-None)

pub returns-in-Built-b : goal.returns-in-Built-b
returns-in-Built-b c texts tuples =
    c.is_one_builtin.ensures
    ∙ sym (ap (λ (v : Value). is_same (plain texts tuples v) (plain texts tuples c.args.b)) c.in-Built.is ∙ ap (λ (v : Value). is_same (Built c.in-Built.x) (plain texts tuples v)) c.in-Built-b.is)

pub returns-in_default-b-2 : goal.returns-in_default-b-2
returns-in_default-b-2 c texts tuples =
    sym (ap (λ (v : Value). is_same (plain texts tuples v) (plain texts tuples c.args.b)) c.in-Built.is ∙ built_other texts tuples c.in-Built.x c.args.b c.in_default-b-2.not-Built)

pub returns-in-None-number_of : goal.returns-in-None-number_of
returns-in-None-number_of c texts tuples =
    sym (none_same texts tuples c.args.a (plain texts tuples c.args.b) c.in_default.not-None c.in_default.not-Built (sym (c.number_of.ensures texts tuples) ∙ c.in-None-number_of.is))
