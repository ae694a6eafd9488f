use Rattle.std.proofs.Common.{List, ap, ◌∙◌}
use Rattle.mpy_base.specs.Val.{Val}
use Rattle.prim_builtins.specs.arena_heap.declared.value.Value.TheVariants as values
use Rattle.prim_builtins.specs.py_primitives.Operators.{all_of}
use Rattle.prim_builtins.specs.py_primitives.Calls.{instance_of, named_type}
use Rattle.prim_builtins.specs.prim_walks.Plain.{plain, plain_heap}
use Rattle.prim_builtins.proofs.prim_faults_lemmas.Outcomes.{gives_outcome, raises_outcome}
use Rattle.prim_types.proofs.Decisions.{types_found, no_types}
use Rattle.prim_types.proofs.MemberItems.{members_plain}
use Rattle.prim_types.proofs.instances.isinstance_of.Goals as goal

pub returns-in-Some : goal.returns-in-Some
returns-in-Some g c =
    let texts = g.C.Constants.text_of c.args.consts.now in
    let tuples = g.C.Constants.items_of c.args.consts.now in
    let h = c.args.arena.now in
    let heap = plain_heap texts tuples h in
    let v = plain texts tuples c.args.v in
    let same = ap (λ (vs : List Val). instance_of heap v (all_of named_type vs)) (members_plain texts tuples h c.args.types c.requires.types_lead c.items_law.ensures.nested) in
    gives_outcome texts tuples h (values.Bool c.in-Some.found) _ c.requires.all_told (record { meets = tt; small = tt }) tt (same ∙ types_found heap v c.in-Some.found _ c.in-Some.ensures)

pub returns-in-None : goal.returns-in-None
returns-in-None g c =
    let texts = g.C.Constants.text_of c.args.consts.now in
    let tuples = g.C.Constants.items_of c.args.consts.now in
    let h = c.args.arena.now in
    let heap = plain_heap texts tuples h in
    let v = plain texts tuples c.args.v in
    let same = ap (λ (vs : List Val). instance_of heap v (all_of named_type vs)) (members_plain texts tuples h c.args.types c.requires.types_lead c.items_law.ensures.nested) in
    raises_outcome texts tuples h _ _ c.requires.all_told tt (same ∙ no_types heap v _ c.in-None.ensures)
