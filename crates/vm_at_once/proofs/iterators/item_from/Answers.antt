use Rattle.std.proofs.Common.{arith}
use Rattle.state_values.specs.prim_assignments.prim_walks.Plain.{plain, plain_heap}
use Rattle.state_values.specs.bc_progress.py_primitives.Iterables.{item_of}
use Rattle.state_values.proofs.prim_assignments_lemmas.prim_faults_lemmas.Outcomes.{gives_outcome}
use Rattle.state_values.proofs.prim_assignments_lemmas.prim_operators_lemmas.ItemsShown.{item_plain, length_plain}
use Rattle.vm_at_once.proofs.iterators.item_from.Goals as goal

pub returns-then-at-item_count-clause-within : goal.returns-then-at-item_count-clause-within
returns-then-at-item_count-clause-within g c =
    let texts = g.C.Constants.text_of c.args.consts.now in
    let tuples = g.C.Constants.items_of c.args.consts.now in
    let count = length_plain texts tuples c.args.arena.now c.args.over c.requires.items c.requires.leads c.requires.nested in
    omega (arith, count, c.item_count.ensures, c.if-at-item_count.true)

pub returns-then-at-item_count-clause-item : goal.returns-then-at-item_count-clause-item
returns-then-at-item_count-clause-item g c =
    let texts = g.C.Constants.text_of c.args.consts.now in
    let tuples = g.C.Constants.items_of c.args.consts.now in
    let h = c.args.arena.now in
    gives_outcome texts tuples h c.item_at-v.result (item_of (plain_heap texts tuples h) (plain texts tuples c.args.over) c.args.at) c.requires.all_told c.item_at-v.ensures.leads c.item_at-v.ensures.told
    (item_plain texts tuples h c.args.over c.args.at c.item_at-v.result c.requires.items c.requires.leads c.requires.nested c.item_at-v.ensures.item)
