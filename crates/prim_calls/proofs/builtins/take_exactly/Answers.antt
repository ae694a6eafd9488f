use Rattle.prim_methods.specs.arena_heap.declared.value.Value.TheVariants as values
use Rattle.prim_types.specs.py_primitives.Calls.{Exactly}
use Rattle.prim_methods.specs.prim_walks.Plain.{plain, plain_pair, plain_heap}
use Rattle.prim_methods.proofs.prim_faults_lemmas.Outcomes.{gives_outcome}
use Rattle.prim_types.proofs.prim_builtins_lemmas.Calls.{refused}
use Rattle.prim_calls.proofs.Judged.{judged_exactly}
use Rattle.prim_calls.proofs.builtins.take_exactly.Goals as goal

pub returns-in-Ok : goal.returns-in-Ok
returns-in-Ok g c =
    let texts = g.C.Constants.text_of c.args._consts.now in
    let tuples = g.C.Constants.items_of c.args._consts.now in
    let h = c.args.arena.now in
    gives_outcome texts tuples h values.None _ c.requires.all_told (record { meets = tt; small = tt }) tt
    (judged_exactly (plain_heap texts tuples h) c.args.b (plain texts tuples) (plain_pair texts tuples) c.args.args.now c.args.keys.now c.in-Ok.ensures.no_keywords c.requires.nothing c.args.count c.requires.counts c.in-Ok.ensures.as_many)

pub returns-in-Err : goal.returns-in-Err
returns-in-Err g c =
    let texts = g.C.Constants.text_of c.args._consts.now in
    let tuples = g.C.Constants.items_of c.args._consts.now in
    refused texts tuples c.args.arena.now c.args.args.now c.args.keys.now c.args.b (Exactly c.args.count) c.in-Err.fault c.requires.all_told c.in-Err.ensures.refused c.requires.counts
