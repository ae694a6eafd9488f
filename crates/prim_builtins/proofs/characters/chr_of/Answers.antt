use Rattle.prim_operators.specs.py_primitives.Calls.{character}
use Rattle.prim_operators.specs.prim_walks.Plain.{plain_heap}
use Rattle.prim_operators.proofs.prim_faults_lemmas.Outcomes.{raises_outcome}
use Rattle.prim_builtins.proofs.Numbered.{unnumbered}
use Rattle.prim_builtins.proofs.characters.chr_of.Goals as goal

pub returns-in-Err : goal.returns-in-Err
returns-in-Err g c =
    let texts = g.C.Constants.text_of c.args.consts.now in
    let tuples = g.C.Constants.items_of c.args.consts.now in
    let h = c.args.arena.now in
    raises_outcome texts tuples h c.in-Err.fault _ c.requires.all_told ((c.in-Err.ensures.fault texts tuples).0)
    (unnumbered texts tuples h c.args.v (character (plain_heap texts tuples h)) c.in-Err.fault c.in-Err.ensures.other c.in-Err.ensures.fault)
