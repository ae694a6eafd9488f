use Rattle.std.proofs.Common.{◌≡◌, ℕ, min, arith}
use Rattle.prim_operators.specs.prim_walks.Plain.{plain, plain_heap}
use Rattle.prim_assignments.proofs.InPlace.{extend_visits}
use Rattle.prim_assignments.proofs.extensions.visits_extend.Goals as goal

no_more : (result visits len shown most : ℕ) → visits ≡ shown → len ≡ shown → result ≡ min most len → result ≡ min visits most
no_more result visits len shown most p q r = omega arith

pub returns : goal.returns
returns g c =
    let texts = g.C.Constants.text_of c.args.consts.now in
    let tuples = g.C.Constants.items_of c.args.consts.now in
    let heap = plain_heap texts tuples c.args.arena.now in
    no_more _ _ _ _ _ (extend_visits heap c.args._l.cell (plain texts tuples c.args.from)) c.length_of.ensures c.min.ensures
