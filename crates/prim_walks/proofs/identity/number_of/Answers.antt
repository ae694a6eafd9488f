use Rattle.std.proofs.Common.{sym}
use Rattle.prim_walks.proofs.Identities.{rest_number}
use Rattle.prim_walks.proofs.identity.number_of.Goals as goal

pub returns-in_default : goal.returns-in_default
returns-in_default c texts tuples =
    let d = c.in_default in
    sym (rest_number texts tuples c.args.v d.not-List d.not-Dict d.not-Tuple d.not-Text d.not-Fun d.not-Exc d.not-Method d.not-Range d.not-Module)
