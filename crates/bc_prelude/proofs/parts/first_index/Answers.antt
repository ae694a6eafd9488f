use Rattle.bc_prelude.proofs.Pieces.{some_names, first_of, one_number}
use Rattle.bc_prelude.proofs.parts.first_index.Goals as goal

pub unreachable-requires : goal.unreachable-requires
unreachable-requires c =
    let r = c.requires in
    let f = first_of r.0 c.args.names.now r.1 (some_names r.0 c.args.names.now r.1 r.2) in
    c.in_default.not-Ok _ (c.read_vuint.ensures.only f.text f.rest _ f.spells f.is)

pub returns : goal.returns
returns c indexes are =
    let r = c.requires in
    let f = first_of indexes c.args.names.now are (some_names r.0 c.args.names.now r.1 r.2) in
    one_number c.read_vuint.result _ _ _ _ c.in-Ok.is (c.read_vuint.ensures.only f.text f.rest _ f.spells f.is)
