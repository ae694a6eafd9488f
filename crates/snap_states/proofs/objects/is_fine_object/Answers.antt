use Rattle.std.proofs.Common.{◌↔◌, List, IsTrue, sym, subst}
use Rattle.std.specs.Prelude.{IfOk}
use Rattle.snap_grammar.specs.declared.parts.ObjectPart.{ObjectPart}
use Rattle.snap_grammar.specs.declared.parts.PairPart.{PairPart}
use Rattle.snap_states.specs.States.{IsFineDict, IsFineObject}
use Rattle.snap_states.proofs.objects.is_fine_object.Goals as goal

pub returns-in-Dict : goal.returns-in-Dict
returns-in-Dict c =
    let shelf = c.args.known.now.library.now in
    let s = c.args.known.now.snapshot.now in
    subst (λ (o : ObjectPart). IfOk c.is_fine_dict.result (λ fine. IsTrue fine ↔ IsFineObject shelf s c.args.number o)) (sym c.in-Dict.is)
    (subst (λ (ps : List PairPart). IfOk c.is_fine_dict.result (λ fine. IsTrue fine ↔ IsFineDict shelf s c.args.number c.in-Dict.room ps)) c.as_slice-in-Dict.ensures c.is_fine_dict.ensures)
