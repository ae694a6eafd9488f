use Rattle.std.proofs.Common.{ℕ, List, length, ap, ◌∙◌}
use Rattle.prim_faults.specs.Pieces.{wording_text}
use Rattle.prim_faults.proofs.texts.fault_len.Goals as goal

pub returns : goal.returns
returns g c =
    let spelled = c.wording.ensures.text (g.C.Constants.text_of c.args.consts.now) (g.C.Constants.items_of c.args.consts.now) c.args.arena.now in
    c.pieces_len.ensures ∙ ap (λ (xs : List ℕ). length xs) (ap (λ (name : List ℕ). wording_text name c.wording.result) c.fault_name.ensures ∙ spelled)
