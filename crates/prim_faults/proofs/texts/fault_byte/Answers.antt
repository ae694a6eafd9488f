use Rattle.std.proofs.Common.{ℕ, ◌<◌, List, length, get_or, sym, ap, ◌∙◌, subst}
use Rattle.prim_faults.specs.Pieces.{wording_text}
use Rattle.prim_faults.proofs.texts.fault_byte.Goals as goal

pub pieces_byte-requires : goal.pieces_byte-requires
pieces_byte-requires g c =
    let spelled = c.wording.ensures.text (g.C.Constants.text_of c.args.consts.now) (g.C.Constants.items_of c.args.consts.now) c.args.arena.now in
    subst (λ (xs : List ℕ). c.args.at < length xs) (sym (ap (λ (name : List ℕ). wording_text name c.wording.result) c.fault_name.ensures ∙ spelled)) c.requires.within

pub returns : goal.returns
returns g c =
    let spelled = c.wording.ensures.text (g.C.Constants.text_of c.args.consts.now) (g.C.Constants.items_of c.args.consts.now) c.args.arena.now in
    c.pieces_byte.ensures ∙ ap (λ (xs : List ℕ). get_or xs c.args.at 0) (ap (λ (name : List ℕ). wording_text name c.wording.result) c.fault_name.ensures ∙ spelled)
