use Rattle.std.proofs.Common.{◌≡◌, ℕ, List, [], ◌∷◌, ◌++◌, length, map, sym, ap, ◌∙◌, subst}
use Rattle.std.specs.List.{insert}
use Rattle.std.proofs.lemmas.List.{length-map}
use Rattle.std.proofs.lemmas.List.Edits.{insert_end}
use Rattle.mpy_base.specs.World.{items_at}
use Rattle.mpy_base.specs.Val.{Val}
use Rattle.prim_builtins.specs.py_primitives.Methods.{put_items}
use Rattle.prim_assignments.specs.prim_walks.Plain.{plain, plain_heap}
use Rattle.prim_assignments.specs.prim_faults.Outcomes.{IsOutcome}
use Rattle.prim_methods.proofs.appends.append.Goals as goal

pub returns : goal.returns
returns g c =
    let texts = g.C.Constants.text_of c.args.consts.now in
    let tuples = g.C.Constants.items_of c.args.consts.now in
    let h = c.args.arena.now in
    let l = c.args.l.cell in
    let vs = map (plain texts tuples) (items_at h l) in
    let v = plain texts tuples c.args.v in
    let end : c.list_len-end.result ≡ length vs = c.list_len-end.ensures ∙ sym (length-map (items_at h l) (plain texts tuples)) in
    let same : insert vs c.list_len-end.result v ≡ vs ++ v ∷ [] = ap (λ (at : ℕ). insert vs at v) end ∙ insert_end vs v in
    subst (λ (ws : List Val). IsOutcome texts tuples h c.put_item.new.arena c.put_item.result (put_items (plain_heap texts tuples h) l ws)) same c.put_item.ensures
