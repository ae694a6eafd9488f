use Rattle.std.proofs.Common.{◌≡◌, ℕ, ℤ, length, map, sym, ap, ◌∙◌, subst}
use Rattle.std.specs.List.{insert}
use Rattle.std.proofs.lemmas.List.{length-map}
use Rattle.mpy_base.specs.World.{items_at}
use Rattle.mpy_base.specs.Val.{Val}
use Rattle.prim_builtins.specs.py_primitives.Outcome.{Outcome}
use Rattle.prim_builtins.specs.py_primitives.Iterables.{place_before}
use Rattle.prim_builtins.specs.py_primitives.Methods.{put_items}
use Rattle.prim_assignments.specs.prim_walks.Plain.{plain, plain_heap}
use Rattle.prim_assignments.specs.prim_faults.Outcomes.{IsOutcome}
use Rattle.prim_assignments.proofs.prim_faults_lemmas.Outcomes.{raises_outcome}
use Rattle.prim_builtins.proofs.Numbered.{numbered, unnumbered}
use Rattle.prim_builtins.proofs.SmallSame.{one_same}
use Rattle.prim_methods.proofs.inserts.insert.Goals as goal

pub returns-in-Ok : goal.returns-in-Ok
returns-in-Ok g c =
    let texts = g.C.Constants.text_of c.args.consts.now in
    let tuples = g.C.Constants.items_of c.args.consts.now in
    let h = c.args.arena.now in
    let l = c.args.l.cell in
    let heap = plain_heap texts tuples h in
    let vs = map (plain texts tuples) (items_at h l) in
    let v = plain texts tuples c.args.v in
    let z = c.in-Ok.number in
    let next : ℤ → Outcome Val = λ z. put_items heap l (insert vs (place_before (length vs) z) v) in
    let len : c.list_len.result ≡ length vs = c.list_len.ensures ∙ sym (length-map (items_at h l) (plain texts tuples)) in
    let at : c.place_before-at.result ≡ place_before (length vs) z = c.place_before-at.ensures.place ∙ (one_same (λ (y : ℤ). place_before c.list_len.result y) z c.in-Ok.ensures.small ∙ ap (λ (k : ℕ). place_before k z) len) in
    subst (λ (o : Outcome Val). IsOutcome texts tuples h c.put_item.new.arena c.put_item.result o) (ap (λ (k : ℕ). put_items heap l (insert vs k v)) at ∙ sym (numbered texts tuples h c.args.index next z c.in-Ok.ensures.number)) c.put_item.ensures

pub returns-in-Err : goal.returns-in-Err
returns-in-Err g c =
    let texts = g.C.Constants.text_of c.args.consts.now in
    let tuples = g.C.Constants.items_of c.args.consts.now in
    let h = c.args.arena.now in
    let l = c.args.l.cell in
    let heap = plain_heap texts tuples h in
    let vs = map (plain texts tuples) (items_at h l) in
    let v = plain texts tuples c.args.v in
    let next : ℤ → Outcome Val = λ z. put_items heap l (insert vs (place_before (length vs) z) v) in
    raises_outcome texts tuples h c.in-Err.fault _ c.requires.all_told ((c.in-Err.ensures.fault texts tuples).0) (unnumbered texts tuples h c.args.index next c.in-Err.fault c.in-Err.ensures.other c.in-Err.ensures.fault)
