use Rattle.std.proofs.Common.{ℕ, List, sym, ap, ◌∙◌, subst}
use Rattle.std.specs.Prelude.{codes}
use Rattle.prim_operators.specs.mpy_base.Val.{Val}
use Rattle.prim_operators.specs.py_primitives.Faults.{UnsupportedOne}
use Rattle.prim_operators.specs.py_primitives.Outcome.{Outcome, raises}
use Rattle.prim_operators.specs.prim_walks.Plain.{plain, plain_heap}
use Rattle.prim_operators.specs.prim_faults.Outcomes.{IsOutcome}
use Rattle.prim_operators.proofs.prim_faults_lemmas.Outcomes.{raises_outcome}
use Rattle.prim_assignments.proofs.ItemUses.{hashed, unhashed}
use Rattle.prim_assignments.proofs.items.set_key.Goals as goal

pub returns-then-not-is_key : goal.returns-then-not-is_key
returns-then-not-is_key g c =
    let texts = g.C.Constants.text_of c.args.consts.now in
    let tuples = g.C.Constants.items_of c.args.consts.now in
    let h = c.args.arena.now in
    let heap = plain_heap texts tuples h in
    raises_outcome texts tuples h _ _ c.requires.all_told tt
    (unhashed heap (plain texts tuples c.args.key) _ (sym c.if-not-is_key.true ∙ c.is_key.ensures.shown texts tuples)
    ∙ ap (λ (t : List ℕ). raises {A = Val} (UnsupportedOne (codes "__hash__") t) heap) (sym (c.type_of.ensures texts tuples)))

pub returns : goal.returns
returns g c =
    let texts = g.C.Constants.text_of c.args.consts.now in
    let tuples = g.C.Constants.items_of c.args.consts.now in
    let h = c.args.arena.now in
    let heap = plain_heap texts tuples h in
    subst (λ (o : Outcome Val). IsOutcome texts tuples h c.put_pair.new.arena c.put_pair.result o)
    (sym (hashed heap (plain texts tuples c.args.key) _ (sym c.if-not-is_key.false ∙ c.is_key.ensures.shown texts tuples))) c.put_pair.ensures
