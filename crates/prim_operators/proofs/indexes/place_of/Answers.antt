use Rattle.std.proofs.Common.{ℕ, List, sym, ap₂, ◌∙◌}
use Rattle.prim_faults.specs.mpy_base.Val.{Val}
use Rattle.prim_faults.specs.py_primitives.Faults.{NotAnIndex}
use Rattle.prim_faults.specs.py_primitives.Outcome.{raises}
use Rattle.prim_faults.specs.prim_walks.Plain.{plain, plain_heap}
use Rattle.prim_operators.proofs.IndexUses.{at_other}
use Rattle.prim_operators.proofs.Looked.{number_shown}
use Rattle.prim_operators.proofs.indexes.place_of.Goals as goal

pub returns-in_default-clause-fault : goal.returns-in_default-clause-fault
returns-in_default-clause-fault g c =
    let texts = g.C.Constants.text_of c.args.consts.now in
    let tuples = g.C.Constants.items_of c.args.consts.now in
    let h = c.args.arena.now in
    let heap = plain_heap texts tuples h in
    record {
      known = tt;
      follows = λ next. at_other heap (plain texts tuples c.args.object) (plain texts tuples c.args.index) _ next (number_shown texts tuples h c.args.index ∙ (sym c.number_of.ensures ∙ c.in_default.is))
          ∙ ap₂ (λ (s t : List ℕ). raises {A = Val} (NotAnIndex s t) heap) (sym (c.type_of.ensures texts tuples)) (sym (c.type_of-in_default.ensures texts tuples));
    }
