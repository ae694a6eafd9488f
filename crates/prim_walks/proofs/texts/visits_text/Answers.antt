use Rattle.std.proofs.Common.{ℕ, List, min, sym, ap, ◌∙◌}
use Rattle.py_primitives.specs.py_values.Equality.{Walk}
use Rattle.py_primitives.specs.Texts.{write_within}
use Rattle.prim_walks.specs.Plain.{plain, plain_heap}
use Rattle.prim_walks.proofs.RunSteps.{visits_are}
use Rattle.prim_walks.proofs.WholeTexts.{text_is, wrought_left}
use Rattle.prim_walks.proofs.texts.visits_text.Goals as goal

pub returns : goal.returns
returns g c =
    let texts = g.C.Constants.text_of c.args.consts.now in
    let tuples = g.C.Constants.items_of c.args.consts.now in
    let heap = plain_heap texts tuples c.args.arena.now in
    let v = plain texts tuples c.args.v in
    let left = wrought_left _ _ c.write_value.result _ _ _ _ c.write_value.ensures in
    record {
      visits = visits_are (write_within heap 32 c.args.raw v) c.args.most c.made_of.result c.write_value.new.budget.left left c.made_of.ensures
          ∙ sym (ap (λ (walk : Walk (List ℕ)). min walk.visits c.args.most) (text_is heap c.args.raw v));
    }
