use Rattle.std.proofs.Common.{◌≡◌, ℕ, ℤ, Some, sym, subst, ◌∙◌, rules, SFits, w32}
use Rattle.std.proofs.lemmas.Int.{to_z-of_z}
use Rattle.state_values.specs.bc_progress.py_primitives.Iterables.{place_at}
use Rattle.vm_at_once.proofs.Indexing.{item_outcome}
use Rattle.vm_at_once.proofs.items.item_in.Goals as goal

pub returns-in-Some-list_at : goal.returns-in-Some-list_at
returns-in-Some-list_at g c =
    let texts = g.C.Constants.text_of c.args._consts.now in
    let tuples = g.C.Constants.items_of c.args._consts.now in
    let fits : SFits w32 c.args.number = search rules in
    let place = subst (λ (z : ℤ). place_at c.list_len.result z ≡ Some c.in-Some.at) (to_z-of_z w32 c.args.number fits) c.in-Some.ensures.place in
    item_outcome texts tuples c.args.arena.now c.args.l c.requires.leads c.args.number c.in-Some.at c.in-Some-list_at.v c.requires.all_told c.in-Some-list_at.ensures.leads
    (subst (λ (n : ℕ). place_at n c.args.number ≡ Some c.in-Some.at) c.list_len.ensures place) (sym c.list_at.ensures.item ∙ c.in-Some-list_at.is)
