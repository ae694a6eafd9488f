use Rattle.std.proofs.Common.{ℕ, ◌+◌, List, Vec, Global, option_map, sym, ap, ◌∙◌}
use Rattle.qstr_pool.proofs.Pools.{number_is}
use Rattle.qstr_pool.proofs.pool.Pool.find.Goals as goal

abbrev bytes_of : Vec ℕ Global → List ℕ
bytes_of key = key.items

pub returns-in_err-place-clause-number : goal.returns-in_err-place-clause-number
returns-in_err-place-clause-number c =
    let known = number_is bytes_of c.self.inside.texts.keys c.self.inside.first c.args.self.now c.args.text.now c.get_index_of.result c.self.view_is c.get_index_of.ensures.index in
    c.from_residual.ensures ∙ (ap (option_map (λ place. c.self.inside.first + place)) (sym c.in_err-place.was) ∙ known)

pub returns-clause-number : goal.returns-clause-number
returns-clause-number c =
    let known = number_is bytes_of c.self.inside.texts.keys c.self.inside.first c.args.self.now c.args.text.now c.get_index_of.result c.self.view_is c.get_index_of.ensures.index in
    ap (option_map (λ place. c.self.inside.first + place)) (sym c.in_ok-place.was) ∙ known
