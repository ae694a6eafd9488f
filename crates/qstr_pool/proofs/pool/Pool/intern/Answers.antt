use Rattle.std.proofs.Common.{◌≡◌, ℕ, ◌++◌, List, [], ◌∷◌, Vec, Global, map, length, sym, ap, ◌∙◌}
use Rattle.std.proofs.lemmas.List.{length-map}
use Rattle.qstr_pool.specs.Pool.{Texts}
use Rattle.qstr_pool.proofs.Pools.{interned_known, interned_new, interned_is, number_new, text_kept}
use Rattle.qstr_pool.proofs.pool.Pool.intern.Goals as goal

abbrev bytes_of : Vec ℕ Global → List ℕ
bytes_of key = key.items

-- the texts before, and behind the insertion
before : (c : goal.In_ok-insert) → map bytes_of c.self.inside.texts.keys ≡ c.args.self.now.texts
before c = ap (λ (pool : Texts). pool.texts) c.self.view_is

behind : (c : goal.In_ok-insert) → map bytes_of c.insert.new.self.keys ≡ c.args.self.now.texts ++ c.args.text.now ∷ []
behind c = interned_new bytes_of c.self.inside.texts.keys c.insert.new.self.keys c.in_ok-from_slice.field-0 c.args.self.now c.args.text.now (before c) c.in_ok-from_slice.ensures.items (sym c.in_default.ensures.number) c.in_ok-insert.ensures.keys

first : (c : goal.In_ok-insert) → c.self.inside.first ≡ c.args.self.now.first
first c = ap (λ (pool : Texts). pool.first) c.self.view_is

pub returns-in-Some-clause-texts : goal.returns-in-Some-clause-texts
returns-in-Some-clause-texts c = interned_known c.args.self.now c.args.text.now c.in-Some.n (sym c.find.ensures.number ∙ c.in-Some.is)

pub returns-clause-number : goal.returns-clause-number
returns-clause-number c =
    let count = c.len-place.ensures.len ∙ (sym (length-map c.self.inside.texts.keys bytes_of) ∙ ap length (before c)) in
    number_new c.args.self.now c.args.text.now c.self.inside.first c.len-place.result _ (sym c.in_default.ensures.number) (behind c) count

pub returns-clause-texts : goal.returns-clause-texts
returns-clause-texts c = interned_is c.args.self.now c.args.text.now c.self.inside.first _ (sym c.in_default.ensures.number) (first c) (behind c)

pub returns-clause-kept : goal.returns-clause-kept
returns-clause-kept c n known e = text_kept c.args.self.now c.args.text.now c.self.inside.first _ n known (first c) (behind c) e
