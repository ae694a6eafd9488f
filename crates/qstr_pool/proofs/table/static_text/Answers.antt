use Rattle.std.proofs.Common.{◌≡◌, ℕ, ◌-◌, List, Bor, option_map, option_copied, slice_get, ap, ◌∙◌}
use Rattle.qstr_pool.specs.Static.{static_pool}
use Rattle.qstr_pool.proofs.Pools.{text_is}
use Rattle.qstr_pool.proofs.Slots.{read}
use Rattle.qstr_pool.proofs.table.static_text.Goals as goal

pub returns-clause-text : goal.returns-clause-text
returns-clause-text c =
    let texts = c.texts.result.now in
    let place : c.from.result ≡ c.args.n - 1 = c.from.ensures ∙ c.in_ok-place.ensures.1 in
    ap option_copied c.copied.ensures
    ∙ (read texts c.from.result c.get.result c.get.ensures.lookup.0 c.get.ensures.lookup.1
    ∙ (ap (λ (i : ℕ). option_map (λ (text : Bor (List ℕ)). text.now) (slice_get texts i)) place
    ∙ text_is (λ (text : Bor (List ℕ)). text.now) texts static_pool c.args.n c.texts.ensures.texts c.in_ok-place.ensures.0))
