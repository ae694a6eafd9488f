use Rattle.std.proofs.Common.{◌≡◌, ℕ, List, Some, length, sym, ap, subst, ◌∙◌, arith}
use Rattle.std.proofs.lemmas.List.{length-map}
use Rattle.bc_verify.specs.qstr_pool.Pool.{Texts}
use Rattle.bc_library.specs.Kept.{named}
use Rattle.bc_library.specs.Shelf.{Shelf}
use Rattle.bc_library.specs.Texts.{text_numbered}
use Rattle.bc_library.proofs.Own.{one_number}
use Rattle.bc_library.proofs.laws.library_law.Goals as goal

pub returns-clause-few : goal.returns-clause-few
returns-clause-few c =
    let modules = ap (λ (s : Shelf). length s.modules) c.lib.view_is in
    let refused = ap (λ (s : Shelf). length s.refused) c.lib.view_is in
    omega (arith, modules, refused, length-map c.lib.inside.modules.items named, c.lib.invariant.few)

pub returns-clause-first : goal.returns-clause-first
returns-clause-first c = ap (λ (s : Shelf). s.pool.first) (sym c.lib.view_is) ∙ c.lib.invariant.own.first

pub returns-clause-one_number : goal.returns-clause-one_number
returns-clause-one_number c =
    subst (λ (p : Texts). (text : List ℕ) (m n : ℕ) → text_numbered p m ≡ Some text → text_numbered p n ≡ Some text → m ≡ n) (ap (λ (s : Shelf). s.pool) c.lib.view_is)
    (one_number c.lib.inside.pool c.static_law.ensures.one_to_one c.pool_law.ensures.one_to_one c.lib.invariant.own)
