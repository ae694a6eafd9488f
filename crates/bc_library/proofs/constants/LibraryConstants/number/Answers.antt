use Rattle.std.proofs.Common.{ℕ, ◌≡◌, List, Option, Some, None, ap, subst}
use Rattle.std.specs.Prelude.{IfSome, IfNone}
use Rattle.bc_verify.specs.qstr_pool.Pool.{Texts}
use Rattle.bc_library.specs.Shelf.{Shelf}
use Rattle.bc_library.specs.Texts.{text_numbered}
use Rattle.bc_library.proofs.constants.LibraryConstants.number.Goals as goal

-- the number that was found is the only one
only : (F : ℕ → Option (List ℕ)) (text : List ℕ) → ((t : List ℕ) (m n : ℕ) → F m ≡ Some t → F n ≡ Some t → m ≡ n) → (found : Option ℕ)
    → IfSome found (λ n. F n ≡ Some text) → IfNone found ((n : ℕ) → F n ≡ Some text → ⊥) → (n : ℕ) → F n ≡ Some text → found ≡ Some n
only F text one None some none n q = absurd (none n q)
only F text one (Some m) some none n q = ap (λ (k : ℕ). Some k) (one text m n some q)

pub returns : goal.returns
returns c =
    let pool = ap (λ (s : Shelf). s.pool) c.self.view_is in
    let found = c.known_number.result in
    let text = c.args.text.now in
    only (text_numbered c.args.self.now.pool) text c.library_law.ensures.one_number found
    (subst (λ (p : Texts). IfSome found (λ n. text_numbered p n ≡ Some text)) pool c.known_number.ensures.number)
    (subst (λ (p : Texts). IfNone found ((n : ℕ) → text_numbered p n ≡ Some text → ⊥)) pool c.known_number.ensures.none)
