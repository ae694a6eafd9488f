-- The folder of a file has a name in UTF-8.
use Rattle.std.proofs.Common.{◌≡◌, ◌⊎◌, ◌<◌, ◌≤◌, ◌-◌, ◌+◌, ℕ, List, take, length, get_or, IsUtf8, inl, inr, sym, subst, arith}
use Rattle.std.proofs.lemmas.Str.{IsUtf8-nil, IsUtf8-take, IsCharBoundary-after_ascii}
use Rattle.std.specs.Str.{IsCharBoundary}

pub base_utf8 : (name : List ℕ) (n : ℕ) → n ≤ length name → (n ≡ 0) ⊎ ((0 < n) × (get_or name (n - 1) 0 ≡ 47)) → IsUtf8 name → IsUtf8 (take n name)
base_utf8 name n l (inl none) u = subst (λ (k : ℕ). IsUtf8 (take k name)) (sym none) IsUtf8-nil
base_utf8 name n l (inr p) u =
    let back : n - 1 + 1 ≡ n = omega (arith, p.0) in
    let low : get_or name (n - 1) 0 < 128 = omega (arith, p.1) in
    IsUtf8-take name n u (subst (IsCharBoundary name) back (IsCharBoundary-after_ascii name (n - 1) u (omega (arith, l, p.0)) low))
