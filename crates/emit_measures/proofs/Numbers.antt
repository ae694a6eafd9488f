-- Numbers up to the greatest one that is told.
use Rattle.std.proofs.Common.{◌≡◌, ℕ, ◌+◌, ◌≤◌, arith}
use Rattle.std.specs.Prelude.{min, max}

-- the greatest one is any number here
module _ (top : ℕ) where
  pub join : (all h k r a b : ℕ) → all ≡ max h (min (max a b) top) → r ≡ min a top → k ≡ max h r → all ≡ max k (min b top)
  join all h k r a b e f g = omega arith

  pub begun : (a : ℕ) → min a top ≡ max 0 (min a top)
  begun a = omega arith

  pub closed : (all h a : ℕ) → all ≡ max h (min a top) → a ≡ 0 → h ≡ all
  closed all h a e f = omega arith

  pub two : (a b r s : ℕ) → r ≡ min a top → s ≡ min b top → max r s ≡ min (max a b) top
  two a b r s e f = omega arith

  pub plus : (k a r : ℕ) → r ≡ min a top → min (r + k) top ≡ min (k + a) top
  plus k a r e = omega arith

  pub sum : (a b r s : ℕ) → r ≡ min a top → s ≡ min b top → min (r + s) top ≡ min (a + b) top
  sum a b r s e f = omega arith

  pub told : (a : ℕ) → a ≤ top → a ≡ min a top
  told a h = omega arith

  pub at_least : (k a r : ℕ) → r ≡ min a top → k ≤ top → max r k ≡ min (max k a) top
  at_least k a r e h = omega arith

  pub behind : (k a r : ℕ) → r ≡ min a top → k ≤ top → max r k ≡ min (max a k) top
  behind k a r e h = omega arith
