-- A walk over the places of one bucket, from the last on, that seeks the first one where something holds.
use Rattle.std.proofs.Common.{ℕ, suc, ◌<◌, ◌≤◌, ◌≡◌, min, Option, Some, None, sym, subst, inl, inr, arith}
use Rattle.std.specs.Prelude.{◌⊎◌}
use Rattle.std.proofs.lemmas.Bool.{cases_lt}
use Rattle.arena_heap.specs.Links.{IsLast}
use Rattle.arena_objects.specs.Found.{FirstFrom, least}

module _ (Holds : ℕ → Type 0) (buckets : ℕ → ℕ) (bucket len : ℕ) (in_bucket : (k : ℕ) → Holds k → buckets k ≡ bucket) where
  pub first_start : (end : ℕ) → IsLast buckets bucket len end → FirstFrom Holds len end None
  first_start end last = λ k lo hi is. last.none_behind k lo hi (in_bucket k is)

  pub first_found : (at end : ℕ) → IsLast buckets bucket at end → at < len → Holds at → FirstFrom Holds len end (Some at)
  first_found at end last lt is = (last.within, lt, is, λ k lo hi other. last.none_behind k lo hi (in_bucket k other))

  -- neither at the place nor in front of it down to the next
  passed : (at end : ℕ) → IsLast buckets bucket at end → (Holds at → ⊥) → (k : ℕ) → end ≤ k → k < suc at → Holds k → ⊥
  passed at end last differs k lo hi is = elim (cases_lt k at) [
    | inl lt ↦ last.none_behind k lo lt (in_bucket k is)
    | inr ge ↦
        let e : k ≡ at = omega arith in
        differs (subst Holds e is)
  ]

  pub first_passed : (at end : ℕ) (found : Option ℕ) → IsLast buckets bucket at end → (Holds at → ⊥) → FirstFrom Holds len (suc at) found → FirstFrom Holds len end found
  first_passed at end None last differs first = λ k lo hi is. elim (cases_lt k (suc at)) [
    | inl lt ↦ passed at end last differs k lo lt is
    | inr ge ↦ first k ge hi is
  ]
  first_passed at end (Some place) last differs first =
      let within = last.within in
      let behind = first.0 in (
        omega arith,
        first.1,
        first.2,
        λ k lo hi is. elim (cases_lt k (suc at)) [
          | inl lt ↦ passed at end last differs k lo lt is
          | inr ge ↦ first.3 k ge hi is
        ],
      )

-- the same where it holds elsewhere too
pub first_same : (P Q : ℕ → Type 0) (len : ℕ) (found : Option ℕ) → ((k : ℕ) → P k → Q k) → ((k : ℕ) → Q k → P k) → FirstFrom P len 0 found → FirstFrom Q len 0 found
first_same P Q len None to back first = λ k lo hi is. first k lo hi (back k is)
first_same P Q len (Some at) to back first = (first.0, first.1, to at (first.2), λ k lo hi is. first.3 k lo hi (back k is))

-- two walks that cover all places where it holds
pub first_least : (P Q R : ℕ → Type 0) (len : ℕ) (first second : Option ℕ) → ((k : ℕ) → R k → P k ⊎ Q k) → ((k : ℕ) → P k → R k) → ((k : ℕ) → Q k → R k)
    → FirstFrom P len 0 first → FirstFrom Q len 0 second → FirstFrom R len 0 (least first second)
first_least P Q R len None None cover p q one other = λ k lo hi is. elim (cover k is) [
  | inl a ↦ one k lo hi a
  | inr b ↦ other k lo hi b
]
first_least P Q R len None (Some at) cover p q one other = (
  other.0,
  other.1,
  q at (other.2),
  λ k lo hi is. elim (cover k is) [
    | inl a ↦ one k lo (omega (arith, other.1)) a
    | inr b ↦ other.3 k lo hi b
  ],
)
first_least P Q R len (Some at) None cover p q one other = (
  one.0,
  one.1,
  p at (one.2),
  λ k lo hi is. elim (cover k is) [
    | inl a ↦ one.3 k lo hi a
    | inr b ↦ other k lo (omega (arith, one.1)) b
  ],
)
first_least P Q R len (Some at) (Some place) cover p q one other =
    elim (cases_lt at place) [
      | inl lt ↦
          let e : min at place ≡ at = omega arith in (
            omega arith,
            omega (arith, one.1),
            subst R (sym e) (p at (one.2)),
            λ k lo hi is. elim (cover k is) [
              | inl a ↦ one.3 k lo (omega arith) a
              | inr b ↦ other.3 k lo (omega arith) b
            ],
          )
      | inr ge ↦
          let e : min at place ≡ place = omega arith in (
            omega arith,
            omega (arith, other.1),
            subst R (sym e) (q place (other.2)),
            λ k lo hi is. elim (cover k is) [
              | inl a ↦ one.3 k lo (omega arith) a
              | inr b ↦ other.3 k lo (omega arith) b
            ],
          )
    ]
