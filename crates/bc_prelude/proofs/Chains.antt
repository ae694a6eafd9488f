-- Chains: bytes begin with one at most; and the numbers in them.
use Rattle.std.proofs.Common.{◌≡◌, ℕ, ◌+◌, ◌*◌, ◌/◌, ◌%◌, ◌<◌, ◌≤◌, min, List, [], ◌∷◌, ◌++◌, length, take, drop, get_or, true, false, ltb, All, refl, ap, sym, subst, ◌∙◌, arith, append_assoc, length-append}
use Rattle.std.specs.List.{AllByRecursion}
use Rattle.std.proofs.lemmas.List.{length_push, get_or_at, take_more, at_drop_more, take_all, take-append-drop}
use Rattle.std.proofs.lemmas.List.Elements.{recursion_from_All, All-push}
use Rattle.std.proofs.lemmas.Bool.Decides.{nat_tests}
use Rattle.std.proofs.Math.Nat.{mul-le-mul_left, mul-le-mul_right, mul_comm}
use Rattle.mpy_base.specs.Vuint.{HasMore}
use Rattle.bc_prelude.specs.Chain.{IsChain, HasNoEnd, number_of}

-- a byte without bit 7 parts a list in one way
one_split : (h k : List ℕ) (l m : ℕ) (x y : List ℕ) → AllByRecursion HasMore h → AllByRecursion HasMore k → l < 128 → m < 128 → h ++ l ∷ x ≡ k ++ m ∷ y → (h ≡ k) × (l ≡ m) × (x ≡ y)
one_split [] [] l m x y p q a b e = (refl, cc, cc)
one_split [] (c ∷ k) l m x y p q a b e = let same : l ≡ c = cc in absurd (omega (arith, q.0))
one_split (c ∷ h) [] l m x y p q a b e = let same : c ≡ m = cc in absurd (omega (arith, p.0))
one_split (c ∷ h) (d ∷ k) l m x y p q a b e =
    let head : c ≡ d = cc in
    let r = one_split h k l m x y p.1 q.1 a b cc in
    (cc, r.1, r.2)

-- what stands behind the last byte
rejoined : (a x high : List ℕ) (last : ℕ) → a ≡ high ++ last ∷ [] → a ++ x ≡ high ++ last ∷ x
rejoined a x high last e = ap (λ (ys : List ℕ). ys ++ x) e ∙ append_assoc high (last ∷ []) x

-- bytes begin with one chain at most
pub one_chain : (a b x y : List ℕ) → IsChain a → IsChain b → a ++ x ≡ b ++ y → (a ≡ b) × (x ≡ y)
one_chain a b x y g k e =
    let parts = one_split g.high k.high g.last k.last x y (recursion_from_All HasMore g.high g.more) (recursion_from_All HasMore k.high k.more) g.ends k.ends (sym (rejoined a x g.high g.last g.bytes_are) ∙ (e ∙ rejoined b y k.high k.last k.bytes_are)) in
    let highs : g.high ≡ k.high = parts.0 in
    let lasts : g.last ≡ k.last = parts.1 in
    let bytes : a ≡ b = g.bytes_are ∙ (ap (λ (hs : List ℕ). hs ++ g.last ∷ []) highs ∙ (ap (λ z. k.high ++ z ∷ []) lasts ∙ sym k.bytes_are)) in
    (bytes, parts.2)

-- bytes with a chain in front have an end
pub has_end : (code text rest : List ℕ) → IsChain text → code ≡ text ++ rest → HasNoEnd code → ⊥
has_end code text rest g e none =
    let whole = e ∙ rejoined text rest g.high g.last g.bytes_are in
    let at_end = ap (λ (ys : List ℕ). get_or ys (length g.high) 0) whole ∙ get_or_at g.high g.last rest 0 (length g.high) refl in
    let within : length g.high < length code = omega (arith, ap length whole, length-append g.high (g.last ∷ rest)) in
    omega (arith, g.ends, at_end, none (length g.high) 0 within)

-- a chain has a byte
pub some_byte : (text : List ℕ) → IsChain text → 0 < length text
some_byte text g = omega (arith, ap length g.bytes_are, length_push g.high g.last)

-- the bytes up to the first without bit 7 are a chain
pub chain_at : (bytes : List ℕ) (i : ℕ) → i < length bytes → All HasMore (take i bytes) → get_or bytes i 0 < 128 → IsChain (take (i + 1) bytes)
chain_at bytes i within more ends = record {
  high = take i bytes;
  last = get_or bytes i 0;
  bytes_are = take_more bytes i 0 within;
  more = more;
  ends = ends;
}

-- a number that has passed a bound passes it with more digits
pub joined_below : (digit base n bound : ℕ) → 0 < base → min (digit + base * min n bound) bound ≡ min (digit + base * n) bound
joined_below digit base n bound some =
    elim (ltb n bound) as (λ t. ltb n bound ≡ t → min (digit + base * min n bound) bound ≡ min (digit + base * n) bound) [
      | true ↦ λ e.
          let small : min n bound ≡ n = grind (arith, nat_tests) in
          ap (λ m. min (digit + base * m) bound) small
      | false ↦ λ e.
          let big : bound ≤ n = grind (arith, nat_tests) in
          let at_bound : min n bound ≡ bound = omega arith in
          let more = mul-le-mul_left base big in
          let one : 1 * bound ≤ base * bound = mul-le-mul_right bound some in
          ap (λ m. min (digit + base * m) bound) at_bound ∙ omega arith
    ] refl

pub number_more : (place base : ℕ) (bytes : List ℕ) (i : ℕ) → i < length bytes → number_of place base (drop i bytes) ≡ get_or bytes i 0 / place % base + base * number_of place base (drop (i + 1) bytes)
number_more place base bytes i within = at_drop_more (number_of place base) bytes i 0 within

-- two steps that stop at a bound are one
pub joined_twice : (digit base high d b product sum bound : ℕ) → d ≡ digit → b ≡ base → product ≡ min (high * b) bound → sum ≡ min (product + d) bound → sum ≡ min (digit + base * high) bound
joined_twice digit base high d b product sum bound p q r s =
    let turned : high * b ≡ base * high = ap (λ m. high * m) q ∙ mul_comm high base in
    omega arith

-- one more byte with bit 7
pub more_again : (bytes : List ℕ) (i : ℕ) → i < length bytes → All HasMore (take i bytes) → 128 ≤ get_or bytes i 0 → All HasMore (take (i + 1) bytes)
more_again bytes i within more has =
    subst (All HasMore) (sym (take_more bytes i 0 within)) (All-push HasMore (take i bytes) (get_or bytes i 0) more has)

pub more_in_all : (bytes : List ℕ) (i : ℕ) → length bytes ≤ i → All HasMore (take i bytes) → HasNoEnd bytes
more_in_all bytes i past more = subst (All HasMore) (take_all i bytes past) more

-- the two parts of a split make the whole
pub parted : (bytes front back : List ℕ) (i : ℕ) → front ≡ take i bytes → back ≡ drop i bytes → bytes ≡ front ++ back
parted bytes front back i f b = sym (take-append-drop i bytes) ∙ cc
