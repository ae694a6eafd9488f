-- Parts of texts that are kept piece by piece.
use Rattle.std.proofs.Common.{◌≡◌, ℕ, zero, suc, ◌+◌, ◌-◌, ◌≤◌, List, [], ◌∷◌, ◌++◌, length, take, drop, min, refl, sym, ap, ◌∙◌, arith, append_assoc}
use Rattle.std.specs.List.{flat_map}
use Rattle.std.proofs.lemmas.List.{append-nil, length-take, take_all, take_min, drop_all}
use Rattle.prim_walks.specs.Pens.{Chain, Wrote}

pub take_twice : (n : ℕ) (xs ys : List ℕ) → take n (take n xs ++ ys) ≡ take n (xs ++ ys)
take_twice zero xs ys = refl
take_twice (suc n) [] ys = refl
take_twice (suc n) (x ∷ xs) ys = ap (λ (zs : List ℕ). x ∷ zs) (take_twice n xs ys)

pub drop_both : (k : ℕ) (xs ys : List ℕ) → drop k (xs ++ ys) ≡ drop k xs ++ drop (k - length xs) ys
drop_both zero xs ys = let e : 0 ≡ 0 - length xs = omega arith in ap (λ (k : ℕ). xs ++ drop k ys) e
drop_both (suc k) [] ys = let e : suc k ≡ suc k - 0 = omega arith in ap (λ (j : ℕ). drop j ys) e
drop_both (suc k) (x ∷ xs) ys = let e : k - length xs ≡ suc k - suc (length xs) = omega arith in drop_both k xs ys ∙ ap (λ (j : ℕ). drop k xs ++ drop j ys) e

-- a part that was kept of one text, and then of another behind it
pub kept_then : (n k : ℕ) (kept xs ys : List ℕ) → take n (take n (kept ++ drop k xs) ++ drop (k - length xs) ys) ≡ take n (kept ++ drop k (xs ++ ys))
kept_then n k kept xs ys =
    take_twice n (kept ++ drop k xs) (drop (k - length xs) ys)
    ∙ ap (take n) (append_assoc kept (drop k xs) (drop (k - length xs) ys) ∙ ap (λ (zs : List ℕ). kept ++ zs) (sym (drop_both k xs ys)))

-- nothing more
pub kept_nothing : (n k : ℕ) (kept : List ℕ) → length kept ≤ n → take n (kept ++ drop k []) ≡ kept
kept_nothing n zero kept h = ap (take n) (append-nil kept) ∙ take_all n kept h
kept_nothing n (suc k) kept h = ap (take n) (append-nil kept) ∙ take_all n kept h

pub few_taken : (count : ℕ) (bytes : List ℕ) (n : ℕ) → count ≤ n → length (take count bytes) ≤ n
few_taken count bytes n h = let e = length-take count bytes in omega (arith, e)

-- a piece that is skipped
pub skipped : (n k : ℕ) (kept piece : List ℕ) → length piece ≤ k → length kept ≤ n → kept ≡ take n (kept ++ drop k piece)
skipped n k kept piece far low = sym (ap (λ (ys : List ℕ). take n (kept ++ ys)) (drop_all k piece far) ∙ (ap (take n) (append-nil kept) ∙ take_all n kept low))

taken_behind : (n : ℕ) (xs ys : List ℕ) → take n (xs ++ ys) ≡ take n xs ++ take (n - length xs) ys
taken_behind zero xs ys = let e : 0 ≡ 0 - length xs = omega arith in ap (λ (k : ℕ). take k ys) e
taken_behind (suc n) [] ys = let e : suc n ≡ suc n - 0 = omega arith in ap (λ (k : ℕ). take k ys) e
taken_behind (suc n) (x ∷ xs) ys =
    let e : n - length xs ≡ suc n - suc (length xs) = omega arith in
    ap (λ (zs : List ℕ). x ∷ zs) (taken_behind n xs ys ∙ ap (λ (k : ℕ). take n xs ++ take k ys) e)

-- what there is room for behind the bytes in front of a place
pub taken_room : (n start count : ℕ) (bytes piece : List ℕ) → length bytes ≡ n → start ≤ n → count ≡ min (length piece) (n - start)
    → take n (take start bytes ++ piece) ≡ take start bytes ++ take count piece
taken_room n start count bytes piece room le is =
    let front = length-take start bytes in
    let low : length (take start bytes) ≤ n = omega (arith, front, room, le) in
    let left : n - length (take start bytes) ≡ n - start = omega (arith, front, room, le) in
    let least : min (n - start) (length piece) ≡ count = omega (arith, is) in
    taken_behind n (take start bytes) piece
    ∙ (ap (λ (xs : List ℕ). xs ++ take (n - length (take start bytes)) piece) (take_all n (take start bytes) low)
    ∙ (ap (λ (k : ℕ). take start bytes ++ take k piece) left
    ∙ ap (λ (xs : List ℕ). take start bytes ++ xs) (sym (take_min (n - start) piece) ∙ ap (λ (k : ℕ). take k piece) least)))

module _ {P : Type 0} (Takes : P → List ℕ → P → Type 0) (skip : P → ℕ) (kept : P → List ℕ) (n : ℕ) (few : (pen : P) → length (kept pen) ≤ n)
    (is_skip : (old : P) (piece : List ℕ) (new : P) → Takes old piece new → skip new ≡ skip old - length piece) (is_kept : (old : P) (piece : List ℕ) (new : P) → Takes old piece new → kept new ≡ take n (kept old ++ drop (skip old) piece)) where
  chain_kept : (pieces : List (List ℕ)) (old new : P) → Chain Takes old pieces new → kept new ≡ take n (kept old ++ drop (skip old) (flat_map (λ (piece : List ℕ). piece) pieces))
  chain_kept [] old new h = ap kept h ∙ sym (kept_nothing n (skip old) (kept old) (few old))
  chain_kept (piece ∷ pieces) old new h =
      let rest = flat_map (λ (piece : List ℕ). piece) pieces in
      chain_kept pieces h.mid new h.rest
      ∙ (ap (λ (k : ℕ). take n (kept h.mid ++ drop k rest)) (is_skip old piece h.mid h.taken)
      ∙ (ap (λ (ys : List ℕ). take n (ys ++ drop (skip old - length piece) rest)) (is_kept old piece h.mid h.taken) ∙ kept_then n (skip old) (kept old) piece rest))

  pub wrote_kept : (text : List ℕ) (old new : P) → Wrote Takes old text new → kept new ≡ take n (kept old ++ drop (skip old) text)
  wrote_kept text old new h = chain_kept h.pieces old new h.chain ∙ ap (λ (ys : List ℕ). take n (kept old ++ drop (skip old) ys)) h.whole
