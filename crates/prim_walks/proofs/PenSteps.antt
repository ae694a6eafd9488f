-- What a pen wrote, piece by piece.
use Rattle.std.proofs.Common.{◌≡◌, ◌≢◌, ℕ, zero, suc, ◌+◌, ◌<◌, List, [], ◌∷◌, ◌++◌, Bool, true, false, take, length, refl, ap, ap₂, ◌∙◌, subst, arith, get_or}
use Rattle.std.specs.Prelude.{All, codes, nat_lt, ◌&&◌}
use Rattle.std.specs.List.{flat_map, list_all}
use Rattle.std.proofs.lemmas.List.{append-nil, take_more}
use Rattle.std.proofs.lemmas.List.Concat.{flat_map-append}
use Rattle.prim_walks.specs.Pens.{Chain, Wrote}
use Rattle.prim_walks.specs.Leaves.{separator}

chain_then : {P : Type 0} (Takes : P → List ℕ → P → Type 0) (xs ys : List (List ℕ)) (old mid new : P) → Chain Takes old xs mid → Chain Takes mid ys new → Chain Takes old (xs ++ ys) new
chain_then Takes [] ys old mid new h i = subst (λ p. Chain Takes p ys new) h i
chain_then Takes (x ∷ xs) ys old mid new h i = record { mid = h.mid; taken = h.taken; rest = chain_then Takes xs ys h.mid mid new h.rest i }

module _ {P : Type 0} {Takes : P → List ℕ → P → Type 0} where
  -- nothing, a piece, and one text behind another
  pub wrote_nothing : (pen : P) → Wrote Takes pen [] pen
  wrote_nothing pen = record { pieces = []; chain = refl; whole = refl }

  pub wrote_piece : (old new : P) (piece : List ℕ) → Takes old piece new → Wrote Takes old piece new
  wrote_piece old new piece h = record { pieces = piece ∷ []; chain = record { mid = new; taken = h; rest = refl }; whole = append-nil piece }

  pub wrote_then : {xs ys : List ℕ} {old mid new : P} → Wrote Takes old xs mid → Wrote Takes mid ys new → Wrote Takes old (xs ++ ys) new
  wrote_then {xs} {ys} {old} {mid} {new} h i =
      record {
        pieces = h.pieces ++ i.pieces;
        chain = chain_then Takes h.pieces i.pieces old mid new h.chain i.chain;
        whole = flat_map-append (λ (piece : List ℕ). piece) h.pieces i.pieces ∙ ap₂ (λ (a b : List ℕ). a ++ b) h.whole i.whole;
      }

  pub wrote_as : {xs ys : List ℕ} {old new : P} → Wrote Takes old xs new → xs ≡ ys → Wrote Takes old ys new
  wrote_as {old = old} {new} h e = subst (λ text. Wrote Takes old text new) e h

-- in front of each but the first item
pub separator_is : (at : ℕ) → at ≢ 0 → codes ", " ≡ separator at
separator_is zero ne = absurd (ne refl)
separator_is (suc at) ne = refl

-- one more element of a list that is gone through
pub flat_more : {X : Type 0} (f : X → List ℕ) (xs : List X) (at : ℕ) (d : X) → at < length xs → flat_map f (take (at + 1) xs) ≡ flat_map f (take at xs) ++ f (get_or xs at d)
flat_more f xs at d h =
    ap (flat_map f) (take_more xs at d h) ∙ (flat_map-append f (take at xs) (get_or xs at d ∷ []) ∙ ap (λ (ys : List ℕ). flat_map f (take at xs) ++ ys) (append-nil (f (get_or xs at d))))

-- bytes that were seen to be ASCII
pub ascii_by : (bytes : List ℕ) → list_all (λ b. nat_lt b 128) bytes ≡ true → All (λ b. b < 128) bytes
ascii_by [] h = λ k d lt. absurd (omega arith)
ascii_by (b ∷ bytes) h = λ k. elim k as (λ j. (d : ℕ) → j < length (b ∷ bytes) → get_or (b ∷ bytes) j d < 128) [
  | zero ↦ λ d lt. head (nat_lt b 128) refl h
  | suc j ↦ λ d lt. ascii_by bytes (tail (nat_lt b 128) h) j d (omega arith)
]
  where
    head : (t : Bool) → nat_lt b 128 ≡ t → (t && list_all (λ b. nat_lt b 128) bytes) ≡ true → b < 128
    head true e h = grind arith
    head false e h = absurd cc

    tail : (t : Bool) → (t && list_all (λ b. nat_lt b 128) bytes) ≡ true → list_all (λ b. nat_lt b 128) bytes ≡ true
    tail true h = h
    tail false h = absurd cc
