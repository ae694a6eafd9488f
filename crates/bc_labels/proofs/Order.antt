-- Offsets of starts are in the order of their positions.
use Rattle.std.proofs.Common.{◌≡◌, ℕ, zero, suc, ◌+◌, ◌<◌, ◌≤◌, Bool, true, false, List, [], ◌∷◌, length, Some, refl, sym, ap, ◌∙◌, subst, arith}
use Rattle.std.proofs.lemmas.Bool.{leb-true, le-leb, ltb-true, ltb-false}
use Rattle.std.specs.Prelude.{nat_le, nat_lt, slice_get}
use Rattle.std.specs.List.{AllByRecursion}
use Rattle.bc_ops.specs.Listing.{Piece, IsPiece, joined, starts, items_at}
use Rattle.bc_labels.specs.Positions.{CodeList, Listed, position_in, Starts}
use Rattle.bc_labels.proofs.Pieces.{some_is, some_text, later, at_piece, all_spelled}

rises_at : (at : ℕ) (ps : List Piece) → AllByRecursion IsPiece ps → (p q o u : ℕ) → slice_get (starts at ps) p ≡ Some o → slice_get (starts at ps) q ≡ Some u → p < q → o < u
rises_at at [] s p q o u e f lt = cc
rises_at at (x ∷ ps) s zero zero o u e f lt = absurd (omega (arith, lt))
rises_at at (x ∷ ps) s zero (suc q) o u e f lt =
    let h = some_is at o e in
    let l = later (at + length x.text) ps q u f in
    let t = some_text x s.0 in
    omega (arith, h, l, t)
rises_at at (x ∷ ps) s (suc p) zero o u e f lt = absurd (omega (arith, lt))
rises_at at (x ∷ ps) s (suc p) (suc q) o u e f lt = rises_at (at + length x.text) ps s.1 p q o u e f (omega (arith, lt))

same_test : (b c : Bool) → (b ≡ true → c ≡ true) → (c ≡ true → b ≡ true) → b ≡ c
same_test true c f g = sym (f refl)
same_test false true f g = g refl
same_test false false f g = refl

not_lt : (p q : ℕ) → nat_lt p q ≡ false → q ≤ p
not_lt p q e = omega (arith, ltb-false p q e)

offsets_le : (p q a b : ℕ) → p ≤ q → (p < q → a < b) → (p ≡ q → a ≡ b) → a ≤ b
offsets_le p q a b le lt eq = parts (nat_lt p q) refl
  where
    parts : (t : Bool) → nat_lt p q ≡ t → a ≤ b
    parts true h = let k : a < b = lt (ltb-true p q h) in omega (arith, k)
    parts false h = let k : a ≡ b = eq (omega (arith, le, not_lt p q h)) in omega (arith, k)

positions_le : (a b p q : ℕ) → a ≤ b → (q < p → b < a) → p ≤ q
positions_le a b p q le lt = parts (nat_lt q p) refl
  where
    parts : (t : Bool) → nat_lt q p ≡ t → p ≤ q
    parts true h = let k : b < a = lt (ltb-true q p h) in absurd (omega (arith, k, le))
    parts false h = not_lt q p h

pub order : (bytes : List ℕ) (l : CodeList) (a b : ℕ) → Listed bytes l → Starts l.offsets a → Starts l.offsets b → nat_le (position_in l.offsets a) (position_in l.offsets b) ≡ nat_le a b
order bytes l a b ls sa sb =
    let ps = ls.is_list.pieces in
    let sp = all_spelled bytes l ls in
    let p = position_in l.offsets a in
    let q = position_in l.offsets b in
    let ea = at_piece bytes l ls p a sa in
    let eb = at_piece bytes l ls q b sb in
    same_test (nat_le p q) (nat_le a b)
    (λ t. le-leb a b (offsets_le p q a b (leb-true p q t) (rises_at 0 ps sp p q a b ea eb) (λ h. some_is a b (sym ea ∙ (ap (slice_get (starts 0 ps)) h ∙ eb)))))
    (λ t. le-leb p q (positions_le a b p q (leb-true a b t) (rises_at 0 ps sp q p b a eb ea)))

as_many : (at : ℕ) (ss : List ℕ) (ps : List Piece) → length (starts at ps) ≡ length (items_at ss at ps)
as_many at ss [] = refl
as_many at ss (p ∷ ps) = ap suc (as_many (at + length p.text) ss ps)

pub each : (bytes : List ℕ) (l : CodeList) → Listed bytes l → length l.offsets ≡ length l.items
each bytes l ls = ap length ls.offsets_are ∙ (as_many 0 (starts 0 ls.is_list.pieces) ls.is_list.pieces ∙ sym (ap length ls.is_list.items_are))

first_start : (ps : List Piece) → position_in (starts 0 ps) 0 ≡ 0
first_start [] = refl
first_start (p ∷ ps) = refl

pub first : (bytes : List ℕ) (l : CodeList) → Listed bytes l → position_in l.offsets 0 ≡ 0
first bytes l ls = ap (λ (z : List ℕ). position_in z 0) ls.offsets_are ∙ first_start ls.is_list.pieces

begins_at : (ps : List Piece) → 0 < length (joined ps) → Starts (starts 0 ps) 0
begins_at [] h = absurd (omega arith)
begins_at (p ∷ ps) h = refl

pub begins : (bytes : List ℕ) (l : CodeList) → Listed bytes l → 0 < length bytes → Starts l.offsets 0
begins bytes l ls h =
    let n : 0 < length (joined ls.is_list.pieces) = omega (arith, h, ap length ls.is_list.bytes_are) in
    subst (λ (z : List ℕ). Starts z 0) (sym ls.offsets_are) (begins_at ls.is_list.pieces n)
