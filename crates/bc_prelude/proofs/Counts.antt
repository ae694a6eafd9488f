-- How many lines a table has at most.
use Rattle.std.proofs.Common.{◌≡◌, ℕ, suc, ◌+◌, ◌*◌, ◌/◌, ◌%◌, ◌<◌, ◌≤◌, Bool, true, false, List, [], ◌∷◌, length, refl, arith, if◌then◌else◌, All}
use Rattle.std.specs.Prelude.{nat_lt}
use Rattle.std.specs.List.{AllByRecursion}
use Rattle.std.proofs.lemmas.Bool.{ltb-true}
use Rattle.std.proofs.lemmas.List.Elements.{recursion_from_All}
use Rattle.bc_prelude.specs.Lines.{Entry, short_entry, long_entry, entries_of, lines_together}

abbrev AreBytes : List ℕ → Type 0
AreBytes table = AllByRecursion (λ byte. byte < 256) table

shorter : (first rest size : ℕ) → first < 128 → rest ≤ 1024 * size → first / 32 + rest ≤ 1024 * (1 + size)
shorter first rest size lt le = omega arith

longer : (first second rest size : ℕ) → second < 256 → rest ≤ 1024 * size → 256 * (first / 16 % 8) + second + rest ≤ 1024 * (2 + size)
longer first second rest size lt le = omega arith

last_entry : (b : Bool) (first : ℕ) → nat_lt first 128 ≡ b → lines_together (if b then short_entry first ∷ [] else []) ≤ 1024 * 1
last_entry true first e = let lt = ltb-true first 128 e in omega (arith, lt)
last_entry false first e = omega arith

next_entry : (b : Bool) (first second : ℕ) (front behind : List Entry) (n : ℕ) → nat_lt first 128 ≡ b → second < 256 → lines_together front ≤ 1024 * suc n → lines_together behind ≤ 1024 * n
    → lines_together (if b then short_entry first ∷ front else long_entry first second ∷ behind) ≤ 1024 * suc (suc n)
next_entry true first second front behind n e small f g =
    let h = shorter first (lines_together front) (suc n) (ltb-true first 128 e) f in omega (arith, h)
next_entry false first second front behind n e small f g =
    let h = longer first second (lines_together behind) n small g in omega (arith, h)

few : (table : List ℕ) → AreBytes table → lines_together (entries_of table) ≤ 1024 * length table
few [] small = omega arith
few (first ∷ []) small = last_entry (nat_lt first 128) first refl
few (first ∷ second ∷ others) small =
    next_entry (nat_lt first 128) first second (entries_of (second ∷ others)) (entries_of others) (length others) refl small.1.0
    (few (second ∷ others) small.1) (few others small.1.1)

-- a byte has no more than 1024 lines
pub few_lines : (table : List ℕ) → All (λ byte. byte < 256) table → lines_together (entries_of table) ≤ 1024 * length table
few_lines table all = few table (recursion_from_All (λ byte. byte < 256) table all)
