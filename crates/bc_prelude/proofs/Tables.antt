-- Line tables: a change passes its bytes and its lines, so a table gives the lines of its pairs.
use Rattle.std.proofs.Common.{◌≡◌, ℕ, zero, suc, ◌+◌, ◌-◌, ◌*◌, ◌/◌, ◌%◌, ◌^◌, ◌<◌, ◌≤◌, List, [], ◌∷◌, ◌++◌, Bool, true, false, cond, ltb, refl, ap, ◌∙◌, arith, append_assoc, All}
use Rattle.std.specs.List.{AllByRecursion}
use Rattle.std.proofs.lemmas.List.Elements.{recursion_from_All}
use Rattle.std.proofs.lemmas.Bool.Decides.{nat_tests}
use Rattle.bc_prelude.specs.Lines.{Entry, short_entry, long_entry, entries_of, lines_passed, line_of, lines_together, is_short, bytes_taken, lines_taken, entry_bytes, change_in, change, table_behind, table_of, RisesFrom, Rises, line_among}
use Rattle.bc_prelude.proofs.Entries.{bytes_behind, lines_behind, with_entry, takes, change_end, change_step}

abbrev entry : ℕ → ℕ → Entry
entry bytes lines = record { bytes = bytes; lines = lines }

same_entry : (b c l m : ℕ) → b ≡ c → l ≡ m → entry b l ≡ entry c m
same_entry b c l m p q = ap (λ (k : ℕ). entry k l) p ∙ ap (entry c) q

-- the entry in front of a table
short_first : (first : ℕ) (others : List ℕ) → ltb first 128 ≡ true → entries_of (first ∷ others) ≡ short_entry first ∷ entries_of others
short_first first [] e = ap (λ t. cond t (short_entry first ∷ []) []) e
short_first first (second ∷ others) e = ap (λ t. cond t (short_entry first ∷ entries_of (second ∷ others)) (long_entry first second ∷ entries_of others)) e

long_first : (first second : ℕ) (others : List ℕ) → ltb first 128 ≡ false → entries_of (first ∷ second ∷ others) ≡ long_entry first second ∷ entries_of others
long_first first second others e = ap (λ t. cond t (short_entry first ∷ entries_of (second ∷ others)) (long_entry first second ∷ entries_of others)) e

-- an entry is read as it was written
entry_read : (short : Bool) (bytes lines : ℕ) (others : List ℕ) → bytes < 32 → lines < 2048 → (short ≡ true → lines < 4) → (short ≡ false → bytes < 16) → entries_of (entry_bytes short bytes lines ++ others) ≡ entry bytes lines ∷ entries_of others
entry_read true bytes lines others b l s t =
    let few : lines < 4 = s refl in
    let first = short_first (32 * lines + bytes) others (grind (arith, nat_tests)) in
    let same = same_entry ((32 * lines + bytes) % 32) bytes ((32 * lines + bytes) / 32) lines (omega arith) (omega arith) in
    first ∙ ap (λ e. e ∷ entries_of others) same
entry_read false bytes lines others b l s t =
    let few : bytes < 16 = t refl in
    let byte = 128 + 16 * (lines / 256) + bytes in
    let first = long_first byte (lines % 256) others (grind (arith, nat_tests)) in
    let same = same_entry (byte % 16) bytes (256 * (byte / 16 % 8) + lines % 256) lines (omega arith) (omega arith) in
    first ∙ ap (λ e. e ∷ entries_of others) same

-- the entry that a change begins with
abbrev first_of : ℕ → ℕ → Entry
first_of bytes lines = entry (bytes_taken bytes) (lines_taken bytes lines)

few_lines : (bytes lines : ℕ) → is_short bytes lines ≡ true → lines_taken bytes lines < 4
few_lines bytes lines e = grind (arith, nat_tests)

few_bytes : (bytes lines : ℕ) → is_short bytes lines ≡ false → bytes_taken bytes < 16
few_bytes bytes lines e = grind (arith, nat_tests)

below : (bytes lines : ℕ) → lines_taken bytes lines < 2048
below bytes lines = grind (arith, nat_tests)

within : (bytes lines : ℕ) → lines_taken bytes lines ≤ lines
within bytes lines = grind (arith, nat_tests)

no_lines : (bytes lines : ℕ) → bytes_taken bytes < bytes → lines_taken bytes lines ≡ 0
no_lines bytes lines more = grind (arith, nat_tests)

first_read : (bytes lines : ℕ) (others : List ℕ) → entries_of (with_entry bytes lines others) ≡ first_of bytes lines ∷ entries_of others
unfolding with_entry
first_read bytes lines others =
    entry_read (is_short bytes lines) (bytes_taken bytes) (lines_taken bytes lines) others (omega arith) (below bytes lines) (few_lines bytes lines) (few_bytes bytes lines)

with_more : (bytes lines : ℕ) (text others : List ℕ) → with_entry bytes lines text ++ others ≡ with_entry bytes lines (text ++ others)
unfolding with_entry
with_more bytes lines text others = append_assoc (entry_bytes (is_short bytes lines) (bytes_taken bytes) (lines_taken bytes lines)) text others

-- the entries of a change in front of a table
entries_step : (steps bytes lines : ℕ) (others : List ℕ) → 0 < bytes + lines → entries_of (change_in (suc steps) bytes lines ++ others) ≡ first_of bytes lines ∷ entries_of (change_in steps (bytes_behind bytes) (lines_behind bytes lines) ++ others)
entries_step steps bytes lines others some =
    ap (λ (z : List ℕ). entries_of (z ++ others)) (change_step steps bytes lines some) ∙ (ap entries_of (with_more bytes lines (change_in steps (bytes_behind bytes) (lines_behind bytes lines)) others) ∙ first_read bytes lines (change_in steps (bytes_behind bytes) (lines_behind bytes lines) ++ others))

entries_end : (steps bytes lines : ℕ) (others : List ℕ) → bytes + lines ≤ 0 → entries_of (change_in steps bytes lines ++ others) ≡ entries_of others
entries_end steps bytes lines others none = ap (λ (z : List ℕ). entries_of (z ++ others)) (change_end steps bytes lines none)

passed_in_two : (others : ℕ → ℕ) (bytes lines passed risen offset : ℕ) → passed ≤ bytes → risen ≤ lines → (passed < bytes → risen ≡ 0) → cond (ltb offset passed) 0 (risen + cond (ltb (offset - passed) (bytes - passed)) 0 ((lines - risen) + others (offset - passed - (bytes - passed)))) ≡ cond (ltb offset bytes) 0 (lines + others (offset - bytes))
passed_in_two others bytes lines passed risen offset p r none =
    let place : offset - passed - (bytes - passed) ≡ offset - bytes = omega arith in
    let there = ap others place in
    grind (arith, nat_tests)

passed_none : (others : ℕ → ℕ) (bytes lines offset : ℕ) → bytes + lines ≤ 0 → others offset ≡ cond (ltb offset bytes) 0 (lines + others (offset - bytes))
passed_none others bytes lines offset none =
    let place : offset - bytes ≡ offset = omega arith in
    let there = ap others place in
    grind (arith, nat_tests)

-- a change passes its bytes and its lines
passes : (steps bytes lines : ℕ) (others : List ℕ) (offset : ℕ) → bytes + lines ≤ steps → lines_passed (entries_of (change_in steps bytes lines ++ others)) offset ≡ cond (ltb offset bytes) 0 (lines + lines_passed (entries_of others) (offset - bytes))
passes zero bytes lines others offset h =
    ap (λ es. lines_passed es offset) (entries_end zero bytes lines others h) ∙ passed_none (lines_passed (entries_of others)) bytes lines offset h
passes (suc steps) bytes lines others offset h =
    elim (ltb 0 (bytes + lines)) as (λ t. ltb 0 (bytes + lines) ≡ t → lines_passed (entries_of (change_in (suc steps) bytes lines ++ others)) offset ≡ cond (ltb offset bytes) 0 (lines + lines_passed (entries_of others) (offset - bytes))) [
      | true ↦ λ e.
          let some : 0 < bytes + lines = grind (arith, nat_tests) in
          let falls = takes bytes lines some in
          let behind = passes steps (bytes_behind bytes) (lines_behind bytes lines) others (offset - bytes_taken bytes) (omega arith) in
          ap (λ es. lines_passed es offset) (entries_step steps bytes lines others some) ∙ (ap (λ n. cond (ltb offset (bytes_taken bytes)) 0 (lines_taken bytes lines + n)) behind ∙ passed_in_two (lines_passed (entries_of others)) bytes lines (bytes_taken bytes) (lines_taken bytes lines) offset (omega arith) (within bytes lines) (no_lines bytes lines))
      | false ↦ λ e.
          let none : bytes + lines ≤ 0 = grind (arith, nat_tests) in
          ap (λ es. lines_passed es offset) (entries_end (suc steps) bytes lines others none) ∙ passed_none (lines_passed (entries_of others)) bytes lines offset none
    ] refl

-- and its entries have its lines together
together : (steps bytes lines : ℕ) (others : List ℕ) → bytes + lines ≤ steps → lines_together (entries_of (change_in steps bytes lines ++ others)) ≡ lines + lines_together (entries_of others)
together zero bytes lines others h =
    let end = ap lines_together (entries_end zero bytes lines others h) in omega arith
together (suc steps) bytes lines others h =
    elim (ltb 0 (bytes + lines)) as (λ t. ltb 0 (bytes + lines) ≡ t → lines_together (entries_of (change_in (suc steps) bytes lines ++ others)) ≡ lines + lines_together (entries_of others)) [
      | true ↦ λ e.
          let some : 0 < bytes + lines = grind (arith, nat_tests) in
          let falls = takes bytes lines some in
          let behind = together steps (bytes_behind bytes) (lines_behind bytes lines) others (omega arith) in
          let whole = ap lines_together (entries_step steps bytes lines others some) in
          let few = within bytes lines in
          whole ∙ (ap (λ n. lines_taken bytes lines + n) behind ∙ omega arith)
      | false ↦ λ e.
          let none : bytes + lines ≤ 0 = grind (arith, nat_tests) in
          let end = ap lines_together (entries_end (suc steps) bytes lines others none) in omega arith
    ] refl

lines_behind_pair : (offset line : ℕ) (pairs : List (ℕ × ℕ)) (x : ℕ) → RisesFrom offset line pairs → offset ≤ x → line + lines_passed (entries_of (table_behind offset line pairs)) (x - offset) ≡ line_among line pairs x
unfolding change
lines_behind_pair offset line [] x rises h = omega arith
lines_behind_pair offset line (pair ∷ pairs) x rises h =
    let bytes = pair.0 - offset in
    let lines = pair.1 - line in
    let front = passes (bytes + lines) bytes lines (table_behind pair.0 pair.1 pairs) (x - offset) (omega arith) in
    elim (ltb x pair.0) as (λ t. ltb x pair.0 ≡ t → line + lines_passed (entries_of (table_behind offset line (pair ∷ pairs))) (x - offset) ≡ cond t line (line_among pair.1 pairs x)) [
      | true ↦ λ e.
          let before : ltb (x - offset) bytes ≡ true = grind (arith, nat_tests) in
          let given = front ∙ ap (λ t. cond t 0 (lines + lines_passed (entries_of (table_behind pair.0 pair.1 pairs)) (x - offset - bytes))) before in
          omega arith
      | false ↦ λ e.
          let behind : ltb (x - offset) bytes ≡ false = grind (arith, nat_tests) in
          let reached : pair.0 ≤ x = grind (arith, nat_tests) in
          let place : x - offset - bytes ≡ x - pair.0 = omega arith in
          let others = lines_behind_pair pair.0 pair.1 pairs x rises.2 reached in
          let moved = ap (lines_passed (entries_of (table_behind pair.0 pair.1 pairs))) place in
          let given = front ∙ ap (λ t. cond t 0 (lines + lines_passed (entries_of (table_behind pair.0 pair.1 pairs)) (x - offset - bytes))) behind in
          omega arith
    ] refl

pub lines_given : (pairs : List (ℕ × ℕ)) (offset : ℕ) → Rises pairs → line_of (table_of pairs) offset ≡ line_among 1 pairs offset
lines_given pairs offset rises =
    let place : offset ≡ offset - 0 = omega arith in
    ap (λ (n : ℕ). 1 + lines_passed (entries_of (table_behind 0 1 pairs)) n) place ∙ lines_behind_pair 0 1 pairs offset rises (omega arith)

readable_behind : (offset line : ℕ) (pairs : List (ℕ × ℕ)) → RisesFrom offset line pairs → line < 2 ^ 32 → AllByRecursion (λ pair. pair.1 < 2 ^ 32) pairs → line + lines_together (entries_of (table_behind offset line pairs)) < 2 ^ 32
unfolding change
readable_behind offset line [] rises h all = omega arith
readable_behind offset line (pair ∷ pairs) rises h all =
    let bytes = pair.0 - offset in
    let lines = pair.1 - line in
    let front = together (bytes + lines) bytes lines (table_behind pair.0 pair.1 pairs) (omega arith) in
    let others = readable_behind pair.0 pair.1 pairs rises.2 all.0 all.1 in
    omega arith

pub lines_readable : (pairs : List (ℕ × ℕ)) → Rises pairs → All (λ pair. pair.1 < 2 ^ 32) pairs → lines_together (entries_of (table_of pairs)) < 2 ^ 32 - 1
lines_readable pairs rises all =
    let h = readable_behind 0 1 pairs rises (omega arith) (recursion_from_All (λ pair. pair.1 < 2 ^ 32) pairs all) in
    omega arith
