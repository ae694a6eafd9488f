-- Places in a table of lines.
use Rattle.std.proofs.Common.{◌≡◌, ℕ, ◌+◌, ◌-◌, ◌<◌, ◌≤◌, List, ◌∷◌, length, drop, false, cond, ltb, ap, ◌∙◌, arith}
use Rattle.std.proofs.lemmas.Bool.Decides.{nat_tests}
use Rattle.bc_prelude.specs.Lines.{Entry, entries_of, lines_passed}
use Rattle.bc_prelude.specs.declared.cursor.Place.{Place}
use Rattle.bc_prelude.specs.Cursor.{IsPlace}

abbrev entry : ℕ → ℕ → Entry
entry bytes lines = record { bytes = bytes; lines = lines }

abbrev place_of : ℕ → ℕ → ℕ → Place
place_of at passed line = record { at = at; passed = passed; line = line }

-- an entry that an offset passes
passes : (bytes lines offset : ℕ) (entries : List Entry) → bytes ≤ offset → lines_passed (entry bytes lines ∷ entries) offset ≡ lines + lines_passed entries (offset - bytes)
passes bytes lines offset entries le =
    let test : ltb offset bytes ≡ false = grind (arith, nat_tests) in
    ap (λ b. cond b 0 (lines + lines_passed entries (offset - bytes))) test

pub place_behind : (table : List ℕ) (place : Place) (bytes lines len : ℕ) → IsPlace table place → entries_of (drop place.at table) ≡ entry bytes lines ∷ entries_of (drop (place.at + len) table) → 0 < len → place.at + len ≤ length table → lines ≤ 2047 → IsPlace table (place_of (place.at + len) (place.passed + bytes) (place.line + lines))
place_behind table place bytes lines len w e some within few = record {
  within = within;
  room = omega (arith, w.room, some, few);
  lines = λ offset ahead.
      let others = entries_of (drop (place.at + len) table) in
      let left : (offset - place.passed) - bytes ≡ offset - (place.passed + bytes) = omega (arith, ahead) in
      let here : lines_passed (entries_of (drop place.at table)) (offset - place.passed) ≡ lines + lines_passed others (offset - (place.passed + bytes)) =
      ap (λ es. lines_passed es (offset - place.passed)) e ∙ (passes bytes lines (offset - place.passed) others (omega (arith, ahead)) ∙ ap (λ n. lines + lines_passed others n) left) in
      omega (arith, w.lines offset (omega (arith, ahead)), here);
}
