-- Line tables and numbers that are no longer than others: where bytes and lines are fewer, so is what is written for them.
use Rattle.std.proofs.Common.{◌≡◌, ℕ, zero, suc, ◌+◌, ◌-◌, ◌*◌, ◌/◌, ◌%◌, ◌<◌, ◌≤◌, Bool, true, false, cond, eqb, List, [], ◌∷◌, ◌++◌, length, refl, ap, ap₂, ◌∙◌, inl, inr, arith}
use Rattle.std.specs.List.{zip, AllZip}
use Rattle.std.proofs.lemmas.List.{length-append}
use Rattle.std.proofs.lemmas.Bool.{cases_lt, lt-ltb, le-ltb, eq-eqb, ne_eqb}
use Rattle.std.proofs.lemmas.Bool.Decides.{nat_tests}
use Rattle.mpy_base.specs.Vuint.{high_groups, vuint}
use Rattle.mpy_tree.specs.bc_prelude.Lines.{is_short, bytes_taken, lines_taken, entry_bytes, change, table_behind}
use Rattle.mpy_tree.specs.bc_prelude.Size.{size_in}
use Rattle.mpy_tree.specs.bc_prelude.Size as sizes
use Rattle.mpy_tree.proofs.bc_prelude_lemmas.Entries.{bytes_behind, lines_behind, change_more, change_none}
use Rattle.mpy_tree.specs.bc_ops.declared.instr.Instr.{Instr}
use Rattle.mpy_tree.specs.bc_ops.Code.{spelling}
use Rattle.mpy_tree.specs.declared.module.Item.{Item}
use Rattle.mpy_tree.specs.Canonical.{changes, offsets}
use Rattle.mpy_writer.specs.declared.tables.Tables.{Tables}
use Rattle.mpy_writer.specs.Wide.{wide_size, wide_starts}

-- ---- changes

-- how many bytes are written for a change
abbrev size : ℕ → ℕ → ℕ
size bytes lines = length (change bytes lines)

none : size 0 0 ≡ 0
none = ap length (change_none 0 0 (omega arith))

entry_size : (short : Bool) (bytes lines : ℕ) → length (entry_bytes short bytes lines) ≡ cond short 1 2
entry_size true bytes lines = refl
entry_size false bytes lines = refl

begins : (bytes lines b l : ℕ) (short : Bool) → 0 < bytes + lines → is_short bytes lines ≡ short → bytes_behind bytes ≡ b → lines_behind bytes lines ≡ l
    → size bytes lines ≡ cond short 1 2 + size b l
begins bytes lines b l short some is left rest =
    ap length (change_more bytes lines some)
    ∙ (length-append (entry_bytes (is_short bytes lines) (bytes_taken bytes) (lines_taken bytes lines)) (change (bytes_behind bytes) (lines_behind bytes lines))
    ∙ ap₂ (λ (m n : ℕ). m + n) (entry_size (is_short bytes lines) (bytes_taken bytes) (lines_taken bytes lines) ∙ ap (λ (t : Bool). cond t 1 2) is)
    (ap₂ size left rest))

-- a short entry in front of what is left of the lines
short_first : (bytes lines : ℕ) → 0 < bytes + lines → bytes ≤ 31 → is_short bytes lines ≡ true → size bytes lines ≡ 1 + size 0 (lines - 3)
short_first bytes lines some few is = begins bytes lines 0 (lines - 3) true some is (omega arith) (grind (arith, nat_tests))

long_first : (bytes lines : ℕ) → bytes ≤ 15 → 6 < lines → size bytes lines ≡ 2 + size 0 (lines - 2047)
long_first bytes lines few many = begins bytes lines 0 (lines - 2047) false (omega arith) (grind (arith, nat_tests)) (omega arith) (grind (arith, nat_tests))

-- or in front of what is left of the bytes
bytes_first : (bytes lines : ℕ) → 31 < bytes → size bytes lines ≡ 1 + size (bytes - 31) lines
bytes_first bytes lines many = begins bytes lines (bytes - 31) lines true (omega arith) (grind (arith, nat_tests)) (omega arith) (grind (arith, nat_tests))

few_lines : (bytes lines : ℕ) → lines ≤ 6 → is_short bytes lines ≡ true
few_lines bytes lines few = grind (arith, nat_tests)

many_bytes : (bytes lines : ℕ) → 15 < bytes → is_short bytes lines ≡ true
many_bytes bytes lines many = grind (arith, nat_tests)

-- lines alone: three more cost at most a byte, and never spare one
three_more : (steps lines : ℕ) → lines ≤ steps → (size 0 lines ≤ 1 + size 0 (lines - 3)) × (size 0 (lines - 3) ≤ size 0 lines)
three_more steps zero le = (omega arith, omega arith)
three_more zero (suc lines) le = absurd (omega (arith, le))
three_more (suc steps) (suc m) le =
    let lines = suc m in
    elim (cases_lt 6 lines) [
      | inl many ↦
          let here = long_first 0 lines (omega arith) many in
          elim (cases_lt 9 lines) [
            | inl more ↦
                let there = long_first 0 (lines - 3) (omega arith) (omega (arith, more)) in
                let same : lines - 3 - 2047 ≡ lines - 2047 - 3 = omega arith in
                let moved = ap (size 0) same in
                let rest = three_more steps (lines - 2047) (omega (arith, le)) in
                let a = rest.0 in
                let b = rest.1 in
                (omega (arith, here, there, moved, a), omega (arith, here, there, moved, b))
            | inr few ↦
                let there = short_first 0 (lines - 3) (omega (arith, many)) (omega arith) (few_lines 0 (lines - 3) (omega (arith, few))) in
                let next = short_first 0 (lines - 3 - 3) (omega (arith, many)) (omega arith) (few_lines 0 (lines - 3 - 3) (omega (arith, few))) in
                let end : lines - 3 - 3 - 3 ≡ 0 = omega (arith, few) in
                let last = ap (size 0) end in
                let gone : lines - 2047 ≡ 0 = omega (arith, few) in
                let left = ap (size 0) gone in
                (omega (arith, here, there, next, last, left, none), omega (arith, here, there, next, last, left, none))
          ]
      | inr few ↦
          let here = short_first 0 lines (omega arith) (omega arith) (few_lines 0 lines few) in
          (omega (arith, here), omega (arith, here))
    ]

-- many lines cost less in one entry of two bytes than behind three of them
two_bytes : (lines : ℕ) → 6 < lines → 1 + size 0 (lines - 2047) ≤ size 0 (lines - 3)
two_bytes lines many =
    elim (cases_lt 9 lines) [
      | inl more ↦
          let there = long_first 0 (lines - 3) (omega arith) (omega (arith, more)) in
          let same : lines - 3 - 2047 ≡ lines - 2047 - 3 = omega arith in
          let moved = ap (size 0) same in
          let rest = (three_more (lines - 2047) (lines - 2047) (omega arith)).0 in
          omega (arith, there, moved, rest)
      | inr few ↦
          let there = short_first 0 (lines - 3) (omega (arith, many)) (omega arith) (few_lines 0 (lines - 3) (omega (arith, few))) in
          let gone : lines - 2047 ≡ 0 = omega (arith, few) in
          let left = ap (size 0) gone in
          omega (arith, there, left, none)
    ]

-- few bytes cost at most a byte and what the lines do
one_entry : (bytes lines : ℕ) → bytes ≤ 31 → size bytes lines ≤ 1 + size 0 lines
one_entry bytes zero few =
    elim (cases_lt 0 bytes) [
      | inl some ↦
          let here = short_first bytes 0 (omega (arith, some)) few (few_lines bytes 0 (omega arith)) in
          omega (arith, here)
      | inr nothing ↦ let same : bytes ≡ 0 = omega (arith, nothing) in let here = ap (λ (b : ℕ). size b 0) same in omega (arith, here)
    ]
one_entry bytes (suc m) few =
    let lines = suc m in
    let fewer = (three_more lines lines (omega arith)).1 in
    elim (cases_lt 15 bytes) [
      | inl many ↦
          let here = short_first bytes lines (omega arith) few (many_bytes bytes lines many) in
          omega (arith, here, fewer)
      | inr small ↦
          elim (cases_lt 6 lines) [
            | inl long ↦
                let here = long_first bytes lines small long in
                let two = two_bytes lines long in
                omega (arith, here, two, fewer)
            | inr short ↦
                let here = short_first bytes lines (omega arith) few (few_lines bytes lines short) in
                omega (arith, here, fewer)
          ]
    ]

-- as few bytes as one entry takes
both_few : (bytes more lines : ℕ) → bytes ≤ more → more ≤ 31 → size bytes lines ≤ size more lines
both_few bytes more lines le few =
    elim (cases_lt 0 (bytes + lines)) [
      | inr nothing ↦
          let b : bytes ≡ 0 = omega (arith, nothing) in
          let l : lines ≡ 0 = omega (arith, nothing) in
          let here : size bytes lines ≡ 0 = ap₂ size b l ∙ none in
          omega (arith, here)
      | inl some ↦
          elim (cases_lt 6 lines) [
            | inr short ↦
                let here = short_first bytes lines some (omega (arith, le, few)) (few_lines bytes lines short) in
                let there = short_first more lines (omega (arith, some, le)) few (few_lines more lines short) in
                omega (arith, here, there)
            | inl long ↦
                elim (cases_lt 15 bytes) [
                  | inl many ↦
                      let here = short_first bytes lines some (omega (arith, le, few)) (many_bytes bytes lines many) in
                      let there = short_first more lines (omega (arith, some, le)) few (many_bytes more lines (omega (arith, many, le))) in
                      omega (arith, here, there)
                  | inr small ↦
                      let here = long_first bytes lines small long in
                      elim (cases_lt 15 more) [
                        | inl many ↦
                            let there = short_first more lines (omega (arith, some, le)) few (many_bytes more lines many) in
                            let two = two_bytes lines long in
                            omega (arith, here, there, two)
                        | inr less ↦
                            let there = long_first more lines less long in
                            omega (arith, here, there)
                      ]
                ]
          ]
    ]

-- more bytes never cost less
more_bytes : (steps bytes more lines : ℕ) → more ≤ steps → bytes ≤ more → size bytes lines ≤ size more lines
more_bytes zero bytes more lines within le = both_few bytes more lines le (omega (arith, within))
more_bytes (suc steps) bytes more lines within le =
    elim (cases_lt 31 more) [
      | inr few ↦ both_few bytes more lines le few
      | inl many ↦
          let there = bytes_first more lines many in
          elim (cases_lt 31 bytes) [
            | inl also ↦
                let here = bytes_first bytes lines also in
                let rest = more_bytes steps (bytes - 31) (more - 31) lines (omega (arith, within, many)) (omega (arith, le)) in
                omega (arith, here, there, rest)
            | inr few ↦
                let here = one_entry bytes lines few in
                let rest = more_bytes steps 0 (more - 31) lines (omega (arith, within, many)) (omega arith) in
                omega (arith, here, there, rest)
          ]
    ]

pub shorter_change : (bytes more lines : ℕ) → bytes ≤ more → length (change bytes lines) ≤ length (change more lines)
shorter_change bytes more lines le = more_bytes more bytes more lines (omega arith) le

-- ---- tables

-- a pair more, where its line isn't the one before
one_pair : (t : Bool) (rest wide : List (ℕ × ℕ)) (passed at behind other line l : ℕ) → at - passed ≤ other - behind
    → length (table_behind passed line (changes line rest)) ≤ length (table_behind behind line (changes line wide))
    → length (table_behind at l (changes l rest)) ≤ length (table_behind other l (changes l wide))
    → length (table_behind passed line (cond t (changes line rest) ((at, l) ∷ changes l rest))) ≤ length (table_behind behind line (cond t (changes line wide) ((other, l) ∷ changes l wide)))
one_pair true rest wide passed at behind other line l le same next = same
one_pair false rest wide passed at behind other line l le same next =
    let change_is = shorter_change (at - passed) (other - behind) (l - line) le in
    omega (arith, change_is, next, length-append (change (at - passed) (l - line)) (table_behind at l (changes l rest)), length-append (change (other - behind) (l - line)) (table_behind other l (changes l wide)))

-- a table is no longer where the instructions are no longer
pub shorter_table : (tables : Tables) (xs : List Item) (is : List Instr) (lines : List ℕ) (passed at behind other line : ℕ)
    → AllZip (λ x i. length (spelling i) ≤ wide_size tables x) xs is → at + behind ≤ other + passed → passed ≤ at → behind ≤ other
    → length (table_behind passed line (changes line (zip (offsets at is) lines))) ≤ length (table_behind behind line (changes line (zip (wide_starts tables other xs) lines)))
shorter_table tables [] [] lines passed at behind other line fewer gap a b = omega arith
shorter_table tables [] (i ∷ is) lines passed at behind other line fewer gap a b = absurd fewer
shorter_table tables (x ∷ xs) [] lines passed at behind other line fewer gap a b = absurd fewer
shorter_table tables (x ∷ xs) (i ∷ is) [] passed at behind other line fewer gap a b = omega arith
shorter_table tables (x ∷ xs) (i ∷ is) (l ∷ ls) passed at behind other line fewer gap a b =
    let one = fewer.0 in
    one_pair (eqb l line) (zip (offsets (at + length (spelling i)) is) ls) (zip (wide_starts tables (other + wide_size tables x) xs) ls) passed at behind other line l (omega (arith, gap, a, b))
    (shorter_table tables xs is ls passed (at + length (spelling i)) behind (other + wide_size tables x) line fewer.1 (omega (arith, one, gap)) (omega (arith, a)) (omega (arith, b)))
    (shorter_table tables xs is ls at (at + length (spelling i)) other (other + wide_size tables x) l fewer.1 (omega (arith, one)) (omega arith) (omega arith))

-- ---- numbers

no_groups : (steps n : ℕ) → n ≡ 0 → length (high_groups (suc steps) n) ≡ 0
no_groups steps n none = ap (λ (t : Bool). length (cond t [] (high_groups steps (n / 128) ++ (128 + n % 128) ∷ []))) (eq-eqb n 0 none)

some_groups : (steps n : ℕ) → 0 < n → length (high_groups (suc steps) n) ≡ length (high_groups steps (n / 128)) + 1
some_groups steps n some =
    ap (λ (t : Bool). length (cond t [] (high_groups steps (n / 128) ++ (128 + n % 128) ∷ []))) (ne_eqb n 0 (λ e. omega (arith, e, some)))
    ∙ length-append (high_groups steps (n / 128)) ((128 + n % 128) ∷ [])

groups : (steps m n : ℕ) → m ≤ n → length (high_groups steps m) ≤ length (high_groups steps n)
groups zero m n le = omega arith
groups (suc steps) m n le =
    elim (cases_lt 0 m) [
      | inl some ↦
          let rest = groups steps (m / 128) (n / 128) (omega (arith, le)) in
          omega (arith, rest, some_groups steps m some, some_groups steps n (omega (arith, some, le)))
      | inr nothing ↦ omega (arith, no_groups steps m (omega (arith, nothing)))
    ]

pub shorter_number : (m n : ℕ) → m ≤ n → length (vuint m) ≤ length (vuint n)
unfolding vuint
shorter_number m n le =
    let rest = groups 4 (m / 128) (n / 128) (omega (arith, le)) in
    omega (arith, rest, length-append (high_groups 4 (m / 128)) ((m % 128) ∷ []), length-append (high_groups 4 (n / 128)) ((n % 128) ∷ []))

size_few : (steps n : ℕ) → n < 64 → length (size_in (suc steps) n) ≡ 1
unfolding size_in
size_few steps n few = ap (λ (t : Bool). length (cond t ((2 * (n % 64)) ∷ []) ((128 + 2 * (n % 64)) ∷ size_in steps (n / 64)))) (lt-ltb n 64 few)

size_many : (steps n : ℕ) → 64 ≤ n → length (size_in (suc steps) n) ≡ suc (length (size_in steps (n / 64)))
unfolding size_in
size_many steps n many = ap (λ (t : Bool). length (cond t ((2 * (n % 64)) ∷ []) ((128 + 2 * (n % 64)) ∷ size_in steps (n / 64)))) (le-ltb n 64 many)

size_none : (n : ℕ) → length (size_in zero n) ≡ 1
unfolding size_in
size_none n = refl

some_size : (steps n : ℕ) → 1 ≤ length (size_in steps n)
some_size zero n = omega (arith, size_none n)
some_size (suc steps) n =
    elim (cases_lt n 64) [
      | inl few ↦ omega (arith, size_few steps n few)
      | inr many ↦ omega (arith, size_many steps n many)
    ]

sized : (steps more m n : ℕ) → m ≤ steps → n ≤ more → m ≤ n → length (size_in steps m) ≤ length (size_in more n)
sized zero more m n h k le = omega (arith, size_none m, some_size more n)
sized (suc steps) zero m n h k le = let few : m < 64 = omega (arith, k, le) in omega (arith, size_few steps m few, some_size zero n)
sized (suc steps) (suc more) m n h k le =
    elim (cases_lt m 64) [
      | inl few ↦ omega (arith, size_few steps m few, some_size (suc more) n)
      | inr many ↦
          let here = size_many steps m many in
          let there = size_many more n (omega (arith, many, le)) in
          let rest = sized steps more (m / 64) (n / 64) (omega (arith, h, many)) (omega (arith, k, many, le)) (omega (arith, le)) in
          omega (arith, here, there, rest)
    ]

pub shorter_size : (m n : ℕ) → m ≤ n → length (sizes.spelling m) ≤ length (sizes.spelling n)
unfolding sizes.spelling
shorter_size m n le = sized m n m n (omega arith) (omega arith) le
