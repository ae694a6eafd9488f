-- How the first code that is too long is found.
use Rattle.std.proofs.Common.{◌≡◌, ◌⊎◌, ℕ, zero, suc, ◌+◌, ◌-◌, ◌^◌, ◌<◌, ◌≤◌, min, true, false, List, [], ◌∷◌, ◌++◌, length, drop, get_or, map, All, Option, Some, None, Result, Ok, Err, refl, sym, ap, ap₂, subst, ◌∙◌, inl, inr, append_assoc, arith}
use Rattle.std.specs.Prelude.{IfOk, IfSome, IfNone}
use Rattle.std.specs.List.{zip, flat_map, sum_by, AllByRecursion}
use Rattle.std.proofs.lemmas.Bool.{cases_lt}
use Rattle.std.proofs.lemmas.List.{append-nil, length-append, drop_more, drop_all}
use Rattle.std.proofs.lemmas.List.Sums.{sum_by-cons}
use Rattle.std.proofs.lemmas.List.Elements.{All-push, All-from_recursion, recursion_from_All}
use Rattle.mpy_base.specs.declared.limits.TheConstants.{MAX_CODE_BYTES, MAX_FILE_BYTES}
use Rattle.mpy_base.specs.declared.refused.NoMemory.{NoMemory}
use Rattle.mpy_base.specs.declared.refused.Refused.{Refused}
use Rattle.mpy_base.specs.declared.refused.Refused.TheVariants as refusals
use Rattle.bc_labels.specs.Places.{size_of}
use Rattle.mpy_tree.specs.bc_prelude.Signature as signatures
use Rattle.mpy_tree.specs.bc_prelude.Size as sizes
use Rattle.mpy_tree.specs.bc_prelude.Names as names
use Rattle.mpy_tree.specs.bc_prelude.Lines.{RisesFrom, Rises, table_of}
use Rattle.mpy_tree.specs.declared.module.Item.{Item}
use Rattle.mpy_tree.specs.declared.module.Item.TheVariants as items
use Rattle.mpy_tree.specs.declared.module.Code.{Code, out-Code}
use Rattle.mpy_tree.specs.declared.module.ModuleCode.{ModuleCode}
use Rattle.mpy_tree.specs.Canonical.{changes}
use Rattle.mpy_writer.specs.declared.fault.WriteFault.{WriteFault}
use Rattle.mpy_writer.specs.declared.tables.Tables.{Tables}
use Rattle.mpy_writer.specs.Codes.{codes}
use Rattle.mpy_writer.specs.Codes as used
use Rattle.mpy_writer.specs.File.{item_of, signature_of, indexes_of, front_bytes}
use Rattle.mpy_writer.specs.Outcome.{FaultIs, no_texts, PassesTable}
use Rattle.mpy_writer.specs.Positions.{is_jump}
use Rattle.mpy_writer.specs.Tables.{AreTables, TablesFit, spelled}
use Rattle.mpy_writer.specs.Wide.{wide_size, wide_starts, wide_information, wide_own, head_size, wide_head, wide_file, IsLongFile, FirstLong, here, later, PassesAt, FitsWide, Counts, IsFirst, Judges}
use Rattle.mpy_writer.specs.Writable.{NeverFall}
use Rattle.mpy_writer.proofs.Faults.{all_used, tables_made}
use Rattle.mpy_writer.proofs.LineTables.{rises_changes}
use Rattle.mpy_writer.proofs.Widest.{not_past}

-- ---- where items start

module _ (tables : Tables) where
  pub start_more : (xs : List Item) (i : ℕ) (x : Item) (old new : List ℕ) (at size : ℕ) → i < length xs → x ≡ get_or xs i x → new ≡ old ++ at ∷ [] → size ≡ wide_size tables x
      → old ++ wide_starts tables at (drop i xs) ≡ wide_starts tables 0 xs → new ++ wide_starts tables (at + size) (drop (i + 1) xs) ≡ wide_starts tables 0 xs
  start_more xs i x old new at size lt is more same before =
      let rest = drop (i + 1) xs in
      let next : drop i xs ≡ x ∷ rest = drop_more xs i x lt ∙ ap (λ (y : Item). y ∷ rest) (sym is) in
      ap₂ (λ (a : List ℕ) (n : ℕ). a ++ wide_starts tables (at + n) rest) more same
      ∙ (append_assoc old (at ∷ []) (wide_starts tables (at + wide_size tables x) rest)
      ∙ (ap (λ (ys : List Item). old ++ wide_starts tables at ys) (sym next) ∙ before))

  pub size_more : (xs : List Item) (i : ℕ) (x : Item) (at size : ℕ) → i < length xs → x ≡ get_or xs i x → size ≡ wide_size tables x
      → at + sum_by (wide_size tables) (drop i xs) ≡ sum_by (wide_size tables) xs → at + size + sum_by (wide_size tables) (drop (i + 1) xs) ≡ sum_by (wide_size tables) xs
  size_more xs i x at size lt is same before =
      let rest = drop (i + 1) xs in
      let next : drop i xs ≡ x ∷ rest = drop_more xs i x lt ∙ ap (λ (y : Item). y ∷ rest) (sym is) in
      omega (arith, same, before, ap (sum_by (wide_size tables)) next, sum_by-cons (wide_size tables) x rest)

  pub starts_end : (xs : List Item) (i at : ℕ) (old : List ℕ) → length xs ≤ i → old ++ wide_starts tables at (drop i xs) ≡ wide_starts tables 0 xs → old ≡ wide_starts tables 0 xs
  starts_end xs i at old le before = sym (append-nil old) ∙ (ap (λ (ys : List Item). old ++ wide_starts tables at ys) (sym (drop_all i xs le)) ∙ before)

  pub size_end : (xs : List Item) (i at : ℕ) → length xs ≤ i → at + sum_by (wide_size tables) (drop i xs) ≡ sum_by (wide_size tables) xs → at ≡ sum_by (wide_size tables) xs
  size_end xs i at le before = omega (arith, before, ap (sum_by (wide_size tables)) (drop_all i xs le))

  pub length-starts : (at : ℕ) (xs : List Item) → length (wide_starts tables at xs) ≡ length xs
  length-starts at [] = refl
  length-starts at (x ∷ xs) = ap suc (length-starts (at + wide_size tables x) xs)

  within : (at end : ℕ) (xs : List Item) → at + sum_by (wide_size tables) xs ≤ end → AllByRecursion (λ start. start ≤ end) (wide_starts tables at xs)
  within at end [] le = tt
  within at end (x ∷ xs) le =
      let size = sum_by-cons (wide_size tables) x xs in
      (omega (arith, le), within (at + wide_size tables x) end xs (omega (arith, le, size)))

  pub starts_within : (end : ℕ) (xs : List Item) → sum_by (wide_size tables) xs ≤ end → All (λ start. start ≤ end) (wide_starts tables 0 xs)
  starts_within end xs le = All-from_recursion (λ start. start ≤ end) (wide_starts tables 0 xs) (within 0 end xs (omega (arith, le)))

  rises_from : (passed at line : ℕ) (xs : List Item) (lines : List ℕ) → passed ≤ at → NeverFall line lines → RisesFrom passed line (zip (wide_starts tables at xs) lines)
  rises_from passed at line [] lines le h = tt
  rises_from passed at line (x ∷ xs) [] le h = tt
  rises_from passed at line (x ∷ xs) (l ∷ ls) le h = (le, h.0, rises_from at (at + wide_size tables x) l xs ls (omega arith) h.1)

  pub starts_rise : (xs : List Item) (lines : List ℕ) → NeverFall 1 lines → Rises (changes 1 (zip (wide_starts tables 0 xs) lines))
  starts_rise xs lines h = rises_changes 0 1 (zip (wide_starts tables 0 xs) lines) (rises_from 0 0 1 xs lines (omega arith) h)

-- ---- one item

pub jump_grown : (tables : Tables) (x : Item) → is_jump x ≡ true → size_of (item_of tables x) false + 1 ≡ wide_size tables x
jump_grown tables (items.Plain instr) jumps = cc
jump_grown tables (items.Named op text) jumps = cc
jump_grown tables (items.Object object) jumps = cc
jump_grown tables (items.Jump op position) jumps = omega arith
jump_grown tables (items.Unwind position byte) jumps = omega arith

-- ---- counts

-- three counts together, each sum at most the greatest number
pub counted : (a b c n : ℕ) → n ≡ a + b + c → Counts (min (min (a + b) (2 ^ 64 - 1) + c) (2 ^ 64 - 1)) n
counted a b c n is =
    elim (cases_lt n (2 ^ 64)) [
      | inl few ↦ inl (omega (arith, is, few))
      | inr many ↦ inr (omega (arith, is, many), omega (arith, many))
    ]

pub own_past : (tables : Tables) (code : Code) (size : ℕ) → size ≡ sum_by (wide_size tables) (out-Code code).instrs → MAX_FILE_BYTES < size → Counts size (wide_own tables code)
own_past tables code size is past = inr (past, omega (arith, is, past))

pub own_counted : (tables : Tables) (code : Code) (head info lines more : List ℕ) (size result : ℕ)
    → head ≡ signatures.spelling (signature_of code) ++ sizes.spelling (length info) → info ≡ names.spelling (indexes_of tables code) ++ lines
    → lines ≡ table_of (changes 1 (zip (wide_starts tables 0 (out-Code code).instrs) (out-Code code).lines)) → size ≡ sum_by (wide_size tables) (out-Code code).instrs
    → result ≡ min (min (length head + length info) (2 ^ 64 - 1) + size) (2 ^ 64 - 1) → Counts result (wide_own tables code)
own_counted tables code head info lines more size result heads infos are sizes_are is =
    let names_are = names.spelling (indexes_of tables code) in
    let info_size : length info ≡ wide_information tables code = ap length infos ∙ (length-append names_are lines ∙ ap (λ (z : List ℕ). length names_are + length z) are) in
    let head_is : length head ≡ length (signatures.spelling (signature_of code)) + length (sizes.spelling (wide_information tables code)) =
    ap length heads ∙ (length-append (signatures.spelling (signature_of code)) (sizes.spelling (length info)) ∙ ap (λ (n : ℕ). length (signatures.spelling (signature_of code)) + length (sizes.spelling n)) info_size) in
    subst (λ (n : ℕ). Counts n (wide_own tables code)) (sym is) (counted (length head) (length info) size (wide_own tables code) (omega (arith, info_size, head_is, sizes_are)))

-- as many as they are, where a file goes so far
pub exact : (n count : ℕ) → Counts n count → n ≤ MAX_FILE_BYTES → n ≡ count
exact n count (inl same) le = same
exact n count (inr past) le = let more = past.0 in absurd (omega (arith, more, le))

pub past : (n count : ℕ) → Counts n count → MAX_FILE_BYTES < n → MAX_FILE_BYTES < count
past n count (inl same) more = omega (arith, same, more)
past n count (inr both) more = both.1

pub head_past : (tables : Tables) (code : Code) (own : ℕ) → Counts own (wide_own tables code) → MAX_FILE_BYTES < own → Counts own (wide_head tables code)
head_past tables code own counts more = let also = past own (wide_own tables code) counts more in inr (more, omega (arith, also))

pub head_counted : (tables : Tables) (code : Code) (own size : ℕ) → Counts own (wide_own tables code) → own ≤ MAX_FILE_BYTES → size ≡ head_size code own → Counts size (wide_head tables code)
head_counted tables code own size counts le is = inl (is ∙ ap (head_size code) (exact own (wide_own tables code) counts le))

pub counts_more : (n count m more next : ℕ) → Counts n count → Counts m more → next ≡ min (n + m) (2 ^ 64 - 1) → Counts next (count + more)
counts_more n count m more next (inl a) (inl b) is =
    elim (cases_lt (n + m) (2 ^ 64)) [
      | inl few ↦ inl (omega (arith, a, b, is, few))
      | inr many ↦ inr (omega (arith, is, many), omega (arith, a, b, many))
    ]
counts_more n count m more next (inl a) (inr b) is = let x = b.0 in let y = b.1 in inr (omega (arith, is, x), omega (arith, y))
counts_more n count m more next (inr a) b is = let x = a.0 in let y = a.1 in inr (omega (arith, is, x), omega (arith, y))

-- ---- the first that is too long

first_kept : (tables : Tables) (cs more : List Code) (n : ℕ) → FirstLong tables cs n → FirstLong tables (cs ++ more) n
first_kept tables [] more n h = elim h [ ]
first_kept tables (c ∷ cs) more zero (here h) = here h
first_kept tables (c ∷ cs) more (suc n) (later h rest) = later h (first_kept tables cs more n rest)

first_behind : (tables : Tables) (cs : List Code) (c : Code) → AllByRecursion (λ code. wide_own tables code ≤ MAX_CODE_BYTES) cs → MAX_CODE_BYTES < wide_own tables c → FirstLong tables (cs ++ c ∷ []) (length cs)
first_behind tables [] c few long = here long
first_behind tables (b ∷ cs) c few long = let short = few.0 in later (λ past. omega (arith, past, short)) (first_behind tables cs c few.1 long)

pub first_more : (tables : Tables) (cs : List Code) (c : Code) (long next : Option ℕ) (place own : ℕ) → IsFirst tables cs long → Counts own (wide_own tables c) → place ≡ length cs
    → IfSome long (λ n. next ≡ Some n) → (long ≡ None → MAX_CODE_BYTES < own → next ≡ Some place) → (long ≡ None → own ≤ MAX_CODE_BYTES → next ≡ None) → IsFirst tables (cs ++ c ∷ []) next
first_more tables cs c (Some n) next place own first counts at kept long short = subst (IsFirst tables (cs ++ c ∷ [])) (sym kept) (first_kept tables cs (c ∷ []) n first)
first_more tables cs c None next place own first counts at kept long short =
    elim (cases_lt MAX_CODE_BYTES own) [
      | inl more ↦
          let few = recursion_from_All (λ code. wide_own tables code ≤ MAX_CODE_BYTES) cs first in
          let past_code : MAX_CODE_BYTES < wide_own tables c = elim counts [ inl same ↦ omega (arith, same, more) | inr both ↦ let also = both.1 in omega (arith, also) ] in
          subst (IsFirst tables (cs ++ c ∷ [])) (sym (long refl more ∙ ap (λ (n : ℕ). Some n) at)) (first_behind tables cs c few past_code)
      | inr le ↦
          let same = exact own (wide_own tables c) counts (omega (arith, le)) in
          subst (IsFirst tables (cs ++ c ∷ [])) (sym (short refl le)) (All-push (λ code. wide_own tables code ≤ MAX_CODE_BYTES) cs c first (omega (arith, same, le)))
    ]

pub judged_past : (tables : Tables) (cs : List Code) (front bytes : ℕ) → Counts bytes (front + sum_by (wide_head tables) cs) → MAX_FILE_BYTES < bytes → Judges tables cs front (Some 0)
judged_past tables cs front bytes counts more = inl (past bytes (front + sum_by (wide_head tables) cs) counts more, refl)

pub judged_within : (tables : Tables) (cs : List Code) (front bytes : ℕ) (long : Option ℕ) → Counts bytes (front + sum_by (wide_head tables) cs) → bytes ≤ MAX_FILE_BYTES → IsFirst tables cs long → Judges tables cs front long
judged_within tables cs front bytes long counts le first = let same = exact bytes (front + sum_by (wide_head tables) cs) counts le in inr (omega (arith, same, le), first)

-- ---- of a module

abbrev pub IsJudged : ModuleCode → Option ℕ → Type 0
IsJudged m found = IfSome found (PassesAt m) × IfNone found (FitsWide m)

within_file : (m : ModuleCode) (tables : Tables) (found : Option ℕ) → AreTables m tables → TablesFit tables → wide_file tables m ≤ MAX_FILE_BYTES → IsFirst tables (codes m) found → IsJudged m found
within_file m tables (Some n) are fit le first = (inr (not_past m tables are fit le, tables, are, first), tt)
within_file m tables None are fit le first = (tt, record { tables = tables; are_tables = are; fit = fit; codes_fit = first; file = le })

pub judged : (m : ModuleCode) (tables : Tables) (cs : List Code) (front : ℕ) (found : Option ℕ) → cs ≡ codes m → front ≡ length (front_bytes tables) → AreTables m tables → TablesFit tables → Judges tables cs front found → IsJudged m found
judged m tables cs front found same size are fit (inl h) =
    let long : IsLongFile m = record {
      tables = tables;
      are_tables = are;
      past = let more = h.0 in inr (inr (omega (arith, more, size, ap (sum_by (wide_head tables)) same)));
    } in
    subst (IsJudged m) (sym h.1) (inl (long, refl), tt)
judged m tables cs front found same size are fit (inr h) =
    let le = h.0 in
    within_file m tables found are fit (omega (arith, le, size, ap (sum_by (wide_head tables)) same)) (subst (λ (ds : List Code). IsFirst tables ds found) same h.1)

names_past : (m : ModuleCode) (f : WriteFault) → PassesTable no_texts (used.texts_used m) f ⊎ PassesTable no_texts (map spelled (used.objects_used m)) f → PassesAt m 0
names_past m f h = inl (record { tables = all_used m; are_tables = tables_made m (all_used m) refl refl; past = elim h [ inl texts ↦ inl texts.1 | inr objects ↦ inr (inl objects.1) ] }, refl)

pub fault_past : (m : ModuleCode) (cs : List Code) (e : Refused WriteFault) (f : WriteFault) → cs ≡ codes m → e ≡ refusals.Fault f
    → FaultIs e (λ fault. PassesTable no_texts (m.source ∷ flat_map used.texts_in cs) fault ⊎ PassesTable no_texts (map spelled (flat_map used.objects_in cs)) fault) → PassesAt m 0
fault_past m cs e f same is h =
    let P = λ (ds : List Code) (fault : WriteFault). PassesTable no_texts (m.source ∷ flat_map used.texts_in ds) fault ⊎ PassesTable no_texts (map spelled (flat_map used.objects_in ds)) fault in
    names_past m f (subst (λ (ds : List Code). P ds f) same (subst (λ (r : Refused WriteFault). FaultIs r (P cs)) is h))

-- of the call
pub judged_call : (m : ModuleCode) (tables : Tables) (cs : List Code) (front : ℕ) (r : Result (Option ℕ) NoMemory) → cs ≡ codes m → front ≡ length (front_bytes tables) → AreTables m tables → TablesFit tables → IfOk r (Judges tables cs front)
    → IfOk r (λ found. IfSome found (PassesAt m)) × IfOk r (λ found. IfNone found (FitsWide m))
judged_call m tables cs front (Ok found) same size are fit h = let both = judged m tables cs front found same size are fit h in (both.0, both.1)
judged_call m tables cs front (Err e) same size are fit h = (tt, tt)
