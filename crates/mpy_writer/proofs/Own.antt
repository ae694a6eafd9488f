-- How a code's own bytes are made.
use Rattle.std.proofs.Common.{◌≡◌, ℕ, suc, ◌+◌, ◌<◌, ◌≤◌, Bool, true, false, cond, eqb, List, [], ◌∷◌, ◌++◌, length, drop, get_or, All, refl, sym, ap, ap₂, ◌∙◌, append_assoc, arith}
use Rattle.std.specs.List.{zip, flat_map, AllByRecursion}
use Rattle.std.proofs.lemmas.List.{append-nil, length-append, drop_more, drop_all}
use Rattle.std.proofs.lemmas.List.Elements.{All-from_recursion}
use Rattle.std.proofs.lemmas.Bool.{eq-eqb, ne_eqb}
use Rattle.mpy_tree.specs.bc_ops.declared.instr.Instr.{Instr}
use Rattle.mpy_tree.specs.bc_ops.Code.{spelling}
use Rattle.bc_labels.specs.Choice.{IsLayout, instrs_of}
use Rattle.mpy_tree.specs.bc_prelude.declared.signature.Signature.{Signature}
use Rattle.mpy_tree.specs.bc_prelude.Signature as signatures
use Rattle.mpy_tree.specs.bc_prelude.Size as sizes
use Rattle.mpy_tree.specs.bc_prelude.Names as names
use Rattle.mpy_tree.specs.bc_prelude.Lines.{Rises, table_of}
use Rattle.mpy_base.specs.declared.limits.TheConstants.{MAX_CODE_BYTES}
use Rattle.mpy_tree.specs.declared.module.Code.{Code, out-Code}
use Rattle.mpy_tree.specs.Canonical.{changes, offsets}
use Rattle.mpy_writer.specs.declared.tables.Tables.{Tables}
use Rattle.mpy_writer.specs.Tables.{TablesFit}
use Rattle.mpy_writer.specs.Writable.{IsNumberedCode}
use Rattle.mpy_writer.specs.File.{labelled, signature_of, indexes_of, lines_of, own_bytes, IsOwn, IsBig}
use Rattle.mpy_writer.proofs.Bodies.{instructions}
use Rattle.mpy_writer.proofs.LineTables.{rises_from, rises_changes}

length-offsets : (at : ℕ) (xs : List Instr) → length (offsets at xs) ≡ length xs
length-offsets at [] = refl
length-offsets at (x ∷ xs) = ap suc (length-offsets (at + length (spelling x)) xs)

offsets_within : (at end : ℕ) (xs : List Instr) → at + length (flat_map spelling xs) ≤ end → AllByRecursion (λ o. o ≤ end) (offsets at xs)
offsets_within at end [] le = tt
offsets_within at end (x ∷ xs) le =
    let size = length-append (spelling x) (flat_map spelling xs) in
    (omega (arith, le), offsets_within (at + length (spelling x)) end xs (omega (arith, le, size)))

module _ (tables : Tables) (code : Code) (bytes : List ℕ) (layout : IsLayout (labelled tables code) bytes) where
  abbrev pub made : List Instr
  made = instrs_of (labelled tables code) layout.widths

  -- each instruction has a start and a line
  pub a_start_each : TablesFit tables → IsNumberedCode code → length (offsets 0 made) ≡ length (out-Code code).lines
  a_start_each fit sound = let facts = instructions tables code bytes layout fit sound in length-offsets 0 made ∙ (facts.count ∙ sym sound.a_line_each)

  pub starts_within : (end : ℕ) → length bytes ≤ end → All (λ start. start ≤ end) (offsets 0 made)
  starts_within end le =
      let size = ap length layout.bytes_are in
      All-from_recursion (λ start. start ≤ end) (offsets 0 made) (offsets_within 0 end made (omega (arith, le, size)))

  pub rises : IsNumberedCode code → Rises (changes 1 (zip (offsets 0 made) (out-Code code).lines))
  rises sound = rises_changes 0 1 (zip (offsets 0 made) (out-Code code).lines) (rises_from 0 0 1 made (out-Code code).lines (omega arith) sound.lines)

  pub is_own : (own : List ℕ) → own ≡ own_bytes (signature_of code) (names.spelling (indexes_of tables code)) (lines_of made (out-Code code).lines) bytes → IsOwn tables code own
  is_own own e = record { instructions = bytes; layout = layout; own_is = e }

  -- a code is too long where its instructions are
  pub is_big : MAX_CODE_BYTES < length bytes → IsBig tables code
  is_big past =
      let info = names.spelling (indexes_of tables code) in
      let lines = lines_of made (out-Code code).lines in
      let sig = signatures.spelling (signature_of code) in
      let size = sizes.spelling (length info + length lines) in (
        own_bytes (signature_of code) info lines bytes,
        is_own _ refl,
        omega (arith, past, length-append sig (size ++ (info ++ (lines ++ bytes))), length-append size (info ++ (lines ++ bytes)), length-append info (lines ++ bytes), length-append lines bytes),
      )

-- the parts one after another
pub assembled : (zero_own signed sized informed own info sig names lines bytes : List ℕ) (n : ℕ) → zero_own ≡ [] → signed ≡ zero_own ++ sig → sized ≡ signed ++ sizes.spelling n → n ≡ length info → info ≡ names ++ lines → informed ≡ sized ++ info → own ≡ informed ++ bytes
    → own ≡ sig ++ (sizes.spelling (length names + length lines) ++ (names ++ (lines ++ bytes)))
assembled zero_own signed sized informed own info sig names lines bytes n a b c size parts d e =
    let length_is : n ≡ length names + length lines = size ∙ (ap length parts ∙ length-append names lines) in
    let front : signed ≡ sig = b ∙ ap (λ (z : List ℕ). z ++ sig) a in
    let whole : own ≡ ((sig ++ sizes.spelling (length names + length lines)) ++ (names ++ lines)) ++ bytes =
    e ∙ ap (λ (z : List ℕ). z ++ bytes) (d ∙ ap₂ (λ (x y : List ℕ). x ++ y) (c ∙ ap₂ (λ (x : List ℕ) (k : ℕ). x ++ sizes.spelling k) front length_is) parts) in
    whole ∙ (append_assoc (sig ++ sizes.spelling (length names + length lines)) (names ++ lines) bytes
    ∙ (append_assoc sig (sizes.spelling (length names + length lines)) ((names ++ lines) ++ bytes)
    ∙ ap (λ (z : List ℕ). sig ++ (sizes.spelling (length names + length lines) ++ z)) (append_assoc names lines bytes)))

-- the changes of lines, one instruction after the other
zip_more : (os ls : List ℕ) (i : ℕ) → i < length os → i < length ls → zip (drop i os) (drop i ls) ≡ (get_or os i 0, get_or ls i 0) ∷ zip (drop (i + 1) os) (drop (i + 1) ls)
zip_more os ls i a b = ap₂ (λ (xs ys : List ℕ). zip xs ys) (drop_more os i 0 a) (drop_more ls i 0 b)

pub line_kept : (pairs : List (ℕ × ℕ)) (last : ℕ) (os ls : List ℕ) (i : ℕ) (whole : List (ℕ × ℕ)) → i < length os → i < length ls → get_or ls i 0 ≡ last → pairs ++ changes last (zip (drop i os) (drop i ls)) ≡ whole
    → pairs ++ changes last (zip (drop (i + 1) os) (drop (i + 1) ls)) ≡ whole
line_kept pairs last os ls i whole a b same h =
    let rest = zip (drop (i + 1) os) (drop (i + 1) ls) in
    let test : eqb (get_or ls i 0) last ≡ true = eq-eqb (get_or ls i 0) last same in
    sym (ap (λ (z : List (ℕ × ℕ)). pairs ++ changes last z) (zip_more os ls i a b)
    ∙ ap (λ (t : Bool). pairs ++ cond t (changes last rest) ((get_or os i 0, get_or ls i 0) ∷ changes (get_or ls i 0) rest)) test) ∙ h

pub line_changed : (pairs more : List (ℕ × ℕ)) (last line o : ℕ) (os ls : List ℕ) (i : ℕ) (whole : List (ℕ × ℕ)) → i < length os → i < length ls → line ≡ get_or ls i 0 → o ≡ get_or os i 0 → (line ≡ last → ⊥) → more ≡ pairs ++ (o, line) ∷ []
    → pairs ++ changes last (zip (drop i os) (drop i ls)) ≡ whole → more ++ changes line (zip (drop (i + 1) os) (drop (i + 1) ls)) ≡ whole
line_changed pairs more last line o os ls i whole a b is at apart e h =
    let rest = zip (drop (i + 1) os) (drop (i + 1) ls) in
    let test : eqb (get_or ls i 0) last ≡ false = ne_eqb (get_or ls i 0) last (λ same. apart (is ∙ same)) in
    let pair : (o, line) ∷ [] ≡ (get_or os i 0, get_or ls i 0) ∷ [] = ap₂ (λ (x y : ℕ). (x, y) ∷ []) at is in
    ap (λ (z : List (ℕ × ℕ)). z ++ changes line rest) (e ∙ ap (λ (z : List (ℕ × ℕ)). pairs ++ z) pair)
    ∙ (append_assoc pairs ((get_or os i 0, get_or ls i 0) ∷ []) (changes line rest)
    ∙ (ap (λ (n : ℕ). pairs ++ ((get_or os i 0, get_or ls i 0) ∷ changes n rest)) is
    ∙ (sym (ap (λ (z : List (ℕ × ℕ)). pairs ++ changes last z) (zip_more os ls i a b)
    ∙ ap (λ (t : Bool). pairs ++ cond t (changes last rest) ((get_or os i 0, get_or ls i 0) ∷ changes (get_or ls i 0) rest)) test) ∙ h)))

pub lines_end : (pairs : List (ℕ × ℕ)) (last : ℕ) (os ls : List ℕ) (i : ℕ) (whole : List (ℕ × ℕ)) → length ls ≤ i → length os ≡ length ls → pairs ++ changes last (zip (drop i os) (drop i ls)) ≡ whole → pairs ≡ whole
lines_end pairs last os ls i whole le same h =
    sym (append-nil pairs) ∙ (ap (λ (z : List (ℕ × ℕ)). pairs ++ changes last z) (sym (ap (λ (z : List ℕ). zip z (drop i ls)) (drop_all i os (omega (arith, le, same))))) ∙ h)

pub made_own : (tables : Tables) (code : Code) (bytes : List ℕ) (layout : IsLayout (labelled tables code) bytes) (no_info named info no_own signed sized informed own view : List ℕ) (pairs : List (ℕ × ℕ)) (signature : Signature) (n : ℕ)
    → no_info ≡ [] → named ≡ no_info ++ names.spelling (indexes_of tables code) → pairs ≡ changes 1 (zip (offsets 0 (made tables code bytes layout)) (out-Code code).lines) → info ≡ named ++ table_of pairs
    → no_own ≡ [] → signature ≡ signature_of code → signed ≡ no_own ++ signatures.spelling signature → sized ≡ signed ++ sizes.spelling n → view ≡ info → n ≡ length view → informed ≡ sized ++ view → own ≡ informed ++ bytes
    → IsOwn tables code own
made_own tables code bytes layout no_info named info no_own signed sized informed own view pairs signature n a b c d e f g h same size i j =
    let parts : info ≡ names.spelling (indexes_of tables code) ++ lines_of (made tables code bytes layout) (out-Code code).lines =
    d ∙ ap₂ (λ (x : List ℕ) (ps : List (ℕ × ℕ)). x ++ table_of ps) (b ∙ ap (λ (z : List ℕ). z ++ names.spelling (indexes_of tables code)) a) c in
    is_own tables code bytes layout own
    (assembled no_own signed sized informed own view (signatures.spelling (signature_of code)) (names.spelling (indexes_of tables code)) (lines_of (made tables code bytes layout) (out-Code code).lines) bytes n
    e (g ∙ ap (λ (s : Signature). no_own ++ signatures.spelling s) f) h size (same ∙ parts) i j)
