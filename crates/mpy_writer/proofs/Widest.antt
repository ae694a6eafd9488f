-- No code is longer than with all jumps wide, nor is a file; and what that tells of a module.
use Rattle.std.proofs.Common.{◌≡◌, ℕ, zero, suc, ◌+◌, ◌<◌, ◌≤◌, Bool, true, false, List, [], ◌∷◌, ◌++◌, length, take, get_or, All, ℤ, refl, sym, ap, subst, ◌∙◌, inl, inr, arith, add-one}
use Rattle.std.specs.Prelude.{Contains}
use Rattle.std.specs.List.{flat_map, sum_by, AllZip, AllByRecursion}
use Rattle.std.proofs.lemmas.List.{append-nil, length-append, get_or-map, take_more, take_all}
use Rattle.std.proofs.lemmas.List.Sums.{sum_by-cons}
use Rattle.std.proofs.lemmas.List.Elements.{recursion_from_All}
use Rattle.mpy_base.specs.Vuint.{vuint}
use Rattle.mpy_base.specs.declared.limits.TheConstants.{MAX_CODE_BYTES, MAX_FILE_BYTES}
use Rattle.bc_labels.specs.declared.labelled.Labelled.{Labelled}
use Rattle.bc_labels.specs.declared.labelled.Labelled.TheVariants.{At}
use Rattle.bc_labels.specs.Places.{item_at, width_at, offset}
use Rattle.bc_labels.specs.Choice.{instr_of, instrs_to, instrs_of}
use Rattle.mpy_tree.specs.bc_ops.declared.instr.Instr.{Instr}
use Rattle.mpy_tree.specs.bc_ops.Code.{spelling}
use Rattle.mpy_tree.specs.bc_prelude.Signature as signatures
use Rattle.mpy_tree.specs.bc_prelude.Size as sizes
use Rattle.mpy_tree.specs.bc_prelude.Names as names
use Rattle.mpy_tree.specs.declared.module.Item.{Item}
use Rattle.mpy_tree.specs.declared.module.Item.TheVariants as items
use Rattle.mpy_tree.specs.declared.module.Code.{Code, out-Code}
use Rattle.mpy_tree.specs.declared.module.ModuleCode.{ModuleCode}
use Rattle.mpy_tree.specs.File.{header_of}
use Rattle.mpy_writer.specs.declared.fault.WriteFault.{WriteFault}
use Rattle.mpy_writer.specs.declared.fault.WriteFault.TheVariants.{TooManyNames, TooFar, TooBig}
use Rattle.mpy_writer.specs.declared.tables.Tables.{Tables}
use Rattle.mpy_writer.specs.Codes.{codes}
use Rattle.mpy_writer.specs.Tables.{AreTables, TablesFit}
use Rattle.mpy_writer.specs.File.{item_of, labelled, signature_of, indexes_of, lines_of, IsOwn, has_some, count_bytes, head_bytes, heads, front_bytes, IsWritten, SomeFar, FirstFault}
use Rattle.mpy_writer.specs.Wide.{wide_size, wide_information, wide_own, wide_head, wide_file, FirstLong, here, later, IsLongFile, PassesAt, FitsWide}
use Rattle.mpy_writer.proofs.Faults.{same_tables, not_many}
use Rattle.mpy_writer.proofs.Positions.{double, all, whole, label_is, item_is}
use Rattle.mpy_writer.proofs.Shorter.{shorter_table, shorter_number, shorter_size}

-- ---- instructions

-- an instruction is no longer than the item with a wide offset
abbrev pub Fewer : Tables → Item → Instr → Type 0
Fewer tables x i = length (spelling i) ≤ wide_size tables x

one_instr : (tables : Tables) (x : Item) (z : ℤ) (wide : Bool) → AllZip (Fewer tables) (x ∷ []) (instr_of (item_of tables x) z wide)
one_instr tables (items.Plain instr) z wide = (omega arith, tt)
one_instr tables (items.Named op text) z wide = (omega arith, tt)
one_instr tables (items.Object object) z wide = (omega arith, tt)
one_instr tables (items.Jump op position) z true = (omega arith, tt)
one_instr tables (items.Jump op position) z false = (omega arith, tt)
one_instr tables (items.Unwind position byte) z true = (omega arith, tt)
one_instr tables (items.Unwind position byte) z false = (omega arith, tt)

joined : {A B : Type 0} (R : A → B → Type 0) (xs : List A) (ys : List B) (more : List A) (others : List B) → AllZip R xs ys → AllZip R more others → AllZip R (xs ++ more) (ys ++ others)
joined R [] [] more others h k = k
joined R [] (y ∷ ys) more others h k = absurd h
joined R (x ∷ xs) [] more others h k = absurd h
joined R (x ∷ xs) (y ∷ ys) more others h k = (h.0, joined R xs ys more others h.1 k)

module _ (tables : Tables) (ys : List Item) (ws : List Bool) where
  -- the item at a place
  abbrev at : ℕ → Item
  at p = get_or ys p (items.Unwind 0 0)

  instrs_more : (p : ℕ) → p < length ys → (z : ℤ) × (wide : Bool) × (instrs_to (all tables ys) ws (double (suc p)) ≡ instrs_to (all tables ys) ws (double p) ++ instr_of (item_of tables (at p)) z wide)
  instrs_more p lt =
      let them = all tables ys in
      let o = offset them ws (double p) in
      let w = width_at ws (double p) in
      let z = offset them ws (suc (double p)) in
      let v = width_at ws (suc (double p)) in
      let front = instrs_to them ws (double p) in
      let none : instr_of (item_at them (double p)) o w ≡ [] = ap (λ (it : Labelled). instr_of it o w) (label_is tables ys p lt) in
      let same : item_at them (suc (double p)) ≡ item_of tables (at p) = item_is tables ys p lt ∙ get_or-map (item_of tables) ys p (items.Unwind 0 0) (At 0) lt in (
        z,
        v,
        ap (λ (is : List Instr). (front ++ is) ++ instr_of (item_at them (suc (double p))) z v) none
            ∙ (ap (λ (is : List Instr). is ++ instr_of (item_at them (suc (double p))) z v) (append-nil front) ∙ ap (λ (it : Labelled). front ++ instr_of it z v) same),
      )

  instrs_front : (p : ℕ) → p ≤ length ys → AllZip (Fewer tables) (take p ys) (instrs_to (all tables ys) ws (double p))
  instrs_front zero le = tt
  instrs_front (suc p) le =
      let more = instrs_more p le in
      let next : take (suc p) ys ≡ take p ys ++ at p ∷ [] = ap (λ (n : ℕ). take n ys) (sym (add-one p)) ∙ take_more ys p (items.Unwind 0 0) le in
      let both = joined (Fewer tables) (take p ys) (instrs_to (all tables ys) ws (double p)) (at p ∷ []) (instr_of (item_of tables (at p)) more.0 more.1) (instrs_front p (omega (arith, le))) (one_instr tables (at p) more.0 more.1) in
      subst (λ (xs : List Item). AllZip (Fewer tables) xs (instrs_to (all tables ys) ws (double (suc p)))) (sym next)
      (subst (AllZip (Fewer tables) (take p ys ++ at p ∷ [])) (sym more.2) both)

  instrs_fewer : AllZip (Fewer tables) ys (instrs_of (all tables ys) ws)
  instrs_fewer =
      subst (λ (n : ℕ). AllZip (Fewer tables) ys (instrs_to (all tables ys) ws n)) (sym (whole tables ys))
      (subst (λ (xs : List Item). AllZip (Fewer tables) xs (instrs_to (all tables ys) ws (double (length ys)))) (take_all (length ys) ys (omega arith)) (instrs_front (length ys) (omega arith)))

laid_fewer : (tables : Tables) (xs : List Item) (is : List Instr) → AllZip (Fewer tables) xs is → length (flat_map spelling is) ≤ sum_by (wide_size tables) xs
laid_fewer tables [] [] fewer = omega arith
laid_fewer tables [] (i ∷ is) fewer = absurd fewer
laid_fewer tables (x ∷ xs) [] fewer = absurd fewer
laid_fewer tables (x ∷ xs) (i ∷ is) fewer =
    let one = fewer.0 in
    omega (arith, one, laid_fewer tables xs is fewer.1, length-append (spelling i) (flat_map spelling is), sum_by-cons (wide_size tables) x xs)

pub items_fewer : (tables : Tables) (ys : List Item) (ws : List Bool) → length (flat_map spelling (instrs_of (all tables ys) ws)) ≤ sum_by (wide_size tables) ys
items_fewer tables ys ws = laid_fewer tables ys (instrs_of (all tables ys) ws) (instrs_fewer tables ys ws)

-- ---- codes and files

pub own_fewer : (tables : Tables) (code : Code) (own : List ℕ) → IsOwn tables code own → length own ≤ wide_own tables code
own_fewer tables code own is =
    let xs = (out-Code code).instrs in
    let made = instrs_of (labelled tables code) is.layout.widths in
    let fewer = instrs_fewer tables xs is.layout.widths in
    let sig = signatures.spelling (signature_of code) in
    let info = names.spelling (indexes_of tables code) in
    let lines = lines_of made (out-Code code).lines in
    let size = sizes.spelling (length info + length lines) in
    let table = shorter_table tables xs made (out-Code code).lines 0 0 0 0 1 fewer (omega arith) (omega arith) (omega arith) in
    let field = shorter_size (length info + length lines) (wide_information tables code) (omega (arith, table)) in
    let bytes = items_fewer tables xs is.layout.widths in
    let laid = ap length is.layout.bytes_are in
    let parts = ap length is.own_is in
    omega (arith, parts, length-append sig (size ++ (info ++ (lines ++ is.instructions))), length-append size (info ++ (lines ++ is.instructions)), length-append info (lines ++ is.instructions), length-append lines is.instructions, table, field, bytes, laid)

header_rises : (m n : ℕ) (some : Bool) → m ≤ n → header_of m some ≤ header_of n some
header_rises m n true le = omega (arith, le)
header_rises m n false le = omega (arith, le)

head_fewer : (tables : Tables) (code : Code) (own : List ℕ) → IsOwn tables code own → length (head_bytes code own) ≤ wide_head tables code
head_fewer tables code own is =
    let some = has_some (out-Code code).children in
    let count = count_bytes (out-Code code).children in
    let fewer = own_fewer tables code own is in
    let header = shorter_number (header_of (length own) some) (header_of (wide_own tables code) some) (header_rises (length own) (wide_own tables code) some fewer) in
    omega (arith, fewer, header, length-append (vuint (header_of (length own) some)) (own ++ count), length-append own count)

heads_fewer : (tables : Tables) (cs : List Code) (owns : List (List ℕ)) → AllZip (IsOwn tables) cs owns → length (heads cs owns) ≤ sum_by (wide_head tables) cs
heads_fewer tables [] [] h = omega arith
heads_fewer tables [] (own ∷ owns) h = absurd h
heads_fewer tables (code ∷ cs) [] h = absurd h
heads_fewer tables (code ∷ cs) (own ∷ owns) h =
    omega (arith, head_fewer tables code own h.0, heads_fewer tables cs owns h.1, length-append (head_bytes code own) (heads cs owns), sum_by-cons (wide_head tables) code cs)

file_fewer : (m : ModuleCode) (bytes : List ℕ) (written : IsWritten m bytes) → length bytes ≤ wide_file written.tables m
file_fewer m bytes written =
    let size = ap length written.bytes_are in
    omega (arith, size, length-append (front_bytes written.tables) (heads (codes m) written.owns), heads_fewer written.tables (codes m) written.owns written.are_own)

-- ---- what fits

fitting : {A : Type 0} (P : A → Type 0) (xs : List A) (x : A) → All P xs → Contains xs x → P x
fitting P xs x every there = subst P there.2 (every there.0 x there.1)

pub no_fault : (m : ModuleCode) → FitsWide m → ((tables : Tables) → AreTables m tables → SomeFar tables (codes m) → ⊥) → (fault : WriteFault) → FirstFault m fault → ⊥
no_fault m fits near TooManyNames h = not_many m fits.tables fits.are_tables fits.fit h
no_fault m fits near TooFar h = near h.1.tables h.1.are_tables h.1.far
no_fault m fits near TooBig h =
    elim h.2 [
      | inl code ↦
          let big = code.big in
          let same = same_tables m code.tables fits.tables code.are_tables fits.are_tables in
          let few = fitting (λ (c : Code). wide_own fits.tables c ≤ MAX_CODE_BYTES) (codes m) big.0 fits.codes_fit big.1 in
          let past = big.2.2 in
          omega (arith, few, past, own_fewer code.tables big.0 big.2.0 big.2.1, ap (λ (t : Tables). wide_own t big.0) same)
      | inr file ↦
          let same = same_tables m file.is_written.tables fits.tables file.is_written.are_tables fits.are_tables in
          let few = fits.file in
          let past = file.big in
          omega (arith, few, past, file_fewer m file.bytes file.is_written, ap (λ (t : Tables). wide_file t m) same)
    ]

-- ---- the first that is too long

one_first : (tables : Tables) (cs : List Code) (i j : ℕ) → FirstLong tables cs i → FirstLong tables cs j → i ≡ j
one_first tables [] i j h k = elim h [ ]
one_first tables (c ∷ cs) zero zero (here h) (here k) = refl
one_first tables (c ∷ cs) zero (suc j) (here h) (later k next) = absurd (k h)
one_first tables (c ∷ cs) (suc i) zero (later h rest) (here k) = absurd (h k)
one_first tables (c ∷ cs) (suc i) (suc j) (later h rest) (later k next) = ap suc (one_first tables cs i j rest next)

pub one_place : (m : ModuleCode) (i j : ℕ) → PassesAt m i → PassesAt m j → i ≡ j
one_place m i j (inl h) (inl k) = h.1 ∙ sym k.1
one_place m i j (inl h) (inr k) = absurd (k.0 h.0)
one_place m i j (inr h) (inl k) = absurd (h.0 k.0)
one_place m i j (inr h) (inr k) =
    let same = same_tables m h.1 k.1 h.2 k.2 in
    one_first k.1 (codes m) i j (subst (λ (t : Tables). FirstLong t (codes m) i) same h.3) k.3

none_long : (tables : Tables) (cs : List Code) (n : ℕ) → AllByRecursion (λ code. wide_own tables code ≤ MAX_CODE_BYTES) cs → FirstLong tables cs n → ⊥
none_long tables [] n few h = elim h [ ]
none_long tables (c ∷ cs) zero few (here h) = let le = few.0 in omega (arith, h, le)
none_long tables (c ∷ cs) (suc n) few (later h rest) = none_long tables cs n few.1 rest

pub not_past : (m : ModuleCode) (tables : Tables) → AreTables m tables → TablesFit tables → wide_file tables m ≤ MAX_FILE_BYTES → IsLongFile m → ⊥
not_past m tables are fit few long =
    let same = same_tables m long.tables tables long.are_tables are in
    let few_texts = fit.texts.few in
    let few_objects = fit.objects.few in
    elim long.past [
      | inl texts ↦ omega (arith, texts, few_texts, ap (λ (t : Tables). length t.texts.texts) same)
      | inr others ↦
          elim others [
            | inl objects ↦ omega (arith, objects, few_objects, ap (λ (t : Tables). length t.objects.texts) same)
            | inr file ↦ omega (arith, file, few, ap (λ (t : Tables). wide_file t m) same)
          ]
    ]

pub not_both : (m : ModuleCode) (n : ℕ) → PassesAt m n → FitsWide m → ⊥
not_both m n (inl h) fits = not_past m fits.tables fits.are_tables fits.fit fits.file h.0
not_both m n (inr h) fits =
    let same = same_tables m h.1 fits.tables h.2 fits.are_tables in
    none_long fits.tables (codes m) n (recursion_from_All (λ code. wide_own fits.tables code ≤ MAX_CODE_BYTES) (codes m) fits.codes_fit) (subst (λ (t : Tables). FirstLong t (codes m) n) same h.3)
