-- The outermost code of a merged file may be written, and is short.
use Rattle.std.proofs.Common.{◌≡◌, ℕ, zero, suc, ◌+◌, ◌-◌, ◌*◌, ◌/◌, ◌%◌, ◌<◌, ◌≤◌, Bool, true, false, cond, eqb, List, [], ◌∷◌, ◌++◌, length, map, All, codes, ℤ, refl, sym, ap, subst, ◌∙◌, append_assoc, replicate, arith, length-append}
use Rattle.std.specs.List.{flat_map, zip, AllByRecursion}
use Rattle.std.proofs.lemmas.List.{length-map, append-nil}
use Rattle.std.proofs.lemmas.List.Concat.{flat_map-append}
use Rattle.std.proofs.lemmas.List.Elements.{All-from_recursion, All-nil}
use Rattle.mpy_base.specs.declared.limits.TheConstants.{MAX_CODE_BYTES, MAX_STATE, MAX_HANDLERS, MAX_ARGUMENTS, MAX_TABLE}
use Rattle.mpy_base.specs.Vuint.{vuint, high_groups}
use Rattle.mpy_base.proofs.Groups.{length-high_groups}
use Rattle.bc_scheme.specs.bc_ops.declared.form.Form.{Form}
use Rattle.bc_scheme.specs.bc_ops.declared.form.Form.TheVariants as forms
use Rattle.bc_scheme.specs.bc_ops.declared.instr.Op.TheVariants as ops
use Rattle.bc_scheme.specs.bc_ops.declared.instr.Instr.TheVariants as instrs
use Rattle.bc_scheme.specs.bc_ops.Table.{code_of, form_of, number_form}
use Rattle.bc_scheme.specs.bc_ops.Code.{spelling, number_bytes, TakesNumber}
use Rattle.mpy_writer.specs.bc_labels.declared.labelled.Labelled.{Labelled}
use Rattle.mpy_writer.specs.bc_labels.declared.labelled.Labelled.TheVariants as labels
use Rattle.mpy_writer.specs.bc_labels.Labels.{is_jump}
use Rattle.mpy_writer.specs.bc_labels.Places.{item_at, width_at, offset}
use Rattle.mpy_writer.specs.bc_labels.Choice.{instr_of, instrs_to, instrs_of, IsTooFar}
use Rattle.bc_verify.specs.bc_prelude.declared.signature.Signature.{Signature}
use Rattle.bc_verify.specs.bc_prelude.Signature as signatures
use Rattle.bc_verify.specs.bc_prelude.Size as sizes
use Rattle.bc_verify.specs.bc_prelude.Names as names
use Rattle.bc_verify.specs.bc_prelude.Lines.{table_of}
use Rattle.bc_verify.proofs.bc_prelude_lemmas.Written.{signature_last, size_last}
use Rattle.mpy_writer.specs.mpy_tree.declared.module.Item.{Item}
use Rattle.mpy_writer.specs.mpy_tree.declared.module.Item.TheVariants as items
use Rattle.mpy_writer.specs.mpy_tree.declared.module.Code.{Code, Code-F, out-Code, out-roll-Code}
use Rattle.mpy_writer.specs.mpy_tree.Canonical.{changes, offsets}
use Rattle.mpy_writer.specs.declared.tables.Tables.{Tables}
use Rattle.mpy_writer.specs.declared.fault.WriteFault.{WriteFault}
use Rattle.mpy_writer.specs.declared.fault.WriteFault.TheVariants.{TooManyNames, TooFar, TooBig}
use Rattle.mpy_writer.specs.Tables.{text_number}
use Rattle.mpy_writer.specs.Writable.{IsText, IsNumberedItem, NeverFall, IsNumberedCode}
use Rattle.mpy_writer.specs.File.{item_of, labelled_from, labelled, signature_of, indexes_of, lines_of, IsOwn, IsBig, IsCodeFault}
use Rattle.mpy_writer.proofs.Lists.{together}
use Rattle.mpy_writer.proofs.Samples.{text_by, pops, loads_none, returns_value}
use Rattle.mpy_merge.specs.Merged.{calls, outer_items, outer_code}

-- its items
-- =========

makes : form_of (code_of ops.MakeFunction) ≡ forms.Number ops.MakeFunction
unfolding form_of number_form
makes = refl

called : form_of (code_of ops.CallFunction) ≡ forms.Call ops.CallFunction
unfolding form_of number_form
called = refl

making : (count at : ℕ) → at < 1000 → IsNumberedItem count (items.Plain (instrs.Num ops.MakeFunction at))
making count at lt = (tt, subst (λ (f : Form). TakesNumber f ops.MakeFunction at) (sym makes) (refl, omega (arith, lt)))

calling : (count : ℕ) → IsNumberedItem count (items.Plain (instrs.Num ops.CallFunction 0))
calling count = (tt, subst (λ (f : Form). TakesNumber f ops.CallFunction 0) (sym called) (refl, omega arith))

calls_fine : (count at n : ℕ) → at + n ≤ 1000 → AllByRecursion (IsNumberedItem count) (calls at n)
calls_fine count at zero le = tt
calls_fine count at (suc n) le = (making count at (omega (arith, le)), (calling count, ((tt, pops), calls_fine count (suc at) n (omega (arith, le)))))

items_fine : (count n : ℕ) → n ≤ 1000 → AllByRecursion (IsNumberedItem count) (outer_items n)
items_fine count n le = together (IsNumberedItem count) (calls 0 n) _ (calls_fine count 0 n (omega (arith, le))) ((tt, loads_none), ((tt, returns_value), tt))

count_calls : (at n : ℕ) → length (calls at n) ≡ 3 * n
count_calls at zero = refl
count_calls at (suc n) = omega (arith, count_calls (suc at) n)

count_items : (n : ℕ) → length (outer_items n) ≡ 3 * n + 2
count_items n = omega (arith, length-append (calls 0 n) (items.Plain (instrs.Plain ops.LoadConstNone) ∷ items.Plain (instrs.Plain ops.ReturnValue) ∷ []), count_calls 0 n)

-- the code
-- ========

abbrev pub fields : ℕ → Code-F Code
fields n = record {
  name = codes "<module>";
  args = [];
  defaults = 0;
  n_state = 1;
  n_exc = 0;
  instrs = outer_items n;
  lines = map (λ _. 1) (outer_items n);
  children = [];
}

pub opened : (n : ℕ) → out-Code (outer_code n) ≡ fields n
opened n = out-roll-Code (fields n)

pub name_fine : IsText (codes "<module>")
name_fine = text_by (codes "<module>") refl (omega arith)

on_one : (xs : List Item) → NeverFall 1 (map (λ _. 1) xs)
on_one [] = tt
on_one (x ∷ xs) = (omega arith, on_one xs)

pub outer_numbered : (n : ℕ) → n ≤ 1000 → IsNumberedCode (outer_code n)
outer_numbered n le =
    let e = sym (opened n) in
    record {
      name = subst (λ (z : Code-F Code). IsText z.name) e name_fine;
      args = subst (λ (z : Code-F Code). All IsText z.args) e (All-nil IsText);
      few_args = subst (λ (z : Code-F Code). length z.args ≤ MAX_ARGUMENTS) e (omega arith);
      defaults = subst (λ (z : Code-F Code). z.defaults ≤ length z.args) e (omega arith);
      some_state = subst (λ (z : Code-F Code). 1 ≤ z.n_state) e (omega arith);
      few_state = subst (λ (z : Code-F Code). z.n_state ≤ MAX_STATE) e (omega arith);
      few_handlers = subst (λ (z : Code-F Code). z.n_exc ≤ MAX_HANDLERS) e (omega arith);
      instrs = subst (λ (z : Code-F Code). All (IsNumberedItem (length z.instrs)) z.instrs) e (All-from_recursion (IsNumberedItem (length (outer_items n))) (outer_items n) (items_fine (length (outer_items n)) n le));
      a_line_each = subst (λ (z : Code-F Code). length z.lines ≡ length z.instrs) e (length-map (outer_items n) (λ _. 1));
      lines = subst (λ (z : Code-F Code). NeverFall 1 z.lines) e (on_one (outer_items n));
      few_children = subst (λ (z : Code-F Code). length z.children ≤ MAX_TABLE) e (omega arith);
    }

-- its bytes
-- =========

-- the item has no offset and takes three bytes at most
abbrev IsBrief : Labelled → Type 0
IsBrief (labels.At label) = Unit {0}
IsBrief (labels.Plain instr) = length (spelling instr) ≤ 3
IsBrief (labels.Jump op label) = ⊥
IsBrief (labels.Unwind label byte) = ⊥

two_bytes : (n : ℕ) → n < 1000 → length (vuint n) ≤ 2
unfolding vuint
two_bytes n lt =
    let none : n / 128 / 128 ≡ 0 = omega arith in
    let rest : length (high_groups 4 (n / 128)) ≤ 1 = by (eqb (n / 128) 0) (high_groups 3 (n / 128 / 128)) (ap (high_groups 3) none) in
    omega (arith, rest, length-append (high_groups 4 (n / 128)) (n % 128 ∷ [])) where
      by : (b : Bool) (xs : List ℕ) → xs ≡ [] → length (cond b [] (xs ++ (128 + n / 128 % 128) ∷ [])) ≤ 1
      by true xs e = omega arith
      by false xs e = omega (arith, length-append xs ((128 + n / 128 % 128) ∷ []), ap length e)

made_brief : (at : ℕ) → at < 1000 → IsBrief (labels.Plain (instrs.Num ops.MakeFunction at))
made_brief at lt =
    subst (λ (f : Form). length (number_bytes f (code_of ops.MakeFunction) at) ≤ 3) (sym makes) (let two = two_bytes at lt in omega (arith, two))

call_brief : IsBrief (labels.Plain (instrs.Num ops.CallFunction 0))
call_brief =
    subst (λ (f : Form). length (number_bytes f (code_of ops.CallFunction) 0) ≤ 3) (sym called) (let two = two_bytes 0 (omega arith) in omega (arith, two))

module _ (tables : Tables) where
  abbrev IsBriefItem : Item → Type 0
  IsBriefItem x = IsBrief (item_of tables x)

  calls_brief : (at n : ℕ) → at + n ≤ 1000 → AllByRecursion IsBriefItem (calls at n)
  calls_brief at zero le = tt
  calls_brief at (suc n) le = (made_brief at (omega (arith, le)), (call_brief, (omega arith, calls_brief (suc at) n (omega (arith, le)))))

  items_brief : (n : ℕ) → n ≤ 1000 → AllByRecursion IsBriefItem (outer_items n)
  items_brief n le = together IsBriefItem (calls 0 n) _ (calls_brief 0 n (omega (arith, le))) (omega arith, (omega arith, tt))

  all_brief : (at : ℕ) (xs : List Item) → AllByRecursion IsBriefItem xs → AllByRecursion IsBrief (labelled_from tables at xs)
  all_brief at [] h = tt
  all_brief at (x ∷ xs) h = (tt, (h.0, all_brief (at + 1) xs h.1))

  twice : (at : ℕ) (xs : List Item) → length (labelled_from tables at xs) ≤ 2 * length xs
  twice at [] = omega arith
  twice at (x ∷ xs) = omega (arith, twice (at + 1) xs)

brief_at : (xs : List Labelled) (i : ℕ) → AllByRecursion IsBrief xs → IsBrief (item_at xs i)
brief_at [] i h = tt
brief_at (x ∷ xs) zero h = h.0
brief_at (x ∷ xs) (suc i) h = brief_at xs i h.1

no_jump : (x : Labelled) → IsBrief x → is_jump x ≡ true → ⊥
no_jump (labels.At label) h e = cc
no_jump (labels.Plain instr) h e = cc
no_jump (labels.Jump op label) h e = absurd h
no_jump (labels.Unwind label byte) h e = absurd h

one_brief : (x : Labelled) (o : ℤ) (wide : Bool) → IsBrief x → length (flat_map spelling (instr_of x o wide)) ≤ 3
one_brief (labels.At label) o wide h = omega arith
one_brief (labels.Plain instr) o wide h = omega (arith, h, length-append (spelling instr) [])
one_brief (labels.Jump op label) o wide h = absurd h
one_brief (labels.Unwind label byte) o wide h = absurd h

bytes_brief : (xs : List Labelled) (widths : List Bool) → AllByRecursion IsBrief xs → (n : ℕ) → length (flat_map spelling (instrs_to xs widths n)) ≤ 3 * n
bytes_brief xs widths h zero = omega arith
bytes_brief xs widths h (suc n) =
    let more = instr_of (item_at xs n) (offset xs widths n) (width_at widths n) in
    let one = one_brief (item_at xs n) (offset xs widths n) (width_at widths n) (brief_at xs n h) in
    let parts = ap length (flat_map-append spelling (instrs_to xs widths n) more) ∙ length-append (flat_map spelling (instrs_to xs widths n)) (flat_map spelling more) in
    omega (arith, parts, one, bytes_brief xs widths h n)

module _ (tables : Tables) (n : ℕ) (le : n ≤ 1000) where
  outer_brief : AllByRecursion IsBrief (labelled tables (outer_code n))
  outer_brief = subst (λ (z : Code-F Code). AllByRecursion IsBrief (labelled_from tables 0 z.instrs)) (sym (opened n)) (all_brief tables 0 (outer_items n) (items_brief tables n le))

  outer_count : length (labelled tables (outer_code n)) ≤ 6 * n + 4
  outer_count =
      subst (λ (z : Code-F Code). length (labelled_from tables 0 z.instrs) ≤ 6 * n + 4) (sym (opened n))
      (let double = twice tables 0 (outer_items n) in let count = count_items n in omega (arith, double, count))

  pub outer_near : IsTooFar (labelled tables (outer_code n)) → ⊥
  outer_near far = no_jump (item_at (labelled tables (outer_code n)) far.at) (brief_at (labelled tables (outer_code n)) far.at outer_brief) far.jumps

  no_changes : (os : List ℕ) (xs : List Item) → changes 1 (zip os (map (λ _. 1) xs)) ≡ []
  no_changes [] [] = refl
  no_changes [] (x ∷ xs) = refl
  no_changes (o ∷ os) [] = refl
  no_changes (o ∷ os) (x ∷ xs) = no_changes os xs

  small_number : (k : ℕ) → length (vuint k) ≤ 5
  unfolding vuint
  small_number k = omega (arith, length-append (high_groups 4 (k / 128)) (k % 128 ∷ []), length-high_groups 4 (k / 128))

  abbrev signature_by : Code-F Code → Signature
  signature_by z = record { n_state = z.n_state; n_exc = z.n_exc; flags = 0; args = length z.args; kwonly = 0; defaults = z.defaults }

  signed : length (signatures.spelling (signature_of (outer_code n))) ≡ 1
  signed = ap (λ (z : Code-F Code). length (signatures.spelling (signature_by z))) (opened n) ∙ ap length (signature_last 0 0 0 0 0 (omega arith))

  named : length (names.spelling (indexes_of tables (outer_code n))) ≤ 5
  named =
      subst (λ (z : Code-F Code). length (names.spelling (map (text_number tables) (z.name ∷ z.args))) ≤ 5) (sym (opened n))
      (let k = text_number tables (codes "<module>") in omega (arith, length-append (vuint k) [], small_number k))

  pub outer_own_short : (own : List ℕ) → IsOwn tables (outer_code n) own → length own ≤ MAX_CODE_BYTES
  outer_own_short own is =
      let all = labelled tables (outer_code n) in
      let made = instrs_of all is.layout.widths in
      let sig = signatures.spelling (signature_of (outer_code n)) in
      let info = names.spelling (indexes_of tables (outer_code n)) in
      let lines = lines_of made (out-Code (outer_code n)).lines in
      let none : lines ≡ [] = ap (λ (z : Code-F Code). lines_of made z.lines) (opened n) ∙ ap table_of (no_changes (offsets 0 made) (outer_items n)) in
      let no_lines : length lines ≡ 0 = ap length none in
      let name = named in
      let size = sizes.spelling (length info + length lines) in
      let one : length size ≡ 1 = ap length (size_last (length info + length lines) (omega (arith, name, no_lines))) in
      let bytes = bytes_brief all is.layout.widths outer_brief (length all) in
      let count = outer_count in
      omega (
        arith,
        ap length is.own_is,
        ap length is.layout.bytes_are,
        signed,
        one,
        no_lines,
        name,
        bytes,
        count,
        le,
        length-append sig (size ++ (info ++ (lines ++ is.instructions))),
        length-append size (info ++ (lines ++ is.instructions)),
        length-append info (lines ++ is.instructions),
        length-append lines is.instructions,
      )

  pub outer_not_big : IsBig tables (outer_code n) → ⊥
  outer_not_big big = let short = outer_own_short big.0 big.1 in let past = big.2 in omega (arith, short, past)

-- how it is made
-- ==============

abbrev making_of : ℕ → Item
making_of at = items.Plain (instrs.Num ops.MakeFunction at)

abbrev call_of : Item
call_of = items.Plain (instrs.Num ops.CallFunction 0)

abbrev pop_of : Item
pop_of = items.Plain (instrs.Plain ops.PopTop)

pub calls_more : (old one two three whole : List Item) (at n : ℕ) → at < n → one ≡ old ++ making_of at ∷ [] → two ≡ one ++ call_of ∷ [] → three ≡ two ++ pop_of ∷ [] → old ++ calls at (n - at) ≡ whole → three ++ calls (at + 1) (n - (at + 1)) ≡ whole
calls_more old one two three whole at n lt a b c so_far =
    let left : n - at ≡ suc (n - (at + 1)) = omega arith in
    let next : suc at ≡ at + 1 = omega arith in
    let rest = calls (at + 1) (n - (at + 1)) in
    let opened_calls : calls at (n - at) ≡ making_of at ∷ call_of ∷ pop_of ∷ rest = ap (calls at) left ∙ ap (λ (k : ℕ). making_of at ∷ call_of ∷ pop_of ∷ calls k (n - (at + 1))) next in
    let all : three ≡ ((old ++ making_of at ∷ []) ++ call_of ∷ []) ++ pop_of ∷ [] = c ∙ ap (λ (z : List Item). z ++ pop_of ∷ []) (b ∙ ap (λ (z : List Item). z ++ call_of ∷ []) a) in
    ap (λ (z : List Item). z ++ rest) all
    ∙ (append_assoc ((old ++ making_of at ∷ []) ++ call_of ∷ []) (pop_of ∷ []) rest
    ∙ (append_assoc (old ++ making_of at ∷ []) (call_of ∷ []) (pop_of ∷ rest)
    ∙ (append_assoc old (making_of at ∷ []) (call_of ∷ pop_of ∷ rest) ∙ (ap (λ (z : List Item). old ++ z) (sym opened_calls) ∙ so_far))))

pub calls_end : (old one two : List Item) (at n : ℕ) (x y : Item) → n ≤ at → one ≡ old ++ x ∷ [] → two ≡ one ++ y ∷ [] → old ++ calls at (n - at) ≡ calls 0 n → two ≡ calls 0 n ++ (x ∷ y ∷ [])
calls_end old one two at n x y le a b so_far =
    let none : n - at ≡ 0 = omega arith in
    let whole : old ≡ calls 0 n = sym (append-nil old) ∙ (ap (λ (k : ℕ). old ++ calls at k) (sym none) ∙ so_far) in
    b ∙ (ap (λ (z : List Item). z ++ y ∷ []) (a ∙ ap (λ (z : List Item). z ++ x ∷ []) whole) ∙ append_assoc (calls 0 n) (x ∷ []) (y ∷ []))

pub ones : (xs : List Item) → replicate {A = ℕ} (length xs) 1 ≡ map (λ _. 1) xs
ones [] = refl
ones (x ∷ xs) = ap (λ (z : List ℕ). 1 ∷ z) (ones xs)

-- its bytes are never refused
pub outer_faultless : (tables : Tables) (n : ℕ) → n ≤ 1000 → (f : WriteFault) → IsCodeFault tables (outer_code n) f → ⊥
outer_faultless tables n le TooManyNames h = h
outer_faultless tables n le TooFar h = outer_near tables n le h
outer_faultless tables n le TooBig h = outer_not_big tables n le h
