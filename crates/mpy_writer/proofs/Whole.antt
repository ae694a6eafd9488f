-- The file of a module is canonical, its tables are in the order of first use, and it is read as the module.
use Rattle.std.proofs.Common.{◌≡◌, ℕ, suc, ◌≤◌, List, [], ◌∷◌, ◌++◌, length, map, Option, Some, slice_get, refl, sym, ap, subst, ◌∙◌, inl, inr, append_assoc, arith}
use Rattle.std.specs.Prelude.{Contains, option_and_then}
use Rattle.std.specs.List.{concat, flat_map, AllByRecursion}
use Rattle.std.proofs.lemmas.List.{length-map, map-append}
use Rattle.std.proofs.lemmas.List.Elements.{All-from_recursion, recursion_from_All}
use Rattle.mpy_base.specs.Vuint.{vuint}
use Rattle.mpy_base.specs.declared.limits.TheConstants.{MAX_CODE_BYTES, MAX_DEPTH}
use Rattle.mpy_base.specs.Val.{Val}
use Rattle.mpy_base.proofs.Groups.{vuint_spells}
use Rattle.mpy_tree.specs.bc_prelude.Lines.{Rises, table_of, line_of, line_among}
use Rattle.mpy_tree.specs.declared.module.Constant.{Constant}
use Rattle.mpy_tree.specs.declared.module.Item.{Item}
use Rattle.mpy_tree.specs.declared.module.Item.TheVariants as items
use Rattle.mpy_tree.specs.declared.module.Code.{Code, out-Code}
use Rattle.mpy_tree.specs.declared.module.ModuleCode.{ModuleCode}
use Rattle.mpy_tree.specs.Raw.{Module, text_of}
use Rattle.mpy_tree.specs.File.{IsQstr, IsObject, IsFile}
use Rattle.mpy_tree.specs.Canonical.{qstr_bytes, IsNamed, code_bytes, file_bytes, Canonical}
use Rattle.mpy_tree.specs.FirstUse.{body_texts, body_objects, FirstUsed, InFirstUse}
use Rattle.mpy_tree.specs.Resolved.{ResolvedModule, Resolves, ReadsAs}
use Rattle.mpy_tree.specs.Values.{value_of}
use Rattle.mpy_tree.proofs.Values as values
use Rattle.mpy_writer.specs.Codes.{codes, text_in, object_in, texts_in, objects_in, texts_used, objects_used}
use Rattle.mpy_writer.specs.Tables.{spelled}
use Rattle.mpy_writer.specs.Writable.{IsText, IsFine, IsSoundItem, IsSoundCode, IsWritable}
use Rattle.mpy_writer.specs.File.{qstr_of, front_bytes}
use Rattle.mpy_writer.specs.Ends as ends
use Rattle.mpy_writer.proofs.Lists.{all_of, all_flat, all_mapped, together, parted_all}
use Rattle.mpy_writer.proofs.Numbers.{used_there, unseen, first_seen}
use Rattle.mpy_writer.proofs.Raws.{grown, Good, IsGood, tree_of, is_tree, used_in, texts_of_body, objects_of_body, code_spelled, all_canonical, resolves}
use Rattle.mpy_writer.proofs.Spelled.{one_object, object_spelled, many_spelled}
use Rattle.mpy_writer.proofs.Texts.{entry_is}

-- the texts and objects that are used may be written
fine_text : (count : ℕ) (x : Item) → IsSoundItem count x → AllByRecursion IsText (text_in x)
fine_text count (items.Plain instr) h = tt
fine_text count (items.Named op text) h = (h.1, tt)
fine_text count (items.Object constant) h = tt
fine_text count (items.Jump op position) h = tt
fine_text count (items.Unwind position byte) h = tt

fine_object : (count : ℕ) (x : Item) → IsSoundItem count x → AllByRecursion (IsFine MAX_DEPTH) (object_in x)
fine_object count (items.Plain instr) h = tt
fine_object count (items.Named op text) h = tt
fine_object count (items.Object constant) h = (h, tt)
fine_object count (items.Jump op position) h = tt
fine_object count (items.Unwind position byte) h = tt

items_sound : (code : Code) → IsSoundCode code → AllByRecursion (IsSoundItem (length (out-Code code).instrs)) (out-Code code).instrs
items_sound code sound = recursion_from_All (IsSoundItem (length (out-Code code).instrs)) (out-Code code).instrs sound.instrs

fine_texts : (code : Code) → IsSoundCode code → AllByRecursion IsText (texts_in code)
fine_texts code sound =
    let count = length (out-Code code).instrs in (
      sound.name,
      together IsText (out-Code code).args (flat_map text_in (out-Code code).instrs) (recursion_from_All IsText (out-Code code).args sound.args)
          (all_flat (IsSoundItem count) IsText text_in (fine_text count) (out-Code code).instrs (items_sound code sound)),
    )

fine_objects : (code : Code) → IsSoundCode code → AllByRecursion (IsFine MAX_DEPTH) (objects_in code)
fine_objects code sound =
    let count = length (out-Code code).instrs in
    all_flat (IsSoundItem count) (IsFine MAX_DEPTH) object_in (fine_object count) (out-Code code).instrs (items_sound code sound)

all_sound : (w : ModuleCode) → IsWritable w → AllByRecursion IsSoundCode (codes w)
all_sound w writable = recursion_from_All IsSoundCode (codes w) writable.sound

pub fine_used : (w : ModuleCode) → IsWritable w → AllByRecursion IsText (texts_used w)
fine_used w writable = (writable.source, all_flat IsSoundCode IsText texts_in fine_texts (codes w) (all_sound w writable))

used_fine : (w : ModuleCode) → IsWritable w → AllByRecursion (IsFine MAX_DEPTH) (objects_used w)
used_fine w writable = all_flat IsSoundCode (IsFine MAX_DEPTH) objects_in fine_objects (codes w) (all_sound w writable)

-- what holds of each use holds of each entry
pub entries : {A : Type 0} (P : A → Type 0) (before used table : List A) → FirstUsed before used table → AllByRecursion P used → AllByRecursion P table
entries P before [] table h all = subst (AllByRecursion P) (sym h) tt
entries P before (x ∷ xs) table (inl h) all = entries P before xs table h.1 all.1
entries {A} P before (x ∷ xs) table (inr h) all = subst (AllByRecursion P) (sym h.2) (all.0, entries P (before ++ x ∷ []) xs h.1 h.3 all.1)

first_entry : (x : List ℕ) (xs table : List (List ℕ)) → FirstUsed [] (x ∷ xs) table → (rest : List (List ℕ)) × (table ≡ x ∷ rest)
first_entry x xs table (inl h) = let lt = h.0.1 in absurd (omega (arith, lt))
first_entry x xs table (inr h) = (h.1, h.2)

both_of : {A : Type 0} (P Q R : A → Type 0) (make : (x : A) → P x → Q x → R x) (xs : List A) → AllByRecursion P xs → AllByRecursion Q xs → AllByRecursion R xs
both_of P Q R make [] h k = tt
both_of P Q R make (x ∷ xs) h k = (make x h.0 k.0, both_of P Q R make xs h.1 k.1)

-- the values of what codes use
values_flat : {A B C : Type 0} (f : B → C) (of : A → List B) (xs : List A) → flat_map (λ x. map f (of x)) xs ≡ map f (flat_map of xs)
values_flat f of [] = refl
values_flat {A} {B} {C} f of (x ∷ xs) = ap (λ (z : List C). map f (of x) ++ z) (values_flat f of xs) ∙ sym (map-append f (of x) (flat_map of xs))

concat_of : (objects : List Constant) → concat (map spelled objects) ≡ flat_map spelled objects
concat_of [] = refl
concat_of (o ∷ os) = ap (λ (z : List ℕ). spelled o ++ z) (concat_of os)

all_texts : (texts : List (List ℕ)) → AllByRecursion IsText texts → map text_of (map qstr_of texts) ≡ map Some texts
all_texts [] h = refl
all_texts (x ∷ xs) h = ap (λ (o : Option (List ℕ)). o ∷ map text_of (map qstr_of xs)) (entry_is x h.0).text_is ∙ ap (λ (os : List (Option (List ℕ))). Some x ∷ os) (all_texts xs h.1)

pub record Right (w : ModuleCode) (bytes : List ℕ) : Type 0 where
  pub canonical : Canonical bytes
  pub first_use : InFirstUse bytes
  pub reads : ReadsAs bytes w

module _ (lines_law : (pairs : List (ℕ × ℕ)) (offset : ℕ) → Rises pairs → line_of (table_of pairs) offset ≡ line_among 1 pairs offset) where
  pub right : (w : ModuleCode) (bytes : List ℕ) → IsWritable w → ends.IsFile w bytes → Right w bytes
  right w bytes writable file =
      let written = file.written in
      let tables = written.tables in
      let fit = file.fit in
      let texts = tables.texts.texts in
      let spells = tables.objects.texts in
      let found = unseen spelled (IsFine MAX_DEPTH) (one_object MAX_DEPTH) [] (objects_used w) spells tt (used_fine w writable) written.are_tables.objects.texts in
      let objects = found.0 in
      let fine = entries (IsFine MAX_DEPTH) [] (objects_used w) objects found.2 (used_fine w writable) in
      let fine_entries = entries IsText [] (texts_used w) texts written.are_tables.texts.texts (fine_used w writable) in
      let grow = grown tables MAX_DEPTH w.code writable.shallow written.owns written.are_own (recursion_from_All (λ own. length own ≤ MAX_CODE_BYTES) written.owns file.short_codes) in
      let m : Module = record { bits = 31; qstrs = map qstr_of texts; objects = objects; code = grow.raw } in
      let good_texts = parted_all (Contains texts) texts_in (codes w) (used_there [] (texts_used w) texts written.are_tables.texts.texts).1 in
      let good_objects = parted_all (Contains objects) objects_in (codes w) (used_there [] (objects_used w) objects found.2) in
      let good : AllByRecursion (Good tables fit m refl found.1 fine lines_law) (codes w) =
      both_of IsSoundCode (λ c. AllByRecursion (Contains texts) (texts_in c) × AllByRecursion (Contains objects) (objects_in c)) (Good tables fit m refl found.1 fine lines_law)
      (λ c s both. record { sound = s; texts = both.0; objects = both.1 }) (codes w) (all_sound w writable)
      (both_of (λ c. AllByRecursion (Contains texts) (texts_in c)) (λ c. AllByRecursion (Contains objects) (objects_in c)) (λ c. AllByRecursion (Contains texts) (texts_in c) × AllByRecursion (Contains objects) (objects_in c))
      (λ c t o. (t, o)) (codes w) good_texts good_objects) in
      let shallow_sound : IsGood MAX_DEPTH w.code = record { shallow = writable.shallow; sound = all_sound w writable } in
      let values_used = used_in body_objects (λ c. map value_of (objects_in c)) objects_of_body MAX_DEPTH w.code shallow_sound ∙ values_flat value_of objects_in (codes w) in
      let qstr_count : length (map qstr_of texts) ≡ length texts = length-map texts qstr_of in
      let object_count : length objects ≡ length spells = sym (length-map objects spelled) ∙ ap length found.1 in
      let few_texts = fit.texts.few in
      let few_objects = fit.objects.few in
      let first = first_entry w.source (flat_map texts_in (codes w)) texts written.are_tables.texts.texts in
      let some : length texts ≡ suc (length first.0) = ap length first.1 in
      let all_qstrs = flat_map qstr_bytes (map qstr_of texts) in
      let whole : bytes ≡ file_bytes m =
      written.bytes_are ∙ (ap (λ (z : List ℕ). front_bytes tables ++ z) grow.heads_are
      ∙ (ap (λ (z : List ℕ). 0x4d ∷ 6 ∷ 0 ∷ 31 ∷ z)
      (append_assoc (vuint (length texts)) (vuint (length spells) ++ (all_qstrs ++ concat spells)) (code_bytes MAX_DEPTH grow.raw)
      ∙ ap (λ (z : List ℕ). vuint (length texts) ++ z) (append_assoc (vuint (length spells)) (all_qstrs ++ concat spells) (code_bytes MAX_DEPTH grow.raw)
      ∙ ap (λ (z : List ℕ). vuint (length spells) ++ z) (append_assoc all_qstrs (concat spells) (code_bytes MAX_DEPTH grow.raw))))
      ∙ (ap (λ (n : ℕ). 0x4d ∷ 6 ∷ 0 ∷ 31 ∷ (vuint n ++ (vuint (length spells) ++ (all_qstrs ++ (concat spells ++ code_bytes MAX_DEPTH grow.raw))))) (sym qstr_count)
      ∙ (ap (λ (n : ℕ). 0x4d ∷ 6 ∷ 0 ∷ 31 ∷ (vuint (length (map qstr_of texts)) ++ (vuint n ++ (all_qstrs ++ (concat spells ++ code_bytes MAX_DEPTH grow.raw))))) (sym object_count)
      ∙ ap (λ (z : List ℕ). 0x4d ∷ 6 ∷ 0 ∷ 31 ∷ (vuint (length (map qstr_of texts)) ++ (vuint (length objects) ++ (all_qstrs ++ (z ++ code_bytes MAX_DEPTH grow.raw)))))
      (ap concat (sym found.1) ∙ concat_of objects))))) in
      let is_file : IsFile bytes m = record {
        short = file.short;
        spelling = record {
          qstr_count = vuint (length (map qstr_of texts));
          object_count = vuint (length objects);
          qstrs = all_qstrs;
          objects = flat_map spelled objects;
          code = code_bytes MAX_DEPTH grow.raw;
          text_is = whole;
          some_bits = omega arith;
          few_bits = omega arith;
          counts_qstrs = vuint_spells (length (map qstr_of texts)) (omega (arith, qstr_count, few_texts));
          counts_objects = vuint_spells (length objects) (omega (arith, object_count, few_objects));
          some_qstrs = omega (arith, qstr_count, some);
          few_qstrs = omega (arith, qstr_count, few_texts);
          few_objects = omega (arith, object_count, few_objects);
          are_qstrs = many_spelled IsQstr qstr_bytes (map qstr_of texts) (all_mapped IsText (λ q. IsQstr (qstr_bytes q) q) qstr_of (λ text one. (entry_is text one).spelled) texts fine_entries);
          are_objects = many_spelled (IsObject MAX_DEPTH) spelled objects (all_of (IsFine MAX_DEPTH) (λ o. IsObject MAX_DEPTH (spelled o) o) (object_spelled MAX_DEPTH) objects fine);
          is_code = code_spelled tables fit m refl found.1 fine lines_law MAX_DEPTH w.code grow.raw grow.is_raw good;
        };
      } in
      let tree : ResolvedModule = record { source = w.source; code = tree_of MAX_DEPTH w.code } in
      let resolved : Resolves m tree = record {
        source = ap (λ (ts : List (List ℕ)). option_and_then text_of (slice_get (map qstr_of ts) 0)) first.1 ∙ (entry_is w.source writable.source).text_is;
        code = resolves tables fit m refl found.1 fine lines_law MAX_DEPTH w.code grow.raw grow.is_raw good;
      } in
      record {
        canonical = record {
          m = m;
          bytes_are = whole;
          bits = refl;
          named = All-from_recursion IsNamed (map qstr_of texts) (all_mapped IsText IsNamed qstr_of (λ text one. (entry_is text one).named) texts fine_entries);
          codes = all_canonical tables fit m refl found.1 fine lines_law MAX_DEPTH w.code grow.raw grow.is_raw good;
        };
        first_use = record {
          m = m;
          tree = tree;
          is_file = is_file;
          resolves = resolved;
          texts = texts;
          texts_are = all_texts texts fine_entries;
          texts_used_first = subst (λ (us : List (List ℕ)). FirstUsed [] (w.source ∷ us) texts) (sym (used_in body_texts texts_in texts_of_body MAX_DEPTH w.code shallow_sound)) written.are_tables.texts.texts;
          objects_used_first = subst (λ (us : List Val). FirstUsed [] us (map value_of objects)) (sym values_used) (first_seen value_of values.one_object [] (objects_used w) objects found.2);
        };
        reads = record { tree = tree; reads = (m, is_file, resolved); source = refl; code = is_tree MAX_DEPTH w.code shallow_sound };
      }
