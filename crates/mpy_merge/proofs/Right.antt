-- The merged file is canonical, and it is read as the merge of the modules.
use Rattle.std.proofs.Common.{◌≡◌, ℕ, zero, suc, ◌+◌, ◌<◌, ◌≤◌, List, [], ◌∷◌, ◌++◌, length, map, All, Option, Some, slice_get, codes, refl, sym, ap, subst, ◌∙◌, inl, inr, append_assoc, arith, length-append}
use Rattle.std.specs.Prelude.{Contains, option_and_then, unwrap_or}
use Rattle.std.specs.List.{flat_map, AllByRecursion, AllZip}
use Rattle.std.proofs.lemmas.List.{length-map, map-append}
use Rattle.std.proofs.lemmas.List.Elements.{All-from_recursion, recursion_from_All}
use Rattle.mpy_base.specs.Vuint.{vuint}
use Rattle.mpy_base.specs.declared.limits.TheConstants.{MAX_TABLE, MAX_CODE_BYTES, MAX_DEPTH}
use Rattle.mpy_base.proofs.Groups.{vuint_spells}
use Rattle.bc_scheme.specs.bc_ops.declared.instr.Op.TheVariants as ops
use Rattle.bc_scheme.specs.bc_ops.declared.instr.Instr.TheVariants as instrs
use Rattle.mpy_writer.specs.mpy_tree.declared.module.Constant.{Constant}
use Rattle.mpy_writer.specs.mpy_tree.declared.module.Item.{Item}
use Rattle.mpy_writer.specs.mpy_tree.declared.module.Item.TheVariants as items
use Rattle.mpy_writer.specs.mpy_tree.declared.module.Code.{Code, Code-F, out-Code}
use Rattle.mpy_writer.specs.mpy_tree.declared.raw.Qstr.{Qstr}
use Rattle.mpy_writer.specs.mpy_tree.declared.raw.RawCode.{RawCode, RawCode-F, out-RawCode, out-roll-RawCode}
use Rattle.mpy_writer.specs.mpy_tree.File.{IsQstr, IsObject, IsOwnCode, IsCode, IsModule, IsFile}
use Rattle.mpy_writer.specs.mpy_tree.Raw.{Module, text_of}
use Rattle.mpy_writer.specs.mpy_tree.Canonical.{qstr_bytes, IsNamed, code_bytes, IsCanonicalCode, AllCodes, Canonical}
use Rattle.mpy_writer.specs.mpy_tree.FirstUse.{FirstUsed}
use Rattle.mpy_writer.specs.mpy_tree.Resolved.{Resolved, ResolvedLine, ResolvedModule, instrs_of, line_numbers, resolved, resolved_item, IsBody, ResolveCodes, Resolves}
use Rattle.bc_scheme.specs.Merge as merges
use Rattle.bc_scheme.specs.Merge.{outer_instrs, on_line_1, outer_body, trees_of, merge_of}
use Rattle.bc_verify.specs.Verified.{IsVerified}
use Rattle.mpy_writer.specs.declared.tables.Tables.{Tables}
use Rattle.mpy_writer.specs.Tables.{TablesFit, spelled}
use Rattle.mpy_writer.specs.Writable.{IsText, IsFine}
use Rattle.mpy_writer.specs.File.{IsOwn, qstr_of}
use Rattle.mpy_writer.proofs.Bodies.{canonical}
use Rattle.mpy_writer.proofs.Labelled.{list_item}
use Rattle.mpy_writer.proofs.Lists.{parted_all, all_of, all_mapped, all_flat}
use Rattle.mpy_writer.proofs.Numbers.{used_there}
use Rattle.mpy_writer.proofs.Spelled.{many_spelled, object_spelled}
use Rattle.mpy_writer.proofs.Texts.{entry_is}
use Rattle.mpy_writer.proofs.Whole.{entries}
use Rattle.mpy_merge.specs.Joined.{IsJoined}
use Rattle.mpy_merge.specs.Moved.{entry_text, text_at, IsMovedTree}
use Rattle.mpy_merge.proofs.Reading.{tree_moved}
use Rattle.mpy_merge.proofs.Texts.{text_fine, entries_fine}
use Rattle.mpy_writer.proofs.mpy_tree_lemmas.Codes.{Nests}
use Rattle.mpy_merge.specs.Merged.{texts_of, texts_used, all_objects, calls, outer_items, outer_code, AreMoved, merged_module}
use Rattle.mpy_merge.specs.Ends.{IsMergedFile}
use Rattle.mpy_merge.proofs.Ended.{count_parts}
use Rattle.mpy_merge.proofs.Nests.{tree_nests}
use Rattle.mpy_merge.proofs.Outermost.{opened, name_fine, outer_numbered}
use Rattle.mpy_merge.proofs.Held.{LinesLaw, own_code, own_body, code_there, lower_code, Kept, all_canonical, all_spelled, part_kept}

-- the texts of the table
-- ======================

text_there : (texts : List (List ℕ)) (qs : List Qstr) → AllByRecursion (Contains texts) (map entry_text qs) → (n : ℕ) → n < length qs → Contains texts (unwrap_or (option_and_then text_of (slice_get qs n)) [])
text_there texts [] h n lt = absurd (omega (arith, lt))
text_there texts (q ∷ qs) h zero lt = h.0
text_there texts (q ∷ qs) h (suc n) lt = text_there texts qs h.1 n (omega (arith, lt))

entries_of : (m : Module) → IsModule m → AllByRecursion IsText (texts_of m)
entries_of m is = all_mapped (λ q. IsText (entry_text q)) IsText entry_text (λ q h. h) m.qstrs (entries_fine m is)

pub used_fine : (modules : List Module) → AllByRecursion IsModule modules → AllByRecursion IsText (texts_used modules)
used_fine [] h = tt
used_fine (m ∷ ms) h = (text_fine m h.0 0, (name_fine, all_flat IsModule IsText texts_of entries_of (m ∷ ms) h))

first_entry : (x : List ℕ) (xs table : List (List ℕ)) → FirstUsed [] (x ∷ xs) table → (rest : List (List ℕ)) × (table ≡ x ∷ rest)
first_entry x xs table (inl h) = let lt = h.0.1 in absurd (omega (arith, lt))
first_entry x xs table (inr h) = (h.1, h.2)

-- the objects behind others
-- =========================

get_front : (xs ys : List Constant) (n : ℕ) (x : Constant) → slice_get xs n ≡ Some x → slice_get (xs ++ ys) n ≡ Some x
get_front [] ys n x e = absurd cc
get_front (y ∷ xs) ys zero x e = e
get_front (y ∷ xs) ys (suc n) x e = get_front xs ys n x e

get_behind : (xs ys : List Constant) (n : ℕ) → slice_get (xs ++ ys) (length xs + n) ≡ slice_get ys n
get_behind [] ys n = let none : 0 + n ≡ n = omega arith in ap (slice_get ys) none
get_behind (x ∷ xs) ys n = let next : suc (length xs) + n ≡ suc (length xs + n) = omega arith in ap (slice_get (x ∷ (xs ++ ys))) next ∙ get_behind xs ys n

-- the modules' codes
-- ==================

module _ (lines_law : LinesLaw) (tables : Tables) (fit : TablesFit tables) (merged : Module) (qstrs_are : merged.qstrs ≡ map qstr_of tables.texts.texts) where
  -- modules whose objects stand behind others
  pub record Behind (before : List Constant) (ms : List Module) : Type 0 where
    pub objects : merged.objects ≡ before ++ all_objects ms
    pub few : length before + length (all_objects ms) ≤ MAX_TABLE
    pub read : AllByRecursion IsModule ms
    pub verified : AllByRecursion IsVerified ms
    pub texts : AllByRecursion (λ m. AllByRecursion (Contains tables.texts.texts) (texts_of m)) ms

  next : (before : List Constant) (m : Module) (ms : List Module) → Behind before (m ∷ ms) → Behind (before ++ m.objects) ms
  next before m ms b =
      let few = b.few in
      record {
        objects = b.objects ∙ sym (append_assoc before m.objects (all_objects ms));
        few = omega (arith, few, length-append before m.objects, length-append m.objects (all_objects ms));
        read = b.read.1;
        verified = b.verified.1;
        texts = b.texts.1;
      }

  joined : (before : List Constant) (m : Module) (ms : List Module) → Behind before (m ∷ ms) → IsJoined tables (length before) m merged
  joined before m ms b = record {
    qstrs_are = qstrs_are;
    texts_there = λ n lt. text_there tables.texts.texts m.qstrs b.texts.0 n lt;
    objects_there = λ n object at.
        ap (λ (os : List Constant). slice_get os (length before + n)) b.objects ∙ (get_behind before (m.objects ++ all_objects ms) n ∙ get_front m.objects (all_objects ms) n object at);
  }

  few_here : (before : List Constant) (m : Module) (ms : List Module) → Behind before (m ∷ ms) → length before + length m.objects ≤ MAX_TABLE
  few_here before m ms b = let few = b.few in omega (arith, few, length-append m.objects (all_objects ms))

  nests_here : (base : ℕ) (m : Module) (part : RawCode) → IsModule m → IsMovedTree 31 tables base m m.code part → Nests (length m.qstrs) 31 m.code
  nests_here base m part is tree = (is.1.code, lower_code 31 (length m.qstrs) is.1.code m.code is.1.is_code (tree_nests tables base m 31 m.code part tree))

  base_next : (base : ℕ) (before : List Constant) (m : Module) → base ≡ length before → base + length m.objects ≡ length (before ++ m.objects)
  base_next base before m e = omega (arith, e, length-append before m.objects)

  pub parts_kept : (base : ℕ) (before : List Constant) (ms : List Module) (parts : List RawCode) → base ≡ length before → Behind before ms → AreMoved 31 tables base ms parts → AllByRecursion (Kept (length merged.qstrs) 31) parts
  parts_kept base before [] parts e b h = subst (AllByRecursion (Kept (length merged.qstrs) 31)) (sym h) tt
  parts_kept base before (m ∷ ms) parts e b h =
      let tree : IsMovedTree 31 tables (length before) m m.code h.0 = subst (λ (k : ℕ). IsMovedTree 31 tables k m m.code h.0) e h.3 in
      subst (AllByRecursion (Kept (length merged.qstrs) 31)) (sym h.2) (
        part_kept tables fit (length before) m merged b.read.0 (few_here before m ms b) (joined before m ms b) 31 m.code h.0 (nests_here (length before) m h.0 b.read.0 tree) b.verified.0 tree,
        parts_kept (base + length m.objects) (before ++ m.objects) ms h.1 (base_next base before m e) (next before m ms b) h.4,
      )

  pub parts_resolve : (base : ℕ) (before : List Constant) (ms : List Module) (parts : List RawCode) (ts : List ResolvedModule) → base ≡ length before → Behind before ms → AreMoved 31 tables base ms parts → AllZip Resolves ms ts → ResolveCodes merged (trees_of ts) parts
  parts_resolve base before [] parts [] e b h zip = h
  parts_resolve base before [] parts (t ∷ ts) e b h zip = absurd zip
  parts_resolve base before (m ∷ ms) parts [] e b h zip = absurd zip
  parts_resolve base before (m ∷ ms) parts (t ∷ ts) e b h zip =
      let tree : IsMovedTree 31 tables (length before) m m.code h.0 = subst (λ (k : ℕ). IsMovedTree 31 tables k m m.code h.0) e h.3 in (
        h.0,
        h.1,
        h.2,
        tree_moved tables fit (length before) m merged b.read.0 (few_here before m ms b) (joined before m ms b) lines_law 31 t.code m.code h.0 (nests_here (length before) m h.0 b.read.0 tree) b.verified.0 tree zip.0.code,
        parts_resolve (base + length m.objects) (before ++ m.objects) ms h.1 ts (base_next base before m e) (next before m ms b) h.4 zip.1,
      )

-- the outermost code
-- ==================

calls_read : (m : Module) (tables : Tables) (at n : ℕ) → map (resolved m) (map (list_item tables) (calls at n)) ≡ merges.calls at n
calls_read m tables at zero = refl
calls_read m tables at (suc n) = ap (λ (z : List Resolved). resolved_item (items.Plain (instrs.Num ops.MakeFunction at)) ∷ resolved_item (items.Plain (instrs.Num ops.CallFunction 0)) ∷ resolved_item (items.Plain (instrs.Plain ops.PopTop)) ∷ z) (calls_read m tables (suc at) n)

items_read : (m : Module) (tables : Tables) (n : ℕ) → map (resolved m) (map (list_item tables) (outer_items n)) ≡ outer_instrs n
items_read m tables n =
    let last = items.Plain (instrs.Plain ops.LoadConstNone) ∷ items.Plain (instrs.Plain ops.ReturnValue) ∷ [] in
    ap (map (resolved m)) (map-append (list_item tables) (calls 0 n) last)
    ∙ (map-append (resolved m) (map (list_item tables) (calls 0 n)) (map (list_item tables) last)
    ∙ ap (λ (z : List Resolved). z ++ map (resolved m) (map (list_item tables) last)) (calls_read m tables 0 n))

items_of_lines : (xs : List Resolved) → map (λ (l : ResolvedLine). l.item) (map on_line_1 xs) ≡ xs
items_of_lines [] = refl
items_of_lines (x ∷ xs) = ap (λ (z : List Resolved). x ∷ z) (items_of_lines xs)

numbers_of_lines : (xs : List Resolved) (ys : List Item) → length xs ≡ length ys → map (λ (l : ResolvedLine). l.line) (map on_line_1 xs) ≡ map (λ _. 1) ys
numbers_of_lines [] [] e = refl
numbers_of_lines [] (y ∷ ys) e = absurd (omega (arith, e))
numbers_of_lines (x ∷ xs) [] e = absurd (omega (arith, e))
numbers_of_lines (x ∷ xs) (y ∷ ys) e = ap (λ (z : List ℕ). 1 ∷ z) (numbers_of_lines xs ys (omega (arith, e)))

module _ (lines_law : LinesLaw) (tables : Tables) (fit : TablesFit tables) (n : ℕ) (le : n ≤ 1000) (own : List ℕ) (is : IsOwn tables (outer_code n) own) (merged : Module) (qstrs_are : merged.qstrs ≡ map qstr_of tables.texts.texts) (there : Contains tables.texts.texts (codes "<module>")) where
  abbrev fields_of : Code-F Code
  fields_of = out-Code (outer_code n)

  names_in : AllByRecursion (Contains tables.texts.texts) (fields_of.name ∷ fields_of.args)
  names_in = subst (λ (z : Code-F Code). AllByRecursion (Contains tables.texts.texts) (z.name ∷ z.args)) (sym (opened n)) (there, tt)

  names_right : AllByRecursion IsText (fields_of.name ∷ fields_of.args)
  names_right = subst (λ (z : Code-F Code). AllByRecursion IsText (z.name ∷ z.args)) (sym (opened n)) (name_fine, tt)

  pub outer_own_code : IsOwnCode (length merged.qstrs) own
  outer_own_code = own_code tables fit (outer_code n) own is (outer_numbered n le) merged qstrs_are names_in

  items_right : instrs_of (outer_body n) ≡ map (resolved merged) (map (list_item tables) fields_of.instrs)
  items_right = items_of_lines (outer_instrs n) ∙ (sym (items_read merged tables n) ∙ ap (λ (z : Code-F Code). map (resolved merged) (map (list_item tables) z.instrs)) (sym (opened n)))

  numbers_right : line_numbers (outer_body n) ≡ fields_of.lines
  numbers_right =
      let size : length (outer_instrs n) ≡ length (outer_items n) = sym (ap length (items_read merged tables n)) ∙ (length-map (map (list_item tables) (outer_items n)) (resolved merged) ∙ length-map (outer_items n) (list_item tables)) in
      numbers_of_lines (outer_instrs n) (outer_items n) size ∙ ap (λ (z : Code-F Code). z.lines) (sym (opened n))

  pub outer_is_body : IsBody merged own (outer_body n)
  outer_is_body =
      own_body tables fit (outer_code n) own is (outer_numbered n le) merged qstrs_are lines_law (outer_body n) names_right names_in (ap (λ (z : Code-F Code). z.name ∷ z.args) (opened n)) (ap (λ (z : Code-F Code). z.defaults) (sym (opened n)))
      (ap (λ (z : Code-F Code). z.n_state) (sym (opened n))) (ap (λ (z : Code-F Code). z.n_exc) (sym (opened n))) items_right numbers_right

-- the whole
-- =========

pub record Right (modules : List Module) (bytes : List ℕ) : Type 0 where
  pub m : Module
  pub canonical : Canonical bytes
  pub is_file : IsFile bytes m
  pub resolves : (tree : ResolvedModule) (trees : List ResolvedModule) → AllZip Resolves modules (tree ∷ trees) → Resolves m (merge_of tree trees)

zip_count : {A B : Type 0} (R : A → B → Type 0) (xs : List A) (ys : List B) → AllZip R xs ys → length xs ≡ length ys
zip_count R [] [] h = refl
zip_count R [] (y ∷ ys) h = absurd h
zip_count R (x ∷ xs) [] h = absurd h
zip_count R (x ∷ xs) (y ∷ ys) h = ap suc (zip_count R xs ys h.1)

module _ (lines_law : LinesLaw) (first : Module) (others : List Module) (bytes : List ℕ) (file : IsMergedFile (first ∷ others) bytes) (read : AllByRecursion IsModule (first ∷ others)) (verified : AllByRecursion IsVerified (first ∷ others)) where
  abbrev modules : List Module
  modules = first ∷ others

  abbrev tables : Tables
  tables = file.merged.tables

  abbrev texts : List (List ℕ)
  texts = tables.texts.texts

  abbrev objects : List Constant
  objects = all_objects modules

  abbrev own : List ℕ
  own = file.merged.own

  abbrev parts : List RawCode
  parts = file.merged.parts

  abbrev merged : Module
  merged = merged_module tables objects own parts

  abbrev raw : RawCode-F RawCode
  raw = record { bytes = own; children = parts }

  opened_raw : out-RawCode merged.code ≡ raw
  opened_raw = out-roll-RawCode raw

  used : FirstUsed [] (texts_used modules) texts
  used = file.merged.are_tables.texts.texts

  all_there : AllByRecursion (Contains texts) (texts_used modules)
  all_there = used_there [] (texts_used modules) texts used

  count : length modules ≤ 1000
  count = let few = file.few in omega (arith, few)

  behind : Behind lines_law tables file.fit merged refl [] modules
  behind = record {
    objects = refl;
    few = let few = file.few_objects in omega (arith, few);
    read = read;
    verified = verified;
    texts = parted_all (Contains texts) texts_of modules all_there.1.1;
  }

  kept : AllByRecursion (Kept (length merged.qstrs) 31) parts
  kept = parts_kept lines_law tables file.fit merged refl 0 [] modules parts refl behind file.merged.are_moved

  fine_texts : AllByRecursion IsText texts
  fine_texts = entries IsText [] (texts_used modules) texts used (used_fine modules read)

  fine_objects : AllByRecursion (IsFine MAX_DEPTH) objects
  fine_objects = recursion_from_All (IsFine MAX_DEPTH) objects file.fine

  outer_there : IsOwnCode (length merged.qstrs) own
  outer_there = outer_own_code lines_law tables file.fit (length modules) count own file.merged.is_own merged refl all_there.1.0

  few_parts : length parts ≤ MAX_TABLE
  few_parts = let size = count_parts 31 tables 0 modules parts file.merged.are_moved in let few = count in omega (arith, size, few)

  is_code : IsCode 32 (length merged.qstrs) (code_bytes 32 merged.code) merged.code
  is_code =
      let back = sym opened_raw in
      code_there 31 (length merged.qstrs) merged.code (subst (λ (z : RawCode-F RawCode). length z.bytes ≤ MAX_CODE_BYTES) back file.merged.short)
      (subst (λ (z : RawCode-F RawCode). IsOwnCode (length merged.qstrs) z.bytes) back outer_there) (subst (λ (z : RawCode-F RawCode). length z.children ≤ MAX_TABLE) back few_parts)
      (subst (λ (z : RawCode-F RawCode). AllByRecursion (λ r. IsCode 31 (length merged.qstrs) (code_bytes 31 r) r) z.children) back (all_spelled (length merged.qstrs) 31 parts kept))

  all_codes : AllCodes IsCanonicalCode 32 merged.code
  all_codes =
      all_canonical (length merged.qstrs) 31 merged.code (subst (λ (z : RawCode-F RawCode). IsCanonicalCode z.bytes) (sym opened_raw) (canonical tables (outer_code (length modules)) own file.merged.is_own file.fit (outer_numbered (length modules) count)))
      (subst (λ (z : RawCode-F RawCode). AllByRecursion (Kept (length merged.qstrs) 31) z.children) (sym opened_raw) kept)

  is_file : IsFile bytes merged
  is_file =
      let count_texts : length (map qstr_of texts) ≡ length texts = length-map texts qstr_of in
      let few_texts = file.fit.texts.few in
      let few_objects = file.few_objects in
      let one = first_entry (text_at first 0) (codes "<module>" ∷ flat_map texts_of modules) texts used in
      let some : length texts ≡ suc (length one.0) = ap length one.1 in
      record {
        short = file.short;
        spelling = record {
          qstr_count = vuint (length (map qstr_of texts));
          object_count = vuint (length objects);
          qstrs = flat_map qstr_bytes (map qstr_of texts);
          objects = flat_map spelled objects;
          code = code_bytes MAX_DEPTH merged.code;
          text_is = file.merged.bytes_are;
          some_bits = omega arith;
          few_bits = omega arith;
          counts_qstrs = vuint_spells (length (map qstr_of texts)) (omega (arith, count_texts, few_texts));
          counts_objects = vuint_spells (length objects) (omega (arith, few_objects));
          some_qstrs = omega (arith, count_texts, some);
          few_qstrs = omega (arith, count_texts, few_texts);
          few_objects = file.few_objects;
          are_qstrs = many_spelled IsQstr qstr_bytes (map qstr_of texts) (all_mapped IsText (λ q. IsQstr (qstr_bytes q) q) qstr_of (λ text one. (entry_is text one).spelled) texts fine_texts);
          are_objects = many_spelled (IsObject MAX_DEPTH) spelled objects (all_of (IsFine MAX_DEPTH) (λ o. IsObject MAX_DEPTH (spelled o) o) (object_spelled MAX_DEPTH) objects fine_objects);
          is_code = is_code;
        };
      }

  is_canonical : Canonical bytes
  is_canonical = record {
    m = merged;
    bytes_are = file.merged.bytes_are;
    bits = refl;
    named = All-from_recursion IsNamed (map qstr_of texts) (all_mapped IsText IsNamed qstr_of (λ text one. (entry_is text one).named) texts fine_texts);
    codes = all_codes;
  }

  resolves : (tree : ResolvedModule) (trees : List ResolvedModule) → AllZip Resolves modules (tree ∷ trees) → Resolves merged (merge_of tree trees)
  resolves tree trees zip =
      let one = first_entry (text_at first 0) (codes "<module>" ∷ flat_map texts_of modules) texts used in
      let source : text_at first 0 ≡ tree.source = ap (λ (o : Option (List ℕ)). unwrap_or o []) zip.0.source in
      let same : length modules ≡ suc (length trees) = zip_count Resolves modules (tree ∷ trees) zip in
      let body : IsBody merged own (outer_body (suc (length trees))) = subst (λ (k : ℕ). IsBody merged own (outer_body k)) same (outer_is_body lines_law tables file.fit (length modules) count own file.merged.is_own merged refl all_there.1.0) in
      let inside : ResolveCodes merged (trees_of (tree ∷ trees)) parts = parts_resolve lines_law tables file.fit merged refl 0 [] modules parts (tree ∷ trees) refl behind file.merged.are_moved zip in
      record {
        source = ap (λ (ts : List (List ℕ)). option_and_then text_of (slice_get (map qstr_of ts) 0)) one.1 ∙ ((entry_is (text_at first 0) (text_fine first read.0 0)).text_is ∙ ap (λ (t : List ℕ). Some t) source);
        code = subst (λ (z : RawCode-F RawCode). IsBody merged z.bytes (outer_body (suc (length trees))) × ResolveCodes merged (trees_of (tree ∷ trees)) z.children) (sym opened_raw) (body, inside);
      }

  pub right_from : Right modules bytes
  right_from = record { m = merged; canonical = is_canonical; is_file = is_file; resolves = resolves }

pub right : LinesLaw → (modules : List Module) (bytes : List ℕ) → IsMergedFile modules bytes → All IsModule modules → All IsVerified modules → Right modules bytes
right lines_law [] bytes file read verified = let some = file.some in absurd (omega (arith, some))
right lines_law (m ∷ ms) bytes file read verified = right_from lines_law m ms bytes file (recursion_from_All IsModule (m ∷ ms) read) (recursion_from_All IsVerified (m ∷ ms) verified)
