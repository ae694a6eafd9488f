-- A module with a text that is longer than a file has a file that is too long; and each code that is too long is one of the module's.
use Rattle.std.proofs.Common.{◌≡◌, ℕ, zero, suc, ◌≤◌, Bool, true, false, ◌&&◌, List, [], ◌∷◌, ◌++◌, length, refl, sym, ap, subst, ◌∙◌, inl, inr, arith}
use Rattle.std.specs.Prelude.{nat_le}
use Rattle.std.specs.List.{list_all, flat_map, AllByRecursion}
use Rattle.std.proofs.lemmas.Bool.{cases_lt, le-leb}
use Rattle.std.proofs.lemmas.List.{length-append}
use Rattle.mpy_base.specs.Vuint.{vuint}
use Rattle.mpy_base.specs.declared.limits.TheConstants.{MAX_FILE_BYTES}
use Rattle.mpy_writer.specs.mpy_tree.Canonical.{object_by, object_bytes}
use Rattle.mpy_writer.specs.mpy_tree.declared.module.Constant.{Constant, out-Constant}
use Rattle.mpy_writer.specs.mpy_tree.declared.module.Constant.TheOpen.{Constant-F}
use Rattle.mpy_writer.specs.mpy_tree.declared.module.Item.{Item}
use Rattle.mpy_writer.specs.mpy_tree.declared.module.Item.TheVariants as items
use Rattle.mpy_writer.specs.mpy_tree.declared.module.Code.{Code, out-Code}
use Rattle.mpy_writer.specs.mpy_tree.declared.module.ModuleCode.{ModuleCode}
use Rattle.mpy_writer.specs.declared.tables.Tables.{Tables}
use Rattle.mpy_writer.specs.Codes.{codes_in, codes, text_in, object_in, texts_in, objects_in}
use Rattle.mpy_writer.specs.Tables.{AreTables, spelled}
use Rattle.mpy_writer.specs.Wide.{wide_file, IsLongFile, FirstLong, here, later, PassesAt}
use Rattle.mpy_writer.proofs.Faults.{all_used, tables_made}
use Rattle.mpy_writer.proofs.Fronts.{short_texts, short_objects}
use Rattle.mpy_writer.proofs.Lists.{parted, parted_all}
use Rattle.mpy_compile.specs.Texts.{text_fits, object_fits, item_fits, code_fits, module_fits}

abbrev Short : List ℕ → Type 0
Short text = length text ≤ MAX_FILE_BYTES

abbrev ShortObject : Constant → Type 0
ShortObject object = length (spelled object) ≤ MAX_FILE_BYTES

both : (a b : Bool) → a ≡ true → b ≡ true → (a && b) ≡ true
both true true e f = refl
both true false e f = cc
both false b e f = cc

text_short : (text : List ℕ) → Short text → text_fits text ≡ true
text_short text le = le-leb (length text) MAX_FILE_BYTES le

texts_short : (texts : List (List ℕ)) → AllByRecursion Short texts → list_all text_fits texts ≡ true
texts_short [] h = refl
texts_short (x ∷ xs) h = both (text_fits x) (list_all text_fits xs) (text_short x h.0) (texts_short xs h.1)

layer_short : (k : Constant-F Constant) → length (object_by (object_bytes 31) k) ≤ MAX_FILE_BYTES → object_fits k ≡ true
layer_short Constant-F.None le = refl
layer_short Constant-F.False le = refl
layer_short Constant-F.True le = refl
layer_short (Constant-F.Str text) le = text_short text (omega (arith, le, length-append (vuint (length text)) (text ++ 0 ∷ []), length-append text (0 ∷ [])))
layer_short (Constant-F.Int n) le = refl
layer_short (Constant-F.Tuple items) le = refl

spelled_is : (object : Constant) → spelled object ≡ object_by (object_bytes 31) (out-Constant object)
unfolding object_bytes
spelled_is object = refl

object_short : (object : Constant) → ShortObject object → object_fits (out-Constant object) ≡ true
object_short object le = layer_short (out-Constant object) (let same = ap length (spelled_is object) in omega (arith, le, same))

item_short : (item : Item) → AllByRecursion Short (text_in item) → AllByRecursion ShortObject (object_in item) → item_fits item ≡ true
item_short (items.Plain instr) h k = refl
item_short (items.Named op text) h k = text_short text h.0
item_short (items.Object object) h k = object_short object k.0
item_short (items.Jump op position) h k = refl
item_short (items.Unwind position byte) h k = refl

items_short : (xs : List Item) → AllByRecursion Short (flat_map text_in xs) → AllByRecursion ShortObject (flat_map object_in xs) → list_all item_fits xs ≡ true
items_short [] h k = refl
items_short (x ∷ xs) h k =
    let texts = parted Short (text_in x) (flat_map text_in xs) h in
    let objects = parted ShortObject (object_in x) (flat_map object_in xs) k in
    both (item_fits x) (list_all item_fits xs) (item_short x texts.0 objects.0) (items_short xs texts.1 objects.1)

code_short : (code : Code) → AllByRecursion Short (texts_in code) → AllByRecursion ShortObject (objects_in code) → code_fits code ≡ true
code_short code h k =
    let c = out-Code code in
    let texts = parted Short c.args (flat_map text_in c.instrs) h.1 in
    both (text_fits c.name) _ (text_short c.name h.0) (both (list_all text_fits c.args) (list_all item_fits c.instrs) (texts_short c.args texts.0) (items_short c.instrs texts.1 k))

codes_short : (cs : List Code) → AllByRecursion Short (flat_map texts_in cs) → AllByRecursion ShortObject (flat_map objects_in cs) → list_all code_fits cs ≡ true
codes_short [] h k = refl
codes_short (c ∷ cs) h k =
    let texts = parted Short (texts_in c) (flat_map texts_in cs) h in
    let objects = parted ShortObject (objects_in c) (flat_map objects_in cs) k in
    both (code_fits c) (list_all code_fits cs) (code_short c texts.0 objects.0) (codes_short cs texts.1 objects.1)

pub long_text : (m : ModuleCode) → module_fits m ≡ false → PassesAt m 0
long_text m none =
    let tables = all_used m in
    let are = tables_made m tables refl refl in
    elim (cases_lt MAX_FILE_BYTES (wide_file tables m)) [
      | inl past ↦
          let long : IsLongFile m = record { tables = tables; are_tables = are; past = inr (inr past) } in
          inl (long, refl)
      | inr few ↦
          let texts = short_texts m tables are few in
          let objects = short_objects m tables are few in
          let fits = both (text_fits m.source) (list_all code_fits (codes m)) (text_short m.source texts.0) (codes_short (codes m) texts.1 objects) in
          let clash : true ≡ false = sym fits ∙ none in
          absurd cc
    ]

-- ---- which code

first_within : (tables : Tables) (cs : List Code) (n : ℕ) → FirstLong tables cs n → suc n ≤ length cs
first_within tables [] n h = elim h [ ]
first_within tables (c ∷ cs) zero (here h) = omega arith
first_within tables (c ∷ cs) (suc n) (later h rest) = let le = first_within tables cs n rest in omega (arith, le)

some_code : (m : ModuleCode) → 1 ≤ length (codes m)
unfolding codes_in
some_code m = omega arith

pub place_within : (m : ModuleCode) (n : ℕ) → PassesAt m n → suc n ≤ length (codes m)
place_within m n (inl h) = let none = h.1 in omega (arith, some_code m, none)
place_within m n (inr h) = first_within h.1 (codes m) n h.3
