-- What is written of modules is an image of them.
use Rattle.std.proofs.Common.{◌≡◌, ◌⊎◌, ℕ, zero, suc, ◌+◌, ◌-◌, ◌<◌, ◌≤◌, ◌^◌, List, [], ◌∷◌, ◌++◌, length, length-append, drop, map, All, Option, Some, None, refl, sym, ap, ap₂, subst, ◌∙◌, append_assoc, inl, inr, arith}
use Rattle.std.specs.List.{AllByRecursion, cons_option, filter_map, flat_map}
use Rattle.std.specs.Option.{option_or, option_to_list}
use Rattle.std.proofs.lemmas.List.{length-map}
use Rattle.std.proofs.lemmas.List.Elements.{recursion_from_All}
use Rattle.mpy_base.specs.declared.limits.TheConstants.{MAX_DEPTH, MAX_IMAGE_BYTES, MAX_MODULES, MAX_TABLE}
use Rattle.mpy_base.specs.Vuint.{Spells, vuint}
use Rattle.mpy_base.proofs.Groups.{vuint_spells}
use Rattle.qstr_pool.specs.declared.table.TheConstants.{FIRST_OWN, STATIC_COUNT}
use Rattle.qstr_pool.specs.Pool.{Texts, number_of, text_of}
use Rattle.qstr_pool.specs.Static.{static_number_of}
use Rattle.qstr_pool.proofs.Pools.{one_to_one}
use Rattle.mpy_writer.specs.mpy_tree.declared.module.Constant.{Constant}
use Rattle.mpy_writer.specs.mpy_tree.declared.raw.Qstr.{Qstr}
use Rattle.mpy_writer.specs.mpy_tree.declared.raw.Qstr.TheVariants.{Static, Own}
use Rattle.mpy_writer.specs.mpy_tree.declared.raw.RawCode.{RawCode}
use Rattle.mpy_writer.specs.mpy_tree.Raw as raws
use Rattle.mpy_writer.specs.mpy_tree.Raw.{Module}
use Rattle.mpy_writer.specs.mpy_tree.Canonical.{code_bytes, object_bytes}
use Rattle.mpy_writer.specs.mpy_tree.File.{IsAscii, IsCode, IsModule, IsObject}
use Rattle.image_open.specs.mpy_reader.Body.{IsBody}
use Rattle.mpy_writer.specs.File.{entry_of as qstr_by}
use Rattle.mpy_writer.specs.Writable.{IsFine}
use Rattle.mpy_writer.proofs.Lists.{all_of}
use Rattle.mpy_writer.proofs.Spelled.{many_spelled, object_spelled}
use Rattle.image_open.specs.bc_library.Fine.{FineQstr}
use Rattle.image_open.specs.bc_library.Texts.{last_part, text_numbered, texts_of, with_text, with_texts}
use Rattle.image_open.proofs.bc_library_lemmas.Pools.{with_append}
use Rattle.image_open.specs.image_grammar.declared.entry.Entry.{Entry}
use Rattle.image_open.specs.image_grammar.Image.{Differ, IsEntry, IsFront, IsImage, IsNamed, IsOwnText, texts_used}
use Rattle.image_open.specs.image_grammar.Opening.{Base, entry_of, names_of, number_in, pool_below}
use Rattle.image_open.proofs.image_grammar_lemmas.BaseTexts.{static_few}
use Rattle.image_open.proofs.Found.{numbered_is, static_from_one}
use Rattle.image_open.proofs.Turns.{has_number}
use Rattle.image_open.proofs.Uses.{IsProper}
use Rattle.image_freeze.specs.declared.named.Named.{Named}
use Rattle.image_freeze.specs.Frozen.{entries_of, entry_bytes, frozen, frozen_qstr, number_bytes, own_bytes, parts_of, pool_of, qstr_number, text_number}
use Rattle.image_freeze.proofs.Pools.{IsPoolOf, IsSource, fine_table, number_is, numbered_small, own_behind, pool_proper, raw_texts, same_texts, static_text, texts_spelled, used_is}
use Rattle.image_freeze.proofs.Trees.{tree_spelled}

-- what is known of the pool
pub record Numbers (pool : Texts) : Type 0 where
  pub proper : IsProper pool
  pub few : length pool.texts ≤ MAX_TABLE

-- a text that is used has a number there
pub record HasNumber (pool : Texts) (text : List ℕ) : Type 0 where
  pub is : text_numbered pool (text_number pool text) ≡ Some text
  pub small : text_number pool text < 2 ^ 31

used_number : (pool now : Texts) (text : List ℕ) (left : List (List ℕ)) → Numbers pool → pool ≡ with_texts now (text ∷ left) → HasNumber pool text
used_number pool now text left p e =
    let h = has_number pool now text left e in
    let same = number_is pool text h.0 h.1 in
    let there = numbered_is pool text h.0 p.proper h.1 in
    record {
      is = ap (text_numbered pool) same ∙ there;
      small = let few = numbered_small pool text h.0 p.proper p.few there in omega (arith, few, same);
    }

-- tables
-- ======

static_spelled : (pool : Texts) (n : ℕ) → 1 ≤ n → n ≤ STATIC_COUNT → IsEntry pool (number_bytes pool (Static n)) (Static n)
static_spelled pool n low high = (vuint_spells n (omega (arith, high)), low, high)

own_spelled : (pool now : Texts) (text : List ℕ) (left : List (List ℕ)) → Numbers pool → pool ≡ with_texts now (text ∷ left) → static_number_of text ≡ None → IsEntry pool (number_bytes pool (Own text)) (Own text)
own_spelled pool now text left p e own =
    let h = has_number pool now text left e in
    let same = number_is pool text h.0 h.1 in
    let number : number_of pool text ≡ Some h.0 = ap (λ (o : Option ℕ). option_or o (number_of pool text)) (sym own) ∙ h.1 in
    let there : text_of pool h.0 ≡ Some text = ((one_to_one pool p.proper.differ).inverse text h.0).0 number in
    let small = (used_number pool now text left p e).small in
    (text_number pool text, vuint_spells (text_number pool text) small, ap (text_of pool) same ∙ there)

text_spelled : (pool now : Texts) (text : List ℕ) (left : List (List ℕ)) (o : Option ℕ) → Numbers pool → pool ≡ with_texts now (text ∷ left) → static_number_of text ≡ o → IsEntry pool (number_bytes pool (qstr_by text o)) (qstr_by text o)
text_spelled pool now text left (Some n) p e is = static_spelled pool n (static_from_one n text (static_text text n is)) (static_few text n is)
text_spelled pool now text left None p e is = own_spelled pool now text left p e is

qstr_spelled : (pool now : Texts) (q : Qstr) (left : List (List ℕ)) → Numbers pool → pool ≡ with_texts now (cons_option (raws.text_of q) left) → FineQstr q → IsEntry pool (number_bytes pool (frozen_qstr q)) (frozen_qstr q)
qstr_spelled pool now (Static n) left p e fine = static_spelled pool n fine.0 fine.1
qstr_spelled pool now (Own text) left p e fine = text_spelled pool now text left (static_number_of text) p e refl

-- the pool behind the first text
next_now : (pool now : Texts) (o : Option (List ℕ)) (left : List (List ℕ)) → pool ≡ with_texts now (cons_option o left) → (next : Texts) × (pool ≡ with_texts next left)
next_now pool now None left e = (now, e)
next_now pool now (Some text) left e = (with_text now text, e)

cons_more : (o : Option (List ℕ)) (xs ys : List (List ℕ)) → cons_option o xs ++ ys ≡ cons_option o (xs ++ ys)
cons_more None xs ys = refl
cons_more (Some text) xs ys = refl

table_spelled : (pool now : Texts) (qstrs : List Qstr) (left : List (List ℕ)) → Numbers pool → pool ≡ with_texts now (filter_map raws.text_of qstrs ++ left) → AllByRecursion FineQstr qstrs → AllByRecursion (λ q. IsEntry pool (number_bytes pool q) q) (map frozen_qstr qstrs)
table_spelled pool now [] left p e fine = tt
table_spelled pool now (q ∷ qstrs) left p e fine =
    let rest = filter_map raws.text_of qstrs ++ left in
    let here : pool ≡ with_texts now (cons_option (raws.text_of q) rest) = e ∙ ap (with_texts now) (cons_more (raws.text_of q) (filter_map raws.text_of qstrs) left) in
    let next = next_now pool now (raws.text_of q) rest here in
    (qstr_spelled pool now q rest p here fine.0, table_spelled pool next.0 qstrs left p next.1 fine.1)

-- modules
-- =======

-- what holds of each of the modules
pub record IsReady (m : Named) : Type 0 where
  pub source : IsSource m
  pub fine : All (IsFine MAX_DEPTH) m.held.objects

body_spelled : (m : Module) → IsModule m → All (IsFine MAX_DEPTH) m.objects
    → IsBody (length (frozen m).qstrs) (vuint (length m.objects) ++ (flat_map (object_bytes MAX_DEPTH) m.objects ++ code_bytes MAX_DEPTH m.code)) (m.objects, m.code)
body_spelled m read fine =
    let few = read.1.few_objects in
    let texts : length m.qstrs ≡ length (map frozen_qstr m.qstrs) = sym (length-map m.qstrs frozen_qstr) in
    record {
      object_count = vuint (length m.objects);
      objects = flat_map (object_bytes MAX_DEPTH) m.objects;
      outermost = code_bytes MAX_DEPTH m.code;
      text_is = refl;
      counts_objects = vuint_spells (length m.objects) (omega (arith, few));
      few_objects = few;
      are_objects = many_spelled (IsObject MAX_DEPTH) (object_bytes MAX_DEPTH) m.objects (all_of (IsFine MAX_DEPTH) (λ o. IsObject MAX_DEPTH (object_bytes MAX_DEPTH o) o) (object_spelled MAX_DEPTH) m.objects (recursion_from_All (IsFine MAX_DEPTH) m.objects fine));
      is_code = tree_spelled MAX_DEPTH (length (map frozen_qstr m.qstrs)) read.1.code m.code (subst (λ (n : ℕ). IsCode MAX_DEPTH n read.1.code m.code) texts read.1.is_code);
    }

module_spelled : (pool now : Texts) (m : Named) (left : List (List ℕ)) → Numbers pool → pool ≡ with_texts now (texts_of m.name m.held ++ left) → IsReady m → IsNamed pool (entry_bytes pool (entry_of m.name (frozen m.held))) (entry_of m.name (frozen m.held))
module_spelled pool now m left p e r =
    let texts = filter_map raws.text_of m.held.qstrs in
    let part = option_to_list (last_part m.name) in
    let number = used_number pool now m.name ((part ++ texts) ++ left) p e in
    let behind : pool ≡ with_texts (with_texts (with_text now m.name) part) (texts ++ left) =
    e ∙ (ap (with_texts (with_text now m.name)) (append_assoc part texts left) ∙ with_append (with_text now m.name) part (texts ++ left)) in
    let few : length (frozen m.held).qstrs ≤ MAX_TABLE = let le = r.source.read.1.few_qstrs in omega (arith, le, length-map m.held.qstrs frozen_qstr) in
    record {
      name = vuint (text_number pool m.name);
      qstr_count = vuint (length (frozen m.held).qstrs);
      numbers = flat_map (number_bytes pool) (frozen m.held).qstrs;
      body = vuint (length m.held.objects) ++ (flat_map (object_bytes MAX_DEPTH) m.held.objects ++ code_bytes MAX_DEPTH m.held.code);
      text_is = refl;
      number = text_number pool m.name;
      spells_name = vuint_spells (text_number pool m.name) number.small;
      name_is = number.is;
      bits = refl;
      counts_qstrs = vuint_spells (length (frozen m.held).qstrs) (omega (arith, few));
      few_qstrs = few;
      are_qstrs = many_spelled (IsEntry pool) (number_bytes pool) (frozen m.held).qstrs (table_spelled pool (with_texts (with_text now m.name) part) m.held.qstrs left p behind (fine_table m.held r.source.read));
      is_body = body_spelled m.held r.source.read r.fine;
    }

modules_spelled : (pool now : Texts) (modules : List Named) → Numbers pool → pool ≡ with_texts now (raw_texts modules) → AllByRecursion IsReady modules → AllByRecursion (λ e. IsNamed pool (entry_bytes pool e) e) (entries_of modules)
modules_spelled pool now [] p e all = tt
modules_spelled pool now (m ∷ ms) p e all =
    let next = with_texts now (texts_of m.name m.held) in
    let behind : pool ≡ with_texts next (raw_texts ms) = e ∙ with_append now (texts_of m.name m.held) (raw_texts ms) in
    (module_spelled pool now m (raw_texts ms) p e all.0, modules_spelled pool next ms p behind all.1)

-- the image
-- =========

sources : (modules : List Named) → AllByRecursion IsReady modules → AllByRecursion IsSource modules
sources modules all = all_of IsReady IsSource (λ m r. r.source) modules all

pub is_image : (below : Base) (modules : List Named) (pool : Texts) (front bytes : List ℕ) → IsFront below front → IsPoolOf below modules pool → AllByRecursion IsReady modules → Differ below.names (names_of (entries_of modules)) → length below.names + length modules ≤ MAX_MODULES → length bytes ≤ MAX_IMAGE_BYTES
    → bytes ≡ front ++ parts_of pool (drop (length below.texts) pool.texts) (entries_of modules) → IsImage below (entries_of modules) bytes
is_image below modules pool front bytes is_front p all differ few short is =
    let entries = entries_of modules in
    let own = drop (length below.texts) pool.texts in
    let proper = pool_proper below modules pool p (sources modules all) in
    let numbers : Numbers pool = record { proper = proper; few = p.few } in
    let count : length entries ≡ length modules = length-map modules (λ (m : Named). entry_of m.name (frozen m.held)) in
    let few_texts = p.few in
    let parts = own_behind below modules pool p.pool_is in
    let lengths : length pool.texts ≡ length below.texts + length own = ap length parts ∙ length-append below.texts own in
    record {
      front = front;
      text_count = vuint (length own);
      texts = flat_map own_bytes own;
      module_count = vuint (length entries);
      named = flat_map (entry_bytes pool) entries;
      bytes_are = is;
      is_front = is_front;
      own = own;
      counts_texts = vuint_spells (length own) (omega (arith, few_texts, lengths));
      are_texts = many_spelled IsOwnText own_bytes own (texts_spelled below modules pool p (sources modules all));
      pool = pool;
      pool_is = parts;
      first_use = p.pool_is ∙ ap (with_texts (pool_below below)) (sym (used_is modules));
      few_texts = p.few;
      counts_modules = vuint_spells (length entries) (omega (arith, few, count));
      are_named = many_spelled (IsNamed pool) (entry_bytes pool) entries (modules_spelled pool (pool_below below) modules numbers p.pool_is all);
      few_modules = omega (arith, few, count);
      differ = differ;
      short = short;
    }

ready_by : (modules : List Named) → AllByRecursion (λ (m : Named). IsAscii m.name) modules → AllByRecursion (λ (m : Named). IsModule m.held) modules → AllByRecursion (λ (m : Named). All (IsFine MAX_DEPTH) m.held.objects) modules → AllByRecursion IsReady modules
ready_by [] ascii read fine = tt
ready_by (m ∷ ms) ascii read fine = (record { source = record { ascii = ascii.0; read = read.0 }; fine = fine.0 }, ready_by ms ascii.1 read.1 fine.1)

pub are_ready : (modules : List Named) → All (λ (m : Named). IsAscii m.name) modules → All (λ (m : Named). IsModule m.held) modules → All (λ (m : Named). All (IsFine MAX_DEPTH) m.held.objects) modules → AllByRecursion IsReady modules
are_ready modules ascii read fine =
    ready_by modules (recursion_from_All (λ (m : Named). IsAscii m.name) modules ascii) (recursion_from_All (λ (m : Named). IsModule m.held) modules read) (recursion_from_All (λ (m : Named). All (IsFine MAX_DEPTH) m.held.objects) modules fine)
