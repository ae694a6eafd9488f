-- The pool of modules that are to be in an image.
use Rattle.std.proofs.Common.{◌≡◌, ◌⊎◌, ℕ, zero, suc, ◌+◌, ◌-◌, ◌<◌, ◌≤◌, ◌^◌, Bool, true, false, cond, eqb, nat_lt, List, [], ◌∷◌, ◌++◌, length, length-append, drop, get_or, map, All, Option, Some, None, refl, sym, ap, ap₂, subst, ◌∙◌, inl, inr, arith}
use Rattle.std.specs.Prelude.{slice_get, unwrap_or}
use Rattle.std.specs.List.{AllByRecursion, cons_option, filter_map, flat_map, list_any}
use Rattle.std.specs.Option.{option_or, option_to_list}
use Rattle.std.specs.Str.{bytes_eq}
use Rattle.std.proofs.lemmas.Bool.Decides.{nat_tests}
use Rattle.std.proofs.lemmas.List.{drop_at}
use Rattle.std.proofs.lemmas.List.Elements.{All-from_recursion, recursion_from_All}
use Rattle.std.proofs.lemmas.Option.{slice_get_within, slice_get-get_or}
use Rattle.mpy_base.specs.declared.limits.TheConstants.{MAX_IMAGE_BYTES, MAX_TABLE}
use Rattle.mpy_base.specs.Vuint.{vuint}
use Rattle.mpy_base.proofs.Groups.{vuint_spells}
use Rattle.qstr_pool.specs.declared.table.TheConstants.{FIRST_OWN, STATIC_COUNT}
use Rattle.qstr_pool.specs.Pool.{Texts, interned, number_of, text_of}
use Rattle.qstr_pool.specs.Static.{static_number_of, static_pool, static_text_of}
use Rattle.qstr_pool.proofs.Pools.{one_to_one}
use Rattle.mpy_writer.specs.mpy_tree.declared.raw.Qstr.{Qstr}
use Rattle.mpy_writer.specs.mpy_tree.declared.raw.Qstr.TheVariants.{Static, Own}
use Rattle.mpy_writer.specs.mpy_tree.Raw as raws
use Rattle.mpy_writer.specs.mpy_tree.Raw.{Module}
use Rattle.mpy_writer.specs.mpy_tree.File.{IsAscii, IsModule}
use Rattle.mpy_writer.specs.File.{entry_of, qstr_of}
use Rattle.mpy_writer.proofs.Lists.{together}
use Rattle.image_open.specs.bc_library.Fine.{FineQstr}
use Rattle.image_open.specs.bc_library.Own.{IsOwnPool}
use Rattle.image_open.specs.bc_library.Texts.{IsPlain, last_part, text_numbered, texts_of, with_text, with_texts}
use Rattle.image_open.proofs.bc_library_lemmas.Files.{fine_qstrs}
use Rattle.image_open.proofs.bc_library_lemmas.Pools.{same_first, text_there, with_append, with_own, with_static}
use Rattle.image_open.specs.image_grammar.Image.{IsOwnText, texts_used}
use Rattle.image_open.specs.image_grammar.Opening.{Base, number_in, pool_below}
use Rattle.image_open.proofs.Found.{numbered_is}
use Rattle.image_open.proofs.Turns.{begins}
use Rattle.image_open.proofs.Uses.{IsProper, place_of}
use Rattle.image_open.proofs.Written.{AreOnce, once_texts}
use Rattle.image_freeze.specs.declared.named.Named.{Named}
use Rattle.image_freeze.specs.Frozen.{entries_of, frozen, frozen_qstr, own_bytes, pool_of, text_number}
use Rattle.image_freeze.proofs.Loops.{each_of}

-- a frozen module has the same texts
-- ==================================

pub static_text : (text : List ℕ) (n : ℕ) → static_number_of text ≡ Some n → static_text_of n ≡ Some text
static_text text n e = ((one_to_one static_pool refl).inverse text n).0 e

pub same_text : (q : Qstr) → raws.text_of (frozen_qstr q) ≡ raws.text_of q
same_text (Static n) = refl
same_text (Own text) = by (static_number_of text) refl
  where
    by : (o : Option ℕ) → static_number_of text ≡ o → raws.text_of (entry_of text o) ≡ Some text
    by (Some n) e = static_text text n e
    by None e = refl

same_table : (qstrs : List Qstr) → filter_map raws.text_of (map frozen_qstr qstrs) ≡ filter_map raws.text_of qstrs
same_table [] = refl
same_table (q ∷ qstrs) = ap₂ (λ (o : Option (List ℕ)) (texts : List (List ℕ)). cons_option o texts) (same_text q) (same_table qstrs)

pub same_texts : (name : List ℕ) (m : Module) → texts_of name (frozen m) ≡ texts_of name m
same_texts name m = ap (λ (texts : List (List ℕ)). name ∷ (option_to_list (last_part name) ++ texts)) (same_table m.qstrs)

abbrev pub raw_texts : List Named → List (List ℕ)
raw_texts modules = flat_map (λ (m : Named). texts_of m.name m.held) modules

pub used_is : (modules : List Named) → texts_used (entries_of modules) ≡ raw_texts modules
used_is [] = refl
used_is (m ∷ ms) = ap₂ (λ (xs ys : List (List ℕ)). xs ++ ys) (same_texts m.name m.held) (used_is ms)

-- its texts are ASCII
-- ===================

abbrev pub AsciiBytes : List ℕ → Type 0
AsciiBytes text = AllByRecursion (λ byte. byte < 128) text

-- a text that goes into the pool is ASCII
pub record IsUsable (text : List ℕ) : Type 0 where
  pub ascii : static_number_of text ≡ None → AsciiBytes text

interned_ascii : (pool : Texts) (text : List ℕ) (b : Bool) → AllByRecursion AsciiBytes pool.texts → AsciiBytes text → AllByRecursion AsciiBytes (cond b pool (record { first = pool.first; texts = pool.texts ++ text ∷ [] })).texts
interned_ascii pool text true all is = all
interned_ascii pool text false all is = together AsciiBytes pool.texts (text ∷ []) all (is, tt)

text_ascii : (pool : Texts) (text : List ℕ) (o : Option ℕ) → static_number_of text ≡ o → AllByRecursion AsciiBytes pool.texts → IsUsable text → AllByRecursion AsciiBytes (with_text pool text).texts
text_ascii pool text (Some n) e all is = subst (λ (z : Texts). AllByRecursion AsciiBytes z.texts) (with_static pool text n e) all
text_ascii pool text None e all is = subst (λ (z : Texts). AllByRecursion AsciiBytes z.texts) (with_own pool text e) (interned_ascii pool text (list_any (bytes_eq text) pool.texts) all (is.ascii e))

texts_ascii : (pool : Texts) (texts : List (List ℕ)) → AllByRecursion AsciiBytes pool.texts → AllByRecursion IsUsable texts → AllByRecursion AsciiBytes (with_texts pool texts).texts
texts_ascii pool [] all usable = all
texts_ascii pool (text ∷ texts) all usable = texts_ascii (with_text pool text) texts (text_ascii pool text (static_number_of text) refl all usable.0) usable.1

part_by : (b : Bool) (behind : Option (List ℕ)) (name part : List ℕ) → AsciiBytes name → (behind ≡ Some part → AsciiBytes part) → option_or behind (cond b (Some name) None) ≡ Some part → AsciiBytes part
part_by b (Some p) name part is inner e = inner e
part_by true None name part is inner e = let same : name ≡ part = cc in subst AsciiBytes same is
part_by false None name part is inner e = absurd cc

part_ascii : (name part : List ℕ) → AsciiBytes name → last_part name ≡ Some part → AsciiBytes part
part_ascii [] part is e = absurd cc
part_ascii (byte ∷ name) part is e = part_by (eqb byte 46) (last_part name) name part is.1 (λ f. part_ascii name part is.1 f) e

parts_usable : (o : Option (List ℕ)) → ((part : List ℕ) → o ≡ Some part → AsciiBytes part) → AllByRecursion IsUsable (option_to_list o)
parts_usable None each = tt
parts_usable (Some part) each = (record { ascii = λ none. each part refl }, tt)

entry_usable : (q : Qstr) (o : Option (List ℕ)) (rest : List (List ℕ)) → raws.text_of q ≡ o → FineQstr q → AllByRecursion IsUsable rest → AllByRecursion IsUsable (cons_option o rest)
entry_usable q None rest e fine others = others
entry_usable (Static n) (Some text) rest e fine others =
    let known : static_number_of text ≡ Some n = ((one_to_one static_pool refl).inverse text n).1 e in
    (record { ascii = λ none. absurd (let both = sym known ∙ none in cc) }, others)
entry_usable (Own text) (Some other) rest e fine others =
    let same : text ≡ other = cc in
    (record { ascii = λ none. subst AsciiBytes same (recursion_from_All (λ byte. byte < 128) text fine.ascii) }, others)

table_usable : (qstrs : List Qstr) → AllByRecursion FineQstr qstrs → AllByRecursion IsUsable (filter_map raws.text_of qstrs)
table_usable [] fine = tt
table_usable (q ∷ qstrs) fine = entry_usable q (raws.text_of q) (filter_map raws.text_of qstrs) refl fine.0 (table_usable qstrs fine.1)

-- what holds of each of the modules
pub record IsSource (m : Named) : Type 0 where
  pub ascii : IsAscii m.name
  pub read : IsModule m.held

pub fine_table : (m : Module) → IsModule m → AllByRecursion FineQstr m.qstrs
fine_table m read = each_of FineQstr m.qstrs (fine_qstrs m read)

module_usable : (m : Named) → IsSource m → AllByRecursion IsUsable (texts_of m.name m.held)
module_usable m s =
    let name = recursion_from_All (λ byte. byte < 128) m.name s.ascii in (
      record { ascii = λ none. name },
      together IsUsable (option_to_list (last_part m.name)) (filter_map raws.text_of m.held.qstrs) (parts_usable (last_part m.name) (λ part e. part_ascii m.name part name e)) (table_usable m.held.qstrs (fine_table m.held s.read)),
    )

modules_usable : (modules : List Named) → AllByRecursion IsSource modules → AllByRecursion IsUsable (raw_texts modules)
modules_usable [] all = tt
modules_usable (m ∷ ms) all = together IsUsable (texts_of m.name m.held) (raw_texts ms) (module_usable m all.0) (modules_usable ms all.1)

-- its texts are spelled so, and give numbers
-- ===========================================

-- the pool below with the texts of the modules, which are few and short
pub record IsPoolOf (below : Base) (modules : List Named) (pool : Texts) : Type 0 where
  pub below_proper : IsProper (pool_below below)
  pub pool_is : pool ≡ with_texts (pool_below below) (raw_texts modules)
  pub few : length pool.texts ≤ MAX_TABLE
  pub short : All (λ text. length text ≤ MAX_IMAGE_BYTES) (drop (length below.texts) pool.texts)

-- the texts of its own stand behind those below
pub own_behind : (below : Base) (modules : List Named) (pool : Texts) → pool ≡ with_texts (pool_below below) (raw_texts modules) → pool.texts ≡ below.texts ++ drop (length below.texts) pool.texts
own_behind below modules pool e =
    let b = begins (pool_below below) (raw_texts modules) in
    let texts : pool.texts ≡ below.texts ++ b.0 = ap (λ (z : Texts). z.texts) (e ∙ b.1) in
    let own : drop (length below.texts) pool.texts ≡ b.0 = ap (drop (length below.texts)) texts ∙ drop_at below.texts b.0 (length below.texts) refl in
    texts ∙ ap (λ (z : List (List ℕ)). below.texts ++ z) (sym own)

behind : {A : Type 0} (P : A → Type 0) (xs ys : List A) → AllByRecursion P (xs ++ ys) → AllByRecursion P ys
behind P [] ys all = all
behind P (x ∷ xs) ys all = behind P xs ys all.1

below_plain : (below : Base) → IsProper (pool_below below) → AllByRecursion IsPlain below.texts
below_plain below proper = each_of IsPlain below.texts (λ k text e. (proper.own.each k text e).plain)

below_ascii : (below : Base) → IsProper (pool_below below) → AllByRecursion AsciiBytes below.texts
below_ascii below proper = each_of AsciiBytes below.texts (λ k text e. recursion_from_All (λ byte. byte < 128) text (proper.own.each k text e).plain.ascii)

pub own_ascii : (below : Base) (modules : List Named) (pool : Texts) → IsPoolOf below modules pool → AllByRecursion IsSource modules → AllByRecursion AsciiBytes (drop (length below.texts) pool.texts)
own_ascii below modules pool p all =
    let whole : AllByRecursion AsciiBytes pool.texts = subst (λ (z : Texts). AllByRecursion AsciiBytes z.texts) (sym p.pool_is) (texts_ascii (pool_below below) (raw_texts modules) (below_ascii below p.below_proper) (modules_usable modules all)) in
    behind AsciiBytes below.texts (drop (length below.texts) pool.texts) (subst (AllByRecursion AsciiBytes) (own_behind below modules pool p.pool_is) whole)

pub pool_once : (below : Base) (modules : List Named) (pool : Texts) → IsPoolOf below modules pool → AreOnce pool.texts
pool_once below modules pool p =
    let once : AreOnce below.texts = record { own = λ k text e. (p.below_proper.own.each k text e).own; differ = p.below_proper.differ } in
    subst (λ (z : Texts). AreOnce z.texts) (sym p.pool_is) (once_texts (pool_below below) (raw_texts modules) once)

nth : (P : List ℕ → Type 0) (xs : List (List ℕ)) (k : ℕ) (x : List ℕ) → AllByRecursion P xs → slice_get xs k ≡ Some x → P x
nth P [] k x all e = absurd cc
nth P (y ∷ ys) zero x all e = let same : y ≡ x = cc in subst P same all.0
nth P (y ∷ ys) (suc k) x all e = nth P ys k x all.1 e

owns_plain : (texts : List (List ℕ)) → AllByRecursion AsciiBytes texts → AllByRecursion (λ text. length text ≤ MAX_IMAGE_BYTES) texts → AllByRecursion IsPlain texts
owns_plain [] ascii short = tt
owns_plain (text ∷ texts) ascii short =
    let len = short.0 in
    (record { ascii = All-from_recursion (λ byte. byte < 128) text ascii.0; short = omega (arith, len) }, owns_plain texts ascii.1 short.1)

pub pool_proper : (below : Base) (modules : List Named) (pool : Texts) → IsPoolOf below modules pool → AllByRecursion IsSource modules → IsProper pool
pool_proper below modules pool p all =
    let own = drop (length below.texts) pool.texts in
    let once = pool_once below modules pool p in
    let plain = owns_plain own (own_ascii below modules pool p all) (recursion_from_All (λ (text : List ℕ). length text ≤ MAX_IMAGE_BYTES) own p.short) in
    let plains : AllByRecursion IsPlain pool.texts = subst (AllByRecursion IsPlain) (sym (own_behind below modules pool p.pool_is)) (together IsPlain below.texts own (below_plain below p.below_proper) plain) in
    record {
      own = record {
        first = ap (λ (z : Texts). z.first) p.pool_is ∙ same_first (pool_below below) (raw_texts modules);
        each = λ k text e. record { plain = nth IsPlain pool.texts k text plains e; own = once.own k text e };
      };
      differ = once.differ;
    }

own_spelled : (text : List ℕ) → AsciiBytes text → length text ≤ MAX_IMAGE_BYTES → IsOwnText (own_bytes text) text
own_spelled text ascii short = record { front = vuint (length text); text_is = refl; spells = vuint_spells (length text) (omega (arith, short)); ascii = All-from_recursion (λ byte. byte < 128) text ascii }

owns_spelled : (texts : List (List ℕ)) → AllByRecursion AsciiBytes texts → AllByRecursion (λ text. length text ≤ MAX_IMAGE_BYTES) texts → AllByRecursion (λ text. IsOwnText (own_bytes text) text) texts
owns_spelled [] ascii short = tt
owns_spelled (text ∷ texts) ascii short = (own_spelled text ascii.0 short.0, owns_spelled texts ascii.1 short.1)

pub texts_spelled : (below : Base) (modules : List Named) (pool : Texts) → IsPoolOf below modules pool → AllByRecursion IsSource modules → AllByRecursion (λ text. IsOwnText (own_bytes text) text) (drop (length below.texts) pool.texts)
texts_spelled below modules pool p all =
    let own = drop (length below.texts) pool.texts in
    owns_spelled own (own_ascii below modules pool p all) (recursion_from_All (λ (text : List ℕ). length text ≤ MAX_IMAGE_BYTES) own p.short)

-- a number that a text has
pub numbered_small : (pool : Texts) (text : List ℕ) (n : ℕ) → IsProper pool → length pool.texts ≤ MAX_TABLE → text_numbered pool n ≡ Some text → n < 2 ^ 31
numbered_small pool text n proper few e = by (nat_lt n FIRST_OWN) refl
  where
    by : (b : Bool) → b ≡ nat_lt n FIRST_OWN → n < 2 ^ 31
    by true k = let lt : n < FIRST_OWN = grind (arith, nat_tests) in omega (arith, lt)
    by false k =
        let le : FIRST_OWN ≤ n = grind (arith, nat_tests) in
        let at = slice_get_within pool.texts (n - FIRST_OWN) text (place_of pool n text proper.own le e) in
        omega (arith, at, few)

pub number_is : (pool : Texts) (text : List ℕ) (n : ℕ) → number_in pool text ≡ Some n → text_number pool text ≡ n
number_is pool text n e = ap (λ (o : Option ℕ). unwrap_or o 0) e

-- the text at a place behind the first ones of the pool
behind_at : (texts : List (List ℕ)) (from place : ℕ) → slice_get (drop from texts) place ≡ slice_get texts (from + place)
behind_at texts zero place = let n : place ≡ 0 + place = omega arith in ap (slice_get texts) n
behind_at [] (suc from) place = refl
behind_at (text ∷ texts) (suc from) place = let n : suc (from + place) ≡ suc from + place = omega arith in behind_at texts from place ∙ ap (slice_get (text ∷ texts)) n

pub text_at : (pool : Texts) (from place n : ℕ) → pool.first ≡ FIRST_OWN → n ≡ FIRST_OWN + (from + place) → place < length (drop from pool.texts) → text_of pool n ≡ Some (get_or (drop from pool.texts) place [])
text_at pool from place n first is lt =
    text_there pool (from + place) n first is ∙ (sym (behind_at pool.texts from place) ∙ slice_get-get_or (drop from pool.texts) place [] lt)

pub own_longer : (text : List ℕ) → length text ≤ length (own_bytes text)
own_longer text = omega (arith, length-append (vuint (length text)) (text ++ 0 ∷ []), length-append text (0 ∷ []))
