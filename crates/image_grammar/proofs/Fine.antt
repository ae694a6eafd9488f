-- The texts of an image are short, and those of its modules' tables are such as a file has.
use Rattle.std.proofs.Common.{◌≡◌, ℕ, zero, suc, ◌+◌, ◌*◌, ◌<◌, ◌≤◌, ◌-◌, ◌^◌, Bool, true, false, cond, ◌||◌, nat_lt, eqb, List, [], ◌∷◌, ◌++◌, length, length-append, Option, Some, None, Ok, refl, sym, ap, subst, ◌∙◌, append_assoc, inl, inr, arith}
use Rattle.std.specs.Prelude.{All, Contains, slice_get}
use Rattle.std.specs.List.{list_any}
use Rattle.std.specs.Str.{bytes_eq}
use Rattle.std.proofs.lemmas.Map.Views.{Contains-from_any}
use Rattle.std.proofs.lemmas.List.Folds.{list_any_at}
use Rattle.std.proofs.lemmas.Slice.Eq.{bytes_eq-Decides}
use Rattle.std.proofs.lemmas.Bool.Decides.{nat_tests}
use Rattle.std.proofs.lemmas.List.{length_push}
use Rattle.std.proofs.lemmas.List.Elements.{All-nil, All-push, All-get_or}
use Rattle.std.proofs.lemmas.Option.{slice_get_within, get_or_from_slice_get}
use Rattle.mpy_base.specs.declared.limits.TheConstants.{MAX_IMAGE_BYTES, MAX_TABLE, MAX_DEPTH}
use Rattle.mpy_base.specs.Vuint.{Spells, vuint}
use Rattle.mpy_base.proofs.Groups as groups
use Rattle.qstr_pool.specs.declared.table.TheConstants.{STATIC_COUNT, FIRST_OWN}
use Rattle.qstr_pool.specs.Pool.{Texts}
use Rattle.mpy_reader.specs.mpy_tree.declared.raw.Qstr.{Qstr}
use Rattle.mpy_reader.specs.mpy_tree.declared.raw.Qstr.TheVariants.{Static, Own}
use Rattle.mpy_reader.specs.mpy_tree.declared.module.Constant.{Constant}
use Rattle.mpy_reader.specs.mpy_tree.declared.raw.RawCode.{RawCode}
use Rattle.mpy_reader.specs.mpy_tree.File.{Many, IsQstr, IsCode, IsModule}
use Rattle.mpy_reader.specs.Body.{IsBody}
use Rattle.mpy_reader.proofs.Bodies.{body_found}
use Rattle.bc_library.proofs.Pools.{below_first, from_first_own, text_there}
use Rattle.qstr_pool.specs.Static.{static_text_of}
use Rattle.image_grammar.specs.declared.entry.Entry.{Entry}
use Rattle.image_grammar.specs.declared.entry.Opened.{Opened}
use Rattle.image_grammar.specs.declared.names.Table.{Table}
use Rattle.image_grammar.specs.Fine.{IsFineText, IsFinePool}
use Rattle.image_grammar.specs.Image.{IsOwnText}
use Rattle.image_grammar.specs.Opening.{number, count, IsNew, with_last, own_text, table, use_of, IsUse, used_with, qstr_of, qstr, qstr_table, module_of, Base, entry, entry_of, IsHeader, counts_below, nothing_is_below, base, names_of, body}
use Rattle.image_grammar.proofs.Inversion.{bind_ok, judge_ok, ok_is, ok_parts, chosen, Keeps, times_keeps, Many-push}

-- what is read of a text
pub record OwnRead (pool : Texts) (bytes : List ℕ) (new : Texts) (rest : List ℕ) : Type 0 where
  pub own : List ℕ
  pub text : List ℕ
  pub spelled : IsOwnText text own
  pub bytes_are : bytes ≡ text ++ rest
  pub new_is : new ≡ with_last pool own
  pub is_new : IsNew pool own

pub own_text_found : (pool new : Texts) (bytes rest : List ℕ) → own_text pool bytes (Ok (new, rest)) → OwnRead pool bytes new rest
unfolding own_text
own_text_found pool new bytes rest h =
    let a = bind_ok _ _ _ h in
    let b = bind_ok _ _ _ a.2 in
    let d = bind_ok _ _ _ b.2 in
    let f = judge_ok _ _ _ _ d.2 in
    let both = ok_parts new (with_last pool d.0) rest b.0.1 f.1 in
    let whole : a.0.1 ≡ (d.0 ++ 0 ∷ []) ++ b.0.1 = b.1.parts ∙ ap (λ (z : List ℕ). z ++ b.0.1) d.1.ends in
    let count : length (d.0 ++ 0 ∷ []) ≡ a.0.0 + 1 = sym (ap length d.1.ends) ∙ b.1.length_is in
    let len : a.0.0 ≡ length d.0 = omega (arith, count, length_push d.0 0) in
    record {
      own = d.0;
      text = a.1.0 ++ (d.0 ++ 0 ∷ []);
      spelled = record { front = a.1.0; text_is = refl; spells = subst (λ z. Spells a.1.0 z) len a.1.1; ascii = d.1.ascii };
      bytes_are = a.1.2 ∙ (ap (λ (z : List ℕ). a.1.0 ++ z) whole ∙ (sym (append_assoc a.1.0 (d.0 ++ 0 ∷ []) b.0.1) ∙ ap (λ (z : List ℕ). (a.1.0 ++ (d.0 ++ 0 ∷ [])) ++ z) (sym both.1)));
      new_is = both.0;
      is_new = f.0;
    }

-- the texts are fine, and no more bytes are left than an image has
pub record FinePool (i : ℕ) (pool : Texts) (rest : List ℕ) : Type 0 where
  pub first : pool.first ≡ FIRST_OWN
  pub fine : All IsFineText pool.texts
  pub left : length rest ≤ MAX_IMAGE_BYTES

fine_step : Keeps own_text FinePool
fine_step = record {
  next = λ i pool new bytes rest p h.
      let r = own_text_found pool new bytes rest h in
      let s = r.spelled in
      let left = p.left in
      let all : length bytes ≡ length r.text + length rest = ap length r.bytes_are ∙ length-append r.text rest in
      let own : length r.text ≡ length s.front + length (r.own ++ 0 ∷ []) = ap length s.text_is ∙ length-append s.front (r.own ++ 0 ∷ []) in
      let short : length r.own ≤ MAX_IMAGE_BYTES = omega (arith, all, own, length_push r.own 0, left) in
      record {
        first = ap (λ (z : Texts). z.first) r.new_is ∙ p.first;
        fine = subst (λ (z : Texts). All IsFineText z.texts) (sym r.new_is) (All-push IsFineText pool.texts r.own p.fine (record { ascii = s.ascii; short = short }));
        left = omega (arith, all, left);
      };
}

pub count_few : (most n : ℕ) (bytes rest : List ℕ) → count most bytes (Ok (n, rest)) → n ≤ most
unfolding count
count_few most n bytes rest h =
    let a = bind_ok _ _ _ h in
    let b = judge_ok _ _ _ _ a.2 in
    let both = ok_parts n a.0.0 rest a.0.1 b.1 in
    subst (λ (z : ℕ). z ≤ most) (sym both.0) b.0

number_left : (bytes rest : List ℕ) (n : ℕ) → number bytes (Ok (n, rest)) → length rest ≤ length bytes
number_left bytes rest n h = omega (arith, ap length h.2, length-append h.0 rest)

count_left : (most n : ℕ) (bytes rest : List ℕ) → count most bytes (Ok (n, rest)) → length rest ≤ length bytes
unfolding count
count_left most n bytes rest h =
    let a = bind_ok _ _ _ h in
    let b = judge_ok _ _ _ _ a.2 in
    let both = ok_parts n a.0.0 rest a.0.1 b.1 in
    subst (λ (z : List ℕ). length z ≤ length bytes) (sym both.1) (number_left bytes a.0.1 a.0.0 a.1)

pub table_fine : (start pool : Texts) (bytes rest : List ℕ) → IsFinePool start → length bytes ≤ MAX_IMAGE_BYTES → table start bytes (Ok (pool, rest)) → IsFinePool pool
unfolding table
table_fine start pool bytes rest fine short h =
    let a = bind_ok _ _ _ h in
    let left = count_left _ _ _ _ a.1 in
    let f = times_keeps own_text FinePool fine_step a.0.0 0 start pool a.0.1 rest (record { first = fine.first; fine = fine.fine; left = omega (arith, short, left) }) a.2 in
    record { first = f.first; fine = f.fine }

-- tables
-- ======

abbrev pub IsFineQstr : Qstr → Type 0
IsFineQstr (Static number) = (1 ≤ number) × (number ≤ STATIC_COUNT)
IsFineQstr (Own text) = IsFineText text

-- the bytes that a file has for an entry
spelled_qstr : (q : Qstr) → IsFineQstr q → (text : List ℕ) × IsQstr text q
spelled_qstr (Static number) fine =
    let few : 2 * number + 1 < 2 ^ 31 = omega (arith, fine.1) in
    (vuint (2 * number + 1), record { spells = groups.vuint_spells (2 * number + 1) few; from_one = fine.0; known = fine.1 })
spelled_qstr (Own text) fine =
    let short = fine.short in
    let few : 2 * length text < 2 ^ 31 = omega (arith, short) in
    (vuint (2 * length text) ++ (text ++ 0 ∷ []), record { front = vuint (2 * length text); text_is = refl; spells = groups.vuint_spells (2 * length text) few; ascii = fine.ascii })

-- the entries so far are such as a file has
pub record FineTable (start i : ℕ) (table : Table) (rest : List ℕ) : Type 0 where
  pub text : List ℕ
  pub spelled : Many IsQstr text table.qstrs
  pub number : length table.qstrs ≡ i

pub use_found : (pool : Texts) (used n after : ℕ) (text : List ℕ) → use_of pool used n (Ok (text, after)) → IsUse pool used n text × (after ≡ used_with used n)
unfolding use_of
use_found pool used n after text h =
    let a = bind_ok _ _ _ h in
    let both = ok_parts text a.0 after (used_with used n) a.2 in
    (subst (λ z. IsUse pool used n z) (sym both.0) a.1, both.1)

not_none : (text : List ℕ) (b : Bool) (n : ℕ) → n < 1 → b ≡ nat_lt n 1 → (r : Option (List ℕ)) → cond b None r ≡ Some text → ⊥
not_none text true n lt e r h = absurd cc
not_none text false n lt e r h = absurd (grind (arith, nat_tests))

static_from_one : (n : ℕ) (text : List ℕ) → static_text_of n ≡ Some text → 1 ≤ n
static_from_one n text e = by (nat_lt n 1) n refl e
  where
    by : (b : Bool) (n : ℕ) → b ≡ nat_lt n 1 → static_text_of n ≡ Some text → 1 ≤ n
    by true n k h = let lt : n < 1 = grind (arith, nat_tests) in absurd (not_none text (nat_lt n 1) n lt refl _ h)
    by false n k h = grind (arith, nat_tests)

All-at : {A : Type 0} (P : A → Type 0) (xs : List A) (i : ℕ) (x : A) → All P xs → slice_get xs i ≡ Some x → P x
All-at P xs i x all e = subst P (get_or_from_slice_get xs i x x e) (All-get_or P xs i x (slice_get_within xs i x e) all)

pub fine_entry : (pool : Texts) (used n : ℕ) (text : List ℕ) → pool.first ≡ FIRST_OWN → All IsFineText pool.texts → IsUse pool used n text → IsFineQstr (qstr_of n text)
fine_entry pool used n text first fine u = by (nat_lt n FIRST_OWN) refl
  where
    by : (b : Bool) → b ≡ nat_lt n FIRST_OWN → IsFineQstr (cond b (Static n) (Own text))
    by true e =
        let lt : n < FIRST_OWN = grind (arith, nat_tests) in
        (static_from_one n text (below_first pool n lt ∙ u.text_is), omega (arith, lt))
    by false e =
        let le : FIRST_OWN ≤ n = grind (arith, nat_tests) in
        let at = sym (text_there pool (n - FIRST_OWN) n first (omega (arith, le))) ∙ (from_first_own pool n le ∙ u.text_is) in
        All-at IsFineText pool.texts (n - FIRST_OWN) text fine at

table_step : (pool : Texts) (start : ℕ) → pool.first ≡ FIRST_OWN → All IsFineText pool.texts → Keeps (qstr pool) (FineTable start)
unfolding qstr
table_step pool start first fine = record {
  next = λ i table new bytes rest p h.
      let a = bind_ok _ _ _ h in
      let b = bind_ok _ _ _ a.2 in
      let u = use_found pool table.used a.0.0 b.0.1 b.0.0 b.1 in
      let entry = qstr_of a.0.0 b.0.0 in
      let both = ok_parts new (record { qstrs = table.qstrs ++ entry ∷ []; used = b.0.1 }) rest a.0.1 b.2 in
      let s = spelled_qstr entry (fine_entry pool table.used a.0.0 b.0.0 first fine u.0) in
      let number = p.number in
      subst (λ (z : Table). FineTable start (suc i) z rest) (sym both.0) (record {
        text = p.text ++ s.0;
        spelled = Many-push IsQstr p.text s.0 table.qstrs entry p.spelled s.1;
        number = omega (arith, number, length_push table.qstrs entry);
      });
}

pub record IsFineTable (qstrs : List Qstr) : Type 0 where
  pub text : List ℕ
  pub spelled : Many IsQstr text qstrs
  pub few : length qstrs ≤ MAX_TABLE

pub qstr_table_fine : (pool : Texts) (used : ℕ) (table : Table) (bytes rest : List ℕ) → pool.first ≡ FIRST_OWN → All IsFineText pool.texts → qstr_table pool used bytes (Ok (table, rest)) → IsFineTable table.qstrs
unfolding qstr_table
qstr_table_fine pool used table bytes rest first fine h =
    let a = bind_ok _ _ _ h in
    let n = count_few MAX_TABLE a.0.0 bytes a.0.1 a.1 in
    let f = times_keeps (qstr pool) (FineTable used) (table_step pool used first fine) a.0.0 0 (record { qstrs = []; used = used }) table a.0.1 rest (record { text = []; spelled = refl; number = refl }) a.2 in
    let number = f.number in
    record { text = f.text; spelled = f.spelled; few = omega (arith, number, n) }

-- modules
-- =======

some_texts : (levels texts : ℕ) (text : List ℕ) (code : RawCode) → IsCode levels texts text code → 1 ≤ texts
unfolding IsCode
some_texts zero texts text code s = absurd s
some_texts (suc levels) texts text code s =
    let b = s.is_own.begins in
    let some : 0 < length b.indexes = let n = b.count in omega (arith, n) in
    let first = (s.is_own.names) 0 0 some in
    omega (arith, first)

pub is_module : (qstrs : List Qstr) (text : List ℕ) (parts : List Constant × RawCode) → IsFineTable qstrs → IsBody (length qstrs) text parts → IsModule (module_of qstrs parts)
is_module qstrs text parts t s =
    let few = t.few in
    let some = some_texts MAX_DEPTH (length qstrs) s.outermost parts.1 s.is_code in
    let small : length qstrs < 2 ^ 31 = omega (arith, few) in (
      0x4d ∷ 6 ∷ 0 ∷ 31 ∷ (vuint (length qstrs) ++ (s.object_count ++ (t.text ++ (s.objects ++ s.outermost)))),
      record {
        qstr_count = vuint (length qstrs);
        object_count = s.object_count;
        qstrs = t.text;
        objects = s.objects;
        code = s.outermost;
        text_is = refl;
        some_bits = omega arith;
        few_bits = omega arith;
        counts_qstrs = groups.vuint_spells (length qstrs) small;
        counts_objects = s.counts_objects;
        some_qstrs = some;
        few_qstrs = few;
        few_objects = s.few_objects;
        are_qstrs = t.spelled;
        are_objects = s.are_objects;
        is_code = s.is_code;
      },
    )

-- how many were read
-- ==================

pub text_grows : (pool new : Texts) (bytes rest : List ℕ) → own_text pool bytes (Ok (new, rest)) → length new.texts ≡ length pool.texts + 1
text_grows pool new bytes rest h =
    let r = own_text_found pool new bytes rest h in
    ap (λ (z : Texts). length z.texts) r.new_is ∙ length_push pool.texts r.own

pub entries_grow : (below : Base) (pool : Texts) (opened new : Opened) (bytes rest : List ℕ) → entry below pool opened bytes (Ok (new, rest)) → length new.entries ≡ length opened.entries + 1
unfolding entry
entries_grow below pool opened new bytes rest h =
    let a = bind_ok _ _ _ h in
    let b = bind_ok _ _ _ a.2 in
    let e = entry_of a.0.0.0 b.0.0.0 in
    let both = ok_parts new (record { entries = opened.entries ++ e ∷ []; used = b.0.0.1 }) rest b.0.1 b.2 in
    ap (λ (z : Opened). length z.entries) both.0 ∙ length_push opened.entries e

-- what is left behind the header
-- ==============================

pub header_left : (bytes rest : List ℕ) (version : ℕ) → IsHeader bytes version rest → length rest ≤ length bytes
header_left bytes rest version h = let e = ap length h.bytes_are in omega (arith, e)

pub base_left : (below : Base) (version : ℕ) (bytes rest : List ℕ) → base below version bytes (Ok rest) → length rest ≤ length bytes
unfolding base nothing_is_below counts_below
base_left below version bytes rest h =
    elim (chosen (eqb version 1) _ _ _ h) [
      | inl s ↦
          let a = judge_ok _ _ _ _ s.1 in
          let same : rest ≡ bytes = ok_is rest bytes a.1 in
          omega (arith, ap length same)
      | inr s ↦
          let a = bind_ok _ _ _ s.1 in
          let b = bind_ok _ _ _ a.2 in
          let d = judge_ok _ _ _ _ b.2 in
          let same : rest ≡ b.0.1 = ok_is rest b.0.1 d.1 in
          let first = number_left bytes a.0.1 a.0.0 a.1 in
          let second = number_left a.0.1 b.0.1 b.0.0 b.1 in
          omega (arith, ap length same, first, second)
    ]

-- names
-- =====

any_name : (p : List ℕ → Bool) (entries : List Entry) → list_any (λ (e : Entry). p e.name) entries ≡ list_any p (names_of entries)
any_name p [] = refl
any_name p (e ∷ es) = ap (λ (b : Bool). p e.name || b) (any_name p es)

pub named_there : (entries : List Entry) (name : List ℕ) → list_any (λ (e : Entry). bytes_eq name e.name) entries ≡ true → Contains (names_of entries) name
named_there entries name e = Contains-from_any (λ x y h. (bytes_eq-Decides x y).0 h) name (names_of entries) (sym (any_name (bytes_eq name) entries) ∙ e)

pub not_named : (entries : List Entry) (name : List ℕ) → list_any (λ (e : Entry). bytes_eq name e.name) entries ≡ false → Contains (names_of entries) name → ⊥
not_named entries name e (k, lt, is) =
    let there : list_any (bytes_eq name) (names_of entries) ≡ true = list_any_at (bytes_eq name) (names_of entries) k name lt ((bytes_eq-Decides name _).1 (sym is)) in
    let none : list_any (bytes_eq name) (names_of entries) ≡ false = sym (any_name (bytes_eq name) entries) ∙ e in
    absurd cc

-- what is read of a module without its name is a module
pub raw_module : (pool : Texts) (used index : ℕ) (table : Table) (bytes behind rest : List ℕ) (texts : ℕ) (objects : List Constant) (code : RawCode) → IsFinePool pool → qstr_table pool used bytes (Ok (table, behind)) → texts ≡ length table.qstrs → body index texts behind (Ok ((objects, code), rest)) → IsModule (module_of table.qstrs (objects, code))
raw_module pool used index table bytes behind rest texts objects code fine h count k =
    let t = qstr_table_fine pool used table bytes behind fine.first fine.fine h in
    let s = (body_found texts).found behind rest (objects, code) k in
    is_module table.qstrs s.0 (objects, code) t (subst (λ (z : ℕ). IsBody z s.0 (objects, code)) count s.1)
