-- What is read of an image is spelled so.
use Rattle.std.proofs.Common.{◌≡◌, ℕ, suc, ◌+◌, ◌-◌, ◌<◌, ◌≤◌, Bool, true, false, cond, nat_lt, List, [], ◌∷◌, ◌++◌, length, Option, Some, None, Ok, refl, sym, ap, subst, ◌∙◌, append_assoc, arith}
use Rattle.std.specs.Prelude.{All, Contains, option_map, slice_get}
use Rattle.std.specs.List.{filter_map, cons_option}
use Rattle.std.specs.Option.{option_or, option_to_list}
use Rattle.std.proofs.lemmas.Bool.Decides.{nat_tests}
use Rattle.std.proofs.lemmas.List.{append-nil, map-append, length_push}
use Rattle.std.proofs.lemmas.List.Elements.{filter_map-append, All-nil, All-push}
use Rattle.std.proofs.lemmas.Grind.{flat_map-append}
use Rattle.mpy_base.specs.declared.limits.TheConstants.{MAX_MODULES, MAX_TABLE}
use Rattle.mpy_base.specs.Vuint.{Spells}
use Rattle.image_grammar.specs.mpy_tree.File.{Many}
use Rattle.image_grammar.specs.mpy_tree.Raw as raws
use Rattle.image_grammar.specs.mpy_tree.Raw.{Module}
use Rattle.image_grammar.specs.mpy_tree.declared.raw.Qstr.{Qstr}
use Rattle.image_grammar.specs.mpy_tree.declared.raw.Qstr.TheVariants.{Static, Own}
use Rattle.image_grammar.specs.mpy_reader.Body.{IsBody}
use Rattle.image_grammar.proofs.mpy_reader_lemmas.Bodies.{body_found}
use Rattle.image_grammar.specs.bc_verify.Verified.{IsVerified}
use Rattle.qstr_pool.specs.declared.table.TheConstants.{FIRST_OWN, STATIC_COUNT}
use Rattle.qstr_pool.specs.Pool.{Texts, number_of}
use Rattle.qstr_pool.specs.Static.{static_pool, static_text_of, static_number_of}
use Rattle.qstr_pool.proofs.Pools.{one_to_one}
use Rattle.image_grammar.proofs.bc_library_lemmas.Own.{plain_numbered}
use Rattle.image_grammar.specs.bc_library.Texts.{IsPlain, text_numbered, last_part, with_text, with_texts, texts_of}
use Rattle.image_grammar.proofs.bc_library_lemmas.Pools.{with_append, below_first, from_first_own, static_numbered, pool_numbered}
use Rattle.image_grammar.specs.declared.entry.Entry.{Entry}
use Rattle.image_grammar.specs.declared.entry.Opened.{Opened}
use Rattle.image_grammar.specs.declared.names.Table.{Table}
use Rattle.image_grammar.specs.Image.{IsEntry, IsNamed, Differ, texts_used}
use Rattle.image_grammar.specs.Opening.{Base, count, own_text, pool_below, table, IsUse, used_with, use_at, number_in, use_part, names_of, name, qstr_of, qstr, qstr_table, module_of, entry_of, raw, held, entry, none_opened, modules}
use Rattle.image_grammar.proofs.Inversion.{bind_ok, judge_ok, ok_is, ok_parts, Keeps, times_keeps, Many-push}
use Rattle.image_grammar.proofs.Fine.{use_found}
use Rattle.image_grammar.proofs.BaseTexts.{static_few}
use Rattle.image_open.proofs.Pools.{TextsRead, none_read, text_step}
use Rattle.image_open.proofs.Uses.{IsProper, Used, used_further}

-- counts
pub record CountRead (most : ℕ) (bytes : List ℕ) (n : ℕ) (rest : List ℕ) : Type 0 where
  pub text : List ℕ
  pub spells : Spells text n
  pub bytes_are : bytes ≡ text ++ rest
  pub few : n ≤ most

pub count_found : (most n : ℕ) (bytes rest : List ℕ) → count most bytes (Ok (n, rest)) → CountRead most bytes n rest
unfolding count
count_found most n bytes rest h =
    let a = bind_ok _ _ _ h in
    let b = judge_ok _ _ _ _ a.2 in
    let both = ok_parts n a.0.0 rest a.0.1 b.1 in
    subst (λ (z : ℕ). CountRead most bytes z rest) (sym both.0) (subst (λ (z : List ℕ). CountRead most bytes a.0.0 z) (sym both.1)
    (record { text = a.1.0; spells = a.1.1; bytes_are = a.1.2; few = b.0 }))

pub table_found : (below : Base) (pool : Texts) (bytes rest : List ℕ) → IsProper (pool_below below) → table (pool_below below) bytes (Ok (pool, rest))
    → (n : ℕ) × (behind : List ℕ) × CountRead (MAX_TABLE - length below.texts) bytes n behind × TextsRead below behind n pool rest
unfolding table
table_found below pool bytes rest proper h =
    let a = bind_ok _ _ _ h in
    let t = times_keeps own_text (TextsRead below a.0.1) (text_step below a.0.1) a.0.0 0 (pool_below below) pool a.0.1 rest (none_read below a.0.1 proper) a.2 in
    let n : a.0.0 + 0 ≡ a.0.0 = omega arith in
    (a.0.0, a.0.1, count_found _ _ _ _ a.1, subst (λ (z : ℕ). TextsRead below a.0.1 z pool rest) n t)

-- the number of a static text
not_none : (text : List ℕ) (b : Bool) (n : ℕ) → n < 1 → b ≡ nat_lt n 1 → (r : Option (List ℕ)) → cond b None r ≡ Some text → ⊥
not_none text true n lt e r h = absurd cc
not_none text false n lt e r h = absurd (grind (arith, nat_tests))

pub static_from_one : (n : ℕ) (text : List ℕ) → static_text_of n ≡ Some text → 1 ≤ n
static_from_one n text e = by (nat_lt n 1) n refl e
  where
    by : (b : Bool) (n : ℕ) → b ≡ nat_lt n 1 → static_text_of n ≡ Some text → 1 ≤ n
    by true n k h = let lt : n < 1 = grind (arith, nat_tests) in absurd (not_none text (nat_lt n 1) n lt refl _ h)
    by false n k h = grind (arith, nat_tests)

-- names
pub counted : (first n : ℕ) (r : Option ℕ) → option_map (λ place. first + place) r ≡ Some n → first ≤ n
counted first n None e = absurd cc
counted first n (Some i) e = let is : first + i ≡ n = cc in omega (arith, is)

pub pool_from : (pool : Texts) (text : List ℕ) (n : ℕ) → IsProper pool → number_of pool text ≡ Some n → FIRST_OWN ≤ n
pool_from pool text n proper e = let at = counted pool.first n _ e in let first = proper.own.first in omega (arith, at, first)

pub numbered_is : (pool : Texts) (text : List ℕ) (n : ℕ) → IsProper pool → number_in pool text ≡ Some n → text_numbered pool n ≡ Some text
numbered_is pool text n proper e = by (static_number_of text) refl e
  where
    by : (o : Option ℕ) → o ≡ static_number_of text → option_or o (number_of pool text) ≡ Some n → text_numbered pool n ≡ Some text
    by (Some k) is e =
        let same : k ≡ n = cc in
        let static : static_number_of text ≡ Some n = sym is ∙ ap Some same in
        static_numbered pool text n (one_to_one static_pool refl) static (static_few text n static)
    by None is e = pool_numbered pool text n (one_to_one pool proper.differ) e (pool_from pool text n proper e)

pub part_found : (pool now : Texts) (used after : ℕ) (part : Option (List ℕ)) → IsProper pool → use_part pool used part (Ok after) → Used pool used now → Used pool after (with_texts now (option_to_list part))
unfolding use_part use_at
part_found pool now used after None proper h s = let same : after ≡ used = ok_is after used h in subst (λ (z : ℕ). Used pool z now) (sym same) s
part_found pool now used after (Some part) proper h s = by (number_in pool part) refl h
  where
    by : (o : Option ℕ) → o ≡ number_in pool part → use_at pool used o (Ok after) → Used pool after (with_text now part)
    by None is h = absurd cc
    by (Some n) is h =
        let a = bind_ok _ _ _ h in
        let u = use_found pool used n a.0.1 a.0.0 a.1 in
        let there : text_numbered pool n ≡ Some part = numbered_is pool part n proper (sym is) in
        let turn = u.0.in_turn in
        let more = used_further pool now used n part proper (record { text_is = there; in_turn = turn }) s in
        let same : after ≡ used_with used n = ok_is after a.0.1 a.2 ∙ u.1 in
        subst (λ (z : ℕ). Used pool z (with_text now part)) (sym same) more

-- the number of a name, and what is used behind it
pub record NameRead (below : Base) (pool : Texts) (opened : Opened) (now : Texts) (bytes text : List ℕ) (used : ℕ) (rest : List ℕ) : Type 0 where
  pub spelled : List ℕ
  pub n : ℕ
  pub spells : Spells spelled n
  pub bytes_are : bytes ≡ spelled ++ rest
  pub text_is : text_numbered pool n ≡ Some text
  pub other : Contains (below.names ++ names_of opened.entries) text → ⊥
  pub after : Used pool used (with_texts now (text ∷ option_to_list (last_part text)))

pub name_made : (below : Base) (pool : Texts) (opened : Opened) (now : Texts) (bytes : List ℕ) (x y : List ℕ × ℕ) (rest w : List ℕ) → x ≡ y → rest ≡ w → NameRead below pool opened now bytes y.0 y.1 w → NameRead below pool opened now bytes x.0 x.1 rest
name_made below pool opened now bytes x y rest w e f h =
    subst (λ (z : List ℕ × ℕ). NameRead below pool opened now bytes z.0 z.1 rest) (sym e) (subst (λ (z : List ℕ). NameRead below pool opened now bytes y.0 y.1 z) (sym f) h)

pub name_found : (below : Base) (pool : Texts) (opened : Opened) (now : Texts) (bytes rest : List ℕ) (x : List ℕ × ℕ) → IsProper pool → Used pool opened.used now → name below pool opened bytes (Ok (x, rest)) → NameRead below pool opened now bytes x.0 x.1 rest
unfolding name
name_found below pool opened now bytes rest x proper s h =
    let a = bind_ok _ _ _ h in
    let b = bind_ok _ _ _ a.2 in
    let d = judge_ok _ _ _ _ b.2 in
    let f = bind_ok _ _ _ d.1 in
    let u = use_found pool opened.used a.0.0 b.0.1 b.0.0 b.1 in
    let first : Used pool b.0.1 (with_text now b.0.0) = subst (λ (z : ℕ). Used pool z (with_text now b.0.0)) (sym u.1) (used_further pool now opened.used a.0.0 b.0.0 proper u.0 s) in
    let both = ok_parts x (b.0.0, f.0) rest a.0.1 f.2 in
    name_made below pool opened now bytes x (b.0.0, f.0) rest a.0.1 both.0 both.1 (record {
      spelled = a.1.0;
      n = a.0.0;
      spells = a.1.1;
      bytes_are = a.1.2;
      text_is = u.0.text_is;
      other = d.0;
      after = part_found pool (with_text now b.0.0) b.0.1 f.0 (last_part b.0.0) proper f.1 first;
    })

-- tables
-- ======

pub entry_text : (pool : Texts) (used n : ℕ) (text : List ℕ) → IsUse pool used n text → raws.text_of (qstr_of n text) ≡ Some text
entry_text pool used n text u = by (nat_lt n FIRST_OWN) refl
  where
    by : (b : Bool) → b ≡ nat_lt n FIRST_OWN → raws.text_of (cond b (Static n) (Own text)) ≡ Some text
    by true e = let lt : n < FIRST_OWN = grind (arith, nat_tests) in below_first pool n lt ∙ u.text_is
    by false e = refl

pub is_entry : (pool : Texts) (used n : ℕ) (text spelled : List ℕ) → IsUse pool used n text → Spells spelled n → IsEntry pool spelled (qstr_of n text)
is_entry pool used n text spelled u s = by (nat_lt n FIRST_OWN) refl
  where
    by : (b : Bool) → b ≡ nat_lt n FIRST_OWN → IsEntry pool spelled (cond b (Static n) (Own text))
    by true e =
        let lt : n < FIRST_OWN = grind (arith, nat_tests) in
        (s, static_from_one n text (below_first pool n lt ∙ u.text_is), omega (arith, lt))
    by false e =
        let le : FIRST_OWN ≤ n = grind (arith, nat_tests) in
        (n, s, from_first_own pool n le ∙ u.text_is)

-- the entries so far
pub record TableRead (pool now : Texts) (start : List ℕ) (i : ℕ) (table : Table) (rest : List ℕ) : Type 0 where
  pub text : List ℕ
  pub spelled : Many (IsEntry pool) text table.qstrs
  pub bytes_are : start ≡ text ++ rest
  pub number : length table.qstrs ≡ i
  pub after : Used pool table.used (with_texts now (filter_map raws.text_of table.qstrs))

pub one_text : (qstrs : List Qstr) (q : Qstr) (text : List ℕ) → raws.text_of q ≡ Some text → filter_map raws.text_of (qstrs ++ q ∷ []) ≡ filter_map raws.text_of qstrs ++ text ∷ []
one_text qstrs q text e =
    filter_map-append raws.text_of qstrs (q ∷ []) ∙ ap (λ o. filter_map raws.text_of qstrs ++ cons_option o []) e

pub pushed_pool : (now : Texts) (qstrs : List Qstr) (q : Qstr) (text : List ℕ) → raws.text_of q ≡ Some text → with_texts now (filter_map raws.text_of (qstrs ++ q ∷ [])) ≡ with_text (with_texts now (filter_map raws.text_of qstrs)) text
pushed_pool now qstrs q text e = ap (with_texts now) (one_text qstrs q text e) ∙ with_append now (filter_map raws.text_of qstrs) (text ∷ [])

pub qstr_step : (pool now : Texts) (start : List ℕ) → IsProper pool → Keeps (qstr pool) (TableRead pool now start)
unfolding qstr
qstr_step pool now start proper = record {
  next = λ i table new bytes rest p h.
      let a = bind_ok _ _ _ h in
      let b = bind_ok _ _ _ a.2 in
      let u = use_found pool table.used a.0.0 b.0.1 b.0.0 b.1 in
      let q = qstr_of a.0.0 b.0.0 in
      let both = ok_parts new (record { qstrs = table.qstrs ++ q ∷ []; used = b.0.1 }) rest a.0.1 b.2 in
      let number = p.number in
      let before = with_texts now (filter_map raws.text_of table.qstrs) in
      let further : Used pool b.0.1 (with_text before b.0.0) = subst (λ (z : ℕ). Used pool z (with_text before b.0.0)) (sym u.1) (used_further pool before table.used a.0.0 b.0.0 proper u.0 p.after) in
      let whole : TableRead pool now start (suc i) (record { qstrs = table.qstrs ++ q ∷ []; used = b.0.1 }) a.0.1 = record {
        text = p.text ++ a.1.0;
        spelled = Many-push (IsEntry pool) p.text a.1.0 table.qstrs q p.spelled (is_entry pool table.used a.0.0 b.0.0 a.1.0 u.0 a.1.1);
        bytes_are = p.bytes_are ∙ (ap (λ (z : List ℕ). p.text ++ z) a.1.2 ∙ sym (append_assoc p.text a.1.0 a.0.1));
        number = omega (arith, number, length_push table.qstrs q);
        after = subst (λ (z : Texts). Used pool b.0.1 z) (sym (pushed_pool now table.qstrs q b.0.0 (entry_text pool table.used a.0.0 b.0.0 u.0))) further;
      } in
      subst (λ (z : Table). TableRead pool now start (suc i) z rest) (sym both.0) (subst (λ (z : List ℕ). TableRead pool now start (suc i) (record { qstrs = table.qstrs ++ q ∷ []; used = b.0.1 }) z) (sym both.1) whole);
}

pub qstr_table_found : (pool now : Texts) (used : ℕ) (table : Table) (bytes rest : List ℕ) → IsProper pool → Used pool used now → qstr_table pool used bytes (Ok (table, rest))
    → (n : ℕ) × (behind : List ℕ) × CountRead MAX_TABLE bytes n behind × TableRead pool now behind n table rest
unfolding qstr_table
qstr_table_found pool now used table bytes rest proper s h =
    let a = bind_ok _ _ _ h in
    let t = times_keeps (qstr pool) (TableRead pool now a.0.1) (qstr_step pool now a.0.1 proper) a.0.0 0 (record { qstrs = []; used = used }) table a.0.1 rest (record { text = []; spelled = refl; bytes_are = refl; number = refl; after = s }) a.2 in
    let n : a.0.0 + 0 ≡ a.0.0 = omega arith in
    (a.0.0, a.0.1, count_found _ _ _ _ a.1, subst (λ (z : ℕ). TableRead pool now a.0.1 z table rest) n t)

-- modules
-- =======

-- a module behind its name
pub record HeldRead (pool now : Texts) (bytes : List ℕ) (m : Module) (used : ℕ) (rest : List ℕ) : Type 0 where
  pub qstr_count : List ℕ
  pub numbers : List ℕ
  pub body : List ℕ
  pub bytes_are : bytes ≡ qstr_count ++ (numbers ++ (body ++ rest))
  pub bits : m.bits ≡ 31
  pub counts_qstrs : Spells qstr_count (length m.qstrs)
  pub few_qstrs : length m.qstrs ≤ MAX_TABLE
  pub are_qstrs : Many (IsEntry pool) numbers m.qstrs
  pub is_body : IsBody (length m.qstrs) body (m.objects, m.code)
  pub after : Used pool used (with_texts now (filter_map raws.text_of m.qstrs))
  pub verified : IsVerified m

pub held_made : (pool now : Texts) (bytes : List ℕ) (x y : Module × ℕ) (rest w : List ℕ) → x ≡ y → rest ≡ w → HeldRead pool now bytes y.0 y.1 w → HeldRead pool now bytes x.0 x.1 rest
held_made pool now bytes x y rest w e f h =
    subst (λ (z : Module × ℕ). HeldRead pool now bytes z.0 z.1 rest) (sym e) (subst (λ (z : List ℕ). HeldRead pool now bytes y.0 y.1 z) (sym f) h)

pub held_found : (pool now : Texts) (index used : ℕ) (bytes rest : List ℕ) (x : Module × ℕ) → IsProper pool → Used pool used now → held pool index used bytes (Ok (x, rest)) → HeldRead pool now bytes x.0 x.1 rest
unfolding held raw
held_found pool now index used bytes rest x proper s h =
    let a = bind_ok _ _ _ h in
    let v = judge_ok _ _ _ _ a.2 in
    let outer = ok_parts x a.0.0 rest a.0.1 v.1 in
    let b = bind_ok _ _ _ a.1 in
    let d = bind_ok _ _ _ b.2 in
    let t = qstr_table_found pool now used b.0.0 bytes b.0.1 proper s b.1 in
    let m : Module = module_of b.0.0.qstrs d.0.0 in
    let inner = ok_parts a.0.0 (m, b.0.0.used) a.0.1 d.0.1 d.2 in
    let n : t.0 ≡ length m.qstrs = sym t.3.number in
    let k = (body_found (length b.0.0.qstrs)).found b.0.1 d.0.1 d.0.0 d.1 in
    held_made pool now bytes x (m, b.0.0.used) rest d.0.1 (outer.0 ∙ inner.0) (outer.1 ∙ inner.1) (record {
      qstr_count = t.2.text;
      numbers = t.3.text;
      body = k.0;
      bytes_are = t.2.bytes_are ∙ ap (λ (z : List ℕ). t.2.text ++ z) (t.3.bytes_are ∙ ap (λ (z : List ℕ). t.3.text ++ z) k.2);
      bits = refl;
      counts_qstrs = subst (λ (z : ℕ). Spells t.2.text z) n t.2.spells;
      few_qstrs = subst (λ (z : ℕ). z ≤ MAX_TABLE) n t.2.few;
      are_qstrs = t.3.spelled;
      is_body = k.1;
      after = t.3.after;
      verified = subst (λ (z : Module × ℕ). IsVerified z.0) inner.0 v.0;
    })

-- the modules so far
pub record EntriesRead (below : Base) (pool : Texts) (start : List ℕ) (i : ℕ) (opened : Opened) (rest : List ℕ) : Type 0 where
  pub text : List ℕ
  pub spelled : Many (IsNamed pool) text opened.entries
  pub bytes_are : start ≡ text ++ rest
  pub number : length opened.entries ≡ i
  pub after : Used pool opened.used (with_texts (pool_below below) (texts_used opened.entries))
  pub differ : Differ below.names (names_of opened.entries)
  pub verified : All (λ entry. IsVerified entry.held) opened.entries
  pub plain : All (λ entry. IsPlain entry.name) opened.entries

pub differ_push : (before names : List (List ℕ)) (name : List ℕ) → Differ before names → (Contains (before ++ names) name → ⊥) → Differ before (names ++ name ∷ [])
differ_push before [] name d never = (subst (λ (z : List (List ℕ)). Contains z name → ⊥) (append-nil before) never, tt)
differ_push before (first ∷ others) name d never =
    (d.0, differ_push (before ++ first ∷ []) others name d.1 (subst (λ (z : List (List ℕ)). Contains z name → ⊥) (sym (append_assoc before (first ∷ []) others)) never))

pub used_push : (entries : List Entry) (e : Entry) → texts_used (entries ++ e ∷ []) ≡ texts_used entries ++ texts_of e.name e.held
used_push entries e = flat_map-append (λ (entry : Entry). texts_of entry.name entry.held) entries (e ∷ []) ∙ ap (λ (z : List (List ℕ)). texts_used entries ++ z) (append-nil (texts_of e.name e.held))

pub regrouped : (a b c d rest : List ℕ) → a ++ (b ++ (c ++ (d ++ rest))) ≡ (a ++ (b ++ (c ++ d))) ++ rest
regrouped a b c d rest = sym (simp append_assoc)

pub entry_step : (below : Base) (pool : Texts) (start : List ℕ) → IsProper pool → Keeps (entry below pool) (EntriesRead below pool start)
unfolding entry
entry_step below pool start proper = record {
  next = λ i opened new bytes rest p h.
      let a = bind_ok _ _ _ h in
      let b = bind_ok _ _ _ a.2 in
      let now = with_texts (pool_below below) (texts_used opened.entries) in
      let t = name_found below pool opened now bytes a.0.1 a.0.0 proper p.after a.1 in
      let first = with_texts now (a.0.0.0 ∷ option_to_list (last_part a.0.0.0)) in
      let k = held_found pool first (length opened.entries) a.0.0.1 a.0.1 b.0.1 b.0.0 proper t.after b.1 in
      let m = b.0.0.0 in
      let e = entry_of a.0.0.0 m in
      let made : Opened = record { entries = opened.entries ++ e ∷ []; used = b.0.0.1 } in
      let both = ok_parts new made rest b.0.1 b.2 in
      let number = p.number in
      let pools : with_texts first (filter_map raws.text_of m.qstrs) ≡ with_texts (pool_below below) (texts_used (opened.entries ++ e ∷ [])) =
      sym (with_append now (a.0.0.0 ∷ option_to_list (last_part a.0.0.0)) (filter_map raws.text_of m.qstrs))
      ∙ (sym (with_append (pool_below below) (texts_used opened.entries) (texts_of a.0.0.0 m)) ∙ ap (with_texts (pool_below below)) (sym (used_push opened.entries e))) in
      let behind : bytes ≡ (t.spelled ++ (k.qstr_count ++ (k.numbers ++ k.body))) ++ b.0.1 = t.bytes_are ∙ (ap (λ (z : List ℕ). t.spelled ++ z) k.bytes_are ∙ regrouped t.spelled k.qstr_count k.numbers k.body b.0.1) in
      let named : List ℕ = t.spelled ++ (k.qstr_count ++ (k.numbers ++ k.body)) in
      let whole : EntriesRead below pool start (suc i) made b.0.1 = record {
        text = p.text ++ named;
        spelled = Many-push (IsNamed pool) p.text named opened.entries e p.spelled (record {
          name = t.spelled;
          qstr_count = k.qstr_count;
          numbers = k.numbers;
          body = k.body;
          text_is = refl;
          number = t.n;
          spells_name = t.spells;
          name_is = t.text_is;
          bits = k.bits;
          counts_qstrs = k.counts_qstrs;
          few_qstrs = k.few_qstrs;
          are_qstrs = k.are_qstrs;
          is_body = k.is_body;
        });
        bytes_are = p.bytes_are ∙ (ap (λ (z : List ℕ). p.text ++ z) behind ∙ sym (append_assoc p.text named b.0.1));
        number = omega (arith, number, length_push opened.entries e);
        after = subst (λ (z : Texts). Used pool b.0.0.1 z) pools k.after;
        differ = subst (λ (z : List (List ℕ)). Differ below.names z) (sym (map-append (λ (entry : Entry). entry.name) opened.entries (e ∷ []))) (differ_push below.names (names_of opened.entries) a.0.0.0 p.differ t.other);
        verified = All-push (λ (entry : Entry). IsVerified entry.held) opened.entries e p.verified k.verified;
        plain = All-push (λ (entry : Entry). IsPlain entry.name) opened.entries e p.plain (plain_numbered pool t.n a.0.0.0 proper.own t.text_is);
      } in
      subst (λ (z : Opened). EntriesRead below pool start (suc i) z rest) (sym both.0) (subst (λ (z : List ℕ). EntriesRead below pool start (suc i) made z) (sym both.1) whole);
}

pub modules_found : (below : Base) (pool : Texts) (opened : Opened) (bytes rest : List ℕ) → IsProper pool → Used pool (length below.texts) (pool_below below) → modules below pool bytes (Ok (opened, rest))
    → (n : ℕ) × (behind : List ℕ) × CountRead (MAX_MODULES - length below.names) bytes n behind × EntriesRead below pool behind n opened rest
unfolding modules
modules_found below pool opened bytes rest proper s h =
    let a = bind_ok _ _ _ h in
    let t = times_keeps (entry below pool) (EntriesRead below pool a.0.1) (entry_step below pool a.0.1 proper) a.0.0 0 (none_opened below) opened a.0.1 rest (record { text = []; spelled = refl; bytes_are = refl; number = refl; after = s; differ = tt; verified = All-nil _; plain = All-nil _ }) a.2 in
    let n : a.0.0 + 0 ≡ a.0.0 = omega arith in
    (a.0.0, a.0.1, count_found _ _ _ _ a.1, subst (λ (z : ℕ). EntriesRead below pool a.0.1 z opened rest) n t)
