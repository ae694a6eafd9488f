-- What is spelled of an image is read.
use Rattle.std.proofs.Common.{◌≡◌, ℕ, ◌<◌, ◌≤◌, Bool, true, false, cond, nat_lt, List, [], ◌∷◌, ◌++◌, length, Option, Some, None, Result, Ok, refl, sym, ap, ap₂, subst, ◌∙◌, append_assoc, inl, inr, arith}
use Rattle.std.specs.Prelude.{Contains}
use Rattle.std.specs.List.{filter_map, cons_option, AllByRecursion}
use Rattle.std.specs.Option.{option_to_list}
use Rattle.std.proofs.lemmas.List.{append-nil, length_push, map-append}
use Rattle.std.proofs.lemmas.Bool.Decides.{nat_tests}
use Rattle.mpy_base.specs.declared.limits.TheConstants.{MAX_TABLE}
use Rattle.mpy_base.specs.Vuint.{Spells}
use Rattle.image_grammar.specs.mpy_tree.File.{Many}
use Rattle.image_grammar.specs.mpy_tree.Raw as raws
use Rattle.image_grammar.specs.mpy_tree.Raw.{Module}
use Rattle.image_grammar.specs.mpy_tree.declared.raw.Qstr.{Qstr}
use Rattle.image_grammar.specs.mpy_tree.declared.raw.Qstr.TheVariants.{Static, Own}
use Rattle.image_grammar.specs.mpy_reader.Body.{IsBody}
use Rattle.image_grammar.proofs.mpy_reader_lemmas.Bodies.{body_read}
use Rattle.qstr_pool.specs.declared.table.TheConstants.{FIRST_OWN, STATIC_COUNT}
use Rattle.qstr_pool.specs.Pool.{Texts}
use Rattle.qstr_pool.specs.Static.{static_text_of}
use Rattle.image_grammar.specs.bc_verify.Verified.{IsVerified}
use Rattle.image_grammar.specs.bc_library.Texts.{text_numbered, last_part, with_text, with_texts, texts_of}
use Rattle.image_grammar.proofs.bc_library_lemmas.Pools.{with_append, below_first, from_first_own, entry_there}
use Rattle.image_grammar.specs.declared.entry.Entry.{Entry}
use Rattle.image_grammar.specs.declared.entry.Opened.{Opened}
use Rattle.image_grammar.specs.declared.names.Table.{Table}
use Rattle.image_grammar.specs.declared.fault.ImageFault.{ImageFault}
use Rattle.image_grammar.specs.Image.{IsOwnText, IsEntry, IsNamed, IsFront, Differ, texts_used}
use Rattle.image_grammar.specs.Opening.{Base, count, IsNew, with_last, own_text, used_with, use_of, use_at, use_part, names_of, name, qstr_of, qstr, qstr_table, module_of, raw, held, entry, IsHeader, counts_below, nothing_is_below, base}
use Rattle.image_grammar.specs.Steps.{Reading, goes_on, choose, times}
use Rattle.image_grammar.proofs.Steps.{judged}
use Rattle.image_open.proofs.Uses.{IsProper, used_further}
use Rattle.image_open.proofs.Turns.{used_all, used_length, in_turn, has_number}
use Rattle.image_open.proofs.Found.{numbered_is}

pub chosen_true : {A : Type 0} (b : Bool) (P Q : Reading A) (o : Result A ImageFault) → b ≡ true → P o → choose b P Q o
chosen_true b P Q o e h = subst (λ z. choose z P Q o) (sym e) h

pub count_read : (most n : ℕ) (bytes text rest : List ℕ) → Spells text n → n ≤ most → bytes ≡ text ++ rest → count most bytes (Ok (n, rest))
unfolding count
count_read most n bytes text rest s few e = goes_on (n, rest) (text, s, e) (judged few refl)

pub behind_front : (bytes text front behind rest : List ℕ) → bytes ≡ text ++ rest → text ≡ front ++ behind → bytes ≡ front ++ (behind ++ rest)
behind_front bytes text front behind rest e f = e ∙ (ap (λ (z : List ℕ). z ++ rest) f ∙ append_assoc front behind rest)

-- texts
-- =====

-- each is new where it goes
abbrev pub AreNew : Texts → List (List ℕ) → Type 0
AreNew pool [] = Unit {0}
AreNew pool (text ∷ texts) = IsNew pool text × AreNew (with_last pool text) texts

abbrev pub with_all : Texts → List (List ℕ) → Texts
with_all pool texts = record { first = pool.first; texts = pool.texts ++ texts }

pub own_text_read : (pool : Texts) (bytes text own rest : List ℕ) → IsOwnText text own → IsNew pool own → bytes ≡ text ++ rest → own_text pool bytes (Ok (with_last pool own, rest))
unfolding own_text
own_text_read pool bytes text own rest s new e =
    let n = length own in
    goes_on (n, (own ++ 0 ∷ []) ++ rest) (s.front, s.spells, behind_front bytes text s.front (own ++ 0 ∷ []) rest e s.text_is)
    (goes_on (own ++ 0 ∷ [], rest) (record { parts = refl; length_is = length_push own 0 })
    (goes_on own (record { ends = refl; ascii = s.ascii }) (judged new refl)))

pub texts_read : (pool : Texts) (own : List (List ℕ)) (bytes text rest : List ℕ) → Many IsOwnText text own → AreNew pool own → bytes ≡ text ++ rest → times (length own) own_text pool bytes (Ok (with_all pool own, rest))
unfolding times
texts_read pool [] bytes text rest m new e =
    let same : rest ≡ bytes = sym (e ∙ ap (λ (z : List ℕ). z ++ rest) m) in
    ap₂ (λ (ts : List (List ℕ)) (z : List ℕ). Ok (record { first = pool.first; texts = ts }, z)) (append-nil pool.texts) same
texts_read pool (x ∷ xs) bytes text rest m new e =
    let first = own_text_read pool bytes m.0 x (m.1 ++ rest) m.2 new.0 (behind_front bytes text m.0 m.1 rest e m.3) in
    let others = texts_read (with_last pool x) xs (m.1 ++ rest) m.1 rest m.4 new.1 refl in
    let together : with_all (with_last pool x) xs ≡ with_all pool (x ∷ xs) = ap (λ (ts : List (List ℕ)). record { first = pool.first; texts = ts }) (append_assoc pool.texts (x ∷ []) xs) in
    goes_on (with_last pool x, m.1 ++ rest) first (subst (λ (z : Texts). times (length xs) own_text (with_last pool x) (m.1 ++ rest) (Ok (z, rest))) together others)

-- numbers of texts
-- ================

-- what is used behind a text of the pool, in the order of the pool
pub use_read : (pool now : Texts) (n : ℕ) (text : List ℕ) (left : List (List ℕ)) → IsProper pool → pool ≡ with_texts now (text ∷ left) → text_numbered pool n ≡ Some text
    → use_of pool (length now.texts) n (Ok (text, length (with_text now text).texts))
unfolding use_of
use_read pool now n text left proper e is =
    let u = in_turn pool now n text left proper e is in
    let s = used_further pool now (length now.texts) n text proper u (used_all pool now (text ∷ left) e) in
    goes_on text u (ap (λ (z : ℕ). Ok (text, z)) (used_length pool (with_text now text) (used_with (length now.texts) n) s))

pub part_read : (pool now : Texts) (part : Option (List ℕ)) (left : List (List ℕ)) → IsProper pool → pool ≡ with_texts now (option_to_list part ++ left)
    → use_part pool (length now.texts) part (Ok (length (with_texts now (option_to_list part)).texts))
unfolding use_part use_at
part_read pool now None left proper e = refl
part_read pool now (Some part) left proper e =
    let k = has_number pool now part left e in
    let is = numbered_is pool part k.0 proper k.1 in
    let P : Option ℕ → Type 0 = λ z. use_at pool (length now.texts) z (Ok (length (with_text now part).texts)) in
    let there : P (Some k.0) = goes_on (part, length (with_text now part).texts) (use_read pool now k.0 part left proper e is) refl in
    subst P (sym k.1) there

-- the entries of a table
pub is_static : (n : ℕ) (text : List ℕ) (b : Bool) → n < FIRST_OWN → b ≡ nat_lt n FIRST_OWN → cond b (Static n) (Own text) ≡ Static n
is_static n text true lt e = refl
is_static n text false lt e = absurd (grind (arith, nat_tests))

pub is_own : (n : ℕ) (text : List ℕ) (b : Bool) → FIRST_OWN ≤ n → b ≡ nat_lt n FIRST_OWN → cond b (Static n) (Own text) ≡ Own text
is_own n text true le e = absurd (grind (arith, nat_tests))
is_own n text false le e = refl

pub static_by : (n : ℕ) (o : Option (List ℕ)) → 1 ≤ n → n ≤ STATIC_COUNT → o ≡ static_text_of n → (text : List ℕ) × (o ≡ Some text)
static_by n (Some text) low high e = (text, refl)
static_by n None low high e = absurd (entry_there (Static n) (low, high) (sym e))

pub from_by : (n first : ℕ) (text : List ℕ) (r : Option (List ℕ)) (b : Bool) → b ≡ nat_lt n first → cond b None r ≡ Some text → first ≤ n
from_by n first text r true e h = absurd cc
from_by n first text r false e h = grind (arith, nat_tests)

pub qstr_numbered : (pool : Texts) (spelled : List ℕ) (q : Qstr) → IsProper pool → IsEntry pool spelled q → (n : ℕ) × (text : List ℕ) × Spells spelled n × (text_numbered pool n ≡ Some text) × (raws.text_of q ≡ Some text) × (qstr_of n text ≡ q)
qstr_numbered pool spelled (Static n) proper s =
    let few = s.2 in
    let lt : n < FIRST_OWN = omega (arith, few) in
    let t = static_by n (static_text_of n) s.1 s.2 refl in
    (n, t.0, s.0, sym (below_first pool n lt) ∙ t.1, t.1, is_static n t.0 (nat_lt n FIRST_OWN) lt refl)
qstr_numbered pool spelled (Own text) proper s =
    let n = s.0 in
    let from = from_by n pool.first text _ (nat_lt n pool.first) refl s.2 in
    let first = proper.own.first in
    let le : FIRST_OWN ≤ n = omega (arith, from, first) in
    (n, text, s.1, sym (from_first_own pool n le) ∙ s.2, refl, is_own n text (nat_lt n FIRST_OWN) le refl)

abbrev pub made : List Qstr → ℕ → List ℕ → Result (Table × List ℕ) ImageFault
made qstrs used rest = Ok (record { qstrs = qstrs; used = used }, rest)

pub qstr_read : (pool now : Texts) (before : List Qstr) (q : Qstr) (n : ℕ) (text : List ℕ) (left : List (List ℕ)) (bytes spelled rest : List ℕ) → IsProper pool → pool ≡ with_texts now (text ∷ left) → Spells spelled n → text_numbered pool n ≡ Some text → qstr_of n text ≡ q → bytes ≡ spelled ++ rest
    → qstr pool (record { qstrs = before; used = length now.texts }) bytes (made (before ++ q ∷ []) (length (with_text now text).texts) rest)
unfolding qstr
qstr_read pool now before q n text left bytes spelled rest proper e s is same f =
    goes_on (n, rest) (spelled, s, f)
    (goes_on (text, length (with_text now text).texts) (use_read pool now n text left proper e is)
    (ap (λ (z : Qstr). made (before ++ z ∷ []) (length (with_text now text).texts) rest) (sym same)))

-- where the texts of the entries are used next
pub table_read : (pool now : Texts) (before qstrs : List Qstr) (left : List (List ℕ)) (bytes text rest : List ℕ) → IsProper pool → pool ≡ with_texts now (filter_map raws.text_of qstrs ++ left) → Many (IsEntry pool) text qstrs → bytes ≡ text ++ rest
    → times (length qstrs) (qstr pool) (record { qstrs = before; used = length now.texts }) bytes (made (before ++ qstrs) (length (with_texts now (filter_map raws.text_of qstrs)).texts) rest)
unfolding times
table_read pool now before [] left bytes text rest proper e m f =
    let same : rest ≡ bytes = sym (f ∙ ap (λ (z : List ℕ). z ++ rest) m) in
    ap₂ (λ (qs : List Qstr) (z : List ℕ). made qs (length now.texts) z) (append-nil before) same
table_read pool now before (q ∷ qs) left bytes text rest proper e m f =
    let k = qstr_numbered pool m.0 q proper m.2 in
    let used : filter_map raws.text_of (q ∷ qs) ≡ k.1 ∷ filter_map raws.text_of qs = ap (λ o. cons_option o (filter_map raws.text_of qs)) k.4 in
    let whole : pool ≡ with_texts now (k.1 ∷ (filter_map raws.text_of qs ++ left)) = e ∙ ap (λ (z : List (List ℕ)). with_texts now (z ++ left)) used in
    let next = with_text now k.1 in
    let first = qstr_read pool now before q k.0 k.1 (filter_map raws.text_of qs ++ left) bytes m.0 (m.1 ++ rest) proper whole k.2 k.3 k.5 (behind_front bytes text m.0 m.1 rest f m.3) in
    let others = table_read pool next (before ++ q ∷ []) qs left (m.1 ++ rest) m.1 rest proper whole m.4 refl in
    let lists : (before ++ q ∷ []) ++ qs ≡ before ++ q ∷ qs = append_assoc before (q ∷ []) qs in
    let counts : length (with_texts next (filter_map raws.text_of qs)).texts ≡ length (with_texts now (filter_map raws.text_of (q ∷ qs))).texts = ap (λ (z : List (List ℕ)). length (with_texts now z).texts) (sym used) in
    let last : made ((before ++ q ∷ []) ++ qs) (length (with_texts next (filter_map raws.text_of qs)).texts) rest ≡ made (before ++ q ∷ qs) (length (with_texts now (filter_map raws.text_of (q ∷ qs))).texts) rest =
    ap₂ (λ (xs : List Qstr) (n : ℕ). made xs n rest) lists counts in
    goes_on (record { qstrs = before ++ q ∷ []; used = length next.texts }, m.1 ++ rest) first
    (subst (λ z. times (length qs) (qstr pool) (record { qstrs = before ++ q ∷ []; used = length next.texts }) (m.1 ++ rest) z) last others)

pub qstr_table_read : (pool now : Texts) (qstrs : List Qstr) (left : List (List ℕ)) (bytes counted text rest : List ℕ) → IsProper pool → pool ≡ with_texts now (filter_map raws.text_of qstrs ++ left) → Spells counted (length qstrs) → length qstrs ≤ MAX_TABLE → Many (IsEntry pool) text qstrs → bytes ≡ counted ++ (text ++ rest)
    → qstr_table pool (length now.texts) bytes (made qstrs (length (with_texts now (filter_map raws.text_of qstrs)).texts) rest)
unfolding qstr_table
qstr_table_read pool now qstrs left bytes counted text rest proper e s few m f =
    goes_on (length qstrs, text ++ rest) (count_read MAX_TABLE (length qstrs) bytes counted (text ++ rest) s few f)
    (table_read pool now [] qstrs left (text ++ rest) text rest proper e m refl)

-- modules
-- =======

pub name_read : (below : Base) (pool now : Texts) (opened : Opened) (n : ℕ) (text : List ℕ) (left : List (List ℕ)) (bytes spelled rest : List ℕ) → IsProper pool → opened.used ≡ length now.texts → pool ≡ with_texts now ((text ∷ option_to_list (last_part text)) ++ left) → Spells spelled n → text_numbered pool n ≡ Some text → (Contains (below.names ++ names_of opened.entries) text → ⊥) → bytes ≡ spelled ++ rest
    → name below pool opened bytes (Ok ((text, length (with_texts now (text ∷ option_to_list (last_part text))).texts), rest))
unfolding name
name_read below pool now opened n text left bytes spelled rest proper used e s is other f =
    let next = with_text now text in
    let first = use_read pool now n text (option_to_list (last_part text) ++ left) proper e is in
    goes_on (n, rest) (spelled, s, f)
    (goes_on (text, length next.texts) (subst (λ (z : ℕ). use_of pool z n (Ok (text, length next.texts))) (sym used) first)
    (judged other
    (goes_on (length (with_texts next (option_to_list (last_part text))).texts) (part_read pool next (last_part text) left proper e) refl)))

-- a module as an image has it
pub module_is : (m : Module) → m.bits ≡ 31 → module_of m.qstrs (m.objects, m.code) ≡ m
module_is m e = ap (λ (n : ℕ). record { bits = n; qstrs = m.qstrs; objects = m.objects; code = m.code }) (sym e)

pub held_read : (pool now : Texts) (index used : ℕ) (m : Module) (left : List (List ℕ)) (bytes counted numbers spelled rest : List ℕ) → IsProper pool → used ≡ length now.texts → pool ≡ with_texts now (filter_map raws.text_of m.qstrs ++ left) → m.bits ≡ 31 → Spells counted (length m.qstrs) → length m.qstrs ≤ MAX_TABLE → Many (IsEntry pool) numbers m.qstrs → IsBody (length m.qstrs) spelled (m.objects, m.code) → IsVerified m → bytes ≡ counted ++ (numbers ++ (spelled ++ rest))
    → held pool index used bytes (Ok ((m, length (with_texts now (filter_map raws.text_of m.qstrs)).texts), rest))
unfolding held raw
held_read pool now index used m left bytes counted numbers spelled rest proper count e bits s few entries is_body verified f =
    let after = length (with_texts now (filter_map raws.text_of m.qstrs)).texts in
    let table : Table = record { qstrs = m.qstrs; used = after } in
    let texts = qstr_table_read pool now m.qstrs left bytes counted numbers (spelled ++ rest) proper e s few entries f in
    let found : Result ((Module × ℕ) × List ℕ) ImageFault = Ok ((module_of m.qstrs (m.objects, m.code), after), rest) in
    let same : found ≡ Ok ((m, after), rest) = ap (λ (z : Module). Ok ((z, after), rest)) (module_is m bits) in
    goes_on ((m, after), rest)
    (goes_on (table, spelled ++ rest) (subst (λ (z : ℕ). qstr_table pool z bytes (Ok (table, spelled ++ rest))) (sym count) texts)
    (goes_on ((m.objects, m.code), rest) (body_read (length m.qstrs) spelled rest (m.objects, m.code) is_body) (sym same)))
    (judged verified refl)

pub regrouped : (a b c d rest : List ℕ) → (a ++ (b ++ (c ++ d))) ++ rest ≡ a ++ (b ++ (c ++ (d ++ rest)))
regrouped a b c d rest = simp append_assoc

abbrev pub after_entry : Texts → Entry → Texts
after_entry now e = with_texts now (texts_of e.name e.held)

pub entry_read : (below : Base) (pool now : Texts) (opened : Opened) (e : Entry) (left : List (List ℕ)) (bytes text rest : List ℕ) → IsProper pool → opened.used ≡ length now.texts → pool ≡ with_texts now (texts_of e.name e.held ++ left) → IsNamed pool text e → (Contains (below.names ++ names_of opened.entries) e.name → ⊥) → IsVerified e.held → bytes ≡ text ++ rest
    → entry below pool opened bytes (Ok (record { entries = opened.entries ++ e ∷ []; used = length (after_entry now e).texts }, rest))
unfolding entry
entry_read below pool now opened e left bytes text rest proper used is s other verified f =
    let title = e.name ∷ option_to_list (last_part e.name) in
    let table = filter_map raws.text_of e.held.qstrs in
    let whole : bytes ≡ s.name ++ (s.qstr_count ++ (s.numbers ++ (s.body ++ rest))) = f ∙ (ap (λ (z : List ℕ). z ++ rest) s.text_is ∙ regrouped s.name s.qstr_count s.numbers s.body rest) in
    let all : pool ≡ with_texts now (title ++ (table ++ left)) = is ∙ ap (with_texts now) (append_assoc title table left) in
    let next = with_texts now title in
    let behind : pool ≡ with_texts next (table ++ left) = all ∙ with_append now title (table ++ left) in
    let first = name_read below pool now opened s.number e.name (table ++ left) bytes s.name (s.qstr_count ++ (s.numbers ++ (s.body ++ rest))) proper used all s.spells_name s.name_is other whole in
    let second = held_read pool next (length opened.entries) (length next.texts) e.held left (s.qstr_count ++ (s.numbers ++ (s.body ++ rest))) s.qstr_count s.numbers s.body rest proper refl behind s.bits s.counts_qstrs s.few_qstrs s.are_qstrs s.is_body verified refl in
    let count : length (with_texts next table).texts ≡ length (after_entry now e).texts = ap (λ (z : Texts). length z.texts) (sym (with_append now title table)) in
    let found : Result (Opened × List ℕ) ImageFault = Ok (record { entries = opened.entries ++ e ∷ []; used = length (with_texts next table).texts }, rest) in
    let same : found ≡ Ok (record { entries = opened.entries ++ e ∷ []; used = length (after_entry now e).texts }, rest) = ap (λ (z : ℕ). Ok (record { entries = opened.entries ++ e ∷ []; used = z }, rest)) count in
    goes_on ((e.name, length next.texts), s.qstr_count ++ (s.numbers ++ (s.body ++ rest))) first
    (goes_on ((e.held, length (with_texts next table).texts), rest) second (sym same))

abbrev pub opened_with : List Entry → ℕ → List ℕ → Result (Opened × List ℕ) ImageFault
opened_with entries used rest = Ok (record { entries = entries; used = used }, rest)

pub entries_read : (below : Base) (pool now : Texts) (before entries : List Entry) (bytes text rest : List ℕ) → IsProper pool → pool ≡ with_texts now (texts_used entries) → Many (IsNamed pool) text entries → Differ (below.names ++ names_of before) (names_of entries) → AllByRecursion (λ e. IsVerified e.held) entries → bytes ≡ text ++ rest
    → times (length entries) (entry below pool) (record { entries = before; used = length now.texts }) bytes (opened_with (before ++ entries) (length (with_texts now (texts_used entries)).texts) rest)
unfolding times
entries_read below pool now before [] bytes text rest proper is m d v f =
    let same : rest ≡ bytes = sym (f ∙ ap (λ (z : List ℕ). z ++ rest) m) in
    ap₂ (λ (es : List Entry) (z : List ℕ). opened_with es (length now.texts) z) (append-nil before) same
entries_read below pool now before (e ∷ es) bytes text rest proper is m d v f =
    let next = after_entry now e in
    let first = entry_read below pool now (record { entries = before; used = length now.texts }) e (texts_used es) bytes m.0 (m.1 ++ rest) proper refl is m.2 d.0 v.0 (behind_front bytes text m.0 m.1 rest f m.3) in
    let behind : pool ≡ with_texts next (texts_used es) = is ∙ with_append now (texts_of e.name e.held) (texts_used es) in
    let names : (below.names ++ names_of before) ++ e.name ∷ [] ≡ below.names ++ names_of (before ++ e ∷ []) =
    append_assoc below.names (names_of before) (e.name ∷ []) ∙ ap (λ (z : List (List ℕ)). below.names ++ z) (sym (map-append (λ (x : Entry). x.name) before (e ∷ []))) in
    let others = entries_read below pool next (before ++ e ∷ []) es (m.1 ++ rest) m.1 rest proper behind m.4 (subst (λ (z : List (List ℕ)). Differ z (names_of es)) names d.1) v.1 refl in
    let lists : (before ++ e ∷ []) ++ es ≡ before ++ e ∷ es = append_assoc before (e ∷ []) es in
    let count : length (with_texts next (texts_used es)).texts ≡ length (with_texts now (texts_used (e ∷ es))).texts = ap (λ (z : Texts). length z.texts) (sym (with_append now (texts_of e.name e.held) (texts_used es))) in
    let last = ap₂ (λ (xs : List Entry) (n : ℕ). opened_with xs n rest) lists count in
    goes_on (record { entries = before ++ e ∷ []; used = length next.texts }, m.1 ++ rest) first
    (subst (λ z. times (length es) (entry below pool) (record { entries = before ++ e ∷ []; used = length next.texts }) (m.1 ++ rest) z) last others)

-- the image
-- =========

pub base_read : (below : Base) (bytes front rest : List ℕ) → IsFront below front → bytes ≡ front ++ rest → (version : ℕ) × (behind : List ℕ) × IsHeader bytes version behind × base below version behind (Ok rest)
unfolding base nothing_is_below counts_below
base_read below bytes front rest (inl s) e =
    (1, rest, record { bytes_are = e ∙ ap (λ (z : List ℕ). z ++ rest) s.0; from_one = omega arith; known = omega arith }, judged (s.1, s.2) refl)
base_read below bytes front rest (inr (texts, names, is, s, t)) e = (
  2,
  texts ++ (names ++ rest),
  record { bytes_are = e ∙ (ap (λ (z : List ℕ). z ++ rest) is ∙ ap (λ (z : List ℕ). 0x4d ∷ 0x49 ∷ 2 ∷ 0x1f ∷ z) (append_assoc texts names rest)); from_one = omega arith; known = omega arith },
  goes_on (length below.texts, names ++ rest) (texts, s, refl) (goes_on (length below.names, rest) (names, t, refl) (judged (refl, refl) refl)),
)
