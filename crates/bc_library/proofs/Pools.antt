-- Texts that go into a pool one after another.
use Rattle.std.proofs.Common.{inl, inr, ◌≡◌, ℕ, zero, suc, ◌+◌, ◌-◌, ◌<◌, ◌≤◌, Bool, true, false, cond, nat_lt, List, [], ◌∷◌, ◌++◌, length, get_or, take, drop, map, not, ◌&&◌, ◌||◌, option_map, position, Option, Some, None, refl, sym, ap, ap₂, subst, ◌∙◌, length-append, arith}
use Rattle.std.specs.Prelude.{slice_get, is_some, IfSome, IfNone, Result, Ok, Err, OnErr}
use Rattle.std.specs.List.{filter_map, cons_option, list_any}
use Rattle.std.specs.Str.{bytes_eq}
use Rattle.std.proofs.lemmas.Bool.{cases_lt}
use Rattle.std.proofs.lemmas.Bool.Decides.{nat_tests}
use Rattle.std.proofs.lemmas.List.{take_more, take_all, take_at, append_assoc, append-nil, map-append}
use Rattle.std.proofs.lemmas.List.Elements.{filter_map-append}
use Rattle.std.proofs.lemmas.List.Folds.{list_any_at}
use Rattle.std.proofs.lemmas.Option.{slice_get_within, slice_get-get_or, get_or_from_slice_get}
use Rattle.std.proofs.lemmas.Slice.Eq.{bytes_eq-Decides}
use Rattle.mpy_base.specs.declared.limits.TheConstants.{MAX_TABLE}
use Rattle.bc_verify.specs.qstr_pool.declared.table.TheConstants.{FIRST_OWN, STATIC_COUNT}
use Rattle.bc_verify.specs.qstr_pool.Pool.{Texts, text_of, number_of, interned, first_texts, all_differ, IsOneToOne}
use Rattle.bc_verify.specs.qstr_pool.Static.{static_texts, static_pool, static_text_of, static_number_of}
use Rattle.bc_verify.proofs.qstr_pool_lemmas.Places.{absent}
use Rattle.mpy_tree.specs.declared.raw.Qstr.{Qstr}
use Rattle.mpy_tree.specs.declared.raw.Qstr.TheVariants.{Static, Own}
use Rattle.mpy_tree.specs.Raw as raw
use Rattle.bc_library.specs.Fine.{FineQstr}
use Rattle.bc_library.specs.Texts.{AreNumbers, Extends, text_numbered, with_text, with_texts}

-- one by one is all at once
pub with_append : (pool : Texts) (xs ys : List (List ℕ)) → with_texts pool (xs ++ ys) ≡ with_texts (with_texts pool xs) ys
with_append pool [] ys = refl
with_append pool (x ∷ xs) ys = with_append (with_text pool x) xs ys

-- a text stays where it is
-- ========================

-- a pool with a further text, or the same
pub data Grown (pool new : Texts) (text : List ℕ) : Type 0 where
  same : new ≡ pool → Grown pool new text
  grown : new ≡ record { first = pool.first; texts = pool.texts ++ text ∷ [] } → Grown pool new text

grows_by : (b : Bool) (pool new : Texts) (text : List ℕ) → new ≡ record { first = pool.first; texts = pool.texts ++ text ∷ [] } → Grown pool (cond b pool new) text
grows_by true pool new text e = same refl
grows_by false pool new text e = grown e

keeps_by : (b : Bool) (pool new : Texts) (text : List ℕ) → Grown pool new text → Grown pool (cond b pool new) text
keeps_by true pool new text g = same refl
keeps_by false pool new text g = g

pub grows : (pool : Texts) (text : List ℕ) → Grown pool (with_text pool text) text
unfolding with_text
grows pool text = keeps_by (is_some (static_number_of text)) pool (interned pool text) text (grows_by (list_any (bytes_eq text) pool.texts) pool _ text refl)

no_shorter : (pool new : Texts) (text : List ℕ) → Grown pool new text → length pool.texts ≤ length new.texts
no_shorter pool new text (same e) = omega (arith, ap (λ (p : Texts). length p.texts) e)
no_shorter pool new text (grown e) = omega (arith, ap (λ (p : Texts). length p.texts) e, length-append pool.texts (text ∷ []))

pub longer : (pool : Texts) (texts : List (List ℕ)) → length pool.texts ≤ length (with_texts pool texts).texts
longer pool [] = omega arith
longer pool (text ∷ texts) = omega (arith, longer (with_text pool text) texts, no_shorter pool (with_text pool text) text (grows pool text))

pub same_first : (pool : Texts) (texts : List (List ℕ)) → (with_texts pool texts).first ≡ pool.first
same_first pool [] = refl
same_first pool (text ∷ texts) = same_first (with_text pool text) texts ∙ first_by pool (with_text pool text) text (grows pool text)
  where
    first_by : (pool new : Texts) (text : List ℕ) → Grown pool new text → new.first ≡ pool.first
    first_by pool new text (same e) = ap (λ (p : Texts). p.first) e
    first_by pool new text (grown e) = ap (λ (p : Texts). p.first) e

-- what a longer pool begins with
-- ==============================

abbrev behind : Texts → List (List ℕ) → Texts
behind pool more = record { first = pool.first; texts = pool.texts ++ more }

pub extends_same : (pool longer : Texts) → longer ≡ pool → Extends pool longer
extends_same pool longer e = record {
  more = [];
  is = e ∙ ap (λ (ts : List (List ℕ)). let p : Texts = record { first = pool.first; texts = ts } in p) (sym (append-nil pool.texts));
}

extends_grown : (pool new : Texts) (text : List ℕ) → Grown pool new text → Extends pool new
extends_grown pool new text (same e) = extends_same pool new e
extends_grown pool new text (grown e) = record { more = text ∷ []; is = e }

pub extends_trans : (a b c : Texts) → Extends a b → Extends b c → Extends a c
extends_trans a b c f g = record {
  more = f.more ++ g.more;
  is = g.is ∙ (ap (λ (p : Texts). behind p g.more) f.is
      ∙ ap (λ (ts : List (List ℕ)). let p : Texts = record { first = a.first; texts = ts } in p) (append_assoc a.texts f.more g.more));
}

pub extends_texts : (pool : Texts) (texts : List (List ℕ)) → Extends pool (with_texts pool texts)
extends_texts pool [] = extends_same pool pool refl
extends_texts pool (text ∷ texts) =
    extends_trans pool (with_text pool text) (with_texts (with_text pool text) texts) (extends_grown pool (with_text pool text) text (grows pool text)) (extends_texts (with_text pool text) texts)

pub extends_by : (pool longer : Texts) (texts : List (List ℕ)) → longer ≡ with_texts pool texts → Extends pool longer
extends_by pool longer texts e = subst (λ (p : Texts). Extends pool p) (sym e) (extends_texts pool texts)

-- its first texts are the pool
pub taken_back : (pool longer after : Texts) (count : ℕ) → Extends pool longer → count ≡ length pool.texts → after ≡ first_texts longer count → after ≡ pool
taken_back pool longer after count x e f =
    f ∙ (ap (λ (p : Texts). first_texts p count) x.is
    ∙ ap (λ (ts : List (List ℕ)). let p : Texts = record { first = pool.first; texts = ts } in p) (take_at pool.texts x.more count (sym e)))

at_front : (xs ys : List (List ℕ)) (i : ℕ) (x : List ℕ) → slice_get xs i ≡ Some x → slice_get (xs ++ ys) i ≡ Some x
at_front [] ys i x e = absurd cc
at_front (z ∷ xs) ys zero x e = e
at_front (z ∷ xs) ys (suc i) x e = at_front xs ys i x e

kept_by : (b : Bool) (xs ys : List (List ℕ)) (i : ℕ) (x : List ℕ) → cond b None (slice_get xs i) ≡ Some x → cond b None (slice_get (xs ++ ys) i) ≡ Some x
kept_by true xs ys i x e = e
kept_by false xs ys i x e = at_front xs ys i x e

numbered_by : (b : Bool) (s t u : Option (List ℕ)) (x : List ℕ) → (t ≡ Some x → u ≡ Some x) → cond b s t ≡ Some x → cond b s u ≡ Some x
numbered_by true s t u x f e = e
numbered_by false s t u x f e = f e

pushed_text : (pool : Texts) (text : List ℕ) (n : ℕ) (x : List ℕ) → text_numbered pool n ≡ Some x → text_numbered (record { first = pool.first; texts = pool.texts ++ text ∷ [] }) n ≡ Some x
unfolding text_numbered
pushed_text pool text n x e =
    numbered_by (nat_lt n FIRST_OWN) (static_text_of n) (text_of pool n) (text_of (record { first = pool.first; texts = pool.texts ++ text ∷ [] }) n) x
    (kept_by (nat_lt n pool.first) pool.texts (text ∷ []) (n - pool.first) x) e

kept_one : (pool new : Texts) (text : List ℕ) → Grown pool new text → (n : ℕ) (x : List ℕ) → text_numbered pool n ≡ Some x → text_numbered new n ≡ Some x
kept_one pool new text (same e) n x h = subst (λ (p : Texts). text_numbered p n ≡ Some x) (sym e) h
kept_one pool new text (grown e) n x h = subst (λ (p : Texts). text_numbered p n ≡ Some x) (sym e) (pushed_text pool text n x h)

pub kept : (pool : Texts) (texts : List (List ℕ)) (n : ℕ) (x : List ℕ) → text_numbered pool n ≡ Some x → text_numbered (with_texts pool texts) n ≡ Some x
kept pool [] n x e = e
kept pool (text ∷ texts) n x e = kept (with_text pool text) texts n x (kept_one pool (with_text pool text) text (grows pool text) n x e)

from_first : (b : Bool) (n first : ℕ) (r : Option (List ℕ)) → first ≤ n → b ≡ nat_lt n first → cond b None r ≡ r
from_first b n first r le is = grind (arith, nat_tests)

-- one text
-- ========

-- a static one
pub static_numbered : (pool : Texts) (text : List ℕ) (n : ℕ) → IsOneToOne static_pool → static_number_of text ≡ Some n → n ≤ STATIC_COUNT → text_numbered pool n ≡ Some text
unfolding text_numbered
static_numbered pool text n law e le =
    below_own (static_text_of n) (text_of pool n) n le ∙ (law.inverse text n).0 e
  where
    below_own : (s t : Option (List ℕ)) (n : ℕ) → n ≤ STATIC_COUNT → cond (nat_lt n FIRST_OWN) s t ≡ s
    below_own s t n le = grind (arith, nat_tests)

from_own : (s t : Option (List ℕ)) (n : ℕ) → FIRST_OWN ≤ n → cond (nat_lt n FIRST_OWN) s t ≡ t
from_own s t n le = grind (arith, nat_tests)

-- one of the pool
pub pool_numbered : (pool : Texts) (text : List ℕ) (n : ℕ) → IsOneToOne pool → number_of pool text ≡ Some n → FIRST_OWN ≤ n → text_numbered pool n ≡ Some text
unfolding text_numbered
pool_numbered pool text n law e le = from_own (static_text_of n) (text_of pool n) n le ∙ (law.inverse text n).0 e

pub with_static : (pool : Texts) (text : List ℕ) (n : ℕ) → static_number_of text ≡ Some n → pool ≡ with_text pool text
unfolding with_text
with_static pool text n e = ap (λ (o : Option ℕ). cond (is_some o) pool (interned pool text)) (sym e)

pub with_own : (pool : Texts) (text : List ℕ) → static_number_of text ≡ None → interned pool text ≡ with_text pool text
unfolding with_text
with_own pool text e = ap (λ (o : Option ℕ). cond (is_some o) pool (interned pool text)) (sym e)

-- texts one after another
-- =======================

-- a full pool takes no new text
pub overflows : (pool : Texts) (text : List ℕ) → static_number_of text ≡ None → number_of pool text ≡ None → MAX_TABLE ≤ length pool.texts → MAX_TABLE < length (with_text pool text).texts
overflows pool text own new le =
    let none : list_any (bytes_eq text) pool.texts ≡ false = absent pool.texts text (unnumbered pool.first (position (bytes_eq text) pool.texts) new) in
    let more : Texts = record { first = pool.first; texts = pool.texts ++ text ∷ [] } in
    let is : interned pool text ≡ more = ap (λ (b : Bool). cond b pool more) none in
    omega (arith, le, length-append pool.texts (text ∷ []), ap (λ (p : Texts). length p.texts) (sym (with_own pool text own) ∙ is))
  where
    unnumbered : (first : ℕ) (r : Option ℕ) → option_map (λ place. first + place) r ≡ None → r ≡ None
    unnumbered first None e = refl
    unnumbered first (Some i) e = cc

-- the texts of a table are in the pool, which gave these numbers
pub record Taken (pool : Texts) (qstrs : List Qstr) (new : Texts) (numbers : List ℕ) : Type 0 where
  pub pool_is : new ≡ with_texts pool (filter_map raw.text_of qstrs)
  pub numbers_are : AreNumbers new numbers qstrs

pub none_taken : (pool : Texts) (numbers : List ℕ) → numbers ≡ [] → Taken pool [] pool numbers
none_taken pool numbers e = record {
  pool_is = refl;
  numbers_are = record { texts = []; texts_are = refl; numbers_are = ap (map (text_numbered pool)) e };
}

-- numbers stay as they are
pub numbers_kept : (pool : Texts) (texts : List (List ℕ)) (numbers : List ℕ) (known : List (List ℕ)) → map (text_numbered pool) numbers ≡ map (λ text. Some text) known → map (text_numbered (with_texts pool texts)) numbers ≡ map (λ text. Some text) known
numbers_kept pool texts [] [] e = refl
numbers_kept pool texts [] (t ∷ ts) e = absurd cc
numbers_kept pool texts (n ∷ ns) [] e = absurd cc
numbers_kept pool texts (n ∷ ns) (t ∷ ts) e =
    let first : text_numbered pool n ≡ Some t = cc in
    let others : map (text_numbered pool) ns ≡ map (λ text. Some text) ts = cc in
    ap₂ (λ a b. a ∷ b) (kept pool texts n t first) (numbers_kept pool texts ns ts others)

pub are_kept : (pool : Texts) (texts : List (List ℕ)) (numbers : List ℕ) (qstrs : List Qstr) → AreNumbers pool numbers qstrs → AreNumbers (with_texts pool texts) numbers qstrs
are_kept pool texts numbers qstrs a = record {
  texts = a.texts;
  texts_are = a.texts_are;
  numbers_are = numbers_kept pool texts numbers a.texts a.numbers_are;
}

one_text : (qstrs : List Qstr) (q : Qstr) (text : List ℕ) → raw.text_of q ≡ Some text → filter_map raw.text_of (qstrs ++ q ∷ []) ≡ filter_map raw.text_of qstrs ++ text ∷ []
one_text qstrs q text e =
    filter_map-append raw.text_of qstrs (q ∷ []) ∙ ap (λ o. filter_map raw.text_of qstrs ++ cons_option o []) e

next_pool : (pool new next : Texts) (qstrs : List Qstr) (q : Qstr) (text : List ℕ) → new ≡ with_texts pool (filter_map raw.text_of qstrs) → raw.text_of q ≡ Some text → next ≡ with_text new text → next ≡ with_texts pool (filter_map raw.text_of (qstrs ++ q ∷ []))
next_pool pool new next qstrs q text is e f =
    f ∙ (ap (λ p. with_text p text) is ∙ (sym (with_append pool (filter_map raw.text_of qstrs) (text ∷ [])) ∙ ap (with_texts pool) (sym (one_text qstrs q text e))))

one_taken : (pool new next : Texts) (qstrs : List Qstr) (q : Qstr) (text : List ℕ) (numbers : List ℕ) (n : ℕ) → Taken pool qstrs new numbers → raw.text_of q ≡ Some text → next ≡ with_text new text → text_numbered next n ≡ Some text → Taken pool (qstrs ++ q ∷ []) next (numbers ++ n ∷ [])
one_taken pool new next qstrs q text numbers n t e f g =
    let known = t.numbers_are in
    let stay : map (text_numbered next) numbers ≡ map (λ z. Some z) known.texts =
    ap (λ p. map (text_numbered p) numbers) f ∙ numbers_kept new (text ∷ []) numbers known.texts known.numbers_are in
    record {
      pool_is = next_pool pool new next qstrs q text t.pool_is e f;
      numbers_are = record {
        texts = known.texts ++ text ∷ [];
        texts_are = map-append raw.text_of qstrs (q ∷ []) ∙ (ap₂ (λ a b. a ++ b ∷ []) known.texts_are e ∙ sym (map-append (λ (z : List ℕ). Some z) known.texts (text ∷ [])));
        numbers_are = map-append (text_numbered next) numbers (n ∷ []) ∙ (ap₂ (λ a b. a ++ b ∷ []) stay g ∙ sym (map-append (λ (z : List ℕ). Some z) known.texts (text ∷ [])));
      };
    }

-- the next entry of a table
pub next_taken : (pool new next : Texts) (all : List Qstr) (k : ℕ) (q : Qstr) (text : List ℕ) (numbers more : List ℕ) (n : ℕ) → k < length all → q ≡ get_or all k q → Taken pool (take k all) new numbers → raw.text_of q ≡ Some text → next ≡ with_text new text → text_numbered next n ≡ Some text → more ≡ numbers ++ n ∷ [] → Taken pool (take (k + 1) all) next more
next_taken pool new next all k q text numbers more n lt is t e f g h =
    let further : take (k + 1) all ≡ take k all ++ q ∷ [] = take_more all k q lt ∙ ap (λ z. take k all ++ z ∷ []) (sym is) in
    let taken = one_taken pool new next (take k all) q text numbers n t e f g in
    subst (λ z. Taken pool z next more) (sym further) (subst (λ z. Taken pool (take k all ++ q ∷ []) next z) (sym h) taken)

-- where an entry doesn't fit, the table doesn't
pub table_overflows : (pool new : Texts) (all : List Qstr) (k : ℕ) (q : Qstr) (text : List ℕ) → k < length all → q ≡ get_or all k q → new ≡ with_texts pool (filter_map raw.text_of (take k all)) → raw.text_of q ≡ Some text → MAX_TABLE < length (with_text new text).texts → MAX_TABLE < length (with_texts pool (filter_map raw.text_of all)).texts
table_overflows pool new all k q text lt is are e over =
    let further : take (k + 1) all ≡ take k all ++ q ∷ [] = take_more all k q lt ∙ ap (λ z. take k all ++ z ∷ []) (sym is) in
    let here : with_text new text ≡ with_texts pool (filter_map raw.text_of (take (k + 1) all)) =
    next_pool pool new (with_text new text) (take k all) q text are e refl ∙ ap (λ z. with_texts pool (filter_map raw.text_of z)) (sym further) in
    let whole : with_texts pool (filter_map raw.text_of all) ≡ with_texts (with_texts pool (filter_map raw.text_of (take (k + 1) all))) (filter_map raw.text_of (drop (k + 1) all)) =
    ap (λ z. with_texts pool (filter_map raw.text_of z)) (sym (take_drop (k + 1) all))
    ∙ (ap (with_texts pool) (filter_map-append raw.text_of (take (k + 1) all) (drop (k + 1) all)) ∙ with_append pool (filter_map raw.text_of (take (k + 1) all)) (filter_map raw.text_of (drop (k + 1) all))) in
    let no_less = longer (with_texts pool (filter_map raw.text_of (take (k + 1) all))) (filter_map raw.text_of (drop (k + 1) all)) in
    omega (arith, over, no_less, ap (λ (p : Texts). length p.texts) here, ap (λ (p : Texts). length p.texts) whole)
  where
    take_drop : {A : Type 0} (k : ℕ) (xs : List A) → take k xs ++ drop k xs ≡ xs
    take_drop zero xs = refl
    take_drop (suc k) [] = refl
    take_drop (suc k) (x ∷ xs) = ap (λ z. x ∷ z) (take_drop k xs)

-- an entry has a text
static_there : (n : ℕ) → 1 ≤ n → n ≤ STATIC_COUNT → static_text_of n ≡ None → ⊥
static_there n low high e =
    let count : length static_texts ≡ STATIC_COUNT = refl in
    let lt : n - 1 < length static_texts = omega (arith, count) in
    let found = from_first (nat_lt n 1) n 1 (slice_get static_texts (n - 1)) low refl ∙ slice_get-get_or static_texts (n - 1) [] lt in
    cc

pub entry_there : (q : Qstr) → FineQstr q → raw.text_of q ≡ None → ⊥
entry_there (Static n) fine e = static_there n fine.0 fine.1 e
entry_there (Own text) fine e = cc

-- a copy
-- ======

-- so many texts of the pool are copied
pub record Copied (pool : Texts) (count : ℕ) (copy : Texts) : Type 0 where
  pub same_first : copy.first ≡ pool.first
  pub texts_are : copy.texts ≡ take count pool.texts

parts : (a b : Bool) → (not a && b) ≡ true → (a ≡ false) × (b ≡ true)
parts true b e = cc
parts false b e = (refl, e)

false_unless : (b : Bool) → (b ≡ true → true ≡ false) → b ≡ false
false_unless true e = e refl
false_unless false e = refl

no_other : (x text : List ℕ) (texts : List (List ℕ)) (i : ℕ) → list_any (bytes_eq x) texts ≡ false → slice_get texts i ≡ Some text → bytes_eq text x ≡ false
no_other x text texts i none e =
    false_unless (bytes_eq text x) (λ same.
    let is : text ≡ x = (bytes_eq-Decides text x).0 same in
    let there : get_or texts i [] ≡ text = get_or_from_slice_get texts i text [] e in
    let hit : bytes_eq x (get_or texts i []) ≡ true = (bytes_eq-Decides x (get_or texts i [])).1 (sym is ∙ sym there) in
    sym (list_any_at (bytes_eq x) texts i [] (slice_get_within texts i text e) hit) ∙ none)

-- no text before a place is the text there
not_before : (texts : List (List ℕ)) (text : List ℕ) (i : ℕ) → all_differ texts ≡ true → slice_get texts i ≡ Some text → list_any (bytes_eq text) (take i texts) ≡ false
not_before [] text i differ e = absurd cc
not_before (x ∷ texts) text zero differ e = refl
not_before (x ∷ texts) text (suc i) differ e =
    let p = parts (list_any (bytes_eq x) texts) (all_differ texts) differ in
    ap₂ (λ a b. a || b) (no_other x text texts i p.0 e) (not_before texts text i p.1 e)

pub next_copied : (pool copy new : Texts) (i : ℕ) (text : List ℕ) → all_differ pool.texts ≡ true → slice_get pool.texts i ≡ Some text → Copied pool i copy → new ≡ interned copy text → Copied pool (i + 1) new
next_copied pool copy new i text differ at c e =
    let none : list_any (bytes_eq text) copy.texts ≡ false = ap (list_any (bytes_eq text)) c.texts_are ∙ not_before pool.texts text i differ at in
    let more : Texts = record { first = copy.first; texts = copy.texts ++ text ∷ [] } in
    let is : new ≡ more = e ∙ ap (λ (b : Bool). cond b copy more) none in
    let lt = slice_get_within pool.texts i text at in
    record {
      same_first = ap (λ (p : Texts). p.first) is ∙ c.same_first;
      texts_are = ap (λ (p : Texts). p.texts) is ∙ (ap (λ z. z ++ text ∷ []) c.texts_are
          ∙ (ap (λ z. take i pool.texts ++ z ∷ []) (sym (get_or_from_slice_get pool.texts i text text at)) ∙ sym (take_more pool.texts i text lt)));
    }

-- the text at a place of the pool
pub text_there : (pool : Texts) (i n : ℕ) → pool.first ≡ FIRST_OWN → n ≡ FIRST_OWN + i → text_of pool n ≡ slice_get pool.texts i
text_there pool i n first e =
    let at : n - pool.first ≡ i = omega arith in
    let le : pool.first ≤ n = omega arith in
    from_first (nat_lt n pool.first) n pool.first (slice_get pool.texts (n - pool.first)) le refl ∙ ap (slice_get pool.texts) at

abbrev made : ℕ → List (List ℕ) → Texts
made n ts = record { first = n; texts = ts }

pub all_copied : (pool copy : Texts) (i : ℕ) → length pool.texts ≤ i → Copied pool i copy → copy ≡ pool
all_copied pool copy i le c =
    let texts : copy.texts ≡ pool.texts = c.texts_are ∙ take_all i pool.texts le in
    ap₂ (λ (n : ℕ) (ts : List (List ℕ)). made n ts) c.same_first texts

-- a name and then a table
-- =======================

pub both_taken : (pool first new : Texts) (xs ys : List (List ℕ)) → first ≡ with_texts pool xs → new ≡ with_texts first ys → new ≡ with_texts pool (xs ++ ys)
both_taken pool first new xs ys e f = f ∙ (ap (λ p. with_texts p ys) e ∙ sym (with_append pool xs ys))

pub name_overflows : (pool : Texts) (xs ys : List (List ℕ)) → MAX_TABLE < length (with_texts pool xs).texts → MAX_TABLE < length (with_texts pool (xs ++ ys)).texts
name_overflows pool xs ys over =
    let more = longer (with_texts pool xs) ys in
    omega (arith, over, more, ap (λ (p : Texts). length p.texts) (with_append pool xs ys))

pub rest_overflows : (pool first : Texts) (xs ys : List (List ℕ)) → first ≡ with_texts pool xs → MAX_TABLE < length (with_texts first ys).texts → MAX_TABLE < length (with_texts pool (xs ++ ys)).texts
rest_overflows pool first xs ys e over =
    omega (arith, over, ap (λ (p : Texts). length p.texts) (both_taken pool first (with_texts first ys) xs ys e refl))

-- by the first number of the pool
-- ===============================

pub below_first : (pool : Texts) (n : ℕ) → n < FIRST_OWN → static_text_of n ≡ text_numbered pool n
unfolding text_numbered
below_first pool n lt = taken_first (nat_lt n FIRST_OWN) (static_text_of n) (text_of pool n) n lt refl
  where
    taken_first : (b : Bool) (s t : Option (List ℕ)) (n : ℕ) → n < FIRST_OWN → b ≡ nat_lt n FIRST_OWN → s ≡ cond b s t
    taken_first b s t n lt e = grind (arith, nat_tests)

pub from_first_own : (pool : Texts) (n : ℕ) → FIRST_OWN ≤ n → text_of pool n ≡ text_numbered pool n
unfolding text_numbered
from_first_own pool n le = sym (from_own (static_text_of n) (text_of pool n) n le)

-- a text that neither every file may name nor the pool has stands under no number
pub unnumbered : (pool : Texts) (text : List ℕ) → IsOneToOne static_pool → IsOneToOne pool → static_number_of text ≡ None → number_of pool text ≡ None
    → (n : ℕ) → text_numbered pool n ≡ Some text → ⊥
unnumbered pool text static_law pool_law none other n q = elim (cases_lt n FIRST_OWN) [
  | inl lt ↦ let found = sym none ∙ (static_law.inverse text n).1 (below_first pool n lt ∙ q) in cc
  | inr ge ↦ let found = sym other ∙ (pool_law.inverse text n).1 (from_first_own pool n ge ∙ q) in cc
]

-- what the pool tells of a text that not every file may name
pub found_number : (pool : Texts) (text : List ℕ) (found : Option ℕ) → pool.first ≡ FIRST_OWN → IsOneToOne pool → found ≡ number_of pool text → IfSome found (λ n. (pool.first ≤ n) × (n < pool.first + MAX_TABLE))
    → IfSome found (λ n. text_numbered pool n ≡ Some text)
found_number pool text None first law e within = tt
found_number pool text (Some n) first law e within = pool_numbered pool text n law (sym e) (omega (arith, within.0))

pub found_nowhere : (pool : Texts) (text : List ℕ) (found : Option ℕ) → IsOneToOne static_pool → IsOneToOne pool → static_number_of text ≡ None → found ≡ number_of pool text
    → IfNone found ((n : ℕ) → text_numbered pool n ≡ Some text → ⊥)
found_nowhere pool text None static_law pool_law none e = unnumbered pool text static_law pool_law none (sym e)
found_nowhere pool text (Some n) static_law pool_law none e = tt

-- what holds in any case holds after a refusal
pub on_err : {T E : Type 0} (r : Result T E) (P : Type 0) → P → OnErr r P
on_err (Ok x) P p = tt
on_err (Err e) P p = p
