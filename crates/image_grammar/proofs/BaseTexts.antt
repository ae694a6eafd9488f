-- The texts of a library, each of which has one number.
use Rattle.std.proofs.Common.{◌≡◌, ◌⊎◌, ℕ, zero, suc, ◌+◌, ◌-◌, ◌<◌, ◌≤◌, Bool, true, false, not, cond, nat_lt, ◌&&◌, List, [], ◌∷◌, length, take, Option, Some, None, refl, sym, ap, subst, ◌∙◌, inl, inr, arith}
use Rattle.std.specs.Prelude.{position, slice_get}
use Rattle.std.specs.List.{list_any}
use Rattle.std.specs.Str.{bytes_eq}
use Rattle.std.proofs.lemmas.Bool.Decides.{nat_tests}
use Rattle.std.proofs.lemmas.Option.{slice_get_within}
use Rattle.qstr_pool.specs.declared.table.TheConstants.{FIRST_OWN, STATIC_COUNT}
use Rattle.qstr_pool.specs.Pool.{Texts, all_differ, interned}
use Rattle.qstr_pool.specs.Static.{static_texts, static_pool, static_number_of}
use Rattle.qstr_pool.proofs.Places.{absent, found}
use Rattle.qstr_pool.proofs.Pools.{one_to_one}
use Rattle.bc_library.specs.Own.{IsOwnPool}
use Rattle.bc_library.specs.Shelf.{no_entries}
use Rattle.bc_library.specs.Texts.{IsPlain, text_numbered}
use Rattle.bc_library.proofs.Pools.{Copied, all_copied, from_first_own, next_copied, static_numbered, text_there}

-- the number of a static text
pub some_in : (b : Bool) (n : ℕ) (text : List ℕ) (texts : List (List ℕ)) → b ≡ nat_lt n 1 → cond b None (slice_get texts (n - 1)) ≡ Some text → n ≤ length texts
some_in true n text texts e h = absurd cc
some_in false n text texts e h = let within = slice_get_within texts (n - 1) text h in let some : 1 ≤ n = grind (arith, nat_tests) in omega (arith, within, some)

pub static_few : (text : List ℕ) (n : ℕ) → static_number_of text ≡ Some n → n ≤ STATIC_COUNT
static_few text n e =
    let count : length static_texts ≡ STATIC_COUNT = refl in
    let at = some_in (nat_lt n 1) n text static_texts refl (((one_to_one static_pool refl).inverse text n).0 e) in
    omega (arith, at, count)

-- texts with one place each differ
no_later : (texts : List (List ℕ)) (text : List ℕ) (o : Option ℕ) → o ≡ position (bytes_eq text) texts → ((i : ℕ) → slice_get texts i ≡ Some text → ⊥) → list_any (bytes_eq text) texts ≡ false
no_later texts text None e never = absent texts text (sym e)
no_later texts text (Some i) e never = absurd (never i (found texts text i (sym e)))

first_and_rest : (a b : Bool) → a ≡ false → b ≡ true → (not a && b) ≡ true
first_and_rest false true e f = refl
first_and_rest true b e f = absurd cc
first_and_rest false false e f = absurd cc

pub one_place : (texts : List (List ℕ)) → ((text : List ℕ) (i k : ℕ) → slice_get texts i ≡ Some text → slice_get texts k ≡ Some text → i ≡ k) → all_differ texts ≡ true
one_place [] one = refl
one_place (text ∷ texts) one =
    first_and_rest (list_any (bytes_eq text) texts) (all_differ texts)
    (no_later texts text (position (bytes_eq text) texts) refl (λ i at. let same = one text 0 (suc i) refl at in omega (arith, same)))
    (one_place texts (λ t i k e f. let same = one t (suc i) (suc k) e f in omega (arith, same)))

-- a text has one number at most
abbrev pub HasOneNumber : Texts → Type 0
HasOneNumber pool = (text : List ℕ) (m n : ℕ) → text_numbered pool m ≡ Some text → text_numbered pool n ≡ Some text → m ≡ n

-- the text at a place has the number there
pub numbered_at : (pool : Texts) (i n : ℕ) → pool.first ≡ FIRST_OWN → n ≡ FIRST_OWN + i → text_numbered pool n ≡ slice_get pool.texts i
numbered_at pool i n first is = sym (from_first_own pool n (omega (arith, is))) ∙ text_there pool i n first is

pub pool_differs : (pool : Texts) → pool.first ≡ FIRST_OWN → HasOneNumber pool → all_differ pool.texts ≡ true
pool_differs pool first one =
    one_place pool.texts (λ text i k e f.
    let same = one text (FIRST_OWN + i) (FIRST_OWN + k) (numbered_at pool i (FIRST_OWN + i) first refl ∙ e) (numbered_at pool k (FIRST_OWN + k) first refl ∙ f) in
    omega (arith, same))

own_by : (pool : Texts) (i : ℕ) (text : List ℕ) (o : Option ℕ) → pool.first ≡ FIRST_OWN → HasOneNumber pool → slice_get pool.texts i ≡ Some text → static_number_of text ≡ o → o ≡ None
own_by pool i text None first one at e = refl
own_by pool i text (Some n) first one at e =
    let few = static_few text n e in
    let static = static_numbered pool text n (one_to_one static_pool refl) e few in
    let same = one text n (FIRST_OWN + i) static (numbered_at pool i (FIRST_OWN + i) first refl ∙ at) in
    absurd (omega (arith, few, same))

-- it is one of no file's static texts
pub is_own : (pool : Texts) (i : ℕ) (text : List ℕ) → pool.first ≡ FIRST_OWN → HasOneNumber pool → slice_get pool.texts i ≡ Some text → static_number_of text ≡ None
is_own pool i text first one at = let none = own_by pool i text (static_number_of text) first one at refl in none

pub own_pool : (pool : Texts) → pool.first ≡ FIRST_OWN → HasOneNumber pool → ((i : ℕ) (text : List ℕ) → slice_get pool.texts i ≡ Some text → IsPlain text) → IsOwnPool pool
own_pool pool first one plain = record { first = first; each = λ i text at. record { plain = plain i text at; own = is_own pool i text first one at } }

-- a pool that takes the texts one after another
-- =============================================

-- the texts of the numbers before this one are in the pool, and plain
pub record TakenTo (all : Texts) (i : ℕ) (pool : Texts) : Type 0 where
  pub copied : Copied all i pool
  pub plain : (k : ℕ) (text : List ℕ) → k < i → slice_get all.texts k ≡ Some text → IsPlain text

none_in_front : (texts : List (List ℕ)) → take 0 texts ≡ []
none_in_front [] = refl
none_in_front (x ∷ xs) = refl

pub none_taken : (all pool : Texts) → all.first ≡ FIRST_OWN → pool ≡ no_entries.pool → TakenTo all 0 pool
none_taken all pool first e = record {
  copied = record { same_first = ap (λ (z : Texts). z.first) e ∙ sym first; texts_are = ap (λ (z : Texts). z.texts) e ∙ sym (none_in_front all.texts) };
  plain = λ k text lt at. absurd (omega (arith, lt));
}

last_or : (k i : ℕ) (b : Bool) → b ≡ nat_lt k i → k < i + 1 → (k < i) ⊎ (k ≡ i)
last_or k i true e lt = inl (grind (arith, nat_tests))
last_or k i false e lt = inr (let le : i ≤ k = grind (arith, nat_tests) in omega (arith, le, lt))

pub next_taken : (all pool new : Texts) (i n : ℕ) (text : List ℕ) → all.first ≡ FIRST_OWN → HasOneNumber all → n ≡ FIRST_OWN + i → text_numbered all n ≡ Some text → IsPlain text → new ≡ interned pool text → TakenTo all i pool → TakenTo all (i + 1) new
next_taken all pool new i n text first one is there plain push t =
    let at : slice_get all.texts i ≡ Some text = sym (numbered_at all i n first is) ∙ there in
    record {
      copied = next_copied all pool new i text (pool_differs all first one) at t.copied push;
      plain = λ k other lt e. elim (last_or k i (nat_lt k i) refl lt) [
        | inl before ↦ t.plain k other before e
        | inr same ↦ let is : text ≡ other = (let both : Some text ≡ Some other = sym at ∙ (ap (slice_get all.texts) (sym same) ∙ e) in cc) in subst IsPlain is plain
      ];
    }

pub past : (texts : List (List ℕ)) (i : ℕ) → slice_get texts i ≡ None → length texts ≤ i
past [] i e = omega arith
past (x ∷ xs) zero e = absurd cc
past (x ∷ xs) (suc i) e = let le = past xs i e in omega (arith, le)

pub none_at : (all : Texts) (i n : ℕ) → all.first ≡ FIRST_OWN → n ≡ FIRST_OWN + i → text_numbered all n ≡ None → length all.texts ≤ i
none_at all i n first is e = past all.texts i (sym (numbered_at all i n first is) ∙ e)

pub some_at : (all : Texts) (i n : ℕ) (text : List ℕ) → all.first ≡ FIRST_OWN → n ≡ FIRST_OWN + i → text_numbered all n ≡ Some text → i < length all.texts
some_at all i n text first is e = slice_get_within all.texts i text (sym (numbered_at all i n first is) ∙ e)

pub all_taken : (all pool : Texts) (i : ℕ) → length all.texts ≤ i → TakenTo all i pool → pool ≡ all
all_taken all pool i le t = all_copied all pool i le t.copied

pub taken_own : (all pool : Texts) (i : ℕ) → all.first ≡ FIRST_OWN → HasOneNumber all → length all.texts ≤ i → TakenTo all i pool → IsOwnPool pool
taken_own all pool i first one le t =
    let own = own_pool all first one (λ k text at. t.plain k text (let lt = slice_get_within all.texts k text at in omega (arith, lt, le)) at) in
    subst IsOwnPool (sym (all_taken all pool i le t)) own
