-- What goes into the pool of a library is plain.
use Rattle.std.proofs.Common.{◌≡◌, ℕ, zero, suc, ◌-◌, ◌<◌, Bool, true, false, cond, nat_lt, ◌&&◌, List, [], ◌∷◌, ◌++◌, length, Option, Some, None, refl, sym, ap, subst, ◌∙◌, arith}
use Rattle.std.specs.Prelude.{slice_get, is_some}
use Rattle.std.specs.Option.{option_or, option_to_list}
use Rattle.std.specs.List.{filter_map, cons_option, list_any, list_all, AllByRecursion}
use Rattle.std.specs.Str.{bytes_eq}
use Rattle.std.proofs.lemmas.List.Elements.{All-tail, All-from_recursion}
use Rattle.std.proofs.lemmas.Bool.Decides.{nat_tests}
use Rattle.bc_verify.specs.qstr_pool.declared.table.TheConstants.{FIRST_OWN}
use Rattle.bc_verify.specs.qstr_pool.Pool.{Texts, text_of, interned, IsOneToOne}
use Rattle.bc_verify.specs.qstr_pool.Static.{static_texts, static_pool, static_text_of, static_number_of}
use Rattle.mpy_tree.specs.declared.raw.Qstr.{Qstr}
use Rattle.mpy_tree.specs.declared.raw.Qstr.TheVariants.{Static, Own}
use Rattle.mpy_tree.specs.Raw as raw
use Rattle.mpy_tree.specs.Raw.{Module}
use Rattle.bc_library.specs.Fine.{Each, FineQstr}
use Rattle.bc_library.specs.Own.{IsOwnText, IsOwnPool}
use Rattle.bc_library.specs.Texts.{IsPlain, text_numbered, with_text, with_texts, last_part, texts_of}
use Rattle.bc_library.proofs.Pools.{with_append}

each_push : {A : Type 0} (P : A → Type 0) (xs : List A) (y : A) → Each P xs → P y → Each P (xs ++ y ∷ [])
each_push P [] y each p zero x e = let same : y ≡ x = cc in subst P same p
each_push P [] y each p (suc k) x e = absurd cc
each_push P (z ∷ xs) y each p zero x e = each 0 x e
each_push P (z ∷ xs) y each p (suc k) x e = each_push P xs y (λ n w f. each (suc n) w f) p k x e

own_grown : (b : Bool) (pool : Texts) (text : List ℕ) → IsOwnPool pool → IsOwnText text → IsOwnPool (cond b pool (record { first = pool.first; texts = pool.texts ++ text ∷ [] }))
own_grown true pool text own is = own
own_grown false pool text own is = record { first = own.first; each = each_push IsOwnText pool.texts text own.each is }

own_by : (pool : Texts) (text : List ℕ) → IsOwnPool pool → IsPlain text → (o : Option ℕ) → static_number_of text ≡ o → IsOwnPool (cond (is_some o) pool (interned pool text))
own_by pool text own plain (Some n) e = own
own_by pool text own plain None e = own_grown (list_any (bytes_eq text) pool.texts) pool text own (record { plain = plain; own = e })

pub own_text : (pool : Texts) (text : List ℕ) → IsOwnPool pool → IsPlain text → IsOwnPool (with_text pool text)
unfolding with_text
own_text pool text own plain = own_by pool text own plain (static_number_of text) refl

-- a name and its last part
-- ========================

plain_tail : (byte : ℕ) (text : List ℕ) → IsPlain (byte ∷ text) → IsPlain text
plain_tail byte text plain = record {
  ascii = All-tail (λ b. b < 128) byte text plain.ascii;
  short = omega (arith, plain.short);
}

part_by : (b : Bool) (behind : Option (List ℕ)) (name part : List ℕ) → IsPlain name → (behind ≡ Some part → IsPlain part) → option_or behind (cond b (Some name) None) ≡ Some part → IsPlain part
part_by b (Some p) name part plain below e = below e
part_by true None name part plain below e = let same : name ≡ part = cc in subst IsPlain same plain
part_by false None name part plain below e = absurd cc

plain_part : (name part : List ℕ) → IsPlain name → last_part name ≡ Some part → IsPlain part
plain_part [] part plain e = absurd cc
plain_part (byte ∷ name) part plain e =
    let tail = plain_tail byte name plain in
    part_by _ (last_part name) name part tail (λ f. plain_part name part tail f) e

own_part : (pool : Texts) (o : Option (List ℕ)) → IsOwnPool pool → ((part : List ℕ) → o ≡ Some part → IsPlain part) → IsOwnPool (with_texts pool (option_to_list o))
own_part pool None own plain = own
own_part pool (Some part) own plain = own_text pool part own (plain part refl)

-- a table
-- =======

own_entry : (pool : Texts) (q : Qstr) → IsOneToOne static_pool → IsOwnPool pool → FineQstr q → (o : Option (List ℕ)) → raw.text_of q ≡ o → IsOwnPool (with_texts pool (cons_option o []))
unfolding with_text
own_entry pool q law own fine None e = own
own_entry pool (Static n) law own fine (Some text) e =
    let known : static_number_of text ≡ Some n = (law.inverse text n).1 e in
    subst (λ (o : Option ℕ). IsOwnPool (cond (is_some o) pool (interned pool text))) (sym known) own
own_entry pool (Own text) law own fine (Some other) e = let same : text ≡ other = cc in own_text pool other own (subst IsPlain same fine)

one_first : (pool : Texts) (o : Option (List ℕ)) (rest : List (List ℕ)) → with_texts pool (cons_option o rest) ≡ with_texts (with_texts pool (cons_option o [])) rest
one_first pool None rest = refl
one_first pool (Some text) rest = refl

own_table : (pool : Texts) (qstrs : List Qstr) → IsOneToOne static_pool → IsOwnPool pool → Each FineQstr qstrs → IsOwnPool (with_texts pool (filter_map raw.text_of qstrs))
own_table pool [] law own each = own
own_table pool (q ∷ qstrs) law own each =
    let first = own_entry pool q law own (each 0 q refl) (raw.text_of q) refl in
    subst IsOwnPool (sym (one_first pool (raw.text_of q) (filter_map raw.text_of qstrs)))
    (own_table (with_texts pool (cons_option (raw.text_of q) [])) qstrs law first (λ k x e. each (suc k) x e))

-- all of a module
pub own_texts : (pool : Texts) (name : List ℕ) (m : Module) → IsOneToOne static_pool → IsOwnPool pool → IsPlain name → Each FineQstr m.qstrs → IsOwnPool (with_texts pool (texts_of name m))
own_texts pool name m law own plain each =
    let named = own_text pool name own plain in
    let parted = own_part (with_text pool name) (last_part name) named (λ part e. plain_part name part plain e) in
    subst IsOwnPool (sym (with_append (with_text pool name) (option_to_list (last_part name)) (filter_map raw.text_of m.qstrs)))
    (own_table (with_texts (with_text pool name) (option_to_list (last_part name))) m.qstrs law parted each)

-- texts by their numbers
-- ======================

abbrev is_plain : List ℕ → Bool
is_plain text = list_all (λ b. nat_lt b 128) text && nat_lt (length text) 1000

all_plain : list_all is_plain static_texts ≡ true
all_plain = refl

both : (a b : Bool) → (a && b) ≡ true → (a ≡ true) × (b ≡ true)
both true b e = (refl, e)
both false b e = absurd cc

passes : (p : List ℕ → Bool) (xs : List (List ℕ)) → list_all p xs ≡ true → (k : ℕ) (x : List ℕ) → slice_get xs k ≡ Some x → p x ≡ true
passes p [] all k x e = absurd cc
passes p (y ∷ xs) all zero x e = let same : y ≡ x = cc in ap p (sym same) ∙ (both (p y) (list_all p xs) all).0
passes p (y ∷ xs) all (suc k) x e = passes p xs (both (p y) (list_all p xs) all).1 k x e

below : (n limit : ℕ) → nat_lt n limit ≡ true → n < limit
below n limit e = grind (arith, nat_tests)

each_below : (text : List ℕ) → list_all (λ b. nat_lt b 128) text ≡ true → AllByRecursion (λ b. b < 128) text
each_below [] e = tt
each_below (b ∷ text) e =
    let p = both (nat_lt b 128) (list_all (λ c. nat_lt c 128) text) e in
    (below b 128 p.0, each_below text p.1)

plain_from_test : (text : List ℕ) → is_plain text ≡ true → IsPlain text
plain_from_test text e =
    let p = both (list_all (λ b. nat_lt b 128) text) (nat_lt (length text) 1000) e in
    let few : length text < 1000 = below (length text) 1000 p.1 in
    record { ascii = All-from_recursion (λ b. b < 128) text (each_below text p.0); short = omega (arith, few) }

found_in : (b : Bool) (r : Option (List ℕ)) (text : List ℕ) → cond b None r ≡ Some text → r ≡ Some text
found_in true r text e = absurd cc
found_in false r text e = e

static_plain : (n : ℕ) (text : List ℕ) → static_text_of n ≡ Some text → IsPlain text
static_plain n text e = plain_from_test text (passes is_plain static_texts all_plain (n - 1) text (found_in (nat_lt n 1) (slice_get static_texts (n - 1)) text e))

pool_plain : (pool : Texts) (n : ℕ) (text : List ℕ) → IsOwnPool pool → text_of pool n ≡ Some text → IsPlain text
pool_plain pool n text own e = (own.each (n - pool.first) text (found_in (nat_lt n pool.first) (slice_get pool.texts (n - pool.first)) text e)).plain

plain_choice : (b : Bool) (s t : Option (List ℕ)) (text : List ℕ) → (s ≡ Some text → IsPlain text) → (t ≡ Some text → IsPlain text) → cond b s t ≡ Some text → IsPlain text
plain_choice true s t text f g e = f e
plain_choice false s t text f g e = g e

pub plain_numbered : (pool : Texts) (n : ℕ) (text : List ℕ) → IsOwnPool pool → text_numbered pool n ≡ Some text → IsPlain text
unfolding text_numbered
plain_numbered pool n text own e =
    plain_choice (nat_lt n FIRST_OWN) (static_text_of n) (text_of pool n) text (static_plain n text) (pool_plain pool n text own) e

-- a text has one number
-- =====================

static_not_own : (pool : Texts) (n k : ℕ) (text : List ℕ) → IsOneToOne static_pool → IsOwnPool pool → static_text_of n ≡ Some text → text_of pool k ≡ Some text → ⊥
static_not_own pool n k text law own e f =
    let known : static_number_of text ≡ Some n = (law.inverse text n).1 e in
    let none = (own.each (k - pool.first) text (found_in (nat_lt k pool.first) (slice_get pool.texts (k - pool.first)) text f)).own in
    cc

-- where a number leads to
data Place (pool : Texts) (n : ℕ) (text : List ℕ) : Type 0 where
  static : static_text_of n ≡ Some text → Place pool n text
  own : text_of pool n ≡ Some text → Place pool n text

place_by : (b : Bool) (pool : Texts) (n : ℕ) (text : List ℕ) → cond b (static_text_of n) (text_of pool n) ≡ Some text → Place pool n text
place_by true pool n text e = static e
place_by false pool n text e = own e

place : (pool : Texts) (n : ℕ) (text : List ℕ) → text_numbered pool n ≡ Some text → Place pool n text
unfolding text_numbered
place pool n text e = place_by (nat_lt n FIRST_OWN) pool n text e

same_place : (pool : Texts) (text : List ℕ) (m n : ℕ) → IsOneToOne static_pool → IsOneToOne pool → IsOwnPool pool → Place pool m text → Place pool n text → m ≡ n
same_place pool text m n law laws is (static e) (static f) = law.one_number text m n e f
same_place pool text m n law laws is (static e) (own f) = absurd (static_not_own pool m n text law is e f)
same_place pool text m n law laws is (own e) (static f) = absurd (static_not_own pool n m text law is f e)
same_place pool text m n law laws is (own e) (own f) = laws.one_number text m n e f

pub one_number : (pool : Texts) → IsOneToOne static_pool → IsOneToOne pool → IsOwnPool pool → (text : List ℕ) (m n : ℕ) → text_numbered pool m ≡ Some text → text_numbered pool n ≡ Some text → m ≡ n
one_number pool law laws is text m n e f = same_place pool text m n law laws is (place pool m text e) (place pool n text f)
