-- Numbers and texts of a pool, and what a use of a text makes of it.
use Rattle.std.proofs.Common.{◌≡◌, ℕ, zero, suc, ◌+◌, ◌-◌, ◌≤◌, Bool, true, false, cond, nat_lt, List, [], ◌∷◌, ◌++◌, map, length, take, Option, Some, None, option_map, position, slice_get, refl, sym, ap, ap₂, ◌∙◌, arith}
use Rattle.std.specs.List.{list_any}
use Rattle.std.specs.Str.{bytes_eq}
use Rattle.std.proofs.lemmas.List.{take-map}
use Rattle.std.proofs.lemmas.Option.{slice_get-map}
use Rattle.std.proofs.lemmas.Bool.Decides.{nat_tests}
use Rattle.indexmap.specs.IndexSet.{insert_key}
use Rattle.qstr_pool.specs.Pool.{Texts, IsOneToOne, number_of, text_of, interned, first_texts, all_differ}
use Rattle.qstr_pool.proofs.Places.{found, stands, position-map, absent, present, pushed, inserted}

counted : (first n : ℕ) (r : Option ℕ) → option_map (λ place. first + place) r ≡ Some n → (r ≡ Some (n - first)) × (first ≤ n)
counted first n None e = cc
counted first n (Some i) e =
    let is : first + i ≡ n = cc in
    (ap Some (omega (arith, is)), omega (arith, is))

uncounted : (first : ℕ) (r : Option ℕ) → option_map (λ place. first + place) r ≡ None → r ≡ None
uncounted first None e = refl
uncounted first (Some i) e = cc

from_first : (first n : ℕ) (r : Option (List ℕ)) → first ≤ n → cond (nat_lt n first) None r ≡ r
from_first first n r h = grind (arith, nat_tests)

not_below : (first n : ℕ) (text : List ℕ) (r : Option (List ℕ)) → cond (nat_lt n first) None r ≡ Some text → first ≤ n
not_below first n text r e = grind (arith, nat_tests)

number_to_text : (pool : Texts) (text : List ℕ) (n : ℕ) → number_of pool text ≡ Some n → text_of pool n ≡ Some text
number_to_text pool text n e =
    let at = counted pool.first n (position (bytes_eq text) pool.texts) e in
    from_first pool.first n _ at.1 ∙ found pool.texts text (n - pool.first) at.0

text_to_number : (pool : Texts) (text : List ℕ) (n : ℕ) → all_differ pool.texts ≡ true → text_of pool n ≡ Some text → number_of pool text ≡ Some n
text_to_number pool text n differ e =
    let above = not_below pool.first n text _ e in
    let at = stands pool.texts text (n - pool.first) differ (sym (from_first pool.first n _ above) ∙ e) in
    ap (option_map (λ place. pool.first + place)) at ∙ ap Some (omega (arith, above))

same_text : (a b : List ℕ) (r : Option (List ℕ)) → r ≡ Some a → r ≡ Some b → a ≡ b
same_text a b r e k = cc

same_number : (m n : ℕ) (r : Option ℕ) → r ≡ Some m → r ≡ Some n → m ≡ n
same_number m n r e k = cc

pub one_to_one : (pool : Texts) → all_differ pool.texts ≡ true → IsOneToOne pool
one_to_one pool differ = record {
  inverse = λ text n. (number_to_text pool text n, text_to_number pool text n differ);
  one_text = λ a b n e k. same_text a b (text_of pool n) (number_to_text pool a n e) (number_to_text pool b n k);
  one_number = λ text m n e k. same_number m n (number_of pool text) (text_to_number pool text m differ e) (text_to_number pool text n differ k);
}

-- the number of a text whose place among the keys is known
pub number_is : {K : Type 0} (f : K → List ℕ) (keys : List K) (first : ℕ) (pool : Texts) (text : List ℕ) (r : Option ℕ) → record { first = first; texts = map f keys } ≡ pool → r ≡ position (λ key. bytes_eq text (f key)) keys → option_map (λ place. first + place) r ≡ number_of pool text
number_is f keys first pool text r are e =
    ap (option_map (λ place. first + place)) (e ∙ sym (position-map f (bytes_eq text) keys)) ∙ ap (λ (p : Texts). number_of p text) are

-- the text of a number whose place is inside
pub text_is : {K : Type 0} (f : K → List ℕ) (keys : List K) (pool : Texts) (n : ℕ) → map f keys ≡ pool.texts → pool.first ≤ n → option_map f (slice_get keys (n - pool.first)) ≡ text_of pool n
text_is f keys pool n are above =
    sym (slice_get-map f keys (n - pool.first)) ∙ (ap (λ (texts : List (List ℕ)). slice_get texts (n - pool.first)) are ∙ sym (from_first pool.first n _ above))

stays : (b : Bool) (pool new : Texts) → b ≡ true → pool ≡ cond b pool new
stays true pool new e = refl
stays false pool new e = cc

grows : (b : Bool) (pool new : Texts) → b ≡ false → new ≡ cond b pool new
grows true pool new e = cc
grows false pool new e = refl

-- a text that is there changes nothing
pub interned_known : (pool : Texts) (text : List ℕ) (n : ℕ) → number_of pool text ≡ Some n → pool ≡ interned pool text
interned_known pool text n e = stays _ _ _ (present pool.texts text _ (counted pool.first n _ e).0)

-- a new one goes last
pub interned_new : {K : Type 0} (f : K → List ℕ) (keys new : List K) (key : K) (pool : Texts) (text : List ℕ) → map f keys ≡ pool.texts → f key ≡ text → number_of pool text ≡ None → new ≡ insert_key (λ x y. bytes_eq (f x) (f y)) keys key → map f new ≡ pool.texts ++ text ∷ []
interned_new f keys new key pool text are is none put =
    let no : list_any (bytes_eq text) pool.texts ≡ false = absent pool.texts text (uncounted pool.first _ none) in
    let nor : list_any (bytes_eq text) (map f keys) ≡ false = ap (list_any (bytes_eq text)) are ∙ no in
    ap (map f) put ∙ (inserted f keys key text is nor ∙ ap (λ (texts : List (List ℕ)). texts ++ text ∷ []) are)

pub interned_is : (pool : Texts) (text : List ℕ) (first : ℕ) (texts : List (List ℕ)) → number_of pool text ≡ None → first ≡ pool.first → texts ≡ pool.texts ++ text ∷ [] → record { first = first; texts = texts } ≡ interned pool text
interned_is pool text first texts none same are =
    let no : list_any (bytes_eq text) pool.texts ≡ false = absent pool.texts text (uncounted pool.first _ none) in
    let last : Texts = record { first = pool.first; texts = pool.texts ++ text ∷ [] } in
    let is : ◌≡◌ {A = Texts} (record { first = first; texts = texts }) last = ap₂ (λ (n : ℕ) (ts : List (List ℕ)). record { first = n; texts = ts }) same are in
    is ∙ grows _ pool last no

-- and has the next number
pub number_new : (pool : Texts) (text : List ℕ) (first n : ℕ) (texts : List (List ℕ)) → number_of pool text ≡ None → texts ≡ pool.texts ++ text ∷ [] → n ≡ length pool.texts → option_map (λ place. first + place) (position (bytes_eq text) texts) ≡ Some (first + n)
number_new pool text first n texts none are count =
    let no : list_any (bytes_eq text) pool.texts ≡ false = absent pool.texts text (uncounted pool.first _ none) in
    ap (option_map (λ place. first + place)) (ap (position (bytes_eq text)) are ∙ pushed pool.texts text no) ∙ ap (λ (k : ℕ). Some (first + k)) (sym count)

at_front : (xs : List (List ℕ)) (y : List ℕ) (i : ℕ) (x : List ℕ) → slice_get xs i ≡ Some x → slice_get (xs ++ y ∷ []) i ≡ Some x
at_front [] y i x e = cc
at_front (z ∷ xs) y zero x e = e
at_front (z ∷ xs) y (suc i) x e = at_front xs y i x e

-- each other text keeps its number
pub text_kept : (pool : Texts) (text : List ℕ) (first : ℕ) (texts : List (List ℕ)) (n : ℕ) (known : List ℕ) → first ≡ pool.first → texts ≡ pool.texts ++ text ∷ [] → text_of pool n ≡ Some known → text_of (record { first = first; texts = texts }) n ≡ Some known
text_kept pool text first texts n known same are e =
    let above = not_below pool.first n known _ e in
    let at = sym (from_first pool.first n (slice_get pool.texts (n - pool.first)) above) ∙ e in
    let last = from_first pool.first n (slice_get (pool.texts ++ text ∷ []) (n - pool.first)) above ∙ at_front pool.texts text (n - pool.first) known at in
    ap₂ (λ (k : ℕ) (ts : List (List ℕ)). text_of (record { first = k; texts = ts }) n) same are ∙ last

-- the first keys are those of the first texts
pub front_is : {K : Type 0} (f : K → List ℕ) (old new : List K) (first count : ℕ) (pool : Texts) → record { first = first; texts = map f old } ≡ pool → new ≡ take count old → record { first = first; texts = map f new } ≡ first_texts pool count
front_is f old new first count pool are front =
    let texts : map f new ≡ take count (map f old) = ap (map f) front ∙ sym (take-map f count old) in
    ap (λ (found : List (List ℕ)). record { first = first; texts = found }) texts ∙ ap (λ (p : Texts). first_texts p count) are
