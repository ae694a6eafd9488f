-- The place of a text in a list of texts.
use Rattle.std.proofs.Common.{◌≡◌, ℕ, zero, suc, ◌+◌, ◌<◌, ◌≤◌, Bool, true, false, not, cond, ◌&&◌, ◌||◌, nat_lt, List, [], ◌∷◌, ◌++◌, map, length, length-append, get_or, Some, None, position, slice_get, refl, sym, ap, ap₂, ◌∙◌, arith}
use Rattle.std.specs.List.{list_any, position_or_len, IsDistinct, AllByRecursion}
use Rattle.std.specs.Str.{bytes_eq}
use Rattle.std.proofs.lemmas.List.Quantifiers.{position-Some}
use Rattle.std.proofs.lemmas.List.Folds.{list_any_at}
use Rattle.std.proofs.lemmas.Option.{slice_get-get_or, slice_get_within, get_or_from_slice_get}
use Rattle.std.proofs.lemmas.Slice.Eq.{bytes_eq-Decides}
use Rattle.std.proofs.lemmas.List.{length-map, map-append}
use Rattle.std.proofs.lemmas.Bool.Decides.{nat_tests}
use Rattle.indexmap.specs.IndexSet.{insert_key}
use Rattle.qstr_pool.specs.Pool.{all_differ}

-- what is found stands there
pub found : (texts : List (List ℕ)) (text : List ℕ) (i : ℕ) → position (bytes_eq text) texts ≡ Some i → slice_get texts i ≡ Some text
found texts text i e =
    let at = position-Some (bytes_eq text) texts i [] e in
    let same : text ≡ get_or texts i [] = (bytes_eq-Decides text (get_or texts i [])).0 at.1 in
    slice_get-get_or texts i [] at.0 ∙ ap Some (sym same)

parts : (a b : Bool) → (not a && b) ≡ true → (a ≡ false) × (b ≡ true)
parts true b e = cc
parts false b e = (refl, e)

false_unless : (b : Bool) → (b ≡ true → true ≡ false) → b ≡ false
false_unless true e = e refl
false_unless false e = refl

-- the texts behind the first are others
no_other : (x text : List ℕ) (texts : List (List ℕ)) (i : ℕ) → list_any (bytes_eq x) texts ≡ false → slice_get texts i ≡ Some text → bytes_eq text x ≡ false
no_other x text texts i none e =
    false_unless (bytes_eq text x) (λ same.
    let is : text ≡ x = (bytes_eq-Decides text x).0 same in
    let there : get_or texts i [] ≡ text = get_or_from_slice_get texts i text [] e in
    let hit : bytes_eq x (get_or texts i []) ≡ true = (bytes_eq-Decides x (get_or texts i [])).1 (sym is ∙ sym there) in
    sym (list_any_at (bytes_eq x) texts i [] (slice_get_within texts i text e) hit) ∙ none)

first_place : (b : Bool) (n : ℕ) → b ≡ true → cond (not b) (1 + n) 0 ≡ 0
first_place true n e = refl
first_place false n e = cc

later_place : (b : Bool) (m n : ℕ) → b ≡ false → m ≡ n → cond (not b) (1 + m) 0 ≡ suc n
later_place true m n e same = cc
later_place false m n e same = omega (arith, same)

place : (texts : List (List ℕ)) (text : List ℕ) (i : ℕ) → all_differ texts ≡ true → slice_get texts i ≡ Some text → position_or_len (bytes_eq text) texts ≡ i
place [] text i differ e = cc
place (x ∷ texts) text zero differ e =
    let is : x ≡ text = cc in
    first_place (bytes_eq text x) _ ((bytes_eq-Decides text x).1 (sym is))
place (x ∷ texts) text (suc i) differ e =
    let p = parts (list_any (bytes_eq x) texts) (all_differ texts) differ in
    later_place (bytes_eq text x) _ _ (no_other x text texts i p.0 e) (place texts text i p.1 e)

settled : (n i l : ℕ) → n ≡ i → i < l → cond (nat_lt n l) (Some n) None ≡ Some i
settled n i l e h = grind (arith, nat_tests)

-- what stands there is found, where no text stands twice
pub stands : (texts : List (List ℕ)) (text : List ℕ) (i : ℕ) → all_differ texts ≡ true → slice_get texts i ≡ Some text → position (bytes_eq text) texts ≡ Some i
stands texts text i differ e = settled _ i _ (place texts text i differ e) (slice_get_within texts i text e)

position_or_len-map : {K : Type 0} (f : K → List ℕ) (p : List ℕ → Bool) (keys : List K) → position_or_len p (map f keys) ≡ position_or_len (λ key. p (f key)) keys
position_or_len-map f p [] = refl
position_or_len-map f p (x ∷ keys) = ap (λ n. cond (not (p (f x))) (1 + n) 0) (position_or_len-map f p keys)

pub position-map : {K : Type 0} (f : K → List ℕ) (p : List ℕ → Bool) (keys : List K) → position p (map f keys) ≡ position (λ key. p (f key)) keys
position-map f p keys = ap₂ (λ n l. cond (nat_lt n l) (Some n) None) (position_or_len-map f p keys) (length-map keys f)

none_behind : {K : Type 0} (f : K → List ℕ) (text : List ℕ) (keys : List K) → AllByRecursion (λ y. bytes_eq text (f y) ≡ false) keys → list_any (bytes_eq text) (map f keys) ≡ false
none_behind f text [] d = refl
none_behind f text (y ∷ keys) d = ap₂ (λ a b. a || b) d.0 (none_behind f text keys d.1)

-- keys with different texts
pub differ_from_distinct : {K : Type 0} (f : K → List ℕ) (keys : List K) → IsDistinct (λ x y. bytes_eq (f x) (f y)) keys → all_differ (map f keys) ≡ true
unfolding IsDistinct
differ_from_distinct f [] d = refl
differ_from_distinct f (x ∷ keys) d = ap₂ (λ a b. not a && b) (none_behind f (f x) keys d.0) (differ_from_distinct f keys d.1)

-- what has no place is missing
miss : (b rest : Bool) (n l : ℕ) → suc l ≤ cond (not b) (1 + n) 0 → (l ≤ n → rest ≡ false) → (b || rest) ≡ false
miss true rest n l h behind = absurd (omega (arith, h))
miss false rest n l h behind = behind (omega (arith, h))

missing : (p : List ℕ → Bool) (texts : List (List ℕ)) → length texts ≤ position_or_len p texts → list_any p texts ≡ false
missing p [] h = refl
missing p (x ∷ texts) h = miss (p x) _ _ _ h (missing p texts)

past : (n l : ℕ) → cond (nat_lt n l) (Some n) None ≡ None → l ≤ n
past n l e = grind (arith, nat_tests)

pub absent : (texts : List (List ℕ)) (text : List ℕ) → position (bytes_eq text) texts ≡ None → list_any (bytes_eq text) texts ≡ false
absent texts text e = missing (bytes_eq text) texts (past _ _ e)

pub present : (texts : List (List ℕ)) (text : List ℕ) (i : ℕ) → position (bytes_eq text) texts ≡ Some i → list_any (bytes_eq text) texts ≡ true
present texts text i e =
    let at = position-Some (bytes_eq text) texts i [] e in
    list_any_at (bytes_eq text) texts i [] at.0 at.1

none_of : (a b : Bool) → (a || b) ≡ false → (a ≡ false) × (b ≡ false)
none_of true b e = cc
none_of false b e = (refl, e)

-- a new text that goes last stands behind all others
last_place : (texts : List (List ℕ)) (text : List ℕ) → list_any (bytes_eq text) texts ≡ false → position_or_len (bytes_eq text) (texts ++ text ∷ []) ≡ length texts
last_place [] text e = first_place (bytes_eq text text) 0 ((bytes_eq-Decides text text).1 refl)
last_place (x ∷ texts) text e =
    let p = none_of (bytes_eq text x) (list_any (bytes_eq text) texts) e in
    later_place (bytes_eq text x) _ _ p.0 (last_place texts text p.1)

pub pushed : (texts : List (List ℕ)) (text : List ℕ) → list_any (bytes_eq text) texts ≡ false → position (bytes_eq text) (texts ++ text ∷ []) ≡ Some (length texts)
pushed texts text e = settled _ _ _ (last_place texts text e) (omega (arith, length-append texts (text ∷ [])))

list_any-map : {K : Type 0} (f : K → List ℕ) (p : List ℕ → Bool) (keys : List K) → list_any p (map f keys) ≡ list_any (λ key. p (f key)) keys
list_any-map f p [] = refl
list_any-map f p (x ∷ keys) = ap (λ b. p (f x) || b) (list_any-map f p keys)

put : {K : Type 0} (b : Bool) (keys : List K) (key : K) → b ≡ false → cond b keys (keys ++ key ∷ []) ≡ keys ++ key ∷ []
put true keys key e = cc
put false keys key e = refl

-- the texts of the keys after a new one
pub inserted : {K : Type 0} (f : K → List ℕ) (keys : List K) (key : K) (text : List ℕ) → f key ≡ text → list_any (bytes_eq text) (map f keys) ≡ false → map f (insert_key (λ x y. bytes_eq (f x) (f y)) keys key) ≡ map f keys ++ text ∷ []
inserted f keys key text is none =
    let no : list_any (λ y. bytes_eq (f key) (f y)) keys ≡ false = sym (list_any-map f (bytes_eq (f key)) keys) ∙ (ap (λ (t : List ℕ). list_any (bytes_eq t) (map f keys)) is ∙ none) in
    ap (map f) (put _ keys key no) ∙ (map-append f keys (key ∷ []) ∙ ap (λ (t : List ℕ). map f keys ++ t ∷ []) is)
