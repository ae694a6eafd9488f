-- Names in a table.
use Rattle.std.proofs.Common.{◌≡◌, ℕ, zero, suc, ◌+◌, ◌<◌, ◌≤◌, Bool, true, false, not, cond, ◌||◌, List, [], ◌∷◌, ◌++◌, map, length, take, drop, Vec, Global, refl, sym, ap, ◌∙◌, arith}
use Rattle.std.specs.List.{list_any}
use Rattle.std.specs.Str.{bytes_eq}
use Rattle.std.proofs.lemmas.List.{map-append, drop_all, drop-append-le}
use Rattle.std.proofs.lemmas.Slice.Eq.{bytes_eq-Decides}
use Rattle.indexmap.specs.IndexSet.{insert_key}
use Rattle.py_tree.specs.declared.expr.Expr.{Expr}
use Rattle.py_expressions.specs.Names.{bytes_of, HasLater}
use Rattle.py_expressions.specs.Reading.{is_new, names}

-- ---- a table with one more name

same_test : (a b : Bool) → (a ≡ true → b ≡ true) → (b ≡ true → a ≡ true) → a ≡ b
same_test true b f g = sym (f refl)
same_test false true f g = g refl
same_test false false f g = refl

pub bytes_eq-sym : (x y : List ℕ) → bytes_eq x y ≡ bytes_eq y x
bytes_eq-sym x y =
    same_test _ _ (λ e. (bytes_eq-Decides y x).1 (sym ((bytes_eq-Decides x y).0 e))) (λ e. (bytes_eq-Decides x y).1 (sym ((bytes_eq-Decides y x).0 e)))

abbrev pub same_key : Vec ℕ Global → Vec ℕ Global → Bool
same_key x y = bytes_eq x.items y.items

other_first : (same found rest : Bool) → not found ≡ rest → not (same || found) ≡ cond same false rest
other_first true found rest e = refl
other_first false found rest e = e

-- a key that a set hasn't is a new name
pub new_key : (keys : List (Vec ℕ Global)) (key : Vec ℕ Global) (name : List ℕ) → key.items ≡ name → not (list_any (same_key key) keys) ≡ is_new name (map bytes_of keys)
new_key [] key name is = refl
new_key (k ∷ keys) key name is =
    other_first (bytes_eq key.items k.items) (list_any (same_key key) keys) (is_new name (map bytes_of keys)) (new_key keys key name is)
    ∙ ap (λ (same : Bool). cond same false (is_new name (map bytes_of keys))) (bytes_eq-sym key.items k.items ∙ ap (bytes_eq k.items) is)

put_behind : (found : Bool) (keys : List (Vec ℕ Global)) (key : Vec ℕ Global) (name : List ℕ) → key.items ≡ name
    → map bytes_of (cond found keys (keys ++ key ∷ [])) ≡ cond (not found) (map bytes_of keys ++ name ∷ []) (map bytes_of keys)
put_behind true keys key name is = refl
put_behind false keys key name is = map-append bytes_of keys (key ∷ []) ∙ ap (λ (n : List ℕ). map bytes_of keys ++ n ∷ []) is

-- the names of a set with one more key
pub put_key : (keys new : List (Vec ℕ Global)) (key : Vec ℕ Global) (name : List ℕ) (was_new : Bool) → new ≡ insert_key same_key keys key
    → was_new ≡ not (list_any (same_key key) keys) → key.items ≡ name → map bytes_of new ≡ cond was_new (map bytes_of keys ++ name ∷ []) (map bytes_of keys)
put_key keys new key name was_new put tells is =
    ap (map bytes_of) put ∙ (put_behind (list_any (same_key key) keys) keys key name is
    ∙ ap (λ (b : Bool). cond b (map bytes_of keys ++ name ∷ []) (map bytes_of keys)) (sym tells))

-- ---- keyword arguments, of which a table has the later ones

abbrev Key : Type 0
Key = List ℕ × Expr

either_way : (same found rest all : Bool) → all ≡ cond found false rest → cond same false all ≡ cond (same || found) false rest
either_way true found rest all e = refl
either_way false found rest all e = e

-- a name is new if it is neither among the first nor among the others
in_two_parts : (n : ℕ) (keys : List Key) (text : List ℕ) → is_new text (names keys) ≡ cond (list_any (λ key. bytes_eq key.0 text) (take n keys)) false (is_new text (names (drop n keys)))
in_two_parts zero [] text = refl
in_two_parts (suc n) [] text = refl
in_two_parts zero (key ∷ keys) text = refl
in_two_parts (suc n) (key ∷ keys) text =
    either_way (bytes_eq key.0 text) (list_any (λ k. bytes_eq k.0 text) (take n keys)) (is_new text (names (drop n keys))) (is_new text (names keys)) (in_two_parts n keys text)

pub among_first : (keys : List Key) (text : List ℕ) → list_any (λ key. bytes_eq key.0 text) (take 16 keys) ≡ true → false ≡ is_new text (names keys)
among_first keys text e = sym (in_two_parts 16 keys text ∙ ap (λ (b : Bool). cond b false (is_new text (names (drop 16 keys)))) e)

pub looked_up : (keys : List Key) (text : List ℕ) (table : List (List ℕ)) (was_new : Bool) → list_any (λ key. bytes_eq key.0 text) (take 16 keys) ≡ false → HasLater table keys
    → was_new ≡ is_new text table → was_new ≡ is_new text (names keys)
looked_up keys text table was_new e has tells =
    tells ∙ (ap (is_new text) has ∙ sym (in_two_parts 16 keys text ∙ ap (λ (b : Bool). cond b false (is_new text (names (drop 16 keys)))) e))

names_behind : (keys : List Key) (key : Key) → names (keys ++ key ∷ []) ≡ names keys ++ key.0 ∷ []
names_behind [] key = refl
names_behind (k ∷ keys) key = ap (λ (ns : List (List ℕ)). k.0 ∷ ns) (names_behind keys key)

drop_short : (n : ℕ) (keys : List Key) (key : Key) → length keys < n → drop n (keys ++ key ∷ []) ≡ drop n keys
drop_short zero keys key h = absurd (omega (arith, h))
drop_short (suc zero) [] key h = refl
drop_short (suc (suc n)) [] key h = refl
drop_short (suc n) (k ∷ keys) key h = drop_short n keys key (omega (arith, h))

-- while there are few, the table has none
pub still_few : (keys : List Key) (key : Key) (table : List (List ℕ)) → length keys < 16 → HasLater table keys → HasLater table (keys ++ key ∷ [])
still_few keys key table few has = has ∙ ap names (sym (drop_short 16 keys key few))

-- behind the first, the table has one more
pub one_more_later : (keys : List Key) (text : List ℕ) (value : Expr) (old new : List (List ℕ)) (was_new : Bool) → 16 ≤ length keys → HasLater old keys
    → new ≡ cond was_new (old ++ text ∷ []) old → was_new ≡ true → HasLater new (keys ++ (text, value) ∷ [])
one_more_later keys text value old new was_new many has put h =
    put ∙ (ap (λ (b : Bool). cond b (old ++ text ∷ []) old) h ∙ (ap (λ (ns : List (List ℕ)). ns ++ text ∷ []) has
    ∙ sym (ap names (drop-append-le 16 keys ((text, value) ∷ []) many) ∙ names_behind (drop 16 keys) (text, value))))
