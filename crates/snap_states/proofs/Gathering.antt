-- Texts that are put into a set, and the strs among constants.
use Rattle.std.proofs.Common.{◌≡◌, ℕ, zero, suc, ◌+◌, ◌<◌, ◌||◌, not, Bool, true, false, List, [], ◌∷◌, ◌++◌, length, map, take, get_or, Option, None, Vec, Global, refl, sym, ap, subst, ◌∙◌, arith, if◌then◌else◌}
use Rattle.std.specs.List.{cons_option, filter_map, flat_map, list_any}
use Rattle.std.specs.Str.{bytes_eq}
use Rattle.std.proofs.lemmas.Bool.{false≢true, not-false}
use Rattle.std.proofs.lemmas.Grind.{flat_map-append}
use Rattle.std.proofs.lemmas.List.{append-nil, map-append, take_more}
use Rattle.std.proofs.lemmas.List.Elements.{filter_map-append}
use Rattle.std.proofs.lemmas.List.Folds.{list_any-append}
use Rattle.std.proofs.lemmas.Slice.Eq.{bytes_eq-Decides}
use Rattle.indexmap.specs.IndexSet.{insert_key}
use Rattle.bc_library.specs.Constants.{bytes_in, items_in, preorder_by, preorder_to}
use Rattle.bc_library.specs.mpy_tree.declared.module.Constant.{Constant, out-Constant, roll-Constant, roll-out-Constant, out-roll-Constant}
use Rattle.bc_library.specs.mpy_tree.declared.module.Constant.TheOpen.{Constant-F}
use Rattle.bc_library.specs.mpy_tree.declared.module.Constant.TheVariants as constants
use denote.Hole.Carrier.{roll}
use Rattle.bc_library.proofs.Preorders.{is_tuple, tuple_rolls}
use Rattle.snap_states.specs.Texts.{bytes_of}
use Rattle.snap_states.specs.Knowing.{Adds, holds, str_in, strs_to}

-- a set of texts
-- ==============

abbrev pub same_key : Vec ℕ Global → Vec ℕ Global → Bool
same_key x y = bytes_eq x.items y.items

-- what a set of keys holds, it holds by their bytes
pub held_by_bytes : (keys : List (Vec ℕ Global)) (text : List ℕ) → list_any (λ key. bytes_eq text key.items) keys ≡ holds (map bytes_of keys) text
held_by_bytes [] text = refl
held_by_bytes (k ∷ keys) text = ap (λ b. bytes_eq text k.items || b) (held_by_bytes keys text)

-- a key by its bytes
pub key_held : (keys : List (Vec ℕ Global)) (key : Vec ℕ Global) (text : List ℕ) → key.items ≡ text → list_any (same_key key) keys ≡ holds (map bytes_of keys) text
key_held keys key text is = ap (λ t. list_any (λ k. bytes_eq t k.items) keys) is ∙ held_by_bytes keys text

put_behind : (found : Bool) (keys : List (Vec ℕ Global)) (key : Vec ℕ Global) (text : List ℕ) → key.items ≡ text
    → map bytes_of (if found then keys else keys ++ key ∷ []) ≡ (if not found then map bytes_of keys ++ text ∷ [] else map bytes_of keys)
put_behind true keys key text is = refl
put_behind false keys key text is = map-append bytes_of keys (key ∷ []) ∙ ap (λ (n : List ℕ). map bytes_of keys ++ n ∷ []) is

-- the texts of a set with one more key
pub put_key : (keys new : List (Vec ℕ Global)) (key : Vec ℕ Global) (text : List ℕ) (was_new : Bool) → new ≡ insert_key same_key keys key
    → was_new ≡ not (list_any (same_key key) keys) → key.items ≡ text → map bytes_of new ≡ (if was_new then map bytes_of keys ++ text ∷ [] else map bytes_of keys)
put_key keys new key text was_new put tells is =
    ap (map bytes_of) put ∙ (put_behind (list_any (same_key key) keys) keys key text is
    ∙ ap (λ (b : Bool). if b then map bytes_of keys ++ text ∷ [] else map bytes_of keys) (sym tells))

-- the bytes are the same
pub same_bytes : (a b : List ℕ) → bytes_eq a b ≡ true → a ≡ b
same_bytes a b e = (bytes_eq-Decides a b).0 e

pub bytes_same : (a b : List ℕ) → a ≡ b → bytes_eq a b ≡ true
bytes_same a b e = (bytes_eq-Decides a b).1 e

-- one text more
held_more : (texts : List (List ℕ)) (text other : List ℕ) → holds (texts ++ text ∷ []) other ≡ (holds texts other || holds (text ∷ []) other)
held_more texts text other = list_any-append (bytes_eq other) texts (text ∷ [])

again : (texts : List (List ℕ)) (text other : List ℕ) → holds texts text ≡ true → (b : Bool) → bytes_eq other text ≡ b → (a : Bool) → holds texts other ≡ a → a ≡ (a || (b || false))
again texts text other there true same true is = refl
again texts text other there true same false is = absurd (false≢true (sym is ∙ (ap (holds texts) (same_bytes other text same) ∙ there)))
again texts text other there false never true is = refl
again texts text other there false never false is = refl

-- a text that was put
pub text_added : (old new : List (List ℕ)) (text : List ℕ) (was_new : Bool) → was_new ≡ not (holds old text) → new ≡ (if was_new then old ++ text ∷ [] else old) → Adds old new (text ∷ [])
text_added old new text true tells is other = ap (λ z. holds z other) is ∙ held_more old text other
text_added old new text false tells is other = ap (λ z. holds z other) is ∙ again old text other (not-false (holds old text) (sym tells)) (bytes_eq other text) refl (holds old other) refl

pub none_added : (old : List (List ℕ)) → Adds old old []
none_added old text = or_nothing (holds old text)
  where
    or_nothing : (b : Bool) → b ≡ (b || false)
    or_nothing true = refl
    or_nothing false = refl

or_assoc : (a b c : Bool) → ((a || b) || c) ≡ (a || (b || c))
or_assoc true b c = refl
or_assoc false b c = refl

pub both_added : (old mid new a b : List (List ℕ)) → Adds old mid a → Adds mid new b → Adds old new (a ++ b)
both_added old mid new a b f g text =
    g text ∙ (ap (λ z. z || holds b text) (f text) ∙ (or_assoc (holds old text) (holds a text) (holds b text)
    ∙ ap (λ z. holds old text || z) (sym (list_any-append (bytes_eq text) a b))))

-- strs among constants
-- ====================

pub strs_append : (levels : ℕ) (xs ys : List Constant) → strs_to levels (xs ++ ys) ≡ strs_to levels xs ++ strs_to levels ys
strs_append levels xs ys =
    ap (filter_map (λ object. bytes_in (out-Constant object))) (flat_map-append (preorder_to levels) xs ys)
    ∙ filter_map-append (λ object. bytes_in (out-Constant object)) (flat_map (preorder_to levels) xs) (flat_map (preorder_to levels) ys)

pub strs_one : (levels : ℕ) (x : Constant) → strs_to levels (x ∷ []) ≡ str_in levels x
strs_one levels x = ap (filter_map (λ object. bytes_in (out-Constant object))) (append-nil (preorder_to levels x))

pub strs_more : (levels i : ℕ) (x : Constant) (xs : List Constant) → i < length xs → x ≡ get_or xs i x → strs_to levels (take (i + 1) xs) ≡ strs_to levels (take i xs) ++ str_in levels x
strs_more levels i x xs lt is =
    ap (strs_to levels) (take_more xs i x lt ∙ ap (λ z. take i xs ++ z ∷ []) (sym is))
    ∙ (strs_append levels (take i xs) (x ∷ []) ∙ ap (λ z. strs_to levels (take i xs) ++ z) (strs_one levels x))

-- one constant more was gone through
pub one_gathered : (levels i : ℕ) (x : Constant) (xs : List Constant) (old mid new : List (List ℕ)) → i < length xs → x ≡ get_or xs i x
    → Adds old mid (strs_to levels (take i xs)) → Adds mid new (str_in levels x) → Adds old new (strs_to levels (take (i + 1) xs))
one_gathered levels i x xs old mid new lt is f g =
    subst (Adds old new) (sym (strs_more levels i x xs lt is)) (both_added old mid new (strs_to levels (take i xs)) (str_in levels x) f g)

-- a constant without items
plain_str : (levels : ℕ) (object : Constant) (o : Constant-F Constant) → out-Constant object ≡ o → items_in o ≡ None → str_in levels object ≡ cons_option (bytes_in o) []
unfolding preorder_to
plain_str zero object o out none = ap (λ (z : Constant-F Constant). cons_option (bytes_in z) []) out
plain_str (suc l) object o out none =
    ap (λ (z : Option (List Constant)). filter_map (λ x. bytes_in (out-Constant x)) (preorder_by (preorder_to l) object z)) (ap items_in out ∙ none)
    ∙ ap (λ (z : Constant-F Constant). cons_option (bytes_in z) []) out

-- a tuple has the strs of its items, to a level less
pub tuple_strs : (l : ℕ) (object : Constant) (items : List Constant) → object ≡ constants.Tuple items → str_in (suc l) object ≡ strs_to l items
unfolding preorder_to
tuple_strs l object items is =
    let out = is_tuple object items is in
    ap (λ (z : Option (List Constant)). filter_map (λ x. bytes_in (out-Constant x)) (preorder_by (preorder_to l) object z)) (ap items_in out)
    ∙ ap (λ (z : Constant-F Constant). cons_option (bytes_in z) (strs_to l items)) out

pub tuple_end : (object : Constant) (items : List Constant) → object ≡ constants.Tuple items → str_in zero object ≡ []
unfolding preorder_to
tuple_end object items is = ap (λ (z : Constant-F Constant). cons_option (bytes_in z) []) (is_tuple object items is)

-- a level less than one that isn't 0
pub tuple_below : (levels less : ℕ) (object : Constant) (items : List Constant) → levels ≡ less + 1 → object ≡ constants.Tuple items → str_in levels object ≡ strs_to less items
tuple_below levels less object items e is =
    let same : levels ≡ suc less = omega (arith, e) in
    ap (λ n. str_in n object) same ∙ tuple_strs less object items is

str_rolls : (text : List ℕ) → constants.Str text ≡ roll-Constant (Constant-F.Str text)
unfolding roll-Constant out-Constant roll
str_rolls text = refl

pub text_str : (levels : ℕ) (object : Constant) (text : List ℕ) → object ≡ constants.Str text → str_in levels object ≡ text ∷ []
text_str levels object text is = plain_str levels object (Constant-F.Str text) (ap out-Constant (is ∙ str_rolls text) ∙ out-roll-Constant (Constant-F.Str text)) refl

other_by : (levels : ℕ) (object : Constant) (o : Constant-F Constant) → out-Constant object ≡ o → ((text : List ℕ) → object ≡ constants.Str text → ⊥) → ((items : List Constant) → object ≡ constants.Tuple items → ⊥)
    → str_in levels object ≡ []
other_by levels object Constant-F.None out no_text no_tuple = plain_str levels object Constant-F.None out refl
other_by levels object Constant-F.False out no_text no_tuple = plain_str levels object Constant-F.False out refl
other_by levels object Constant-F.True out no_text no_tuple = plain_str levels object Constant-F.True out refl
other_by levels object (Constant-F.Str text) out no_text no_tuple = absurd (no_text text (sym (roll-out-Constant object) ∙ (ap roll-Constant out ∙ sym (str_rolls text))))
other_by levels object (Constant-F.Int n) out no_text no_tuple = plain_str levels object (Constant-F.Int n) out refl
other_by levels object (Constant-F.Tuple items) out no_text no_tuple = absurd (no_tuple items (sym (roll-out-Constant object) ∙ (ap roll-Constant out ∙ sym (tuple_rolls items))))

pub other_str : (levels : ℕ) (object : Constant) → ((text : List ℕ) → object ≡ constants.Str text → ⊥) → ((items : List Constant) → object ≡ constants.Tuple items → ⊥) → str_in levels object ≡ []
other_str levels object no_text no_tuple = other_by levels object (out-Constant object) refl no_text no_tuple
