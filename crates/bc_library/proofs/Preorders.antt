-- Objects in preorder, and what is kept of them.
use Rattle.std.proofs.Common.{◌≡◌, ℕ, zero, suc, ◌+◌, ◌<◌, ◌≤◌, List, [], ◌∷◌, ◌++◌, length, get_or, take, Some, None, refl, sym, ap, ap₂, subst, ◌∙◌, append_assoc, length-append, arith}
use Rattle.std.specs.Prelude.{slice_set}
use Rattle.std.specs.List.{flat_map}
use Rattle.std.proofs.lemmas.List.{append-nil, take_more}
use Rattle.mpy_base.specs.declared.limits.TheConstants.{MAX_DEPTH}
use Rattle.arena_heap.specs.declared.value.Value.{Value}
use Rattle.mpy_tree.specs.declared.module.Constant.{Constant, out-Constant, roll-Constant, roll-out-Constant, out-roll-Constant}
use Rattle.mpy_tree.specs.declared.module.Constant.TheVariants as constants
use denote.Hole.Carrier.{roll}
use Rattle.mpy_tree.specs.declared.module.Constant.TheOpen.{Constant-F}
use Rattle.bc_library.specs.declared.parts.Part.{Part}
use Rattle.bc_library.specs.declared.parts.Part.TheVariants as parts
use Rattle.bc_library.specs.Constants.{items_in, preorder_by, preorder_to, preorder, numbered, value_by, values_from}
use Rattle.bc_library.specs.Fine.{Each, FineBy, AreFew, Fine}
use Rattle.bc_library.specs.Parts.{own_part_by, part_by, parts_from}

flat_map_same : (f g : Constant → List Constant) (xs : List Constant) → Each (λ x. f x ≡ g x) xs → flat_map f xs ≡ flat_map g xs
flat_map_same f g [] e = refl
flat_map_same f g (x ∷ xs) e = ap₂ (λ a b. a ++ b) (e 0 x refl) (flat_map_same f g xs (λ k y h. e (suc k) y h))

-- further levels change nothing
-- =============================

none_here : (f : Constant → List Constant) (x : Constant) (o : Constant-F Constant) → FineBy (λ items. ⊥) o → x ∷ [] ≡ preorder_by f x (items_in o)
none_here f x Constant-F.None fine = refl
none_here f x Constant-F.False fine = refl
none_here f x Constant-F.True fine = refl
none_here f x (Constant-F.Str text) fine = refl
none_here f x (Constant-F.Int n) fine = refl
none_here f x (Constant-F.Tuple items) fine = absurd fine

one_below : (P : Constant → Type 0) (f g : Constant → List Constant) (x : Constant) (o : Constant-F Constant) → FineBy (AreFew P) o → ((y : Constant) → P y → f y ≡ g y) → preorder_by f x (items_in o) ≡ preorder_by g x (items_in o)
one_below P f g x Constant-F.None fine same = refl
one_below P f g x Constant-F.False fine same = refl
one_below P f g x Constant-F.True fine same = refl
one_below P f g x (Constant-F.Str text) fine same = refl
one_below P f g x (Constant-F.Int n) fine same = refl
one_below P f g x (Constant-F.Tuple items) fine same = ap (λ z. x ∷ z) (flat_map_same f g items (λ k y e. same y (fine.each k y e)))

same_to : (l k : ℕ) (x : Constant) → l ≤ k → Fine l x → preorder_to l x ≡ preorder_to k x
unfolding preorder_to Fine
same_to zero zero x le fine = refl
same_to zero (suc k) x le fine = none_here (preorder_to k) x (out-Constant x) fine
same_to (suc l) zero x le fine = absurd (omega arith)
same_to (suc l) (suc k) x le fine = one_below (Fine l) (preorder_to l) (preorder_to k) x (out-Constant x) fine (λ y f. same_to l k y (omega arith) f)

some_below : (o : Constant-F Constant) (items : List Constant) → items_in o ≡ Some items → FineBy (λ xs. ⊥) o → ⊥
some_below Constant-F.None items e fine = cc
some_below Constant-F.False items e fine = cc
some_below Constant-F.True items e fine = cc
some_below (Constant-F.Str text) items e fine = cc
some_below (Constant-F.Int n) items e fine = cc
some_below (Constant-F.Tuple xs) items e fine = fine

few_below : (P : Constant → Type 0) (o : Constant-F Constant) (items : List Constant) → items_in o ≡ Some items → FineBy (AreFew P) o → AreFew P items
few_below P Constant-F.None items e fine = absurd cc
few_below P Constant-F.False items e fine = absurd cc
few_below P Constant-F.True items e fine = absurd cc
few_below P (Constant-F.Str text) items e fine = absurd cc
few_below P (Constant-F.Int n) items e fine = absurd cc
few_below P (Constant-F.Tuple xs) items e fine = let same : xs ≡ items = cc in subst (AreFew P) same fine

-- a tuple has a level, and its items have those below
pub record Below (l : ℕ) (items : List Constant) : Type 0 where
  pub levels : ℕ
  pub levels_are : l ≡ suc levels
  pub few : AreFew (Fine levels) items

pub below : (l : ℕ) (x : Constant) (items : List Constant) → Fine l x → items_in (out-Constant x) ≡ Some items → Below l items
unfolding Fine
below zero x items fine e = absurd (some_below (out-Constant x) items e fine)
below (suc l) x items fine e = record { levels = l; levels_are = refl; few = few_below (Fine l) (out-Constant x) items e fine }

tuple_to : (k : ℕ) (x : Constant) (items : List Constant) → items_in (out-Constant x) ≡ Some items → preorder_to (suc k) x ≡ x ∷ flat_map (preorder_to k) items
unfolding preorder_to
tuple_to k x items e = ap (preorder_by (preorder_to k) x) e

leaf_to : (k : ℕ) (x : Constant) → items_in (out-Constant x) ≡ None → preorder_to (suc k) x ≡ x ∷ []
unfolding preorder_to
leaf_to k x e = ap (preorder_by (preorder_to k) x) e

pub leaf : (x : Constant) → items_in (out-Constant x) ≡ None → preorder x ≡ x ∷ []
leaf x e = leaf_to 31 x e

pub opened : (l : ℕ) (x : Constant) (items : List Constant) → l ≤ MAX_DEPTH → Fine l x → items_in (out-Constant x) ≡ Some items → preorder x ≡ x ∷ flat_map preorder items
opened l x items le fine e =
    let b = below l x items fine e in
    let le31 : b.levels ≤ 31 = omega (arith, b.levels_are) in
    let le32 : b.levels ≤ MAX_DEPTH = omega (arith, b.levels_are) in
    let same = flat_map_same (preorder_to 31) preorder items (λ k y h.
    let fine_y = b.few.each k y h in
    sym (same_to b.levels 31 y le31 fine_y) ∙ same_to b.levels MAX_DEPTH y le32 fine_y) in
    tuple_to 31 x items e ∙ ap (λ z. x ∷ z) same

-- parts and values
-- ================

pub parts_append : (i n : ℕ) (xs ys : List Constant) → parts_from i n (xs ++ ys) ≡ parts_from i n xs ++ parts_from i (n + length xs) ys
parts_append i n [] ys = ap (λ m. parts_from i m ys) (omega arith)
parts_append i n (x ∷ xs) ys =
    let next : n + 1 + length xs ≡ n + length (x ∷ xs) = omega arith in
    ap (λ z. part_by i n (out-Constant x) ∷ z) (parts_append i (n + 1) xs ys ∙ ap (λ m. parts_from i (n + 1) xs ++ parts_from i m ys) next)

pub length-parts : (i n : ℕ) (xs : List Constant) → length (parts_from i n xs) ≡ length xs
length-parts i n [] = refl
length-parts i n (x ∷ xs) = ap suc (length-parts i (n + 1) xs)

pub values_push : (i n : ℕ) (xs : List Constant) (y : Constant) → values_from i n (xs ++ y ∷ []) ≡ values_from i n xs ++ value_by (numbered i (n + length (flat_map preorder xs))) (out-Constant y) ∷ []
values_push i n [] y = ap (λ m. value_by (numbered i m) (out-Constant y) ∷ []) (omega arith)
values_push i n (x ∷ xs) y =
    let next : n + length (preorder x) + length (flat_map preorder xs) ≡ n + length (preorder x ++ flat_map preorder xs) = omega (arith, length-append (preorder x) (flat_map preorder xs)) in
    let first = value_by (numbered i n) (out-Constant x) in
    ap (λ z. first ∷ z) (values_push i (n + length (preorder x)) xs y
    ∙ ap (λ m. values_from i (n + length (preorder x)) xs ++ value_by (numbered i m) (out-Constant y) ∷ []) next)

-- behind the parts before, those of some objects with their values
pub record Added (i : ℕ) (before : List Part) (objects : List Constant) (now : List Part) (values : List Value) : Type 0 where
  pub parts : now ≡ before ++ parts_from i (length before) (flat_map preorder objects)
  pub values_are : values ≡ values_from i (length before) objects

pub none_added : (i : ℕ) (before : List Part) (values : List Value) → values ≡ [] → Added i before [] before values
none_added i before values e = record { parts = sym (append-nil before); values_are = e }

flat_map_push : (xs : List Constant) (y : Constant) → flat_map preorder (xs ++ y ∷ []) ≡ flat_map preorder xs ++ preorder y
flat_map_push [] y = append-nil (preorder y)
flat_map_push (x ∷ xs) y = ap (λ z. preorder x ++ z) (flat_map_push xs y) ∙ sym (append_assoc (preorder x) (flat_map preorder xs) (preorder y))

pub one_more_added : (i : ℕ) (before now next : List Part) (xs : List Constant) (y : Constant) (values : List Value) (v : Value) → Added i before xs now values → next ≡ now ++ parts_from i (length now) (preorder y) → v ≡ value_by (numbered i (length now)) (out-Constant y) → Added i before (xs ++ y ∷ []) next (values ++ v ∷ [])
one_more_added i before now next xs y values v a e f =
    let b = length before in
    let front = flat_map preorder xs in
    let place : length now ≡ b + length front = ap length a.parts ∙ (length-append before (parts_from i b front) ∙ ap (λ n. b + n) (length-parts i b front)) in
    record {
      parts = e ∙ (ap (λ z. z ++ parts_from i (length now) (preorder y)) a.parts
          ∙ (ap (λ n. before ++ parts_from i b front ++ parts_from i n (preorder y)) place
          ∙ (append_assoc before (parts_from i b front) (parts_from i (b + length front) (preorder y))
          ∙ (ap (λ z. before ++ z) (sym (parts_append i b front (preorder y)))
          ∙ ap (λ z. before ++ parts_from i b z) (sym (flat_map_push xs y))))));
      values_are = ap (λ z. z ++ v ∷ []) a.values_are
          ∙ (ap (λ z. values_from i b xs ++ z ∷ []) (f ∙ ap (λ n. value_by (numbered i n) (out-Constant y)) place)
          ∙ sym (values_push i b xs y));
    }

whole_part : (i n : ℕ) (o : Constant-F Constant) → items_in o ≡ None → own_part_by o ≡ part_by i n o
whole_part i n Constant-F.None e = refl
whole_part i n Constant-F.False e = refl
whole_part i n Constant-F.True e = refl
whole_part i n (Constant-F.Str text) e = refl
whole_part i n (Constant-F.Int z) e = refl
whole_part i n (Constant-F.Tuple items) e = absurd cc

-- an object without items
pub whole_added : (i : ℕ) (before : List Part) (x : Constant) (part : Part) → part ≡ own_part_by (out-Constant x) → items_in (out-Constant x) ≡ None → before ++ part ∷ [] ≡ before ++ parts_from i (length before) (preorder x)
whole_added i before x part e none =
    let same : own_part_by (out-Constant x) ≡ part_by i (length before) (out-Constant x) = whole_part i (length before) (out-Constant x) none in
    ap (λ z. before ++ z ∷ []) (e ∙ same) ∙ ap (λ z. before ++ parts_from i (length before) z) (sym (leaf x none))

set_behind : (before behind : List Part) (x y : Part) → slice_set (before ++ x ∷ behind) (length before) y ≡ before ++ y ∷ behind
set_behind [] behind x y = refl
set_behind (z ∷ before) behind x y = ap (λ w. z ∷ w) (set_behind before behind x y)

-- a tuple, whose part is put in when its items are there
pub tuple_added : (l i place : ℕ) (before now next : List Part) (x : Constant) (items : List Constant) (part : Part) (values : List Value) → l ≤ MAX_DEPTH → Fine l x → out-Constant x ≡ Constant-F.Tuple items → place ≡ length before → now ≡ before ++ part ∷ [] → next ≡ now ++ parts_from i (length now) (flat_map preorder items) → values ≡ values_from i (length now) items → slice_set next place (parts.Tuple values) ≡ before ++ parts_from i (length before) (preorder x)
tuple_added l i place before now next x items part values le fine is p e f g =
    let b = length before in
    let count : length now ≡ b + 1 = ap length e ∙ length-append before (part ∷ []) in
    let behind = parts_from i (b + 1) (flat_map preorder items) in
    let all : next ≡ before ++ part ∷ behind = f ∙ (ap (λ z. z ++ parts_from i (length now) (flat_map preorder items)) e ∙ (append_assoc before (part ∷ []) (parts_from i (length now) (flat_map preorder items)) ∙ ap (λ n. before ++ part ∷ parts_from i n (flat_map preorder items)) count)) in
    let told : values ≡ values_from i (b + 1) items = g ∙ ap (λ n. values_from i n items) count in
    ap (λ z. slice_set z place (parts.Tuple values)) all
    ∙ (ap (λ n. slice_set (before ++ part ∷ behind) n (parts.Tuple values)) p
    ∙ (set_behind before behind part (parts.Tuple values)
    ∙ (ap (λ z. before ++ parts.Tuple z ∷ behind) told
    ∙ (ap (λ (o : Constant-F Constant). before ++ part_by i b o ∷ behind) (sym is)
    ∙ ap (λ z. before ++ parts_from i b z) (sym (opened l x items le fine (ap items_in is)))))))

-- a Rust match on an object
-- =========================

pub tuple_rolls : (items : List Constant) → constants.Tuple items ≡ roll-Constant (Constant-F.Tuple items)
unfolding roll-Constant out-Constant roll
tuple_rolls items = refl

pub is_tuple : (x : Constant) (items : List Constant) → x ≡ constants.Tuple items → out-Constant x ≡ Constant-F.Tuple items
is_tuple x items e = ap out-Constant (e ∙ tuple_rolls items) ∙ out-roll-Constant (Constant-F.Tuple items)

not_by : (x : Constant) (o : Constant-F Constant) → out-Constant x ≡ o → ((items : List Constant) → x ≡ constants.Tuple items → ⊥) → items_in o ≡ None
not_by x Constant-F.None e never = refl
not_by x Constant-F.False e never = refl
not_by x Constant-F.True e never = refl
not_by x (Constant-F.Str text) e never = refl
not_by x (Constant-F.Int n) e never = refl
not_by x (Constant-F.Tuple items) e never = absurd (never items (sym (roll-out-Constant x) ∙ ap roll-Constant e ∙ sym (tuple_rolls items)))

pub not_tuple : (x : Constant) → ((items : List Constant) → x ≡ constants.Tuple items → ⊥) → items_in (out-Constant x) ≡ None
not_tuple x never = not_by x (out-Constant x) refl never

-- the next object of a list
pub one_more : (i : ℕ) (before now next : List Part) (all : List Constant) (k : ℕ) (y : Constant) (values more : List Value) (v : Value) → k < length all → y ≡ get_or all k y → Added i before (take k all) now values → next ≡ now ++ parts_from i (length now) (preorder y) → v ≡ value_by (numbered i (length now)) (out-Constant y) → more ≡ values ++ v ∷ [] → Added i before (take (k + 1) all) next more
one_more i before now next all k y values more v lt is a e f g =
    let further : take (k + 1) all ≡ take k all ++ y ∷ [] = take_more all k y lt ∙ ap (λ z. take k all ++ z ∷ []) (sym is) in
    let added = one_more_added i before now next (take k all) y values v a e f in
    subst (λ z. Added i before z next more) (sym further) (subst (λ z. Added i before (take k all ++ y ∷ []) next z) (sym g) added)
