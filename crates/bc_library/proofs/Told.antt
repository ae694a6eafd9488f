-- What a library tells of constants.
use Rattle.std.proofs.Common.{◌≡◌, ℕ, zero, suc, ◌+◌, ◌<◌, ◌≤◌, ◌^◌, List, [], ◌∷◌, ◌++◌, length, drop, map, option_map, Bor, option_copied, Option, Some, None, refl, sym, ap, subst, ◌∙◌, append_assoc, arith}
use Rattle.std.specs.Prelude.{slice_get, option_and_then, IfSome, IsSome, is_some}
use Rattle.std.specs.List.{flat_map}
use Rattle.mpy_base.specs.declared.limits.TheConstants.{MAX_DEPTH}
use Rattle.arena_heap.specs.declared.value.Value.{Value}
use Rattle.arena_heap.specs.declared.value.Value.TheVariants as values
use Rattle.arena_heap.specs.declared.value.StrNo.TheVariants as strs
use Rattle.arena_heap.specs.declared.value.ConstNo.{ConstNo}
use Rattle.arena_heap.specs.Constants.{IsItemOf, NestsWithin}
use Rattle.mpy_tree.specs.declared.module.Constant.{Constant, out-Constant}
use Rattle.mpy_tree.specs.declared.module.Constant.TheOpen.{Constant-F}
use Rattle.mpy_tree.specs.Raw.{Module}
use Rattle.bc_library.specs.Constants.{constants_of, items_in, bytes_in, preorder, numbered, value_by, values_from, constant_at, items_at, text_at}
use Rattle.bc_library.specs.Fine.{Each, FineBy, AreFew, Fine}
use Rattle.bc_library.specs.Shelf.{Shelf, Named, module_at}
use Rattle.bc_library.specs.Texts.{IsPlain}
use Rattle.bc_library.specs.Told.{IsTold}
use Rattle.std.proofs.lemmas.Option.{slice_get-map}
use Rattle.bc_verify.specs.qstr_pool.Pool.{Texts}
use Rattle.bc_library.specs.declared.library.Loaded.{Loaded}
use Rattle.bc_library.specs.declared.parts.Part.{Part as KeptPart}
use Rattle.bc_library.specs.Kept.{IsLoaded, IsLibrary, named, shelf_of}
use Rattle.bc_library.specs.Parts.{part_by, parts_from, bytes_of, items_of}
use Rattle.bc_library.proofs.Preorders.{below, leaf, opened}

-- an object stands at a place of a list in preorder, with what is in it behind it
pub record Stands (all : List Constant) (p : ℕ) (x : Constant) : Type 0 where
  pub levels : ℕ
  pub shallow : levels ≤ MAX_DEPTH
  pub fine : Fine levels x
  pub behind : List Constant
  pub at : drop p all ≡ preorder x ++ behind

drop_further : (all front behind : List Constant) (p : ℕ) → drop p all ≡ front ++ behind → drop (p + length front) all ≡ behind
drop_further all [] behind p e = ap (λ n. drop n all) (omega arith) ∙ e
drop_further [] (x ∷ front) behind zero e = absurd cc
drop_further [] (x ∷ front) behind (suc p) e = absurd cc
drop_further (y ∷ all) (x ∷ front) behind zero e =
    let rest : all ≡ front ++ behind = cc in
    let next : 0 + length (x ∷ front) ≡ suc (length front) = omega arith in
    ap (λ n. drop n (y ∷ all)) next ∙ (ap (λ n. drop n all) (omega arith) ∙ drop_further all front behind 0 rest)
drop_further (y ∷ all) (x ∷ front) behind (suc p) e =
    let next : suc p + length (x ∷ front) ≡ suc (p + length (x ∷ front)) = omega arith in
    ap (λ n. drop n (y ∷ all)) next ∙ drop_further all (x ∷ front) behind p e

drop_head : (all behind : List Constant) (p : ℕ) (x : Constant) → drop p all ≡ x ∷ behind → slice_get all p ≡ Some x
drop_head [] behind zero x e = absurd cc
drop_head [] behind (suc p) x e = absurd cc
drop_head (y ∷ all) behind zero x e = let same : y ≡ x = cc in ap Some same
drop_head (y ∷ all) behind (suc p) x e = drop_head all behind p x e

-- what is found in a list of objects, given the same for each of them
abbrev InTree : List Constant → (Constant → Type 0) → Type 0
InTree all P = (y : Constant) → P y → (p : ℕ) (behind : List Constant) → drop p all ≡ preorder y ++ behind → (k : ℕ) (x : Constant) → slice_get (preorder y) k ≡ Some x → Stands all (p + k) x

data Part (front behind : List Constant) (k : ℕ) (x : Constant) : Type 0 where
  early : slice_get front k ≡ Some x → Part front behind k x
  late : (j : ℕ) → k ≡ length front + j → slice_get behind j ≡ Some x → Part front behind k x

later : {front behind : List Constant} {k : ℕ} {x : Constant} (y : Constant) → Part front behind k x → Part (y ∷ front) behind (suc k) x
later y (early e) = early e
later y (late j e f) = late j (omega (arith, e)) f

parted : (front behind : List Constant) (k : ℕ) (x : Constant) → slice_get (front ++ behind) k ≡ Some x → Part front behind k x
parted [] behind k x e = late k (omega arith) e
parted (y ∷ front) behind zero x e = early e
parted (y ∷ front) behind (suc k) x e = later y (parted front behind k x e)

in_list : (all : List Constant) (P : Constant → Type 0) → InTree all P → (ys : List Constant) → Each P ys → (p : ℕ) (behind : List Constant) → drop p all ≡ flat_map preorder ys ++ behind → (k : ℕ) (x : Constant) → slice_get (flat_map preorder ys) k ≡ Some x → Stands all (p + k) x
in_list all P tree [] each p behind at k x e = absurd cc
in_list all P tree (y ∷ ys) each p behind at k x e =
    let here : drop p all ≡ preorder y ++ (flat_map preorder ys ++ behind) = at ∙ append_assoc (preorder y) (flat_map preorder ys) behind in
    elim (parted (preorder y) (flat_map preorder ys) k x e) [
      | early f ↦ tree y (each 0 y refl) p (flat_map preorder ys ++ behind) here k x f
      | late j same f ↦
          let there = drop_further all (preorder y) (flat_map preorder ys ++ behind) p here in
          let found = in_list all P tree ys (λ n z h. each (suc n) z h) (p + length (preorder y)) behind there j x f in
          subst (λ n. Stands all n x) (omega (arith, same)) found
    ]

stands_here : (l : ℕ) (all : List Constant) (y x : Constant) (p k : ℕ) (behind : List Constant) → l ≤ MAX_DEPTH → Fine l y → drop p all ≡ preorder y ++ behind → k ≡ 0 → y ≡ x → Stands all (p + k) x
stands_here l all y x p k behind le fine at first same =
    subst (λ z. Stands all (p + k) z) same (record {
      levels = l;
      shallow = le;
      fine = fine;
      behind = behind;
      at = ap (λ n. drop n all) (omega (arith, first)) ∙ at;
    })

-- the kinds of objects: those with items and those without
data Kind (x : Constant) : Type 0 where
  whole : items_in (out-Constant x) ≡ None → Kind x
  parts : (items : List Constant) → items_in (out-Constant x) ≡ Some items → Kind x

kind_by : (x : Constant) (o : Option (List Constant)) → items_in (out-Constant x) ≡ o → Kind x
kind_by x None e = whole e
kind_by x (Some items) e = parts items e

kind : (x : Constant) → Kind x
kind x = kind_by x (items_in (out-Constant x)) refl

in_leaf : (l : ℕ) (all : List Constant) (y : Constant) → l ≤ MAX_DEPTH → Fine l y → items_in (out-Constant y) ≡ None → (p : ℕ) (behind : List Constant) → drop p all ≡ preorder y ++ behind → (k : ℕ) (x : Constant) → slice_get (preorder y) k ≡ Some x → Stands all (p + k) x
in_leaf l all y le fine none p behind at zero x e =
    let one : Some y ≡ Some x = sym (ap (λ z. slice_get z 0) (leaf y none)) ∙ e in
    stands_here l all y x p 0 behind le fine at refl cc
in_leaf l all y le fine none p behind at (suc k) x e =
    let past : None ≡ Some x = sym (ap (λ z. slice_get z (suc k)) (leaf y none)) ∙ e in
    absurd cc

in_tuple : (l : ℕ) (all : List Constant) (y : Constant) (items : List Constant) → l ≤ MAX_DEPTH → Fine l y → items_in (out-Constant y) ≡ Some items → (P : Constant → Type 0) → Each P items → InTree all P → (p : ℕ) (behind : List Constant) → drop p all ≡ preorder y ++ behind → (k : ℕ) (x : Constant) → slice_get (preorder y) k ≡ Some x → Stands all (p + k) x
in_tuple l all y items le fine some P each tree p behind at zero x e =
    let one : Some y ≡ Some x = sym (ap (λ z. slice_get z 0) (opened l y items le fine some)) ∙ e in
    stands_here l all y x p 0 behind le fine at refl cc
in_tuple l all y items le fine some P each tree p behind at (suc k) x e =
    let whole_is = opened l y items le fine some in
    let within : slice_get (flat_map preorder items) k ≡ Some x = sym (ap (λ z. slice_get z (suc k)) whole_is) ∙ e in
    let here : drop p all ≡ (y ∷ []) ++ (flat_map preorder items ++ behind) = at ∙ ap (λ z. z ++ behind) whole_is in
    let there = drop_further all (y ∷ []) (flat_map preorder items ++ behind) p here in
    subst (λ n. Stands all n x) (omega arith) (in_list all P tree items each (p + 1) behind there k x within)

in_tree : (l : ℕ) (all : List Constant) → l ≤ MAX_DEPTH → InTree all (Fine l)
unfolding Fine
in_tree zero all le y fine p behind at k x e =
    elim (kind y) [
      | whole none ↦ in_leaf 0 all y le fine none p behind at k x e
      | parts items some ↦ absurd (let b = below 0 y items fine some in let no : 0 ≡ suc b.levels = b.levels_are in cc)
    ]
in_tree (suc l) all le y fine p behind at k x e =
    elim (kind y) [
      | whole none ↦ in_leaf (suc l) all y le fine none p behind at k x e
      | parts items some ↦
          let b = below (suc l) y items fine some in
          let same : b.levels ≡ l = omega (arith, b.levels_are) in
          let each = subst (λ n. Each (Fine n) items) same b.few.each in
          in_tuple (suc l) all y items le fine some (Fine l) each (in_tree l all (omega arith)) p behind at k x e
    ]

-- each constant of a list of objects stands at its place
pub stands : (objects : List Constant) → Each (Fine MAX_DEPTH) objects → (k : ℕ) (x : Constant) → slice_get (flat_map preorder objects) k ≡ Some x → Stands (flat_map preorder objects) k x
stands objects each k x e =
    let all = flat_map preorder objects in
    let at : drop 0 all ≡ all ++ [] = sym (append_nil all) in
    subst (λ n. Stands all n x) (omega arith) (in_list all (Fine MAX_DEPTH) (in_tree MAX_DEPTH all (omega arith)) objects each 0 [] at k x e)
  where
    append_nil : (xs : List Constant) → xs ++ [] ≡ xs
    append_nil [] = refl
    append_nil (y ∷ ys) = ap (λ z. y ∷ z) (append_nil ys)

head_by : (x : Constant) → Kind x → (l : ℕ) → l ≤ MAX_DEPTH → Fine l x → (t : List Constant) × (preorder x ≡ x ∷ t)
head_by x (whole none) l le fine = ([], leaf x none)
head_by x (parts items some) l le fine = (flat_map preorder items, opened l x items le fine some)

-- a value of objects one after another is that of the object at its place
pub record IsValueAt (i : ℕ) (all : List Constant) (xs : List Constant) (n j : ℕ) (v : Value) : Type 0 where
  pub x : Constant
  pub place : ℕ
  pub later : n ≤ place
  pub is : slice_get xs j ≡ Some x
  pub value : v ≡ value_by (numbered i place) (out-Constant x)
  pub behind : List Constant
  pub at : drop place all ≡ preorder x ++ behind

pub value_at : (i : ℕ) (all xs : List Constant) (n : ℕ) (behind : List Constant) → drop n all ≡ flat_map preorder xs ++ behind → (j : ℕ) (v : Value) → slice_get (values_from i n xs) j ≡ Some v → IsValueAt i all xs n j v
value_at i all [] n behind at j v e = absurd cc
value_at i all (x ∷ xs) n behind at zero v e =
    let same : value_by (numbered i n) (out-Constant x) ≡ v = cc in
    record {
      x = x;
      place = n;
      later = omega arith;
      is = refl;
      value = sym same;
      behind = flat_map preorder xs ++ behind;
      at = at ∙ append_assoc (preorder x) (flat_map preorder xs) behind;
    }
value_at i all (x ∷ xs) n behind at (suc j) v e =
    let here = at ∙ append_assoc (preorder x) (flat_map preorder xs) behind in
    let there = drop_further all (preorder x) (flat_map preorder xs ++ behind) n here in
    let found = value_at i all xs (n + length (preorder x)) behind there j v e in
    record {
      x = found.x;
      place = found.place;
      later = omega (arith, found.later);
      is = found.is;
      value = found.value;
      behind = found.behind;
      at = found.at;
    }

-- of a library
-- ============

-- the objects of its modules are those of files
pub record FineShelf (shelf : Shelf) : Type 0 where
  pub each : (i : ℕ) (m : Module) → module_at shelf i ≡ Some m → Each (Fine MAX_DEPTH) m.objects

then_some : {A B : Type 0} (o : Option A) (f : A → Option B) (y : B) → option_and_then f o ≡ Some y → (x : A) × (o ≡ Some x) × (f x ≡ Some y)
then_some None f y e = absurd cc
then_some (Some x) f y e = (x, refl, e)

some_is : {A : Type 0} (o : Option A) (x : A) → o ≡ Some x → IsSome o
some_is o x e = ap is_some e

-- a constant that is told, and its place
pub record IsConstant (shelf : Shelf) (c : ConstNo) (x : Constant) : Type 0 where
  pub m : Module
  pub there : module_at shelf c.«module» ≡ Some m
  pub stands : Stands (constants_of m) c.object x

pub constant : (shelf : Shelf) → FineShelf shelf → (c : ConstNo) (x : Constant) → constant_at shelf c ≡ Some x → IsConstant shelf c x
constant shelf fine c x e =
    let s = then_some (module_at shelf c.«module») (λ m. slice_get (constants_of m) c.object) x e in
    record { m = s.0; there = s.1; stands = stands s.0.objects (fine.each c.«module» s.0 s.1) c.object x s.2 }

placed : (shelf : Shelf) (m : Module) (i place : ℕ) (y : Constant) (behind : List Constant) (l : ℕ) → module_at shelf i ≡ Some m → drop place (constants_of m) ≡ preorder y ++ behind → l ≤ MAX_DEPTH → Fine l y → constant_at shelf (numbered i place) ≡ Some y
placed shelf m i place y behind l there at le fine =
    let h = head_by y (kind y) l le fine in
    ap (option_and_then (λ z. slice_get (constants_of z) place)) there
    ∙ drop_head (constants_of m) (h.0 ++ behind) place y (at ∙ ap (λ z. z ++ behind) h.1)

-- the items of a tuple begin right behind it
items_behind : (l : ℕ) (all : List Constant) (x : Constant) (items : List Constant) (p : ℕ) (behind : List Constant) → l ≤ MAX_DEPTH → Fine l x → items_in (out-Constant x) ≡ Some items → drop p all ≡ preorder x ++ behind → drop (p + 1) all ≡ flat_map preorder items ++ behind
items_behind l all x items p behind le fine some at =
    drop_further all (x ∷ []) (flat_map preorder items ++ behind) p (at ∙ ap (λ z. z ++ behind) (opened l x items le fine some))

pub told_items : (shelf : Shelf) (c : ConstNo) (x : Constant) (items : List Constant) → constant_at shelf c ≡ Some x → items_in (out-Constant x) ≡ Some items → items_at shelf c ≡ Some (values_from c.«module» (c.object + 1) items)
told_items shelf c x items e some =
    let of_items = λ (xs : List Constant). Some (values_from c.«module» (c.object + 1) xs) in
    ap (option_and_then (λ object. option_and_then of_items (items_in (out-Constant object)))) e ∙ ap (option_and_then of_items) some

pub told_no_items : (shelf : Shelf) (c : ConstNo) (x : Constant) → constant_at shelf c ≡ Some x → items_in (out-Constant x) ≡ None → items_at shelf c ≡ None
told_no_items shelf c x e none =
    let of_items = λ (xs : List Constant). Some (values_from c.«module» (c.object + 1) xs) in
    ap (option_and_then (λ object. option_and_then of_items (items_in (out-Constant object)))) e ∙ ap (option_and_then of_items) none

told_text : (shelf : Shelf) (c : ConstNo) (x : Constant) (text : List ℕ) → constant_at shelf c ≡ Some x → bytes_in (out-Constant x) ≡ Some text → text_at shelf (strs.Object c) ≡ Some text
told_text shelf c x text e some = ap (option_and_then (λ object. bytes_in (out-Constant object))) e ∙ some

item_by : (shelf : Shelf) (c : ConstNo) (place : ℕ) (y : Constant) (P : List Constant → Type 0) (o : Constant-F Constant) → out-Constant y ≡ o → constant_at shelf (numbered c.«module» place) ≡ Some y → c.object < place → FineBy P o → IsItemOf (text_at shelf) (items_at shelf) c (value_by (numbered c.«module» place) o)
item_by shelf c place y P Constant-F.None is at lt fine = tt
item_by shelf c place y P Constant-F.False is at lt fine = tt
item_by shelf c place y P Constant-F.True is at lt fine = tt
item_by shelf c place y P (Constant-F.Str text) is at lt fine =
    some_is _ text (told_text shelf (numbered c.«module» place) y text at (ap bytes_in is))
item_by shelf c place y P (Constant-F.Int n) is at lt fine = fine
item_by shelf c place y P (Constant-F.Tuple []) is at lt fine = tt
item_by shelf c place y P (Constant-F.Tuple (z ∷ zs)) is at lt fine =
    (some_is _ _ (told_items shelf (numbered c.«module» place) y (z ∷ zs) at (ap items_in is)), refl, lt)

fine_by : (l : ℕ) (y : Constant) → Fine l y → (P : List Constant → Type 0) × FineBy P (out-Constant y)
unfolding Fine
fine_by zero y fine = (λ items. ⊥, fine)
fine_by (suc l) y fine = (AreFew (Fine l), fine)

pub formed : (shelf : Shelf) → FineShelf shelf → (c : ConstNo) (x : Constant) (items : List Constant) (j : ℕ) (v : Value) → constant_at shelf c ≡ Some x → items_in (out-Constant x) ≡ Some items → slice_get (values_from c.«module» (c.object + 1) items) j ≡ Some v → IsItemOf (text_at shelf) (items_at shelf) c v
formed shelf fine c x items j v e some at_j =
    let k = constant shelf fine c x e in
    let s = k.stands in
    let b = below s.levels x items s.fine some in
    let there = items_behind s.levels (constants_of k.m) x items c.object s.behind s.shallow s.fine some s.at in
    let w = value_at c.«module» (constants_of k.m) items (c.object + 1) s.behind there j v at_j in
    let fine_y = b.few.each j w.x w.is in
    let le : b.levels ≤ MAX_DEPTH = omega (arith, b.levels_are, s.shallow) in
    let here = placed shelf k.m c.«module» w.place w.x w.behind b.levels k.there w.at le fine_y in
    let f = fine_by b.levels w.x fine_y in
    subst (IsItemOf (text_at shelf) (items_at shelf) c) (sym w.value)
    (item_by shelf c w.place w.x f.0 (out-Constant w.x) refl here (omega (arith, w.later)) f.1)

fixed_is : (o : Constant-F Constant) (d e : ConstNo) → values.Fixed d ≡ value_by e o → d ≡ e
fixed_is Constant-F.None d e h = absurd cc
fixed_is Constant-F.False d e h = absurd cc
fixed_is Constant-F.True d e h = absurd cc
fixed_is (Constant-F.Str text) d e h = absurd cc
fixed_is (Constant-F.Int n) d e h = absurd cc
fixed_is (Constant-F.Tuple []) d e h = absurd cc
fixed_is (Constant-F.Tuple (z ∷ zs)) d e h = cc

no_items : (y : Constant) → Kind y → Fine 0 y → items_in (out-Constant y) ≡ None
no_items y (whole none) fine = none
no_items y (parts items some) fine = absurd (let b = below 0 y items fine some in let no : 0 ≡ suc b.levels = b.levels_are in cc)

nests_by : (shelf : Shelf) (m : Module) (i p l : ℕ) (x : Constant) (behind : List Constant) → module_at shelf i ≡ Some m → drop p (constants_of m) ≡ preorder x ++ behind → l ≤ MAX_DEPTH → Fine l x → NestsWithin (items_at shelf) l (numbered i p)
nests_by shelf m i p zero x behind there at le fine =
    told_no_items shelf (numbered i p) x (placed shelf m i p x behind 0 there at le fine) (no_items x (kind x) fine)
nests_by shelf m i p (suc l) x behind there at le fine =
    let P = λ (items : List Value). (k : ℕ) (d : ConstNo) → slice_get items k ≡ Some (values.Fixed d) → NestsWithin (items_at shelf) l d in
    let here = placed shelf m i p x behind (suc l) there at le fine in
    elim (kind x) [
      | whole none ↦ subst (λ o. IfSome o P) (sym (told_no_items shelf (numbered i p) x here none)) tt
      | parts items some ↦
          let b = below (suc l) x items fine some in
          let same : b.levels ≡ l = omega (arith, b.levels_are) in
          let next = items_behind (suc l) (constants_of m) x items p behind le fine some at in
          let each : P (values_from i (p + 1) items) = λ k d e.
          let w = value_at i (constants_of m) items (p + 1) behind next k (values.Fixed d) e in
          let fine_y = subst (λ n. Fine n w.x) same (b.few.each k w.x w.is) in
          subst (NestsWithin (items_at shelf) l) (sym (fixed_is (out-Constant w.x) d (numbered i w.place) w.value))
          (nests_by shelf m i w.place l w.x w.behind there w.at (omega arith) fine_y) in
          subst (λ o. IfSome o P) (sym (told_items shelf (numbered i p) x items here some)) each
    ]

-- objects of some levels are objects of more
weaker : (P Q : List Constant → Type 0) (o : Constant-F Constant) → ((items : List Constant) → P items → Q items) → FineBy P o → FineBy Q o
weaker P Q Constant-F.None f fine = tt
weaker P Q Constant-F.False f fine = tt
weaker P Q Constant-F.True f fine = tt
weaker P Q (Constant-F.Str text) f fine = fine
weaker P Q (Constant-F.Int n) f fine = fine
weaker P Q (Constant-F.Tuple items) f fine = f items fine

more_levels : (l k : ℕ) (x : Constant) → l ≤ k → Fine l x → Fine k x
unfolding Fine
more_levels zero zero x le fine = fine
more_levels zero (suc k) x le fine = weaker (λ items. ⊥) (AreFew (Fine k)) (out-Constant x) (λ items no. absurd no) fine
more_levels (suc l) zero x le fine = absurd (omega arith)
more_levels (suc l) (suc k) x le fine =
    weaker (AreFew (Fine l)) (AreFew (Fine k)) (out-Constant x)
    (λ items f. record { few = f.few; each = λ n y e. more_levels l k y (omega arith) (f.each n y e) }) fine

pub nests : (shelf : Shelf) → FineShelf shelf → (c : ConstNo) (x : Constant) → constant_at shelf c ≡ Some x → NestsWithin (items_at shelf) MAX_DEPTH c
nests shelf fine c x e =
    let k = constant shelf fine c x e in
    let s = k.stands in
    nests_by shelf k.m c.«module» c.object MAX_DEPTH x s.behind k.there s.at (omega arith) (more_levels s.levels MAX_DEPTH x s.shallow s.fine)

-- a str is plain
plain_by : (P : List Constant → Type 0) (o : Constant-F Constant) (text : List ℕ) → FineBy P o → bytes_in o ≡ Some text → IsPlain text
plain_by P Constant-F.None text fine e = absurd cc
plain_by P Constant-F.False text fine e = absurd cc
plain_by P Constant-F.True text fine e = absurd cc
plain_by P (Constant-F.Str own) text fine e = let same : own ≡ text = cc in subst IsPlain same fine
plain_by P (Constant-F.Int n) text fine e = absurd cc
plain_by P (Constant-F.Tuple items) text fine e = absurd cc

pub plain_str : (shelf : Shelf) → FineShelf shelf → (c : ConstNo) (text : List ℕ) → text_at shelf (strs.Object c) ≡ Some text → IsPlain text
plain_str shelf fine c text e =
    let s = then_some (constant_at shelf c) (λ object. bytes_in (out-Constant object)) text e in
    let k = (constant shelf fine c s.0 s.1).stands in
    let f = fine_by k.levels s.0 k.fine in
    plain_by f.0 (out-Constant s.0) text f.1 s.2

-- a tuple has few items
pub few_items : (shelf : Shelf) → FineShelf shelf → (c : ConstNo) (x : Constant) (items : List Constant) → constant_at shelf c ≡ Some x → items_in (out-Constant x) ≡ Some items → length items < 2 ^ 31
few_items shelf fine c x items e some =
    let s = (constant shelf fine c x e).stands in
    (below s.levels x items s.fine some).few.few

-- as it is kept
-- =============

same_some : {A : Type 0} (x y : A) → Some x ≡ Some y → x ≡ y
same_some x y e = cc

mapped : (o : Option Loaded) (n : Named) → option_map named o ≡ Some n → (l : Loaded) × (o ≡ Some l) × (named l ≡ n)
mapped None n e = absurd cc
mapped (Some l) n e = (l, refl, same_some (named l) n e)

pub fine_shelf : (modules : List Loaded) (refused : List (List ℕ)) (pool : Texts) (shelf : Shelf) → shelf_of modules refused pool ≡ shelf → IsLibrary modules refused pool → FineShelf shelf
fine_shelf modules refused pool shelf is lib = subst FineShelf is (record { each = λ i m e. fine_at i m e })
  where
    fine_at : (i : ℕ) (m : Module) → module_at (shelf_of modules refused pool) i ≡ Some m → Each (Fine MAX_DEPTH) m.objects
    fine_at i m e =
        let n = then_some (slice_get (map named modules) i) (λ (z : Named). Some z.held) m e in
        let l = mapped (slice_get modules i) n.0 (sym (slice_get-map named modules i) ∙ n.1) in
        let held : l.0.«module» ≡ m = ap (λ (z : Named). z.held) l.2 ∙ same_some n.0.held m n.2 in
        subst (λ (z : Module). Each (Fine MAX_DEPTH) z.objects) held (lib.loaded i l.0 l.1).fine

-- a part of a constant
part_there : (i n : ℕ) (xs : List Constant) (k : ℕ) → slice_get (parts_from i n xs) k ≡ option_map (λ x. part_by i (n + k) (out-Constant x)) (slice_get xs k)
part_there i n [] k = refl
part_there i n (x ∷ xs) zero = ap (λ m. Some (part_by i m (out-Constant x))) (omega arith)
part_there i n (x ∷ xs) (suc k) =
    let next : n + 1 + k ≡ n + suc k = omega arith in
    part_there i (n + 1) xs k ∙ ap (λ m. option_map (λ x. part_by i m (out-Constant x)) (slice_get xs k)) next

abbrev pub kept_at : List Loaded → ConstNo → Option KeptPart
kept_at modules c = option_and_then (λ (l : Loaded). slice_get l.parts.items c.object) (slice_get modules c.«module»)

kept_by : (c : ConstNo) (modules : List Loaded) (pool : Texts) (o : Option Loaded) → ((l : Loaded) → o ≡ Some l → IsLoaded pool c.«module» l) → option_and_then (λ (l : Loaded). slice_get l.parts.items c.object) o ≡ option_map (λ x. part_by c.«module» c.object (out-Constant x)) (option_and_then (λ (m : Module). slice_get (constants_of m) c.object) (option_and_then (λ (n : Named). Some n.held) (option_map named o)))
kept_by c modules pool None loaded = refl
kept_by c modules pool (Some l) loaded =
    ap (λ ps. slice_get ps c.object) (loaded l refl).parts ∙ (part_there c.«module» 0 (constants_of l.«module») c.object
    ∙ ap (λ m. option_map (λ x. part_by c.«module» m (out-Constant x)) (slice_get (constants_of l.«module») c.object)) (omega arith))

kept_is : (modules : List Loaded) (refused : List (List ℕ)) (pool : Texts) (shelf : Shelf) (c : ConstNo) → shelf_of modules refused pool ≡ shelf → IsLibrary modules refused pool → kept_at modules c ≡ option_map (λ x. part_by c.«module» c.object (out-Constant x)) (constant_at shelf c)
kept_is modules refused pool shelf c is lib =
    kept_by c modules pool (slice_get modules c.«module») (λ l e. lib.loaded c.«module» l e)
    ∙ (ap (λ o. option_map (λ x. part_by c.«module» c.object (out-Constant x)) (option_and_then (λ (m : Module). slice_get (constants_of m) c.object) (option_and_then (λ (n : Named). Some n.held) o))) (sym (slice_get-map named modules c.«module»))
    ∙ ap (λ (s : Shelf). option_map (λ x. part_by c.«module» c.object (out-Constant x)) (constant_at s c)) is)

bytes_by : (i n : ℕ) (o : Constant-F Constant) → bytes_of (part_by i n o) ≡ bytes_in o
bytes_by i n Constant-F.None = refl
bytes_by i n Constant-F.False = refl
bytes_by i n Constant-F.True = refl
bytes_by i n (Constant-F.Str text) = refl
bytes_by i n (Constant-F.Int z) = refl
bytes_by i n (Constant-F.Tuple items) = refl

items_by : (i n : ℕ) (o : Constant-F Constant) → items_of (part_by i n o) ≡ option_and_then (λ items. Some (values_from i (n + 1) items)) (items_in o)
items_by i n Constant-F.None = refl
items_by i n Constant-F.False = refl
items_by i n Constant-F.True = refl
items_by i n (Constant-F.Str text) = refl
items_by i n (Constant-F.Int z) = refl
items_by i n (Constant-F.Tuple items) = refl

bytes_through : (i n : ℕ) (o : Option Constant) → option_and_then bytes_of (option_map (λ x. part_by i n (out-Constant x)) o) ≡ option_and_then (λ x. bytes_in (out-Constant x)) o
bytes_through i n None = refl
bytes_through i n (Some x) = bytes_by i n (out-Constant x)

items_through : (i n : ℕ) (o : Option Constant) → option_and_then items_of (option_map (λ x. part_by i n (out-Constant x)) o) ≡ option_and_then (λ x. option_and_then (λ items. Some (values_from i (n + 1) items)) (items_in (out-Constant x))) o
items_through i n None = refl
items_through i n (Some x) = items_by i n (out-Constant x)

pub str_is : (modules : List Loaded) (refused : List (List ℕ)) (pool : Texts) (shelf : Shelf) (c : ConstNo) → shelf_of modules refused pool ≡ shelf → IsLibrary modules refused pool → option_and_then bytes_of (kept_at modules c) ≡ text_at shelf (strs.Object c)
str_is modules refused pool shelf c is lib =
    ap (option_and_then bytes_of) (kept_is modules refused pool shelf c is lib) ∙ bytes_through c.«module» c.object (constant_at shelf c)

pub tuple_is : (modules : List Loaded) (refused : List (List ℕ)) (pool : Texts) (shelf : Shelf) (c : ConstNo) → shelf_of modules refused pool ≡ shelf → IsLibrary modules refused pool → option_and_then items_of (kept_at modules c) ≡ items_at shelf c
tuple_is modules refused pool shelf c is lib =
    ap (option_and_then items_of) (kept_is modules refused pool shelf c is lib) ∙ items_through c.«module» c.object (constant_at shelf c)

-- what is told of a tuple
-- =======================

length-values : (i n : ℕ) (xs : List Constant) → length (values_from i n xs) ≡ length xs
length-values i n [] = refl
length-values i n (x ∷ xs) = ap suc (length-values i (n + length (preorder x)) xs)

-- the constant and the items of a tuple that is told
pub record IsTupleAt (shelf : Shelf) (c : ConstNo) (vs : List Value) : Type 0 where
  pub x : Constant
  pub items : List Constant
  pub there : constant_at shelf c ≡ Some x
  pub some : items_in (out-Constant x) ≡ Some items
  pub values : values_from c.«module» (c.object + 1) items ≡ vs

tuple_at : (shelf : Shelf) (c : ConstNo) (vs : List Value) → items_at shelf c ≡ Some vs → IsTupleAt shelf c vs
tuple_at shelf c vs e =
    let s = then_some (constant_at shelf c) (λ object. option_and_then (λ items. Some (values_from c.«module» (c.object + 1) items)) (items_in (out-Constant object))) vs e in
    let t = then_some (items_in (out-Constant s.0)) (λ items. Some (values_from c.«module» (c.object + 1) items)) vs s.2 in
    record { x = s.0; items = t.0; there = s.1; some = t.1; values = same_value _ _ t.2 }
  where
    same_value : (x y : List Value) → Some x ≡ Some y → x ≡ y
    same_value x y e = cc

pub told : (shelf : Shelf) → FineShelf shelf → (c : ConstNo) (vs : List Value) → items_at shelf c ≡ Some vs → IsTold shelf c vs
told shelf fine c vs e =
    let t = tuple_at shelf c vs e in
    record {
      few = omega (arith, few_items shelf fine c t.x t.items t.there t.some, length-values c.«module» (c.object + 1) t.items, ap length t.values);
      nests = nests shelf fine c t.x t.there;
      formed = λ j v f. formed shelf fine c t.x t.items j v t.there t.some (ap (λ z. slice_get z j) t.values ∙ f);
    }

-- a fact of what stands behind a reference
pub behind : {A : Type 0} (P : A → Type 0) (r : Option (Bor A)) (o : Option A) → option_copied r ≡ o → ((x : A) → o ≡ Some x → P x) → IfSome r (λ b. P b.now)
behind P None o e f = tt
behind P (Some b) o e f = f b.now (sym e)

pub formed_at : (P : Value → Type 0) (vs : List Value) (j : ℕ) (r : Option Value) → r ≡ slice_get vs j → Each P vs → IfSome r P
formed_at P vs j None e each = tt
formed_at P vs j (Some v) e each = each j v (sym e)
