-- Numbers beside texts: what is put beside one more, and the strs of modules one after another.
use Rattle.std.proofs.Common.{◌≡◌, ℕ, zero, suc, ◌+◌, ◌<◌, ◌≤◌, Bool, true, false, cond, List, [], ◌∷◌, ◌++◌, length, get_or, take, Option, Some, None, refl, sym, ap, ◌∙◌, arith}
use Rattle.std.specs.Prelude.{Vec, position, slice_get, option_and_then}
use Rattle.std.specs.Option.{option_map, option_or}
use Rattle.std.specs.List.{position_from}
use Rattle.std.specs.Str.{bytes_eq}
use Rattle.std.specs.declared.alloc.Global.{Global}
use Rattle.std.proofs.lemmas.Iterator.Adapters.{position_from-zero}
use Rattle.std.proofs.lemmas.List.{take_more, length-take-le}
use Rattle.std.proofs.lemmas.Option.{slice_get_within, get_or_from_slice_get}
use Rattle.std.proofs.lemmas.Slice.Eq.{bytes_eq-Decides}
use Rattle.indexmap.specs.IndexMap.{insert_entry}
use Rattle.arena_heap.specs.declared.value.ConstNo.{ConstNo}
use Rattle.arena_heap.specs.declared.value.StrNo.TheVariants as strs
use Rattle.bc_library.specs.mpy_tree.declared.module.Constant.{Constant, out-Constant}
use Rattle.bc_library.specs.Shelf.{Shelf, Named, module_at}
use Rattle.bc_library.specs.Constants.{bytes_in, constants_of, numbered, text_at}
use Rattle.snap_states.specs.Decoded.{are_bytes, is_str, constant_from}
use Rattle.snap_loading.specs.Texts.{beside}

-- options
-- =======

pub or_none : {A : Type 0} (a : Option A) → option_or a None ≡ a
or_none None = refl
or_none (Some x) = refl

or_assoc : {A : Type 0} (a b c : Option A) → option_or (option_or a b) c ≡ option_or a (option_or b c)
or_assoc None b c = refl
or_assoc (Some x) b c = refl

map_or : {A B : Type 0} (f : A → B) (a b : Option A) → option_map f (option_or a b) ≡ option_or (option_map f a) (option_map f b)
map_or f None b = refl
map_or f (Some x) b = refl

map_if : {A B : Type 0} (f : A → B) (b : Bool) (x : A) → option_map f (cond b (Some x) None) ≡ cond b (Some (f x)) None
map_if f true x = refl
map_if f false x = refl

-- one more
-- ========

abbrev Entries : Type 0
Entries = List (Vec ℕ Global × ConstNo)

push_by : (b : Bool) (n : ConstNo) (all rest more : Option ConstNo) → all ≡ option_or rest more → cond b (Some n) all ≡ option_or (cond b (Some n) rest) more
push_by true n all rest more e = refl
push_by false n all rest more e = e

beside_push : (es : Entries) (key : Vec ℕ Global) (v : ConstNo) (other : List ℕ) → beside (es ++ (key, v) ∷ []) other ≡ option_or (beside es other) (cond (bytes_eq other key.items) (Some v) None)
beside_push [] key v other = refl
beside_push (e ∷ es) key v other = push_by (bytes_eq other e.0.items) e.1 _ (beside es other) (cond (bytes_eq other key.items) (Some v) None) (beside_push es key v other)

pushed_by : (b : Bool) (e : Vec ℕ Global × ConstNo) (es all : Entries) (key : Vec ℕ Global) (v : ConstNo) (rest : Option ConstNo) → cond b (Some e.1) rest ≡ None → (rest ≡ None → insert_entry (λ x y. bytes_eq x.items y.items) es key v ≡ all)
    → cond b ((e.0, v) ∷ es) (e ∷ insert_entry (λ x y. bytes_eq x.items y.items) es key v) ≡ e ∷ all
pushed_by true e es all key v rest q h = absurd cc
pushed_by false e es all key v rest q h = ap (λ (z : Entries). e ∷ z) (h q)

pushed : (es : Entries) (key : Vec ℕ Global) (v : ConstNo) → beside es key.items ≡ None → insert_entry (λ x y. bytes_eq x.items y.items) es key v ≡ es ++ (key, v) ∷ []
pushed [] key v q = refl
pushed (e ∷ es) key v q = pushed_by (bytes_eq key.items e.0.items) e es (es ++ (key, v) ∷ []) key v (beside es key.items) q (pushed es key v)

-- a text that had no number
pub add_new : (old new : Entries) (key : Vec ℕ Global) (v : ConstNo) (text : List ℕ) → key.items ≡ text → beside old text ≡ None → new ≡ insert_entry (λ x y. bytes_eq x.items y.items) old key v
    → (other : List ℕ) → beside new other ≡ option_or (beside old other) (cond (bytes_eq other text) (Some v) None)
add_new old new key v text ek none e other =
    ap (λ (es : Entries). beside es other) (e ∙ pushed old key v (ap (beside old) ek ∙ none))
    ∙ (beside_push old key v other ∙ ap (λ (t : List ℕ). option_or (beside old other) (cond (bytes_eq other t) (Some v) None)) ek)

keep : (x : Option ConstNo) (b : Bool) (n v : ConstNo) → (b ≡ true → x ≡ Some n) → x ≡ option_or x (cond b (Some v) None)
keep (Some m) b n v h = refl
keep None true n v h = let bad : None ≡ Some n = h refl in absurd cc
keep None false n v h = refl

-- a text that had one
pub add_old : (old : Entries) (n v : ConstNo) (text : List ℕ) → beside old text ≡ Some n → (other : List ℕ) → beside old other ≡ option_or (beside old other) (cond (bytes_eq other text) (Some v) None)
add_old old n v text is other = keep (beside old other) (bytes_eq other text) n v (λ e. ap (beside old) ((bytes_eq-Decides other text).0 e) ∙ is)

-- a constant more
-- ===============

pub constant_text : (shelf : Shelf) (number : ConstNo) (n : Named) (x : Constant) → slice_get shelf.modules number.«module» ≡ Some n → slice_get (constants_of n.held) number.object ≡ Some x
    → text_at shelf (strs.Object number) ≡ bytes_in (out-Constant x)
constant_text shelf number n x at in_it =
    ap (λ (o : Option Named). option_and_then (λ (y : Constant). bytes_in (out-Constant y)) (option_and_then (λ m. slice_get (constants_of m) number.object) (option_and_then (λ (z : Named). Some z.held) o))) at
    ∙ ap (option_and_then (λ (y : Constant). bytes_in (out-Constant y))) in_it

pub constant_some : (shelf : Shelf) (number : ConstNo) (text : List ℕ) → text_at shelf (strs.Object number) ≡ Some text → (old new : Option ConstNo) (other : List ℕ) → new ≡ option_or old (cond (bytes_eq other text) (Some number) None)
    → (n : Named) (x : Constant) → slice_get shelf.modules number.«module» ≡ Some n → slice_get (constants_of n.held) number.object ≡ Some x → new ≡ option_or old (cond (is_str other x) (Some number) None)
constant_some shelf number text is old new other e n x at in_it =
    e ∙ ap (λ (o : Option (List ℕ)). option_or old (cond (are_bytes other o) (Some number) None)) (sym is ∙ constant_text shelf number n x at in_it)

pub constant_none : (shelf : Shelf) (number : ConstNo) → text_at shelf (strs.Object number) ≡ None → (old : Option ConstNo) (other : List ℕ)
    → (n : Named) (x : Constant) → slice_get shelf.modules number.«module» ≡ Some n → slice_get (constants_of n.held) number.object ≡ Some x → old ≡ option_or old (cond (is_str other x) (Some number) None)
constant_none shelf number is old other n x at in_it =
    sym (or_none old) ∙ ap (λ (o : Option (List ℕ)). option_or old (cond (are_bytes other o) (Some number) None)) (sym is ∙ constant_text shelf number n x at in_it)

-- those of a module
-- =================

module _ (p : Constant → Bool) where
  from_by : (b : Bool) (i : ℕ) (all rest more : Option ℕ) → all ≡ option_or rest more → cond b (Some i) all ≡ option_or (cond b (Some i) rest) more
  from_by true i all rest more e = refl
  from_by false i all rest more e = e

  from_push : (i : ℕ) (xs : List Constant) (x : Constant) → position_from p i (xs ++ x ∷ []) ≡ option_or (position_from p i xs) (cond (p x) (Some (i + length xs)) None)
  from_push i [] x = let e : i ≡ i + 0 = omega arith in ap (λ (j : ℕ). cond (p x) (Some j) None) e
  from_push i (y ∷ ys) x =
      let e : i + 1 + length ys ≡ i + suc (length ys) = omega arith in
      from_by (p y) i _ (position_from p (i + 1) ys) (cond (p x) (Some (i + suc (length ys))) None)
      (from_push (i + 1) ys x ∙ ap (λ (j : ℕ). option_or (position_from p (i + 1) ys) (cond (p x) (Some j) None)) e)

  pub position_push : (xs : List Constant) (x : Constant) → position p (xs ++ x ∷ []) ≡ option_or (position p xs) (cond (p x) (Some (length xs)) None)
  position_push xs x =
      let e : 0 + length xs ≡ length xs = omega arith in
      position_from-zero p (xs ++ x ∷ []) ∙ (from_push 0 xs x
      ∙ (ap (λ (j : ℕ). option_or (position_from p 0 xs) (cond (p x) (Some j) None)) e ∙ ap (λ (o : Option ℕ). option_or o (cond (p x) (Some (length xs)) None)) (sym (position_from-zero p xs))))

-- the strs of the first constants of a module
pub strs_more : (m : ℕ) (xs : List Constant) (k : ℕ) (x : Constant) (other : List ℕ) (first old new : Option ConstNo) → slice_get xs k ≡ Some x
    → old ≡ option_or first (option_map (numbered m) (position (is_str other) (take k xs))) → new ≡ option_or old (cond (is_str other x) (Some (numbered m k)) None)
    → new ≡ option_or first (option_map (numbered m) (position (is_str other) (take (k + 1) xs)))
strs_more m xs k x other first old new at e f =
    let p : Constant → Bool = is_str other in
    let lt : k < length xs = slice_get_within xs k x at in
    let long : length (take k xs) ≡ k = length-take-le k xs (omega (arith, lt)) in
    let here : take (k + 1) xs ≡ take k xs ++ x ∷ [] = take_more xs k x lt ∙ ap (λ (y : Constant). take k xs ++ y ∷ []) (get_or_from_slice_get xs k x x at) in
    f ∙ (ap (λ (o : Option ConstNo). option_or o (cond (p x) (Some (numbered m k)) None)) e
    ∙ (or_assoc first (option_map (numbered m) (position p (take k xs))) (cond (p x) (Some (numbered m k)) None)
    ∙ ap (option_or first)
    (ap (option_or (option_map (numbered m) (position p (take k xs)))) (sym (map_if (numbered m) (p x) k))
    ∙ (sym (map_or (numbered m) (position p (take k xs)) (cond (p x) (Some k) None))
    ∙ (ap (λ (j : ℕ). option_map (numbered m) (option_or (position p (take k xs)) (cond (p x) (Some j) None))) (sym long)
    ∙ (ap (option_map (numbered m)) (sym (position_push p (take k xs) x)) ∙ ap (λ (ys : List Constant). option_map (numbered m) (position p ys)) (sym here)))))))

-- those of the modules
-- ====================

module _ (other : List ℕ) where
  abbrev strs_in : ℕ → Named → Option ConstNo
  strs_in i n = option_map (numbered i) (position (is_str other) (constants_of n.held))

  from_more : (i : ℕ) (ns : List Named) (n : Named) → constant_from i (ns ++ n ∷ []) other ≡ option_or (constant_from i ns other) (strs_in (i + length ns) n)
  from_more i [] n = let e : i ≡ i + 0 = omega arith in or_none (strs_in i n) ∙ ap (λ (j : ℕ). strs_in j n) e
  from_more i (y ∷ ys) n =
      let e : suc i + length ys ≡ i + suc (length ys) = omega arith in
      ap (option_or (strs_in i y)) (from_more (suc i) ys n ∙ ap (λ (j : ℕ). option_or (constant_from (suc i) ys other) (strs_in j n)) e)
      ∙ sym (or_assoc (strs_in i y) (constant_from (suc i) ys other) (strs_in (i + suc (length ys)) n))

  -- one module more
  pub modules_more : (ms : List Named) (k : ℕ) (n : Named) (old new : Option ConstNo) → slice_get ms k ≡ Some n → old ≡ constant_from 0 (take k ms) other → new ≡ option_or old (strs_in k n)
      → new ≡ constant_from 0 (take (k + 1) ms) other
  modules_more ms k n old new at e f =
      let lt : k < length ms = slice_get_within ms k n at in
      let long : k ≡ 0 + length (take k ms) = omega (arith, length-take-le k ms (omega (arith, lt))) in
      let here : take (k + 1) ms ≡ take k ms ++ n ∷ [] = take_more ms k n lt ∙ ap (λ (y : Named). take k ms ++ y ∷ []) (get_or_from_slice_get ms k n n at) in
      f ∙ (ap (λ (o : Option ConstNo). option_or o (strs_in k n)) e
      ∙ (ap (λ (j : ℕ). option_or (constant_from 0 (take k ms) other) (strs_in j n)) long
      ∙ (sym (from_more 0 (take k ms) n) ∙ ap (λ (ys : List Named). constant_from 0 ys other) (sym here))))

-- a module that has a count is there
pub counted_by : (shelf : Shelf) (i count : ℕ) (o : Option Named) → slice_get shelf.modules i ≡ o → option_map (λ m. length (constants_of m)) (option_and_then (λ (n : Named). Some n.held) o) ≡ Some count
    → (n : Named) × (slice_get shelf.modules i ≡ Some n) × (length (constants_of n.held) ≡ count)
counted_by shelf i count None q e = absurd cc
counted_by shelf i count (Some n) q e = (n, q, cc)

pub counted : (shelf : Shelf) (i count : ℕ) → option_map (λ m. length (constants_of m)) (module_at shelf i) ≡ Some count → (n : Named) × (slice_get shelf.modules i ≡ Some n) × (length (constants_of n.held) ≡ count)
counted shelf i count e = counted_by shelf i count (slice_get shelf.modules i) refl e

uncounted_by : (shelf : Shelf) (i : ℕ) (o : Option Named) → slice_get shelf.modules i ≡ o → option_map (λ m. length (constants_of m)) (option_and_then (λ (n : Named). Some n.held) o) ≡ None → slice_get shelf.modules i ≡ None
uncounted_by shelf i None q e = q
uncounted_by shelf i (Some n) q e = absurd cc

past : (xs : List Named) (k : ℕ) → slice_get xs k ≡ None → length xs ≤ k
past [] k q = omega arith
past (x ∷ xs) zero q = absurd cc
past (x ∷ xs) (suc k) q = let le = past xs k q in omega (arith, le)

-- one that has none is behind all
pub uncounted : (shelf : Shelf) (i : ℕ) → option_map (λ m. length (constants_of m)) (module_at shelf i) ≡ None → length shelf.modules ≤ i
uncounted shelf i e = past shelf.modules i (uncounted_by shelf i (slice_get shelf.modules i) refl e)

there : (xs : List Constant) (k : ℕ) → k < length xs → (x : Constant) × (slice_get xs k ≡ Some x)
there [] k lt = absurd (omega (arith, lt))
there (x ∷ xs) zero lt = (x, refl)
there (x ∷ xs) (suc k) lt = there xs k (omega (arith, lt))

pub many : (shelf : Shelf) (i count : ℕ) → option_map (λ m. length (constants_of m)) (module_at shelf i) ≡ Some count → (n : Named) → slice_get shelf.modules i ≡ Some n → length (constants_of n.held) ≡ count
many shelf i count e n at =
    let one = counted shelf i count e in
    let both : Some one.0 ≡ Some n = sym one.1 ∙ at in
    let same : one.0 ≡ n = cc in
    ap (λ (x : Named). length (constants_of x.held)) (sym same) ∙ one.2

-- a constant below the count
pub constant_at : (shelf : Shelf) (i count k : ℕ) → option_map (λ m. length (constants_of m)) (module_at shelf i) ≡ Some count → k < count → (n : Named) → slice_get shelf.modules i ≡ Some n
    → (x : Constant) × (slice_get (constants_of n.held) k ≡ Some x)
constant_at shelf i count k e lt n at = there (constants_of n.held) k (omega (arith, lt, many shelf i count e n at))
