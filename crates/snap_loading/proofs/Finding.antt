-- What is looked up by its text is found: names, constant strs, built-ins and kinds.
use Rattle.std.proofs.Common.{◌≡◌, ℕ, zero, suc, ◌+◌, ◌-◌, ◌<◌, ◌≤◌, Bool, true, false, not, cond, List, [], ◌∷◌, length, get_or, Option, Some, None, position, slice_get, refl, sym, ap, ◌∙◌, subst, arith, if◌then◌else◌}
use Rattle.std.specs.Prelude.{nat_lt, unwrap_or, option_and_then}
use Rattle.std.specs.List.{position_or_len}
use Rattle.std.specs.Option.{option_map, option_or}
use Rattle.std.specs.Str.{bytes_eq}
use Rattle.std.proofs.lemmas.Bool.{true≢false, false≢true, lt-ltb, le-ltb}
use Rattle.std.proofs.lemmas.Bool.Decides.{nat_tests}
use Rattle.std.proofs.lemmas.List.Folds.{list_any_at}
use Rattle.std.proofs.lemmas.List.Quantifiers.{position-Some}
use Rattle.std.proofs.lemmas.Option.{slice_get-get_or, slice_get_within, get_or_from_slice_get}
use Rattle.std.proofs.lemmas.Slice.Eq.{bytes_eq-Decides}
use Rattle.mpy_base.specs.declared.builtin.Builtin.{Builtin}
use Rattle.mpy_base.specs.declared.builtin.Builtin.TheVariants as builtins
use Rattle.mpy_base.specs.declared.kind.Kind.{Kind}
use Rattle.mpy_base.specs.declared.kind.Kind.TheVariants as raised
use Rattle.mpy_base.specs.Kind.{kind_name}
use Rattle.bc_library.specs.bc_verify.qstr_pool.declared.table.TheConstants.{FIRST_OWN}
use Rattle.bc_library.specs.bc_verify.qstr_pool.Pool.{Texts, number_of, text_of}
use Rattle.bc_library.specs.bc_verify.qstr_pool.Static.{static_texts, static_pool, static_text_of, static_number_of}
use Rattle.bc_library.proofs.bc_verify_lemmas.qstr_pool_lemmas.Places.{found, absent}
use Rattle.bc_library.specs.mpy_tree.declared.module.Constant.{Constant, out-Constant}
use Rattle.bc_library.specs.Constants.{bytes_in, constants_of, numbered, text_at}
use Rattle.bc_library.specs.Shelf.{Shelf, Named}
use Rattle.bc_library.specs.Texts.{text_numbered}
use Rattle.arena_heap.specs.declared.value.StrNo.{StrNo}
use Rattle.arena_heap.specs.declared.value.StrNo.TheVariants as strs
use Rattle.arena_heap.specs.declared.value.ConstNo.{ConstNo}
use Rattle.vm_starting.specs.vm_states.bc_progress.py_values.Names.{builtin_name}
use Rattle.snap_states.specs.Decoded.{builtin_called, kind_called, pool_number, name_number, are_bytes, is_str, constant_from, str_of}

-- texts
-- =====

-- what stands among texts has a first place
pub find_text : (texts : List (List ℕ)) (text : List ℕ) (i : ℕ) → slice_get texts i ≡ Some text → (k : ℕ) × (position (bytes_eq text) texts ≡ Some k) × (slice_get texts k ≡ Some text)
find_text texts text i e = by (position (bytes_eq text) texts) refl
  where
    by : (o : Option ℕ) → position (bytes_eq text) texts ≡ o → (k : ℕ) × (position (bytes_eq text) texts ≡ Some k) × (slice_get texts k ≡ Some text)
    by None f =
        let hit = list_any_at (bytes_eq text) texts i [] (slice_get_within texts i text e) ((bytes_eq-Decides text _).1 (sym (get_or_from_slice_get texts i text [] e))) in
        absurd (true≢false (sym hit ∙ absent texts text f))
    by (Some k) f = (k, f, found texts text k f)

-- a number of a table of texts
record Has (pool : Texts) (text : List ℕ) (n : ℕ) : Type 0 where
  there : text_of pool n ≡ Some text
  low : pool.first ≤ n
  high : n < pool.first + length pool.texts

if_false : {A : Type 0} (b : Bool) (x y : A) → b ≡ false → (if b then x else y) ≡ y
if_false true x y e = absurd (true≢false e)
if_false false x y e = refl

if_true : {A : Type 0} (b : Bool) (x y : A) → b ≡ true → (if b then x else y) ≡ x
if_true true x y e = refl
if_true false x y e = absurd (false≢true e)

placed_text : (pool : Texts) (text : List ℕ) (k : ℕ) → slice_get pool.texts k ≡ Some text → Has pool text (pool.first + k)
placed_text pool text k e =
    let within = slice_get_within pool.texts k text e in
    let back : (pool.first + k) - pool.first ≡ k = omega arith in
    record {
      there = if_false (nat_lt (pool.first + k) pool.first) None _ (le-ltb (pool.first + k) pool.first (omega arith)) ∙ (ap (λ z. slice_get pool.texts z) back ∙ e);
      low = omega arith;
      high = omega (arith, within);
    }

number_has : (pool : Texts) (text : List ℕ) (n : ℕ) → number_of pool text ≡ Some n → Has pool text n
number_has pool text n e = by (position (bytes_eq text) pool.texts) refl e
  where
    some_is : (x y : ℕ) → Some x ≡ Some y → x ≡ y
    some_is x y e = cc

    by : (o : Option ℕ) → position (bytes_eq text) pool.texts ≡ o → option_map (λ place. pool.first + place) o ≡ Some n → Has pool text n
    by None f g = cc
    by (Some k) f g = subst (Has pool text) (some_is _ _ g) (placed_text pool text k (found pool.texts text k f))

text_has : (pool : Texts) (text : List ℕ) (n : ℕ) → text_of pool n ≡ Some text → (k : ℕ) × (number_of pool text ≡ Some k)
text_has pool text n e = by (nat_lt n pool.first) e
  where
    by : (b : Bool) → (if b then None else slice_get pool.texts (n - pool.first)) ≡ Some text → (k : ℕ) × (number_of pool text ≡ Some k)
    by true g = cc
    by false g = let p = find_text pool.texts text (n - pool.first) g in (pool.first + p.0, ap (option_map (λ place. pool.first + place)) p.1)

static_short : length static_texts ≡ 165
static_short = refl

static_low : (text : List ℕ) (n : ℕ) → Has static_pool text n → n < FIRST_OWN
static_low text n h = let a = h.high in let b = static_short in omega (arith, a, b)

-- the number that a text has is the number of that text
pub number_names : (pool : Texts) (text : List ℕ) (n : ℕ) → pool.first ≡ FIRST_OWN → pool_number pool text ≡ Some n → text_numbered pool n ≡ Some text
unfolding text_numbered
number_names pool text n first e = by (static_number_of text) refl e
  where
    some_is : (x y : ℕ) → Some x ≡ Some y → x ≡ y
    some_is x y e = cc

    by : (o : Option ℕ) → static_number_of text ≡ o → option_or o (number_of pool text) ≡ Some n → (if nat_lt n FIRST_OWN then static_text_of n else text_of pool n) ≡ Some text
    by (Some k) f g =
        let h : Has static_pool text n = number_has static_pool text n (f ∙ g) in
        if_true (nat_lt n FIRST_OWN) _ _ (lt-ltb n FIRST_OWN (static_low text n h)) ∙ h.there
    by None f g =
        let h = number_has pool text n g in
        if_false (nat_lt n FIRST_OWN) _ _ (le-ltb n FIRST_OWN (let low = h.low in omega (arith, low, first))) ∙ h.there

-- a text that has a number is found
pub name_has : (pool : Texts) (text : List ℕ) (n : ℕ) → text_numbered pool n ≡ Some text → (k : ℕ) × (pool_number pool text ≡ Some k)
unfolding text_numbered
name_has pool text n e = by (static_number_of text) refl
  where
    own : (b : Bool) → static_number_of text ≡ None → (if b then static_text_of n else text_of pool n) ≡ Some text → (k : ℕ) × (number_of pool text ≡ Some k)
    own true f g = let k = text_has static_pool text n g in absurd (let no : Some k.0 ≡ None = sym k.1 ∙ f in cc)
    own false f g = text_has pool text n g

    by : (o : Option ℕ) → static_number_of text ≡ o → (k : ℕ) × (pool_number pool text ≡ Some k)
    by (Some k) f = (k, ap (λ z. option_or z (number_of pool text)) f)
    by None f = let k = own (nat_lt n FIRST_OWN) f e in (k.0, ap (λ z. option_or z (number_of pool text)) f ∙ k.1)

-- built-ins and kinds
-- ===================

pub builtin_found : (b : Builtin) → builtin_called (builtin_name b) ≡ Some b
builtin_found builtins.Bool = refl
builtin_found builtins.Int = refl
builtin_found builtins.Str = refl
builtin_found builtins.List = refl
builtin_found builtins.Tuple = refl
builtin_found builtins.Dict = refl
builtin_found builtins.Print = refl
builtin_found builtins.Len = refl
builtin_found builtins.Abs = refl
builtin_found builtins.Range = refl
builtin_found builtins.Min = refl
builtin_found builtins.Max = refl
builtin_found builtins.Repr = refl
builtin_found builtins.Ord = refl
builtin_found builtins.Chr = refl
builtin_found builtins.IsInstance = refl
builtin_found (builtins.Kind raised.BaseException) = refl
builtin_found (builtins.Kind raised.SystemExit) = refl
builtin_found (builtins.Kind raised.KeyboardInterrupt) = refl
builtin_found (builtins.Kind raised.Exception) = refl
builtin_found (builtins.Kind raised.ArithmeticError) = refl
builtin_found (builtins.Kind raised.OverflowError) = refl
builtin_found (builtins.Kind raised.ZeroDivisionError) = refl
builtin_found (builtins.Kind raised.AssertionError) = refl
builtin_found (builtins.Kind raised.AttributeError) = refl
builtin_found (builtins.Kind raised.EofError) = refl
builtin_found (builtins.Kind raised.ImportError) = refl
builtin_found (builtins.Kind raised.LookupError) = refl
builtin_found (builtins.Kind raised.IndexError) = refl
builtin_found (builtins.Kind raised.KeyError) = refl
builtin_found (builtins.Kind raised.MemoryError) = refl
builtin_found (builtins.Kind raised.NameError) = refl
builtin_found (builtins.Kind raised.OsError) = refl
builtin_found (builtins.Kind raised.RuntimeError) = refl
builtin_found (builtins.Kind raised.NotImplementedError) = refl
builtin_found (builtins.Kind raised.StopIteration) = refl
builtin_found (builtins.Kind raised.SyntaxError) = refl
builtin_found (builtins.Kind raised.TypeError) = refl
builtin_found (builtins.Kind raised.ValueError) = refl
builtin_found builtins.ListAppend = refl
builtin_found builtins.ListPop = refl
builtin_found builtins.ListInsert = refl
builtin_found builtins.ListExtend = refl
builtin_found builtins.DictGet = refl
builtin_found builtins.DictKeys = refl
builtin_found builtins.DictValues = refl
builtin_found builtins.DictItems = refl
builtin_found builtins.DictPop = refl
builtin_found builtins.StrJoin = refl
builtin_found builtins.StrFind = refl
builtin_found builtins.StrStartsWith = refl
builtin_found builtins.StrSplit = refl
builtin_found builtins.Port = refl
builtin_found builtins.PortPut = refl
builtin_found builtins.PortGet = refl
builtin_found builtins.PortCount = refl

pub kind_found : (k : Kind) → kind_called (kind_name k) ≡ Some k
kind_found raised.BaseException = refl
kind_found raised.SystemExit = refl
kind_found raised.KeyboardInterrupt = refl
kind_found raised.Exception = refl
kind_found raised.ArithmeticError = refl
kind_found raised.OverflowError = refl
kind_found raised.ZeroDivisionError = refl
kind_found raised.AssertionError = refl
kind_found raised.AttributeError = refl
kind_found raised.EofError = refl
kind_found raised.ImportError = refl
kind_found raised.LookupError = refl
kind_found raised.IndexError = refl
kind_found raised.KeyError = refl
kind_found raised.MemoryError = refl
kind_found raised.NameError = refl
kind_found raised.OsError = refl
kind_found raised.RuntimeError = refl
kind_found raised.NotImplementedError = refl
kind_found raised.StopIteration = refl
kind_found raised.SyntaxError = refl
kind_found raised.TypeError = refl
kind_found raised.ValueError = refl

-- constants
-- =========

below_first : (b : Bool) (n l : ℕ) → b ≡ true → cond (not b) (1 + n) 0 < suc l
below_first true n l e = omega arith
below_first false n l e = absurd (false≢true e)

below_later : (b : Bool) (n l : ℕ) → n < l → cond (not b) (1 + n) 0 < suc l
below_later true n l h = omega arith
below_later false n l h = omega (arith, h)

before_end : {A : Type 0} (p : A → Bool) (xs : List A) (i : ℕ) (x : A) → slice_get xs i ≡ Some x → p x ≡ true → position_or_len p xs < length xs
before_end p [] i x e t = cc
before_end p (y ∷ xs) zero x e t = below_first (p y) _ _ (let same : y ≡ x = cc in ap p same ∙ t)
before_end p (y ∷ xs) (suc i) x e t = below_later (p y) _ _ (before_end p xs i x e t)

settled : (n l : ℕ) → n < l → cond (nat_lt n l) (Some n) None ≡ Some n
settled n l h = grind (arith, nat_tests)

-- what passes a test stands there
record Passes {A : Type 0} (p : A → Bool) (xs : List A) (k : ℕ) : Type 0 where
  x : A
  there : slice_get xs k ≡ Some x
  passes : p x ≡ true

passes_at : {A : Type 0} (p : A → Bool) (xs : List A) (k : ℕ) → position p xs ≡ Some k → Passes p xs k
passes_at p [] k e = absurd (let no : None ≡ Some k = e in cc)
passes_at p (x ∷ xs) k e =
    let w = position-Some p (x ∷ xs) k x e in
    record { x = get_or (x ∷ xs) k x; there = slice_get-get_or (x ∷ xs) k x w.0; passes = w.1 }

find_where : {A : Type 0} (p : A → Bool) (xs : List A) (i : ℕ) (x : A) → slice_get xs i ≡ Some x → p x ≡ true → (k : ℕ) × (position p xs ≡ Some k)
find_where p xs i x e t = (position_or_len p xs, settled (position_or_len p xs) (length xs) (before_end p xs i x e t))

str_bytes : (text : List ℕ) (b : Option (List ℕ)) → are_bytes text b ≡ true → b ≡ Some text
str_bytes text None e = absurd (false≢true e)
str_bytes text (Some bytes) e = ap (λ z. Some z) (sym ((bytes_eq-Decides text bytes).0 e))

bytes_str : (text : List ℕ) (b : Option (List ℕ)) → b ≡ Some text → are_bytes text b ≡ true
bytes_str text b e = subst (λ z. are_bytes text z ≡ true) (sym e) ((bytes_eq-Decides text text).1 refl)

-- a constant str of modules, of which the first has the number i
record IsStrIn (i : ℕ) (ns : List Named) (text : List ℕ) (d : ConstNo) : Type 0 where
  j : ℕ
  module_is : d.«module» ≡ i + j
  n : Named
  there : slice_get ns j ≡ Some n
  constant : Constant
  constant_is : slice_get (constants_of n.held) d.object ≡ Some constant
  bytes_are : bytes_in (out-Constant constant) ≡ Some text

abbrev Found : ℕ → List Named → List ℕ → Type 0
Found i ns text = (d : ConstNo) × (constant_from i ns text ≡ Some d) × IsStrIn i ns text d

in_first : (i : ℕ) (m : Named) (ns : List Named) (text : List ℕ) (k : ℕ) → position (is_str text) (constants_of m.held) ≡ Some k → Found i (m ∷ ns) text
in_first i m ns text k e =
    let w = passes_at (is_str text) (constants_of m.held) k e in (
      numbered i k,
      ap (λ z. option_or (option_map (numbered i) z) (constant_from (suc i) ns text)) e,
      record {
        j = 0;
        module_is = omega arith;
        n = m;
        there = refl;
        constant = w.x;
        constant_is = w.there;
        bytes_are = str_bytes text (bytes_in (out-Constant w.x)) w.passes;
      },
    )

in_later : (i : ℕ) (m : Named) (ns : List Named) (text : List ℕ) (r : Option ℕ) → position (is_str text) (constants_of m.held) ≡ r → Found (suc i) ns text → Found i (m ∷ ns) text
in_later i m ns text (Some q) g h = in_first i m ns text q g
in_later i m ns text None g h =
    let s = h.2 in (
      h.0,
      ap (λ z. option_or (option_map (numbered i) z) (constant_from (suc i) ns text)) g ∙ h.1,
      record {
        j = suc s.j;
        module_is = (let q = s.module_is in omega (arith, q));
        n = s.n;
        there = s.there;
        constant = s.constant;
        constant_is = s.constant_is;
        bytes_are = s.bytes_are;
      },
    )

constant_found : (i : ℕ) (ns : List Named) (text : List ℕ) (j : ℕ) (n : Named) (k : ℕ) (o : Constant) → slice_get ns j ≡ Some n → slice_get (constants_of n.held) k ≡ Some o → bytes_in (out-Constant o) ≡ Some text → Found i ns text
constant_found i [] text j n k o e f b = absurd cc
constant_found i (m ∷ ns) text zero n k o e f b =
    let same : m ≡ n = cc in
    let w = find_where (is_str text) (constants_of m.held) k o (subst (λ (z : Named). slice_get (constants_of z.held) k ≡ Some o) (sym same) f) (bytes_str text (bytes_in (out-Constant o)) b) in
    in_first i m ns text w.0 w.1
constant_found i (m ∷ ns) text (suc j) n k o e f b = in_later i m ns text (position (is_str text) (constants_of m.held)) refl (constant_found (suc i) ns text j n k o e f b)

module _ (shelf : Shelf) (text : List ℕ) where
  -- the constant of a number, and what says so
  constant_parts : (c : ConstNo) → text_at shelf (strs.Object c) ≡ Some text
      → (n : Named) × (o : Constant) × (slice_get shelf.modules c.«module» ≡ Some n) × (slice_get (constants_of n.held) c.object ≡ Some o) × (bytes_in (out-Constant o) ≡ Some text)
  constant_parts c e = of_module (slice_get shelf.modules c.«module») refl e
    where
      of_constant : (n : Named) (r : Option Constant) → slice_get shelf.modules c.«module» ≡ Some n → slice_get (constants_of n.held) c.object ≡ r → option_and_then (λ o. bytes_in (out-Constant o)) r ≡ Some text
          → (m : Named) × (o : Constant) × (slice_get shelf.modules c.«module» ≡ Some m) × (slice_get (constants_of m.held) c.object ≡ Some o) × (bytes_in (out-Constant o) ≡ Some text)
      of_constant n None f g h = absurd cc
      of_constant n (Some o) f g h = (n, o, f, g, h)

      of_module : (r : Option Named) → slice_get shelf.modules c.«module» ≡ r
          → option_and_then (λ o. bytes_in (out-Constant o)) (option_and_then (λ m. slice_get (constants_of m) c.object) (option_and_then (λ (n : Named). Some n.held) r)) ≡ Some text
          → (m : Named) × (o : Constant) × (slice_get shelf.modules c.«module» ≡ Some m) × (slice_get (constants_of m.held) c.object ≡ Some o) × (bytes_in (out-Constant o) ≡ Some text)
      of_module None f h = absurd cc
      of_module (Some n) f h = of_constant n (slice_get (constants_of n.held) c.object) f refl h

  constant_text : (d : ConstNo) (n : Named) (o : Constant) → slice_get shelf.modules d.«module» ≡ Some n → slice_get (constants_of n.held) d.object ≡ Some o → bytes_in (out-Constant o) ≡ Some text → text_at shelf (strs.Object d) ≡ Some text
  constant_text d n o e f b =
      ap (λ r. option_and_then (λ z. bytes_in (out-Constant z)) (option_and_then (λ m. slice_get (constants_of m) d.object) (option_and_then (λ (z : Named). Some z.held) r))) e
      ∙ (ap (λ r. option_and_then (λ z. bytes_in (out-Constant z)) r) f ∙ b)

  -- a str that the library holds is found
  pub str_found : shelf.pool.first ≡ FIRST_OWN → (c : StrNo) → text_at shelf c ≡ Some text → text_at shelf (str_of shelf text) ≡ Some text
  str_found first c e = by (pool_number shelf.pool text) refl
    where
      none : {A : Type 0} (k : ℕ) → pool_number shelf.pool text ≡ None → pool_number shelf.pool text ≡ Some k → A
      none k f g = let no : Some k ≡ None = sym g ∙ f in absurd cc

      elsewhere : pool_number shelf.pool text ≡ None → (d : StrNo) → text_at shelf d ≡ Some text
          → text_at shelf (unwrap_or (option_map strs.Object (constant_from 0 shelf.modules text)) (strs.Pool 0)) ≡ Some text
      elsewhere f (strs.Pool n) g = let k = name_has shelf.pool text n g in none k.0 f k.1
      elsewhere f (strs.Object d) g =
          let q = constant_parts d g in
          let r = constant_found 0 shelf.modules text d.«module» q.0 d.object q.1 q.2 q.3 q.4 in
          let s = r.2 in
          let place : s.j ≡ r.0.«module» = (let z = s.module_is in omega (arith, z)) in
          ap (λ z. text_at shelf (unwrap_or (option_map strs.Object z) (strs.Pool 0))) r.1
          ∙ constant_text r.0 s.n s.constant (ap (λ z. slice_get shelf.modules z) (sym place) ∙ s.there) s.constant_is s.bytes_are

      by : (o : Option ℕ) → pool_number shelf.pool text ≡ o → text_at shelf (str_of shelf text) ≡ Some text
      by (Some k) f =
          ap (λ z. text_at shelf (unwrap_or (option_or (option_map strs.Pool z) (option_map strs.Object (constant_from 0 shelf.modules text))) (strs.Pool 0))) f
          ∙ number_names shelf.pool text k first f
      by None f =
          ap (λ z. text_at shelf (unwrap_or (option_or (option_map strs.Pool z) (option_map strs.Object (constant_from 0 shelf.modules text))) (strs.Pool 0))) f
          ∙ elsewhere f c e

-- a name that the library has is found
pub name_found : (shelf : Shelf) (text : List ℕ) (n : ℕ) → shelf.pool.first ≡ FIRST_OWN → text_numbered shelf.pool n ≡ Some text → text_numbered shelf.pool (name_number shelf text) ≡ Some text
name_found shelf text n first e =
    let k = name_has shelf.pool text n e in
    ap (λ z. text_numbered shelf.pool (unwrap_or z 0)) k.1 ∙ number_names shelf.pool text k.0 first k.1
