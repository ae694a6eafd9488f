-- Texts, built-ins and kinds of exceptions are found by their bytes.
use Rattle.std.proofs.Common.{◌≡◌, ℕ, zero, suc, ◌+◌, ◌-◌, ◌≤◌, ◌<◌, Bool, true, false, cond, not, ◌||◌, nat_lt, List, [], ◌∷◌, length, Option, Some, None, unwrap_or, inl, inr, refl, sym, ap, ◌∙◌, arith}
use Rattle.std.specs.Prelude.{position, slice_get, option_and_then, ◌++◌}
use Rattle.std.specs.Option.{option_map, option_or}
use Rattle.std.specs.List.{list_any, position_or_len}
use Rattle.std.specs.Str.{bytes_eq}
use Rattle.std.proofs.lemmas.Bool.{cases_lt}
use Rattle.std.proofs.lemmas.Bool.Decides.{nat_tests}
use Rattle.std.proofs.lemmas.List.Folds.{list_any_at}
use Rattle.std.proofs.lemmas.List.Quantifiers.{position-Some}
use Rattle.std.proofs.lemmas.Option.{slice_get_within, get_or_from_slice_get, slice_get-get_or}
use Rattle.std.proofs.lemmas.Slice.Eq.{bytes_eq-Decides}
use Rattle.mpy_base.specs.declared.builtin.Builtin.{Builtin}
use Rattle.mpy_base.specs.declared.builtin.Builtin.TheVariants as builtins
use Rattle.mpy_base.specs.declared.kind.Kind.{Kind}
use Rattle.mpy_base.specs.declared.kind.Kind.TheVariants as kinds
use Rattle.mpy_base.specs.Kind.{kind_name}
use Rattle.arena_heap.specs.declared.value.StrNo.{StrNo}
use Rattle.arena_heap.specs.declared.value.StrNo.TheVariants as strs
use Rattle.arena_heap.specs.declared.value.ConstNo.{ConstNo}
use Rattle.bc_library.specs.bc_verify.qstr_pool.declared.table.TheConstants.{FIRST_OWN}
use Rattle.bc_library.specs.bc_verify.qstr_pool.Pool.{Texts, text_of, number_of, IsOneToOne}
use Rattle.bc_library.specs.bc_verify.qstr_pool.Static.{static_texts, static_pool, static_text_of, static_number_of}
use Rattle.bc_library.specs.mpy_tree.declared.module.Constant.{Constant, out-Constant, roll-Constant}
use Rattle.bc_library.specs.mpy_tree.declared.module.Constant.TheOpen.{Constant-F}
use Rattle.bc_library.specs.Shelf.{Shelf, Named}
use Rattle.bc_library.specs.Texts.{text_numbered}
use Rattle.bc_library.specs.Constants.{bytes_in, constants_of, numbered, text_at}
use Rattle.bc_library.proofs.bc_verify_lemmas.qstr_pool_lemmas.Places.{found, absent}
use Rattle.bc_library.proofs.Pools.{below_first, from_first_own}
use Rattle.vm_starting.specs.vm_states.bc_progress.py_values.Names.{builtin_name}
use Rattle.vm_starting.specs.vm_states.bc_progress.py_primitives.Builtins.{all_kinds, globals}
use Rattle.snap_states.specs.Decoded.{others, called, builtin_called, kind_called, pool_number, are_bytes, is_str, constant_from, name_number, str_of}
use Rattle.snap_states.specs.States.{IsName, IsConstant}

-- built-ins and kinds
-- ===================

each_kind : (k : Kind) → called kind_name (kind_name k) all_kinds ≡ Some k
each_kind kinds.BaseException = refl
each_kind _ = refl

each_builtin : (b : Builtin) → called builtin_name (builtin_name b) (globals ++ others) ≡ Some b
each_builtin (builtins.Kind kinds.BaseException) = refl
each_builtin (builtins.Kind _) = refl
each_builtin builtins.Bool = refl
each_builtin _ = refl

pub kind_named : (name : List ℕ) (k : Kind) → kind_name k ≡ name → kind_called name ≡ Some k
kind_named name k e = ap kind_called (sym e) ∙ each_kind k

pub builtin_named : (name : List ℕ) (b : Builtin) → builtin_name b ≡ name → builtin_called name ≡ Some b
builtin_named name b e = ap builtin_called (sym e) ∙ each_builtin b

-- texts of the pool
-- =================

same_bytes : (xs ys : List ℕ) → bytes_eq xs ys ≡ true → ys ≡ xs
same_bytes xs ys e = sym ((bytes_eq-Decides xs ys).0 e)

past_first : (n first : ℕ) (r : Option (List ℕ)) → first ≤ n → cond (nat_lt n first) None r ≡ r
past_first n first r le = grind (arith, nat_tests)

before_first : (n first : ℕ) (r : Option (List ℕ)) (text : List ℕ) → cond (nat_lt n first) None r ≡ Some text → first ≤ n
before_first n first r text e = grind (arith, nat_tests)

-- numbers of the texts of a pool
module _ (pool : Texts) (text : List ℕ) where
  by_place : (o : Option ℕ) (m : ℕ) → position (bytes_eq text) pool.texts ≡ o → option_map (λ (place : ℕ). pool.first + place) o ≡ Some m → (pool.first ≤ m) × (text_of pool m ≡ Some text)
  by_place None m q e = absurd cc
  by_place (Some i) m q e =
      let same : pool.first + i ≡ m = cc in
      let place : i ≡ m - pool.first = omega (arith, same) in
      let le : pool.first ≤ m = omega (arith, same) in
      (le, past_first m pool.first (slice_get pool.texts (m - pool.first)) le ∙ (ap (slice_get pool.texts) (sym place) ∙ found pool.texts text i q))

  -- a number that is found is that of the text
  pub number_told : (m : ℕ) → number_of pool text ≡ Some m → (pool.first ≤ m) × (text_of pool m ≡ Some text)
  number_told m e = by_place (position (bytes_eq text) pool.texts) m refl e

  any_at : (k : ℕ) → slice_get pool.texts k ≡ Some text → list_any (bytes_eq text) pool.texts ≡ true
  any_at k at =
      list_any_at (bytes_eq text) pool.texts k text (slice_get_within pool.texts k text at)
      (ap (bytes_eq text) (get_or_from_slice_get pool.texts k text text at) ∙ (bytes_eq-Decides text text).1 refl)

  none_by : (o : Option ℕ) (n : ℕ) → position (bytes_eq text) pool.texts ≡ o → option_map (λ (place : ℕ). pool.first + place) o ≡ None → text_of pool n ≡ Some text → ⊥
  none_by (Some i) n q e at = absurd cc
  none_by None n q e at =
      let le = before_first n pool.first (slice_get pool.texts (n - pool.first)) text at in
      let there : slice_get pool.texts (n - pool.first) ≡ Some text = sym (past_first n pool.first (slice_get pool.texts (n - pool.first)) le) ∙ at in
      let no : list_any (bytes_eq text) pool.texts ≡ false = absent pool.texts text q in
      let yes : list_any (bytes_eq text) pool.texts ≡ true = any_at (n - pool.first) there in
      let both : true ≡ false = sym yes ∙ no in
      cc

  -- one that has a number is found
  pub none_told : (n : ℕ) → number_of pool text ≡ None → text_of pool n ≡ Some text → ⊥
  none_told n e at = none_by (position (bytes_eq text) pool.texts) n refl e at

-- numbers of texts that are static or in the pool
module _ (pool : Texts) (law : IsOneToOne static_pool) (count : length static_texts < FIRST_OWN) (first : pool.first ≡ FIRST_OWN) (text : List ℕ) where
  static_below : (m : ℕ) → static_text_of m ≡ Some text → m < FIRST_OWN
  static_below m e =
      let le : 1 ≤ m = before_first m 1 (slice_get static_texts (m - 1)) text e in
      let at : slice_get static_texts (m - 1) ≡ Some text = sym (past_first m 1 (slice_get static_texts (m - 1)) le) ∙ e in
      omega (arith, le, count, slice_get_within static_texts (m - 1) text at)

  told_by : (o : Option ℕ) (m : ℕ) → static_number_of text ≡ o → option_or o (number_of pool text) ≡ Some m → text_numbered pool m ≡ Some text
  told_by (Some k) m q e =
      let same : k ≡ m = cc in
      let there : static_text_of m ≡ Some text = (number_told static_pool text m (q ∙ ap (λ (n : ℕ). Some n) same)).1 in
      sym (below_first pool m (static_below m there)) ∙ there
  told_by None m q e =
      let there = number_told pool text m e in
      sym (from_first_own pool m (omega (arith, there.0, first))) ∙ there.1

  pub pool_told : (m : ℕ) → pool_number pool text ≡ Some m → text_numbered pool m ≡ Some text
  pool_told m e = told_by (static_number_of text) m refl e

  nowhere_by : (o : Option ℕ) (n : ℕ) → static_number_of text ≡ o → option_or o (number_of pool text) ≡ None → text_numbered pool n ≡ Some text → ⊥
  nowhere_by (Some k) n q e at = absurd cc
  nowhere_by None n q e at = elim (cases_lt n FIRST_OWN) [
    | inl lt ↦ none_told static_pool text n q (below_first pool n lt ∙ at)
    | inr ge ↦ none_told pool text n e (from_first_own pool n ge ∙ at)
  ]

  pub pool_nowhere : (n : ℕ) → pool_number pool text ≡ None → text_numbered pool n ≡ Some text → ⊥
  pool_nowhere n e at = nowhere_by (static_number_of text) n refl e at

-- strs among constants
-- ====================

-- some constant, for want of one
nothing : Constant
nothing = roll-Constant Constant-F.None

module _ (text : List ℕ) where
  bytes_by : (o : Option (List ℕ)) → are_bytes text o ≡ true → o ≡ Some text
  bytes_by None e = absurd cc
  bytes_by (Some bytes) e = ap (λ (x : List ℕ). Some x) (same_bytes text bytes e)

  are_same : (o : Option (List ℕ)) → o ≡ Some text → are_bytes text o ≡ true
  are_same o e = ap (are_bytes text) e ∙ (bytes_eq-Decides text text).1 refl

  -- the bytes of a constant of some modules
  abbrev str_at : List Named → (k object : ℕ) → Option (List ℕ)
  str_at ns k object = option_and_then (λ (o : Constant). bytes_in (out-Constant o)) (option_and_then (λ (n : Named). slice_get (constants_of n.held) object) (slice_get ns k))

  -- a constant str of these modules, of which the first has the number i
  abbrev pub IsStrFrom : ℕ → List Named → ConstNo → Type 0
  IsStrFrom i ns c = (k : ℕ) × (c.«module» ≡ i + k) × (str_at ns k c.object ≡ Some text)

  found_by : (i : ℕ) (n : Named) (ns : List Named) (c : ConstNo) → (constant_from (suc i) ns text ≡ Some c → IsStrFrom (suc i) ns c) → (o : Option ℕ) → position (is_str text) (constants_of n.held) ≡ o
      → option_or (option_map (numbered i) o) (constant_from (suc i) ns text) ≡ Some c → IsStrFrom i (n ∷ ns) c
  found_by i n ns c more (Some k) q e =
      let same : numbered i k ≡ c = cc in
      let is = position-Some (is_str text) (constants_of n.held) k nothing q in (
        0,
        ap (λ (x : ConstNo). x.«module») (sym same) ∙ omega arith,
        ap (λ (x : ConstNo). option_and_then (λ (o : Constant). bytes_in (out-Constant o)) (slice_get (constants_of n.held) x.object)) (sym same)
            ∙ (ap (option_and_then (λ (o : Constant). bytes_in (out-Constant o))) (slice_get-get_or (constants_of n.held) k nothing is.0) ∙ bytes_by _ is.1),
      )
  found_by i n ns c more None q e =
      let rest = more e in
      (suc rest.0, rest.1 ∙ omega arith, rest.2)

  pub constant_told : (i : ℕ) (ns : List Named) (c : ConstNo) → constant_from i ns text ≡ Some c → IsStrFrom i ns c
  constant_told i [] c e = absurd cc
  constant_told i (n ∷ ns) c e = found_by i n ns c (constant_told (suc i) ns c) (position (is_str text) (constants_of n.held)) refl e

  -- what has no place is missing
  miss : (b rest : Bool) (n l : ℕ) → suc l ≤ cond (not b) (1 + n) 0 → (l ≤ n → rest ≡ false) → (b || rest) ≡ false
  miss true rest n l h behind = absurd (omega (arith, h))
  miss false rest n l h behind = behind (omega (arith, h))

  missing : (p : Constant → Bool) (xs : List Constant) → length xs ≤ position_or_len p xs → list_any p xs ≡ false
  missing p [] h = refl
  missing p (x ∷ xs) h = miss (p x) _ _ _ h (missing p xs)

  past : (n l : ℕ) → cond (nat_lt n l) (Some n) None ≡ None → l ≤ n
  past n l e = grind (arith, nat_tests)

  there : (xs : List Constant) (k : ℕ) (o : Constant) → slice_get xs k ≡ Some o → bytes_in (out-Constant o) ≡ Some text → position (is_str text) xs ≡ None → ⊥
  there xs k o at bytes e =
      let no : list_any (is_str text) xs ≡ false = missing (is_str text) xs (past _ _ e) in
      let yes : list_any (is_str text) xs ≡ true =
      list_any_at (is_str text) xs k o (slice_get_within xs k o at) (ap (is_str text) (get_or_from_slice_get xs k o o at) ∙ are_same _ bytes) in
      let both : true ≡ false = sym yes ∙ no in
      cc

  nowhere_here : (i k object : ℕ) (n m : Named) (ns : List Named) (o : Constant) → ((j : ℕ) → constant_from (suc i) ns text ≡ None → slice_get ns j ≡ Some m → ⊥) → (p : Option ℕ) → position (is_str text) (constants_of n.held) ≡ p
      → option_or (option_map (numbered i) p) (constant_from (suc i) ns text) ≡ None → slice_get (n ∷ ns) k ≡ Some m → slice_get (constants_of m.held) object ≡ Some o → bytes_in (out-Constant o) ≡ Some text → ⊥
  nowhere_here i k object n m ns o more (Some place) q e at in_it bytes = absurd cc
  nowhere_here i zero object n m ns o more None q e at in_it bytes =
      let same : n ≡ m = cc in
      there (constants_of n.held) object o (ap (λ (x : Named). slice_get (constants_of x.held) object) same ∙ in_it) bytes q
  nowhere_here i (suc k) object n m ns o more None q e at in_it bytes = more k e at

  pub constant_nowhere : (i k object : ℕ) (ns : List Named) (m : Named) (o : Constant) → constant_from i ns text ≡ None → slice_get ns k ≡ Some m
      → slice_get (constants_of m.held) object ≡ Some o → bytes_in (out-Constant o) ≡ Some text → ⊥
  constant_nowhere i k object [] m o e at in_it bytes = absurd cc
  constant_nowhere i k object (n ∷ ns) m o e at in_it bytes =
      nowhere_here i k object n m ns o (λ j e2 at2. constant_nowhere (suc i) j object ns m o e2 at2 in_it bytes) (position (is_str text) (constants_of n.held)) refl e at in_it bytes

-- the whole
-- =========

module _ (shelf : Shelf) (law : IsOneToOne static_pool) (count : length static_texts < FIRST_OWN) (first : shelf.pool.first ≡ FIRST_OWN) (text : List ℕ) where
  name_by : (o : Option ℕ) → pool_number shelf.pool text ≡ o → IsName shelf text → text_numbered shelf.pool (unwrap_or o 0) ≡ Some text
  name_by (Some m) q is = pool_told shelf.pool law count first text m q
  name_by None q is = absurd (pool_nowhere shelf.pool law count first text is.0 q is.1)

  -- the number of a name
  pub name_told : IsName shelf text → text_numbered shelf.pool (name_number shelf text) ≡ Some text
  name_told is = name_by (pool_number shelf.pool text) refl is

  in_module : (c : ConstNo) (o : Option Named) → slice_get shelf.modules c.«module» ≡ o → (p : Option Constant) → option_and_then (λ (n : Named). slice_get (constants_of n.held) c.object) o ≡ p
      → option_and_then (λ (x : Constant). bytes_in (out-Constant x)) p ≡ Some text → constant_from 0 shelf.modules text ≡ None → ⊥
  in_module c None q p r e none = let empty : None ≡ p = r in let bad : None ≡ Some text = ap (option_and_then (λ (x : Constant). bytes_in (out-Constant x))) empty ∙ e in cc
  in_module c (Some n) q None r e none = absurd cc
  in_module c (Some n) q (Some x) r e none = constant_nowhere text 0 c.«module» c.object shelf.modules n x none q r e

  told_named : (d : ConstNo) (o : Option Named) → option_and_then (λ (x : Constant). bytes_in (out-Constant x)) (option_and_then (λ (n : Named). slice_get (constants_of n.held) d.object) o) ≡ Some text
      → option_and_then (λ (x : Constant). bytes_in (out-Constant x)) (option_and_then (λ m. slice_get (constants_of m) d.object) (option_and_then (λ (n : Named). Some n.held) o)) ≡ Some text
  told_named d None e = absurd cc
  told_named d (Some n) e = e

  in_shelf : (d : ConstNo) → IsStrFrom text 0 shelf.modules d → text_at shelf (strs.Object d) ≡ Some text
  in_shelf d at =
      let place : d.«module» ≡ at.0 = at.1 ∙ omega arith in
      told_named d (slice_get shelf.modules d.«module») (ap (λ (j : ℕ). str_at text shelf.modules j d.object) place ∙ at.2)

  held_by : (c : ConstNo) → constant_from 0 shelf.modules text ≡ None → (o : Option Named) → slice_get shelf.modules c.«module» ≡ o
      → option_and_then (λ (x : Constant). bytes_in (out-Constant x)) (option_and_then (λ m. slice_get (constants_of m) c.object) (option_and_then (λ (n : Named). Some n.held) o)) ≡ Some text → ⊥
  held_by c none None q e = absurd cc
  held_by c none (Some n) q e = in_module c (Some n) q (slice_get (constants_of n.held) c.object) refl e none

  str_by : (o : Option ℕ) (p : Option ConstNo) → pool_number shelf.pool text ≡ o → constant_from 0 shelf.modules text ≡ p → (c : StrNo) → text_at shelf c ≡ Some text
      → text_at shelf (unwrap_or (option_or (option_map strs.Pool o) (option_map strs.Object p)) (strs.Pool 0)) ≡ Some text
  str_by (Some m) p q r c is = pool_told shelf.pool law count first text m q
  str_by None p q r (strs.Pool n) is = absurd (pool_nowhere shelf.pool law count first text n q is)
  str_by None (Some d) q r (strs.Object c) is = in_shelf d (constant_told text 0 shelf.modules d r)
  str_by None None q r (strs.Object c) is = absurd (held_by c r (slice_get shelf.modules c.«module») refl is)

  -- the number of a constant str
  pub str_told : IsConstant shelf text → text_at shelf (str_of shelf text) ≡ Some text
  str_told is = str_by (pool_number shelf.pool text) (constant_from 0 shelf.modules text) refl refl is.0 is.1
