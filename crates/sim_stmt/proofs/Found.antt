-- A name that was just stored is found.
use Rattle.std.proofs.Common.{◌≡◌, ℕ, zero, suc, ◌<◌, List, [], ◌∷◌, ◌++◌, length, Some, None, cond, set, replicate, refl, sym, ap, ◌∙◌, inl, inr, arith, length-append, get_or-set_same, get_or-set_other}
use Rattle.std.specs.Prelude.{position, bytes_eq, slice_set}
use Rattle.std.proofs.lemmas.List.{get_or_past, get_or_append_left, get_or-append_right}
use Rattle.std.proofs.lemmas.List.Quantifiers.{position-Some}
use Rattle.std.proofs.lemmas.Bool.{cases_eq, cases_lt}
use Rattle.bc_scheme.specs.mpy_base.World.{ListObject, TupleObject, TextObject, DictObject, FunctionObject, ExceptionObject, MethodObject, RangeObject, ModuleObject, ADict, object, kind_of, IsA, pairs_of, pairs_at}
use Rattle.bc_scheme.specs.mpy_base.Weights.{dict_growth, grown_room, with_pairs}
use Rattle.bc_scheme.specs.mpy_base.Val.{Val, Nil, Truth, Int, Str, Fixed, Empty, Built, At, PlainWorld}
use Rattle.bc_scheme.proofs.mpy_base_lemmas.Worlds.{object_nones}
use Rattle.bc_scheme.specs.py_values.Shown.{PlainHeap, shown_object}
use Rattle.bc_scheme.specs.py_values.Keys.{shown_key, key_of, is_same_key, has_key, value_of_key, with_key}
use Rattle.bc_scheme.proofs.py_values_lemmas.KeyPairs.{set_is_found}
use Rattle.bc_scheme.specs.py_effects.Names.{Locals, local_at, named_in}
use Rattle.bc_scheme.proofs.py_effects_lemmas.HeapSteps.{Obj}

-- ---- locals

-- a local that was just stored
pub stored_local : (env : Locals) (slot : ℕ) (v : Val) → slot < length env → local_at (slice_set env slot (Some v)) slot ≡ Some v
stored_local [] slot v low = absurd (omega (arith, low))
stored_local (o ∷ env) zero v low = refl
stored_local (o ∷ env) (suc slot) v low = stored_local env slot v (omega (arith, low))

pub slot_is_low : (name : List ℕ) (locals : List (List ℕ)) (slot : ℕ) → position (bytes_eq name) locals ≡ Some slot → slot < length locals
slot_is_low name locals slot e = (position-Some (bytes_eq name) locals slot [] e).0

-- ---- names of a module

dict_in_use : (obs : List Obj) (n : ℕ) → IsA obs ADict n → n < length obs
dict_in_use obs n i = elim (cases_lt n (length obs)) [
  | inl low ↦ low
  | inr past ↦ absurd (let p : kind_of (object obs n) ≡ None = ap kind_of (get_or_past obs n None past) in let c : None ≡ Some ADict = sym p ∙ i in cc)
]

-- a dict is no key
dict_no_key : (o : Obj) → kind_of o ≡ Some ADict → shown_key (shown_object o) ≡ None
dict_no_key None e = cc e
dict_no_key (Some (ListObject items room)) e = refl
dict_no_key (Some (TupleObject items)) e = refl
dict_no_key (Some (TextObject bytes)) e = absurd cc
dict_no_key (Some (DictObject pairs room)) e = refl
dict_no_key (Some (FunctionObject name module_name code names defaults)) e = refl
dict_no_key (Some (ExceptionObject kind args file line name)) e = refl
dict_no_key (Some (MethodObject object method)) e = refl
dict_no_key (Some (RangeObject start stop step)) e = refl
dict_no_key (Some (ModuleObject name names)) e = refl

module _ (heap : PlainHeap) (n : ℕ) (pairs : List (Val × Val)) (i : IsA heap.objects ADict n) where
  abbrev more : List Obj
  more = heap.objects ++ replicate (dict_growth heap n (length pairs)) None

  abbrev new : Obj
  new = Some (DictObject pairs (grown_room heap n (length pairs)))

  low : n < length more
  low =
      let none : Obj = None in
      omega (arith, dict_in_use heap.objects n i, length-append heap.objects (replicate (dict_growth heap n (length pairs)) none))

  there : object (set more n new) n ≡ new
  there = get_or-set_same more n new None low

  others : (m : ℕ) → (m ≡ n → ⊥) → object (set more n new) m ≡ object heap.objects m
  others m ne = get_or-set_other more n m new None ne ∙ elim (cases_lt m (length heap.objects)) [
    | inl under ↦ get_or_append_left heap.objects (replicate (dict_growth heap n (length pairs)) None) None m under
    | inr past ↦ get_or-append_right heap.objects (replicate (dict_growth heap n (length pairs)) None) (length heap.objects) m None refl past
        ∙ object_nones (dict_growth heap n (length pairs)) _ ∙ sym (get_or_past heap.objects m None past)
  ]

  at_object : (m : ℕ) → shown_key (shown_object (object (set more n new) m)) ≡ shown_key (shown_object (object heap.objects m))
  at_object m = elim (cases_eq m n) [
    | inl q ↦ ap (λ y. shown_key (shown_object (object (set more n new) y))) q ∙ ap (λ o. shown_key (shown_object o)) there ∙ sym (dict_no_key (object heap.objects n) i) ∙ ap (λ y. shown_key (shown_object (object heap.objects y))) (sym q)
    | inr ne ↦ ap (λ o. shown_key (shown_object o)) (others m ne)
  ]

  same_key : (v : Val) → key_of (with_pairs heap n pairs) v ≡ key_of heap v
  same_key Nil = refl
  same_key (Truth b) = refl
  same_key (Int z) = refl
  same_key (Str bytes) = refl
  same_key (Fixed items) = refl
  same_key Empty = refl
  same_key (Built b) = refl
  same_key (At m) = at_object m

  same_value : (ps : List (Val × Val)) (key : Val) → value_of_key (with_pairs heap n pairs) ps key ≡ value_of_key heap ps key
  same_value [] key = refl
  same_value (pair ∷ ps) key =
      ap (λ b. cond b (Some (pair.1)) (value_of_key (with_pairs heap n pairs) ps key)) (ap (λ a. is_same_key a (key_of (with_pairs heap n pairs) key)) (same_key pair.0) ∙ ap (λ a. is_same_key (key_of heap pair.0) a) (same_key key))
      ∙ ap (λ o. cond (has_key heap key pair) (Some (pair.1)) o) (same_value ps key)

  pairs_there : pairs_at (with_pairs heap n pairs) n ≡ pairs
  pairs_there = ap pairs_of there

-- the pairs of a dict are those that were put there
pub stored_name : (w : PlainWorld) (names : ℕ) (name : List ℕ) (v : Val) → IsA w.heap.objects ADict names
    → named_in (record w { heap = with_pairs w.heap names (with_key w.heap (pairs_at w.heap names) (Str name) v) }) names name ≡ Some v
stored_name w names name v i =
    let pairs = with_key w.heap (pairs_at w.heap names) (Str name) v in
    ap (λ ps. value_of_key (with_pairs w.heap names pairs) ps (Str name)) (pairs_there w.heap names pairs i)
    ∙ same_value w.heap names pairs i pairs (Str name)
    ∙ set_is_found w.heap (pairs_at w.heap names) (Str name) v refl
