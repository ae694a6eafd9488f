-- Uses of the value of a key.
use Rattle.std.proofs.Common.{◌≡◌, List, Bool, true, false, cond, Option, Some, None, sym, ap, ◌∙◌}
use Rattle.std.specs.Prelude.{is_some, codes}
use Rattle.prim_faults.specs.mpy_base.Val.{Val}
use Rattle.prim_faults.specs.py_values.Shown.{PlainHeap}
use Rattle.prim_faults.specs.py_values.Names.{type_name}
use Rattle.prim_faults.specs.py_values.Keys.{key_of, value_of_key}
use Rattle.prim_faults.specs.py_primitives.Faults.{UnsupportedOne, NoKey}
use Rattle.prim_faults.specs.py_primitives.Outcome.{Outcome, raises}
use Rattle.prim_faults.specs.py_primitives.Uses.{of_key, at_key}

module _ {A : Type 0} (heap : PlainHeap) (pairs : List (Val × Val)) (key : Val) (next : Val → Outcome A) where
  tested : (b : Bool) → is_some (key_of heap key) ≡ b
      → of_key heap pairs key next ≡ cond b (at_key heap key (value_of_key heap pairs key) next) (raises (UnsupportedOne (codes "__hash__") (type_name heap key)) heap)
  tested b e = ap (λ (c : Bool). cond c (at_key heap key (value_of_key heap pairs key) next) (raises (UnsupportedOne (codes "__hash__") (type_name heap key)) heap)) e

  -- of what is no key
  pub unhashable : false ≡ is_some (key_of heap key) → of_key heap pairs key next ≡ raises (UnsupportedOne (codes "__hash__") (type_name heap key)) heap
  unhashable e = tested false (sym e)

  pub key_found : true ≡ is_some (key_of heap key) → (v : Val) → value_of_key heap pairs key ≡ Some v → of_key heap pairs key next ≡ next v
  key_found e v found = tested true (sym e) ∙ ap (λ (o : Option Val). at_key heap key o next) found

  pub key_missing : true ≡ is_some (key_of heap key) → value_of_key heap pairs key ≡ None → of_key heap pairs key next ≡ raises (NoKey key) heap
  key_missing e missing = tested true (sym e) ∙ ap (λ (o : Option Val). at_key heap key o next) missing
