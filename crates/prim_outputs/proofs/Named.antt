-- Keyword arguments by their names.
use Rattle.std.proofs.Common.{◌≡◌, ℕ, List, map, true, false, Option, Some, None, Result, Err, refl, sym, ap, ◌∙◌}
use Rattle.std.specs.Prelude.{bytes_eq, codes}
use Rattle.prim_builtins.specs.arena_heap.declared.value.Value.{Value}
use Rattle.prim_builtins.specs.arena_heap.declared.value.Value.TheVariants as values
use Rattle.prim_builtins.specs.arena_heap.declared.value.StrNo.{StrNo}
use Rattle.prim_builtins.specs.arena_heap.declared.value.ConstNo.{ConstNo}
use Rattle.mpy_base.specs.World.{Heap}
use Rattle.mpy_base.specs.Val.{Val}
use Rattle.prim_builtins.specs.arena_objects.Iterables.{or_nothing}
use Rattle.prim_builtins.specs.py_values.Shown.{Shown, Text, shown}
use Rattle.prim_builtins.specs.py_primitives.Faults as plain
use Rattle.prim_builtins.specs.py_primitives.Methods.{str_in}
use Rattle.prim_builtins.specs.py_primitives.Output.{Ends, if_new, named_end, one_end}
use Rattle.prim_builtins.specs.prim_walks.Plain.{plain, plain_by, plain_heap, fixed_within}
use Rattle.prim_builtins.proofs.prim_walks_lemmas.PlainValues.{within_step, shown_fixed}

-- a constant tuple is no str
pub fixed_no_str : (texts : StrNo → Option (List ℕ)) (tuples : ConstNo → Option (List Value)) (h : Heap Value ℕ) (v : Value) (c : ConstNo) → v ≡ values.Fixed c
    → None ≡ str_in (shown (plain_heap texts tuples h) (plain texts tuples v))
fixed_no_str texts tuples h v c is =
    let heap = plain_heap texts tuples h in
    let items = map (plain_by texts (fixed_within texts tuples 31)) (or_nothing (tuples c)) in
    sym (ap (λ (w : Value). str_in (shown heap (plain texts tuples w))) is
    ∙ (ap (λ (w : Val). str_in (shown heap w)) (within_step texts tuples 31 c) ∙ ap str_in (shown_fixed heap items)))

-- a name that is a str
pub named_as : (ends : Ends) (s t : Shown) (name : List ℕ) → Some name ≡ str_in s → one_end ends s t ≡ named_end ends name t
named_as ends (Text bytes) t name e = let same : name ≡ bytes = cc in sym (ap (λ (n : List ℕ). named_end ends n t) same)
named_as ends _ t name e = absurd cc

-- sep and end
module _ (ends : Ends) (s t : Shown) (name spelled : List ℕ) (found : Result Ends plain.Fault) (shows : Some name ≡ str_in s) (same : name ≡ spelled) where
  pub sep_found : bytes_eq name (codes "sep") ≡ true → if_new spelled ends.sep t (λ bytes. record ends { sep = Some bytes }) ≡ found → found ≡ one_end ends s t
  sep_found e f =
      let named : named_end ends name t ≡ if_new name ends.sep t (λ bytes. record ends { sep = Some bytes }) = rw e refl in
      sym (named_as ends s t name shows ∙ (named ∙ (ap (λ (n : List ℕ). if_new n ends.sep t (λ bytes. record ends { sep = Some bytes })) same ∙ f)))

  pub last_found : bytes_eq name (codes "sep") ≡ false → bytes_eq name (codes "end") ≡ true → if_new spelled ends.last t (λ bytes. record ends { last = Some bytes }) ≡ found → found ≡ one_end ends s t
  last_found d e f =
      let named : named_end ends name t ≡ if_new name ends.last t (λ bytes. record ends { last = Some bytes }) = rw (d, e) refl in
      sym (named_as ends s t name shows ∙ (named ∙ (ap (λ (n : List ℕ). if_new n ends.last t (λ bytes. record ends { last = Some bytes })) same ∙ f)))

-- the other names, and what is no name
module _ (ends : Ends) (s t : Shown) where
  pub other_found : (name spelled : List ℕ) → Some name ≡ str_in s → name ≡ spelled → bytes_eq name (codes "sep") ≡ false → bytes_eq name (codes "end") ≡ false → Err (plain.UnknownKeyword spelled) ≡ one_end ends s t
  other_found name spelled shows same d e =
      let named : named_end ends name t ≡ Err (plain.UnknownKeyword name) = rw (d, e) refl in
      sym (named_as ends s t name shows ∙ (named ∙ ap (λ (n : List ℕ). Err (plain.UnknownKeyword n)) same))
