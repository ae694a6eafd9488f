-- What tests of types and kinds answer.
use Rattle.std.proofs.Common.{◌≡◌, List, Bool, Option, Some, None, refl, sym, ap}
use Rattle.std.specs.Option.{option_map}
use Rattle.std.specs.List.{list_any}
use Rattle.mpy_base.specs.declared.builtin.Builtin.{Builtin}
use Rattle.mpy_base.specs.declared.kind.Kind.{Kind}
use Rattle.mpy_base.specs.Val.{Val, Truth}
use Rattle.prim_builtins.specs.py_values.Shown.{PlainHeap}
use Rattle.prim_builtins.specs.py_primitives.Faults.{NotTypes, UnsupportedMatch}
use Rattle.prim_builtins.specs.py_primitives.Outcome.{gives, raises}
use Rattle.prim_builtins.specs.py_primitives.Operators.{is_under, match_kinds}
use Rattle.prim_builtins.specs.py_primitives.Calls.{is_instance, instance_of}

module _ (heap : PlainHeap) (v : Val) where
  pub types_found : (found : Bool) (types : Option (List Builtin)) → Some found ≡ option_map (list_any (is_instance heap v)) types → instance_of heap v types ≡ gives (Truth found) heap
  types_found found None e = absurd cc
  types_found found (Some types) e =
      let same : found ≡ list_any (is_instance heap v) types = cc in
      ap (λ (b : Bool). gives (Truth b) heap) (sym same)

  pub no_types : (types : Option (List Builtin)) → None ≡ option_map (list_any (is_instance heap v)) types → instance_of heap v types ≡ raises NotTypes heap
  no_types None e = refl
  no_types (Some types) e = absurd cc

module _ (heap : PlainHeap) (kind : Kind) where
  pub kinds_found : (found : Bool) (kinds : Option (List Kind)) → Some found ≡ option_map (list_any (is_under kind)) kinds → match_kinds heap (Some kind) kinds ≡ gives (Truth found) heap
  kinds_found found None e = absurd cc
  kinds_found found (Some kinds) e =
      let same : found ≡ list_any (is_under kind) kinds = cc in
      ap (λ (b : Bool). gives (Truth b) heap) (sym same)

  pub no_kinds : (kinds : Option (List Kind)) → None ≡ option_map (list_any (is_under kind)) kinds → match_kinds heap (Some kind) kinds ≡ raises UnsupportedMatch heap
  no_kinds None e = refl
  no_kinds (Some kinds) e = absurd cc

-- no exception is matched
pub no_match : (heap : PlainHeap) (kind : Option Kind) (kinds : Option (List Kind)) → kind ≡ None → match_kinds heap kind kinds ≡ raises UnsupportedMatch heap
no_match heap None kinds e = refl
no_match heap (Some kind) kinds e = absurd cc
