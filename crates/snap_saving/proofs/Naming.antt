-- The numbers of modules, and the lengths of names.
use Rattle.std.proofs.Common.{◌≡◌, ℕ, ◌<◌, ◌^◌, List, length, Option, Some, None, Bool, true, false, refl, sym, ap, ◌∙◌, arith}
use Rattle.std.specs.Prelude.{position, unwrap_or, option_and_then}
use Rattle.std.specs.Str.{bytes_eq}
use Rattle.mpy_base.specs.declared.builtin.Builtin.{Builtin}
use Rattle.mpy_base.specs.declared.builtin.Builtin.TheVariants as builtins
use Rattle.mpy_base.specs.declared.kind.Kind.{Kind}
use Rattle.mpy_base.specs.declared.kind.Kind.TheVariants as kinds
use Rattle.mpy_base.specs.Kind.{kind_name}
use Rattle.prim_walks.specs.py_values.Names.{builtin_name}
use Rattle.arena_heap.specs.declared.value.StrNo.TheVariants as strs
use Rattle.bc_library.specs.declared.fault.Member.{Member}
use Rattle.bc_library.specs.Shelf.{Shelf, names, member_by, member_of}
use Rattle.bc_library.specs.Constants.{text_at}
use Rattle.snap_saving.specs.Shown.{module_part}
use Rattle.snap_saving.specs.Steps.{number_in}

number_by : (place : Option ℕ) (is_refused : Bool) → number_in (member_by place is_refused) ≡ unwrap_or place 0
number_by (Some place) is_refused = refl
number_by None true = refl
number_by None false = refl

pub module_found : (shelf : Shelf) (name : ℕ) (text : List ℕ) (m : Option Member) (r : ℕ) → text_at shelf (strs.Pool name) ≡ Some text → m ≡ member_of shelf text → r ≡ number_in m → r ≡ module_part shelf name
module_found shelf name text m r at is e =
    e ∙ (ap number_in is ∙ (number_by (position (bytes_eq text) (names shelf)) _
    ∙ ap (λ (o : Option (List ℕ)). unwrap_or (option_and_then (λ t. position (bytes_eq t) (names shelf)) o) 0) (sym at)))

pub no_module : (shelf : Shelf) (name : ℕ) → text_at shelf (strs.Pool name) ≡ None → 0 ≡ module_part shelf name
no_module shelf name at = ap (λ (o : Option (List ℕ)). unwrap_or (option_and_then (λ t. position (bytes_eq t) (names shelf)) o) 0) (sym at)

pub short_kind : (k : Kind) → length (kind_name k) < 2 ^ 32
short_kind kinds.BaseException = omega arith
short_kind _ = omega arith

pub short_builtin : (b : Builtin) → length (builtin_name b) < 2 ^ 32
short_builtin (builtins.Kind kind) = short_kind kind
short_builtin _ = omega arith
