-- What is seen of a library.
use Rattle.std.specs.Prelude.{ℕ, ◌+◌, ◌≤◌, Bool, true, false, List, [], ◌∷◌, ◌++◌, length, map, Option, Some, None, Result, Ok}
use Rattle.std.specs.Prelude.{Err, position, slice_get, option_and_then}
use Rattle.std.specs.List.{list_any}
use Rattle.std.specs.Str.{bytes_eq}
use Rattle.mpy_base.specs.declared.limits.TheConstants.{MAX_MODULES}
use Rattle.mpy_base.specs.declared.refused.Refused.{Refused}
use Rattle.mpy_base.specs.declared.refused.Refused.TheVariants as refused
use Rattle.bc_verify.specs.qstr_pool.declared.table.TheConstants.{FIRST_OWN}
use Rattle.bc_verify.specs.qstr_pool.Pool.{Texts}
use Rattle.mpy_tree.specs.declared.raw.Qstr.{Qstr}
use Rattle.mpy_tree.specs.Raw as raw
use Rattle.mpy_tree.specs.Raw.{Module}
use Rattle.bc_library.specs.declared.fault.LibFault.{LibFault}
use Rattle.bc_library.specs.declared.fault.Member.{Member}
use Rattle.bc_library.specs.declared.fault.Member.TheVariants as members
use Rattle.bc_library.specs.Texts.{with_texts, texts_of}

-- a module and its name
pub record Named : Type 0 where
  pub name : List ℕ
  pub held : Module

-- the modules and the names of the refused entries, both in the order of adding, and the texts in that of their numbers
pub record Shelf : Type 0 where
  pub modules : List Named
  pub refused : List (List ℕ)
  pub pool : Texts

-- a library without modules and texts of its own
abbrev pub no_entries : Shelf
no_entries = record { modules = []; refused = []; pool = record { first = FIRST_OWN; texts = [] } }

-- the library with a module more, whose texts go into the pool in the order of their first use
abbrev pub with_module : Shelf → List ℕ → Module → Shelf
with_module shelf name m = record {
  modules = shelf.modules ++ record { name = name; held = m } ∷ [];
  refused = shelf.refused;
  pool = with_texts shelf.pool (texts_of name m);
}

-- the library with a name more whose file was refused
abbrev pub with_refused : Shelf → List ℕ → Shelf
with_refused shelf name = record { modules = shelf.modules; refused = shelf.refused ++ name ∷ []; pool = shelf.pool }

-- the names of the modules
abbrev pub names : Shelf → List (List ℕ)
names shelf = map (λ n. n.name) shelf.modules

-- a place among the modules, or whether the name is that of a refused entry
abbrev pub member_by : Option ℕ → Bool → Option Member
member_by (Some place) is_refused = Some (members.Module place)
member_by None true = Some members.Refused
member_by None false = None

-- what the name leads to
abbrev pub member_of : Shelf → List ℕ → Option Member
member_of shelf name = member_by (position (bytes_eq name) (names shelf)) (list_any (bytes_eq name) shelf.refused)

-- no further entry goes in
abbrev pub IsFull : Shelf → Type 0
IsFull shelf = MAX_MODULES ≤ length shelf.modules + length shelf.refused

-- the module at a place
abbrev pub module_at : Shelf → ℕ → Option Module
module_at shelf i = option_and_then (λ n. Some n.held) (slice_get shelf.modules i)

-- an entry of a module's table of texts, and its text
abbrev pub entry_at : Shelf → ℕ → ℕ → Option Qstr
entry_at shelf i qstr = option_and_then (λ m. slice_get m.qstrs qstr) (module_at shelf i)

-- the text of that entry
abbrev pub table_text : Shelf → ℕ → ℕ → Option (List ℕ)
table_text shelf i qstr = option_and_then raw.text_of (entry_at shelf i qstr)

-- the fault that a call tells, if it does
abbrev pub fault_in : Refused LibFault → Option LibFault
fault_in (refused.Fault fault) = Some fault
fault_in refused.NoMemory = None

-- the fault that a call tells which gives something back with its refusal
abbrev pub fault_of : {A B : Type 0} → Result A (Refused LibFault × B) → Option LibFault
fault_of (Ok done) = None
fault_of (Err e) = fault_in e.0
