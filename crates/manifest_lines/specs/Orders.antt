-- What a call orders.
use Rattle.std.specs.Prelude.{ℕ, ℤ, pos, negsuc, nat_le, ◌==◌, Bool, true, false, ◌&&◌, if◌then◌else◌, List, [], ◌∷◌, Option, Some, None, codes}
use Rattle.manifest_lines.specs.declared.literal.Literal.{Literal}
use Rattle.manifest_lines.specs.declared.literal.Literal.TheVariants as lit
use Rattle.manifest_lines.specs.declared.call.Argument.{Argument}
use Rattle.manifest_lines.specs.declared.call.Call.{Call}
use Rattle.manifest_lines.specs.declared.form.Form.{Form}
use Rattle.manifest_lines.specs.declared.form.Form.TheVariants as form
use Rattle.manifest_lines.specs.declared.entry.Sources.{Sources}
use Rattle.manifest_lines.specs.declared.order.Order.{Order}
use Rattle.manifest_lines.specs.declared.order.Order.TheVariants.{Include, Freeze, Nothing, Require}
use Rattle.manifest_lines.specs.Forms.{form_of, value_of, fits}
use Rattle.manifest_lines.specs.Entries.{entries_of}

-- what is made of a value, where there is one
infixl 10 ◌>>=◌
abbrev pub ◌>>=◌ : {A B : Type 0} → Option A → (A → Option B) → Option B
(Some a) >>= f = f a
None >>= f = None

-- the second value, where there are both
infixl 10 ◌>>◌
abbrev pub ◌>>◌ : {A B : Type 0} → Option A → Option B → Option B
a >> b = a >>= (λ _. b)

-- ---- paths, which have no `$(`, as each variable begins

-- is the first byte `(`?
abbrev pub begins_with_bracket : List ℕ → Bool
begins_with_bracket [] = false
begins_with_bracket (byte ∷ bytes) = byte == 40

-- is there a `$(` among the bytes?
abbrev pub has_variable : List ℕ → Bool
has_variable [] = false
has_variable (byte ∷ bytes) = if byte == 36 && begins_with_bracket bytes then true else has_variable bytes

-- a text that has no variable
abbrev pub path_text : List ℕ → Option (List ℕ)
path_text text = if has_variable text then None else Some text

-- the path that a literal is
abbrev pub path_of_literal : Literal → Option (List ℕ)
path_of_literal (lit.Text text) = path_text text
path_of_literal value = None

-- the path that is given
abbrev pub path_of : Option Literal → Option (List ℕ)
path_of None = None
path_of (Some value) = path_of_literal value

-- the folder itself where none is given
abbrev pub path_or_dot : Option Literal → Option (List ℕ)
path_or_dot None = Some (codes ".")
path_or_dot (Some value) = path_of_literal value

-- ---- levels of optimization: 0 to 3, and 0 for None

-- the level that a number is
abbrev pub level_of_number : ℤ → Option ℕ
level_of_number (pos n) = if nat_le n 3 then Some n else None
level_of_number (negsuc n) = None

-- the level that a literal is
abbrev pub level_of_literal : Literal → Option ℕ
level_of_literal lit.None = Some 0
level_of_literal (lit.Number n) = level_of_number n
level_of_literal value = None

-- the level that is given, and 0 where none is
abbrev pub level_of : Option Literal → Option ℕ
level_of None = Some 0
level_of (Some value) = level_of_literal value

-- ---- scripts: a string, or a tuple of strings

-- the one script that a literal is
abbrev pub one_literal : Literal → Option (List (List ℕ))
one_literal (lit.Text text) = Some (text ∷ [])
one_literal value = None

-- the scripts that a tuple has
abbrev pub several_literal : Literal → Option (List (List ℕ))
several_literal (lit.Texts texts) = Some texts
several_literal value = None

-- the one script that a literal is, or those that a tuple has
abbrev pub one_or_several_literal : Literal → Option (List (List ℕ))
one_or_several_literal (lit.Text text) = Some (text ∷ [])
one_or_several_literal (lit.Texts texts) = Some texts
one_or_several_literal value = None

-- the one script that is given
abbrev pub one : Option Literal → Option (List (List ℕ))
one value = value >>= one_literal

-- the scripts that are given as a tuple
abbrev pub several : Option Literal → Option (List (List ℕ))
several value = value >>= several_literal

-- the scripts that are given either way
abbrev pub one_or_several : Option Literal → Option (List (List ℕ))
one_or_several value = value >>= one_or_several_literal

-- ---- what a call names

-- module(module_path, base_path=".", opt=None)
unfoldable pub module_sources : List Argument → Option Sources
module_sources arguments = do
  base ← path_or_dot (value_of form.Module 1 arguments)
  scripts ← one (value_of form.Module 0 arguments)
  opt ← level_of (value_of form.Module 2 arguments)
  Some (record { base = base; «package» = codes "."; scripts = scripts; opt = opt })

-- freeze(path, script, opt=None)
unfoldable pub freeze_sources : List Argument → Option Sources
freeze_sources arguments = do
  base ← path_of (value_of form.Freeze 0 arguments)
  scripts ← one_or_several (value_of form.Freeze 1 arguments)
  opt ← level_of (value_of form.Freeze 2 arguments)
  Some (record { base = base; «package» = codes "."; scripts = scripts; opt = opt })

-- package(package_path, files, base_path=".", opt=None)
unfoldable pub package_sources : List Argument → Option Sources
package_sources arguments = do
  base ← path_or_dot (value_of form.Package 2 arguments)
  its ← path_of (value_of form.Package 0 arguments)
  scripts ← several (value_of form.Package 1 arguments)
  opt ← level_of (value_of form.Package 3 arguments)
  Some (record { base = base; «package» = its; scripts = scripts; opt = opt })

-- ---- orders

-- the arguments fit the call
abbrev pub expect_fit : Form → List Argument → Option (Unit {0})
expect_fit its arguments = if fits its arguments then Some tt else None

-- include(manifest_path)
unfoldable pub include : List Argument → Option Order
include arguments = do
  expect_fit form.Include arguments
  path ← path_of (value_of form.Include 0 arguments)
  Some (Include path)

-- module(module_path, base_path=".", opt=None)
unfoldable pub module_call : List Argument → Option Order
module_call arguments = do
  expect_fit form.Module arguments
  sources ← module_sources arguments
  entries ← entries_of sources
  Some (Freeze entries)

-- freeze(path, script, opt=None)
unfoldable pub freeze_call : List Argument → Option Order
freeze_call arguments = do
  expect_fit form.Freeze arguments
  sources ← freeze_sources arguments
  entries ← entries_of sources
  Some (Freeze entries)

-- package(package_path, files, base_path=".", opt=None)
unfoldable pub package_call : List Argument → Option Order
package_call arguments = do
  expect_fit form.Package arguments
  sources ← package_sources arguments
  entries ← entries_of sources
  Some (Freeze entries)

-- the order of a literal that is a string, and else the other order
abbrev pub or_else : Literal → Option Order → Option Order
or_else (lit.Text text) others = Some (Require text)
or_else value others = others

-- the first string among the arguments
abbrev pub require : List Argument → Option Order
require [] = None
require (argument ∷ arguments) = or_else argument.value (require arguments)

-- what a call of the form orders
abbrev pub order_by : Option Form → List Argument → Option Order
order_by None arguments = None
order_by (Some form.Include) arguments = include arguments
order_by (Some form.Module) arguments = module_call arguments
order_by (Some form.Freeze) arguments = freeze_call arguments
order_by (Some form.Package) arguments = package_call arguments
order_by (Some form.Metadata) arguments = Some Nothing
order_by (Some form.Require) arguments = require arguments

-- what a call orders, if a manifest may make it
abbrev pub order_of : Call → Option Order
order_of call = order_by (form_of call.name) call.arguments
