-- The calls that a manifest may make, their parameters, and what is given to them.
use Rattle.std.specs.Prelude.{ℕ, ◌==◌, Bool, true, false, if◌then◌else◌, List, [], ◌∷◌, Option, Some, None, is_none, slice_get, codes}
use Rattle.std.specs.Str.{bytes_eq}
use Rattle.std.specs.List.{list_all}
use Rattle.manifest_lines.specs.declared.literal.Literal.{Literal}
use Rattle.manifest_lines.specs.declared.call.Argument.{Argument}
use Rattle.manifest_lines.specs.declared.form.Form.{Form}
use Rattle.manifest_lines.specs.declared.form.Form.TheVariants.{Include, Module, Freeze, Package, Metadata, Require}

-- the call of that name, if there is one
abbrev pub form_of : List ℕ → Option Form
form_of name =
    if bytes_eq name (codes "include") then Some Include
    else (if bytes_eq name (codes "module") then Some Module
    else (if bytes_eq name (codes "freeze") then Some Freeze
    else (if bytes_eq name (codes "package") then Some Package
    else (if bytes_eq name (codes "metadata") then Some Metadata
    else (if bytes_eq name (codes "require") then Some Require else None)))))

-- ---- parameters, counted from 0

-- the place of a parameter of `include`
abbrev pub include_place : List ℕ → Option ℕ
include_place name = if bytes_eq name (codes "manifest_path") then Some 0 else None

-- the place of a parameter of `module`
abbrev pub module_place : List ℕ → Option ℕ
module_place name =
    if bytes_eq name (codes "module_path") then Some 0
    else (if bytes_eq name (codes "base_path") then Some 1
    else (if bytes_eq name (codes "opt") then Some 2 else None))

-- the place of a parameter of `freeze`
abbrev pub freeze_place : List ℕ → Option ℕ
freeze_place name =
    if bytes_eq name (codes "path") then Some 0
    else (if bytes_eq name (codes "script") then Some 1
    else (if bytes_eq name (codes "opt") then Some 2 else None))

-- the place of a parameter of `package`
abbrev pub package_place : List ℕ → Option ℕ
package_place name =
    if bytes_eq name (codes "package_path") then Some 0
    else (if bytes_eq name (codes "files") then Some 1
    else (if bytes_eq name (codes "base_path") then Some 2
    else (if bytes_eq name (codes "opt") then Some 3 else None)))

-- metadata and require take any arguments
abbrev pub place_of : Form → List ℕ → Option ℕ
place_of Include name = include_place name
place_of Module name = module_place name
place_of Freeze name = freeze_place name
place_of Package name = package_place name
place_of Metadata name = None
place_of Require name = None

-- how many parameters a call has
abbrev pub parameters : Form → ℕ
parameters Include = 1
parameters Module = 3
parameters Freeze = 3
parameters Package = 4
parameters Metadata = 0
parameters Require = 0

-- ---- what is given: an argument without a name to the parameter at its place, one with a name to the parameter of that name

-- the value of an argument without a name
abbrev pub nameless : Argument → Option (List ℕ) → Option Literal
nameless argument None = Some argument.value
nameless argument (Some name) = None

-- the value of an argument without a name, where there is an argument
abbrev pub nameless_in : Option Argument → Option Literal
nameless_in None = None
nameless_in (Some argument) = nameless argument argument.name

-- the value at this place, where it has no name
abbrev pub nameless_at : List Argument → ℕ → Option Literal
nameless_at arguments place = nameless_in (slice_get arguments place)

-- is it this place?
abbrev pub is_at : Option ℕ → ℕ → Bool
is_at None parameter = false
is_at (Some place) parameter = place == parameter

-- does the name mean this parameter?
abbrev pub is_name_for : Form → ℕ → Option (List ℕ) → Bool
is_name_for form parameter None = false
is_name_for form parameter (Some name) = is_at (place_of form name) parameter

-- is the argument given by name to this parameter?
abbrev pub is_for : Form → ℕ → Argument → Bool
is_for form parameter argument = is_name_for form parameter argument.name

-- the value that is given by name to this parameter
abbrev pub named_for : Form → ℕ → List Argument → Option Literal
named_for form parameter [] = None
named_for form parameter (argument ∷ arguments) = if is_for form parameter argument then Some argument.value else named_for form parameter arguments

-- the first value that there is
abbrev pub or_named : Option Literal → Option Literal → Option Literal
or_named (Some value) other = Some value
or_named None other = other

-- the value of a parameter, where one is given
abbrev pub value_of : Form → ℕ → List Argument → Option Literal
value_of form parameter arguments = or_named (nameless_at arguments parameter) (named_for form parameter arguments)

-- ---- each argument is given to a parameter of its own

-- is it the place of a parameter to which no argument is given by its place?
abbrev pub is_place_free : List Argument → Option ℕ → Bool
is_place_free arguments None = false
is_place_free arguments (Some place) = is_none (nameless_at arguments place)

-- an argument without a name is given, and one with a name where its parameter is free
abbrev pub is_name_given : Form → List Argument → Option (List ℕ) → Bool
is_name_given form arguments None = true
is_name_given form arguments (Some name) = is_place_free arguments (place_of form name)

-- is the argument given to a parameter?
abbrev pub is_given : Form → List Argument → Argument → Bool
is_given form arguments argument = is_name_given form arguments argument.name

-- no more stand without a name than there are parameters, and each name is that of a parameter that none of these is given to
abbrev pub fits : Form → List Argument → Bool
fits form arguments = if is_none (nameless_at arguments (parameters form)) then list_all (is_given form arguments) arguments else false
