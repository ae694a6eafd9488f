-- What small lines order.
use Rattle.std.proofs.Common.{◌≡◌, ℕ, pos, List, [], ◌∷◌, Some, None, codes, refl}
use Rattle.py_tokens.specs.declared.operator.Op.{Op}
use Rattle.py_tokens.specs.declared.operator.Op.TheVariants as op
use Rattle.py_tokens.specs.declared.word.Word.{Word}
use Rattle.py_tokens.specs.declared.word.Word.TheVariants as word
use Rattle.py_tokens.specs.declared.token.Tok.{Tok}
use Rattle.py_tokens.specs.declared.token.Tok.TheVariants as tok
use Rattle.py_tokens.specs.declared.token.Token.{Token}
use Rattle.manifest_lines.specs.declared.entry.Entry.{Entry}
use Rattle.manifest_lines.specs.declared.order.Order.TheVariants.{Include, Freeze, Nothing, Require}
use Rattle.manifest_lines.specs.Ahead.{sees, expect, after, name, sees_named}
use Rattle.manifest_lines.specs.Literals.{signs, close, strings, strings_from, text, plain, item, next_item, items, items_from, tuple, inside, literal}
use Rattle.manifest_lines.specs.Calls.{argument, separator, next_argument, arguments, arguments_from, call}
use Rattle.manifest_lines.specs.Orders.{module_sources, freeze_sources, package_sources, include, module_call, freeze_call, package_call}
use Rattle.manifest_lines.specs.Lines.{order}

abbrev token : Tok → Token
token kind = record { kind = kind; at = 0; end = 0; line = 1 }

abbrev named : List ℕ → Token
named its = token (tok.Name its)

abbrev string : List ℕ → Token
string its = token (tok.Str its)

abbrev number : ℕ → Token
number n = token (tok.Int (pos n))

abbrev word_of : Word → Token
word_of its = token (tok.Word its)

abbrev sign : Op → Token
sign its = token (tok.Op its)

abbrev entry : (its path source : List ℕ) → ℕ → Entry
entry its path source opt = record { «module» = its; path = path; source = source; opt = opt }

-- `module("a.py")`
one_module : order (named (codes "module") ∷ sign op.OpenParen ∷ string (codes "a.py") ∷ sign op.CloseParen ∷ [])
    ≡ Some (Freeze (entry (codes "a") (codes "a.py") (codes "a.py") 0 ∷ []))
unfolding order call argument arguments arguments_from next_argument separator literal inside plain signs close strings strings_from text item items items_from next_item tuple sees expect after name sees_named module_sources freeze_sources package_sources include module_call freeze_call package_call
one_module = refl

-- `freeze("src", ("a.py", "b.py"), opt=3)`
two_scripts : order (named (codes "freeze") ∷ sign op.OpenParen ∷ string (codes "src") ∷ sign op.Comma ∷ sign op.OpenParen ∷ string (codes "a.py") ∷ sign op.Comma ∷ string (codes "b.py") ∷ sign op.CloseParen ∷ sign op.Comma ∷ named (codes "opt") ∷ sign op.Assign ∷ number 3 ∷ sign op.CloseParen ∷ [])
    ≡ Some (Freeze (entry (codes "a") (codes "src/a.py") (codes "a.py") 3 ∷ entry (codes "b") (codes "src/b.py") (codes "b.py") 3 ∷ []))
unfolding order call argument arguments arguments_from next_argument separator literal inside plain signs close strings strings_from text item items items_from next_item tuple sees expect after name sees_named module_sources freeze_sources package_sources include module_call freeze_call package_call
two_scripts = refl

-- `package("p", ("__init__.py", "q.py"), base_path="lib")`
a_package : order (named (codes "package") ∷ sign op.OpenParen ∷ string (codes "p") ∷ sign op.Comma ∷ sign op.OpenParen ∷ string (codes "__init__.py") ∷ sign op.Comma ∷ string (codes "q.py") ∷ sign op.CloseParen ∷ sign op.Comma ∷ named (codes "base_path") ∷ sign op.Assign ∷ string (codes "lib") ∷ sign op.CloseParen ∷ [])
    ≡ Some (Freeze (entry (codes "p") (codes "lib/p/__init__.py") (codes "p/__init__.py") 0 ∷ entry (codes "p.q") (codes "lib/p/q.py") (codes "p/q.py") 0 ∷ []))
unfolding order call argument arguments arguments_from next_argument separator literal inside plain signs close strings strings_from text item items items_from next_item tuple sees expect after name sees_named module_sources freeze_sources package_sources include module_call freeze_call package_call
a_package = refl

-- `package(".", ("__init__.py",))`
no_package : order (named (codes "package") ∷ sign op.OpenParen ∷ string (codes ".") ∷ sign op.Comma ∷ sign op.OpenParen ∷ string (codes "__init__.py") ∷ sign op.Comma ∷ sign op.CloseParen ∷ sign op.CloseParen ∷ [])
    ≡ Some (Freeze (entry (codes "__init__") (codes "__init__.py") (codes "__init__.py") 0 ∷ []))
unfolding order call argument arguments arguments_from next_argument separator literal inside plain signs close strings strings_from text item items items_from next_item tuple sees expect after name sees_named module_sources freeze_sources package_sources include module_call freeze_call package_call
no_package = refl

-- `module(opt=1, module_path="a.py")`
named_arguments : order (named (codes "module") ∷ sign op.OpenParen ∷ named (codes "opt") ∷ sign op.Assign ∷ number 1 ∷ sign op.Comma ∷ named (codes "module_path") ∷ sign op.Assign ∷ string (codes "a.py") ∷ sign op.CloseParen ∷ [])
    ≡ Some (Freeze (entry (codes "a") (codes "a.py") (codes "a.py") 1 ∷ []))
unfolding order call argument arguments arguments_from next_argument separator literal inside plain signs close strings strings_from text item items items_from next_item tuple sees expect after name sees_named module_sources freeze_sources package_sources include module_call freeze_call package_call
named_arguments = refl

-- `freeze(".", "a" ".py")`
joined_strings : order (named (codes "freeze") ∷ sign op.OpenParen ∷ string (codes ".") ∷ sign op.Comma ∷ string (codes "a") ∷ string (codes ".py") ∷ sign op.CloseParen ∷ [])
    ≡ Some (Freeze (entry (codes "a") (codes "a.py") (codes "a.py") 0 ∷ []))
unfolding order call argument arguments arguments_from next_argument separator literal inside plain signs close strings strings_from text item items items_from next_item tuple sees expect after name sees_named module_sources freeze_sources package_sources include module_call freeze_call package_call
joined_strings = refl

-- `freeze(".", (("a.py"), ("b.py"),))`
bracketed_items : order (named (codes "freeze") ∷ sign op.OpenParen ∷ string (codes ".") ∷ sign op.Comma ∷ sign op.OpenParen ∷ sign op.OpenParen ∷ string (codes "a.py") ∷ sign op.CloseParen ∷ sign op.Comma ∷ sign op.OpenParen ∷ string (codes "b.py") ∷ sign op.CloseParen ∷ sign op.Comma ∷ sign op.CloseParen ∷ sign op.CloseParen ∷ [])
    ≡ Some (Freeze (entry (codes "a") (codes "a.py") (codes "a.py") 0 ∷ entry (codes "b") (codes "b.py") (codes "b.py") 0 ∷ []))
unfolding order call argument arguments arguments_from next_argument separator literal inside plain signs close strings strings_from text item items items_from next_item tuple sees expect after name sees_named module_sources freeze_sources package_sources include module_call freeze_call package_call
bracketed_items = refl

-- `freeze(".", ())`
no_scripts : order (named (codes "freeze") ∷ sign op.OpenParen ∷ string (codes ".") ∷ sign op.Comma ∷ sign op.OpenParen ∷ sign op.CloseParen ∷ sign op.CloseParen ∷ [])
    ≡ Some (Freeze ([]))
unfolding order call argument arguments arguments_from next_argument separator literal inside plain signs close strings strings_from text item items items_from next_item tuple sees expect after name sees_named module_sources freeze_sources package_sources include module_call freeze_call package_call
no_scripts = refl

-- `include("sub/n.py")`
an_include : order (named (codes "include") ∷ sign op.OpenParen ∷ string (codes "sub/n.py") ∷ sign op.CloseParen ∷ [])
    ≡ Some (Include (codes "sub/n.py"))
unfolding order call argument arguments arguments_from next_argument separator literal inside plain signs close strings strings_from text item items items_from next_item tuple sees expect after name sees_named module_sources freeze_sources package_sources include module_call freeze_call package_call
an_include = refl

-- `require(version="1", name="x")`
a_requirement : order (named (codes "require") ∷ sign op.OpenParen ∷ named (codes "version") ∷ sign op.Assign ∷ string (codes "1") ∷ sign op.Comma ∷ named (codes "name") ∷ sign op.Assign ∷ string (codes "x") ∷ sign op.CloseParen ∷ [])
    ≡ Some (Require (codes "1"))
unfolding order call argument arguments arguments_from next_argument separator literal inside plain signs close strings strings_from text item items items_from next_item tuple sees expect after name sees_named module_sources freeze_sources package_sources include module_call freeze_call package_call
a_requirement = refl

-- `metadata((1), a=True)`
any_metadata : order (named (codes "metadata") ∷ sign op.OpenParen ∷ sign op.OpenParen ∷ number 1 ∷ sign op.CloseParen ∷ sign op.Comma ∷ named (codes "a") ∷ sign op.Assign ∷ word_of word.True ∷ sign op.CloseParen ∷ [])
    ≡ Some Nothing
unfolding order call argument arguments arguments_from next_argument separator literal inside plain signs close strings strings_from text item items items_from next_item tuple sees expect after name sees_named module_sources freeze_sources package_sources include module_call freeze_call package_call
any_metadata = refl

-- `module("x")`
no_script : order (named (codes "module") ∷ sign op.OpenParen ∷ string (codes "x") ∷ sign op.CloseParen ∷ [])
    ≡ None
unfolding order call argument arguments arguments_from next_argument separator literal inside plain signs close strings strings_from text item items items_from next_item tuple sees expect after name sees_named module_sources freeze_sources package_sources include module_call freeze_call package_call
no_script = refl

-- `module(("a.py",))`
tuple_for_string : order (named (codes "module") ∷ sign op.OpenParen ∷ sign op.OpenParen ∷ string (codes "a.py") ∷ sign op.Comma ∷ sign op.CloseParen ∷ sign op.CloseParen ∷ [])
    ≡ None
unfolding order call argument arguments arguments_from next_argument separator literal inside plain signs close strings strings_from text item items items_from next_item tuple sees expect after name sees_named module_sources freeze_sources package_sources include module_call freeze_call package_call
tuple_for_string = refl

-- `package("p", "q.py")`
string_for_tuple : order (named (codes "package") ∷ sign op.OpenParen ∷ string (codes "p") ∷ sign op.Comma ∷ string (codes "q.py") ∷ sign op.CloseParen ∷ [])
    ≡ None
unfolding order call argument arguments arguments_from next_argument separator literal inside plain signs close strings strings_from text item items items_from next_item tuple sees expect after name sees_named module_sources freeze_sources package_sources include module_call freeze_call package_call
string_for_tuple = refl

-- `module("a.py", module_path="b.py")`
given_twice : order (named (codes "module") ∷ sign op.OpenParen ∷ string (codes "a.py") ∷ sign op.Comma ∷ named (codes "module_path") ∷ sign op.Assign ∷ string (codes "b.py") ∷ sign op.CloseParen ∷ [])
    ≡ None
unfolding order call argument arguments arguments_from next_argument separator literal inside plain signs close strings strings_from text item items items_from next_item tuple sees expect after name sees_named module_sources freeze_sources package_sources include module_call freeze_call package_call
given_twice = refl

-- `metadata(a=1, 2)`
nameless_behind : order (named (codes "metadata") ∷ sign op.OpenParen ∷ named (codes "a") ∷ sign op.Assign ∷ number 1 ∷ sign op.Comma ∷ number 2 ∷ sign op.CloseParen ∷ [])
    ≡ None
unfolding order call argument arguments arguments_from next_argument separator literal inside plain signs close strings strings_from text item items items_from next_item tuple sees expect after name sees_named module_sources freeze_sources package_sources include module_call freeze_call package_call
nameless_behind = refl

-- `metadata(a=1, a=2)`
same_name_twice : order (named (codes "metadata") ∷ sign op.OpenParen ∷ named (codes "a") ∷ sign op.Assign ∷ number 1 ∷ sign op.Comma ∷ named (codes "a") ∷ sign op.Assign ∷ number 2 ∷ sign op.CloseParen ∷ [])
    ≡ None
unfolding order call argument arguments arguments_from next_argument separator literal inside plain signs close strings strings_from text item items items_from next_item tuple sees expect after name sees_named module_sources freeze_sources package_sources include module_call freeze_call package_call
same_name_twice = refl

-- `module("a.py", opt=4)`
level_four : order (named (codes "module") ∷ sign op.OpenParen ∷ string (codes "a.py") ∷ sign op.Comma ∷ named (codes "opt") ∷ sign op.Assign ∷ number 4 ∷ sign op.CloseParen ∷ [])
    ≡ None
unfolding order call argument arguments arguments_from next_argument separator literal inside plain signs close strings strings_from text item items items_from next_item tuple sees expect after name sees_named module_sources freeze_sources package_sources include module_call freeze_call package_call
level_four = refl

-- `module("a.py", opt=True)`
level_true : order (named (codes "module") ∷ sign op.OpenParen ∷ string (codes "a.py") ∷ sign op.Comma ∷ named (codes "opt") ∷ sign op.Assign ∷ word_of word.True ∷ sign op.CloseParen ∷ [])
    ≡ None
unfolding order call argument arguments arguments_from next_argument separator literal inside plain signs close strings strings_from text item items items_from next_item tuple sees expect after name sees_named module_sources freeze_sources package_sources include module_call freeze_call package_call
level_true = refl

-- `freeze("$(X)", "a.py")`
a_variable : order (named (codes "freeze") ∷ sign op.OpenParen ∷ string (codes "$(X)") ∷ sign op.Comma ∷ string (codes "a.py") ∷ sign op.CloseParen ∷ [])
    ≡ None
unfolding order call argument arguments arguments_from next_argument separator literal inside plain signs close strings strings_from text item items items_from next_item tuple sees expect after name sees_named module_sources freeze_sources package_sources include module_call freeze_call package_call
a_variable = refl

-- `metadata((1,))`
tuple_of_numbers : order (named (codes "metadata") ∷ sign op.OpenParen ∷ sign op.OpenParen ∷ number 1 ∷ sign op.Comma ∷ sign op.CloseParen ∷ sign op.CloseParen ∷ [])
    ≡ None
unfolding order call argument arguments arguments_from next_argument separator literal inside plain signs close strings strings_from text item items items_from next_item tuple sees expect after name sees_named module_sources freeze_sources package_sources include module_call freeze_call package_call
tuple_of_numbers = refl

-- `module("a.py"); module("b.py")`
two_calls : order (named (codes "module") ∷ sign op.OpenParen ∷ string (codes "a.py") ∷ sign op.CloseParen ∷ sign op.Semicolon ∷ named (codes "module") ∷ sign op.OpenParen ∷ string (codes "b.py") ∷ sign op.CloseParen ∷ [])
    ≡ None
unfolding order call argument arguments arguments_from next_argument separator literal inside plain signs close strings strings_from text item items items_from next_item tuple sees expect after name sees_named module_sources freeze_sources package_sources include module_call freeze_call package_call
two_calls = refl

-- `print("a.py")`
unknown_call : order (named (codes "print") ∷ sign op.OpenParen ∷ string (codes "a.py") ∷ sign op.CloseParen ∷ [])
    ≡ None
unfolding order call argument arguments arguments_from next_argument separator literal inside plain signs close strings strings_from text item items items_from next_item tuple sees expect after name sees_named module_sources freeze_sources package_sources include module_call freeze_call package_call
unknown_call = refl

-- `require(1)`
required_without_string : order (named (codes "require") ∷ sign op.OpenParen ∷ number 1 ∷ sign op.CloseParen ∷ [])
    ≡ None
unfolding order call argument arguments arguments_from next_argument separator literal inside plain signs close strings strings_from text item items items_from next_item tuple sees expect after name sees_named module_sources freeze_sources package_sources include module_call freeze_call package_call
required_without_string = refl
