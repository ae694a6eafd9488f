-- The names that every file may give by number, written out.
use Rattle.std.specs.Prelude.{ℕ, List, [], ◌∷◌, ◌++◌, codes}

-- 1 to 8: the empty text, line feed, signs and words of the tool chain
abbrev pub first_names : List (List ℕ)
first_names =
    codes "" ∷ codes "__dir__" ∷ codes "\n" ∷ codes " " ∷ codes "*" ∷ codes "/" ∷ codes "<module>" ∷ codes "_" ∷ []

-- 9 to 29: the names with two underscores at each end
abbrev pub special_names : List (List ℕ)
special_names =
    codes "__call__" ∷ codes "__class__" ∷ codes "__delitem__" ∷ codes "__enter__" ∷ codes "__exit__" ∷
    codes "__getattr__" ∷ codes "__getitem__" ∷ codes "__hash__" ∷ codes "__init__" ∷ codes "__int__" ∷
    codes "__iter__" ∷ codes "__len__" ∷ codes "__main__" ∷ codes "__module__" ∷ codes "__name__" ∷ codes "__new__" ∷
    codes "__next__" ∷ codes "__qualname__" ∷ codes "__repr__" ∷ codes "__setitem__" ∷ codes "__str__" ∷ []

-- 30 to 56: the kinds of exceptions and names of types
abbrev pub kind_names : List (List ℕ)
kind_names =
    codes "ArithmeticError" ∷ codes "AssertionError" ∷ codes "AttributeError" ∷ codes "BaseException" ∷
    codes "EOFError" ∷ codes "Ellipsis" ∷ codes "Exception" ∷ codes "GeneratorExit" ∷ codes "ImportError" ∷
    codes "IndentationError" ∷ codes "IndexError" ∷ codes "KeyError" ∷ codes "KeyboardInterrupt" ∷
    codes "LookupError" ∷ codes "MemoryError" ∷ codes "NameError" ∷ codes "NoneType" ∷ codes "NotImplementedError" ∷
    codes "OSError" ∷ codes "OverflowError" ∷ codes "RuntimeError" ∷ codes "StopIteration" ∷ codes "SyntaxError" ∷
    codes "SystemExit" ∷ codes "TypeError" ∷ codes "ValueError" ∷ codes "ZeroDivisionError" ∷ []

-- 57 to 122: names of built-ins, methods and modules, from `abs` to `pow`
abbrev pub names_to_pow : List (List ℕ)
names_to_pow =
    codes "abs" ∷ codes "all" ∷ codes "any" ∷ codes "append" ∷ codes "args" ∷ codes "bool" ∷ codes "builtins" ∷
    codes "bytearray" ∷ codes "bytecode" ∷ codes "bytes" ∷ codes "callable" ∷ codes "chr" ∷ codes "classmethod" ∷
    codes "clear" ∷ codes "close" ∷ codes "const" ∷ codes "copy" ∷ codes "count" ∷ codes "dict" ∷ codes "dir" ∷
    codes "divmod" ∷ codes "end" ∷ codes "endswith" ∷ codes "eval" ∷ codes "exec" ∷ codes "extend" ∷ codes "find" ∷
    codes "format" ∷ codes "from_bytes" ∷ codes "get" ∷ codes "getattr" ∷ codes "globals" ∷ codes "hasattr" ∷
    codes "hash" ∷ codes "id" ∷ codes "index" ∷ codes "insert" ∷ codes "int" ∷ codes "isalpha" ∷ codes "isdigit" ∷
    codes "isinstance" ∷ codes "islower" ∷ codes "isspace" ∷ codes "issubclass" ∷ codes "isupper" ∷ codes "items" ∷
    codes "iter" ∷ codes "join" ∷ codes "key" ∷ codes "keys" ∷ codes "len" ∷ codes "list" ∷ codes "little" ∷
    codes "locals" ∷ codes "lower" ∷ codes "lstrip" ∷ codes "main" ∷ codes "map" ∷ codes "micropython" ∷
    codes "next" ∷ codes "object" ∷ codes "open" ∷ codes "ord" ∷ codes "pop" ∷ codes "popitem" ∷ codes "pow" ∷ []

-- 123 to 165: names of built-ins, methods and modules, from `print` to `zip`
abbrev pub names_from_print : List (List ℕ)
names_from_print =
    codes "print" ∷ codes "range" ∷ codes "read" ∷ codes "readinto" ∷ codes "readline" ∷ codes "remove" ∷
    codes "replace" ∷ codes "repr" ∷ codes "reverse" ∷ codes "rfind" ∷ codes "rindex" ∷ codes "round" ∷
    codes "rsplit" ∷ codes "rstrip" ∷ codes "self" ∷ codes "send" ∷ codes "sep" ∷ codes "set" ∷ codes "setattr" ∷
    codes "setdefault" ∷ codes "sort" ∷ codes "sorted" ∷ codes "split" ∷ codes "start" ∷ codes "startswith" ∷
    codes "staticmethod" ∷ codes "step" ∷ codes "stop" ∷ codes "str" ∷ codes "strip" ∷ codes "sum" ∷ codes "super" ∷
    codes "throw" ∷ codes "to_bytes" ∷ codes "tuple" ∷ codes "type" ∷ codes "update" ∷ codes "upper" ∷ codes "utf-8" ∷
    codes "value" ∷ codes "values" ∷ codes "write" ∷ codes "zip" ∷ []

-- all 165, in the order of their numbers, which count from 1
abbrev pub known_names : List (List ℕ)
known_names = first_names ++ special_names ++ kind_names ++ names_to_pow ++ names_from_print
