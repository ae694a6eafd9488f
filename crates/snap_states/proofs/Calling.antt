-- Built-ins and kinds of exceptions by their names: no two have one.
use Rattle.std.proofs.Common.{◌≡◌, ℕ, ◌++◌, Bool, true, false, List, [], ◌∷◌, None, Some, refl, sym, ap, ◌∙◌, if◌then◌else◌}
use Rattle.std.proofs.lemmas.Slice.Eq.{bytes_eq-Decides}
use Rattle.std.specs.Prelude.{bytes_eq}
use Rattle.mpy_base.specs.declared.builtin.Builtin.{Builtin}
use Rattle.mpy_base.specs.declared.builtin.Builtin.TheVariants as builtins
use Rattle.mpy_base.specs.declared.kind.Kind.{Kind}
use Rattle.mpy_base.specs.declared.kind.Kind.TheVariants as kinds
use Rattle.mpy_base.specs.Kind.{kind_name}
use Rattle.prim_walks.specs.py_values.Names.{builtin_name}
use Rattle.prim_walks.specs.py_primitives.Builtins.{all_kinds, globals}
use Rattle.snap_states.specs.Decoded.{builtin_called, called, kind_called, others}

module _ {A : Type 0} (name_in : A → List ℕ) (text : List ℕ) where
  called_by : (x : A) (xs : List A) (b : Bool) → (b ≡ true → name_in x ≡ text) → ((y : A) → called name_in text xs ≡ Some y → name_in y ≡ text)
      → (y : A) → (if b then Some x else called name_in text xs) ≡ Some y → name_in y ≡ text
  called_by x xs true so rest y e = let same : x ≡ y = cc e in ap name_in (sym same) ∙ so refl
  called_by x xs false so rest y e = rest y e

  -- what is found has the name
  pub called_so : (xs : List A) (y : A) → called name_in text xs ≡ Some y → name_in y ≡ text
  called_so [] y e = absurd cc
  called_so (x ∷ xs) y e = called_by x xs (bytes_eq (name_in x) text) (λ t. (bytes_eq-Decides (name_in x) text).0 t) (called_so xs) y e

  -- what is found in front is found in the whole; where nothing is found there, what follows says it
  first_by : (x : A) (xs ys : List A) (b : Bool) (y : A) → (called name_in text xs ≡ Some y → called name_in text (xs ++ ys) ≡ Some y)
      → (if b then Some x else called name_in text xs) ≡ Some y → (if b then Some x else called name_in text (xs ++ ys)) ≡ Some y
  first_by x xs ys true y rest e = e
  first_by x xs ys false y rest e = rest e

  pub called_first : (xs ys : List A) (y : A) → called name_in text xs ≡ Some y → called name_in text (xs ++ ys) ≡ Some y
  called_first [] ys y e = absurd cc
  called_first (x ∷ xs) ys y e = first_by x xs ys (bytes_eq (name_in x) text) y (called_first xs ys y) e

  last_by : (x : A) (xs ys : List A) (b : Bool) → (called name_in text xs ≡ None → called name_in text (xs ++ ys) ≡ called name_in text ys)
      → (if b then Some x else called name_in text xs) ≡ None → (if b then Some x else called name_in text (xs ++ ys)) ≡ called name_in text ys
  last_by x xs ys true rest e = absurd cc
  last_by x xs ys false rest e = rest e

  pub called_last : (xs ys : List A) → called name_in text xs ≡ None → called name_in text (xs ++ ys) ≡ called name_in text ys
  called_last [] ys e = refl
  called_last (x ∷ xs) ys e = last_by x xs ys (bytes_eq (name_in x) text) (called_last xs ys) e

-- each is found by its name
pub kind_found : (kind : Kind) → kind_called (kind_name kind) ≡ Some kind
kind_found kinds.BaseException = refl
kind_found kinds.SystemExit = refl
kind_found kinds.KeyboardInterrupt = refl
kind_found kinds.Exception = refl
kind_found kinds.ArithmeticError = refl
kind_found kinds.OverflowError = refl
kind_found kinds.ZeroDivisionError = refl
kind_found kinds.AssertionError = refl
kind_found kinds.AttributeError = refl
kind_found kinds.EofError = refl
kind_found kinds.ImportError = refl
kind_found kinds.LookupError = refl
kind_found kinds.IndexError = refl
kind_found kinds.KeyError = refl
kind_found kinds.MemoryError = refl
kind_found kinds.NameError = refl
kind_found kinds.OsError = refl
kind_found kinds.RuntimeError = refl
kind_found kinds.NotImplementedError = refl
kind_found kinds.StopIteration = refl
kind_found kinds.SyntaxError = refl
kind_found kinds.TypeError = refl
kind_found kinds.ValueError = refl

kind_is : (kind : Kind) → builtin_called (kind_name kind) ≡ Some (builtins.Kind kind)
kind_is kinds.BaseException = refl
kind_is kinds.SystemExit = refl
kind_is kinds.KeyboardInterrupt = refl
kind_is kinds.Exception = refl
kind_is kinds.ArithmeticError = refl
kind_is kinds.OverflowError = refl
kind_is kinds.ZeroDivisionError = refl
kind_is kinds.AssertionError = refl
kind_is kinds.AttributeError = refl
kind_is kinds.EofError = refl
kind_is kinds.ImportError = refl
kind_is kinds.LookupError = refl
kind_is kinds.IndexError = refl
kind_is kinds.KeyError = refl
kind_is kinds.MemoryError = refl
kind_is kinds.NameError = refl
kind_is kinds.OsError = refl
kind_is kinds.RuntimeError = refl
kind_is kinds.NotImplementedError = refl
kind_is kinds.StopIteration = refl
kind_is kinds.SyntaxError = refl
kind_is kinds.TypeError = refl
kind_is kinds.ValueError = refl

pub builtin_found : (b : Builtin) → builtin_called (builtin_name b) ≡ Some b
builtin_found builtins.Bool = refl
builtin_found builtins.Int = refl
builtin_found builtins.Str = refl
builtin_found builtins.List = refl
builtin_found builtins.Tuple = refl
builtin_found builtins.Dict = refl
builtin_found builtins.Print = refl
builtin_found builtins.Len = refl
builtin_found builtins.Abs = refl
builtin_found builtins.Range = refl
builtin_found builtins.Min = refl
builtin_found builtins.Max = refl
builtin_found builtins.Repr = refl
builtin_found builtins.Ord = refl
builtin_found builtins.Chr = refl
builtin_found builtins.IsInstance = refl
builtin_found (builtins.Kind kind) = kind_is kind
builtin_found builtins.Port = refl
builtin_found builtins.PortPut = refl
builtin_found builtins.PortGet = refl
builtin_found builtins.PortCount = refl
builtin_found builtins.ListAppend = refl
builtin_found builtins.ListPop = refl
builtin_found builtins.ListInsert = refl
builtin_found builtins.ListExtend = refl
builtin_found builtins.DictGet = refl
builtin_found builtins.DictKeys = refl
builtin_found builtins.DictValues = refl
builtin_found builtins.DictItems = refl
builtin_found builtins.DictPop = refl
builtin_found builtins.StrJoin = refl
builtin_found builtins.StrFind = refl
builtin_found builtins.StrStartsWith = refl
builtin_found builtins.StrSplit = refl

pub builtin_named : (text : List ℕ) (b : Builtin) → builtin_called text ≡ Some b → builtin_name b ≡ text
builtin_named text b e = called_so builtin_name text (globals ++ others) b e

pub builtin_only : (text : List ℕ) (b : Builtin) → builtin_name b ≡ text → builtin_called text ≡ Some b
builtin_only text b e = ap builtin_called (sym e) ∙ builtin_found b

pub kind_named : (text : List ℕ) (kind : Kind) → kind_called text ≡ Some kind → kind_name kind ≡ text
kind_named text kind e = called_so kind_name text all_kinds kind e

pub kind_only : (text : List ℕ) (kind : Kind) → kind_name kind ≡ text → kind_called text ≡ Some kind
kind_only text kind e = ap kind_called (sym e) ∙ kind_found kind
