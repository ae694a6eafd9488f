-- The names and the constants of a library.
use Rattle.std.specs.Prelude.{◌≡◌, ◌⊎◌, ℕ, List, [], Bool, true, false, Some, codes}
use Rattle.bc_progress.specs.mpy_base.declared.builtin.Builtin.{Builtin}
use Rattle.bc_progress.specs.mpy_base.declared.builtin.Builtin.TheVariants as builtins
use Rattle.bc_progress.specs.mpy_base.Val.{Val, Vals, Only, Then, Nil, Truth, Int, Str, Fixed, Empty, Built, At}
use Rattle.bc_progress.specs.py_effects.Modules.{last_part}
use Rattle.bc_progress.specs.bc_ops.declared.instr.Op.{Op}
use Rattle.bc_progress.specs.bc_machine.Library.{Name, Names, Loads, Line, Code, Module, Holds, Library, entry_in, code_at}
use Rattle.bc_progress.specs.bc_machine.Step.{line_at}

-- a built-in that lies in slots and in bound methods alone
abbrev pub is_method : Builtin → Bool
is_method builtins.ListAppend = true
is_method builtins.ListPop = true
is_method builtins.ListInsert = true
is_method builtins.ListExtend = true
is_method builtins.DictGet = true
is_method builtins.DictKeys = true
is_method builtins.DictValues = true
is_method builtins.DictItems = true
is_method builtins.DictPop = true
is_method builtins.StrJoin = true
is_method builtins.StrFind = true
is_method builtins.StrStartsWith = true
is_method builtins.StrSplit = true
is_method _ = false

-- an item of a constant tuple
abbrev pub IsItem : Val → Vals → Type 0
IsItem v (Only x) = v ≡ x
IsItem v (Then x xs) = (v ≡ x) ⊎ IsItem v xs

module _ (library : Library) where
  -- a name that the library has, or that every library has
  pub data IsName : Name → Type 0 where
    nameless : IsName []
    own_name : IsName (codes "__name__")
    main_name : IsName (codes "__main__")
    -- what an instruction names
    named : (name : Name) (number position : ℕ) (l : Line) (op : Op) (text : Name)
        → line_at (code_at library name number) position ≡ Some l → l.item ≡ Names op text → IsName text
    -- the names of sources, of codes and of modules, and the last parts of these
    source : (name : Name) (m : Module) → entry_in library name ≡ Some (Holds m) → IsName m.file
    of_code : (name : Name) (number : ℕ) (code : Code) → code_at library name number ≡ Some code → IsName code.name
    of_module : (name : Name) (m : Module) → entry_in library name ≡ Some (Holds m) → IsName name
    part : (name : Name) (m : Module) → entry_in library name ≡ Some (Holds m) → IsName (last_part name)

  -- a constant that an instruction loads, or an item of one
  pub data IsLoaded : Val → Type 0 where
    loaded : (name : Name) (number position : ℕ) (l : Line) (v : Val)
        → line_at (code_at library name number) position ≡ Some l → l.item ≡ Loads v → IsLoaded v
    item : (v : Val) (items : Vals) → IsLoaded (Fixed items) → IsItem v items → IsLoaded v

  -- a constant str
  abbrev pub IsText : List ℕ → Type 0
  IsText bytes = IsName bytes ⊎ IsLoaded (Str bytes)

  abbrev mutual
    -- a constant of the library, or one that every library has: no object and no method
    pub IsConstant : Val → Type 0
    IsConstant Nil = Unit {0}
    IsConstant (Truth b) = Unit {0}
    IsConstant (Int z) = Unit {0}
    IsConstant (Str bytes) = IsText bytes
    IsConstant (Fixed items) = IsLoaded (Fixed items) × AreConstant items
    IsConstant Empty = Unit {0}
    IsConstant (Built b) = is_method b ≡ false
    IsConstant (At n) = ⊥

    -- each item is one
    pub AreConstant : Vals → Type 0
    AreConstant (Only v) = IsConstant v
    AreConstant (Then v vs) = IsConstant v × AreConstant vs

  -- what instructions load are constants
  pub record HasConstants : Type 0 where
    pub constants : (name : Name) (number position : ℕ) (l : Line) (v : Val)
        → line_at (code_at library name number) position ≡ Some l → l.item ≡ Loads v → IsConstant v
