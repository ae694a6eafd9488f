-- The methods of lists, dicts and strs are all methods.
use Rattle.std.proofs.Common.{◌≡◌, refl}
use Rattle.mpy_base.specs.declared.builtin.Builtin.{Builtin}
use Rattle.mpy_base.specs.declared.builtin.Builtin.TheVariants as builtins
use Rattle.prim_methods.specs.arena_heap.declared.value.Value.{Value}
use Rattle.prim_methods.specs.arena_heap.Values.{IsMethodOf}

pub no_other : (method : Builtin) (object : Value) → IsMethodOf method object
    → (method ≡ builtins.ListAppend → ⊥)
    → (method ≡ builtins.ListPop → ⊥)
    → (method ≡ builtins.ListInsert → ⊥)
    → (method ≡ builtins.ListExtend → ⊥)
    → (method ≡ builtins.DictGet → ⊥)
    → (method ≡ builtins.DictKeys → ⊥)
    → (method ≡ builtins.DictValues → ⊥)
    → (method ≡ builtins.DictItems → ⊥)
    → (method ≡ builtins.DictPop → ⊥)
    → (method ≡ builtins.StrJoin → ⊥)
    → (method ≡ builtins.StrFind → ⊥)
    → (method ≡ builtins.StrStartsWith → ⊥)
    → (method ≡ builtins.StrSplit → ⊥) → ⊥
no_other builtins.ListAppend object is a _ _ _ _ _ _ _ _ _ _ _ _ = a refl
no_other builtins.ListPop object is _ a _ _ _ _ _ _ _ _ _ _ _ = a refl
no_other builtins.ListInsert object is _ _ a _ _ _ _ _ _ _ _ _ _ = a refl
no_other builtins.ListExtend object is _ _ _ a _ _ _ _ _ _ _ _ _ = a refl
no_other builtins.DictGet object is _ _ _ _ a _ _ _ _ _ _ _ _ = a refl
no_other builtins.DictKeys object is _ _ _ _ _ a _ _ _ _ _ _ _ = a refl
no_other builtins.DictValues object is _ _ _ _ _ _ a _ _ _ _ _ _ = a refl
no_other builtins.DictItems object is _ _ _ _ _ _ _ a _ _ _ _ _ = a refl
no_other builtins.DictPop object is _ _ _ _ _ _ _ _ a _ _ _ _ = a refl
no_other builtins.StrJoin object is _ _ _ _ _ _ _ _ _ a _ _ _ = a refl
no_other builtins.StrFind object is _ _ _ _ _ _ _ _ _ _ a _ _ = a refl
no_other builtins.StrStartsWith object is _ _ _ _ _ _ _ _ _ _ _ a _ = a refl
no_other builtins.StrSplit object is _ _ _ _ _ _ _ _ _ _ _ _ a = a refl
no_other _ object is _ _ _ _ _ _ _ _ _ _ _ _ _ = is
