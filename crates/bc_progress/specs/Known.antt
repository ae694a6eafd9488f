-- What a state keeps is true of the objects of its heap.
use Rattle.std.specs.Prelude.{◌≡◌, ℕ, List, Option, Some, None}
use Rattle.bc_machine.specs.mpy_base.declared.builtin.Builtin.{Builtin}
use Rattle.bc_machine.specs.mpy_base.World.{ObjectKind, AList, ATuple, AText, ADict, AFunction, AnException, AMethod, ARange}
use Rattle.bc_machine.specs.mpy_base.World.{AModule, Objects, object, kind_of, IsA}
use Rattle.bc_machine.specs.mpy_base.Val.{Val, Nil, Truth, Int, Str, Fixed, Empty, Built, At}
use Rattle.bc_machine.specs.py_primitives.Builtins.{named, list_methods, dict_methods, str_methods}
use Rattle.bc_machine.specs.Growth.{world_of}
use Rattle.bc_machine.specs.Library.{Library}
use Rattle.bc_machine.specs.State.{State}
use Rattle.bc_progress.specs.Slots.{Facts}
use Rattle.bc_progress.specs.Plans.{Plans}
use Rattle.bc_progress.specs.Fits.{FitsIn}

-- the method is one of these
abbrev pub IsAmong : List (List ℕ × Builtin) → Builtin → Type 0
IsAmong methods method = (name : List ℕ) × (named methods name ≡ Some method)

-- a method of the objects of this kind
abbrev pub KindHas : Option ObjectKind → Builtin → Type 0
KindHas (Some AList) method = IsAmong list_methods method
KindHas (Some ADict) method = IsAmong dict_methods method
KindHas (Some AText) method = IsAmong str_methods method
KindHas (Some ATuple) method = ⊥
KindHas (Some AFunction) method = ⊥
KindHas (Some AnException) method = ⊥
KindHas (Some AMethod) method = ⊥
KindHas (Some ARange) method = ⊥
KindHas (Some AModule) method = ⊥
KindHas None method = ⊥

-- a method of the value's type
abbrev pub HasMethod : {V N : Type 0} → Objects V N → Val → Builtin → Type 0
HasMethod objects (Str bytes) method = IsAmong str_methods method
HasMethod objects (At n) method = KindHas (kind_of (object objects n)) method
HasMethod objects Nil method = ⊥
HasMethod objects (Truth b) method = ⊥
HasMethod objects (Int z) method = ⊥
HasMethod objects (Fixed items) method = ⊥
HasMethod objects Empty method = ⊥
HasMethod objects (Built b) method = ⊥

-- an exception is one, and a method is one of its object's type
abbrev pub facts_of : {V N : Type 0} → Objects V N → Facts
facts_of objects = record { exception = IsA objects AnException; method = HasMethod objects }

-- the objects of a state's heap
abbrev pub objects_of : State → Objects Val (List ℕ)
objects_of s = (world_of s).heap.objects

-- a state that fits, with exceptions and methods as its heap has them
abbrev pub FitsKnown : Plans → Library → State → Type 0
FitsKnown plans library s = FitsIn (facts_of (objects_of s)) plans library s
