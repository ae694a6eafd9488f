-- The families of built-ins, by what their calls concern.
use Rattle.mpy_base.specs.declared.builtin.Builtin.{Builtin}
use Rattle.mpy_base.specs.declared.builtin.Builtin.TheVariants as builtins

-- the built-ins of ports
abbrev pub IsOfPorts : Builtin → Type 0
IsOfPorts builtins.PortPut = Unit {0}
IsOfPorts builtins.PortGet = Unit {0}
IsOfPorts builtins.PortCount = Unit {0}
IsOfPorts _ = ⊥

-- the built-ins that concern the heap alone: no print, no port, and not the module of the ports
abbrev pub IsOnHeap : Builtin → Type 0
IsOnHeap builtins.Print = ⊥
IsOnHeap builtins.Port = ⊥
IsOnHeap builtins.PortPut = ⊥
IsOnHeap builtins.PortGet = ⊥
IsOnHeap builtins.PortCount = ⊥
IsOnHeap _ = Unit {0}

-- methods without their object
abbrev pub IsUnbound : Builtin → Type 0
IsUnbound builtins.ListAppend = Unit {0}
IsUnbound builtins.ListPop = Unit {0}
IsUnbound builtins.ListInsert = Unit {0}
IsUnbound builtins.ListExtend = Unit {0}
IsUnbound builtins.DictGet = Unit {0}
IsUnbound builtins.DictKeys = Unit {0}
IsUnbound builtins.DictValues = Unit {0}
IsUnbound builtins.DictItems = Unit {0}
IsUnbound builtins.DictPop = Unit {0}
IsUnbound builtins.StrJoin = Unit {0}
IsUnbound builtins.StrFind = Unit {0}
IsUnbound builtins.StrStartsWith = Unit {0}
IsUnbound builtins.StrSplit = Unit {0}
IsUnbound _ = ⊥
