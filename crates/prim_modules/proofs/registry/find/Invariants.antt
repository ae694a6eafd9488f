use Rattle.std.proofs.Common.{◌≡◌, map, drop}
use Rattle.py_effects.specs.Modules.{registered_as}
use Rattle.prim_modules.specs.Registry.{plain_entry}
use Rattle.prim_modules.proofs.registry.find.Given as goal

-- the entries that are left give the module
abbrev pub invariant-loop-entry : goal.invariant-loop-entry
invariant-loop-entry g l =
    let entries = map (plain_entry (g.C.Constants.text_of l.consts) (g.C.Constants.items_of l.consts)) in
    registered_as (entries (drop l.entry-index l.entries)) l.name ≡ registered_as (entries l.entries) l.name
