use Rattle.std.proofs.Common.{ℕ, List, Option, None, sym, ap, ◌∙◌}
use Rattle.mpy_base.specs.declared.builtin.Builtin.{Builtin}
use Rattle.prim_raising.specs.py_effects.py_primitives.Builtins.{global_named}
use Rattle.prim_raising.specs.qstr_pool.declared.table.TheConstants.{FIRST_OWN}
use Rattle.prim_raising.specs.qstr_pool.Static.{static_text_of}
use Rattle.prim_methods.specs.arena_heap.declared.value.StrNo.{StrNo}
use Rattle.prim_methods.specs.arena_objects.Iterables.{or_nothing}
use Rattle.prim_names.proofs.StaticNames.{within_table, table_at}
use Rattle.prim_names.proofs.builtins.global_of.Goals as goal

-- what stands in the table at the number of the name
pub returns-in-Some : goal.returns-in-Some
returns-in-Some g c =
    let meant : ℕ → Option Builtin = λ n. global_named (or_nothing (static_text_of n)) in
    let n = c.in-Pool.n in
    let found = c.in-Some.ensures.lookup.3 in
    let low = within_table meant FIRST_OWN c.static_globals.result.now c.static_globals.ensures n found.0 in
    table_at meant FIRST_OWN c.static_globals.result.now c.static_globals.ensures n found.0 c.in-Some.known.now (found.1 None)
    ∙ (ap (λ (text : Option (List ℕ)). global_named (or_nothing text)) (sym (c.static_law.ensures n low))
    ∙ ap (λ (s : StrNo). global_named (or_nothing (g.C.Constants.text_of c.args.consts.now s))) (sym c.in-Pool.is))
