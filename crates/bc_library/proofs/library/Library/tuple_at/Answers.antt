use Rattle.std.proofs.Common.{List, ap, ◌∙◌}
use Rattle.std.specs.Prelude.{option_and_then}
use Rattle.arena_heap.specs.declared.value.Value.{Value}
use Rattle.bc_library.specs.declared.library.Loaded.{Loaded}
use Rattle.bc_library.specs.Constants.{items_at}
use Rattle.bc_library.specs.Parts.{items_of}
use Rattle.bc_library.specs.Told.{IsTold}
use Rattle.bc_library.proofs.Told.{kept_at, tuple_is, fine_shelf, told, behind}
use Rattle.bc_library.proofs.library.Library.tuple_at.Goals as goal

pub returns-in-Some-clause-items : goal.returns-in-Some-clause-items
returns-in-Some-clause-items c =
    let kept = c.in-Some.ensures ∙ ap (λ (ls : List Loaded). kept_at ls c.args.c) c.deref.ensures.value in
    c.items_of.ensures ∙ (ap (option_and_then items_of) kept
    ∙ tuple_is c.self.inside.modules.items c.self.inside.refused c.self.inside.pool c.args.self.now c.args.c c.self.view_is c.self.invariant)

pub returns-in-Some-clause-told : goal.returns-in-Some-clause-told
returns-in-Some-clause-told c =
    let fine = fine_shelf c.self.inside.modules.items c.self.inside.refused c.self.inside.pool c.args.self.now c.self.view_is c.self.invariant in
    behind (λ (vs : List Value). IsTold c.args.self.now c.args.c vs) c.items_of.result (items_at c.args.self.now c.args.c) (returns-in-Some-clause-items c) (λ vs e. told c.args.self.now fine c.args.c vs e)

pub returns-in-None-clause-items : goal.returns-in-None-clause-items
returns-in-None-clause-items c =
    let kept = c.in-None.ensures ∙ ap (λ (ls : List Loaded). kept_at ls c.args.c) c.deref.ensures.value in
    ap (option_and_then items_of) kept
    ∙ tuple_is c.self.inside.modules.items c.self.inside.refused c.self.inside.pool c.args.self.now c.args.c c.self.view_is c.self.invariant
