use Rattle.std.proofs.Common.{List, ap, ◌∙◌}
use Rattle.std.specs.Prelude.{option_and_then}
use Rattle.arena_heap.specs.declared.value.StrNo.TheVariants as strs
use Rattle.bc_library.specs.declared.library.Loaded.{Loaded}
use Rattle.bc_library.specs.Constants.{text_at}
use Rattle.bc_library.specs.Parts.{bytes_of}
use Rattle.bc_library.specs.Texts.{IsPlain}
use Rattle.bc_library.proofs.Told.{kept_at, str_is, fine_shelf, plain_str, behind}
use Rattle.bc_library.proofs.library.Library.str_at.Goals as goal

pub returns-in-Some-clause-text : goal.returns-in-Some-clause-text
returns-in-Some-clause-text c =
    let kept = c.in-Some.ensures ∙ ap (λ (ls : List Loaded). kept_at ls c.args.c) c.deref.ensures.value in
    c.bytes_of.ensures ∙ (ap (option_and_then bytes_of) kept
    ∙ str_is c.self.inside.modules.items c.self.inside.refused c.self.inside.pool c.args.self.now c.args.c c.self.view_is c.self.invariant)

pub returns-in-Some-clause-plain : goal.returns-in-Some-clause-plain
returns-in-Some-clause-plain c =
    let fine = fine_shelf c.self.inside.modules.items c.self.inside.refused c.self.inside.pool c.args.self.now c.self.view_is c.self.invariant in
    behind IsPlain c.bytes_of.result (text_at c.args.self.now (strs.Object c.args.c)) (returns-in-Some-clause-text c) (λ text e. plain_str c.args.self.now fine c.args.c text e)

pub returns-in-None-clause-text : goal.returns-in-None-clause-text
returns-in-None-clause-text c =
    let kept = c.in-None.ensures ∙ ap (λ (ls : List Loaded). kept_at ls c.args.c) c.deref.ensures.value in
    ap (option_and_then bytes_of) kept
    ∙ str_is c.self.inside.modules.items c.self.inside.refused c.self.inside.pool c.args.self.now c.args.c c.self.view_is c.self.invariant
