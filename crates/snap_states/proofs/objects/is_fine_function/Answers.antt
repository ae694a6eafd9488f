use Rattle.std.proofs.Common.{◌≡◌, Some, None, sym, subst, ◌∙◌}
use Rattle.bc_library.specs.Shelf.{Shelf}
use Rattle.snap_states.specs.Shapes.{HasDefaults}
use Rattle.snap_states.proofs.Filling.{function_tested}
use Rattle.snap_states.proofs.Judging.{some_one}
use Rattle.snap_states.proofs.Looping.{tests_no}
use Rattle.snap_states.proofs.objects.is_fine_function.Goals as goal

pub returns-in-Some : goal.returns-in-Some
returns-in-Some c =
    let rows = c.requires.rows in
    let m = c.args.module_number in
    let code = c.args.code in
    function_tested c.args.known.now.library.now c.args.known.now.snapshot.now m code c.args.names c.args.defaults.now c.in-Some.count
    (subst (λ (x : Shelf). HasDefaults x m code c.in-Some.count) rows ((c.defaults_of.ensures c.in-Some.count).1 c.in-Some.is))
    (λ n h. some_one (sym ((c.defaults_of.ensures n).0 (subst (λ (x : Shelf). HasDefaults x m code n) (sym rows) h)) ∙ c.in-Some.is))
    c.has_parts.result c.has_parts.ensures

pub returns-in-None : goal.returns-in-None
returns-in-None c =
    tests_no (λ f.
    let there = (c.defaults_of.ensures f.count).0 (subst (λ (x : Shelf). HasDefaults x c.args.module_number c.args.code f.count) (sym c.requires.rows) f.has) in
    let e : Some f.count ≡ None = sym there ∙ c.in-None.is in
    cc e)
