use Rattle.std.proofs.Common.{ℕ, ◌≡◌, ◌<◌, List, length, map, Option, Some, Result, Ok, Err, refl, sym, ap, ◌∙◌, subst, arith}
use Rattle.std.proofs.lemmas.List.{length-map}
use Rattle.prim_builtins.specs.arena_heap.declared.value.Value.{Value}
use Rattle.prim_builtins.specs.mpy_base.Val.{Val}
use Rattle.prim_builtins.specs.py_values.Names.{type_name}
use Rattle.prim_builtins.specs.py_primitives.Faults.{Unsupported}
use Rattle.prim_builtins.specs.py_primitives.Outcome.{Outcome, gives, raises}
use Rattle.prim_builtins.specs.py_primitives.Order as meaning
use Rattle.prim_builtins.specs.py_primitives.Calls.{gives_best}
use Rattle.prim_builtins.specs.prim_walks.Plain.{plain, plain_heap}
use Rattle.prim_builtins.specs.prim_walks.Orders.{plain_unordered}
use Rattle.prim_builtins.specs.prim_walks.declared.orders.Unordered.{Unordered}
use Rattle.prim_builtins.specs.prim_faults.declared.fault.Fault.TheVariants as faults
use Rattle.prim_builtins.specs.prim_faults.declared.stop.Stop.TheVariants.{Raises}
use Rattle.prim_builtins.specs.prim_faults.Faults.{method_text}
use Rattle.prim_builtins.specs.prim_faults.Types.{type_text}
use Rattle.prim_builtins.specs.prim_faults.Outcomes.{IsOutcome}
use Rattle.prim_builtins.proofs.prim_faults_lemmas.Outcomes.{gives_outcome, raises_outcome}
use Rattle.prim_collections.specs.Best.{plain_extreme, best_among, values_of, plain_best, IsKnownBest}
use Rattle.prim_collections.proofs.BestOutcomes.{nothing, something, walked, too_deep}
use Rattle.prim_collections.proofs.best_calls.best_value.Goals as goal

pub best-requires-clause-some : goal.best-requires-clause-some
best-requires-clause-some g c =
    let texts = g.C.Constants.text_of c.args.consts.now in
    let tuples = g.C.Constants.items_of c.args.consts.now in
    let h = c.args.arena.now in
    let heap = plain_heap texts tuples h in
    let sign = plain_extreme c.args.extreme in
    let p : Value → Val = plain texts tuples in
    let xs = values_of tuples h c.args.from in
    let next : Val → Outcome Val = λ best. gives best heap in
    omega (arith, c.if-candidate_count-eq0.false, c.candidate_count.ensures)

pub returns-then-candidate_count-eq0 : goal.returns-then-candidate_count-eq0
returns-then-candidate_count-eq0 g c =
    let texts = g.C.Constants.text_of c.args.consts.now in
    let tuples = g.C.Constants.items_of c.args.consts.now in
    let h = c.args.arena.now in
    let heap = plain_heap texts tuples h in
    let sign = plain_extreme c.args.extreme in
    let p : Value → Val = plain texts tuples in
    let xs = values_of tuples h c.args.from in
    let next : Val → Outcome Val = λ best. gives best heap in
    let none : length (map p xs) ≡ 0 = omega (arith, length-map xs p, c.if-candidate_count-eq0.true, c.candidate_count.ensures) in
    raises_outcome texts tuples h faults.NothingToCompare _ c.requires.all_told tt (nothing heap sign next (map p xs) none)

pub returns-in-Some-Ok : goal.returns-in-Some-Ok
returns-in-Some-Ok g c =
    let texts = g.C.Constants.text_of c.args.consts.now in
    let tuples = g.C.Constants.items_of c.args.consts.now in
    let h = c.args.arena.now in
    let heap = plain_heap texts tuples h in
    let sign = plain_extreme c.args.extreme in
    let p : Value → Val = plain texts tuples in
    let xs = values_of tuples h c.args.from in
    let next : Val → Outcome Val = λ best. gives best heap in
    let some : 0 < length (map p xs) = omega (arith, length-map xs p, c.if-candidate_count-eq0.false, c.candidate_count.ensures) in
    let read : Result Value Unordered → Option (Result Val meaning.Unordered) = λ r. Some (plain_best texts tuples r) in
    let known = subst (IsKnownBest texts tuples h.objects) c.in-Some-Ok.field-0-is c.in-Some-Ok.ensures.known in
    subst (λ (o : Outcome Val). IsOutcome texts tuples h h (Ok c.in-Some-Ok.v) o) (sym (something heap sign next (map p xs) some))
    (walked texts tuples h h (best_among heap sign (map p xs)) (gives_best heap sign next) (Ok (p c.in-Some-Ok.v)) (Ok c.in-Some-Ok.v) (sym c.in-Some-Ok.ensures.answer ∙ ap read c.in-Some-Ok.field-0-is)
    (gives_outcome texts tuples h c.in-Some-Ok.v _ c.requires.all_told known.leads known.told refl))

pub returns-in-Some-Err : goal.returns-in-Some-Err
returns-in-Some-Err g c =
    let texts = g.C.Constants.text_of c.args.consts.now in
    let tuples = g.C.Constants.items_of c.args.consts.now in
    let h = c.args.arena.now in
    let heap = plain_heap texts tuples h in
    let sign = plain_extreme c.args.extreme in
    let p : Value → Val = plain texts tuples in
    let xs = values_of tuples h c.args.from in
    let next : Val → Outcome Val = λ best. gives best heap in
    let some : 0 < length (map p xs) = omega (arith, length-map xs p, c.if-candidate_count-eq0.false, c.candidate_count.ensures) in
    let read : Result Value Unordered → Option (Result Val meaning.Unordered) = λ r. Some (plain_best texts tuples r) in
    let e = c.in-Some-Err.e in
    let fault = faults.Unsupported c.method.result c.type_of.result c.type_of-in-Some-Err.result in
    subst (λ (o : Outcome Val). IsOutcome texts tuples h h (Err (Raises fault)) o) (sym (something heap sign next (map p xs) some))
    (walked texts tuples h h (best_among heap sign (map p xs)) (gives_best heap sign next) (Err (plain_unordered texts tuples e)) (Err (Raises fault)) (sym c.in-Some-Err.ensures.answer ∙ ap read c.in-Some-Err.field-0-is)
    (raises_outcome texts tuples h fault _ c.requires.all_told tt
    (ap (λ (m : List ℕ). raises {A = Val} (Unsupported m (type_name heap (p e.left)) (type_name heap (p e.right))) heap) (sym c.method.ensures)
    ∙ (ap (λ (t : List ℕ). raises {A = Val} (Unsupported (method_text c.method.result) t (type_name heap (p e.right))) heap) (sym (c.type_of.ensures texts tuples))
    ∙ ap (λ (t : List ℕ). raises {A = Val} (Unsupported (method_text c.method.result) (type_text c.type_of.result) t) heap) (sym (c.type_of-in-Some-Err.ensures texts tuples))))))

pub returns-in-None : goal.returns-in-None
returns-in-None g c =
    let texts = g.C.Constants.text_of c.args.consts.now in
    let tuples = g.C.Constants.items_of c.args.consts.now in
    let h = c.args.arena.now in
    let heap = plain_heap texts tuples h in
    let sign = plain_extreme c.args.extreme in
    let p : Value → Val = plain texts tuples in
    let xs = values_of tuples h c.args.from in
    let next : Val → Outcome Val = λ best. gives best heap in
    let some : 0 < length (map p xs) = omega (arith, length-map xs p, c.if-candidate_count-eq0.false, c.candidate_count.ensures) in
    let read : Result Value Unordered → Option (Result Val meaning.Unordered) = λ r. Some (plain_best texts tuples r) in
    subst (λ (o : Outcome Val). IsOutcome texts tuples h h (Err (Raises faults.TooDeep)) o) (sym (something heap sign next (map p xs) some))
    (too_deep texts tuples h c.requires.all_told (best_among heap sign (map p xs)) (gives_best heap sign next) (sym c.in-None.ensures.answer))
