use Rattle.std.proofs.Common.{length, take, Result, Ok, Err, refl, sym, subst, inl, inr}
use Rattle.prim_operators.specs.mpy_base.World.{AList}
use Rattle.prim_operators.specs.mpy_base.Weights.{list_growth, with_list_room}
use Rattle.prim_operators.specs.mpy_base.Val.{Val}
use Rattle.prim_operators.specs.arena_heap.declared.value.Value.{Value}
use Rattle.prim_operators.specs.arena_heap.declared.value.Value.TheVariants as values
use Rattle.prim_operators.specs.arena_objects.Iterables.{spelled, with_texts, extended_length}
use Rattle.prim_operators.specs.py_primitives.Outcome.{Outcome, gives, is_full}
use Rattle.prim_operators.specs.prim_walks.Plain.{plain, plain_heap}
use Rattle.prim_operators.specs.prim_faults.declared.stop.Stop.{Stop}
use Rattle.prim_operators.specs.prim_faults.declared.stop.Stop.TheVariants.{Full}
use Rattle.prim_operators.specs.prim_faults.Outcomes.{IsOutcome}
use Rattle.prim_operators.proofs.prim_faults_lemmas.Outcomes.{answered}
use Rattle.prim_assignments.proofs.Iterated.{iterated}
use Rattle.prim_assignments.proofs.TakenItems.{visited, full_behind, taken_all, no_room_taken, no_text_taken}
use Rattle.prim_assignments.proofs.extensions.take_items.Goals as goal

pub returns-in-Ok : goal.returns-in-Ok
returns-in-Ok g c =
    let texts = g.C.Constants.text_of c.args.consts.now in
    let tuples = g.C.Constants.items_of c.args.consts.now in
    let h = c.args.arena.now in
    let new = c.list_extend.new.arena in
    let l = c.args.l.cell in
    let all = iterated texts tuples h c.args.from c.requires.leads c.items_law.ensures.nested c.requires.iterable in
    let outcome : Outcome Val = gives (plain texts tuples (values.List c.args.l)) (plain_heap texts tuples new) in
    let done : IsOutcome texts tuples h new (Ok (values.List c.args.l)) outcome =
    answered texts tuples h new (values.List c.args.l) outcome c.in-Ok.ensures.later c.in-Ok.ensures.all_told (record { meets = c.in-Ok.ensures.later.keeps AList l c.requires.list; small = tt }) tt refl in
    subst (λ (o : Outcome Val). IsOutcome texts tuples h new (Ok (values.List c.args.l)) o) (sym (taken_all texts tuples h l c.args.from all new c.in-Ok.ensures.ok c.in-Ok.ensures.fits))
    (visited texts tuples h new (Ok (values.List c.args.l)) (length all.items) outcome done)

pub returns-in-Err : goal.returns-in-Err
returns-in-Err g c =
    let texts = g.C.Constants.text_of c.args.consts.now in
    let tuples = g.C.Constants.items_of c.args.consts.now in
    let h = c.args.arena.now in
    let new = c.list_extend.new.arena in
    let l = c.args.l.cell in
    let from = c.args.from in
    let cells = list_growth h l (extended_length texts tuples h l from) in
    let result : Result Value Stop = Err (Full c.in-Err.room) in
    let all = iterated texts tuples h from c.requires.leads c.items_law.ensures.nested c.requires.iterable in
    elim c.in-Err.ensures.refused [
      | inl refused ↦
          let outcome : Outcome Val = is_full (plain_heap texts tuples h) cells 0 in
          let done = full_behind texts tuples h h new c.in-Err.room cells 0 outcome refused c.in-Err.ensures.later c.in-Err.ensures.all_told refl in
          subst (λ (o : Outcome Val). IsOutcome texts tuples h new result o) (sym (no_room_taken texts tuples h l from all refused.too_much)) (visited texts tuples h new result (length all.items) outcome done)
      | inr both ↦
          let stopped = both.1 in
          let mid = with_texts (with_list_room h l (extended_length texts tuples h l from)) (take stopped.made (spelled texts h from)) in
          let outcome : Outcome Val = is_full (plain_heap texts tuples mid) 2 1 in
          let done = full_behind texts tuples h mid new c.in-Err.room 2 1 outcome stopped.refused c.in-Err.ensures.later c.in-Err.ensures.all_told refl in
          subst (λ (o : Outcome Val). IsOutcome texts tuples h new result o) (sym (no_text_taken texts tuples h l from all both.0 stopped.made stopped.behind stopped.fitted stopped.refused.too_much))
          (visited texts tuples h new result (length all.items) outcome done)
    ]
