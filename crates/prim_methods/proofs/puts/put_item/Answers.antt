use Rattle.std.proofs.Common.{ℕ, List, Ok, Err, subst}
use Rattle.std.specs.List.{insert}
use Rattle.mpy_base.specs.World.{items_at}
use Rattle.mpy_base.specs.Weights.{Fits, Refused, list_growth}
use Rattle.mpy_base.specs.Val.{Val}
use Rattle.prim_assignments.specs.arena_heap.declared.value.Value.TheVariants as values
use Rattle.prim_assignments.specs.arena_heap.Constants.{IsTold}
use Rattle.prim_assignments.proofs.arena_objects_lemmas.Tolds.{told_items}
use Rattle.prim_builtins.specs.py_primitives.Methods.{put_items}
use Rattle.prim_assignments.specs.prim_walks.Plain.{plain, plain_heap}
use Rattle.prim_assignments.specs.prim_faults.declared.stop.Stop.TheVariants.{Full}
use Rattle.prim_assignments.specs.prim_faults.Outcomes.{IsOutcome}
use Rattle.prim_methods.proofs.ListPuts.{map_insert, all_insert, length_insert, put_done, put_refused}
use Rattle.prim_methods.proofs.puts.put_item.Goals as goal

pub returns-in-Ok : goal.returns-in-Ok
returns-in-Ok g c =
    let texts = g.C.Constants.text_of c.args._consts.now in
    let tuples = g.C.Constants.items_of c.args._consts.now in
    let h = c.args.arena.now in
    let l = c.args.l.cell in
    let items = items_at h l in
    let more = insert items c.args.at c.args.v in
    let count = length_insert items c.args.at c.args.v c.requires.within in
    let new = c.list_insert.new.arena in
    let told = all_insert (IsTold texts tuples) items c.args.at c.args.v c.requires.told (told_items texts tuples h l c.requires.list c.requires.all_told) in
    subst (λ (vs : List Val). IsOutcome texts tuples h new (Ok values.None) (put_items (plain_heap texts tuples h) l vs)) (map_insert (plain texts tuples) items c.args.at c.args.v)
    (put_done texts tuples h l more c.requires.all_told new c.requires.list told (subst (λ (k : ℕ). Fits h (list_growth h l k) 0) count c.in-Ok.ensures.fits) c.in-Ok.ensures.ok)

pub returns-in-Err : goal.returns-in-Err
returns-in-Err g c =
    let texts = g.C.Constants.text_of c.args._consts.now in
    let tuples = g.C.Constants.items_of c.args._consts.now in
    let h = c.args.arena.now in
    let l = c.args.l.cell in
    let items = items_at h l in
    let more = insert items c.args.at c.args.v in
    let count = length_insert items c.args.at c.args.v c.requires.within in
    let new = c.list_insert.new.arena in
    subst (λ (vs : List Val). IsOutcome texts tuples h new (Err (Full c.in-Err.room)) (put_items (plain_heap texts tuples h) l vs)) (map_insert (plain texts tuples) items c.args.at c.args.v)
    (put_refused texts tuples h l more c.requires.all_told new c.in-Err.room (subst (λ (k : ℕ). Refused h new c.in-Err.room (list_growth h l k) 0) count c.in-Err.ensures.refused))
