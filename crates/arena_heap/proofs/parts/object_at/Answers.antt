use Rattle.std.proofs.Common.{◌≡◌, ◌<◌, ◌∙◌, length, get_or, sym, ap, subst, arith, Option, None}
use Rattle.std.specs.Option.{MatchOption}
use Rattle.std.proofs.lemmas.List.{get_or_default}
use Rattle.qstr_pool.specs.mpy_base.World.{object}
use Rattle.qstr_pool.specs.mpy_base.Weights.{used}
use Rattle.arena_heap.specs.declared.value.ObjectNo.{ObjectNo}
use Rattle.arena_heap.specs.Cells.{blank}
use Rattle.arena_heap.specs.Values.{BeginsAt}
use Rattle.arena_heap.proofs.Views.{used_is}
use Rattle.arena_heap.proofs.PartSeen.{seen_begins}
use Rattle.arena_heap.proofs.parts.object_at.Goals as goal

pub index-requires : goal.index-requires
index-requires c =
    let a = c.arena.inside in
    let e : used c.args.arena.now ≡ length a.cells.items = sym (ap used c.arena.view_is) ∙ used_is a.cells.items a.bytes.items a.room.cells a.room.bytes in
    omega arith

pub returns : goal.returns
returns c =
    let a = c.arena.inside in
    let n = c.args.cell in
    let x = c.index.result.now in
    let e : used c.args.arena.now ≡ length a.cells.items = sym (ap used c.arena.view_is) ∙ used_is a.cells.items a.bytes.items a.room.cells a.room.bytes in
    let within : n < length a.cells.items = omega arith in
    let is : get_or a.cells.items n blank ≡ x = sym (c.index.ensures ∙ get_or_default a.cells.items n x blank within) in
    subst (λ (o : Option ObjectNo). MatchOption o (object c.args.arena.now.objects n ≡ None) (BeginsAt c.args.arena.now.objects n)) (sym c.object.ensures)
    (seen_begins a c.arena.view_is n x is)
