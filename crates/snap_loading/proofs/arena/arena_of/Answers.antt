use Rattle.std.proofs.Common.{◌≡◌, ℕ, List, map, All, refl, sym, ap, ◌∙◌, subst, arith}
use Rattle.arena_heap.specs.declared.building.Shell.{Shell}
use Rattle.arena_heap.specs.Building.{HasRoom, shell_object, heap_with}
use Rattle.arena_heap.specs.Values.{ArenaObject, Sound}
use Rattle.snap_loading.specs.Mixed.{IsFilledTo}
use Rattle.snap_loading.specs.Shells.{shell_of}
use Rattle.snap_loading.proofs.Laying.{few_cells, heap_laid, sound_laid, cells_laid, bytes_laid, used_in, size_in}
use Rattle.snap_loading.proofs.arena.arena_of.Goals as goal

pub shells_of-requires-clause-few : goal.shells_of-requires-clause-few
shells_of-requires-clause-few c = omega (arith, few_cells c.args.lookup.now.snapshot.now c.requires.room)

pub with_shells-requires-clause-rooms : goal.with_shells-requires-clause-rooms
with_shells-requires-clause-rooms c = subst (All HasRoom) (sym c.as_slice.ensures.value) c.in_ok-shells.ensures.rooms

pub with_shells-requires-clause-sound : goal.with_shells-requires-clause-sound
with_shells-requires-clause-sound c =
    let shelf = c.args.lookup.now.library.now in
    let s = c.args.lookup.now.snapshot.now in
    let t = c.titles_law.ensures.titles in
    let same = ap (map shell_object) c.as_slice.ensures.value ∙ c.in_ok-shells.ensures.objects t.0 t.1 in
    sound_laid shelf s t.0 (map shell_object c.as_slice.result.now) same (λ k. c.shells_law.ensures.sound shelf s t.0 k c.requires.library c.requires.fits c.requires.fine)

pub with_shells-requires-clause-cells : goal.with_shells-requires-clause-cells
with_shells-requires-clause-cells c =
    let t = c.titles_law.ensures.titles in
    let same = ap (map shell_object) c.as_slice.ensures.value ∙ c.in_ok-shells.ensures.objects t.0 t.1 in
    cells_laid c.args.lookup.now.library.now c.args.lookup.now.snapshot.now t.0 (map shell_object c.as_slice.result.now) same c.requires.room

pub with_shells-requires-clause-bytes : goal.with_shells-requires-clause-bytes
with_shells-requires-clause-bytes c =
    let t = c.titles_law.ensures.titles in
    let same = ap (map shell_object) c.as_slice.ensures.value ∙ c.in_ok-shells.ensures.objects t.0 t.1 in
    bytes_laid c.args.lookup.now.library.now c.args.lookup.now.snapshot.now t.0 (map shell_object c.as_slice.result.now) same c.requires.room

pub fill-requires-clause-begun : goal.fill-requires-clause-begun
fill-requires-clause-begun c =
    let t = c.titles_law.ensures.titles in
    let same = ap (map shell_object) c.as_slice.ensures.value ∙ c.in_ok-shells.ensures.objects t.0 t.1 in
    (t.0, c.in_ok-arena.ensures ∙ heap_laid c.args.lookup.now.library.now c.args.lookup.now.snapshot.now t.0 (map shell_object c.as_slice.result.now) same)

pub returns : goal.returns
returns c title t =
    let same = ap (map shell_object) c.as_slice.ensures.value ∙ c.in_ok-shells.ensures.objects title t in
    c.fill.ensures title (c.in_ok-arena.ensures ∙ heap_laid c.args.lookup.now.library.now c.args.lookup.now.snapshot.now title (map shell_object c.as_slice.result.now) same)
