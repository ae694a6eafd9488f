use Rattle.std.proofs.Common.{◌≡◌, ℕ, List, length, map, take, All, Some, ap, ◌∙◌, sym, refl, subst, arith}
use Rattle.std.specs.Prelude.{slice_get}
use Rattle.std.proofs.lemmas.List.{take_all}
use Rattle.std.proofs.lemmas.List.Elements.{All-nil, All-push}
use Rattle.arena_heap.specs.declared.building.Shell.{Shell}
use Rattle.arena_heap.specs.Building.{HasRoom, shell_object}
use Rattle.snap_grammar.specs.declared.parts.ObjectPart.{ObjectPart}
use Rattle.snap_loading.specs.Shells.{shell_of}
use Rattle.snap_loading.proofs.Emptied.{cells_within, shells_more}
use Rattle.snap_loading.proofs.shells.shells_of.Goals as goal

pub loop-number-init : goal.loop-number-init
loop-number-init c = record {
  objects = λ title t. ap (map shell_object) c.new-shells.ensures.items;
  rooms = subst (All HasRoom) (sym c.new-shells.ensures.items) (All-nil HasRoom);
}

pub shell_of-requires-clause-few : goal.shell_of-requires-clause-few
shell_of-requires-clause-few c =
    let at : slice_get c.args.lookup.now.snapshot.now.objects c.loop-number.number ≡ Some c.object_at-object.result.now =
    ap (λ (os : List ObjectPart). slice_get os c.loop-number.number) (sym c.as_slice-objects.ensures) ∙ c.object_at-object.ensures in
    omega (arith, c.requires.few, cells_within c.args.lookup.now.snapshot.now.objects c.loop-number.number c.object_at-object.result.now at)

pub shell_of-requires-clause-fine : goal.shell_of-requires-clause-fine
shell_of-requires-clause-fine c =
    let at : slice_get c.args.lookup.now.snapshot.now.objects c.loop-number.number ≡ Some c.object_at-object.result.now =
    ap (λ (os : List ObjectPart). slice_get os c.loop-number.number) (sym c.as_slice-objects.ensures) ∙ c.object_at-object.ensures in
    (c.loop-number.number, c.requires.fine c.loop-number.number c.object_at-object.result.now at)

pub loop-number-preserved : goal.loop-number-preserved
loop-number-preserved c =
    let os = c.args.lookup.now.snapshot.now.objects in
    let i = c.loop-number.number in
    let at : slice_get os i ≡ Some c.object_at-object.result.now =
    ap (λ (zs : List ObjectPart). slice_get zs i) (sym c.as_slice-objects.ensures) ∙ c.object_at-object.ensures in record {
      objects = λ title t. shells_more (shell_of c.args.lookup.now.library.now c.args.lookup.now.snapshot.now title) os i c.object_at-object.result.now c.loop-number.shells.items c.push.new.self.items c.shell_of.result
          c.in_ok-push.ensures.items (c.loop-number.invariant.objects title t) at (c.shell_of.ensures.object title t);
      rooms = subst (All HasRoom) (sym c.in_ok-push.ensures.items) (All-push HasRoom c.loop-number.shells.items c.shell_of.result c.loop-number.invariant.rooms c.shell_of.ensures.room);
    }

pub returns-clause-objects : goal.returns-clause-objects
returns-clause-objects c title t =
    let os = c.args.lookup.now.snapshot.now.objects in
    let all : length c.as_slice-objects.result.now ≡ length os = ap length c.as_slice-objects.ensures in
    c.loop-number.invariant.objects title t
    ∙ ap (map (shell_of c.args.lookup.now.library.now c.args.lookup.now.snapshot.now title)) (take_all c.loop-number.number os (omega (arith, all, c.loop-number-test.false)))
