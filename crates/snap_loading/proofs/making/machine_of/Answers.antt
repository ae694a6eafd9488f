use Rattle.std.proofs.Common.{◌≡◌, ℕ, refl, sym, ap, ◌∙◌, arith}
use Rattle.vm_starting.specs.vm_states.prim_modules.Registry.{Registry}
use Rattle.snap_loading.specs.Given.{IsLibrary}
use Rattle.snap_loading.proofs.Laying.{few_cells}
use Rattle.snap_loading.proofs.Readied.{decodes, fits_as, has_rows, is_vm, library_as, library_is, shaped_as}
use Rattle.snap_loading.proofs.Roomy.{few_modules}
use Rattle.snap_loading.proofs.making.machine_of.Goals as goal

pub new-requires : goal.new-requires
new-requires c = omega (arith, few_cells c.args.snapshot.now c.requires.shaped.room)

pub arena_of-requires-clause-lookup : goal.arena_of-requires-clause-lookup
arena_of-requires-clause-lookup c = c.in_ok-lookup.ensures.lookup

pub arena_of-requires-clause-rows : goal.arena_of-requires-clause-rows
arena_of-requires-clause-rows c = c.requires.rows ∙ sym c.in_ok-lookup.ensures.library

pub arena_of-requires-clause-library : goal.arena_of-requires-clause-library
arena_of-requires-clause-library c =
    let few = c.library_law.ensures.few in
    library_as c.args.library.now c.in_ok-lookup.lookup.library.now c.args.snapshot.now c.in_ok-lookup.lookup.snapshot.now c.in_ok-lookup.ensures.library c.in_ok-lookup.ensures.snapshot
    (library_is c.args.library.now c.in_ok-names.names.items c.library_law.ensures.first (omega (arith, few)) c.in_ok-names.ensures)

pub arena_of-requires-clause-fits : goal.arena_of-requires-clause-fits
arena_of-requires-clause-fits c =
    fits_as c.args.library.now c.in_ok-lookup.lookup.library.now c.args.snapshot.now c.in_ok-lookup.lookup.snapshot.now c.in_ok-lookup.ensures.library c.in_ok-lookup.ensures.snapshot c.requires.fits

pub arena_of-requires-clause-fine : goal.arena_of-requires-clause-fine
arena_of-requires-clause-fine c =
    let shaped = shaped_as c.args.library.now c.in_ok-lookup.lookup.library.now c.args.snapshot.now c.in_ok-lookup.lookup.snapshot.now c.in_ok-lookup.ensures.library c.in_ok-lookup.ensures.snapshot c.requires.shaped in
    shaped.objects

pub arena_of-requires-clause-room : goal.arena_of-requires-clause-room
arena_of-requires-clause-room c =
    let shaped = shaped_as c.args.library.now c.in_ok-lookup.lookup.library.now c.args.snapshot.now c.in_ok-lookup.lookup.snapshot.now c.in_ok-lookup.ensures.library c.in_ok-lookup.ensures.snapshot c.requires.shaped in
    shaped.room

pub modules_of-requires-clause-lookup : goal.modules_of-requires-clause-lookup
modules_of-requires-clause-lookup c = c.in_ok-lookup.ensures.lookup

pub modules_of-requires-clause-few : goal.modules_of-requires-clause-few
modules_of-requires-clause-few c =
    let few = c.library_law.ensures.few in
    let shaped = shaped_as c.args.library.now c.in_ok-lookup.lookup.library.now c.args.snapshot.now c.in_ok-lookup.lookup.snapshot.now c.in_ok-lookup.ensures.library c.in_ok-lookup.ensures.snapshot c.requires.shaped in
    let library = library_as c.args.library.now c.in_ok-lookup.lookup.library.now c.args.snapshot.now c.in_ok-lookup.lookup.snapshot.now c.in_ok-lookup.ensures.library c.in_ok-lookup.ensures.snapshot
    (library_is c.args.library.now c.in_ok-names.names.items c.library_law.ensures.first (omega (arith, few)) c.in_ok-names.ensures) in
    few_modules c.in_ok-lookup.lookup.library.now c.in_ok-lookup.lookup.snapshot.now library shaped.objects shaped.registered

pub frames_of-requires-clause-lookup : goal.frames_of-requires-clause-lookup
frames_of-requires-clause-lookup c = c.in_ok-lookup.ensures.lookup

pub frames_of-requires-clause-rows : goal.frames_of-requires-clause-rows
frames_of-requires-clause-rows c = c.requires.rows ∙ sym c.in_ok-lookup.ensures.library

pub frames_of-requires-clause-shaped : goal.frames_of-requires-clause-shaped
frames_of-requires-clause-shaped c =
    shaped_as c.args.library.now c.in_ok-lookup.lookup.library.now c.args.snapshot.now c.in_ok-lookup.lookup.snapshot.now c.in_ok-lookup.ensures.library c.in_ok-lookup.ensures.snapshot c.requires.shaped

pub returns-clause-decoded : goal.returns-clause-decoded
returns-clause-decoded c =
    let t = c.titles_law.ensures.titles in
    decodes c.args.library.now c.in_ok-lookup.lookup.library.now c.args.snapshot.now c.in_ok-lookup.lookup.snapshot.now c.in_ok-lookup.ensures.library c.in_ok-lookup.ensures.snapshot
    c.in_ok-arena.arena c.in_ok-modules.modules c.in_ok-frames.frames.calls t.0 t.1 c.in_ok-arena.ensures c.in_ok-modules.ensures c.in_ok-frames.ensures.calls

pub returns-clause-vm : goal.returns-clause-vm
returns-clause-vm c =
    let few = c.library_law.ensures.few in
    let library = library_is c.args.library.now c.in_ok-names.names.items c.library_law.ensures.first (omega (arith, few)) c.in_ok-names.ensures in
    is_vm c.args.library.now c.args.snapshot.now _ c.safe_law.ensures c.requires.runnable library c.requires.fits c.requires.shaped
    (has_rows c.args.library.now c.args.snapshot.now c.titles_law.ensures.rows c.requires.shaped)
    c.greatest_of-slots.result.0 c.greatest_of-slots.result.1
    (record {
      greatest = c.greatest_of-slots.ensures.greatest;
      slot_room = c.in_ok-frames.ensures.slot_room;
      entry_room = c.in_ok-frames.ensures.entry_room;
      registry = ap (λ (r : Registry). r.room) c.in_ok-modules.ensures;
      names = c.in_ok-names.ensures;
      operands = c.in_ok-operands.ensures.operands;
      bindings = c.in_ok-operands.ensures.bindings;
      items = c.in_ok-operands.ensures.items;
    })
    refl (returns-clause-decoded c)
