use Rattle.std.proofs.Common.{ℕ, Bool, All, length, sym, ◌∙◌, subst, arith, []}
use Rattle.std.specs.Prelude.{IsSome, nat_lt}
use Rattle.vm_states.specs.mpy_base.declared.limits.TheConstants.{MAX_CALLS}
use Rattle.prim_faults.specs.arena_objects.Keys.{AllTold}
use Rattle.prim_faults.specs.arena_heap.declared.value.StrNo.TheVariants as strs
use Rattle.vm_states.specs.bc_library.Shelf.{Shelf}
use Rattle.vm_states.specs.bc_rows.Codes.{code_numbered}
use Rattle.vm_states.specs.bc_rows.Rows.{IsRow}
use Rattle.prim_faults.specs.prim_walks.Plain.{plain_name}
use Rattle.vm_states.specs.vm_frames.Views.{starts_of}
use Rattle.vm_states.specs.frame_moves.Shown.{view_of}
use Rattle.vm_states.specs.frame_moves.Outcomes.{world_of}
use Rattle.vm_states.specs.frame_values.Effects.{IsKnownStop}
use Rattle.vm_states.specs.frame_exits.Ends.{with_modules}
use Rattle.vm_states.specs.frame_exits.declared.importing.Import.TheVariants as imports
use Rattle.vm_states.specs.frame_exits.Importing.{IsImport}
use Rattle.vm_states.specs.frame_exits.Beginning.{IsOutermost}
use Rattle.state_exits.proofs.Tellings.{out, into, tables_are}
use Rattle.state_exits.proofs.Outermost.{stands_for, at_least, title_is, outermost_there, locals_fit, is_outermost}
use Rattle.state_exits.proofs.Imports.{imported_rooms, imported_registry, room_for, operands_here, import_here, stop_here, begins_here, number_within, has_title, is_shallow, imports_so}
use Rattle.vm_states.specs.mpy_base.Val.{PlainWorld}
use Rattle.vm_states.specs.prim_modules.Registry.{plain_modules}
use Rattle.bc_progress.specs.py_effects.Ends.{new_world}
use Rattle.state_exits.proofs.importing.begin.Goals as goal

pub outermost_locals-locals-requires-clause-there : goal.outermost_locals-locals-requires-clause-there
outermost_locals-locals-requires-clause-there g c =
    let h = c.requires.runs.2 in
    let p = h.runs.program in
    let r = h.runs.ready in
    let s = c.args.frames.now in
    let texts = g.C.Constants.text_of c.args.consts.now in
    let tuples = g.C.Constants.items_of c.args.consts.now in
    let t = c.tops_law.ensures.two (view_of p.tables) (starts_of (view_of p.tables) r.first) r.first.slots r.finds in
    let w = new_world 0 0 [] in
    let has = operands_here p s c.requires.runs.0 c.args.name c.requires.runs.1 r t in
    let is = import_here texts tuples p h.runs.tells c.args.rows.now h.shelf_is w c.args.modules.now (nat_lt (length s.calls) MAX_CALLS) c.args.name t.top t.second (imports.Begin c.args.number) (c.requires.import t.top t.second w has) in
    let b = begins_here p c.args.modules.now w (length s.calls) c.args.number (plain_name p.tables.texts p.tables.tuples c.args.name) t.top t.second is in
    subst (λ (z : Shelf). IsSome (code_numbered z c.args.number 0)) h.shelf_is (outermost_there p h.runs.means b.title c.args.number b.member c.rows_law.ensures.as_many)

pub outermost_locals-locals-requires-clause-short : goal.outermost_locals-locals-requires-clause-short
outermost_locals-locals-requires-clause-short g c row is_row =
    let h = c.requires.runs.2 in
    let p = h.runs.program in
    let r = h.runs.ready in
    let s = c.args.frames.now in
    let texts = g.C.Constants.text_of c.args.consts.now in
    let tuples = g.C.Constants.items_of c.args.consts.now in
    let t = c.tops_law.ensures.two (view_of p.tables) (starts_of (view_of p.tables) r.first) r.first.slots r.finds in
    let w = new_world 0 0 [] in
    let has = operands_here p s c.requires.runs.0 c.args.name c.requires.runs.1 r t in
    let is = import_here texts tuples p h.runs.tells c.args.rows.now h.shelf_is w c.args.modules.now (nat_lt (length s.calls) MAX_CALLS) c.args.name t.top t.second (imports.Begin c.args.number) (c.requires.import t.top t.second w has) in
    let b = begins_here p c.args.modules.now w (length s.calls) c.args.number (plain_name p.tables.texts p.tables.tuples c.args.name) t.top t.second is in
    let fits = locals_fit p h.runs.means b.title c.args.number b.member c.rows_law.ensures.runs row (subst (λ (z : Shelf). IsRow z c.args.number 0 row) (sym h.shelf_is) is_row) c.room_law.ensures.stands s h.runs.state.running.rooms in
    let short = c.requires.short in
    omega (arith, fits, short)

pub begin_import-requires-clause-told : goal.begin_import-requires-clause-told
begin_import-requires-clause-told g c =
    let h = c.requires.runs.2 in
    let texts = g.C.Constants.text_of c.args.consts.now in
    let tuples = g.C.Constants.items_of c.args.consts.now in
    out texts tuples h.runs.program h.runs.tells (λ x y. All (λ m. IsSome (x (strs.Pool m.name))) c.args.names.now) h.runs.named.told

pub begin_import-requires-clause-named : goal.begin_import-requires-clause-named
begin_import-requires-clause-named g c =
    let h = c.requires.runs.2 in
    let p = h.runs.program in
    let r = h.runs.ready in
    let s = c.args.frames.now in
    let texts = g.C.Constants.text_of c.args.consts.now in
    let tuples = g.C.Constants.items_of c.args.consts.now in
    let t = c.tops_law.ensures.two (view_of p.tables) (starts_of (view_of p.tables) r.first) r.first.slots r.finds in
    let w = new_world 0 0 [] in
    let has = operands_here p s c.requires.runs.0 c.args.name c.requires.runs.1 r t in
    let is = import_here texts tuples p h.runs.tells c.args.rows.now h.shelf_is w c.args.modules.now (nat_lt (length s.calls) MAX_CALLS) c.args.name t.top t.second (imports.Begin c.args.number) (c.requires.import t.top t.second w has) in
    let b = begins_here p c.args.modules.now w (length s.calls) c.args.number (plain_name p.tables.texts p.tables.tuples c.args.name) t.top t.second is in
    let few = number_within p c.args.modules.now (length s.calls) c.args.number b in
    let same = h.runs.named.as_many in
    omega (arith, few, same)

pub begin_import-requires-clause-shallow : goal.begin_import-requires-clause-shallow
begin_import-requires-clause-shallow g c =
    let h = c.requires.runs.2 in
    let p = h.runs.program in
    let r = h.runs.ready in
    let s = c.args.frames.now in
    let texts = g.C.Constants.text_of c.args.consts.now in
    let tuples = g.C.Constants.items_of c.args.consts.now in
    let t = c.tops_law.ensures.two (view_of p.tables) (starts_of (view_of p.tables) r.first) r.first.slots r.finds in
    let w = new_world 0 0 [] in
    let has = operands_here p s c.requires.runs.0 c.args.name c.requires.runs.1 r t in
    let is = import_here texts tuples p h.runs.tells c.args.rows.now h.shelf_is w c.args.modules.now (nat_lt (length s.calls) MAX_CALLS) c.args.name t.top t.second (imports.Begin c.args.number) (c.requires.import t.top t.second w has) in
    let b = begins_here p c.args.modules.now w (length s.calls) c.args.number (plain_name p.tables.texts p.tables.tuples c.args.name) t.top t.second is in
    is_shallow p c.args.modules.now (length s.calls) c.args.number b

pub begin_import-requires-clause-locals : goal.begin_import-requires-clause-locals
begin_import-requires-clause-locals g c =
    let h = c.requires.runs.2 in
    let p = h.runs.program in
    let r = h.runs.ready in
    let s = c.args.frames.now in
    let texts = g.C.Constants.text_of c.args.consts.now in
    let tuples = g.C.Constants.items_of c.args.consts.now in
    let t = c.tops_law.ensures.two (view_of p.tables) (starts_of (view_of p.tables) r.first) r.first.slots r.finds in
    let w = new_world 0 0 [] in
    let has = operands_here p s c.requires.runs.0 c.args.name c.requires.runs.1 r t in
    let is = import_here texts tuples p h.runs.tells c.args.rows.now h.shelf_is w c.args.modules.now (nat_lt (length s.calls) MAX_CALLS) c.args.name t.top t.second (imports.Begin c.args.number) (c.requires.import t.top t.second w has) in
    let b = begins_here p c.args.modules.now w (length s.calls) c.args.number (plain_name p.tables.texts p.tables.tuples c.args.name) t.top t.second is in
    let l = c.outermost_locals-locals.ensures in
    let fits = locals_fit p h.runs.means b.title c.args.number b.member c.rows_law.ensures.runs l.0 (subst (λ (z : Shelf). IsRow z c.args.number 0 l.0) (sym h.shelf_is) l.1) c.room_law.ensures.stands s h.runs.state.running.rooms in
    let same = l.2 in
    omega (arith, fits, same)

pub begin_import-requires-clause-room : goal.begin_import-requires-clause-room
begin_import-requires-clause-room g c =
    let h = c.requires.runs.2 in
    let p = h.runs.program in
    let r = h.runs.ready in
    let s = c.args.frames.now in
    let texts = g.C.Constants.text_of c.args.consts.now in
    let tuples = g.C.Constants.items_of c.args.consts.now in
    let t = c.tops_law.ensures.two (view_of p.tables) (starts_of (view_of p.tables) r.first) r.first.slots r.finds in
    let w = new_world 0 0 [] in
    let has = operands_here p s c.requires.runs.0 c.args.name c.requires.runs.1 r t in
    let is = import_here texts tuples p h.runs.tells c.args.rows.now h.shelf_is w c.args.modules.now (nat_lt (length s.calls) MAX_CALLS) c.args.name t.top t.second (imports.Begin c.args.number) (c.requires.import t.top t.second w has) in
    let b = begins_here p c.args.modules.now w (length s.calls) c.args.number (plain_name p.tables.texts p.tables.tuples c.args.name) t.top t.second is in
    room_for p c.args.arena.now c.args.modules.now h.registered b.title (has_title p c.args.modules.now (length s.calls) c.args.number b) b.none

pub begin_import-requires-clause-all_told : goal.begin_import-requires-clause-all_told
begin_import-requires-clause-all_told g c =
    let h = c.requires.runs.2 in
    let texts = g.C.Constants.text_of c.args.consts.now in
    let tuples = g.C.Constants.items_of c.args.consts.now in
    out texts tuples h.runs.program h.runs.tells (λ x y. AllTold x y c.args.arena.now.objects) h.runs.state.all_told

pub returns-clause-comes : goal.returns-clause-comes
returns-clause-comes g c p row end same means tells named state reg r =
    let s = c.args.frames.now in
    let new = c.begin_import.new.frames in
    let a0 = c.args.arena.now in
    let a1 = c.begin_import.new.arena in
    let m0 = c.args.modules.now in
    let m1 = c.begin_import.new.modules in
    let texts = g.C.Constants.text_of c.args.consts.now in
    let tuples = g.C.Constants.items_of c.args.consts.now in
    let n = c.args.number in
    let name = plain_name p.tables.texts p.tables.tuples c.args.name in
    let u = c.begin_import.ensures in
    let t = c.tops_law.ensures.two (view_of p.tables) (starts_of (view_of p.tables) r.first) r.first.slots r.finds in
    let has = operands_here p s row c.args.name end r t in
    let deep = nat_lt (length s.calls) MAX_CALLS in
    let is : (w : PlainWorld) → IsImport p.tables.texts p.tables.tuples p.shelf (record w { modules = plain_modules p.tables.texts p.tables.tuples m0 }) deep name t.top t.second (imports.Begin n) =
    λ w. import_here texts tuples p tells c.args.rows.now same w m0 deep c.args.name t.top t.second (imports.Begin n) (c.requires.import t.top t.second w has) in
    let w0 = new_world 0 0 [] in
    let b = begins_here p m0 w0 (length s.calls) n name t.top t.second (is w0) in
    let few = number_within p m0 (length s.calls) n b in
    let counted = named.as_many in
    let m = at_least c.args.names.now n (omega (arith, few, counted)) in
    let l = c.outermost_locals-locals.ensures in
    let outermost = subst (λ (z : ℕ). IsOutermost p.tables p.library n z) (sym l.2)
    (is_outermost p means b.title n b.member c.rows_law.ensures.runs l.0 (subst (λ (z : Shelf). IsRow z n 0 l.0) (sym same) l.1) c.standing_law.ensures.there) in
    imports_so c.keeps_law.ensures.went c.sound_law.ensures.steps texts tuples c.args.names.now p means tells named a0 a1 m0 m1 s new state reg u.keeps
    (u.placed p.tables p.library outermost state.running.placed) r.place n c.outermost_locals-locals.result m.0 m.1 b.title (title_is p means b.title n b.member) (has_title p m0 (length s.calls) n b) b.none c.begin_import.result
    (λ paid w. r.steps paid (world_of p.tables (with_modules p.tables w m0) a0)
    ∙ u.steps p.tables p.shelf p.library w name t.top t.second (tables_are texts tuples p tells c.args.names.now named) has
    (subst (λ (d : Bool). IsImport p.tables.texts p.tables.tuples p.shelf (world_of p.tables (with_modules p.tables w m0) a0) d name t.top t.second (imports.Begin n)) b.shallow (is (world_of p.tables w a0)))
    (stands_for p means) outermost r.place paid)
    (u.begun m.0 m.1) (into texts tuples p tells (λ x y. IsKnownStop x y a1.objects c.begin_import.result) (stop_here texts tuples a1.objects c.begin_import.result u.stop))

pub returns-clause-rooms : goal.returns-clause-rooms
returns-clause-rooms g c =
    let h = c.requires.runs.2 in
    let p = h.runs.program in
    let s = c.args.frames.now in
    let texts = g.C.Constants.text_of c.args.consts.now in
    let tuples = g.C.Constants.items_of c.args.consts.now in
    let t = c.tops_law.ensures.two (view_of p.tables) (starts_of (view_of p.tables) h.runs.ready.first) h.runs.ready.first.slots h.runs.ready.finds in
    let w = new_world 0 0 [] in
    let has = operands_here p s c.requires.runs.0 c.args.name c.requires.runs.1 h.runs.ready t in
    let is = import_here texts tuples p h.runs.tells c.args.rows.now h.shelf_is w c.args.modules.now (nat_lt (length s.calls) MAX_CALLS) c.args.name t.top t.second (imports.Begin c.args.number) (c.requires.import t.top t.second w has) in
    let b = begins_here p c.args.modules.now w (length s.calls) c.args.number (plain_name p.tables.texts p.tables.tuples c.args.name) t.top t.second is in
    let few = number_within p c.args.modules.now (length s.calls) c.args.number b in
    let counted = h.runs.named.as_many in
    let m = at_least c.args.names.now c.args.number (omega (arith, few, counted)) in
    imported_rooms c.args.number c.outermost_locals-locals.result (m.0).name s c.begin_import.new.frames c.args.modules.now c.begin_import.new.modules c.begin_import.result (c.begin_import.ensures.begun m.0 m.1)

pub returns-clause-registry : goal.returns-clause-registry
returns-clause-registry g c =
    let h = c.requires.runs.2 in
    let p = h.runs.program in
    let s = c.args.frames.now in
    let texts = g.C.Constants.text_of c.args.consts.now in
    let tuples = g.C.Constants.items_of c.args.consts.now in
    let t = c.tops_law.ensures.two (view_of p.tables) (starts_of (view_of p.tables) h.runs.ready.first) h.runs.ready.first.slots h.runs.ready.finds in
    let w = new_world 0 0 [] in
    let has = operands_here p s c.requires.runs.0 c.args.name c.requires.runs.1 h.runs.ready t in
    let is = import_here texts tuples p h.runs.tells c.args.rows.now h.shelf_is w c.args.modules.now (nat_lt (length s.calls) MAX_CALLS) c.args.name t.top t.second (imports.Begin c.args.number) (c.requires.import t.top t.second w has) in
    let b = begins_here p c.args.modules.now w (length s.calls) c.args.number (plain_name p.tables.texts p.tables.tuples c.args.name) t.top t.second is in
    let few = number_within p c.args.modules.now (length s.calls) c.args.number b in
    let counted = h.runs.named.as_many in
    let m = at_least c.args.names.now c.args.number (omega (arith, few, counted)) in
    imported_registry c.args.number c.outermost_locals-locals.result (m.0).name s c.begin_import.new.frames c.args.modules.now c.begin_import.new.modules c.begin_import.result (c.begin_import.ensures.begun m.0 m.1)
