use Rattle.std.proofs.Common.{◌≡◌, ◌∷◌, ℕ, length, drop, refl, sym, ◌∙◌, subst, []}
use Rattle.std.specs.Prelude.{IsSome, nat_lt}
use Rattle.vm_states.specs.mpy_base.declared.limits.TheConstants.{MAX_CALLS}
use Rattle.prim_faults.specs.arena_heap.declared.value.StrNo.TheVariants as strs
use Rattle.vm_states.specs.bc_library.Shelf.{Shelf}
use Rattle.vm_states.specs.mpy_base.Val.{PlainWorld}
use Rattle.vm_states.specs.bc_ops.declared.instr.Op.TheVariants as ops
use Rattle.vm_states.specs.bc_machine.Library.{Names}
use Rattle.bc_progress.specs.py_effects.Ends.{new_world}
use Rattle.prim_faults.specs.prim_walks.Plain.{plain, plain_name}
use Rattle.vm_states.specs.prim_modules.Registry.{plain_modules}
use Rattle.vm_states.specs.vm_frames.declared.slot.Slot.TheVariants as slots
use Rattle.vm_states.specs.vm_frames.Views.{starts_of}
use Rattle.vm_states.specs.frame_moves.Shown.{view_of, running_of, step_of}
use Rattle.vm_states.specs.frame_moves.Outcomes.{world_of}
use Rattle.vm_states.specs.frame_exits.Ends.{with_modules}
use Rattle.vm_states.specs.frame_exits.declared.importing.Import.{Import}
use Rattle.vm_states.specs.frame_exits.declared.importing.Import.TheVariants as imports
use Rattle.vm_states.specs.frame_exits.Importing.{IsImport, given_name}
use Rattle.state_exits.specs.Importing.{fetched_import}
use Rattle.state_exits.proofs.Tellings.{out}
use Rattle.state_exits.proofs.Outermost.{stands_for}
use Rattle.state_exits.proofs.Returns.{same_calls}
use Rattle.state_exits.proofs.Imports.{given_known, operands_here, two_there, text_there, import_here}
use Rattle.state_exits.proofs.importing.import_on.Goals as goal

pub import_name-requires-clause-operands : goal.import_name-requires-clause-operands
import_name-requires-clause-operands g c =
    let h = c.requires.runs.1 in
    let p = h.runs.program in
    let r = h.runs.ready in
    let t = c.tops_law.ensures.two (view_of p.tables) (starts_of (view_of p.tables) r.first) r.first.slots r.finds in
    (t.top, t.second, operands_here p c.args.frames.now c.requires.runs.0 c.args.name c.args.end r t)

pub import_name-requires-clause-name : goal.import_name-requires-clause-name
import_name-requires-clause-name g c =
    let h = c.requires.runs.1.runs in
    out (g.C.Constants.text_of c.args.consts.now) (g.C.Constants.items_of c.args.consts.now) h.program h.tells (λ x y. IsSome (x (strs.Pool c.args.name)))
    (text_there h.program h.means c.args.frames.now c.requires.runs.0 c.args.name c.args.end h.ready)

pub put_import-requires : goal.put_import-requires
put_import-requires g c =
    let h = c.requires.runs.1 in
    let p = h.runs.program in
    let r = h.runs.ready in
    two_there p c.args.frames.now c.requires.runs.0 c.args.name c.args.end r (c.tops_law.ensures.two (view_of p.tables) (starts_of (view_of p.tables) r.first) r.first.slots r.finds)

pub returns-in-Put-clause-comes : goal.returns-in-Put-clause-comes
returns-in-Put-clause-comes g c p row same means tells named state reg r =
    let s = c.args.frames.now in
    let new = c.put_import.new.frames in
    let a0 = c.args.arena.now in
    let m0 = c.args.modules.now in
    let texts = g.C.Constants.text_of c.args.consts.now in
    let tuples = g.C.Constants.items_of c.args.consts.now in
    let v = c.in-Put.v in
    let name = plain_name p.tables.texts p.tables.tuples c.args.name in
    let f = fetched_import c.args.name c.args.end in
    let t = c.tops_law.ensures.two (view_of p.tables) (starts_of (view_of p.tables) r.first) r.first.slots r.finds in
    let has = operands_here p s row c.args.name c.args.end r t in
    let deep = nat_lt (length s.calls) MAX_CALLS in
    let is : (w : PlainWorld) → IsImport p.tables.texts p.tables.tuples p.shelf (record w { modules = plain_modules p.tables.texts p.tables.tuples m0 }) deep name t.top t.second (imports.Put v) =
    λ w. import_here texts tuples p tells c.args.library.now (same ∙ c.requires.rows) w m0 deep c.args.name t.top t.second (imports.Put v)
    (subst (λ (z : Import). IsImport texts tuples c.args.library.now (record w { modules = plain_modules texts tuples m0 }) deep (plain_name texts tuples c.args.name) t.top t.second z) c.in-Put.is (c.import_name.ensures.comes t.top t.second w has)) in
    let w0 = new_world 0 0 [] in
    let lower : (paid : ℕ) (w : PlainWorld) → step_of p.tables p.library r.place paid s.calls (world_of p.tables (with_modules p.tables w m0) a0) (Names ops.ImportName name) ≡ running_of p.tables 0 new.calls (world_of p.tables (with_modules p.tables w m0) a0) =
    λ paid w. c.put_import.ensures.steps p.tables p.shelf (world_of p.tables (with_modules p.tables w m0) a0) deep name t.top t.second has (is (world_of p.tables w a0)) r.next p.library r.place paid in
    let W = world_of p.tables (with_modules p.tables w0 m0) a0 in
    let running = c.keeps_law.ensures.goes_on p s new row f r c.args.end (λ d. slots.Value v ∷ drop 2 d.slots) (λ d. d.locals) 0 W W means state.running (r.begins tt) c.put_import.ensures.moved (lower 0 w0) in
    let known = given_known p a0 m0 reg v (given_name (plain p.tables.texts p.tables.tuples t.top) name) w0 (c.import_name.ensures.given v c.in-Put.is) (is w0).value_is in
    record {
      steps = λ paid w. r.steps paid (world_of p.tables (with_modules p.tables w m0) a0) ∙ lower paid w;
      state = c.known_law.ensures.puts p a0.objects a0.objects s new c.args.end 2 v state (record { keeps = λ kind n h. h }) state.all_told running known c.put_import.ensures.moved;
      registered = reg;
      stays = tt;
      objects = record { keeps = λ kind n h. h };
      stop = tt;
    }

pub begin-requires-clause-import : goal.begin-requires-clause-import
begin-requires-clause-import g c from level w has =
    let texts = g.C.Constants.text_of c.args.consts.now in
    let tuples = g.C.Constants.items_of c.args.consts.now in
    let world = record w { modules = plain_modules texts tuples c.args.modules.now } in
    let deep = nat_lt (length c.args.frames.now.calls) MAX_CALLS in
    let name = plain_name texts tuples c.args.name in
    subst (λ (z : Shelf). IsImport texts tuples z world deep name from level (imports.Begin c.in-Begin.number)) (sym c.requires.rows)
    (subst (λ (z : Import). IsImport texts tuples c.args.library.now world deep name from level z) c.in-Begin.is (c.import_name.ensures.comes from level w has))

pub returns-in-Begin-clause-comes : goal.returns-in-Begin-clause-comes
returns-in-Begin-clause-comes g c p row same = c.begin.ensures.comes p row c.args.end same

pub returns-in-Stops-clause-comes : goal.returns-in-Stops-clause-comes
returns-in-Stops-clause-comes g c p row same means tells named state reg r =
    let s = c.args.frames.now in
    let a0 = c.args.arena.now in
    let m0 = c.args.modules.now in
    let texts = g.C.Constants.text_of c.args.consts.now in
    let tuples = g.C.Constants.items_of c.args.consts.now in
    let why : Import = imports.Stops c.in-Stops.refusal in
    let name = plain_name p.tables.texts p.tables.tuples c.args.name in
    let t = c.tops_law.ensures.two (view_of p.tables) (starts_of (view_of p.tables) r.first) r.first.slots r.finds in
    let has = operands_here p s row c.args.name c.args.end r t in
    let deep = nat_lt (length s.calls) MAX_CALLS in
    let is : (w : PlainWorld) → IsImport p.tables.texts p.tables.tuples p.shelf (record w { modules = plain_modules p.tables.texts p.tables.tuples m0 }) deep name t.top t.second why =
    λ w. import_here texts tuples p tells c.args.library.now (same ∙ c.requires.rows) w m0 deep c.args.name t.top t.second why
    (subst (λ (z : Import). IsImport texts tuples c.args.library.now (record w { modules = plain_modules texts tuples m0 }) deep (plain_name texts tuples c.args.name) t.top t.second z) c.in-Stops.is (c.import_name.ensures.comes t.top t.second w has)) in
    let w0 = new_world 0 0 [] in
    record {
      steps = λ paid w. r.steps paid (world_of p.tables (with_modules p.tables w m0) a0)
          ∙ c.refuse_import.ensures.steps p.tables p.shelf p.library (with_modules p.tables w m0) a0 s.calls t.top t.second has (is (world_of p.tables w a0)) (stands_for p means) r.place paid;
      state = state;
      registered = tt;
      stays = record { calls = refl; registered = refl };
      objects = record { keeps = λ kind n h. h };
      stop = c.refuse_import.ensures.known p.tables.texts p.tables.tuples p.shelf (record w0 { modules = plain_modules p.tables.texts p.tables.tuples m0 }) a0 s.calls t.top t.second (is w0)
          (text_there p means s row c.args.name c.args.end r);
    }

pub returns-in-Put-clause-rooms : goal.returns-in-Put-clause-rooms
returns-in-Put-clause-rooms g c = same_calls c.args.frames.now c.put_import.new.frames _ c.put_import.ensures.moved

pub returns-in-Put-clause-registry : goal.returns-in-Put-clause-registry
returns-in-Put-clause-registry g c = refl

pub returns-in-Begin-clause-rooms : goal.returns-in-Begin-clause-rooms
returns-in-Begin-clause-rooms g c = c.begin.ensures.rooms

pub returns-in-Begin-clause-registry : goal.returns-in-Begin-clause-registry
returns-in-Begin-clause-registry g c = c.begin.ensures.registry

pub returns-in-Stops-clause-rooms : goal.returns-in-Stops-clause-rooms
returns-in-Stops-clause-rooms g c = refl

pub returns-in-Stops-clause-registry : goal.returns-in-Stops-clause-registry
returns-in-Stops-clause-registry g c = refl
