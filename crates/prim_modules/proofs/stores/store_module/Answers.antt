use Rattle.std.proofs.Common.{ℕ, List, Option, refl, sym, ap, ◌∙◌, subst}
use Rattle.std.specs.Prelude.{IsSome}
use Rattle.mpy_base.specs.World.{Object, kind_of, names_of}
use Rattle.mpy_base.specs.Val.{Val, Str, At}
use Rattle.mpy_base.proofs.Worlds.{later_same}
use Rattle.prim_assignments.specs.arena_heap.Values.{ArenaObject}
use Rattle.prim_assignments.specs.arena_objects.Iterables.{or_nothing}
use Rattle.py_effects.specs.py_primitives.Outcome.{Outcome}
use Rattle.py_effects.specs.py_primitives.Uses.{put_pair}
use Rattle.py_effects.specs.Modules.{outer_name, last_part, store_module}
use Rattle.prim_assignments.specs.prim_walks.Plain.{plain_name, plain_object, plain_heap}
use Rattle.prim_assignments.proofs.prim_walks_lemmas.PlainValues.{object_plain}
use Rattle.prim_assignments.proofs.ItemUses.{set_named}
use Rattle.prim_modules.specs.Registry.{plain_modules}
use Rattle.prim_modules.specs.Effects.{world_with}
use Rattle.prim_modules.proofs.Effecting.{put_visits, stored_by, nothing_by}
use Rattle.prim_modules.proofs.Titles.{from_before}
use Rattle.prim_modules.proofs.Modular.{outer_has, arena_has, stored_nowhere, stored_there}
use Rattle.prim_modules.proofs.stores.store_module.Goals as goal

pub set_attr-requires : goal.set_attr-requires
set_attr-requires g c =
    let texts = g.C.Constants.text_of c.args.consts.now in
    let tuples = g.C.Constants.items_of c.args.consts.now in
    let h = c.args.arena.now in
    let mods = plain_modules texts tuples c.args.modules.now in
    let name = plain_name texts tuples c.args.name in
    let has = outer_has (plain_heap texts tuples h) mods (outer_name name) c.in-Some.outer.cell c.requires.registered c.in-Some.ensures in
    let own = arena_has texts tuples h c.in-Some.outer.cell has in
    record {
      object_leads = record { meets = ap (λ (o : Option ArenaObject). kind_of o) own.1; small = tt };
      object_told = tt;
      name = subst (λ (t : Option (List ℕ)). IsSome t) (sym c.requires.last) refl;
      leads = record { meets = c.requires.is_module; small = tt };
      told = tt;
      all_told = c.requires.all_told;
    }

pub returns-in-Some : goal.returns-in-Some
returns-in-Some g c =
    let texts = g.C.Constants.text_of c.args.consts.now in
    let tuples = g.C.Constants.items_of c.args.consts.now in
    let h = c.args.arena.now in
    let heap = plain_heap texts tuples h in
    let registry = c.args.modules.now in
    let mods = plain_modules texts tuples registry in
    let name = plain_name texts tuples c.args.name in
    let n = c.in-Some.outer.cell in
    let has = outer_has heap mods (outer_name name) n c.requires.registered c.in-Some.ensures in
    let own = arena_has texts tuples h n has in
    let m : Val = At c.args.m.cell in
    let new = c.set_attr.new.arena in
    let outcome : Outcome Val = put_pair heap has.names (Str (last_part name)) m in
    let is = from_before texts tuples h h new c.set_attr.result _ outcome (later_same h.objects) c.set_attr.ensures
    (set_named texts tuples h (or_nothing (texts c.args.last)) m n own.0 has.names own.1 ∙ ap (λ (t : Option (List ℕ)). put_pair heap has.names (Str (or_nothing t)) m) c.requires.last) in
    record {
      effect = stored_by texts tuples h new c.set_attr.result outcome is (put_visits heap has.names (Str (last_part name)) m) registry (λ w. store_module w name c.args.m.cell)
          (λ w. stored_there (world_with texts tuples w h registry) name c.args.m.cell (outer_name name) n has.names c.in-Some.ensures
          (ap (λ (o : Option (Object Val (List ℕ))). names_of o) (object_plain texts tuples h.objects n) ∙ ap (λ (o : Option ArenaObject). names_of (plain_object texts tuples o)) own.1));
      known = is.known;
      later = is.later;
      all_told = is.all_told;
    }

pub returns-in-None : goal.returns-in-None
returns-in-None g c =
    let texts = g.C.Constants.text_of c.args.consts.now in
    let tuples = g.C.Constants.items_of c.args.consts.now in
    let h = c.args.arena.now in
    let registry = c.args.modules.now in
    let name = plain_name texts tuples c.args.name in
    record {
      effect = nothing_by texts tuples h registry (λ w. store_module w name c.args.m.cell) (λ w. stored_nowhere (world_with texts tuples w h registry) name c.args.m.cell (outer_name name) c.in-None.ensures);
      known = record { leads = record { meets = tt; small = tt }; told = tt };
      later = later_same h.objects;
      all_told = c.requires.all_told;
    }
