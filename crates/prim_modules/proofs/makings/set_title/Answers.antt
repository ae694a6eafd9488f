use Rattle.std.proofs.Common.{◌≡◌, ℕ, List, Option, Some, refl, sym, ap, ◌∙◌, subst}
use Rattle.std.specs.Prelude.{IsSome, codes}
use Rattle.mpy_base.specs.World.{ModuleObject, Heap, AModule, object}
use Rattle.mpy_base.specs.Val.{Val, Str}
use Rattle.prim_assignments.specs.arena_heap.declared.value.Value.{Value}
use Rattle.prim_assignments.specs.arena_objects.Iterables.{or_nothing}
use Rattle.prim_assignments.specs.arena_objects.Keys.{AllTold}
use Rattle.py_effects.specs.py_values.Shown.{PlainHeap}
use Rattle.py_effects.specs.py_primitives.Uses.{put_pair}
use Rattle.prim_assignments.specs.prim_walks.Plain.{plain_name, plain_heap}
use Rattle.prim_assignments.proofs.ItemUses.{set_named}
use Rattle.prim_modules.proofs.Titles.{named_here, told_named, names_plain, from_before}
use Rattle.prim_modules.proofs.makings.set_title.Goals as goal

pub set_attr-requires : goal.set_attr-requires
set_attr-requires g c =
    let texts = g.C.Constants.text_of c.args.consts.now in
    let tuples = g.C.Constants.items_of c.args.consts.now in
    let h = c.args.arena.now in
    let m = c.args.made.number.cell in
    let d = c.args.made.names.cell in
    let set = c.module_names.ensures.named in
    record {
      object_leads = record { meets = c.module_names.ensures.later.keeps AModule m c.requires.made.number; small = tt };
      object_told = tt;
      name = subst (λ (t : Option (List ℕ)). IsSome t) (sym c.requires.key) refl;
      leads = record { meets = tt; small = tt };
      told = c.requires.name;
      all_told = subst (λ (hp : Heap Value ℕ). AllTold texts tuples hp.objects) (sym set) (told_named texts tuples h m d c.requires.made.number c.requires.all_told);
    }

pub returns : goal.returns
returns g c =
    let texts = g.C.Constants.text_of c.args.consts.now in
    let tuples = g.C.Constants.items_of c.args.consts.now in
    let h = c.args.arena.now in
    let mid = c.module_names.new.arena in
    let m = c.args.made.number.cell in
    let d = c.args.made.names.cell in
    let here = named_here h m d c.requires.made.number in
    let set = c.module_names.ensures.named in
    let title : Val = Str (plain_name texts tuples c.args.name) in
    let parts : object mid.objects m ≡ Some (ModuleObject here.0 (Some d)) = ap (λ (hp : Heap Value ℕ). object hp.objects m) set ∙ here.1 in
    from_before texts tuples h mid c.set_attr.new.arena c.set_attr.result _ _ c.module_names.ensures.later c.set_attr.ensures
    (set_named texts tuples mid (or_nothing (texts c.args.key)) title m here.0 d parts
    ∙ (ap (λ (t : Option (List ℕ)). put_pair (plain_heap texts tuples mid) d (Str (or_nothing t)) title) c.requires.key
    ∙ ap (λ (hp : PlainHeap). put_pair hp d (Str (codes "__name__")) title) (ap (plain_heap texts tuples) set ∙ names_plain texts tuples h m d)))
