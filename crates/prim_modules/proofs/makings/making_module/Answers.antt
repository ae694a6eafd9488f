use Rattle.std.proofs.Common.{[], None, Err, refl}
use Rattle.std.specs.Prelude.{codes}
use Rattle.mpy_base.specs.World.{ModuleObject, DictObject, AModule, ADict, with_names}
use Rattle.mpy_base.specs.Val.{At, Str}
use Rattle.mpy_base.proofs.Worlds.{later_later}
use Rattle.prim_assignments.specs.arena_heap.declared.value.Value.TheVariants as values
use Rattle.py_effects.specs.py_primitives.Outcome.{making, gives}
use Rattle.py_effects.specs.py_primitives.Uses.{put_pair}
use Rattle.prim_assignments.specs.prim_walks.Plain.{plain_name, plain_heap}
use Rattle.prim_modules.proofs.Effecting.{making_visits, put_visits}
use Rattle.prim_modules.proofs.Titles.{stops_here, goes_on, made_by, titled, with_dict_made, whole_making}
use Rattle.prim_modules.proofs.makings.making_module.Goals as goal

pub set_title-requires-clause-made : goal.set_title-requires-clause-made
set_title-requires-clause-made g c = record {
  number = c.in-Ok-new_names.ensures.later.keeps AModule c.in-Ok.m.cell c.in-Ok.ensures.known.leads.meets;
  names = c.in-Ok-new_names.ensures.known.leads.meets;
}

pub returns-in-Err : goal.returns-in-Err
returns-in-Err g c =
    let texts = g.C.Constants.text_of c.args.consts.now in
    let tuples = g.C.Constants.items_of c.args.consts.now in
    let h = c.args.arena.now in
    let name = plain_name texts tuples c.args.name in
    let one = c.new_module.new.arena in
    let first = c.in-Err.ensures in
    record {
      effect = made_by texts tuples h one (Err c.in-Err.stop) (whole_making name (plain_heap texts tuples h))
          (stops_here texts tuples one (making (plain_heap texts tuples h) (ModuleObject name None)) (making_visits (plain_heap texts tuples h) (ModuleObject name None)) (with_dict_made name) c.in-Err.stop first.answer first.heap)
          _ (λ w. refl);
      made = tt;
      later = first.later;
      all_told = first.all_told;
    }

pub returns-in-Err-new_names : goal.returns-in-Err-new_names
returns-in-Err-new_names g c =
    let texts = g.C.Constants.text_of c.args.consts.now in
    let tuples = g.C.Constants.items_of c.args.consts.now in
    let h = c.args.arena.now in
    let name = plain_name texts tuples c.args.name in
    let one = c.new_module.new.arena in
    let two = c.new_names.new.arena in
    let first = c.in-Ok.ensures in
    let second = c.in-Err-new_names.ensures in
    record {
      effect = made_by texts tuples h two (Err c.in-Err-new_names.stop) (whole_making name (plain_heap texts tuples h))
          (goes_on texts tuples two (making (plain_heap texts tuples h) (ModuleObject name None)) (making_visits (plain_heap texts tuples h) (ModuleObject name None)) (with_dict_made name)
          one (values.Module c.in-Ok.m) (Err c.in-Err-new_names.stop) first.answer first.heap
          (stops_here texts tuples two (making (plain_heap texts tuples one) (DictObject [] 4)) (making_visits (plain_heap texts tuples one) (DictObject [] 4)) (titled name (At c.in-Ok.m.cell)) c.in-Err-new_names.stop second.answer second.heap))
          _ (λ w. refl);
      made = tt;
      later = later_later first.later second.later;
      all_told = second.all_told;
    }

pub returns-in-Err-set_title : goal.returns-in-Err-set_title
returns-in-Err-set_title g c =
    let texts = g.C.Constants.text_of c.args.consts.now in
    let tuples = g.C.Constants.items_of c.args.consts.now in
    let h = c.args.arena.now in
    let name = plain_name texts tuples c.args.name in
    let one = c.new_module.new.arena in
    let two = c.new_names.new.arena in
    let new = c.set_title.new.arena in
    let m = c.in-Ok.m.cell in
    let d = c.in-Ok-new_names.d.cell in
    let first = c.in-Ok.ensures in
    let second = c.in-Ok-new_names.ensures in
    let third = c.in-Err-set_title.ensures in
    let last = with_names (plain_heap texts tuples two) m d in
    record {
      effect = made_by texts tuples h new (Err c.in-Err-set_title.stop) (whole_making name (plain_heap texts tuples h))
          (goes_on texts tuples new (making (plain_heap texts tuples h) (ModuleObject name None)) (making_visits (plain_heap texts tuples h) (ModuleObject name None)) (with_dict_made name)
          one (values.Module c.in-Ok.m) (Err c.in-Err-set_title.stop) first.answer first.heap
          (goes_on texts tuples new (making (plain_heap texts tuples one) (DictObject [] 4)) (making_visits (plain_heap texts tuples one) (DictObject [] 4)) (titled name (At m))
          two (values.Dict c.in-Ok-new_names.d) (Err c.in-Err-set_title.stop) second.answer second.heap
          (stops_here texts tuples new (put_pair last d (Str (codes "__name__")) (Str name)) (put_visits last d (Str (codes "__name__")) (Str name))
          (λ stored end. gives (record { number = m; names = d }) end) c.in-Err-set_title.stop third.answer third.heap)))
          _ (λ w. refl);
      made = tt;
      later = later_later first.later (later_later second.later third.later);
      all_told = third.all_told;
    }

pub returns-in-Ok-set_title : goal.returns-in-Ok-set_title
returns-in-Ok-set_title g c =
    let texts = g.C.Constants.text_of c.args.consts.now in
    let tuples = g.C.Constants.items_of c.args.consts.now in
    let h = c.args.arena.now in
    let name = plain_name texts tuples c.args.name in
    let one = c.new_module.new.arena in
    let two = c.new_names.new.arena in
    let new = c.set_title.new.arena in
    let m = c.in-Ok.m.cell in
    let d = c.in-Ok-new_names.d.cell in
    let first = c.in-Ok.ensures in
    let second = c.in-Ok-new_names.ensures in
    let third = c.in-Ok-set_title.ensures in
    let last = with_names (plain_heap texts tuples two) m d in
    record {
      effect = made_by texts tuples h new _ (whole_making name (plain_heap texts tuples h))
          (goes_on texts tuples new (making (plain_heap texts tuples h) (ModuleObject name None)) (making_visits (plain_heap texts tuples h) (ModuleObject name None)) (with_dict_made name)
          one (values.Module c.in-Ok.m) _ first.answer first.heap
          (goes_on texts tuples new (making (plain_heap texts tuples one) (DictObject [] 4)) (making_visits (plain_heap texts tuples one) (DictObject [] 4)) (titled name (At m))
          two (values.Dict c.in-Ok-new_names.d) _ second.answer second.heap
          (goes_on texts tuples new (put_pair last d (Str (codes "__name__")) (Str name)) (put_visits last d (Str (codes "__name__")) (Str name))
          (λ stored end. gives (record { number = m; names = d }) end) new _ _ third.answer third.heap (record { answer = refl; heap = refl; visits = refl }))))
          _ (λ w. refl);
      made = record {
        number = third.later.keeps AModule m (second.later.keeps AModule m first.known.leads.meets);
        names = third.later.keeps ADict d second.known.leads.meets;
      };
      later = later_later first.later (later_later second.later third.later);
      all_told = third.all_told;
    }
