use Rattle.std.proofs.Common.{◌≡◌, get_or, Option, Some, None, sym, ap, ◌∙◌, subst}
use Rattle.std.specs.Option.{IfSome, option_map}
use Rattle.std.proofs.lemmas.Option.{slice_get-get_or}
use Rattle.prim_faults.specs.arena_heap.declared.value.Value.{Value}
use Rattle.prim_faults.specs.arena_heap.declared.value.Value.TheVariants as values
use Rattle.prim_faults.specs.arena_heap.declared.value.DictNo.{DictNo}
use Rattle.prim_faults.specs.mpy_base.World.{ADict, IsA, pairs_at}
use Rattle.prim_faults.specs.mpy_base.Val.{Val}
use Rattle.prim_faults.specs.arena_objects.Iterables.{or_nothing}
use Rattle.prim_faults.proofs.arena_objects_lemmas.Places.{no_pair}
use Rattle.prim_faults.specs.py_primitives.Uses.{found_value}
use Rattle.prim_faults.specs.prim_walks.Plain.{plain}
use Rattle.prim_operators.proofs.AttributeUses.{by_namespace, has_names, has_no_names}
use Rattle.prim_operators.proofs.DictKeys.{IsKnownKey, Stands, each_key, found_at, missing}
use Rattle.prim_operators.proofs.attributes.module_attribute.Goals as goal

pub returns-in-Some-dict_get-clause-plain : goal.returns-in-Some-dict_get-clause-plain
returns-in-Some-dict_get-clause-plain g c =
    let texts = g.C.Constants.text_of c.args.consts.now in
    let tuples = g.C.Constants.items_of c.args.consts.now in
    let h = c.args.arena.now in
    let name = or_nothing (texts c.args.name) in
    let read = c.module_parts-namespace in
    let names = c.in-Some.names.cell in
    let pairs = pairs_at h names in
    let known : IsKnownKey texts tuples h (values.Str c.args.name) = record { key = tt; leads = record { meets = tt; small = tt }; told = c.requires.name } in
    let is_dict : IsA h.objects ADict names = subst (λ (o : Option DictNo). IfSome o (λ d. IsA h.objects ADict d.cell)) c.in-Some.is read.ensures.names in
    let each = each_key texts tuples h names is_dict c.sound_law.ensures c.requires.all_told (values.Str c.args.name) known in
    let has = has_names texts tuples h name c.args.m.cell read.result.0 names (by_namespace h c.args.m.cell read.result.0 read.result.1 (Some c.in-Some.names) read.ensures.parts c.in-Some.is) in
    let there = c.in-Some-dict_get.ensures.found in
    let stands : Stands texts tuples h (values.Str c.args.name) known pairs there.at = record { within = there.stands.within; equal = there.stands.equal; first = there.stands.first } in
    let value : Some (get_or pairs there.at no_pair).1 ≡ Some c.in-Some-dict_get.v =
    sym (ap (λ (o : Option (Value × Value)). option_map (λ (pair : Value × Value). pair.1) o) (slice_get-get_or pairs there.at no_pair there.stands.within)) ∙ there.value in
    let same : (get_or pairs there.at no_pair).1 ≡ c.in-Some-dict_get.v = cc in
    let found = found_at texts tuples h (values.Str c.args.name) known pairs there.at each stands ∙ ap (λ (v : Value). Some (plain texts tuples v)) same in
    sym (has ∙ ap (λ (o : Option Val). found_value o) found)

pub returns-in-None-dict_get-clause-plain : goal.returns-in-None-dict_get-clause-plain
returns-in-None-dict_get-clause-plain g c =
    let texts = g.C.Constants.text_of c.args.consts.now in
    let tuples = g.C.Constants.items_of c.args.consts.now in
    let h = c.args.arena.now in
    let name = or_nothing (texts c.args.name) in
    let read = c.module_parts-namespace in
    let names = c.in-Some.names.cell in
    let pairs = pairs_at h names in
    let known : IsKnownKey texts tuples h (values.Str c.args.name) = record { key = tt; leads = record { meets = tt; small = tt }; told = c.requires.name } in
    let is_dict : IsA h.objects ADict names = subst (λ (o : Option DictNo). IfSome o (λ d. IsA h.objects ADict d.cell)) c.in-Some.is read.ensures.names in
    let each = each_key texts tuples h names is_dict c.sound_law.ensures c.requires.all_told (values.Str c.args.name) known in
    let has = has_names texts tuples h name c.args.m.cell read.result.0 names (by_namespace h c.args.m.cell read.result.0 read.result.1 (Some c.in-Some.names) read.ensures.parts c.in-Some.is) in
    let none = missing texts tuples h (values.Str c.args.name) known pairs each c.in-None-dict_get.ensures.none.differs in
    sym (has ∙ ap (λ (o : Option Val). found_value o) none)

pub returns-in-None-clause-plain : goal.returns-in-None-clause-plain
returns-in-None-clause-plain g c =
    let h = c.args.arena.now in
    let read = c.module_parts-namespace in
    sym (has_no_names (g.C.Constants.text_of c.args.consts.now) (g.C.Constants.items_of c.args.consts.now) h (or_nothing (g.C.Constants.text_of c.args.consts.now c.args.name)) c.args.m.cell read.result.0
    (by_namespace h c.args.m.cell read.result.0 read.result.1 None read.ensures.parts c.in-None.is))
