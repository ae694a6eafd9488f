use Rattle.std.proofs.Common.{ℕ, zero, List, refl, sym, ap, ◌∙◌, subst, arith}
use Rattle.std.specs.Prelude.{bytes_eq, codes, if◌then◌else◌, All}
use Rattle.prim_faults.specs.mpy_base.Val.{Built}
use Rattle.prim_faults.specs.mpy_base.World.{ATuple, AFunction, AMethod, ARange}
use Rattle.prim_faults.specs.arena_heap.declared.value.Value.{Value}
use Rattle.prim_faults.specs.arena_heap.declared.value.Value.TheVariants as values
use Rattle.prim_faults.specs.arena_heap.Values.{Leads, IsStr, IsList, IsDict, held}
use Rattle.prim_faults.specs.arena_heap.Constants.{IsTold}
use Rattle.prim_faults.specs.arena_objects.Iterables.{or_nothing}
use Rattle.prim_faults.specs.py_primitives.Builtins.{named, list_methods, dict_methods, str_methods}
use Rattle.prim_faults.specs.py_primitives.Uses.{Found, Absent, found_method, attribute}
use Rattle.prim_faults.specs.prim_walks.Plain.{plain, plain_heap}
use Rattle.prim_faults.specs.Faults.{IsKnown}
use Rattle.prim_operators.proofs.AttributeUses.{has_str_methods, has_list_methods, has_dict_methods, has_args, has_none, nothing_here}
use Rattle.prim_operators.proofs.attributes.attribute_of.Goals as goal

pub returns-in-Str-clause-plain : goal.returns-in-Str-clause-plain
returns-in-Str-clause-plain g c =
    let texts = g.C.Constants.text_of c.args.consts.now in
    let tuples = g.C.Constants.items_of c.args.consts.now in
    let h = c.args.arena.now in
    let heap = plain_heap texts tuples h in
    let name = or_nothing (texts c.args.name) in
    let is : IsStr c.args.v = subst IsStr (sym c.in-Str.is) tt in
    (c.str_attribute.ensures texts tuples h.objects c.args.v is).0
    ∙ (ap (λ (xs : List ℕ). found_method (named str_methods xs)) c.name_bytes-text.ensures.bytes ∙ sym (has_str_methods texts tuples h name c.args.v is c.requires.leads))

pub returns-in-Str-clause-known : goal.returns-in-Str-clause-known
returns-in-Str-clause-known g c =
    let texts = g.C.Constants.text_of c.args.consts.now in
    let tuples = g.C.Constants.items_of c.args.consts.now in
    let h = c.args.arena.now in
    let heap = plain_heap texts tuples h in
    let name = or_nothing (texts c.args.name) in
    (c.str_attribute.ensures texts tuples h.objects c.args.v (subst IsStr (sym c.in-Str.is) tt)).1

pub returns-in-Text-clause-plain : goal.returns-in-Text-clause-plain
returns-in-Text-clause-plain g c =
    let texts = g.C.Constants.text_of c.args.consts.now in
    let tuples = g.C.Constants.items_of c.args.consts.now in
    let h = c.args.arena.now in
    let heap = plain_heap texts tuples h in
    let name = or_nothing (texts c.args.name) in
    let is : IsStr c.args.v = subst IsStr (sym c.in-Text.is) tt in
    (c.str_attribute-in-Text.ensures texts tuples h.objects c.args.v is).0
    ∙ (ap (λ (xs : List ℕ). found_method (named str_methods xs)) c.name_bytes-text.ensures.bytes ∙ sym (has_str_methods texts tuples h name c.args.v is c.requires.leads))

pub returns-in-Text-clause-known : goal.returns-in-Text-clause-known
returns-in-Text-clause-known g c =
    let texts = g.C.Constants.text_of c.args.consts.now in
    let tuples = g.C.Constants.items_of c.args.consts.now in
    let h = c.args.arena.now in
    let heap = plain_heap texts tuples h in
    let name = or_nothing (texts c.args.name) in
    (c.str_attribute-in-Text.ensures texts tuples h.objects c.args.v (subst IsStr (sym c.in-Text.is) tt)).1

pub returns-in-List-clause-plain : goal.returns-in-List-clause-plain
returns-in-List-clause-plain g c =
    let texts = g.C.Constants.text_of c.args.consts.now in
    let tuples = g.C.Constants.items_of c.args.consts.now in
    let h = c.args.arena.now in
    let heap = plain_heap texts tuples h in
    let name = or_nothing (texts c.args.name) in
    let is : IsList c.args.v = subst IsList (sym c.in-List.is) tt in
    (c.list_attribute.ensures texts tuples h.objects c.args.v is).0
    ∙ (ap (λ (xs : List ℕ). found_method (named list_methods xs)) c.name_bytes-text.ensures.bytes ∙ sym (has_list_methods texts tuples h name c.args.v is c.requires.leads))

pub returns-in-List-clause-known : goal.returns-in-List-clause-known
returns-in-List-clause-known g c =
    let texts = g.C.Constants.text_of c.args.consts.now in
    let tuples = g.C.Constants.items_of c.args.consts.now in
    let h = c.args.arena.now in
    let heap = plain_heap texts tuples h in
    let name = or_nothing (texts c.args.name) in
    (c.list_attribute.ensures texts tuples h.objects c.args.v (subst IsList (sym c.in-List.is) tt)).1

pub returns-in-Dict-clause-plain : goal.returns-in-Dict-clause-plain
returns-in-Dict-clause-plain g c =
    let texts = g.C.Constants.text_of c.args.consts.now in
    let tuples = g.C.Constants.items_of c.args.consts.now in
    let h = c.args.arena.now in
    let heap = plain_heap texts tuples h in
    let name = or_nothing (texts c.args.name) in
    let is : IsDict c.args.v = subst IsDict (sym c.in-Dict.is) tt in
    (c.dict_attribute.ensures texts tuples h.objects c.args.v is).0
    ∙ (ap (λ (xs : List ℕ). found_method (named dict_methods xs)) c.name_bytes-text.ensures.bytes ∙ sym (has_dict_methods texts tuples h name c.args.v is c.requires.leads))

pub returns-in-Dict-clause-known : goal.returns-in-Dict-clause-known
returns-in-Dict-clause-known g c =
    let texts = g.C.Constants.text_of c.args.consts.now in
    let tuples = g.C.Constants.items_of c.args.consts.now in
    let h = c.args.arena.now in
    let heap = plain_heap texts tuples h in
    let name = or_nothing (texts c.args.name) in
    (c.dict_attribute.ensures texts tuples h.objects c.args.v (subst IsDict (sym c.in-Dict.is) tt)).1

pub returns-in-Fixed-clause-plain : goal.returns-in-Fixed-clause-plain
returns-in-Fixed-clause-plain g c =
    let texts = g.C.Constants.text_of c.args.consts.now in
    let tuples = g.C.Constants.items_of c.args.consts.now in
    let h = c.args.arena.now in
    let heap = plain_heap texts tuples h in
    let name = or_nothing (texts c.args.name) in
    sym (has_none texts tuples h name c.args.v _ c.in-Fixed.is)

pub returns-in-Exc-clause-plain : goal.returns-in-Exc-clause-plain
returns-in-Exc-clause-plain g c =
    let texts = g.C.Constants.text_of c.args.consts.now in
    let tuples = g.C.Constants.items_of c.args.consts.now in
    let h = c.args.arena.now in
    let heap = plain_heap texts tuples h in
    let name = or_nothing (texts c.args.name) in
    let args = c.exc_parts.result.1 in
    let held_args = subst (λ o. All (IsTold texts tuples) (held o)) c.exc_parts.ensures.parts (c.requires.all_told.told c.in-Exc.e.cell) in
    let known : IsKnown texts tuples h.objects args = record { leads = c.exc_parts.ensures.leads; told = held_args zero values.None (omega arith) } in
    let has = c.exception_attribute.ensures texts tuples h.objects c.args.v known in
    has.0 ∙ (ap (λ (xs : List ℕ). if bytes_eq xs (codes "args") then Found (plain texts tuples args) else Absent) c.name_bytes-text.ensures.bytes
    ∙ sym (ap (λ (w : Value). attribute heap (plain texts tuples w) name) c.in-Exc.is
    ∙ has_args texts tuples h name c.in-Exc.e.cell c.exc_parts.result.0 args c.exc_parts.result.2 c.exc_parts.result.3 c.exc_parts.result.4 c.exc_parts.ensures.parts))

pub returns-in-Exc-clause-known : goal.returns-in-Exc-clause-known
returns-in-Exc-clause-known g c =
    let texts = g.C.Constants.text_of c.args.consts.now in
    let tuples = g.C.Constants.items_of c.args.consts.now in
    let h = c.args.arena.now in
    let heap = plain_heap texts tuples h in
    let name = or_nothing (texts c.args.name) in
    let args = c.exc_parts.result.1 in
    let held_args = subst (λ o. All (IsTold texts tuples) (held o)) c.exc_parts.ensures.parts (c.requires.all_told.told c.in-Exc.e.cell) in
    let known : IsKnown texts tuples h.objects args = record { leads = c.exc_parts.ensures.leads; told = held_args zero values.None (omega arith) } in
    let has = c.exception_attribute.ensures texts tuples h.objects c.args.v known in
    has.1

pub returns-in-Built-clause-plain : goal.returns-in-Built-clause-plain
returns-in-Built-clause-plain g c =
    let texts = g.C.Constants.text_of c.args.consts.now in
    let tuples = g.C.Constants.items_of c.args.consts.now in
    let h = c.args.arena.now in
    let heap = plain_heap texts tuples h in
    let name = or_nothing (texts c.args.name) in
    (c.built_attribute.ensures texts tuples h.objects c.args.v heap).0
    ∙ (ap (λ (xs : List ℕ). attribute heap (Built c.in-Built.b) xs) c.name_bytes-text.ensures.bytes ∙ sym (ap (λ (w : Value). attribute heap (plain texts tuples w) name) c.in-Built.is))

pub returns-in-Built-clause-known : goal.returns-in-Built-clause-known
returns-in-Built-clause-known g c =
    let texts = g.C.Constants.text_of c.args.consts.now in
    let tuples = g.C.Constants.items_of c.args.consts.now in
    let h = c.args.arena.now in
    let heap = plain_heap texts tuples h in
    let name = or_nothing (texts c.args.name) in
    (c.built_attribute.ensures texts tuples h.objects c.args.v heap).1

pub returns-in-Tuple-clause-plain : goal.returns-in-Tuple-clause-plain
returns-in-Tuple-clause-plain g c =
    let texts = g.C.Constants.text_of c.args.consts.now in
    let tuples = g.C.Constants.items_of c.args.consts.now in
    let h = c.args.arena.now in
    let name = or_nothing (texts c.args.name) in
    let leads : Leads h.objects (values.Tuple c.in-Tuple.field-0) = subst (Leads h.objects) c.in-Tuple.is c.requires.leads in
    nothing_here texts tuples h name c.args.v (values.Tuple c.in-Tuple.field-0) c.in-Tuple.field-0.cell ATuple c.in-Tuple.is refl leads.meets tt

pub returns-in-Range-clause-plain : goal.returns-in-Range-clause-plain
returns-in-Range-clause-plain g c =
    let texts = g.C.Constants.text_of c.args.consts.now in
    let tuples = g.C.Constants.items_of c.args.consts.now in
    let h = c.args.arena.now in
    let name = or_nothing (texts c.args.name) in
    let leads : Leads h.objects (values.Range c.in-Range.field-0) = subst (Leads h.objects) c.in-Range.is c.requires.leads in
    nothing_here texts tuples h name c.args.v (values.Range c.in-Range.field-0) c.in-Range.field-0.cell ARange c.in-Range.is refl leads.meets tt

pub returns-in-Fun-clause-plain : goal.returns-in-Fun-clause-plain
returns-in-Fun-clause-plain g c =
    let texts = g.C.Constants.text_of c.args.consts.now in
    let tuples = g.C.Constants.items_of c.args.consts.now in
    let h = c.args.arena.now in
    let name = or_nothing (texts c.args.name) in
    let leads : Leads h.objects (values.Fun c.in-Fun.field-0) = subst (Leads h.objects) c.in-Fun.is c.requires.leads in
    nothing_here texts tuples h name c.args.v (values.Fun c.in-Fun.field-0) c.in-Fun.field-0.cell AFunction c.in-Fun.is refl leads.meets tt

pub returns-in-Method-clause-plain : goal.returns-in-Method-clause-plain
returns-in-Method-clause-plain g c =
    let texts = g.C.Constants.text_of c.args.consts.now in
    let tuples = g.C.Constants.items_of c.args.consts.now in
    let h = c.args.arena.now in
    let name = or_nothing (texts c.args.name) in
    let leads : Leads h.objects (values.Method c.in-Method.field-0) = subst (Leads h.objects) c.in-Method.is c.requires.leads in
    nothing_here texts tuples h name c.args.v (values.Method c.in-Method.field-0) c.in-Method.field-0.cell AMethod c.in-Method.is refl leads.meets tt
