use Rattle.std.proofs.Common.{◌≡◌, ◌∙◌, ap}
use Rattle.arena_heap.specs.declared.value.Value.TheVariants as values
use Rattle.arena_heap.specs.declared.value.StrNo.{StrNo}
use Rattle.arena_heap.specs.declared.value.StrNo.TheVariants as strs
use Rattle.arena_objects.proofs.NamedPlaces.{named_stands, named_lacks}
use Rattle.arena_objects.proofs.finding.by_number.Goals as goal

pub returns-clause-found : goal.returns-clause-found
returns-clause-found g c =
    let name : c.in-Str-Pool.field-0 ≡ strs.Pool c.in-Str-Pool.number = rw c.in-Str-Pool.is at c.in-Str-Pool.field-0-is in
    let is : c.args.key ≡ values.Str (strs.Pool c.in-Str-Pool.number) = c.in-Str-Pool.is ∙ ap (λ (s : StrNo). values.Str s) name in
    named_stands (g.C.Constants.text_of c.args.consts.now) (g.C.Constants.items_of c.args.consts.now) c.one_number_law.ensures c.args.arena.now c.args.d.cell
    c.in-Str-Pool.number c.args.key is c.requires.told c.dict_named.result c.dict_named.ensures

pub returns-clause-none : goal.returns-clause-none
returns-clause-none g c =
    let name : c.in-Str-Pool.field-0 ≡ strs.Pool c.in-Str-Pool.number = rw c.in-Str-Pool.is at c.in-Str-Pool.field-0-is in
    let is : c.args.key ≡ values.Str (strs.Pool c.in-Str-Pool.number) = c.in-Str-Pool.is ∙ ap (λ (s : StrNo). values.Str s) name in
    named_lacks (g.C.Constants.text_of c.args.consts.now) (g.C.Constants.items_of c.args.consts.now) c.one_number_law.ensures c.args.arena.now c.args.d.cell
    c.in-Str-Pool.number c.args.key is c.requires.told c.dict_named.result c.dict_named.ensures
