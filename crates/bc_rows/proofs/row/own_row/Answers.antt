use Rattle.std.proofs.Common.{◌∙◌, ◌∷◌, length, map, refl, ap, arith}
use Rattle.bc_library.specs.Texts.{text_numbered}
use Rattle.bc_library.specs.bc_flow.Code.{locals}
use Rattle.bc_prelude.proofs.Pieces.{parts_short}
use Rattle.bc_rows.proofs.Preludes.{indexes_of, list_of, few_args, some_first, first_out}
use Rattle.bc_rows.proofs.row.own_row.Goals as goal

pub parts_of-parts-requires : goal.parts_of-parts-requires
parts_of-parts-requires c = let o = c.requires.own.2 in (o.prelude, o.begins)

pub overflow_add-count : goal.overflow_add-count
overflow_add-count c = let few = few_args c.args.code.now c.parts_of-parts.result.prelude c.parts_of-parts.ensures.begins in omega (arith, few)

pub texts_of-requires : goal.texts_of-requires
texts_of-requires c =
    let h = c.parts_of-parts.ensures in
    (h.begins.indexes, indexes_of c.args.library.now c.args.number c.args.code.now c.requires.own _ _ _ _ h)

pub remove-name-requires : goal.remove-name-requires
remove-name-requires c =
    let h = c.parts_of-parts.ensures in
    let a = indexes_of c.args.library.now c.args.number c.args.code.now c.requires.own _ _ _ _ h in
    let some = some_first _ _ c.in_ok-params.params.items h.begins.indexes c.parts_of-parts.result.prelude.args (c.in_ok-params.ensures h.begins.indexes a) a.many in
    let ok = c.in_ok-params.params.ok.0 in
    omega (arith, some, ok)

pub items_of-requires-clause-decodes : goal.items_of-requires-clause-decodes
items_of-requires-clause-decodes c = list_of c.args.library.now c.args.number c.args.code.now c.requires.own _ _ _ _ c.parts_of-parts.ensures

pub items_of-requires-clause-short : goal.items_of-requires-clause-short
items_of-requires-clause-short c =
    let h = c.parts_of-parts.ensures in
    let inside = parts_short c.args.code.now c.parts_of-parts.result.prelude h.begins in
    omega (arith, c.requires.short, inside, ap length h.instructions_are)

pub returns : goal.returns
returns c =
    let h = c.parts_of-parts.ensures in
    let prelude = c.parts_of-parts.result.prelude in
    let a = indexes_of c.args.library.now c.args.number c.args.code.now c.requires.own _ _ _ _ h in
    let texts = c.in_ok-params.ensures h.begins.indexes a in
    let some = some_first _ _ c.in_ok-params.params.items h.begins.indexes prelude.args texts a.many in
    let whole = first_out c.in_ok-params.params.items c.remove-name.result some c.remove-name.ensures.value in
    let inside = parts_short c.args.code.now prelude h.begins in
    record {
      prelude = prelude;
      begins = h.begins;
      instructions = h.instructions_are;
      line_table = h.lines_are;
      names = ap (λ z. map (text_numbered c.args.library.now.pool) (c.remove-name.result ∷ z)) (c.from_vec.ensures ∙ c.remove-name.ensures.items) ∙ (ap (map (text_numbered c.args.library.now.pool)) whole ∙ texts);
      source = c.requires.source;
      given = refl;
      n_state = refl;
      n_exc = refl;
      children = c.new.ensures;
      list = record { items = c.in_ok-listed.listed.items.items; offsets = c.in_ok-listed.listed.offsets.items };
      listed = c.in_ok-listed.ensures;
      short = omega (arith, inside, c.requires.short, ap length h.instructions_are);
      locals = c.locals_in.ensures ∙ ap (locals prelude.args) c.deref.ensures.value;
    }
