use Rattle.std.proofs.Common.{map, sym, subst}
use Rattle.mpy_base.specs.declared.builtin.Builtin.{Builtin}
use Rattle.prim_types.specs.py_primitives.Calls.{call}
use Rattle.prim_methods.specs.prim_walks.Plain.{plain, plain_pair, plain_heap}
use Rattle.prim_methods.specs.prim_faults.Outcomes.{IsOutcome}
use Rattle.prim_calls.proofs.BuiltinNames.{all_unbound}
use Rattle.prim_calls.proofs.builtins.call_on_heap.Goals as goal

pub returns-in-Bool : goal.returns-in-Bool
returns-in-Bool g c =
    let texts = g.C.Constants.text_of c.args.consts.now in
    let tuples = g.C.Constants.items_of c.args.consts.now in
    let h = c.args.arena.now in
    subst (λ (b : Builtin). IsOutcome texts tuples h c.args.arena.now c.call_bool.result (call (plain_heap texts tuples h) b (map (plain texts tuples) c.args.args.now) (map (plain_pair texts tuples) c.args.keys.now))) (sym c.in-Bool.is) c.call_bool.ensures

pub returns-in-Int : goal.returns-in-Int
returns-in-Int g c =
    let texts = g.C.Constants.text_of c.args.consts.now in
    let tuples = g.C.Constants.items_of c.args.consts.now in
    let h = c.args.arena.now in
    subst (λ (b : Builtin). IsOutcome texts tuples h c.args.arena.now c.call_int.result (call (plain_heap texts tuples h) b (map (plain texts tuples) c.args.args.now) (map (plain_pair texts tuples) c.args.keys.now))) (sym c.in-Int.is) c.call_int.ensures

pub returns-in-Str : goal.returns-in-Str
returns-in-Str g c =
    let texts = g.C.Constants.text_of c.args.consts.now in
    let tuples = g.C.Constants.items_of c.args.consts.now in
    let h = c.args.arena.now in
    subst (λ (b : Builtin). IsOutcome texts tuples h c.call_shown.new.arena c.call_shown.result (call (plain_heap texts tuples h) b (map (plain texts tuples) c.args.args.now) (map (plain_pair texts tuples) c.args.keys.now))) (sym c.in-Str.is) c.call_shown.ensures

pub returns-in-List : goal.returns-in-List
returns-in-List g c =
    let texts = g.C.Constants.text_of c.args.consts.now in
    let tuples = g.C.Constants.items_of c.args.consts.now in
    let h = c.args.arena.now in
    subst (λ (b : Builtin). IsOutcome texts tuples h c.call_list.new.arena c.call_list.result (call (plain_heap texts tuples h) b (map (plain texts tuples) c.args.args.now) (map (plain_pair texts tuples) c.args.keys.now))) (sym c.in-List.is) c.call_list.ensures

pub returns-in-Tuple : goal.returns-in-Tuple
returns-in-Tuple g c =
    let texts = g.C.Constants.text_of c.args.consts.now in
    let tuples = g.C.Constants.items_of c.args.consts.now in
    let h = c.args.arena.now in
    subst (λ (b : Builtin). IsOutcome texts tuples h c.call_tuple.new.arena c.call_tuple.result (call (plain_heap texts tuples h) b (map (plain texts tuples) c.args.args.now) (map (plain_pair texts tuples) c.args.keys.now))) (sym c.in-Tuple.is) c.call_tuple.ensures

pub returns-in-Dict : goal.returns-in-Dict
returns-in-Dict g c =
    let texts = g.C.Constants.text_of c.args.consts.now in
    let tuples = g.C.Constants.items_of c.args.consts.now in
    let h = c.args.arena.now in
    subst (λ (b : Builtin). IsOutcome texts tuples h c.call_dict.new.arena c.call_dict.result (call (plain_heap texts tuples h) b (map (plain texts tuples) c.args.args.now) (map (plain_pair texts tuples) c.args.keys.now))) (sym c.in-Dict.is) c.call_dict.ensures

pub returns-in-Len : goal.returns-in-Len
returns-in-Len g c =
    let texts = g.C.Constants.text_of c.args.consts.now in
    let tuples = g.C.Constants.items_of c.args.consts.now in
    let h = c.args.arena.now in
    subst (λ (b : Builtin). IsOutcome texts tuples h c.args.arena.now c.call_len.result (call (plain_heap texts tuples h) b (map (plain texts tuples) c.args.args.now) (map (plain_pair texts tuples) c.args.keys.now))) (sym c.in-Len.is) c.call_len.ensures

pub returns-in-Abs : goal.returns-in-Abs
returns-in-Abs g c =
    let texts = g.C.Constants.text_of c.args.consts.now in
    let tuples = g.C.Constants.items_of c.args.consts.now in
    let h = c.args.arena.now in
    subst (λ (b : Builtin). IsOutcome texts tuples h c.args.arena.now c.call_abs.result (call (plain_heap texts tuples h) b (map (plain texts tuples) c.args.args.now) (map (plain_pair texts tuples) c.args.keys.now))) (sym c.in-Abs.is) c.call_abs.ensures

pub returns-in-Range : goal.returns-in-Range
returns-in-Range g c =
    let texts = g.C.Constants.text_of c.args.consts.now in
    let tuples = g.C.Constants.items_of c.args.consts.now in
    let h = c.args.arena.now in
    subst (λ (b : Builtin). IsOutcome texts tuples h c.call_range.new.arena c.call_range.result (call (plain_heap texts tuples h) b (map (plain texts tuples) c.args.args.now) (map (plain_pair texts tuples) c.args.keys.now))) (sym c.in-Range.is) c.call_range.ensures

pub returns-in-Min : goal.returns-in-Min
returns-in-Min g c =
    let texts = g.C.Constants.text_of c.args.consts.now in
    let tuples = g.C.Constants.items_of c.args.consts.now in
    let h = c.args.arena.now in
    subst (λ (b : Builtin). IsOutcome texts tuples h c.call_min.new.arena c.call_min.result (call (plain_heap texts tuples h) b (map (plain texts tuples) c.args.args.now) (map (plain_pair texts tuples) c.args.keys.now))) (sym c.in-Min.is) c.call_min.ensures

pub returns-in-Max : goal.returns-in-Max
returns-in-Max g c =
    let texts = g.C.Constants.text_of c.args.consts.now in
    let tuples = g.C.Constants.items_of c.args.consts.now in
    let h = c.args.arena.now in
    subst (λ (b : Builtin). IsOutcome texts tuples h c.call_max.new.arena c.call_max.result (call (plain_heap texts tuples h) b (map (plain texts tuples) c.args.args.now) (map (plain_pair texts tuples) c.args.keys.now))) (sym c.in-Max.is) c.call_max.ensures

pub returns-in-Repr : goal.returns-in-Repr
returns-in-Repr g c =
    let texts = g.C.Constants.text_of c.args.consts.now in
    let tuples = g.C.Constants.items_of c.args.consts.now in
    let h = c.args.arena.now in
    subst (λ (b : Builtin). IsOutcome texts tuples h c.call_shown-in-Repr.new.arena c.call_shown-in-Repr.result (call (plain_heap texts tuples h) b (map (plain texts tuples) c.args.args.now) (map (plain_pair texts tuples) c.args.keys.now))) (sym c.in-Repr.is) c.call_shown-in-Repr.ensures

pub returns-in-Ord : goal.returns-in-Ord
returns-in-Ord g c =
    let texts = g.C.Constants.text_of c.args.consts.now in
    let tuples = g.C.Constants.items_of c.args.consts.now in
    let h = c.args.arena.now in
    subst (λ (b : Builtin). IsOutcome texts tuples h c.args.arena.now c.call_ord.result (call (plain_heap texts tuples h) b (map (plain texts tuples) c.args.args.now) (map (plain_pair texts tuples) c.args.keys.now))) (sym c.in-Ord.is) c.call_ord.ensures

pub returns-in-Chr : goal.returns-in-Chr
returns-in-Chr g c =
    let texts = g.C.Constants.text_of c.args.consts.now in
    let tuples = g.C.Constants.items_of c.args.consts.now in
    let h = c.args.arena.now in
    subst (λ (b : Builtin). IsOutcome texts tuples h c.call_chr.new.arena c.call_chr.result (call (plain_heap texts tuples h) b (map (plain texts tuples) c.args.args.now) (map (plain_pair texts tuples) c.args.keys.now))) (sym c.in-Chr.is) c.call_chr.ensures

pub returns-in-IsInstance : goal.returns-in-IsInstance
returns-in-IsInstance g c =
    let texts = g.C.Constants.text_of c.args.consts.now in
    let tuples = g.C.Constants.items_of c.args.consts.now in
    let h = c.args.arena.now in
    subst (λ (b : Builtin). IsOutcome texts tuples h c.args.arena.now c.call_isinstance.result (call (plain_heap texts tuples h) b (map (plain texts tuples) c.args.args.now) (map (plain_pair texts tuples) c.args.keys.now))) (sym c.in-IsInstance.is) c.call_isinstance.ensures

pub returns-in-Kind : goal.returns-in-Kind
returns-in-Kind g c =
    let texts = g.C.Constants.text_of c.args.consts.now in
    let tuples = g.C.Constants.items_of c.args.consts.now in
    let h = c.args.arena.now in
    subst (λ (b : Builtin). IsOutcome texts tuples h c.call_kind.new.arena c.call_kind.result (call (plain_heap texts tuples h) b (map (plain texts tuples) c.args.args.now) (map (plain_pair texts tuples) c.args.keys.now))) (sym c.in-Kind.is) c.call_kind.ensures

pub call_unbound-requires-clause-method : goal.call_unbound-requires-clause-method
call_unbound-requires-clause-method g c =
    all_unbound c.args.b c.requires.on_heap c.in_default.not-Bool c.in_default.not-Int c.in_default.not-Str c.in_default.not-List c.in_default.not-Tuple c.in_default.not-Dict c.in_default.not-Len c.in_default.not-Abs c.in_default.not-Range c.in_default.not-Min c.in_default.not-Max c.in_default.not-Repr c.in_default.not-Ord c.in_default.not-Chr c.in_default.not-IsInstance c.in_default.not-Kind
