use Rattle.std.proofs.Common.{◌≡◌, map, min, sym, subst}
use Rattle.mpy_base.specs.declared.builtin.Builtin.{Builtin}
use Rattle.prim_methods.specs.arena_heap.Values.{IsMethodOf}
use Rattle.prim_types.specs.py_primitives.Methods.{call_method}
use Rattle.prim_methods.specs.prim_walks.Plain.{plain, plain_pair, plain_heap}
use Rattle.prim_calls.proofs.FreeOutcomes.{nothing}
use Rattle.prim_calls.proofs.FreeMethods.{method_free}
use Rattle.prim_calls.proofs.visits.visits_call_method.Goals as goal

pub visits_call_list_extend-requires-clause-list : goal.visits_call_list_extend-requires-clause-list
visits_call_list_extend-requires-clause-list g c = subst (λ (m : Builtin). IsMethodOf m c.args.object) c.in-ListExtend.is c.requires.method

pub returns-in-ListExtend : goal.returns-in-ListExtend
returns-in-ListExtend g c =
    let texts = g.C.Constants.text_of c.args.consts.now in
    let tuples = g.C.Constants.items_of c.args.consts.now in
    let heap = plain_heap texts tuples c.args.arena.now in
    let args = map (plain texts tuples) c.args.args.now in
    let keys = map (plain_pair texts tuples) c.args.keys.now in
    subst (λ (m : Builtin). c.visits_call_list_extend.result ≡ min (call_method heap m (plain texts tuples c.args.object) args keys).visits c.args.most) (sym c.in-ListExtend.is) c.visits_call_list_extend.ensures

pub visits_call_dict_keys-requires-clause-dict : goal.visits_call_dict_keys-requires-clause-dict
visits_call_dict_keys-requires-clause-dict g c = subst (λ (m : Builtin). IsMethodOf m c.args.object) c.in-DictKeys.is c.requires.method

pub returns-in-DictKeys : goal.returns-in-DictKeys
returns-in-DictKeys g c =
    let texts = g.C.Constants.text_of c.args.consts.now in
    let tuples = g.C.Constants.items_of c.args.consts.now in
    let heap = plain_heap texts tuples c.args.arena.now in
    let args = map (plain texts tuples) c.args.args.now in
    let keys = map (plain_pair texts tuples) c.args.keys.now in
    subst (λ (m : Builtin). c.visits_call_dict_keys.result ≡ min (call_method heap m (plain texts tuples c.args.object) args keys).visits c.args.most) (sym c.in-DictKeys.is) c.visits_call_dict_keys.ensures

pub visits_call_dict_values-requires-clause-dict : goal.visits_call_dict_values-requires-clause-dict
visits_call_dict_values-requires-clause-dict g c = subst (λ (m : Builtin). IsMethodOf m c.args.object) c.in-DictValues.is c.requires.method

pub returns-in-DictValues : goal.returns-in-DictValues
returns-in-DictValues g c =
    let texts = g.C.Constants.text_of c.args.consts.now in
    let tuples = g.C.Constants.items_of c.args.consts.now in
    let heap = plain_heap texts tuples c.args.arena.now in
    let args = map (plain texts tuples) c.args.args.now in
    let keys = map (plain_pair texts tuples) c.args.keys.now in
    subst (λ (m : Builtin). c.visits_call_dict_values.result ≡ min (call_method heap m (plain texts tuples c.args.object) args keys).visits c.args.most) (sym c.in-DictValues.is) c.visits_call_dict_values.ensures

pub visits_call_dict_items-requires-clause-dict : goal.visits_call_dict_items-requires-clause-dict
visits_call_dict_items-requires-clause-dict g c = subst (λ (m : Builtin). IsMethodOf m c.args.object) c.in-DictItems.is c.requires.method

pub returns-in-DictItems : goal.returns-in-DictItems
returns-in-DictItems g c =
    let texts = g.C.Constants.text_of c.args.consts.now in
    let tuples = g.C.Constants.items_of c.args.consts.now in
    let heap = plain_heap texts tuples c.args.arena.now in
    let args = map (plain texts tuples) c.args.args.now in
    let keys = map (plain_pair texts tuples) c.args.keys.now in
    subst (λ (m : Builtin). c.visits_call_dict_items.result ≡ min (call_method heap m (plain texts tuples c.args.object) args keys).visits c.args.most) (sym c.in-DictItems.is) c.visits_call_dict_items.ensures

pub visits_call_str_join-requires-clause-str : goal.visits_call_str_join-requires-clause-str
visits_call_str_join-requires-clause-str g c = subst (λ (m : Builtin). IsMethodOf m c.args.object) c.in-StrJoin.is c.requires.method

pub returns-in-StrJoin : goal.returns-in-StrJoin
returns-in-StrJoin g c =
    let texts = g.C.Constants.text_of c.args.consts.now in
    let tuples = g.C.Constants.items_of c.args.consts.now in
    let heap = plain_heap texts tuples c.args.arena.now in
    let args = map (plain texts tuples) c.args.args.now in
    let keys = map (plain_pair texts tuples) c.args.keys.now in
    subst (λ (m : Builtin). c.visits_call_str_join.result ≡ min (call_method heap m (plain texts tuples c.args.object) args keys).visits c.args.most) (sym c.in-StrJoin.is) c.visits_call_str_join.ensures

pub returns-in_default : goal.returns-in_default
returns-in_default g c =
    let texts = g.C.Constants.text_of c.args.consts.now in
    let tuples = g.C.Constants.items_of c.args.consts.now in
    let heap = plain_heap texts tuples c.args.arena.now in
    let args = map (plain texts tuples) c.args.args.now in
    let keys = map (plain_pair texts tuples) c.args.keys.now in
    nothing (call_method heap c.args.method (plain texts tuples c.args.object) args keys).visits c.args.most
    (method_free heap c.args.method args c.in_default.not-ListExtend c.in_default.not-DictKeys c.in_default.not-DictValues c.in_default.not-DictItems c.in_default.not-StrJoin (plain texts tuples c.args.object) keys)
