use Rattle.std.proofs.Common.{map, sym, subst}
use Rattle.mpy_base.specs.declared.builtin.Builtin.{Builtin}
use Rattle.prim_methods.specs.arena_heap.Values.{IsMethodOf}
use Rattle.prim_types.specs.py_primitives.Methods.{call_method}
use Rattle.prim_methods.specs.prim_walks.Plain.{plain, plain_pair, plain_heap}
use Rattle.prim_methods.specs.prim_faults.Outcomes.{IsOutcome}
use Rattle.prim_calls.proofs.MethodNames.{no_other}
use Rattle.prim_calls.proofs.methods.call_method.Goals as goal

pub call_list_append-requires-clause-list : goal.call_list_append-requires-clause-list
call_list_append-requires-clause-list g c = subst (λ (m : Builtin). IsMethodOf m c.args.object) c.in-ListAppend.is c.requires.method

pub returns-in-ListAppend : goal.returns-in-ListAppend
returns-in-ListAppend g c =
    let texts = g.C.Constants.text_of c.args.consts.now in
    let tuples = g.C.Constants.items_of c.args.consts.now in
    let h = c.args.arena.now in
    subst (λ (m : Builtin). IsOutcome texts tuples h c.call_list_append.new.arena c.call_list_append.result (call_method (plain_heap texts tuples h) m (plain texts tuples c.args.object) (map (plain texts tuples) c.args.args.now) (map (plain_pair texts tuples) c.args.keys.now))) (sym c.in-ListAppend.is) c.call_list_append.ensures

pub call_list_pop-requires-clause-list : goal.call_list_pop-requires-clause-list
call_list_pop-requires-clause-list g c = subst (λ (m : Builtin). IsMethodOf m c.args.object) c.in-ListPop.is c.requires.method

pub returns-in-ListPop : goal.returns-in-ListPop
returns-in-ListPop g c =
    let texts = g.C.Constants.text_of c.args.consts.now in
    let tuples = g.C.Constants.items_of c.args.consts.now in
    let h = c.args.arena.now in
    subst (λ (m : Builtin). IsOutcome texts tuples h c.call_list_pop.new.arena c.call_list_pop.result (call_method (plain_heap texts tuples h) m (plain texts tuples c.args.object) (map (plain texts tuples) c.args.args.now) (map (plain_pair texts tuples) c.args.keys.now))) (sym c.in-ListPop.is) c.call_list_pop.ensures

pub call_list_insert-requires-clause-list : goal.call_list_insert-requires-clause-list
call_list_insert-requires-clause-list g c = subst (λ (m : Builtin). IsMethodOf m c.args.object) c.in-ListInsert.is c.requires.method

pub returns-in-ListInsert : goal.returns-in-ListInsert
returns-in-ListInsert g c =
    let texts = g.C.Constants.text_of c.args.consts.now in
    let tuples = g.C.Constants.items_of c.args.consts.now in
    let h = c.args.arena.now in
    subst (λ (m : Builtin). IsOutcome texts tuples h c.call_list_insert.new.arena c.call_list_insert.result (call_method (plain_heap texts tuples h) m (plain texts tuples c.args.object) (map (plain texts tuples) c.args.args.now) (map (plain_pair texts tuples) c.args.keys.now))) (sym c.in-ListInsert.is) c.call_list_insert.ensures

pub call_list_extend-requires-clause-list : goal.call_list_extend-requires-clause-list
call_list_extend-requires-clause-list g c = subst (λ (m : Builtin). IsMethodOf m c.args.object) c.in-ListExtend.is c.requires.method

pub returns-in-ListExtend : goal.returns-in-ListExtend
returns-in-ListExtend g c =
    let texts = g.C.Constants.text_of c.args.consts.now in
    let tuples = g.C.Constants.items_of c.args.consts.now in
    let h = c.args.arena.now in
    subst (λ (m : Builtin). IsOutcome texts tuples h c.call_list_extend.new.arena c.call_list_extend.result (call_method (plain_heap texts tuples h) m (plain texts tuples c.args.object) (map (plain texts tuples) c.args.args.now) (map (plain_pair texts tuples) c.args.keys.now))) (sym c.in-ListExtend.is) c.call_list_extend.ensures

pub call_dict_get-requires-clause-dict : goal.call_dict_get-requires-clause-dict
call_dict_get-requires-clause-dict g c = subst (λ (m : Builtin). IsMethodOf m c.args.object) c.in-DictGet.is c.requires.method

pub returns-in-DictGet : goal.returns-in-DictGet
returns-in-DictGet g c =
    let texts = g.C.Constants.text_of c.args.consts.now in
    let tuples = g.C.Constants.items_of c.args.consts.now in
    let h = c.args.arena.now in
    subst (λ (m : Builtin). IsOutcome texts tuples h c.args.arena.now c.call_dict_get.result (call_method (plain_heap texts tuples h) m (plain texts tuples c.args.object) (map (plain texts tuples) c.args.args.now) (map (plain_pair texts tuples) c.args.keys.now))) (sym c.in-DictGet.is) c.call_dict_get.ensures

pub call_dict_keys-requires-clause-dict : goal.call_dict_keys-requires-clause-dict
call_dict_keys-requires-clause-dict g c = subst (λ (m : Builtin). IsMethodOf m c.args.object) c.in-DictKeys.is c.requires.method

pub returns-in-DictKeys : goal.returns-in-DictKeys
returns-in-DictKeys g c =
    let texts = g.C.Constants.text_of c.args.consts.now in
    let tuples = g.C.Constants.items_of c.args.consts.now in
    let h = c.args.arena.now in
    subst (λ (m : Builtin). IsOutcome texts tuples h c.call_dict_keys.new.arena c.call_dict_keys.result (call_method (plain_heap texts tuples h) m (plain texts tuples c.args.object) (map (plain texts tuples) c.args.args.now) (map (plain_pair texts tuples) c.args.keys.now))) (sym c.in-DictKeys.is) c.call_dict_keys.ensures

pub call_dict_values-requires-clause-dict : goal.call_dict_values-requires-clause-dict
call_dict_values-requires-clause-dict g c = subst (λ (m : Builtin). IsMethodOf m c.args.object) c.in-DictValues.is c.requires.method

pub returns-in-DictValues : goal.returns-in-DictValues
returns-in-DictValues g c =
    let texts = g.C.Constants.text_of c.args.consts.now in
    let tuples = g.C.Constants.items_of c.args.consts.now in
    let h = c.args.arena.now in
    subst (λ (m : Builtin). IsOutcome texts tuples h c.call_dict_values.new.arena c.call_dict_values.result (call_method (plain_heap texts tuples h) m (plain texts tuples c.args.object) (map (plain texts tuples) c.args.args.now) (map (plain_pair texts tuples) c.args.keys.now))) (sym c.in-DictValues.is) c.call_dict_values.ensures

pub call_dict_items-requires-clause-dict : goal.call_dict_items-requires-clause-dict
call_dict_items-requires-clause-dict g c = subst (λ (m : Builtin). IsMethodOf m c.args.object) c.in-DictItems.is c.requires.method

pub returns-in-DictItems : goal.returns-in-DictItems
returns-in-DictItems g c =
    let texts = g.C.Constants.text_of c.args.consts.now in
    let tuples = g.C.Constants.items_of c.args.consts.now in
    let h = c.args.arena.now in
    subst (λ (m : Builtin). IsOutcome texts tuples h c.call_dict_items.new.arena c.call_dict_items.result (call_method (plain_heap texts tuples h) m (plain texts tuples c.args.object) (map (plain texts tuples) c.args.args.now) (map (plain_pair texts tuples) c.args.keys.now))) (sym c.in-DictItems.is) c.call_dict_items.ensures

pub call_dict_pop-requires-clause-dict : goal.call_dict_pop-requires-clause-dict
call_dict_pop-requires-clause-dict g c = subst (λ (m : Builtin). IsMethodOf m c.args.object) c.in-DictPop.is c.requires.method

pub returns-in-DictPop : goal.returns-in-DictPop
returns-in-DictPop g c =
    let texts = g.C.Constants.text_of c.args.consts.now in
    let tuples = g.C.Constants.items_of c.args.consts.now in
    let h = c.args.arena.now in
    subst (λ (m : Builtin). IsOutcome texts tuples h c.call_dict_pop.new.arena c.call_dict_pop.result (call_method (plain_heap texts tuples h) m (plain texts tuples c.args.object) (map (plain texts tuples) c.args.args.now) (map (plain_pair texts tuples) c.args.keys.now))) (sym c.in-DictPop.is) c.call_dict_pop.ensures

pub call_str_join-requires-clause-str : goal.call_str_join-requires-clause-str
call_str_join-requires-clause-str g c = subst (λ (m : Builtin). IsMethodOf m c.args.object) c.in-StrJoin.is c.requires.method

pub returns-in-StrJoin : goal.returns-in-StrJoin
returns-in-StrJoin g c =
    let texts = g.C.Constants.text_of c.args.consts.now in
    let tuples = g.C.Constants.items_of c.args.consts.now in
    let h = c.args.arena.now in
    subst (λ (m : Builtin). IsOutcome texts tuples h c.call_str_join.new.arena c.call_str_join.result (call_method (plain_heap texts tuples h) m (plain texts tuples c.args.object) (map (plain texts tuples) c.args.args.now) (map (plain_pair texts tuples) c.args.keys.now))) (sym c.in-StrJoin.is) c.call_str_join.ensures

pub call_str_find-requires-clause-str : goal.call_str_find-requires-clause-str
call_str_find-requires-clause-str g c = subst (λ (m : Builtin). IsMethodOf m c.args.object) c.in-StrFind.is c.requires.method

pub returns-in-StrFind : goal.returns-in-StrFind
returns-in-StrFind g c =
    let texts = g.C.Constants.text_of c.args.consts.now in
    let tuples = g.C.Constants.items_of c.args.consts.now in
    let h = c.args.arena.now in
    subst (λ (m : Builtin). IsOutcome texts tuples h c.args.arena.now c.call_str_find.result (call_method (plain_heap texts tuples h) m (plain texts tuples c.args.object) (map (plain texts tuples) c.args.args.now) (map (plain_pair texts tuples) c.args.keys.now))) (sym c.in-StrFind.is) c.call_str_find.ensures

pub call_str_startswith-requires-clause-str : goal.call_str_startswith-requires-clause-str
call_str_startswith-requires-clause-str g c = subst (λ (m : Builtin). IsMethodOf m c.args.object) c.in-StrStartsWith.is c.requires.method

pub returns-in-StrStartsWith : goal.returns-in-StrStartsWith
returns-in-StrStartsWith g c =
    let texts = g.C.Constants.text_of c.args.consts.now in
    let tuples = g.C.Constants.items_of c.args.consts.now in
    let h = c.args.arena.now in
    subst (λ (m : Builtin). IsOutcome texts tuples h c.args.arena.now c.call_str_startswith.result (call_method (plain_heap texts tuples h) m (plain texts tuples c.args.object) (map (plain texts tuples) c.args.args.now) (map (plain_pair texts tuples) c.args.keys.now))) (sym c.in-StrStartsWith.is) c.call_str_startswith.ensures

pub call_str_split-requires-clause-str : goal.call_str_split-requires-clause-str
call_str_split-requires-clause-str g c = subst (λ (m : Builtin). IsMethodOf m c.args.object) c.in-StrSplit.is c.requires.method

pub returns-in-StrSplit : goal.returns-in-StrSplit
returns-in-StrSplit g c =
    let texts = g.C.Constants.text_of c.args.consts.now in
    let tuples = g.C.Constants.items_of c.args.consts.now in
    let h = c.args.arena.now in
    subst (λ (m : Builtin). IsOutcome texts tuples h c.call_str_split.new.arena c.call_str_split.result (call_method (plain_heap texts tuples h) m (plain texts tuples c.args.object) (map (plain texts tuples) c.args.args.now) (map (plain_pair texts tuples) c.args.keys.now))) (sym c.in-StrSplit.is) c.call_str_split.ensures

pub unreachable-requires : goal.unreachable-requires
unreachable-requires g c =
    no_other c.args.method c.args.object c.requires.method c.in_default.not-ListAppend c.in_default.not-ListPop c.in_default.not-ListInsert c.in_default.not-ListExtend c.in_default.not-DictGet c.in_default.not-DictKeys c.in_default.not-DictValues c.in_default.not-DictItems c.in_default.not-DictPop c.in_default.not-StrJoin c.in_default.not-StrFind c.in_default.not-StrStartsWith c.in_default.not-StrSplit
