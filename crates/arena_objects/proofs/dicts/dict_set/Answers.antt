use Rattle.std.proofs.Common.{ℕ, ◌≡◌, ◌∷◌, ◌++◌, [], List, Option, Result, Ok, Err, sym, subst}
use Rattle.std.specs.Result.{OnOk, IfErr}
use Rattle.arena_heap.specs.declared.value.Value.{Value}
use Rattle.arena_heap.specs.declared.value.StrNo.{StrNo}
use Rattle.arena_heap.specs.declared.value.ConstNo.{ConstNo}
use Rattle.py_values.specs.mpy_base.declared.room.NoRoom.{NoRoom}
use Rattle.py_values.specs.mpy_base.World.{Heap, pairs_at, with_dict}
use Rattle.py_values.specs.mpy_base.Weights.{Refused, with_pairs}
use Rattle.arena_heap.specs.Dicts.{with_value}
use Rattle.arena_objects.specs.Keys.{AllTold, IsValueOf, KeepsOthers, IsDistinct}
use Rattle.arena_objects.proofs.AfterSet.{texts_kept, texts_kept_more, pairs_of_with, pairs_of_more, found_set, found_added, others_set, others_added, others_unchanged, distinct_set, distinct_added}
use Rattle.arena_objects.proofs.Tolds.{told_dict, told_with_value, told_with_pairs, told_pushed}
use Rattle.arena_objects.proofs.dicts.dict_set.Goals as goal

pub returns-in-Some-clause-all_told : goal.returns-in-Some-clause-all_told
returns-in-Some-clause-all_told g c =
    let h = c.args.arena.now in
    let n = c.args.d.cell in
    let texts = g.C.Constants.text_of c.args.consts.now in
    let tuples = g.C.Constants.items_of c.args.consts.now in
    subst (λ (w : Heap Value ℕ). AllTold texts tuples w.objects) (sym c.dict_set_at.ensures.set)
    (told_dict texts tuples h n c.requires.dict c.requires.all_told (with_value (pairs_at h n) c.in-Some.at c.args.v)
    (told_with_value texts tuples h n c.requires.dict c.requires.all_told c.in-Some.at c.args.v c.in-Some.ensures.found.within c.requires.told))

pushed_told : (texts : StrNo → Option (List ℕ)) (tuples : ConstNo → Option (List Value)) (r : Result (Unit {0}) NoRoom) (old pushed new : Heap Value ℕ) (cells : ℕ) → OnOk r (new ≡ pushed)
    → IfErr r (λ e. Refused old new e cells 0) → AllTold texts tuples old.objects → AllTold texts tuples pushed.objects → AllTold texts tuples new.objects
pushed_told texts tuples (Ok x) old pushed new cells ok refused told more = subst (λ (w : Heap Value ℕ). AllTold texts tuples w.objects) (sym ok) more
pushed_told texts tuples (Err e) old pushed new cells ok refused told more = subst (λ (w : Heap Value ℕ). AllTold texts tuples w.objects) (sym refused.unchanged) told

pub returns-in-None-clause-all_told : goal.returns-in-None-clause-all_told
returns-in-None-clause-all_told g c =
    let h = c.args.arena.now in
    let n = c.args.d.cell in
    let texts = g.C.Constants.text_of c.args.consts.now in
    let tuples = g.C.Constants.items_of c.args.consts.now in
    pushed_told texts tuples c.dict_push.result h _ c.dict_push.new.arena _ c.dict_push.ensures.ok c.dict_push.ensures.refused c.requires.all_told
    (told_with_pairs texts tuples h n c.requires.dict c.requires.all_told (pairs_at h n ++ (c.args.key, c.args.v) ∷ [])
    (told_pushed texts tuples h n c.requires.dict c.requires.all_told c.args.key c.args.v c.requires.key_told c.requires.told))

pub returns-in-Some-clause-value : goal.returns-in-Some-clause-value
returns-in-Some-clause-value g c =
    let h = c.args.arena.now in
    let n = c.args.d.cell in
    let pairs = with_value (pairs_at h n) c.in-Some.at c.args.v in
    subst (λ (w : Heap Value ℕ). IsValueOf (g.C.Constants.text_of c.args.consts.now) w n c.args.key c.args.v) (sym c.dict_set_at.ensures.set)
    (found_set (g.C.Constants.text_of c.args.consts.now) h (with_dict h n pairs) n c.args.key c.args.v (texts_kept h n c.requires.dict pairs) c.in-Some.ensures.found (pairs_of_with h n c.requires.dict pairs))

ok_at : (P : Heap Value ℕ → Type 0) (r : Result (Unit {0}) NoRoom) (pushed new : Heap Value ℕ) → OnOk r (new ≡ pushed) → P pushed → OnOk r (P new)
ok_at P (Ok x) pushed new ok p = subst P (sym ok) p
ok_at P (Err e) pushed new ok p = tt

pub returns-in-None-clause-value : goal.returns-in-None-clause-value
returns-in-None-clause-value g c =
    let h = c.args.arena.now in
    let n = c.args.d.cell in
    let pairs = pairs_at h n ++ (c.args.key, c.args.v) ∷ [] in
    ok_at (λ (w : Heap Value ℕ). IsValueOf (g.C.Constants.text_of c.args.consts.now) w n c.args.key c.args.v) c.dict_push.result (with_pairs h n pairs) c.dict_push.new.arena c.dict_push.ensures.ok
    (found_added (g.C.Constants.text_of c.args.consts.now) h (with_pairs h n pairs) n c.args.key c.args.v (texts_kept_more h n c.requires.dict pairs) c.in-None.ensures.none (pairs_of_more h n c.requires.dict pairs))

pub returns-in-Some-clause-others : goal.returns-in-Some-clause-others
returns-in-Some-clause-others g c =
    let h = c.args.arena.now in
    let n = c.args.d.cell in
    let pairs = with_value (pairs_at h n) c.in-Some.at c.args.v in
    subst (λ (w : Heap Value ℕ). KeepsOthers (g.C.Constants.text_of c.args.consts.now) h w n c.args.key) (sym c.dict_set_at.ensures.set)
    (others_set (g.C.Constants.text_of c.args.consts.now) h (with_dict h n pairs) n c.args.key c.args.v (texts_kept h n c.requires.dict pairs) c.in-Some.ensures.found (pairs_of_with h n c.requires.dict pairs))

pushed_others : (texts : StrNo → Option (List ℕ)) (r : Result (Unit {0}) NoRoom) (old pushed new : Heap Value ℕ) (d cells : ℕ) (key : Value) → OnOk r (new ≡ pushed)
    → IfErr r (λ e. Refused old new e cells 0) → KeepsOthers texts old pushed d key → KeepsOthers texts old new d key
pushed_others texts (Ok x) old pushed new d cells key ok refused others = subst (λ (w : Heap Value ℕ). KeepsOthers texts old w d key) (sym ok) others
pushed_others texts (Err e) old pushed new d cells key ok refused others = others_unchanged texts old new d key refused.unchanged

pub returns-in-None-clause-others : goal.returns-in-None-clause-others
returns-in-None-clause-others g c =
    let h = c.args.arena.now in
    let n = c.args.d.cell in
    let pairs = pairs_at h n ++ (c.args.key, c.args.v) ∷ [] in
    pushed_others (g.C.Constants.text_of c.args.consts.now) c.dict_push.result h (with_pairs h n pairs) c.dict_push.new.arena n _ c.args.key c.dict_push.ensures.ok c.dict_push.ensures.refused
    (others_added (g.C.Constants.text_of c.args.consts.now) h (with_pairs h n pairs) n c.args.key c.args.v (texts_kept_more h n c.requires.dict pairs) (pairs_of_more h n c.requires.dict pairs))

pub returns-in-Some-clause-distinct : goal.returns-in-Some-clause-distinct
returns-in-Some-clause-distinct g c =
    let h = c.args.arena.now in
    let n = c.args.d.cell in
    let pairs = with_value (pairs_at h n) c.in-Some.at c.args.v in
    λ x. subst (λ (w : Heap Value ℕ). IsDistinct (g.C.Constants.text_of c.args.consts.now) w n) (sym c.dict_set_at.ensures.set)
    (distinct_set (g.C.Constants.text_of c.args.consts.now) h (with_dict h n pairs) n c.args.key c.args.v (texts_kept h n c.requires.dict pairs) c.in-Some.ensures.found.within (pairs_of_with h n c.requires.dict pairs) x)

pushed_distinct : (texts : StrNo → Option (List ℕ)) (r : Result (Unit {0}) NoRoom) (old pushed new : Heap Value ℕ) (d cells : ℕ) → OnOk r (new ≡ pushed)
    → IfErr r (λ e. Refused old new e cells 0) → IsDistinct texts pushed d → IsDistinct texts old d → IsDistinct texts new d
pushed_distinct texts (Ok x) old pushed new d cells ok refused more was = subst (λ (w : Heap Value ℕ). IsDistinct texts w d) (sym ok) more
pushed_distinct texts (Err e) old pushed new d cells ok refused more was = subst (λ (w : Heap Value ℕ). IsDistinct texts w d) (sym refused.unchanged) was

pub returns-in-None-clause-distinct : goal.returns-in-None-clause-distinct
returns-in-None-clause-distinct g c =
    let h = c.args.arena.now in
    let n = c.args.d.cell in
    let pairs = pairs_at h n ++ (c.args.key, c.args.v) ∷ [] in
    λ x. pushed_distinct (g.C.Constants.text_of c.args.consts.now) c.dict_push.result h (with_pairs h n pairs) c.dict_push.new.arena n _ c.dict_push.ensures.ok c.dict_push.ensures.refused
    (distinct_added (g.C.Constants.text_of c.args.consts.now) h (with_pairs h n pairs) n c.args.key c.args.v (texts_kept_more h n c.requires.dict pairs) c.in-None.ensures.none (pairs_of_more h n c.requires.dict pairs) x) x
