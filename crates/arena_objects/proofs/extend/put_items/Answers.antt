use Rattle.std.proofs.Common.{◌≡◌, ℕ, ◌<◌, ◌++◌, ◌∷◌, [], List, Some, length, take, sym, ◌∙◌, ap, subst, append_assoc}
use Rattle.std.specs.List.{insert}
use Rattle.std.specs.Prelude.{slice_get}
use Rattle.std.proofs.lemmas.List.Edits.{insert_end}
use Rattle.std.proofs.lemmas.List.Elements.{All-push, All-nil}
use Rattle.arena_heap.specs.declared.value.Value.{Value}
use Rattle.py_values.specs.mpy_base.World.{Heap, AList, IsA, Later, items_at, with_list}
use Rattle.py_values.proofs.mpy_base_lemmas.Worlds.{later_list}
use Rattle.arena_heap.proofs.Sounds.{leads_later}
use Rattle.arena_heap.specs.Constants.{IsTold}
use Rattle.arena_objects.specs.Keys.{AllTold}
use Rattle.arena_objects.specs.Iterables.{items_in}
use Rattle.arena_objects.proofs.Gifts.{items_still, put_again, item_more}
use Rattle.arena_objects.proofs.Tolds.{told_list}
use Rattle.arena_objects.proofs.extend.put_items.Goals as goal

pub item_at-v-requires-clause-leads : goal.item_at-v-requires-clause-leads
item_at-v-requires-clause-leads g c =
    let h = c.args.arena.now in
    leads_later (subst (λ (w : Heap Value ℕ). Later h.objects w.objects) (sym c.loop-k.invariant.0) (later_list h c.args.l.cell _ c.requires.list)) c.args.from c.requires.leads

pub item_at-v-requires-clause-within : goal.item_at-v-requires-clause-within
item_at-v-requires-clause-within g c =
    let h = c.args.arena.now in
    let tuples = g.C.Constants.items_of c.args.consts.now in
    let more = items_in tuples h c.args.from in
    let lt : c.loop-k.k < length more = subst (λ (n : ℕ). c.loop-k.k < n) c.item_count-k-end.ensures c.loop-k-test.true in
    subst (λ (w : Heap Value ℕ). c.loop-k.k < length (items_in tuples w c.args.from)) (sym c.loop-k.invariant.0) (items_still h c.args.l.cell c.requires.list tuples (take c.loop-k.k more) c.args.from c.loop-k.k lt).0

pub loop-k-preserved : goal.loop-k-preserved
loop-k-preserved g c =
    let h = c.args.arena.now in
    let a = c.loop-k.arena in
    let l = c.args.l.cell in
    let k = c.loop-k.k in
    let v = c.item_at-v.result in
    let texts = g.C.Constants.text_of c.args.consts.now in
    let tuples = g.C.Constants.items_of c.args.consts.now in
    let more = items_in tuples h c.args.from in
    let items = items_at h l in
    let lt : k < length more = subst (λ (n : ℕ). k < n) c.item_count-k-end.ensures c.loop-k-test.true in
    let still = (items_still h l c.requires.list tuples (take k more) c.args.from k lt).1 in
    let read : slice_get more k ≡ Some v = sym still ∙ (ap (λ (w : Heap Value ℕ). slice_get (items_in tuples w c.args.from) k) (sym c.loop-k.invariant.0) ∙ c.item_at-v.ensures.item) in
    let there : IsA a.objects AList l = subst (λ (w : Heap Value ℕ). IsA w.objects AList l) (sym c.loop-k.invariant.0) ((later_list h l (items ++ take k more) c.requires.list).keeps AList l c.requires.list) in
    let end : insert (items_at a l) c.list_len-end.result v ≡ items_at a l ++ v ∷ [] = ap (λ (j : ℕ). insert (items_at a l) j v) c.list_len-end.ensures ∙ insert_end (items_at a l) v in
    let put : c.put_in_list.new.arena ≡ with_list a l (items_at a l ++ v ∷ []) = c.put_in_list.ensures ∙ ap (λ (ys : List Value). with_list a l ys) end in (
      put_again h l c.requires.list a c.put_in_list.new.arena (items ++ take k more) v c.list_len-end.result c.loop-k.invariant.0 c.list_len-end.ensures c.put_in_list.ensures
          ∙ ap (λ (ys : List Value). with_list h l ys) (append_assoc items (take k more) (v ∷ []) ∙ ap (λ (ys : List Value). items ++ ys) (sym (item_more more k v read))),
      subst (λ (w : Heap Value ℕ). AllTold texts tuples w.objects) (sym put)
          (told_list texts tuples a l there c.loop-k.invariant.1 (v ∷ []) (All-push (IsTold texts tuples) [] v (All-nil (IsTold texts tuples)) c.item_at-v.ensures.told)),
    )
