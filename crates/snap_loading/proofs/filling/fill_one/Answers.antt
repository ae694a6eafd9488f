use Rattle.std.proofs.Common.{◌≡◌, ℕ, ◌≤◌, [], length, map, replicate, Option, Some, slice_get, refl, sym, ap, ap₂, ◌∙◌, subst, arith}
use Rattle.mpy_base.specs.World.{Heap, ListObject, TupleObject, DictObject, object, room_at, with_list, with_tuple, with_dict}
use Rattle.arena_heap.specs.declared.value.Value.{Value}
use Rattle.arena_heap.specs.declared.value.Value.TheVariants as values
use Rattle.snap_states.specs.Parts.{cell_of}
use Rattle.snap_states.specs.Decoded.{value_of, pair_of}
use Rattle.snap_loading.proofs.Filled.{list_few, list_begun, list_room, list_leads, list_done, tuple_few, tuple_begun, tuple_leads, tuple_done, dict_few, dict_begun, dict_room, dict_keys, dict_keys_lead, dict_leads, dict_done, whole_done}
use Rattle.snap_loading.proofs.filling.fill_one.Goals as goal

pub fill_list-requires-clause-few : goal.fill_list-requires-clause-few
fill_list-requires-clause-few c =
    let shelf = c.args.lookup.now.library.now in
    let s = c.args.lookup.now.snapshot.now in
    let h = c.args.arena.now in
    let e = c.requires.object ∙ ap Some c.in-List.is in
    let few = subst (λ zs. length zs ≤ 4194304) (sym c.as_slice.ensures) (list_few shelf s c.requires.first c.requires.fits c.requires.fine h c.args.number c.requires.begun _ _ e) in
    omega (arith, few)

pub fill_list-requires-clause-begun : goal.fill_list-requires-clause-begun
fill_list-requires-clause-begun c =
    let shelf = c.args.lookup.now.library.now in
    let s = c.args.lookup.now.snapshot.now in
    let h = c.args.arena.now in
    let e = c.requires.object ∙ ap Some c.in-List.is in
    subst (λ (k : ℕ). object h.objects k ≡ Some (ListObject [] (room_at h k))) (sym c.cell_of-cell.ensures) (list_begun shelf s c.requires.first c.requires.fits c.requires.fine h c.args.number c.requires.begun _ _ e)

pub fill_list-requires-clause-room : goal.fill_list-requires-clause-room
fill_list-requires-clause-room c =
    let shelf = c.args.lookup.now.library.now in
    let s = c.args.lookup.now.snapshot.now in
    let h = c.args.arena.now in
    let e = c.requires.object ∙ ap Some c.in-List.is in
    subst (λ (k : ℕ). length c.as_slice.result.now ≤ room_at h k) (sym c.cell_of-cell.ensures) (subst (λ zs. length zs ≤ room_at h (cell_of s.objects c.args.number)) (sym c.as_slice.ensures) (list_room shelf s c.requires.first c.requires.fits c.requires.fine h c.args.number c.requires.begun _ _ e))

pub fill_list-requires-clause-leads : goal.fill_list-requires-clause-leads
fill_list-requires-clause-leads c at part g =
    let shelf = c.args.lookup.now.library.now in
    let s = c.args.lookup.now.snapshot.now in
    let h = c.args.arena.now in
    let e = c.requires.object ∙ ap Some c.in-List.is in
    list_leads shelf s c.requires.first c.requires.fits c.requires.fine h c.args.number c.requires.begun _ _ e at part (ap (λ zs. slice_get zs at) (sym c.as_slice.ensures) ∙ g)

pub returns-in-List : goal.returns-in-List
returns-in-List c title b =
    let shelf = c.args.lookup.now.library.now in
    let s = c.args.lookup.now.snapshot.now in
    let h = c.args.arena.now in
    let e = c.requires.object ∙ ap Some c.in-List.is in
    list_done shelf s title h c.fill_list.new.arena c.args.number b _ _ e (c.fill_list.ensures ∙ ap₂ (λ (k : ℕ) zs. with_list h k (map (value_of shelf s) zs)) c.cell_of-cell.ensures c.as_slice.ensures)

pub fill_tuple-requires-clause-few : goal.fill_tuple-requires-clause-few
fill_tuple-requires-clause-few c =
    let shelf = c.args.lookup.now.library.now in
    let s = c.args.lookup.now.snapshot.now in
    let h = c.args.arena.now in
    let e = c.requires.object ∙ ap Some c.in-Tuple.is in
    let few = subst (λ zs. length zs ≤ 4194304) (sym c.as_slice-in-Tuple.ensures) (tuple_few shelf s c.requires.first c.requires.fits c.requires.fine h c.args.number c.requires.begun _ e) in
    omega (arith, few)

pub fill_tuple-requires-clause-begun : goal.fill_tuple-requires-clause-begun
fill_tuple-requires-clause-begun c =
    let shelf = c.args.lookup.now.library.now in
    let s = c.args.lookup.now.snapshot.now in
    let h = c.args.arena.now in
    let e = c.requires.object ∙ ap Some c.in-Tuple.is in
    ap (λ (k : ℕ). object h.objects k) c.cell_of-cell.ensures ∙ (tuple_begun shelf s c.requires.first c.requires.fits c.requires.fine h c.args.number c.requires.begun _ e ∙ ap (λ zs. Some (TupleObject (replicate (length zs) values.None))) (sym c.as_slice-in-Tuple.ensures))

pub fill_tuple-requires-clause-leads : goal.fill_tuple-requires-clause-leads
fill_tuple-requires-clause-leads c at part g =
    let shelf = c.args.lookup.now.library.now in
    let s = c.args.lookup.now.snapshot.now in
    let h = c.args.arena.now in
    let e = c.requires.object ∙ ap Some c.in-Tuple.is in
    tuple_leads shelf s c.requires.first c.requires.fits c.requires.fine h c.args.number c.requires.begun _ e at part (ap (λ zs. slice_get zs at) (sym c.as_slice-in-Tuple.ensures) ∙ g)

pub returns-in-Tuple : goal.returns-in-Tuple
returns-in-Tuple c title b =
    let shelf = c.args.lookup.now.library.now in
    let s = c.args.lookup.now.snapshot.now in
    let h = c.args.arena.now in
    let e = c.requires.object ∙ ap Some c.in-Tuple.is in
    tuple_done shelf s title h c.fill_tuple.new.arena c.args.number b _ e (c.fill_tuple.ensures ∙ ap₂ (λ (k : ℕ) zs. with_tuple h k (map (value_of shelf s) zs)) c.cell_of-cell.ensures c.as_slice-in-Tuple.ensures)

pub fill_dict-requires-clause-few : goal.fill_dict-requires-clause-few
fill_dict-requires-clause-few c =
    let shelf = c.args.lookup.now.library.now in
    let s = c.args.lookup.now.snapshot.now in
    let h = c.args.arena.now in
    let e = c.requires.object ∙ ap Some c.in-Dict.is in
    let few = subst (λ zs. length zs ≤ 4194304) (sym c.as_slice-in-Dict.ensures) (dict_few shelf s c.requires.first c.requires.fits c.requires.fine h c.args.number c.requires.begun _ _ e) in
    omega (arith, few)

pub fill_dict-requires-clause-begun : goal.fill_dict-requires-clause-begun
fill_dict-requires-clause-begun c =
    let shelf = c.args.lookup.now.library.now in
    let s = c.args.lookup.now.snapshot.now in
    let h = c.args.arena.now in
    let e = c.requires.object ∙ ap Some c.in-Dict.is in
    subst (λ (k : ℕ). object h.objects k ≡ Some (DictObject [] (room_at h k))) (sym c.cell_of-cell.ensures) (dict_begun shelf s c.requires.first c.requires.fits c.requires.fine h c.args.number c.requires.begun _ _ e)

pub fill_dict-requires-clause-room : goal.fill_dict-requires-clause-room
fill_dict-requires-clause-room c =
    let shelf = c.args.lookup.now.library.now in
    let s = c.args.lookup.now.snapshot.now in
    let h = c.args.arena.now in
    let e = c.requires.object ∙ ap Some c.in-Dict.is in
    subst (λ (k : ℕ). length c.as_slice-in-Dict.result.now ≤ room_at h k) (sym c.cell_of-cell.ensures) (subst (λ zs. length zs ≤ room_at h (cell_of s.objects c.args.number)) (sym c.as_slice-in-Dict.ensures) (dict_room shelf s c.requires.first c.requires.fits c.requires.fine h c.args.number c.requires.begun _ _ e))

pub fill_dict-requires-clause-keys : goal.fill_dict-requires-clause-keys
fill_dict-requires-clause-keys c at part g =
    let shelf = c.args.lookup.now.library.now in
    let s = c.args.lookup.now.snapshot.now in
    let h = c.args.arena.now in
    let e = c.requires.object ∙ ap Some c.in-Dict.is in
    dict_keys shelf s c.requires.first c.requires.fits c.requires.fine h c.args.number c.requires.begun _ _ e at part (ap (λ zs. slice_get zs at) (sym c.as_slice-in-Dict.ensures) ∙ g)

pub fill_dict-requires-clause-keys_lead : goal.fill_dict-requires-clause-keys_lead
fill_dict-requires-clause-keys_lead c at part g =
    let shelf = c.args.lookup.now.library.now in
    let s = c.args.lookup.now.snapshot.now in
    let h = c.args.arena.now in
    let e = c.requires.object ∙ ap Some c.in-Dict.is in
    dict_keys_lead shelf s c.requires.first c.requires.fits c.requires.fine h c.args.number c.requires.begun _ _ e at part (ap (λ zs. slice_get zs at) (sym c.as_slice-in-Dict.ensures) ∙ g)

pub fill_dict-requires-clause-leads : goal.fill_dict-requires-clause-leads
fill_dict-requires-clause-leads c at part g =
    let shelf = c.args.lookup.now.library.now in
    let s = c.args.lookup.now.snapshot.now in
    let h = c.args.arena.now in
    let e = c.requires.object ∙ ap Some c.in-Dict.is in
    dict_leads shelf s c.requires.first c.requires.fits c.requires.fine h c.args.number c.requires.begun _ _ e at part (ap (λ zs. slice_get zs at) (sym c.as_slice-in-Dict.ensures) ∙ g)

pub returns-in-Dict : goal.returns-in-Dict
returns-in-Dict c title b =
    let shelf = c.args.lookup.now.library.now in
    let s = c.args.lookup.now.snapshot.now in
    let h = c.args.arena.now in
    let e = c.requires.object ∙ ap Some c.in-Dict.is in
    dict_done shelf s title h c.fill_dict.new.arena c.args.number b _ _ e (c.fill_dict.ensures ∙ ap₂ (λ (k : ℕ) zs. with_dict h k (map (pair_of shelf s) zs)) c.cell_of-cell.ensures c.as_slice-in-Dict.ensures)

pub returns-in-Text : goal.returns-in-Text
returns-in-Text c title b =
    let shelf = c.args.lookup.now.library.now in
    let s = c.args.lookup.now.snapshot.now in
    let h = c.args.arena.now in
    let e = c.requires.object ∙ ap Some c.in-Text.is in
    whole_done shelf s title h h c.args.number b _ e refl refl

pub returns-in-Function : goal.returns-in-Function
returns-in-Function c title b =
    let shelf = c.args.lookup.now.library.now in
    let s = c.args.lookup.now.snapshot.now in
    let h = c.args.arena.now in
    let e = c.requires.object ∙ ap Some c.in-Function.is in
    whole_done shelf s title h h c.args.number b _ e refl refl

pub returns-in-Exception : goal.returns-in-Exception
returns-in-Exception c title b =
    let shelf = c.args.lookup.now.library.now in
    let s = c.args.lookup.now.snapshot.now in
    let h = c.args.arena.now in
    let e = c.requires.object ∙ ap Some c.in-Exception.is in
    whole_done shelf s title h h c.args.number b _ e refl refl

pub returns-in-Method : goal.returns-in-Method
returns-in-Method c title b =
    let shelf = c.args.lookup.now.library.now in
    let s = c.args.lookup.now.snapshot.now in
    let h = c.args.arena.now in
    let e = c.requires.object ∙ ap Some c.in-Method.is in
    whole_done shelf s title h h c.args.number b _ e refl refl

pub returns-in-Range : goal.returns-in-Range
returns-in-Range c title b =
    let shelf = c.args.lookup.now.library.now in
    let s = c.args.lookup.now.snapshot.now in
    let h = c.args.arena.now in
    let e = c.requires.object ∙ ap Some c.in-Range.is in
    whole_done shelf s title h h c.args.number b _ e refl refl

pub returns-in-Module : goal.returns-in-Module
returns-in-Module c title b =
    let shelf = c.args.lookup.now.library.now in
    let s = c.args.lookup.now.snapshot.now in
    let h = c.args.arena.now in
    let e = c.requires.object ∙ ap Some c.in-Module.is in
    whole_done shelf s title h h c.args.number b _ e refl refl
