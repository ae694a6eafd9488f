use Rattle.std.proofs.Common.{◌≡◌, ℕ, ◌*◌, List, [], length, map, take, sym, ap, ◌∙◌, subst, arith}
use Rattle.std.proofs.lemmas.List.{length-map}
use Rattle.std.proofs.lemmas.List.Elements.{All-take}
use Rattle.mpy_base.specs.World.{Heap, ListObject, ADict, Later, pairs_of, pairs_at, with_list}
use Rattle.mpy_base.specs.Weights.{Fits, Made, used, room_for}
use Rattle.mpy_base.specs.Val.{Val}
use Rattle.mpy_base.proofs.Rooms.{room_is}
use Rattle.mpy_base.proofs.Worlds.{is_within, later_later, later_made, object_before}
use Rattle.prim_assignments.specs.arena_heap.declared.value.Value.{Value}
use Rattle.prim_assignments.specs.arena_heap.Constants.{IsTold}
use Rattle.prim_assignments.specs.arena_objects.Keys.{AllTold}
use Rattle.prim_assignments.proofs.arena_objects_lemmas.Tolds.{Both, told_pairs}
use Rattle.prim_builtins.specs.py_values.Shown.{PlainHeap}
use Rattle.prim_builtins.specs.py_primitives.Outcome.{Outcome}
use Rattle.prim_builtins.specs.py_primitives.Methods.{making_pairs}
use Rattle.prim_assignments.specs.prim_walks.Plain.{plain_pair}
use Rattle.prim_assignments.proofs.prim_operators_lemmas.ItemFills.{room_made, told_empty}
use Rattle.prim_methods.specs.PairTuples.{with_tuples, tuples_from, TupleRefused}
use Rattle.prim_methods.proofs.Stopped.{stopped_outcome}
use Rattle.prim_methods.proofs.PairMakings.{tuples_later, tuples_told, pairs_made, some_pairs_made, list_taking, took_tuples}
use Rattle.prim_methods.proofs.dict_items.make_items.Goals as goal

pub fill_with_tuples-requires-clause-room : goal.fill_with_tuples-requires-clause-room
fill_with_tuples-requires-clause-room g c =
    let h = c.args.arena.now in
    let d = c.args.d.cell in
    let pairs : List (Value × Value) = pairs_at h d in
    let made = c.make_list.new.self in
    let same : pairs_at made d ≡ pairs = ap pairs_of (object_before c.in-Ok.ensures.made d (is_within h.objects ADict d c.requires.dict)) in
    let holds = (room_is c.dict_len-count.result).holds in
    omega (arith, holds, room_made c.in-Ok.ensures.made, c.dict_len-count.ensures, ap (λ (ps : List (Value × Value)). length ps) same)

pub returns-in-Ok-fill_with_tuples : goal.returns-in-Ok-fill_with_tuples
returns-in-Ok-fill_with_tuples g c =
    let texts = g.C.Constants.text_of c.args._consts.now in
    let tuples = g.C.Constants.items_of c.args._consts.now in
    let h = c.args.arena.now in
    let d = c.args.d.cell in
    let l = c.in-Ok.l in
    let pairs : List (Value × Value) = pairs_at h d in
    let vs = map (plain_pair texts tuples) pairs in
    let made = c.make_list.new.self in
    let new = c.fill_with_tuples.new.arena in
    let count : c.dict_len-count.result ≡ length vs = c.dict_len-count.ensures ∙ sym (length-map pairs (plain_pair texts tuples)) in
    let m : Made h made l.cell (ListObject [] (room_for (length vs))) = subst (λ (k : ℕ). Made h made l.cell (ListObject [] (room_for k))) count c.in-Ok.ensures.made in
    let same : pairs_at made d ≡ pairs = ap pairs_of (object_before m d (is_within h.objects ADict d c.requires.dict)) in
    let put : new ≡ with_list (with_tuples made pairs) l.cell (tuples_from (used made) (length pairs)) =
    c.in-Ok-fill_with_tuples.ensures.ok ∙ ap (λ (ps : List (Value × Value)). with_list (with_tuples made ps) l.cell (tuples_from (used made) (length ps))) same in
    let fits = subst (λ (ps : List (Value × Value)). Fits made (3 * length ps) 0) same c.in-Ok-fill_with_tuples.ensures.fits in
    took_tuples texts tuples h made l (length vs) m c.in-Ok.ensures.kind pairs (told_empty texts tuples m c.requires.all_told) (told_pairs texts tuples h d c.requires.dict c.requires.all_told) new put _
    (list_taking texts tuples h made l (length vs) m (λ (behind : PlainHeap). making_pairs behind vs) _ (pairs_made texts tuples made pairs fits))

pub returns-in-Err-fill_with_tuples : goal.returns-in-Err-fill_with_tuples
returns-in-Err-fill_with_tuples g c =
    let texts = g.C.Constants.text_of c.args._consts.now in
    let tuples = g.C.Constants.items_of c.args._consts.now in
    let h = c.args.arena.now in
    let d = c.args.d.cell in
    let l = c.in-Ok.l in
    let pairs : List (Value × Value) = pairs_at h d in
    let vs = map (plain_pair texts tuples) pairs in
    let made = c.make_list.new.self in
    let new = c.fill_with_tuples.new.arena in
    let room = c.in-Err-fill_with_tuples.room in
    let count : c.dict_len-count.result ≡ length vs = c.dict_len-count.ensures ∙ sym (length-map pairs (plain_pair texts tuples)) in
    let m : Made h made l.cell (ListObject [] (room_for (length vs))) = subst (λ (k : ℕ). Made h made l.cell (ListObject [] (room_for k))) count c.in-Ok.ensures.made in
    let same : pairs_at made d ≡ pairs = ap pairs_of (object_before m d (is_within h.objects ADict d c.requires.dict)) in
    let t : TupleRefused made new room pairs = subst (λ (ps : List (Value × Value)). TupleRefused made new room ps) same c.in-Err-fill_with_tuples.ensures.refused in
    let mid = with_tuples made (take t.made pairs) in
    let told = All-take (Both (IsTold texts tuples)) t.made pairs (told_pairs texts tuples h d c.requires.dict c.requires.all_told) in
    let later : Later h.objects new.objects =
    later_later (later_made m) (subst (λ (w : Heap Value ℕ). Later made.objects w.objects) (sym t.refused.unchanged) (tuples_later made (take t.made pairs))) in
    let all : AllTold texts tuples new.objects =
    subst (λ (w : Heap Value ℕ). AllTold texts tuples w.objects) (sym t.refused.unchanged) (tuples_told texts tuples made (take t.made pairs) (told_empty texts tuples m c.requires.all_told) told) in
    let is = list_taking texts tuples h made l (length vs) m (λ (behind : PlainHeap). making_pairs behind vs) _ (some_pairs_made texts tuples made pairs t.made t.behind t.fitted t.refused.too_much) in
    stopped_outcome texts tuples h new later all _ mid room 3 0 t.refused (ap (λ (o : Outcome Val). o.answer) is) (ap (λ (o : Outcome Val). o.heap) is)
