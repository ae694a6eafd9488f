use Rattle.std.proofs.Common.{◌≡◌, ℕ, List, [], length, ap, ◌∙◌, subst, arith}
use Rattle.prim_builtins.specs.arena_heap.declared.value.Value.{Value}
use Rattle.mpy_base.specs.World.{ListObject, Later, room_of, with_list}
use Rattle.mpy_base.specs.Weights.{used, Made, room_for}
use Rattle.mpy_base.proofs.Rooms.{room_is}
use Rattle.mpy_base.proofs.Worlds.{later_made, object_made}
use Rattle.prim_builtins.specs.arena_heap.Values.{Leads}
use Rattle.prim_builtins.specs.arena_objects.Iterables.{spelled}
use Rattle.prim_builtins.proofs.arena_objects_lemmas.Gifts.{spelled_kept}
use Rattle.prim_str_methods.specs.Pieces.{pieces_from, piece_values, with_pieces, FitPieces, PiecesRefused}
use Rattle.prim_str_methods.proofs.PieceLists.{keeps_made, pieces_kept}
use Rattle.prim_str_methods.proofs.SplitOutcomes.{texts_refused, list_filled}
use Rattle.prim_str_methods.proofs.splits.split_pieces.Goals as goal

pub fill_list-requires-clause-room : goal.fill_list-requires-clause-room
fill_list-requires-clause-room g c =
    let texts = g.C.Constants.text_of c.args.consts.now in
    let tuples = g.C.Constants.items_of c.args.consts.now in
    let h = c.args.arena.now in
    let it = c.args.object in
    let split = c.args.split in
    let leads = c.requires.object.leads in
    let pieces = pieces_from texts h split it 0 in
    let count : c.count_pieces-count.result ≡ length pieces = c.count_pieces-count.ensures in
    let mid = c.make_list.new.self in
    let l = c.in-Ok.l.cell in
    let m : Made h mid l (ListObject [] (room_for (length pieces))) = subst (λ (n : ℕ). Made h mid l (ListObject [] (room_for n))) count c.in-Ok.ensures.made in
    let same : (v : Value) → Leads h.objects v → spelled texts mid v ≡ spelled texts h v = spelled_kept tuples texts (keeps_made m) in
    let later : Later h.objects mid.objects = later_made m in
    let now : pieces_from texts mid split it 0 ≡ pieces = pieces_kept texts tuples mid h split it 0 c.requires.split same leads in
    let holds = (room_is (length pieces)).holds in
    omega (arith, holds, ap (λ (ps : List (List ℕ)). length ps) now, ap room_of (object_made m))

pub returns-in-Ok-fill_list : goal.returns-in-Ok-fill_list
returns-in-Ok-fill_list g c =
    let texts = g.C.Constants.text_of c.args.consts.now in
    let tuples = g.C.Constants.items_of c.args.consts.now in
    let h = c.args.arena.now in
    let it = c.args.object in
    let split = c.args.split in
    let leads = c.requires.object.leads in
    let pieces = pieces_from texts h split it 0 in
    let count : c.count_pieces-count.result ≡ length pieces = c.count_pieces-count.ensures in
    let mid = c.make_list.new.self in
    let l = c.in-Ok.l.cell in
    let m : Made h mid l (ListObject [] (room_for (length pieces))) = subst (λ (n : ℕ). Made h mid l (ListObject [] (room_for n))) count c.in-Ok.ensures.made in
    let same : (v : Value) → Leads h.objects v → spelled texts mid v ≡ spelled texts h v = spelled_kept tuples texts (keeps_made m) in
    let later : Later h.objects mid.objects = later_made m in
    let now : pieces_from texts mid split it 0 ≡ pieces = pieces_kept texts tuples mid h split it 0 c.requires.split same leads in
    let new = c.fill_list.new.arena in
    list_filled texts tuples h pieces mid l m c.empty_law.ensures c.requires.all_told new (subst (FitPieces mid) now c.in-Ok-fill_list.ensures.fits)
    (c.in-Ok-fill_list.ensures.ok ∙ ap (λ (ps : List (List ℕ)). with_list (with_pieces mid ps) l (piece_values (used mid) ps)) now)

pub returns-in-Err-fill_list : goal.returns-in-Err-fill_list
returns-in-Err-fill_list g c =
    let texts = g.C.Constants.text_of c.args.consts.now in
    let tuples = g.C.Constants.items_of c.args.consts.now in
    let h = c.args.arena.now in
    let it = c.args.object in
    let split = c.args.split in
    let leads = c.requires.object.leads in
    let pieces = pieces_from texts h split it 0 in
    let count : c.count_pieces-count.result ≡ length pieces = c.count_pieces-count.ensures in
    let mid = c.make_list.new.self in
    let l = c.in-Ok.l.cell in
    let m : Made h mid l (ListObject [] (room_for (length pieces))) = subst (λ (n : ℕ). Made h mid l (ListObject [] (room_for n))) count c.in-Ok.ensures.made in
    let same : (v : Value) → Leads h.objects v → spelled texts mid v ≡ spelled texts h v = spelled_kept tuples texts (keeps_made m) in
    let later : Later h.objects mid.objects = later_made m in
    let now : pieces_from texts mid split it 0 ≡ pieces = pieces_kept texts tuples mid h split it 0 c.requires.split same leads in
    let new = c.fill_list.new.arena in
    texts_refused texts tuples h pieces mid l m c.empty_law.ensures c.requires.all_told new c.in-Err-fill_list.room (subst (λ (ps : List (List ℕ)). PiecesRefused mid new c.in-Err-fill_list.room ps) now c.in-Err-fill_list.ensures.refused)
