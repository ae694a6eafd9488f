use Rattle.std.proofs.Common.{◌≡◌, ℕ, List, length, sym, ap, ap₂, ◌∙◌, subst, arith}
use Rattle.std.specs.List.{All}
use Rattle.prim_builtins.specs.arena_heap.declared.value.Value.{Value}
use Rattle.mpy_base.specs.World.{Heap, AList, Later, object, items_of, room_of, with_list}
use Rattle.mpy_base.specs.Weights.{used}
use Rattle.mpy_base.proofs.Worlds.{is_within}
use Rattle.prim_builtins.specs.arena_heap.Values.{Leads}
use Rattle.prim_builtins.specs.arena_objects.Iterables.{spelled}
use Rattle.prim_builtins.proofs.arena_objects_lemmas.Gifts.{spelled_kept}
use Rattle.prim_str_methods.specs.Pieces.{pieces_from, piece_values, with_pieces, cells_behind}
use Rattle.prim_str_methods.proofs.Writings.{known_later}
use Rattle.prim_str_methods.proofs.PieceTexts.{keeps_pieces, later_pieces, used_pieces, before_pieces, values_known}
use Rattle.prim_str_methods.proofs.PieceLists.{pieces_kept, split_kept}
use Rattle.prim_str_methods.proofs.splits.fill_list.Goals as goal

pub put_pieces-requires-clause-list : goal.put_pieces-requires-clause-list
put_pieces-requires-clause-list g c =
    let texts = g.C.Constants.text_of c.args.consts.now in
    let tuples = g.C.Constants.items_of c.args.consts.now in
    let h = c.args.arena.now in
    let it = c.args.object in
    let split = c.args.split in
    let leads = c.requires.object.leads in
    let pieces = pieces_from texts h split it 0 in
    let l = c.args.l.cell in
    let a = c.make_pieces.new.arena in
    let first = c.cells_used-first.result in
    let e : a ≡ with_pieces h pieces = c.in_ok-make_pieces.ensures.ok in
    let start : first ≡ used h = c.cells_used-first.ensures in
    let same : (v : Value) → Leads h.objects v → spelled texts a v ≡ spelled texts h v = λ v k. ap (λ (w : Heap Value ℕ). spelled texts w v) e ∙ spelled_kept tuples texts (keeps_pieces h pieces) v k in
    let later : Later h.objects a.objects = subst (λ (w : Heap Value ℕ). Later h.objects w.objects) (sym e) (later_pieces h pieces) in
    let now : pieces_from texts a split it 0 ≡ pieces = pieces_kept texts tuples a h split it 0 c.requires.split same leads in
    let there : object a.objects l ≡ object h.objects l = ap (λ (w : Heap Value ℕ). object w.objects l) e ∙ before_pieces h pieces l (is_within h.objects AList l c.requires.list) in
    later.keeps AList l c.requires.list

pub put_pieces-requires-clause-object : goal.put_pieces-requires-clause-object
put_pieces-requires-clause-object g c =
    let texts = g.C.Constants.text_of c.args.consts.now in
    let tuples = g.C.Constants.items_of c.args.consts.now in
    let h = c.args.arena.now in
    let it = c.args.object in
    let split = c.args.split in
    let leads = c.requires.object.leads in
    let pieces = pieces_from texts h split it 0 in
    let l = c.args.l.cell in
    let a = c.make_pieces.new.arena in
    let first = c.cells_used-first.result in
    let e : a ≡ with_pieces h pieces = c.in_ok-make_pieces.ensures.ok in
    let start : first ≡ used h = c.cells_used-first.ensures in
    let same : (v : Value) → Leads h.objects v → spelled texts a v ≡ spelled texts h v = λ v k. ap (λ (w : Heap Value ℕ). spelled texts w v) e ∙ spelled_kept tuples texts (keeps_pieces h pieces) v k in
    let later : Later h.objects a.objects = subst (λ (w : Heap Value ℕ). Later h.objects w.objects) (sym e) (later_pieces h pieces) in
    let now : pieces_from texts a split it 0 ≡ pieces = pieces_kept texts tuples a h split it 0 c.requires.split same leads in
    let there : object a.objects l ≡ object h.objects l = ap (λ (w : Heap Value ℕ). object w.objects l) e ∙ before_pieces h pieces l (is_within h.objects AList l c.requires.list) in
    known_later texts tuples later it c.requires.object

pub put_pieces-requires-clause-split : goal.put_pieces-requires-clause-split
put_pieces-requires-clause-split g c =
    let texts = g.C.Constants.text_of c.args.consts.now in
    let tuples = g.C.Constants.items_of c.args.consts.now in
    let h = c.args.arena.now in
    let it = c.args.object in
    let split = c.args.split in
    let leads = c.requires.object.leads in
    let pieces = pieces_from texts h split it 0 in
    let l = c.args.l.cell in
    let a = c.make_pieces.new.arena in
    let first = c.cells_used-first.result in
    let e : a ≡ with_pieces h pieces = c.in_ok-make_pieces.ensures.ok in
    let start : first ≡ used h = c.cells_used-first.ensures in
    let same : (v : Value) → Leads h.objects v → spelled texts a v ≡ spelled texts h v = λ v k. ap (λ (w : Heap Value ℕ). spelled texts w v) e ∙ spelled_kept tuples texts (keeps_pieces h pieces) v k in
    let later : Later h.objects a.objects = subst (λ (w : Heap Value ℕ). Later h.objects w.objects) (sym e) (later_pieces h pieces) in
    let now : pieces_from texts a split it 0 ≡ pieces = pieces_kept texts tuples a h split it 0 c.requires.split same leads in
    let there : object a.objects l ≡ object h.objects l = ap (λ (w : Heap Value ℕ). object w.objects l) e ∙ before_pieces h pieces l (is_within h.objects AList l c.requires.list) in
    split_kept texts tuples a h split later same c.requires.split

pub put_pieces-requires-clause-empty : goal.put_pieces-requires-clause-empty
put_pieces-requires-clause-empty g c =
    let texts = g.C.Constants.text_of c.args.consts.now in
    let tuples = g.C.Constants.items_of c.args.consts.now in
    let h = c.args.arena.now in
    let it = c.args.object in
    let split = c.args.split in
    let leads = c.requires.object.leads in
    let pieces = pieces_from texts h split it 0 in
    let l = c.args.l.cell in
    let a = c.make_pieces.new.arena in
    let first = c.cells_used-first.result in
    let e : a ≡ with_pieces h pieces = c.in_ok-make_pieces.ensures.ok in
    let start : first ≡ used h = c.cells_used-first.ensures in
    let same : (v : Value) → Leads h.objects v → spelled texts a v ≡ spelled texts h v = λ v k. ap (λ (w : Heap Value ℕ). spelled texts w v) e ∙ spelled_kept tuples texts (keeps_pieces h pieces) v k in
    let later : Later h.objects a.objects = subst (λ (w : Heap Value ℕ). Later h.objects w.objects) (sym e) (later_pieces h pieces) in
    let now : pieces_from texts a split it 0 ≡ pieces = pieces_kept texts tuples a h split it 0 c.requires.split same leads in
    let there : object a.objects l ≡ object h.objects l = ap (λ (w : Heap Value ℕ). object w.objects l) e ∙ before_pieces h pieces l (is_within h.objects AList l c.requires.list) in
    ap items_of there ∙ c.requires.empty

pub put_pieces-requires-clause-room : goal.put_pieces-requires-clause-room
put_pieces-requires-clause-room g c =
    let texts = g.C.Constants.text_of c.args.consts.now in
    let tuples = g.C.Constants.items_of c.args.consts.now in
    let h = c.args.arena.now in
    let it = c.args.object in
    let split = c.args.split in
    let leads = c.requires.object.leads in
    let pieces = pieces_from texts h split it 0 in
    let l = c.args.l.cell in
    let a = c.make_pieces.new.arena in
    let first = c.cells_used-first.result in
    let e : a ≡ with_pieces h pieces = c.in_ok-make_pieces.ensures.ok in
    let start : first ≡ used h = c.cells_used-first.ensures in
    let same : (v : Value) → Leads h.objects v → spelled texts a v ≡ spelled texts h v = λ v k. ap (λ (w : Heap Value ℕ). spelled texts w v) e ∙ spelled_kept tuples texts (keeps_pieces h pieces) v k in
    let later : Later h.objects a.objects = subst (λ (w : Heap Value ℕ). Later h.objects w.objects) (sym e) (later_pieces h pieces) in
    let now : pieces_from texts a split it 0 ≡ pieces = pieces_kept texts tuples a h split it 0 c.requires.split same leads in
    let there : object a.objects l ≡ object h.objects l = ap (λ (w : Heap Value ℕ). object w.objects l) e ∙ before_pieces h pieces l (is_within h.objects AList l c.requires.list) in
    omega (arith, c.requires.room, ap (λ (ps : List (List ℕ)). length ps) now, ap room_of there)

pub put_pieces-requires-clause-texts : goal.put_pieces-requires-clause-texts
put_pieces-requires-clause-texts g c =
    let texts = g.C.Constants.text_of c.args.consts.now in
    let tuples = g.C.Constants.items_of c.args.consts.now in
    let h = c.args.arena.now in
    let it = c.args.object in
    let split = c.args.split in
    let leads = c.requires.object.leads in
    let pieces = pieces_from texts h split it 0 in
    let l = c.args.l.cell in
    let a = c.make_pieces.new.arena in
    let first = c.cells_used-first.result in
    let e : a ≡ with_pieces h pieces = c.in_ok-make_pieces.ensures.ok in
    let start : first ≡ used h = c.cells_used-first.ensures in
    let same : (v : Value) → Leads h.objects v → spelled texts a v ≡ spelled texts h v = λ v k. ap (λ (w : Heap Value ℕ). spelled texts w v) e ∙ spelled_kept tuples texts (keeps_pieces h pieces) v k in
    let later : Later h.objects a.objects = subst (λ (w : Heap Value ℕ). Later h.objects w.objects) (sym e) (later_pieces h pieces) in
    let now : pieces_from texts a split it 0 ≡ pieces = pieces_kept texts tuples a h split it 0 c.requires.split same leads in
    let there : object a.objects l ≡ object h.objects l = ap (λ (w : Heap Value ℕ). object w.objects l) e ∙ before_pieces h pieces l (is_within h.objects AList l c.requires.list) in
    let known = values_known texts tuples c.empty_law.ensures h pieces in
    let all : All (Leads (with_pieces h pieces).objects) (piece_values (used h) pieces) = λ k d lt. (known k d lt).leads in
    subst (λ (ps : List (List ℕ)). All (Leads a.objects) (piece_values first ps)) (sym now)
    (subst (λ (n : ℕ). All (Leads a.objects) (piece_values n pieces)) (sym start) (subst (λ (w : Heap Value ℕ). All (Leads w.objects) (piece_values (used h) pieces)) (sym e) all))

pub put_pieces-requires-clause-few : goal.put_pieces-requires-clause-few
put_pieces-requires-clause-few g c =
    let texts = g.C.Constants.text_of c.args.consts.now in
    let tuples = g.C.Constants.items_of c.args.consts.now in
    let h = c.args.arena.now in
    let it = c.args.object in
    let split = c.args.split in
    let leads = c.requires.object.leads in
    let pieces = pieces_from texts h split it 0 in
    let l = c.args.l.cell in
    let a = c.make_pieces.new.arena in
    let first = c.cells_used-first.result in
    let e : a ≡ with_pieces h pieces = c.in_ok-make_pieces.ensures.ok in
    let start : first ≡ used h = c.cells_used-first.ensures in
    let same : (v : Value) → Leads h.objects v → spelled texts a v ≡ spelled texts h v = λ v k. ap (λ (w : Heap Value ℕ). spelled texts w v) e ∙ spelled_kept tuples texts (keeps_pieces h pieces) v k in
    let later : Later h.objects a.objects = subst (λ (w : Heap Value ℕ). Later h.objects w.objects) (sym e) (later_pieces h pieces) in
    let now : pieces_from texts a split it 0 ≡ pieces = pieces_kept texts tuples a h split it 0 c.requires.split same leads in
    let there : object a.objects l ≡ object h.objects l = ap (λ (w : Heap Value ℕ). object w.objects l) e ∙ before_pieces h pieces l (is_within h.objects AList l c.requires.list) in
    let fits = c.room_law.ensures.fits.cells_fit in
    let few = c.room_law.ensures.few in
    omega (arith, fits, few, ap₂ (λ (n : ℕ) (ps : List (List ℕ)). cells_behind n ps) start now, used_pieces h pieces, ap (λ (w : Heap Value ℕ). used w) e)

pub returns-clause-ok : goal.returns-clause-ok
returns-clause-ok g c =
    let texts = g.C.Constants.text_of c.args.consts.now in
    let tuples = g.C.Constants.items_of c.args.consts.now in
    let h = c.args.arena.now in
    let it = c.args.object in
    let split = c.args.split in
    let leads = c.requires.object.leads in
    let pieces = pieces_from texts h split it 0 in
    let l = c.args.l.cell in
    let a = c.make_pieces.new.arena in
    let first = c.cells_used-first.result in
    let e : a ≡ with_pieces h pieces = c.in_ok-make_pieces.ensures.ok in
    let start : first ≡ used h = c.cells_used-first.ensures in
    let same : (v : Value) → Leads h.objects v → spelled texts a v ≡ spelled texts h v = λ v k. ap (λ (w : Heap Value ℕ). spelled texts w v) e ∙ spelled_kept tuples texts (keeps_pieces h pieces) v k in
    let later : Later h.objects a.objects = subst (λ (w : Heap Value ℕ). Later h.objects w.objects) (sym e) (later_pieces h pieces) in
    let now : pieces_from texts a split it 0 ≡ pieces = pieces_kept texts tuples a h split it 0 c.requires.split same leads in
    let there : object a.objects l ≡ object h.objects l = ap (λ (w : Heap Value ℕ). object w.objects l) e ∙ before_pieces h pieces l (is_within h.objects AList l c.requires.list) in
    c.put_pieces.ensures ∙ ap₂ (λ (w : Heap Value ℕ) (vs : List Value). with_list w l vs) e (ap₂ (λ (n : ℕ) (ps : List (List ℕ)). piece_values n ps) start now)
