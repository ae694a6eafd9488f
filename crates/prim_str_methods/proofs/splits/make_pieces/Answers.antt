use Rattle.std.proofs.Common.{◌≡◌, ℕ, List, ◌∷◌, length, sym, ap, ◌∙◌, subst, arith}
use Rattle.prim_builtins.specs.arena_heap.declared.value.Value.{Value}
use Rattle.mpy_base.specs.World.{Heap, Later}
use Rattle.prim_builtins.specs.arena_heap.Values.{Leads}
use Rattle.prim_builtins.specs.arena_objects.Iterables.{spelled}
use Rattle.prim_builtins.proofs.arena_objects_lemmas.Gifts.{spelled_kept}
use Rattle.prim_str_methods.specs.Parts.{cut_bytes}
use Rattle.prim_str_methods.specs.Pieces.{pieces_from}
use Rattle.prim_str_methods.proofs.Writings.{known_later}
use Rattle.prim_str_methods.proofs.PieceTexts.{keeps_pieces, later_pieces}
use Rattle.prim_str_methods.proofs.PieceLists.{made_all, made_more, made_refused, pieces_kept, split_kept}
use Rattle.prim_str_methods.proofs.splits.make_pieces.Goals as goal

pub next_piece-requires-clause-object : goal.next_piece-requires-clause-object
next_piece-requires-clause-object g c =
    let texts = g.C.Constants.text_of c.args.consts.now in
    let tuples = g.C.Constants.items_of c.args.consts.now in
    let h = c.args.arena.now in
    let object = c.args.object in
    let split = c.args.split in
    let leads = c.requires.object.leads in
    let pieces = pieces_from texts h split object 0 in
    let a = c.loop-piece.arena in
    let at = c.loop-piece.at in
    let far = c.loop-piece.invariant in
    let left = pieces_from texts h split object at in
    let same : (v : Value) → Leads h.objects v → spelled texts a v ≡ spelled texts h v = λ v l. ap (λ (w : Heap Value ℕ). spelled texts w v) far.heap ∙ spelled_kept tuples texts (keeps_pieces h far.done) v l in
    let later : Later h.objects a.objects = subst (λ (w : Heap Value ℕ). Later h.objects w.objects) (sym far.heap) (later_pieces h far.done) in
    let now = pieces_kept texts tuples a h split object at c.requires.split same leads in
    known_later texts tuples later object c.requires.object

pub next_piece-requires-clause-split : goal.next_piece-requires-clause-split
next_piece-requires-clause-split g c =
    let texts = g.C.Constants.text_of c.args.consts.now in
    let tuples = g.C.Constants.items_of c.args.consts.now in
    let h = c.args.arena.now in
    let object = c.args.object in
    let split = c.args.split in
    let leads = c.requires.object.leads in
    let pieces = pieces_from texts h split object 0 in
    let a = c.loop-piece.arena in
    let at = c.loop-piece.at in
    let far = c.loop-piece.invariant in
    let left = pieces_from texts h split object at in
    let same : (v : Value) → Leads h.objects v → spelled texts a v ≡ spelled texts h v = λ v l. ap (λ (w : Heap Value ℕ). spelled texts w v) far.heap ∙ spelled_kept tuples texts (keeps_pieces h far.done) v l in
    let later : Later h.objects a.objects = subst (λ (w : Heap Value ℕ). Later h.objects w.objects) (sym far.heap) (later_pieces h far.done) in
    let now = pieces_kept texts tuples a h split object at c.requires.split same leads in
    split_kept texts tuples a h split later same c.requires.split

pub loop-piece-preserved : goal.loop-piece-preserved
loop-piece-preserved g c =
    let texts = g.C.Constants.text_of c.args.consts.now in
    let tuples = g.C.Constants.items_of c.args.consts.now in
    let h = c.args.arena.now in
    let object = c.args.object in
    let split = c.args.split in
    let leads = c.requires.object.leads in
    let pieces = pieces_from texts h split object 0 in
    let a = c.loop-piece.arena in
    let at = c.loop-piece.at in
    let far = c.loop-piece.invariant in
    let left = pieces_from texts h split object at in
    let same : (v : Value) → Leads h.objects v → spelled texts a v ≡ spelled texts h v = λ v l. ap (λ (w : Heap Value ℕ). spelled texts w v) far.heap ∙ spelled_kept tuples texts (keeps_pieces h far.done) v l in
    let later : Later h.objects a.objects = subst (λ (w : Heap Value ℕ). Later h.objects w.objects) (sym far.heap) (later_pieces h far.done) in
    let now = pieces_kept texts tuples a h split object at c.requires.split same leads in
    let piece = c.in-Some.piece in
    let found = c.in-Some.ensures.some in
    let bytes = cut_bytes texts a piece.cut in
    let others = pieces_from texts h split object piece.next in
    let next : left ≡ bytes ∷ others = sym now ∙ (found.first ∙ ap (λ (ps : List (List ℕ)). bytes ∷ ps) (pieces_kept texts tuples a h split object piece.next c.requires.split same leads)) in
    made_more h pieces left a far bytes others next c.make_piece.new.arena c.in-Ok.ensures.ok c.in-Ok.ensures.fits

pub loop-piece-smaller : goal.loop-piece-smaller
loop-piece-smaller g c =
    let texts = g.C.Constants.text_of c.args.consts.now in
    let tuples = g.C.Constants.items_of c.args.consts.now in
    let h = c.args.arena.now in
    let object = c.args.object in
    let split = c.args.split in
    let leads = c.requires.object.leads in
    let pieces = pieces_from texts h split object 0 in
    let a = c.loop-piece.arena in
    let at = c.loop-piece.at in
    let far = c.loop-piece.invariant in
    let left = pieces_from texts h split object at in
    let same : (v : Value) → Leads h.objects v → spelled texts a v ≡ spelled texts h v = λ v l. ap (λ (w : Heap Value ℕ). spelled texts w v) far.heap ∙ spelled_kept tuples texts (keeps_pieces h far.done) v l in
    let later : Later h.objects a.objects = subst (λ (w : Heap Value ℕ). Later h.objects w.objects) (sym far.heap) (later_pieces h far.done) in
    let now = pieces_kept texts tuples a h split object at c.requires.split same leads in
    let piece = c.in-Some.piece in
    let found = c.in-Some.ensures.some in
    let bytes = cut_bytes texts a piece.cut in
    let others = pieces_from texts h split object piece.next in
    let next : left ≡ bytes ∷ others = sym now ∙ (found.first ∙ ap (λ (ps : List (List ℕ)). bytes ∷ ps) (pieces_kept texts tuples a h split object piece.next c.requires.split same leads)) in
    omega (arith, ap (λ (ps : List (List ℕ)). length ps) next)

pub returns-in-Err-clause-refused : goal.returns-in-Err-clause-refused
returns-in-Err-clause-refused g c =
    let texts = g.C.Constants.text_of c.args.consts.now in
    let tuples = g.C.Constants.items_of c.args.consts.now in
    let h = c.args.arena.now in
    let object = c.args.object in
    let split = c.args.split in
    let leads = c.requires.object.leads in
    let pieces = pieces_from texts h split object 0 in
    let a = c.loop-piece.arena in
    let at = c.loop-piece.at in
    let far = c.loop-piece.invariant in
    let left = pieces_from texts h split object at in
    let same : (v : Value) → Leads h.objects v → spelled texts a v ≡ spelled texts h v = λ v l. ap (λ (w : Heap Value ℕ). spelled texts w v) far.heap ∙ spelled_kept tuples texts (keeps_pieces h far.done) v l in
    let later : Later h.objects a.objects = subst (λ (w : Heap Value ℕ). Later h.objects w.objects) (sym far.heap) (later_pieces h far.done) in
    let now = pieces_kept texts tuples a h split object at c.requires.split same leads in
    let piece = c.in-Some.piece in
    let found = c.in-Some.ensures.some in
    let bytes = cut_bytes texts a piece.cut in
    let others = pieces_from texts h split object piece.next in
    let next : left ≡ bytes ∷ others = sym now ∙ (found.first ∙ ap (λ (ps : List (List ℕ)). bytes ∷ ps) (pieces_kept texts tuples a h split object piece.next c.requires.split same leads)) in
    made_refused h pieces left a far bytes others next c.make_piece.new.arena c.in-Err.room c.in-Err.ensures.refused

pub returns-clause-ok : goal.returns-clause-ok
returns-clause-ok g c =
    let texts = g.C.Constants.text_of c.args.consts.now in
    let tuples = g.C.Constants.items_of c.args.consts.now in
    let h = c.args.arena.now in
    let object = c.args.object in
    let split = c.args.split in
    let leads = c.requires.object.leads in
    let pieces = pieces_from texts h split object 0 in
    let a = c.loop-piece.arena in
    let at = c.loop-piece.at in
    let far = c.loop-piece.invariant in
    let left = pieces_from texts h split object at in
    let same : (v : Value) → Leads h.objects v → spelled texts a v ≡ spelled texts h v = λ v l. ap (λ (w : Heap Value ℕ). spelled texts w v) far.heap ∙ spelled_kept tuples texts (keeps_pieces h far.done) v l in
    let later : Later h.objects a.objects = subst (λ (w : Heap Value ℕ). Later h.objects w.objects) (sym far.heap) (later_pieces h far.done) in
    let now = pieces_kept texts tuples a h split object at c.requires.split same leads in
    (made_all h pieces left a far (sym now ∙ c.in_default.ensures.none)).0

pub returns-clause-fits : goal.returns-clause-fits
returns-clause-fits g c =
    let texts = g.C.Constants.text_of c.args.consts.now in
    let tuples = g.C.Constants.items_of c.args.consts.now in
    let h = c.args.arena.now in
    let object = c.args.object in
    let split = c.args.split in
    let leads = c.requires.object.leads in
    let pieces = pieces_from texts h split object 0 in
    let a = c.loop-piece.arena in
    let at = c.loop-piece.at in
    let far = c.loop-piece.invariant in
    let left = pieces_from texts h split object at in
    let same : (v : Value) → Leads h.objects v → spelled texts a v ≡ spelled texts h v = λ v l. ap (λ (w : Heap Value ℕ). spelled texts w v) far.heap ∙ spelled_kept tuples texts (keeps_pieces h far.done) v l in
    let later : Later h.objects a.objects = subst (λ (w : Heap Value ℕ). Later h.objects w.objects) (sym far.heap) (later_pieces h far.done) in
    let now = pieces_kept texts tuples a h split object at c.requires.split same leads in
    (made_all h pieces left a far (sym now ∙ c.in_default.ensures.none)).1
