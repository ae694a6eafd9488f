use Rattle.std.proofs.Common.{◌≡◌, ℕ, List, ◌∷◌, length, sym, ap, ◌∙◌, arith}
use Rattle.prim_builtins.specs.arena_heap.declared.value.Value.{Value}
use Rattle.mpy_base.specs.World.{Later}
use Rattle.prim_builtins.specs.arena_heap.Values.{Leads}
use Rattle.prim_builtins.specs.arena_objects.Iterables.{spelled}
use Rattle.prim_str_methods.specs.Parts.{cut_bytes}
use Rattle.prim_str_methods.specs.Pieces.{pieces_from, piece_values, piece_value}
use Rattle.prim_str_methods.proofs.Writings.{cut_length}
use Rattle.prim_str_methods.proofs.PieceLists.{later_put, put_all, value_leads, put_fits, cell_fits, put_more, pieces_kept, spelled_list}
use Rattle.prim_str_methods.proofs.splits.put_pieces.Goals as goal

pub put_in_list-requires-clause-leads : goal.put_in_list-requires-clause-leads
put_in_list-requires-clause-leads g c =
    let texts = g.C.Constants.text_of c.args.consts.now in
    let tuples = g.C.Constants.items_of c.args.consts.now in
    let h = c.args.arena.now in
    let object = c.args.object in
    let split = c.args.split in
    let leads = c.requires.object.leads in
    let pieces = pieces_from texts h split object 0 in
    let l = c.args.l.cell in
    let first = c.args.first in
    let is = c.requires.list in
    let a = c.loop-piece.arena in
    let at = c.loop-piece.at in
    let cell = c.loop-piece.cell in
    let far = c.loop-piece.invariant in
    let left = pieces_from texts h split object at in
    let same : (v : Value) → Leads h.objects v → spelled texts a v ≡ spelled texts h v = spelled_list texts tuples h a l (piece_values first far.done) is far.heap in
    let later : Later h.objects a.objects = later_put h l first is pieces left cell a far in
    let now = pieces_kept texts tuples a h split object at c.requires.split same leads in
    let piece = c.in-Some.piece in
    let found = c.in-Some.ensures.some in
    let bytes = cut_bytes texts a piece.cut in
    let others = pieces_from texts h split object piece.next in
    let next : left ≡ bytes ∷ others = sym now ∙ (found.first ∙ ap (λ (ps : List (List ℕ)). bytes ∷ ps) (pieces_kept texts tuples a h split object piece.next c.requires.split same leads)) in
    let whole : length bytes ≡ piece.cut.len = cut_length texts tuples a piece.cut found.cut in
    let value : c.value_of-v.result ≡ piece_value cell bytes = c.value_of-v.ensures bytes whole in
    value_leads h l first is pieces left cell a far bytes others next c.value_of-v.result value c.requires.texts

pub put_in_list-requires-clause-room : goal.put_in_list-requires-clause-room
put_in_list-requires-clause-room g c =
    let texts = g.C.Constants.text_of c.args.consts.now in
    let tuples = g.C.Constants.items_of c.args.consts.now in
    let h = c.args.arena.now in
    let object = c.args.object in
    let split = c.args.split in
    let leads = c.requires.object.leads in
    let pieces = pieces_from texts h split object 0 in
    let l = c.args.l.cell in
    let first = c.args.first in
    let is = c.requires.list in
    let a = c.loop-piece.arena in
    let at = c.loop-piece.at in
    let cell = c.loop-piece.cell in
    let far = c.loop-piece.invariant in
    let left = pieces_from texts h split object at in
    let same : (v : Value) → Leads h.objects v → spelled texts a v ≡ spelled texts h v = spelled_list texts tuples h a l (piece_values first far.done) is far.heap in
    let later : Later h.objects a.objects = later_put h l first is pieces left cell a far in
    let now = pieces_kept texts tuples a h split object at c.requires.split same leads in
    let piece = c.in-Some.piece in
    let found = c.in-Some.ensures.some in
    let bytes = cut_bytes texts a piece.cut in
    let others = pieces_from texts h split object piece.next in
    let next : left ≡ bytes ∷ others = sym now ∙ (found.first ∙ ap (λ (ps : List (List ℕ)). bytes ∷ ps) (pieces_kept texts tuples a h split object piece.next c.requires.split same leads)) in
    let whole : length bytes ≡ piece.cut.len = cut_length texts tuples a piece.cut found.cut in
    let value : c.value_of-v.result ≡ piece_value cell bytes = c.value_of-v.ensures bytes whole in
    put_fits h l first is pieces left cell a far bytes others next c.requires.room

pub cell_after-cell-requires : goal.cell_after-cell-requires
cell_after-cell-requires g c =
    let texts = g.C.Constants.text_of c.args.consts.now in
    let tuples = g.C.Constants.items_of c.args.consts.now in
    let h = c.args.arena.now in
    let object = c.args.object in
    let split = c.args.split in
    let leads = c.requires.object.leads in
    let pieces = pieces_from texts h split object 0 in
    let l = c.args.l.cell in
    let first = c.args.first in
    let is = c.requires.list in
    let a = c.loop-piece.arena in
    let at = c.loop-piece.at in
    let cell = c.loop-piece.cell in
    let far = c.loop-piece.invariant in
    let left = pieces_from texts h split object at in
    let same : (v : Value) → Leads h.objects v → spelled texts a v ≡ spelled texts h v = spelled_list texts tuples h a l (piece_values first far.done) is far.heap in
    let later : Later h.objects a.objects = later_put h l first is pieces left cell a far in
    let now = pieces_kept texts tuples a h split object at c.requires.split same leads in
    let piece = c.in-Some.piece in
    let found = c.in-Some.ensures.some in
    let bytes = cut_bytes texts a piece.cut in
    let others = pieces_from texts h split object piece.next in
    let next : left ≡ bytes ∷ others = sym now ∙ (found.first ∙ ap (λ (ps : List (List ℕ)). bytes ∷ ps) (pieces_kept texts tuples a h split object piece.next c.requires.split same leads)) in
    let whole : length bytes ≡ piece.cut.len = cut_length texts tuples a piece.cut found.cut in
    let value : c.value_of-v.result ≡ piece_value cell bytes = c.value_of-v.ensures bytes whole in
    λ some. let fits = cell_fits h l first is pieces left cell a far bytes others next (omega (arith, whole, some)) in omega (arith, fits, c.requires.few)

pub loop-piece-preserved : goal.loop-piece-preserved
loop-piece-preserved g c =
    let texts = g.C.Constants.text_of c.args.consts.now in
    let tuples = g.C.Constants.items_of c.args.consts.now in
    let h = c.args.arena.now in
    let object = c.args.object in
    let split = c.args.split in
    let leads = c.requires.object.leads in
    let pieces = pieces_from texts h split object 0 in
    let l = c.args.l.cell in
    let first = c.args.first in
    let is = c.requires.list in
    let a = c.loop-piece.arena in
    let at = c.loop-piece.at in
    let cell = c.loop-piece.cell in
    let far = c.loop-piece.invariant in
    let left = pieces_from texts h split object at in
    let same : (v : Value) → Leads h.objects v → spelled texts a v ≡ spelled texts h v = spelled_list texts tuples h a l (piece_values first far.done) is far.heap in
    let later : Later h.objects a.objects = later_put h l first is pieces left cell a far in
    let now = pieces_kept texts tuples a h split object at c.requires.split same leads in
    let piece = c.in-Some.piece in
    let found = c.in-Some.ensures.some in
    let bytes = cut_bytes texts a piece.cut in
    let others = pieces_from texts h split object piece.next in
    let next : left ≡ bytes ∷ others = sym now ∙ (found.first ∙ ap (λ (ps : List (List ℕ)). bytes ∷ ps) (pieces_kept texts tuples a h split object piece.next c.requires.split same leads)) in
    let whole : length bytes ≡ piece.cut.len = cut_length texts tuples a piece.cut found.cut in
    let value : c.value_of-v.result ≡ piece_value cell bytes = c.value_of-v.ensures bytes whole in
    put_more h l first is pieces left cell a far bytes others next c.put_in_list.new.arena c.value_of-v.result c.list_len-end.result c.cell_after-cell.result value (c.cell_after-cell.ensures bytes whole) c.list_len-end.ensures c.put_in_list.ensures

pub loop-piece-smaller : goal.loop-piece-smaller
loop-piece-smaller g c =
    let texts = g.C.Constants.text_of c.args.consts.now in
    let tuples = g.C.Constants.items_of c.args.consts.now in
    let h = c.args.arena.now in
    let object = c.args.object in
    let split = c.args.split in
    let leads = c.requires.object.leads in
    let pieces = pieces_from texts h split object 0 in
    let l = c.args.l.cell in
    let first = c.args.first in
    let is = c.requires.list in
    let a = c.loop-piece.arena in
    let at = c.loop-piece.at in
    let cell = c.loop-piece.cell in
    let far = c.loop-piece.invariant in
    let left = pieces_from texts h split object at in
    let same : (v : Value) → Leads h.objects v → spelled texts a v ≡ spelled texts h v = spelled_list texts tuples h a l (piece_values first far.done) is far.heap in
    let later : Later h.objects a.objects = later_put h l first is pieces left cell a far in
    let now = pieces_kept texts tuples a h split object at c.requires.split same leads in
    let piece = c.in-Some.piece in
    let found = c.in-Some.ensures.some in
    let bytes = cut_bytes texts a piece.cut in
    let others = pieces_from texts h split object piece.next in
    let next : left ≡ bytes ∷ others = sym now ∙ (found.first ∙ ap (λ (ps : List (List ℕ)). bytes ∷ ps) (pieces_kept texts tuples a h split object piece.next c.requires.split same leads)) in
    let whole : length bytes ≡ piece.cut.len = cut_length texts tuples a piece.cut found.cut in
    let value : c.value_of-v.result ≡ piece_value cell bytes = c.value_of-v.ensures bytes whole in
    omega (arith, ap (λ (ps : List (List ℕ)). length ps) next)

pub returns : goal.returns
returns g c =
    let texts = g.C.Constants.text_of c.args.consts.now in
    let tuples = g.C.Constants.items_of c.args.consts.now in
    let h = c.args.arena.now in
    let object = c.args.object in
    let split = c.args.split in
    let leads = c.requires.object.leads in
    let pieces = pieces_from texts h split object 0 in
    let l = c.args.l.cell in
    let first = c.args.first in
    let is = c.requires.list in
    let a = c.loop-piece.arena in
    let at = c.loop-piece.at in
    let cell = c.loop-piece.cell in
    let far = c.loop-piece.invariant in
    let left = pieces_from texts h split object at in
    let same : (v : Value) → Leads h.objects v → spelled texts a v ≡ spelled texts h v = spelled_list texts tuples h a l (piece_values first far.done) is far.heap in
    let later : Later h.objects a.objects = later_put h l first is pieces left cell a far in
    let now = pieces_kept texts tuples a h split object at c.requires.split same leads in
    put_all h l first is pieces left cell a far (sym now ∙ c.in_default.ensures.none)
