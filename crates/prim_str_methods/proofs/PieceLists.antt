-- Lists of pieces.
use Rattle.std.proofs.Common.{◌≡◌, ℕ, suc, ◌+◌, ◌<◌, ◌≤◌, List, [], ◌∷◌, ◌++◌, length, drop, set, append_assoc, Option, Some, None, refl, sym, ap, ap₂, ◌∙◌, subst, inl, inr, arith, length-append, get_or-set_other}
use Rattle.std.specs.Prelude.{codes}
use Rattle.std.specs.List.{All, insert}
use Rattle.std.proofs.lemmas.List.{append-nil, set-get_or}
use Rattle.std.proofs.lemmas.List.Elements.{All-head, All-tail}
use Rattle.std.proofs.lemmas.Bool.{cases_eq}
use Rattle.prim_builtins.specs.arena_heap.declared.value.Value.{Value}
use Rattle.prim_builtins.specs.arena_heap.declared.value.Value.TheVariants as values
use Rattle.prim_builtins.specs.arena_heap.declared.value.StrNo.{StrNo}
use Rattle.prim_builtins.specs.arena_heap.declared.value.StrNo.TheVariants as strs
use Rattle.prim_builtins.specs.arena_heap.declared.value.ConstNo.{ConstNo}
use Rattle.mpy_base.specs.declared.room.NoRoom.{NoRoom}
use Rattle.mpy_base.specs.World.{ListObject, TextObject, Heap, AList, AText, IsA, Later, object, kind_of, text_of, items_of, items_at, room_of, room_at, with_list}
use Rattle.mpy_base.specs.Weights.{Fits, Made, with_made}
use Rattle.mpy_base.specs.Val.{Val}
use Rattle.mpy_base.proofs.Worlds.{later_list, object_before, used_made}
use Rattle.prim_builtins.specs.arena_heap.Values.{ArenaObject, Leads}
use Rattle.prim_builtins.proofs.arena_heap_lemmas.Sounds.{leads_later}
use Rattle.prim_builtins.specs.arena_objects.Iterables.{given, spelled}
use Rattle.prim_builtins.proofs.arena_objects_lemmas.Gifts.{Keeps, list_there, put_again}
use Rattle.prim_builtins.specs.py_values.Shown.{PlainHeap, Shown, Text}
use Rattle.prim_builtins.specs.py_primitives.Faults.{EmptySeparator}
use Rattle.prim_builtins.specs.py_primitives.Outcome.{Outcome, raises}
use Rattle.prim_builtins.specs.py_primitives.Operators.{unsupported}
use Rattle.prim_builtins.specs.py_primitives.Methods.{str_in, of_str, split_by, list_of_texts, pieces_between, words_of}
use Rattle.prim_str_methods.specs.declared.pieces.Split.{Split}
use Rattle.prim_str_methods.specs.declared.pieces.Split.TheVariants as splits
use Rattle.prim_str_methods.specs.Pieces.{between, pieces_from, IsSplit, with_piece, with_pieces, cell_behind, cells_behind, piece_value, piece_values, FitsPiece, FitPieces, PieceRefused, PiecesRefused}
use Rattle.prim_str_methods.proofs.Writings.{known_later}
use Rattle.prim_str_methods.proofs.PieceTexts.{pieces_more, fits_more, MadeSoFar, PutSoFar}

-- texts that are made, one after another
module _ (h : Heap Value ℕ) (pieces : List (List ℕ)) where
  pub made_none : MadeSoFar h pieces pieces h
  made_none = record { done = []; are = refl; fits = tt; heap = refl }

  module _ (rest : List (List ℕ)) (a : Heap Value ℕ) (far : MadeSoFar h pieces rest a) where
    pub made_all : rest ≡ [] → (a ≡ with_pieces h pieces) × FitPieces h pieces
    made_all none =
        let all : pieces ≡ far.done = far.are ∙ (ap (λ (ps : List (List ℕ)). far.done ++ ps) none ∙ append-nil far.done) in
        (far.heap ∙ ap (with_pieces h) (sym all), subst (FitPieces h) (sym all) far.fits)

    module _ (piece : List ℕ) (others : List (List ℕ)) (next : rest ≡ piece ∷ others) where
      split_here : pieces ≡ far.done ++ piece ∷ others
      split_here = far.are ∙ ap (λ (ps : List (List ℕ)). far.done ++ ps) next

      pub made_more : (b : Heap Value ℕ) → b ≡ with_piece a piece → FitsPiece a piece → MadeSoFar h pieces others b
      made_more b e fits = record {
        done = far.done ++ piece ∷ [];
        are = split_here ∙ sym (append_assoc far.done (piece ∷ []) others);
        fits = fits_more h far.done piece far.fits (subst (λ (w : Heap Value ℕ). FitsPiece w piece) far.heap fits);
        heap = e ∙ (ap (λ (w : Heap Value ℕ). with_piece w piece) far.heap ∙ sym (pieces_more h far.done piece));
      }

      pub made_refused : (b : Heap Value ℕ) (e : NoRoom) → PieceRefused a b e piece → PiecesRefused h b e pieces
      made_refused b e refused = record {
        done = far.done;
        piece = piece;
        rest = others;
        are = split_here;
        fitted = far.fits;
        refused = subst (λ (w : Heap Value ℕ). PieceRefused w b e piece) far.heap refused;
      }

-- the strs of pieces
values_more : (cell : ℕ) (done : List (List ℕ)) (piece : List ℕ) → piece_values cell (done ++ piece ∷ []) ≡ piece_values cell done ++ piece_value (cells_behind cell done) piece ∷ []
values_more cell [] piece = refl
values_more cell (p ∷ done) piece = ap (λ (vs : List Value). piece_value cell p ∷ vs) (values_more (cell_behind cell p) done piece)

cells_more : (cell : ℕ) (done : List (List ℕ)) (piece : List ℕ) → cells_behind cell (done ++ piece ∷ []) ≡ cell_behind (cells_behind cell done) piece
cells_more cell [] piece = refl
cells_more cell (p ∷ done) piece = cells_more (cell_behind cell p) done piece

cell_grows : (cell : ℕ) (piece : List ℕ) → cell ≤ cell_behind cell piece
cell_grows cell [] = omega arith
cell_grows cell (b ∷ bs) = omega arith

cells_grow : (cell : ℕ) (pieces : List (List ℕ)) → cell ≤ cells_behind cell pieces
cells_grow cell [] = omega arith
cells_grow cell (p ∷ pieces) = omega (arith, cell_grows cell p, cells_grow (cell_behind cell p) pieces)

some_grows : (cell : ℕ) (piece : List ℕ) → 0 < length piece → cell_behind cell piece ≡ cell + 2
some_grows cell [] some = absurd (omega arith)
some_grows cell (b ∷ bs) some = refl

cells_within : (cell : ℕ) (done : List (List ℕ)) (piece : List ℕ) (others : List (List ℕ)) → cell_behind (cells_behind cell done) piece ≤ cells_behind cell (done ++ piece ∷ others)
cells_within cell [] piece others = cells_grow (cell_behind cell piece) others
cells_within cell (p ∷ done) piece others = cells_within (cell_behind cell p) done piece others

value_there : (P : Value → Type 0) (cell : ℕ) (done : List (List ℕ)) (piece : List ℕ) (others : List (List ℕ)) → All P (piece_values cell (done ++ piece ∷ others)) → P (piece_value (cells_behind cell done) piece)
value_there P cell [] piece others all = All-head P (piece_value cell piece) (piece_values (cell_behind cell piece) others) all
value_there P cell (p ∷ done) piece others all =
    value_there P (cell_behind cell p) done piece others (All-tail P (piece_value cell p) (piece_values (cell_behind cell p) (done ++ piece ∷ others)) all)

values_count : (cell : ℕ) (pieces : List (List ℕ)) → length (piece_values cell pieces) ≡ length pieces
values_count cell [] = refl
values_count cell (p ∷ pieces) = ap suc (values_count (cell_behind cell p) pieces)

pub empty_value : (cell : ℕ) (piece : List ℕ) (len : ℕ) → len ≡ 0 → length piece ≡ len → values.Str (strs.Pool 1) ≡ piece_value cell piece
empty_value cell [] len none e = refl
empty_value cell (b ∷ bs) len none e = absurd (omega arith)

pub text_value : (cell : ℕ) (piece : List ℕ) (len : ℕ) → (len ≡ 0 → ⊥) → length piece ≡ len → values.Text (record { cell = cell }) ≡ piece_value cell piece
text_value cell [] len some e = absurd (some (omega arith))
text_value cell (b ∷ bs) len some e = refl

pub empty_cell : (cell : ℕ) (piece : List ℕ) (len : ℕ) → len ≡ 0 → length piece ≡ len → cell ≡ cell_behind cell piece
empty_cell cell [] len none e = refl
empty_cell cell (b ∷ bs) len none e = absurd (omega arith)

pub text_cell : (cell : ℕ) (piece : List ℕ) (len : ℕ) → (len ≡ 0 → ⊥) → length piece ≡ len → cell + 2 ≡ cell_behind cell piece
text_cell cell [] len some e = absurd (some (omega arith))
text_cell cell (b ∷ bs) len some e = refl

pub some_piece : (h : Heap Value ℕ) (piece : List ℕ) → (length piece ≡ 0 → ⊥) → with_piece h piece ≡ with_made h (TextObject piece)
some_piece h [] some = absurd (some refl)
some_piece h (b ∷ bs) some = refl

pub no_piece : (h : Heap Value ℕ) (piece : List ℕ) → length piece ≡ 0 → (h ≡ with_piece h piece) × FitsPiece h piece
no_piece h [] none = (refl, tt)
no_piece h (b ∷ bs) none = absurd (omega arith)

pub piece_fits : (h : Heap Value ℕ) (piece : List ℕ) → Fits h 2 (length piece) → FitsPiece h piece
piece_fits h [] fits = tt
piece_fits h (b ∷ bs) fits = fits

-- a list that takes the strs of pieces
module _ (h : Heap Value ℕ) (l first : ℕ) (is : IsA h.objects AList l) (pieces : List (List ℕ)) where
  pub put_none : items_at h l ≡ [] → PutSoFar h l first pieces pieces first h
  put_none none = record { done = []; are = refl; cells = refl; heap = same (object h.objects l) is none }
    where
      kept : (o : Option ArenaObject) → kind_of o ≡ Some AList → items_of o ≡ [] → Some (ListObject [] (room_of o)) ≡ o
      kept (Some (ListObject [] room)) is none = refl
      kept (Some (ListObject (v ∷ vs) room)) is none = absurd cc
      kept _ is none = absurd cc

      same : (o : Option ArenaObject) → kind_of o ≡ Some AList → items_of o ≡ [] → h ≡ with_list h l []
      same o is' none' =
          sym (ap (λ (x : Option ArenaObject). record h { objects = set h.objects l x }) (kept (object h.objects l) is none)
          ∙ ap (λ (os : List (Option ArenaObject)). record h { objects = os }) (set-get_or h.objects l None))

  module _ (rest : List (List ℕ)) (cell : ℕ) (a : Heap Value ℕ) (far : PutSoFar h l first pieces rest cell a) where
    pub later_put : Later h.objects a.objects
    later_put = subst (λ (w : Heap Value ℕ). Later h.objects w.objects) (sym far.heap) (later_list h l (piece_values first far.done) is)

    pub items_put : items_at a l ≡ piece_values first far.done
    items_put = ap (λ (w : Heap Value ℕ). items_at w l) far.heap ∙ ap items_of (list_there h l is (piece_values first far.done))

    room_put : room_at a l ≡ room_at h l
    room_put = ap (λ (w : Heap Value ℕ). room_at w l) far.heap ∙ ap room_of (list_there h l is (piece_values first far.done))

    pub put_all : rest ≡ [] → a ≡ with_list h l (piece_values first pieces)
    put_all none = far.heap ∙ ap (λ (ps : List (List ℕ)). with_list h l (piece_values first ps)) (sym (far.are ∙ (ap (λ (ps : List (List ℕ)). far.done ++ ps) none ∙ append-nil far.done)))

    module _ (piece : List ℕ) (others : List (List ℕ)) (next : rest ≡ piece ∷ others) where
      here : pieces ≡ far.done ++ piece ∷ others
      here = far.are ∙ ap (λ (ps : List (List ℕ)). far.done ++ ps) next

      pub value_leads : (v : Value) → v ≡ piece_value cell piece → All (Leads h.objects) (piece_values first pieces) → Leads a.objects v
      value_leads v e all =
          let one : Leads h.objects (piece_value (cells_behind first far.done) piece) =
          value_there (Leads h.objects) first far.done piece others (subst (λ (ps : List (List ℕ)). All (Leads h.objects) (piece_values first ps)) here all) in
          let same : piece_value (cells_behind first far.done) piece ≡ v = ap (λ (n : ℕ). piece_value n piece) (sym far.cells) ∙ sym e in
          leads_later later_put v (subst (Leads h.objects) same one)

      pub put_fits : length pieces ≤ room_at h l → length (items_at a l) < room_at a l
      put_fits le =
          omega (arith, ap (λ (vs : List Value). length vs) items_put, values_count first far.done, room_put, ap (λ (ps : List (List ℕ)). length ps) here, length-append far.done (piece ∷ others))

      pub cell_fits : 0 < length piece → cell + 2 ≤ cells_behind first pieces
      cell_fits some =
          omega (arith, cells_within first far.done piece others, ap (λ (ps : List (List ℕ)). cells_behind first ps) here, far.cells, some_grows (cells_behind first far.done) piece some)

      pub put_more : (b : Heap Value ℕ) (v : Value) (end after : ℕ) → v ≡ piece_value cell piece → after ≡ cell_behind cell piece → end ≡ length (items_at a l) → b ≡ with_list a l (insert (items_at a l) end v)
          → PutSoFar h l first pieces others after b
      put_more b v end after ev ea ee eb = record {
        done = far.done ++ piece ∷ [];
        are = here ∙ sym (append_assoc far.done (piece ∷ []) others);
        cells = ea ∙ (ap (λ (n : ℕ). cell_behind n piece) far.cells ∙ sym (cells_more first far.done piece));
        heap = put_again h l is a b (piece_values first far.done) v end far.heap ee eb
            ∙ ap (λ (vs : List Value). with_list h l vs) (ap (λ (w : Value). piece_values first far.done ++ w ∷ []) (ev ∙ ap (λ (n : ℕ). piece_value n piece) far.cells) ∙ sym (values_more first far.done piece));
      }

two_kinds : (o : Option ArenaObject) → kind_of o ≡ Some AList → kind_of o ≡ Some AText → ⊥
two_kinds (Some (ListObject items room)) p q = absurd cc
two_kinds _ p q = absurd cc

-- pieces of strs that are kept
module _ (texts : StrNo → Option (List ℕ)) (tuples : ConstNo → Option (List Value)) where
  pub pieces_kept : (g h : Heap Value ℕ) (split : Split) (object : Value) (at : ℕ) → IsSplit texts tuples h split → ((v : Value) → Leads h.objects v → spelled texts g v ≡ spelled texts h v) → Leads h.objects object
      → pieces_from texts g split object at ≡ pieces_from texts h split object at
  pieces_kept g h splits.Words object at is same leads = ap (λ (bs : List ℕ). words_of (drop at bs)) (same object leads)
  pieces_kept g h (splits.By separator) object at is same leads = ap₂ (λ (s bs : List ℕ). between s bs at) (same separator is.0.leads) (same object leads)

  pub split_kept : (g h : Heap Value ℕ) (split : Split) → Later h.objects g.objects → ((v : Value) → Leads h.objects v → spelled texts g v ≡ spelled texts h v) → IsSplit texts tuples h split → IsSplit texts tuples g split
  split_kept g h splits.Words later same is = tt
  split_kept g h (splits.By separator) later same is =
      (known_later texts tuples later separator is.0, omega (arith, is.1, ap (λ (bs : List ℕ). length bs) (same separator is.0.leads)))

  -- a list has no part in strs
  pub spelled_list : (h a : Heap Value ℕ) (l : ℕ) (items : List Value) → IsA h.objects AList l → a ≡ with_list h l items → (v : Value) → Leads h.objects v → spelled texts a v ≡ spelled texts h v
  spelled_list h a l items is e v leads = ap (λ (w : Heap Value ℕ). spelled texts w v) e ∙ apart v leads
    where
      apart : (v : Value) → Leads h.objects v → spelled texts (with_list h l items) v ≡ spelled texts h v
      apart (values.Text t) leads = elim (cases_eq t.cell l) [
        | inl q ↦ absurd (two_kinds (object h.objects l) is (subst (λ (n : ℕ). IsA h.objects AText n) q leads.meets))
        | inr ne ↦ ap text_of (get_or-set_other h.objects l t.cell (Some (ListObject items (room_at h l))) None ne)
      ]
      apart _ leads = refl

pub keeps_made : {old made : Heap Value ℕ} {t : ℕ} {o : ArenaObject} → Made old made t o → Keeps old made
keeps_made {old} {made} m =
    let same : (n : ℕ) → n < length old.objects → object made.objects n ≡ object old.objects n = λ n lt. object_before m n lt in
    record { gives = λ n lt. ap given (same n lt); spells = λ n lt. ap text_of (same n lt); longer = λ n lt. omega (arith, lt, used_made m) }

-- a separator, and what is none
pub of_other : (heap : PlainHeap) (object v : Val) (next : List ℕ → Outcome Val) (s : Shown) → str_in s ≡ None → of_str heap object v s next ≡ unsupported heap (codes "__contains__") object v
of_other heap object v next (Text bytes) e = absurd cc
of_other heap object v next _ e = refl

pub split_empty : (heap : PlainHeap) (bytes separator : List ℕ) → length separator ≡ 0 → split_by heap bytes separator ≡ raises EmptySeparator heap
split_empty heap bytes [] e = refl
split_empty heap bytes (b ∷ bs) e = absurd (omega arith)

pub split_some : (heap : PlainHeap) (bytes separator : List ℕ) → 0 < length separator → split_by heap bytes separator ≡ list_of_texts heap (pieces_between 0 separator bytes)
split_some heap bytes [] some = absurd (omega arith)
split_some heap bytes (b ∷ bs) some = refl
