-- The texts of pieces, as the meaning has them.
use Rattle.std.proofs.Common.{◌≡◌, ℕ, zero, suc, ◌<◌, List, [], ◌∷◌, ◌++◌, length, map, get_or, replicate, Bool, true, false, cond, Option, Some, None, refl, sym, ap, ap₂, ◌∙◌, subst, arith, length-append}
use Rattle.std.specs.List.{All}
use Rattle.std.specs.Prelude.{IsSome}
use Rattle.std.proofs.lemmas.List.{get_or_append_left, get_or_at}
use Rattle.std.proofs.lemmas.List.Elements.{All-nil}
use Rattle.prim_builtins.specs.arena_heap.declared.value.Value.{Value}
use Rattle.prim_builtins.specs.arena_heap.declared.value.StrNo.{StrNo}
use Rattle.prim_builtins.specs.arena_heap.declared.value.StrNo.TheVariants as strs
use Rattle.prim_builtins.specs.arena_heap.declared.value.ConstNo.{ConstNo}
use Rattle.mpy_base.specs.World.{TextObject, Heap, AText, Later, object, kind_of, text_of, with_list}
use Rattle.mpy_base.specs.Weights.{used, does_fit, Fits, with_made}
use Rattle.mpy_base.specs.Val.{Val, Str, At}
use Rattle.mpy_base.proofs.Worlds.{later_append, later_later, later_same}
use Rattle.prim_builtins.specs.arena_heap.Values.{ArenaObject}
use Rattle.prim_builtins.specs.arena_heap.Constants.{IsTold}
use Rattle.prim_builtins.specs.arena_objects.Keys.{AllTold}
use Rattle.prim_builtins.specs.arena_objects.Iterables.{given, or_nothing}
use Rattle.prim_builtins.proofs.arena_objects_lemmas.Gifts.{Keeps, keeps_keeps}
use Rattle.prim_builtins.proofs.arena_objects_lemmas.Tolds.{told_with_made}
use Rattle.prim_builtins.specs.py_values.Shown.{PlainHeap}
use Rattle.prim_builtins.specs.py_primitives.Outcome.{Outcome, gives, is_full, followed_by, making, making_text, making_texts}
use Rattle.prim_builtins.specs.prim_walks.Plain.{plain, plain_heap}
use Rattle.prim_builtins.specs.prim_faults.Faults.{IsKnown}
use Rattle.prim_builtins.proofs.prim_faults_lemmas.Heaps.{used_plain, fit_plain, made_plain}
use Rattle.prim_builtins.proofs.prim_faults_lemmas.Outcomes.{fits_true, fits_false}
use Rattle.prim_str_methods.specs.Pieces.{with_piece, with_pieces, cell_behind, cells_behind, piece_value, piece_values, FitsPiece, FitPieces}

-- heaps with more texts
-- =====================

used_piece : (h : Heap Value ℕ) (piece : List ℕ) → used (with_piece h piece) ≡ cell_behind (used h) piece
used_piece h [] = refl
used_piece h (b ∷ bs) = let none : Option ArenaObject = None in length-append h.objects (Some (TextObject (b ∷ bs)) ∷ replicate 1 none)

pub used_pieces : (h : Heap Value ℕ) (pieces : List (List ℕ)) → used (with_pieces h pieces) ≡ cells_behind (used h) pieces
used_pieces h [] = refl
used_pieces h (piece ∷ pieces) = used_pieces (with_piece h piece) pieces ∙ ap (λ (n : ℕ). cells_behind n pieces) (used_piece h piece)

keeps_itself : (h : Heap Value ℕ) → Keeps h h
keeps_itself h = record { gives = λ n lt. refl; spells = λ n lt. refl; longer = λ n lt. lt }

keeps_piece : (h : Heap Value ℕ) (piece : List ℕ) → Keeps h (with_piece h piece)
keeps_piece h [] = keeps_itself h
keeps_piece h (b ∷ bs) =
    let none : Option ArenaObject = None in
    let same : (n : ℕ) → n < length h.objects → object (with_piece h (b ∷ bs)).objects n ≡ object h.objects n = λ n lt. get_or_append_left h.objects (Some (TextObject (b ∷ bs)) ∷ replicate 1 none) none n lt in
    record {
      gives = λ n lt. ap given (same n lt);
      spells = λ n lt. ap text_of (same n lt);
      longer = λ n lt. omega (arith, lt, used_piece h (b ∷ bs));
    }

pub keeps_pieces : (h : Heap Value ℕ) (pieces : List (List ℕ)) → Keeps h (with_pieces h pieces)
keeps_pieces h [] = keeps_itself h
keeps_pieces h (piece ∷ pieces) = keeps_keeps (keeps_piece h piece) (keeps_pieces (with_piece h piece) pieces)

later_piece : (h : Heap Value ℕ) (piece : List ℕ) → Later h.objects (with_piece h piece).objects
later_piece h [] = later_same h.objects
later_piece h (b ∷ bs) = let none : Option ArenaObject = None in later_append h.objects (Some (TextObject (b ∷ bs)) ∷ replicate 1 none)

pub later_pieces : (h : Heap Value ℕ) (pieces : List (List ℕ)) → Later h.objects (with_pieces h pieces).objects
later_pieces h [] = later_same h.objects
later_pieces h (piece ∷ pieces) = later_later (later_piece h piece) (later_pieces (with_piece h piece) pieces)

-- one piece more
pub pieces_more : (h : Heap Value ℕ) (done : List (List ℕ)) (piece : List ℕ) → with_pieces h (done ++ piece ∷ []) ≡ with_piece (with_pieces h done) piece
pieces_more h [] piece = refl
pieces_more h (p ∷ done) piece = pieces_more (with_piece h p) done piece

pub fits_more : (h : Heap Value ℕ) (done : List (List ℕ)) (piece : List ℕ) → FitPieces h done → FitsPiece (with_pieces h done) piece → FitPieces h (done ++ piece ∷ [])
fits_more h [] piece fit one = (one, tt)
fits_more h (p ∷ done) piece fit one = (fit.0, fits_more (with_piece h p) done piece fit.1 one)

module _ (texts : StrNo → Option (List ℕ)) (tuples : ConstNo → Option (List Value)) where
  told_piece : (h : Heap Value ℕ) (piece : List ℕ) → AllTold texts tuples h.objects → AllTold texts tuples (with_piece h piece).objects
  told_piece h [] all = all
  told_piece h (b ∷ bs) all = told_with_made texts tuples h (TextObject (b ∷ bs)) all (All-nil (IsTold texts tuples))

  pub told_pieces : (h : Heap Value ℕ) (pieces : List (List ℕ)) → AllTold texts tuples h.objects → AllTold texts tuples (with_pieces h pieces).objects
  told_pieces h [] all = all
  told_pieces h (piece ∷ pieces) all = told_pieces (with_piece h piece) pieces (told_piece h piece all)

  -- a making of a text
  text_fitted : (h : Heap Value ℕ) (bs : List ℕ) → Fits h 2 (length bs) → making (plain_heap texts tuples h) (TextObject bs) ≡ gives (At (used h)) (plain_heap texts tuples (with_made h (TextObject bs)))
  text_fitted h bs fits =
      let heap = plain_heap texts tuples h in
      ap (λ (b : Bool). cond b (gives (At (used heap)) (with_made heap (TextObject bs))) (is_full heap 2 (length bs))) (fit_plain texts tuples h 2 (length bs) ∙ fits_true h 2 (length bs) fits)
      ∙ ap₂ (λ (n : ℕ) (w : PlainHeap). gives (At n) w) (used_plain texts tuples h) (sym (made_plain texts tuples h (TextObject bs)))

  text_unfitted : (h : Heap Value ℕ) (bs : List ℕ) → (Fits h 2 (length bs) → ⊥) → making (plain_heap texts tuples h) (TextObject bs) ≡ is_full (plain_heap texts tuples h) 2 (length bs)
  text_unfitted h bs unfit =
      let heap = plain_heap texts tuples h in
      ap (λ (b : Bool). cond b (gives (At (used heap)) (with_made heap (TextObject bs))) (is_full heap 2 (length bs)))
      (fit_plain texts tuples h 2 (length bs) ∙ fits_false h 2 (length bs) unfit)

  module _ (empty : texts (strs.Pool 1) ≡ Some []) where
    piece_made : (h : Heap Value ℕ) (piece : List ℕ) → FitsPiece h piece → making_text (plain_heap texts tuples h) piece ≡ gives (plain texts tuples (piece_value (used h) piece)) (plain_heap texts tuples (with_piece h piece))
    piece_made h [] fits = sym (ap (λ (o : Option (List ℕ)). gives (Str (or_nothing o)) (plain_heap texts tuples h)) empty)
    piece_made h (b ∷ bs) fits = text_fitted h (b ∷ bs) fits

    -- the texts of all pieces
    pub pieces_made : (h : Heap Value ℕ) (pieces : List (List ℕ)) → FitPieces h pieces
        → making_texts (plain_heap texts tuples h) pieces ≡ gives (map (plain texts tuples) (piece_values (used h) pieces)) (plain_heap texts tuples (with_pieces h pieces))
    pieces_made h [] fits = refl
    pieces_made h (piece ∷ pieces) fits =
        let v = plain texts tuples (piece_value (used h) piece) in
        let behind = plain_heap texts tuples (with_piece h piece) in
        let next : Val → PlainHeap → Outcome (List Val) = λ w heap. followed_by (making_texts heap pieces) (λ vs last. gives (w ∷ vs) last) in
        ap (λ (o : Outcome Val). followed_by o next) (piece_made h piece fits.0)
        ∙ (ap (λ (o : Outcome (List Val)). followed_by (gives v behind) (λ w heap. followed_by o (λ vs last. gives (w ∷ vs) last))) (pieces_made (with_piece h piece) pieces fits.1)
        ∙ ap (λ (n : ℕ). gives (v ∷ map (plain texts tuples) (piece_values n pieces)) (plain_heap texts tuples (with_pieces (with_piece h piece) pieces))) (used_piece h piece))

    piece_full : (h : Heap Value ℕ) (piece : List ℕ) → 0 < length piece → (Fits h 2 (length piece) → ⊥) → making_text (plain_heap texts tuples h) piece ≡ is_full (plain_heap texts tuples h) 2 (length piece)
    piece_full h [] some unfit = absurd (omega arith)
    piece_full h (b ∷ bs) some unfit = text_unfitted h (b ∷ bs) unfit

    -- the text of a piece doesn't fit
    pub pieces_full : (h : Heap Value ℕ) (done : List (List ℕ)) (piece : List ℕ) (rest : List (List ℕ)) → FitPieces h done → 0 < length piece → (Fits (with_pieces h done) 2 (length piece) → ⊥)
        → making_texts (plain_heap texts tuples h) (done ++ piece ∷ rest) ≡ is_full (plain_heap texts tuples (with_pieces h done)) 2 (length piece)
    pieces_full h [] piece rest fits some unfit =
        let next : Val → PlainHeap → Outcome (List Val) = λ w heap. followed_by (making_texts heap rest) (λ vs last. gives (w ∷ vs) last) in
        ap (λ (o : Outcome Val). followed_by o next) (piece_full h piece some unfit)
    pieces_full h (p ∷ done) piece rest fits some unfit =
        let v = plain texts tuples (piece_value (used h) p) in
        let behind = plain_heap texts tuples (with_piece h p) in
        let next : Val → PlainHeap → Outcome (List Val) = λ w heap. followed_by (making_texts heap (done ++ piece ∷ rest)) (λ vs last. gives (w ∷ vs) last) in
        ap (λ (o : Outcome Val). followed_by o next) (piece_made h p fits.0)
        ∙ ap (λ (o : Outcome (List Val)). followed_by (gives v behind) (λ w heap. followed_by o (λ vs last. gives (w ∷ vs) last))) (pieces_full (with_piece h p) done piece rest fits.1 some unfit)

  some_nothing : IsSome {T = List ℕ} (Some [])
  some_nothing = refl

  -- the strs of pieces are known
  pub values_known : (empty : texts (strs.Pool 1) ≡ Some []) (h : Heap Value ℕ) (pieces : List (List ℕ)) → All (IsKnown texts tuples (with_pieces h pieces).objects) (piece_values (used h) pieces)
  values_known empty h [] = All-nil (IsKnown texts tuples h.objects)
  values_known empty h (piece ∷ pieces) =
      let last = with_pieces (with_piece h piece) pieces in
      let one : IsKnown texts tuples last.objects (piece_value (used h) piece) = first_known empty h piece last (later_pieces (with_piece h piece) pieces) in
      let others = subst (λ (n : ℕ). All (IsKnown texts tuples last.objects) (piece_values n pieces)) (used_piece h piece) (values_known empty (with_piece h piece) pieces) in
      λ k. elim k as (λ j. (d : Value) → j < length (piece_values (used h) (piece ∷ pieces)) → IsKnown texts tuples last.objects (get_or (piece_values (used h) (piece ∷ pieces)) j d)) [
        | zero ↦ λ d lt. one
        | suc j ↦ λ d lt. others j d (omega arith)
      ]
    where
      first_known : texts (strs.Pool 1) ≡ Some [] → (h : Heap Value ℕ) (piece : List ℕ) (last : Heap Value ℕ) → Later (with_piece h piece).objects last.objects → IsKnown texts tuples last.objects (piece_value (used h) piece)
      first_known empty h [] last later = record { leads = record { meets = tt; small = tt }; told = subst IsSome (sym empty) some_nothing }
      first_known empty h (b ∷ bs) last later =
          let none : Option ArenaObject = None in
          record { leads = record { meets = later.keeps AText (used h) (ap kind_of (get_or_at h.objects (Some (TextObject (b ∷ bs))) (replicate 1 none) none (used h) refl)); small = tt }; told = tt }

-- the texts of some first pieces are made
pub record MadeSoFar (h : Heap Value ℕ) (pieces rest : List (List ℕ)) (a : Heap Value ℕ) : Type 0 where
  pub done : List (List ℕ)
  pub are : pieces ≡ done ++ rest
  pub fits : FitPieces h done
  pub heap : a ≡ with_pieces h done

-- the strs of some first pieces are in the list
pub record PutSoFar (h : Heap Value ℕ) (l first : ℕ) (pieces rest : List (List ℕ)) (cell : ℕ) (a : Heap Value ℕ) : Type 0 where
  pub done : List (List ℕ)
  pub are : pieces ≡ done ++ rest
  pub cells : cell ≡ cells_behind first done
  pub heap : a ≡ with_list h l (piece_values first done)

before_piece : (h : Heap Value ℕ) (piece : List ℕ) (n : ℕ) → n < length h.objects → (n < length (with_piece h piece).objects) × (object (with_piece h piece).objects n ≡ object h.objects n)
before_piece h [] n lt = (lt, refl)
before_piece h (b ∷ bs) n lt =
    let none : Option ArenaObject = None in
    (omega (arith, lt, used_piece h (b ∷ bs)), get_or_append_left h.objects (Some (TextObject (b ∷ bs)) ∷ replicate 1 none) none n lt)

-- an object that was there is the same one
pub before_pieces : (h : Heap Value ℕ) (pieces : List (List ℕ)) (n : ℕ) → n < length h.objects → object (with_pieces h pieces).objects n ≡ object h.objects n
before_pieces h [] n lt = refl
before_pieces h (piece ∷ pieces) n lt = let one = before_piece h piece n lt in before_pieces (with_piece h piece) pieces n one.0 ∙ one.1
