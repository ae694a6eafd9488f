-- What a split answers.
use Rattle.std.proofs.Common.{◌≡◌, ℕ, suc, ◌+◌, List, [], length, map, Bool, cond, Option, Some, Ok, Err, refl, sym, ap, ap₂, ◌∙◌, subst, arith}
use Rattle.std.proofs.lemmas.List.Elements.{All-nil}
use Rattle.prim_builtins.specs.arena_heap.declared.value.Value.{Value}
use Rattle.prim_builtins.specs.arena_heap.declared.value.Value.TheVariants as values
use Rattle.prim_builtins.specs.arena_heap.declared.value.StrNo.{StrNo}
use Rattle.prim_builtins.specs.arena_heap.declared.value.StrNo.TheVariants as strs
use Rattle.prim_builtins.specs.arena_heap.declared.value.ConstNo.{ConstNo}
use Rattle.mpy_base.specs.declared.room.NoRoom.{NoRoom}
use Rattle.mpy_base.specs.World.{ListObject, Heap, AList, IsA, Later, kind_of, room_at, with_list}
use Rattle.mpy_base.specs.Weights.{used, does_fit, Fits, Made, Refused, room_for, with_made}
use Rattle.mpy_base.specs.Val.{Val, At}
use Rattle.mpy_base.proofs.Worlds.{later_later, later_made, later_list, object_made}
use Rattle.prim_builtins.specs.arena_heap.Constants.{IsTold}
use Rattle.prim_builtins.specs.arena_objects.Keys.{AllTold}
use Rattle.prim_builtins.proofs.arena_objects_lemmas.Tolds.{told_made}
use Rattle.prim_builtins.specs.py_values.Shown.{PlainHeap}
use Rattle.prim_builtins.specs.py_primitives.Outcome.{Outcome, gives, is_full, followed_by, making, making_texts}
use Rattle.prim_builtins.specs.py_primitives.Methods.{list_of_texts}
use Rattle.prim_builtins.specs.prim_walks.Plain.{plain, plain_heap}
use Rattle.prim_builtins.specs.prim_faults.declared.stop.Stop.TheVariants.{Full}
use Rattle.prim_builtins.specs.prim_faults.Outcomes.{IsOutcome}
use Rattle.prim_builtins.proofs.prim_faults_lemmas.Heaps.{used_plain, fit_plain, made_plain, list_put}
use Rattle.prim_builtins.proofs.prim_faults_lemmas.Outcomes.{answered, full_outcome, fits_true, fits_false}
use Rattle.prim_builtins.proofs.prim_operators_lemmas.ItemFills.{told_put}
use Rattle.prim_str_methods.specs.Pieces.{with_pieces, piece_values, FitPieces, PiecesRefused}
use Rattle.prim_str_methods.proofs.PieceTexts.{later_pieces, told_pieces, pieces_made, pieces_full, values_known}

module _ (texts : StrNo → Option (List ℕ)) (tuples : ConstNo → Option (List Value)) (old : Heap Value ℕ) (pieces : List (List ℕ)) where
  abbrev heap : PlainHeap
  heap = plain_heap texts tuples old

  abbrev room : ℕ
  room = room_for (length pieces)

  abbrev rest : Val → PlainHeap → Outcome Val
  rest = λ made behind. followed_by (making_texts behind pieces) (λ items last. gives made (with_list last (used heap) items))

  list_fitted : Fits old (suc (2 + room)) 0 → making heap (ListObject [] room) ≡ gives (At (used old)) (plain_heap texts tuples (with_made old (ListObject [] room)))
  list_fitted fits =
      ap (λ (b : Bool). cond b (gives (At (used heap)) (with_made heap (ListObject [] room))) (is_full heap (suc (2 + room)) 0)) (fit_plain texts tuples old (suc (2 + room)) 0 ∙ fits_true old (suc (2 + room)) 0 fits)
      ∙ ap₂ (λ (n : ℕ) (w : PlainHeap). gives (At n) w) (used_plain texts tuples old) (sym (made_plain texts tuples old (ListObject [] room)))

  list_unfitted : (Fits old (suc (2 + room)) 0 → ⊥) → making heap (ListObject [] room) ≡ is_full heap (suc (2 + room)) 0
  list_unfitted unfit =
      ap (λ (b : Bool). cond b (gives (At (used heap)) (with_made heap (ListObject [] room))) (is_full heap (suc (2 + room)) 0))
      (fit_plain texts tuples old (suc (2 + room)) 0 ∙ fits_false old (suc (2 + room)) 0 unfit)

  -- the list doesn't fit
  pub list_refused : (new : Heap Value ℕ) (e : NoRoom) → Refused old new e (3 + room) 0 → AllTold texts tuples old.objects → IsOutcome texts tuples old new (Err (Full e)) (list_of_texts heap pieces)
  list_refused new e r all =
      let same : 3 + room ≡ suc (2 + room) = omega arith in
      let refused : Refused old new e (suc (2 + room)) 0 = subst (λ (n : ℕ). Refused old new e n 0) same r in
      full_outcome texts tuples old new e (suc (2 + room)) 0 _ refused all (ap (λ (o : Outcome Val). followed_by o rest) (list_unfitted refused.too_much))

  module _ (mid : Heap Value ℕ) (l : ℕ) (m : Made old mid l (ListObject [] room)) (empty : texts (strs.Pool 1) ≡ Some []) (all : AllTold texts tuples old.objects) where
    list_made : making heap (ListObject [] room) ≡ gives (At (used old)) (plain_heap texts tuples mid)
    list_made = list_fitted m.fits ∙ ap (λ (w : Heap Value ℕ). gives (At (used old)) (plain_heap texts tuples w)) (sym m.world)

    told_mid : AllTold texts tuples mid.objects
    told_mid = told_made texts tuples m all (All-nil (IsTold texts tuples))

    is_list : IsA mid.objects AList l
    is_list = ap kind_of (object_made m)

    -- a text doesn't fit
    pub texts_refused : (new : Heap Value ℕ) (e : NoRoom) → PiecesRefused mid new e pieces → IsOutcome texts tuples old new (Err (Full e)) (list_of_texts heap pieces)
    texts_refused new e r =
        let a = with_pieces mid r.done in
        let full : making_texts (plain_heap texts tuples mid) pieces ≡ is_full (plain_heap texts tuples a) 2 (length r.piece) =
        ap (making_texts (plain_heap texts tuples mid)) r.are ∙ pieces_full texts tuples empty mid r.done r.piece r.rest r.fitted r.refused.some r.refused.refused.too_much in
        let outcome : list_of_texts heap pieces ≡ is_full (plain_heap texts tuples a) 2 (length r.piece) =
        ap (λ (o : Outcome Val). followed_by o rest) list_made
        ∙ ap (λ (o : Outcome (List Val)). followed_by (gives (At (used old)) (plain_heap texts tuples mid)) (λ made behind. followed_by o (λ items last. gives made (with_list last (used heap) items)))) full in
        let whole = full_outcome texts tuples a new e 2 (length r.piece) _ r.refused.refused (told_pieces texts tuples mid r.done told_mid) outcome in
        record {
          answer = whole.answer;
          heap = whole.heap;
          known = whole.known;
          later = later_later (later_made m) (later_later (later_pieces mid r.done) whole.later);
          all_told = whole.all_told;
        }

    -- the list has its items
    pub list_filled : (new : Heap Value ℕ) → FitPieces mid pieces → new ≡ with_list (with_pieces mid pieces) l (piece_values (used mid) pieces)
        → IsOutcome texts tuples old new (Ok (values.List (record { cell = l }))) (list_of_texts heap pieces)
    list_filled new fits e =
        let a = with_pieces mid pieces in
        let vs = piece_values (used mid) pieces in
        let there : IsA a.objects AList l = (later_pieces mid pieces).keeps AList l is_list in
        let last : Later old.objects (with_list a l vs).objects = later_later (later_made m) (later_later (later_pieces mid pieces) (later_list a l vs there)) in
        let known = values_known texts tuples empty mid pieces in
        let told : AllTold texts tuples (with_list a l vs).objects =
        told_put texts tuples a l AList there (told_pieces texts tuples mid pieces told_mid) (ListObject vs (room_at a l)) (λ k d lt. (known k d lt).told) in
        let made = pieces_made texts tuples empty mid pieces fits in
        let number : used heap ≡ l = used_plain texts tuples old ∙ sym m.number in
        let outcome : list_of_texts heap pieces ≡ gives (At (used old)) (with_list (plain_heap texts tuples a) (used heap) (map (plain texts tuples) vs)) =
        ap (λ (o : Outcome Val). followed_by o rest) list_made
        ∙ ap (λ (o : Outcome (List Val)). followed_by (gives (At (used old)) (plain_heap texts tuples mid)) (λ made behind. followed_by o (λ items last. gives made (with_list last (used heap) items)))) made in
        let world : with_list (plain_heap texts tuples a) (used heap) (map (plain texts tuples) vs) ≡ plain_heap texts tuples new =
        ap (λ (n : ℕ). with_list (plain_heap texts tuples a) n (map (plain texts tuples) vs)) number ∙ (sym (list_put texts tuples a l vs) ∙ ap (plain_heap texts tuples) (sym e)) in
        answered texts tuples old new (values.List (record { cell = l })) _ (subst (λ (w : Heap Value ℕ). Later old.objects w.objects) (sym e) last)
        (subst (λ (w : Heap Value ℕ). AllTold texts tuples w.objects) (sym e) told)
        (record { meets = subst (λ (w : Heap Value ℕ). IsA w.objects AList l) (sym e) ((later_list a l vs there).keeps AList l there); small = tt }) tt
        (outcome ∙ ap₂ (λ (n : ℕ) (w : PlainHeap). gives (At n) w) (sym m.number) world)
