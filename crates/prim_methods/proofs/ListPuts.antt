-- Lists that hold other items from now on.
use Rattle.std.proofs.Common.{◌≡◌, ℕ, zero, suc, ◌+◌, ◌≤◌, List, [], ◌∷◌, ◌++◌, length, map, take, drop, replicate, cond, Bool, true, false, Option, None, Ok, Err, refl, sym, ap, ap₂, ◌∙◌, subst, arith, length-append}
use Rattle.std.specs.Prelude.{if◌then◌else◌, nat_le}
use Rattle.std.specs.List.{insert, All}
use Rattle.std.proofs.lemmas.List.{map-append, length-map, length-take-le, length-drop}
use Rattle.std.proofs.lemmas.List.Elements.{All-append, All-take, All-drop, All-cons}
use Rattle.mpy_base.specs.declared.room.NoRoom.{NoRoom}
use Rattle.mpy_base.specs.World.{Object, ListObject, Heap, AList, IsA, Later, with_object}
use Rattle.mpy_base.specs.Weights.{Fits, Refused, does_fit, list_growth, grown_room, room_for, with_used, with_items}
use Rattle.mpy_base.specs.Val.{Val, Nil}
use Rattle.mpy_base.proofs.Worlds.{later_append, later_items}
use Rattle.prim_assignments.specs.arena_heap.declared.value.Value.{Value}
use Rattle.prim_assignments.specs.arena_heap.declared.value.Value.TheVariants as values
use Rattle.prim_assignments.specs.arena_heap.declared.value.StrNo.{StrNo}
use Rattle.prim_assignments.specs.arena_heap.declared.value.ConstNo.{ConstNo}
use Rattle.prim_assignments.specs.arena_heap.Values.{ArenaObject}
use Rattle.prim_assignments.specs.arena_heap.Constants.{IsTold}
use Rattle.prim_assignments.specs.arena_objects.Keys.{AllTold}
use Rattle.prim_assignments.proofs.arena_objects_lemmas.Tolds.{told_used}
use Rattle.prim_builtins.specs.py_values.Shown.{PlainHeap}
use Rattle.prim_builtins.specs.py_primitives.Outcome.{gives, is_full}
use Rattle.prim_builtins.specs.py_primitives.Methods.{put_items}
use Rattle.prim_assignments.specs.prim_walks.Plain.{plain, plain_object, plain_heap}
use Rattle.prim_assignments.specs.prim_faults.declared.stop.Stop.TheVariants.{Full}
use Rattle.prim_assignments.specs.prim_faults.Outcomes.{IsOutcome}
use Rattle.prim_assignments.proofs.prim_faults_lemmas.Heaps.{fit_plain, room_of_plain, object_put}
use Rattle.prim_assignments.proofs.prim_faults_lemmas.Outcomes.{answered, full_outcome, fits_true, fits_false}
use Rattle.prim_assignments.proofs.prim_operators_lemmas.ItemFills.{told_put}

pub map_insert : {X Y : Type 0} (f : X → Y) (xs : List X) (at : ℕ) (x : X) → map f (insert xs at x) ≡ insert (map f xs) at (f x)
map_insert f [] zero x = refl
map_insert f [] (suc at) x = refl
map_insert f (y ∷ xs) zero x = refl
map_insert f (y ∷ xs) (suc at) x = ap (λ ys. f y ∷ ys) (map_insert f xs at x)

pub all_insert : {X : Type 0} (P : X → Type 0) (xs : List X) (at : ℕ) (x : X) → P x → All P xs → All P (insert xs at x)
all_insert P xs at x p all = All-append P (take at xs) (x ∷ drop at xs) (All-take P at xs all) (All-cons P x (drop at xs) p (All-drop P at xs all))

pub length_insert : {X : Type 0} (xs : List X) (at : ℕ) (x : X) → at ≤ length xs → length xs + 1 ≡ length (insert xs at x)
length_insert xs at x le = omega (arith, length-append (take at xs) (x ∷ drop at xs), length-take-le at xs le, length-drop at xs)

map_nones : {X Y : Type 0} (f : X → Y) (x : X) (k : ℕ) → map f (replicate k x) ≡ replicate k (f x)
map_nones f x zero = refl
map_nones f x (suc k) = ap (λ ys. f x ∷ ys) (map_nones f x k)

module _ (texts : StrNo → Option (List ℕ)) (tuples : ConstNo → Option (List Value)) (h : Heap Value ℕ) where
  -- cells that are used
  pub used_more : (cells : ℕ) → plain_heap texts tuples (with_used h cells) ≡ with_used (plain_heap texts tuples h) cells
  used_more cells =
      let none : Option ArenaObject = None in
      ap (λ (os : List (Option (Object Val (List ℕ)))). record (plain_heap texts tuples h) { objects = os })
      (map-append (plain_object texts tuples) h.objects (replicate cells none)
      ∙ ap (λ (ys : List (Option (Object Val (List ℕ)))). map (plain_object texts tuples) h.objects ++ ys) (map_nones (plain_object texts tuples) none cells))

  module _ (n : ℕ) where
    pub growth_plain : (count : ℕ) → list_growth (plain_heap texts tuples h) n count ≡ list_growth h n count
    growth_plain count = ap (λ (r : ℕ). if nat_le count r then 0 else room_for count) (room_of_plain texts tuples h n)

    pub grown_plain : (count : ℕ) → grown_room (plain_heap texts tuples h) n count ≡ grown_room h n count
    grown_plain count = ap (λ (r : ℕ). if nat_le count r then r else room_for count) (room_of_plain texts tuples h n)

    -- a list that holds other items
    pub items_put : (items : List Value) → plain_heap texts tuples (with_items h n items) ≡ with_items (plain_heap texts tuples h) n (map (plain texts tuples) items)
    items_put items =
        let heap = plain_heap texts tuples h in
        let count = length items in
        let vs = map (plain texts tuples) items in
        let o : ArenaObject = ListObject items (grown_room h n count) in
        let grown : ℕ → ℕ → PlainHeap = λ cells room. with_object (with_used heap cells) n (ListObject vs room) in
        object_put texts tuples (with_used h (list_growth h n count)) n o
        ∙ (ap (λ (w : PlainHeap). with_object w n (ListObject vs (grown_room h n count))) (used_more (list_growth h n count))
        ∙ (ap₂ grown (sym (growth_plain count)) (sym (grown_plain count))
        ∙ ap (λ (k : ℕ). grown (list_growth heap n k) (grown_room heap n k)) (sym (length-map items (plain texts tuples)))))

    told_items : (items : List Value) → IsA h.objects AList n → AllTold texts tuples h.objects → All (IsTold texts tuples) items → AllTold texts tuples (with_items h n items).objects
    told_items items is all told =
        let none : Option ArenaObject = None in
        let cells = list_growth h n (length items) in
        told_put texts tuples (with_used h cells) n AList ((later_append h.objects (replicate cells none)).keeps AList n is) (told_used texts tuples h.objects all cells)
        (ListObject items (grown_room h n (length items))) told

    fit_same : (items : List Value)
        → does_fit (plain_heap texts tuples h) (list_growth (plain_heap texts tuples h) n (length (map (plain texts tuples) items))) 0 ≡ does_fit h (list_growth h n (length items)) 0
    fit_same items =
        ap (λ (k : ℕ). does_fit (plain_heap texts tuples h) (list_growth (plain_heap texts tuples h) n k) 0) (length-map items (plain texts tuples))
        ∙ (ap (λ (cells : ℕ). does_fit (plain_heap texts tuples h) cells 0) (growth_plain (length items))
        ∙ fit_plain texts tuples h (list_growth h n (length items)) 0)

    module _ (items : List Value) (all : AllTold texts tuples h.objects) (new : Heap Value ℕ) where
      tested : (b : Bool) → does_fit h (list_growth h n (length items)) 0 ≡ b
          → put_items (plain_heap texts tuples h) n (map (plain texts tuples) items)
          ≡ cond b (gives Nil (with_items (plain_heap texts tuples h) n (map (plain texts tuples) items)))
          (is_full (plain_heap texts tuples h) (list_growth (plain_heap texts tuples h) n (length (map (plain texts tuples) items))) 0)
      tested b e =
          ap (λ (t : Bool). cond t (gives Nil (with_items (plain_heap texts tuples h) n (map (plain texts tuples) items)))
          (is_full (plain_heap texts tuples h) (list_growth (plain_heap texts tuples h) n (length (map (plain texts tuples) items))) 0)) (fit_same items ∙ e)

      -- items that fitted
      pub put_done : IsA h.objects AList n → All (IsTold texts tuples) items → Fits h (list_growth h n (length items)) 0 → new ≡ with_items h n items
          → IsOutcome texts tuples h new (Ok values.None) (put_items (plain_heap texts tuples h) n (map (plain texts tuples) items))
      put_done is told fits e =
          answered texts tuples h new values.None _ (subst (λ (w : Heap Value ℕ). Later h.objects w.objects) (sym e) (later_items h n items is))
          (subst (λ (w : Heap Value ℕ). AllTold texts tuples w.objects) (sym e) (told_items items is all told)) (record { meets = tt; small = tt }) tt
          (tested true (fits_true h (list_growth h n (length items)) 0 fits) ∙ ap (λ (w : PlainHeap). gives Nil w) (sym (items_put items) ∙ sym (ap (plain_heap texts tuples) e)))

      -- and items that didn't
      pub put_refused : (e : NoRoom) → Refused h new e (list_growth h n (length items)) 0 → IsOutcome texts tuples h new (Err (Full e)) (put_items (plain_heap texts tuples h) n (map (plain texts tuples) items))
      put_refused e r =
          full_outcome texts tuples h new e (list_growth h n (length items)) 0 _ r all
          (tested false (fits_false h (list_growth h n (length items)) 0 r.too_much)
          ∙ ap (λ (cells : ℕ). is_full {A = Val} (plain_heap texts tuples h) cells 0)
          (ap (λ (k : ℕ). list_growth (plain_heap texts tuples h) n k) (length-map items (plain texts tuples)) ∙ growth_plain (length items)))
