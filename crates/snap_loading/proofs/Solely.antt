-- A snapshot stands for one state only.
use Rattle.std.proofs.Common.{◌≡◌, ℕ, suc, ◌+◌, List, [], ◌∷◌, ◌++◌, length, drop, reverse, Option, Some, None, slice_get, refl, sym, ap, ap₂, ◌∙◌, arith, length-append}
use Rattle.std.specs.Prelude.{replicate, ◌-◌}
use Rattle.std.specs.List.{flat_map}
use Rattle.mpy_base.specs.World.{Heap, FunctionObject}
use Rattle.arena_heap.specs.declared.value.Value.{Value}
use Rattle.arena_heap.specs.Values.{ArenaObject}
use Rattle.bc_flow.specs.bc_shapes.declared.kinds.Kind.{Kind as SlotKind}
use Rattle.bc_flow.specs.bc_shapes.Shape.{At}
use Rattle.bc_library.specs.Shelf.{Shelf}
use Rattle.vm_starting.specs.vm_states.prim_modules.Registry.{Registry}
use Rattle.vm_starting.specs.vm_states.vm_frames.Calls.{Call}
use Rattle.snap_grammar.specs.declared.parts.ObjectPart.{ObjectPart}
use Rattle.snap_grammar.specs.declared.parts.ObjectPart.TheVariants as objects
use Rattle.snap_grammar.specs.declared.parts.SlotPart.{SlotPart}
use Rattle.snap_grammar.specs.declared.parts.SlotPart.TheVariants as slots
use Rattle.snap_grammar.specs.declared.parts.FramePart.{FramePart}
use Rattle.snap_grammar.specs.declared.parts.Snapshot.{Snapshot}
use Rattle.snap_states.specs.Parts.{cell_of, cells_of_parts, more_cells}
use Rattle.snap_states.specs.States.{IsFineObject, AreFineObjects}
use Rattle.snap_states.specs.Decoded.{AreTitles, module_title, value_of, object_of, cells_with, heap_of, slots_of, stack_of, call_of, IsCallOf, AreCallsOf, IsDecoded}
use Rattle.snap_loading.specs.Coded.{HasOneTitle}
use Rattle.snap_loading.proofs.Standing.{shape_once}

module _ (shelf : Shelf) (s : Snapshot) where
  -- objects
  -- =======

  module _ (a b : ℕ → ℕ → ℕ) where
    abbrev AreSame : ObjectPart → Type 0
    AreSame o = object_of shelf s a o ≡ object_of shelf s b o

    all_same : (os : List ObjectPart) → ((n : ℕ) (o : ObjectPart) → slice_get os n ≡ Some o → AreSame o) → flat_map (cells_with shelf s a) os ≡ flat_map (cells_with shelf s b) os
    all_same [] h = refl
    all_same (o ∷ os) h = ap₂ (λ (x : ArenaObject) (xs : List (Option ArenaObject)). (Some x ∷ replicate (more_cells o) None) ++ xs) (h 0 o refl) (all_same os (λ n p e. h (suc n) p e))

    heap_same : ((n : ℕ) (o : ObjectPart) → slice_get s.objects n ≡ Some o → AreSame o) → heap_of shelf s a ≡ heap_of shelf s b
    heap_same h =
        ap (λ (xs : List (Option ArenaObject)).
        let heap : Heap Value ℕ = record { objects = xs ++ replicate (s.used_cells - cells_of_parts s.objects) None; bytes = s.used_bytes; cell_size = s.cells; byte_size = s.bytes } in heap) (all_same s.objects h)

  -- a function's number for its name is one
  object_same : HasOneTitle shelf → (a b : ℕ → ℕ → ℕ) → AreTitles shelf a → AreTitles shelf b → (n : ℕ) (o : ObjectPart) → IsFineObject shelf s n o → object_of shelf s a o ≡ object_of shelf s b o
  object_same one a b are others n (objects.Function m code names defaults) fine =
      ap (λ (t : ℕ). FunctionObject t (module_title shelf m) code (cell_of s.objects names) (value_of shelf s defaults))
      (one a b m code are others (record { placed = fine.has.placed; there = fine.has.there }))
  object_same one a b are others n (objects.List room items) fine = refl
  object_same one a b are others n (objects.Dict room pairs) fine = refl
  object_same one a b are others n (objects.Tuple items) fine = refl
  object_same one a b are others n (objects.Text bytes) fine = refl
  object_same one a b are others n (objects.Exception kind args file line name) fine = refl
  object_same one a b are others n (objects.Method o method) fine = refl
  object_same one a b are others n (objects.Range start stop step) fine = refl
  object_same one a b are others n (objects.Module name names) fine = refl

  -- calls
  -- =====

  -- how many slots a part has doesn't hang on its kind
  part_count : (k l : Option SlotKind) (p : SlotPart) → length (slots_of shelf s k p) ≡ length (slots_of shelf s l p)
  part_count k l (slots.Value v) = refl
  part_count k l slots.Empty = refl
  part_count k l (slots.Iterator over at) = refl
  part_count k l (slots.Left count over at) = refl
  part_count k l (slots.Return v) = refl
  part_count k l (slots.Jump target entries iterator) = refl

  stack_count : (ks ls : List SlotKind) (ps : List SlotPart) → length (stack_of shelf s ks ps) ≡ length (stack_of shelf s ls ps)
  stack_count ks ls [] = refl
  stack_count ks ls (p ∷ ps) =
      let x = slots_of shelf s (slice_get ks 0) p in
      let y = slots_of shelf s (slice_get ls 0) p in
      let xs = stack_of shelf s (drop (length x) ks) ps in
      let ys = stack_of shelf s (drop (length y) ls) ps in
      length-append x xs
      ∙ (ap₂ (λ (i j : ℕ). i + j) (part_count (slice_get ks 0) (slice_get ls 0) p) (stack_count (drop (length x) ks) (drop (length y) ls) ps) ∙ sym (length-append y ys))

  call_same : (f : FramePart) (c d : Call) → IsCallOf shelf s f c → IsCallOf shelf s f d → c ≡ d
  call_same f c d x y =
      let shape = shape_once shelf f.module_number f.code f.at x.stands y.stands in
      let ks = y.stands.shape.slots in
      let c_is : c ≡ call_of shelf s (drop x.taken ks) f = x.is ∙ ap (λ (z : At). call_of shelf s (drop x.taken z.slots) f) shape in
      let c_long : length c.slots ≡ length (stack_of shelf s (drop x.taken ks) (reverse f.slots)) = ap (λ (z : Call). length z.slots) c_is in
      let d_long : length d.slots ≡ length (stack_of shelf s (drop y.taken ks) (reverse f.slots)) = ap (λ (z : Call). length z.slots) y.is in
      let one_long = stack_count (drop x.taken ks) (drop y.taken ks) (reverse f.slots) in
      let c_all : x.taken + length c.slots ≡ length ks = x.slots_are ∙ ap (λ (z : At). length z.slots) shape in
      let d_all = y.slots_are in
      let taken : x.taken ≡ y.taken = omega (arith, c_long, d_long, one_long, c_all, d_all) in
      c_is ∙ (ap (λ (n : ℕ). call_of shelf s (drop n ks) f) taken ∙ sym y.is)

  frames_same : (fs : List FramePart) (cs ds : List Call) → AreCallsOf shelf s fs cs → AreCallsOf shelf s fs ds → cs ≡ ds
  frames_same [] [] [] h g = refl
  frames_same [] [] (d ∷ ds) h g = absurd g
  frames_same [] (c ∷ cs) ds h g = absurd h
  frames_same (f ∷ fs) [] ds h g = absurd h
  frames_same (f ∷ fs) (c ∷ cs) [] h g = absurd g
  frames_same (f ∷ fs) (c ∷ cs) (d ∷ ds) h g = ap₂ (λ (x : Call) (xs : List Call). x ∷ xs) (call_same f c d h.0 g.0) (frames_same fs cs ds h.1 g.1)

  -- the whole
  -- =========

  pub one_state : HasOneTitle shelf → AreFineObjects shelf s → (heap other : Heap Value ℕ) (modules others : Registry) (calls more : List Call)
      → IsDecoded shelf s heap modules calls → IsDecoded shelf s other others more → (heap ≡ other) × (modules ≡ others) × (calls ≡ more)
  one_state one fine heap other modules others calls more d e = (
    d.heap_is ∙ (heap_same d.title e.title (λ n o at. object_same one d.title e.title d.titles e.titles n o (fine n o at)) ∙ sym e.heap_is),
    d.modules_are ∙ sym e.modules_are,
    frames_same (reverse s.frames) calls more d.calls_are e.calls_are,
  )
