-- Shells of a snapshot's objects.
use Rattle.std.proofs.Common.{◌≡◌, ℕ, zero, suc, ◌+◌, ◌<◌, ◌≤◌, List, [], ◌∷◌, ◌++◌, length, map, take, replicate, Some, slice_get, refl, sym, ap, ap₂, ◌∙◌, subst, arith, All}
use Rattle.std.specs.Prelude.{ℤ, unwrap_or}
use Rattle.std.proofs.lemmas.List.{length-map, map-append}
use Rattle.std.proofs.lemmas.List.Sums.{sum_by-cons}
use Rattle.mpy_base.specs.declared.builtin.Builtin.{Builtin}
use Rattle.mpy_base.specs.declared.builtin.Builtin.TheVariants as builtins
use Rattle.mpy_base.specs.declared.kind.Kind.{Kind}
use Rattle.mpy_base.specs.declared.kind.Kind.TheVariants as raised
use Rattle.mpy_base.specs.World.{FunctionObject, ExceptionObject, MethodObject, ModuleObject, TextObject, TupleObject}
use Rattle.mpy_base.specs.Weights.{IsRoom}
use Rattle.arena_heap.specs.declared.building.Shell.{Shell}
use Rattle.arena_heap.specs.Building.{shell_object}
use Rattle.arena_heap.specs.declared.value.DictNo.{DictNo}
use Rattle.arena_heap.specs.declared.value.Value.{Value}
use Rattle.arena_heap.specs.declared.value.Value.TheVariants as values
use Rattle.arena_heap.specs.Values.{ArenaObject}
use Rattle.bc_library.specs.Shelf.{Shelf}
use Rattle.snap_grammar.specs.declared.parts.ValuePart.{ValuePart}
use Rattle.snap_grammar.specs.declared.parts.PairPart.{PairPart}
use Rattle.snap_grammar.specs.declared.parts.ObjectPart.{ObjectPart}
use Rattle.snap_grammar.specs.declared.parts.ObjectPart.TheVariants as objects
use Rattle.snap_grammar.specs.declared.parts.Snapshot.{Snapshot}
use Rattle.snap_states.specs.Parts.{cell_of, cells_of_part, cells_of_parts}
use Rattle.snap_states.specs.States.{IsFineObject}
use Rattle.snap_states.specs.Decoded.{builtin_called, kind_called, module_title, name_number, value_of}
use Rattle.snap_loading.specs.Coded.{HasCode}
use Rattle.snap_loading.specs.Shells.{shell_of}
use Rattle.snap_loading.proofs.Putting.{take_next}

-- objects of arenas, by their parts
abbrev tuple_object : (count : ℕ) → ArenaObject
tuple_object count = TupleObject (replicate count values.None)

abbrev text_object : List ℕ → ArenaObject
text_object bytes = TextObject bytes

abbrev function_object : (name module_name code names : ℕ) → Value → ArenaObject
function_object name module_name code names v = FunctionObject name module_name code names v

abbrev exception_object : Kind → Value → (file line name : ℕ) → ArenaObject
exception_object kind args file line name = ExceptionObject kind args file line name

abbrev method_object : Value → Builtin → ArenaObject
method_object v method = MethodObject v method

abbrev module_object : (name names : ℕ) → ArenaObject
module_object name names = ModuleObject name (Some names)

-- each shell is of its part
-- =========================

module _ (shelf : Shelf) (s : Snapshot) (title : ℕ → ℕ → ℕ) where
  pub tuple_same : (o : ObjectPart) (items : List ValuePart) (count : ℕ) → o ≡ objects.Tuple items → count ≡ length items → tuple_object count ≡ shell_of shelf s title o
  tuple_same o items count is e = ap tuple_object (e ∙ sym (length-map items (value_of shelf s))) ∙ ap (shell_of shelf s title) (sym is)

  pub text_same : (o : ObjectPart) (bytes found : List ℕ) → o ≡ objects.Text bytes → found ≡ bytes → text_object found ≡ shell_of shelf s title o
  text_same o bytes found is e = ap text_object e ∙ ap (shell_of shelf s title) (sym is)

  pub function_same : (o : ObjectPart) (m code names : ℕ) (defaults : ValuePart) (name module_name cell : ℕ) (v : Value) → o ≡ objects.Function m code names defaults
      → name ≡ title m code → module_name ≡ module_title shelf m → cell ≡ cell_of s.objects names → v ≡ value_of shelf s defaults
      → function_object name module_name code cell v ≡ shell_of shelf s title o
  function_same o m code names defaults name module_name cell v is a b c d =
      ap (λ k. function_object k module_name code cell v) a
      ∙ (ap (λ k. function_object (title m code) k code cell v) b
      ∙ (ap (λ k. function_object (title m code) (module_title shelf m) code k v) c
      ∙ (ap (λ k. function_object (title m code) (module_title shelf m) code (cell_of s.objects names) k) d
      ∙ ap (shell_of shelf s title) (sym is))))

  pub exception_same : (o : ObjectPart) (kind file name : List ℕ) (args : ValuePart) (line : ℕ) (k : Kind) (v : Value) (f n : ℕ) → o ≡ objects.Exception kind args file line name
      → k ≡ unwrap_or (kind_called kind) raised.Exception → v ≡ value_of shelf s args → f ≡ name_number shelf file → n ≡ name_number shelf name
      → exception_object k v f line n ≡ shell_of shelf s title o
  exception_same o kind file name args line k v f n is a b c d =
      ap (λ z. exception_object z v f line n) a
      ∙ (ap (λ z. exception_object (unwrap_or (kind_called kind) raised.Exception) z f line n) b
      ∙ (ap (λ z. exception_object (unwrap_or (kind_called kind) raised.Exception) (value_of shelf s args) z line n) c
      ∙ (ap (λ z. exception_object (unwrap_or (kind_called kind) raised.Exception) (value_of shelf s args) (name_number shelf file) line z) d
      ∙ ap (shell_of shelf s title) (sym is))))

  pub method_same : (o : ObjectPart) (part : ValuePart) (method : List ℕ) (v : Value) (b : Builtin) → o ≡ objects.Method part method
      → v ≡ value_of shelf s part → b ≡ unwrap_or (builtin_called method) builtins.Print → method_object v b ≡ shell_of shelf s title o
  method_same o part method v b is x y =
      ap (λ z. method_object z b) x ∙ (ap (λ z. method_object (value_of shelf s part) z) y ∙ ap (shell_of shelf s title) (sym is))

  pub module_same : (o : ObjectPart) (name : List ℕ) (names n cell : ℕ) → o ≡ objects.Module name names
      → n ≡ name_number shelf name → cell ≡ cell_of s.objects names → module_object n cell ≡ shell_of shelf s title o
  module_same o name names n cell is x y =
      ap (λ z. module_object z cell) x ∙ (ap (λ z. module_object (name_number shelf name) z) y ∙ ap (shell_of shelf s title) (sym is))

-- what the conditions say
-- =======================

module _ (shelf : Shelf) (s : Snapshot) (n : ℕ) (o : ObjectPart) (fine : IsFineObject shelf s n o) where
  pub list_room : (room : ℕ) (items : List ValuePart) → o ≡ objects.List room items → IsRoom room
  list_room room items is = let f = subst (IsFineObject shelf s n) is fine in f.0.is_room

  pub dict_room : (room : ℕ) (pairs : List PairPart) → o ≡ objects.Dict room pairs → IsRoom room
  dict_room room pairs is = let f = subst (IsFineObject shelf s n) is fine in f.has.is_room

  pub code_of : (m code names : ℕ) (defaults : ValuePart) → o ≡ objects.Function m code names defaults → HasCode shelf m code
  code_of m code names defaults is = let f = subst (IsFineObject shelf s n) is fine in record { placed = f.has.placed; there = f.has.there }

-- many of them
-- ============

-- an object takes no more cells than all
pub cells_within : (os : List ObjectPart) (i : ℕ) (o : ObjectPart) → slice_get os i ≡ Some o → cells_of_part o ≤ cells_of_parts os
cells_within [] i o e = absurd cc
cells_within (x ∷ os) zero o e =
    let same : cells_of_part x ≡ cells_of_part o = let is : x ≡ o = cc in ap cells_of_part is in
    omega (arith, same, sum_by-cons (λ (k : ℕ). k) (cells_of_part x) (map cells_of_part os))
cells_within (x ∷ os) (suc i) o e = omega (arith, cells_within os i o e, sum_by-cons (λ (k : ℕ). k) (cells_of_part x) (map cells_of_part os))

-- one shell more
pub shells_more : (f : ObjectPart → ArenaObject) (os : List ObjectPart) (i : ℕ) (o : ObjectPart) (xs ys : List Shell) (x : Shell) → ys ≡ xs ++ x ∷ []
    → map shell_object xs ≡ map f (take i os) → slice_get os i ≡ Some o → shell_object x ≡ f o → map shell_object ys ≡ map f (take (i + 1) os)
shells_more f os i o xs ys x e before at here =
    let on : suc i ≡ i + 1 = omega arith in
    ap (map shell_object) e
    ∙ (map-append shell_object xs (x ∷ [])
    ∙ (ap₂ (λ (zs : List ArenaObject) (z : ArenaObject). zs ++ z ∷ []) before here
    ∙ (sym (take_next f os i o at) ∙ ap (λ (k : ℕ). map f (take k os)) on)))
