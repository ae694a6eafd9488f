-- The values and objects of a snapshot come back.
use Rattle.std.proofs.Common.{◌≡◌, ℕ, zero, suc, ◌<◌, List, [], ◌∷◌, length, map, Option, Some, None, slice_get, position, refl, ap, ap₂, ◌∙◌, subst, arith, All}
use Rattle.std.specs.Prelude.{unwrap_or, option_and_then}
use Rattle.std.specs.Option.{option_map}
use Rattle.std.specs.Str.{bytes_eq}
use Rattle.std.proofs.lemmas.List.Elements.{All-head, All-tail}
use Rattle.std.proofs.lemmas.Option.{slice_get_within}
use Rattle.mpy_base.specs.declared.builtin.Builtin.{Builtin}
use Rattle.mpy_base.specs.declared.builtin.Builtin.TheVariants as builtins
use Rattle.mpy_base.specs.declared.kind.Kind.{Kind}
use Rattle.mpy_base.specs.declared.kind.Kind.TheVariants as raised
use Rattle.mpy_base.specs.Kind.{kind_name}
use Rattle.mpy_base.specs.World.{ObjectKind, ADict}
use Rattle.arena_heap.specs.declared.value.ConstNo.{ConstNo}
use Rattle.arena_heap.specs.declared.value.StrNo.TheVariants as strs
use Rattle.arena_heap.specs.declared.value.Value.{Value}
use Rattle.bc_library.specs.mpy_tree.Codes.{Placed, codes_of}
use Rattle.bc_library.specs.Constants.{numbered, text_at}
use Rattle.bc_library.specs.Shelf.{Shelf, Named, names}
use Rattle.vm_starting.specs.vm_states.bc_progress.py_values.Names.{builtin_name}
use Rattle.vm_starting.specs.vm_states.bc_rows.Codes.{code_numbered}
use Rattle.vm_starting.specs.Programs.{IsRunnable}
use Rattle.snap_saving.specs.Shown.{name_of, fixed_part, module_part, value_part, pair_part, object_part}
use Rattle.snap_grammar.specs.declared.parts.ValuePart.{ValuePart}
use Rattle.snap_grammar.specs.declared.parts.ValuePart.TheVariants as parts
use Rattle.snap_grammar.specs.declared.parts.PairPart.{PairPart}
use Rattle.snap_grammar.specs.declared.parts.ObjectPart.{ObjectPart}
use Rattle.snap_grammar.specs.declared.parts.ObjectPart.TheVariants as objects
use Rattle.snap_grammar.specs.declared.parts.Snapshot.{Snapshot}
use Rattle.snap_states.specs.Parts.{part_kind, cell_of}
use Rattle.snap_states.specs.States.{IsAt, IsName, IsNamespace, IsPlain, IsFinePair, IsFineObject}
use Rattle.snap_states.specs.Decoded.{builtin_called, kind_called, name_number, module_title, value_of, pair_of, reference, object_of}
use Rattle.snap_loading.specs.Given.{IsLibrary}
use Rattle.snap_loading.proofs.Bridging.{get_map, get_there}
use Rattle.snap_loading.proofs.Finding.{find_text, name_found, str_found, builtin_found, kind_found}
use Rattle.snap_loading.proofs.Registering.{name_known}

some_is : {A : Type 0} (x y : A) → Some x ≡ Some y → x ≡ y
some_is x y e = cc

get_of_map : {A B : Type 0} (f : A → B) (xs : List A) (i : ℕ) (x : A) → slice_get xs i ≡ Some x → slice_get (map f xs) i ≡ Some (f x)
get_of_map f [] i x e = cc
get_of_map f (y ∷ xs) zero x e = ap (λ z. Some (f z)) (some_is y x e)
get_of_map f (y ∷ xs) (suc i) x e = get_of_map f xs i x e

pub built_back : (name : List ℕ) (b : Builtin) → builtin_name b ≡ name → builtin_name (unwrap_or (builtin_called name) builtins.Print) ≡ name
built_back name b e =
    let found : builtin_called name ≡ Some b = subst (λ z. builtin_called z ≡ Some b) e (builtin_found b) in
    ap (λ z. builtin_name (unwrap_or z builtins.Print)) found ∙ e

kind_back : (name : List ℕ) (k : Kind) → kind_name k ≡ name → kind_name (unwrap_or (kind_called name) raised.Exception) ≡ name
kind_back name k e =
    let found : kind_called name ≡ Some k = subst (λ z. kind_called z ≡ Some k) e (kind_found k) in
    ap (λ z. kind_name (unwrap_or z raised.Exception)) found ∙ e

pub at_within : (s : Snapshot) (kind : ObjectKind) (n : ℕ) → IsAt s kind n → n < length s.objects
at_within s kind n e = by (slice_get s.objects n) refl e
  where
    by : (r : Option ObjectPart) → slice_get s.objects n ≡ r → option_map part_kind r ≡ Some kind → n < length s.objects
    by None f g = absurd cc
    by (Some o) f g = slice_get_within s.objects n o f

module _ (shelf : Shelf) (is : IsLibrary shelf) where
  pub name_back : (text : List ℕ) → IsName shelf text → name_of shelf (name_number shelf text) ≡ text
  name_back text h = ap (λ z. unwrap_or z []) (name_found shelf text h.0 is.first h.1)

  held : (m code : ℕ) (placed : Placed) → code_numbered shelf m code ≡ Some placed → (n : Named) × (slice_get shelf.modules m ≡ Some n)
  held m code placed e = by (slice_get shelf.modules m) refl e
    where
      by : (o : Option Named) → slice_get shelf.modules m ≡ o → option_and_then (λ z. slice_get (codes_of z) code) (option_and_then (λ (n : Named). Some n.held) o) ≡ Some placed → (n : Named) × (slice_get shelf.modules m ≡ Some n)
      by None f g = absurd cc
      by (Some n) f g = (n, f)

  -- the first module of a module's name is that module
  module_back : IsRunnable shelf → (m code : ℕ) (placed : Placed) → code_numbered shelf m code ≡ Some placed → module_part shelf (module_title shelf m) ≡ m
  module_back run m code placed e =
      let h = held m code placed e in
      let n = h.0 in
      let t = is.titled m n h.1 in
      let title : module_title shelf m ≡ name_number shelf n.name = ap (λ z. unwrap_or (option_map (λ (z : Named). name_number shelf z.name) z) 0) h.1 in
      let text : text_at shelf (strs.Pool (name_number shelf n.name)) ≡ Some n.name = name_found shelf n.name t.0 is.first t.1 in
      let w = find_text (names shelf) n.name m (get_of_map (λ (z : Named). z.name) shelf.modules m n h.1) in
      let other = get_map (λ (z : Named). z.name) shelf.modules w.0 n.name w.2 in
      let same : w.0 ≡ m = run.distinct w.0 m other.0 n other.1 h.1 other.2 in
      ap (λ z. module_part shelf z) title
      ∙ (ap (λ z. unwrap_or (option_and_then (λ text. position (bytes_eq text) (names shelf)) z) 0) text
      ∙ (ap (λ z. unwrap_or z 0) w.1 ∙ same))

module _ (shelf : Shelf) (s : Snapshot) (is : IsLibrary shelf) (place : ℕ → ℕ) (in_place : (n : ℕ) → n < length s.objects → place (cell_of s.objects n) ≡ n) where
  reference_back : (o : ObjectPart) (cell : ℕ) → value_part shelf place (reference (Some o) cell) ≡ parts.Object (place cell)
  reference_back (objects.List room items) cell = refl
  reference_back (objects.Dict room pairs) cell = refl
  reference_back (objects.Tuple items) cell = refl
  reference_back (objects.Text bytes) cell = refl
  reference_back (objects.Function m code names defaults) cell = refl
  reference_back (objects.Exception kind args file line name) cell = refl
  reference_back (objects.Method o method) cell = refl
  reference_back (objects.Range start stop step) cell = refl
  reference_back (objects.Module name names) cell = refl

  pub object_value_back : (n : ℕ) → n < length s.objects → value_part shelf place (value_of shelf s (parts.Object n)) ≡ parts.Object n
  object_value_back n lt =
      let o = get_there s.objects n lt in
      ap (λ z. value_part shelf place (reference z (cell_of s.objects n))) o.1 ∙ (reference_back o.0 (cell_of s.objects n) ∙ ap (λ z. parts.Object z) (in_place n lt))

  with_items : (c : ConstNo) (items : List Value) → 0 < length items → fixed_part c (Some items) ≡ parts.Fixed c.«module» c.object
  with_items c [] lt = absurd (omega (arith, lt))
  with_items c (v ∷ vs) lt = refl

  pub value_back : (v : ValuePart) → IsPlain shelf s v → value_part shelf place (value_of shelf s v) ≡ v
  value_back parts.None h = refl
  value_back parts.False h = refl
  value_back parts.True h = refl
  value_back (parts.Int z) h = refl
  value_back (parts.Object n) h = object_value_back n h.there
  value_back (parts.Str text) h = ap (λ z. parts.Str (unwrap_or z [])) (str_found shelf text is.first h.0 h.1)
  value_back (parts.Fixed m n) h = ap (fixed_part (numbered m n)) h.are ∙ with_items (numbered m n) h.items h.some
  value_back parts.Empty h = refl
  value_back (parts.Named name) h = ap (λ z. parts.Named z) (built_back name h.builtin h.named)

  values_back : (vs : List ValuePart) → All (IsPlain shelf s) vs → map (value_part shelf place) (map (value_of shelf s) vs) ≡ vs
  values_back [] h = refl
  values_back (v ∷ vs) h = ap₂ (λ a zs. a ∷ zs) (value_back v (All-head (IsPlain shelf s) v vs h)) (values_back vs (All-tail (IsPlain shelf s) v vs h))

  pair_back : (q : PairPart) → IsFinePair shelf s q → pair_part shelf place (pair_of shelf s q) ≡ q
  pair_back q h =
      let make : ValuePart → ValuePart → PairPart = λ k v. record { key = k; value = v } in
      ap (λ z. make z (value_part shelf place (value_of shelf s q.value))) (value_back q.key h.key) ∙ ap (λ z. make q.key z) (value_back q.value h.value)

  pairs_back : (qs : List PairPart) → All (IsFinePair shelf s) qs → map (pair_part shelf place) (map (pair_of shelf s) qs) ≡ qs
  pairs_back [] h = refl
  pairs_back (q ∷ qs) h = ap₂ (λ a zs. a ∷ zs) (pair_back q (All-head (IsFinePair shelf s) q qs h)) (pairs_back qs (All-tail (IsFinePair shelf s) q qs h))

  names_back : (n : ℕ) → IsNamespace s n → place (cell_of s.objects n) ≡ n
  names_back n h = in_place n (at_within s ADict n h.dict)

  pub object_back : (run : IsRunnable shelf) (title : ℕ → ℕ → ℕ) (n : ℕ) (o : ObjectPart) → IsFineObject shelf s n o → object_part shelf place (object_of shelf s title o) ≡ o
  object_back run title n (objects.List room items) f = ap (λ z. objects.List room z) (values_back items f.1)
  object_back run title n (objects.Dict room pairs) f = ap (λ z. objects.Dict room z) (pairs_back pairs f.fine)
  object_back run title n (objects.Tuple items) f = ap (λ z. objects.Tuple z) (values_back items f.1)
  object_back run title n (objects.Text bytes) f = refl
  object_back run title n (objects.Function m code names defaults) f =
      ap (λ z. objects.Function z code (place (cell_of s.objects names)) (value_part shelf place (value_of shelf s defaults))) (module_back shelf is run m code f.has.placed f.has.there)
      ∙ (ap (λ z. objects.Function m code z (value_part shelf place (value_of shelf s defaults))) (names_back names f.namespace) ∙ ap (λ z. objects.Function m code names z) (value_back defaults f.plain))
  object_back run title n (objects.Exception kind args file line name) f =
      ap (λ z. objects.Exception z (value_part shelf place (value_of shelf s args)) (name_of shelf (name_number shelf file)) line (name_of shelf (name_number shelf name))) (kind_back kind f.of_kind f.kind_is)
      ∙ (ap (λ z. objects.Exception kind z (name_of shelf (name_number shelf file)) line (name_of shelf (name_number shelf name))) (value_back args f.plain)
      ∙ (ap (λ z. objects.Exception kind args z line (name_of shelf (name_number shelf name))) (name_back shelf is file f.file_is) ∙ ap (λ z. objects.Exception kind args file line z) (name_back shelf is name f.name_is)))
  object_back run title n (objects.Method o method) f =
      ap (λ z. objects.Method z (builtin_name (unwrap_or (builtin_called method) builtins.Print))) (value_back o f.plain) ∙ ap (λ z. objects.Method o z) (built_back method f.method f.named)
  object_back run title n (objects.Range start stop step) f = refl
  object_back run title n (objects.Module name names) f =
      ap (λ z. objects.Module z (place (cell_of s.objects names))) (name_back shelf is name (name_known shelf is name f.known)) ∙ ap (λ z. objects.Module name z) (names_back names f.namespace)
