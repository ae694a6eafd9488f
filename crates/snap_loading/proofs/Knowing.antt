-- The values of a snapshot lead to their objects, and their texts and tuples are told.
use Rattle.std.proofs.Common.{◌≡◌, ℕ, List, [], ◌∷◌, map, Option, Some, None, slice_get, refl, sym, ap, ◌∙◌, subst, arith, All}
use Rattle.std.specs.Prelude.{ℤ, pos, negsuc, is_some, IsSome}
use Rattle.std.specs.Option.{option_map}
use Rattle.std.proofs.lemmas.Int.{ints}
use Rattle.std.proofs.lemmas.List.Elements.{All-nil, All-map, All-append, All-weaker, All-from_recursion}
use Rattle.mpy_base.specs.World.{Objects, ObjectKind, object, kind_of, IsA}
use Rattle.arena_heap.specs.declared.value.Value.{Value}
use Rattle.arena_heap.specs.declared.value.Value.TheVariants as values
use Rattle.arena_heap.specs.Constants.{IsTold}
use Rattle.arena_heap.specs.Values.{IsSmall, Leads, held}
use Rattle.bc_ops.specs.Signed as signed
use Rattle.bc_library.specs.bc_verify.qstr_pool.declared.table.TheConstants.{FIRST_OWN}
use Rattle.bc_library.specs.Constants.{items_at, text_at, numbered}
use Rattle.bc_library.specs.Shelf.{Shelf}
use Rattle.vm_starting.specs.frame_calls.arena_objects.Keys.{AllTold}
use Rattle.vm_starting.specs.frame_calls.prim_faults.Faults.{IsKnown}
use Rattle.snap_grammar.specs.declared.parts.ValuePart.{ValuePart}
use Rattle.snap_grammar.specs.declared.parts.ValuePart.TheVariants as parts
use Rattle.snap_grammar.specs.declared.parts.PairPart.{PairPart}
use Rattle.snap_grammar.specs.declared.parts.ObjectPart.{ObjectPart}
use Rattle.snap_grammar.specs.declared.parts.ObjectPart.TheVariants as objects
use Rattle.snap_grammar.specs.declared.parts.Snapshot.{Snapshot}
use Rattle.snap_grammar.specs.Spelling.{IsValue}
use Rattle.snap_states.specs.Parts.{part_kind, cell_of}
use Rattle.snap_states.specs.States.{IsAt, IsPlain, IsFinePair, IsFineObject, AreFineObjects}
use Rattle.snap_states.specs.Decoded.{value_of, pair_of, reference, str_of, object_of}
use Rattle.snap_loading.proofs.Bridging.{get_there}
use Rattle.snap_loading.proofs.Finding.{str_found}
use Rattle.snap_loading.proofs.Lying.{objects_in, object_at, each_object, kind_same}

pub small_int : (z : ℤ) → signed.IsSmall z → IsSmall z
small_int (pos n) h = (omega (arith, ints), omega (arith, ints))
small_int (negsuc n) h = (omega (arith, ints), omega (arith, ints))

some_of : {A : Type 0} (o : Option A) (x : A) → o ≡ Some x → IsSome o
some_of o x e = ap is_some e

module _ (shelf : Shelf) (s : Snapshot) (title : ℕ → ℕ → ℕ) (first : shelf.pool.first ≡ FIRST_OWN) where
  abbrev Told : Value → Type 0
  Told v = IsTold (text_at shelf) (items_at shelf) v

  -- one value
  -- =========

  reference_told : (r : Option ObjectPart) (cell : ℕ) → Told (reference r cell)
  reference_told None cell = tt
  reference_told (Some (objects.List room items)) cell = tt
  reference_told (Some (objects.Dict room pairs)) cell = tt
  reference_told (Some (objects.Tuple items)) cell = tt
  reference_told (Some (objects.Text bytes)) cell = tt
  reference_told (Some (objects.Function m code names defaults)) cell = tt
  reference_told (Some (objects.Exception kind args file line name)) cell = tt
  reference_told (Some (objects.Method o method)) cell = tt
  reference_told (Some (objects.Range start stop step)) cell = tt
  reference_told (Some (objects.Module name names)) cell = tt

  pub value_told : (v : ValuePart) → IsPlain shelf s v → Told (value_of shelf s v)
  value_told parts.None h = tt
  value_told parts.False h = tt
  value_told parts.True h = tt
  value_told (parts.Int z) h = tt
  value_told (parts.Object number) h = reference_told (slice_get s.objects number) (cell_of s.objects number)
  value_told (parts.Str text) h = some_of (text_at shelf (str_of shelf text)) text (str_found shelf text first h.0 h.1)
  value_told (parts.Fixed m n) h = some_of (items_at shelf (numbered m n)) h.items h.are
  value_told parts.Empty h = tt
  value_told (parts.Named name) h = tt

  -- objects of the parts' kinds lie at the parts' cells
  module _ (objs : Objects Value ℕ) (kinds : (n : ℕ) (o : ObjectPart) → slice_get s.objects n ≡ Some o → kind_of (object objs (cell_of s.objects n)) ≡ Some (part_kind o)) where
    object_leads : (n : ℕ) (o : ObjectPart) → slice_get s.objects n ≡ Some o → Leads objs (reference (Some o) (cell_of s.objects n))
    object_leads n (objects.List room items) e = record { meets = kinds n _ e; small = tt }
    object_leads n (objects.Dict room pairs) e = record { meets = kinds n _ e; small = tt }
    object_leads n (objects.Tuple items) e = record { meets = kinds n _ e; small = tt }
    object_leads n (objects.Text bytes) e = record { meets = kinds n _ e; small = tt }
    object_leads n (objects.Function m code names defaults) e = record { meets = kinds n _ e; small = tt }
    object_leads n (objects.Exception kind args file line name) e = record { meets = kinds n _ e; small = tt }
    object_leads n (objects.Method o method) e = record { meets = kinds n _ e; small = tt }
    object_leads n (objects.Range start stop step) e = record { meets = kinds n _ e; small = tt }
    object_leads n (objects.Module name names) e = record { meets = kinds n _ e; small = tt }

    pub value_leads : (v : ValuePart) → IsPlain shelf s v → IsValue v → Leads objs (value_of shelf s v)
    value_leads parts.None h i = record { meets = tt; small = tt }
    value_leads parts.False h i = record { meets = tt; small = tt }
    value_leads parts.True h i = record { meets = tt; small = tt }
    value_leads (parts.Int z) h i = record { meets = tt; small = small_int z i }
    value_leads (parts.Object number) h i =
        let o = get_there s.objects number h.there in
        subst (λ z. Leads objs (reference z (cell_of s.objects number))) (sym o.1) (object_leads number o.0 o.1)
    value_leads (parts.Str text) h i = record { meets = tt; small = tt }
    value_leads (parts.Fixed m n) h i = record { meets = tt; small = tt }
    value_leads parts.Empty h i = record { meets = tt; small = tt }
    value_leads (parts.Named name) h i = record { meets = tt; small = tt }

    -- the object of a number is of its kind at its cell
    pub kind_there : (kind : ObjectKind) (n : ℕ) → IsAt s kind n → IsA objs kind (cell_of s.objects n)
    kind_there kind n e = by (slice_get s.objects n) refl e
      where
        by : (r : Option ObjectPart) → slice_get s.objects n ≡ r → option_map part_kind r ≡ Some kind → IsA objs kind (cell_of s.objects n)
        by None f g = cc
        by (Some o) f g = kinds n o f ∙ g

  kinds_here : (n : ℕ) (o : ObjectPart) → slice_get s.objects n ≡ Some o → kind_of (object (objects_in shelf s title) (cell_of s.objects n)) ≡ Some (part_kind o)
  kinds_here n o e = ap kind_of (object_at shelf s title n o e) ∙ kind_same shelf s title o

  pub value_known : (v : ValuePart) → IsPlain shelf s v → IsValue v → IsKnown (text_at shelf) (items_at shelf) (objects_in shelf s title) (value_of shelf s v)
  value_known v h i = record { leads = value_leads (objects_in shelf s title) kinds_here v h i; told = value_told v h }

  -- all objects
  -- ===========

  all_told_in : (vs : List ValuePart) → All (IsPlain shelf s) vs → All Told (map (value_of shelf s) vs)
  all_told_in vs h = All-map Told (value_of shelf s) vs (All-weaker (IsPlain shelf s) (λ v. Told (value_of shelf s v)) value_told vs h)

  keys_told : (ps : List PairPart) → All (IsFinePair shelf s) ps → All Told (map (λ (q : Value × Value). q.0) (map (pair_of shelf s) ps))
  keys_told ps h =
      All-map Told (λ (q : Value × Value). q.0) (map (pair_of shelf s) ps)
      (All-map (λ (q : Value × Value). Told (q.0)) (pair_of shelf s) ps (All-weaker (IsFinePair shelf s) (λ q. Told (value_of shelf s q.key)) (λ q f. value_told q.key f.key) ps h))

  items_told : (ps : List PairPart) → All (IsFinePair shelf s) ps → All Told (map (λ (q : Value × Value). q.1) (map (pair_of shelf s) ps))
  items_told ps h =
      All-map Told (λ (q : Value × Value). q.1) (map (pair_of shelf s) ps)
      (All-map (λ (q : Value × Value). Told (q.1)) (pair_of shelf s) ps (All-weaker (IsFinePair shelf s) (λ q. Told (value_of shelf s q.value)) (λ q f. value_told q.value f.value) ps h))

  object_told : (n : ℕ) (o : ObjectPart) → IsFineObject shelf s n o → All Told (held (Some (object_of shelf s title o)))
  object_told n (objects.List room items) f = all_told_in items f.1
  object_told n (objects.Dict room pairs) f =
      All-append Told (map (λ (q : Value × Value). q.0) (map (pair_of shelf s) pairs)) (map (λ (q : Value × Value). q.1) (map (pair_of shelf s) pairs)) (keys_told pairs f.fine) (items_told pairs f.fine)
  object_told n (objects.Tuple items) f = all_told_in items f.1
  object_told n (objects.Text bytes) f = All-nil Told
  object_told n (objects.Function m code names defaults) f =
      All-from_recursion Told (values.Dict (record { cell = cell_of s.objects names }) ∷ value_of shelf s defaults ∷ []) (tt, (value_told defaults f.plain, tt))
  object_told n (objects.Exception kind args file line name) f = All-from_recursion Told (value_of shelf s args ∷ []) (value_told args f.plain, tt)
  object_told n (objects.Method o method) f = All-from_recursion Told (value_of shelf s o ∷ []) (value_told o f.plain, tt)
  object_told n (objects.Range start stop step) f = All-from_recursion Told (values.Int start ∷ values.Int stop ∷ values.Int step ∷ []) (tt, (tt, (tt, tt)))
  object_told n (objects.Module name names) f = All-from_recursion Told (values.Dict (record { cell = cell_of s.objects names }) ∷ []) (tt, tt)

  pub all_told : AreFineObjects shelf s → AllTold (text_at shelf) (items_at shelf) (objects_in shelf s title)
  all_told fine = record { told = each_object shelf s title (λ r. All Told (held r)) (All-nil Told) (λ i o e. object_told i o (fine i o e)) }
