-- The heap of a snapshot's objects whose lists and dicts are empty and whose tuples hold None is sound.
use Rattle.std.proofs.Common.{◌≡◌, ◌⊎◌, inl, inr, ℕ, zero, suc, ◌+◌, List, [], ◌∷◌, ◌++◌, length, map, replicate, Option, Some, None, slice_get, refl, sym, ap, ap₂, ◌∙◌, subst, arith, All}
use Rattle.std.specs.Prelude.{ℤ, unwrap_or, option_and_then}
use Rattle.std.specs.List.{AllByRecursion, flat_map, sum_by}
use Rattle.std.specs.Option.{option_map}
use Rattle.std.proofs.lemmas.List.{length-map, length-replicate}
use Rattle.std.proofs.lemmas.List.Elements.{All-nil, All-from_recursion, All-replicate}
use Rattle.std.proofs.lemmas.List.Sums.{sum_by-cons}
use Rattle.mpy_base.specs.declared.builtin.Builtin.{Builtin}
use Rattle.mpy_base.specs.declared.builtin.Builtin.TheVariants as builtins
use Rattle.mpy_base.specs.World.{Objects, ObjectKind, AList, ATuple, AText, ADict, AFunction, AnException, AMethod, ARange, AModule, object, kind_of}
use Rattle.mpy_base.specs.Weights as weights
use Rattle.arena_heap.specs.declared.value.Value.{Value}
use Rattle.arena_heap.specs.declared.value.Value.TheVariants as values
use Rattle.arena_heap.specs.Values.{ArenaObject, Leads, Sound, held, IsFormed, IsList, IsDict, IsStr, IsTuple, IsDefaults, IsMethodOf, IsKey}
use Rattle.bc_ops.specs.Signed as signed
use Rattle.bc_library.specs.bc_verify.qstr_pool.declared.table.TheConstants.{FIRST_OWN}
use Rattle.bc_library.specs.Shelf.{Shelf}
use Rattle.snap_grammar.specs.declared.parts.ValuePart.{ValuePart}
use Rattle.snap_grammar.specs.declared.parts.ValuePart.TheVariants as parts
use Rattle.snap_grammar.specs.declared.parts.ObjectPart.{ObjectPart}
use Rattle.snap_grammar.specs.declared.parts.ObjectPart.TheVariants as objects
use Rattle.snap_grammar.specs.declared.parts.Snapshot.{Snapshot}
use Rattle.snap_grammar.specs.Spelling.{IsValue, IsObject, Fits}
use Rattle.snap_states.specs.Parts.{part_kind, more_cells, cells_of_part, cells_of_parts, bytes_of_part, bytes_of_parts, cell_of, method_of}
use Rattle.snap_states.specs.States.{kind_of_part, count_in_part, tuple_count, IsNamespace, IsPlain, IsBound, IsFineObject, AreFineObjects}
use Rattle.snap_states.specs.Decoded.{builtin_called, value_of, reference}
use Rattle.snap_loading.specs.Shells.{laid, shell_of}
use Rattle.snap_loading.proofs.Finding.{builtin_found}
use Rattle.snap_loading.proofs.Lying.{cells_in, object_in, each_in}
use Rattle.snap_loading.proofs.Knowing.{small_int, value_leads, kind_there}

pub recursion_get : {A : Type 0} (P : A → Type 0) (xs : List A) (i : ℕ) (x : A) → AllByRecursion P xs → slice_get xs i ≡ Some x → P x
recursion_get P [] i x h e = absurd cc
recursion_get P (y ∷ xs) zero x h e = let same : y ≡ x = cc in subst P same h.0
recursion_get P (y ∷ xs) (suc i) x h e = recursion_get P xs i x h.1 e

module _ (shelf : Shelf) (s : Snapshot) (title : ℕ → ℕ → ℕ) where
  abbrev shell : ObjectPart → ArenaObject
  shell o = shell_of shelf s title o

  pub shell_kind : (o : ObjectPart) → kind_of (Some (shell o)) ≡ Some (part_kind o)
  shell_kind (objects.List room items) = refl
  shell_kind (objects.Dict room pairs) = refl
  shell_kind (objects.Tuple items) = refl
  shell_kind (objects.Text bytes) = refl
  shell_kind (objects.Function m code names defaults) = refl
  shell_kind (objects.Exception kind args file line name) = refl
  shell_kind (objects.Method o method) = refl
  shell_kind (objects.Range start stop step) = refl
  shell_kind (objects.Module name names) = refl

  shell_more : (o : ObjectPart) → weights.more_cells (shell o) ≡ more_cells o
  shell_more (objects.List room items) = refl
  shell_more (objects.Dict room pairs) = refl
  shell_more (objects.Tuple items) = length-replicate (length (map (value_of shelf s) items)) values.None ∙ length-map items (value_of shelf s)
  shell_more (objects.Text bytes) = refl
  shell_more (objects.Function m code names defaults) = refl
  shell_more (objects.Exception kind args file line name) = refl
  shell_more (objects.Method o method) = refl
  shell_more (objects.Range start stop step) = refl
  shell_more (objects.Module name names) = refl

  pub shell_laid : (os : List ObjectPart) → flat_map laid (map shell os) ≡ flat_map (cells_in shell) os
  shell_laid [] = refl
  shell_laid (o ∷ os) = ap₂ (λ k zs. (Some (shell o) ∷ replicate k None) ++ zs) (shell_more o) (shell_laid os)

  -- the cells that they take
  pub shell_cells : (os : List ObjectPart) → sum_by weights.cells_of (map shell os) ≡ cells_of_parts os
  shell_cells [] = refl
  shell_cells (o ∷ os) =
      sum_by-cons weights.cells_of (shell o) (map shell os)
      ∙ (ap₂ (λ a b. suc a + b) (shell_more o) (shell_cells os)
      ∙ (let e : suc (more_cells o) + cells_of_parts os ≡ cells_of_part o + cells_of_parts os = omega arith in e ∙ sym (sum_by-cons (λ k. k) (cells_of_part o) (map cells_of_part os))))

  shell_text : (o : ObjectPart) → weights.bytes_of (shell o) ≡ bytes_of_part o
  shell_text (objects.List room items) = refl
  shell_text (objects.Dict room pairs) = refl
  shell_text (objects.Tuple items) = refl
  shell_text (objects.Text bytes) = refl
  shell_text (objects.Function m code names defaults) = refl
  shell_text (objects.Exception kind args file line name) = refl
  shell_text (objects.Method o method) = refl
  shell_text (objects.Range start stop step) = refl
  shell_text (objects.Module name names) = refl

  -- and their bytes
  pub shell_bytes : (os : List ObjectPart) → sum_by weights.bytes_of (map shell os) ≡ bytes_of_parts os
  shell_bytes [] = refl
  shell_bytes (o ∷ os) =
      sum_by-cons weights.bytes_of (shell o) (map shell os)
      ∙ (ap₂ (λ a b. a + b) (shell_text o) (shell_bytes os) ∙ sym (sum_by-cons (λ k. k) (bytes_of_part o) (map bytes_of_part os)))

  -- values of kinds
  -- ===============

  -- what the value is that is an object of this kind
  abbrev OfKind : ObjectKind → Value → Type 0
  OfKind AList v = IsList v
  OfKind ADict v = IsDict v
  OfKind AText v = IsStr v
  OfKind ATuple v = IsTuple v
  OfKind AFunction v = Unit {0}
  OfKind AnException v = Unit {0}
  OfKind AMethod v = Unit {0}
  OfKind ARange v = Unit {0}
  OfKind AModule v = Unit {0}

  kind_is : (x y : ObjectKind) → Some x ≡ Some y → x ≡ y
  kind_is x y e = cc

  object_kind : (r : Option ObjectPart) (cell : ℕ) (kind : ObjectKind) → option_map part_kind r ≡ Some kind → OfKind kind (reference r cell)
  object_kind None cell kind e = absurd cc
  object_kind (Some (objects.List room items)) cell kind e = subst (λ k. OfKind k (values.List (record { cell = cell }))) (kind_is AList kind e) tt
  object_kind (Some (objects.Dict room pairs)) cell kind e = subst (λ k. OfKind k (values.Dict (record { cell = cell }))) (kind_is ADict kind e) tt
  object_kind (Some (objects.Tuple items)) cell kind e = subst (λ k. OfKind k (values.Tuple (record { cell = cell }))) (kind_is ATuple kind e) tt
  object_kind (Some (objects.Text bytes)) cell kind e = subst (λ k. OfKind k (values.Text (record { cell = cell }))) (kind_is AText kind e) tt
  object_kind (Some (objects.Function m code names defaults)) cell kind e = subst (λ k. OfKind k (values.Fun (record { cell = cell }))) (kind_is AFunction kind e) tt
  object_kind (Some (objects.Exception k args file line name)) cell kind e = subst (λ z. OfKind z (values.Exc (record { cell = cell }))) (kind_is AnException kind e) tt
  object_kind (Some (objects.Method o method)) cell kind e = subst (λ k. OfKind k (values.Method (record { cell = cell }))) (kind_is AMethod kind e) tt
  object_kind (Some (objects.Range start stop step)) cell kind e = subst (λ k. OfKind k (values.Range (record { cell = cell }))) (kind_is ARange kind e) tt
  object_kind (Some (objects.Module name names)) cell kind e = subst (λ k. OfKind k (values.Module (record { cell = cell }))) (kind_is AModule kind e) tt

  pub value_kind : (v : ValuePart) (kind : ObjectKind) → kind_of_part s v ≡ Some kind → OfKind kind (value_of shelf s v)
  value_kind (parts.Object n) kind e = object_kind (slice_get s.objects n) (cell_of s.objects n) kind e
  value_kind (parts.Str text) kind e = subst (λ k. OfKind k (value_of shelf s (parts.Str text))) (kind_is AText kind e) tt
  value_kind (parts.Fixed m n) kind e = subst (λ k. OfKind k (value_of shelf s (parts.Fixed m n))) (kind_is ATuple kind e) tt
  value_kind parts.Empty kind e = subst (λ k. OfKind k values.Empty) (kind_is ATuple kind e) tt
  value_kind parts.None kind e = absurd cc
  value_kind parts.False kind e = absurd cc
  value_kind parts.True kind e = absurd cc
  value_kind (parts.Int z) kind e = absurd cc
  value_kind (parts.Named name) kind e = absurd cc

  counted : (r : Option ObjectPart) (cell count : ℕ) → option_and_then count_in_part r ≡ Some count → IsDefaults (reference r cell)
  counted (Some (objects.Tuple items)) cell count e = tt
  counted None cell count e = absurd cc
  counted (Some (objects.List room items)) cell count e = absurd cc
  counted (Some (objects.Dict room pairs)) cell count e = absurd cc
  counted (Some (objects.Text bytes)) cell count e = absurd cc
  counted (Some (objects.Function m code names defaults)) cell count e = absurd cc
  counted (Some (objects.Exception k args file line name)) cell count e = absurd cc
  counted (Some (objects.Method o method)) cell count e = absurd cc
  counted (Some (objects.Range start stop step)) cell count e = absurd cc
  counted (Some (objects.Module name names)) cell count e = absurd cc

  tuple_defaults : (v : ValuePart) (count : ℕ) → tuple_count shelf s v ≡ Some count → IsDefaults (value_of shelf s v)
  tuple_defaults (parts.Object n) count e = counted (slice_get s.objects n) (cell_of s.objects n) count e
  tuple_defaults (parts.Fixed m n) count e = tt
  tuple_defaults parts.Empty count e = tt
  tuple_defaults (parts.Str text) count e = absurd cc
  tuple_defaults parts.None count e = absurd cc
  tuple_defaults parts.False count e = absurd cc
  tuple_defaults parts.True count e = absurd cc
  tuple_defaults (parts.Int z) count e = absurd cc
  tuple_defaults (parts.Named name) count e = absurd cc

  are_defaults : (v : ValuePart) (count : ℕ) → (v ≡ parts.None) ⊎ (tuple_count shelf s v ≡ Some count) → IsDefaults (value_of shelf s v)
  are_defaults v count (inl e) = subst (λ z. IsDefaults (value_of shelf s z)) (sym e) tt
  are_defaults v count (inr e) = tuple_defaults v count e

  method_fits : (b : Builtin) (kind : ObjectKind) (v : Value) → method_of b ≡ Some kind → OfKind kind v → IsMethodOf b v
  method_fits builtins.ListAppend kind v e h = subst (λ k. OfKind k v) (sym (kind_is AList kind e)) h
  method_fits builtins.ListPop kind v e h = subst (λ k. OfKind k v) (sym (kind_is AList kind e)) h
  method_fits builtins.ListInsert kind v e h = subst (λ k. OfKind k v) (sym (kind_is AList kind e)) h
  method_fits builtins.ListExtend kind v e h = subst (λ k. OfKind k v) (sym (kind_is AList kind e)) h
  method_fits builtins.DictGet kind v e h = subst (λ k. OfKind k v) (sym (kind_is ADict kind e)) h
  method_fits builtins.DictKeys kind v e h = subst (λ k. OfKind k v) (sym (kind_is ADict kind e)) h
  method_fits builtins.DictValues kind v e h = subst (λ k. OfKind k v) (sym (kind_is ADict kind e)) h
  method_fits builtins.DictItems kind v e h = subst (λ k. OfKind k v) (sym (kind_is ADict kind e)) h
  method_fits builtins.DictPop kind v e h = subst (λ k. OfKind k v) (sym (kind_is ADict kind e)) h
  method_fits builtins.StrJoin kind v e h = subst (λ k. OfKind k v) (sym (kind_is AText kind e)) h
  method_fits builtins.StrFind kind v e h = subst (λ k. OfKind k v) (sym (kind_is AText kind e)) h
  method_fits builtins.StrStartsWith kind v e h = subst (λ k. OfKind k v) (sym (kind_is AText kind e)) h
  method_fits builtins.StrSplit kind v e h = subst (λ k. OfKind k v) (sym (kind_is AText kind e)) h
  method_fits _ kind v e h = absurd cc

  bound_fits : (name : List ℕ) (v : ValuePart) → IsBound shelf s name v → IsMethodOf (unwrap_or (builtin_called name) builtins.Print) (value_of shelf s v)
  bound_fits name v b =
      let found : builtin_called name ≡ Some b.method = subst (λ z. builtin_called z ≡ Some b.method) b.named (builtin_found b.method) in
      subst (λ z. IsMethodOf (unwrap_or z builtins.Print) (value_of shelf s v)) (sym found) (method_fits b.method b.kind (value_of shelf s v) b.method_is (value_kind v b.kind b.value_is))

  -- soundness
  -- =========

  shell_formed : (n : ℕ) (o : ObjectPart) → IsFineObject shelf s n o → IsFormed (Some (shell o))
  shell_formed n (objects.List room items) f = tt
  shell_formed n (objects.Dict room pairs) f = All-nil IsKey
  shell_formed n (objects.Tuple items) f = tt
  shell_formed n (objects.Text bytes) f = f.1
  shell_formed n (objects.Function m code names defaults) f = are_defaults defaults f.count f.as_many
  shell_formed n (objects.Exception kind args file line name) f = value_kind args ATuple f.args_are
  shell_formed n (objects.Method o method) f = bound_fits method o f
  shell_formed n (objects.Range start stop step) f = f
  shell_formed n (objects.Module name names) f = tt

  module _ (is_first : shelf.pool.first ≡ FIRST_OWN) (fits : Fits s) (fine : AreFineObjects shelf s) (k : ℕ) where
    -- the shells' objects, and cells behind them that belong to none
    abbrev pub shells : Objects Value ℕ
    shells = flat_map laid (map shell s.objects) ++ replicate k None

    there : (n : ℕ) (o : ObjectPart) → slice_get s.objects n ≡ Some o → kind_of (object shells (cell_of s.objects n)) ≡ Some (part_kind o)
    there n o e =
        ap (λ zs. kind_of (object (zs ++ replicate k None) (cell_of s.objects n))) (shell_laid s.objects)
        ∙ (ap kind_of (object_in shell s.objects (replicate k None) n o e) ∙ shell_kind o)

    leads : (v : ValuePart) → IsPlain shelf s v → IsValue v → Leads shells (value_of shelf s v)
    leads v h i = value_leads shelf s title is_first shells there v h i

    dict_leads : (number : ℕ) → IsNamespace s number → Leads shells (values.Dict (record { cell = cell_of s.objects number }))
    dict_leads number h = record { meets = kind_there shelf s title is_first shells there ADict number h.dict; small = tt }

    number_leads : (z : ℤ) → signed.IsSmall z → Leads shells (values.Int z)
    number_leads z i = record { meets = tt; small = small_int z i }

    none_leads : Leads shells values.None
    none_leads = record { meets = tt; small = tt }

    shell_leads : (n : ℕ) (o : ObjectPart) → IsFineObject shelf s n o → IsObject o → All (Leads shells) (held (Some (shell o)))
    shell_leads n (objects.List room items) f i = All-nil (Leads shells)
    shell_leads n (objects.Dict room pairs) f i = All-nil (Leads shells)
    shell_leads n (objects.Tuple items) f i = All-replicate (Leads shells) (length (map (value_of shelf s) items)) values.None none_leads
    shell_leads n (objects.Text bytes) f i = All-nil (Leads shells)
    shell_leads n (objects.Function m code names defaults) f i =
        All-from_recursion (Leads shells) (values.Dict (record { cell = cell_of s.objects names }) ∷ value_of shelf s defaults ∷ []) (dict_leads names f.namespace, (leads defaults f.plain i.3, tt))
    shell_leads n (objects.Exception kind args file line name) f i = All-from_recursion (Leads shells) (value_of shelf s args ∷ []) (leads args f.plain i.1, tt)
    shell_leads n (objects.Method o method) f i = All-from_recursion (Leads shells) (value_of shelf s o ∷ []) (leads o f.plain i.0, tt)
    shell_leads n (objects.Range start stop step) f i =
        All-from_recursion (Leads shells) (values.Int start ∷ values.Int stop ∷ values.Int step ∷ []) (number_leads start i.0, (number_leads stop i.1, (number_leads step i.2, tt)))
    shell_leads n (objects.Module name names) f i = All-from_recursion (Leads shells) (values.Dict (record { cell = cell_of s.objects names }) ∷ []) (dict_leads names f.namespace, tt)

    object_fits : (n : ℕ) (o : ObjectPart) → slice_get s.objects n ≡ Some o → IsObject o
    object_fits n o e = recursion_get IsObject s.objects n o fits.objects.1 e

    each : (P : Option ArenaObject → Type 0) → P None → ((i : ℕ) (o : ObjectPart) → slice_get s.objects i ≡ Some o → P (Some (shell o))) → (n : ℕ) → P (object shells n)
    each P none h n = subst (λ zs. P (object (zs ++ replicate k None) n)) (sym (shell_laid s.objects)) (each_in shell P none s.objects k h n)

    -- their numbers lead to objects of their kinds, forwards too
    pub shells_sound : Sound shells
    shells_sound = record {
      leads = each (λ r. All (Leads shells) (held r)) (All-nil (Leads shells)) (λ i o e. shell_leads i o (fine i o e) (object_fits i o e));
      formed = each IsFormed tt (λ i o e. shell_formed i o (fine i o e));
    }
