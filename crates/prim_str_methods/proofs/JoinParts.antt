-- The parts that a str joins, as the meaning has them.
use Rattle.std.proofs.Common.{◌≡◌, ℕ, zero, suc, pos, ◌+ℤ◌, ◌*ℤ◌, ◌<◌, List, [], ◌∷◌, length, map, take, drop, get_or, Bool, true, false, Option, Some, None, refl, sym, ap, ap₂, ◌∙◌, inl, inr, arith}
use Rattle.std.specs.Prelude.{slice_get, ◌⊎◌}
use Rattle.std.specs.List.{All, range_with_len}
use Rattle.std.specs.Option.{option_map}
use Rattle.std.proofs.lemmas.List.{get_or-map}
use Rattle.std.proofs.Math.Seq.{drop-cons}
use Rattle.std.proofs.lemmas.List.Elements.{All-head, All-tail}
use Rattle.prim_builtins.specs.arena_heap.declared.value.Value.{Value}
use Rattle.prim_builtins.specs.arena_heap.declared.value.Value.TheVariants as values
use Rattle.prim_builtins.specs.arena_heap.declared.value.StrNo.{StrNo}
use Rattle.prim_builtins.specs.arena_heap.declared.value.ConstNo.{ConstNo}
use Rattle.mpy_base.specs.World.{ListObject, TupleObject, TextObject, DictObject, FunctionObject, ExceptionObject, MethodObject, RangeObject, ModuleObject, Heap, ObjectKind, AList, ATuple, AText, ADict, AFunction, AnException, AMethod, ARange, AModule, object, kind_of}
use Rattle.mpy_base.specs.Val.{Val, Int}
use Rattle.prim_builtins.specs.arena_heap.Values.{ArenaObject, Leads, IsStr}
use Rattle.prim_builtins.specs.arena_objects.Iterables as arena
use Rattle.prim_builtins.specs.arena_objects.Iterables.{or_nothing, given, spelled}
use Rattle.prim_builtins.specs.py_values.Shown.{PlainHeap, Shown, shown, shown_object, range_len}
use Rattle.prim_builtins.specs.py_values.Equality.{visit}
use Rattle.prim_builtins.specs.py_primitives.Iterables.{shown_items, letter, range_number}
use Rattle.prim_builtins.specs.py_primitives.Iterables as plain_items
use Rattle.prim_builtins.specs.py_primitives.Methods.{str_in, part_behind, parts_of}
use Rattle.prim_builtins.specs.prim_walks.Plain.{plain, plain_by, plain_pair, plain_object, plain_heap, fixed_within}
use Rattle.prim_builtins.proofs.prim_walks_lemmas.PlainValues.{object_plain, fixed_shown, within_step, shown_fixed}
use Rattle.prim_builtins.specs.prim_faults.Faults.{IsKnownStr}
use Rattle.prim_builtins.specs.prim_operators.Operands.{IsNested}
use Rattle.prim_builtins.proofs.prim_operators_lemmas.ItemsShown.{str_shown}
use Rattle.prim_str_methods.specs.Parts.{strs_in, strs_of, all_strs, looked_at, parts_in}

module _ (texts : StrNo → Option (List ℕ)) (tuples : ConstNo → Option (List Value)) where
  keys_plain : (pairs : List (Value × Value)) → map (λ (q : Val × Val). q.0) (map (plain_pair texts tuples) pairs) ≡ map (plain texts tuples) (map (λ (q : Value × Value). q.0) pairs)
  keys_plain [] = refl
  keys_plain (pair ∷ pairs) = ap (λ (vs : List Val). plain texts tuples pair.0 ∷ vs) (keys_plain pairs)

  numbers_plain : (start step : _) (ns : List ℕ) → map (λ (k : ℕ). Int (range_number start step k)) ns ≡ map (plain texts tuples) (map (λ (k : ℕ). values.Int (start +ℤ pos k *ℤ step)) ns)
  numbers_plain start step [] = refl
  numbers_plain start step (n ∷ ns) = ap (λ (vs : List Val). Int (range_number start step n) ∷ vs) (numbers_plain start step ns)

  -- what an object that is no text gives
  given_plain : (o : Option ArenaObject) (k : ObjectKind) → kind_of o ≡ Some k → (k ≡ AText → ⊥) → or_nothing (shown_items (shown_object (plain_object texts tuples o))) ≡ map (plain texts tuples) (given o)
  given_plain (Some (ListObject items room)) k e other = refl
  given_plain (Some (TupleObject items)) k e other = refl
  given_plain (Some (TextObject bytes)) k e other = absurd (other cc)
  given_plain (Some (DictObject pairs room)) k e other = keys_plain pairs
  given_plain (Some (FunctionObject name module_name code names defaults)) k e other = refl
  given_plain (Some (ExceptionObject kind args file line name)) k e other = refl
  given_plain (Some (MethodObject v method)) k e other = refl
  given_plain (Some (RangeObject start stop step)) k e other = numbers_plain start step (range_with_len 0 (range_len start stop step))
  given_plain (Some (ModuleObject name names)) k e other = refl
  given_plain None k e other = refl

  no_text : (o : Option ArenaObject) (k : ObjectKind) → kind_of o ≡ Some k → (k ≡ AText → ⊥) → str_in (shown_object (plain_object texts tuples o)) ≡ None
  no_text (Some (ListObject items room)) k e other = refl
  no_text (Some (TupleObject items)) k e other = refl
  no_text (Some (TextObject bytes)) k e other = absurd (other cc)
  no_text (Some (DictObject pairs room)) k e other = refl
  no_text (Some (FunctionObject name module_name code names defaults)) k e other = refl
  no_text (Some (ExceptionObject kind args file line name)) k e other = refl
  no_text (Some (MethodObject v method)) k e other = refl
  no_text (Some (RangeObject start stop step)) k e other = refl
  no_text (Some (ModuleObject name names)) k e other = refl
  no_text None k e other = refl

  -- objects of these kinds have no items
  functions_have_none : (o : Option ArenaObject) → kind_of o ≡ Some AFunction → or_nothing (shown_items (shown_object (plain_object texts tuples o))) ≡ []
  functions_have_none (Some (FunctionObject name module_name code names defaults)) e = refl
  functions_have_none _ e = absurd cc

  exceptions_have_none : (o : Option ArenaObject) → kind_of o ≡ Some AnException → or_nothing (shown_items (shown_object (plain_object texts tuples o))) ≡ []
  exceptions_have_none (Some (ExceptionObject kind args file line name)) e = refl
  exceptions_have_none _ e = absurd cc

  methods_have_none : (o : Option ArenaObject) → kind_of o ≡ Some AMethod → or_nothing (shown_items (shown_object (plain_object texts tuples o))) ≡ []
  methods_have_none (Some (MethodObject v method)) e = refl
  methods_have_none _ e = absurd cc

  modules_have_none : (o : Option ArenaObject) → kind_of o ≡ Some AModule → or_nothing (shown_items (shown_object (plain_object texts tuples o))) ≡ []
  modules_have_none (Some (ModuleObject name names)) e = refl
  modules_have_none _ e = absurd cc

  module _ (h : Heap Value ℕ) where
    given_here : (n : ℕ) (k : ObjectKind) → kind_of (object h.objects n) ≡ Some k → (k ≡ AText → ⊥)
        → or_nothing (shown_items (shown_object (object (plain_heap texts tuples h).objects n))) ≡ map (plain texts tuples) (given (object h.objects n))
    given_here n k is other = ap (λ o. or_nothing (shown_items (shown_object o))) (object_plain texts tuples h.objects n) ∙ given_plain (object h.objects n) k is other

    no_text_here : (n : ℕ) (k : ObjectKind) → kind_of (object h.objects n) ≡ Some k → (k ≡ AText → ⊥) → str_in (shown_object (object (plain_heap texts tuples h).objects n)) ≡ None
    no_text_here n k is other = ap (λ o. str_in (shown_object o)) (object_plain texts tuples h.objects n) ∙ no_text (object h.objects n) k is other

    none_here : (n : ℕ) → or_nothing (shown_items (shown_object (plain_object texts tuples (object h.objects n)))) ≡ [] → or_nothing (shown_items (shown_object (object (plain_heap texts tuples h).objects n))) ≡ []
    none_here n e = ap (λ o. or_nothing (shown_items (shown_object o))) (object_plain texts tuples h.objects n) ∙ e

    -- the items of what is no str
    pub items_plain : (v : Value) → (IsStr v → ⊥) → Leads h.objects v → IsNested tuples v
        → or_nothing (plain_items.items_in (plain_heap texts tuples h) (plain texts tuples v)) ≡ map (plain texts tuples) (arena.items_in tuples h v)
    items_plain (values.Str s) other leads nests = absurd (other tt)
    items_plain (values.Text t) other leads nests = absurd (other tt)
    items_plain (values.Fixed c) other leads nests = ap (λ (s : Shown). or_nothing (shown_items s)) (fixed_shown texts tuples (plain_heap texts tuples h) c nests)
    items_plain (values.List n) other leads nests = given_here n.cell AList leads.meets (λ e. cc)
    items_plain (values.Dict n) other leads nests = given_here n.cell ADict leads.meets (λ e. cc)
    items_plain (values.Tuple n) other leads nests = given_here n.cell ATuple leads.meets (λ e. cc)
    items_plain (values.Range n) other leads nests = given_here n.cell ARange leads.meets (λ e. cc)
    items_plain (values.Fun n) other leads nests = none_here n.cell (functions_have_none (object h.objects n.cell) leads.meets)
    items_plain (values.Exc n) other leads nests = none_here n.cell (exceptions_have_none (object h.objects n.cell) leads.meets)
    items_plain (values.Method n) other leads nests = none_here n.cell (methods_have_none (object h.objects n.cell) leads.meets)
    items_plain (values.Module n) other leads nests = none_here n.cell (modules_have_none (object h.objects n.cell) leads.meets)
    items_plain _ other leads nests = refl

    pub strs_plain : (v : Value) → (IsStr v → ⊥) → Leads h.objects v → IsNested tuples v
        → strs_of (plain_heap texts tuples h) (plain texts tuples v) ≡ strs_in (plain_heap texts tuples h) (map (plain texts tuples) (arena.items_in tuples h v))
    strs_plain v other leads nests = ap (strs_in (plain_heap texts tuples h)) (items_plain v other leads nests)

    -- a value that is no str
    pub no_str : (v : Value) → (IsStr v → ⊥) → Leads h.objects v → str_in (shown (plain_heap texts tuples h) (plain texts tuples v)) ≡ None
    no_str (values.Str s) other leads = absurd (other tt)
    no_str (values.Text t) other leads = absurd (other tt)
    no_str (values.Fixed c) other leads =
        ap (λ (v : Val). str_in (shown (plain_heap texts tuples h) v)) (within_step texts tuples 31 c)
        ∙ ap (λ (s : Shown). str_in s) (shown_fixed (plain_heap texts tuples h) (map (plain_by texts (fixed_within texts tuples 31)) (or_nothing (tuples c))))
    no_str (values.List n) other leads = no_text_here n.cell AList leads.meets (λ e. cc)
    no_str (values.Dict n) other leads = no_text_here n.cell ADict leads.meets (λ e. cc)
    no_str (values.Tuple n) other leads = no_text_here n.cell ATuple leads.meets (λ e. cc)
    no_str (values.Range n) other leads = no_text_here n.cell ARange leads.meets (λ e. cc)
    no_str (values.Fun n) other leads = no_text_here n.cell AFunction leads.meets (λ e. cc)
    no_str (values.Exc n) other leads = no_text_here n.cell AnException leads.meets (λ e. cc)
    no_str (values.Method n) other leads = no_text_here n.cell AMethod leads.meets (λ e. cc)
    no_str (values.Module n) other leads = no_text_here n.cell AModule leads.meets (λ e. cc)
    no_str _ other leads = refl

    -- a str
    pub is_str : (v : Value) → IsStr v → Leads h.objects v → str_in (shown (plain_heap texts tuples h) (plain texts tuples v)) ≡ Some (spelled texts h v)
    is_str v str leads = ap (λ (s : Shown). str_in s) (str_shown texts tuples h v str leads)

    letters : (bytes : List ℕ) → strs_in (plain_heap texts tuples h) (map letter bytes) ≡ map (λ (byte : ℕ). Some (byte ∷ [])) bytes
    letters [] = refl
    letters (byte ∷ bytes) = ap (λ (ps : List (Option (List ℕ))). Some (byte ∷ []) ∷ ps) (letters bytes)

    -- the parts of a str
    pub str_parts : (v : Value) → IsStr v → Leads h.objects v → strs_of (plain_heap texts tuples h) (plain texts tuples v) ≡ map (λ (byte : ℕ). Some (byte ∷ [])) (spelled texts h v)
    str_parts v str leads = ap (λ (s : Shown). strs_in (plain_heap texts tuples h) (or_nothing (shown_items s))) (str_shown texts tuples h v str leads) ∙ letters (spelled texts h v)

    pub strs_length : (items : List Value) → length (strs_in (plain_heap texts tuples h) (map (plain texts tuples) items)) ≡ length items
    strs_length [] = refl
    strs_length (item ∷ items) = ap suc (strs_length items)

    -- what stands at a place of items
    pub str_at : (items : List Value) (at : ℕ) (v : Value) → slice_get items at ≡ Some v
        → get_or (strs_in (plain_heap texts tuples h) (map (plain texts tuples) items)) at None ≡ str_in (shown (plain_heap texts tuples h) (plain texts tuples v))
    str_at [] zero v e = absurd cc
    str_at [] (suc at) v e = absurd cc
    str_at (item ∷ items) zero v e = let same : item ≡ v = cc in ap (λ (w : Value). str_in (shown (plain_heap texts tuples h) (plain texts tuples w))) same
    str_at (item ∷ items) (suc at) v e = str_at items at v e

    -- items that are all strs
    all_known : (items : List Value) → All (IsKnownStr texts tuples h.objects) items → strs_in (plain_heap texts tuples h) (map (plain texts tuples) items) ≡ map (λ (bs : List ℕ). Some bs) (map (spelled texts h) items)
    all_known [] known = refl
    all_known (item ∷ items) known =
        let one = All-head (IsKnownStr texts tuples h.objects) item items known in
        ap₂ (λ (p : Option (List ℕ)) (ps : List (Option (List ℕ))). p ∷ ps) (is_str item one.str one.leads) (all_known items (All-tail (IsKnownStr texts tuples h.objects) item items known))

    wrapped : (bytes : List ℕ) → map (λ (byte : ℕ). Some (byte ∷ [])) bytes ≡ map (λ (bs : List ℕ). Some bs) (map (λ (byte : ℕ). byte ∷ []) bytes)
    wrapped [] = refl
    wrapped (byte ∷ bytes) = ap (λ (ps : List (Option (List ℕ))). Some (byte ∷ []) ∷ ps) (wrapped bytes)

    pub other_parts_in : (v : Value) → (IsStr v → ⊥) → parts_in texts h tuples v ≡ map (spelled texts h) (arena.items_in tuples h v)
    other_parts_in (values.Str s) other = absurd (other tt)
    other_parts_in (values.Text t) other = absurd (other tt)
    other_parts_in _ other = refl

    pub letters_in : (v : Value) → IsStr v → parts_in texts h tuples v ≡ map (λ (byte : ℕ). byte ∷ []) (spelled texts h v)
    letters_in (values.Str s) str = refl
    letters_in (values.Text t) str = refl
    letters_in _ str = absurd str

    pub no_items : (v : Value) → IsStr v → arena.items_in tuples h v ≡ []
    no_items (values.Str s) str = refl
    no_items (values.Text t) str = refl
    no_items _ str = absurd str

    pub str_or_not : (v : Value) → IsStr v ⊎ (IsStr v → ⊥)
    str_or_not (values.Str s) = inl tt
    str_or_not (values.Text t) = inl tt
    str_or_not _ = inr (λ str. str)

    -- the parts where all are strs
    pub known_parts : (v : Value) → Leads h.objects v → IsNested tuples v → All (IsKnownStr texts tuples h.objects) (arena.items_in tuples h v)
        → strs_of (plain_heap texts tuples h) (plain texts tuples v) ≡ map (λ (bs : List ℕ). Some bs) (parts_in texts h tuples v)
    known_parts v leads nests known = elim (str_or_not v) [
      | inl str ↦ str_parts v str leads ∙ (wrapped (spelled texts h v) ∙ ap (map (λ (bs : List ℕ). Some bs)) (sym (letters_in v str)))
      | inr other ↦ strs_plain v other leads nests ∙ (all_known (arena.items_in tuples h v) known ∙ ap (map (λ (bs : List ℕ). Some bs)) (sym (other_parts_in v other)))
    ]

-- the walk over the parts
pub walk_answer : (heap : PlainHeap) (vs : List Val) → (parts_of heap vs).answer ≡ Some (all_strs (strs_in heap vs))
walk_answer heap [] = refl
walk_answer heap (v ∷ vs) = answer_by (str_in (shown heap v)) (walk_answer heap vs)
  where
    answer_by : (o : Option (List ℕ)) → (parts_of heap vs).answer ≡ Some (all_strs (strs_in heap vs)) → (visit (part_behind o (parts_of heap vs))).answer ≡ Some (all_strs (o ∷ strs_in heap vs))
    answer_by None was = refl
    answer_by (Some bytes) was = ap (λ (r : Option (Option (List (List ℕ)))). option_map (option_map (λ (parts : List (List ℕ)). bytes ∷ parts)) r) was

pub walk_visits : (heap : PlainHeap) (vs : List Val) → (parts_of heap vs).visits ≡ looked_at (strs_in heap vs)
walk_visits heap [] = refl
walk_visits heap (v ∷ vs) = visits_by (str_in (shown heap v)) (walk_visits heap vs)
  where
    visits_by : (o : Option (List ℕ)) → (parts_of heap vs).visits ≡ looked_at (strs_in heap vs) → (visit (part_behind o (parts_of heap vs))).visits ≡ looked_at (o ∷ strs_in heap vs)
    visits_by None was = refl
    visits_by (Some bytes) was = ap suc was

pub all_some : (ps : List (List ℕ)) → all_strs (map (λ (bs : List ℕ). Some bs) ps) ≡ Some ps
all_some [] = refl
all_some (p ∷ ps) = ap (λ (r : Option (List (List ℕ))). option_map (λ (others : List (List ℕ)). p ∷ others) r) (all_some ps)

pub none_there : (opts : List (Option (List ℕ))) (k : ℕ) → k < length opts → get_or opts k None ≡ None → all_strs opts ≡ None
none_there [] k lt e = absurd (omega arith)
none_there (None ∷ opts) k lt e = refl
none_there (Some p ∷ opts) zero lt e = absurd cc
none_there (Some p ∷ opts) (suc k) lt e = ap (λ (r : Option (List (List ℕ))). option_map (λ (others : List (List ℕ)). p ∷ others) r) (none_there opts k (omega arith) e)

pub not_both : (b : Bool) → b ≡ false → b ≡ true → ⊥
not_both b f t = cc

pub letter_there : {A : Type 0} (f : List ℕ → A) (bytes : List ℕ) (at : ℕ) (d : A) → at < length bytes → get_or (map (λ (byte : ℕ). f (byte ∷ [])) bytes) at d ≡ f (take 1 (drop at bytes))
letter_there f bytes at d lt = get_or-map (λ (byte : ℕ). f (byte ∷ [])) bytes at 0 d lt ∙ ap (λ (l : List ℕ). f (take 1 l)) (sym (drop-cons bytes at 0 lt))

pub no_strs : {A : Type 0} (f : List (List ℕ) → A) (o : Option (List (List ℕ))) → None ≡ option_map f o → o ≡ None
no_strs f (Some ps) e = absurd cc
no_strs f None e = refl

pub none_is : (o : Option (List ℕ)) → None ≡ option_map (λ (bs : List ℕ). length bs) o → o ≡ None
none_is (Some bs) e = absurd cc
none_is None e = refl
