-- The texts of values that lead to old objects, while new ones are made.
use Rattle.std.proofs.Common.{IfSome, ◌≡◌, ℕ, zero, suc, ◌<◌, List, [], ◌∷◌, ◌++◌, map, Bool, Option, Some, None, sym, ap, ◌∙◌, subst}
use Rattle.std.specs.List.{All}
use Rattle.std.proofs.lemmas.List.Elements.{All-nil, All-cons, All-head, All-tail}
use Rattle.prim_builtins.specs.arena_heap.declared.value.Value.{Value}
use Rattle.prim_builtins.specs.arena_heap.declared.value.Value.TheVariants as values
use Rattle.prim_builtins.specs.arena_heap.declared.value.StrNo.{StrNo}
use Rattle.prim_builtins.specs.arena_heap.declared.value.ConstNo.{ConstNo}
use Rattle.mpy_base.specs.World.{ListObject, TupleObject, TextObject, DictObject, FunctionObject, ExceptionObject, MethodObject, RangeObject, ModuleObject, Heap, AList, ATuple, AText, ADict, AFunction, AnException, AMethod, ARange, AModule, object}
use Rattle.mpy_base.specs.Weights.{used}
use Rattle.mpy_base.specs.Val.{Val}
use Rattle.mpy_base.proofs.Worlds.{is_within}
use Rattle.prim_builtins.specs.arena_heap.Values.{ArenaObject, Leads, Sound, held}
use Rattle.prim_builtins.specs.arena_objects.Iterables.{or_nothing}
use Rattle.prim_builtins.specs.prim_walks.Plain.{vals_from, fixed_of, fixed_within, plain_by, plain, plain_pair, plain_object, plain_heap}
use Rattle.prim_builtins.specs.prim_walks.Whole.{text_of}
use Rattle.prim_builtins.proofs.prim_walks_lemmas.PlainValues.{within_step, object_plain}
use Rattle.prim_builtins.proofs.prim_walks_lemmas.WholeTexts.{text_is}
use Rattle.prim_builtins.specs.arena_heap.Constants.{HoldsNoObject, HoldNoObjects}
use Rattle.prim_types.proofs.TextFrames.{Each, Below, AllBelow, BelowObject, text_stays}

all_front : {A : Type 0} (P : A → Type 0) (xs ys : List A) → All P (xs ++ ys) → All P xs
all_front P [] ys all = All-nil P
all_front P (x ∷ xs) ys all = All-cons P x xs (All-head P x (xs ++ ys) all) (all_front P xs ys (All-tail P x (xs ++ ys) all))

all_back : {A : Type 0} (P : A → Type 0) (xs ys : List A) → All P (xs ++ ys) → All P ys
all_back P [] ys all = all
all_back P (x ∷ xs) ys all = all_back P xs ys (All-tail P x (xs ++ ys) all)

held_by : (o : Option (List Value)) → IfSome o (All HoldsNoObject) → All HoldsNoObject (or_nothing o)
held_by (Some items) all = all
held_by None all = All-nil HoldsNoObject

module _ (texts : StrNo → Option (List ℕ)) (tuples : ConstNo → Option (List Value)) (limit : ℕ) (formed : HoldNoObjects tuples) where
  nothing_within : (c : ConstNo) → Below limit (fixed_within texts tuples zero c)
  unfolding fixed_within
  nothing_within c = tt

  item_below : (f : ConstNo → Val) → ((d : ConstNo) → Below limit (f d)) → (v : Value) → HoldsNoObject v → Below limit (plain_by texts f v)
  item_below f each (values.Fixed d) none = each d
  item_below f each (values.List l) none = absurd none
  item_below f each (values.Dict l) none = absurd none
  item_below f each (values.Tuple l) none = absurd none
  item_below f each (values.Text l) none = absurd none
  item_below f each (values.Fun l) none = absurd none
  item_below f each (values.Exc l) none = absurd none
  item_below f each (values.Method l) none = absurd none
  item_below f each (values.Range l) none = absurd none
  item_below f each (values.Module l) none = absurd none
  item_below f each _ none = tt

  vals_below : (f : ConstNo → Val) → ((d : ConstNo) → Below limit (f d)) → (v : Value) → HoldsNoObject v → (vs : List Value) → All HoldsNoObject vs → AllBelow limit (vals_from (plain_by texts f v) (map (plain_by texts f) vs))
  vals_below f each v none [] all = item_below f each v none
  vals_below f each v none (w ∷ vs) all = (item_below f each v none, vals_below f each w (All-head HoldsNoObject w vs all) vs (All-tail HoldsNoObject w vs all))

  tuple_below : (f : ConstNo → Val) → ((d : ConstNo) → Below limit (f d)) → (vs : List Value) → All HoldsNoObject vs → Below limit (fixed_of (map (plain_by texts f) vs))
  tuple_below f each [] all = tt
  tuple_below f each (v ∷ vs) all = vals_below f each v (All-head HoldsNoObject v vs all) vs (All-tail HoldsNoObject v vs all)

  -- constant tuples hold no objects
  fixed_below : (depth : ℕ) (c : ConstNo) → Below limit (fixed_within texts tuples depth c)
  fixed_below zero c = nothing_within c
  fixed_below (suc depth) c = subst (Below limit) (sym (within_step texts tuples depth c)) (tuple_below (fixed_within texts tuples depth) (fixed_below depth) (or_nothing (tuples c)) (held_by (tuples c) (formed c)))

module _ (texts : StrNo → Option (List ℕ)) (tuples : ConstNo → Option (List Value)) (h : Heap Value ℕ) (formed : HoldNoObjects tuples) where
  value_below : (v : Value) → Leads h.objects v → Below (used h) (plain texts tuples v)
  value_below (values.Fixed c) leads = fixed_below texts tuples (used h) formed 32 c
  value_below (values.List n) leads = is_within h.objects AList n.cell leads.meets
  value_below (values.Dict n) leads = is_within h.objects ADict n.cell leads.meets
  value_below (values.Tuple n) leads = is_within h.objects ATuple n.cell leads.meets
  value_below (values.Text n) leads = is_within h.objects AText n.cell leads.meets
  value_below (values.Fun n) leads = is_within h.objects AFunction n.cell leads.meets
  value_below (values.Exc n) leads = is_within h.objects AnException n.cell leads.meets
  value_below (values.Method n) leads = is_within h.objects AMethod n.cell leads.meets
  value_below (values.Range n) leads = is_within h.objects ARange n.cell leads.meets
  value_below (values.Module n) leads = is_within h.objects AModule n.cell leads.meets
  value_below _ leads = tt

  values_below : (vs : List Value) → All (Leads h.objects) vs → Each (Below (used h)) (map (plain texts tuples) vs)
  values_below [] all = tt
  values_below (v ∷ vs) all = (value_below v (All-head (Leads h.objects) v vs all), values_below vs (All-tail (Leads h.objects) v vs all))

  pairs_below : (pairs : List (Value × Value)) → All (Leads h.objects) (map (λ (p : Value × Value). p.0) pairs) → All (Leads h.objects) (map (λ (p : Value × Value). p.1) pairs)
      → Each (λ (pair : Val × Val). Below (used h) (pair.0) × Below (used h) (pair.1)) (map (plain_pair texts tuples) pairs)
  pairs_below [] keys values = tt
  pairs_below (p ∷ ps) keys values = (
    (value_below (p.0) (All-head (Leads h.objects) (p.0) _ keys), value_below (p.1) (All-head (Leads h.objects) (p.1) _ values)),
    pairs_below ps (All-tail (Leads h.objects) (p.0) _ keys) (All-tail (Leads h.objects) (p.1) _ values),
  )

  object_below : (o : Option ArenaObject) → All (Leads h.objects) (held o) → BelowObject (used h) (plain_object texts tuples o)
  object_below None all = tt
  object_below (Some (ListObject items room)) all = values_below items all
  object_below (Some (TupleObject items)) all = values_below items all
  object_below (Some (TextObject bytes)) all = tt
  object_below (Some (DictObject pairs room)) all =
      let keys = map (λ (p : Value × Value). p.0) pairs in
      let others = map (λ (p : Value × Value). p.1) pairs in
      pairs_below pairs (all_front (Leads h.objects) keys others all) (all_back (Leads h.objects) keys others all)
  object_below (Some (FunctionObject name module_name code names defaults)) all = tt
  object_below (Some (ExceptionObject kind args file line name)) all = value_below args (All-head (Leads h.objects) args [] all)
  object_below (Some (MethodObject v method)) all = tt
  object_below (Some (RangeObject start stop step)) all = tt
  object_below (Some (ModuleObject name names)) all = tt

  module _ (sound : Sound h.objects) (new : Heap Value ℕ) (same : (n : ℕ) → n < used h → object new.objects n ≡ object h.objects n) where
    -- the text stays while the old objects stay
    pub old_text : (v : Value) → Leads h.objects v → (raw : Bool) → text_of (plain_heap texts tuples new) raw (plain texts tuples v) ≡ text_of (plain_heap texts tuples h) raw (plain texts tuples v)
    old_text v leads raw =
        let stays : (n : ℕ) → n < used h → object (plain_heap texts tuples new).objects n ≡ object (plain_heap texts tuples h).objects n =
        λ n lt. object_plain texts tuples new.objects n ∙ (ap (plain_object texts tuples) (same n lt) ∙ sym (object_plain texts tuples h.objects n)) in
        let closed : (n : ℕ) → n < used h → BelowObject (used h) (object (plain_heap texts tuples h).objects n) =
        λ n lt. subst (BelowObject (used h)) (sym (object_plain texts tuples h.objects n)) (object_below (object h.objects n) (sound.leads n)) in
        text_is (plain_heap texts tuples new) raw (plain texts tuples v)
        ∙ (text_stays (plain_heap texts tuples h) (plain_heap texts tuples new) (used h) stays closed 32 (plain texts tuples v) (value_below v leads) raw
        ∙ sym (text_is (plain_heap texts tuples h) raw (plain texts tuples v)))
