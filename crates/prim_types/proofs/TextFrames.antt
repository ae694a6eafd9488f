-- Texts stay while all objects stay that a value can lead to.
use Rattle.std.proofs.Common.{◌≡◌, ℕ, zero, suc, ◌<◌, List, [], ◌∷◌, ◌++◌, Bool, true, false, Option, Some, None, refl, ap, ap₂, ◌∙◌}
use Rattle.std.specs.Prelude.{codes}
use Rattle.mpy_base.specs.declared.kind.Kind.{Kind}
use Rattle.mpy_base.specs.Kind.{kind_name}
use Rattle.mpy_base.specs.World.{Object, ListObject, TupleObject, TextObject, DictObject, FunctionObject, ExceptionObject, MethodObject, RangeObject, ModuleObject, object}
use Rattle.mpy_base.specs.Val.{Val, Vals, Only, Then, Nil, Truth, Int, Str, Fixed, Empty, Built, At, vals}
use Rattle.prim_builtins.specs.py_values.Shown.{PlainHeap, Shown, shown, shown_object}
use Rattle.prim_builtins.specs.py_values.Equality.{Walk, visit}
use Rattle.prim_builtins.specs.py_primitives.Walks.{and_then, walk_map, walk_all}
use Rattle.prim_builtins.specs.py_primitives.Texts.{joined, items_of_tuple, texts_between, tuple_text, pair_text, exception_str, exception_text, object_text, written, write_within}

abbrev pub Each : {A : Type 0} → (A → Type 0) → List A → Type 0
Each P [] = Unit {0}
Each P (x ∷ xs) = P x × Each P xs

each_weaker : {A : Type 0} {P Q : A → Type 0} → ((x : A) → P x → Q x) → (xs : List A) → Each P xs → Each Q xs
each_weaker f [] each = tt
each_weaker f (x ∷ xs) each = (f x each.0, each_weaker f xs each.1)

-- the numbers of objects in a value are below a limit
abbrev mutual
  pub Below : ℕ → Val → Type 0
  Below limit (Fixed vs) = AllBelow limit vs
  Below limit (At n) = n < limit
  Below limit _ = Unit {0}

  pub AllBelow : ℕ → Vals → Type 0
  AllBelow limit (Only v) = Below limit v
  AllBelow limit (Then v vs) = Below limit v × AllBelow limit vs

-- those that its text shows
abbrev pub BelowObject : ℕ → Option (Object Val (List ℕ)) → Type 0
BelowObject limit (Some (ListObject items room)) = Each (Below limit) items
BelowObject limit (Some (TupleObject items)) = Each (Below limit) items
BelowObject limit (Some (DictObject pairs room)) = Each (λ pair. Below limit (pair.0) × Below limit (pair.1)) pairs
BelowObject limit (Some (ExceptionObject kind args file line name)) = Below limit args
BelowObject limit _ = Unit {0}

each_below : (limit : ℕ) (vs : Vals) → AllBelow limit vs → Each (Below limit) (vals vs)
each_below limit (Only v) below = (below, tt)
each_below limit (Then v vs) below = (below.0, each_below limit vs below.1)

items_below : (limit : ℕ) (o : Option (Object Val (List ℕ))) → BelowObject limit o → Each (Below limit) (items_of_tuple (shown_object o))
items_below limit (Some (ListObject items room)) below = tt
items_below limit (Some (TupleObject items)) below = below
items_below limit (Some (TextObject bytes)) below = tt
items_below limit (Some (DictObject pairs room)) below = tt
items_below limit (Some (FunctionObject name module_name code names defaults)) below = tt
items_below limit (Some (ExceptionObject kind args file line name)) below = tt
items_below limit (Some (MethodObject value method)) below = tt
items_below limit (Some (RangeObject start stop step)) below = tt
items_below limit (Some (ModuleObject name names)) below = tt
items_below limit None below = tt

module _ (old new : PlainHeap) (limit : ℕ) (same : (n : ℕ) → n < limit → object new.objects n ≡ object old.objects n)
    (closed : (n : ℕ) → n < limit → BelowObject limit (object old.objects n)) where
  shows_same : (v : Val) → Below limit v → shown new v ≡ shown old v
  shows_same Nil below = refl
  shows_same (Truth b) below = refl
  shows_same (Int z) below = refl
  shows_same (Str bytes) below = refl
  shows_same (Fixed vs) below = refl
  shows_same Empty below = refl
  shows_same (Built b) below = refl
  shows_same (At n) below = ap shown_object (same n below)

  arguments_below : (v : Val) → Below limit v → Each (Below limit) (items_of_tuple (shown old v))
  arguments_below Nil below = tt
  arguments_below (Truth b) below = tt
  arguments_below (Int z) below = tt
  arguments_below (Str bytes) below = tt
  arguments_below (Fixed vs) below = each_below limit vs below
  arguments_below Empty below = tt
  arguments_below (Built b) below = tt
  arguments_below (At n) below = items_below limit (object old.objects n) (closed n below)

  -- where inner values write the same
  module _ (was now : Bool → Val → Walk (List ℕ)) (inner : (v : Val) → Below limit v → (raw : Bool) → now raw v ≡ was raw v) where
    all_same : (vs : List Val) → Each (Below limit) vs → walk_all (now false) vs ≡ walk_all (was false) vs
    all_same [] below = refl
    all_same (v ∷ vs) below =
        ap₂ (λ (first : Walk (List ℕ)) (rest : Walk (List (List ℕ))). and_then first (λ y. walk_map (λ ys. y ∷ ys) rest)) (inner v below.0 false) (all_same vs below.1)

    between_same : (front end : List ℕ) (vs : List Val) → Each (Below limit) vs → texts_between new now front end vs ≡ texts_between old was front end vs
    between_same front end vs below = ap (walk_map (λ (texts : List (List ℕ)). front ++ joined (codes ", ") texts ++ end)) (all_same vs below)

    tuple_same : (vs : List Val) → Each (Below limit) vs → tuple_text new now vs ≡ tuple_text old was vs
    tuple_same [] below = refl
    tuple_same (v ∷ []) below = between_same (codes "(") (codes ",)") (v ∷ []) below
    tuple_same (v ∷ w ∷ vs) below = between_same (codes "(") (codes ")") (v ∷ w ∷ vs) below

    pairs_same : (pairs : List (Val × Val)) → Each (λ pair. Below limit (pair.0) × Below limit (pair.1)) pairs → walk_all (pair_text new now) pairs ≡ walk_all (pair_text old was) pairs
    pairs_same [] below = refl
    pairs_same (pair ∷ pairs) below =
        let key = inner (pair.0) below.0.0 false in
        let value = inner (pair.1) below.0.1 false in
        let text = ap₂ (λ (k v : Walk (List ℕ)). and_then k (λ first. walk_map (λ second. first ++ codes ": " ++ second) v)) key value in
        ap₂ (λ (first : Walk (List ℕ)) (rest : Walk (List (List ℕ))). and_then first (λ y. walk_map (λ ys. y ∷ ys) rest)) text (pairs_same pairs below.1)

    str_same : (args : Val) → Below limit args → (vs : List Val) → Each (Below limit) vs → exception_str new now args vs ≡ exception_str old was args vs
    str_same args below [] each = refl
    str_same args below (v ∷ []) each = inner v each.0 true
    str_same args below (v ∷ w ∷ vs) each = inner args below false

    exception_same : (raw : Bool) (kind : Kind) (args : Val) → Below limit args → exception_text new now raw kind args ≡ exception_text old was raw kind args
    exception_same true kind args below =
        ap (λ (s : Shown). exception_str new now args (items_of_tuple s)) (shows_same args below) ∙ str_same args below (items_of_tuple (shown old args)) (arguments_below args below)
    exception_same false kind args below =
        ap (λ (s : Shown). texts_between new now (kind_name kind ++ codes "(") (codes ")") (items_of_tuple s)) (shows_same args below)
        ∙ between_same (kind_name kind ++ codes "(") (codes ")") (items_of_tuple (shown old args)) (arguments_below args below)

    object_same : (raw : Bool) (o : Option (Object Val (List ℕ))) → BelowObject limit o → object_text new now raw o ≡ object_text old was raw o
    object_same raw (Some (ListObject items room)) below = between_same (codes "[") (codes "]") items below
    object_same raw (Some (TupleObject items)) below = tuple_same items below
    object_same raw (Some (TextObject bytes)) below = refl
    object_same raw (Some (DictObject pairs room)) below = ap (walk_map (λ (texts : List (List ℕ)). codes "{" ++ joined (codes ", ") texts ++ codes "}")) (pairs_same pairs below)
    object_same raw (Some (FunctionObject name module_name code names defaults)) below = refl
    object_same raw (Some (ExceptionObject kind args file line name)) below = exception_same raw kind args below
    object_same raw (Some (MethodObject value method)) below = refl
    object_same raw (Some (RangeObject start stop step)) below = refl
    object_same raw (Some (ModuleObject name names)) below = refl
    object_same raw None below = refl

    written_same : (raw : Bool) (v : Val) → Below limit v → written new now raw v ≡ written old was raw v
    written_same raw Nil below = refl
    written_same raw (Truth b) below = refl
    written_same raw (Int z) below = refl
    written_same raw (Str bytes) below = refl
    written_same raw (Fixed vs) below = tuple_same (vals vs) (each_below limit vs below)
    written_same raw Empty below = refl
    written_same raw (Built b) below = refl
    written_same raw (At n) below = ap (object_text new now raw) (same n below) ∙ object_same raw (object old.objects n) (closed n below)

  pub text_stays : (depth : ℕ) (v : Val) → Below limit v → (raw : Bool) → write_within new depth raw v ≡ write_within old depth raw v
  text_stays zero v below raw = refl
  text_stays (suc depth) v below raw = ap visit (written_same (write_within old depth) (write_within new depth) (text_stays depth) raw v below)
