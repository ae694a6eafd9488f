-- The texts of values are the same.
use Rattle.std.proofs.Common.{◌≡◌, ℕ, zero, suc, Bool, true, false, List, [], ◌∷◌, ◌++◌, map, Option, Some, None, refl, ap, ◌∙◌}
use Rattle.std.specs.Prelude.{codes}
use Rattle.std.specs.Option.{option_map}
use Rattle.bc_machine.specs.mpy_base.declared.kind.Kind.{Kind}
use Rattle.bc_machine.specs.mpy_base.declared.limits.TheConstants.{MAX_WALK_DEPTH}
use Rattle.bc_machine.specs.mpy_base.Kind.{kind_name}
use Rattle.bc_machine.specs.mpy_base.World.{Object, ListObject, TupleObject, DictObject, TextObject, FunctionObject, ExceptionObject, MethodObject, RangeObject, ModuleObject, object}
use Rattle.bc_machine.specs.mpy_base.Val.{Val, Nil, Truth, Int, Str, Fixed, Empty, Built, At, vals}
use Rattle.bc_machine.specs.py_values.Shown.{PlainHeap, Shown, Nothing, Number, Text, Tuple, Items, Pairs, Range, Other, shown}
use Rattle.bc_machine.specs.py_values.Equality.{Walk, visit}
use Rattle.bc_machine.specs.py_primitives.Walks.{walk_map, walk_all}
use Rattle.bc_machine.specs.py_primitives.Texts.{joined, items_of_tuple, texts_between, tuple_text, pair_text, dict_text, exception_str, exception_text, object_text, written, write_within, str_of, repr_of}
use Rattle.snap_laws.specs.Renamed.{Renaming, value, pair, object_as, shown_as, IsRenamed}
use Rattle.snap_laws.proofs.Seen.{seen, vals_as}
use Rattle.snap_laws.proofs.Combining.{then_equal}

-- walks that agree, one after another
pub walk_all_as : {A B : Type 0} (f : A → A) (wh wk : A → Walk B) → ((a : A) → wk (f a) ≡ wh a) → (xs : List A)
    → walk_all wk (map f xs) ≡ walk_all wh xs
walk_all_as f wh wk e [] = refl
walk_all_as f wh wk e (x ∷ xs) =
    then_equal (wh x) (wk (f x)) (λ y. walk_map (λ ys. y ∷ ys) (walk_all wh xs))
    (λ y. walk_map (λ ys. y ∷ ys) (walk_all wk (map f xs))) (e x)
    (λ y. ap (walk_map (λ ys. y ∷ ys)) (walk_all_as f wh wk e xs))

module _ (r : Renaming) (h k : PlainHeap) (is : IsRenamed r h k) where
  tuple_items : (s : Shown) → items_of_tuple (shown_as r s) ≡ map (value r) (items_of_tuple s)
  tuple_items Nothing = refl
  tuple_items (Number z) = refl
  tuple_items (Text bytes) = refl
  tuple_items (Tuple items) = refl
  tuple_items (Items items) = refl
  tuple_items (Pairs pairs) = refl
  tuple_items (Range start stop step) = refl
  tuple_items Other = refl

  pub arguments_as : (v : Val) → items_of_tuple (shown k (value r v)) ≡ map (value r) (items_of_tuple (shown h v))
  arguments_as v = ap items_of_tuple (seen r h k is v) ∙ tuple_items (shown h v)

  module _ (wh wk : Bool → Val → Walk (List ℕ)) (ih : (raw : Bool) (v : Val) → wk raw (value r v) ≡ wh raw v) where
    between_as : (o c : List ℕ) (vs : List Val)
        → texts_between k wk o c (map (value r) vs) ≡ texts_between h wh o c vs
    between_as o c vs =
        ap (walk_map (λ texts. o ++ joined (codes ", ") texts ++ c))
        (walk_all_as (value r) (wh false) (wk false) (ih false) vs)

    tuple_written : (vs : List Val) → tuple_text k wk (map (value r) vs) ≡ tuple_text h wh vs
    tuple_written [] = refl
    tuple_written (v ∷ []) = between_as (codes "(") (codes ",)") (v ∷ [])
    tuple_written (v ∷ w ∷ vs) = between_as (codes "(") (codes ")") (v ∷ w ∷ vs)

    pair_written : (p : Val × Val) → pair_text k wk (pair r p) ≡ pair_text h wh p
    pair_written p =
        then_equal (wh false p.0) (wk false (value r p.0))
        (λ key. walk_map (λ v. key ++ codes ": " ++ v) (wh false p.1))
        (λ key. walk_map (λ v. key ++ codes ": " ++ v) (wk false (value r p.1))) (ih false p.0)
        (λ key. ap (walk_map (λ v. key ++ codes ": " ++ v)) (ih false p.1))

    dict_written : (ps : List (Val × Val)) → dict_text k wk (map (pair r) ps) ≡ dict_text h wh ps
    dict_written ps =
        ap (walk_map (λ texts. codes "{" ++ joined (codes ", ") texts ++ codes "}"))
        (walk_all_as (pair r) (pair_text h wh) (pair_text k wk) pair_written ps)

    exception_said : (args : Val) (vs : List Val)
        → exception_str k wk (value r args) (map (value r) vs) ≡ exception_str h wh args vs
    exception_said args [] = refl
    exception_said args (v ∷ []) = ih true v
    exception_said args (v ∷ w ∷ vs) = ih false args

    exception_written : (raw : Bool) (kind : Kind) (args : Val)
        → exception_text k wk raw kind (value r args) ≡ exception_text h wh raw kind args
    exception_written true kind args =
        ap (exception_str k wk (value r args)) (arguments_as args) ∙ exception_said args
        (items_of_tuple (shown h args))
    exception_written false kind args =
        ap (texts_between k wk (kind_name kind ++ codes "(") (codes ")")) (arguments_as args) ∙ between_as
        (kind_name kind ++ codes "(") (codes ")") (items_of_tuple (shown h args))

    object_written : (raw : Bool) (o : Option (Object Val (List ℕ)))
        → object_text k wk raw (option_map (object_as r) o) ≡ object_text h wh raw o
    object_written raw (Some (ListObject items room)) = between_as (codes "[") (codes "]") items
    object_written raw (Some (TupleObject items)) = tuple_written items
    object_written raw (Some (TextObject bytes)) = refl
    object_written raw (Some (DictObject pairs room)) = dict_written pairs
    object_written raw (Some (FunctionObject name module_name code names defaults)) = refl
    object_written raw (Some (ExceptionObject kind args file line name)) = exception_written raw kind args
    object_written raw (Some (MethodObject v method)) = refl
    object_written raw (Some (RangeObject start stop step)) = refl
    object_written raw (Some (ModuleObject name names)) = refl
    object_written raw None = refl

    written_as : (raw : Bool) (v : Val) → written k wk raw (value r v) ≡ written h wh raw v
    written_as raw Nil = refl
    written_as raw (Truth b) = refl
    written_as raw (Int z) = refl
    written_as raw (Str bytes) = refl
    written_as raw (Fixed items) = ap (tuple_text k wk) (vals_as r items) ∙ tuple_written (vals items)
    written_as raw Empty = refl
    written_as raw (Built b) = refl
    written_as raw (At n) = ap (object_text k wk raw) (is.objects n) ∙ object_written raw (object h.objects n)

  write_as : (depth : ℕ) (raw : Bool) (v : Val) → write_within k depth raw (value r v) ≡ write_within h depth raw v
  write_as zero raw v = refl
  write_as (suc depth) raw v =
      ap visit (written_as (write_within h depth) (write_within k depth) (write_as depth) raw v)

  pub str_as : (v : Val) → str_of k (value r v) ≡ str_of h v
  unfolding str_of
  str_as v = write_as MAX_WALK_DEPTH true v

  pub repr_as : (v : Val) → repr_of k (value r v) ≡ repr_of h v
  unfolding repr_of
  repr_as v = write_as MAX_WALK_DEPTH false v
