-- What is written of the objects of an arena.
use Rattle.std.proofs.Common.{◌≡◌, ℕ, suc, ◌-◌, List, [], ◌∷◌, Bool, true, false, Option, Some, None, Err, length, map, refl, sym, ap, ◌∙◌, subst, arith}
use Rattle.std.specs.Prelude.{codes, slice_get, All}
use Rattle.py_primitives.specs.mpy_base.declared.kind.Kind.{Kind}
use Rattle.arena_objects.specs.arena_heap.declared.value.Value.{Value}
use Rattle.arena_objects.specs.arena_heap.declared.value.Value.TheVariants as values
use Rattle.arena_objects.specs.arena_heap.declared.value.StrNo.{StrNo}
use Rattle.arena_objects.specs.arena_heap.declared.value.ConstNo.{ConstNo}
use Rattle.arena_objects.specs.arena_heap.declared.value.ListNo.{ListNo}
use Rattle.arena_objects.specs.arena_heap.declared.value.DictNo.{DictNo}
use Rattle.arena_objects.specs.arena_heap.declared.value.TupleNo.{TupleNo}
use Rattle.arena_objects.specs.arena_heap.declared.value.ExcNo.{ExcNo}
use Rattle.py_primitives.specs.mpy_base.World.{Object, ListObject, TupleObject, TextObject, DictObject, FunctionObject, ExceptionObject, MethodObject, RangeObject, ModuleObject, Heap, AList, ATuple, AText, ADict, AFunction, AMethod, ARange, AModule, IsA, object, kind_of, pairs_of, text_of}
use Rattle.py_primitives.specs.mpy_base.Val.{Val, Fixed, Empty, At, vals}
use Rattle.arena_objects.specs.arena_heap.Values.{ArenaObject, Leads, IsTuple, held}
use Rattle.arena_objects.specs.arena_heap.Constants.{IsTold}
use Rattle.arena_objects.specs.Iterables.{given, or_nothing, items_in}
use Rattle.py_primitives.specs.py_values.Shown.{PlainHeap, Tuple, shown, shown_object}
use Rattle.py_primitives.specs.py_values.Equality.{Walk, answers, visit}
use Rattle.py_primitives.specs.Texts.{str_text, texts_between, tuple_text, dict_text, exception_str, exception_text, items_of_tuple, object_text, written, write_within}
use Rattle.prim_walks.specs.declared.budget.Halt.TheVariants.{TooDeep, Spent}
use Rattle.prim_walks.specs.Runs.{run, spent}
use Rattle.prim_walks.specs.Plain.{vals_from, plain_by, fixed_of, fixed_within, plain, plain_pair, plain_object, plain_heap}
use Rattle.prim_walks.specs.declared.look.Look.{Look}
use Rattle.prim_walks.specs.declared.look.Look.TheVariants as looks
use Rattle.prim_walks.specs.Looks.{seen}
use Rattle.prim_walks.specs.Leaves.{part_text, leaf_text, IsLeaf, IsRaised, end_of_tuple}
use Rattle.prim_walks.proofs.PlainValues.{object_plain, within_step}
use Rattle.prim_walks.proofs.RunSteps.{run_deep, run_visit, run_spent}

module _ (heap : PlainHeap) (write : Bool → Val → Walk (List ℕ)) where
  -- a tuple between its brackets
  pub tuple_between : (vs : List Val) (count : ℕ) → count ≡ length vs → tuple_text heap write vs ≡ texts_between heap write (codes "(") (end_of_tuple count) vs
  tuple_between [] count e = ap (λ (n : ℕ). texts_between heap write (codes "(") (end_of_tuple n) []) (sym e)
  tuple_between (v ∷ []) count e = ap (λ (n : ℕ). texts_between heap write (codes "(") (end_of_tuple n) (v ∷ [])) (sym e)
  tuple_between (v ∷ w ∷ vs) count e = ap (λ (n : ℕ). texts_between heap write (codes "(") (end_of_tuple n) (v ∷ w ∷ vs)) (sym e)

module _ (texts : StrNo → Option (List ℕ)) (tuples : ConstNo → Option (List Value)) (heap : Heap Value ℕ) (write : Bool → Val → Walk (List ℕ)) (raw : Bool) where
  abbrev own : PlainHeap
  own = plain_heap texts tuples heap

  pub written_at : (n : ℕ) → written own write raw (At n) ≡ object_text own write raw (plain_object texts tuples (object heap.objects n))
  written_at n = ap (object_text own write raw) (object_plain texts tuples heap.objects n)

  of_list : (o : Option ArenaObject) → kind_of o ≡ Some AList → object_text own write raw (plain_object texts tuples o) ≡ texts_between own write (codes "[") (codes "]") (map (plain texts tuples) (given o))
  of_list (Some (ListObject items room)) e = refl
  of_list _ e = absurd cc

  pub list_written : (n : ℕ) → IsA heap.objects AList n → written own write raw (At n) ≡ texts_between own write (codes "[") (codes "]") (map (plain texts tuples) (given (object heap.objects n)))
  list_written n is = written_at n ∙ of_list (object heap.objects n) is

  of_dict : (o : Option ArenaObject) → kind_of o ≡ Some ADict → object_text own write raw (plain_object texts tuples o) ≡ dict_text own write (map (plain_pair texts tuples) (pairs_of o))
  of_dict (Some (DictObject pairs room)) e = refl
  of_dict _ e = absurd cc

  pub dict_written : (n : ℕ) → IsA heap.objects ADict n → written own write raw (At n) ≡ dict_text own write (map (plain_pair texts tuples) (pairs_of (object heap.objects n)))
  dict_written n is = written_at n ∙ of_dict (object heap.objects n) is

  of_text : (o : Option ArenaObject) → kind_of o ≡ Some AText → object_text own write raw (plain_object texts tuples o) ≡ answers (str_text raw (text_of o))
  of_text (Some (TextObject bytes)) e = refl
  of_text _ e = absurd cc

  of_function : (o : Option ArenaObject) → kind_of o ≡ Some AFunction → object_text own write raw (plain_object texts tuples o) ≡ answers (part_text texts o)
  of_function (Some (FunctionObject name module_name code names defaults)) e = refl
  of_function _ e = absurd cc

  of_range : (o : Option ArenaObject) → kind_of o ≡ Some ARange → object_text own write raw (plain_object texts tuples o) ≡ answers (part_text texts o)
  of_range (Some (RangeObject start stop step)) e = refl
  of_range _ e = absurd cc

  of_module : (o : Option ArenaObject) → kind_of o ≡ Some AModule → object_text own write raw (plain_object texts tuples o) ≡ answers (part_text texts o)
  of_module (Some (ModuleObject name names)) e = refl
  of_module _ e = absurd cc

  of_method : (o : Option ArenaObject) → kind_of o ≡ Some AMethod → object_text own write raw (plain_object texts tuples o) ≡ answers (codes "<bound_method>")
  of_method (Some (MethodObject v method)) e = refl
  of_method _ e = absurd cc

  -- a value that has no others in it
  pub leaf_written : (v : Value) → IsLeaf v → Leads heap.objects v → written own write raw (plain texts tuples v) ≡ answers (leaf_text texts heap raw v)
  leaf_written values.None leaf leads = refl
  leaf_written (values.Bool b) leaf leads = refl
  leaf_written (values.Int z) leaf leads = refl
  leaf_written (values.Str s) leaf leads = refl
  leaf_written (values.Text t) leaf leads = written_at t.cell ∙ of_text (object heap.objects t.cell) leads.meets
  leaf_written (values.Fun f) leaf leads = written_at f.cell ∙ of_function (object heap.objects f.cell) leads.meets
  leaf_written (values.Method m) leaf leads = written_at m.cell ∙ of_method (object heap.objects m.cell) leads.meets
  leaf_written (values.Range r) leaf leads = written_at r.cell ∙ of_range (object heap.objects r.cell) leads.meets
  leaf_written (values.Module m) leaf leads = written_at m.cell ∙ of_module (object heap.objects m.cell) leads.meets
  leaf_written (values.Built b) leaf leads = refl
  leaf_written _ leaf leads = absurd leaf

  -- an exception
  pub raised_written : (o : Option ArenaObject) (kind : Kind) (args : Value) → IsRaised o kind args → object_text own write raw (plain_object texts tuples o) ≡ exception_text own write raw kind (plain texts tuples args)
  raised_written (Some (ExceptionObject kind args file line name)) kind' args' is =
      ap (λ (k : Kind). exception_text own write raw k (plain texts tuples args)) is.0 ∙ ap (λ (v : Value). exception_text own write raw kind' (plain texts tuples v)) is.1
  raised_written _ kind args is = absurd is

-- the str of an exception, by the count of its arguments
module _ (heap : PlainHeap) (write : Bool → Val → Walk (List ℕ)) (args : Val) (f : Value → Val) where
  pub no_argument : (items : List Value) → length items ≡ 0 → exception_str heap write args (map f items) ≡ answers []
  no_argument [] e = refl
  no_argument (x ∷ xs) e = absurd (omega arith)

  pub one_argument : (items : List Value) (x : Value) → length items ≡ 1 → slice_get items 0 ≡ Some x → exception_str heap write args (map f items) ≡ write true (f x)
  one_argument [] x e g = absurd (omega arith)
  one_argument (y ∷ []) x e g = let p : y ≡ x = cc in ap (λ (v : Value). write true (f v)) p
  one_argument (y ∷ z ∷ xs) x e g = absurd (omega arith)

  pub more_arguments : (items : List Value) → (length items ≡ 0 → ⊥) → (length items ≡ 1 → ⊥) → exception_str heap write args (map f items) ≡ write false args
  more_arguments [] n m = absurd (n refl)
  more_arguments (x ∷ []) n m = absurd (m refl)
  more_arguments (x ∷ y ∷ xs) n m = refl

-- the items of the tuple of arguments
module _ (texts : StrNo → Option (List ℕ)) (tuples : ConstNo → Option (List Value)) (heap : Heap Value ℕ) where
  shown_tuple_object : (o : Option ArenaObject) → kind_of o ≡ Some ATuple → (ws : List Val) × (shown_object (plain_object texts tuples o) ≡ Tuple ws)
  shown_tuple_object (Some (TupleObject items)) e = (map (plain texts tuples) items, refl)
  shown_tuple_object _ e = absurd cc

  fixed_tuple : (items : List Val) → (ws : List Val) × (shown (plain_heap texts tuples heap) (fixed_of items) ≡ Tuple ws)
  fixed_tuple [] = ([], refl)
  fixed_tuple (v ∷ vs) = (vals (vals_from v vs), refl)

  is_tuple : (v : Value) → IsTuple v → Leads heap.objects v → (ws : List Val) × (shown (plain_heap texts tuples heap) (plain texts tuples v) ≡ Tuple ws)
  is_tuple values.Empty t leads = ([], refl)
  is_tuple (values.Fixed c) t leads =
      let p = fixed_tuple (map (plain_by texts (fixed_within texts tuples 31)) (or_nothing (tuples c))) in
      (p.0, ap (shown (plain_heap texts tuples heap)) (within_step texts tuples 31 c) ∙ p.1)
  is_tuple (values.Tuple n) t leads =
      let p = shown_tuple_object (object heap.objects n.cell) leads.meets in
      (p.0, ap shown_object (object_plain texts tuples heap.objects n.cell) ∙ p.1)
  is_tuple _ t leads = absurd t

  of_seen : (v : Value) (look : Look) (ws : List Val) → seen texts tuples heap v look ≡ Tuple ws → seen texts tuples heap v look ≡ Tuple (map (plain texts tuples) (items_in tuples heap v))
  of_seen v (looks.Tuple count) ws e = refl
  of_seen v _ ws e = absurd cc

  of_look : (v : Value) (look : Look) (ws : List Val) → seen texts tuples heap v look ≡ Tuple ws → items_of_tuple (seen texts tuples heap v look) ≡ map (plain texts tuples) (items_in tuples heap v)
  of_look v (looks.Tuple count) ws e = refl
  of_look v _ ws e = absurd cc

  looked : (v : Value) (look : Look) → IsTuple v → Leads heap.objects v → seen texts tuples heap v look ≡ shown (plain_heap texts tuples heap) (plain texts tuples v)
      → shown (plain_heap texts tuples heap) (plain texts tuples v) ≡ Tuple (map (plain texts tuples) (items_in tuples heap v))
  looked v look t leads e = let p = is_tuple v t leads in sym e ∙ of_seen v look p.0 (e ∙ p.1)

  shown_written : (write : Bool → Val → Walk (List ℕ)) (raw : Bool) (w : Val) (ws : List Val) → shown (plain_heap texts tuples heap) w ≡ Tuple ws → written (plain_heap texts tuples heap) write raw w ≡ tuple_text (plain_heap texts tuples heap) write ws
  shown_written write raw Empty ws e = let p : [] ≡ ws = cc in ap (tuple_text (plain_heap texts tuples heap) write) p
  shown_written write raw (Fixed items) ws e = let p : vals items ≡ ws = cc in ap (tuple_text (plain_heap texts tuples heap) write) p
  shown_written write raw (At n) ws e = of_object (object (map (plain_object texts tuples) heap.objects) n) e
    where
      of_object : (o : Option (Object Val (List ℕ))) → shown_object o ≡ Tuple ws → object_text (plain_heap texts tuples heap) write raw o ≡ tuple_text (plain_heap texts tuples heap) write ws
      of_object (Some (TupleObject items)) f = let p : items ≡ ws = cc in ap (tuple_text (plain_heap texts tuples heap) write) p
      of_object _ f = absurd cc
  shown_written write raw _ ws e = absurd cc

  pub tuple_looked : (write : Bool → Val → Walk (List ℕ)) (raw : Bool) (v : Value) (look : Look) → IsTuple v → Leads heap.objects v → seen texts tuples heap v look ≡ shown (plain_heap texts tuples heap) (plain texts tuples v)
      → written (plain_heap texts tuples heap) write raw (plain texts tuples v) ≡ tuple_text (plain_heap texts tuples heap) write (map (plain texts tuples) (items_in tuples heap v))
  tuple_looked write raw v look t leads e = shown_written write raw (plain texts tuples v) (map (plain texts tuples) (items_in tuples heap v)) (looked v look t leads e)

  pub items_looked : (v : Value) (look : Look) → IsTuple v → Leads heap.objects v → seen texts tuples heap v look ≡ shown (plain_heap texts tuples heap) (plain texts tuples v)
      → items_of_tuple (shown (plain_heap texts tuples heap) (plain texts tuples v)) ≡ map (plain texts tuples) (items_in tuples heap v)
  items_looked v look t leads e =
      let p = is_tuple v t leads in
      sym (ap items_of_tuple e) ∙ of_look v look p.0 (e ∙ p.1)

  pub args_told : (o : Option ArenaObject) (kind : Kind) (args : Value) (file line name : ℕ) → o ≡ Some (ExceptionObject kind args file line name) → All (IsTold texts tuples) (held o) → IsTold texts tuples args
  args_told o kind args file line name e all =
      let known : All (IsTold texts tuples) (args ∷ []) = subst (λ (x : Option ArenaObject). All (IsTold texts tuples) (held x)) e all in
      known 0 args (omega arith)

  pub is_raised : (o : Option ArenaObject) (kind : Kind) (args : Value) (file line name : ℕ) → o ≡ Some (ExceptionObject kind args file line name) → IsRaised o kind args
  is_raised o kind args file line name e = subst (λ (x : Option ArenaObject). IsRaised x kind args) (sym e) (refl, refl)

-- what is none of those with others in them
pub leaf_else : (v : Value) → ((x : ConstNo) → v ≡ values.Fixed x → ⊥) → (v ≡ values.Empty → ⊥) → ((x : ListNo) → v ≡ values.List x → ⊥) → ((x : DictNo) → v ≡ values.Dict x → ⊥) → ((x : TupleNo) → v ≡ values.Tuple x → ⊥)
    → ((x : ExcNo) → v ≡ values.Exc x → ⊥) → IsLeaf v
leaf_else (values.Fixed x) f m l d t e = f x refl
leaf_else values.Empty f m l d t e = m refl
leaf_else (values.List x) f m l d t e = l x refl
leaf_else (values.Dict x) f m l d t e = d x refl
leaf_else (values.Tuple x) f m l d t e = t x refl
leaf_else (values.Exc x) f m l d t e = e x refl
leaf_else _ f m l d t e = tt

module _ (heap : PlainHeap) (raw : Bool) (w : Val) (depth : ℕ) where
  abbrev pub below : Walk (List ℕ)
  below = written heap (write_within heap (depth - 1)) raw w

  one_down : (depth ≡ 0 → ⊥) → write_within heap depth raw w ≡ visit below
  one_down ne = let e : depth ≡ suc (depth - 1) = omega arith in ap (λ (d : ℕ). write_within heap d raw w) e

  pub too_deep : (left : Option ℕ) → depth ≡ 0 → run (write_within heap depth raw w) left ≡ (Err TooDeep, left)
  too_deep left e = ap (λ (d : ℕ). run (write_within heap d raw w) left) e ∙ run_deep left

  -- no visit is left
  pub halted : (old : Option ℕ) → (depth ≡ 0 → ⊥) → spent old ≡ None → run (write_within heap depth raw w) old ≡ (Err Spent, old)
  halted old ne h = ap (λ (walk : Walk (List ℕ)). run walk old) (one_down ne) ∙ run_spent below old h

  -- a visit, and then the text
  pub visited : (old mid : Option ℕ) → (depth ≡ 0 → ⊥) → spent old ≡ Some mid → run (write_within heap depth raw w) old ≡ run below mid
  visited old mid ne h = ap (λ (walk : Walk (List ℕ)). run walk old) (one_down ne) ∙ run_visit below old mid h
