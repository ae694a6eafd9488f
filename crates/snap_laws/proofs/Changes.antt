-- Heaps that are changed alike.
use Rattle.std.proofs.Common.{◌≡◌, ℕ, zero, suc, ◌+◌, ◌-◌, ◌<◌, ◌≤◌, List, ◌∷◌, ◌++◌, length, set, replicate, Option, Some, None, refl, sym, ap, subst, ◌∙◌, inl, inr, arith, length-append, get_or-set_same, get_or-set_other}
use Rattle.std.specs.Option.{option_map}
use Rattle.std.proofs.lemmas.List.{get_or_past, get_or_append_left, get_or-append_right, length-set, length-map}
use Rattle.std.proofs.lemmas.Bool.{cases_eq, cases_lt}
use Rattle.bc_machine.specs.mpy_base.World.{Object, ListObject, TupleObject, TextObject, DictObject, FunctionObject, ExceptionObject, MethodObject, RangeObject, ModuleObject, object, with_object}
use Rattle.bc_machine.specs.mpy_base.Weights.{used, more_cells, bytes_of, with_made, with_used}
use Rattle.bc_machine.specs.mpy_base.Val.{Val, At}
use Rattle.bc_flow.proofs.mpy_base_lemmas.Worlds.{object_nones}
use Rattle.bc_machine.specs.py_values.Shown.{PlainHeap}
use Rattle.snap_laws.specs.Renamed.{Renaming, value, object_as, IsRenamed}

abbrev Objs : Type 0
Objs = List (Option (Object Val (List ℕ)))

module _ (r : Renaming) where
  injective : (m n : ℕ) → r.to m ≡ r.to n → m ≡ n
  injective m n e = sym (r.back m) ∙ ap r.from e ∙ r.back n

  -- a number below a bound from the limit on stays below it
  inside : (n bound : ℕ) → r.limit ≤ bound → n < bound → r.to n < bound
  inside n bound le lt =
      elim (cases_lt (r.to n) bound) [
        | inl h ↦ h
        | inr ge ↦ (let same : r.to n ≡ n = injective (r.to n) n (r.fixed (r.to n) (omega (arith, le, ge))) in absurd
            (omega (arith, same, ge, lt)))
      ]

  pub cells_as : (o : Object Val (List ℕ)) → more_cells (object_as r o) ≡ more_cells o
  cells_as (ListObject items room) = refl
  cells_as (TupleObject items) = length-map items (value r)
  cells_as (TextObject bytes) = refl
  cells_as (DictObject pairs room) = refl
  cells_as (FunctionObject name module_name code names defaults) = refl
  cells_as (ExceptionObject kind args file line name) = refl
  cells_as (MethodObject v method) = refl
  cells_as (RangeObject start stop step) = refl
  cells_as (ModuleObject name names) = refl

  pub bytes_as : (o : Object Val (List ℕ)) → bytes_of (object_as r o) ≡ bytes_of o
  bytes_as (ListObject items room) = refl
  bytes_as (TupleObject items) = refl
  bytes_as (TextObject bytes) = refl
  bytes_as (DictObject pairs room) = refl
  bytes_as (FunctionObject name module_name code names defaults) = refl
  bytes_as (ExceptionObject kind args file line name) = refl
  bytes_as (MethodObject v method) = refl
  bytes_as (RangeObject start stop step) = refl
  bytes_as (ModuleObject name names) = refl

  module _ (h k : PlainHeap) (is : IsRenamed r h k) where
    set_object : (n m : ℕ) (x : Option (Object Val (List ℕ)))
        → object (set k.objects (r.to n) (option_map (object_as r) x)) (r.to m) ≡ option_map (object_as r)
        (object (set h.objects n x) m)
    set_object n m x =
        elim (cases_eq m n) [
          | inl q ↦ subst (λ z. object (set k.objects (r.to n) (option_map (object_as r) x)) (r.to z) ≡ option_map
              (object_as r) (object (set h.objects n x) z)) (sym q)
              (elim (cases_lt n (length h.objects)) [
                | inl lt ↦ get_or-set_same k.objects (r.to n) (option_map (object_as r) x) None
                    (omega (arith, inside n (length h.objects) is.above lt, is.cells))
                    ∙ ap (option_map (object_as r)) (sym (get_or-set_same h.objects n x None lt))
                | inr ge ↦ (let same : r.to n ≡ n = r.fixed n (omega (arith, is.above, ge)) in
                    get_or_past (set k.objects (r.to n) (option_map (object_as r) x)) (r.to n) None
                    (omega (
                      arith,
                      same,
                      ge,
                      is.cells,
                      length-set k.objects (r.to n)
                          (option_map (object_as r) x),
                    ))
                    ∙ ap (option_map (object_as r)) (sym
                    (get_or_past (set h.objects n x) n None (omega (arith, ge, length-set h.objects n x)))))
              ])
          | inr ne ↦ get_or-set_other k.objects (r.to n) (r.to m) (option_map (object_as r) x) None
              (λ e. ne (injective m n e))
              ∙ is.objects m ∙ ap (option_map (object_as r)) (sym (get_or-set_other h.objects n m x None ne))
        ]

    -- an object in the place of one, or what is there already
    pub set_option : (n : ℕ) (x : Option (Object Val (List ℕ)))
        → IsRenamed r (record h { objects = set h.objects n x })
        (record k { objects = set k.objects (r.to n) (option_map (object_as r) x) })
    set_option n x = record {
      objects = λ m. set_object n m x;
      cells = length-set k.objects (r.to n) (option_map (object_as r) x) ∙ is.cells ∙ sym (length-set h.objects n x);
      bytes = is.bytes;
      cell_size = is.cell_size;
      byte_size = is.byte_size;
      above = omega (arith, is.above, length-set h.objects n x);
    }

    pub set_as : (n : ℕ) (o : Object Val (List ℕ))
        → IsRenamed r (with_object h n o) (with_object k (r.to n) (object_as r o))
    set_as n o = set_option n (Some o)

    -- cells behind those that are used, alike in both
    longer : (old new : Objs) → ((i : ℕ) → object new i ≡ option_map (object_as r) (object old i)) → (m : ℕ)
        → object (k.objects ++ new) (r.to m) ≡ option_map (object_as r) (object (h.objects ++ old) m)
    longer old new alike m =
        elim (cases_lt m (length h.objects)) [
          | inl lt ↦ get_or_append_left k.objects new None (r.to m)
              (omega (arith, inside m (length h.objects) is.above lt, is.cells))
              ∙ is.objects m ∙ ap (option_map (object_as r)) (sym (get_or_append_left h.objects old None m lt))
          | inr ge ↦ (let same : r.to m ≡ m = r.fixed m (omega (arith, is.above, ge)) in
              ap (object (k.objects ++ new)) same
              ∙ get_or-append_right k.objects new (length h.objects) m None is.cells ge
              ∙ alike (m - length h.objects)
              ∙ ap (option_map (object_as r)) (sym (get_or-append_right h.objects old (length h.objects) m None refl
              ge)))
        ]

    nones : (n i : ℕ) → object (replicate n None) i ≡ option_map (object_as r) (object (replicate n None) i)
    nones n i = object_nones n i ∙ ap (option_map (object_as r)) (sym (object_nones n i))

    pub used_as : (cells : ℕ) → IsRenamed r (with_used h cells) (with_used k cells)
    used_as cells =
        let more : Objs = replicate cells None in
        record {
          objects = longer more more (nones cells);
          cells = omega (arith, length-append k.objects more, length-append h.objects more, is.cells);
          bytes = is.bytes;
          cell_size = is.cell_size;
          byte_size = is.byte_size;
          above = omega (arith, is.above, length-append h.objects more);
        }

    one_more : (o : Object Val (List ℕ)) (n i : ℕ)
        → object (Some (object_as r o) ∷ replicate n None) i ≡ option_map (object_as r)
        (object (Some o ∷ replicate n None) i)
    one_more o n zero = refl
    one_more o n (suc i) = nones n i

    made_with : (o : Object Val (List ℕ)) (n : ℕ) → n ≡ more_cells o
        → IsRenamed r (with_made h o) (record k {
          objects = k.objects ++ (Some (object_as r o) ∷ replicate n None);
          bytes = k.bytes + bytes_of (object_as r o);
        })
    made_with o n e =
        let old : Objs = Some o ∷ replicate (more_cells o) None in
        let new : Objs = Some (object_as r o) ∷ replicate n None in
        let alike : (i : ℕ) → object new i ≡ option_map (object_as r) (object old i) =
        subst (λ z. (i : ℕ) → object new i ≡ option_map (object_as r) (object (Some o ∷ replicate z None) i)) e
        (one_more o n) in
        let long : length new ≡ length old =
        ap (λ z. length (Some (object_as r o) ∷ replicate z None)) e ∙ suc_length (more_cells o) in
        record {
          objects = longer old new alike;
          cells = omega (arith, length-append k.objects new, length-append h.objects old, is.cells, long);
          bytes = omega (arith, is.bytes, bytes_as o);
          cell_size = is.cell_size;
          byte_size = is.byte_size;
          above = omega (arith, is.above, length-append h.objects old);
        }
      where
        suc_length : (m : ℕ) → length (Some (object_as r o) ∷ replicate m None) ≡ length (Some o ∷ replicate m None)
        suc_length m = refl

    pub made_as : (o : Object Val (List ℕ)) → IsRenamed r (with_made h o) (with_made k (object_as r o))
    made_as o = made_with o (more_cells (object_as r o)) (cells_as o)

    pub number_as : value r (At (used h)) ≡ At (used k)
    number_as = ap At (r.fixed (used h) is.above ∙ sym is.cells)
