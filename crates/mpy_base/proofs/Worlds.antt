-- What changes of a heap keep, whatever its values are.
use Rattle.std.proofs.Common.{ℕ, suc, ◌+◌, ◌<◌, ◌≡◌, List, ◌∷◌, ◌++◌, length, Option, Some, None, set, replicate, refl, sym, ◌∙◌, ap, subst, inl, inr, arith, length-append, get_or-set_same, get_or-set_other}
use Rattle.std.proofs.lemmas.List.{get_or_past, get_or_append_left, get_or_at, length-replicate, get_or-replicate}
use Rattle.std.proofs.lemmas.Bool.{cases_eq, cases_lt}
use Rattle.mpy_base.specs.World.{Object, ObjectKind, Heap, ListObject, DictObject, ExceptionObject, ModuleObject, AList, ATuple, AText, ADict, object, kind_of, IsA, Later, placed, named, with_list, with_tuple, with_text, with_dict, with_place, with_names, with_object}
use Rattle.mpy_base.specs.Weights.{more_cells, cells_of, used, Made, with_used, with_items, with_pairs, list_growth, dict_growth, grown_room}

module _ {V N : Type 0} where
  pub object_nones : (m k : ℕ) → object {V = V} {N = N} (replicate m None) k ≡ None
  object_nones m k =
      let none : Option (Object V N) = None in
      elim (cases_lt k m) [
        | inl h ↦ get_or-replicate m k none none h
        | inr h ↦ get_or_past (replicate m none) k none (omega (arith, length-replicate m none))
      ]

  -- what is of a kind is among the used cells
  pub is_within : (obs : List (Option (Object V N))) (kind : ObjectKind) (n : ℕ) → IsA obs kind n → n < length obs
  is_within obs kind n e = elim (cases_lt n (length obs)) [
    | inl h ↦ h
    | inr h ↦ absurd (let q : object obs n ≡ None = get_or_past obs n None h in let r : kind_of {V = V} {N = N} None ≡ Some kind = sym (ap kind_of q) ∙ e in cc)
  ]

  pub later_same : (obs : List (Option (Object V N))) → Later obs obs
  later_same obs = record { keeps = λ kind n e. e }

  pub later_later : {a b c : List (Option (Object V N))} → Later a b → Later b c → Later a c
  later_later p q = record { keeps = λ kind n e. q.keeps kind n (p.keeps kind n e) }

  pub later_append : (obs more : List (Option (Object V N))) → Later obs (obs ++ more)
  later_append obs more = record { keeps = λ kind n e. ap kind_of (get_or_append_left obs more None n (is_within obs kind n e)) ∙ e }

  -- an object is replaced by one of its kind
  pub later_set : (obs : List (Option (Object V N))) (n : ℕ) (o : Option (Object V N)) → ((kind : ObjectKind) → IsA obs kind n → kind_of o ≡ Some kind) → Later obs (set obs n o)
  later_set obs n o keeps = record {
    keeps = λ kind m e. elim (cases_eq m n) [
      | inl q ↦ subst (λ (y : ℕ). IsA (set obs n o) kind y) (sym q)
          (let i : IsA obs kind n = subst (λ (y : ℕ). IsA obs kind y) q e in ap kind_of (get_or-set_same obs n o None (is_within obs kind n i)) ∙ keeps kind i)
      | inr ne ↦ ap kind_of (get_or-set_other obs n m o None ne) ∙ e
    ];
  }

  pub later_list : (h : Heap V N) (n : ℕ) (items : List V) → IsA h.objects AList n → Later h.objects (with_list h n items).objects
  later_list h n items i = later_set h.objects n _ (λ kind q. sym i ∙ q)

  pub later_tuple : (h : Heap V N) (n : ℕ) (items : List V) → IsA h.objects ATuple n → Later h.objects (with_tuple h n items).objects
  later_tuple h n items i = later_set h.objects n _ (λ kind q. sym i ∙ q)

  pub later_text : (h : Heap V N) (n : ℕ) (bytes : List ℕ) → IsA h.objects AText n → Later h.objects (with_text h n bytes).objects
  later_text h n bytes i = later_set h.objects n _ (λ kind q. sym i ∙ q)

  pub later_dict : (h : Heap V N) (n : ℕ) (pairs : List (V × V)) → IsA h.objects ADict n → Later h.objects (with_dict h n pairs).objects
  later_dict h n pairs i = later_set h.objects n _ (λ kind q. sym i ∙ q)

  kind_placed : (o : Option (Object V N)) (file : N) (line : ℕ) (name : N) → kind_of (placed o file line name) ≡ kind_of o
  kind_placed (Some (ExceptionObject kind args f l n)) file line name = refl
  kind_placed _ file line name = refl

  kind_named : (o : Option (Object V N)) (names : ℕ) → kind_of (named o names) ≡ kind_of o
  kind_named (Some (ModuleObject name old)) names = refl
  kind_named _ names = refl

  pub later_place : (h : Heap V N) (n : ℕ) (file : N) (line : ℕ) (name : N) → Later h.objects (with_place h n file line name).objects
  later_place h n file line name = later_set h.objects n _ (λ kind q. kind_placed (object h.objects n) file line name ∙ q)

  pub later_names : (h : Heap V N) (n names : ℕ) → Later h.objects (with_names h n names).objects
  later_names h n names = later_set h.objects n _ (λ kind q. kind_named (object h.objects n) names ∙ q)

  pub later_grown : (h : Heap V N) (n cells : ℕ) (o : Object V N) → ((kind : ObjectKind) → IsA h.objects kind n → kind_of (Some o) ≡ Some kind) → (k : ObjectKind) → IsA h.objects k n
      → Later h.objects (with_object (with_used h cells) n o).objects
  later_grown h n cells o keeps k i =
      let l = later_append h.objects (replicate cells None) in
      let j : IsA (h.objects ++ replicate cells None) k n = l.keeps k n i in
      later_later l (later_set (h.objects ++ replicate cells None) n (Some o) (λ kind q. keeps k i ∙ (sym j ∙ q)))

  pub later_items : (h : Heap V N) (n : ℕ) (items : List V) → IsA h.objects AList n → Later h.objects (with_items h n items).objects
  later_items h n items i = later_grown h n (list_growth h n (length items)) _ (λ kind q. sym i ∙ q) AList i

  pub later_pairs : (h : Heap V N) (n : ℕ) (pairs : List (V × V)) → IsA h.objects ADict n → Later h.objects (with_pairs h n pairs).objects
  later_pairs h n pairs i = later_grown h n (dict_growth h n (length pairs)) _ (λ kind q. sym i ∙ q) ADict i

  -- what a growth leaves in the place of the object
  pub object_grown : (h : Heap V N) (n cells : ℕ) (o : Object V N) → n < length h.objects → object (with_object (with_used h cells) n o).objects n ≡ Some o
  object_grown h n cells o low = get_or-set_same (h.objects ++ replicate cells None) n (Some o) None (omega (arith, length-append h.objects (replicate cells None)))

  pub object_items : (h : Heap V N) (n : ℕ) (items : List V) → IsA h.objects AList n → object (with_items h n items).objects n ≡ Some (ListObject items (grown_room h n (length items)))
  object_items h n items i = object_grown h n (list_growth h n (length items)) _ (is_within h.objects AList n i)

  pub object_pairs : (h : Heap V N) (n : ℕ) (pairs : List (V × V)) → IsA h.objects ADict n → object (with_pairs h n pairs).objects n ≡ Some (DictObject pairs (grown_room h n (length pairs)))
  object_pairs h n pairs i = object_grown h n (dict_growth h n (length pairs)) _ (is_within h.objects ADict n i)

  pub later_made : {old new : Heap V N} {n : ℕ} {o : Object V N} → Made old new n o → Later old.objects new.objects
  later_made {old} {new} {n} {o} m = subst (λ (h : Heap V N). Later old.objects h.objects) (sym m.world) (later_append old.objects (Some o ∷ replicate (more_cells o) None))

  pub object_made : {old new : Heap V N} {n : ℕ} {o : Object V N} → Made old new n o → object new.objects n ≡ Some o
  object_made {old} {new} {n} {o} m =
      subst (λ (h : Heap V N). object h.objects n ≡ Some o) (sym m.world) (get_or_at old.objects (Some o) (replicate (more_cells o) None) None n (sym m.number))

  pub used_made : {old new : Heap V N} {n : ℕ} {o : Object V N} → Made old new n o → used new ≡ used old + cells_of o
  used_made {old} {new} {n} {o} m =
      let none : Option (Object V N) = None in
      subst (λ (h : Heap V N). used h ≡ used old + cells_of o) (sym m.world)
      (length-append old.objects (Some o ∷ replicate (more_cells o) None) ∙ ap (λ (k : ℕ). used old + suc k) (length-replicate (more_cells o) none))

  -- other objects stay as they were
  pub object_before : {old new : Heap V N} {n : ℕ} {o : Object V N} → Made old new n o → (k : ℕ) → k < used old → object new.objects k ≡ object old.objects k
  object_before {old} {new} {n} {o} m k low =
      subst (λ (h : Heap V N). object h.objects k ≡ object old.objects k) (sym m.world) (get_or_append_left old.objects (Some o ∷ replicate (more_cells o) None) None k low)
