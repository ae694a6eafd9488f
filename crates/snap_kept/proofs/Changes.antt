-- The changes of a heap leave it fine.
use Rattle.std.proofs.Common.{◌≡◌, ◌⊎◌, ◌≤◌, ◌+◌, ◌*◌, ◌-◌, ℕ, zero, suc, List, [], ◌∷◌, ◌++◌, length, set, replicate, Bool, true, false, cond, Some, None, inl, inr, refl, sym, ap, ◌∙◌, subst, arith, length-append, length-set, get_or-set_same, get_or-set_other}
use Rattle.std.specs.Prelude.{nat_le}
use Rattle.std.specs.List.{AllByRecursion as Each}
use Rattle.std.proofs.lemmas.List.{length-replicate, get_or_past, get_or_append_left, get_or-append_right}
use Rattle.std.proofs.lemmas.Bool.{cases_eq, cases_lt}
use Rattle.bc_progress.specs.bc_machine.Library.{Library}
use Rattle.bc_progress.specs.mpy_base.World.{Object, ObjectKind, ListObject, TupleObject, TextObject, DictObject, FunctionObject, ExceptionObject, MethodObject, RangeObject, ModuleObject, AList, ADict, object, names_of, kind_of, IsA, room_of, room_at, placed, with_object, with_place}
use Rattle.bc_progress.specs.mpy_base.Weights.{used, more_cells, with_made, with_used, room_for, list_growth, dict_growth, grown_room}
use Rattle.bc_progress.specs.mpy_base.Val.{Val, Vals, Only, Then, Nil, Truth, Int, Str, Fixed, Empty, Built, At, vals}
use Rattle.bc_progress.proofs.bc_flow_lemmas.mpy_base_lemmas.Worlds.{object_nones}
use Rattle.bc_progress.specs.py_values.Shown.{PlainHeap, Shown, Nothing, Number, Text, Tuple, Items, Pairs, Range, Other, shown, shown_object}
use Rattle.bc_progress.proofs.Knowing.{made_there}
use Rattle.snap_kept.specs.Texts.{IsConstant, AreConstant, IsName}
use Rattle.snap_kept.specs.Values.{IsThere, NamesOf, IsNamespace, IsPlain, IsPair, IsModule, cells_in, object_cells, IsFine, AreFine}
use Rattle.snap_kept.proofs.Onward.{Obj, core, names_core, Onward, there_on, fine_on, onward_same, onward_on}

some_is : {A : Type 0} (x y : A) → Some x ≡ Some y → x ≡ y
some_is x y e = cc

past_none : (obs : List Obj) (n : ℕ) → length obs ≤ n → object obs n ≡ None
past_none obs n le = get_or_past obs n None le

set_core : (obs : List Obj) (n : ℕ) (o : Obj) → core o ≡ core (object obs n) → (m : ℕ) → core (object (set obs n o) m) ≡ core (object obs m)
set_core obs n o e m = elim (cases_eq m n) [
  | inl q ↦ subst (λ (y : ℕ). core (object (set obs n o) y) ≡ core (object obs y)) (sym q) (elim (cases_lt n (length obs)) [
    | inl lt ↦ ap core (get_or-set_same obs n o None lt) ∙ e
    | inr ge ↦ ap core (past_none (set obs n o) n (omega (arith, ge, length-set obs n o))) ∙ ap core (sym (past_none obs n ge))
  ])
  | inr ne ↦ ap core (get_or-set_other obs n m o None ne)
]

pub set_cases : (obs : List Obj) (n : ℕ) (o : Obj) (m : ℕ) (x : Object Val (List ℕ)) → object (set obs n o) m ≡ Some x → ((m ≡ n) × (o ≡ Some x)) ⊎ ((m ≡ n → ⊥) × (object obs m ≡ Some x))
set_cases obs n o m x e = elim (cases_eq m n) [
  | inl q ↦ elim (cases_lt n (length obs)) [
    | inl lt ↦ inl (q, sym (get_or-set_same obs n o None lt) ∙ ap (object (set obs n o)) (sym q) ∙ e)
    | inr ge ↦ absurd (let never : None ≡ Some x = sym (past_none (set obs n o) n (omega (arith, ge, length-set obs n o))) ∙ ap (object (set obs n o)) (sym q) ∙ e in cc)
  ]
  | inr ne ↦ inr (ne, sym (get_or-set_other obs n m o None ne) ∙ e)
]

-- the object in the place of one, and the others
pub set_there : (obs : List Obj) (n : ℕ) (o : Obj) (x : Object Val (List ℕ)) → object obs n ≡ Some x → object (set obs n o) n ≡ o
set_there obs n o x e = elim (cases_lt n (length obs)) [
  | inl lt ↦ get_or-set_same obs n o None lt
  | inr ge ↦ absurd (let never : None ≡ Some x = sym (past_none obs n ge) ∙ e in cc)
]

pub set_others : (obs : List Obj) (n m : ℕ) (o : Obj) → (m ≡ n → ⊥) → object (set obs n o) m ≡ object obs m
set_others obs n m o ne = get_or-set_other obs n m o None ne

-- the cells of objects
-- ====================

pub set_cells : (obs : List Obj) (n : ℕ) (o : Obj) (c : ℕ) → cells_in o ≤ cells_in (object obs n) + c → object_cells (set obs n o) ≤ object_cells obs + c
set_cells [] n o c le = omega arith
set_cells (x ∷ obs) zero o c le = let r : cells_in o + object_cells obs ≤ cells_in x + object_cells obs + c = omega (arith, le) in r
set_cells (x ∷ obs) (suc n) o c le =
    let later : object_cells (set obs n o) ≤ object_cells obs + c = set_cells obs n o c le in
    let r : cells_in x + object_cells (set obs n o) ≤ cells_in x + object_cells obs + c = omega (arith, later) in
    r

append_cells : (obs more : List Obj) → object_cells (obs ++ more) ≡ object_cells obs + object_cells more
append_cells [] more = let r : object_cells more ≡ 0 + object_cells more = omega arith in r
append_cells (x ∷ obs) more =
    let later : object_cells (obs ++ more) ≡ object_cells obs + object_cells more = append_cells obs more in
    let r : cells_in x + object_cells (obs ++ more) ≡ cells_in x + object_cells obs + object_cells more = omega (arith, later) in
    r

none_cells : (n : ℕ) → object_cells (replicate n None) ≡ 0
none_cells zero = refl
none_cells (suc n) = let later : object_cells (replicate n None) ≡ 0 = none_cells n in let r : 0 + object_cells (replicate n None) ≡ 0 = omega (arith, later) in r

-- an object that is made takes its own cells
pub made_cells : (h : PlainHeap) (o : Object Val (List ℕ)) → object_cells h.objects ≤ length h.objects → object_cells (with_made h o).objects ≤ length (with_made h o).objects
made_cells h o le =
    let more : List Obj = Some o ∷ replicate (more_cells o) None in
    let all = append_cells h.objects more in
    let none = none_cells (more_cells o) in
    let long = length-append h.objects more in
    let many = length-replicate {A = Obj} (more_cells o) None in
    omega (arith, le, all, none, long, many)

-- where nothing changes but what may, the heap goes on
core_onward : (h k : PlainHeap) → ((m : ℕ) → core (object k.objects m) ≡ core (object h.objects m)) → Onward h k
core_onward h k same = record {
  stays = λ n o e. same n ∙ ap core e;
  fresh = λ m n e. inl (sym (names_core (object h.objects m)) ∙ ap names_of (sym (same m)) ∙ names_core (object k.objects m) ∙ e);
}

module _ (library : Library) where
  -- from the first heap on to the second, which is fine
  pub record Comes (h k : PlainHeap) : Type 0 where
    pub onward : Onward h k
    pub fine : AreFine library k

  pub comes_same : (h : PlainHeap) → AreFine library h → Comes h h
  comes_same h f = record { onward = onward_same h; fine = f }

  pub comes_on : (a b c : PlainHeap) → Comes a b → Comes b c → Comes a c
  comes_on a b c p q = record { onward = onward_on a b c p.onward q.onward; fine = q.fine }

  -- another object in the place of one, with as many cells more at most
  pub record Takes (old new : Obj) (cells : ℕ) : Type 0 where
    pub alike : core new ≡ core old
    pub room : cells_in new ≤ cells_in old + cells

  set_fine : (h : PlainHeap) (n : ℕ) (o : Object Val (List ℕ)) → AreFine library h → IsThere h n → core (Some o) ≡ core (object h.objects n) → IsFine library h n o → (on : Onward h (with_object h n o)) → (m : ℕ) (x : Object Val (List ℕ)) → object (with_object h n o).objects m ≡ Some x → IsFine library (with_object h n o) m x
  set_fine h n o f there e new on m x q = elim (set_cases h.objects n (Some o) m x q) [
    | inl at ↦ subst (λ z. IsFine library (with_object h n o) z x) (sym (at.0)) (subst (IsFine library (with_object h n o) n) (some_is o x (at.1)) (fine_on h (with_object h n o) on library n o there new))
    | inr old ↦ fine_on h (with_object h n o) on library m x (x, old.1) (f.fine m x (old.1))
  ]

  -- an object in the place of one
  pub set_comes : (h : PlainHeap) (n : ℕ) (o : Object Val (List ℕ)) → AreFine library h → IsThere h n → Takes (object h.objects n) (Some o) 0 → IsFine library h n o → Comes h (with_object h n o)
  set_comes h n o f there takes new =
      let k : PlainHeap = with_object h n o in
      let on : Onward h k = core_onward h k (set_core h.objects n (Some o) takes.alike) in
      let sum = set_cells h.objects n (Some o) 0 takes.room in
      let long = length-set h.objects n (Some o) in
      let held = f.cells in
      record { onward = on; fine = record { cells = omega (arith, sum, long, held); fine = set_fine h n o f there takes.alike new on } }

  used_same : (h : PlainHeap) (cells m : ℕ) → object (with_used h cells).objects m ≡ object h.objects m
  used_same h cells m = elim (cases_lt m (length h.objects)) [
    | inl lt ↦ get_or_append_left h.objects (replicate cells None) None m lt
    | inr ge ↦ get_or-append_right h.objects (replicate cells None) (length h.objects) m None refl ge ∙ object_nones cells (m - length h.objects) ∙ sym (past_none h.objects m ge)
  ]

  used_onward : (h : PlainHeap) (cells : ℕ) → Onward h (with_used h cells)
  used_onward h cells = core_onward h (with_used h cells) (λ m. ap core (used_same h cells m))

  used_sum : (h : PlainHeap) (cells : ℕ) → object_cells (with_used h cells).objects ≡ object_cells h.objects
  used_sum h cells =
      let all = append_cells h.objects (replicate cells None) in
      let none = none_cells cells in
      omega (arith, all, none)

  used_fine : (h : PlainHeap) (cells : ℕ) → AreFine library h → AreFine library (with_used h cells)
  used_fine h cells f =
      let k : PlainHeap = with_used h cells in
      let sum = used_sum h cells in
      let long = length-append h.objects (replicate cells None) in
      let held = f.cells in
      record { cells = omega (arith, sum, long, held); fine = λ m x q. let old = sym (used_same h cells m) ∙ q in fine_on h k (used_onward h cells) library m x (x, old) (f.fine m x old) }

  -- more cells, and an object in the place of one
  pub grown_comes : (h : PlainHeap) (n cells : ℕ) (o : Object Val (List ℕ)) → AreFine library h → IsThere h n → Takes (object h.objects n) (Some o) cells → IsFine library h n o → Comes h (with_object (with_used h cells) n o)
  grown_comes h n cells o f there takes new =
      let k : PlainHeap = with_used h cells in
      let on = used_onward h cells in
      let alike : core (Some o) ≡ core (object k.objects n) = takes.alike ∙ ap core (sym (used_same h cells n)) in
      let last : PlainHeap = with_object k n o in
      let further : Onward k last = core_onward k last (set_core k.objects n (Some o) alike) in
      let room : cells_in (Some o) ≤ cells_in (object k.objects n) + cells = subst (λ z. cells_in (Some o) ≤ cells_in z + cells) (sym (used_same h cells n)) takes.room in
      let sum = set_cells k.objects n (Some o) cells room in
      let before = used_sum h cells in
      let long = length-set k.objects n (Some o) in
      let more = length-append h.objects (replicate cells None) in
      let many = length-replicate {A = Obj} cells None in
      let held = f.cells in
      record {
        onward = onward_on h k last on further;
        fine = record {
          cells = omega (arith, sum, before, long, more, many, held);
          fine = set_fine k n o (used_fine h cells f) (there_on h k on n there) alike (fine_on h k on library n o there new) further;
        };
      }

  -- lists and dicts with the room that they have, and with more
  list_same_by : (items : List Val) (o : Obj) → kind_of o ≡ Some AList → Takes o (Some (ListObject items (room_of o))) 0
  list_same_by items None e = absurd cc
  list_same_by items (Some (ListObject xs r)) e = record { alike = refl; room = omega arith }
  list_same_by items (Some (TupleObject xs)) e = absurd cc
  list_same_by items (Some (TextObject bytes)) e = absurd cc
  list_same_by items (Some (DictObject pairs r)) e = absurd cc
  list_same_by items (Some (FunctionObject name module_name code names defaults)) e = absurd cc
  list_same_by items (Some (ExceptionObject kind args file line name)) e = absurd cc
  list_same_by items (Some (MethodObject v method)) e = absurd cc
  list_same_by items (Some (RangeObject start stop step)) e = absurd cc
  list_same_by items (Some (ModuleObject name names)) e = absurd cc

  pub list_same : (h : PlainHeap) (n : ℕ) (items : List Val) → IsA h.objects AList n → Takes (object h.objects n) (Some (ListObject items (room_at h n))) 0
  list_same h n items is = list_same_by items (object h.objects n) is

  dict_same_by : (pairs : List (Val × Val)) (o : Obj) → kind_of o ≡ Some ADict → Takes o (Some (DictObject pairs (room_of o))) 0
  dict_same_by pairs None e = absurd cc
  dict_same_by pairs (Some (ListObject xs r)) e = absurd cc
  dict_same_by pairs (Some (TupleObject xs)) e = absurd cc
  dict_same_by pairs (Some (TextObject bytes)) e = absurd cc
  dict_same_by pairs (Some (DictObject ps r)) e = record { alike = refl; room = omega arith }
  dict_same_by pairs (Some (FunctionObject name module_name code names defaults)) e = absurd cc
  dict_same_by pairs (Some (ExceptionObject kind args file line name)) e = absurd cc
  dict_same_by pairs (Some (MethodObject v method)) e = absurd cc
  dict_same_by pairs (Some (RangeObject start stop step)) e = absurd cc
  dict_same_by pairs (Some (ModuleObject name names)) e = absurd cc

  pub dict_same : (h : PlainHeap) (n : ℕ) (pairs : List (Val × Val)) → IsA h.objects ADict n → Takes (object h.objects n) (Some (DictObject pairs (room_at h n))) 0
  dict_same h n pairs is = dict_same_by pairs (object h.objects n) is

  list_more : (items : List Val) (room more : ℕ) (o : Obj) (b : Bool) → Takes o (Some (ListObject items room)) 0 → Takes o (Some (ListObject items (cond b room more))) (cond b 0 more)
  list_more items room more o true t = t
  list_more items room more o false t = let r = t.room in record { alike = t.alike; room = omega (arith, r) }

  pub list_grown : (h : PlainHeap) (n : ℕ) (items : List Val) (count : ℕ) → IsA h.objects AList n → Takes (object h.objects n) (Some (ListObject items (grown_room h n count))) (list_growth h n count)
  list_grown h n items count is = list_more items (room_at h n) (room_for count) (object h.objects n) (nat_le count (room_at h n)) (list_same h n items is)

  dict_more : (pairs : List (Val × Val)) (room more : ℕ) (o : Obj) (b : Bool) → Takes o (Some (DictObject pairs room)) 0 → Takes o (Some (DictObject pairs (cond b room more))) (cond b 0 (3 * more))
  dict_more pairs room more o true t = t
  dict_more pairs room more o false t = let r = t.room in record { alike = t.alike; room = omega (arith, r) }

  pub dict_grown : (h : PlainHeap) (n : ℕ) (pairs : List (Val × Val)) (count : ℕ) → IsA h.objects ADict n → Takes (object h.objects n) (Some (DictObject pairs (grown_room h n count))) (dict_growth h n count)
  dict_grown h n pairs count is = dict_more pairs (room_at h n) (room_for count) (object h.objects n) (nat_le count (room_at h n)) (dict_same h n pairs is)

  -- a tuple of as many items
  tuple_by : (items : List Val) (count : ℕ) (o : Obj) → core o ≡ Some (TupleObject (replicate count Nil)) → length items ≡ count → Takes o (Some (TupleObject items)) 0
  tuple_by items count None e l = absurd cc
  tuple_by items count (Some (ListObject xs r)) e l = absurd cc
  tuple_by items count (Some (TupleObject xs)) e l =
      let same : replicate (length xs) Nil ≡ replicate count Nil = cc in
      let long : length (replicate (length xs) Nil) ≡ length (replicate count Nil) = ap length same in
      let a = length-replicate (length xs) Nil in
      let b = length-replicate count Nil in
      record { alike = ap (λ n. Some (TupleObject (replicate n Nil))) l ∙ sym e; room = omega (arith, long, a, b, l) }
  tuple_by items count (Some (TextObject bytes)) e l = absurd cc
  tuple_by items count (Some (DictObject pairs r)) e l = absurd cc
  tuple_by items count (Some (FunctionObject name module_name code names defaults)) e l = absurd cc
  tuple_by items count (Some (ExceptionObject kind args file line name)) e l = absurd cc
  tuple_by items count (Some (MethodObject v method)) e l = absurd cc
  tuple_by items count (Some (RangeObject start stop step)) e l = absurd cc
  tuple_by items count (Some (ModuleObject name names)) e l = absurd cc

  pub tuple_same : (h : PlainHeap) (n count : ℕ) (items : List Val) → core (object h.objects n) ≡ Some (TupleObject (replicate count Nil)) → length items ≡ count → Takes (object h.objects n) (Some (TupleObject items)) 0
  tuple_same h n count items e l = tuple_by items count (object h.objects n) e l

  kind_is_there : (o : Obj) (kind : ObjectKind) → kind_of o ≡ Some kind → (x : Object Val (List ℕ)) × (o ≡ Some x)
  kind_is_there None kind e = absurd cc
  kind_is_there (Some x) kind e = (x, refl)

  pub is_there : (h : PlainHeap) (n : ℕ) (kind : ObjectKind) → IsA h.objects kind n → IsThere h n
  is_there h n kind e = kind_is_there (object h.objects n) kind e

  -- what is made
  one_cases : (o x : Object Val (List ℕ)) (more i : ℕ) → object (Some o ∷ replicate more None) i ≡ Some x → (i ≡ 0) × (o ≡ x)
  one_cases o x more zero e = (refl, some_is o x e)
  one_cases o x more (suc i) e = absurd (let never : None ≡ Some x = sym (object_nones more i) ∙ e in cc)

  pub made_cases : (h : PlainHeap) (o : Object Val (List ℕ)) (m : ℕ) (x : Object Val (List ℕ)) → object (with_made h o).objects m ≡ Some x → (object h.objects m ≡ Some x) ⊎ ((m ≡ used h) × (o ≡ x))
  made_cases h o m x e = elim (cases_lt m (length h.objects)) [
    | inl lt ↦ inl (sym (get_or_append_left h.objects (Some o ∷ replicate (more_cells o) None) None m lt) ∙ e)
    | inr ge ↦ (let q = one_cases o x (more_cells o) (m - length h.objects) (sym (get_or-append_right h.objects (Some o ∷ replicate (more_cells o) None) (length h.objects) m None refl ge) ∙ e) in
        let zero_is : m - length h.objects ≡ 0 = q.0 in
        inr ((let same : m ≡ length h.objects = omega (arith, zero_is, ge) in same), q.1))
  ]

  pub made_old : (h : PlainHeap) (o : Object Val (List ℕ)) (m : ℕ) (x : Object Val (List ℕ)) → object h.objects m ≡ Some x → object (with_made h o).objects m ≡ Some x
  made_old h o m x e = elim (cases_lt m (length h.objects)) [
    | inl lt ↦ get_or_append_left h.objects (Some o ∷ replicate (more_cells o) None) None m lt ∙ e
    | inr ge ↦ absurd (let never : None ≡ Some x = sym (past_none h.objects m ge) ∙ e in cc)
  ]

  pub none_used : (h : PlainHeap) → object h.objects (used h) ≡ None
  none_used h = past_none h.objects (used h) (omega arith)

  pub made_names : (h : PlainHeap) (o : Object Val (List ℕ)) → names_of (Some o) ≡ None → (m n : ℕ) → NamesOf (with_made h o) m n → NamesOf h m n
  made_names h o none m n e = by (object (with_made h o).objects m) refl
    where
      by : (x : Obj) → object (with_made h o).objects m ≡ x → NamesOf h m n
      by None q = absurd (let never : None ≡ Some n = ap names_of (sym q) ∙ e in cc)
      by (Some x) q = elim (made_cases h o m x q) [
        | inl old ↦ ap names_of (old ∙ sym q) ∙ e
        | inr at ↦ absurd (let never : None ≡ Some n = sym none ∙ ap (λ z. names_of (Some z)) (at.1) ∙ ap names_of (sym q) ∙ e in cc)
      ]

  pub made_onward : (h : PlainHeap) (o : Object Val (List ℕ)) → names_of (Some o) ≡ None → Onward h (with_made h o)
  made_onward h o none = record { stays = λ n x e. ap core (made_old h o n x e); fresh = λ m n e. inl (made_names h o none m n e) }

  pub made_comes : (h : PlainHeap) (o : Object Val (List ℕ)) → AreFine library h → names_of (Some o) ≡ None → IsFine library (with_made h o) (used h) o → Comes h (with_made h o)
  made_comes h o f none new =
      let k : PlainHeap = with_made h o in
      let on : Onward h k = made_onward h o none in
      record {
        onward = on;
        fine = record {
          cells = made_cells h o f.cells;
          fine = λ m x q. elim (made_cases h o m x q) [
            | inl old ↦ fine_on h k on library m x (x, old) (f.fine m x old)
            | inr at ↦ subst (λ z. IsFine library k z x) (sym (at.0)) (subst (IsFine library k (used h)) (at.1) new)
          ];
        };
      }

  -- the dict of a module's names is one
  module_at : (h : PlainHeap) (m n : ℕ) (o : Obj) → object h.objects m ≡ o → AreFine library h → names_of o ≡ Some n → (name : List ℕ) × (x : IsModule library h m name (Some n)) × (x.dict ≡ n)
  module_at h m n None q f e = absurd cc
  module_at h m n (Some (ListObject items room)) q f e = absurd cc
  module_at h m n (Some (TupleObject items)) q f e = absurd cc
  module_at h m n (Some (TextObject bytes)) q f e = absurd cc
  module_at h m n (Some (DictObject pairs room)) q f e = absurd cc
  module_at h m n (Some (FunctionObject name module_name code names defaults)) q f e = absurd cc
  module_at h m n (Some (ExceptionObject kind args file line name)) q f e = absurd cc
  module_at h m n (Some (MethodObject v method)) q f e = absurd cc
  module_at h m n (Some (RangeObject start stop step)) q f e = absurd cc
  module_at h m n (Some (ModuleObject name names)) q f e =
      let x : IsModule library h m name (Some n) = subst (IsModule library h m name) e (f.fine m (ModuleObject name names) q) in
      (name, x, some_is x.dict n (sym x.is))

  pub names_dict : (h : PlainHeap) (m n : ℕ) → AreFine library h → NamesOf h m n → IsA h.objects ADict n
  names_dict h m n f e = let x = module_at h m n (object h.objects m) refl f e in subst (IsA h.objects ADict) (x.2) ((x.1).is_dict)

  pub namespace_dict : (h : PlainHeap) (n : ℕ) → AreFine library h → IsNamespace h n → IsA h.objects ADict n
  namespace_dict h n f p = names_dict h (p.0) n f (p.1)

  -- an object that is no dict is plain
  pub plain_at : (h : PlainHeap) (n : ℕ) (kind : ObjectKind) → AreFine library h → IsA h.objects kind n → (kind ≡ ADict → ⊥) → IsPlain library h (At n)
  plain_at h n kind f is ne = (is_there h n kind is, λ names. ne (some_is kind ADict (sym is ∙ namespace_dict h n f names)))

  -- so is what was made
  pub made_plain : (h : PlainHeap) (o : Object Val (List ℕ)) → AreFine library h → names_of (Some o) ≡ None → IsPlain library (with_made h o) (At (used h))
  made_plain h o f none = (
    (o, made_there h o),
    λ names.
        let dict = namespace_dict h (used h) f (names.0, made_names h o none (names.0) (used h) (names.1)) in
        let never : None ≡ Some ADict = ap kind_of (sym (none_used h)) ∙ dict in
        cc,
  )

  -- an exception gets a place
  placed_core : (o : Obj) (file : List ℕ) (line : ℕ) (name : List ℕ) → core (placed o file line name) ≡ core o
  placed_core (Some (ExceptionObject kind args f l n)) file line name = refl
  placed_core _ file line name = refl

  placed_cells : (o : Obj) (file : List ℕ) (line : ℕ) (name : List ℕ) → cells_in (placed o file line name) ≤ cells_in o + 0
  placed_cells (Some (ExceptionObject kind args f l n)) file line name = omega arith
  placed_cells None file line name = omega arith
  placed_cells (Some (ListObject xs r)) file line name = omega arith
  placed_cells (Some (TupleObject xs)) file line name = omega arith
  placed_cells (Some (TextObject bytes)) file line name = omega arith
  placed_cells (Some (DictObject pairs r)) file line name = omega arith
  placed_cells (Some (FunctionObject own module_name code names defaults)) file line name = omega arith
  placed_cells (Some (MethodObject v method)) file line name = omega arith
  placed_cells (Some (RangeObject start stop step)) file line name = omega arith
  placed_cells (Some (ModuleObject own names)) file line name = omega arith

  placed_fine : (h : PlainHeap) (n : ℕ) (file : List ℕ) (line : ℕ) (name : List ℕ) (o : Obj) (x : Object Val (List ℕ)) → IsName library file → IsName library name → ((y : Object Val (List ℕ)) → o ≡ Some y → IsFine library h n y) → placed o file line name ≡ Some x → IsFine library h n x
  placed_fine h n file line name (Some (ExceptionObject kind args f l own)) x a b fine e =
      let old = fine (ExceptionObject kind args f l own) refl in
      subst (IsFine library h n) (some_is (ExceptionObject kind args file line name) x e) (record { plain = old.plain; tuple = old.tuple; file_named = a; name_named = b })
  placed_fine h n file line name _ x a b fine e = fine x e

  pub place_comes : (h : PlainHeap) (n : ℕ) (file : List ℕ) (line : ℕ) (name : List ℕ) → AreFine library h → IsName library file → IsName library name → Comes h (with_place h n file line name)
  place_comes h n file line name f a b =
      let o : Obj = placed (object h.objects n) file line name in
      let k : PlainHeap = with_place h n file line name in
      let on : Onward h k = core_onward h k (set_core h.objects n o (placed_core (object h.objects n) file line name)) in
      let sum = set_cells h.objects n o 0 (placed_cells (object h.objects n) file line name) in
      let long = length-set h.objects n o in
      let held = f.cells in
      record {
        onward = on;
        fine = record {
          cells = omega (arith, sum, long, held);
          fine = λ m x q. elim (set_cases h.objects n o m x q) [
            | inl at ↦ subst (λ z. IsFine library k z x) (sym (at.0)) (fine_on h k on library n x (placed_there (object h.objects n) x (at.1)) (placed_fine h n file line name (object h.objects n) x a b (f.fine n) (at.1)))
            | inr old ↦ fine_on h k on library m x (x, old.1) (f.fine m x (old.1))
          ];
        };
      }
    where
      placed_there : (o : Obj) (x : Object Val (List ℕ)) → placed o file line name ≡ Some x → (y : Object Val (List ℕ)) × (o ≡ Some y)
      placed_there None x e = absurd cc
      placed_there (Some y) x e = (y, refl)

  pub constant_plain : (h : PlainHeap) (v : Val) → IsConstant library v → IsPlain library h v
  constant_plain h Nil c = c
  constant_plain h (Truth b) c = c
  constant_plain h (Int z) c = c
  constant_plain h (Str bytes) c = c
  constant_plain h (Fixed items) c = c
  constant_plain h Empty c = c
  constant_plain h (Built b) c = c
  constant_plain h (At n) c = absurd c

  pub constants_plain : (h : PlainHeap) (items : Vals) → AreConstant library items → Each (IsPlain library h) (vals items)
  constants_plain h (Only v) c = (constant_plain h v c, tt)
  constants_plain h (Then v vs) c = (constant_plain h v (c.0), constants_plain h vs (c.1))

  -- what a program sees of a plain value is plain
  abbrev pub ShownIn : PlainHeap → Shown → Type 0
  ShownIn h (Tuple items) = Each (IsPlain library h) items
  ShownIn h (Items items) = Each (IsPlain library h) items
  ShownIn h (Pairs pairs) = Each (IsPair library h) pairs
  ShownIn h Nothing = Unit {0}
  ShownIn h (Number z) = Unit {0}
  ShownIn h (Text bytes) = Unit {0}
  ShownIn h (Range start stop step) = Unit {0}
  ShownIn h Other = Unit {0}

  object_in : (h : PlainHeap) (n : ℕ) (o : Object Val (List ℕ)) → IsFine library h n o → ShownIn h (shown_object (Some o))
  object_in h n (ListObject items room) f = f
  object_in h n (TupleObject items) f = f
  object_in h n (TextObject bytes) f = tt
  object_in h n (DictObject pairs room) f = f.plain
  object_in h n (FunctionObject name module_name code names defaults) f = tt
  object_in h n (ExceptionObject kind args file line name) f = tt
  object_in h n (MethodObject v method) f = tt
  object_in h n (RangeObject start stop step) f = tt
  object_in h n (ModuleObject name names) f = tt

  pub shown_in : (h : PlainHeap) (v : Val) → AreFine library h → IsPlain library h v → ShownIn h (shown h v)
  shown_in h Nil f p = tt
  shown_in h (Truth b) f p = tt
  shown_in h (Int z) f p = tt
  shown_in h (Str bytes) f p = tt
  shown_in h (Fixed items) f p = constants_plain h items (p.1)
  shown_in h Empty f p = tt
  shown_in h (Built b) f p = tt
  shown_in h (At n) f p =
      let x = p.0 in
      subst (λ o. ShownIn h (shown_object o)) (sym (x.1)) (object_in h n (x.0) (f.fine n (x.0) (x.1)))
