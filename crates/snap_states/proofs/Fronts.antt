-- What parts are on slots of these kinds, and what they can't be.
use Rattle.std.proofs.Common.{◌≡◌, ℕ, zero, suc, ◌+◌, ◌-◌, ◌<◌, ◌≤◌, Bool, true, false, ◌&&◌, List, [], ◌∷◌, ◌++◌, length, reverse, take, drop, get_or, Some, None, refl, sym, ap, subst, ◌∙◌, arith, append_assoc, length-append}
use Rattle.std.specs.Prelude.{slice_get, option_and_then, nat_eq, nat_lt, if◌then◌else◌}
use Rattle.std.proofs.lemmas.Bool.{false≢true, true≢false, eqb-true}
use Rattle.std.proofs.lemmas.List.{drop-drop, take_more, reverse-append}
use Rattle.bc_library.specs.bc_shapes.declared.kinds.Kind.{Kind}
use Rattle.bc_library.specs.bc_shapes.declared.kinds.Kind.TheVariants as kinds
use Rattle.bc_library.specs.bc_flow.Machine.{Slot, Stack, Value, NoneOrException, KeptReturn, KeptJump, Iter1, Iter2, Iter3, Iter4, Null, Method}
use Rattle.bc_library.specs.Shelf.{Shelf}
use Rattle.bc_flow.proofs.Sound.{Fit, val, none_v, none_c, none_b, ret, jump, p1, p2, p3, p4, null, method, Stands, empty, more, stands-length}
use Rattle.snap_grammar.specs.declared.parts.ValuePart.{ValuePart}
use Rattle.snap_grammar.specs.declared.parts.ValuePart.TheVariants as parts
use Rattle.snap_grammar.specs.declared.parts.SlotPart.{SlotPart}
use Rattle.snap_grammar.specs.declared.parts.SlotPart.TheVariants as slots
use Rattle.snap_grammar.specs.declared.parts.Snapshot.{Snapshot}
use Rattle.snap_states.specs.declared.slots.Front.{Front}
use Rattle.snap_states.specs.declared.slots.Front.TheVariants as fronts
use Rattle.snap_states.specs.Stacks.{Covers, both_empty, caught, slot_as}
use Rattle.snap_states.specs.States as states
use Rattle.snap_states.specs.States.{IsAt, IsPlain, IsOver, IsBound, ShowsParts}
use Rattle.snap_states.specs.Fronts.{front_slots, front_more, is_open, is_single, is_iterating, iterator_in, begins_with_value, value_in, top_in, if_left, over_of, StartOnce, IsCaught, Lies, GoesOn, IsFront, IsSlot, IsNoSlot, IsTaken, AreNone, IsLookUp, IsLowest}
use Rattle.snap_states.proofs.Told.{covers_refl, covers_append}

-- the kinds of slots
-- ==================

value_kind : (k : Kind) → Fit Value k → k ≡ kinds.Value
value_kind k val = refl

return_kind : (k : Kind) → Fit KeptReturn k → k ≡ kinds.Cause
return_kind k ret = refl

jump_kind : (t d : ℕ) (it : Bool) (k : Kind) → Fit (KeptJump t d it) k → k ≡ kinds.Cause
jump_kind t d it k jump = refl

null_kind : (k : Kind) → Fit Null k → k ≡ kinds.Null
null_kind k null = refl

not_caught_null : (k : Kind) → Fit NoneOrException k → k ≡ kinds.Null → ⊥
not_caught_null k none_v e = cc
not_caught_null k none_c e = cc
not_caught_null k none_b e = cc

method_kind : (k : Kind) → Fit Method k → k ≡ kinds.Method
method_kind k method = refl

no_method : (k : Kind) → Fit Method k → is_single k ≡ true → ⊥
no_method k method e = false≢true e

no_four : (k : Kind) → Fit Iter4 k → is_single k ≡ true → ⊥
no_four k p4 e = false≢true e

no_three : (k : Kind) → Fit Iter3 k → is_single k ≡ true → ⊥
no_three k p3 e = false≢true e

no_two : (k : Kind) → Fit Iter2 k → is_single k ≡ true → ⊥
no_two k p2 e = false≢true e

no_one : (k : Kind) → Fit Iter1 k → is_single k ≡ true → ⊥
no_one k p1 e = false≢true e

caught_fit : (k : Kind) → is_single k ≡ true → (k ≡ kinds.Null → ⊥) → Fit NoneOrException k
caught_fit kinds.Value e n = none_v
caught_fit kinds.Cause e n = none_c
caught_fit kinds.Either e n = none_b
caught_fit kinds.Null e n = absurd (n refl)
caught_fit kinds.Iter1 e n = absurd (false≢true e)
caught_fit kinds.Iter2 e n = absurd (false≢true e)
caught_fit kinds.Iter3 e n = absurd (false≢true e)
caught_fit kinds.Iter4 e n = absurd (false≢true e)
caught_fit kinds.Method e n = absurd (false≢true e)

not_iterating : (s : Slot) (k : Kind) → Fit s k → is_iterating k ≡ true → (s ≡ Value → ⊥) × (s ≡ NoneOrException → ⊥) × (s ≡ Null → ⊥) × (s ≡ Method → ⊥) × (s ≡ KeptReturn → ⊥)
not_iterating s k val e = absurd (false≢true e)
not_iterating s k none_v e = absurd (false≢true e)
not_iterating s k none_c e = absurd (false≢true e)
not_iterating s k none_b e = absurd (false≢true e)
not_iterating s k ret e = absurd (false≢true e)
not_iterating s k jump e = absurd (false≢true e)
not_iterating s k p1 e = (λ q. cc, λ q. cc, λ q. cc, λ q. cc, λ q. cc)
not_iterating s k p2 e = (λ q. cc, λ q. cc, λ q. cc, λ q. cc, λ q. cc)
not_iterating s k p3 e = (λ q. cc, λ q. cc, λ q. cc, λ q. cc, λ q. cc)
not_iterating s k p4 e = (λ q. cc, λ q. cc, λ q. cc, λ q. cc, λ q. cc)
not_iterating s k null e = absurd (false≢true e)
not_iterating s k method e = absurd (false≢true e)

no_kept : (t d : ℕ) (it : Bool) (k : Kind) → Fit (KeptJump t d it) k → is_iterating k ≡ true → ⊥
no_kept t d it k jump e = false≢true e

no_other : (k : Kind) → is_single k ≡ true → (k ≡ kinds.Value → ⊥) → (k ≡ kinds.Cause → ⊥) → (k ≡ kinds.Either → ⊥) → k ≡ kinds.Null
no_other kinds.Value e a b c = absurd (a refl)
no_other kinds.Cause e a b c = absurd (b refl)
no_other kinds.Either e a b c = absurd (c refl)
no_other kinds.Null e a b c = refl
no_other kinds.Iter1 e a b c = absurd (false≢true e)
no_other kinds.Iter2 e a b c = absurd (false≢true e)
no_other kinds.Iter3 e a b c = absurd (false≢true e)
no_other kinds.Iter4 e a b c = absurd (false≢true e)
no_other kinds.Method e a b c = absurd (false≢true e)

value_is : (p : SlotPart) (v : ValuePart) → value_in p ≡ Some v → p ≡ slots.Value v
value_is (slots.Value x) v e = let is : x ≡ v = cc in ap slots.Value is
value_is slots.Empty v e = absurd cc
value_is (slots.Iterator over at) v e = absurd cc
value_is (slots.Left count over at) v e = absurd cc
value_is (slots.Return x) v e = absurd cc
value_is (slots.Jump t d it) v e = absurd cc

-- the topmost of some parts
pub topmost_is : {A : Type 0} → (xs : List A) (n : ℕ) (x : A) → 0 < n → n ≤ length xs → x ≡ get_or xs (n - 1) x → reverse (take n xs) ≡ x ∷ reverse (take (n - 1) xs)
topmost_is xs n x some le is =
    let one : n ≡ (n - 1) + 1 = omega arith in
    ap (λ m. reverse (take m xs)) one ∙ ap reverse (take_more xs (n - 1) x (omega arith)) ∙ reverse-append (take (n - 1) xs) (get_or xs (n - 1) x ∷ []) ∙ ap (λ z. z ∷ reverse (take (n - 1) xs)) (sym is)

drop_topmost : {A : Type 0} → (xs : List A) (n m : ℕ) → n ≤ length xs → drop m (reverse (take n xs)) ≡ reverse (take (n - m) xs)
drop_topmost xs n zero le = ap (λ k. reverse (take k xs)) (let e : n ≡ n - 0 = omega arith in e)
drop_topmost xs zero (suc m) le = ap (λ k. reverse (take k xs)) (let e : 0 ≡ 0 - suc m = omega arith in e)
drop_topmost {A = A} xs (suc n) (suc m) le =
    let x = first_at xs n (omega (arith, le)) in
    ap (drop (suc m)) (topmost_is xs (suc n) x.0 (omega arith) le (x.1 ∙ ap (λ k. get_or xs k x.0) (let e : n ≡ suc n - 1 = omega arith in e)))
    ∙ ap (λ k. drop m (reverse (take k xs))) (let e : suc n - 1 ≡ n = omega arith in e)
    ∙ drop_topmost xs n m (omega (arith, le))
    ∙ ap (λ k. reverse (take k xs)) (let e : n - m ≡ suc n - suc m = omega arith in e)
  where
    first_at : (ys : List A) (k : ℕ) → k < length ys → (y : A) × (y ≡ get_or ys k y)
    first_at [] k lt = absurd (omega (arith, lt))
    first_at (y ∷ ys) zero lt = (y, refl)
    first_at (y ∷ ys) (suc k) lt = first_at ys k (omega (arith, lt))

module _ (shelf : Shelf) (s : Snapshot) (offsets : List ℕ) where
  abbrev Shows : List SlotPart → Stack → Type 0
  Shows ps st = ShowsParts shelf s offsets ps st

  abbrev Goes : Stack → List SlotPart → List Kind → Stack → Type 0
  Goes front ps ks st = GoesOn shelf s offsets front ps ks st

  lie : (ps : List SlotPart) (ks : List Kind) (st : Stack) → Shows ps st → Stands st ks → Lies shelf s offsets ps ks st
  lie ps ks st h j = record { shows = h; stands = j }

  goes : (front rest : Stack) (ps : List SlotPart) (ks : List Kind) → Shows ps rest → Stands rest ks → Goes front ps ks (front ++ rest)
  goes front rest ps ks h j = record { first = front; rest = rest; parts = refl; covers = covers_refl front; lies = lie ps ks rest h j }

  -- values
  -- ======

  caught_shows : (v : ValuePart) → IsCaught shelf s v → (ps : List SlotPart) (st : Stack) → Shows ps st → Shows (slots.Value v ∷ ps) (NoneOrException ∷ st)
  caught_shows parts.None c ps st h = states.nothing h
  caught_shows (parts.Object n) c ps st h = states.exception c h
  caught_shows parts.False c ps st h = absurd c
  caught_shows parts.True c ps st h = absurd c
  caught_shows (parts.Int z) c ps st h = absurd c
  caught_shows (parts.Str text) c ps st h = absurd c
  caught_shows (parts.Fixed m n) c ps st h = absurd c
  caught_shows parts.Empty c ps st h = absurd c
  caught_shows (parts.Named name) c ps st h = absurd c

  caught_back : (v : ValuePart) (k : Kind) (ps : List SlotPart) (ks : List Kind) (st : Stack) → is_single k ≡ true → Shows (slots.Value v ∷ ps) st → Stands st (k ∷ ks) → Goes (NoneOrException ∷ []) ps ks st
  caught_back v k ps ks st e (states.value {st = su} p h) (more f j) = record { first = Value ∷ []; rest = su; parts = refl; covers = caught both_empty; lies = lie ps ks su h j }
  caught_back v k ps ks st e (states.nothing {st = su} h) (more f j) = goes (NoneOrException ∷ []) su ps ks h j
  caught_back v k ps ks st e (states.exception {st = su} c h) (more f j) = goes (NoneOrException ∷ []) su ps ks h j
  caught_back v k ps ks st e (states.bound b h) (more f j) = absurd (no_method k f e)

  pub caught_there : (v : ValuePart) (k : Kind) → is_single k ≡ true → (k ≡ kinds.Null → ⊥) → IsCaught shelf s v → IsSlot shelf s offsets (slots.Value v) k NoneOrException
  caught_there v k e n c = record {
    front = λ ps ks. record {
      forth = λ st l. lie (slots.Value v ∷ ps) (k ∷ ks) (NoneOrException ∷ st) (caught_shows v c ps st l.shows) (more (caught_fit k e n) l.stands);
      back = λ st l. caught_back v k ps ks st e l.shows l.stands;
    };
  }

  plain_back : (v : ValuePart) (ps : List SlotPart) (ks : List Kind) (st : Stack) → (IsCaught shelf s v → ⊥) → Shows (slots.Value v ∷ ps) st → Stands st (kinds.Value ∷ ks) → Goes (Value ∷ []) ps ks st
  plain_back v ps ks st n (states.value {st = su} p h) (more f j) = goes (Value ∷ []) su ps ks h j
  plain_back v ps ks st n (states.nothing h) t = absurd (n tt)
  plain_back v ps ks st n (states.exception c h) t = absurd (n c)
  plain_back v ps ks st n (states.bound b h) (more f j) = absurd (no_method kinds.Value f refl)

  pub plain_there : (v : ValuePart) → (IsCaught shelf s v → ⊥) → IsPlain shelf s v → IsSlot shelf s offsets (slots.Value v) kinds.Value Value
  plain_there v n p = record {
    front = λ ps ks. record {
      forth = λ st l. lie (slots.Value v ∷ ps) (kinds.Value ∷ ks) (Value ∷ st) (states.value p l.shows) (more val l.stands);
      back = λ st l. plain_back v ps ks st n l.shows l.stands;
    };
  }

  no_value_at : (v : ValuePart) (k : Kind) (ps : List SlotPart) (ks : List Kind) (st : Stack) → is_single k ≡ true → (IsCaught shelf s v → ⊥) → (k ≡ kinds.Value → IsPlain shelf s v → ⊥) → Shows (slots.Value v ∷ ps) st → Stands st (k ∷ ks) → ⊥
  no_value_at v k ps ks st e n m (states.value p h) (more f j) = m (value_kind k f) p
  no_value_at v k ps ks st e n m (states.nothing h) t = n tt
  no_value_at v k ps ks st e n m (states.exception c h) t = n c
  no_value_at v k ps ks st e n m (states.bound b h) (more f j) = no_method k f e

  pub no_value : (v : ValuePart) (k : Kind) → is_single k ≡ true → (IsCaught shelf s v → ⊥) → (k ≡ kinds.Value → IsPlain shelf s v → ⊥) → IsNoSlot shelf s offsets (slots.Value v) k
  no_value v k e n m = record { none = λ ps ks st l. no_value_at v k ps ks st e n m l.shows l.stands }

  no_null_at : (v : ValuePart) (ps : List SlotPart) (ks : List Kind) (st : Stack) → Shows (slots.Value v ∷ ps) st → Stands st (kinds.Null ∷ ks) → ⊥
  no_null_at v ps ks st (states.value p h) (more f j) = elim f [ ]
  no_null_at v ps ks st (states.nothing h) (more f j) = elim f [ ]
  no_null_at v ps ks st (states.exception c h) (more f j) = elim f [ ]
  no_null_at v ps ks st (states.bound b h) (more f j) = elim f [ ]

  pub no_null : (v : ValuePart) → IsNoSlot shelf s offsets (slots.Value v) kinds.Null
  no_null v = record { none = λ ps ks st l. no_null_at v ps ks st l.shows l.stands }

  open_single : (k : Kind) → is_open k ≡ true → (is_single k ≡ true) × (k ≡ kinds.Null → ⊥) × (k ≡ kinds.Value → ⊥)
  open_single kinds.Cause e = (refl, λ q. cc, λ q. cc)
  open_single kinds.Either e = (refl, λ q. cc, λ q. cc)
  open_single kinds.Value e = absurd (false≢true e)
  open_single kinds.Null e = absurd (false≢true e)
  open_single kinds.Iter1 e = absurd (false≢true e)
  open_single kinds.Iter2 e = absurd (false≢true e)
  open_single kinds.Iter3 e = absurd (false≢true e)
  open_single kinds.Iter4 e = absurd (false≢true e)
  open_single kinds.Method e = absurd (false≢true e)

  pub open_there : (v : ValuePart) (k : Kind) → is_open k ≡ true → IsCaught shelf s v → IsSlot shelf s offsets (slots.Value v) k NoneOrException
  open_there v k e c = let o = open_single k e in caught_there v k o.0 o.1 c

  pub no_open : (v : ValuePart) (k : Kind) → is_open k ≡ true → (IsCaught shelf s v → ⊥) → IsNoSlot shelf s offsets (slots.Value v) k
  no_open v k e n = let o = open_single k e in no_value v k o.0 n (λ q p. o.2 q)

  pub not_caught_none : (v : ValuePart) (k : Kind) → is_single k ≡ true → (k ≡ kinds.Value → ⊥) → (k ≡ kinds.Cause → ⊥) → (k ≡ kinds.Either → ⊥) → IsNoSlot shelf s offsets (slots.Value v) k
  not_caught_none v k e a b c = subst (IsNoSlot shelf s offsets (slots.Value v)) (sym (no_other k e a b c)) (no_null v)

  -- other slots
  -- ===========

  return_back : (v : ValuePart) (ps : List SlotPart) (ks : List Kind) (st : Stack) → Shows (slots.Return v ∷ ps) st → Stands st (kinds.Cause ∷ ks) → Goes (KeptReturn ∷ []) ps ks st
  return_back v ps ks st (states.kept_return {st = su} p h) (more f j) = goes (KeptReturn ∷ []) su ps ks h j

  pub return_there : (v : ValuePart) → IsPlain shelf s v → IsSlot shelf s offsets (slots.Return v) kinds.Cause KeptReturn
  return_there v p = record {
    front = λ ps ks. record {
      forth = λ st l. lie (slots.Return v ∷ ps) (kinds.Cause ∷ ks) (KeptReturn ∷ st) (states.kept_return p l.shows) (more ret l.stands);
      back = λ st l. return_back v ps ks st l.shows l.stands;
    };
  }

  no_return_at : (v : ValuePart) (k : Kind) (ps : List SlotPart) (ks : List Kind) (st : Stack) → (k ≡ kinds.Cause → IsPlain shelf s v → ⊥) → Shows (slots.Return v ∷ ps) st → Stands st (k ∷ ks) → ⊥
  no_return_at v k ps ks st m (states.kept_return p h) (more f j) = m (return_kind k f) p

  pub no_return : (v : ValuePart) (k : Kind) → (k ≡ kinds.Cause → IsPlain shelf s v → ⊥) → IsNoSlot shelf s offsets (slots.Return v) k
  no_return v k m = record { none = λ ps ks st l. no_return_at v k ps ks st m l.shows l.stands }

  empty_back : (ps : List SlotPart) (ks : List Kind) (st : Stack) → Shows (slots.Empty ∷ ps) st → Stands st (kinds.Null ∷ ks) → Goes (Null ∷ []) ps ks st
  empty_back ps ks st (states.null {st = su} h) (more f j) = goes (Null ∷ []) su ps ks h j
  empty_back ps ks st (states.free p h) (more f j) = absurd (no_method kinds.Null f refl)

  pub empty_there : IsSlot shelf s offsets slots.Empty kinds.Null Null
  empty_there = record {
    front = λ ps ks. record {
      forth = λ st l. lie (slots.Empty ∷ ps) (kinds.Null ∷ ks) (Null ∷ st) (states.null l.shows) (more null l.stands);
      back = λ st l. empty_back ps ks st l.shows l.stands;
    };
  }

  no_empty_at : (k : Kind) (ps : List SlotPart) (ks : List Kind) (st : Stack) → is_single k ≡ true → (k ≡ kinds.Null → ⊥) → Shows (slots.Empty ∷ ps) st → Stands st (k ∷ ks) → ⊥
  no_empty_at k ps ks st e m (states.null h) (more f j) = m (null_kind k f)
  no_empty_at k ps ks st e m (states.free p h) (more f j) = no_method k f e

  pub no_empty : (k : Kind) → is_single k ≡ true → (k ≡ kinds.Null → ⊥) → IsNoSlot shelf s offsets slots.Empty k
  no_empty k e m = record { none = λ ps ks st l. no_empty_at k ps ks st e m l.shows l.stands }

  jump_back : (target t d : ℕ) (it : Bool) (ps : List SlotPart) (ks : List Kind) (st : Stack) → StartOnce offsets → slice_get offsets t ≡ Some target → Shows (slots.Jump target d it ∷ ps) st → Stands st (kinds.Cause ∷ ks) → Goes (KeptJump t d it ∷ []) ps ks st
  jump_back target t d it ps ks st o e (states.kept_jump {t = u} {st = su} g h) (more f j) =
      let is : t ≡ u = o t u target e g in
      record { first = KeptJump u d it ∷ []; rest = su; parts = refl; covers = subst (λ z. Covers (KeptJump t d it ∷ []) (KeptJump z d it ∷ [])) is (covers_refl (KeptJump t d it ∷ [])); lies = lie ps ks su h j }

  pub jump_there : (target t d : ℕ) (it : Bool) → StartOnce offsets → slice_get offsets t ≡ Some target → IsSlot shelf s offsets (slots.Jump target d it) kinds.Cause (KeptJump t d it)
  jump_there target t d it o e = record {
    front = λ ps ks. record {
      forth = λ st l. lie (slots.Jump target d it ∷ ps) (kinds.Cause ∷ ks) (KeptJump t d it ∷ st) (states.kept_jump e l.shows) (more jump l.stands);
      back = λ st l. jump_back target t d it ps ks st o e l.shows l.stands;
    };
  }

  no_jump_at : (target d : ℕ) (it : Bool) (k : Kind) (ps : List SlotPart) (ks : List Kind) (st : Stack) → (k ≡ kinds.Cause → (t : ℕ) → slice_get offsets t ≡ Some target → ⊥) → Shows (slots.Jump target d it ∷ ps) st → Stands st (k ∷ ks) → ⊥
  no_jump_at target d it k ps ks st m (states.kept_jump {t = u} g h) (more f j) = m (jump_kind u d it k f) u g

  pub no_jump : (target d : ℕ) (it : Bool) (k : Kind) → (k ≡ kinds.Cause → (t : ℕ) → slice_get offsets t ≡ Some target → ⊥) → IsNoSlot shelf s offsets (slots.Jump target d it) k
  no_jump target d it k m = record { none = λ ps ks st l. no_jump_at target d it k ps ks st m l.shows l.stands }

  no_whole_at : (over : ValuePart) (at : ℕ) (k : Kind) (ps : List SlotPart) (ks : List Kind) (st : Stack) → is_single k ≡ true → Shows (slots.Iterator over at ∷ ps) st → Stands st (k ∷ ks) → ⊥
  no_whole_at over at k ps ks st e (states.whole o h) (more f j) = no_four k f e

  pub no_whole : (over : ValuePart) (at : ℕ) (k : Kind) → is_single k ≡ true → IsNoSlot shelf s offsets (slots.Iterator over at) k
  no_whole over at k e = record { none = λ ps ks st l. no_whole_at over at k ps ks st e l.shows l.stands }

  no_left_at : (count : ℕ) (over : ValuePart) (at : ℕ) (part : SlotPart) (k : Kind) (ps : List SlotPart) (ks : List Kind) (st : Stack) → part ≡ slots.Left count over at → is_single k ≡ true → Shows (part ∷ ps) st → Stands st (k ∷ ks) → ⊥
  no_left_at count over at part k ps ks st is e (states.value p h) t = absurd cc
  no_left_at count over at part k ps ks st is e (states.nothing h) t = absurd cc
  no_left_at count over at part k ps ks st is e (states.exception c h) t = absurd cc
  no_left_at count over at part k ps ks st is e (states.null h) t = absurd cc
  no_left_at count over at part k ps ks st is e (states.bound b h) t = absurd cc
  no_left_at count over at part k ps ks st is e (states.free p h) t = absurd cc
  no_left_at count over at part k ps ks st is e (states.kept_return p h) t = absurd cc
  no_left_at count over at part k ps ks st is e (states.kept_jump g h) t = absurd cc
  no_left_at count over at part k ps ks st is e (states.whole o h) t = absurd cc
  no_left_at count over at part k ps ks st is e (states.three o h) (more f j) = no_three k f e
  no_left_at count over at part k ps ks st is e (states.two o h) (more f j) = no_two k f e
  no_left_at count over at part k ps ks st is e (states.one o h) (more f j) = no_one k f e

  pub no_left : (count : ℕ) (over : ValuePart) (at : ℕ) (k : Kind) → is_single k ≡ true → IsNoSlot shelf s offsets (slots.Left count over at) k
  no_left count over at k e = record { none = λ ps ks st l. no_left_at count over at (slots.Left count over at) k ps ks st refl e l.shows l.stands }

  pub single_taken : (part : SlotPart) (k : Kind) (ps : List SlotPart) (ks : List Kind) (slot : _) → IsSlot shelf s offsets part k (slot_as slot) → IsTaken shelf s offsets part ps (k ∷ ks) (fronts.One slot)
  single_taken part k ps ks slot is = record { front = is.front ps ks; long = omega arith; more = omega arith }

  pub single_none : (part : SlotPart) (k : Kind) (ps : List SlotPart) (ks : List Kind) → IsNoSlot shelf s offsets part k → AreNone shelf s offsets (part ∷ ps) (k ∷ ks)
  single_none part k ps ks is = record { none = λ st l. is.none ps ks st l }

  shows_some : (part : SlotPart) (ps : List SlotPart) (st : Stack) → Shows (part ∷ ps) st → 0 < length st
  shows_some part ps st (states.value p h) = omega arith
  shows_some part ps st (states.nothing h) = omega arith
  shows_some part ps st (states.exception c h) = omega arith
  shows_some part ps st (states.null h) = omega arith
  shows_some part ps st (states.bound b h) = omega arith
  shows_some part ps st (states.free p h) = omega arith
  shows_some part ps st (states.kept_return p h) = omega arith
  shows_some part ps st (states.kept_jump g h) = omega arith
  shows_some part ps st (states.whole o h) = omega arith
  shows_some part ps st (states.three o h) = omega arith
  shows_some part ps st (states.two o h) = omega arith
  shows_some part ps st (states.one o h) = omega arith

  pub kinds_none : (part : SlotPart) (ps : List SlotPart) → AreNone shelf s offsets (part ∷ ps) []
  kinds_none part ps = record { none = λ st l. let some = shows_some part ps st l.shows in let long = stands-length st [] l.stands in omega (arith, some, long) }

  -- iterators
  -- =========

  -- slots that begin with those of an iterator
  pub record Iterated (part : SlotPart) (ps : List SlotPart) (ks : List Kind) (st : Stack) : Type 0 where
    pub front : Front
    pub over : ValuePart
    pub in_kinds : iterator_in ks ≡ Some front
    pub of_part : over_of front part ≡ Some over
    pub fine : IsOver shelf s over
    pub goes_on : Goes (front_slots front) ps (drop (length (front_slots front)) ks) st

  pub iterated : (part : SlotPart) (ps : List SlotPart) (k : Kind) (ks : List Kind) (st : Stack) → is_iterating k ≡ true → Shows (part ∷ ps) st → Stands st (k ∷ ks) → Iterated part ps (k ∷ ks) st
  iterated part ps k ks st e (states.value p h) (more f j) = absurd ((not_iterating _ k f e).0 refl)
  iterated part ps k ks st e (states.nothing h) (more f j) = absurd ((not_iterating _ k f e).1 refl)
  iterated part ps k ks st e (states.exception c h) (more f j) = absurd ((not_iterating _ k f e).1 refl)
  iterated part ps k ks st e (states.null h) (more f j) = absurd ((not_iterating _ k f e).2 refl)
  iterated part ps k ks st e (states.bound b h) (more f j) = absurd ((not_iterating _ k f e).3 refl)
  iterated part ps k ks st e (states.free p h) (more f j) = absurd ((not_iterating _ k f e).3 refl)
  iterated part ps k ks st e (states.kept_return p h) (more f j) = absurd ((not_iterating _ k f e).4 refl)
  iterated part ps k ks st e (states.kept_jump g h) (more f j) = absurd (no_kept _ _ _ k f e)
  iterated part ps k ks st e (states.whole {over = over} {st = su} o h) (more p4 (more p3 (more p2 (more {ks = ls} p1 j)))) =
      record { front = fronts.Whole; over = over; in_kinds = refl; of_part = refl; fine = o; goes_on = goes (Iter4 ∷ Iter3 ∷ Iter2 ∷ Iter1 ∷ []) su ps ls h j }
  iterated part ps k ks st e (states.three {over = over} {st = su} o h) (more p3 (more p2 (more {ks = ls} p1 j))) =
      record { front = fronts.Three; over = over; in_kinds = refl; of_part = refl; fine = o; goes_on = goes (Iter3 ∷ Iter2 ∷ Iter1 ∷ []) su ps ls h j }
  iterated part ps k ks st e (states.two {over = over} {st = su} o h) (more p2 (more {ks = ls} p1 j)) =
      record { front = fronts.Two; over = over; in_kinds = refl; of_part = refl; fine = o; goes_on = goes (Iter2 ∷ Iter1 ∷ []) su ps ls h j }
  iterated part ps k ks st e (states.one {over = over} {st = su} o h) (more {ks = ls} p1 j) =
      record { front = fronts.Last; over = over; in_kinds = refl; of_part = refl; fine = o; goes_on = goes (Iter1 ∷ []) su ps ls h j }

  left_in : (asked count : ℕ) (x y : ValuePart) → if_left asked count x ≡ Some y → (count ≡ asked) × (x ≡ y)
  left_in asked count x y e = go (nat_lt 0 asked) (nat_eq count asked) refl e
    where
      go : (a b : Bool) → b ≡ nat_eq count asked → (if a && b then Some x else None) ≡ Some y → (count ≡ asked) × (x ≡ y)
      go true true q f = (eqb-true count asked (sym q), cc)
      go true false q f = absurd cc
      go false b q f = absurd cc

  -- the slots of an iterator that these kinds begin with
  shows_whole : (part : SlotPart) (over : ValuePart) → over_of fronts.Whole part ≡ Some over → IsOver shelf s over → (ps : List SlotPart) (st : Stack) → Shows ps st → Shows (part ∷ ps) (Iter4 ∷ Iter3 ∷ Iter2 ∷ Iter1 ∷ st)
  shows_whole (slots.Iterator x at) over e o ps st h = let is : over ≡ x = cc in states.whole (subst (IsOver shelf s) is o) h
  shows_whole (slots.Left count x at) over e o ps st h = absurd cc
  shows_whole (slots.Value v) over e o ps st h = absurd cc
  shows_whole slots.Empty over e o ps st h = absurd cc
  shows_whole (slots.Return v) over e o ps st h = absurd cc
  shows_whole (slots.Jump t d it) over e o ps st h = absurd cc

  shows_three : (part : SlotPart) (over : ValuePart) → over_of fronts.Three part ≡ Some over → IsOver shelf s over → (ps : List SlotPart) (st : Stack) → Shows ps st → Shows (part ∷ ps) (Iter3 ∷ Iter2 ∷ Iter1 ∷ st)
  shows_three (slots.Iterator x at) over e o ps st h = absurd cc
  shows_three (slots.Left count x at) over e o ps st h =
      let q = left_in 3 count x over e in
      subst (λ n. Shows (slots.Left n x at ∷ ps) (Iter3 ∷ Iter2 ∷ Iter1 ∷ st)) (sym q.0) (states.three (subst (IsOver shelf s) (sym q.1) o) h)
  shows_three (slots.Value v) over e o ps st h = absurd cc
  shows_three slots.Empty over e o ps st h = absurd cc
  shows_three (slots.Return v) over e o ps st h = absurd cc
  shows_three (slots.Jump t d it) over e o ps st h = absurd cc

  shows_two : (part : SlotPart) (over : ValuePart) → over_of fronts.Two part ≡ Some over → IsOver shelf s over → (ps : List SlotPart) (st : Stack) → Shows ps st → Shows (part ∷ ps) (Iter2 ∷ Iter1 ∷ st)
  shows_two (slots.Iterator x at) over e o ps st h = absurd cc
  shows_two (slots.Left count x at) over e o ps st h =
      let q = left_in 2 count x over e in
      subst (λ n. Shows (slots.Left n x at ∷ ps) (Iter2 ∷ Iter1 ∷ st)) (sym q.0) (states.two (subst (IsOver shelf s) (sym q.1) o) h)
  shows_two (slots.Value v) over e o ps st h = absurd cc
  shows_two slots.Empty over e o ps st h = absurd cc
  shows_two (slots.Return v) over e o ps st h = absurd cc
  shows_two (slots.Jump t d it) over e o ps st h = absurd cc

  shows_last : (part : SlotPart) (over : ValuePart) → over_of fronts.Last part ≡ Some over → IsOver shelf s over → (ps : List SlotPart) (st : Stack) → Shows ps st → Shows (part ∷ ps) (Iter1 ∷ st)
  shows_last (slots.Iterator x at) over e o ps st h = absurd cc
  shows_last (slots.Left count x at) over e o ps st h =
      let q = left_in 1 count x over e in
      subst (λ n. Shows (slots.Left n x at ∷ ps) (Iter1 ∷ st)) (sym q.0) (states.one (subst (IsOver shelf s) (sym q.1) o) h)
  shows_last (slots.Value v) over e o ps st h = absurd cc
  shows_last slots.Empty over e o ps st h = absurd cc
  shows_last (slots.Return v) over e o ps st h = absurd cc
  shows_last (slots.Jump t d it) over e o ps st h = absurd cc

  -- a front of an iterator, in kinds and as a part
  pub record Iterates (part : SlotPart) (ks : List Kind) (f : Front) : Type 0 where
    pub forth : (over : ValuePart) → over_of f part ≡ Some over → IsOver shelf s over → (ps : List SlotPart) (st : Stack) → Lies shelf s offsets ps (drop (length (front_slots f)) ks) st → Lies shelf s offsets (part ∷ ps) ks (front_slots f ++ st)
    pub long : length (front_slots f) ≤ length ks
    pub alone : front_more f ≡ 0

  some_is : (f g : Front) → Some f ≡ Some g → f ≡ g
  some_is f g e = cc

  iterates : (part : SlotPart) (ks : List Kind) (f : Front) → iterator_in ks ≡ Some f → Iterates part ks f
  iterates part (kinds.Iter4 ∷ kinds.Iter3 ∷ kinds.Iter2 ∷ kinds.Iter1 ∷ ks) f e =
      subst (Iterates part (kinds.Iter4 ∷ kinds.Iter3 ∷ kinds.Iter2 ∷ kinds.Iter1 ∷ ks)) (some_is fronts.Whole f e) (record {
        forth = λ over g o ps st l. lie (part ∷ ps) _ _ (shows_whole part over g o ps st l.shows) (more p4 (more p3 (more p2 (more p1 l.stands))));
        long = omega arith;
        alone = refl;
      })
  iterates part (kinds.Iter3 ∷ kinds.Iter2 ∷ kinds.Iter1 ∷ ks) f e =
      subst (Iterates part (kinds.Iter3 ∷ kinds.Iter2 ∷ kinds.Iter1 ∷ ks)) (some_is fronts.Three f e) (record {
        forth = λ over g o ps st l. lie (part ∷ ps) _ _ (shows_three part over g o ps st l.shows) (more p3 (more p2 (more p1 l.stands)));
        long = omega arith;
        alone = refl;
      })
  iterates part (kinds.Iter2 ∷ kinds.Iter1 ∷ ks) f e =
      subst (Iterates part (kinds.Iter2 ∷ kinds.Iter1 ∷ ks)) (some_is fronts.Two f e) (record {
        forth = λ over g o ps st l. lie (part ∷ ps) _ _ (shows_two part over g o ps st l.shows) (more p2 (more p1 l.stands));
        long = omega arith;
        alone = refl;
      })
  iterates part (kinds.Iter1 ∷ ks) f e =
      subst (Iterates part (kinds.Iter1 ∷ ks)) (some_is fronts.Last f e) (record {
        forth = λ over g o ps st l. lie (part ∷ ps) _ _ (shows_last part over g o ps st l.shows) (more p1 l.stands);
        long = omega arith;
        alone = refl;
      })
  iterates part _ f e = absurd cc

  -- what is behind an iterator goes on
  goes_same : (f g : Front) (ps : List SlotPart) (ks : List Kind) (st : Stack) → g ≡ f → Goes (front_slots g) ps (drop (length (front_slots g)) ks) st → Goes (front_slots f) ps (drop (length (front_slots f)) ks) st
  goes_same f g ps ks st e h = subst (λ z. Goes (front_slots z) ps (drop (length (front_slots z)) ks) st) e h

  pub iterator_taken : (part : SlotPart) (ps : List SlotPart) (k : Kind) (ks : List Kind) (f : Front) (over : ValuePart) → is_iterating k ≡ true → iterator_in (k ∷ ks) ≡ Some f → over_of f part ≡ Some over → IsOver shelf s over → IsTaken shelf s offsets part ps (k ∷ ks) f
  iterator_taken part ps k ks f over e i g o =
      let it = iterates part (k ∷ ks) f i in
      let same_rest : drop (front_more f) ps ≡ ps = ap (λ n. drop n ps) it.alone in
      record {
        front = record {
          forth = λ st l. it.forth over g o ps st (subst (λ z. Lies shelf s offsets z (drop (length (front_slots f)) (k ∷ ks)) st) same_rest l);
          back = λ st l. let d = iterated part ps k ks st e l.shows l.stands in
              subst (λ z. Goes (front_slots f) z (drop (length (front_slots f)) (k ∷ ks)) st) (sym same_rest) (goes_same f d.front ps (k ∷ ks) st (some_is d.front f (sym d.in_kinds ∙ i)) d.goes_on);
        };
        long = it.long;
        more = subst (λ n. n ≤ length ps) (sym it.alone) (omega arith);
      }

  pub no_iterator_in : (part : SlotPart) (ps : List SlotPart) (k : Kind) (ks : List Kind) → is_iterating k ≡ true → iterator_in (k ∷ ks) ≡ None → AreNone shelf s offsets (part ∷ ps) (k ∷ ks)
  no_iterator_in part ps k ks e n = record { none = λ st l. let d = iterated part ps k ks st e l.shows l.stands in let f : None ≡ Some d.front = sym n ∙ d.in_kinds in cc }

  some_part : (f g : Front) (part : SlotPart) (over : ValuePart) (i : List Kind) → iterator_in i ≡ Some f → iterator_in i ≡ Some g → over_of f part ≡ Some over → over_of g part ≡ Some over
  some_part f g part over i a b h = subst (λ z. over_of z part ≡ Some over) (some_is f g (sym a ∙ b)) h

  pub no_part_in : (part : SlotPart) (ps : List SlotPart) (k : Kind) (ks : List Kind) (f : Front) → is_iterating k ≡ true → iterator_in (k ∷ ks) ≡ Some f → over_of f part ≡ None → AreNone shelf s offsets (part ∷ ps) (k ∷ ks)
  no_part_in part ps k ks f e i n = record { none = λ st l. let d = iterated part ps k ks st e l.shows l.stands in let q : None ≡ Some d.over = sym n ∙ some_part d.front f part d.over (k ∷ ks) d.in_kinds i d.of_part in cc }

  pub no_over : (part : SlotPart) (ps : List SlotPart) (k : Kind) (ks : List Kind) (f : Front) (over : ValuePart) → is_iterating k ≡ true → iterator_in (k ∷ ks) ≡ Some f → over_of f part ≡ Some over → (IsOver shelf s over → ⊥) → AreNone shelf s offsets (part ∷ ps) (k ∷ ks)
  no_over part ps k ks f over e i g n = record {
    none = λ st l.
        let d = iterated part ps k ks st e l.shows l.stands in
        let q : Some d.over ≡ Some over = sym (some_part d.front f part d.over (k ∷ ks) d.in_kinds i d.of_part) ∙ g in
        let is : d.over ≡ over = cc in
        n (subst (IsOver shelf s) is d.fine);
  }

  -- look-ups
  -- ========

  -- slots that begin with those of a look-up
  pub record Looked (part : SlotPart) (ps : List SlotPart) (ks : List Kind) (st : Stack) : Type 0 where
    pub below : ValuePart
    pub kinds_behind : List Kind
    pub top : slice_get ps 0 ≡ Some (slots.Value below)
    pub kinds_are : ks ≡ kinds.Value ∷ kinds_behind
    pub look_up : IsLookUp shelf s part below
    pub goes_on : Goes (Method ∷ Value ∷ []) (drop 1 ps) kinds_behind st

  looked : (part : SlotPart) (ps : List SlotPart) (ks : List Kind) (st : Stack) → Shows (part ∷ ps) st → Stands st (kinds.Method ∷ ks) → Looked part ps ks st
  looked part ps ks st (states.value p h) (more f j) = elim f [ ]
  looked part ps ks st (states.nothing h) (more f j) = elim f [ ]
  looked part ps ks st (states.exception c h) (more f j) = elim f [ ]
  looked part ps ks st (states.null h) (more f j) = elim f [ ]
  looked part ps ks st (states.bound {name = name} {ps = qs} {st = su} b h) (more f (more {ks = ls} val j)) =
      record { below = parts.Named name; kinds_behind = ls; top = refl; kinds_are = refl; look_up = b; goes_on = goes (Method ∷ Value ∷ []) su qs ls h j }
  looked part ps ks st (states.free {v = v} {ps = qs} {st = su} p h) (more f (more {ks = ls} val j)) =
      record { below = v; kinds_behind = ls; top = refl; kinds_are = refl; look_up = p; goes_on = goes (Method ∷ Value ∷ []) su qs ls h j }
  looked part ps ks st (states.kept_return p h) (more f j) = elim f [ ]
  looked part ps ks st (states.kept_jump g h) (more f j) = elim f [ ]
  looked part ps ks st (states.whole o h) (more f j) = elim f [ ]
  looked part ps ks st (states.three o h) (more f j) = elim f [ ]
  looked part ps ks st (states.two o h) (more f j) = elim f [ ]
  looked part ps ks st (states.one o h) (more f j) = elim f [ ]

  look_up_shows : (part : SlotPart) (v : ValuePart) (ps : List SlotPart) (st : Stack) → IsLookUp shelf s part v → Shows ps st → Shows (part ∷ slots.Value v ∷ ps) (Method ∷ Value ∷ st)
  look_up_shows (slots.Value o) (parts.Named name) ps st b h = states.bound b h
  look_up_shows slots.Empty v ps st p h = states.free p h
  look_up_shows _ v ps st b h = absurd b

  method_at : (part : SlotPart) (v : ValuePart) (p : SlotPart) (ps : List SlotPart) (ks : List Kind) → p ≡ slots.Value v → IsLookUp shelf s part v → IsTaken shelf s offsets part (p ∷ ps) (kinds.Method ∷ kinds.Value ∷ ks) fronts.Method
  method_at part v p ps ks is l = record {
    front = record {
      forth = λ st i. lie (part ∷ p ∷ ps) (kinds.Method ∷ kinds.Value ∷ ks) (Method ∷ Value ∷ st) (subst (λ z. Shows (part ∷ z ∷ ps) (Method ∷ Value ∷ st)) (sym is) (look_up_shows part v ps st l i.shows)) (more method (more val i.stands));
      back = λ st i. let d = looked part (p ∷ ps) (kinds.Value ∷ ks) st i.shows i.stands in
          subst (λ z. Goes (Method ∷ Value ∷ []) ps z st) (same_behind d.kinds_behind d.kinds_are) d.goes_on;
    };
    long = omega arith;
    more = omega arith;
  }
    where
      same_behind : (ls : List Kind) → kinds.Value ∷ ks ≡ kinds.Value ∷ ls → ls ≡ ks
      same_behind ls q = cc

  pub method_taken : (part : SlotPart) (v : ValuePart) (ps : List SlotPart) (ks : List Kind) → begins_with_value ks ≡ true → top_in ps ≡ Some v → IsLookUp shelf s part v → IsTaken shelf s offsets part ps (kinds.Method ∷ ks) fronts.Method
  method_taken part v [] ks b e l = absurd cc
  method_taken part v (p ∷ ps) (kinds.Value ∷ ks) b e l = method_at part v p ps ks (value_is p v e) l
  method_taken part v (p ∷ ps) _ b e l = absurd (false≢true b)

  pub no_kind_below : (part : SlotPart) (ps : List SlotPart) (ks : List Kind) → begins_with_value ks ≡ false → AreNone shelf s offsets (part ∷ ps) (kinds.Method ∷ ks)
  no_kind_below part ps ks n = record { none = λ st l. let d = looked part ps ks st l.shows l.stands in true≢false (ap begins_with_value (sym d.kinds_are) ∙ n) }

  pub no_value_below : (part : SlotPart) (ps : List SlotPart) (ks : List Kind) → top_in ps ≡ None → AreNone shelf s offsets (part ∷ ps) (kinds.Method ∷ ks)
  no_value_below part ps ks n = record { none = λ st l. let d = looked part ps ks st l.shows l.stands in let q : Some d.below ≡ None = ap (option_and_then value_in) (sym d.top) ∙ n in cc }

  pub no_look_up : (part : SlotPart) (v : ValuePart) (ps : List SlotPart) (ks : List Kind) → top_in ps ≡ Some v → (IsLookUp shelf s part v → ⊥) → AreNone shelf s offsets (part ∷ ps) (kinds.Method ∷ ks)
  no_look_up part v ps ks e n = record {
    none = λ st l.
        let d = looked part ps ks st l.shows l.stands in
        let q : Some d.below ≡ Some v = ap (option_and_then value_in) (sym d.top) ∙ e in
        let is : d.below ≡ v = cc in
        n (subst (IsLookUp shelf s part) is d.look_up);
  }

  -- one after another
  -- =================

  pub front_none : (ps : List SlotPart) (ks : List Kind) → IsFront shelf s offsets ps ks [] ps ks
  front_none ps ks = record { forth = λ st l. l; back = λ st l. record { first = []; rest = st; parts = refl; covers = both_empty; lies = l } }

  front_then : (ps qs rs : List SlotPart) (ks ls ms : List Kind) (f g : Stack) → IsFront shelf s offsets ps ks f qs ls → IsFront shelf s offsets qs ls g rs ms → IsFront shelf s offsets ps ks (f ++ g) rs ms
  front_then ps qs rs ks ls ms f g a b = record { forth = on; back = off }
    where
      on : (st : Stack) → Lies shelf s offsets rs ms st → Lies shelf s offsets ps ks ((f ++ g) ++ st)
      on st l = subst (Lies shelf s offsets ps ks) (sym (append_assoc f g st)) (a.forth (g ++ st) (b.forth st l))

      off : (st : Stack) → Lies shelf s offsets ps ks st → Goes (f ++ g) rs ms st
      off st l =
          let x = a.back st l in
          let y = b.back x.rest x.lies in
          record {
            first = x.first ++ y.first;
            rest = y.rest;
            parts = x.parts ∙ (ap (λ z. x.first ++ z) y.parts ∙ sym (append_assoc x.first y.first y.rest));
            covers = covers_append f x.first g y.first x.covers y.covers;
            lies = y.lies;
          }

  -- all are slots
  pub all_taken : (ps : List SlotPart) (ks : List Kind) (st : Stack) → IsFront shelf s offsets ps ks st [] [] → IsLowest shelf s offsets ps ks st
  all_taken ps ks st f = record {
    lies = subst (Lies shelf s offsets ps ks) (append_nil st) (f.forth [] (lie [] [] [] states.none empty));
    covers = λ su l. let g = f.back su l in subst (Covers st) (sym (g.parts ∙ (ap (λ z. g.first ++ z) (rest_none g.rest g.lies.shows) ∙ append_nil g.first))) g.covers;
  }
    where
      append_nil : (xs : Stack) → xs ++ [] ≡ xs
      append_nil [] = refl
      append_nil (x ∷ xs) = ap (λ z. x ∷ z) (append_nil xs)

      rest_none : (xs : Stack) → Shows [] xs → xs ≡ []
      rest_none xs states.none = refl

  pub kinds_left : (ps : List SlotPart) (ks : List Kind) (st : Stack) (ls : List Kind) → 0 < length ls → IsFront shelf s offsets ps ks st [] ls → AreNone shelf s offsets ps ks
  kinds_left ps ks st ls some f = record { none = λ su l. let g = f.back su l in over g.rest g.lies.shows (stands-length g.rest ls g.lies.stands) }
    where
      over : (xs : Stack) → Shows [] xs → length xs ≡ length ls → ⊥
      over xs states.none e = omega (arith, e, some)

  pub front_stops : (ps qs : List SlotPart) (ks ls : List Kind) (st : Stack) → IsFront shelf s offsets ps ks st qs ls → AreNone shelf s offsets qs ls → AreNone shelf s offsets ps ks
  front_stops ps qs ks ls st f n = record { none = λ su l. let g = f.back su l in n.none g.rest g.lies }

  -- the next of some parts, of which `left` are left
  pub front_next : (parts : List SlotPart) (ks : List Kind) (st : Stack) (left : ℕ) (part : SlotPart) (f : Front) → IsFront shelf s offsets (reverse parts) ks st (reverse (take left parts)) (drop (length st) ks)
      → 0 < left → left ≤ length parts → part ≡ get_or parts (left - 1) part → IsTaken shelf s offsets part (reverse (take (left - 1) parts)) (drop (length st) ks) f
      → IsFront shelf s offsets (reverse parts) ks (st ++ front_slots f) (reverse (take (left - 1 - front_more f) parts)) (drop (length (st ++ front_slots f)) ks)
  front_next parts ks st left part f before some le is t =
      let at_left : reverse (take left parts) ≡ part ∷ reverse (take (left - 1) parts) = topmost_is parts left part some le is in
      let behind : drop (front_more f) (reverse (take (left - 1) parts)) ≡ reverse (take (left - 1 - front_more f) parts) = drop_topmost parts (left - 1) (front_more f) (omega (arith, le)) in
      let kinds_behind : drop (length (front_slots f)) (drop (length st) ks) ≡ drop (length (st ++ front_slots f)) ks = drop-drop (length (front_slots f)) (length st) ks ∙ ap (λ n. drop n ks) (sym (length-append st (front_slots f))) in
      let first = subst (λ z. IsFront shelf s offsets (reverse parts) ks st z (drop (length st) ks)) at_left before in
      let next = subst (λ z. IsFront shelf s offsets (part ∷ reverse (take (left - 1) parts)) (drop (length st) ks) (front_slots f) (reverse (take (left - 1 - front_more f) parts)) z) kinds_behind
      (subst (λ z. IsFront shelf s offsets (part ∷ reverse (take (left - 1) parts)) (drop (length st) ks) (front_slots f) z (drop (length (front_slots f)) (drop (length st) ks))) behind t.front) in
      front_then (reverse parts) (part ∷ reverse (take (left - 1) parts)) (reverse (take (left - 1 - front_more f) parts)) ks (drop (length st) ks) (drop (length (st ++ front_slots f)) ks) st (front_slots f) first next
