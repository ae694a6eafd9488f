-- Outcomes are put together of plain values, and what is made is fine.
use Rattle.std.proofs.Common.{◌≡◌, inl, ℕ, zero, suc, List, [], ◌∷◌, length, replicate, Bool, true, false, cond, Option, Some, None, Result, Ok, Err, refl, sym, ap, ◌∙◌, subst}
use Rattle.std.specs.Prelude.{IsSome, is_some, pos}
use Rattle.std.specs.List.{AllByRecursion as Each}
use Rattle.std.proofs.lemmas.List.{length-replicate}
use Rattle.bc_progress.specs.bc_machine.Library.{Library}
use Rattle.bc_progress.specs.mpy_base.declared.kind.Kind.{Kind}
use Rattle.bc_progress.specs.mpy_base.World.{Object, ListObject, TupleObject, TextObject, DictObject, ExceptionObject, AList, AnException, object, names_of, kind_of, IsA, room_at, with_list, with_tuple}
use Rattle.bc_progress.specs.mpy_base.Weights.{used, cells_of, bytes_of, does_fit, with_made, room_for}
use Rattle.bc_progress.specs.mpy_base.Val.{Val, Nil, Int, At}
use Rattle.bc_progress.specs.py_values.Shown.{PlainHeap, shown_object}
use Rattle.bc_progress.specs.py_values.Equality.{Walk}
use Rattle.bc_progress.specs.py_primitives.Faults.{Fault, NoKey, PortFailed, fault_kind, fault_value, fault_text}
use Rattle.bc_progress.specs.py_primitives.Outcome.{Stop, Raises, Full, Outcome, gives, is_full, go_on_with, followed_by, after_answer, after_walk, making, making_text, making_tuple, making_list, making_texts, list_of, tuple_of, making_exception, fault_argument, making_fault}
use Rattle.bc_progress.proofs.Knowing.{made_there}
use Rattle.snap_kept.specs.Texts.{IsName}
use Rattle.snap_kept.specs.Values.{count_shown, count_of, IsPlain, IsFine, AreFine}
use Rattle.snap_kept.proofs.Onward.{core, Onward, kind_on, there_on, plain_on, plains_on, count_on}
use Rattle.snap_kept.proofs.Changes.{Comes, comes_same, comes_on, set_comes, list_same, tuple_same, is_there, made_onward, made_comes, made_plain}
use Rattle.snap_kept.proofs.Lists.{each_replicate}

module _ (library : Library) where
  abbrev pub Plains : PlainHeap → List Val → Type 0
  Plains h vs = Each (IsPlain library h) vs

  -- as many plain values
  abbrev pub Counted : ℕ → PlainHeap → List Val → Type 0
  Counted count h vs = Plains h vs × (length vs ≡ count)

  -- the value in a fault is plain
  abbrev pub FaultIn : PlainHeap → Fault → Type 0
  FaultIn h (NoKey key) = IsPlain library h key
  FaultIn h fault = Unit {0}

  -- where it doesn't want for room, the heap goes on to a fine one, and the answer is good in it
  abbrev pub AnswerIn : {A : Type 0} → (PlainHeap → A → Type 0) → PlainHeap → PlainHeap → Result A Stop → Type 0
  AnswerIn In h k (Ok a) = Comes library h k × In k a
  AnswerIn In h k (Err (Raises fault)) = Comes library h k × FaultIn k fault
  AnswerIn In h k (Err (Full room)) = Unit {0}

  abbrev pub IsIn : {A : Type 0} → (PlainHeap → A → Type 0) → PlainHeap → Outcome A → Type 0
  IsIn In h o = AnswerIn In h o.heap o.answer

  pub fault_on : (h k : PlainHeap) → Onward h k → (fault : Fault) → FaultIn h fault → FaultIn k fault
  fault_on h k on (NoKey key) p = plain_on h k on library key p
  fault_on h k on _ p = p

  pub onto : {A : Type 0} (In : PlainHeap → A → Type 0) (a b k : PlainHeap) (r : Result A Stop) → Comes library a b → AnswerIn In b k r → AnswerIn In a k r
  onto In a b k (Ok x) c p = (comes_on library a b k c (p.0), p.1)
  onto In a b k (Err (Raises fault)) c p = (comes_on library a b k c (p.0), p.1)
  onto In a b k (Err (Full room)) c p = tt

  pub answer_map : {A : Type 0} (In Out : PlainHeap → A → Type 0) (h k : PlainHeap) (r : Result A Stop) → ((a : A) → Comes library h k → In k a → Out k a) → AnswerIn In h k r → AnswerIn Out h k r
  answer_map In Out h k (Ok x) f p = (p.0, f x (p.0) (p.1))
  answer_map In Out h k (Err (Raises fault)) f p = p
  answer_map In Out h k (Err (Full room)) f p = tt

  pub either : {A : Type 0} (In : PlainHeap → A → Type 0) (h : PlainHeap) (b : Bool) (x y : Outcome A) → (b ≡ true → IsIn In h x) → IsIn In h y → IsIn In h (cond b x y)
  either In h true x y p q = p refl
  either In h false x y p q = q

  gone : {A B : Type 0} (In : PlainHeap → A → Type 0) (Out : PlainHeap → B → Type 0) (h k : PlainHeap) (r : Result A Stop) (n : ℕ) (next : A → PlainHeap → Outcome B) → AnswerIn In h k r → ((a : A) → Comes library h k → In k a → IsIn Out k (next a k)) → IsIn Out h (go_on_with r k n next)
  gone In Out h k (Ok a) n next p on = onto Out h k (next a k).heap (next a k).answer (p.0) (on a (p.0) (p.1))
  gone In Out h k (Err (Raises fault)) n next p on = p
  gone In Out h k (Err (Full room)) n next p on = tt

  -- one outcome behind another
  pub followed : {A B : Type 0} (In : PlainHeap → A → Type 0) (Out : PlainHeap → B → Type 0) (h : PlainHeap) (first : Outcome A) (next : A → PlainHeap → Outcome B) → IsIn In h first → ((a : A) → Comes library h first.heap → In first.heap a → IsIn Out first.heap (next a first.heap)) → IsIn Out h (followed_by first next)
  followed In Out h first next p on = gone In Out h first.heap first.answer first.visits next p on

  answered : {A B : Type 0} (In : PlainHeap → B → Type 0) (h : PlainHeap) (o : Option A) (next : A → Outcome B) → AreFine library h → ((a : A) → o ≡ Some a → IsIn In h (next a)) → IsIn In h (after_answer o h next)
  answered In h (Some a) next f on = on a refl
  answered In h None next f on = (comes_same library h f, tt)

  -- what comes behind a walk
  pub walked : {A B : Type 0} (In : PlainHeap → B → Type 0) (h : PlainHeap) (walk : Walk A) (next : A → Outcome B) → AreFine library h → ((a : A) → walk.answer ≡ Some a → IsIn In h (next a)) → IsIn In h (after_walk h walk next)
  walked In h walk next f on = answered In h walk.answer next f on

  -- makings
  -- =======

  -- what was made is where it is, and plain
  abbrev pub IsNew : PlainHeap → Object Val (List ℕ) → PlainHeap → Val → Type 0
  IsNew h o k v = IsPlain library k v × (v ≡ At (used h)) × (object k.objects (used h) ≡ Some o)

  pub made_in : (h : PlainHeap) (o : Object Val (List ℕ)) → AreFine library h → names_of (Some o) ≡ None → IsFine library (with_made h o) (used h) o → IsIn (IsNew h o) h (making h o)
  made_in h o f none new =
      either (IsNew h o) h (does_fit h (cells_of o) (bytes_of o)) (gives (At (used h)) (with_made h o)) (is_full h (cells_of o) (bytes_of o))
      (λ e. (made_comes library h o f none new, (made_plain library h o f none, refl, made_there h o))) tt

  pub making_in : (h : PlainHeap) (o : Object Val (List ℕ)) → AreFine library h → names_of (Some o) ≡ None → IsFine library (with_made h o) (used h) o → IsIn (IsPlain library) h (making h o)
  making_in h o f none new = answer_map (IsNew h o) (IsPlain library) h (making h o).heap (making h o).answer (λ a c p. p.0) (made_in h o f none new)

  pub text_in : (h : PlainHeap) (bytes : List ℕ) → AreFine library h → IsIn (IsPlain library) h (making_text h bytes)
  text_in h [] f = (comes_same library h f, inl IsName.nameless)
  text_in h (byte ∷ bytes) f = making_in h (TextObject (byte ∷ bytes)) f refl tt

  -- a tuple, of which the items are counted
  abbrev pub IsTuple : PlainHeap → Val → Type 0
  IsTuple h v = IsPlain library h v × IsSome (count_of h v)

  pub tuple_made : (h : PlainHeap) (vs : List Val) → AreFine library h → Plains h vs → IsIn IsTuple h (making_tuple h vs)
  tuple_made h [] f p = (comes_same library h f, (tt, refl))
  tuple_made h (v ∷ vs) f p =
      let o = TupleObject (v ∷ vs) in
      let new : IsFine library (with_made h o) (used h) o = plains_on h (with_made h o) (made_onward library h o refl) library (v ∷ vs) p in
      answer_map (IsNew h o) IsTuple h (making h o).heap (making h o).answer
      (λ a c q. (q.0, subst (λ z. IsSome (count_of (making h o).heap z)) (sym (q.1)) (ap (λ z. is_some (count_shown (shown_object z))) (q.2))))
      (made_in h o f refl new)

  pub tuple_in : (h : PlainHeap) (vs : List Val) → AreFine library h → Plains h vs → IsIn (IsPlain library) h (making_tuple h vs)
  tuple_in h vs f p = answer_map IsTuple (IsPlain library) h (making_tuple h vs).heap (making_tuple h vs).answer (λ a c q. q.0) (tuple_made h vs f p)

  pub list_in : (h : PlainHeap) (vs : List Val) → AreFine library h → Plains h vs → IsIn (IsPlain library) h (making_list h vs)
  list_in h vs f p =
      let o = ListObject vs (room_for (length vs)) in
      making_in h o f refl (plains_on h (with_made h o) (made_onward library h o refl) library vs p)

  pub dict_in : (h : PlainHeap) (room : ℕ) → AreFine library h → IsIn (IsPlain library) h (making h (DictObject [] room))
  dict_in h room f = making_in h (DictObject [] room) f refl (record { plain = tt; differ = tt; named = λ names. tt })

  -- one value in front of others
  pub one_before : (count : ℕ) (h : PlainHeap) (o : Outcome Val) (others : PlainHeap → Outcome (List Val)) → IsIn (IsPlain library) h o → ((k : PlainHeap) → Comes library h k → IsIn (Counted count) k (others k))
      → IsIn (Counted (suc count)) h (followed_by o (λ v behind. followed_by (others behind) (λ vs last. gives (v ∷ vs) last)))
  one_before count h o others p on =
      followed (IsPlain library) (Counted (suc count)) h o (λ v behind. followed_by (others behind) (λ vs last. gives (v ∷ vs) last)) p (λ v c q.
      followed (Counted count) (Counted (suc count)) o.heap (others o.heap) (λ vs last. gives (v ∷ vs) last) (on o.heap c) (λ vs d r.
      (comes_same library (others o.heap).heap d.fine, ((plain_on o.heap (others o.heap).heap d.onward library v q, r.0), ap suc (r.1)))))

  pub texts_in : (h : PlainHeap) (texts : List (List ℕ)) → AreFine library h → IsIn (Counted (length texts)) h (making_texts h texts)
  texts_in h [] f = (comes_same library h f, (tt, refl))
  texts_in h (text ∷ texts) f = one_before (length texts) h (making_text h text) (λ behind. making_texts behind texts) (text_in h text f) (λ k c. texts_in k texts c.fine)

  pub list_of_in : (h : PlainHeap) (count : ℕ) (kept : PlainHeap → Outcome (List Val)) → AreFine library h → ((k : PlainHeap) → Comes library h k → IsIn Plains k (kept k)) → IsIn (IsPlain library) h (list_of h count kept)
  list_of_in h count kept f on =
      let o = ListObject [] (room_for count) in
      let first = making h o in
      followed (IsNew h o) (IsPlain library) h first (λ made behind. followed_by (kept behind) (λ items last. gives made (with_list last (used h) items))) (made_in h o f refl tt) (λ made c p.
      followed Plains (IsPlain library) first.heap (kept first.heap) (λ items last. gives made (with_list last (used h) items)) (on first.heap c) (λ items d q.
      let k = (kept first.heap).heap in
      let is : IsA k.objects AList (used h) = kind_on first.heap k d.onward (used h) AList (ap kind_of (p.2)) in
      let last = set_comes library k (used h) (ListObject items (room_at k (used h))) d.fine (is_there library k (used h) AList is) (list_same library k (used h) items is) q in
      (last, plain_on k (with_list k (used h) items) last.onward library made (plain_on first.heap k d.onward library made (p.0)))))

  pub tuple_of_in : (h : PlainHeap) (count : ℕ) (kept : PlainHeap → Outcome (List Val)) → AreFine library h → ((k : PlainHeap) → Comes library h k → IsIn (Counted count) k (kept k)) → IsIn (IsPlain library) h (tuple_of h count kept)
  tuple_of_in h zero kept f on = (comes_same library h f, tt)
  tuple_of_in h (suc count) kept f on =
      let nils : List Val = replicate (suc count) Nil in
      let o = TupleObject nils in
      let first = making h o in
      followed (IsNew h o) (IsPlain library) h first (λ made behind. followed_by (kept behind) (λ items last. gives made (with_tuple last (used h) items))) (made_in h o f refl (each_replicate (IsPlain library (with_made h o)) (suc count) Nil tt)) (λ made c p.
      followed (Counted (suc count)) (IsPlain library) first.heap (kept first.heap) (λ items last. gives made (with_tuple last (used h) items)) (on first.heap c) (λ items d q.
      let k = (kept first.heap).heap in
      let stays : core (object k.objects (used h)) ≡ core (Some o) = d.onward.stays (used h) o (p.2) in
      let long : length items ≡ length nils = q.1 ∙ sym (length-replicate (suc count) Nil) in
      let there = there_on first.heap k d.onward (used h) (o, p.2) in
      let last = set_comes library k (used h) (TupleObject items) d.fine there (tuple_same library k (used h) (length nils) items stays long) (q.0) in
      (last, plain_on k (with_tuple k (used h) items) last.onward library made (plain_on first.heap k d.onward library made (p.0)))))

  -- exceptions
  abbrev pub IsRaised : PlainHeap → Val → Type 0
  IsRaised h v = (x : ℕ) × (v ≡ At x) × IsA h.objects AnException x × IsPlain library h v

  pub exception_made : (h : PlainHeap) (kind : Kind) (args : Val) → AreFine library h → IsTuple h args → IsIn IsRaised h (making h (ExceptionObject kind args [] 0 []))
  exception_made h kind args f p =
      let o = ExceptionObject kind args [] 0 [] in
      let k = with_made h o in
      let on = made_onward library h o refl in
      let new : IsFine library k (used h) o = record { plain = plain_on h k on library args (p.0); tuple = ap is_some (count_on h k on library args (p.0)) ∙ p.1; file_named = IsName.nameless; name_named = IsName.nameless } in
      answer_map (IsNew h o) IsRaised h (making h o).heap (making h o).answer (λ a c q. (used h, q.1, ap kind_of (q.2), q.0)) (made_in h o f refl new)

  pub exception_in : (h : PlainHeap) (kind : Kind) (items : List Val) → AreFine library h → Plains h items → IsIn IsRaised h (making_exception h kind items)
  exception_in h kind items f p =
      let first = making_tuple h items in
      followed IsTuple IsRaised h first (λ args behind. making behind (ExceptionObject kind args [] 0 [])) (tuple_made h items f p) (λ args c q. exception_made first.heap kind args c.fine q)

  value_in : (h : PlainHeap) (fault : Fault) (v : Val) → FaultIn h fault → fault_value fault ≡ Some v → IsPlain library h v
  value_in h (NoKey key) v p e = let same : key ≡ v = cc in subst (IsPlain library h) same p
  value_in h PortFailed v p e = let same : Int (pos 5) ≡ v = cc in subst (IsPlain library h) same tt
  value_in h _ v p e = absurd cc

  argument_by : (h : PlainHeap) (fault : Fault) (o : Option Val) → AreFine library h → FaultIn h fault → fault_value fault ≡ o → IsIn (IsPlain library) h (fault_argument h fault o)
  argument_by h fault (Some v) f p e = (comes_same library h f, value_in h fault v p e)
  argument_by h fault None f p e = text_in h (fault_text fault) f

  pub fault_in : (h : PlainHeap) (fault : Fault) → AreFine library h → FaultIn h fault → IsIn IsRaised h (making_fault h fault)
  fault_in h fault f p =
      let first = fault_argument h fault (fault_value fault) in
      followed (IsPlain library) IsRaised h first (λ v behind. making_exception behind (fault_kind fault) (v ∷ [])) (argument_by h fault (fault_value fault) f p refl) (λ v c q. exception_in first.heap (fault_kind fault) (v ∷ []) c.fine (q, tt))
