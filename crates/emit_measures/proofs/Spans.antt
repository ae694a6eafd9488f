-- What the lines of a code come to, from one position to another.
use Rattle.std.proofs.Common.{◌≡◌, ℕ, zero, suc, ◌+◌, ◌<◌, ◌≤◌, Bool, true, false, List, [], ◌∷◌, ◌++◌, length, take, Option, Some, None, refl, ap, subst, arith, if◌then◌else◌}
use Rattle.std.specs.Prelude.{max, nat_lt, nat_eq, bytes_eq, slice_get}
use Rattle.std.proofs.lemmas.List.Quantifiers.{position-Some}
use Rattle.bc_scheme.specs.bc_ops.declared.instr.Op.TheVariants as ops
use Rattle.bc_scheme.specs.bc_machine.Library.{Name, Item, Line}
use Rattle.bc_scheme.specs.Context.{Context, Has, Behind, line_before, number, slot_of, loads, stores, deletes, load_by, store_by, delete_by}
use Rattle.emit_measures.specs.Wide.{wide_item, wide_length}
use Rattle.emit_measures.specs.Named.{local_in, locals_in}
use Rattle.emit_measures.specs.Lengths.{slot_length, name_length}

-- ---- one line more

got : {A : Type 0} → (x y : A) → Some x ≡ Some y → x ≡ y
got x y e = cc

pub wide_more : (lines : List Line) (p : ℕ) (l : Line) → slice_get lines p ≡ Some l → wide_length (take (suc p) lines) ≡ wide_length (take p lines) + wide_item l.item
wide_more [] p l e = cc
wide_more (x ∷ lines) zero l e = let same : wide_item x.item ≡ wide_item l.item = ap (λ (z : Line). wide_item z.item) (got x l e) in omega (arith, same)
wide_more (x ∷ lines) (suc p) l e = let h = wide_more lines p l e in omega (arith, h)

pub named_more : (lines : List Line) (p : ℕ) (l : Line) → slice_get lines p ≡ Some l → locals_in 0 (take (suc p) lines) ≡ max (locals_in 0 (take p lines)) (local_in l.item)
named_more [] p l e = cc
named_more (x ∷ lines) zero l e = let same : local_in x.item ≡ local_in l.item = ap (λ (z : Line). local_in z.item) (got x l e) in omega (arith, same)
named_more (x ∷ lines) (suc p) l e = let h = named_more lines p l e in omega (arith, h)

module _ (c : Context) where
  -- up to a position: the bytes, and one more than the greatest local that is named
  abbrev pub bytes_to : ℕ → ℕ
  bytes_to p = wide_length (take p c.lines)

  abbrev pub named_to : ℕ → ℕ
  named_to p = locals_in 0 (take p c.lines)

  -- those of the names that are local are named below
  abbrev pub AllNamed : List Name → ℕ → Type 0
  AllNamed [] below = Unit {0}
  AllNamed (name ∷ names) below = ((slot : ℕ) → slot_of c name ≡ Some slot → slot < below) × AllNamed names below

  pub named_on : (names : List Name) (a b : ℕ) → a ≤ b → AllNamed names a → AllNamed names b
  named_on [] a b h n = tt
  named_on (name ∷ names) a b h n = ((λ slot e. let l = n.0 slot e in omega arith), named_on names a b h n.1)

  pub named_both : (xs ys : List Name) (below : ℕ) → AllNamed xs below → AllNamed ys below → AllNamed (xs ++ ys) below
  named_both [] ys below n m = m
  named_both (x ∷ xs) ys below n m = (n.0, named_both xs ys below n.1 m)

module _ (c : Context) (sure : Type 0) where
  -- the lines from p up to q have `bytes` bytes, name no local that isn't there, and name each of the names that is local,
  -- where that is sure
  pub record Spans (p q bytes : ℕ) (names : List Name) : Type 0 where
    pub wide : bytes_to c q ≡ bytes_to c p + bytes
    pub grows : named_to c p ≤ named_to c q
    pub within : named_to c p ≤ length c.locals → named_to c q ≤ length c.locals
    pub named : sure → AllNamed c names (named_to c q)

  pub none_span : (p : ℕ) → Spans p p 0 []
  none_span p = record { wide = let n = bytes_to c p in omega arith; grows = let n = named_to c p in omega arith; within = λ h. h; named = λ k. tt }

  pub then_span : {p m q a b : ℕ} {xs ys : List Name} → Spans p m a xs → Spans m q b ys → Spans p q (a + b) (xs ++ ys)
  then_span {xs = xs} {ys = ys} s t = record {
    wide = let e = s.wide in let f = t.wide in omega (arith, e, f);
    grows = let e = s.grows in let f = t.grows in omega (arith, e, f);
    within = λ h. t.within (s.within h);
    named = λ k. named_both c xs ys _ (named_on c xs _ _ t.grows (s.named k)) (t.named k);
  }

  -- parts that bind no name
  pub also_span : {p m q a b : ℕ} {xs : List Name} → Spans p m a xs → Spans m q b [] → Spans p q (a + b) xs
  also_span {xs = xs} s t = record {
    wide = let e = s.wide in let f = t.wide in omega (arith, e, f);
    grows = let e = s.grows in let f = t.grows in omega (arith, e, f);
    within = λ h. t.within (s.within h);
    named = λ k. named_on c xs _ _ t.grows (s.named k);
  }

  pub as_span : {p q a : ℕ} {xs : List Name} (b : ℕ) → a ≡ b → Spans p q a xs → Spans p q b xs
  as_span {p = p} {q = q} {xs = xs} b e s = subst (λ n. Spans p q n xs) e s

  pub as_names : {p q a : ℕ} {xs : List Name} (ys : List Name) → (sure → xs ≡ ys) → Spans p q a xs → Spans p q a ys
  as_names {q = q} ys e s = record { wide = s.wide; grows = s.grows; within = s.within; named = λ k. subst (λ (names : List Name). AllNamed c names (named_to c q)) (e k) (s.named k) }

  -- ---- one instruction

  -- its local is there
  pub one_span : (p line : ℕ) (item : Item) (bytes : ℕ) → slice_get c.lines p ≡ Some (record { item = item; line = line }) → wide_item item ≡ bytes → local_in item ≤ length c.locals → Spans p (suc p) bytes []
  one_span p line item bytes e w l =
      let x : Line = record { item = item; line = line } in
      let wide = wide_more c.lines p x e in
      let named = named_more c.lines p x e in
      record {
        wide = omega (arith, wide, w);
        grows = omega (arith, named);
        within = λ h. omega (arith, named, l, h);
        named = λ k. tt;
      }

  -- it names none
  pub has_span : (p line : ℕ) (item : Item) (bytes : ℕ) → wide_item item ≡ bytes → local_in item ≡ 0 → Has c line p item → Spans p (suc p) bytes []
  has_span p line item bytes w n h = one_span p (if nat_eq c.level 3 then 1 else line) item bytes h w (let k = length c.locals in omega (arith, n))

  pub behind_span : (p : ℕ) (item : Item) (bytes : ℕ) → wide_item item ≡ bytes → local_in item ≡ 0 → Behind c p item → Spans p (suc p) bytes []
  behind_span p item bytes w n h = one_span p (line_before c.lines p) item bytes h w (let k = length c.locals in omega (arith, n))

  -- ---- names

  -- what an instruction of a name comes to, by the name's slot
  pub record IsOf (o : Option ℕ) (item : Item) (bytes : ℕ) : Type 0 where
    pub wide : wide_item item ≡ bytes
    pub local : (slot : ℕ) → o ≡ Some slot → local_in item ≡ suc slot
    pub other : o ≡ None → local_in item ≡ 0

  load_local : (b : Bool) (slot : ℕ) → IsOf (Some slot) (number (if b then ops.LoadFast else ops.LoadFastN) slot) (if b then 1 else 4)
  load_local true slot = record { wide = refl; local = λ k e. ap suc (got slot k e); other = λ e. cc }
  load_local false slot = record { wide = refl; local = λ k e. ap suc (got slot k e); other = λ e. cc }

  store_local : (b : Bool) (slot : ℕ) → IsOf (Some slot) (number (if b then ops.StoreFast else ops.StoreFastN) slot) (if b then 1 else 4)
  store_local true slot = record { wide = refl; local = λ k e. ap suc (got slot k e); other = λ e. cc }
  store_local false slot = record { wide = refl; local = λ k e. ap suc (got slot k e); other = λ e. cc }

  load_is : (name : Name) (o : Option ℕ) → IsOf o (load_by c name o) (slot_length o)
  load_is name (Some slot) = load_local (nat_lt slot 16) slot
  load_is name None = record { wide = refl; local = λ k e. cc; other = λ e. refl }

  store_is : (name : Name) (o : Option ℕ) → IsOf o (store_by c name o) (slot_length o)
  store_is name (Some slot) = store_local (nat_lt slot 16) slot
  store_is name None = record { wide = refl; local = λ k e. cc; other = λ e. refl }

  delete_is : (name : Name) (o : Option ℕ) → IsOf o (delete_by c name o) 4
  delete_is name (Some slot) = record { wide = refl; local = λ k e. ap suc (got slot k e); other = λ e. cc }
  delete_is name None = record { wide = refl; local = λ k e. cc; other = λ e. refl }

  -- a name's slot is that of a local
  slot_within : (name : Name) (slot : ℕ) → slot_of c name ≡ Some slot → slot < length c.locals
  slot_within name slot e = (position-Some (bytes_eq name) c.locals slot [] e).0

  local_within : (name : Name) (o : Option ℕ) (item : Item) (bytes : ℕ) → slot_of c name ≡ o → IsOf o item bytes → local_in item ≤ length c.locals
  local_within name (Some slot) item bytes e is = let l = is.local slot refl in let h = slot_within name slot e in omega (arith, l, h)
  local_within name None item bytes e is = let l = is.other refl in let n = length c.locals in omega (arith, l)

  pub name_span : (p line : ℕ) (name : Name) (item : Item) (bytes : ℕ) → slice_get c.lines p ≡ Some (record { item = item; line = line }) → IsOf (slot_of c name) item bytes → Spans p (suc p) bytes (name ∷ [])
  name_span p line name item bytes e is =
      let s = one_span p line item bytes e is.wide (local_within name (slot_of c name) item bytes refl is) in
      let named = named_more c.lines p (record { item = item; line = line }) e in
      record {
        wide = s.wide;
        grows = s.grows;
        within = s.within;
        named = λ k. ((λ slot f. let l = is.local slot f in omega (arith, named, l)), tt);
      }

  pub unnamed : {p q bytes : ℕ} {xs : List Name} → Spans p q bytes xs → Spans p q bytes []
  unnamed s = record { wide = s.wide; grows = s.grows; within = s.within; named = λ k. tt }

  pub load_span : (p line : ℕ) (name : Name) → Has c line p (loads c name) → Spans p (suc p) (name_length c.locals name) []
  load_span p line name h = unnamed (name_span p (if nat_eq c.level 3 then 1 else line) name (loads c name) (name_length c.locals name) h (load_is name (slot_of c name)))

  pub store_span : (p line : ℕ) (name : Name) → Has c line p (stores c name) → Spans p (suc p) (name_length c.locals name) (name ∷ [])
  store_span p line name h = name_span p (if nat_eq c.level 3 then 1 else line) name (stores c name) (name_length c.locals name) h (store_is name (slot_of c name))

  pub store_behind : (p : ℕ) (name : Name) → Behind c p (stores c name) → Spans p (suc p) (name_length c.locals name) []
  store_behind p name h = unnamed (name_span p (line_before c.lines p) name (stores c name) (name_length c.locals name) h (store_is name (slot_of c name)))

  pub delete_span : (p line : ℕ) (name : Name) → Has c line p (deletes c name) → Spans p (suc p) 4 (name ∷ [])
  delete_span p line name h = name_span p (if nat_eq c.level 3 then 1 else line) name (deletes c name) 4 h (delete_is name (slot_of c name))

  pub delete_behind : (p : ℕ) (name : Name) → Behind c p (deletes c name) → Spans p (suc p) 4 []
  delete_behind p name h = unnamed (name_span p (line_before c.lines p) name (deletes c name) 4 h (delete_is name (slot_of c name)))
