-- From the machine's slots back to those that they stand for.
use Rattle.std.proofs.Common.{◌≡◌, ℕ, suc, List, [], ◌∷◌, ◌++◌, length, map, Bool, Option, Some, None, refl, sym, ap, ap₂, subst, ◌∙◌}
use Rattle.std.specs.Option.{option_map}
use Rattle.std.proofs.lemmas.List.{length-map}
use Rattle.frame_exits.specs.mpy_base.Val.{Val, Nil, Built, At}
use Rattle.frame_exits.specs.arena_heap.declared.value.Value.{Value}
use Rattle.frame_exits.specs.vm_frames.declared.slot.Slot.{Slot}
use Rattle.frame_exits.specs.vm_frames.declared.slot.Slot.TheVariants as slots
use Rattle.frame_exits.specs.vm_frames.declared.slot.Entry.{Entry}
use Rattle.frame_exits.specs.vm_frames.Views.{View, slot_of, slots_of, entry_of, entries_of}
use Rattle.bc_progress.specs.bc_machine.State as states
use Rattle.vm_states.specs.OnTop as machine
use Rattle.vm_states.specs.Tops as tops

-- the first of a list that is mapped
pub record First {A B : Type 0} (f : A → B) (xs : List A) (y : B) (ys : List B) : Type 0 where
  pub x : A
  pub rest : List A
  pub are : xs ≡ x ∷ rest
  pub first : f x ≡ y
  pub others : map f rest ≡ ys

pub first_of : {A B : Type 0} (f : A → B) (xs : List A) (y : B) (ys : List B) → map f xs ≡ y ∷ ys → First f xs y ys
first_of f [] y ys e = cc
first_of f (x ∷ xs) y ys e = record { x = x; rest = xs; are = refl; first = cc; others = cc }

module _ (view : View) (starts : List ℕ) where
  abbrev S : Slot → states.Slot
  S s = slot_of view starts s

  value_back : (s : Slot) (x : Val) → S s ≡ states.Value x → (v : Value) × (s ≡ slots.Value v) × (view.plain v ≡ x)
  value_back (slots.Value v) x e = (v, refl, cc)
  value_back slots.Null x e = cc
  value_back (slots.Object o) x e = cc
  value_back (slots.Iter over at part) x e = cc
  value_back (slots.Return v) x e = cc
  value_back (slots.Jump target count it) x e = cc

  null_back : (s : Slot) → S s ≡ states.Null → s ≡ slots.Null
  null_back (slots.Value v) e = cc
  null_back slots.Null e = refl
  null_back (slots.Object o) e = cc
  null_back (slots.Iter over at part) e = cc
  null_back (slots.Return v) e = cc
  null_back (slots.Jump target count it) e = cc

  iter_back : (s : Slot) (over : Val) (at part : ℕ) → S s ≡ states.Iter over at part → (v : Value) × (s ≡ slots.Iter v at part)
  iter_back (slots.Value v) over at part e = cc
  iter_back slots.Null over at part e = cc
  iter_back (slots.Object o) over at part e = cc
  iter_back (slots.Iter v k n) over at part e = let p : k ≡ at = cc in let q : n ≡ part = cc in (v, ap₂ (λ a b. slots.Iter v a b) p q)
  iter_back (slots.Return v) over at part e = cc
  iter_back (slots.Jump target count it) over at part e = cc

  object_is : (o : Option Value) (x : Option Val) → S (slots.Object o) ≡ states.Object x → option_map view.plain o ≡ x
  object_is o x e = cc

  object_back : (s : Slot) (x : Option Val) → S s ≡ states.Object x → (o : Option Value) × (s ≡ slots.Object o) × (option_map view.plain o ≡ x)
  object_back (slots.Value v) x e = cc
  object_back slots.Null x e = cc
  object_back (slots.Object o) x e = (o, refl, object_is o x e)
  object_back (slots.Iter over at part) x e = cc
  object_back (slots.Return v) x e = cc
  object_back (slots.Jump target count it) x e = cc

  some_back : (o : Option Value) (x : Val) → option_map view.plain o ≡ Some x → (v : Value) × (o ≡ Some v)
  some_back (Some v) x e = (v, refl)
  some_back None x e = cc

  none_back : (o : Option Value) → option_map view.plain o ≡ None → o ≡ None
  none_back (Some v) e = cc
  none_back None e = refl

  pub one : (st : List Slot) → machine.OneValue (slots_of view starts st) → tops.OneValue st
  one st h =
      let a = first_of S st (states.Value h.top) h.below h.are in
      let v = value_back a.x h.top a.first in
      record { top = v.0; below = a.rest; are = a.are ∙ ap (λ z. z ∷ a.rest) v.1 }

  pub two : (st : List Slot) → machine.TwoValues (slots_of view starts st) → tops.TwoValues st
  two st h =
      let a = first_of S st (states.Value h.top) (states.Value h.second ∷ h.below) h.are in
      let v = value_back a.x h.top a.first in
      let others = one a.rest (record { top = h.second; below = h.below; are = a.others }) in
      record { top = v.0; second = others.top; below = others.below; are = a.are ∙ ap₂ (λ z w. z ∷ w) v.1 others.are }

  pub three : (st : List Slot) → machine.ThreeValues (slots_of view starts st) → tops.ThreeValues st
  three st h =
      let a = first_of S st (states.Value h.top) (states.Value h.second ∷ states.Value h.third ∷ h.below) h.are in
      let v = value_back a.x h.top a.first in
      let others = two a.rest (record { top = h.second; second = h.third; below = h.below; are = a.others }) in
      record { top = v.0; second = others.top; third = others.second; below = others.below; are = a.are ∙ ap₂ (λ z w. z ∷ w) v.1 others.are }

  values_from : (M : List states.Slot → Type 0) (P : List Slot → Type 0) → ((below : List Slot) → M (slots_of view starts below) → P below)
      → (vs : List Val) (below : List states.Slot) (st : List Slot) → slots_of view starts st ≡ map states.Value vs ++ below → M below → tops.Values (length vs) P st
  values_from M P k [] below st e m = record { values = []; below = st; are = refl; many = refl; holds = k st (subst M (sym e) m) }
  values_from M P k (x ∷ vs) below st e m =
      let a = first_of S st (states.Value x) (map states.Value vs ++ below) e in
      let v = value_back a.x x a.first in
      let others = values_from M P k vs below a.rest a.others m in
      record { values = v.0 ∷ others.values; below = others.below; are = a.are ∙ ap₂ (λ z w. z ∷ w) v.1 others.are; many = ap suc others.many; holds = others.holds }

  pub values : (count : ℕ) (M : List states.Slot → Type 0) (P : List Slot → Type 0) (st : List Slot) → ((below : List Slot) → M (slots_of view starts below) → P below) → machine.Values count M (slots_of view starts st) → tops.Values count P st
  values count M P st k h = subst (λ n. tops.Values n P st) h.many (values_from M P k h.values h.below st h.are h.holds)

  operand_back : (s : Slot) (x : states.Slot) → S s ≡ x → machine.IsOperand x → tops.IsOperand s
  operand_back s x e (machine.value v) = let b = value_back s v e in subst tops.IsOperand (sym b.1) (tops.value b.0)
  operand_back s x e machine.null = subst tops.IsOperand (sym (null_back s e)) tops.null

  dropped_back : (s : Slot) (x : states.Slot) → S s ≡ x → machine.IsDropped x → tops.IsDropped s
  dropped_back s x e (machine.value v) = let b = value_back s v e in subst tops.IsDropped (sym b.1) (tops.value b.0)
  dropped_back s x e (machine.iterator over at part) = let b = iter_back s over at part e in subst tops.IsDropped (sym b.1) (tops.iterator b.0 at part)

  pub dropped : (st : List Slot) → machine.OneDropped (slots_of view starts st) → tops.OneDropped st
  dropped st h =
      let a = first_of S st h.top h.below h.are in
      record { top = a.x; below = a.rest; are = a.are; is = dropped_back a.x h.top a.first h.is }

  pub two_operands : (st : List Slot) → machine.TwoOperands (slots_of view starts st) → tops.TwoOperands st
  two_operands st h =
      let a = first_of S st h.top (h.second ∷ h.below) h.are in
      let b = first_of S a.rest h.second h.below a.others in
      record {
        top = a.x;
        second = b.x;
        below = b.rest;
        are = a.are ∙ ap (λ w. a.x ∷ w) b.are;
        top_is = operand_back a.x h.top a.first h.top_is;
        second_is = operand_back b.x h.second b.first h.second_is;
      }

  pub three_operands : (st : List Slot) → machine.ThreeOperands (slots_of view starts st) → tops.ThreeOperands st
  three_operands st h =
      let a = first_of S st h.top (h.second ∷ h.third ∷ h.below) h.are in
      let others = two_operands a.rest (record { top = h.second; second = h.third; below = h.below; are = a.others; top_is = h.second_is; second_is = h.third_is }) in
      record {
        top = a.x;
        second = others.top;
        third = others.second;
        below = others.below;
        are = a.are ∙ ap (λ w. a.x ∷ w) others.are;
        top_is = operand_back a.x h.top a.first h.top_is;
        second_is = others.top_is;
        third_is = others.second_is;
      }

  pub stored : (st : List Slot) → machine.Stored (slots_of view starts st) → tops.Stored st
  stored st h =
      let a = first_of S st (states.Value h.index) (states.Value h.container ∷ h.third ∷ h.below) h.are in
      let u = value_back a.x h.index a.first in
      let b = first_of S a.rest (states.Value h.container) (h.third ∷ h.below) a.others in
      let v = value_back b.x h.container b.first in
      let d = first_of S b.rest h.third h.below b.others in
      record {
        index = u.0;
        container = v.0;
        third = d.x;
        below = d.rest;
        are = a.are ∙ ap₂ (λ z w. z ∷ w) u.1 (b.are ∙ ap₂ (λ z w. z ∷ w) v.1 d.are);
        is = operand_back d.x h.third d.first h.is;
      }

  pub defaults : (st : List Slot) → machine.Defaults (slots_of view starts st) → tops.Defaults st
  defaults st h =
      let a = first_of S st states.Null (states.Value h.value ∷ h.below) h.are in
      let others = one a.rest (record { top = h.value; below = h.below; are = a.others }) in
      record { value = others.top; below = others.below; are = a.are ∙ ap₂ (λ z w. z ∷ w) (null_back a.x a.first) others.are }

  looked_by : (st : List Slot) (x : List states.Slot) → slots_of view starts st ≡ x → machine.IsLooked x → tops.IsLooked view st
  looked_by st x e (machine.bound object method below) =
      let a = first_of S st (states.Object (Some object)) (states.Value (Built method) ∷ below) e in
      let o = object_back a.x (Some object) a.first in
      let w = some_back o.0 object o.2 in
      let b = first_of S a.rest (states.Value (Built method)) below a.others in
      let v = value_back b.x (Built method) b.first in
      let are : st ≡ slots.Object (Some w.0) ∷ slots.Value v.0 ∷ b.rest =
      a.are ∙ ap₂ (λ z r. z ∷ r) (o.1 ∙ ap slots.Object w.1) (b.are ∙ ap (λ z. z ∷ b.rest) v.1) in
      subst (tops.IsLooked view) (sym are) (tops.bound w.0 v.0 method b.rest v.2)
  looked_by st x e (machine.free f below) =
      let a = first_of S st (states.Object None) (states.Value f ∷ below) e in
      let o = object_back a.x None a.first in
      let b = first_of S a.rest (states.Value f) below a.others in
      let v = value_back b.x f b.first in
      let are : st ≡ slots.Object None ∷ slots.Value v.0 ∷ b.rest =
      a.are ∙ ap₂ (λ z r. z ∷ r) (o.1 ∙ ap slots.Object (none_back o.0 o.2)) (b.are ∙ ap (λ z. z ∷ b.rest) v.1) in
      subst (tops.IsLooked view) (sym are) (tops.free v.0 b.rest)

  pub looked : (st : List Slot) → machine.IsLooked (slots_of view starts st) → tops.IsLooked view st
  looked st h = looked_by st (slots_of view starts st) refl h

  pub iterator : (st : List Slot) → machine.Iterator (slots_of view starts st) → tops.Iterator st
  iterator st h =
      let a = first_of S st (states.Iter h.over h.at 3) (h.second ∷ h.third ∷ h.fourth ∷ h.below) h.are in
      let i = iter_back a.x h.over h.at 3 a.first in
      let b = first_of S a.rest h.second (h.third ∷ h.fourth ∷ h.below) a.others in
      let d = first_of S b.rest h.third (h.fourth ∷ h.below) b.others in
      let f = first_of S d.rest h.fourth h.below d.others in
      record {
        over = i.0;
        at = h.at;
        second = b.x;
        third = d.x;
        fourth = f.x;
        below = f.rest;
        are = a.are ∙ ap₂ (λ z w. z ∷ w) i.1 (b.are ∙ ap (λ w. b.x ∷ w) (d.are ∙ ap (λ w. d.x ∷ w) f.are));
      }

  kept_return_back : (s : Slot) (x : Val) → S s ≡ states.KeptReturn x → (v : Value) × (s ≡ slots.Return v)
  kept_return_back (slots.Value v) x e = cc
  kept_return_back slots.Null x e = cc
  kept_return_back (slots.Object o) x e = cc
  kept_return_back (slots.Iter over at part) x e = cc
  kept_return_back (slots.Return v) x e = (v, refl)
  kept_return_back (slots.Jump target count it) x e = cc

  kept_jump_back : (s : Slot) (to n : ℕ) (b : Bool) → S s ≡ states.KeptJump to n b → (target : ℕ) × (s ≡ slots.Jump target n b)
  kept_jump_back (slots.Value v) to n b e = cc
  kept_jump_back slots.Null to n b e = cc
  kept_jump_back (slots.Object o) to n b e = cc
  kept_jump_back (slots.Iter over at part) to n b e = cc
  kept_jump_back (slots.Return v) to n b e = cc
  kept_jump_back (slots.Jump target count it) to n b e = let p : count ≡ n = cc in let q : it ≡ b = cc in (target, ap₂ (λ c d. slots.Jump target c d) p q)

  cause_back : (k : ℕ) (s : Slot) (x : states.Slot) → S s ≡ x → machine.IsCause k x → tops.IsCause view k s
  cause_back k s x e machine.nothing = let b = value_back s Nil e in subst (tops.IsCause view k) (sym b.1) (tops.nothing b.0 b.2)
  cause_back k s x e (machine.exception n) = let b = value_back s (At n) e in subst (tops.IsCause view k) (sym b.1) (tops.exception b.0 n b.2)
  cause_back k s x e (machine.returned v) = let b = kept_return_back s v e in subst (tops.IsCause view k) (sym b.1) (tops.returned b.0)
  cause_back k s x e (machine.jump to n it le) = let b = kept_jump_back s to n it e in subst (tops.IsCause view k) (sym b.1) (tops.jump b.0 n it le)

  pub ending : (position : ℕ) (st : List Slot) (es : List Entry) → machine.Ending (slots_of view starts st) (entries_of starts position es) → tops.Ending view starts position st es
  ending position st es h =
      let a = first_of S st h.cause h.below h.slots_are in
      let b = first_of (entry_of starts position) es h.entry h.others h.entries_are in
      let many : length h.others ≡ length b.rest = sym (ap length b.others) ∙ length-map b.rest (entry_of starts position) in
      record {
        cause = a.x;
        below = a.rest;
        slots_are = a.are;
        entry = b.x;
        others = b.rest;
        entries_are = b.are;
        active = ap (λ (z : states.Entry). z.active) b.first ∙ h.active;
        is = subst (λ n. tops.IsCause view n a.x) many (cause_back (length h.others) a.x h.cause a.first h.is);
      }

pub except : (starts : List ℕ) (position : ℕ) (es : List Entry) → machine.Except (entries_of starts position es) → tops.Except es
except starts position es h =
    let b = first_of (entry_of starts position) es h.entry h.others h.entries_are in
    record { entry = b.x; others = b.rest; entries_are = b.are; is_except = ap (λ (z : states.Entry). z.is_finally) b.first ∙ h.is_except }
