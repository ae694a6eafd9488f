-- Objects are told apart by their values.
use Rattle.std.proofs.Common.{◌≡◌, ℕ, List, [], ◌∷◌, map, refl, sym, ap, ap₂, ◌∙◌, true, false, ℤ, subst}
use Rattle.qstr_pool.specs.mpy_base.Val.{Val, Vals, Only, Then, Nil, Truth, Int, Str, Fixed, Empty}
use Rattle.mpy_tree.specs.declared.module.Constant.{Constant, roll-Constant}
use Rattle.mpy_tree.specs.declared.module.Constant.TheOpen.{Constant-F}
use Rattle.mpy_tree.specs.declared.module.Constant.TheVariants as consts
use Rattle.mpy_tree.specs.declared.module.Constant.TheFolds.{fold-roll-Constant, ind-Constant}
use Rattle.mpy_tree.specs.Values.{value_of, constant_step, tuple_value, vals_of}

-- the object of a value
abbrev mutual
  constant_of : Val → Constant
  constant_of Nil = consts.None
  constant_of (Truth true) = consts.True
  constant_of (Truth false) = consts.False
  constant_of (Int z) = consts.Int z
  constant_of (Str text) = consts.Str text
  constant_of (Fixed vs) = consts.Tuple (constants_of vs)
  constant_of Empty = consts.Tuple []
  constant_of v = consts.None

  constants_of : Vals → List Constant
  constants_of (Only v) = constant_of v ∷ []
  constants_of (Then v vs) = constant_of v ∷ constants_of vs

row_again : {S : Type 0} (f : S → Constant) (h : (s : S) → constant_of (value_of (f s)) ≡ f s) (s : S) (ss : List S) → constants_of (vals_of (value_of (f s)) (map value_of (map f ss))) ≡ map f (s ∷ ss)
row_again f h s [] = ap (λ z. z ∷ []) (h s)
row_again f h s (t ∷ ss) = ap₂ (λ a b. a ∷ b) (h s) (row_again f h t ss)

tuple_again : {S : Type 0} (f : S → Constant) (h : (s : S) → constant_of (value_of (f s)) ≡ f s) (ss : List S) → constant_of (tuple_value (map value_of (map f ss))) ≡ consts.Tuple (map f ss)
tuple_again f h [] = refl
tuple_again f h (s ∷ ss) = ap consts.Tuple (row_again f h s ss)

abbrev Told : Constant-F Constant → Type 0
Told x = constant_of (value_of (roll-Constant x)) ≡ roll-Constant x

by_layer : {S : Type 0} (f : S → Constant) (h : (s : S) → constant_of (value_of (f s)) ≡ f s) (m : Constant-F S → Constant-F Constant) → m Constant-F.None ≡ Constant-F.None → m Constant-F.False ≡ Constant-F.False → m Constant-F.True ≡ Constant-F.True
    → ((t : List ℕ) → m (Constant-F.Str t) ≡ Constant-F.Str t) → ((z : ℤ) → m (Constant-F.Int z) ≡ Constant-F.Int z) → ((ss : List S) → m (Constant-F.Tuple ss) ≡ Constant-F.Tuple (map f ss)) → (y : Constant-F S) → Told (m y)
by_layer f h m a b c d e g Constant-F.None = subst Told (sym a) (ap constant_of (fold-roll-Constant Val constant_step Constant-F.None) ∙ sym (consts.rolls-None))
by_layer f h m a b c d e g Constant-F.False = subst Told (sym b) (ap constant_of (fold-roll-Constant Val constant_step Constant-F.False) ∙ sym (consts.rolls-False))
by_layer f h m a b c d e g Constant-F.True = subst Told (sym c) (ap constant_of (fold-roll-Constant Val constant_step Constant-F.True) ∙ sym (consts.rolls-True))
by_layer f h m a b c d e g (Constant-F.Str t) = subst Told (sym (d t)) (ap constant_of (fold-roll-Constant Val constant_step (Constant-F.Str t)) ∙ sym (consts.rolls-Str t))
by_layer f h m a b c d e g (Constant-F.Int z) = subst Told (sym (e z)) (ap constant_of (fold-roll-Constant Val constant_step (Constant-F.Int z)) ∙ sym (consts.rolls-Int z))
by_layer f h m a b c d e g (Constant-F.Tuple ss) = subst Told (sym (g ss)) (ap constant_of (fold-roll-Constant Val constant_step (Constant-F.Tuple (map f ss))) ∙ tuple_again f h ss ∙ sym (consts.rolls-Tuple (map f ss)))

by_layers : {S : Type 0} (f : S → Constant) (h : (s : S) → constant_of (value_of (f s)) ≡ f s) (m : Constant-F S → Constant-F Constant) → m Constant-F.None ≡ Constant-F.None → m Constant-F.False ≡ Constant-F.False → m Constant-F.True ≡ Constant-F.True
    → ((t : List ℕ) → m (Constant-F.Str t) ≡ Constant-F.Str t) → ((z : ℤ) → m (Constant-F.Int z) ≡ Constant-F.Int z) → ((ss : List S) → m (Constant-F.Tuple ss) ≡ Constant-F.Tuple (map f ss)) → (x : Constant-F Constant) (y : Constant-F S) → m y ≡ x → Told x
by_layers f h m a b c d e g x y k = subst Told k (by_layer f h m a b c d e g y)

again : (c : Constant) → constant_of (value_of c) ≡ c
again = ind-Constant (λ c. constant_of (value_of c) ≡ c) (by_layers (λ s. s.0) (λ s. s.1) _ refl refl refl (λ t. refl) (λ z. refl) (λ ss. refl))

pub one_object : (a b : Constant) → value_of a ≡ value_of b → a ≡ b
one_object a b e = sym (again a) ∙ (ap constant_of e ∙ again b)
