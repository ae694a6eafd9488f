-- The objects and texts of a file.
use Rattle.std.proofs.Common.{◌≡◌, ℕ, zero, suc, ℤ, List, [], ◌∷◌, Some, inl, inr, refl, sym, ap, subst, ◌∙◌, arith}
use Rattle.std.specs.Prelude.{slice_get}
use Rattle.std.proofs.lemmas.Int.{ints}
use Rattle.arena_heap.specs.Values.{IsSmall}
use Rattle.mpy_base.specs.declared.limits.TheConstants.{MAX_DEPTH}
use Rattle.mpy_tree.specs.declared.module.Constant.{Constant, out-Constant, roll-Constant, out-roll-Constant}
use Rattle.mpy_tree.specs.declared.module.Constant.TheVariants as constants
use Rattle.mpy_tree.specs.declared.module.Constant.TheOpen.{Constant-F}
use Rattle.mpy_tree.specs.declared.raw.Qstr.{Qstr}
use Rattle.mpy_tree.specs.declared.raw.Qstr.TheVariants.{Static, Own}
use Rattle.mpy_tree.specs.Raw.{Module}
use Rattle.mpy_tree.specs.File as file
use Rattle.mpy_tree.specs.File.{Many, IsQstr, IsAtom, IsObject, IsModule}
use Rattle.bc_library.specs.Fine.{Each, FineBy, AreFew, Fine, FineQstr}
use Rattle.bc_library.proofs.Preorders.{tuple_rolls}
use denote.Hole.Carrier.{roll}

nth : {A : Type 0} (Form : List ℕ → A → Type 0) (text : List ℕ) (xs : List A) → Many Form text xs → (k : ℕ) (x : A) → slice_get xs k ≡ Some x → (front : List ℕ) × Form front x
nth Form text [] many k x e = absurd cc
nth Form text (y ∷ ys) many zero x e = let same : y ≡ x = cc in (many.0, subst (Form many.0) same many.2)
nth Form text (y ∷ ys) many (suc k) x e = nth Form many.1 ys many.4 k x e

-- by the kinds of objects
-- =======================

none_rolls : constants.None ≡ roll-Constant Constant-F.None
unfolding roll-Constant out-Constant roll
none_rolls = refl

false_rolls : constants.False ≡ roll-Constant Constant-F.False
unfolding roll-Constant out-Constant roll
false_rolls = refl

true_rolls : constants.True ≡ roll-Constant Constant-F.True
unfolding roll-Constant out-Constant roll
true_rolls = refl

str_rolls : (text : List ℕ) → constants.Str text ≡ roll-Constant (Constant-F.Str text)
unfolding roll-Constant out-Constant roll
str_rolls text = refl

int_rolls : (n : ℤ) → constants.Int n ≡ roll-Constant (Constant-F.Int n)
unfolding roll-Constant out-Constant roll
int_rolls n = refl

small : (n : ℤ) → file.IsSmall n → IsSmall n
small n s = (omega (arith, ints, s.least), omega (arith, ints, s.below))

fine_at : (P : List Constant → Type 0) (object : Constant) (o : Constant-F Constant) → object ≡ roll-Constant o → FineBy P o → FineBy P (out-Constant object)
fine_at P object o e fine = subst (FineBy P) (sym (ap out-Constant e ∙ out-roll-Constant o)) fine

fine_atom : (P : List Constant → Type 0) (text : List ℕ) (object : Constant) → IsAtom text object → FineBy P (out-Constant object)
fine_atom P text object (inl is) = fine_at P object Constant-F.None (is.1 ∙ none_rolls) tt
fine_atom P text object (inr (inl is)) = fine_at P object Constant-F.False (is.1 ∙ false_rolls) tt
fine_atom P text object (inr (inr (inl is))) = fine_at P object Constant-F.True (is.1 ∙ true_rolls) tt
fine_atom P text object (inr (inr (inr (inl str)))) =
    fine_at P object (Constant-F.Str str.own) (str.object_is ∙ str_rolls str.own) (record { ascii = str.ascii; short = str.spells.small })
fine_atom P text object (inr (inr (inr (inr int)))) =
    fine_at P object (Constant-F.Int int.n) (int.object_is ∙ int_rolls int.n) (small int.n int.small)

fine_object : (levels : ℕ) (text : List ℕ) (object : Constant) → IsObject levels text object → Fine levels object
unfolding IsObject Fine
fine_object zero text object atom = fine_atom (λ items. ⊥) text object atom
fine_object (suc levels) text object (inl atom) = fine_atom (AreFew (Fine levels)) text object atom
fine_object (suc levels) text object (inr tuple) =
    fine_at (AreFew (Fine levels)) object (Constant-F.Tuple tuple.items) (tuple.object_is ∙ tuple_rolls tuple.items) (record {
      few = tuple.spells.small;
      each = λ k x e. let n = nth (IsObject levels) tuple.spelled tuple.items tuple.each k x e in fine_object levels n.0 x n.1;
    })

pub fine_objects : (m : Module) → IsModule m → Each (Fine MAX_DEPTH) m.objects
fine_objects m is k x e = let n = nth (IsObject MAX_DEPTH) is.1.objects m.objects is.1.are_objects k x e in fine_object MAX_DEPTH n.0 x n.1

fine_qstr : (text : List ℕ) (q : Qstr) → IsQstr text q → FineQstr q
fine_qstr text (Static number) is = (is.from_one, is.known)
fine_qstr text (Own own) is = record { ascii = is.ascii; short = omega (arith, is.spells.small) }

pub fine_qstrs : (m : Module) → IsModule m → Each FineQstr m.qstrs
fine_qstrs m is k q e = let n = nth IsQstr is.1.qstrs m.qstrs is.1.are_qstrs k q e in fine_qstr n.0 q n.1
