-- What an operator gives over two numbers, as values.
use Rattle.std.proofs.Common.{◌≡◌, ℕ, ℤ, Bool, subst, sym, arith}
use Rattle.state_values.specs.mpy_base.Val.{Val, Int, Truth}
use Rattle.state_values.specs.prim_assignments.arena_heap.declared.value.Value.TheVariants as values
use Rattle.state_values.specs.prim_assignments.arena_heap.Values.{IsSmall}
use Rattle.vm_at_once.specs.Numbers.{Gives, IsAnswer}

module _ (number : ℕ) (left right x y : ℤ) (is_left : x ≡ left) (is_right : y ≡ right) where
  gives_at : (v : Val) (visits : ℕ) → Gives number x y v visits → Gives number left right v visits
  gives_at v visits g = subst (λ (k : ℤ). Gives number k right v visits) is_left (subst (λ (k : ℤ). Gives number x k v visits) is_right g)

  pub number_given : (z n : ℤ) → n ≡ z → IsSmall z → Gives number x y (Int z) 0 → IsAnswer number left right (values.Int n) 0
  number_given z n same small g =
      subst (λ (k : ℤ). IsAnswer number left right (values.Int k) 0) (sym same) (record {
        gives = λ texts tuples. gives_at (Int z) 0 g;
        known = λ texts tuples objects. record { leads = record { meets = tt; small = small }; told = tt };
        few = omega arith;
      })

  pub truth_given : (holds : Bool) → Gives number x y (Truth holds) 1 → IsAnswer number left right (values.Bool holds) 1
  truth_given holds g = record {
    gives = λ texts tuples. gives_at (Truth holds) 1 g;
    known = λ texts tuples objects. record { leads = record { meets = tt; small = tt }; told = tt };
    few = omega arith;
  }
