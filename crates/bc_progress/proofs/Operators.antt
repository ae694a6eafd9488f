-- The numbers of operators that a file has are operators of the machine.
use Rattle.std.proofs.Common.{◌≡◌, ℕ, zero, suc, ◌+◌, ◌<◌, Option, Some, None, refl, subst, arith}
use Rattle.bc_machine.specs.bc_ops.declared.form.Form.TheVariants as forms
use Rattle.bc_machine.specs.bc_ops.declared.instr.Instr.TheVariants as instrs
use Rattle.bc_machine.specs.bc_ops.Table.{form_of, short_form}
use Rattle.bc_machine.specs.Operations.{operator_at, unary_at}

abbrev IsThere : {A : Type 0} → Option A → Type 0
IsThere (Some x) = Unit {0}
IsThere None = ⊥

pub there : {A : Type 0} (o : Option A) → IsThere o → (x : A) × (o ≡ Some x)
there (Some x) h = (x, refl)
there None h = absurd h

unary_there : (n : ℕ) → n < 4 → IsThere (unary_at n)
unary_there zero lt = tt
unary_there (suc zero) lt = tt
unary_there (suc (suc zero)) lt = tt
unary_there (suc (suc (suc zero))) lt = tt
unary_there (suc (suc (suc (suc n)))) lt = absurd (omega (arith, lt))

-- P holds of each of `count` numbers, from `start` on
abbrev EachFrom : (ℕ → Type 0) → ℕ → ℕ → Type 0
EachFrom P start zero = Unit {0}
EachFrom P start (suc count) = P start × EachFrom P (suc start) count

each_at : (P : ℕ → Type 0) (start count k : ℕ) → k < count → EachFrom P start count → P (start + k)
each_at P start zero k lt e = absurd (omega (arith, lt))
each_at P start (suc count) zero lt e = subst P (let q : start ≡ start + 0 = omega arith in q) e.0
each_at P start (suc count) (suc k) lt e = subst P (let q : suc start + k ≡ start + suc k = omega arith in q) (each_at P (suc start) count k (omega (arith, lt)) e.1)

-- so it is with an operator that a byte has
abbrev HasOperator : ℕ → Type 0
HasOperator n = form_of (0xd7 + n) ≡ forms.Whole (instrs.Binary n) → IsThere (operator_at n)

-- `@` and `/`, plain and in place, are no instructions of a file
all_there : EachFrom HasOperator 0 35
unfolding form_of short_form
all_there = ((λ e. tt), ((λ e. tt), ((λ e. tt), ((λ e. tt), ((λ e. tt), ((λ e. tt), ((λ e. tt), ((λ e. tt), ((λ e. tt), ((λ e. tt), ((λ e. tt), ((λ e. tt), ((λ e. tt), ((λ e. tt), ((λ e. tt), ((λ e. tt), ((λ e. tt), ((λ e. cc), ((λ e. tt), ((λ e. cc), ((λ e. tt), ((λ e. tt), ((λ e. tt), ((λ e. tt), ((λ e. tt), ((λ e. tt), ((λ e. tt), ((λ e. tt), ((λ e. tt), ((λ e. tt), ((λ e. cc), ((λ e. tt), ((λ e. cc), ((λ e. tt), ((λ e. tt), tt)))))))))))))))))))))))))))))))))))

pub unary_is : (n : ℕ) → n < 4 → (op : _) × (unary_at n ≡ Some op)
unary_is n lt = there (unary_at n) (unary_there n lt)

pub operator_is : (n : ℕ) → n < 35 → form_of (0xd7 + n) ≡ forms.Whole (instrs.Binary n) → (op : _) × (operator_at n ≡ Some op)
operator_is n lt e = there (operator_at n) (subst HasOperator (let q : 0 + n ≡ n = omega arith in q) (each_at HasOperator 0 35 n lt all_there) e)
