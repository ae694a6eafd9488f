-- Runs of the machine in parts, and steps that are paid.
use Rattle.std.proofs.Common.{◌≡◌, ℕ, zero, suc, ◌+◌, ◌<◌, refl, ap, ◌∙◌, arith}
use Rattle.mpy_base.specs.Val.{PlainWorld}
use Rattle.state_steps.specs.vm_frames.py_effects.Ends.{End}
use Rattle.state_steps.specs.vm_frames.bc_machine.Library.{Library}
use Rattle.state_steps.specs.vm_frames.bc_machine.Machine.{steps}
use Rattle.state_steps.specs.vm_frames.bc_machine.State.{State, Halted}
use Rattle.state_steps.specs.vm_frames.bc_machine.Step.{step}

-- a run that has ended stays
pub halted : (library : Library) (n : ℕ) (e : End) (w : PlainWorld) → steps library n (Halted e w) ≡ Halted e w
halted library zero e w = refl
halted library (suc n) e w = halted library n e w

-- a run in two parts
pub in_parts : (library : Library) (a b : ℕ) (s : State) → steps library (a + b) s ≡ steps library b (steps library a s)
in_parts library zero b s = let e : 0 + b ≡ b = omega arith in ap (λ (k : ℕ). steps library k s) e
in_parts library (suc a) b s =
    let e : suc a + b ≡ suc (a + b) = omega arith in
    ap (λ (k : ℕ). steps library k s) e ∙ in_parts library a b (step library s)

-- one step more
pub one_more : (library : Library) (a : ℕ) (s : State) → steps library (a + 1) s ≡ step library (steps library a s)
one_more library a s = in_parts library a 1 s

-- steps that are paid for visits
module _ (library : Library) (at : ℕ → State) (visits : ℕ) (pays : (paid : ℕ) → paid < visits → step library (at paid) ≡ at (suc paid)) where
  pub paid_for : (n paid : ℕ) → ((k : ℕ) → k < n → paid + k < visits) → steps library n (at paid) ≡ at (paid + n)
  paid_for zero paid less = let e : paid ≡ paid + 0 = omega arith in ap at e
  paid_for (suc n) paid less =
      let l = less 0 (omega arith) in
      let here : paid < visits = omega (arith, l) in
      let more : (k : ℕ) → k < n → suc paid + k < visits = λ k lt. (let m = less (suc k) (omega (arith, lt)) in omega (arith, m)) in
      let e : suc paid + n ≡ paid + suc n = omega arith in
      ap (λ (s : State). steps library n s) (pays paid here) ∙ (paid_for n (suc paid) more ∙ ap at e)
