-- Steps are paid as far as they are due.
use Rattle.std.proofs.Common.{◌≡◌, ℕ, suc, ◌<◌, List, [], ◌∷◌, Option, None, inl, inr, refl, sym, subst, arith}
use Rattle.std.proofs.lemmas.Bool.{cases_lt}
use Rattle.bc_machine.specs.mpy_base.Val.{PlainWorld}
use Rattle.bc_machine.specs.Library.{Library}
use Rattle.bc_machine.specs.Step.{step}
use Rattle.vm_starting.specs.vm_states.frame_exits.declared.ends.End.{End}
use Rattle.vm_starting.specs.vm_states.frame_moves.Shown.{Tables, running_of}
use Rattle.vm_starting.specs.vm_states.vm_frames.Calls.{Call}
use Rattle.vm_starting.specs.vm_states.Means.{Program}
use Rattle.vm_starting.specs.declared.opening.Vm.{Vm}
use Rattle.vm_machine.specs.Due.{IsDue}
use Rattle.vm_machine.specs.Machine.{paid_state, machine_of, world_in}
use Rattle.snap_laws.specs.Kept.{IsPaid}

module _ (library : Library) (t : Tables) (paid : ℕ) (w : PlainWorld) where
  paid_in : (calls : List Call) → ((k : ℕ) → k < paid → step library (running_of t k calls w) ≡ running_of t (suc k) calls w) → IsPaid library (running_of t paid calls w)
  paid_in [] h = tt
  paid_in (c ∷ cs) h = h

  paid_out : (calls : List Call) → IsPaid library (running_of t paid calls w) → (k : ℕ) → k < paid → step library (running_of t k calls w) ≡ running_of t (suc k) calls w
  paid_out [] h k lt = refl
  paid_out (c ∷ cs) h k lt = h k lt

module _ (p : Program) (vm : Vm) (goes_on : vm.end ≡ None) (due : ℕ) (d : IsDue p vm vm.paid due) (w : PlainWorld) where
  -- all that is paid is due
  pub is_paid : due ≡ vm.paid → IsPaid p.library (machine_of p vm w)
  is_paid all =
      subst (λ (o : Option End). IsPaid p.library (paid_state p o vm.paid vm.frames.calls (world_in p vm w))) (sym goes_on)
      (paid_in p.library p.tables vm.paid (world_in p vm w) vm.frames.calls (λ k lt. d.pays w k (omega (arith, all, lt))))

  pub all_due : IsPaid p.library (machine_of p vm w) → due ≡ vm.paid
  all_due h =
      let few = d.few in
      let at = subst (λ (o : Option End). IsPaid p.library (paid_state p o vm.paid vm.frames.calls (world_in p vm w))) goes_on h in
      elim (cases_lt due vm.paid) [
        | inl lt ↦ absurd (d.acts w lt (paid_out p.library p.tables vm.paid (world_in p vm w) vm.frames.calls at due lt))
        | inr ge ↦ omega (arith, ge, few)
      ]
