-- A run that behaves as its program says what the meaning is.
use Rattle.std.proofs.Common.{◌≡◌, ℕ, suc, ◌+◌, ◌-◌, ◌*◌, ◌/◌, ◌<◌, ◌≤◌, List, ◌++◌, true, sym, ap, ◌∙◌, subst, inl, inr, append_assoc, arith}
use Rattle.std.proofs.lemmas.Bool.{cases_lt}
use Rattle.std.proofs.Math.Nat.{mul-div-le, div-le_self}
use Rattle.library_runs.specs.mpy_base.World.{PortState}
use Rattle.trans_laws.specs.bc_scheme.py_effects.Ends.{Run, is_over}
use Rattle.trans_laws.specs.bc_scheme.py_effects.Growth.{Prints}
use Rattle.trans_laws.specs.bc_scheme.py_meaning.Program.{Program}
use Rattle.trans_laws.specs.bc_scheme.py_meaning.Meaning.{meaning}
use Rattle.library_runs.specs.vm_frames.bc_machine.Library.{Library}
use Rattle.library_runs.specs.vm_frames.bc_machine.Machine.{run}
use Rattle.trans_laws.specs.bc_scheme.Correct.{HasEnded, IsOpen, IsBehind, Behaves}
use Rattle.meant_runs.specs.Runs.{turns_within, EndsAs, IsStopped, MeansRun}
use Rattle.meant_runs.proofs.Early.{open_or_over}

behind_on : (a b c : Run) → IsBehind a b → Prints b.world c.world → IsBehind a c
behind_on a b c h p = record {
  rest = h.rest ++ p.more.0;
  output = p.more.1 ∙ ap (λ (z : List ℕ). z ++ p.more.0) h.output ∙ append_assoc a.world.output h.rest p.more.0;
}

over : (r : Run) → HasEnded r → is_over r.end ≡ true
over r h = elim (open_or_over r.end) [ inl o ↦ absurd (h o) | inr e ↦ e ]

few_turns : (n : ℕ) → turns_within n ≤ n
few_turns n = let le = div-le_self (n - 16) 16 in omega (arith, le)

none_early : (n : ℕ) → n < 16 → turns_within n ≡ 0
none_early n lt = let none : n - 16 ≡ 0 = omega (arith, lt) in ap (λ (z : ℕ). z / 16) none

enough : (n : ℕ) → 16 ≤ n → 16 * turns_within n + 16 ≤ n
enough n ge = let le = mul-div-le (n - 16) 16 in omega (arith, ge, le)

module _ (program : Program) (library : Library) (cells bytes : ℕ) (ports : List PortState) (b : Behaves program library cells bytes ports)
    (ended : (t s : ℕ) → t ≤ s → is_over (meaning program cells bytes ports t).end ≡ true → meaning program cells bytes ports s ≡ meaning program cells bytes ports t)
    (prints : (t s : ℕ) → t ≤ s → Prints (meaning program cells bytes ports t).world (meaning program cells bytes ports s).world)
    (early : (n : ℕ) → IsOpen (run library program.main_name cells bytes ports n)
    → IsOpen (meaning program cells bytes ports 0) × IsBehind (meaning program cells bytes ports 0) (run library program.main_name cells bytes ports n)) where
  abbrev of : ℕ → Run
  of n = run library program.main_name cells bytes ports n

  abbrev meant : ℕ → Run
  meant t = meaning program cells bytes ports t

  ends_as : (n : ℕ) → HasEnded (of n) → EndsAs program cells bytes ports (of n)
  ends_as n h =
      let e = b.ends_only n h in
      record { bound = e.0; is = λ t le. ended e.0 t le (over (meant e.0) (λ o. h (ap (λ (r : Run). r.end) e.1 ∙ o))) ∙ sym e.1 }

  so_far : (n : ℕ) → IsOpen (of n) → IsOpen (meant (turns_within n)) × IsBehind (meant (turns_within n)) (of n)
  so_far n o = elim (cases_lt n 16) [
    | inl lt ↦ subst (λ (t : ℕ). IsOpen (meant t) × IsBehind (meant t) (of n)) (sym (none_early n lt)) (early n o)
    | inr ge ↦ b.still_open (turns_within n) n o (enough n ge)
  ]

  is_stopped : (n : ℕ) → IsOpen (of n) → IsStopped program cells bytes ports n (of n)
  is_stopped n o =
      let before = so_far n o in
      let later = b.ahead n in
      let few = few_turns n in
      record {
        still_open = before.0;
        printed = before.1;
        bound = suc later.0;
        greater = let le = later.1 in omega (arith, few, le);
        prints_on = behind_on (of n) (meant later.0) (meant (suc later.0)) later.2 (prints later.0 (suc later.0) (omega arith));
      }

  pub means : (n : ℕ) → MeansRun program cells bytes ports n (of n)
  means n = record {
    ended = ends_as n;
    in_time = λ t h le. b.ends t n h le;
    stopped = is_stopped n;
  }
