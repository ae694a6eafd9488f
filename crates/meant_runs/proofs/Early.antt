-- A run that hasn't taken a step is the meaning without turns.
use Rattle.std.proofs.Common.{◌≡◌, ℕ, ◌≤◌, List, [], Option, Some, None, true, refl, sym, ap, ◌∙◌, subst, inl, inr, zero-le}
use Rattle.std.specs.Prelude.{◌⊎◌}
use Rattle.library_runs.specs.mpy_base.World.{PortState}
use Rattle.library_runs.specs.mpy_base.Val.{PlainWorld}
use Rattle.trans_laws.specs.bc_scheme.py_effects.Effect.{Place, Given, Gives, Throws, Fills, given}
use Rattle.trans_laws.specs.bc_scheme.py_effects.Growth.{Prints}
use Rattle.trans_laws.specs.bc_scheme.py_effects.Modules.{Made, make_module}
use Rattle.trans_laws.specs.bc_scheme.py_effects.Ends.{End, Open, Ended, Raised, Memory, Run, is_over, new_world}
use Rattle.trans_laws.specs.bc_scheme.py_meaning.Program.{Program, first_file, registered_main}
use Rattle.trans_laws.specs.bc_scheme.py_meaning.Outcomes.{e_then, e_given, e_turns}
use Rattle.trans_laws.specs.bc_scheme.py_meaning.Imports.{part_place}
use Rattle.trans_laws.specs.bc_scheme.py_meaning.Meaning as meanings
use Rattle.trans_laws.specs.bc_scheme.py_meaning.Meaning.{main_run, meaning}
use Rattle.library_runs.specs.vm_frames.bc_machine.Library.{Name, Code, Library, code_at}
use Rattle.library_runs.specs.vm_frames.bc_machine.Machine as machines
use Rattle.library_runs.specs.vm_frames.bc_machine.Machine.{begun, opened, run}
use Rattle.trans_laws.specs.bc_scheme.Correct.{IsOpen, IsBehind}
use Rattle.sim_stmt.proofs.Whole.{module_still}

pub open_or_over : (e : End) → (e ≡ Open) ⊎ (is_over e ≡ true)
open_or_over Open = inl refl
open_or_over Ended = inr refl
open_or_over (Raised x) = inr refl
open_or_over (Memory f) = inr refl

module _ (program : Program) (library : Library) (name : Name) where
  same_code : (code : Option Code) (made : Made) (w : PlainWorld) → machines.run_of (begun name code made w) ≡ record { end = Open; world = w }
  same_code (Some code) made w = refl
  same_code None made w = refl

  same_given : (g : Given Made) → machines.run_of (opened library name g) ≡ meanings.run_of (e_then (e_given g 0) (λ made. main_run program made.names))
  same_given (Gives made w) = same_code (code_at library name 0) made w
  same_given (Throws x w) = refl
  same_given (Fills e w) = refl

  module _ (cells bytes : ℕ) (ports : List PortState) where
    pub same_start : run library name cells bytes ports 0 ≡ meaning program cells bytes ports 0
    same_start =
        let w = new_world cells bytes ports in
        let effect = make_module w registered_main in
        let place = part_place (first_file program.main) in
        let nowhere : Place = record { file = []; line = 0; name = [] } in
        let still = module_still w registered_main in
        ap (λ (g : Given Made). machines.run_of (opened library name g)) (still.anywhere nowhere place) ∙ same_given (given place effect)
        ∙ ap (λ (v : ℕ). meanings.run_of (e_then (e_turns v 0 w (e_given (given place effect))) (λ made. main_run program made.names))) (sym still.at_once)

    module _ (ended : (n m : ℕ) → n ≤ m → is_over (run library name cells bytes ports n).end ≡ true → run library name cells bytes ports m ≡ run library name cells bytes ports n)
        (prints : (n m : ℕ) → n ≤ m → Prints (run library name cells bytes ports n).world (run library name cells bytes ports m).world) where
      open_at_start : (n : ℕ) → IsOpen (run library name cells bytes ports n) → IsOpen (run library name cells bytes ports 0)
      open_at_start n o = elim (open_or_over (run library name cells bytes ports 0).end) [
        | inl first ↦ first
        | inr over ↦ ap (λ (r : Run). r.end) (sym (ended 0 n zero-le over)) ∙ o
      ]

      pub early : (n : ℕ) → IsOpen (run library name cells bytes ports n)
          → IsOpen (meaning program cells bytes ports 0) × IsBehind (meaning program cells bytes ports 0) (run library name cells bytes ports n)
      early n o =
          let p : Prints (meaning program cells bytes ports 0).world (run library name cells bytes ports n).world =
          subst (λ (r : Run). Prints r.world (run library name cells bytes ports n).world) same_start (prints 0 n zero-le) in
          (ap (λ (r : Run). r.end) (sym same_start) ∙ open_at_start n o, record { rest = p.more.0; output = p.more.1 })
