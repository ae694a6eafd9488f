-- Whole runs in a world in which something was printed before, and a step that puts a text.
use Rattle.std.proofs.Common.{◌≡◌, ℕ, ◌+◌, ◌<◌, ◌≤◌, List, ◌++◌, sym, ap, ◌∙◌, append_assoc, arith}
use Rattle.std.proofs.lemmas.List.{append_cancel_left}
use Rattle.mpy_tree.specs.mpy_base.World.{PortState}
use Rattle.py_effects.specs.Ends.{Run, new_world}
use Rattle.py_effects.specs.Growth.{Starts, Prints}
use Rattle.bc_machine.specs.Library.{Name, Library}
use Rattle.bc_machine.specs.State.{State}
use Rattle.bc_machine.specs.Step.{step}
use Rattle.bc_machine.specs.Machine.{start, steps, run, run_of}
use Rattle.bc_machine.specs.Behind.{behind, run_behind}
use Rattle.bc_machine.proofs.Steps.{start_behind, steps_behind, run_is_behind}

module _ (library : Library) (name : Name) (cells bytes : ℕ) (ports : List PortState) (front : List ℕ) where
  -- the start behind the text
  abbrev begun : State
  begun = start library name (behind front (new_world cells bytes ports))

  abbrev plain_run : ℕ → Run
  plain_run n = run library name cells bytes ports n

  pub runs_behind : (n : ℕ) → run_of (steps library n begun) ≡ run_behind front (plain_run n)
  runs_behind n =
      let w = new_world cells bytes ports in
      ap (λ (s : State). run_of (steps library n s)) (start_behind front library name w)
      ∙ (ap run_of (steps_behind front library n (start library name w)) ∙ run_is_behind front (steps library n (start library name w)))

  -- what a step puts stands in the output of each longer run
  pub put_stands : ((l : Library) (m n : ℕ) (s : State) → steps l n (steps l m s) ≡ steps l (m + n) s)
      → ((n m : ℕ) → n ≤ m → Prints (plain_run n).world (plain_run m).world)
      → (n most : ℕ) (text : List ℕ) → n < most → (run_of (step library (steps library n begun))).world.output ≡ (run_of (steps library n begun)).world.output ++ text
      → Starts ((plain_run n).world.output ++ text) (plain_run most).world.output
  put_stands on prints n most text less puts =
      let before : (run_of (steps library n begun)).world.output ≡ front ++ (plain_run n).world.output = ap (λ (r : Run). r.world.output) (runs_behind n) in
      let one : step library (steps library n begun) ≡ steps library (n + 1) begun = on library n 1 begun in
      let after : (run_of (step library (steps library n begun))).world.output ≡ front ++ (plain_run (n + 1)).world.output =
      ap (λ (s : State). (run_of s).world.output) one ∙ ap (λ (r : Run). r.world.output) (runs_behind (n + 1)) in
      let both : front ++ (plain_run (n + 1)).world.output ≡ front ++ ((plain_run n).world.output ++ text) =
      sym after ∙ (puts ∙ (ap (λ (out : List ℕ). out ++ text) before ∙ append_assoc front (plain_run n).world.output text)) in
      let more = (prints (n + 1) most (omega (arith, less))).more in
      (more.0, more.1 ∙ ap (λ (out : List ℕ). out ++ more.0) (append_cancel_left front (plain_run (n + 1)).world.output ((plain_run n).world.output ++ text) both))
