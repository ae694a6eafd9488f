use Rattle.bc_refusals.specs.Views.{Passed}
use Rattle.bc_refusals.proofs.order.next_waiting.Given as goal

abbrev pub invariant-loop-p : goal.invariant-loop-p
invariant-loop-p l = Passed l.came l.gone l.p
