-- What is paid in a state is paid in each that differs from it by the numbers of its objects alone.
use Rattle.std.proofs.Common.{◌≡◌, ℕ, suc, List, [], ◌∷◌, length, map, Option, refl, sym, ap, ap₂, ◌∙◌, subst, arith}
use Rattle.mpy_base.specs.World.{Object, PortState, object}
use Rattle.mpy_base.specs.Val.{Val, PlainWorld}
use Rattle.bc_machine.specs.py_values.Shown.{PlainHeap}
use Rattle.bc_machine.specs.Library.{Library}
use Rattle.bc_machine.specs.State.{State, Running, Halted, Stuck}
use Rattle.bc_machine.specs.Step.{step}
use Rattle.snap_laws.specs.Renamed.{Renaming, IsRenamed}
use Rattle.snap_laws.specs.Worlds.{IsWorld}
use Rattle.snap_laws.specs.States.{frame_as, IsState, runs, halts, sticks, KeepsConstants}
use Rattle.snap_laws.specs.Kept.{IsPaid}

-- lists of objects that have the same ones
same_objects : (xs ys : List (Option (Object Val (List ℕ)))) → length xs ≡ length ys → ((n : ℕ) → object xs n ≡ object ys n) → xs ≡ ys
same_objects [] [] long each = refl
same_objects [] (y ∷ ys) long each = absurd (omega (arith, long))
same_objects (x ∷ xs) [] long each = absurd (omega (arith, long))
same_objects (x ∷ xs) (y ∷ ys) long each = ap₂ (λ a b. a ∷ b) (each 0) (same_objects xs ys (omega (arith, long)) (λ n. each (suc n)))

module _ (r : Renaming) where
  -- a heap with other numbers is one
  heap_once : (h k l : PlainHeap) → IsRenamed r h k → IsRenamed r h l → k ≡ l
  heap_once h k l a b =
      let make : List (Option (Object Val (List ℕ))) → ℕ → ℕ → ℕ → PlainHeap = λ o bytes cells size. record { objects = o; bytes = bytes; cell_size = cells; byte_size = size } in
      let each : (n : ℕ) → object k.objects n ≡ object l.objects n =
      λ n. ap (object k.objects) (sym (r.forth n)) ∙ (a.objects (r.from n) ∙ (sym (b.objects (r.from n)) ∙ ap (object l.objects) (r.forth n))) in
      let objects : k.objects ≡ l.objects = same_objects k.objects l.objects (a.cells ∙ sym b.cells) each in
      ap (λ z. make z k.bytes k.cell_size k.byte_size) objects
      ∙ (ap (λ z. make l.objects z k.cell_size k.byte_size) (a.bytes ∙ sym b.bytes)
      ∙ ap₂ (λ c d. make l.objects l.bytes c d) (a.cell_size ∙ sym b.cell_size) (a.byte_size ∙ sym b.byte_size))

  world_once : (w u v : PlainWorld) → IsWorld r w u → IsWorld r w v → u ≡ v
  world_once w u v a b =
      let make : PlainHeap → List (List ℕ × ℕ) → List PortState → List ℕ → PlainWorld = λ h m p o. record { heap = h; modules = m; ports = p; output = o } in
      ap₂ (λ h m. make h m u.ports u.output) (heap_once w.heap u.heap v.heap a.heap b.heap) (a.modules ∙ sym b.modules)
      ∙ ap₂ (λ p o. make v.heap v.modules p o) (a.ports ∙ sym b.ports) (a.output ∙ sym b.output)

  -- what differs from a running state by numbers
  abbrev Form : State → State → Type 0
  Form (Running paid frame frames w) t = (u : PlainWorld) × IsWorld r w u × (t ≡ Running paid (frame_as r frame) (map (frame_as r) frames) u)
  Form (Halted end w) t = Unit {0}
  Form (Stuck w) t = Unit {0}

  form : (s t : State) → IsState r s t → Form s t
  form _ _ (runs {paid = paid} {frame = frame} {frames = frames} {w = w} {u = u} is) = (u, is, refl)
  form _ _ (halts is) = tt
  form _ _ (sticks is) = tt

  module _ (library : Library) (keeps : KeepsConstants r library) (moves : (s t : State) → IsState r s t → IsState r (step library s) (step library t)) where
    pub paid_as : (s t : State) → IsState r s t → IsPaid library s → IsPaid library t
    paid_as _ _ (runs {paid = paid} {frame = frame} {frames = frames} {w = w} {u = u} is) pays = λ k lt.
        let other : ℕ → PlainWorld → State = λ n v. Running n (frame_as r frame) (map (frame_as r) frames) v in
        let moved : IsState r (Running (suc k) frame frames w) (step library (other k u)) =
        subst (λ (z : State). IsState r z (step library (other k u))) (pays k lt) (moves (Running k frame frames w) (other k u) (runs is)) in
        let f = form (Running (suc k) frame frames w) (step library (other k u)) moved in
        f.2 ∙ ap (other (suc k)) (world_once w f.0 u f.1 is)
    paid_as _ _ (halts is) pays = tt
    paid_as _ _ (sticks is) pays = tt
