-- A program runs on the machine as it means: where it ends, and with what output while it is open.
use Rattle.std.proofs.Common.{◌≡◌, ℕ, zero, suc, ◌+◌, ◌-◌, ◌*◌, ◌<◌, ◌≤◌, [], ◌++◌, append-nil, refl, sym, ap, ◌∙◌, subst, inl, inr, arith, mul-le-mul_left}
use Rattle.std.proofs.lemmas.Bool.{cases_lt}
use Rattle.bc_scheme.specs.mpy_base.World.{PortState}
use Rattle.bc_scheme.specs.mpy_base.Val.{Val, PlainWorld}
use Rattle.std.specs.Prelude.{List, Some}
use Rattle.bc_scheme.specs.py_effects.Effect.{Place, Given, Gives, Throws, Fills, given}
use Rattle.bc_scheme.specs.py_effects.Growth.{Prints}
use Rattle.bc_scheme.specs.py_effects.Modules.{Made, make_module}
use Rattle.bc_scheme.specs.py_effects.Ends.{End, Open, Ended, Raised, Memory, new_world}
use Rattle.bc_scheme.specs.py_meaning.Program.{Program, first_file, registered_main}
use Rattle.bc_scheme.specs.py_meaning.Outcomes.{Out, EVal, EExc, EOpen, EFull, e_then, e_given, e_turns, e_does}
use Rattle.bc_scheme.specs.py_meaning.Imports.{part_place, run_unit}
use Rattle.bc_scheme.specs.py_meaning.Meaning as meanings
use Rattle.bc_scheme.specs.py_meaning.Meaning.{sem, main_run}
use Rattle.bc_scheme.specs.py_meaning.Bounds.{left_e}
use Rattle.bc_scheme.specs.bc_machine.Library.{Code, Library, code_at}
use Rattle.bc_scheme.specs.bc_machine.State.{Main, State, Running, Halted, Stuck}
use Rattle.bc_scheme.specs.bc_machine.Machine as machines
use Rattle.bc_scheme.specs.bc_machine.Machine.{steps, begun, opened, start}
use Rattle.bc_scheme.specs.bc_machine.Growth.{world_of}
use Rattle.bc_scheme.proofs.bc_machine_lemmas.Laws as laws
use Rattle.bc_scheme.proofs.bc_machine_lemmas.Laws.{steps_print}
use Rattle.bc_scheme.specs.Correct.{HasEnded, IsOpen, IsBehind, Behaves}
use Rattle.sim_stmt.specs.Order.{InOrder}
use Rattle.sim_stmt.specs.Lands.{IsGoing}
use Rattle.sim_stmt.proofs.Goes.{Reaches, start_order}
use Rattle.sim_stmt.proofs.Blocks.{IsUnit, Coded, Started}
use Rattle.sim_stmt.proofs.Stmts.{sims}
use Rattle.sim_stmt.proofs.Units.{LandsU, unit_sim}
use Rattle.sim_stmt.proofs.Whole.{module_still}

-- ---- states and ends

-- how the run stands when the main module's code is done
abbrev pub EndsAs : Out Val → State → Type 0
EndsAs = LandsU Main []

ended_is : Ended ≡ Open → ⊥
ended_is e = cc e

raised_is : (x : ℕ) → Raised x ≡ Open → ⊥
raised_is x e = cc e

memory_is : (f : Rattle.bc_scheme.specs.mpy_base.declared.room.NoRoom.NoRoom) → Memory f ≡ Open → ⊥
memory_is f e = cc e

over_halt : (s : State) → HasEnded (machines.run_of s) → s ≡ Halted (machines.run_of s).end (machines.run_of s).world
over_halt (Running paid f frames w) h = absurd (h refl)
over_halt (Halted e w) h = refl
over_halt (Stuck w) h = absurd (h refl)

run_world : (s : State) → (machines.run_of s).world ≡ world_of s
run_world (Running paid f frames w) = refl
run_world (Halted e w) = refl
run_world (Stuck w) = refl

going_world : (w : PlainWorld) (s : State) → IsGoing w s → world_of s ≡ w
going_world w (Running paid f frames w1) g = g
going_world w (Halted e w1) g = absurd g
going_world w (Stuck w1) g = absurd g

-- outputs that go on
behind : (a b : PlainWorld) → Prints a b → (rest : List ℕ) × (b.output ≡ a.output ++ rest)
behind a b p = p.more

module _ (library : Library) (K : ℕ) (s : State) where
  stays : (m n : ℕ) (e : End) (w : PlainWorld) → m ≤ n → steps library m s ≡ Halted e w → steps library n s ≡ Halted e w
  stays m n e w le p = laws.ahead library m n s le ∙ ap (steps library (n - m)) p ∙ laws.stays library (n - m) e w

  longer : (m n : ℕ) → m ≤ n → Prints (world_of (steps library m s)) (world_of (steps library n s))
  longer m n le = subst (λ u. Prints (world_of (steps library m s)) (world_of u)) (sym (laws.ahead library m n s le)) (steps_print library (n - m) (steps library m s))

  two_ends : (m n : ℕ) (e e1 : End) (w w1 : PlainWorld) → steps library m s ≡ Halted e w → steps library n s ≡ Halted e1 w1 → Halted e w ≡ Halted e1 w1
  two_ends m n e e1 w w1 p q = elim (cases_lt m n) [
    | inl lt ↦ sym (stays m n e w (omega (arith, lt)) p) ∙ q
    | inr ge ↦ sym p ∙ stays n m e1 w1 ge q
  ]

  -- a bound of turns at which the meaning has ended, or was followed for more than n steps
  abbrev pub enough : ℕ → ℕ
  enough n = K * n + K + 1 + n

  followed : (n by : ℕ) → enough n ≤ K * by + K → n < by
  followed n by le = elim (cases_lt n by) [
    | inl lt ↦ lt
    | inr ge ↦ absurd (omega (arith, le, mul-le-mul_left K ge))
  ]

  abbrev Followed : ℕ → Out Val → Type 0
  Followed t r = Reaches library K (EndsAs r) s t (left_e r) 0 0 2 K

  -- ---- where the meaning ended

  ended_later : (t n : ℕ) (r : Out Val) (e : End) (w : PlainWorld) (by : ℕ) → meanings.run_of r ≡ machines.run_of (Halted e w) → by ≤ n → steps library by s ≡ Halted e w → machines.run_of (steps library n s) ≡ meanings.run_of r
  ended_later t n r e w by same le p = ap machines.run_of (stays by n e w le p) ∙ sym same

  ended_now : (n : ℕ) (r : Out Val) (e : End) (w : PlainWorld) (by : ℕ) → meanings.run_of r ≡ machines.run_of (Halted e w) → steps library by s ≡ Halted e w → HasEnded (machines.run_of (steps library n s))
      → machines.run_of (steps library n s) ≡ meanings.run_of r
  ended_now n r e w by same p h = ap machines.run_of (sym (two_ends by n e _ w _ p (over_halt (steps library n s) h))) ∙ sym same

  -- the output after n steps is a front of that of an ended run
  ended_out : (n by : ℕ) (e : End) (w : PlainWorld) → steps library by s ≡ Halted e w → Prints (world_of (steps library n s)) w
  ended_out n by e w p = elim (cases_lt n by) [
    | inl lt ↦ subst (λ u. Prints (world_of (steps library n s)) (world_of u)) p (longer n by (omega (arith, lt)))
    | inr ge ↦ subst (λ u. Prints (world_of u) w) (sym (stays by n e w ge p)) (record { more = ([], sym (append-nil w.output)) })
  ]

  -- ---- the four fields

  ends_by : (t n : ℕ) (r : Out Val) → Followed t r → HasEnded (meanings.run_of r) → 16 * t + 16 ≤ n → machines.run_of (steps library n s) ≡ meanings.run_of r
  ends_by t n (EVal v t1 w) g h le = ended_later t n (EVal v t1 w) Ended w g.by refl (omega (arith, g.few, le)) g.lands
  ends_by t n (EExc x t1 w) g h le = ended_later t n (EExc x t1 w) (Raised x) w g.by refl (omega (arith, g.few, le)) g.lands
  ends_by t n (EOpen w) g h le = absurd (h refl)
  ends_by t n (EFull f t1 w) g h le = ended_later t n (EFull f t1 w) (Memory f) w g.by refl (omega (arith, g.few, le)) g.lands

  only_by : (n : ℕ) (r : Out Val) → Followed (enough n) r → HasEnded (machines.run_of (steps library n s)) → machines.run_of (steps library n s) ≡ meanings.run_of r
  only_by n (EVal v t1 w) g h = ended_now n (EVal v t1 w) Ended w g.by refl g.lands h
  only_by n (EExc x t1 w) g h = ended_now n (EExc x t1 w) (Raised x) w g.by refl g.lands h
  only_by n (EOpen w) g h =
      let lt = followed n g.by (omega (arith, g.many)) in
      absurd (subst (IsGoing w) (stays n g.by _ _ (omega (arith, lt)) (over_halt (steps library n s) h)) g.lands)
  only_by n (EFull f t1 w) g h = ended_now n (EFull f t1 w) (Memory f) w g.by refl g.lands h

  not_open : (t n : ℕ) (r : Out Val) → Followed t r → HasEnded (meanings.run_of r) → 16 * t + 16 ≤ n → IsOpen (machines.run_of (steps library n s)) → ⊥
  not_open t n r g h le o = h (sym (ap (λ (u : Rattle.bc_scheme.specs.py_effects.Ends.Run). u.end) (ends_by t n r g h le)) ∙ o)

  open_by : (t n : ℕ) (r : Out Val) → Followed t r → IsOpen (machines.run_of (steps library n s)) → 16 * t + 16 ≤ n → IsOpen (meanings.run_of r) × IsBehind (meanings.run_of r) (machines.run_of (steps library n s))
  open_by t n (EVal v t1 w) g o le = absurd (not_open t n (EVal v t1 w) g ended_is le o)
  open_by t n (EExc x t1 w) g o le = absurd (not_open t n (EExc x t1 w) g (raised_is x) le o)
  open_by t n (EOpen w) g o le =
      let a : Prints w (world_of (steps library n s)) = subst (λ u. Prints u (world_of (steps library n s))) (going_world w (steps library g.by s) g.lands) (longer g.by n (omega (arith, g.few, le))) in
      let b : Prints w (machines.run_of (steps library n s)).world = subst (λ u. Prints w u) (sym (run_world (steps library n s))) a in
      (refl, record { rest = b.more.0; output = b.more.1 })
  open_by t n (EFull f t1 w) g o le = absurd (not_open t n (EFull f t1 w) g (memory_is f) le o)

  out_by : (n : ℕ) (r : Out Val) → Followed (enough n) r → Prints (world_of (steps library n s)) (meanings.run_of r).world
  out_by n (EVal v t1 w) g = ended_out n g.by Ended w g.lands
  out_by n (EExc x t1 w) g = ended_out n g.by (Raised x) w g.lands
  out_by n (EOpen w) g =
      let lt = followed n g.by (omega (arith, g.many)) in
      subst (λ u. Prints (world_of (steps library n s)) u) (going_world w (steps library g.by s) g.lands) (longer n g.by (omega (arith, lt)))
  out_by n (EFull f t1 w) g = ended_out n g.by (Memory f) w g.lands

  ahead_by : (n : ℕ) (r : Out Val) → Followed (enough n) r → IsBehind (machines.run_of (steps library n s)) (meanings.run_of r)
  ahead_by n r g =
      let a : Prints (machines.run_of (steps library n s)).world (meanings.run_of r).world = subst (λ u. Prints u (meanings.run_of r).world) (sym (run_world (steps library n s))) (out_by n r g) in
      record { rest = a.more.0; output = a.more.1 }

-- ---- a program, by its main unit

module _ (program : Program) (library : Library) (K : ℕ) (some : 1 ≤ K) (coded : Coded program library K) (started : Started program library K) where
  module _ (code : Code) (of_code : code_at library program.main_name 0 ≡ Some code) (is : IsUnit library K (first_file program.main) program.main_name 0 program.main) where
    from_given : (t : ℕ) (g : Given Made) → InOrder library (opened library program.main_name g)
        → Followed library K (opened library program.main_name g) t (e_then (e_given g t) (λ made. main_run program made.names))
    from_given zero (Gives made w) order =
        subst (λ c. Followed library K (begun program.main_name c made w) 0 (EOpen w)) (sym of_code) (record { by = 0; few = omega arith; many = omega arith; falls = omega arith; lands = refl })
    from_given (suc t) (Gives made w) order =
        let r = run_unit (sem program (suc t)).exec (first_file program.main) program.main_name made.names program.main 0 1 (suc t) w in
        subst (λ c. Followed library K (begun program.main_name c made w) (suc t) r) (sym of_code)
        ((unit_sim program library K some (suc t) ((sims program library K some coded started (suc t)).s) (first_file program.main) program.main_name made.names 0 1 program.main is Main [] refl code of_code (suc t) w (omega arith)).from
        (subst (λ c. InOrder library (begun program.main_name c made w)) of_code order))
    from_given t (Throws x w) order = record { by = 0; few = omega arith; many = omega arith; falls = omega arith; lands = refl }
    from_given t (Fills e w) order = record { by = 0; few = omega arith; many = omega arith; falls = omega arith; lands = refl }

    module _ (cells bytes : ℕ) (ports : List PortState) where
      abbrev world : PlainWorld
      world = new_world cells bytes ports

      abbrev from : State
      from = start library program.main_name world

      abbrev outcome : ℕ → Out Val
      outcome t = e_then (e_does (part_place (first_file program.main)) (make_module world registered_main) t world) (λ made. main_run program made.names)

      is_followed : (t : ℕ) → Followed library K from t (outcome t)
      is_followed t =
          let effect = make_module world registered_main in
          let place = part_place (first_file program.main) in
          let nowhere : Place = record { file = []; line = 0; name = [] } in
          let still = module_still world registered_main in
          let order : InOrder library from = start_order library program.main_name cells bytes ports in
          subst (λ v. Followed library K from t (e_then (e_turns v t world (e_given (given place effect))) (λ made. main_run program made.names))) (sym still.at_once)
          (subst (λ g. Followed library K (opened library program.main_name g) t (e_then (e_given (given place effect) t) (λ made. main_run program made.names))) (sym (still.anywhere nowhere place))
          (from_given t (given place effect) (subst (λ g. InOrder library (opened library program.main_name g)) (still.anywhere nowhere place) order)))

      -- the machine runs the library as the program means
      pub behaves : Behaves program library cells bytes ports
      behaves = record {
        ends = λ t n h le. ends_by library K from t n (outcome t) (is_followed t) h le;
        ends_only = λ n h. (enough library K from n, only_by library K from n (outcome (enough library K from n)) (is_followed (enough library K from n)) h);
        still_open = λ t n o le. open_by library K from t n (outcome t) (is_followed t) o le;
        ahead = λ n. (enough library K from n, omega arith, ahead_by library K from n (outcome (enough library K from n)) (is_followed (enough library K from n)));
      }
