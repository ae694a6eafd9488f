-- The command that runs a source which it makes.
use Rattle.std.proofs.Common.{◌≡◌, inl, inr, ℕ, List, ◌++◌, length, Option, Some, None, refl, sym, ap, subst, ◌∙◌}
use Rattle.std.specs.Prelude.{◌-◌, ◌^◌, min, Ok, Err}
use Rattle.std.specs.Io.KnownBytes.{Appends}
use Rattle.mpy_base.specs.declared.room.Room.{Room}
use Rattle.mpy_base.specs.World.{PortState}
use Rattle.mpy_io.specs.Ports.{PortView}
use Rattle.mpy_tree.specs.Raw.{Module}
use Rattle.mpy_tree.specs.Codes.{codes_of}
use Rattle.bc_library.specs.Shelf.{module_at}
use Rattle.meant_commands.specs.run_commands.declared.ready.Ready.{Ready}
use Rattle.meant_commands.specs.run_commands.Ready.{GoLibrary}
use Rattle.meant_commands.specs.run_commands.Run.{EndsRun, sight_in}
use Rattle.meant_commands.specs.run_commands.Stress.{EndsStress, Goes, HasCodes, HasLibrary, Ran, Unloaded, beside, lines, stress_files, stress_name}
use Rattle.tool_laws.specs.Runs.{AnswersOnce, OnFiles, OneRunStatus, RunLaws, SettledRun}
use Rattle.tool_laws.proofs.Running.{run_unmade}
use Rattle.tool_laws.proofs.Settling.{run_once, settled_by}

put_behind : (printed text : List ℕ) (before behind : Option (List ℕ)) → before ≡ Some printed → Appends before behind text → behind ≡ Some (printed ++ text)
put_behind printed text None behind e h = absurd cc
put_behind printed text (Some xs) None e h = absurd h
put_behind printed text (Some xs) (Some ys) e h = let same : xs ≡ printed = cc in ap Some (h ∙ ap (λ (zs : List ℕ). zs ++ text) same)

same_some : (o : Option Module) (a b : Module) → o ≡ Some a → o ≡ Some b → a ≡ b
same_some o a b e f = let both : Some a ≡ Some b = sym e ∙ f in cc

one_count : (ready : Ready) (n k : ℕ) → HasCodes ready n → HasCodes ready k → n ≡ k
one_count ready n k h g =
    h.number_is ∙ (ap (λ (m : Module). min (length (codes_of m)) (2 ^ 64 - 1)) (same_some (module_at ready.library ready.place) h.main g.main h.is_main g.is_main) ∙ sym g.number_is)

module _ (laws : RunLaws) (seed count : ℕ) (once : AnswersOnce (GoLibrary 0 (Some (stress_files seed count)) stress_name)) (room : Room) (steps : ℕ) where
  one_number : (n k : ℕ) → HasLibrary seed count n → HasLibrary seed count k → n ≡ k
  one_number n k h g =
      let same : Ok h.0 ≡ Ok g.0 = once (Ok h.0) (Ok g.0) tt tt h.1 g.1 in
      let ready : h.0 ≡ g.0 = cc in
      one_count g.0 n k (subst (λ (r : Ready). HasCodes r n) ready h.2) g.2

  module _ (printed : List ℕ) (ports : List PortView) (states : List PortState) where
    abbrev Call : ℕ → Type 0
    Call status = SettledRun (EndsStress seed count room steps) printed ports states status

    -- the run of the source behind what was printed
    abbrev Run : List ℕ → ℕ → Type 0
    Run before status = SettledRun (OnFiles (stress_files seed count) (EndsRun (GoLibrary 0) room steps stress_name)) before ports states status

    run_of : (before : List ℕ) (status : ℕ) (x : Call status) (out : Option (List ℕ)) → out ≡ Some before
        → Goes seed count room steps x.old x.new ports x.ports_new status out → Run before status
    run_of before status x out is goes = record {
      old = beside seed count x.old out;
      new = x.new;
      ports_new = x.ports_new;
      out = is;
      told = x.told;
      accounted = x.accounted;
      went = (refl, goes);
      settled = x.settled;
    }

    one_run : (before : List ℕ) (one other : ℕ) → Run before one → Run before other → one ≡ other
    one_run before one other x y = run_once (GoLibrary 0) room steps stress_name (stress_files seed count) before ports states laws once one other x y

    never_both : (status : ℕ) (x : Call status) (u : Unloaded seed count room steps x.old x.new ports x.ports_new status) (number : ℕ) → HasLibrary seed count number → ⊥
    never_both status x u number has =
        let settled = settled_by u.goes.ending status u.goes.status_is x.settled in
        let none = run_unmade (GoLibrary 0 (Some (stress_files seed count)) stress_name) once room steps (sight_in (beside seed count x.old x.old.out) ports) (sight_in x.new x.ports_new)
        u.goes.said u.goes.ending settled u.unloaded u.goes.went in
        let wrong : Ok has.0 ≡ Err u.goes.ending = once (Ok has.0) (Err u.goes.ending) tt settled has.1 none in
        cc

    ran_of : (number status : ℕ) (x : Call status) (r : Ran seed count room steps x.old x.new ports x.ports_new status) → r.number ≡ number → Run (printed ++ lines seed count number) status
    ran_of number status x r same =
        subst (λ (n : ℕ). Run (printed ++ lines seed count n) status) same
        (run_of (printed ++ lines seed count r.number) status x r.printed (put_behind printed (lines seed count r.number) x.old.out r.printed x.out r.prints) r.goes)

    both_stress : (one other : ℕ) (x : Call one) (y : Call other) → EndsStress seed count room steps x.old x.new ports x.ports_new one
        → EndsStress seed count room steps y.old y.new ports y.ports_new other → one ≡ other
    both_stress one other x y (inl u) (inl v) = one_run printed one other (run_of printed one x x.old.out x.out u.goes) (run_of printed other y y.old.out y.out v.goes)
    both_stress one other x y (inl u) (inr (inr r)) = absurd (never_both one x u r.number r.has)
    both_stress one other x y (inr (inr r)) (inl v) = absurd (never_both other y v r.number r.has)
    both_stress one other x y (inr (inr r)) (inr (inr q)) =
        one_run (printed ++ lines seed count q.number) one other (ran_of q.number one x r (one_number r.number q.number r.has q.has)) (ran_of q.number other y q refl)
    both_stress one other x y (inr (inl u)) w = absurd (x.settled.writes u.status_is)
    both_stress one other x y w (inr (inl u)) = absurd (y.settled.writes u.status_is)

  pub one_stress : OneRunStatus (EndsStress seed count room steps)
  one_stress printed ports states one other x y = both_stress printed ports states one other x y x.went y.went
