-- The run of a library that files come to in one way.
use Rattle.std.proofs.Common.{◌≡◌, ◌⊎◌, inl, inr, ℕ, List, map, Option, Some, None, refl, sym, ap, subst, ◌∙◌}
use Rattle.std.specs.Prelude.{Result, Ok, Err}
use Rattle.std.specs.Io.KnownBytes.{Keeps}
use Rattle.mpy_base.specs.declared.room.Room.{Room}
use Rattle.mpy_io.specs.Ports.{PortView}
use Rattle.port_set.specs.Counts.{AreAccounted}
use Rattle.meant_commands.specs.run_commands.library_runs.declared.ending.RunEnd.{RunEnd}
use Rattle.meant_commands.specs.run_commands.library_runs.declared.ending.RunEnd.TheVariants as ends
use Rattle.meant_commands.specs.run_commands.library_runs.Runs.{Sight, IsOver, RunsAs}
use Rattle.mpy_endings.specs.declared.ending.Ending.{Ending}
use Rattle.mpy_endings.specs.declared.ending.Ending.TheVariants.{Done, Unaccepted, Unread, Unverified, Unmerged, Unopened, Unfrozen, Unboarded, Different, Stopped, ReadFault, WriteFault, Unwritten, NoMemory, Absent}
use Rattle.mpy_endings.specs.declared.ending.Stop.TheVariants.{Past, LibraryFault, LibraryUnaccepted, Raised, Memory, Steps, Unsaved, Unresumed}
use Rattle.mpy_endings.specs.Ending.{IsSettled, IsRunStatus, status_of}
use Rattle.meant_commands.specs.run_commands.declared.ready.Ready.{Ready}
use Rattle.meant_commands.specs.run_commands.Run.{IsUnloaded, RanLibrary, Runs, Untouched, ending_of}
use Rattle.meant_commands.specs.Alike.{AreAlike, IsWholeRun, Tells}
use Rattle.tool_laws.specs.Once.{EndOnce}
use Rattle.tool_laws.specs.Runs.{AnswersOnce, RunLaws}

-- runs that ended are over
pub made_end : (end : RunEnd) (steps : ℕ) → IsOver end → IsRunStatus (status_of (ending_of end steps))
made_end ends.Ended steps o = inl refl
made_end ends.Raised steps o = inr (inl refl)
made_end ends.Memory steps o = inr (inr (inr refl))
made_end ends.Limit steps o = inr (inr (inl refl))
made_end ends.WriteFault steps o = absurd o
made_end ends.NoMemory steps o = absurd o

made_loaded : (end : RunEnd) (steps : ℕ) → IsOver end → IsUnloaded (ending_of end steps) → ⊥
made_loaded ends.Ended steps o u = absurd u
made_loaded ends.Raised steps o u = absurd u
made_loaded ends.Memory steps o u = absurd u
made_loaded ends.Limit steps o u = absurd u
made_loaded ends.WriteFault steps o u = absurd o
made_loaded ends.NoMemory steps o u = absurd o

module _ (Comes : Result Ready Ending → Type 0) (room : Room) (steps : ℕ) (old new : Sight) (said : List ℕ) where
  -- the library was run up to an end, or for all steps
  pub record Made (ending : Ending) : Type 0 where
    pub end : RunEnd
    pub over : IsOver end
    pub is : ending ≡ ending_of end steps
    pub ready : Ready
    pub comes : Comes (Ok ready)
    pub runs : RunsAs ready.library ready.main room steps old new end said

  -- or it wasn't loaded
  abbrev pub RunSo : Ending → Type 0
  RunSo ending = Made ending ⊎ (Comes (Err ending) × Untouched old new said)

  made : (end : RunEnd) (ending : Ending) → IsOver end → ending ≡ ending_of end steps → RanLibrary Comes room steps old new said end → RunSo ending
  made end ending over is p = inl (record { end = end; over = over; is = is; ready = p.0; comes = p.1; runs = p.2 })

  pub run_so : (ending : Ending) → IsSettled ending → Runs Comes room steps old new said ending → RunSo ending
  run_so Done s p = made ends.Ended Done tt refl p
  run_so (Unaccepted fault) s p = inr p
  run_so (Unread fault) s p = inr p
  run_so (Unverified fault) s p = inr p
  run_so (Unmerged fault) s p = absurd p
  run_so (Unopened fault) s p = inr p
  run_so (Unfrozen fault) s p = absurd p
  run_so (Unboarded fault) s p = absurd p
  run_so (Different difference) s p = absurd p
  run_so (Stopped (Past limit)) s p = inr p
  run_so (Stopped (LibraryFault path)) s p = inr p
  run_so (Stopped (LibraryUnaccepted source)) s p = inr p
  run_so (Stopped Raised) s p = made ends.Raised (Stopped Raised) tt refl p
  run_so (Stopped Memory) s p = made ends.Memory (Stopped Memory) tt refl p
  run_so (Stopped (Steps count)) s p = made ends.Limit (Stopped (Steps count)) tt (ap (λ (n : ℕ). Stopped (Steps n)) p.1) p.0
  run_so (Stopped Unsaved) s p = absurd p
  run_so (Stopped (Unresumed fault)) s p = absurd p
  run_so ReadFault s p = inr p
  run_so WriteFault s p = absurd s
  run_so Unwritten s p = absurd p
  run_so NoMemory s p = absurd s
  run_so Absent s p = inr p

-- two runs that begin alike
module _ (laws : RunLaws) (Comes : Result Ready Ending → Type 0) (once : AnswersOnce Comes) (room : Room) (steps : ℕ) (old new_a new_b : Sight) (said_a said_b : List ℕ)
    (tells : Tells old) (accounted_a : AreAccounted old.ports new_a.ports) (accounted_b : AreAccounted old.ports new_b.ports) where
  abbrev A : Ending → Type 0
  A ending = RunSo Comes room steps old new_a said_a ending

  abbrev B : Ending → Type 0
  B ending = RunSo Comes room steps old new_b said_b ending

  same_ready : (a b : Ready) → Comes (Ok a) → Comes (Ok b) → a ≡ b
  same_ready a b h k = let same : Ok a ≡ Ok b = once (Ok a) (Ok b) tt tt h k in cc

  never_both : (ready : Ready) (ending : Ending) → IsSettled ending → Comes (Ok ready) → Comes (Err ending) → ⊥
  never_both ready ending s h k = let same : Ok ready ≡ Err ending = once (Ok ready) (Err ending) tt s h k in cc

  whole_a : (ending : Ending) (h : Made Comes room steps old new_a said_a ending) → IsWholeRun h.ready.library h.ready.main room steps old new_a h.end said_a
  whole_a ending h = record { runs = h.runs; over = h.over; accounted = accounted_a }

  whole_b : (ending : Ending) (ready : Ready) (k : Made Comes room steps old new_b said_b ending) → k.ready ≡ ready → IsWholeRun ready.library ready.main room steps old new_b k.end said_b
  whole_b ending ready k e = subst (λ (r : Ready). IsWholeRun r.library r.main room steps old new_b k.end said_b) e (record { runs = k.runs; over = k.over; accounted = accounted_b })

  both_run : (one other : Ending) → IsSettled one → IsSettled other → A one → B other → one ≡ other
  both_run one other s t (inl h) (inl k) =
      let ready = same_ready k.ready h.ready k.comes h.comes in
      let end = laws.end h.ready.library h.ready.main room steps old new_a new_b h.end k.end said_a said_b tells (whole_a one h) (whole_b other h.ready k ready) in
      h.is ∙ (ap (λ (e : RunEnd). ending_of e steps) end ∙ sym k.is)
  both_run one other s t (inl h) (inr k) = absurd (never_both h.ready other t h.comes k.0)
  both_run one other s t (inr h) (inl k) = absurd (never_both k.ready one s k.comes h.0)
  both_run one other s t (inr h) (inr k) = let same : Err one ≡ Err other = once (Err one) (Err other) s t h.0 k.0 in cc

  pub one_run : EndOnce (Runs Comes room steps old new_a said_a) (Runs Comes room steps old new_b said_b)
  one_run = λ one other s t p q. both_run one other s t (run_so Comes room steps old new_a said_a one s p) (run_so Comes room steps old new_b said_b other t q)

  -- what is printed and said, and what the ports have behind them
  kept : (printed : List ℕ) (before a b : Option (List ℕ)) → before ≡ Some printed → Keeps before a → Keeps before b → a ≡ b
  kept printed None a b e h k = absurd cc
  kept printed (Some xs) None b e h k = absurd h
  kept printed (Some xs) (Some ys) None e h k = absurd k
  kept printed (Some xs) (Some ys) (Some zs) e h k = ap Some (h ∙ sym k)

  both_alike : (one other : Ending) → IsSettled one → IsSettled other → A one → B other → AreAlike new_a new_b × (said_a ≡ said_b)
  both_alike one other s t (inl h) (inl k) =
      let ready = same_ready k.ready h.ready k.comes h.comes in
      let a = whole_a one h in
      let b = whole_b other h.ready k ready in (
        laws.alike h.ready.library h.ready.main room steps old new_a new_b h.end k.end said_a said_b tells a b,
        laws.said h.ready.library h.ready.main room steps old new_a new_b h.end k.end said_a said_b tells a b,
      )
  both_alike one other s t (inl h) (inr k) = absurd (never_both h.ready other t h.comes k.0)
  both_alike one other s t (inr h) (inl k) = absurd (never_both k.ready one s k.comes h.0)
  both_alike one other s t (inr h) (inr k) = (
    record {
      out = kept tells.printed old.out new_a.out new_b.out tells.out h.1.prints k.1.prints;
      ports = ap (λ (views : List PortView). map (λ (view : PortView). view.told) views) (h.1.ports ∙ sym k.1.ports);
    },
    h.1.says ∙ sym k.1.says,
  )

  pub alike : (one other : Ending) → IsSettled one → IsSettled other → Runs Comes room steps old new_a said_a one → Runs Comes room steps old new_b said_b other
      → AreAlike new_a new_b × (said_a ≡ said_b)
  alike one other s t p q = both_alike one other s t (run_so Comes room steps old new_a said_a one s p) (run_so Comes room steps old new_b said_b other t q)

-- a run whose library is loaded was made
module _ (Comes : Result Ready Ending → Type 0) (once : AnswersOnce Comes) (room : Room) (steps : ℕ) (old new : Sight) (said : List ℕ) where
  pub run_made : (ready : Ready) (ending : Ending) → Comes (Ok ready) → IsSettled ending → Runs Comes room steps old new said ending → IsRunStatus (status_of ending)
  run_made ready ending comes s p = by (run_so Comes room steps old new said ending s p) where
    by : RunSo Comes room steps old new said ending → IsRunStatus (status_of ending)
    by (inl h) = subst (λ (e : Ending). IsRunStatus (status_of e)) (sym h.is) (made_end h.end steps h.over)
    by (inr h) = let wrong : Ok ready ≡ Err ending = once (Ok ready) (Err ending) tt s comes h.0 in absurd cc

  pub run_unmade : (ending : Ending) → IsSettled ending → IsUnloaded ending → Runs Comes room steps old new said ending → Comes (Err ending)
  run_unmade ending s u p = by (run_so Comes room steps old new said ending s p) where
    by : RunSo Comes room steps old new said ending → Comes (Err ending)
    by (inl h) = absurd (made_loaded h.end steps h.over (subst IsUnloaded h.is u))
    by (inr h) = h.0
