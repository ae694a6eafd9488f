-- The command that writes the file of a source.
use Rattle.std.proofs.Common.{◌≡◌, ◌⊎◌, inl, inr, ℕ, List, Option, Some, refl, sym, ap, subst, ◌∙◌}
use Rattle.mpy_base.specs.declared.source.SourceFault.{SourceFault}
use Rattle.mpy_io.specs.Files.{FileOf}
use Rattle.command_files.specs.mpy_compile.Compiled.{CompilesTo, IsFault}
use Rattle.mpy_endings.specs.declared.ending.Ending.{Ending}
use Rattle.mpy_endings.specs.declared.ending.Ending.TheVariants.{Done, Unaccepted, Unread, Unverified, Unmerged, Unopened, Unfrozen, Unboarded, Different, Stopped, ReadFault, WriteFault, Unwritten, NoMemory, Absent}
use Rattle.mpy_endings.specs.Ending.{IsSettled}
use Rattle.command_files.specs.Source.{HoldsFaulty}
use Rattle.meant_commands.specs.file_commands.Cross.{Crosses, HoldsCompiled}
use Rattle.tool_laws.specs.Laws.{SourceLaws}
use Rattle.tool_laws.specs.Once.{EndOnce, IsDone}
use Rattle.tool_laws.proofs.Opened.{AtAbsent, none_there, same_content}

module _ (own : SourceLaws) (level : ℕ) (files : FileOf) (name stored : List ℕ) where
  -- it is written, or the source isn't accepted, or absent
  abbrev CrossedSo : Ending → Type 0
  CrossedSo ending =
      ((ending ≡ Done) × (bytes : List ℕ) × HoldsCompiled level (Some files) name stored bytes)
      ⊎ (((fault : SourceFault) × (ending ≡ Unaccepted fault) × HoldsFaulty level (Some files) name stored fault) ⊎ AtAbsent files name ending)

  crossed_so : (written : List ℕ) (new : Option FileOf) (ending : Ending) → IsSettled ending → Crosses level name stored written (Some files) new ending → CrossedSo ending
  crossed_so written new Done s p = inl (refl, p.0, p.1)
  crossed_so written new (Unaccepted fault) s p = inr (inl (fault, refl, p.0))
  crossed_so written new (Unread fault) s p = absurd p
  crossed_so written new (Unverified fault) s p = absurd p
  crossed_so written new (Unmerged fault) s p = absurd p
  crossed_so written new (Unopened fault) s p = absurd p
  crossed_so written new (Unfrozen fault) s p = absurd p
  crossed_so written new (Unboarded fault) s p = absurd p
  crossed_so written new (Different difference) s p = absurd p
  crossed_so written new (Stopped stop) s p = absurd p
  crossed_so written new ReadFault s p = absurd s
  crossed_so written new WriteFault s p = absurd s
  crossed_so written new Unwritten s p = absurd s
  crossed_so written new NoMemory s p = absurd s
  crossed_so written new Absent s p = inr (inr (record { is = refl; at = p.0 }))

  never_faulty : (bytes : List ℕ) (fault : SourceFault) → HoldsCompiled level (Some files) name stored bytes → HoldsFaulty level (Some files) name stored fault → ⊥
  never_faulty bytes fault h k =
      let source = same_content (files name) h.source k.source h.holds k.holds in
      own.not_both level k.source stored bytes fault (subst (λ (z : List ℕ). CompilesTo level z stored bytes) source h.compiles) k.is

  both_crossed : (one other : Ending) → CrossedSo one → CrossedSo other → one ≡ other
  both_crossed one other (inl x) (inl y) = x.0 ∙ sym y.0
  both_crossed one other (inl x) (inr (inl y)) = absurd (never_faulty x.1 y.0 x.2 y.2)
  both_crossed one other (inl x) (inr (inr y)) = absurd (none_there (files name) x.2.source y.at x.2.holds)
  both_crossed one other (inr (inl x)) (inl y) = absurd (never_faulty y.1 x.0 y.2 x.2)
  both_crossed one other (inr (inl x)) (inr (inl y)) =
      let source = same_content (files name) x.2.source y.2.source x.2.holds y.2.holds in
      let first = subst (λ (z : List ℕ). IsFault level z stored x.0) source x.2.is in
      x.1 ∙ (ap Unaccepted (own.one_fault level y.2.source stored x.0 y.0 first y.2.is) ∙ sym y.1)
  both_crossed one other (inr (inl x)) (inr (inr y)) = absurd (none_there (files name) x.2.source y.at x.2.holds)
  both_crossed one other (inr (inr x)) (inl y) = absurd (none_there (files name) y.2.source x.at y.2.holds)
  both_crossed one other (inr (inr x)) (inr (inl y)) = absurd (none_there (files name) y.2.source x.at y.2.holds)
  both_crossed one other (inr (inr x)) (inr (inr y)) = x.is ∙ sym y.is

  pub one_cross : (written : List ℕ) (a b : Option FileOf) → EndOnce (Crosses level name stored written (Some files) a) (Crosses level name stored written (Some files) b)
  one_cross written a b = λ one other s t p q. both_crossed one other (crossed_so written a one s p) (crossed_so written b other t q)

  pub one_compiled : (one other : List ℕ) → HoldsCompiled level (Some files) name stored one → HoldsCompiled level (Some files) name stored other → one ≡ other
  one_compiled one other h k =
      let source = same_content (files name) h.source k.source h.holds k.holds in
      own.one_file level k.source stored one other (subst (λ (z : List ℕ). CompilesTo level z stored one) source h.compiles) k.compiles

  pub cross_done : (written bytes : List ℕ) (new : Option FileOf) → HoldsCompiled level (Some files) name stored bytes → IsDone (Crosses level name stored written (Some files) new)
  cross_done written bytes new h = λ ending s p. both_crossed ending Done (crossed_so written new ending s p) (inl (refl, bytes, h))

  pub accepted_done : (source written : List ℕ) (new : Option FileOf) → files name ≡ Some source → ((fault : SourceFault) → IsFault level source stored fault → ⊥)
      → IsDone (Crosses level name stored written (Some files) new)
  accepted_done source written new at none = λ ending s p. by ending (crossed_so written new ending s p) where
    by : (ending : Ending) → CrossedSo ending → ending ≡ Done
    by ending (inl x) = x.0
    by ending (inr (inl x)) =
        let same = same_content (files name) x.2.source source x.2.holds at in
        absurd (none x.0 (subst (λ (z : List ℕ). IsFault level z stored x.0) same x.2.is))
    by ending (inr (inr x)) = absurd (none_there (files name) source x.at at)
