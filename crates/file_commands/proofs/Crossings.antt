-- How writing the file of a source ends: in one way.
use Rattle.std.proofs.Common.{◌≡◌, ◌<◌, ℕ, Bool, true, false, if◌then◌else◌, ltb, get_or, List, Option, Some, None, refl, ap, sym, subst, ◌∙◌, arith}
use Rattle.std.proofs.lemmas.Bool.{ltb-true}
use Rattle.std.proofs.lemmas.List.Elements.{All-map}
use Rattle.mpy_base.specs.declared.source.SourceFault.{SourceFault}
use Rattle.mpy_io.specs.Files.{FileOf}
use Rattle.command_files.specs.mpy_writer.mpy_tree.File.{IsAscii}
use Rattle.command_files.specs.mpy_compile.Compiled.{CompilesTo}
use Rattle.command_files.specs.mpy_compile.Compiled as made
use Rattle.command_files.specs.mpy_endings.declared.ending.Ending.{Ending}
use Rattle.command_files.specs.mpy_endings.declared.ending.Ending.TheVariants.{Done, Unaccepted, Unread, Unverified, Unmerged, Unopened, Unfrozen, Unboarded, Different, Stopped, ReadFault, WriteFault, Unwritten, NoMemory, Absent}
use Rattle.command_files.specs.mpy_endings.Ending.{IsSettled}
use Rattle.file_commands.specs.Cross.{Crosses}
use Rattle.command_files.specs.source_files.Sources.{ascii_of, stored}

-- ---- one ending

same_source : (file : FileOf) (name a b : List ℕ) → file name ≡ Some a → file name ≡ Some b → a ≡ b
same_source file name a b p q = let same : Some a ≡ Some b = sym p ∙ q in cc

-- an ending that the file under the name determines, by the sources that are accepted and the faults of the others
abbrev Judged : (List ℕ → Type 0) → (List ℕ → SourceFault → Type 0) → FileOf → List ℕ → Ending → Type 0
Judged Good Bad file name Done = (source : List ℕ) × (file name ≡ Some source) × Good source
Judged Good Bad file name (Unaccepted fault) = (source : List ℕ) × (file name ≡ Some source) × Bad source fault
Judged Good Bad file name (Unread fault) = ⊥
Judged Good Bad file name (Unverified fault) = ⊥
Judged Good Bad file name (Unmerged fault) = ⊥
Judged Good Bad file name (Unopened fault) = ⊥
Judged Good Bad file name (Unfrozen fault) = ⊥
Judged Good Bad file name (Unboarded fault) = ⊥
Judged Good Bad file name (Different difference) = ⊥
Judged Good Bad file name (Stopped stop) = ⊥
Judged Good Bad file name ReadFault = ⊥
Judged Good Bad file name WriteFault = ⊥
Judged Good Bad file name Unwritten = ⊥
Judged Good Bad file name NoMemory = ⊥
Judged Good Bad file name Absent = file name ≡ None

one_judged : (Good : List ℕ → Type 0) (Bad : List ℕ → SourceFault → Type 0)
    → ((source : List ℕ) (fault : SourceFault) → Good source → Bad source fault → ⊥)
    → ((source : List ℕ) (f g : SourceFault) → Bad source f → Bad source g → f ≡ g)
    → (file : FileOf) (name : List ℕ) (a b : Ending) → Judged Good Bad file name a → Judged Good Bad file name b → a ≡ b
one_judged Good Bad apart one file name Done Done p q = refl
one_judged Good Bad apart one file name Done (Unaccepted f) p q = absurd (apart q.0 f (subst Good (same_source file name p.0 q.0 p.1 q.1) p.2) q.2)
one_judged Good Bad apart one file name Done Absent p q = absurd (let same = sym p.1 ∙ q in cc)
one_judged Good Bad apart one file name (Unaccepted f) Done p q = absurd (apart p.0 f (subst Good (same_source file name q.0 p.0 q.1 p.1) q.2) p.2)
one_judged Good Bad apart one file name (Unaccepted f) (Unaccepted g) p q =
    ap Unaccepted (one q.0 f g (subst (λ (source : List ℕ). Bad source f) (same_source file name p.0 q.0 p.1 q.1) p.2) q.2)
one_judged Good Bad apart one file name (Unaccepted f) Absent p q = absurd (let same = sym p.1 ∙ q in cc)
one_judged Good Bad apart one file name Absent Done p q = absurd (let same = sym q.1 ∙ p in cc)
one_judged Good Bad apart one file name Absent (Unaccepted g) p q = absurd (let same = sym q.1 ∙ p in cc)
one_judged Good Bad apart one file name Absent Absent p q = refl
one_judged Good Bad apart one file name (Unread f) b p q = absurd p
one_judged Good Bad apart one file name (Unverified f) b p q = absurd p
one_judged Good Bad apart one file name (Unmerged f) b p q = absurd p
one_judged Good Bad apart one file name (Unopened f) b p q = absurd p
one_judged Good Bad apart one file name (Unfrozen f) b p q = absurd p
one_judged Good Bad apart one file name (Unboarded f) b p q = absurd p
one_judged Good Bad apart one file name (Different difference) b p q = absurd p
one_judged Good Bad apart one file name (Stopped s) b p q = absurd p
one_judged Good Bad apart one file name ReadFault b p q = absurd p
one_judged Good Bad apart one file name WriteFault b p q = absurd p
one_judged Good Bad apart one file name Unwritten b p q = absurd p
one_judged Good Bad apart one file name NoMemory b p q = absurd p
one_judged Good Bad apart one file name Done (Unread g) p q = absurd q
one_judged Good Bad apart one file name Done (Unverified g) p q = absurd q
one_judged Good Bad apart one file name Done (Unmerged g) p q = absurd q
one_judged Good Bad apart one file name Done (Unopened g) p q = absurd q
one_judged Good Bad apart one file name Done (Unfrozen g) p q = absurd q
one_judged Good Bad apart one file name Done (Unboarded g) p q = absurd q
one_judged Good Bad apart one file name Done (Different difference) p q = absurd q
one_judged Good Bad apart one file name Done (Stopped t) p q = absurd q
one_judged Good Bad apart one file name Done ReadFault p q = absurd q
one_judged Good Bad apart one file name Done WriteFault p q = absurd q
one_judged Good Bad apart one file name Done Unwritten p q = absurd q
one_judged Good Bad apart one file name Done NoMemory p q = absurd q
one_judged Good Bad apart one file name (Unaccepted f) (Unread g) p q = absurd q
one_judged Good Bad apart one file name (Unaccepted f) (Unverified g) p q = absurd q
one_judged Good Bad apart one file name (Unaccepted f) (Unmerged g) p q = absurd q
one_judged Good Bad apart one file name (Unaccepted f) (Unopened g) p q = absurd q
one_judged Good Bad apart one file name (Unaccepted f) (Unfrozen g) p q = absurd q
one_judged Good Bad apart one file name (Unaccepted f) (Unboarded g) p q = absurd q
one_judged Good Bad apart one file name (Unaccepted f) (Different difference) p q = absurd q
one_judged Good Bad apart one file name (Unaccepted f) (Stopped t) p q = absurd q
one_judged Good Bad apart one file name (Unaccepted f) ReadFault p q = absurd q
one_judged Good Bad apart one file name (Unaccepted f) WriteFault p q = absurd q
one_judged Good Bad apart one file name (Unaccepted f) Unwritten p q = absurd q
one_judged Good Bad apart one file name (Unaccepted f) NoMemory p q = absurd q
one_judged Good Bad apart one file name Absent (Unread g) p q = absurd q
one_judged Good Bad apart one file name Absent (Unverified g) p q = absurd q
one_judged Good Bad apart one file name Absent (Unmerged g) p q = absurd q
one_judged Good Bad apart one file name Absent (Unopened g) p q = absurd q
one_judged Good Bad apart one file name Absent (Unfrozen g) p q = absurd q
one_judged Good Bad apart one file name Absent (Unboarded g) p q = absurd q
one_judged Good Bad apart one file name Absent (Different difference) p q = absurd q
one_judged Good Bad apart one file name Absent (Stopped t) p q = absurd q
one_judged Good Bad apart one file name Absent ReadFault p q = absurd q
one_judged Good Bad apart one file name Absent WriteFault p q = absurd q
one_judged Good Bad apart one file name Absent Unwritten p q = absurd q
one_judged Good Bad apart one file name Absent NoMemory p q = absurd q

-- the source compiles to some file under the stored name
abbrev pub Made : ℕ → List ℕ → List ℕ → Type 0
Made level kept source = (bytes : List ℕ) × CompilesTo level source kept bytes

abbrev pub Unmade : ℕ → List ℕ → List ℕ → SourceFault → Type 0
Unmade level kept source fault = made.IsFault level source kept fault

crosses_judged : (level : ℕ) (file : FileOf) (name kept written : List ℕ) (ending : Ending) (new : Option FileOf) → IsSettled ending → Crosses level name kept written (Some file) new ending
    → Judged (Made level kept) (Unmade level kept) file name ending
crosses_judged level file name kept written Done new s p = (p.1.source, p.1.holds, (p.0, p.1.compiles))
crosses_judged level file name kept written (Unaccepted fault) new s p = (p.0.source, p.0.holds, p.0.is)
crosses_judged level file name kept written (Unread fault) new s p = absurd p
crosses_judged level file name kept written (Unverified fault) new s p = absurd p
crosses_judged level file name kept written (Unmerged fault) new s p = absurd p
crosses_judged level file name kept written (Unopened fault) new s p = absurd p
crosses_judged level file name kept written (Unfrozen fault) new s p = absurd p
crosses_judged level file name kept written (Unboarded fault) new s p = absurd p
crosses_judged level file name kept written (Different difference) new s p = absurd p
crosses_judged level file name kept written (Stopped stop) new s p = absurd p
crosses_judged level file name kept written ReadFault new s p = absurd s
crosses_judged level file name kept written WriteFault new s p = absurd s
crosses_judged level file name kept written Unwritten new s p = absurd s
crosses_judged level file name kept written NoMemory new s p = absurd s
crosses_judged level file name kept written Absent new s p = p.0

-- the file of the source under a name is written in one way
pub one_crossing : ((level : ℕ) (source kept bytes : List ℕ) (fault : SourceFault) → CompilesTo level source kept bytes → made.IsFault level source kept fault → ⊥)
    → ((level : ℕ) (source kept : List ℕ) (f g : SourceFault) → made.IsFault level source kept f → made.IsFault level source kept g → f ≡ g)
    → (level : ℕ) (file : FileOf) (name kept written : List ℕ) (a b : Ending) (new_a new_b : Option FileOf) → IsSettled a → IsSettled b
    → Crosses level name kept written (Some file) new_a a → Crosses level name kept written (Some file) new_b b → a ≡ b
one_crossing not_both one level file name kept written a b m n h k p q =
    one_judged (Made level kept) (Unmade level kept) (λ source fault good bad. not_both level source kept good.0 fault good.1 bad) (λ source f g x y. one level source kept f g x y) file name a b
    (crosses_judged level file name kept written a m h p) (crosses_judged level file name kept written b n k q)

-- a stored name is ASCII
one_or_other : (b : Bool) (byte : ℕ) → ltb byte 128 ≡ b → (if b then byte else 63) < 128
one_or_other true byte e = ltb-true byte 128 e
one_or_other false byte e = omega arith

pub stored_is_ascii : (name : List ℕ) → IsAscii (stored name)
stored_is_ascii name = All-map (λ byte. byte < 128) ascii_of name (λ k d lt. one_or_other (ltb (get_or name k d) 128) (get_or name k d) refl)
