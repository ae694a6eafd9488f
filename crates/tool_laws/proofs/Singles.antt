-- Commands that read one file.
use Rattle.std.proofs.Common.{◌≡◌, ◌⊎◌, inl, inr, ℕ, List, Option, Some, None, refl, sym, ap, subst, ◌∙◌}
use Rattle.std.specs.Io.KnownBytes.{Appends}
use Rattle.mpy_io.specs.Files.{FileOf}
use Rattle.mpy_tree.specs.Raw.{Module}
use Rattle.mpy_dump.specs.Listing.{IsListing}
use Rattle.mpy_endings.specs.declared.ending.Ending.{Ending}
use Rattle.mpy_endings.specs.declared.ending.Ending.TheVariants.{Done, Unaccepted, Unread, Unverified, Unmerged, Unopened, Unfrozen, Unboarded, Different, Stopped, ReadFault, WriteFault, Unwritten, NoMemory, Absent}
use Rattle.mpy_endings.specs.Ending.{IsSettled}
use Rattle.command_files.specs.Opened.{HoldsModule}
use Rattle.meant_commands.specs.file_commands.Check.{Checks, HoldsVerified, count_of, verified_line}
use Rattle.meant_commands.specs.file_commands.Dump.{Dumps, HoldsListed}
use Rattle.tool_laws.specs.Laws.{FileLaws}
use Rattle.tool_laws.specs.Once.{EndOnce, IsDone}
use Rattle.tool_laws.proofs.Opened.{AtAbsent, AtUnread, Refused, never_refused, never_unread, none_there, one_held, one_refused, refused_of, same_module, same_unread}

one_appended : (xs text : List ℕ) (one other : Option (List ℕ)) → Appends (Some xs) one text → Appends (Some xs) other text → one ≡ other
one_appended xs text None other h k = absurd h
one_appended xs text (Some ys) None h k = absurd k
one_appended xs text (Some ys) (Some zs) h k = ap Some (h ∙ sym k)

-- check
-- =====

-- it is done on a verified module, or the file is refused
abbrev Checked : FileOf → List ℕ → Ending → Type 0
Checked files name ending = ((ending ≡ Done) × (m : Module) × HoldsModule (Some files) name m) ⊎ Refused files name ending

held_of : (files : FileOf) (name : List ℕ) (count : ℕ) (h : HoldsVerified (Some files) name count) → HoldsModule (Some files) name h.is.read
held_of files name count h = record { bytes = h.bytes; holds = h.holds; file = h.is.file; verified = h.is.verified }

checked : (files : FileOf) (name : List ℕ) (before after : Option (List ℕ)) (ending : Ending) → IsSettled ending → Checks (Some files) name ending before after → Checked files name ending
checked files name before after Done s p = inl (refl, p.1.is.read, held_of files name p.0 p.1)
checked files name before after (Unaccepted fault) s p = absurd p
checked files name before after (Unread fault) s p = inr (refused_of files name (Unread fault) s p.0)
checked files name before after (Unverified fault) s p = inr (refused_of files name (Unverified fault) s p.0)
checked files name before after (Unmerged fault) s p = absurd p
checked files name before after (Unopened fault) s p = absurd p
checked files name before after (Unfrozen fault) s p = absurd p
checked files name before after (Unboarded fault) s p = absurd p
checked files name before after (Different difference) s p = absurd p
checked files name before after (Stopped stop) s p = absurd p
checked files name before after ReadFault s p = absurd s
checked files name before after WriteFault s p = absurd s
checked files name before after Unwritten s p = absurd p
checked files name before after NoMemory s p = absurd s
checked files name before after Absent s p = inr (refused_of files name Absent s p.0)

module _ (laws : FileLaws) where
  both_checked : (files : FileOf) (name : List ℕ) (one other : Ending) → Checked files name one → Checked files name other → one ≡ other
  both_checked files name one other (inl x) (inl y) = x.0 ∙ sym y.0
  both_checked files name one other (inl x) (inr y) = absurd (never_refused laws files name x.1 other x.2 y)
  both_checked files name one other (inr x) (inl y) = absurd (never_refused laws files name y.1 one y.2 x)
  both_checked files name one other (inr x) (inr y) = one_refused laws files name one other x y

  pub one_check : (files : FileOf) (name : List ℕ) (before behind printed after : Option (List ℕ)) → EndOnce (λ ending. Checks (Some files) name ending before behind) (λ ending. Checks (Some files) name ending printed after)
  one_check files name before behind printed after = λ one other s t p q. both_checked files name one other (checked files name before behind one s p) (checked files name printed after other t q)

  pub check_done : (files : FileOf) (name : List ℕ) (count : ℕ) (before after : Option (List ℕ)) → HoldsVerified (Some files) name count → IsDone (λ ending. Checks (Some files) name ending before after)
  check_done files name count before after h = λ ending s p.
      elim (checked files name before after ending s p) [
        | inl d ↦ d.0
        | inr r ↦ absurd (never_refused laws files name h.is.read ending (held_of files name count h) r)
      ]

  pub one_checked_text : (files : FileOf) (name printed : List ℕ) (a b : Option (List ℕ)) → Checks (Some files) name Done (Some printed) a → Checks (Some files) name Done (Some printed) b → a ≡ b
  one_checked_text files name printed a b p q =
      let h = p.1 in
      let k = q.1 in
      let same = one_held laws files name h.is.read k.is.read (held_of files name p.0 h) (held_of files name q.0 k) in
      let count : p.0 ≡ q.0 = h.is.count_is ∙ (ap count_of same ∙ sym k.is.count_is) in
      one_appended printed (verified_line q.0) a b (subst (λ (n : ℕ). Appends (Some printed) a (verified_line n)) count p.2) q.2

-- dump
-- ====

-- it is done on a module, or the file isn't read
abbrev Dumped : FileOf → List ℕ → Ending → Type 0
Dumped files name ending = ((ending ≡ Done) × (text : List ℕ) × HoldsListed (Some files) name text) ⊎ AtUnread files name ending ⊎ AtAbsent files name ending

dumped : (files : FileOf) (name : List ℕ) (before after : Option (List ℕ)) (ending : Ending) → IsSettled ending → Dumps (Some files) name ending before after → Dumped files name ending
dumped files name before after Done s p = inl (refl, p.0, p.1)
dumped files name before after (Unaccepted fault) s p = absurd p
dumped files name before after (Unread fault) s p = inr (inl (record { fault = fault; bytes = p.0.0; is = refl; at = p.0.1; first = p.0.2 }))
dumped files name before after (Unverified fault) s p = absurd p
dumped files name before after (Unmerged fault) s p = absurd p
dumped files name before after (Unopened fault) s p = absurd p
dumped files name before after (Unfrozen fault) s p = absurd p
dumped files name before after (Unboarded fault) s p = absurd p
dumped files name before after (Different difference) s p = absurd p
dumped files name before after (Stopped stop) s p = absurd p
dumped files name before after ReadFault s p = absurd s
dumped files name before after WriteFault s p = absurd s
dumped files name before after Unwritten s p = absurd p
dumped files name before after NoMemory s p = absurd s
dumped files name before after Absent s p = inr (inr (record { is = refl; at = p.0 }))

module _ (laws : FileLaws) where
  never_undumped : (files : FileOf) (name text : List ℕ) (ending : Ending) → HoldsListed (Some files) name text → AtUnread files name ending ⊎ AtAbsent files name ending → ⊥
  never_undumped files name text ending h (inl x) = never_unread laws files name ending h.bytes h.read h.holds h.file x
  never_undumped files name text ending h (inr x) = none_there (files name) h.bytes x.at h.holds

  both_dumped : (files : FileOf) (name : List ℕ) (one other : Ending) → Dumped files name one → Dumped files name other → one ≡ other
  both_dumped files name one other (inl x) (inl y) = x.0 ∙ sym y.0
  both_dumped files name one other (inl x) (inr y) = absurd (never_undumped files name x.1 other x.2 y)
  both_dumped files name one other (inr x) (inl y) = absurd (never_undumped files name y.1 one y.2 x)
  both_dumped files name one other (inr (inl x)) (inr (inl y)) = same_unread laws files name one other x y
  both_dumped files name one other (inr (inl x)) (inr (inr y)) = absurd (none_there (files name) x.bytes y.at x.at)
  both_dumped files name one other (inr (inr x)) (inr (inl y)) = absurd (none_there (files name) y.bytes x.at y.at)
  both_dumped files name one other (inr (inr x)) (inr (inr y)) = x.is ∙ sym y.is

  pub one_dump : (files : FileOf) (name : List ℕ) (before behind printed after : Option (List ℕ)) → EndOnce (λ ending. Dumps (Some files) name ending before behind) (λ ending. Dumps (Some files) name ending printed after)
  one_dump files name before behind printed after = λ one other s t p q. both_dumped files name one other (dumped files name before behind one s p) (dumped files name printed after other t q)

  pub dump_done : (files : FileOf) (name text : List ℕ) (before after : Option (List ℕ)) → HoldsListed (Some files) name text → IsDone (λ ending. Dumps (Some files) name ending before after)
  dump_done files name text before after h = λ ending s p.
      elim (dumped files name before after ending s p) [
        | inl d ↦ d.0
        | inr r ↦ absurd (never_undumped files name text ending h r)
      ]

  pub one_dumped_text : ((m : Module) (a b : List ℕ) → IsListing m a → IsListing m b → a ≡ b) → (files : FileOf) (name printed : List ℕ) (a b : Option (List ℕ))
      → Dumps (Some files) name Done (Some printed) a → Dumps (Some files) name Done (Some printed) b → a ≡ b
  one_dumped_text one_listing files name printed a b p q =
      let h = p.1 in
      let k = q.1 in
      let same = same_module laws files name h.bytes k.bytes h.read k.read h.holds k.holds h.file k.file in
      let text = one_listing k.read p.0 q.0 (subst (λ (m : Module). IsListing m p.0) same h.listing) k.listing in
      one_appended printed q.0 a b (subst (λ (t : List ℕ). Appends (Some printed) a t) text p.2) q.2
