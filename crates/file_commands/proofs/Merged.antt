-- Files that are read as verified modules, and what a merge of them does.
use Rattle.std.proofs.Common.{◌≡◌, ◌⊎◌, inl, inr, ◌+◌, ◌<◌, false, Result, Ok, Err, List, ℕ, Option, String, length, map, take, get_or, string_bytes, refl, subst, arith}
use Rattle.std.specs.declared.alloc.Global.{Global}
use Rattle.std.specs.Prelude.{IfOk}
use Rattle.std.proofs.lemmas.List.{length-map}
use Rattle.mpy_base.specs.declared.refused.Refused.{Refused}
use Rattle.mpy_base.specs.declared.refused.Refused.TheVariants as refusals
use Rattle.mpy_merge.specs.declared.fault.MergeFault.{MergeFault}
use Rattle.mpy_io.specs.Files.{FileOf}
use Rattle.command_files.specs.mpy_writer.mpy_tree.Raw.{Module}
use Rattle.command_files.specs.mpy_endings.declared.ending.Ending.{Ending}
use Rattle.command_files.specs.mpy_endings.declared.ending.Ending.TheVariants.{Done, Unaccepted, Unread, Unverified, Unmerged, Unopened, Unfrozen, Unboarded, Different, Stopped, ReadFault, WriteFault, Unwritten, NoMemory, Absent}
use Rattle.command_files.specs.Folder.{ChangesOnly}
use Rattle.command_files.specs.mpy_endings.Ending.{is_out_fault}
use Rattle.command_files.specs.Opened.{Refuses}
use Rattle.file_commands.specs.Merge.{HoldModules, IsFirstRefused, Merges}
use Rattle.command_files.proofs.Others.{same_only, became_only, front_only}
use Rattle.command_files.proofs.mpy_endings_lemmas.Said.{word_at}

-- a refusal of one of the files ends the merge, and changes none
refusal : (files : Option FileOf) (name : List ℕ) (ending : Ending) → Refuses files name ending → is_out_fault ending ≡ false
refusal files name Done h = refl
refusal files name (Unaccepted fault) h = refl
refusal files name (Unread fault) h = refl
refusal files name (Unverified fault) h = refl
refusal files name (Unmerged fault) h = refl
refusal files name (Unopened fault) h = refl
refusal files name (Unfrozen fault) h = refl
refusal files name (Unboarded fault) h = refl
refusal files name (Different difference) h = refl
refusal files name (Stopped stop) h = refl
refusal files name ReadFault h = refl
refusal files name WriteFault h = absurd h
refusal files name Unwritten h = refl
refusal files name NoMemory h = refl
refusal files name Absent h = refl

pub refused_prints : (files : Option FileOf) (names : List (List ℕ)) (place : ℕ) (ending : Ending) → IsFirstRefused files names place ending → is_out_fault ending ≡ false
refused_prints files names place ending r = refusal files _ ending r.refused

pub refused_merges : (names : List (List ℕ)) (written : List ℕ) (old new : Option FileOf) (place : ℕ) (ending : Ending) → IsFirstRefused old names place ending → new ≡ old → Merges names written old new place ending
refused_merges names written old new place Done r same = absurd r.refused
refused_merges names written old new place (Unaccepted fault) r same = absurd r.refused
refused_merges names written old new place (Unread fault) r same = (r, same)
refused_merges names written old new place (Unverified fault) r same = (r, same)
refused_merges names written old new place (Unmerged fault) r same = absurd r.refused
refused_merges names written old new place (Unopened fault) r same = absurd r.refused
refused_merges names written old new place (Unfrozen fault) r same = absurd r.refused
refused_merges names written old new place (Unboarded fault) r same = absurd r.refused
refused_merges names written old new place (Different difference) r same = absurd r.refused
refused_merges names written old new place (Stopped stop) r same = absurd r.refused
refused_merges names written old new place ReadFault r same = (r, same)
refused_merges names written old new place WriteFault r same = absurd r.refused
refused_merges names written old new place Unwritten r same = absurd r.refused
refused_merges names written old new place NoMemory r same = same
refused_merges names written old new place Absent r same = (r, same)

-- no file but the merged one changes
pub merges_only : (names : List (List ℕ)) (written : List ℕ) (old new : Option FileOf) (place : ℕ) (ending : Ending) → Merges names written old new place ending → ChangesOnly old new written
merges_only names written old new place Done h = became_only old new written h.0 h.2
merges_only names written old new place (Unaccepted fault) h = absurd h
merges_only names written old new place (Unread fault) h = same_only old new written h.1
merges_only names written old new place (Unverified fault) h = same_only old new written h.1
merges_only names written old new place (Unmerged fault) h = same_only old new written h.1
merges_only names written old new place (Unopened fault) h = absurd h
merges_only names written old new place (Unfrozen fault) h = absurd h
merges_only names written old new place (Unboarded fault) h = absurd h
merges_only names written old new place (Different difference) h = absurd h
merges_only names written old new place (Stopped stop) h = absurd h
merges_only names written old new place ReadFault h = same_only old new written h.1
merges_only names written old new place WriteFault h = became_only old new written h.0 h.2
merges_only names written old new place Unwritten h = front_only old new written h.0 h.2
merges_only names written old new place NoMemory h = same_only old new written h
merges_only names written old new place Absent h = same_only old new written h.1

-- the first of several files that is refused
pub first_refused : (files : Option FileOf) (words : List (String Global)) (at : ℕ) (word : String Global) (modules : List Module) (ending : Ending) → at < length words → word ≡ get_or words at word → HoldModules files (take at (map (string_bytes {Z = Global}) words)) modules → Refuses files (string_bytes word) ending
    → IsFirstRefused files (map (string_bytes {Z = Global}) words) (at + 2) ending
first_refused files words at word modules ending lt is before h = record {
  at = at;
  within = omega (arith, lt, length-map words (string_bytes {Z = Global}));
  place_is = refl;
  modules = modules;
  before = before;
  refused = subst (λ (n : List ℕ). Refuses files n ending) (word_at words at word lt is) h;
}

-- what is merged has no fault
pub never_both : {A : Type 0} (r : Result A (Refused MergeFault)) (P : MergeFault → Type 0) → ((fault : MergeFault) → P fault → (r ≡ Err (refusals.Fault fault)) ⊎ (r ≡ Err refusals.NoMemory))
    → IfOk r (λ x. (fault : MergeFault) → P fault → ⊥)
never_both (Ok x) P told = λ fault h. elim (told fault h) [ inl e ↦ cc | inr e ↦ cc ]
never_both (Err e) P told = tt
