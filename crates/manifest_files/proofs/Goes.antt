-- What was collected so far, over the lines that are left.
use Rattle.std.proofs.Common.{◌≡◌, ℕ, zero, suc, ◌-◌, ◌<◌, List, [], ◌∷◌, ◌++◌, Option, Some, Ok, Err, refl, ap, sym, ◌∙◌, subst, arith}
use Rattle.mpy_io.specs.Files.{FileOf}
use Rattle.manifest_lines.specs.declared.entry.Entry.{Entry}
use Rattle.manifest_lines.specs.declared.manifest.Line.{Line}
use Rattle.manifest_files.specs.declared.fault.ManifestFault.{ManifestFault}
use Rattle.manifest_files.specs.Entries.{AreLines, Said, AreSaid, FileSays, Says, LineSays, Answer, one_more, and_then, entries_after}
use Rattle.manifest_files.proofs.Said.{any_all}

-- ---- what is said behind

and_then_ok : (answer : Answer) (f g : List Entry → Answer) (h : Answer → Answer) → ((entries : List Entry) → f entries ≡ h (g entries)) → ((fault : ManifestFault) → Err fault ≡ h (Err fault)) → and_then answer f ≡ h (and_then answer g)
and_then_ok (Ok entries) f g h each none = each entries
and_then_ok (Err fault) f g h each none = none fault

-- what follows is said to the entries so far
pub after_both : (entries : List Entry) (own others : List Said) → entries_after entries (own ++ others) ≡ and_then (entries_after entries own) (λ more. entries_after more others)
after_both entries [] others = refl
after_both entries (Ok entry ∷ own) others =
    and_then_ok (one_more entries entry) (λ more. entries_after more (own ++ others)) (λ more. entries_after more own) (λ answer. and_then answer (λ more. entries_after more others)) (λ more. after_both more own others) (λ fault. refl)
after_both entries (Err fault ∷ own) others = refl

after_ok : (entries more : List Entry) (own others : List Said) → entries_after entries own ≡ Ok more → entries_after entries (own ++ others) ≡ entries_after more others
after_ok entries more own others e = after_both entries own others ∙ ap (λ (answer : Answer). and_then answer (λ now. entries_after now others)) e

after_err : (entries : List Entry) (own others : List Said) (fault : ManifestFault) → entries_after entries own ≡ Err fault → entries_after entries (own ++ others) ≡ Err fault
after_err entries own others fault e = after_both entries own others ∙ ap (λ (answer : Answer). and_then answer (λ now. entries_after now others)) e

-- ---- lines

-- whatever the lines that are left say, all lines say something that comes to the same
abbrev pub Goes : (Line → List Said → Type 0) → List Line → List Entry → List Line → List Entry → Type 0
Goes one lines before rest now = (others : List Said) → AreSaid one rest others → (said : List Said) × AreSaid one lines said × (entries_after before said ≡ entries_after now others)

abbrev pub Ends : (Line → List Said → Type 0) → List Line → List Entry → Answer → Type 0
Ends one lines before answer = (said : List Said) × AreSaid one lines said × (entries_after before said ≡ answer)

pub goes_on : (one : Line → List Said → Type 0) (lines : List Line) (before : List Entry) → Goes one lines before lines before
goes_on one lines before others all = (others, all, refl)

pub goes_further : (one : Line → List Said → Type 0) (lines : List Line) (before now more : List Entry) (line : Line) (rest : List Line) (own : List Said)
    → Goes one lines before (line ∷ rest) now → one line own → entries_after now own ≡ Ok more → Goes one lines before rest more
goes_further one lines before now more line rest own goes its e others all =
    let whole = goes (own ++ others) (own, others, its, all, refl) in
    (whole.0, whole.1, whole.2 ∙ after_ok now more own others e)

pub stops : (one : Line → List Said → Type 0) (lines : List Line) (before now : List Entry) (line : Line) (rest : List Line) (own : List Said) (fault : ManifestFault)
    → ((line : Line) → (said : List Said) × one line said)
    → Goes one lines before (line ∷ rest) now → one line own → entries_after now own ≡ Err fault → Ends one lines before (Err fault)
stops one lines before now line rest own fault any goes its e =
    let others = any_all one any rest in
    let whole = goes (own ++ others.0) (own, others.0, its, others.1, refl) in
    (whole.0, whole.1, whole.2 ∙ after_err now own others.0 fault e)

pub ends : (one : Line → List Said → Type 0) (lines : List Line) (before now : List Entry) → Goes one lines before [] now → Ends one lines before (Ok now)
ends one lines before now goes = goes [] refl

-- ---- the manifest

pub whole : (files : FileOf) (left : ℕ) (opened : List (List ℕ)) (name bytes : List ℕ) (lines : List Line) (before : List Entry) (answer : Answer)
    → 0 < left → files name ≡ Some bytes → AreLines bytes lines → Ends (LineSays files (left - 1) (opened ++ name ∷ []) name) lines before answer
    → (said : List Said) × Says files left opened name said × (entries_after before said ≡ answer)
whole files zero opened name bytes lines before answer some file are end = absurd (omega (arith, some))
whole files (suc left) opened name bytes lines before answer some file are end =
    let one : suc left - 1 ≡ left = omega arith in
    let its = subst (λ (n : ℕ). AreSaid (LineSays files n (opened ++ name ∷ []) name) lines end.0) one end.1 in
    (end.0, subst (λ (z : Option (List ℕ)). FileSays (AreSaid (LineSays files left (opened ++ name ∷ []) name)) name z end.0) (sym file) (lines, are, its), end.2)
