-- What is known of quiet manifests, at each point of a collection, of a folder that may tell its files.
use Rattle.std.proofs.Common.{◌≡◌, ℕ, ◌<◌, Bool, true, true≢false, List, [], ◌∷◌, ◌++◌, length, get_or, All, Option, Some, None, IfSome, Ok, Vec, refl, ap, sym, ◌∙◌, subst}
use Rattle.std.specs.declared.alloc.Global.{Global}
use Rattle.mpy_io.specs.Files.{FileOf}
use Rattle.manifest_lines.specs.declared.entry.Entry.{Entry}
use Rattle.manifest_lines.specs.declared.manifest.Line.{Line}
use Rattle.manifest_files.specs.Answers.{Follows, LinesOf, Tells}
use Rattle.manifest_files.specs.Entries.{Saying, Itself, Another, line_saying, Says}
use Rattle.manifest_files.specs.Quiet.{IsQuiet, AllInclude, LeadsOn, AreQuiet}
use Rattle.manifest_files.proofs.Quiet.{lead_on, quiet_says, quiet_now}

abbrev Kept : Type 0
Kept = List (Vec ℕ Global × ℕ)

pub here_too : (P : FileOf → Type 0) (o here : Option FileOf) → here ≡ o → IfSome o P → IfSome here P
here_too P o here same h = subst (λ (z : Option FileOf). IfSome z P) (sym same) h

-- ---- the first manifest

pub none_opened : (o : Option FileOf) (opened : List (List ℕ)) (name : List ℕ) → opened ≡ [] → IfSome o (λ files. AllInclude files opened name)
none_opened None opened name none = tt
none_opened (Some files) opened name none = subst (λ (z : List (List ℕ)). AllInclude files z name) (sym none) (λ other e. absurd (true≢false (sym e)))

pub none_kept : (o : Option FileOf) (kept : Kept) → kept ≡ [] → IfSome o (λ files. AreQuiet files kept)
none_kept None kept none = tt
none_kept (Some files) kept none = subst (AreQuiet files) (sym none) tt

-- ---- lines

pub lines_lead : (o here : Option FileOf) (opened all : List (List ℕ)) (name this : List ℕ) (lines : Vec Line Global) (these : List Line)
    → here ≡ o → all ≡ opened ++ this ∷ [] → this ≡ name → these ≡ lines.items
    → IfSome o (λ files. LinesOf (files name) name (Ok lines)) → IfSome o (λ files. AllInclude files opened name) → IfSome here (λ files. All (LeadsOn files all name) these)
lines_lead None here opened all name this lines these same are is those read over =
    here_too (λ files. All (LeadsOn files all name) these) None here same tt
lines_lead (Some files) here opened all name this lines these same are is those read over =
    let open_are : all ≡ opened ++ name ∷ [] = are ∙ ap (λ (z : List ℕ). opened ++ z ∷ []) is in
    here_too (λ files. All (LeadsOn files all name) these) (Some files) here same
    (subst (λ (z : List (List ℕ)). All (LeadsOn files z name) these) (sym open_are)
    (subst (All (LeadsOn files (opened ++ name ∷ []) name)) (sym those) (lead_on files opened name read.0 lines.items read.1 read.2 over)))

pub line_leads : (o here : Option FileOf) (opened these : List (List ℕ)) (name : List ℕ) (lines : List Line) (i : ℕ) (line : Line)
    → here ≡ o → these ≡ opened → i < length lines → line ≡ get_or lines i line
    → IfSome o (λ files. All (LeadsOn files opened name) lines) → IfSome here (λ files. LeadsOn files these name line)
line_leads None here opened these name lines i line same are l is h = here_too (λ files. LeadsOn files these name line) None here same tt
line_leads (Some files) here opened these name lines i line same are l is h =
    here_too (λ files. LeadsOn files these name line) (Some files) here same
    (subst (λ (z : List (List ℕ)). LeadsOn files z name line) (sym are) (subst (LeadsOn files opened name) (sym is) (h i line l)))

followed : (before mid : List Entry) (saying : Saying) (inner : List ℕ) → Follows before saying (Ok (Some inner)) mid → saying ≡ Another inner
followed before mid (Itself said) inner f = absurd f
followed before mid (Another name) inner f = ap Another (sym f.0)

pub inner_leads : (o : Option FileOf) (opened these : List (List ℕ)) (name : List ℕ) (line : Line) (before mid : List Entry) (inner text : List ℕ)
    → these ≡ opened → text ≡ inner → Follows before (line_saying these name line) (Ok (Some inner)) mid
    → IfSome o (λ files. LeadsOn files opened name line) → IfSome o (λ files. AllInclude files opened text)
inner_leads None opened these name line before mid inner text are is f h = tt
inner_leads (Some files) opened these name line before mid inner text are is f h =
    let e = subst (λ (z : List (List ℕ)). line_saying z name line ≡ Another inner) are (followed before mid (line_saying these name line) inner f) in
    subst (AllInclude files opened) (sym is) (h inner e)

-- ---- a manifest

pub passed_over : (o : Option FileOf) (left : ℕ) (opened : List (List ℕ)) (name : List ℕ) (before : List Entry) (kept : Kept) (b : Bool)
    → ((files : FileOf) → AreQuiet files kept → b ≡ true → IsQuiet files left name) → b ≡ true
    → IfSome o (λ files. AreQuiet files kept) → IfSome o (λ files. AllInclude files opened name) → IfSome o (λ files. Tells (Says files left opened name) before (Ok tt) before)
passed_over None left opened name before kept b each is h over = tt
passed_over (Some files) left opened name before kept b each is h over = ([], quiet_says files left opened name (each files h is) over, refl)

pub kept_now : (o : Option FileOf) (left : ℕ) (opened : List (List ℕ)) (name : List ℕ) (before after : List Entry) (old new : Kept)
    → ((files : FileOf) → AreQuiet files old → IsQuiet files left name → AreQuiet files new) → length after ≡ length before
    → IfSome o (λ files. Tells (Says files left opened name) before (Ok tt) after) → IfSome o (λ files. AreQuiet files old) → IfSome o (λ files. AreQuiet files new)
kept_now None left opened name before after old new is l tells h = tt
kept_now (Some files) left opened name before after old new is l tells h = is files h (quiet_now files left opened name tells.0 before after tells.1 tells.2 l)
