-- What manifests say: each says something, and one thing alone.
use Rattle.std.proofs.Common.{◌≡◌, ℕ, zero, suc, List, [], ◌∷◌, ◌++◌, Option, Some, None, Err, inl, inr, refl, ap, ap₂, sym, ◌∙◌, subst}
use Rattle.mpy_base.specs.declared.source.SourceFault.{SourceFault}
use Rattle.mpy_io.specs.Files.{FileOf}
use Rattle.py_tokens.proofs.Always.{always}
use Rattle.py_tokens.proofs.Readings.{one_list, one_fault, apart}
use Rattle.manifest_lines.specs.declared.manifest.Line.{Line}
use Rattle.manifest_lines.specs.Lines.{lines_of}
use Rattle.manifest_files.specs.declared.fault.ManifestFault.TheVariants.{Absent, Deep}
use Rattle.manifest_files.specs.declared.collecting.TheConstants.{MAX_OPEN}
use Rattle.manifest_files.specs.Entries.{bad_line, AreLines, Said, Saying, Itself, Another, line_saying, IsSaid, AreSaid, FileSays, Says, LineSays, Answer, entries_after, IsAnswer}

-- ---- something is said

abbrev pub SaysSomething : (List Said → Type 0) → Type 0
SaysSomething says = (said : List Said) × says said

any_lines : (bytes : List ℕ) → (lines : List Line) × AreLines bytes lines
any_lines bytes = elim (always 0 bytes) [
  | inl found ↦ (lines_of found.0, inl (found.0, found.1, refl))
  | inr fault ↦ (bad_line fault.0.line ∷ [], inr (fault.0, fault.1, refl))
]

any_said : (another : List ℕ → List Said → Type 0) → ((name : List ℕ) → SaysSomething (another name)) → (saying : Saying) → SaysSomething (IsSaid another saying)
any_said another any (Itself own) = (own, refl)
any_said another any (Another inner) = any inner

pub any_all : (one : Line → List Said → Type 0) → ((line : Line) → SaysSomething (one line)) → (lines : List Line) → SaysSomething (AreSaid one lines)
any_all one any [] = ([], refl)
any_all one any (line ∷ lines) =
    let first = any line in
    let others = any_all one any lines in
    (first.0 ++ others.0, (first.0, others.0, first.1, others.1, refl))

any_file : (its : List Line → List Said → Type 0) → ((lines : List Line) → SaysSomething (its lines)) → (name : List ℕ) (file : Option (List ℕ)) → SaysSomething (FileSays its name file)
any_file its any name None = (Err (Absent name) ∷ [], refl)
any_file its any name (Some bytes) =
    let lines = any_lines bytes in
    let said = any lines.0 in
    (said.0, (lines.0, lines.1, said.1))

pub any_says : (files : FileOf) (left : ℕ) (opened : List (List ℕ)) (name : List ℕ) → SaysSomething (Says files left opened name)
any_says files zero opened name = (Err (Deep name) ∷ [], refl)
any_says files (suc left) opened name =
    any_file (AreSaid (LineSays files left (opened ++ name ∷ []) name)) (any_all (LineSays files left (opened ++ name ∷ []) name) (λ line. any_said (Says files left (opened ++ name ∷ [])) (any_says files left (opened ++ name ∷ [])) (line_saying (opened ++ name ∷ []) name line))) name (files name)

pub any_line : (files : FileOf) (left : ℕ) (opened : List (List ℕ)) (name : List ℕ) (line : Line) → SaysSomething (LineSays files left opened name line)
any_line files left opened name line = any_said (Says files left opened) (any_says files left opened) (line_saying opened name line)

-- ---- one thing is said

abbrev SaysOne : (List Said → Type 0) → Type 0
SaysOne says = (first second : List Said) → says first → says second → first ≡ second

pub one_reading : (bytes : List ℕ) (first second : List Line) → AreLines bytes first → AreLines bytes second → first ≡ second
one_reading bytes first second (inl p) (inl q) = p.2 ∙ ap lines_of (one_list 0 bytes p.0 q.0 p.1 q.1) ∙ sym q.2
one_reading bytes first second (inl p) (inr q) = absurd (apart 0 bytes p.0 q.0 p.1 q.1)
one_reading bytes first second (inr p) (inl q) = absurd (apart 0 bytes q.0 p.0 q.1 p.1)
one_reading bytes first second (inr p) (inr q) = p.2 ∙ ap (λ (fault : SourceFault). bad_line fault.line ∷ []) (one_fault 0 bytes p.0 q.0 p.1 q.1) ∙ sym q.2

one_said : (another : List ℕ → List Said → Type 0) → ((name : List ℕ) → SaysOne (another name)) → (saying : Saying) → SaysOne (IsSaid another saying)
one_said another one (Itself own) first second p q = p ∙ sym q
one_said another one (Another inner) first second p q = one inner first second p q

one_all : (says : Line → List Said → Type 0) → ((line : Line) → SaysOne (says line)) → (lines : List Line) → SaysOne (AreSaid says lines)
one_all says one [] first second p q = p ∙ sym q
one_all says one (line ∷ lines) first second p q =
    p.4 ∙ ap₂ (λ (a b : List Said). a ++ b) (one line p.0 q.0 p.2 q.2) (one_all says one lines p.1 q.1 p.3 q.3) ∙ sym q.4

one_file : (its : List Line → List Said → Type 0) → ((lines : List Line) → SaysOne (its lines)) → (name : List ℕ) (file : Option (List ℕ)) → SaysOne (FileSays its name file)
one_file its one name None first second p q = p ∙ sym q
one_file its one name (Some bytes) first second p q =
    let same = one_reading bytes p.0 q.0 p.1 q.1 in
    one q.0 first second (subst (λ (lines : List Line). its lines first) same p.2) q.2

pub one_says : (files : FileOf) (left : ℕ) (opened : List (List ℕ)) (name : List ℕ) → SaysOne (Says files left opened name)
one_says files zero opened name first second p q = p ∙ sym q
one_says files (suc left) opened name first second p q =
    one_file (AreSaid (LineSays files left (opened ++ name ∷ []) name)) (one_all (LineSays files left (opened ++ name ∷ []) name) (λ line. one_said (Says files left (opened ++ name ∷ [])) (one_says files left (opened ++ name ∷ [])) (line_saying (opened ++ name ∷ []) name line))) name (files name) first second p q

-- ---- answers

pub one_answer : (files : FileOf) (name : List ℕ) (first second : Answer) → IsAnswer files name first → IsAnswer files name second → first ≡ second
one_answer files name first second p q = p.2 ∙ ap (entries_after []) (one_says files MAX_OPEN [] name p.0 q.0 p.1 q.1) ∙ sym q.2

pub any_answer : (files : FileOf) (name : List ℕ) → (answer : Answer) × IsAnswer files name answer
any_answer files name = let said = any_says files MAX_OPEN [] name in (entries_after [] said.0, (said.0, said.1, refl))
