-- What the parts of a collection answer, together.
use Rattle.std.proofs.Common.{◌≡◌, ℕ, zero, suc, ◌+◌, ◌-◌, ◌<◌, ◌≤◌, List, [], ◌∷◌, ◌++◌, length, drop, get_or, Option, Some, None, IfSome, IfOk, inl, inr, false, true≢false, Result, Ok, Err, Vec, refl, ap, sym, ◌∙◌, subst, arith}
use Rattle.std.specs.declared.alloc.Global.{Global}
use Rattle.mpy_base.specs.declared.refused.Refused.{Refused}
use Rattle.mpy_base.specs.declared.refused.Refused.TheVariants as refused
use Rattle.mpy_base.specs.Fault.{too_long}
use Rattle.mpy_io.specs.Files.{FileOf, Reads}
use Rattle.mpy_io.specs.declared.fault.ReadFault.TheVariants.{TooLong}
use Rattle.manifest_lines.specs.declared.entry.Entry.{Entry}
use Rattle.manifest_lines.specs.declared.manifest.Line.{Line}
use Rattle.manifest_files.specs.declared.fault.ManifestFault.{ManifestFault}
use Rattle.manifest_files.specs.declared.fault.ManifestFault.TheVariants.{BadCall, Loop, Twice, Absent, Required, Deep, TooMany, ReadFault}
use Rattle.manifest_files.specs.Entries.{bad_line, AreLines, AreEntries, IsFault, Said, Saying, Itself, Another, IsSaid, AreSaid, FileSays, Says, LineSays, entries_after}
use Rattle.manifest_files.specs.Answers.{Follows, LinesOf, Tells, is_read_fault}
use Rattle.manifest_files.proofs.Said.{any_line}
use Rattle.manifest_files.specs.declared.collecting.TheConstants.{MAX_OPEN}
use Rattle.manifest_files.proofs.Goes.{Goes, goes_further, stops, ends, whole}

pub if_some : {A : Type 0} (P : A → Type 0) (o : Option A) → ((a : A) → P a) → IfSome o P
if_some P None each = tt
if_some P (Some a) each = each a

pub if_some_both : {A : Type 0} (P Q : A → Type 0) (o : Option A) → IfSome o P → ((a : A) → P a → Q a) → IfSome o Q
if_some_both P Q None h each = tt
if_some_both P Q (Some a) h each = each a h

pub if_ok_both : {A E : Type 0} (P Q : A → Type 0) (r : Result A E) → IfOk r P → ((a : A) → P a → Q a) → IfOk r Q
if_ok_both P Q (Ok a) h each = each a h
if_ok_both P Q (Err e) h each = tt

pub drop_item : {X : Type 0} (xs : List X) (i : ℕ) (x : X) → i < length xs → x ≡ get_or xs i x → drop i xs ≡ x ∷ drop (i + 1) xs
drop_item [] i x l e = absurd (omega (arith, l))
drop_item (y ∷ xs) zero x l e = ap (λ z. z ∷ xs) (sym e)
drop_item (y ∷ xs) (suc i) x l e =
    let next : suc i + 1 ≡ suc (i + 1) = omega arith in
    drop_item xs i x (omega (arith, l)) e ∙ ap (λ n. x ∷ drop n (y ∷ xs)) (sym next)

drop_all : {X : Type 0} (xs : List X) (i : ℕ) → length xs ≤ i → drop i xs ≡ []
drop_all [] zero l = refl
drop_all [] (suc i) l = refl
drop_all (x ∷ xs) zero l = absurd (omega (arith, l))
drop_all (x ∷ xs) (suc i) l = drop_all xs i (omega (arith, l))

-- ---- what is read

pub long_lines : (file : Option (List ℕ)) (name : List ℕ) (lines : Vec Line Global) → Reads file (Err TooLong) → lines.items ≡ bad_line 1 ∷ [] → LinesOf file name (Ok lines)
long_lines file name lines r e = (r.0, r.1, inr (too_long, inl (omega (arith, r.2), refl), e))

-- ---- a line

pub itself : (another : List ℕ → List Said → Type 0) (saying : Saying) (before after : List Entry) → Follows before saying (Ok None) after → Tells (IsSaid another saying) before (Ok tt) after
itself another (Itself own) before after e = (own, refl, e)
itself another (Another name) before after e = absurd e

pub another_one : (another : List ℕ → List Said → Type 0) (saying : Saying) (inner : List ℕ) (before mid after : List Entry) (result : Result (Unit {0}) (Refused ManifestFault))
    → Follows before saying (Ok (Some inner)) mid → Tells (another inner) mid result after → Tells (IsSaid another saying) before result after
another_one another (Itself own) inner before mid after result f t = absurd f
another_one another (Another name) inner before mid after result f t =
    subst (λ (z : List Entry). Tells (another name) z result after) f.1 (subst (λ (z : List ℕ). Tells (another z) mid result after) f.0 t)

faulted : (says : List Said → Type 0) (said : List Said) (before after : List Entry) (fault : ManifestFault) → says said → entries_after before said ≡ Err fault → Tells says before (Err (refused.Fault fault)) after
faulted says said before after (BadCall name line) s e = (said, s, e)
faulted says said before after (Loop name) s e = (said, s, e)
faulted says said before after (Twice name) s e = (said, s, e)
faulted says said before after (Absent name) s e = (said, s, e)
faulted says said before after (Required name) s e = (said, s, e)
faulted says said before after (Deep name) s e = (said, s, e)
faulted says said before after TooMany s e = (said, s, e)
faulted says said before after (ReadFault name) s e = tt

pub refuses : (another : List ℕ → List Said → Type 0) (saying : Saying) (before after new : List Entry) (error : Refused ManifestFault) → Follows before saying (Err error) after → Tells (IsSaid another saying) before (Err error) new
refuses another (Itself own) before after new (refused.Fault fault) f = faulted (IsSaid another (Itself own)) own before new fault refl f
refuses another (Another name) before after new (refused.Fault fault) f = absurd f
refuses another saying before after new refused.NoMemory f = tt

-- ---- lines

-- lines that come to the same as one of them, from where that one begins
passed_on : (one : Line → List Said → Type 0) (all : (line : Line) → (said : List Said) × one line said) (lines : List Line) (before now after new : List Entry) (line : Line) (rest : List Line) (fault : ManifestFault)
    → Goes one lines before (line ∷ rest) now → (said : List Said) × one line said × (entries_after now said ≡ Err fault) → Tells (AreSaid one lines) before (Err (refused.Fault fault)) new
passed_on one all lines before now after new line rest fault goes s =
    let end = stops one lines before now line rest s.0 fault all goes s.1 s.2 in
    faulted (AreSaid one lines) end.0 before new fault end.1 end.2

pub gives_up : (one : Line → List Said → Type 0) (all : (line : Line) → (said : List Said) × one line said) (lines : List Line) (before now after new : List Entry) (line : Line) (rest : List Line) (error : Refused ManifestFault)
    → Goes one lines before (line ∷ rest) now → Tells (one line) now (Err error) after → Tells (AreSaid one lines) before (Err error) new
gives_up one all lines before now after new line rest (refused.Fault (BadCall name number)) goes s = passed_on one all lines before now after new line rest (BadCall name number) goes s
gives_up one all lines before now after new line rest (refused.Fault (Loop name)) goes s = passed_on one all lines before now after new line rest (Loop name) goes s
gives_up one all lines before now after new line rest (refused.Fault (Twice name)) goes s = passed_on one all lines before now after new line rest (Twice name) goes s
gives_up one all lines before now after new line rest (refused.Fault (Absent name)) goes s = passed_on one all lines before now after new line rest (Absent name) goes s
gives_up one all lines before now after new line rest (refused.Fault (Required name)) goes s = passed_on one all lines before now after new line rest (Required name) goes s
gives_up one all lines before now after new line rest (refused.Fault (Deep name)) goes s = passed_on one all lines before now after new line rest (Deep name) goes s
gives_up one all lines before now after new line rest (refused.Fault TooMany) goes s = passed_on one all lines before now after new line rest TooMany goes s
gives_up one all lines before now after new line rest (refused.Fault (ReadFault name)) goes s = tt
gives_up one all lines before now after new line rest refused.NoMemory goes s = tt

-- ---- a manifest

pub too_deep : (files : FileOf) (left : ℕ) (opened : List (List ℕ)) (name this : List ℕ) (before after : List Entry) → left ≡ 0 → this ≡ name → Tells (Says files left opened name) before (Err (refused.Fault (Deep this))) after
too_deep files left opened name this before after none is =
    (Err (Deep this) ∷ [], subst (λ (n : ℕ). Says files n opened name (Err (Deep this) ∷ [])) (sym none) (ap (λ (z : List ℕ). Err (Deep z) ∷ []) is), refl)

pub unread : (files : FileOf) (left : ℕ) (opened : List (List ℕ)) (name : List ℕ) (before after : List Entry) (error : Refused ManifestFault) → 0 < left → LinesOf (files name) name (Err error) → Tells (Says files left opened name) before (Err error) after
unread files zero opened name before after error some r = absurd (omega (arith, some))
unread files (suc left) opened name before after (refused.Fault (BadCall other number)) some r = absurd r
unread files (suc left) opened name before after (refused.Fault (Loop other)) some r = absurd r
unread files (suc left) opened name before after (refused.Fault (Twice other)) some r = absurd r
unread files (suc left) opened name before after (refused.Fault (Absent other)) some r =
    let its = AreSaid (LineSays files left (opened ++ name ∷ []) name) in
    (Err (Absent other) ∷ [], subst (λ (z : Option (List ℕ)). FileSays its name z (Err (Absent other) ∷ [])) (sym r.1) (ap (λ (z : List ℕ). Err (Absent z) ∷ []) r.0), refl)
unread files (suc left) opened name before after (refused.Fault (Required other)) some r = absurd r
unread files (suc left) opened name before after (refused.Fault (Deep other)) some r = absurd r
unread files (suc left) opened name before after (refused.Fault TooMany) some r = absurd r
unread files (suc left) opened name before after (refused.Fault (ReadFault other)) some r = tt
unread files (suc left) opened name before after refused.NoMemory some r = tt

-- the lines of the manifest tell, and so it does
pub manifest_told : (files : FileOf) (left : ℕ) (opened all : List (List ℕ)) (name this : List ℕ) (lines : List Line) (before after new : List Entry) (result : Result (Unit {0}) (Refused ManifestFault)) → 0 < left
    → all ≡ opened ++ this ∷ [] → this ≡ name
    → (bytes : List ℕ) × (files name ≡ Some bytes) × AreLines bytes lines
    → Tells (AreSaid (LineSays files (left - 1) all name) lines) before result after → Tells (Says files left opened name) before result after
manifest_told files left opened all name this lines before after new (Ok done) some are is read t =
    let open_are : all ≡ opened ++ name ∷ [] = are ∙ ap (λ (z : List ℕ). opened ++ z ∷ []) is in
    whole files left opened name read.0 lines before (Ok after) some read.1 read.2 (t.0, subst (λ (z : List (List ℕ)). AreSaid (LineSays files (left - 1) z name) lines t.0) open_are t.1, t.2)
manifest_told files left opened all name this lines before after new (Err refused.NoMemory) some are is read t = tt
manifest_told files left opened all name this lines before after new (Err (refused.Fault (ReadFault other))) some are is read t = tt
manifest_told files left opened all name this lines before after new (Err (refused.Fault (BadCall other number))) some are is read t =
    let open_are : all ≡ opened ++ name ∷ [] = are ∙ ap (λ (z : List ℕ). opened ++ z ∷ []) is in
    whole files left opened name read.0 lines before (Err (BadCall other number)) some read.1 read.2 (t.0, subst (λ (z : List (List ℕ)). AreSaid (LineSays files (left - 1) z name) lines t.0) open_are t.1, t.2)
manifest_told files left opened all name this lines before after new (Err (refused.Fault (Loop other))) some are is read t =
    let open_are : all ≡ opened ++ name ∷ [] = are ∙ ap (λ (z : List ℕ). opened ++ z ∷ []) is in
    whole files left opened name read.0 lines before (Err (Loop other)) some read.1 read.2 (t.0, subst (λ (z : List (List ℕ)). AreSaid (LineSays files (left - 1) z name) lines t.0) open_are t.1, t.2)
manifest_told files left opened all name this lines before after new (Err (refused.Fault (Twice other))) some are is read t =
    let open_are : all ≡ opened ++ name ∷ [] = are ∙ ap (λ (z : List ℕ). opened ++ z ∷ []) is in
    whole files left opened name read.0 lines before (Err (Twice other)) some read.1 read.2 (t.0, subst (λ (z : List (List ℕ)). AreSaid (LineSays files (left - 1) z name) lines t.0) open_are t.1, t.2)
manifest_told files left opened all name this lines before after new (Err (refused.Fault (Absent other))) some are is read t =
    let open_are : all ≡ opened ++ name ∷ [] = are ∙ ap (λ (z : List ℕ). opened ++ z ∷ []) is in
    whole files left opened name read.0 lines before (Err (Absent other)) some read.1 read.2 (t.0, subst (λ (z : List (List ℕ)). AreSaid (LineSays files (left - 1) z name) lines t.0) open_are t.1, t.2)
manifest_told files left opened all name this lines before after new (Err (refused.Fault (Required other))) some are is read t =
    let open_are : all ≡ opened ++ name ∷ [] = are ∙ ap (λ (z : List ℕ). opened ++ z ∷ []) is in
    whole files left opened name read.0 lines before (Err (Required other)) some read.1 read.2 (t.0, subst (λ (z : List (List ℕ)). AreSaid (LineSays files (left - 1) z name) lines t.0) open_are t.1, t.2)
manifest_told files left opened all name this lines before after new (Err (refused.Fault (Deep other))) some are is read t =
    let open_are : all ≡ opened ++ name ∷ [] = are ∙ ap (λ (z : List ℕ). opened ++ z ∷ []) is in
    whole files left opened name read.0 lines before (Err (Deep other)) some read.1 read.2 (t.0, subst (λ (z : List (List ℕ)). AreSaid (LineSays files (left - 1) z name) lines t.0) open_are t.1, t.2)
manifest_told files left opened all name this lines before after new (Err (refused.Fault TooMany)) some are is read t =
    let open_are : all ≡ opened ++ name ∷ [] = are ∙ ap (λ (z : List ℕ). opened ++ z ∷ []) is in
    whole files left opened name read.0 lines before (Err TooMany) some read.1 read.2 (t.0, subst (λ (z : List (List ℕ)). AreSaid (LineSays files (left - 1) z name) lines t.0) open_are t.1, t.2)

-- ---- of a folder that may tell its files

pub line_gave_up : (o here : Option FileOf) (left : ℕ) (opened these : List (List ℕ)) (name : List ℕ) (lines : List Line) (i : ℕ) (line : Line) (before now after new : List Entry) (error : Refused ManifestFault)
    → here ≡ o → these ≡ opened → i < length lines → line ≡ get_or lines i line
    → IfSome o (λ files. Goes (LineSays files left opened name) lines before (drop i lines) now)
    → IfSome here (λ files. Tells (LineSays files left these name line) now (Err error) after)
    → IfSome o (λ files. Tells (AreSaid (LineSays files left opened name) lines) before (Err error) new)
line_gave_up None here left opened these name lines i line before now after new error same are l is goes tells = tt
line_gave_up (Some files) here left opened these name lines i line before now after new error same are l is goes tells =
    let one = LineSays files left opened name in
    let its = subst (λ (z : Option FileOf). IfSome z (λ files. Tells (LineSays files left these name line) now (Err error) after)) same tells in
    gives_up one (any_line files left opened name) lines before now after new line (drop (i + 1) lines) error
    (subst (λ (z : List Line). Goes one lines before z now) (drop_item lines i line l is) goes)
    (subst (λ (z : List (List ℕ)). Tells (LineSays files left z name line) now (Err error) after) are its)

pub line_went_on : (o here : Option FileOf) (left : ℕ) (opened these : List (List ℕ)) (name : List ℕ) (lines : List Line) (i : ℕ) (line : Line) (before now after : List Entry)
    → here ≡ o → these ≡ opened → i < length lines → line ≡ get_or lines i line
    → IfSome o (λ files. Goes (LineSays files left opened name) lines before (drop i lines) now)
    → IfSome here (λ files. Tells (LineSays files left these name line) now (Ok tt) after)
    → IfSome o (λ files. Goes (LineSays files left opened name) lines before (drop (i + 1) lines) after)
line_went_on None here left opened these name lines i line before now after same are l is goes tells = tt
line_went_on (Some files) here left opened these name lines i line before now after same are l is goes tells =
    let one = LineSays files left opened name in
    let at = subst (λ (z : Option FileOf). IfSome z (λ files. Tells (LineSays files left these name line) now (Ok tt) after)) same tells in
    let its : (said : List Said) × LineSays files left opened name line said × (entries_after now said ≡ Ok after) = subst (λ (z : List (List ℕ)). Tells (LineSays files left z name line) now (Ok tt) after) are at in
    goes_further one lines before now after line (drop (i + 1) lines) its.0 (subst (λ (z : List Line). Goes one lines before z now) (drop_item lines i line l is) goes) its.1 its.2

pub lines_told : (o : Option FileOf) (left : ℕ) (opened : List (List ℕ)) (name : List ℕ) (lines : List Line) (i : ℕ) (before now : List Entry)
    → length lines ≤ i
    → IfSome o (λ files. Goes (LineSays files left opened name) lines before (drop i lines) now)
    → IfSome o (λ files. Tells (AreSaid (LineSays files left opened name) lines) before (Ok tt) now)
lines_told None left opened name lines i before now l goes = tt
lines_told (Some files) left opened name lines i before now l goes =
    ends (LineSays files left opened name) lines before now (subst (λ (z : List Line). Goes (LineSays files left opened name) lines before z now) (drop_all lines i l) goes)

pub whole_told : (o here : Option FileOf) (left : ℕ) (opened all : List (List ℕ)) (name this : List ℕ) (lines : Vec Line Global) (these : List Line) (before after : List Entry) (result : Result (Unit {0}) (Refused ManifestFault))
    → 0 < left → here ≡ o → all ≡ opened ++ this ∷ [] → this ≡ name → these ≡ lines.items
    → IfSome o (λ files. LinesOf (files name) name (Ok lines))
    → IfSome here (λ files. Tells (AreSaid (LineSays files (left - 1) all name) these) before result after)
    → IfSome o (λ files. Tells (Says files left opened name) before result after)
whole_told None here left opened all name this lines these before after result some same are is those read tells = tt
whole_told (Some files) here left opened all name this lines these before after result some same are is those read tells =
    let at = subst (λ (z : Option FileOf). IfSome z (λ files. Tells (AreSaid (LineSays files (left - 1) all name) these) before result after)) same tells in
    manifest_told files left opened all name this lines.items before after after result some are is read
    (subst (λ (z : List Line). Tells (AreSaid (LineSays files (left - 1) all name) z) before result after) those at)

-- ---- the answer

pub found_all : (o : Option FileOf) (opened : List (List ℕ)) (name : List ℕ) (before after : List Entry) → opened ≡ [] → before ≡ []
    → IfSome o (λ files. Tells (Says files MAX_OPEN opened name) before (Ok tt) after) → IfSome o (λ files. AreEntries files name after)
found_all None opened name before after none empty t = tt
found_all (Some files) opened name before after none empty t =
    (t.0, subst (λ (z : List (List ℕ)). Says files MAX_OPEN z name t.0) none t.1, sym (subst (λ (z : List Entry). entries_after z t.0 ≡ Ok after) empty t.2))

tells_fault : (says : List Said → Type 0) (before after : List Entry) (fault : ManifestFault) → Tells says before (Err (refused.Fault fault)) after → is_read_fault fault ≡ false → (said : List Said) × says said × (entries_after before said ≡ Err fault)
tells_fault says before after (BadCall name line) t e = t
tells_fault says before after (Loop name) t e = t
tells_fault says before after (Twice name) t e = t
tells_fault says before after (Absent name) t e = t
tells_fault says before after (Required name) t e = t
tells_fault says before after (Deep name) t e = t
tells_fault says before after TooMany t e = t
tells_fault says before after (ReadFault name) t e = absurd (true≢false e)

pub first_fault : {A : Type 0} (result : Result A (Refused ManifestFault)) (o : Option FileOf) (opened : List (List ℕ)) (name : List ℕ) (before after : List Entry) (error : Refused ManifestFault) → result ≡ Err error → opened ≡ [] → before ≡ []
    → IfSome o (λ files. Tells (Says files MAX_OPEN opened name) before (Err error) after)
    → IfSome o (λ files. (fault : ManifestFault) → result ≡ Err (refused.Fault fault) → is_read_fault fault ≡ false → IsFault files name fault)
first_fault result None opened name before after error r none empty t = tt
first_fault result (Some files) opened name before after error r none empty t = λ fault e no_read.
    let is : error ≡ refused.Fault fault = cc in
    let its = tells_fault (Says files MAX_OPEN opened name) before after fault (subst (λ (z : Refused ManifestFault). Tells (Says files MAX_OPEN opened name) before (Err z) after) is t) no_read in
    (its.0, subst (λ (z : List (List ℕ)). Says files MAX_OPEN z name its.0) none its.1, sym (subst (λ (z : List Entry). entries_after z its.0 ≡ Err fault) empty its.2))
