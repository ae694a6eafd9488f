-- An escape that was found, and that bytes begin with one at most.
use Rattle.std.proofs.Common.{◌≡◌, ◌⊎◌, inl, inr, ℕ, suc, ◌+◌, ◌-◌, ◌<◌, ◌≤◌, List, [], ◌∷◌, ◌++◌, length, take, drop, All, Result, Ok, Err, MatchResult, refl, sym, ap, ◌∙◌, subst, arith}
use Rattle.std.proofs.lemmas.List.{take-append-drop}
use Rattle.std.proofs.lemmas.Grind.{common_steps}
use Rattle.std.proofs.lemmas.List.Elements.{All-head, All-tail}
use Rattle.py_tokens.specs.declared.escape.Mark.{Mark}
use Rattle.py_tokens.specs.declared.escape.Mark.TheVariants.{StandsFor, LineEnd, Octal, Hexadecimal, Unicode, Nothing}
use Rattle.py_tokens.specs.declared.escape.Piece.{Piece}
use Rattle.py_tokens.specs.declared.escape.Given.TheVariants.{Byte}
use Rattle.py_tokens.specs.declared.escape.StringFaultKind.{StringFaultKind}
use Rattle.py_tokens.specs.declared.escape.StringFaultKind.TheVariants.{BadToken, Escape, NonAscii}
use Rattle.py_tokens.specs.Digits.{IsDigitOf, value_of}
use Rattle.py_tokens.specs.LineEnd.{Begins, IsLineEnd}
use Rattle.py_tokens.specs.Escape.{mark_of, IsOctal, IsHexadecimal, IsCode, IsAsciiCode, Gives, IsEscape, HasLargeCode, Fails, IsEscapeFault}
use Rattle.py_tokens.specs.Literal.{given_text}

abbrev pub IsBackslash : ℕ → Type 0
IsBackslash byte = byte ≡ 92

-- the bytes begin with an escape of `n` bytes that gives this
abbrev pub Found : List ℕ → ℕ → List ℕ → Type 0
Found bytes n given = (n ≤ length bytes) × IsEscape (take n bytes) (drop n bytes) given

-- the escape that is found
-- ========================

-- what is behind the backslash
pub behind_is : (bytes : List ℕ) → take (length bytes - 1) (drop 1 bytes) ≡ drop 1 bytes
behind_is bytes = grind (arith, common_steps)

-- a mark and what it gives are an escape
pub escape_of : (bytes behind : List ℕ) (n : ℕ) (given : List ℕ) (mark : Mark) → behind ≡ drop 1 bytes → Begins IsBackslash bytes → mark ≡ mark_of behind → n ≤ length behind → Gives mark (take n behind) (drop n behind) given → Found bytes (1 + n) given
escape_of [] behind n given mark at begins is within gives = absurd begins
escape_of (byte ∷ rest) behind n given mark at begins is within gives =
    let same : mark ≡ mark_of (take n behind ++ drop n behind) = is ∙ sym (ap mark_of (take-append-drop n behind)) in
    let next : suc n ≡ 1 + n = omega arith in
    subst (λ r. Found (byte ∷ r) (1 + n) given) at
    (subst (λ k. Found (byte ∷ behind) k given) next
    (omega arith, (take n behind, ap (λ b. b ∷ take n behind) begins, subst (λ m. Gives m (take n behind) (drop n behind) given) same gives)))

pub stands_escape : (bytes behind : List ℕ) (value : ℕ) → behind ≡ drop 1 bytes → Begins IsBackslash bytes → StandsFor value ≡ mark_of behind → Found bytes 2 (value ∷ [])
stands_escape bytes [] value at begins is = absurd cc
stands_escape bytes (next ∷ rest) value at begins is =
    escape_of bytes (next ∷ rest) 1 (value ∷ []) (StandsFor value) at begins is (omega arith) (next, refl, refl)

pub fails_escape : (bytes behind : List ℕ) (mark : Mark) (kind : StringFaultKind) → behind ≡ drop 1 bytes → Begins IsBackslash bytes → mark ≡ mark_of behind → Fails mark behind kind → IsEscapeFault bytes kind
fails_escape [] behind mark kind at begins is fails = absurd begins
fails_escape (byte ∷ rest) behind mark kind at begins is fails =
    subst (λ r. IsEscapeFault (byte ∷ r) kind) at
    (behind, ap (λ b. b ∷ behind) begins, subst (λ m. Fails m behind kind) is fails)

-- the number of a character, of which one past 127 is a fault
pub code_says : (mark : Mark) (bytes behind : List ℕ) (len value : ℕ) (result : Result Piece StringFaultKind) → ((text rest given : List ℕ) → IsAsciiCode mark text rest given → Gives mark text rest given) → (HasLargeCode mark behind → Fails mark behind NonAscii) → behind ≡ drop 1 bytes → Begins IsBackslash bytes → mark ≡ mark_of behind → len ≤ length behind → IsCode mark (take len behind) (drop len behind) value → MatchResult result (λ piece. (value < 128) × (piece ≡ record { len = 1 + len; given = Byte value })) (λ kind. (128 ≤ value) × (kind ≡ NonAscii)) → MatchResult result (λ piece. Found bytes piece.len (given_text piece.given (take piece.len bytes))) (IsEscapeFault bytes)
code_says mark bytes behind len value (Ok piece) gives fails at begins is within code says =
    subst (λ (p : Piece). Found bytes p.len (given_text p.given (take p.len bytes))) (sym says.1)
    (escape_of bytes behind len (value ∷ []) mark at begins is within (gives (take len behind) (drop len behind) (value ∷ []) (value, code, says.0, refl)))
code_says mark bytes behind len value (Err kind) gives fails at begins is within code says =
    let large : HasLargeCode mark behind = (take len behind, drop len behind, value, sym (take-append-drop len behind), code, says.0) in
    subst (IsEscapeFault bytes) (sym says.1) (fails_escape bytes behind mark NonAscii at begins is (fails large))

-- one escape at most
-- ==================

-- two texts in front of the same bytes
pub both : (a b x y s t : List ℕ) → a ≡ s → b ≡ t → a ++ x ≡ b ++ y → s ++ x ≡ t ++ y
both a b x y s t p q e = sym (ap (λ u. u ++ x) p) ∙ (e ∙ ap (λ u. u ++ y) q)

-- the longest front of such bytes, of at most n
longest : (P : ℕ → Type 0) (a b x y : List ℕ) (n : ℕ) → All P a → All P b → length a ≤ n → length b ≤ n → (length a ≡ n) ⊎ ¬ Begins P x → (length b ≡ n) ⊎ ¬ Begins P y → a ++ x ≡ b ++ y → a ≡ b
longest P [] [] x y n all its short less end stop e = refl
longest P [] (q ∷ b) x y n all its short less (inl end) stop e = absurd (omega arith)
longest P [] (q ∷ b) x y n all its short less (inr end) stop e = absurd (end (subst (Begins P) (sym e) (All-head P q b its)))
longest P (p ∷ a) [] x y n all its short less end (inl stop) e = absurd (omega arith)
longest P (p ∷ a) [] x y n all its short less end (inr stop) e = absurd (stop (subst (Begins P) e (All-head P p a all)))
longest P (p ∷ a) (q ∷ b) x y n all its short less end stop e =
    let head : p ≡ q = cc in
    let rest : a ++ x ≡ b ++ y = cc in
    let ends : (length a ≡ n - 1) ⊎ ¬ Begins P x = elim end [ inl full ↦ inl (omega arith) | inr other ↦ inr other ] in
    let stops : (length b ≡ n - 1) ⊎ ¬ Begins P y = elim stop [ inl full ↦ inl (omega arith) | inr other ↦ inr other ] in
    let tail : a ≡ b = longest P a b x y (n - 1) (All-tail P p a all) (All-tail P q b its) (omega arith) (omega arith) ends stops rest in
    cc

one_octal : (a b x y : List ℕ) → IsOctal a x → IsOctal b y → a ++ x ≡ b ++ y → a ≡ b
one_octal a b x y s t e = longest (IsDigitOf 8) a b x y 3 s.digits_are t.digits_are s.few t.few s.longest t.longest e

one_hexadecimal : (a b x y : List ℕ) (m n : ℕ) → IsHexadecimal a m → IsHexadecimal b n → a ++ x ≡ b ++ y → (a ≡ b) × (m ≡ n)
one_hexadecimal a b x y m n s t e =
    let same : 120 ∷ s.0 ∷ s.1 ∷ x ≡ 120 ∷ t.0 ∷ t.1 ∷ y = both a b x y (120 ∷ s.0 ∷ s.1 ∷ []) (120 ∷ t.0 ∷ t.1 ∷ []) s.2 t.2 e in
    let high : s.0 ≡ t.0 = cc in
    let low : s.1 ≡ t.1 = cc in (
      s.2 ∙ (ap (λ h. 120 ∷ h ∷ s.1 ∷ []) high ∙ (ap (λ l. 120 ∷ t.0 ∷ l ∷ []) low ∙ sym t.2)),
      s.5 ∙ (ap (λ h. value_of 16 (h ∷ s.1 ∷ [])) high ∙ (ap (λ l. value_of 16 (t.0 ∷ l ∷ [])) low ∙ sym t.5)),
    )

one_code : (mark : Mark) (a b x y : List ℕ) (m n : ℕ) → IsCode mark a x m → IsCode mark b y n → a ++ x ≡ b ++ y → (a ≡ b) × (m ≡ n)
one_code Octal a b x y m n s t e =
    let same : a ≡ b = one_octal a b x y s.0 t.0 e in
    (same, s.1 ∙ (ap (value_of 8) same ∙ sym t.1))
one_code Hexadecimal a b x y m n s t e = one_hexadecimal a b x y m n s t e
one_code mark a b x y m n s t e = absurd s

one_ascii : (mark : Mark) (a b x y g h : List ℕ) → IsAsciiCode mark a x g → IsAsciiCode mark b y h → a ++ x ≡ b ++ y → (a ≡ b) × (g ≡ h)
one_ascii mark a b x y g h s t e =
    let same = one_code mark a b x y s.0 t.0 s.1 t.1 e in
    (same.0, s.3 ∙ (ap (λ v. v ∷ []) same.1 ∙ sym t.3))

pub one_line_end : (a b x y : List ℕ) → IsLineEnd a x → IsLineEnd b y → a ++ x ≡ b ++ y → a ≡ b
one_line_end a b x y (inl s) (inl t) e = s ∙ sym t
one_line_end a b x y (inl s) (inr (inl t)) e = let same : 10 ∷ x ≡ 13 ∷ 10 ∷ y = both a b x y (10 ∷ []) (13 ∷ 10 ∷ []) s t e in absurd cc
one_line_end a b x y (inl s) (inr (inr t)) e = let same : 10 ∷ x ≡ 13 ∷ y = both a b x y (10 ∷ []) (13 ∷ []) s t.0 e in absurd cc
one_line_end a b x y (inr (inl s)) (inl t) e = let same : 13 ∷ 10 ∷ x ≡ 10 ∷ y = both a b x y (13 ∷ 10 ∷ []) (10 ∷ []) s t e in absurd cc
one_line_end a b x y (inr (inl s)) (inr (inl t)) e = s ∙ sym t
one_line_end a b x y (inr (inl s)) (inr (inr t)) e =
    let same : 13 ∷ 10 ∷ x ≡ 13 ∷ y = both a b x y (13 ∷ 10 ∷ []) (13 ∷ []) s t.0 e in
    let rest : 10 ∷ x ≡ y = cc in
    absurd (t.1 (subst (Begins (λ byte. byte ≡ 10)) rest refl))
one_line_end a b x y (inr (inr s)) (inl t) e = let same : 13 ∷ x ≡ 10 ∷ y = both a b x y (13 ∷ []) (10 ∷ []) s.0 t e in absurd cc
one_line_end a b x y (inr (inr s)) (inr (inl t)) e =
    let same : 13 ∷ x ≡ 13 ∷ 10 ∷ y = both a b x y (13 ∷ []) (13 ∷ 10 ∷ []) s.0 t e in
    let rest : 10 ∷ y ≡ x = cc in
    absurd (s.1 (subst (Begins (λ byte. byte ≡ 10)) rest refl))
one_line_end a b x y (inr (inr s)) (inr (inr t)) e = s.0 ∙ sym t.0

one_gives : (mark : Mark) (a b x y g h : List ℕ) → Gives mark a x g → Gives mark b y h → a ++ x ≡ b ++ y → (a ≡ b) × (g ≡ h)
one_gives (StandsFor value) a b x y g h s t e =
    let same : s.0 ∷ x ≡ t.0 ∷ y = both a b x y (s.0 ∷ []) (t.0 ∷ []) s.1 t.1 e in
    let byte : s.0 ≡ t.0 = cc in
    (s.1 ∙ (ap (λ c. c ∷ []) byte ∙ sym t.1), s.2 ∙ sym t.2)
one_gives LineEnd a b x y g h s t e = (one_line_end a b x y s.0 t.0 e, s.1 ∙ sym t.1)
one_gives Octal a b x y g h s t e = one_ascii Octal a b x y g h s t e
one_gives Hexadecimal a b x y g h s t e = one_ascii Hexadecimal a b x y g h s t e
one_gives Unicode a b x y g h s t e = absurd s
one_gives Nothing a b x y g h s t e = (s.0 ∙ sym t.0, s.1 ∙ sym t.1)

pub one_escape : (a b x y g h : List ℕ) → IsEscape a x g → IsEscape b y h → a ++ x ≡ b ++ y → (a ≡ b) × (g ≡ h)
one_escape a b x y g h s t e =
    let same : 92 ∷ (s.0 ++ x) ≡ 92 ∷ (t.0 ++ y) = both a b x y (92 ∷ s.0) (92 ∷ t.0) s.1 t.1 e in
    let behind : s.0 ++ x ≡ t.0 ++ y = cc in
    let mark : mark_of (t.0 ++ y) ≡ mark_of (s.0 ++ x) = ap mark_of (sym behind) in
    let one = one_gives (mark_of (s.0 ++ x)) s.0 t.0 x y g h s.2 (subst (λ m. Gives m t.0 y h) mark t.2) behind in
    (s.1 ∙ (ap (λ u. 92 ∷ u) one.0 ∙ sym t.1), one.1)

ascii_large : (mark : Mark) (a x g : List ℕ) → IsAsciiCode mark a x g → HasLargeCode mark (a ++ x) → ⊥
ascii_large mark a x g s t =
    let same = (one_code mark a t.0 x t.1 s.0 t.2 s.1 t.4 t.3).1 in
    omega arith

gives_fails : (mark : Mark) (a x g : List ℕ) (kind : StringFaultKind) → Gives mark a x g → Fails mark (a ++ x) kind → ⊥
gives_fails Octal a x g NonAscii s t = ascii_large Octal a x g s t
gives_fails Hexadecimal a x g NonAscii s t = ascii_large Hexadecimal a x g s t
gives_fails Hexadecimal a x g BadToken s t = t a x s.0 refl s.1
gives_fails Unicode a x g Escape s t = s
gives_fails mark a x g kind s t = t

pub escape_fault : (a x g : List ℕ) (kind : StringFaultKind) → IsEscape a x g → IsEscapeFault (a ++ x) kind → ⊥
escape_fault a x g kind s t =
    let same : 92 ∷ (s.0 ++ x) ≡ 92 ∷ t.0 = sym (ap (λ u. u ++ x) s.1) ∙ t.1 in
    let behind : t.0 ≡ s.0 ++ x = cc in
    gives_fails (mark_of (s.0 ++ x)) s.0 x g kind s.2 (subst (λ u. Fails (mark_of u) u kind) behind t.2)

one_fails : (mark : Mark) (bytes : List ℕ) (k l : StringFaultKind) → Fails mark bytes k → Fails mark bytes l → k ≡ l
one_fails Octal bytes NonAscii NonAscii s t = refl
one_fails Hexadecimal bytes NonAscii NonAscii s t = refl
one_fails Hexadecimal bytes NonAscii BadToken s t = absurd (t s.0 s.1 s.2 s.3 s.4)
one_fails Hexadecimal bytes BadToken NonAscii s t = absurd (s t.0 t.1 t.2 t.3 t.4)
one_fails Hexadecimal bytes BadToken BadToken s t = refl
one_fails Unicode bytes Escape Escape s t = refl
one_fails mark bytes k l s t = absurd (assumption (s, t))

pub one_escape_fault : (bytes : List ℕ) (k l : StringFaultKind) → IsEscapeFault bytes k → IsEscapeFault bytes l → k ≡ l
one_escape_fault bytes k l s t =
    let same : 92 ∷ s.0 ≡ 92 ∷ t.0 = sym s.1 ∙ t.1 in
    let behind : t.0 ≡ s.0 = cc in
    one_fails (mark_of s.0) s.0 k l s.2 (subst (λ u. Fails (mark_of u) u l) behind t.2)
