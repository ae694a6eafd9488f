-- Bytes begin with one literal at most, or have one first fault.
use Rattle.std.proofs.Common.{◌≡◌, ◌≢◌, ◌⊎◌, inl, inr, ℕ, ◌+◌, List, [], ◌∷◌, ◌++◌, length, Bool, true, false, refl, sym, ap, ◌∙◌, subst, arith}
use Rattle.std.proofs.lemmas.List.{append_cancel_left, append_assoc}
use Rattle.py_tokens.specs.declared.escape.StringFaultKind.{StringFaultKind}
use Rattle.py_tokens.specs.declared.escape.StringFaultKind.TheVariants.{BadByte, BadToken, Escape, NonAscii}
use Rattle.py_tokens.specs.declared.string.StringFault.{StringFault}
use Rattle.py_tokens.specs.LineEnd.{Begins, IsLineByte, IsLineEnd}
use Rattle.py_tokens.specs.Operator.{Stands}
use Rattle.py_tokens.specs.Escape.{IsEscape, IsEscapeFault}
use Rattle.py_tokens.specs.Literal.{IsQuote, Opens, IsTriple, IsPrintable, IsPlain, IsRaw, IsPiece, IsFault, ArePieces, given_by, IsLiteral, IsLiteralFault}
use Rattle.py_tokens.proofs.Escapes.{IsBackslash, both, one_line_end, one_escape, escape_fault, one_escape_fault}

-- what the bytes begin with
-- =========================

abbrev IsOther : ℕ → Type 0
IsOther byte = IsPrintable byte × (byte ≢ 92)

abbrev IsBad : ℕ → Type 0
IsBad byte = ¬ IsPrintable byte × ¬ IsLineByte byte

abbrev IsAllowed : ℕ → Type 0
IsAllowed byte = IsPrintable byte ⊎ IsLineByte byte

clash : (P Q : ℕ → Type 0) (bytes : List ℕ) → ((byte : ℕ) → P byte → Q byte → ⊥) → Begins P bytes → Begins Q bytes → ⊥
clash P Q [] never p q = p
clash P Q (byte ∷ bytes) never p q = never byte p q

line_other : (byte : ℕ) → IsLineByte byte → IsOther byte → ⊥
line_other byte p q = grind arith

line_backslash : (byte : ℕ) → IsLineByte byte → IsBackslash byte → ⊥
line_backslash byte p q = grind arith

line_quote : (byte : ℕ) → IsLineByte byte → IsQuote byte → ⊥
line_quote byte p q = grind arith

backslash_quote : (byte : ℕ) → IsBackslash byte → IsQuote byte → ⊥
backslash_quote byte p q = grind arith

other_backslash : (byte : ℕ) → IsOther byte → IsBackslash byte → ⊥
other_backslash byte p q = p.1 q

allowed_bad : (byte : ℕ) → IsAllowed byte → IsBad byte → ⊥
allowed_bad byte (inl p) q = q.0 p
allowed_bad byte (inr p) q = q.1 p

quote_allowed : (byte : ℕ) → IsQuote byte → IsAllowed byte
quote_allowed byte p = inl (inr (grind arith, grind arith))

weaker : (P Q : ℕ → Type 0) (bytes : List ℕ) → ((byte : ℕ) → P byte → Q byte) → Begins P bytes → Begins Q bytes
weaker P Q [] more p = p
weaker P Q (byte ∷ bytes) more p = more byte p

begins : (P : ℕ → Type 0) (text front rest : List ℕ) → text ≡ front → Begins P (front ++ rest) → Begins P (text ++ rest)
begins P text front rest is p = subst (λ t. Begins P (t ++ rest)) (sym is) p

line_begins : (text rest : List ℕ) → IsLineEnd text rest → Begins IsLineByte (text ++ rest)
line_begins text rest (inl is) = begins IsLineByte text (10 ∷ []) rest is (inl refl)
line_begins text rest (inr (inl is)) = begins IsLineByte text (13 ∷ 10 ∷ []) rest is (inr refl)
line_begins text rest (inr (inr is)) = begins IsLineByte text (13 ∷ []) rest is.0 (inr refl)

plain_begins : (quotes text rest : List ℕ) → IsPlain quotes text rest → Begins IsOther (text ++ rest)
plain_begins quotes text rest is = begins IsOther text (is.0 ∷ []) rest is.1 (is.2, is.3)

raw_begins : (text rest : List ℕ) → IsRaw text rest → Begins IsBackslash (text ++ rest)
raw_begins text rest (inl is) = begins IsBackslash text (92 ∷ is.0 ∷ []) rest is.2 refl
raw_begins text rest (inr is) = begins IsBackslash text (92 ∷ []) rest is.0 refl

escape_begins : (text rest given : List ℕ) → IsEscape text rest given → Begins IsBackslash (text ++ rest)
escape_begins text rest given is = begins IsBackslash text (92 ∷ is.0) rest is.1 refl

fault_begins : (bytes : List ℕ) (kind : StringFaultKind) → IsEscapeFault bytes kind → Begins IsBackslash bytes
fault_begins bytes kind is = subst (Begins IsBackslash) (sym is.1) refl

quotes_begin : (quotes rest bytes : List ℕ) → Opens quotes rest → Stands quotes bytes → Begins IsQuote bytes
quotes_begin quotes rest bytes (quote, is, inl three) stands =
    subst (Begins IsQuote) (sym stands.1) (begins IsQuote quotes (quote ∷ quote ∷ quote ∷ []) stands.0 three is)
quotes_begin quotes rest bytes (quote, is, inr one) stands =
    subst (Begins IsQuote) (sym stands.1) (begins IsQuote quotes (quote ∷ []) stands.0 one.0 is)

-- the piece that stands in front, by what it begins with
-- ======================================================

piece_begins : (raw : Bool) (quotes text rest given : List ℕ) → IsPiece raw quotes text rest given → Begins IsAllowed (text ++ rest)
piece_begins raw quotes text rest given (inl is) = weaker IsLineByte IsAllowed (text ++ rest) (λ byte p. inr p) (line_begins text rest is.1)
piece_begins raw quotes text rest given (inr (inl is)) = weaker IsOther IsAllowed (text ++ rest) (λ byte p. inl p.0) (plain_begins quotes text rest is.0)
piece_begins raw quotes text rest given (inr (inr (inl is))) = weaker IsBackslash IsAllowed (text ++ rest) (λ byte p. inl (inr (omega arith, omega arith))) (raw_begins text rest is.1)
piece_begins raw quotes text rest given (inr (inr (inr is))) = weaker IsBackslash IsAllowed (text ++ rest) (λ byte p. inl (inr (omega arith, omega arith))) (escape_begins text rest given is.1)

piece_line : (raw : Bool) (quotes text rest given : List ℕ) → IsPiece raw quotes text rest given → Begins IsLineByte (text ++ rest) → IsTriple quotes × IsLineEnd text rest × (given ≡ 10 ∷ [])
piece_line raw quotes text rest given (inl is) line = is
piece_line raw quotes text rest given (inr (inl is)) line = absurd (clash IsLineByte IsOther (text ++ rest) line_other line (plain_begins quotes text rest is.0))
piece_line raw quotes text rest given (inr (inr (inl is))) line = absurd (clash IsLineByte IsBackslash (text ++ rest) line_backslash line (raw_begins text rest is.1))
piece_line raw quotes text rest given (inr (inr (inr is))) line = absurd (clash IsLineByte IsBackslash (text ++ rest) line_backslash line (escape_begins text rest given is.1))

piece_plain : (raw : Bool) (quotes text rest given : List ℕ) → IsPiece raw quotes text rest given → Begins IsOther (text ++ rest) → IsPlain quotes text rest × (given ≡ text)
piece_plain raw quotes text rest given (inl is) other = absurd (clash IsLineByte IsOther (text ++ rest) line_other (line_begins text rest is.1) other)
piece_plain raw quotes text rest given (inr (inl is)) other = is
piece_plain raw quotes text rest given (inr (inr (inl is))) other = absurd (clash IsOther IsBackslash (text ++ rest) other_backslash other (raw_begins text rest is.1))
piece_plain raw quotes text rest given (inr (inr (inr is))) other = absurd (clash IsOther IsBackslash (text ++ rest) other_backslash other (escape_begins text rest given is.1))

piece_raw : (raw : Bool) (quotes text rest given : List ℕ) → IsPiece raw quotes text rest given → raw ≡ true → Begins IsBackslash (text ++ rest) → IsRaw text rest × (given ≡ text)
piece_raw raw quotes text rest given (inl is) on slash = absurd (clash IsLineByte IsBackslash (text ++ rest) line_backslash (line_begins text rest is.1) slash)
piece_raw raw quotes text rest given (inr (inl is)) on slash = absurd (clash IsOther IsBackslash (text ++ rest) other_backslash (plain_begins quotes text rest is.0) slash)
piece_raw raw quotes text rest given (inr (inr (inl is))) on slash = (is.1, is.2)
piece_raw raw quotes text rest given (inr (inr (inr is))) on slash = absurd cc

piece_escape : (raw : Bool) (quotes text rest given : List ℕ) → IsPiece raw quotes text rest given → raw ≡ false → Begins IsBackslash (text ++ rest) → IsEscape text rest given
piece_escape raw quotes text rest given (inl is) off slash = absurd (clash IsLineByte IsBackslash (text ++ rest) line_backslash (line_begins text rest is.1) slash)
piece_escape raw quotes text rest given (inr (inl is)) off slash = absurd (clash IsOther IsBackslash (text ++ rest) other_backslash (plain_begins quotes text rest is.0) slash)
piece_escape raw quotes text rest given (inr (inr (inl is))) off slash = absurd cc
piece_escape raw quotes text rest given (inr (inr (inr is))) off slash = is.1

one_raw : (a b x y : List ℕ) → IsRaw a x → IsRaw b y → a ++ x ≡ b ++ y → a ≡ b
one_raw a b x y (inl s) (inl t) e =
    let same : 92 ∷ s.0 ∷ x ≡ 92 ∷ t.0 ∷ y = both a b x y (92 ∷ s.0 ∷ []) (92 ∷ t.0 ∷ []) s.2 t.2 e in
    let quote : s.0 ≡ t.0 = cc in
    s.2 ∙ (ap (λ q. 92 ∷ q ∷ []) quote ∙ sym t.2)
one_raw a b x y (inl s) (inr t) e =
    let same : 92 ∷ s.0 ∷ x ≡ 92 ∷ y = both a b x y (92 ∷ s.0 ∷ []) (92 ∷ []) s.2 t.0 e in
    let rest : s.0 ∷ x ≡ y = cc in
    absurd (t.1 (subst (Begins IsQuote) rest s.1))
one_raw a b x y (inr s) (inl t) e =
    let same : 92 ∷ x ≡ 92 ∷ t.0 ∷ y = both a b x y (92 ∷ []) (92 ∷ t.0 ∷ []) s.0 t.2 e in
    let rest : t.0 ∷ y ≡ x = cc in
    absurd (s.1 (subst (Begins IsQuote) rest t.1))
one_raw a b x y (inr s) (inr t) e = s.0 ∙ sym t.0

one_plain : (quotes a b x y : List ℕ) → IsPlain quotes a x → IsPlain quotes b y → a ++ x ≡ b ++ y → a ≡ b
one_plain quotes a b x y s t e =
    let same : s.0 ∷ x ≡ t.0 ∷ y = both a b x y (s.0 ∷ []) (t.0 ∷ []) s.1 t.1 e in
    let byte : s.0 ≡ t.0 = cc in
    s.1 ∙ (ap (λ c. c ∷ []) byte ∙ sym t.1)

one_piece : (raw : Bool) (quotes a b x y g h : List ℕ) → IsPiece raw quotes a x g → IsPiece raw quotes b y h → a ++ x ≡ b ++ y → (a ≡ b) × (g ≡ h)
one_piece raw quotes a b x y g h (inl s) t e =
    let u = piece_line raw quotes b y h t (subst (Begins IsLineByte) e (line_begins a x s.1)) in
    (one_line_end a b x y s.1 u.1 e, s.2 ∙ sym u.2)
one_piece raw quotes a b x y g h (inr (inl s)) t e =
    let u = piece_plain raw quotes b y h t (subst (Begins IsOther) e (plain_begins quotes a x s.0)) in
    let same = one_plain quotes a b x y s.0 u.0 e in
    (same, s.1 ∙ (same ∙ sym u.1))
one_piece raw quotes a b x y g h (inr (inr (inl s))) t e =
    let u = piece_raw raw quotes b y h t s.0 (subst (Begins IsBackslash) e (raw_begins a x s.1)) in
    let same = one_raw a b x y s.1 u.0 e in
    (same, s.2 ∙ (same ∙ sym u.1))
one_piece raw quotes a b x y g h (inr (inr (inr s))) t e =
    let u = piece_escape raw quotes b y h t s.0 (subst (Begins IsBackslash) e (escape_begins a x g s.1)) in
    one_escape a b x y g h s.1 u e

-- where the pieces end
-- ====================

piece_fault : (raw : Bool) (quotes text rest given : List ℕ) (kind : StringFaultKind) → IsPiece raw quotes text rest given → IsFault raw quotes (text ++ rest) kind → ⊥
piece_fault raw quotes text rest given BadByte s t = clash IsAllowed IsBad (text ++ rest) allowed_bad (piece_begins raw quotes text rest given s) t
piece_fault raw quotes text rest given BadToken s (inl t) = subst (Begins IsAllowed) t (piece_begins raw quotes text rest given s)
piece_fault raw quotes text rest given BadToken s (inr (inl t)) = t.1 (piece_line raw quotes text rest given s t.0).0
piece_fault raw quotes text rest given BadToken s (inr (inr t)) =
    escape_fault text rest given BadToken (piece_escape raw quotes text rest given s t.0 (fault_begins (text ++ rest) BadToken t.1)) t.1
piece_fault raw quotes text rest given Escape s t =
    escape_fault text rest given Escape (piece_escape raw quotes text rest given s t.0 (fault_begins (text ++ rest) Escape t.1)) t.1
piece_fault raw quotes text rest given NonAscii s t =
    escape_fault text rest given NonAscii (piece_escape raw quotes text rest given s t.0 (fault_begins (text ++ rest) NonAscii t.1)) t.1

piece_closes : (raw : Bool) (quotes text rest given : List ℕ) → Begins IsQuote (text ++ rest) → IsPiece raw quotes text rest given → Stands quotes (text ++ rest) → ⊥
piece_closes raw quotes text rest given quote (inl s) t = clash IsLineByte IsQuote (text ++ rest) line_quote (line_begins text rest s.1) quote
piece_closes raw quotes text rest given quote (inr (inl s)) t = s.0.4 t
piece_closes raw quotes text rest given quote (inr (inr (inl s))) t = clash IsBackslash IsQuote (text ++ rest) backslash_quote (raw_begins text rest s.1) quote
piece_closes raw quotes text rest given quote (inr (inr (inr s))) t = clash IsBackslash IsQuote (text ++ rest) backslash_quote (escape_begins text rest given s.1) quote

quote_fault : (raw : Bool) (quotes bytes : List ℕ) (kind : StringFaultKind) → Begins IsQuote bytes → IsFault raw quotes bytes kind → ⊥
quote_fault raw quotes bytes BadByte quote t = clash IsAllowed IsBad bytes allowed_bad (weaker IsQuote IsAllowed bytes quote_allowed quote) t
quote_fault raw quotes bytes BadToken quote (inl t) = subst (Begins IsQuote) t quote
quote_fault raw quotes bytes BadToken quote (inr (inl t)) = clash IsLineByte IsQuote bytes line_quote t.0 quote
quote_fault raw quotes bytes BadToken quote (inr (inr t)) = clash IsBackslash IsQuote bytes backslash_quote (fault_begins bytes BadToken t.1) quote
quote_fault raw quotes bytes Escape quote t = clash IsBackslash IsQuote bytes backslash_quote (fault_begins bytes Escape t.1) quote
quote_fault raw quotes bytes NonAscii quote t = clash IsBackslash IsQuote bytes backslash_quote (fault_begins bytes NonAscii t.1) quote

-- a fault of an escape, or what the bytes begin with
abbrev Sort : List ℕ → StringFaultKind → Type 0
Sort bytes kind = (Begins IsBad bytes × (kind ≡ BadByte)) ⊎ (((bytes ≡ []) ⊎ Begins IsLineByte bytes) × (kind ≡ BadToken)) ⊎ IsEscapeFault bytes kind

sort : (raw : Bool) (quotes bytes : List ℕ) (kind : StringFaultKind) → IsFault raw quotes bytes kind → Sort bytes kind
sort raw quotes bytes BadByte t = inl (t, refl)
sort raw quotes bytes BadToken (inl t) = inr (inl (inl t, refl))
sort raw quotes bytes BadToken (inr (inl t)) = inr (inl (inr t.0, refl))
sort raw quotes bytes BadToken (inr (inr t)) = inr (inr t.1)
sort raw quotes bytes Escape t = inr (inr t.1)
sort raw quotes bytes NonAscii t = inr (inr t.1)

bad_end : (bytes : List ℕ) → Begins IsBad bytes → (bytes ≡ []) ⊎ Begins IsLineByte bytes → ⊥
bad_end bytes bad (inl none) = subst (Begins IsBad) none bad
bad_end bytes bad (inr line) = clash IsBad IsLineByte bytes (λ byte p q. p.1 q) bad line

bad_backslash : (byte : ℕ) → IsBad byte → IsBackslash byte → ⊥
bad_backslash byte p q = p.0 (inr (omega arith, omega arith))

end_escape : (bytes : List ℕ) (kind : StringFaultKind) → (bytes ≡ []) ⊎ Begins IsLineByte bytes → IsEscapeFault bytes kind → ⊥
end_escape bytes kind (inl none) t = subst (Begins IsBackslash) none (fault_begins bytes kind t)
end_escape bytes kind (inr line) t = clash IsLineByte IsBackslash bytes line_backslash line (fault_begins bytes kind t)

one_sort : (bytes : List ℕ) (k l : StringFaultKind) → Sort bytes k → Sort bytes l → k ≡ l
one_sort bytes k l (inl s) (inl t) = s.1 ∙ sym t.1
one_sort bytes k l (inl s) (inr (inl t)) = absurd (bad_end bytes s.0 t.0)
one_sort bytes k l (inl s) (inr (inr t)) = absurd (clash IsBad IsBackslash bytes bad_backslash s.0 (fault_begins bytes l t))
one_sort bytes k l (inr (inl s)) (inl t) = absurd (bad_end bytes t.0 s.0)
one_sort bytes k l (inr (inl s)) (inr (inl t)) = s.1 ∙ sym t.1
one_sort bytes k l (inr (inl s)) (inr (inr t)) = absurd (end_escape bytes l s.0 t)
one_sort bytes k l (inr (inr s)) (inl t) = absurd (clash IsBad IsBackslash bytes bad_backslash t.0 (fault_begins bytes k s))
one_sort bytes k l (inr (inr s)) (inr (inl t)) = absurd (end_escape bytes k t.0 s)
one_sort bytes k l (inr (inr s)) (inr (inr t)) = one_escape_fault bytes k l s t

-- what follows the pieces: the quotes that close the literal, or a fault
abbrev Ends : Bool → List ℕ → List ℕ → Type 0
Ends raw quotes bytes = (Begins IsQuote bytes × Stands quotes bytes) ⊎ ((kind : StringFaultKind) × IsFault raw quotes bytes kind)

piece_ends : (raw : Bool) (quotes text rest given bytes : List ℕ) → bytes ≡ text ++ rest → IsPiece raw quotes text rest given → Ends raw quotes bytes → ⊥
piece_ends raw quotes text rest given bytes is s (inl t) =
    piece_closes raw quotes text rest given (subst (Begins IsQuote) is t.0) s (subst (Stands quotes) is t.1)
piece_ends raw quotes text rest given bytes is s (inr t) =
    piece_fault raw quotes text rest given t.0 s (subst (λ b. IsFault raw quotes b t.0) is t.1)

-- the same bytes have the same pieces
same_pieces : (raw : Bool) (quotes : List ℕ) (ps qs : List (List ℕ × List ℕ)) (a b x y : List ℕ) → ArePieces raw quotes ps a x → ArePieces raw quotes qs b y → Ends raw quotes x → Ends raw quotes y → a ++ x ≡ b ++ y → (a ≡ b) × (given_by ps ≡ given_by qs)
same_pieces raw quotes [] [] a b x y s t end stop e = (s ∙ sym t, refl)
same_pieces raw quotes [] (q ∷ qs) a b x y s t end stop e =
    let is : x ≡ q.0 ++ (t.0 ++ y) = sym (ap (λ u. u ++ x) s) ∙ (e ∙ (ap (λ u. u ++ y) t.1 ∙ append_assoc q.0 t.0 y)) in
    absurd (piece_ends raw quotes q.0 (t.0 ++ y) q.1 x is t.2 end)
same_pieces raw quotes (p ∷ ps) [] a b x y s t end stop e =
    let is : y ≡ p.0 ++ (s.0 ++ x) = sym (ap (λ u. u ++ y) t) ∙ (sym e ∙ (ap (λ u. u ++ x) s.1 ∙ append_assoc p.0 s.0 x)) in
    absurd (piece_ends raw quotes p.0 (s.0 ++ x) p.1 y is s.2 stop)
same_pieces raw quotes (p ∷ ps) (q ∷ qs) a b x y s t end stop e =
    let is : p.0 ++ (s.0 ++ x) ≡ q.0 ++ (t.0 ++ y) = sym (ap (λ u. u ++ x) s.1 ∙ append_assoc p.0 s.0 x) ∙ (e ∙ (ap (λ u. u ++ y) t.1 ∙ append_assoc q.0 t.0 y)) in
    let one = one_piece raw quotes p.0 q.0 (s.0 ++ x) (t.0 ++ y) p.1 q.1 s.2 t.2 is in
    let others : s.0 ++ x ≡ t.0 ++ y = append_cancel_left p.0 (s.0 ++ x) (t.0 ++ y) (is ∙ ap (λ u. u ++ (t.0 ++ y)) (sym one.0)) in
    let rest = same_pieces raw quotes ps qs s.0 t.0 x y s.3 t.3 end stop others in (
      s.1 ∙ (ap (λ u. u ++ s.0) one.0 ∙ (ap (λ u. q.0 ++ u) rest.0 ∙ sym t.1)),
      ap (λ u. u ++ given_by ps) one.1 ∙ ap (λ u. q.1 ++ u) rest.1,
    )

-- the quotes that open the literal
one_opens : (p q x y : List ℕ) → Opens p x → Opens q y → p ++ x ≡ q ++ y → p ≡ q
one_opens p q x y (a, s, inl three) (b, t, inl its) e =
    let same : a ∷ a ∷ a ∷ x ≡ b ∷ b ∷ b ∷ y = both p q x y (a ∷ a ∷ a ∷ []) (b ∷ b ∷ b ∷ []) three its e in
    let quote : a ≡ b = cc in
    three ∙ (ap (λ c. c ∷ c ∷ c ∷ []) quote ∙ sym its)
one_opens p q x y (a, s, inl three) (b, t, inr its) e =
    let same : a ∷ a ∷ a ∷ x ≡ b ∷ y = both p q x y (a ∷ a ∷ a ∷ []) (b ∷ []) three its.0 e in
    let quote : a ≡ b = cc in
    let rest : y ≡ a ∷ a ∷ x = cc in
    absurd (its.1 (x, rest ∙ ap (λ c. c ∷ c ∷ x) quote))
one_opens p q x y (a, s, inr one) (b, t, inl its) e =
    let same : a ∷ x ≡ b ∷ b ∷ b ∷ y = both p q x y (a ∷ []) (b ∷ b ∷ b ∷ []) one.0 its e in
    let quote : b ≡ a = cc in
    let rest : x ≡ b ∷ b ∷ y = cc in
    absurd (one.1 (y, rest ∙ ap (λ c. c ∷ c ∷ y) quote))
one_opens p q x y (a, s, inr one) (b, t, inr its) e =
    let same : a ∷ x ≡ b ∷ y = both p q x y (a ∷ []) (b ∷ []) one.0 its.0 e in
    let quote : a ≡ b = cc in
    one.0 ∙ (ap (λ c. c ∷ []) quote ∙ sym its.0)

-- quotes and pieces in front of what ends them
record Run (raw : Bool) (bytes quotes inner rest value : List ℕ) : Type 0 where
  pieces : List (List ℕ × List ℕ)
  bytes_are : bytes ≡ quotes ++ (inner ++ rest)
  opens : Opens quotes (inner ++ rest)
  pieces_are : ArePieces raw quotes pieces inner rest
  value_is : value ≡ given_by pieces
  ends : Ends raw quotes rest

record Same (quotes inner rest value other its behind given : List ℕ) : Type 0 where
  quotes_are : quotes ≡ other
  inner_is : inner ≡ its
  rest_is : rest ≡ behind
  value_is : value ≡ given

same_run : (raw : Bool) (bytes quotes inner rest value other its behind given : List ℕ) → Run raw bytes quotes inner rest value → Run raw bytes other its behind given → Same quotes inner rest value other its behind given
same_run raw bytes quotes inner rest value other its behind given s t =
    let e : quotes ++ (inner ++ rest) ≡ other ++ (its ++ behind) = sym s.bytes_are ∙ t.bytes_are in
    let same : quotes ≡ other = one_opens quotes other (inner ++ rest) (its ++ behind) s.opens t.opens e in
    let body : inner ++ rest ≡ its ++ behind = append_cancel_left quotes (inner ++ rest) (its ++ behind) (e ∙ ap (λ u. u ++ (its ++ behind)) (sym same)) in
    let one = same_pieces raw quotes s.pieces t.pieces inner its rest behind s.pieces_are (subst (λ q. ArePieces raw q t.pieces its behind) (sym same) t.pieces_are) s.ends (subst (λ q. Ends raw q behind) (sym same) t.ends) body in
    record {
      quotes_are = same;
      inner_is = one.0;
      rest_is = append_cancel_left inner rest behind (body ∙ ap (λ u. u ++ behind) (sym one.0));
      value_is = s.value_is ∙ (one.1 ∙ sym t.value_is);
    }

literal_run : (raw : Bool) (text rest value : List ℕ) → (is : IsLiteral raw text rest value) → Run raw (text ++ rest) is.quotes is.inner (is.quotes ++ rest) value
literal_run raw text rest value is = record {
  pieces = is.pieces;
  bytes_are = ap (λ u. u ++ rest) is.text_is ∙ (append_assoc is.quotes (is.inner ++ is.quotes) rest ∙ ap (λ u. is.quotes ++ u) (append_assoc is.inner is.quotes rest));
  opens = is.opens;
  pieces_are = is.pieces_are;
  value_is = is.value_is;
  ends = inl (quotes_begin is.quotes (is.inner ++ (is.quotes ++ rest)) (is.quotes ++ rest) is.opens (rest, refl), (rest, refl));
}

fault_run : (raw : Bool) (bytes : List ℕ) (fault : StringFault) → (is : IsLiteralFault raw bytes fault) → Run raw bytes is.quotes is.inner is.rest (given_by is.pieces)
fault_run raw bytes fault is = record {
  pieces = is.pieces;
  bytes_are = is.bytes_are;
  opens = is.opens;
  pieces_are = is.pieces_are;
  value_is = refl;
  ends = inr (fault.kind, is.fault_is);
}

pub one_literal : (raw : Bool) (text rest value : List ℕ) (other behind its : List ℕ) → IsLiteral raw text rest value → IsLiteral raw other behind its → text ++ rest ≡ other ++ behind → (text ≡ other) × (value ≡ its)
one_literal raw text rest value other behind its s t e =
    let run = subst (λ b. Run raw b t.quotes t.inner (t.quotes ++ behind) its) (sym e) (literal_run raw other behind its t) in
    let same = same_run raw (text ++ rest) s.quotes s.inner (s.quotes ++ rest) value t.quotes t.inner (t.quotes ++ behind) its (literal_run raw text rest value s) run in
    (s.text_is ∙ (ap (λ q. q ++ (s.inner ++ q)) same.quotes_are ∙ (ap (λ u. t.quotes ++ (u ++ t.quotes)) same.inner_is ∙ sym t.text_is)), same.value_is)

pub one_fault : (raw : Bool) (bytes : List ℕ) (first second : StringFault) → IsLiteralFault raw bytes first → IsLiteralFault raw bytes second → first ≡ second
one_fault raw bytes first second s t =
    let same = same_run raw bytes s.quotes s.inner s.rest (given_by s.pieces) t.quotes t.inner t.rest (given_by t.pieces) (fault_run raw bytes first s) (fault_run raw bytes second t) in
    let at : first.at ≡ second.at = s.at_is ∙ (ap (λ q. length q + length s.inner) same.quotes_are ∙ (ap (λ u. length t.quotes + length u) same.inner_is ∙ sym t.at_is)) in
    let its : IsFault raw s.quotes s.rest second.kind = subst (λ q. IsFault raw q s.rest second.kind) (sym same.quotes_are) (subst (λ u. IsFault raw t.quotes u second.kind) (sym same.rest_is) t.fault_is) in
    let kind : first.kind ≡ second.kind = one_sort s.rest first.kind second.kind (sort raw s.quotes s.rest first.kind s.fault_is) (sort raw s.quotes s.rest second.kind its) in
    let with : StringFaultKind → ℕ → StringFault = λ k n. record { kind = k; at = n } in
    ap (λ k. with k first.at) kind ∙ ap (λ n. with second.kind n) at

pub apart : (raw : Bool) (text rest value : List ℕ) (fault : StringFault) → IsLiteral raw text rest value → IsLiteralFault raw (text ++ rest) fault → ⊥
apart raw text rest value fault s t =
    let same = same_run raw (text ++ rest) s.quotes s.inner (s.quotes ++ rest) value t.quotes t.inner t.rest (given_by t.pieces) (literal_run raw text rest value s) (fault_run raw (text ++ rest) fault t) in
    let quote : Begins IsQuote t.rest = subst (Begins IsQuote) same.rest_is (quotes_begin s.quotes (s.inner ++ (s.quotes ++ rest)) (s.quotes ++ rest) s.opens (rest, refl)) in
    quote_fault raw t.quotes t.rest fault.kind quote t.fault_is
