-- Bytes that begin with a quote begin with a literal or have the fault of one.
use Rattle.std.proofs.Common.{◌≡◌, ◌⊎◌, ℕ, zero, suc, ◌+◌, ◌<◌, ◌≤◌, Bool, true, false, List, [], ◌∷◌, ◌++◌, length, Err, inl, inr, refl, sym, ap, subst, ◌∙◌, arith, length-append, append_assoc}
use Rattle.py_tokens.specs.declared.escape.Mark.{Mark}
use Rattle.py_tokens.specs.declared.escape.Mark.TheVariants.{StandsFor, LineEnd, Octal, Hexadecimal, Unicode, Nothing}
use Rattle.py_tokens.specs.declared.escape.StringFaultKind.{StringFaultKind}
use Rattle.py_tokens.specs.declared.escape.StringFaultKind.TheVariants.{BadByte, BadToken, Escape, NonAscii}
use Rattle.py_tokens.specs.declared.string.StringFault.{StringFault}
use Rattle.py_tokens.specs.declared.token.Tok.TheVariants as toks
use Rattle.py_tokens.specs.LineEnd.{IsLineByte}
use Rattle.py_tokens.specs.Operator.{Stands}
use Rattle.py_tokens.specs.Escape.{mark_of, Fails, IsEscapeFault}
use Rattle.py_tokens.specs.Literal.{IsQuote, Opens, IsTriple, IsPrintable, IsPiece, IsFault, ArePieces, given_by, IsLiteral, IsLiteralFault}
use Rattle.py_tokens.specs.Lexeme.{token, string_fault, StringAnswers}
use Rattle.py_tokens.proofs.Decided.{Decided, yes, no, either, is_number, within}
use Rattle.py_tokens.proofs.Runs.{Found, stands}
use Rattle.py_tokens.proofs.Escaped.{line_end, escape}

pub quote : (byte : ℕ) → Decided (IsQuote byte)
quote byte = either (is_number byte 34) (is_number byte 39)

pub printable : (byte : ℕ) → Decided (IsPrintable byte)
printable byte = either (is_number byte 9) (within 32 byte 126)

pub line_byte : (byte : ℕ) → Decided (IsLineByte byte)
line_byte byte = either (is_number byte 10) (is_number byte 13)

-- pieces
-- ======

-- the piece in front
record InFront (raw : Bool) (quotes bytes : List ℕ) : Type 0 where
  text : List ℕ
  behind : List ℕ
  given : List ℕ
  parts : bytes ≡ text ++ behind
  some : 1 ≤ length text
  is : IsPiece raw quotes text behind given

abbrev HasFault : Bool → List ℕ → List ℕ → Type 0
HasFault raw quotes bytes = (kind : StringFaultKind) × IsFault raw quotes bytes kind

abbrev Next : Bool → List ℕ → List ℕ → Type 0
Next raw quotes bytes = InFront raw quotes bytes ⊎ HasFault raw quotes bytes

-- a backslash in a raw literal
raw_next : (quotes bs : List ℕ) → InFront true quotes (92 ∷ bs)
raw_next quotes [] = record { text = 92 ∷ []; behind = []; given = 92 ∷ []; parts = refl; some = omega arith; is = inr (inr (inl (refl, inr (refl, λ h. h), refl))) }
raw_next quotes (b ∷ bs) = elim (quote b) [
  | yes is ↦ record { text = 92 ∷ b ∷ []; behind = bs; given = 92 ∷ b ∷ []; parts = refl; some = omega arith; is = inr (inr (inl (refl, inl (b, is, refl), refl))) }
  | no other ↦ record { text = 92 ∷ []; behind = b ∷ bs; given = 92 ∷ []; parts = refl; some = omega arith; is = inr (inr (inl (refl, inr (refl, other), refl))) }
]

-- a bad byte is no fault of an escape
no_bad_byte : (mark : Mark) (bytes : List ℕ) → Fails mark bytes BadByte → ⊥
no_bad_byte (StandsFor value) bytes h = h
no_bad_byte LineEnd bytes h = h
no_bad_byte Octal bytes h = h
no_bad_byte Hexadecimal bytes h = h
no_bad_byte Unicode bytes h = h
no_bad_byte Nothing bytes h = h

-- the fault of an escape
escape_fault : (quotes bytes : List ℕ) (kind : StringFaultKind) → IsEscapeFault bytes kind → HasFault false quotes bytes
escape_fault quotes bytes BadByte is = absurd (no_bad_byte (mark_of is.0) is.0 is.2)
escape_fault quotes bytes BadToken is = (BadToken, inr (inr (refl, is)))
escape_fault quotes bytes Escape is = (Escape, (refl, is))
escape_fault quotes bytes NonAscii is = (NonAscii, (refl, is))

backslash_next : (raw : Bool) (quotes bs : List ℕ) → Next raw quotes (92 ∷ bs)
backslash_next true quotes bs = inl (raw_next quotes bs)
backslash_next false quotes bs = elim (escape bs) [
  | inl e ↦ inl (record { text = e.text; behind = e.rest; given = e.given; parts = e.parts; some = e.some; is = inr (inr (inr (refl, e.is))) })
  | inr f ↦ inr (escape_fault quotes (92 ∷ bs) f.kind f.is)
]

triple : (quotes : List ℕ) → Decided (IsTriple quotes)
triple quotes = is_number (length quotes) 3

line_next : (raw : Bool) (quotes : List ℕ) (b : ℕ) (bs : List ℕ) → IsLineByte b → Next raw quotes (b ∷ bs)
line_next raw quotes b bs line = elim (triple quotes) [
  | yes three ↦ (let e = line_end b bs line in inl (record { text = e.text; behind = e.rest; given = 10 ∷ []; parts = e.parts; some = e.some; is = inl (three, e.is, refl) }))
  | no one ↦ inr (BadToken, inr (inl (line, one)))
]

next : (raw : Bool) (quotes bytes : List ℕ) → ¬ Stands quotes bytes → Next raw quotes bytes
next raw quotes [] open' = inr (BadToken, inl refl)
next raw quotes (b ∷ bs) open' = elim (is_number b 92) [
  | yes slash ↦ subst (λ z. Next raw quotes (z ∷ bs)) (sym slash) (backslash_next raw quotes bs)
  | no other ↦ elim (line_byte b) [
    | yes line ↦ line_next raw quotes b bs line
    | no inside ↦ elim (printable b) [
      | yes plain ↦ inl (record { text = b ∷ []; behind = bs; given = b ∷ []; parts = refl; some = omega arith; is = inr (inl ((b, refl, plain, other, open'), refl)) })
      | no bad ↦ inr (BadByte, (bad, inside))
    ]
  ]
]

-- up to the closing quotes
-- ========================

record Scanned (raw : Bool) (quotes bytes : List ℕ) : Type 0 where
  inner : List ℕ
  rest : List ℕ
  pieces : List (List ℕ × List ℕ)
  parts : bytes ≡ inner ++ rest
  are : ArePieces raw quotes pieces inner rest
  ends : Stands quotes rest ⊎ HasFault raw quotes rest

ended : (raw : Bool) (quotes bytes : List ℕ) → Stands quotes bytes ⊎ HasFault raw quotes bytes → Scanned raw quotes bytes
ended raw quotes bytes ends = record { inner = []; rest = bytes; pieces = []; parts = refl; are = refl; ends = ends }

with_piece : (raw : Bool) (quotes bytes : List ℕ) (p : InFront raw quotes bytes) → Scanned raw quotes p.behind → Scanned raw quotes bytes
with_piece raw quotes bytes p s = record {
  inner = p.text ++ s.inner;
  rest = s.rest;
  pieces = (p.text, p.given) ∷ s.pieces;
  parts = p.parts ∙ (ap (λ z. p.text ++ z) s.parts ∙ sym (append_assoc p.text s.inner s.rest));
  are = (s.inner, refl, subst (λ z. IsPiece raw quotes p.text z p.given) s.parts p.is, s.are);
  ends = s.ends;
}

scan_with : (raw : Bool) (quotes bytes : List ℕ) → ((p : InFront raw quotes bytes) → Scanned raw quotes p.behind) → Scanned raw quotes bytes
scan_with raw quotes bytes others = elim (stands quotes bytes) [
  | yes closes ↦ ended raw quotes bytes (inl closes)
  | no open' ↦ elim (next raw quotes bytes open') [
    | inl p ↦ with_piece raw quotes bytes p (others p)
    | inr fault ↦ ended raw quotes bytes (inr fault)
  ]
]

shorter : (text behind bytes : List ℕ) → bytes ≡ text ++ behind → 1 ≤ length text → length behind < length bytes
shorter text behind bytes parts some = omega (arith, ap length parts, length-append text behind, some)

scan : (n : ℕ) (raw : Bool) (quotes bytes : List ℕ) → length bytes ≤ n → Scanned raw quotes bytes
scan zero raw quotes bytes few = scan_with raw quotes bytes (λ p. absurd (omega (arith, shorter p.text p.behind bytes p.parts p.some, few)))
scan (suc n) raw quotes bytes few = scan_with raw quotes bytes (λ p. scan n raw quotes p.behind (omega (arith, shorter p.text p.behind bytes p.parts p.some, few)))

-- a literal
-- =========

record Opened (bytes : List ℕ) : Type 0 where
  quotes : List ℕ
  rest : List ℕ
  parts : bytes ≡ quotes ++ rest
  opens : Opens quotes rest
  some : 1 ≤ length quotes

opened : (b : ℕ) (bs : List ℕ) → IsQuote b → Opened (b ∷ bs)
opened b bs is = elim (stands (b ∷ b ∷ []) bs) [
  | yes three ↦ record { quotes = b ∷ b ∷ b ∷ []; rest = three.0; parts = ap (λ z. b ∷ z) three.1; opens = (b, is, inl refl); some = omega arith }
  | no one ↦ record { quotes = b ∷ []; rest = bs; parts = refl; opens = (b, is, inr (refl, one)); some = omega arith }
]

-- the quotes close what was scanned
closed : (raw : Bool) (prefix bytes : List ℕ) (o : Opened bytes) (s : Scanned raw o.quotes o.rest) → Stands o.quotes s.rest → Found (StringAnswers raw prefix bytes) (prefix ++ bytes)
closed raw prefix bytes o s closes =
    let text : List ℕ = o.quotes ++ (s.inner ++ o.quotes) in
    let behind : o.rest ≡ s.inner ++ (o.quotes ++ closes.0) = s.parts ∙ ap (λ z. s.inner ++ z) closes.1 in
    let parts : bytes ≡ text ++ closes.0 =
    o.parts ∙ (ap (λ z. o.quotes ++ z) (behind ∙ sym (append_assoc s.inner o.quotes closes.0)) ∙ sym (append_assoc o.quotes (s.inner ++ o.quotes) closes.0)) in
    let is : IsLiteral raw text closes.0 (given_by s.pieces) = record {
      quotes = o.quotes;
      inner = s.inner;
      pieces = s.pieces;
      text_is = refl;
      opens = subst (Opens o.quotes) behind o.opens;
      pieces_are = subst (λ z. ArePieces raw o.quotes s.pieces s.inner z) closes.1 s.are;
      value_is = refl;
    } in
    record {
      answer = token (toks.Str (given_by s.pieces)) (prefix ++ text);
      is = inl (text, closes.0, given_by s.pieces, is, parts, refl);
      splits = (
        closes.0,
        ap (λ z. prefix ++ z) parts ∙ sym (append_assoc prefix text closes.0),
        (let some = o.some in omega (arith, length-append prefix text, length-append o.quotes (s.inner ++ o.quotes))),
      );
    }

failed : (raw : Bool) (prefix bytes : List ℕ) (o : Opened bytes) (s : Scanned raw o.quotes o.rest) → HasFault raw o.quotes s.rest → Found (StringAnswers raw prefix bytes) (prefix ++ bytes)
failed raw prefix bytes o s fault =
    let its : StringFault = record { kind = fault.0; at = length o.quotes + length s.inner } in
    let is : IsLiteralFault raw bytes its = record {
      quotes = o.quotes;
      inner = s.inner;
      rest = s.rest;
      pieces = s.pieces;
      bytes_are = o.parts ∙ ap (λ z. o.quotes ++ z) s.parts;
      opens = subst (Opens o.quotes) s.parts o.opens;
      pieces_are = s.are;
      at_is = refl;
      fault_is = fault.1;
    } in
    record { answer = Err (string_fault fault.0 (length prefix + (length o.quotes + length s.inner))); is = inr (its, is, refl); splits = tt }

pub string : (raw : Bool) (prefix : List ℕ) (b : ℕ) (bs : List ℕ) → IsQuote b → Found (StringAnswers raw prefix (b ∷ bs)) (prefix ++ b ∷ bs)
string raw prefix b bs is =
    let o = opened b bs is in
    let s = scan (length o.rest) raw o.quotes o.rest (omega arith) in
    elim s.ends [
      | inl closes ↦ closed raw prefix (b ∷ bs) o s closes
      | inr fault ↦ failed raw prefix (b ∷ bs) o s fault
    ]
