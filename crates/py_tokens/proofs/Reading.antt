-- What is read of a literal.
use Rattle.std.proofs.Common.{◌≡◌, ◌⊎◌, inl, inr, ℕ, zero, suc, ◌+◌, ◌-◌, ◌≤◌, List, [], ◌∷◌, ◌++◌, length, take, drop, get_or, Bool, true, nat_eq, Result, Ok, Err, refl, sym, ap, ◌∙◌, subst, arith}
use Rattle.std.proofs.lemmas.List.{append-nil, append_assoc, length-append, take-append-drop}
use Rattle.std.specs.List.{starts_with}
use Rattle.std.proofs.lemmas.List.Prefix.{front_rest}
use Rattle.std.proofs.lemmas.Slice.Eq.{starts_is}
use Rattle.std.proofs.lemmas.Bool.Decides.{Decides-eqb}
use Rattle.std.proofs.lemmas.Grind.{common_steps}
use Rattle.mpy_base.specs.declared.refused.Refused.{Refused}
use Rattle.mpy_base.specs.declared.refused.Refused.TheVariants as refused
use Rattle.py_tokens.specs.declared.escape.StringFaultKind.{StringFaultKind}
use Rattle.py_tokens.specs.declared.string.StringFault.{StringFault}
use Rattle.py_tokens.specs.LineEnd.{Begins, IsLineEnd}
use Rattle.py_tokens.specs.Operator.{Stands}
use Rattle.py_tokens.specs.Literal.{IsQuote, Opens, IsRaw, IsPiece, IsFault, ArePieces, given_by, IsLiteral, IsLiteralFault, Reads}
use Rattle.py_tokens.proofs.Literals.{one_literal, one_fault, apart}

-- the quotes in front
pub three_quotes : (bytes : List ℕ) → 3 ≤ length bytes → Begins IsQuote bytes → get_or bytes 0 0 ≡ get_or bytes 1 0 → get_or bytes 1 0 ≡ get_or bytes 2 0 → (rest : List ℕ) × (bytes ≡ take 3 bytes ++ rest) × Opens (take 3 bytes) rest
three_quotes [] some quote e f = absurd quote
three_quotes (a ∷ []) some quote e f = absurd (omega arith)
three_quotes (a ∷ b ∷ []) some quote e f = absurd (omega arith)
three_quotes (a ∷ b ∷ d ∷ rest) some quote e f =
    let second : b ≡ a = sym e in
    let third : d ≡ a = sym f ∙ second in
    (rest, refl, (a, quote, inl (ap (λ x. a ∷ x ∷ d ∷ []) second ∙ ap (λ x. a ∷ a ∷ x ∷ []) third)))

pub one_quote : (bytes : List ℕ) → Begins IsQuote bytes → (3 ≤ length bytes → get_or bytes 0 0 ≡ get_or bytes 1 0 → get_or bytes 1 0 ≡ get_or bytes 2 0 → ⊥) → (rest : List ℕ) × (bytes ≡ take 1 bytes ++ rest) × Opens (take 1 bytes) rest
one_quote [] quote never = absurd quote
one_quote (a ∷ rest) quote never = (
  rest,
  refl,
  (
    a,
    quote,
    inr (
      refl,
      λ stands. (
          let bytes_are : a ∷ rest ≡ a ∷ a ∷ a ∷ stands.0 = ap (λ r. a ∷ r) stands.1 in
          never (subst (λ b. 3 ≤ length b) (sym bytes_are) (omega arith))
          (subst (λ b. get_or b 0 0 ≡ get_or b 1 0) (sym bytes_are) refl)
          (subst (λ b. get_or b 1 0 ≡ get_or b 2 0) (sym bytes_are) refl)),
    ),
  ),
)

-- the front that equals the quotes
pub stands_there : (quotes bytes : List ℕ) → true ≡ starts_with nat_eq bytes quotes → Stands quotes bytes
stands_there quotes bytes is = (drop (length quotes) bytes, (starts_is Decides-eqb bytes quotes true is).0 refl)

-- the bytes from a place on
pub rest_is : (bytes : List ℕ) (at : ℕ) → take (length bytes - at) (drop at bytes) ≡ drop at bytes
rest_is bytes at = grind (arith, common_steps)

-- the quotes and pieces that were read, up to a place
pub record Progress (raw : Bool) (quotes bytes : List ℕ) (at : ℕ) (text : List ℕ) : Type 0 where
  pub inner : List ℕ
  pub pieces : List (List ℕ × List ℕ)
  pub bytes_are : bytes ≡ quotes ++ (inner ++ drop at bytes)
  pub opens : Opens quotes (inner ++ drop at bytes)
  pub pieces_are : ArePieces raw quotes pieces inner (drop at bytes)
  pub at_is : at ≡ length quotes + length inner
  pub text_is : text ≡ given_by pieces

pub start : (raw : Bool) (quotes bytes rest : List ℕ) → bytes ≡ quotes ++ rest → Opens quotes rest → Progress raw quotes bytes (length quotes) []
start raw quotes bytes rest is opens =
    let same : drop (length quotes) bytes ≡ rest = front_rest bytes quotes rest is in
    record {
      inner = [];
      pieces = [];
      bytes_are = is ∙ ap (λ r. quotes ++ r) (sym same);
      opens = subst (Opens quotes) (sym same) opens;
      pieces_are = refl;
      at_is = omega arith;
      text_is = refl;
    }

-- one piece more
more_pieces : (raw : Bool) (quotes : List ℕ) (pieces : List (List ℕ × List ℕ)) (inner rest text given behind : List ℕ) → ArePieces raw quotes pieces inner rest → rest ≡ text ++ behind → IsPiece raw quotes text behind given → ArePieces raw quotes (pieces ++ (text, given) ∷ []) (inner ++ text) behind
more_pieces raw quotes [] inner rest text given behind are is piece =
    ([], ap (λ u. u ++ text) are ∙ sym (append-nil text), piece, refl)
more_pieces raw quotes (p ∷ pieces) inner rest text given behind are is piece =
    let after : are.0 ++ rest ≡ (are.0 ++ text) ++ behind = ap (λ u. are.0 ++ u) is ∙ sym (append_assoc are.0 text behind) in (
      are.0 ++ text,
      ap (λ u. u ++ text) are.1 ∙ append_assoc p.0 are.0 text,
      subst (λ u. IsPiece raw quotes p.0 u p.1) after are.2,
      more_pieces raw quotes pieces are.0 rest text given behind are.3 is piece,
    )

more_given : (pieces : List (List ℕ × List ℕ)) (text given : List ℕ) → given_by (pieces ++ (text, given) ∷ []) ≡ given_by pieces ++ given
more_given [] text given = append-nil given
more_given (p ∷ pieces) text given = ap (λ u. p.1 ++ u) (more_given pieces text given) ∙ sym (append_assoc p.1 (given_by pieces) given)

pub step : (raw : Bool) (quotes bytes rest text given : List ℕ) (at len : ℕ) → Progress raw quotes bytes at text → rest ≡ drop at bytes → len ≤ length rest → IsPiece raw quotes (take len rest) (drop len rest) given → Progress raw quotes bytes (at + len) (text ++ given)
step raw quotes bytes rest text given at len s is within piece =
    let front = take len rest in
    let behind = drop len rest in
    let split : drop at bytes ≡ front ++ behind = sym is ∙ sym (take-append-drop len rest) in
    let after : drop (at + len) bytes ≡ behind = grind (arith, common_steps) in
    let body : s.inner ++ drop at bytes ≡ (s.inner ++ front) ++ drop (at + len) bytes =
    ap (λ u. s.inner ++ u) split ∙ (sym (append_assoc s.inner front behind) ∙ ap (λ u. (s.inner ++ front) ++ u) (sym after)) in
    let size : length front ≡ len = grind (arith, common_steps) in
    let sum : length (s.inner ++ front) ≡ length s.inner + length front = length-append s.inner front in
    let at_is = s.at_is in
    record {
      inner = s.inner ++ front;
      pieces = s.pieces ++ (front, given) ∷ [];
      bytes_are = s.bytes_are ∙ ap (λ u. quotes ++ u) body;
      opens = subst (Opens quotes) body s.opens;
      pieces_are = subst (ArePieces raw quotes (s.pieces ++ (front, given) ∷ []) (s.inner ++ front)) (sym after) (more_pieces raw quotes s.pieces s.inner (drop at bytes) front given behind s.pieces_are split piece);
      at_is = omega arith;
      text_is = ap (λ u. u ++ given) s.text_is ∙ sym (more_given s.pieces front given);
    }

-- the place is within the bytes
pub within : (raw : Bool) (quotes bytes text : List ℕ) (at : ℕ) → Progress raw quotes bytes at text → at ≤ length bytes
within raw quotes bytes text at s =
    let all : length bytes ≡ length quotes + length (s.inner ++ drop at bytes) = ap length s.bytes_are ∙ length-append quotes (s.inner ++ drop at bytes) in
    let sum : length (s.inner ++ drop at bytes) ≡ length s.inner + length (drop at bytes) = length-append s.inner (drop at bytes) in
    let at_is = s.at_is in
    omega arith

-- a piece is some bytes
line_some : (text rest : List ℕ) → IsLineEnd text rest → 1 ≤ length text
line_some text rest (inl is) = subst (λ t. 1 ≤ length t) (sym is) (omega arith)
line_some text rest (inr (inl is)) = subst (λ t. 1 ≤ length t) (sym is) (omega arith)
line_some text rest (inr (inr is)) = subst (λ t. 1 ≤ length t) (sym is.0) (omega arith)

raw_some : (text rest : List ℕ) → IsRaw text rest → 1 ≤ length text
raw_some text rest (inl is) = subst (λ t. 1 ≤ length t) (sym is.2) (omega arith)
raw_some text rest (inr is) = subst (λ t. 1 ≤ length t) (sym is.0) (omega arith)

piece_some : (raw : Bool) (quotes text rest given : List ℕ) → IsPiece raw quotes text rest given → 1 ≤ length text
piece_some raw quotes text rest given (inl is) = line_some text rest is.1
piece_some raw quotes text rest given (inr (inl is)) = subst (λ t. 1 ≤ length t) (sym is.0.1) (omega arith)
piece_some raw quotes text rest given (inr (inr (inl is))) = raw_some text rest is.1
piece_some raw quotes text rest given (inr (inr (inr is))) = subst (λ t. 1 ≤ length t) (sym is.1.1) (omega arith)

pub some_bytes : (raw : Bool) (quotes bytes given : List ℕ) (len : ℕ) → IsPiece raw quotes (take len bytes) (drop len bytes) given → 1 ≤ len
some_bytes raw quotes bytes given zero piece = piece_some raw quotes [] (drop zero bytes) given piece
some_bytes raw quotes bytes given (suc len) piece = omega arith

-- the literal is closed, or meets a fault
pub closed : (raw : Bool) (quotes bytes rest text : List ℕ) (at : ℕ) → Progress raw quotes bytes at text → rest ≡ drop at bytes → Stands quotes rest → Reads raw bytes (Ok (text, at + length quotes))
closed raw quotes bytes rest text at s is stands =
    let after : drop at bytes ≡ quotes ++ stands.0 = sym is ∙ stands.1 in
    let sum : length (s.inner ++ quotes) ≡ length s.inner + length quotes = length-append s.inner quotes in
    let all : length (quotes ++ (s.inner ++ quotes)) ≡ length quotes + length (s.inner ++ quotes) = length-append quotes (s.inner ++ quotes) in
    let at_is = s.at_is in (
      quotes ++ (s.inner ++ quotes),
      stands.0,
      record {
        quotes = quotes;
        inner = s.inner;
        pieces = s.pieces;
        text_is = refl;
        opens = subst (λ r. Opens quotes (s.inner ++ r)) after s.opens;
        pieces_are = subst (ArePieces raw quotes s.pieces s.inner) after s.pieces_are;
        value_is = s.text_is;
      },
      s.bytes_are ∙ (ap (λ r. quotes ++ (s.inner ++ r)) after ∙ (ap (λ r. quotes ++ r) (sym (append_assoc s.inner quotes stands.0)) ∙ sym (append_assoc quotes (s.inner ++ quotes) stands.0))),
      omega arith,
    )

pub failed : (raw : Bool) (quotes bytes rest text : List ℕ) (at : ℕ) (kind : StringFaultKind) → Progress raw quotes bytes at text → rest ≡ drop at bytes → IsFault raw quotes rest kind → IsLiteralFault raw bytes (record { kind = kind; at = at })
failed raw quotes bytes rest text at kind s is fault = record {
  quotes = quotes;
  inner = s.inner;
  rest = drop at bytes;
  pieces = s.pieces;
  bytes_are = s.bytes_are;
  opens = s.opens;
  pieces_are = s.pieces_are;
  at_is = s.at_is;
  fault_is = subst (λ r. IsFault raw quotes r kind) is fault;
}

-- what was read is the only answer
pub only : (raw : Bool) (bytes : List ℕ) (result : Result (List ℕ × ℕ) (Refused StringFault)) → Reads raw bytes result → (text rest value : List ℕ) → IsLiteral raw text rest value → bytes ≡ text ++ rest → (result ≡ Ok (value, length text)) ⊎ (result ≡ Err refused.NoMemory)
only raw bytes (Ok found) reads text rest value is e =
    let one = one_literal raw reads.0 reads.1 found.0 text rest value reads.2 is (sym reads.3 ∙ e) in
    let pair : List ℕ → ℕ → Result (List ℕ × ℕ) (Refused StringFault) = λ v n. Ok (v, n) in
    inl (ap (λ v. pair v found.1) one.1 ∙ ap (pair value) (reads.4 ∙ ap length one.0))
only raw bytes (Err (refused.Fault fault)) reads text rest value is e =
    absurd (apart raw text rest value fault is (subst (λ b. IsLiteralFault raw b fault) e reads))
only raw bytes (Err refused.NoMemory) reads text rest value is e = inr refl

pub fault_only : (raw : Bool) (bytes : List ℕ) (result : Result (List ℕ × ℕ) (Refused StringFault)) → Reads raw bytes result → (fault : StringFault) → IsLiteralFault raw bytes fault → (result ≡ Err (refused.Fault fault)) ⊎ (result ≡ Err refused.NoMemory)
fault_only raw bytes (Ok found) reads fault is =
    absurd (apart raw reads.0 reads.1 found.0 fault reads.2 (subst (λ b. IsLiteralFault raw b fault) reads.3 is))
fault_only raw bytes (Err (refused.Fault other)) reads fault is =
    let refuse : StringFault → Result (List ℕ × ℕ) (Refused StringFault) = λ f. Err (refused.Fault f) in
    inl (ap refuse (one_fault raw bytes other fault reads is))
fault_only raw bytes (Err refused.NoMemory) reads fault is = inr refl
