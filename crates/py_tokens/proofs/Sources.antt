-- What has been read of a source, and how it goes on.
use Rattle.std.proofs.Common.{◌≡◌, ℕ, suc, ◌+◌, List, [], ◌∷◌, ◌++◌, length, take, drop, Result, Ok, Err, inl, inr, refl, sym, ap, ◌∙◌, subst, append_assoc, zero-add, arith}
use Rattle.std.proofs.lemmas.List.{append-nil, take-append-drop, take_at, length-append}
use Rattle.mpy_base.specs.declared.refused.Refused.{Refused}
use Rattle.mpy_base.specs.declared.refused.Refused.TheVariants as refused
use Rattle.mpy_base.specs.declared.source.SourceFault.{SourceFault}
use Rattle.py_tokens.specs.declared.lexeme.Lexeme.{Lexeme}
use Rattle.py_tokens.specs.declared.lexeme.Lexeme.TheVariants as lexemes
use Rattle.py_tokens.specs.declared.lexeme.LexemeFault.{LexemeFault}
use Rattle.py_tokens.specs.declared.lines.Lines.{Lines}
use Rattle.py_tokens.specs.declared.token.Tok.{Tok}
use Rattle.py_tokens.specs.declared.token.Token.{Token}
use Rattle.py_tokens.specs.Going.{goes_on, piece_here, StaysAt, GoesAlike, Adds, OpensLine, fault_from}
use Rattle.py_tokens.specs.Lexeme.{IsFront}
use Rattle.py_tokens.specs.Lines.{Piece, Place, tokens_of_pieces}
use Rattle.py_tokens.specs.Tokens.{line_ends, line_at, AreInFront, IsReading, IsFault, Says}
use Rattle.py_tokens.proofs.Going.{piece_of}
use Rattle.py_tokens.proofs.Seams.{IsSeam, line_ends-append, front_of_rest, seam_front, front_seam, next_seam}

abbrev place_of : ℕ → ℕ → Place
place_of at line = record { at = at; line = line }

-- pieces have been read, and what is left goes on from there
pub record HasRead (opt : ℕ) (source : List ℕ) (here : Lines) (rest : List ℕ) : Type 0 where
  pub pieces : List Piece
  pub front : List ℕ
  pub parts : source ≡ front ++ rest
  pub long : length front ≡ here.at
  pub line : here.line ≡ 1 + line_ends front
  pub seam : IsSeam front rest
  pub pieces_are : AreInFront opt source 0 pieces here.at rest source
  pub same : (others : List Piece) (stop : Result Place SourceFault) → tokens_of_pieces (pieces ++ others) stop ≡ goes_on here others stop

line_there : (opt : ℕ) (source : List ℕ) (here : Lines) (rest : List ℕ) (read : HasRead opt source here rest) → here.line ≡ line_at source here.at
line_there opt source here rest read =
    read.line ∙ ap (λ z. 1 + line_ends z) (sym (ap (take here.at) read.parts ∙ take_at read.front rest here.at read.long))

take_more_than : (a b : List ℕ) (k : ℕ) → take (length a + k) (a ++ b) ≡ a ++ take k b
take_more_than [] b k = ap (λ n. take n b) (zero-add k)
take_more_than (x ∷ a) b k = let h : length (x ∷ a) + k ≡ suc (length a + k) = omega arith in ap (λ n. take n (x ∷ (a ++ b))) h ∙ ap (λ z. x ∷ z) (take_more_than a b k)

take_past : (a b : List ℕ) (n k : ℕ) → length a ≡ n → take (n + k) (a ++ b) ≡ a ++ take k b
take_past a b n k long =
    ap (λ m. take (m + k) (a ++ b)) (sym long) ∙ take_more_than a b k

-- the line of a place in what is left
line_behind : (opt : ℕ) (source : List ℕ) (here : Lines) (rest : List ℕ) (read : HasRead opt source here rest) (k : ℕ) → here.line + line_ends (take k rest) ≡ line_at source (here.at + k)
line_behind opt source here rest read k =
    let cut = ap (take (here.at + k)) read.parts ∙ take_past read.front rest here.at k read.long in
    let sum = line_ends-append read.front (take k rest) (front_of_rest read.front rest k read.seam) in
    let line = read.line in
    let whole : line_ends (take (here.at + k) source) ≡ line_ends read.front + line_ends (take k rest) = ap line_ends cut ∙ sum in
    omega (arith, whole, line)

-- one piece more
one_more : (opt : ℕ) (source : List ℕ) (at : ℕ) (ps : List Piece) (end line : ℕ) (rest behind bytes : List ℕ) (lexeme : Lexeme) (text : List ℕ) → line ≡ line_at source end → AreInFront opt source at ps end rest bytes → IsFront opt rest (Ok (lexeme, text)) → rest ≡ text ++ behind → AreInFront opt source at (ps ++ piece_of lexeme text end line ∷ []) (end + length text) behind bytes
one_more opt source at [] end line rest behind bytes lexeme text is are front parts =
    (are.0, is ∙ ap (line_at source) are.0, subst (λ z. IsFront opt z (Ok (lexeme, text))) (sym are.1) front, behind, are.1 ∙ parts, (ap (λ n. n + length text) are.0, refl))
one_more opt source at (p ∷ ps) end line rest behind bytes lexeme text is are front parts =
    (are.0, are.1, are.2, are.3, are.4, one_more opt source (at + length p.text) ps end line rest behind are.3 lexeme text is are.5 front parts)

-- one piece more, whatever follows
followed : (opt : ℕ) (source : List ℕ) (here : Lines) (rest : List ℕ) (read : HasRead opt source here rest) (p : Piece) (others : List Piece) (stop : Result Place SourceFault) → tokens_of_pieces ((read.pieces ++ p ∷ []) ++ others) stop ≡ goes_on here (p ∷ others) stop
followed opt source here rest read p others stop =
    ap (λ z. tokens_of_pieces z stop) (append_assoc read.pieces (p ∷ []) others) ∙ read.same (p ∷ others) stop

pub read_start : (opt : ℕ) (source : List ℕ) (here : Lines) → here.at ≡ 0 → here.line ≡ 1 → ((pieces : List Piece) (stop : Result Place SourceFault) → goes_on here pieces stop ≡ tokens_of_pieces pieces stop) → HasRead opt source here source
read_start opt source here at line whole = record {
  pieces = [];
  front = [];
  parts = refl;
  long = sym at;
  line = line;
  seam = λ e. absurd cc;
  pieces_are = (at, refl);
  same = λ others stop. sym (whole others stop);
}

pub read_more : (opt : ℕ) (source : List ℕ) (here new : Lines) (rest behind : List ℕ) (lexeme : Lexeme) (text : List ℕ) → HasRead opt source here rest → IsFront opt rest (Ok (lexeme, text)) → rest ≡ text ++ behind → ((others : List Piece) (stop : Result Place SourceFault) → goes_on here (piece_here here lexeme text ∷ others) stop ≡ goes_on new others stop) → new.at ≡ here.at + length text → new.line ≡ here.line + line_ends text → HasRead opt source new behind
read_more opt source here new rest behind lexeme text read front parts adds at line =
    let more = one_more opt source 0 read.pieces here.at here.line rest behind source lexeme text (line_there opt source here rest read) read.pieces_are front parts in
    let sum = line_ends-append read.front text (seam_front read.front text rest behind read.seam parts) in
    let long = read.long in
    let before = read.line in
    record {
      pieces = read.pieces ++ piece_here here lexeme text ∷ [];
      front = read.front ++ text;
      parts = read.parts ∙ (ap (λ z. read.front ++ z) parts ∙ sym (append_assoc read.front text behind));
      long = omega (arith, length-append read.front text, long, at);
      line = omega (arith, sum, before, line);
      seam = next_seam read.front text rest behind read.seam parts (front_seam opt rest lexeme text behind front parts);
      pieces_are = subst (λ z. AreInFront opt source 0 (read.pieces ++ piece_here here lexeme text ∷ []) z behind source) (sym at) more;
      same = λ others stop. followed opt source here rest read (piece_here here lexeme text) others stop ∙ adds others stop;
    }

pub read_end : (opt : ℕ) (source : List ℕ) (here : Lines) (rest : List ℕ) (tokens : List Token) → HasRead opt source here rest → rest ≡ [] → goes_on here [] (Ok (record { at = here.at; line = here.line })) ≡ Ok tokens → IsReading opt source (Ok tokens)
read_end opt source here rest tokens read none is =
    let end : Result Place SourceFault = Ok (place_of here.at here.line) in
    record {
      pieces = read.pieces;
      end = here.at;
      rest = rest;
      stop = end;
      pieces_are = read.pieces_are;
      stops = (none, ap (place_of here.at) (line_there opt source here rest read));
      answer_is = sym (ap (λ (z : List Piece). tokens_of_pieces z end) (sym (append-nil read.pieces)) ∙ (read.same [] end ∙ is));
    }

abbrev fault_made : LexemeFault → ℕ → SourceFault
fault_made its line = record { code = its.code; line = line; word = its.word }

pub read_fault : (opt : ℕ) (source : List ℕ) (here : Lines) (rest : List ℕ) (its : LexemeFault) (met fault : SourceFault) → HasRead opt source here rest → IsFront opt rest (Err its) → met ≡ fault_from here.line rest its → goes_on here [] (Err met) ≡ Err fault → IsFault opt source fault
read_fault opt source here rest its met fault read front is gives =
    let end : Result Place SourceFault = Err met in
    inl (record {
      pieces = read.pieces;
      end = here.at;
      rest = rest;
      stop = end;
      pieces_are = read.pieces_are;
      stops = (its, front, is ∙ ap (fault_made its) (line_behind opt source here rest read its.at));
      answer_is = sym (ap (λ (z : List Piece). tokens_of_pieces z end) (sym (append-nil read.pieces)) ∙ (read.same [] end ∙ gives));
    })

pub read_refused : (opt : ℕ) (source : List ℕ) (here : Lines) (rest behind : List ℕ) (lexeme : Lexeme) (text : List ℕ) (fault : SourceFault) → HasRead opt source here rest → IsFront opt rest (Ok (lexeme, text)) → rest ≡ text ++ behind → ((others : List Piece) (stop : Result Place SourceFault) → goes_on here (piece_here here lexeme text ∷ others) stop ≡ Err fault) → IsFault opt source fault
read_refused opt source here rest behind lexeme text fault read front parts refuses =
    inr (record {
      pieces = read.pieces ++ piece_here here lexeme text ∷ [];
      end = here.at + length text;
      rest = behind;
      pieces_are = one_more opt source 0 read.pieces here.at here.line rest behind source lexeme text (line_there opt source here rest read) read.pieces_are front parts;
      refused = λ others stop. followed opt source here rest read (piece_here here lexeme text) others stop ∙ refuses others stop;
    })

-- what a refused token says is what it says in front of the line
pub opens_adds : (tok : Tok) (text : List ℕ) (old new : Lines) (r : Refused SourceFault) → OpensLine tok text old new (Err r) → Adds (piece_here old (lexemes.Token tok) text) old new (Err r)
opens_adds tok text old new (refused.Fault fault) h = h
opens_adds tok text old new refused.NoMemory h = tt

-- the piece stands where it stood
pub same_place : (old new : Lines) (lexeme : Lexeme) (text : List ℕ) → StaysAt old new → piece_here old lexeme text ≡ piece_here new lexeme text
same_place old new lexeme text stays = ap (λ (n : ℕ). piece_of lexeme text n old.line) (sym stays.at) ∙ ap (λ (n : ℕ). piece_of lexeme text new.at n) (sym stays.line)

-- what a begun line adds, it adds to the old one
pub adds_begun : (lexeme : Lexeme) (text : List ℕ) (old begun new : Lines) (r : Result (Unit {0}) (Refused SourceFault)) → GoesAlike (piece_here old lexeme text) old begun → StaysAt old begun → Adds (piece_here begun lexeme text) begun new r → Adds (piece_here old lexeme text) old new r
adds_begun lexeme text old begun new (Ok done) alike stays adds = λ pieces stop.
    alike pieces stop ∙ (ap (λ (p : Piece). goes_on begun (p ∷ pieces) stop) (same_place old begun lexeme text stays) ∙ adds pieces stop)
adds_begun lexeme text old begun new (Err (refused.Fault fault)) alike stays adds = λ pieces stop.
    alike pieces stop ∙ (ap (λ (p : Piece). goes_on begun (p ∷ pieces) stop) (same_place old begun lexeme text stays) ∙ adds pieces stop)
adds_begun lexeme text old begun new (Err refused.NoMemory) alike stays adds = tt

pub says_refused : (opt : ℕ) (source : List ℕ) (here new : Lines) (rest behind : List ℕ) (lexeme : Lexeme) (text : List ℕ) (r : Refused SourceFault) → HasRead opt source here rest → IsFront opt rest (Ok (lexeme, text)) → rest ≡ text ++ behind → Adds (piece_here here lexeme text) here new (Err r) → Says opt source (Err r)
says_refused opt source here new rest behind lexeme text (refused.Fault fault) read front parts adds = read_refused opt source here rest behind lexeme text fault read front parts adds
says_refused opt source here new rest behind lexeme text refused.NoMemory read front parts adds = tt

-- what was cut in two
pub cut : (rest text behind : List ℕ) (len : ℕ) → text ≡ take len rest → behind ≡ drop len rest → rest ≡ text ++ behind
cut rest text behind len front back = sym (ap (λ z. z ++ behind) front ∙ (ap (λ z. take len rest ++ z) back ∙ take-append-drop len rest))
