-- How a reading goes on behind each lexeme.
use Rattle.std.proofs.Common.{◌≡◌, ℕ, zero, suc, ◌+◌, ◌-◌, ◌<◌, Bool, true, false, cond, eqb, ltb, List, [], ◌∷◌, ◌++◌, length, Option, Some, None, Result, Ok, Err, ◌⊎◌, inl, inr, refl, sym, ap, ◌∙◌, subst, append_assoc, arith}
use Rattle.std.specs.Prelude.{replicate, slice_get, nat_eq}
use Rattle.std.specs.List.{starts_with}
use Rattle.std.proofs.lemmas.Bool.{lt-ltb}
use Rattle.std.proofs.Math.Dec.{eqb-suc-zero}
use Rattle.mpy_base.specs.declared.source.SourceFault.{SourceFault}
use Rattle.py_tokens.specs.declared.lexeme.Lexeme.{Lexeme}
use Rattle.py_tokens.specs.declared.lexeme.Lexeme.TheVariants as lexemes
use Rattle.py_tokens.specs.declared.lines.Change.{Change}
use Rattle.py_tokens.specs.declared.token.Tok.{Tok}
use Rattle.py_tokens.specs.declared.token.Tok.TheVariants as toks
use Rattle.py_tokens.specs.declared.token.Token.{Token}
use Rattle.py_tokens.specs.Lines.{Piece, Place, Line, Level, Tokens, count_behind, brackets_behind, ends_line, empty_token, newline, level, level_of_first, lines, all_lines, with_piece, tokens_of, with_front, change, change_at, innermost, change_tokens, levels_behind, line_tokens, changed_line, all_tokens, bad_indent, tokens_of_pieces}
use Rattle.py_tokens.specs.Going.{known_level, from_here, goes_from}

abbrev Stop : Type 0
Stop = Result Place SourceFault

abbrev Levels : Type 0
Levels = List (List ℕ)

-- a piece at a place
abbrev pub piece_of : Lexeme → List ℕ → ℕ → ℕ → Piece
piece_of lexeme text at line = record { lexeme = lexeme; text = text; at = at; line = line }

abbrev pub token_at : Tok → List ℕ → ℕ → ℕ → Token
token_at tok text at line = record { kind = tok; at = at; end = at + length text; line = line }

with_fronts : (a b : List Token) (r : Tokens) → with_front a (with_front b r) ≡ with_front (a ++ b) r
with_fronts a b (Ok tokens) = ap (λ ts. Ok ts) (sym (append_assoc a b tokens))
with_fronts a b (Err fault) = refl

with_no_front : (r : Tokens) → with_front [] r ≡ r
with_no_front (Ok tokens) = refl
with_no_front (Err fault) = refl

-- a token in front of those of a line
line_tokens_more : (a : List Token) (token : Token) (tokens : List Token) (ends : Result Token SourceFault) (others : Tokens) → with_front a (line_tokens (token ∷ tokens) ends others) ≡ with_front (a ++ token ∷ []) (line_tokens tokens ends others)
line_tokens_more a token tokens (Ok newline) others =
    with_fronts a (token ∷ (tokens ++ newline ∷ [])) others ∙ (ap (λ ts. with_front ts others) (sym (append_assoc a (token ∷ []) (tokens ++ newline ∷ []))) ∙ sym (with_fronts (a ++ token ∷ []) (tokens ++ newline ∷ []) others))
line_tokens_more a token tokens (Err fault) others = refl

-- what is passed over
pub over_blank : (tokens : List Token) (levels : Levels) (count : ℕ) (its : Level) (is_open : Bool) (text : List ℕ) (at line : ℕ) (pieces : List Piece) (stop : Stop) → goes_from tokens levels count (Some its) is_open (piece_of lexemes.Blank text at line ∷ pieces) stop ≡ goes_from tokens levels count (Some its) is_open pieces stop
unfolding goes_from
over_blank tokens levels count its true text at line pieces stop = refl
over_blank tokens levels count its false text at line pieces stop = refl

pub over_comment : (tokens : List Token) (levels : Levels) (count : ℕ) (its : Level) (is_open : Bool) (text : List ℕ) (at line : ℕ) (pieces : List Piece) (stop : Stop) → goes_from tokens levels count (Some its) is_open (piece_of lexemes.Comment text at line ∷ pieces) stop ≡ goes_from tokens levels count (Some its) is_open pieces stop
unfolding goes_from
over_comment tokens levels count its true text at line pieces stop = refl
over_comment tokens levels count its false text at line pieces stop = refl

pub over_join : (tokens : List Token) (levels : Levels) (count : ℕ) (its : Level) (is_open : Bool) (text : List ℕ) (at line : ℕ) (pieces : List Piece) (stop : Stop) → goes_from tokens levels count (Some its) is_open (piece_of lexemes.Join text at line ∷ pieces) stop ≡ goes_from tokens levels count (Some its) is_open pieces stop
unfolding goes_from
over_join tokens levels count its true text at line pieces stop = refl
over_join tokens levels count its false text at line pieces stop = refl

-- the first lines of pieces, of which the first may end there
lines_inside : (count : ℕ) (text : List ℕ) (at line : ℕ) (pieces : List Piece) (stop : Stop) → eqb count 0 ≡ false → lines count (piece_of lexemes.LineEnd text at line ∷ pieces) stop ≡ with_piece (piece_of lexemes.LineEnd text at line) (lines count pieces stop)
lines_inside count text at line pieces stop inside =
    ap (λ b. cond b (record { pieces = []; ends = Ok (newline (piece_of lexemes.LineEnd text at line)) }, all_lines (lines 0 pieces stop)) (with_piece (piece_of lexemes.LineEnd text at line) (lines count pieces stop))) inside

-- a line end inside brackets
pub over_line_end : (tokens : List Token) (levels : Levels) (count : ℕ) (its : Level) (is_open : Bool) (text : List ℕ) (at line : ℕ) (pieces : List Piece) (stop : Stop) → eqb count 0 ≡ false → goes_from tokens levels count (Some its) is_open (piece_of lexemes.LineEnd text at line ∷ pieces) stop ≡ goes_from tokens levels count (Some its) is_open pieces stop
unfolding goes_from
over_line_end tokens levels count its true text at line pieces stop inside =
    ap (λ these. with_front tokens (from_here levels (Some its) true these stop)) (lines_inside count text at line pieces stop inside)
over_line_end tokens levels count its false text at line pieces stop inside =
    ap (λ these. with_front tokens (from_here levels (Some its) false these stop)) (lines_inside count text at line pieces stop inside)

-- one outside
pub line_ends_open : (tokens : List Token) (levels : Levels) (its : Option Level) (text : List ℕ) (at line : ℕ) (pieces : List Piece) (stop : Stop) → goes_from tokens levels 0 its true (piece_of lexemes.LineEnd text at line ∷ pieces) stop ≡ goes_from (tokens ++ newline (piece_of lexemes.LineEnd text at line) ∷ []) levels 0 None false pieces stop
unfolding goes_from
line_ends_open tokens levels its text at line pieces stop =
    with_fronts tokens (newline (piece_of lexemes.LineEnd text at line) ∷ []) (all_tokens (all_lines (lines 0 pieces stop)) stop levels)

pub line_ends_closed : (tokens : List Token) (levels : Levels) (its : Option Level) (text : List ℕ) (at line : ℕ) (pieces : List Piece) (stop : Stop) → goes_from tokens levels 0 its false (piece_of lexemes.LineEnd text at line ∷ pieces) stop ≡ goes_from tokens levels 0 None false pieces stop
unfolding goes_from
line_ends_closed tokens levels its text at line pieces stop = refl

-- a token of an open line
pub over_token : (tokens : List Token) (levels : Levels) (count : ℕ) (its : Option Level) (tok : Tok) (text : List ℕ) (at line : ℕ) (pieces : List Piece) (stop : Stop) → goes_from tokens levels count its true (piece_of (lexemes.Token tok) text at line ∷ pieces) stop ≡ goes_from (tokens ++ token_at tok text at line ∷ []) levels (count_behind count tok) its true pieces stop
unfolding goes_from
over_token tokens levels count its tok text at line pieces stop =
    let these = lines (count_behind count tok) pieces stop in
    line_tokens_more tokens (token_at tok text at line) (tokens_of these.0.pieces) these.0.ends (all_tokens these.1 stop levels)

-- the first token of a line
pub refused_level : (tokens : List Token) (levels : Levels) (count : ℕ) (its : Level) (tok : Tok) (text : List ℕ) (at line : ℕ) (pieces : List Piece) (stop : Stop) → change levels its.text ≡ None → goes_from tokens levels count (Some its) false (piece_of (lexemes.Token tok) text at line ∷ pieces) stop ≡ Err (bad_indent its.line)
unfolding goes_from
refused_level tokens levels count its tok text at line pieces stop none =
    let these = lines (count_behind count tok) pieces stop in
    ap (λ (c : Option Change). with_front tokens (changed_line levels its (token_at tok text at line ∷ tokens_of these.0.pieces) these.0.ends c (all_tokens these.1 stop))) none

pub changed_level : (tokens : List Token) (levels : Levels) (count : ℕ) (its : Level) (tok : Tok) (text : List ℕ) (at line : ℕ) (pieces : List Piece) (stop : Stop) (its_change : Change) → change levels its.text ≡ Some its_change → goes_from tokens levels count (Some its) false (piece_of (lexemes.Token tok) text at line ∷ pieces) stop ≡ goes_from (tokens ++ change_tokens levels its_change (record { at = at; line = line })) (levels_behind levels its.text its_change) count (Some its) true (piece_of (lexemes.Token tok) text at line ∷ pieces) stop
unfolding goes_from
changed_level tokens levels count its tok text at line pieces stop its_change some =
    let these = lines (count_behind count tok) pieces stop in
    let all = token_at tok text at line ∷ tokens_of these.0.pieces in
    ap (λ (c : Option Change). with_front tokens (changed_line levels its all these.0.ends c (all_tokens these.1 stop))) some
    ∙ with_fronts tokens (change_tokens levels its_change (record { at = at; line = line })) (line_tokens all these.0.ends (all_tokens these.1 stop (levels_behind levels its.text its_change)))

-- the first piece of a line tells its level
level_told : (b : Bool) (tokens : List Token) (levels : Levels) (piece : Piece) (ends : Token) (these : Line × List Line) (others : List Line) (stop : Stop) → with_front tokens (from_here levels None false (cond b (record { pieces = []; ends = Ok ends }, others) (with_piece piece these)) stop) ≡ with_front tokens (from_here levels (Some (record { text = level_of_first piece.lexeme piece.text; line = piece.line })) false (cond b (record { pieces = []; ends = Ok ends }, others) (with_piece piece these)) stop)
level_told true tokens levels piece ends these others stop = refl
level_told false tokens levels piece ends these others stop = refl

pub at_first : (tokens : List Token) (levels : Levels) (count : ℕ) (piece : Piece) (pieces : List Piece) (stop : Stop) → goes_from tokens levels count None false (piece ∷ pieces) stop ≡ goes_from tokens levels count (Some (record { text = level_of_first piece.lexeme piece.text; line = piece.line })) false (piece ∷ pieces) stop
unfolding goes_from
at_first tokens levels count piece pieces stop =
    level_told (ends_line count piece.lexeme) tokens levels piece (newline piece) (lines (brackets_behind count piece.lexeme) pieces stop) (all_lines (lines 0 pieces stop)) stop

-- at the start
pub at_start : (pieces : List Piece) (stop : Stop) → goes_from [] ([] ∷ []) 0 None false pieces stop ≡ tokens_of_pieces pieces stop
unfolding goes_from
at_start pieces stop = with_no_front (tokens_of_pieces pieces stop)

-- at a fault
pub fault_open : (tokens : List Token) (levels : Levels) (count : ℕ) (its : Option Level) (fault : SourceFault) → goes_from tokens levels count its true [] (Err fault) ≡ Err fault
unfolding goes_from
fault_open tokens levels count its fault = refl

pub fault_refused : (tokens : List Token) (levels : Levels) (count : ℕ) (its : Level) (fault : SourceFault) → change levels its.text ≡ None → goes_from tokens levels count (Some its) false [] (Err fault) ≡ Err (bad_indent its.line)
unfolding goes_from
fault_refused tokens levels count its fault none =
    ap (λ (c : Option Change). with_front tokens (changed_line levels its [] (Err fault) c (all_tokens [] (Err fault)))) none

pub fault_level : (tokens : List Token) (levels : Levels) (count : ℕ) (its : Level) (fault : SourceFault) (its_change : Change) → change levels its.text ≡ Some its_change → goes_from tokens levels count (Some its) false [] (Err fault) ≡ Err fault
unfolding goes_from
fault_level tokens levels count its fault its_change some =
    ap (λ (c : Option Change). with_front tokens (changed_line levels its [] (Err fault) c (all_tokens [] (Err fault)))) some

-- where nothing has been read of the line, its level is the empty one
pub fault_new : (tokens : List Token) (levels : Levels) (count : ℕ) (fault : SourceFault) (its_change : Change) → change levels [] ≡ Some its_change → goes_from tokens levels count None false [] (Err fault) ≡ Err fault
unfolding goes_from
fault_new tokens levels count fault its_change some =
    ap (λ (c : Option Change). with_front tokens (changed_line levels (level []) [] (Err fault) c (all_tokens [] (Err fault)))) some

-- at the end
abbrev pub end_tokens : Levels → Place → List Token
end_tokens levels place = replicate (length levels - 1) (empty_token toks.Dedent place) ++ empty_token toks.End place ∷ []

pub end_closed : (tokens : List Token) (levels : Levels) (count : ℕ) (its : Option Level) (place : Place) → goes_from tokens levels count its false [] (Ok place) ≡ Ok (tokens ++ end_tokens levels place)
unfolding goes_from
end_closed tokens levels count its place = refl

pub end_open : (tokens : List Token) (levels : Levels) (count : ℕ) (its : Option Level) (place : Place) → goes_from tokens levels count its true [] (Ok place) ≡ Ok ((tokens ++ empty_token toks.Newline place ∷ []) ++ end_tokens levels place)
unfolding goes_from
end_open tokens levels count its place = with_fronts tokens (empty_token toks.Newline place ∷ []) (Ok (end_tokens levels place))

abbrev ok_tokens : List Token → Tokens
ok_tokens tokens = Ok tokens

-- what is known of a line that has begun
known : (is_new : Bool) (text : List ℕ) (line : ℕ) → is_new ≡ false → known_level is_new text line ≡ Some (record { text = text; line = line })
known is_new text line begun = ap (λ b. known_level b text line) begun

known_new : (is_new : Bool) (text : List ℕ) (line : ℕ) → is_new ≡ true → known_level is_new text line ≡ None
known_new is_new text line new = ap (λ b. known_level b text line) new

above_zero : (n : ℕ) → 0 < n → eqb n 0 ≡ false
above_zero zero above = absurd (omega arith)
above_zero (suc n) above = eqb-suc-zero n

-- the lexemes that give nothing
abbrev pub Passes : Lexeme → Type 0
Passes lexemes.Blank = Unit {0}
Passes lexemes.Comment = Unit {0}
Passes lexemes.Join = Unit {0}
Passes lexemes.LineEnd = ⊥
Passes (lexemes.Token tok) = ⊥

pub passes_here : (lexeme : Lexeme) → (lexeme ≡ lexemes.Blank) ⊎ ((lexeme ≡ lexemes.Comment) ⊎ (lexeme ≡ lexemes.Join)) → Passes lexeme
passes_here lexeme (inl is) = subst Passes (sym is) tt
passes_here lexeme (inr (inl is)) = subst Passes (sym is) tt
passes_here lexeme (inr (inr is)) = subst Passes (sym is) tt

pass_known : (lexeme : Lexeme) (tokens : List Token) (levels : Levels) (count : ℕ) (its : Level) (is_open : Bool) (text : List ℕ) (at line : ℕ) (pieces : List Piece) (stop : Stop) → Passes lexeme → goes_from tokens levels count (Some its) is_open (piece_of lexeme text at line ∷ pieces) stop ≡ goes_from tokens levels count (Some its) is_open pieces stop
pass_known lexemes.Blank tokens levels count its is_open text at line pieces stop h = over_blank tokens levels count its is_open text at line pieces stop
pass_known lexemes.Comment tokens levels count its is_open text at line pieces stop h = over_comment tokens levels count its is_open text at line pieces stop
pass_known lexemes.Join tokens levels count its is_open text at line pieces stop h = over_join tokens levels count its is_open text at line pieces stop
pass_known lexemes.LineEnd tokens levels count its is_open text at line pieces stop h = absurd h
pass_known (lexemes.Token tok) tokens levels count its is_open text at line pieces stop h = absurd h

pub passes : (lexeme : Lexeme) (tokens : List Token) (levels : Levels) (count : ℕ) (is_new : Bool) (its : List ℕ) (its_line : ℕ) (is_open : Bool) (text : List ℕ) (at line : ℕ) (pieces : List Piece) (stop : Stop) → is_new ≡ false → Passes lexeme → goes_from tokens levels count (known_level is_new its its_line) is_open (piece_of lexeme text at line ∷ pieces) stop ≡ goes_from tokens levels count (known_level is_new its its_line) is_open pieces stop
passes lexeme tokens levels count is_new its its_line is_open text at line pieces stop begun h =
    subst (λ (z : Option Level). goes_from tokens levels count z is_open (piece_of lexeme text at line ∷ pieces) stop ≡ goes_from tokens levels count z is_open pieces stop) (sym (known is_new its its_line begun)) (pass_known lexeme tokens levels count (record { text = its; line = its_line }) is_open text at line pieces stop h)

-- at the start
pub starts : (tokens : List Token) (levels : Levels) (pieces : List Piece) (stop : Stop) → tokens ≡ [] → levels ≡ [] ∷ [] → goes_from tokens levels 0 None false pieces stop ≡ tokens_of_pieces pieces stop
starts tokens levels pieces stop none one =
    ap (λ (z : List Token). goes_from z levels 0 None false pieces stop) none
    ∙ (ap (λ (z : Levels). goes_from [] z 0 None false pieces stop) one ∙ at_start pieces stop)

-- at a fault
pub faults_open : (tokens : List Token) (levels : Levels) (count : ℕ) (its : Option Level) (is_open : Bool) (fault : SourceFault) → is_open ≡ true → goes_from tokens levels count its is_open [] (Err fault) ≡ Err fault
faults_open tokens levels count its is_open fault e =
    ap (λ b. goes_from tokens levels count its b [] (Err fault)) e ∙ fault_open tokens levels count its fault

pub faults_level : (tokens : List Token) (levels : Levels) (count : ℕ) (is_new : Bool) (its : List ℕ) (its_line : ℕ) (is_open : Bool) (fault : SourceFault) (its_change : Change) → is_open ≡ false → (is_new ≡ true → its ≡ []) → change levels its ≡ Some its_change → goes_from tokens levels count (known_level is_new its its_line) is_open [] (Err fault) ≡ Err fault
faults_level tokens levels count true its its_line is_open fault its_change e fresh some =
    ap (λ b. goes_from tokens levels count None b [] (Err fault)) e
    ∙ fault_new tokens levels count fault its_change (ap (change levels) (sym (fresh refl)) ∙ some)
faults_level tokens levels count false its its_line is_open fault its_change e fresh some =
    ap (λ b. goes_from tokens levels count (Some (record { text = its; line = its_line })) b [] (Err fault)) e
    ∙ fault_level tokens levels count (record { text = its; line = its_line }) fault its_change some

abbrev no_blanks : List ℕ
no_blanks = []

-- the empty level is open everywhere
level_there : (levels : Levels) → slice_get levels 0 ≡ Some [] → change levels [] ≡ None → ⊥
level_there [] outermost none = absurd cc
level_there (first ∷ levels) outermost none =
    let same : first ≡ no_blanks = cc in
    let here : change (no_blanks ∷ levels) no_blanks ≡ None = subst (λ (z : List ℕ). change (z ∷ levels) no_blanks ≡ None) same none in
    let within : ltb 0 (length (no_blanks ∷ levels)) ≡ true = lt-ltb 0 (length (no_blanks ∷ levels)) (omega arith) in
    let is : change (no_blanks ∷ levels) no_blanks ≡ change_at (Some 0) (starts_with nat_eq no_blanks (innermost (no_blanks ∷ levels))) =
    ap (λ (b : Bool). change_at (cond b (Some 0) None) (starts_with nat_eq no_blanks (innermost (no_blanks ∷ levels)))) within in
    absurd cc

pub faults_refused : (tokens : List Token) (levels : Levels) (count : ℕ) (is_new : Bool) (its : List ℕ) (its_line : ℕ) (is_open : Bool) (fault : SourceFault) → is_open ≡ false → (is_new ≡ true → its ≡ []) → slice_get levels 0 ≡ Some [] → change levels its ≡ None → goes_from tokens levels count (known_level is_new its its_line) is_open [] (Err fault) ≡ Err (bad_indent its_line)
faults_refused tokens levels count true its its_line is_open fault e fresh outermost none =
    absurd (level_there levels outermost (ap (change levels) (sym (fresh refl)) ∙ none))
faults_refused tokens levels count false its its_line is_open fault e fresh outermost none =
    ap (λ b. goes_from tokens levels count (Some (record { text = its; line = its_line })) b [] (Err fault)) e
    ∙ fault_refused tokens levels count (record { text = its; line = its_line }) fault none

-- at the end
pub finishes : (tokens before all : List Token) (levels : Levels) (count : ℕ) (its : Option Level) (is_open : Bool) (place : Place) → (is_open ≡ true) × (before ≡ tokens ++ empty_token toks.Newline place ∷ []) ⊎ (is_open ≡ false) × (before ≡ tokens) → all ≡ (before ++ replicate (length levels - 1) (empty_token toks.Dedent place)) ++ empty_token toks.End place ∷ [] → goes_from tokens levels count its is_open [] (Ok place) ≡ Ok all
finishes tokens before all levels count its is_open place (inl h) is =
    ap (λ b. goes_from tokens levels count its b [] (Ok place)) h.0
    ∙ (end_open tokens levels count its place
    ∙ (ap (λ (z : List Token). ok_tokens (z ++ end_tokens levels place)) (sym h.1)
    ∙ ap ok_tokens (sym (append_assoc before (replicate (length levels - 1) (empty_token toks.Dedent place)) (empty_token toks.End place ∷ [])) ∙ sym is)))
finishes tokens before all levels count its is_open place (inr h) is =
    ap (λ b. goes_from tokens levels count its b [] (Ok place)) h.0
    ∙ (end_closed tokens levels count its place
    ∙ (ap (λ (z : List Token). ok_tokens (z ++ end_tokens levels place)) (sym h.1)
    ∙ ap ok_tokens (sym (append_assoc before (replicate (length levels - 1) (empty_token toks.Dedent place)) (empty_token toks.End place ∷ [])) ∙ sym is)))

pub inside : (tokens : List Token) (levels : Levels) (count : ℕ) (is_new : Bool) (its : List ℕ) (its_line : ℕ) (is_open : Bool) (text : List ℕ) (at line : ℕ) (pieces : List Piece) (stop : Stop) → is_new ≡ false → 0 < count → goes_from tokens levels count (known_level is_new its its_line) is_open (piece_of lexemes.LineEnd text at line ∷ pieces) stop ≡ goes_from tokens levels count (known_level is_new its its_line) is_open pieces stop
inside tokens levels count is_new its its_line is_open text at line pieces stop begun above =
    subst (λ (z : Option Level). goes_from tokens levels count z is_open (piece_of lexemes.LineEnd text at line ∷ pieces) stop ≡ goes_from tokens levels count z is_open pieces stop) (sym (known is_new its its_line begun)) (over_line_end tokens levels count (record { text = its; line = its_line }) is_open text at line pieces stop (above_zero count above))

pub ends_open : (tokens others : List Token) (levels : Levels) (count : ℕ) (its : Option Level) (is_open : Bool) (text : List ℕ) (at line : ℕ) (pieces : List Piece) (stop : Stop) → is_open ≡ true → count ≡ 0 → others ≡ tokens ++ newline (piece_of lexemes.LineEnd text at line) ∷ [] → goes_from tokens levels count its is_open (piece_of lexemes.LineEnd text at line ∷ pieces) stop ≡ goes_from others levels count None false pieces stop
ends_open tokens others levels count its is_open text at line pieces stop e outside more =
    ap (λ (n : ℕ). goes_from tokens levels n its is_open (piece_of lexemes.LineEnd text at line ∷ pieces) stop) outside
    ∙ (ap (λ b. goes_from tokens levels 0 its b (piece_of lexemes.LineEnd text at line ∷ pieces) stop) e
    ∙ (line_ends_open tokens levels its text at line pieces stop
    ∙ (ap (λ z. goes_from z levels 0 None false pieces stop) (sym more) ∙ ap (λ (n : ℕ). goes_from others levels n None false pieces stop) (sym outside))))

pub ends_closed : (tokens others : List Token) (levels : Levels) (count : ℕ) (its : Option Level) (is_open : Bool) (text : List ℕ) (at line : ℕ) (pieces : List Piece) (stop : Stop) → is_open ≡ false → count ≡ 0 → others ≡ tokens → goes_from tokens levels count its is_open (piece_of lexemes.LineEnd text at line ∷ pieces) stop ≡ goes_from others levels count None false pieces stop
ends_closed tokens others levels count its is_open text at line pieces stop e outside same =
    ap (λ (n : ℕ). goes_from tokens levels n its is_open (piece_of lexemes.LineEnd text at line ∷ pieces) stop) outside
    ∙ (ap (λ b. goes_from tokens levels 0 its b (piece_of lexemes.LineEnd text at line ∷ pieces) stop) e
    ∙ (line_ends_closed tokens levels its text at line pieces stop
    ∙ (ap (λ z. goes_from z levels 0 None false pieces stop) (sym same) ∙ ap (λ (n : ℕ). goes_from others levels n None false pieces stop) (sym outside))))

pub adds_token : (tokens others : List Token) (levels : Levels) (count behind : ℕ) (its : Option Level) (is_open : Bool) (tok : Tok) (text : List ℕ) (at line : ℕ) (pieces : List Piece) (stop : Stop) → is_open ≡ true → others ≡ tokens ++ token_at tok text at line ∷ [] → behind ≡ count_behind count tok → goes_from tokens levels count its is_open (piece_of (lexemes.Token tok) text at line ∷ pieces) stop ≡ goes_from others levels behind its is_open pieces stop
adds_token tokens others levels count behind its is_open tok text at line pieces stop e more is =
    ap (λ b. goes_from tokens levels count its b (piece_of (lexemes.Token tok) text at line ∷ pieces) stop) e
    ∙ (over_token tokens levels count its tok text at line pieces stop
    ∙ (ap (λ z. goes_from z levels (count_behind count tok) its true pieces stop) (sym more)
    ∙ (ap (λ (n : ℕ). goes_from others levels n its true pieces stop) (sym is) ∙ ap (λ b. goes_from others levels behind its b pieces stop) (sym e))))

pub refuses_level : (tokens : List Token) (levels : Levels) (count : ℕ) (is_new : Bool) (its : List ℕ) (its_line : ℕ) (is_open : Bool) (tok : Tok) (text : List ℕ) (at line : ℕ) (pieces : List Piece) (stop : Stop) → is_new ≡ false → is_open ≡ false → change levels its ≡ None → goes_from tokens levels count (known_level is_new its its_line) is_open (piece_of (lexemes.Token tok) text at line ∷ pieces) stop ≡ Err (bad_indent its_line)
refuses_level tokens levels count is_new its its_line is_open tok text at line pieces stop begun closed none =
    ap (λ (z : Option Level). goes_from tokens levels count z is_open (piece_of (lexemes.Token tok) text at line ∷ pieces) stop) (known is_new its its_line begun)
    ∙ (ap (λ b. goes_from tokens levels count (Some (record { text = its; line = its_line })) b (piece_of (lexemes.Token tok) text at line ∷ pieces) stop) closed
    ∙ refused_level tokens levels count (record { text = its; line = its_line }) tok text at line pieces stop none)

pub opens_line : (tokens others : List Token) (levels behind : Levels) (count : ℕ) (is_new : Bool) (its : List ℕ) (its_line : ℕ) (is_open : Bool) (tok : Tok) (text : List ℕ) (at line : ℕ) (pieces : List Piece) (stop : Stop) (its_change : Change) → is_new ≡ false → is_open ≡ false → change levels its ≡ Some its_change → others ≡ tokens ++ change_tokens levels its_change (record { at = at; line = line }) → behind ≡ levels_behind levels its its_change → goes_from tokens levels count (known_level is_new its its_line) is_open (piece_of (lexemes.Token tok) text at line ∷ pieces) stop ≡ goes_from others behind count (known_level is_new its its_line) true (piece_of (lexemes.Token tok) text at line ∷ pieces) stop
opens_line tokens others levels behind count is_new its its_line is_open tok text at line pieces stop its_change begun closed some more is =
    let told : Level = record { text = its; line = its_line } in
    let all = piece_of (lexemes.Token tok) text at line ∷ pieces in
    ap (λ (z : Option Level). goes_from tokens levels count z is_open all stop) (known is_new its its_line begun)
    ∙ (ap (λ b. goes_from tokens levels count (Some told) b all stop) closed
    ∙ (changed_level tokens levels count told tok text at line pieces stop its_change some
    ∙ (ap (λ z. goes_from z (levels_behind levels its its_change) count (Some told) true all stop) (sym more)
    ∙ (ap (λ (z : Levels). goes_from others z count (Some told) true all stop) (sym is)
    ∙ ap (λ (z : Option Level). goes_from others behind count z true all stop) (sym (known is_new its its_line begun))))))

pub begins_line : (tokens : List Token) (levels : Levels) (count : ℕ) (is_new : Bool) (its : List ℕ) (its_line : ℕ) (is_open : Bool) (told : List ℕ) (lexeme : Lexeme) (text : List ℕ) (at line : ℕ) (pieces : List Piece) (stop : Stop) → is_new ≡ true → is_open ≡ false → told ≡ level_of_first lexeme text → goes_from tokens levels count (known_level is_new its its_line) is_open (piece_of lexeme text at line ∷ pieces) stop ≡ goes_from tokens levels count (known_level false told line) is_open (piece_of lexeme text at line ∷ pieces) stop
begins_line tokens levels count is_new its its_line is_open told lexeme text at line pieces stop new closed is =
    let all = piece_of lexeme text at line ∷ pieces in
    ap (λ (z : Option Level). goes_from tokens levels count z is_open all stop) (known_new is_new its its_line new)
    ∙ (ap (λ b. goes_from tokens levels count None b all stop) closed
    ∙ (at_first tokens levels count (piece_of lexeme text at line) pieces stop
    ∙ (ap (λ (z : List ℕ). goes_from tokens levels count (known_level false z line) false all stop) (sym is)
    ∙ ap (λ b. goes_from tokens levels count (known_level false told line) b all stop) (sym closed))))

-- the change of the levels that stand there
pub change_is : (levels its : Levels) (text told : List ℕ) (r : Option Change) → its ≡ levels → told ≡ text → r ≡ change its told → change levels text ≡ r
change_is levels its text told r same also is =
    sym (is ∙ (ap (λ (z : Levels). change z told) same ∙ ap (λ (z : List ℕ). change levels z) also))

-- a reading that agrees in what counts goes on alike
pub same_state : (tokens : List Token) (levels : Levels) (count number : ℕ) (is_new new : Bool) (its told : List ℕ) (its_line line : ℕ) (is_open : Bool) (pieces : List Piece) (stop : Stop) → number ≡ count → new ≡ is_new → told ≡ its → line ≡ its_line → goes_from tokens levels count (known_level is_new its its_line) is_open pieces stop ≡ goes_from tokens levels number (known_level new told line) is_open pieces stop
same_state tokens levels count number is_new new its told its_line line is_open pieces stop a b c d =
    ap (λ (z : ℕ). goes_from tokens levels z (known_level is_new its its_line) is_open pieces stop) (sym a)
    ∙ (ap (λ (z : Bool). goes_from tokens levels number (known_level z its its_line) is_open pieces stop) (sym b)
    ∙ (ap (λ (z : List ℕ). goes_from tokens levels number (known_level new z its_line) is_open pieces stop) (sym c)
    ∙ ap (λ (z : ℕ). goes_from tokens levels number (known_level new told z) is_open pieces stop) (sym d)))

abbrev pub error : SourceFault → Tokens
error fault = Err fault
