-- The first line of tokens, and those behind its end.
use Rattle.std.proofs.Common.{◌≡◌, ℕ, suc, Bool, true, false, if◌then◌else◌, List, [], ◌∷◌, ◌++◌, length, take, drop, map, refl, ap, sym, ◌∙◌, append_assoc, arith}
use Rattle.std.proofs.lemmas.List.{append-nil}
use Rattle.py_tokens.specs.declared.token.Token.{Token}
use Rattle.manifest_lines.specs.declared.manifest.Line.{Line}
use Rattle.manifest_lines.specs.Lines.{is_newline, line_length, onto_first, split, line, lines_of}

-- a token in front
no_step : (b : Bool) (token : Token) (tokens : List Token) → (drop (line_length tokens) tokens ≡ [] → split tokens ≡ [])
    → drop (if b then 0 else suc (line_length tokens)) (token ∷ tokens) ≡ []
    → (if b then [] ∷ split tokens else onto_first token (split tokens)) ≡ []
no_step true token tokens before e = absurd (cc)
no_step false token tokens before e = ap (onto_first token) (before e)

no_line : (tokens : List Token) → drop (line_length tokens) tokens ≡ [] → split tokens ≡ []
no_line [] e = refl
no_line (token ∷ tokens) e = no_step (is_newline token.kind) token tokens (no_line tokens) e

one_step : (b : Bool) (token end : Token) (tokens others : List Token)
    → (drop (line_length tokens) tokens ≡ end ∷ others → split tokens ≡ take (line_length tokens) tokens ∷ split others)
    → drop (if b then 0 else suc (line_length tokens)) (token ∷ tokens) ≡ end ∷ others
    → (if b then [] ∷ split tokens else onto_first token (split tokens)) ≡ take (if b then 0 else suc (line_length tokens)) (token ∷ tokens) ∷ split others
one_step true token end tokens others before e = let same : tokens ≡ others = cc in ap (λ (ts : List Token). [] ∷ split ts) same
one_step false token end tokens others before e = ap (onto_first token) (before e)

one_line : (tokens others : List Token) (end : Token) → drop (line_length tokens) tokens ≡ end ∷ others → split tokens ≡ take (line_length tokens) tokens ∷ split others
one_line [] others end e = absurd (cc)
one_line (token ∷ tokens) others end e = one_step (is_newline token.kind) token end tokens others (one_line tokens others end) e

none_there : (tokens : List Token) → length tokens ≡ 0 → tokens ≡ []
none_there [] e = refl
none_there (token ∷ tokens) e = absurd (omega (arith, e))

pub none_left : (found all : List Line) (rest behind : List Token) (n : ℕ) → n ≡ line_length rest → behind ≡ drop n rest → length behind ≡ 0 → found ++ lines_of rest ≡ all → found ≡ all
none_left found all rest behind n is left none e =
    let last : drop (line_length rest) rest ≡ [] = ap (λ (k : ℕ). drop k rest) (sym is) ∙ sym left ∙ none_there behind none in
    let no_lines : lines_of rest ≡ [] = ap (map line) (no_line rest last) in
    sym (append-nil found) ∙ ap (λ (ls : List Line). found ++ ls) (sym no_lines) ∙ e

pub one_more_line : (found all : List Line) (rest behind others first : List Token) (end : Token) (n : ℕ) → n ≡ line_length rest → first ≡ take n rest → behind ≡ drop n rest → behind ≡ end ∷ others
    → found ++ lines_of rest ≡ all → (found ++ line first ∷ []) ++ lines_of others ≡ all
one_more_line found all rest behind others first end n is front left more e =
    let last : drop (line_length rest) rest ≡ end ∷ others = ap (λ (k : ℕ). drop k rest) (sym is) ∙ sym left ∙ more in
    let its : take (line_length rest) rest ≡ first = ap (λ (k : ℕ). take k rest) (sym is) ∙ sym front in
    let lines : lines_of rest ≡ line first ∷ lines_of others = ap (map line) (one_line rest others end last) ∙ ap (λ (ts : List Token). line ts ∷ lines_of others) its in
    append_assoc found (line first ∷ []) (lines_of others) ∙ ap (λ (ls : List Line). found ++ ls) (sym lines) ∙ e
