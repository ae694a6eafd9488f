-- The first part of a text, and what is behind it.
use Rattle.std.proofs.Common.{◌≡◌, ℕ, suc, ◌==◌, Bool, true, false, if◌then◌else◌, List, [], ◌∷◌, length, take, drop, None, refl, ap, sym, ◌<◌, ◌∙◌, arith}
use Rattle.board_plan.specs.Lines.{front_length, onto_first, lines_of, words_of, are_two, task_by, turn_by}

-- a space is in front, or further on
word_step : (b : Bool) (byte : ℕ) (text : List ℕ) (space : ℕ) (rest : List ℕ)
    → (drop (front_length 32 text) text ≡ space ∷ rest → words_of text ≡ take (front_length 32 text) text ∷ words_of rest)
    → drop (if b then 0 else suc (front_length 32 text)) (byte ∷ text) ≡ space ∷ rest
    → (if b then [] ∷ words_of text else onto_first byte (words_of text)) ≡ take (if b then 0 else suc (front_length 32 text)) (byte ∷ text) ∷ words_of rest
word_step true byte text space rest before e = let same : text ≡ rest = cc in ap (λ (t : List ℕ). [] ∷ words_of t) same
word_step false byte text space rest before e = ap (onto_first byte) (before e)

pub one_word : (text : List ℕ) (space : ℕ) (rest : List ℕ) → drop (front_length 32 text) text ≡ space ∷ rest → words_of text ≡ take (front_length 32 text) text ∷ words_of rest
one_word [] space rest e = absurd (cc)
one_word (byte ∷ text) space rest e = word_step (byte == 32) byte text space rest (one_word text space rest) e

last_step : (b : Bool) (byte : ℕ) (text : List ℕ) → (drop (front_length 32 text) text ≡ [] → words_of text ≡ take (front_length 32 text) text ∷ [])
    → drop (if b then 0 else suc (front_length 32 text)) (byte ∷ text) ≡ []
    → (if b then [] ∷ words_of text else onto_first byte (words_of text)) ≡ take (if b then 0 else suc (front_length 32 text)) (byte ∷ text) ∷ []
last_step true byte text before e = absurd (cc)
last_step false byte text before e = ap (onto_first byte) (before e)

pub last_word : (text : List ℕ) → drop (front_length 32 text) text ≡ [] → words_of text ≡ take (front_length 32 text) text ∷ []
last_word [] e = refl
last_word (byte ∷ text) e = last_step (byte == 32) byte text (last_word text) e

-- the same of lines
line_step : (b : Bool) (byte : ℕ) (text : List ℕ) (end : ℕ) (rest : List ℕ)
    → (drop (front_length 10 text) text ≡ end ∷ rest → lines_of text ≡ take (front_length 10 text) text ∷ lines_of rest)
    → drop (if b then 0 else suc (front_length 10 text)) (byte ∷ text) ≡ end ∷ rest
    → (if b then [] ∷ lines_of text else onto_first byte (lines_of text)) ≡ take (if b then 0 else suc (front_length 10 text)) (byte ∷ text) ∷ lines_of rest
line_step true byte text end rest before e = let same : text ≡ rest = cc in ap (λ (t : List ℕ). [] ∷ lines_of t) same
line_step false byte text end rest before e = ap (onto_first byte) (before e)

pub one_line : (text : List ℕ) (end : ℕ) (rest : List ℕ) → drop (front_length 10 text) text ≡ end ∷ rest → lines_of text ≡ take (front_length 10 text) text ∷ lines_of rest
one_line [] end rest e = absurd (cc)
one_line (byte ∷ text) end rest e = line_step (byte == 10) byte text end rest (one_line text end rest) e

-- the last line
line_last_step : (b : Bool) (byte : ℕ) (text : List ℕ) → (drop (front_length 10 text) text ≡ [] → onto_first byte (lines_of text) ≡ (byte ∷ take (front_length 10 text) text) ∷ [])
    → drop (if b then 0 else suc (front_length 10 text)) (byte ∷ text) ≡ []
    → (if b then [] ∷ lines_of text else onto_first byte (lines_of text)) ≡ take (if b then 0 else suc (front_length 10 text)) (byte ∷ text) ∷ []
line_last_step true byte text before e = absurd (cc)
line_last_step false byte text before e = before e

last_line : (byte : ℕ) (text : List ℕ) → drop (front_length 10 (byte ∷ text)) (byte ∷ text) ≡ [] → lines_of (byte ∷ text) ≡ take (front_length 10 (byte ∷ text)) (byte ∷ text) ∷ []
last_line byte [] e = line_last_step (byte == 10) byte [] (λ h. refl) e
last_line byte (other ∷ text) e = line_last_step (byte == 10) byte (other ∷ text) (λ h. ap (onto_first byte) (last_line other text h)) e

none_there : (text : List ℕ) → length text ≡ 0 → text ≡ []
none_there [] e = refl
none_there (byte ∷ text) e = absurd (omega (arith, e))

-- a word or a line, as it is cut off
pub cut_word : (line word behind rest : List ℕ) (space n : ℕ) → n ≡ front_length 32 line → word ≡ take n line → behind ≡ drop n line → behind ≡ space ∷ rest → words_of line ≡ word ∷ words_of rest
cut_word line word behind rest space n is front back more =
    let first : drop (front_length 32 line) line ≡ space ∷ rest = ap (λ (k : ℕ). drop k line) (sym is) ∙ sym back ∙ more in
    let its : take (front_length 32 line) line ≡ word = ap (λ (k : ℕ). take k line) (sym is) ∙ sym front in
    one_word line space rest first ∙ ap (λ (w : List ℕ). w ∷ words_of rest) its

pub cut_last_word : (line word behind : List ℕ) (n : ℕ) → n ≡ front_length 32 line → word ≡ take n line → behind ≡ drop n line → length behind ≡ 0 → words_of line ≡ word ∷ []
cut_last_word line word behind n is front back none =
    let last : drop (front_length 32 line) line ≡ [] = ap (λ (k : ℕ). drop k line) (sym is) ∙ sym back ∙ none_there behind none in
    let its : take (front_length 32 line) line ≡ word = ap (λ (k : ℕ). take k line) (sym is) ∙ sym front in
    last_word line last ∙ ap (λ (w : List ℕ). w ∷ []) its

pub cut_line : (text line behind rest : List ℕ) (end n : ℕ) → n ≡ front_length 10 text → line ≡ take n text → behind ≡ drop n text → behind ≡ end ∷ rest → lines_of text ≡ line ∷ lines_of rest
cut_line text line behind rest end n is front back more =
    let first : drop (front_length 10 text) text ≡ end ∷ rest = ap (λ (k : ℕ). drop k text) (sym is) ∙ sym back ∙ more in
    let its : take (front_length 10 text) text ≡ line = ap (λ (k : ℕ). take k text) (sym is) ∙ sym front in
    one_line text end rest first ∙ ap (λ (l : List ℕ). l ∷ lines_of rest) its

pub cut_last_line : (text line behind : List ℕ) (n : ℕ) → 0 < length text → n ≡ front_length 10 text → line ≡ take n text → behind ≡ drop n text → length behind ≡ 0 → lines_of text ≡ line ∷ lines_of behind
cut_last_line [] line behind n some is front back none = absurd (omega (arith, some))
cut_last_line (byte ∷ text) line behind n some is front back none =
    let empty = none_there behind none in
    let last : drop (front_length 10 (byte ∷ text)) (byte ∷ text) ≡ [] = ap (λ (k : ℕ). drop k (byte ∷ text)) (sym is) ∙ sym back ∙ empty in
    let its : take (front_length 10 (byte ∷ text)) (byte ∷ text) ≡ line = ap (λ (k : ℕ). take k (byte ∷ text)) (sym is) ∙ sym front in
    last_line byte text last ∙ (ap (λ (l : List ℕ). l ∷ []) its ∙ ap (λ (t : List ℕ). line ∷ lines_of t) (sym empty))

-- too many words
onto_some : (byte : ℕ) (parts : List (List ℕ)) → (first : List ℕ) × (rest : List (List ℕ)) × (onto_first byte parts ≡ first ∷ rest)
onto_some byte [] = (byte ∷ [], [], refl)
onto_some byte (part ∷ parts) = (byte ∷ part, parts, refl)

some_step : (b : Bool) (byte : ℕ) (line : List ℕ) → (first : List ℕ) × (rest : List (List ℕ)) × ((if b then [] ∷ words_of line else onto_first byte (words_of line)) ≡ first ∷ rest)
some_step true byte line = ([], words_of line, refl)
some_step false byte line = onto_some byte (words_of line)

some_word : (line : List ℕ) → (first : List ℕ) × (rest : List (List ℕ)) × (words_of line ≡ first ∷ rest)
some_word [] = ([], [], refl)
some_word (byte ∷ line) = some_step (byte == 32) byte line

pub three_words : (line first second rest more : List ℕ) → words_of line ≡ first ∷ words_of rest → words_of rest ≡ second ∷ words_of more → are_two (words_of line) ≡ false
three_words line first second rest more one two =
    let third = some_word more in
    let words : words_of line ≡ first ∷ second ∷ third.0 ∷ third.1 =
    one ∙ (ap (λ (ws : List (List ℕ)). first ∷ ws) two ∙ ap (λ (ws : List (List ℕ)). first ∷ second ∷ ws) third.2) in
    ap are_two words

pub no_turn : (words : List (List ℕ)) → are_two words ≡ false → turn_by words ≡ None
no_turn [] e = refl
no_turn (a ∷ []) e = refl
no_turn (a ∷ b ∷ []) e = absurd cc
no_turn (a ∷ b ∷ c ∷ words) e = refl

pub no_task : (name : List ℕ) (words : List (List ℕ)) → are_two words ≡ false → task_by (name ∷ words) ≡ None
no_task name [] e = refl
no_task name (a ∷ []) e = refl
no_task name (a ∷ b ∷ []) e = absurd cc
no_task name (a ∷ b ∷ c ∷ words) e = refl
