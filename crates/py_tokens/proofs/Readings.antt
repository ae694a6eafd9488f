-- A source is read one way.
use Rattle.std.proofs.Common.{◌≡◌, ◌⊎◌, ℕ, ◌+◌, ◌≤◌, List, [], ◌∷◌, ◌++◌, length, Result, Ok, Err, MatchResult, Vec, Global, inl, inr, refl, sym, ap, ◌∙◌, subst, arith}
use Rattle.mpy_base.specs.declared.limits.TheConstants.{MAX_SOURCE_BYTES}
use Rattle.std.proofs.lemmas.List.{append-nil}
use Rattle.mpy_base.specs.declared.refused.Refused.{Refused}
use Rattle.mpy_base.specs.declared.refused.Refused.TheVariants as refused
use Rattle.mpy_base.specs.declared.source.SourceFault.{SourceFault}
use Rattle.py_tokens.specs.declared.lexeme.Lexeme.{Lexeme}
use Rattle.py_tokens.specs.declared.lexeme.LexemeFault.{LexemeFault}
use Rattle.py_tokens.specs.declared.token.Token.{Token}
use Rattle.py_tokens.specs.Lexeme.{Answer, IsFront}
use Rattle.py_tokens.specs.Lines.{Piece, Place, Tokens, tokens_of_pieces}
use Rattle.py_tokens.specs.Tokens.{fault_at, place_at, Stops, AreInFront, IsReading, IsRefused, IsTokens, IsFault, IsFirstFault, Says}
use Rattle.py_tokens.proofs.Going.{piece_of}
use Rattle.py_tokens.proofs.Fronts.{one_front, no_front, behind_same}

abbrev Stop : Type 0
Stop = Result Place SourceFault

same_piece : (p q : Piece) → p.lexeme ≡ q.lexeme → p.text ≡ q.text → p.at ≡ q.at → p.line ≡ q.line → p ≡ q
same_piece p q a b c d =
    ap (λ (z : Lexeme). piece_of z p.text p.at p.line) a
    ∙ (ap (λ (z : List ℕ). piece_of q.lexeme z p.at p.line) b
    ∙ (ap (λ (z : ℕ). piece_of q.lexeme q.text z p.line) c ∙ ap (λ (z : ℕ). piece_of q.lexeme q.text q.at z) d))

one_stop : (opt : ℕ) (source : List ℕ) (end : ℕ) (rest : List ℕ) (s t : Stop) → Stops opt source end rest s → Stops opt source end rest t → s ≡ t
one_stop opt source end rest (Ok s) (Ok t) x y = let same : s ≡ t = x.1 ∙ sym y.1 in cc
one_stop opt source end rest (Ok s) (Err t) x y = absurd (no_front opt (Err y.0) (subst (λ z. IsFront opt z (Err y.0)) x.0 y.1))
one_stop opt source end rest (Err s) (Ok t) x y = absurd (no_front opt (Err x.0) (subst (λ z. IsFront opt z (Err x.0)) y.0 x.1))
one_stop opt source end rest (Err s) (Err t) x y =
    let answers = one_front opt rest (Err x.0) (Err y.0) x.1 y.1 in
    let same : x.0 ≡ y.0 = cc in
    let faults : s ≡ t = x.2 ∙ (ap (λ (f : LexemeFault). fault_at source end f) same ∙ sym y.2) in
    cc

stop_or_piece : (opt : ℕ) (source : List ℕ) (end : ℕ) (rest : List ℕ) (s : Stop) (lexeme : Lexeme) (text : List ℕ) → Stops opt source end rest s → IsFront opt rest (Ok (lexeme, text)) → ⊥
stop_or_piece opt source end rest (Ok s) lexeme text x y = no_front opt (Ok (lexeme, text)) (subst (λ z. IsFront opt z (Ok (lexeme, text))) x.0 y)
stop_or_piece opt source end rest (Err s) lexeme text x y = let e = one_front opt rest (Err x.0) (Ok (lexeme, text)) x.1 y in absurd cc

same_ok : (a b : Lexeme × List ℕ) (x y : Answer) → x ≡ Ok a → y ≡ Ok b → x ≡ y → a ≡ b
same_ok a b x y e f same = cc

-- of two lists of pieces in front of the same bytes one goes on where the other ends
record GoesOn (opt : ℕ) (source : List ℕ) (ps : List Piece) (a : ℕ) (x : List ℕ) (qs : List Piece) (b : ℕ) (y : List ℕ) : Type 0 where
  more : List Piece
  list_is : qs ≡ ps ++ more
  pieces_are : AreInFront opt source a more b y x

go_on : (opt : ℕ) (source : List ℕ) (p q : Piece) (ps : List Piece) (a : ℕ) (x : List ℕ) (qs : List Piece) (b : ℕ) (y : List ℕ) → q ≡ p → GoesOn opt source ps a x qs b y → GoesOn opt source (p ∷ ps) a x (q ∷ qs) b y
go_on opt source p q ps a x qs b y same on = record {
  more = on.more;
  list_is = ap (λ z. z ∷ qs) same ∙ ap (λ z. p ∷ z) on.list_is;
  pieces_are = on.pieces_are;
}

either : (opt : ℕ) (source : List ℕ) (p q : Piece) (ps : List Piece) (a : ℕ) (x : List ℕ) (qs : List Piece) (b : ℕ) (y : List ℕ) → p ≡ q → GoesOn opt source ps a x qs b y ⊎ GoesOn opt source qs b y ps a x → GoesOn opt source (p ∷ ps) a x (q ∷ qs) b y ⊎ GoesOn opt source (q ∷ qs) b y (p ∷ ps) a x
either opt source p q ps a x qs b y same (inl on) = inl (go_on opt source p q ps a x qs b y (sym same) on)
either opt source p q ps a x qs b y same (inr on) = inr (go_on opt source q p qs b y ps a x same on)

moved : (opt : ℕ) (source : List ℕ) (at end : ℕ) (x bytes : List ℕ) (qs : List Piece) (b : ℕ) (y : List ℕ) → end ≡ at → bytes ≡ x → AreInFront opt source at qs b y bytes → AreInFront opt source end qs b y x
moved opt source at end x bytes qs b y e f are = subst (λ z. AreInFront opt source z qs b y x) (sym e) (subst (λ z. AreInFront opt source at qs b y z) f are)

one_way : (opt : ℕ) (source : List ℕ) (at : ℕ) (ps : List Piece) (a : ℕ) (x : List ℕ) (qs : List Piece) (b : ℕ) (y : List ℕ) (bytes : List ℕ) → AreInFront opt source at ps a x bytes → AreInFront opt source at qs b y bytes → GoesOn opt source ps a x qs b y ⊎ GoesOn opt source qs b y ps a x
one_way opt source at [] a x qs b y bytes p q = inl (record { more = qs; list_is = refl; pieces_are = moved opt source at a x bytes qs b y p.0 p.1 q })
one_way opt source at (r ∷ ps) a x [] b y bytes p q = inr (record { more = r ∷ ps; list_is = refl; pieces_are = moved opt source at b y bytes (r ∷ ps) a x q.0 q.1 p })
one_way opt source at (r ∷ ps) a x (s ∷ qs) b y bytes p q =
    let answers = one_front opt bytes (Ok (r.lexeme, r.text)) (Ok (s.lexeme, s.text)) p.2 q.2 in
    let pair = same_ok (r.lexeme, r.text) (s.lexeme, s.text) (Ok (r.lexeme, r.text)) (Ok (s.lexeme, s.text)) refl refl answers in
    let lexeme : r.lexeme ≡ s.lexeme = ap (λ (z : Lexeme × List ℕ). z.0) pair in
    let text : r.text ≡ s.text = ap (λ (z : Lexeme × List ℕ). z.1) pair in
    let rest = behind_same r.text p.3 s.text q.3 text (sym p.4 ∙ q.4) in
    let again = subst (λ z. AreInFront opt source (at + length z) ps a x p.3) text p.5 in
    let there = subst (λ z. AreInFront opt source (at + length s.text) ps a x z) rest again in
    either opt source r s ps a x qs b y (same_piece r s lexeme text (p.0 ∙ sym q.0) (p.1 ∙ sym q.1)) (one_way opt source (at + length s.text) ps a x qs b y q.3 there q.5)

-- nothing goes on where a reading stops
ends_there : (opt : ℕ) (source : List ℕ) (a : ℕ) (x : List ℕ) (stop : Stop) (more : List Piece) (b : ℕ) (y : List ℕ) → Stops opt source a x stop → AreInFront opt source a more b y x → (more ≡ []) × (b ≡ a) × (x ≡ y)
ends_there opt source a x stop [] b y stops are = (refl, are.0, are.1)
ends_there opt source a x stop (p ∷ more) b y stops are = absurd (stop_or_piece opt source a x stop p.lexeme p.text stops are.2)

no_more : (ps qs more : List Piece) → qs ≡ ps ++ more → more ≡ [] → qs ≡ ps
no_more ps qs more e none = e ∙ (ap (λ z. ps ++ z) none ∙ append-nil ps)

same_end : (opt : ℕ) (source : List ℕ) (a b : Tokens) (x : IsReading opt source a) (y : IsReading opt source b) → GoesOn opt source x.pieces x.end x.rest y.pieces y.end y.rest → a ≡ b
same_end opt source a b x y on =
    let end = ends_there opt source x.end x.rest x.stop on.more y.end y.rest x.stops on.pieces_are in
    let pieces = no_more x.pieces y.pieces on.more on.list_is end.0 in
    let there = subst (λ z. Stops opt source z y.rest y.stop) end.1 y.stops in
    let rest = subst (λ z. Stops opt source x.end z y.stop) (sym end.2) there in
    let stop = one_stop opt source x.end x.rest x.stop y.stop x.stops rest in
    x.answer_is ∙ (ap (λ (z : List Piece). tokens_of_pieces z x.stop) (sym pieces) ∙ (ap (λ (z : Stop). tokens_of_pieces y.pieces z) stop ∙ sym y.answer_is))

one_reading : (opt : ℕ) (source : List ℕ) (a b : Tokens) (x : IsReading opt source a) (y : IsReading opt source b) → GoesOn opt source x.pieces x.end x.rest y.pieces y.end y.rest ⊎ GoesOn opt source y.pieces y.end y.rest x.pieces x.end x.rest → a ≡ b
one_reading opt source a b x y (inl on) = same_end opt source a b x y on
one_reading opt source a b x y (inr on) = sym (same_end opt source b a y x on)

one_answer : (opt : ℕ) (source : List ℕ) (a b : Tokens) → IsReading opt source a → IsReading opt source b → a ≡ b
one_answer opt source a b x y =
    one_reading opt source a b x y (one_way opt source 0 x.pieces x.end x.rest y.pieces y.end y.rest source x.pieces_are y.pieces_are)

read_refused : (opt : ℕ) (source : List ℕ) (a : Tokens) (fault : SourceFault) (x : IsReading opt source a) (y : IsRefused opt source fault) → GoesOn opt source x.pieces x.end x.rest y.pieces y.end y.rest ⊎ GoesOn opt source y.pieces y.end y.rest x.pieces x.end x.rest → a ≡ Err fault
read_refused opt source a fault x y (inl on) =
    let end = ends_there opt source x.end x.rest x.stop on.more y.end y.rest x.stops on.pieces_are in
    let pieces = no_more x.pieces y.pieces on.more on.list_is end.0 in
    x.answer_is ∙ (ap (λ (z : List Piece). tokens_of_pieces z x.stop) (sym pieces ∙ sym (append-nil y.pieces)) ∙ y.refused [] x.stop)
read_refused opt source a fault x y (inr on) =
    x.answer_is ∙ (ap (λ (z : List Piece). tokens_of_pieces z x.stop) on.list_is ∙ y.refused on.more x.stop)

reading_refused : (opt : ℕ) (source : List ℕ) (a : Tokens) (fault : SourceFault) → IsReading opt source a → IsRefused opt source fault → a ≡ Err fault
reading_refused opt source a fault x y =
    read_refused opt source a fault x y (one_way opt source 0 x.pieces x.end x.rest y.pieces y.end y.rest source x.pieces_are y.pieces_are)

abbrev error : SourceFault → Tokens
error fault = Err fault

longer_refused : (opt : ℕ) (source : List ℕ) (f g : SourceFault) (x : IsRefused opt source f) (y : IsRefused opt source g) → GoesOn opt source x.pieces x.end x.rest y.pieces y.end y.rest → error f ≡ error g
longer_refused opt source f g x y on =
    let stop : Stop = Ok (place_at source 0) in
    sym (x.refused on.more stop) ∙ (ap (λ (z : List Piece). tokens_of_pieces z stop) (sym on.list_is ∙ sym (append-nil y.pieces)) ∙ y.refused [] stop)

both_refused : (opt : ℕ) (source : List ℕ) (f g : SourceFault) (x : IsRefused opt source f) (y : IsRefused opt source g) → GoesOn opt source x.pieces x.end x.rest y.pieces y.end y.rest ⊎ GoesOn opt source y.pieces y.end y.rest x.pieces x.end x.rest → error f ≡ error g
both_refused opt source f g x y (inl on) = longer_refused opt source f g x y on
both_refused opt source f g x y (inr on) = sym (longer_refused opt source g f y x on)

faults_same : (opt : ℕ) (source : List ℕ) (f g : SourceFault) → IsFault opt source f → IsFault opt source g → error f ≡ error g
faults_same opt source f g (inl x) (inl y) = one_answer opt source (Err f) (Err g) x y
faults_same opt source f g (inl x) (inr y) = reading_refused opt source (Err f) g x y
faults_same opt source f g (inr x) (inl y) = sym (reading_refused opt source (Err g) f y x)
faults_same opt source f g (inr x) (inr y) = both_refused opt source f g x y (one_way opt source 0 x.pieces x.end x.rest y.pieces y.end y.rest source x.pieces_are y.pieces_are)

not_both : (opt : ℕ) (source : List ℕ) (list : List Token) (fault : SourceFault) → IsReading opt source (Ok list) → IsFault opt source fault → ⊥
not_both opt source list fault x (inl y) = let e = one_answer opt source (Ok list) (Err fault) x y in absurd cc
not_both opt source list fault x (inr y) = let e = reading_refused opt source (Ok list) fault x y in absurd cc

pub one_list : (opt : ℕ) (source : List ℕ) (first second : List Token) → IsTokens opt source first → IsTokens opt source second → first ≡ second
one_list opt source first second x y = let e = one_answer opt source (Ok first) (Ok second) x.reading y.reading in cc

pub one_fault : (opt : ℕ) (source : List ℕ) (first second : SourceFault) → IsFirstFault opt source first → IsFirstFault opt source second → first ≡ second
one_fault opt source first second (inl x) (inl y) = x.1 ∙ sym y.1
one_fault opt source first second (inl x) (inr y) = absurd (omega (arith, x.0, y.0))
one_fault opt source first second (inr x) (inl y) = absurd (omega (arith, x.0, y.0))
one_fault opt source first second (inr x) (inr y) = let e = faults_same opt source first second x.1 y.1 in cc

pub apart : (opt : ℕ) (source : List ℕ) (list : List Token) (fault : SourceFault) → IsTokens opt source list → IsFirstFault opt source fault → ⊥
apart opt source list fault x (inl y) = absurd (omega (arith, x.short, y.0))
apart opt source list fault x (inr y) = not_both opt source list fault x.reading y.1

-- what is answered
-- ================

abbrev Said : Type 0
Said = Result (Vec Token Global) (Refused SourceFault)

pub only_tokens : (opt : ℕ) (source : List ℕ) (r : Said) → Says opt source r → (list : List Token) → IsTokens opt source list → MatchResult r (λ tokens. tokens.items ≡ list) (λ error. error ≡ refused.NoMemory)
only_tokens opt source (Ok tokens) says list is = let e = one_answer opt source (Ok tokens.items) (Ok list) says is.reading in cc
only_tokens opt source (Err (refused.Fault its)) says list is = absurd (not_both opt source list its is.reading says)
only_tokens opt source (Err refused.NoMemory) says list is = refl

pub only_fault : (opt : ℕ) (source : List ℕ) (r : Said) → Says opt source r → length source ≤ MAX_SOURCE_BYTES → (fault : SourceFault) → IsFirstFault opt source fault → (r ≡ Err (refused.Fault fault)) ⊎ (r ≡ Err refused.NoMemory)
only_fault opt source r says short fault (inl is) = absurd (omega (arith, is.0, short))
only_fault opt source (Ok tokens) says short fault (inr is) = absurd (not_both opt source tokens.items fault says is.1)
only_fault opt source (Err (refused.Fault its)) says short fault (inr is) = let e = faults_same opt source its fault says is.1 in inl cc
only_fault opt source (Err refused.NoMemory) says short fault (inr is) = inr refl
