-- Single steps of readers, and single tokens.
use Rattle.std.proofs.Common.{◌≡◌, ℕ, Bool, true, false, cond, List, [], ◌∷◌, Some, Ok, Err, refl, sym, ap, ◌∙◌, ◌⊎◌, inl, inr}
use Rattle.std.specs.Str.{bytes_eq}
use Rattle.std.proofs.lemmas.Slice.Eq.{bytes_eq-Decides}
use Rattle.py_tokens.specs.declared.token.Token.{Token}
use Rattle.py_tokens.specs.declared.token.Tok.{Tok}
use Rattle.py_tokens.specs.declared.token.Tok.TheVariants as tok
use Rattle.py_tokens.specs.declared.word.Word.{Word}
use Rattle.py_tokens.specs.declared.operator.Op.{Op}
use Rattle.py_tokens.specs.Word as words
use Rattle.py_tokens.specs.Operator as ops
use Rattle.py_tokens.proofs.Words.{one_word}
use Rattle.py_tokens.specs.declared.operator.Operator.TheVariants as operators
use Rattle.py_tokens.proofs.Operators.{one_operator}
use Rattle.py_expressions.specs.declared.cursor.Mark.{Mark}
use Rattle.py_expressions.specs.declared.cursor.Mark.TheVariants as mark
use Rattle.py_expressions.specs.Input.{Input, Place, at, Outcome, Parser, and_then, kind_at, is_mark, sees, sees_at, after, expect, next, name, name_by}
use Rattle.py_expressions.specs.Laws.{input, Found}

-- ---- outcomes

abbrev pub done : {A : Type 0} → A → Input → Outcome A
done x j = Ok (x, j)

abbrev pub stopped : {A : Type 0} → ℕ → Outcome A
stopped left = Err left

pub bind_ok : {A B : Type 0} (o : Outcome A) (f : A → Parser B) (y : B) (m : Input) → and_then o f ≡ done y m → (x : A) × (j : Input) × (o ≡ done x j) × (f x j ≡ done y m)
bind_ok (Ok p) f y m e = (p.0, p.1, refl, e)
bind_ok (Err d) f y m e = absurd cc

pub bind_err : {A B : Type 0} (o : Outcome A) (f : A → Parser B) (d : ℕ) → and_then o f ≡ stopped d → (o ≡ stopped d) ⊎ ((x : A) × (j : Input) × (o ≡ done x j) × (f x j ≡ stopped d))
bind_err (Ok p) f d e = inr (p.0, p.1, refl, e)
bind_err (Err c) f d e = inl (let h : c ≡ d = cc in ap (λ q. Err q) h)

pub done_is : {A : Type 0} (x y : A) (i j : Input) → done x i ≡ done y j → (x ≡ y) × (i ≡ j)
done_is x y i j e = let p : (x, i) ≡ (y, j) = cc in (ap (λ (q : _ × Input). q.0) p, ap (λ (q : _ × Input). q.1) p)

pub no_err : {A : Type 0} (d : ℕ) (y : A) (j : Input) → (let r : Outcome A = stopped d in r ≡ done y j) → ⊥
no_err d y j e = cc

pub no_ok : {A : Type 0} (x : A) (j : Input) (d : ℕ) → done x j ≡ stopped d → ⊥
no_ok x j d e = cc

pub err_is : {A : Type 0} (c d : ℕ) → (let r : Outcome A = stopped c in r ≡ stopped d) → c ≡ d
err_is c d e = cc

-- which way a test went
pub chosen : {A : Type 0} (b : Bool) (p q : Parser A) (i : Input) (o : Outcome A) → cond b p q i ≡ o → ((b ≡ true) × (p i ≡ o)) ⊎ ((b ≡ false) × (q i ≡ o))
chosen true p q i o e = inl (refl, e)
chosen false p q i o e = inr (refl, e)

-- ---- tokens without a value

-- the token that a mark is
abbrev pub tok_of : Mark → Tok
tok_of (mark.Word w) = tok.Word w
tok_of (mark.Op o) = tok.Op o
tok_of mark.Newline = tok.Newline
tok_of mark.Indent = tok.Indent
tok_of mark.Dedent = tok.Dedent
tok_of mark.End = tok.End

one_op : (a b : Op) → ops.spelling a ≡ ops.spelling b → a ≡ b
one_op a b e = let h : operators.Op a ≡ operators.Op b = one_operator (operators.Op a) (operators.Op b) (ops.spelling b) (sym e) refl in cc

same_word : (a b : Word) → bytes_eq (words.spelling a) (words.spelling b) ≡ true → a ≡ b
same_word a b e = one_word a b ((bytes_eq-Decides (words.spelling a) (words.spelling b)).0 e)

same_op : (a b : Op) → bytes_eq (ops.spelling a) (ops.spelling b) ≡ true → a ≡ b
same_op a b e = one_op a b ((bytes_eq-Decides (ops.spelling a) (ops.spelling b)).0 e)

pub mark_is : (m : Mark) (kind : Tok) → is_mark m kind ≡ true → kind ≡ tok_of m
mark_is (mark.Word a) (tok.Word b) e = ap tok.Word (sym (same_word a b e))
mark_is (mark.Op a) (tok.Op b) e = ap tok.Op (sym (same_op a b e))
mark_is mark.Newline tok.Newline e = refl
mark_is mark.Indent tok.Indent e = refl
mark_is mark.Dedent tok.Dedent e = refl
mark_is mark.End tok.End e = refl
mark_is _ _ e = absurd cc

pub sees_is : (m : Mark) (i : Input) → sees m i ≡ true → (l : Place) × (i.ahead ≡ at l (tok_of m) ∷ (next i).ahead)
unfolding sees
sees_is m i e = go i.ahead e
  where
    go : (ts : List Token) → sees_at m ts ≡ true → (l : Place) × (ts ≡ at l (tok_of m) ∷ (next (input ts 0)).ahead)
    go [] e = absurd cc
    go (t ∷ ts) e = let l : Place = record { at = t.at; end = t.end; line = t.line } in (l, ap (λ q. at l q ∷ ts) (mark_is m t.kind e))

pub after_true : (m : Mark) (i : Input) → sees m i ≡ true → after m i ≡ next i
unfolding after
after_true m i e = rw e refl

pub after_false : (m : Mark) (i : Input) → sees m i ≡ false → after m i ≡ i
unfolding after
after_false m i e = rw e refl

pub after_front : (m : Mark) (i : Input) → (after m i).front ≡ i.front
unfolding after
after_front m i = go (sees m i)
  where
    go : (b : Bool) → (let q : Input = cond b (next i) i in q.front ≡ i.front)
    go true = refl
    go false = refl

pub expect_ok : (m : Mark) (i j : Input) (u : Unit {0}) → expect m i ≡ done u j → (l : Place) × (i.ahead ≡ at l (tok_of m) ∷ j.ahead) × (i.front ≡ j.front)
unfolding expect
expect_ok m i j u e = go (sees m i) refl e
  where
    go : (b : Bool) → sees m i ≡ b → cond b (done tt (next i)) (stopped i.front) ≡ done u j → (l : Place) × (i.ahead ≡ at l (tok_of m) ∷ j.ahead) × (i.front ≡ j.front)
    go true is e = let p = done_is tt u (next i) j e in let s = sees_is m i is in (s.0, s.1 ∙ ap (λ (q : Input). at s.0 (tok_of m) ∷ q.ahead) p.1, ap (λ (q : Input). q.front) p.1)
    go false is e = absurd (no_err i.front u j e)

-- a mark that was taken
pub taken : (m : Mark) (i : Input) → sees m i ≡ true → (l : Place) × (i.ahead ≡ at l (tok_of m) ∷ (after m i).ahead) × (i.front ≡ (after m i).front)
taken m i e =
    let s = sees_is m i e in
    let a = after_true m i e in
    (s.0, s.1 ∙ ap (λ (q : Input). at s.0 (tok_of m) ∷ q.ahead) (sym a), ap (λ (q : Input). q.front) (sym a))

pub name_sound : (i j : Input) (text : List ℕ) → name i ≡ done text j → (l : Place) × (i.ahead ≡ at l (tok.Name text) ∷ j.ahead) × (i.front ≡ j.front)
unfolding name
name_sound i j text e = go i.ahead e
  where
    by : (kind : Tok) (t : Token) (ts : List Token) → t.kind ≡ kind → name_by kind (input (t ∷ ts) i.front) ≡ done text j → (l : Place) × (t ∷ ts ≡ at l (tok.Name text) ∷ j.ahead) × (i.front ≡ j.front)
    by (tok.Name found) t ts is e =
        let l : Place = record { at = t.at; end = t.end; line = t.line } in
        let d = done_is found text (input ts i.front) j e in
        (l, ap (λ q. at l q ∷ ts) (is ∙ ap tok.Name d.0) ∙ ap (λ (q : Input). at l (tok.Name text) ∷ q.ahead) d.1, ap (λ (q : Input). q.front) d.1)
    by _ t ts is e = absurd (no_err i.front text j e)

    go : (ts : List Token) → name_by (kind_at ts) (input ts i.front) ≡ done text j → (l : Place) × (ts ≡ at l (tok.Name text) ∷ j.ahead) × (i.front ≡ j.front)
    go [] e = absurd (no_err i.front text j e)
    go (t ∷ ts) e = by t.kind t ts refl e

-- ---- readings

-- what a step gave, named anew
pub named_anew : {C A : Type 0} (text : C → List Token → List Token) (tree : C → A) (i : Input) (x y : A) (j m : Input) → done x j ≡ done y m → Found text tree i x j → Found text tree i y m
named_anew text tree i x y j m e f =
    let p = done_is x y j m e in
    record { reading = f.reading; spelled = f.spelled ∙ ap (λ (q : Input). text f.reading q.ahead) p.1; is = f.is ∙ p.0; kept = f.kept ∙ ap (λ (q : Input). q.front) p.1 }
