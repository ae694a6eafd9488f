-- Items with commas between.
use Rattle.std.proofs.Common.{◌≡◌, ℕ, zero, suc, ◌≤◌, ◌<◌, inl, inr, Bool, true, false, cond, List, [], ◌∷◌, ◌++◌, length, Ok, refl, sym, ap, ◌∙◌, arith, append_assoc}
use Rattle.py_tokens.specs.declared.token.Token.{Token}
use Rattle.py_tokens.specs.declared.token.Tok.TheVariants as tok
use Rattle.py_tokens.specs.declared.word.Word.TheVariants as word
use Rattle.py_tokens.specs.declared.operator.Op.TheVariants as op
use Rattle.py_expressions.specs.declared.cursor.Mark.TheVariants as mark
use Rattle.py_expressions.specs.Input.{Input, Place, at, Parser, ◌>>=◌, sees, sees_at, after}
use Rattle.py_expressions.specs.Follow.{rank}
use Rattle.py_expressions.specs.Laws.{input, Sound, Fails}
use Rattle.py_expressions.proofs.Steps.{done, bind_ok, no_err, chosen, taken, after_false, named_anew}
use Rattle.py_expressions.proofs.Faults.{Keeps, fails_bind, fails_pure, fails_refuse, fails_if, fails_eat}
use Rattle.py_statements.specs.Grammar.{Series, last_comma, comma, series_text, series_list}
use Rattle.py_statements.specs.Reading.{series, series_from, closes, is_closed}
use Rattle.py_statements.proofs.Ends.{no_comma_at}

-- ---- one step

module _ {A : Type 0} (item : Parser A) (bracketed : Bool) where
  series_end : (n : ℕ) (found : List A) (i : Input) (x : A) (rest : List Token) (front : ℕ) → item i ≡ Ok (x, input rest front) → sees_at (mark.Op op.Comma) rest ≡ false
      → series_from item bracketed (suc n) found i ≡ Ok (found ++ x ∷ [], input rest front)
  unfolding series_from after sees
  series_end n found i x rest front h ends = rw (h, ends) refl

series_closed : {A : Type 0} (item : Parser A) (n : ℕ) (found : List A) (i : Input) (x : A) (l : Place) (rest : List Token) (front : ℕ) → item i ≡ Ok (x, input (at l (tok.Op op.Comma) ∷ rest) front) → sees_at (mark.Op op.CloseParen) rest ≡ true
    → series_from item true (suc n) found i ≡ Ok (found ++ x ∷ [], input rest front)
unfolding series_from after sees
series_closed item n found i x l rest front h ends = rw (h, ends) refl

series_then : {A : Type 0} (item : Parser A) (bracketed : Bool) (n : ℕ) (found : List A) (i : Input) (x : A) (l : Place) (ts : List Token) (front : ℕ) → item i ≡ Ok (x, input (at l (tok.Op op.Comma) ∷ ts) front) → sees_at (mark.Op op.CloseParen) ts ≡ false
    → series_from item bracketed (suc n) found i ≡ series_from item bracketed n (found ++ x ∷ []) (input ts front)
unfolding series_from after sees
series_then item true n found i x l ts front h goes = rw (h, goes) refl
series_then item false n found i x l ts front h goes = rw h refl

-- ---- what the grammar reads is read

-- an item may end before this
abbrev pub Behind : List Token → Type 0
Behind rest = (13 ≤ rank rest) × (sees_at (mark.Word word.As) rest ≡ false)

comma_behind : (l : Place) (ts : List Token) → Behind (at l (tok.Op op.Comma) ∷ ts)
comma_behind l ts = (omega arith, refl)

module _ {Item A : Type 0} (text : Item → List Token → List Token) (tree : Item → A) (item : Parser A)
    (complete : (x : Item) (rest : List Token) (front : ℕ) → Behind rest → item (input (text x rest) front) ≡ Ok (tree x, input rest front))
    (starts : (x : Item) (rest : List Token) → sees_at (mark.Op op.CloseParen) (text x rest) ≡ false)
    (grows : (x : Item) (rest : List Token) → length rest < length (text x rest)) where
  series_starts : {bracketed : Bool} (xs : Series Item bracketed) (rest : List Token) → sees_at (mark.Op op.CloseParen) (series_text text xs rest) ≡ false
  series_starts (Series.last x) rest = starts x rest
  series_starts (last_comma x l) rest = starts x (at l (tok.Op op.Comma) ∷ rest)
  series_starts (comma x l xs) rest = starts x (at l (tok.Op op.Comma) ∷ series_text text xs rest)

  from_complete : {bracketed : Bool} (xs : Series Item bracketed) (n : ℕ) (found : List A) (rest : List Token) (front : ℕ) → length (series_text text xs rest) ≤ n → 14 ≤ rank rest → sees_at (mark.Word word.As) rest ≡ false
      → (bracketed ≡ true → sees_at (mark.Op op.CloseParen) rest ≡ true)
      → series_from item bracketed n found (input (series_text text xs rest) front) ≡ Ok (found ++ series_list tree xs, input rest front)
  from_complete (Series.last x) zero found rest front le h free closed = let g = grows x rest in absurd (omega arith)
  from_complete {bracketed = bracketed} (Series.last x) (suc n) found rest front le h free closed =
      series_end item bracketed n found (input (text x rest) front) (tree x) rest front (complete x rest front (omega arith, free)) (no_comma_at rest h)
  from_complete (last_comma x l) zero found rest front le h free closed = let g = grows x (at l (tok.Op op.Comma) ∷ rest) in absurd (omega arith)
  from_complete (last_comma x l) (suc n) found rest front le h free closed =
      series_closed item n found (input (text x (at l (tok.Op op.Comma) ∷ rest)) front) (tree x) l rest front (complete x (at l (tok.Op op.Comma) ∷ rest) front (comma_behind l rest)) (closed refl)
  from_complete (comma x l xs) zero found rest front le h free closed = let g = grows x (at l (tok.Op op.Comma) ∷ series_text text xs rest) in absurd (omega arith)
  from_complete {bracketed = bracketed} (comma x l xs) (suc n) found rest front le h free closed =
      let more = series_text text xs rest in
      let g = grows x (at l (tok.Op op.Comma) ∷ series_text text xs rest) in
      series_then item bracketed n found (input (text x (at l (tok.Op op.Comma) ∷ more)) front) (tree x) l more front (complete x (at l (tok.Op op.Comma) ∷ more) front (comma_behind l more)) (series_starts xs rest)
      ∙ from_complete xs n (found ++ tree x ∷ []) rest front (omega arith) h free closed
      ∙ ap (λ (ys : List A). Ok (ys, input rest front)) (append_assoc found (tree x ∷ []) (series_list tree xs))

  pub series_complete : {bracketed : Bool} (xs : Series Item bracketed) (rest : List Token) (front : ℕ) → 14 ≤ rank rest → sees_at (mark.Word word.As) rest ≡ false → (bracketed ≡ true → sees_at (mark.Op op.CloseParen) rest ≡ true)
      → series item bracketed (input (series_text text xs rest) front) ≡ Ok (series_list tree xs, input rest front)
  unfolding series
  series_complete xs rest front h free closed = from_complete xs (length (series_text text xs rest)) [] rest front (omega arith) h free closed

-- ---- what is read is read by the grammar

-- the last item and the comma behind it
record Closing {Item A : Type 0} (text : Item → List Token → List Token) (tree : Item → A) (bracketed : Bool) (x : Item) (l : Place) : Type 0 where
  xs : Series Item bracketed
  spelled : (rest : List Token) → series_text text xs rest ≡ text x (at l (tok.Op op.Comma) ∷ rest)
  is : series_list tree xs ≡ tree x ∷ []

closing : {Item A : Type 0} (text : Item → List Token → List Token) (tree : Item → A) (bracketed b : Bool) (x : Item) (l : Place) → cond bracketed b false ≡ true → Closing text tree bracketed x l
closing text tree true b x l e = record { xs = last_comma x l; spelled = λ rest. refl; is = refl }
closing text tree false b x l e = absurd cc

module _ {Item A : Type 0} (text : Item → List Token → List Token) (tree : Item → A) (item : Parser A) (sound : Sound text tree item) (bracketed : Bool) where
  from_sound : (n : ℕ) (found : List A) → Sound (series_text text) (λ (xs : Series Item bracketed). found ++ series_list tree xs) (series_from item bracketed n found)
  unfolding series_from
  from_sound zero found i x j e = absurd (no_err i.front x j e)
  from_sound (suc n) found i x j e =
      let b = bind_ok (item i) _ x j e in
      let s = sound i b.0 b.1 b.2 in
      let k = after (mark.Op op.Comma) b.1 in
      elim (chosen (sees (mark.Op op.Comma) b.1) _ _ (after (mark.Op op.Comma) b.1) (done x j) b.3) [
        | inl w ↦
            let c = taken (mark.Op op.Comma) b.1 w.0 in
            let to_comma : i.ahead ≡ text s.reading (at c.0 (tok.Op op.Comma) ∷ (after (mark.Op op.Comma) b.1).ahead) = s.spelled ∙ ap (text s.reading) c.1 in
            elim (chosen (is_closed bracketed (after (mark.Op op.Comma) b.1)) _ _ (after (mark.Op op.Comma) b.1) (done x j) w.1) [
              | inl v ↦
                  let q = closing text tree bracketed (sees (mark.Op op.CloseParen) (after (mark.Op op.Comma) b.1)) s.reading c.0 v.0 in
                  named_anew (series_text text) (λ (xs : Series Item bracketed). found ++ series_list tree xs) i (found ++ b.0 ∷ []) x (after (mark.Op op.Comma) b.1) j v.1
                  (record { reading = q.xs; spelled = to_comma ∙ sym (q.spelled (after (mark.Op op.Comma) b.1).ahead); is = ap (λ ys. found ++ ys) (q.is ∙ ap (λ y. y ∷ []) s.is); kept = s.kept ∙ c.2 })
              | inr v ↦
                  let f = from_sound n (found ++ b.0 ∷ []) (after (mark.Op op.Comma) b.1) x j v.1 in
                  record {
                    reading = comma s.reading c.0 f.reading;
                    spelled = to_comma ∙ ap (λ q. text s.reading (at c.0 (tok.Op op.Comma) ∷ q)) f.spelled;
                    is = ap (λ q. found ++ q ∷ series_list tree f.reading) s.is ∙ sym (append_assoc found (b.0 ∷ []) (series_list tree f.reading)) ∙ f.is;
                    kept = s.kept ∙ c.2 ∙ f.kept;
                  }
            ]
        | inr w ↦
            let a = after_false (mark.Op op.Comma) b.1 w.0 in
            named_anew (series_text text) (λ (xs : Series Item bracketed). found ++ series_list tree xs) i (found ++ b.0 ∷ []) x (after (mark.Op op.Comma) b.1) j w.1
            (record { reading = Series.last s.reading; spelled = s.spelled ∙ ap (λ (m : Input). text s.reading m.ahead) (sym a); is = ap (λ q. found ++ q ∷ []) s.is; kept = s.kept ∙ ap (λ (m : Input). m.front) (sym a) })
      ]

  pub series_sound : Sound (series_text text) (λ (xs : Series Item bracketed). series_list tree xs) (series item bracketed)
  unfolding series
  series_sound i x j e = let f = from_sound (length i.ahead) [] i x j e in record { reading = f.reading; spelled = f.spelled; is = f.is; kept = f.kept }

-- ---- where it stops

fails_closes : {B : Type 0} (bracketed : Bool) (f : Bool → Parser B) → ((b : Bool) → Fails (f b)) → Fails (closes bracketed >>= f)
fails_closes bracketed f h i d e = h (is_closed bracketed i) i d e

module _ {A : Type 0} (item : Parser A) (bracketed : Bool) (kp : Keeps item) (fp : Fails item) where
  from_fails : (n : ℕ) (found : List A) → Fails (series_from item bracketed n found)
  unfolding series_from
  from_fails zero found = fails_refuse
  from_fails (suc n) found = fails_bind item _ kp fp (λ x. fails_eat (mark.Op op.Comma) _ (λ c. fails_if c _ _
      (fails_closes bracketed _ (λ b. fails_if b _ _ (fails_pure (found ++ x ∷ [])) (from_fails n (found ++ x ∷ [])))) (fails_pure (found ++ x ∷ []))))

  pub series_fails : Fails (series item bracketed)
  unfolding series
  series_fails i d e = from_fails (length i.ahead) [] i d e
