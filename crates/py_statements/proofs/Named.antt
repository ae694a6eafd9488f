-- Names, with dots and `as`.
use Rattle.std.proofs.Common.{◌≡◌, ℕ, zero, suc, ◌≤◌, ◌<◌, inl, inr, Bool, true, false, List, [], ◌∷◌, ◌++◌, length, Option, Some, None, Ok, refl, sym, ap, ◌∙◌, arith, append_assoc}
use Rattle.std.proofs.lemmas.List.{append-nil}
use Rattle.py_tokens.specs.declared.token.Token.{Token}
use Rattle.py_tokens.specs.declared.token.Tok.TheVariants as tok
use Rattle.py_tokens.specs.declared.word.Word.TheVariants as word
use Rattle.py_tokens.specs.declared.operator.Op.TheVariants as op
use Rattle.py_expressions.specs.declared.cursor.Mark.TheVariants as mark
use Rattle.py_expressions.specs.Input.{Input, Place, at, sees, sees_at, after, name}
use Rattle.py_expressions.specs.Laws.{input, Sound, Fails}
use Rattle.py_expressions.proofs.Steps.{done, bind_ok, chosen, taken, after_false, name_sound, named_anew}
use Rattle.py_expressions.proofs.Faults.{Keeps, fails_bind, fails_pure, fails_if, fails_eat, name_fails, name_keeps}
use Rattle.py_statements.specs.Grammar as g
use Rattle.py_statements.specs.Grammar.{Name, Dotted, Renamed, Series, name_text, name_tree, dotted_text, dotted_tree, renamed_text, renamed_tree}
use Rattle.py_statements.specs.Reading as read
use Rattle.py_statements.specs.Reading.{dot, alias_of}
use Rattle.py_statements.proofs.Ends.{no_dot_at}
use Rattle.py_statements.proofs.Series.{Behind}

-- ---- names

pub name_reads : Sound name_text name_tree name
name_reads i x j e = let s = name_sound i j x e in record { reading = record { place = s.0; text = x }; spelled = s.1; is = refl; kept = s.2 }

pub name_read : (n : Name) (rest : List Token) (front : ℕ) → name (input (name_text n rest) front) ≡ Ok (n.text, input rest front)
unfolding name
name_read n rest front = refl

-- ---- names with dots

-- what stands behind a name: nothing, or a dot and further names

abbrev dots_text : Option (Place × Dotted) → List Token → List Token
dots_text None rest = rest
dots_text (Some p) rest = at p.0 (tok.Op op.Dot) ∷ dotted_text p.1 rest

abbrev dots_tree : Option (Place × Dotted) → List ℕ
dots_tree None = []
dots_tree (Some p) = dot ∷ dotted_tree p.1

abbrev behind : Name → Option (Place × Dotted) → Dotted
behind n None = Dotted.last n
behind n (Some p) = g.dotted n p.0 p.1

behind_text : (n : Name) (o : Option (Place × Dotted)) (rest : List Token) → dotted_text (behind n o) rest ≡ name_text n (dots_text o rest)
behind_text n None rest = refl
behind_text n (Some p) rest = refl

behind_tree : (n : Name) (o : Option (Place × Dotted)) → dotted_tree (behind n o) ≡ n.text ++ dots_tree o
behind_tree n None = sym (append-nil n.text)
behind_tree n (Some p) = refl

dots_sound : (n : ℕ) (found : List ℕ) → Sound dots_text (λ o. found ++ dots_tree o) (read.dotted_from n found)
unfolding read.dotted_from
dots_sound zero found i x j e = named_anew dots_text (λ o. found ++ dots_tree o) i found x i j e (record { reading = None; spelled = refl; is = append-nil found; kept = refl })
dots_sound (suc n) found i x j e =
    elim (chosen (sees (mark.Op op.Dot) i) _ _ (after (mark.Op op.Dot) i) (done x j) e) [
      | inl w ↦
          let c = taken (mark.Op op.Dot) i w.0 in
          let b = bind_ok (name (after (mark.Op op.Dot) i)) _ x j w.1 in
          let s = name_reads (after (mark.Op op.Dot) i) b.0 b.1 b.2 in
          let f = dots_sound n (found ++ dot ∷ b.0) b.1 x j b.3 in
          record {
            reading = Some (c.0, behind s.reading f.reading);
            spelled = c.1 ∙ ap (λ q. at c.0 (tok.Op op.Dot) ∷ q) (s.spelled ∙ ap (name_text s.reading) f.spelled ∙ sym (behind_text s.reading f.reading j.ahead));
            is = ap (λ q. found ++ dot ∷ q) (behind_tree s.reading f.reading ∙ ap (λ q. q ++ dots_tree f.reading) s.is) ∙ sym (append_assoc found (dot ∷ b.0) (dots_tree f.reading)) ∙ f.is;
            kept = c.2 ∙ s.kept ∙ f.kept;
          }
      | inr w ↦
          let a = after_false (mark.Op op.Dot) i w.0 in
          named_anew dots_text (λ o. found ++ dots_tree o) i found x (after (mark.Op op.Dot) i) j w.1
          (record { reading = None; spelled = ap (λ (q : Input). q.ahead) (sym a); is = append-nil found; kept = ap (λ (q : Input). q.front) (sym a) })
    ]

pub dotted_sound : Sound dotted_text dotted_tree read.dotted
unfolding read.dotted read.all_dotted
dotted_sound i x j e =
    let b = bind_ok (name i) _ x j e in
    let s = name_reads i b.0 b.1 b.2 in
    let f = dots_sound (length b.1.ahead) b.0 b.1 x j b.3 in
    record {
      reading = behind s.reading f.reading;
      spelled = s.spelled ∙ ap (name_text s.reading) f.spelled ∙ sym (behind_text s.reading f.reading j.ahead);
      is = behind_tree s.reading f.reading ∙ ap (λ q. q ++ dots_tree f.reading) s.is ∙ f.is;
      kept = s.kept ∙ f.kept;
    }

no_dot_left : (n : ℕ) (found : List ℕ) (rest : List Token) (front : ℕ) → sees_at (mark.Op op.Dot) rest ≡ false → read.dotted_from n found (input rest front) ≡ Ok (found, input rest front)
unfolding read.dotted_from after sees
no_dot_left zero found rest front h = refl
no_dot_left (suc n) found rest front h = rw h refl

dot_then : (n : ℕ) (found : List ℕ) (l : Place) (m : Name) (ts : List Token) (front : ℕ) → read.dotted_from (suc n) found (input (at l (tok.Op op.Dot) ∷ name_text m ts) front) ≡ read.dotted_from n (found ++ dot ∷ m.text) (input ts front)
unfolding read.dotted_from after sees name
dot_then n found l m ts front = refl

dots_complete : (d : Dotted) (l : Place) (n : ℕ) (found : List ℕ) (rest : List Token) (front : ℕ) → length (at l (tok.Op op.Dot) ∷ dotted_text d rest) ≤ n → sees_at (mark.Op op.Dot) rest ≡ false
    → read.dotted_from n found (input (at l (tok.Op op.Dot) ∷ dotted_text d rest) front) ≡ Ok (found ++ dot ∷ dotted_tree d, input rest front)
dots_complete d l zero found rest front le h = absurd (omega arith)
dots_complete (Dotted.last m) l (suc n) found rest front le h = dot_then n found l m rest front ∙ no_dot_left n (found ++ dot ∷ m.text) rest front h
dots_complete (g.dotted m r d) l (suc n) found rest front le h =
    dot_then n found l m (at r (tok.Op op.Dot) ∷ dotted_text d rest) front
    ∙ dots_complete d r n (found ++ dot ∷ m.text) rest front (omega arith) h
    ∙ ap (λ (xs : List ℕ). Ok (xs, input rest front)) (append_assoc found (dot ∷ m.text) (dot ∷ dotted_tree d))

dotted_first : (m : Name) (ts : List Token) (front : ℕ) → read.dotted (input (name_text m ts) front) ≡ read.dotted_from (length ts) m.text (input ts front)
unfolding read.dotted read.all_dotted name
dotted_first m ts front = refl

pub dotted_complete : (d : Dotted) (rest : List Token) (front : ℕ) → sees_at (mark.Op op.Dot) rest ≡ false → read.dotted (input (dotted_text d rest) front) ≡ Ok (dotted_tree d, input rest front)
dotted_complete (Dotted.last m) rest front h = dotted_first m rest front ∙ no_dot_left (length rest) m.text rest front h
dotted_complete (g.dotted m r d) rest front h =
    dotted_first m (at r (tok.Op op.Dot) ∷ dotted_text d rest) front
    ∙ dots_complete d r (length (at r (tok.Op op.Dot) ∷ dotted_text d rest)) m.text rest front (omega arith) h

-- ---- and another name

module _ {Path : Type 0} (text : Path → List Token → List Token) (tree : Path → List ℕ) (with_dots : Bool) (sound : Sound text tree (read.path with_dots)) where
  pub alias_sound : Sound (renamed_text text) (renamed_tree tree) (read.alias with_dots)
  unfolding read.alias
  alias_sound i x j e =
      let b = bind_ok (read.path with_dots i) _ x j e in
      let s = sound i b.0 b.1 b.2 in
      elim (chosen (sees (mark.Word word.As) b.1) _ _ (after (mark.Word word.As) b.1) (done x j) b.3) [
        | inl w ↦
            let c = taken (mark.Word word.As) b.1 w.0 in
            let d = bind_ok (name (after (mark.Word word.As) b.1)) _ x j w.1 in
            let m = name_reads (after (mark.Word word.As) b.1) d.0 d.1 d.2 in
            named_anew (renamed_text text) (renamed_tree tree) i (alias_of b.0 (Some d.0)) x d.1 j d.3
            (record {
              reading = g.renamed s.reading c.0 m.reading;
              spelled = s.spelled ∙ ap (text s.reading) (c.1 ∙ ap (λ q. at c.0 (tok.Word word.As) ∷ q) m.spelled);
              is = ap (λ q. alias_of q (Some m.reading.text)) s.is ∙ ap (λ q. alias_of b.0 (Some q)) m.is;
              kept = s.kept ∙ c.2 ∙ m.kept;
            })
        | inr w ↦
            let a = after_false (mark.Word word.As) b.1 w.0 in
            named_anew (renamed_text text) (renamed_tree tree) i (alias_of b.0 None) x (after (mark.Word word.As) b.1) j w.1
            (record { reading = g.same s.reading; spelled = s.spelled ∙ ap (λ (q : Input). text s.reading q.ahead) (sym a); is = ap (λ q. alias_of q None) s.is; kept = s.kept ∙ ap (λ (q : Input). q.front) (sym a) })
      ]

alias_same : (with_dots : Bool) (i : Input) (text : List ℕ) (rest : List Token) (front : ℕ) → read.path with_dots i ≡ Ok (text, input rest front) → sees_at (mark.Word word.As) rest ≡ false → read.alias with_dots i ≡ Ok (alias_of text None, input rest front)
unfolding read.alias after sees
alias_same with_dots i text rest front h free = rw (h, free) refl

alias_renamed : (with_dots : Bool) (i : Input) (text : List ℕ) (l : Place) (n : Name) (rest : List Token) (front : ℕ) → read.path with_dots i ≡ Ok (text, input (at l (tok.Word word.As) ∷ name_text n rest) front)
    → read.alias with_dots i ≡ Ok (alias_of text (Some n.text), input rest front)
unfolding read.alias after sees name
alias_renamed with_dots i text l n rest front h = rw h refl

pub plain_complete : (x : Renamed Name) (rest : List Token) (front : ℕ) → Behind rest → read.alias false (input (renamed_text name_text x rest) front) ≡ Ok (renamed_tree name_tree x, input rest front)
plain_complete (g.same n) rest front h = alias_same false (input (name_text n rest) front) n.text rest front (name_read n rest front) h.1
plain_complete (g.renamed n l m) rest front h = alias_renamed false (input (name_text n (at l (tok.Word word.As) ∷ name_text m rest)) front) n.text l m rest front (name_read n (at l (tok.Word word.As) ∷ name_text m rest) front)

pub dotted_alias_complete : (x : Renamed Dotted) (rest : List Token) (front : ℕ) → Behind rest → read.alias true (input (renamed_text dotted_text x rest) front) ≡ Ok (renamed_tree dotted_tree x, input rest front)
dotted_alias_complete (g.same d) rest front h = alias_same true (input (dotted_text d rest) front) (dotted_tree d) rest front (dotted_complete d rest front (no_dot_at rest h.0)) h.1
dotted_alias_complete (g.renamed d l m) rest front h =
    let behind_path = at l (tok.Word word.As) ∷ name_text m rest in
    alias_renamed true (input (dotted_text d behind_path) front) (dotted_tree d) l m rest front (dotted_complete d behind_path front refl)

-- ---- how they begin, and that they are not empty

pub dotted_starts : (d : Dotted) (rest : List Token) → sees_at (mark.Op op.CloseParen) (dotted_text d rest) ≡ false
dotted_starts (Dotted.last n) rest = refl
dotted_starts (g.dotted n l d) rest = refl

pub plain_starts : (x : Renamed Name) (rest : List Token) → sees_at (mark.Op op.CloseParen) (renamed_text name_text x rest) ≡ false
plain_starts (g.same n) rest = refl
plain_starts (g.renamed n l m) rest = refl

pub dotted_alias_starts : (x : Renamed Dotted) (rest : List Token) → sees_at (mark.Op op.CloseParen) (renamed_text dotted_text x rest) ≡ false
dotted_alias_starts (g.same d) rest = dotted_starts d rest
dotted_alias_starts (g.renamed d l m) rest = dotted_starts d (at l (tok.Word word.As) ∷ name_text m rest)

pub dotted_grows : (d : Dotted) (rest : List Token) → length rest < length (dotted_text d rest)
dotted_grows (Dotted.last n) rest = omega arith
dotted_grows (g.dotted n l d) rest = let h = dotted_grows d rest in omega arith

pub plain_grows : (x : Renamed Name) (rest : List Token) → length rest < length (renamed_text name_text x rest)
plain_grows (g.same n) rest = omega arith
plain_grows (g.renamed n l m) rest = omega arith

pub dotted_alias_grows : (x : Renamed Dotted) (rest : List Token) → length rest < length (renamed_text dotted_text x rest)
dotted_alias_grows (g.same d) rest = dotted_grows d rest
dotted_alias_grows (g.renamed d l m) rest = let h = dotted_grows d (at l (tok.Word word.As) ∷ name_text m rest) in omega arith

-- ---- where they stop

dotted_from_fails : (n : ℕ) (found : List ℕ) → Fails (read.dotted_from n found)
unfolding read.dotted_from
dotted_from_fails zero found = fails_pure found
dotted_from_fails (suc n) found = fails_eat (mark.Op op.Dot) _ (λ b. fails_if b _ _ (fails_bind name _ name_keeps name_fails (λ part. dotted_from_fails n (found ++ dot ∷ part))) (fails_pure found))

pub dotted_fails : Fails read.dotted
unfolding read.dotted read.all_dotted
dotted_fails = fails_bind name _ name_keeps name_fails (λ first i d e. dotted_from_fails (length i.ahead) first i d e)

pub dotted_keeps : Keeps read.dotted
dotted_keeps i x j e = (dotted_sound i x j e).kept

path_fails : (with_dots : Bool) → Fails (read.path with_dots)
path_fails true = dotted_fails
path_fails false = name_fails

path_keeps : (with_dots : Bool) → Keeps (read.path with_dots)
path_keeps true = dotted_keeps
path_keeps false = name_keeps

pub alias_fails : (with_dots : Bool) → Fails (read.alias with_dots)
unfolding read.alias
alias_fails with_dots = fails_bind (read.path with_dots) _ (path_keeps with_dots) (path_fails with_dots)
    (λ text. fails_eat (mark.Word word.As) _ (λ b. fails_if b _ _ (fails_bind name _ name_keeps name_fails (λ bound. fails_pure (alias_of text (Some bound)))) (fails_pure (alias_of text None))))
