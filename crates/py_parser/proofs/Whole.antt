-- A whole file.
use Rattle.std.proofs.Common.{◌≡◌, ℕ, zero, suc, ◌+◌, ◌-◌, ◌<◌, ◌≤◌, ◌⊎◌, inl, inr, Bool, true, false, cond, List, [], ◌∷◌, ◌++◌, length, Option, Some, None, Ok, Err, refl, sym, ap, subst, ◌∙◌, arith, append_assoc}
use Rattle.std.proofs.lemmas.List.{append-nil}
use Rattle.py_tokens.specs.declared.token.Tok.{Tok}
use Rattle.py_tokens.specs.declared.token.Tok.TheVariants as tok
use Rattle.py_tokens.specs.declared.token.Token.{Token}
use Rattle.py_tree.specs.declared.stmt.Stmt.{Stmt}
use Rattle.py_tree.specs.declared.stmt.Module.{Module}
use Rattle.py_expressions.specs.declared.cursor.Mark.TheVariants as mark
use Rattle.py_expressions.specs.Input.{Place, at, Input, Outcome, Parser, and_then, ◌>>=◌, pure, kind_at, is_mark, sees, sees_at, next}
use Rattle.py_expressions.specs.Laws.{input}
use Rattle.py_expressions.proofs.Steps.{done, stopped, bind_ok, bind_err, done_is, no_err, no_ok, err_is, sees_is}
use Rattle.py_statements.proofs.Starts.{line_starts, line_grows}
use Rattle.py_statements.proofs.Whole.{line_sound, line_complete, line_fails}
use Rattle.py_parser.specs.Grammar.{Statement, Statements, no_statement, more, statement_text, statements_text, statement_list, statements_list, IsTree}
use Rattle.py_parser.specs.Fronts.{Front, whole, front_text, IsLongest}
use Rattle.py_parser.specs.Reading.{marked, stmt, stmt_with, ends_at, is_end, file_from, file}
use Rattle.py_parser.proofs.Below.{Below}
use Rattle.py_parser.proofs.Headers.{first_sound, first_complete, first_fails, first_grows, later_sound, later_complete, later_fails, later_grows}
use Rattle.py_parser.proofs.Sizes.{statement_grows, statements_grow, front_grows}
use Rattle.py_parser.proofs.Sounder.{stmt_sound}
use Rattle.py_parser.proofs.Completer.{begins_stmt, is_later, Done, stmt_is, statement_starts, statements_stop, statement_complete}
use Rattle.py_parser.proofs.Stops.{Stop, stop_here, front_before, front_before_text, stmt_stops}
use Rattle.py_parser.proofs.Longest.{Bound, bound_of, bound_then, bound_is, stop_within, front_reaches}

laws : Below
laws = record {
  line_sound = line_sound;
  line_complete = line_complete;
  line_fails = line_fails;
  line_starts = line_starts;
  line_grows = line_grows;
  first_sound = first_sound;
  first_complete = first_complete;
  first_fails = first_fails;
  first_grows = first_grows;
  later_sound = later_sound;
  later_complete = later_complete;
  later_fails = later_fails;
  later_grows = later_grows;
}

-- ---- the end

end_is : (ts : List Token) → ends_at ts ≡ true → (l : Place) × (ts ≡ at l tok.End ∷ [])
end_is [] e = absurd cc
end_is (t ∷ []) e = let c = sees_is mark.End (input (t ∷ []) 0) e in (c.0, c.1)
end_is (t ∷ u ∷ ts) e = absurd cc

at_end : (l : Place) (front : ℕ) → is_end (input (at l tok.End ∷ []) front) ≡ true
unfolding is_end sees
at_end l front = refl

no_end_by : (kind : Tok) → begins_stmt kind ≡ true → is_mark mark.End kind ≡ false
no_end_by tok.End b = absurd cc
no_end_by _ b = refl

no_end : (ts : List Token) → begins_stmt (kind_at ts) ≡ true → ends_at ts ≡ false
unfolding sees
no_end [] b = refl
no_end (t ∷ []) b = no_end_by t.kind b
no_end (t ∷ u ∷ ts) b = refl

-- behind one statement
abbrev going : ℕ → ℕ → List Stmt → Parser (List Stmt)
going d n found = λ i. and_then (stmt d i) (λ some j. file_from d n (found ++ some) (marked j))

file_is : (d n : ℕ) (found : List Stmt) (i : Input) → file_from d (suc n) found i ≡ cond (ends_at i.ahead) (done found i) (going d n found i)
unfolding file_from is_end
file_is d n found i = refl

-- which way it went
way : (d n : ℕ) (found : List Stmt) (i : Input) (o : Outcome (List Stmt)) → file_from d (suc n) found i ≡ o → ((ends_at i.ahead ≡ true) × (done found i ≡ o)) ⊎ ((ends_at i.ahead ≡ false) × (going d n found i ≡ o))
way d n found i o e = go (ends_at i.ahead) refl (sym (file_is d n found i) ∙ e)
  where
    go : (b : Bool) → ends_at i.ahead ≡ b → cond b (done found i) (going d n found i) ≡ o → ((ends_at i.ahead ≡ true) × (done found i ≡ o)) ⊎ ((ends_at i.ahead ≡ false) × (going d n found i ≡ o))
    go true is e = inl (is, e)
    go false is e = inr (is, e)

record Ended (found : List Stmt) (i : Input) (x : List Stmt) (j : Input) : Type 0 where
  reading : Statements
  last : Place
  spelled : i.ahead ≡ statements_text reading (at last tok.End ∷ [])
  is : found ++ statements_list reading ≡ x
  left : j.ahead ≡ at last tok.End ∷ []

file_sound : (d n : ℕ) (found : List Stmt) (i : Input) (x : List Stmt) (j : Input) → file_from d n found i ≡ done x j → Ended found i x j
unfolding file_from
file_sound d zero found i x j e = absurd (no_err i.front x j e)
file_sound d (suc n) found i x j e =
    elim (way d n found i (done x j) e) [
      | inl w ↦
          let c = end_is i.ahead w.0 in
          let p = done_is found x i j w.1 in
          record { reading = no_statement; last = c.0; spelled = c.1; is = append-nil found ∙ p.0; left = ap (λ (q : Input). q.ahead) (sym p.1) ∙ c.1 }
      | inr w ↦
          let b = bind_ok (stmt d i) _ x j w.1 in
          let t = stmt_sound laws d i b.0 b.1 b.2 in
          let f = file_sound d n (found ++ b.0) (marked b.1) x j b.3 in
          record {
            reading = more t.reading f.reading;
            last = f.last;
            spelled = t.spelled ∙ ap (statement_text t.reading) f.spelled;
            is = ap (λ h. found ++ (h ++ statements_list f.reading)) t.is ∙ sym (append_assoc found b.0 (statements_list f.reading)) ∙ f.is;
            left = f.left;
          }
    ]

file_stops : (d n : ℕ) (found : List Stmt) (i : Input) (e : ℕ) → i.front ≡ length i.ahead → file_from d n found i ≡ stopped e → Stop i e
unfolding file_from
file_stops d zero found i e m h = stop_here i e m (sym (err_is {A = List Stmt} i.front e h))
file_stops d (suc n) found i e m h =
    elim (way d n found i (stopped e) h) [
      | inl w ↦ absurd (no_ok found i e w.1)
      | inr w ↦
          elim (bind_err (stmt d i) _ e w.1) [
            | inl g ↦ stmt_stops laws d i e m g
            | inr b ↦
                let t = stmt_sound laws d i b.0 b.1 b.2 in
                let f = file_stops d n (found ++ b.0) (marked b.1) e refl b.3 in
                record { front = front_before t.reading f.front; rest = f.rest; spelled = t.spelled ∙ ap (statement_text t.reading) f.spelled ∙ sym (front_before_text t.reading f.front f.rest); is = f.is }
          ]
    ]

file_next : (d n : ℕ) (found : List Stmt) (i : Input) (some : List Stmt) (ts : List Token) (f : ℕ) → begins_stmt (kind_at i.ahead) ≡ true → stmt d i ≡ Ok (some, input ts f) → file_from d (suc n) found i ≡ file_from d n (found ++ some) (input ts (length ts))
file_next d n found i some ts f b h =
    file_is d n found i ∙ ap (λ q. cond q (done found i) (going d n found i)) (no_end i.ahead b) ∙ ap (λ q. and_then q (λ some j. file_from d n (found ++ some) (marked j))) h

file_end : (d n : ℕ) (found : List Stmt) (l : Place) (front : ℕ) → file_from d (suc n) found (input (at l tok.End ∷ []) front) ≡ Ok (found, input (at l tok.End ∷ []) front)
unfolding file_from
file_end d n found l front = rw (at_end l front) refl

file_complete : (ss : Statements) (n d : ℕ) (found : List Stmt) (last : Place) → length (statements_text ss (at last tok.End ∷ [])) ≤ n → length (statements_text ss (at last tok.End ∷ [])) ≤ d
    → (j : Input) × (file_from (suc d) n found (input (statements_text ss (at last tok.End ∷ [])) (length (statements_text ss (at last tok.End ∷ [])))) ≡ Ok (found ++ statements_list ss, j))
file_complete no_statement zero d found last le ld = absurd (omega arith)
file_complete no_statement (suc n) d found last le ld = (input (at last tok.End ∷ []) 1, file_end (suc d) n found last 1 ∙ ap (λ (xs : List Stmt). Ok (xs, input (at last tok.End ∷ []) 1)) (sym (append-nil found)))
file_complete (more one others) zero d found last le ld = let g = statement_grows laws one (statements_text others (at last tok.End ∷ [])) in absurd (omega arith)
file_complete (more one others) (suc n) d found last le ld =
    let us = statements_text others (at last tok.End ∷ []) in
    let all = statement_text one us in
    let g = statement_grows laws one us in
    let first = statement_complete laws one d us (length all) ld (statements_stop laws others (at last tok.End ∷ []) refl) in
    let rest = file_complete others n d (found ++ statement_list one) last (omega arith) (omega arith) in (
      rest.0,
      file_next (suc d) n found (input all (length all)) (statement_list one) us first.0 (statement_starts laws one us) (stmt_is d (input all (length all)) ∙ first.1)
          ∙ rest.1 ∙ ap (λ (xs : List Stmt). Ok (xs, rest.0)) (append_assoc found (statement_list one) (statements_list others)),
    )

file_shrinks : (d n : ℕ) (found : List Stmt) (i : Input) → i.front ≡ length i.ahead → Bound (file_from d n found i) (length i.ahead)
file_shrinks d n found i m = bound_of (file_from d n found i) (length i.ahead)
    (λ x j e. let f = file_sound d n found i x j e in let e1 = ap length f.spelled in let e2 = ap length f.left in let g = statements_grow laws f.reading (at f.last tok.End ∷ []) in omega arith)
    (λ e h. stop_within laws i e (file_stops d n found i e m h))

file_goes : (d n : ℕ) (found : List Stmt) (i : Input) (r : ℕ) → begins_stmt (kind_at i.ahead) ≡ true → Bound (stmt d i) r → Bound (file_from d (suc n) found i) r
file_goes d n found i r b h =
    bound_is (file_from d (suc n) found i) (going d n found i) r (file_is d n found i ∙ ap (λ q. cond q (done found i) (going d n found i)) (no_end i.ahead b))
    (bound_then (stmt d i) (λ some j. file_from d n (found ++ some) (marked j)) r h (λ some j. file_shrinks d n (found ++ some) (marked j) refl))

file_reaches : (e n : ℕ) (f : Front) (rest : List Token) → length (front_text f rest) ≤ n → length (front_text f rest) ≤ suc e → Bound (file_from (suc (suc e)) n [] (input (front_text f rest) (length (front_text f rest)))) (length rest)
file_reaches e n f rest le ld = front_reaches laws Bound e (file_from (suc (suc e)))
    (record { next = λ n found i some ts f b c h. file_next (suc (suc e)) n found i some ts f b h; goes = λ n found i r b h. file_goes (suc (suc e)) n found i r b h; here = λ n found i m. file_shrinks (suc (suc e)) n found i m })
    f n [] rest le ld

-- ---- the theorem

-- what is read is the tree
pub read_tree : (ts : List Token) (x : List Stmt) (j : Input) → file ts ≡ done x j → IsTree ts (record { body = x })
unfolding file
read_tree ts x j e = let f = file_sound (suc (suc (length ts))) (suc (length ts)) [] (input ts (length ts)) x j e in record { reading = f.reading; last = f.last; spelled = f.spelled; is = f.is }

-- a tree is read
pub tree_read : (ts : List Token) (tree : Module) → IsTree ts tree → (j : Input) × (file ts ≡ done tree.body j)
unfolding file
tree_read ts tree t =
    let us = statements_text t.reading (at t.last tok.End ∷ []) in
    let f = file_complete t.reading (suc (length us)) (suc (length us)) [] t.last (omega arith) (omega arith) in
    (f.0, ap (λ q. file_from (suc (suc (length q))) (suc (length q)) [] (input q (length q))) t.spelled ∙ f.1 ∙ ap (λ q. done q f.0) t.is)

-- no front reaches past where it stops
front_within : (ts : List Token) (n : ℕ) (f : Front) (rest : List Token) → file ts ≡ stopped n → ts ≡ front_text f rest → n ≤ length rest
unfolding file
front_within ts n f rest h is =
    let us = front_text f rest in
    let b = file_reaches (length us) (suc (length us)) f rest (omega arith) (omega arith) in
    subst (λ q. Bound q (length rest)) (ap (λ q. file_from (suc (suc (length q))) (suc (length q)) [] (input q (length q))) (sym is) ∙ h) b

-- where it stops, the longest front ends
pub stops_longest : (ts : List Token) (n : ℕ) → file ts ≡ stopped n → (rest : List Token) × (n ≡ length rest) × IsLongest ts rest
unfolding file
stops_longest ts n h =
    let f = file_stops (suc (suc (length ts))) (suc (length ts)) [] (input ts (length ts)) n refl h in
    (f.rest, f.is, record { front = f.front; splits = f.spelled; longest = λ g more e. let w = front_within ts n g more h e in let is = f.is in omega arith })

pub one_tree : (ts : List Token) (x y : Module) → IsTree ts x → IsTree ts y → x ≡ y
one_tree ts x y p q =
    let a = tree_read ts x p in
    let b = tree_read ts y q in
    ap (λ (body : List Stmt). record { body = body }) (done_is x.body y.body a.0 b.0 (sym a.1 ∙ b.1)).0
