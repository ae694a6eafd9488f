-- Tests, assignments and augmented assignments.
use Rattle.std.proofs.Common.{◌≡◌, ℕ, zero, suc, ◌≤◌, ◌⊎◌, inl, inr, true, false, List, [], ◌∷◌, ◌++◌, length, Option, Some, None, Ok, refl, sym, ap, ◌∙◌, arith, append_assoc}
use Rattle.std.specs.Option.{is_some}
use Rattle.py_tokens.specs.declared.token.Token.{Token}
use Rattle.py_tokens.specs.declared.token.Tok.{Tok}
use Rattle.py_tokens.specs.declared.token.Tok.TheVariants as tok
use Rattle.py_tokens.specs.declared.operator.Op.TheVariants as op
use Rattle.py_tree.specs.declared.expr.Expr.{Expr}
use Rattle.py_tree.specs.declared.expr.BinaryOp.{BinaryOp}
use Rattle.py_tree.specs.declared.stmt.Target.{Target}
use Rattle.py_tree.specs.declared.stmt.StmtKind.{StmtKind}
use Rattle.py_tree.specs.declared.stmt.StmtKind.TheVariants as s
use Rattle.py_expressions.specs.declared.cursor.Mark.TheVariants as mark
use Rattle.py_expressions.specs.Input.{Input, Place, at, Outcome, and_then, pure, kind_at, sees, sees_at, after, next}
use Rattle.py_expressions.specs.Follow.{rank}
use Rattle.py_expressions.specs.Grammar.{Members, members_text, members_tree}
use Rattle.py_expressions.specs.Reading.{all_tests}
use Rattle.py_expressions.specs.Targets.{Aims, One, aims_text, aims_tree, one_text, one_tree, target_of, given, one_target}
use Rattle.py_expressions.specs.Laws.{input, Sound, Fails}
use Rattle.py_expressions.proofs.Steps.{done, bind_ok, done_is, no_err, chosen, taken, after_false, named_anew}
use Rattle.py_expressions.proofs.Faults.{Keeps, fails_bind, fails_pure, fails_refuse, fails_if, fails_eat, fails_peek, fails_take, sound_keeps}
use Rattle.py_expressions.proofs.Whole.{all_tests_sound, all_tests_complete, all_tests_fails}
use Rattle.py_expressions.proofs.Aims.{one_target_sound, one_target_complete, one_target_fails}
use Rattle.py_expressions.proofs.Aimed.{members_aimed}
use Rattle.py_expressions.proofs.Embedded.{as_members, members_same, members_target}
use Rattle.py_statements.specs.Grammar as g
use Rattle.py_statements.specs.Grammar.{Small, Assigned, value, again, assigned_text, assigned_targets, assigned_value, small_text, small_tree}
use Rattle.py_statements.specs.Reading as read
use Rattle.py_statements.specs.Reading.{augments, ends_small, concluded, augmented_by}
use Rattle.py_statements.proofs.Ends.{ends_rank, ends_assign, ends_augments, augments_joins, augments_there}
use Rattle.py_statements.proofs.Starts.{aims_grow, alone_aims}

-- ---- one step

not_assigned : (depth n : ℕ) (found : List Target) (x : Expr) (rest : List Token) (front : ℕ) → sees_at (mark.Op op.Assign) rest ≡ false → read.assigned depth n found x (input rest front) ≡ Ok (concluded found x, input rest front)
unfolding read.assigned after sees
not_assigned depth zero found x rest front h = refl
not_assigned depth (suc n) found x rest front h = rw h refl

assigned_more : (depth n : ℕ) (found : List Target) (x y : Expr) (l : Place) (ts : List Token) (front : ℕ) (to : Target) (j : Input) → target_of depth x ≡ Some to → all_tests (input ts front) ≡ Ok (y, j)
    → read.assigned depth (suc n) found x (input (at l (tok.Op op.Assign) ∷ ts) front) ≡ read.assigned depth n (found ++ to ∷ []) y j
unfolding read.assigned after sees
assigned_more depth n found x y l ts front to j is h = rw (is, h) refl

expression_plain : (ts rest : List Token) (front : ℕ) (x : Expr) (o : Outcome StmtKind) → all_tests (input ts front) ≡ Ok (x, input rest front) → augments (kind_at rest) ≡ None
    → read.assigned (suc (length ts)) (length rest) [] x (input rest front) ≡ o → read.expression (input ts front) ≡ o
unfolding read.expression read.all_assigned
expression_plain ts rest front x o h is e = rw (h, is) e

expression_augmented : (ts rest : List Token) (front : ℕ) (x : Expr) (how : BinaryOp) (o : Outcome StmtKind) → all_tests (input ts front) ≡ Ok (x, input rest front) → augments (kind_at rest) ≡ Some how
    → read.augmented (input ts front) ≡ o → read.expression (input ts front) ≡ o
unfolding read.expression
expression_augmented ts rest front x how o h is e = rw (h, is) e

augmented_done : (i j : Input) (to : Target) (x : Expr) (l : Place) (kind : Tok) (how : BinaryOp) (ts : List Token) (front : ℕ) → one_target i ≡ Ok (to, input (at l kind ∷ ts) front) → augments kind ≡ Some how → all_tests (input ts front) ≡ Ok (x, j)
    → read.augmented i ≡ Ok (s.Aug to how x, j)
unfolding read.augmented
augmented_done i j to x l kind how ts front h is e = rw (h, is, e) refl

-- ---- what the grammar reads is read

-- the targets in front, and the tokens behind them
abbrev first_aims : Assigned → Aims
first_aims (value gs l m) = gs
first_aims (again gs l a) = gs

abbrev behind_aims : Assigned → List Token → List Token
behind_aims (value gs l m) rest = at l (tok.Op op.Assign) ∷ members_text m rest
behind_aims (again gs l a) rest = at l (tok.Op op.Assign) ∷ assigned_text a rest

parted : (a : Assigned) (rest : List Token) → aims_text (first_aims a) (behind_aims a rest) ≡ assigned_text a rest
parted (value gs l m) rest = refl
parted (again gs l a) rest = refl

assign_rank : (a : Assigned) (rest : List Token) → 14 ≤ rank (behind_aims a rest)
assign_rank (value gs l m) rest = omega arith
assign_rank (again gs l a) rest = omega arith

assign_augments : (a : Assigned) (rest : List Token) → augments (kind_at (behind_aims a rest)) ≡ None
assign_augments (value gs l m) rest = refl
assign_augments (again gs l a) rest = refl

aims_read : (gs : Aims) (rest : List Token) (front : ℕ) → 14 ≤ rank rest → all_tests (input (aims_text gs rest) front) ≡ Ok (members_tree (as_members gs), input rest front)
aims_read gs rest front h = ap (λ q. all_tests (input q front)) (sym (members_same gs rest)) ∙ all_tests_complete (as_members gs) rest front h

first_read : (a : Assigned) (rest : List Token) (front : ℕ) → all_tests (input (assigned_text a rest) front) ≡ Ok (members_tree (as_members (first_aims a)), input (behind_aims a rest) front)
first_read a rest front = ap (λ q. all_tests (input q front)) (sym (parted a rest)) ∙ aims_read (first_aims a) (behind_aims a rest) front (assign_rank a rest)

from_complete : (a : Assigned) (depth n : ℕ) (found : List Target) (rest : List Token) (front : ℕ) → ends_small (kind_at rest) ≡ true → length (behind_aims a rest) ≤ n → length (assigned_text a rest) ≤ depth
    → read.assigned (suc depth) n found (members_tree (as_members (first_aims a))) (input (behind_aims a rest) front) ≡ Ok (concluded (found ++ assigned_targets a) (assigned_value a), input rest front)
from_complete (value gs l m) depth zero found rest front ends le ld = absurd (omega arith)
from_complete (value gs l m) depth (suc n) found rest front ends le ld =
    assigned_more (suc depth) n found (members_tree (as_members gs)) (members_tree m) l (members_text m rest) front (aims_tree gs) (input rest front)
    (members_target gs depth (at l (tok.Op op.Assign) ∷ members_text m rest) ld) (all_tests_complete m rest front (omega (arith, ends_rank rest ends)))
    ∙ not_assigned (suc depth) n (found ++ aims_tree gs ∷ []) (members_tree m) rest front (ends_assign rest ends)
from_complete (again gs l a) depth zero found rest front ends le ld = absurd (omega arith)
from_complete (again gs l a) depth (suc n) found rest front ends le ld =
    let whole = aims_grow gs (at l (tok.Op op.Assign) ∷ assigned_text a rest) in
    let part = aims_grow (first_aims a) (behind_aims a rest) in
    let same = ap length (parted a rest) in
    assigned_more (suc depth) n found (members_tree (as_members gs)) (members_tree (as_members (first_aims a))) l (assigned_text a rest) front (aims_tree gs) (input (behind_aims a rest) front)
    (members_target gs depth (at l (tok.Op op.Assign) ∷ assigned_text a rest) ld) (first_read a rest front)
    ∙ from_complete a depth n (found ++ aims_tree gs ∷ []) rest front ends (omega arith) (omega arith)
    ∙ ap (λ (ts : List Target). Ok (concluded ts (assigned_value a), input rest front)) (append_assoc found (aims_tree gs ∷ []) (assigned_targets a))

concluded_is : (a : Assigned) → concluded (assigned_targets a) (assigned_value a) ≡ s.Assign (assigned_targets a) (assigned_value a)
concluded_is (value gs l m) = refl
concluded_is (again gs l a) = refl

pub assigned_complete : (a : Assigned) (rest : List Token) (front : ℕ) → ends_small (kind_at rest) ≡ true → read.expression (input (assigned_text a rest) front) ≡ Ok (small_tree (g.assigned a), input rest front)
assigned_complete a rest front ends =
    expression_plain (assigned_text a rest) (behind_aims a rest) front (members_tree (as_members (first_aims a))) (Ok (s.Assign (assigned_targets a) (assigned_value a), input rest front)) (first_read a rest front) (assign_augments a rest)
    (from_complete a (length (assigned_text a rest)) (length (behind_aims a rest)) [] rest front ends (omega arith) (omega arith)
    ∙ ap (λ q. Ok (q, input rest front)) (concluded_is a))

pub tests_complete : (m : Members) (rest : List Token) (front : ℕ) → ends_small (kind_at rest) ≡ true → read.expression (input (members_text m rest) front) ≡ Ok (small_tree (g.tests m), input rest front)
tests_complete m rest front ends =
    expression_plain (members_text m rest) rest front (members_tree m) (Ok (s.Expr (members_tree m), input rest front)) (all_tests_complete m rest front (omega (arith, ends_rank rest ends))) (ends_augments (kind_at rest) ends)
    (not_assigned (suc (length (members_text m rest))) (length rest) [] (members_tree m) rest front (ends_assign rest ends))

pub augmented_complete : (o : One) (l : Place) (kind : Tok) (how : BinaryOp) (is : augments kind ≡ Some how) (m : Members) (rest : List Token) (front : ℕ) → ends_small (kind_at rest) ≡ true
    → read.expression (input (one_text o (at l kind ∷ members_text m rest)) front) ≡ Ok (s.Aug (one_tree o) how (members_tree m), input rest front)
augmented_complete o l kind how is m rest front ends =
    let behind = at l kind ∷ members_text m rest in
    let joined = augments_joins kind how is in
    expression_augmented (one_text o behind) behind front (members_tree (as_members (alone_aims o))) how (Ok (s.Aug (one_tree o) how (members_tree m), input rest front))
    (aims_read (alone_aims o) (at l kind ∷ members_text m rest) front (omega (arith, augments_joins kind how is))) is
    (augmented_done (input (one_text o behind) front) (input rest front) (one_tree o) (members_tree m) l kind how (members_text m rest) front
    (one_target_complete o (at l kind ∷ members_text m rest) front (omega (arith, augments_joins kind how is))) is (all_tests_complete m rest front (omega (arith, ends_rank rest ends))))

-- ---- what is read is read by the grammar

given_ok : (o : Option Target) (i : Input) (x : Target) (j : Input) → given o i ≡ done x j → (o ≡ Some x) × (i ≡ j)
given_ok None i x j e = absurd (no_err i.front x j e)
given_ok (Some y) i x j e = let d = done_is y x i j e in (ap (λ q. Some q) d.0, d.1)

-- tests that are the first targets of an assignment
record Assigns (m : Members) (found : List Target) (i : Input) (y : StmtKind) (j : Input) : Type 0 where
  reading : Assigned
  spelled : members_text m i.ahead ≡ assigned_text reading j.ahead
  is : concluded (found ++ assigned_targets reading) (assigned_value reading) ≡ y
  kept : i.front ≡ j.front

from_sound : (depth n : ℕ) (found : List Target) (m : Members) (x : Expr) → members_tree m ≡ x → (i : Input) (y : StmtKind) (j : Input) → read.assigned depth n found x i ≡ done y j
    → ((concluded found x ≡ y) × (i ≡ j)) ⊎ Assigns m found i y j
unfolding read.assigned
from_sound depth zero found m x is i y j e = inl (done_is (concluded found x) y i j e)
from_sound depth (suc n) found m x is i y j e =
    elim (chosen (sees (mark.Op op.Assign) i) _ _ (after (mark.Op op.Assign) i) (done y j) e) [
      | inl w ↦
          let c = taken (mark.Op op.Assign) i w.0 in
          let b = bind_ok (given (target_of depth x) (after (mark.Op op.Assign) i)) _ y j w.1 in
          let t = given_ok (target_of depth x) (after (mark.Op op.Assign) i) b.0 b.1 b.2 in
          let v = bind_ok (all_tests b.1) _ y j b.3 in
          let more = all_tests_sound b.1 v.0 v.1 v.2 in
          let aim = members_aimed m depth b.0 (ap (target_of depth) is ∙ t.0) in
          let to_sign : members_text m i.ahead ≡ aims_text aim.aims (at c.0 (tok.Op op.Assign) ∷ b.1.ahead) = aim.spelled i.ahead ∙ ap (aims_text aim.aims) (c.1 ∙ ap (λ (q : Input). at c.0 (tok.Op op.Assign) ∷ q.ahead) t.1) in
          let front : i.front ≡ v.1.front = c.2 ∙ ap (λ (q : Input). q.front) t.1 ∙ more.kept in
          elim (from_sound depth n (found ++ b.0 ∷ []) more.reading v.0 more.is v.1 y j v.3) [
            | inl r ↦ inr (record {
              reading = value aim.aims c.0 more.reading;
              spelled = to_sign ∙ ap (λ q. aims_text aim.aims (at c.0 (tok.Op op.Assign) ∷ q)) (more.spelled ∙ ap (λ (q : Input). members_text more.reading q.ahead) r.1);
              is = ap (λ q. concluded (found ++ q ∷ []) (members_tree more.reading)) aim.is ∙ ap (concluded (found ++ b.0 ∷ [])) more.is ∙ r.0;
              kept = front ∙ ap (λ (q : Input). q.front) r.1;
            })
            | inr r ↦ inr (record {
              reading = again aim.aims c.0 r.reading;
              spelled = to_sign ∙ ap (λ q. aims_text aim.aims (at c.0 (tok.Op op.Assign) ∷ q)) (more.spelled ∙ r.spelled);
              is = ap (λ q. concluded (found ++ q ∷ assigned_targets r.reading) (assigned_value r.reading)) aim.is
                  ∙ ap (λ q. concluded q (assigned_value r.reading)) (sym (append_assoc found (b.0 ∷ []) (assigned_targets r.reading))) ∙ r.is;
              kept = front ∙ r.kept;
            })
          ]
      | inr w ↦
          let a = after_false (mark.Op op.Assign) i w.0 in
          let d = done_is (concluded found x) y (after (mark.Op op.Assign) i) j w.1 in
          inl (d.0, sym a ∙ d.1)
    ]

augmented_some : (to : Target) (o : Option BinaryOp) (i : Input) (x : StmtKind) (j : Input) → augmented_by to o i ≡ done x j → (how : BinaryOp) × (o ≡ Some how) × (and_then (all_tests (next i)) (λ y. pure (s.Aug to how y)) ≡ done x j)
augmented_some to None i x j e = absurd (no_err i.front x j e)
augmented_some to (Some how) i x j e = (how, refl, e)

augmented_sound : Sound small_text small_tree read.augmented
unfolding read.augmented
augmented_sound i x j e =
    let b = bind_ok (one_target i) _ x j e in
    let o = one_target_sound i b.0 b.1 b.2 in
    let h = augmented_some b.0 (augments (kind_at b.1.ahead)) b.1 x j b.3 in
    let c = augments_there b.1.ahead h.0 h.1 in
    let v = bind_ok (all_tests (next b.1)) _ x j h.2 in
    let m = all_tests_sound (next b.1) v.0 v.1 v.2 in
    named_anew small_text small_tree i (s.Aug b.0 h.0 v.0) x v.1 j v.3
    (record {
      reading = g.augmented o.reading c.0 (kind_at b.1.ahead) h.0 h.1 m.reading;
      spelled = o.spelled ∙ ap (one_text o.reading) (c.1 ∙ ap (λ q. at c.0 (kind_at b.1.ahead) ∷ q) m.spelled);
      is = ap (λ q. s.Aug q h.0 (members_tree m.reading)) o.is ∙ ap (s.Aug b.0 h.0) m.is;
      kept = o.kept ∙ m.kept;
    })

pub expression_sound : Sound small_text small_tree read.expression
unfolding read.expression read.all_assigned
expression_sound i x j e =
    let b = bind_ok (all_tests i) _ x j e in
    let m = all_tests_sound i b.0 b.1 b.2 in
    elim (chosen (is_some (augments (kind_at b.1.ahead))) _ _ b.1 (done x j) b.3) [
      | inl w ↦
          let f = augmented_sound (input i.ahead b.1.front) x j w.1 in
          record { reading = f.reading; spelled = f.spelled; is = f.is; kept = m.kept ∙ f.kept }
      | inr w ↦ elim (from_sound (suc (length i.ahead)) (length b.1.ahead) [] m.reading b.0 m.is b.1 x j w.1) [
        | inl r ↦ record { reading = g.tests m.reading; spelled = m.spelled ∙ ap (λ (q : Input). members_text m.reading q.ahead) r.1; is = ap s.Expr m.is ∙ r.0; kept = m.kept ∙ ap (λ (q : Input). q.front) r.1 }
        | inr r ↦ record { reading = g.assigned r.reading; spelled = m.spelled ∙ r.spelled; is = sym (concluded_is r.reading) ∙ r.is; kept = m.kept ∙ r.kept }
      ]
    ]

-- ---- where they stop

pub all_tests_keeps : Keeps all_tests
all_tests_keeps = sound_keeps members_text members_tree all_tests all_tests_sound

given_fails : (o : Option Target) → Fails (given o)
given_fails None = fails_refuse
given_fails (Some t) = fails_pure t

given_keeps : (o : Option Target) → Keeps (given o)
given_keeps o i t j e = ap (λ (q : Input). q.front) (given_ok o i t j e).1

assigned_fails : (depth n : ℕ) (found : List Target) (x : Expr) → Fails (read.assigned depth n found x)
unfolding read.assigned
assigned_fails depth zero found x = fails_pure (concluded found x)
assigned_fails depth (suc n) found x = fails_eat (mark.Op op.Assign) _ (λ b. fails_if b _ _
    (fails_bind (given (target_of depth x)) _ (given_keeps (target_of depth x)) (given_fails (target_of depth x)) (λ to. fails_bind all_tests _ all_tests_keeps all_tests_fails (λ y. assigned_fails depth n (found ++ to ∷ []) y)))
    (fails_pure (concluded found x)))

augmented_by_fails : (to : Target) (o : Option BinaryOp) → Fails (augmented_by to o)
augmented_by_fails to None = fails_refuse
augmented_by_fails to (Some how) = fails_take _ (fails_bind all_tests _ all_tests_keeps all_tests_fails (λ y. fails_pure (s.Aug to how y)))

augmented_fails : Fails read.augmented
unfolding read.augmented
augmented_fails = fails_bind one_target _ (sound_keeps one_text one_tree one_target one_target_sound) one_target_fails (λ to. fails_peek _ (λ kind. augmented_by_fails to (augments kind)))

pub expression_fails : Fails read.expression
unfolding read.expression read.all_assigned
expression_fails i d e = fails_bind all_tests _ all_tests_keeps all_tests_fails (λ x. fails_peek _ (λ kind. fails_if (is_some (augments kind)) _ _
    (λ j d e. augmented_fails (input i.ahead j.front) d e) (λ j d e. assigned_fails (suc (length i.ahead)) (length j.ahead) [] x j d e))) i d e
