-- The whole code of a text.
use Rattle.std.proofs.Common.{◌≡◌, ◌⊎◌, inl, inr, ℕ, zero, suc, ◌-◌, ◌<◌, ◌≤◌, Bool, true, false, ◌||◌, List, [], ◌∷◌, length, take, Some, refl, sym, ap, ◌∙◌, arith}
use Rattle.std.specs.Prelude.{max, bytes_eq, position}
use Rattle.std.proofs.lemmas.Slice.Eq.{bytes_eq-Decides}
use Rattle.bc_scheme.specs.py_scopes.Names.{has}
use Rattle.bc_scheme.specs.py_meaning.Tree.{Name}
use Rattle.bc_scheme.specs.py_meaning.Program.{Text}
use Rattle.bc_scheme.specs.py_meaning.Locals.{bound_in}
use Rattle.bc_scheme.specs.bc_machine.Library.{Line}
use Rattle.bc_scheme.specs.Context.{Context, slot_of}
use Rattle.emit_measures.specs.Wide.{wide_length}
use Rattle.emit_measures.specs.Lengths.{block_length, text_length}
use Rattle.emit_measures.specs.Named.{locals_in, HasOwnLocals, TakesUndotted}
use Rattle.emit_measures.specs.Stands.{IsCodeOf}
use Rattle.emit_measures.proofs.Spans.{AllNamed, Spans, also_span, as_span, behind_span}
use Rattle.emit_measures.proofs.Stmts.{b_span}

take_whole : (lines : List Line) → take (length lines) lines ≡ lines
take_whole [] = refl
take_whole (x ∷ lines) = ap (λ (z : List Line). x ∷ z) (take_whole lines)

none_wide : (lines : List Line) → wide_length (take 0 lines) ≡ 0
none_wide [] = refl
none_wide (x ∷ lines) = refl

none_named : (lines : List Line) → locals_in 0 (take 0 lines) ≡ 0
none_named [] = refl
none_named (x ∷ lines) = refl

least_named : (least : ℕ) (lines : List Line) → locals_in least lines ≡ max least (locals_in 0 lines)
least_named least [] = omega arith
least_named least (x ∷ lines) = let h = least_named least lines in omega (arith, h)

text_span : (c : Context) (sure : Type 0) (text : Text) → (is : IsCodeOf c text) → (sure → TakesUndotted text.body) → Spans c sure 0 (suc (suc is.last)) (text_length c.locals c.level text.body) (bound_in text.body)
text_span c sure text is t =
    let last = is.last in
    as_span c sure _ (let n = block_length c.locals c.level false false text.body in omega arith)
    (also_span c sure (also_span c sure (b_span c sure (record { brk = last; cont = last; count = 0; iterator = false }) 0 last text.body is.body t) (behind_span c sure last _ 1 refl refl is.none)) (behind_span c sure (suc last) _ 1 refl refl is.return))

pub wide_is : (c : Context) (text : Text) → IsCodeOf c text → wide_length c.lines ≡ text_length text.locals text.level text.body
wide_is c text is =
    let s = text_span c ⊥ text is (λ k. absurd k) in
    let whole : wide_length c.lines ≡ wide_length (take (suc (suc is.last)) c.lines) = ap wide_length (sym (take_whole c.lines)) ∙ ap (λ n. wide_length (take n c.lines)) is.length in
    let none = none_wide c.lines in
    let wide = s.wide in
    let here : wide_length c.lines ≡ text_length c.locals c.level text.body = omega (arith, whole, none, wide) in
    here ∙ ap (λ l. text_length l c.level text.body) is.locals ∙ ap (λ n. text_length text.locals n text.body) is.level

-- ---- names

either : (a b : Bool) → (a || b) ≡ true → (a ≡ true) ⊎ (b ≡ true)
either true b e = inl refl
either false b e = inr e

found : (c : Context) (names : List Name) (name : Name) (below slot : ℕ) → has name names ≡ true → AllNamed c names below → slot_of c name ≡ Some slot → slot < below
found c [] name below slot h n e = cc
found c (x ∷ names) name below slot h n e =
    elim (either (bytes_eq name x) (has name names) h) [
      | inl same ↦ n.0 slot (ap (slot_of c) (sym ((bytes_eq-Decides name x).0 same)) ∙ e)
      | inr behind ↦ found c names name below slot behind n.1 e
    ]

split : (a b : ℕ) → a ≤ b → (a ≡ b) ⊎ (a < b)
split zero zero h = inl refl
split zero (suc b) h = inr (omega arith)
split (suc a) zero h = absurd (omega (arith, h))
split (suc a) (suc b) h = elim (split a b (omega (arith, h))) [ inl e ↦ inl (ap suc e) | inr l ↦ inr (omega (arith, l)) ]

pub all_named : (c : Context) (text : Text) → IsCodeOf c text → HasOwnLocals text → TakesUndotted text.body → locals_in (length text.params) c.lines ≡ length text.locals
all_named c text is own t =
    let s = text_span c (Unit {0}) text is (λ k. t) in
    let n = locals_in 0 c.lines in
    let whole : n ≡ locals_in 0 (take (suc (suc is.last)) c.lines) = ap (locals_in 0) (sym (take_whole c.lines)) ∙ ap (λ k. locals_in 0 (take k c.lines)) is.length in
    let none = none_named c.lines in
    let count : length c.locals ≡ length text.locals = ap length is.locals in
    let most = s.within (omega (arith, none)) in
    let least = least_named (length text.params) c.lines in
    let params = own.params in
    elim (split (length text.params) (length text.locals) params) [
      | inl e ↦ omega (arith, whole, count, most, least, e)
      | inr l ↦
          let top = length text.locals - 1 in
          let last = own.others top (omega (arith, l)) (omega (arith, l)) in
          let here = found c (bound_in text.body) last.0 (locals_in 0 (take (suc (suc is.last)) c.lines)) top last.1 (s.named tt) (ap (λ l. position (bytes_eq last.0) l) is.locals ∙ last.2) in
          omega (arith, whole, count, most, least, l, here, params)
    ]
