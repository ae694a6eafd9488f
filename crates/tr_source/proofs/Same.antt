-- Two codes whose first lines are the same.
use Rattle.std.proofs.Common.{◌≡◌, ℕ, zero, suc, ◌<◌, Bool, List, Some, refl, sym, ap, ap₂, ◌∙◌, arith, slice_get, ◌⊎◌, inl, inr}
use Rattle.emit_measures.specs.bc_scheme.bc_machine.Library.{Item, Line, Code}
use Rattle.emit_measures.specs.bc_scheme.Context.{Context, Behind, line_before, line_in}
use Rattle.emit_measures.specs.bc_scheme.Statements.{Around}

-- the same function with another code, in another module
abbrev pub other : Context → List Line → List Code → Context
other c ls cs = record { lines = ls; level = c.level; is_module = c.is_module; locals = c.locals; children = c.children; base = c.base; codes = cs }

-- no child stands twice
abbrev pub Distinct : Context → Type 0
Distinct c = (i j n : ℕ) → slice_get c.children i ≡ Some n → slice_get c.children j ≡ Some n → j ≡ i

pub own_path : (it : Bool) → {b b2 t t2 : ℕ} → b2 ≡ b → t2 ≡ t → (let x : Around = record { brk = b2; cont = t2; count = 0; iterator = it } in x) ≡ record { brk = b; cont = t; count = 0; iterator = it }
own_path it eb et = ap₂ (λ b t. let x : Around = record { brk = b; cont = t; count = 0; iterator = it } in x) eb et

module _ (c : Context) (ls : List Line) (cs : List Code) (distinct : Distinct c) where
  -- the first lines are the same
  abbrev pub Same : ℕ → Type 0
  Same n = (r : ℕ) → r < n → slice_get ls r ≡ slice_get c.lines r

  same_next : {p p2 : ℕ} {x y : Line} → p2 ≡ p → Same p → y ≡ x → slice_get c.lines p ≡ Some x → slice_get ls p2 ≡ Some y → Same (suc p)
  same_next {p = p} {p2 = p2} {x = x} {y = y} ep sp e h u r lt = by_place (last_or r p lt)
    where
      last_or : (r p : ℕ) → r < suc p → (r < p) ⊎ (r ≡ p)
      last_or zero zero lt = inr refl
      last_or zero (suc p) lt = inl (omega arith)
      last_or (suc r) zero lt = absurd (omega (arith, lt))
      last_or (suc r) (suc p) lt = elim (last_or r p (omega (arith, lt))) [ inl h ↦ inl (omega (arith, h)) | inr h ↦ inr (ap suc h) ]

      by_place : (r < p) ⊎ (r ≡ p) → slice_get ls r ≡ slice_get c.lines r
      by_place (inl a) = sp r a
      by_place (inr a) = ap (slice_get ls) (a ∙ sym ep) ∙ u ∙ ap Some e ∙ sym h ∙ ap (slice_get c.lines) (sym a)

  pub same_has : {n p p2 : ℕ} {item item2 : Item} → p2 ≡ p → Same p → item2 ≡ item → slice_get c.lines p ≡ Some (record { item = item; line = n }) → slice_get ls p2 ≡ Some (record { item = item2; line = n }) → Same (suc p)
  same_has {n = n} ep sp e h u = same_next ep sp (ap (λ i. let l : Line = record { item = i; line = n } in l) e) h u

  before_same : (p : ℕ) → Same p → line_before ls p ≡ line_before c.lines p
  before_same zero sp = refl
  before_same (suc p) sp = ap line_in (sp p (omega arith))

  pub same_behind : {p p2 : ℕ} {item item2 : Item} → p2 ≡ p → Same p → item2 ≡ item → Behind c p item → Behind (other c ls cs) p2 item2 → Same (suc p)
  same_behind {p = p} {p2 = p2} ep sp e h u = same_next ep sp (ap₂ (λ i n. let l : Line = record { item = i; line = n } in l) e (ap (line_before ls) ep ∙ before_same p sp)) h u
