-- What the lines of a code are, from one position to another: each may be written, and none falls.
use Rattle.std.proofs.Common.{◌≡◌, inl, inr, ℕ, suc, ◌<◌, ◌≤◌, Bool, true, false, Some, sym, ap, subst, ◌∙◌, arith, slice_get, if◌then◌else◌}
use Rattle.std.specs.Prelude.{nat_eq}
use Rattle.std.proofs.lemmas.Bool.{cases_lt}
use Rattle.emit_module.specs.bc_machine.Library.{Item, Jumps, Line}
use Rattle.emit_module.specs.bc_scheme.Context.{Context, Has, Behind, line_in, line_before}
use Rattle.emit_module.specs.bc_machine.bc_ops.declared.instr.Op.{Op}
use Rattle.emit_module.specs.bc_machine.bc_ops.Table.{code_of, form_of}
use Rattle.emit_module.specs.bc_labels.Labels.{HasOffset}
use Rattle.mpy_compile.proofs.Wells.{IsWell, IsPut, IsAhead, put_well, put_ahead, Kept}

module _ (c : Context) (size n_state children : ℕ) (kept : (p : ℕ) (l : Line) → slice_get c.lines p ≡ Some l → Kept size n_state children l.item) where
  -- the line that an instruction of a statement in this line has
  abbrev pub shown : ℕ → ℕ
  shown line = if nat_eq c.level 3 then 1 else line

  shown_by : (b : Bool) (m n : ℕ) → m ≤ n → (if b then 1 else m) ≤ (if b then 1 else n)
  shown_by true m n h = omega arith
  shown_by false m n h = h

  pub shown_up : (m n : ℕ) → m ≤ n → shown m ≤ shown n
  shown_up m n h = shown_by (nat_eq c.level 3) m n h

  abbrev pub before : ℕ → ℕ
  before p = line_before c.lines p

  pub record Fine (i : ℕ) (l : Line) : Type 0 where
    pub well : IsWell l.item
    pub ahead : IsAhead i l.item
    pub up : before i ≤ l.line

  -- from one line to another, where no line in front is above the first
  pub record Region (p q first last : ℕ) : Type 0 where
    pub rises : p ≤ q
    pub ends : before p ≤ shown first → before q ≤ shown last
    pub each : before p ≤ shown first → (i : ℕ) (l : Line) → p ≤ i → i < q → slice_get c.lines i ≡ Some l → Fine i l

  pub empty : (p first last : ℕ) → first ≤ last → Region p p first last
  empty p first last le = record {
    rises = omega arith;
    ends = λ h. let up = shown_up first last le in omega (arith, h, up);
    each = λ h i l a b e. absurd (omega (arith, a, b));
  }

  pub joined : {p m q first next last : ℕ} → Region p m first next → Region m q next last → Region p q first last
  joined {m = m} s t = record {
    rises = let a = s.rises in let b = t.rises in omega (arith, a, b);
    ends = λ h. t.ends (s.ends h);
    each = λ h i l a b e. elim (cases_lt i m) [ inl less ↦ s.each h i l a less e | inr more ↦ t.each (s.ends h) i l more b e ];
  }

  pub wider : {p q first last : ℕ} (other further : ℕ) → other ≤ first → last ≤ further → Region p q first last → Region p q other further
  wider {first = first} {last = last} other further le ge s =
      let a = shown_up other first le in
      let b = shown_up last further ge in
      record {
        rises = s.rises;
        ends = λ h. let e = s.ends (omega (arith, h, a)) in omega (arith, e, b);
        each = λ h. s.each (omega (arith, h, a));
      }

  same_place : (p i : ℕ) → p ≤ i → i < suc p → i ≡ p
  same_place p i a b = omega (arith, a, b)

  got : {A : Type 0} → (x y : A) → Some x ≡ Some y → x ≡ y
  got x y e = cc

  one : (p line first last : ℕ) (item : Item) → slice_get c.lines p ≡ Some (record { item = item; line = line }) → IsWell item → IsAhead p item
      → (before p ≤ shown first → before p ≤ line) → (before p ≤ shown first → line ≤ shown last) → Region p (suc p) first last
  one p line first last item e w ahead up down = record {
    rises = omega arith;
    ends = λ h. let here : before (suc p) ≡ line = ap line_in e in let d = down h in omega (arith, here, d);
    each = λ h i l a b f.
        let x : Line = record { item = item; line = line } in
        let at : slice_get c.lines i ≡ Some x = subst (λ n. slice_get c.lines n ≡ Some x) (sym (same_place p i a b)) e in
        subst (λ n. Fine n l) (sym (same_place p i a b)) (subst (λ z. Fine p z) (got x l (sym at ∙ f)) (record { well = w; ahead = ahead; up = up h }));
  }

  -- an instruction of a statement in this line
  pub has : (p line : ℕ) (item : Item) → (Kept size n_state children item → IsPut item) → Has c line p item → Region p (suc p) line line
  has p line item w h =
      let x : Line = record { item = item; line = shown line } in
      let put = w (kept p x h) in
      one p (shown line) line line item h (put_well item put) (put_ahead p item put) (λ le. le) (λ le. let n = shown line in omega arith)

  -- a jump forward of a statement in this line
  pub has_ahead : (p line : ℕ) (op : Op) (target : ℕ) → HasOffset (form_of (code_of op)) op → p < target → Has c line p (Jumps op target) → Region p (suc p) line line
  has_ahead p line op target jumps forward h = one p (shown line) line line (Jumps op target) h jumps (inr forward) (λ le. le) (λ le. let n = shown line in omega arith)

  -- one with the line of the instruction in front of it
  pub behind : (p line : ℕ) (item : Item) → (Kept size n_state children item → IsPut item) → Behind c p item → Region p (suc p) line line
  behind p line item w h =
      let x : Line = record { item = item; line = before p } in
      let put = w (kept p x h) in
      one p (before p) line line item h (put_well item put) (put_ahead p item put) (λ le. let n = before p in omega arith) (λ le. le)

  pub behind_ahead : (p line : ℕ) (op : Op) (target : ℕ) → HasOffset (form_of (code_of op)) op → p < target → Behind c p (Jumps op target) → Region p (suc p) line line
  behind_ahead p line op target jumps forward h = one p (before p) line line (Jumps op target) h jumps (inr forward) (λ le. let n = before p in omega arith) (λ le. le)
