-- Parts of one instruction.
use Rattle.std.proofs.Common.{◌≡◌, ℕ, zero, suc, ◌+◌, ◌-◌, ◌<◌, ◌≤◌, Bool, true, false, not, ◌%◌, ap₂, zero-le, List, [], ◌∷◌, ◌++◌, length, map, drop, Some, refl, sym, ap, ◌∙◌, subst, arith, slice_get, option_map, length-drop, le_trans, length-append}
use Rattle.std.specs.Prelude.{nat_le}
use Rattle.std.proofs.lemmas.Bool.{and_from, false≢true, le-leb, lt-ltb, eq-eqb, ne_eqb}
use Rattle.std.proofs.lemmas.Option.{slice_get-map, slice_get_within}
use Rattle.std.proofs.lemmas.List.{length-map}
use Rattle.bc_resolved.specs.bc_shapes.declared.kinds.Kind.{Kind}
use Rattle.bc_resolved.specs.bc_shapes.declared.kinds.Kind.TheVariants as kinds
use Rattle.bc_resolved.specs.bc_shapes.declared.kinds.Want.{Want}
use Rattle.bc_resolved.specs.bc_shapes.declared.kinds.Want.TheVariants as wants
use Rattle.bc_resolved.specs.bc_shapes.declared.kinds.Give.{Give}
use Rattle.bc_resolved.specs.bc_shapes.declared.shape.Entry.{Entry}
use Rattle.bc_resolved.specs.bc_shapes.Shape.{At, Belows, stands, fits, after, give_of, takes as values_on, gives as given_on}
use Rattle.bc_resolved.proofs.bc_shapes_lemmas.Joins.{belows_refl, belows-length}
use Rattle.bc_resolved.specs.bc_progress.bc_flow.Action.{Action, Straight, Branch, Jump, Setup, PopExcept, EndFinally, Unwind, Return, Raise, instr_action, op_action, jump_action, arguments}
use Rattle.bc_resolved.specs.bc_progress.bc_flow.Edges.{takes, gives, gives_there, falls, target, change, runs, floor, lowest, left}
use Rattle.bc_resolved.specs.mpy_base.declared.limits.TheConstants.{MAX_ITEMS}
use Rattle.emit_measures.specs.bc_scheme.bc_ops.declared.instr.Instr.TheVariants as instrs
use Rattle.bc_resolved.specs.bc_progress.bc_flow.Code.{named}
use Rattle.emit_measures.specs.bc_scheme.bc_ops.declared.instr.Op.{Op}
use Rattle.emit_measures.specs.bc_scheme.bc_ops.declared.instr.Op.TheVariants as ops
use Rattle.emit_measures.specs.bc_scheme.bc_machine.Library.{Line, Item, Plain, Names, Loads, Jumps, Unwinds}
use Rattle.emit_measures.specs.bc_scheme.Context.{Context, plain}
use Rattle.bc_resolved.specs.bc_progress.Plans.{action_of}
use Rattle.bc_resolved.specs.Operands.{IsInside, IsThere, local_in, named_in, pairs_in}
use Rattle.tr_source.proofs.Base.{Setting, Turns, Safe, Shown, shape, cut, cut_all, fine_of, safe_floor, safe_more, length-more}
use Rattle.tr_source.proofs.Parts.{Right, Calm, Part, p_one, Is}

-- an instruction at a position, with any line
abbrev pub On : Context → (line position : ℕ) → Item → Type 0
On c line p item = slice_get c.lines p ≡ Some (record { item = item; line = line })

-- the rules on the operand but for the number of items
abbrev pub Own : Setting → Item → Type 0
Own g item = IsInside (length g.c.lines) item × (local_in item ≤ length g.c.locals) × IsThere (length g.c.children) item × (pairs_in item ≤ MAX_ITEMS)

drop-shorter : (n : ℕ) (ks : List Kind) → length (drop n ks) ≤ length ks
drop-shorter n ks = let e = length-drop n ks in omega (arith, e)

wanted-length : (n : ℕ) (ws : List Want) → n ≤ length (values_on n ws)
wanted-length zero ws = zero-le
wanted-length (suc n) ws = let h = wanted-length n ws in omega (arith, h)

given-length : (n : ℕ) (gs : List Give) → n ≤ length (given_on n gs)
given-length zero gs = zero-le
given-length (suc n) gs = let h = given-length n gs in omega (arith, h)

-- what an operand names is taken or given, but for the pairs of a dict
item_small : (item : Item) → pairs_in item ≤ MAX_ITEMS → length (takes (action_of item)) ≤ MAX_ITEMS → length (gives (action_of item)) ≤ MAX_ITEMS → named_in item ≤ MAX_ITEMS
unfolding named instr_action op_action takes gives
item_small (Plain (instrs.Num ops.BuildTuple n)) a b c = le_trans (wanted-length n []) b
item_small (Plain (instrs.Num ops.BuildList n)) a b c = le_trans (wanted-length n []) b
item_small (Plain (instrs.Num ops.BuildMap n)) a b c = a
item_small (Plain (instrs.Num ops.UnpackSequence n)) a b c = le_trans (given-length n []) c
item_small (Plain (instrs.Num ops.CallFunction n)) a b c = let h = wanted-length (arguments n + 1) [] in let d : arguments n ≤ arguments n + 1 = omega arith in le_trans d (le_trans h b)
item_small (Plain (instrs.Num ops.CallMethod n)) a b c = le_trans (wanted-length (arguments n) (wants.Method ∷ wants.Value ∷ [])) b
item_small (Plain instr) a b c = zero-le
item_small (Names op t) a b c = zero-le
item_small (Loads v) a b c = zero-le
item_small (Jumps op p) a b c = zero-le
item_small (Unwinds p byte) a b c = zero-le

named_small : (item : Item) (i : Action) → action_of item ≡ i → pairs_in item ≤ MAX_ITEMS → length (takes i) ≤ MAX_ITEMS → length (gives i) ≤ MAX_ITEMS → named_in item ≤ MAX_ITEMS
named_small item i e a b c = item_small item a (subst (λ z. length (takes z) ≤ MAX_ITEMS) (sym e) b) (subst (λ z. length (gives z) ≤ MAX_ITEMS) (sym e) c)

pub right_of : (g : Setting) (w : List At) (p line : ℕ) (item : Item) (i : Action) (x : At) (bs : List Kind) → On g.c line p item → action_of item ≡ i → length w ≡ length g.c.lines
    → slice_get w p ≡ Some x → Own g item → Shown g.code g.top w p i x bs → Right g w p
right_of g w p line item i x bs h e long is own s =
    let l : Line = record { item = item; line = line } in
    let a : slice_get g.code.actions p ≡ Some (action_of item) =
    ap (λ z. slice_get z p) g.actions ∙ slice_get-map (λ (l : Line). action_of l.item) g.c.lines p ∙ ap (option_map (λ (l : Line). action_of l.item)) h in
    let long_base : length bs ≤ length x.slots = (let a1 = ap (λ z. length z) s.based in let a2 = drop-shorter (length x.slots - left (change i) x.entries (length x.slots)) x.slots in omega (arith, a1, a2)) in
    let r1 = g.room in let r2 = g.small in let r3 = s.before_top in let r4 = s.deep in let r5 = s.next_top in
    let taken : length (takes i) ≤ MAX_ITEMS = omega (arith, long_base, r1, r2, r3, r4) in
    let l1 : length (after (gives i) (length (takes i)) bs) ≡ length (map (give_of bs) (gives i)) + length (drop (length (takes i)) bs) = length-append (map (give_of bs) (gives i)) (drop (length (takes i)) bs) in
    let l2 : length (map (give_of bs) (gives i)) ≡ length (gives i) = length-map (gives i) (give_of bs) in
    let given : length (gives i) ≤ MAX_ITEMS = omega (arith, l1, l2, r1, r2, r5) in
    record {
      at = x;
      is = is;
      fine = fine_of g.code g.top w p i x bs g.room (long ∙ sym (ap length g.actions ∙ length-map g.c.lines (λ (l : Line). action_of l.item))) (a ∙ ap Some e) s;
      line = l;
      here = h;
      own_local = own.1;
      keeps = record { target = own.0; local = (let a = own.1 in let b = g.slots in omega (arith, a, b)); few = named_small item i e own.3 taken given; there = own.2 };
    }

shown_straight : (g : Setting) (w : List At) (p : ℕ) (wants : List Want) (given : List Give) (above ks out : List Kind) (es fs : List Entry) → Safe w ks es → length es ≤ g.code.n_exc
    → fits wants (above ++ ks) ≡ true → length wants ≤ length above → Belows (after given (length wants) (above ++ ks)) out → slice_get w (suc p) ≡ Some (shape out fs) → Turns (suc p) es fs
    → length (above ++ ks) ≤ g.top → length out ≤ g.top → Shown g.code g.top w p (Straight wants given) (shape (above ++ ks) es) (above ++ ks)
unfolding takes gives gives_there falls target change runs
shown_straight g w p wants given above ks out es fs s held fit few below is turns t1 t2 = record {
  safe = safe_more w above ks es s;
  asked = refl;
  held = held;
  based = cut_all (above ++ ks);
  fit = fit;
  deep = (let a = safe_floor w ks es s in let b = length-more above ks in omega (arith, a, b, few));
  leave = refl;
  next = λ t. record { at = shape out fs; is = is; turns = turns; below = below };
  there = tt;
  before_top = t1;
  next_top = (let e = belows-length _ _ below in omega (arith, e, t2));
  there_top = (let e = drop-shorter (length wants) (above ++ ks) in omega (arith, e, t1));
}

-- a jump's end lies in the code
within : (g : Setting) (w : List At) (t : ℕ) (x : At) (es : List Entry) → length w ≡ length g.c.lines → Is g w t x es → t < length g.c.lines
within g w t x es long i = subst (λ n. t < n) long (slice_get_within w t x i.is)

shown_branch : (g : Setting) (w : List At) (p to : ℕ) (wants : List Want) (given there : List Give) (above ks out out_there : List Kind) (es : List Entry) → Safe w ks es → Is g w to (shape out_there es) es → length es ≤ g.code.n_exc
    → fits wants (above ++ ks) ≡ true → length wants ≤ length above → Belows (after given (length wants) (above ++ ks)) out → Belows (after there (length wants) (above ++ ks)) out_there
    → slice_get w (suc p) ≡ Some (shape out es) → Calm (suc p) es
    → length (above ++ ks) ≤ g.top → length out ≤ g.top → length out_there ≤ g.top → Shown g.code g.top w p (Branch wants given there to) (shape (above ++ ks) es) (above ++ ks)
unfolding takes gives gives_there falls target change runs
shown_branch g w p to wants given there above ks out out_there es s i held fit few below below_there is turns t1 t2 t3 = record {
  safe = safe_more w above ks es s;
  asked = refl;
  held = held;
  based = cut_all (above ++ ks);
  fit = fit;
  deep = (let a = safe_floor w ks es s in let b = length-more above ks in omega (arith, a, b, few));
  leave = refl;
  next = λ t. record { at = shape out es; is = is; turns = turns; below = below };
  there = record { at = shape out_there es; is = i.is; turns = i.calm; below = below_there };
  before_top = t1;
  next_top = (let e = belows-length _ _ below in omega (arith, e, t2));
  there_top = (let e = belows-length _ _ below_there in omega (arith, e, t3));
}

shown_jump : (g : Setting) (w : List At) (p to : ℕ) (ks : List Kind) (es : List Entry) → Safe w ks es → Is g w to (shape ks es) es → length es ≤ g.code.n_exc → length ks ≤ g.top → Shown g.code g.top w p (Jump to) (shape ks es) ks
unfolding takes gives gives_there falls target change runs
shown_jump g w p to ks es s i held t1 = record {
  safe = s;
  asked = refl;
  held = held;
  based = cut_all ks;
  fit = refl;
  deep = (let a = safe_floor w ks es s in omega (arith, a));
  leave = refl;
  next = λ t. absurd (false≢true t);
  there = record { at = shape ks es; is = i.is; turns = i.calm; below = belows_refl ks };
  before_top = t1;
  next_top = t1;
  there_top = t1;
}

pub shown_return : (g : Setting) (w : List At) (p : ℕ) (ks : List Kind) (es : List Entry) → Safe w ks es → length es ≤ g.code.n_exc → suc (length ks) ≤ g.top → Shown g.code g.top w p Return (shape (kinds.Value ∷ ks) es) (kinds.Value ∷ ks)
unfolding takes gives gives_there falls target change runs
shown_return g w p ks es s held t1 = record {
  safe = safe_more w (kinds.Value ∷ []) ks es s;
  asked = refl;
  held = held;
  based = cut_all (kinds.Value ∷ ks);
  fit = refl;
  deep = (let a = safe_floor w ks es s in omega (arith, a));
  leave = refl;
  next = λ t. absurd (false≢true t);
  there = tt;
  before_top = t1;
  next_top = omega (arith, t1);
  there_top = omega (arith, t1);
}

shown_raise : (g : Setting) (w : List At) (p count : ℕ) (above ks : List Kind) (es : List Entry) → Safe w ks es → length es ≤ g.code.n_exc → fits (values_on count []) (above ++ ks) ≡ true → length (values_on count []) ≤ length above
    → length (above ++ ks) ≤ g.top → Shown g.code g.top w p (Raise count) (shape (above ++ ks) es) (above ++ ks)
unfolding takes gives gives_there falls target change runs
shown_raise g w p count above ks es s held fit few t1 = record {
  safe = safe_more w above ks es s;
  asked = refl;
  held = held;
  based = cut_all (above ++ ks);
  fit = fit;
  deep = (let a = safe_floor w ks es s in let b = length-more above ks in omega (arith, a, b, few));
  leave = refl;
  next = λ t. absurd (false≢true t);
  there = tt;
  before_top = t1;
  next_top = (let e = drop-shorter (length (values_on count [])) (above ++ ks) in omega (arith, e, t1));
  there_top = (let e = drop-shorter (length (values_on count [])) (above ++ ks) in omega (arith, e, t1));
}

-- the entry that a setup pushes, and the same after it was entered
abbrev pub waiting : ℕ → Bool → List Kind → Entry
waiting h last ks = record { handler = h; is_finally = last; active = false; height = length ks }

abbrev pub active : ℕ → Bool → List Kind → Entry
active h last ks = record { handler = h; is_finally = last; active = true; height = length ks }

shown_setup : (g : Setting) (w : List At) (p h : ℕ) (last : Bool) (ks : List Kind) (es : List Entry) → Safe w ks es → suc (length es) ≤ g.code.n_exc
    → slice_get w (suc p) ≡ Some (shape ks (waiting h last ks ∷ es)) → Calm (suc p) (waiting h last ks ∷ es) → length ks ≤ g.top → Shown g.code g.top w p (Setup h last) (shape ks es) ks
unfolding takes gives gives_there falls target change runs
shown_setup g w p h last ks es s held is turns t1 = record {
  safe = s;
  asked = refl;
  held = held;
  based = cut_all ks;
  fit = refl;
  deep = (let a = safe_floor w ks es s in omega (arith, a));
  leave = refl;
  next = λ t. record { at = shape ks (waiting h last ks ∷ es); is = is; turns = turns; below = belows_refl ks };
  there = tt;
  before_top = t1;
  next_top = t1;
  there_top = t1;
}

shown_pop : (g : Setting) (w : List At) (p to : ℕ) (ks : List Kind) (e : Entry) (es : List Entry) → Safe w ks (e ∷ es) → e.is_finally ≡ false → e.height ≡ length ks → Is g w to (shape ks es) es
    → suc (length es) ≤ g.code.n_exc → length ks ≤ g.top → Shown g.code g.top w p (PopExcept to) (shape ks (e ∷ es)) ks
unfolding takes gives gives_there falls target change runs
shown_pop g w p to ks e es s kind high i held t1 = record {
  safe = s;
  asked = ap not kind;
  held = omega (arith, held);
  based = cut_all ks;
  fit = refl;
  deep = omega (arith, high);
  leave = (let q : length ks - 0 ≡ e.height = omega (arith, high) in eq-eqb _ _ q);
  next = λ t. absurd (false≢true t);
  there = record { at = shape ks es; is = i.is; turns = i.calm; below = belows_refl ks };
  before_top = t1;
  next_top = t1;
  there_top = t1;
}

shown_end : (g : Setting) (w : List At) (p : ℕ) (k : Kind) (ks : List Kind) (e : Entry) (es : List Entry) → Safe w ks (e ∷ es) → stands wants.Cause k ≡ true → e.active ≡ true → e.height ≡ length ks
    → slice_get w (suc p) ≡ Some (shape ks es) → Calm (suc p) es → suc (length es) ≤ g.code.n_exc → suc (length ks) ≤ g.top → Shown g.code g.top w p EndFinally (shape (k ∷ ks) (e ∷ es)) (k ∷ ks)
unfolding takes gives gives_there falls target change runs
shown_end g w p k ks e es s kind on high is turns held t1 = record {
  safe = safe_more w (k ∷ []) ks (e ∷ es) s;
  asked = on;
  held = omega (arith, held);
  based = cut_all (k ∷ ks);
  fit = and_from _ _ kind refl;
  deep = omega (arith, high);
  leave = (let q : suc (length ks) - 1 ≡ e.height = omega (arith, high) in eq-eqb _ _ q);
  next = λ t. record { at = shape ks es; is = is; turns = turns; below = belows_refl ks };
  there = tt;
  before_top = t1;
  next_top = omega (arith, t1);
  there_top = omega (arith, t1);
}

-- the slots of an iterator, or none
abbrev pub iters : Bool → List Kind
iters true = kinds.Iter4 ∷ kinds.Iter3 ∷ kinds.Iter2 ∷ kinds.Iter1 ∷ []
iters false = []

shown_unwind : (g : Setting) (w : List At) (p to count : ℕ) (it : Bool) (ks bs : List Kind) (es : List Entry) → Safe w ks es → count ≤ length es → cut (lowest count es (length ks)) ks ≡ iters it ++ bs
    → floor (drop count es) ≤ length bs → Is g w to (shape bs (drop count es)) (drop count es) → length es ≤ g.code.n_exc → length ks ≤ g.top → Shown g.code g.top w p (Unwind to count it) (shape ks es) (iters it ++ bs)
unfolding takes gives gives_there falls target change runs
shown_unwind g w p to count true ks bs es s few inner low i held t1 =
    let l : length (drop (length ks - lowest count es (length ks)) ks) ≤ length ks = drop-shorter _ ks in
    let e = ap length inner in
    record {
      safe = s;
      asked = le-leb _ _ few;
      held = (let d = length-drop count es in omega (arith, d, held));
      based = inner;
      fit = refl;
      deep = omega (arith, low);
      leave = refl;
      next = λ t. absurd (false≢true t);
      there = record { at = shape bs (drop count es); is = i.is; turns = i.calm; below = belows_refl bs };
      before_top = t1;
      next_top = omega (arith, l, e, t1);
      there_top = omega (arith, l, e, t1);
    }
shown_unwind g w p to count false ks bs es s few inner low i held t1 =
    let l : length (drop (length ks - lowest count es (length ks)) ks) ≤ length ks = drop-shorter _ ks in
    let e = ap length inner in
    record {
      safe = s;
      asked = le-leb _ _ few;
      held = (let d = length-drop count es in omega (arith, d, held));
      based = inner;
      fit = refl;
      deep = omega (arith, low);
      leave = refl;
      next = λ t. absurd (false≢true t);
      there = record { at = shape bs (drop count es); is = i.is; turns = i.calm; below = belows_refl bs };
      before_top = t1;
      next_top = omega (arith, l, e, t1);
      there_top = omega (arith, l, e, t1);
    }

module _ (g : Setting) where
  -- an instruction that takes slots and gives slots
  pub p_straight_to : (qs es fs : List Entry) (p line : ℕ) (item : Item) → On g.c line p item → Own g item → (wants : List Want) (given : List Give) → action_of item ≡ Straight wants given
      → (above ks out : List Kind) → fits wants (above ++ ks) ≡ true → length wants ≤ length above → Belows (after given (length wants) (above ++ ks)) out
      → length (above ++ ks) ≤ g.top → length out ≤ g.top → length es ≤ g.code.n_exc → (Calm p qs → Calm (suc p) qs → Turns (suc p) es fs) → Part g qs (λ w. Safe w ks es) p (shape (above ++ ks) es) (suc p) (shape out fs)
  p_straight_to qs es fs p line item h own wants given e above ks out fit few below t1 t2 held turn =
      p_one g qs (λ w. Safe w ks es) p (shape (above ++ ks) es) (shape out fs) (λ w long here next quiet s.
      right_of g w p line item (Straight wants given) _ (above ++ ks) h e long here own
      (shown_straight g w p wants given above ks out es fs s held fit few below next (turn (quiet p (omega arith) (omega arith)) (quiet (suc p) (omega arith) (omega arith))) t1 t2))

  pub p_straight : (es : List Entry) (p line : ℕ) (item : Item) → On g.c line p item → Own g item → (wants : List Want) (given : List Give) → action_of item ≡ Straight wants given
      → (above ks out : List Kind) → fits wants (above ++ ks) ≡ true → length wants ≤ length above → Belows (after given (length wants) (above ++ ks)) out
      → length (above ++ ks) ≤ g.top → length out ≤ g.top → length es ≤ g.code.n_exc → Part g es (λ w. Safe w ks es) p (shape (above ++ ks) es) (suc p) (shape out es)
  p_straight es p line item h own wants given e above ks out fit few below t1 t2 held =
      p_straight_to es es es p line item h own wants given e above ks out fit few below t1 t2 held (λ a b. b)

  -- one that jumps too
  pub p_branch : (es : List Entry) (p line : ℕ) (op : Op) (to : ℕ) → On g.c line p (Jumps op to) → (wants : List Want) (given there : List Give) → jump_action op to ≡ Branch wants given there to
      → (above ks out out_there : List Kind) → fits wants (above ++ ks) ≡ true → length wants ≤ length above → Belows (after given (length wants) (above ++ ks)) out → Belows (after there (length wants) (above ++ ks)) out_there
      → length (above ++ ks) ≤ g.top → length out ≤ g.top → length out_there ≤ g.top → length es ≤ g.code.n_exc
      → Part g es (λ w. Safe w ks es × Is g w to (shape out_there es) es) p (shape (above ++ ks) es) (suc p) (shape out es)
  p_branch es p line op to h wants given there e above ks out out_there fit few below below_there t1 t2 t3 held =
      p_one g es (λ w. Safe w ks es × Is g w to (shape out_there es) es) p (shape (above ++ ks) es) (shape out es) (λ w long here next quiet s.
      right_of g w p line (Jumps op to) (Branch wants given there to) _ (above ++ ks) h e long here (within g w to _ es long s.1, zero-le, tt, zero-le)
      (shown_branch g w p to wants given there above ks out out_there es s.0 s.1 held fit few below below_there next (quiet (suc p) (omega arith) (omega arith)) t1 t2 t3))

  pub p_jump : (es : List Entry) (p line to : ℕ) → On g.c line p (Jumps ops.Jump to) → (ks : List Kind) (y : At) → length ks ≤ g.top → length es ≤ g.code.n_exc
      → Part g es (λ w. Safe w ks es × Is g w to (shape ks es) es) p (shape ks es) (suc p) y
  unfolding jump_action
  p_jump es p line to h ks y t1 held =
      p_one g es (λ w. Safe w ks es × Is g w to (shape ks es) es) p (shape ks es) y (λ w long here next quiet s.
      right_of g w p line (Jumps ops.Jump to) (Jump to) _ ks h refl long here (within g w to _ es long s.1, zero-le, tt, zero-le) (shown_jump g w p to ks es s.0 s.1 held t1))

  pub p_return : (es : List Entry) (p line : ℕ) → On g.c line p (plain ops.ReturnValue) → (ks : List Kind) (y : At) → suc (length ks) ≤ g.top → length es ≤ g.code.n_exc
      → Part g es (λ w. Safe w ks es) p (shape (kinds.Value ∷ ks) es) (suc p) y
  unfolding instr_action op_action
  p_return es p line h ks y t1 held =
      p_one g es (λ w. Safe w ks es) p (shape (kinds.Value ∷ ks) es) y (λ w long here next quiet s.
      right_of g w p line (plain ops.ReturnValue) Return _ (kinds.Value ∷ ks) h refl long here (tt, zero-le, tt, zero-le) (shown_return g w p ks es s held t1))

  pub p_raise : (es : List Entry) (p line : ℕ) (item : Item) → On g.c line p item → Own g item → (count : ℕ) → action_of item ≡ Raise count → (above ks : List Kind) (y : At)
      → fits (values_on count []) (above ++ ks) ≡ true → length (values_on count []) ≤ length above → length (above ++ ks) ≤ g.top → length es ≤ g.code.n_exc
      → Part g es (λ w. Safe w ks es) p (shape (above ++ ks) es) (suc p) y
  p_raise es p line item h own count e above ks y fit few t1 held =
      p_one g es (λ w. Safe w ks es) p (shape (above ++ ks) es) y (λ w long here next quiet s.
      right_of g w p line item (Raise count) _ (above ++ ks) h e long here own (shown_raise g w p count above ks es s held fit few t1))

  -- the mark of an entry that waits
  pub calm_waiting : (t h : ℕ) (last : Bool) (ks : List Kind) (es : List Entry) → t < h → Calm t es → Calm t (waiting h last ks ∷ es)
  calm_waiting t h last ks es le c = record {
    same = ap₂ (λ b fs. (let e : Entry = record { handler = h; is_finally = last; active = b; height = length ks } in e) ∷ fs) (ne_eqb h t (λ e. let r : t < h = le in absurd (omega (arith, r, e)))) c.same;
    marked = and_from _ _ (lt-ltb _ _ le) c.marked;
  }

  pub calm_active : (t h : ℕ) (last : Bool) (ks : List Kind) (es : List Entry) → h ≤ t → Calm t es → Calm t (active h last ks ∷ es)
  calm_active t h last ks es le c = record { same = ap (λ fs. active h last ks ∷ fs) c.same; marked = and_from _ _ (le-leb _ _ le) c.marked }

  -- an entry that waits is entered on arrival
  pub turns_entered : (t : ℕ) (last : Bool) (ks : List Kind) (es : List Entry) → Calm t es → Turns t (waiting t last ks ∷ es) (active t last ks ∷ es)
  turns_entered t last ks es c = record {
    same = ap₂ (λ b fs. (let e : Entry = record { handler = t; is_finally = last; active = b; height = length ks } in e) ∷ fs) (eq-eqb t t refl) c.same;
    marked = and_from _ _ (le-leb t t (omega arith)) c.marked;
  }

  pub p_setup : (es : List Entry) (p line h : ℕ) (op : Op) (last : Bool) → On g.c line p (Jumps op h) → jump_action op h ≡ Setup h last → suc p < h → (ks : List Kind) → length ks ≤ g.top → suc (length es) ≤ g.code.n_exc
      → (x : At) → Part g es (λ w. Safe w ks es × Is g w h x es) p (shape ks es) (suc p) (shape ks (waiting h last ks ∷ es))
  p_setup es p line h op last has e less ks t1 held x =
      p_one g es (λ w. Safe w ks es × Is g w h x es) p (shape ks es) (shape ks (waiting h last ks ∷ es)) (λ w long here next quiet s.
      right_of g w p line (Jumps op h) (Setup h last) _ ks has e long here (within g w h x es long s.1, zero-le, tt, zero-le)
      (shown_setup g w p h last ks es s.0 held next (calm_waiting (suc p) h last ks es less (quiet (suc p) (omega arith) (omega arith))) t1))

  pub p_pop : (qs es : List Entry) (p line to : ℕ) (e : Entry) → On g.c line p (Jumps ops.PopExceptJump to) → e.is_finally ≡ false → (ks : List Kind) → e.height ≡ length ks → (y : At) → length ks ≤ g.top → suc (length es) ≤ g.code.n_exc
      → Part g qs (λ w. Safe w ks (e ∷ es) × Is g w to (shape ks es) es) p (shape ks (e ∷ es)) (suc p) y
  unfolding jump_action
  p_pop qs es p line to e h kind ks high y t1 held =
      p_one g qs (λ w. Safe w ks (e ∷ es) × Is g w to (shape ks es) es) p (shape ks (e ∷ es)) y (λ w long here next quiet s.
      right_of g w p line (Jumps ops.PopExceptJump to) (PopExcept to) _ ks h refl long here (within g w to _ es long s.1, zero-le, tt, zero-le) (shown_pop g w p to ks e es s.0 kind high s.1 held t1))

  pub p_end_finally : (es : List Entry) (p line : ℕ) (e : Entry) → On g.c line p (plain ops.EndFinally) → (k : Kind) → stands wants.Cause k ≡ true → e.active ≡ true → (ks : List Kind) → e.height ≡ length ks
      → suc (length ks) ≤ g.top → suc (length es) ≤ g.code.n_exc → Part g es (λ w. Safe w ks (e ∷ es)) p (shape (k ∷ ks) (e ∷ es)) (suc p) (shape ks es)
  unfolding instr_action op_action
  p_end_finally es p line e h k kind on ks high t1 held =
      p_one g es (λ w. Safe w ks (e ∷ es)) p (shape (k ∷ ks) (e ∷ es)) (shape ks es) (λ w long here next quiet s.
      right_of g w p line (plain ops.EndFinally) EndFinally _ (k ∷ ks) h refl long here (tt, zero-le, tt, zero-le)
      (shown_end g w p k ks e es s kind on high next (quiet (suc p) (omega arith) (omega arith)) held t1))

  pub p_unwind : (es : List Entry) (p line to byte count : ℕ) (it : Bool) → On g.c line p (Unwinds to byte) → byte % 128 ≡ count → nat_le 128 byte ≡ it → (ks bs : List Kind) → count ≤ length es
      → cut (lowest count es (length ks)) ks ≡ iters it ++ bs → floor (drop count es) ≤ length bs → (y : At) → length ks ≤ g.top → length es ≤ g.code.n_exc
      → Part g es (λ w. Safe w ks es × Is g w to (shape bs (drop count es)) (drop count es)) p (shape ks es) (suc p) y
  p_unwind es p line to byte count it h e1 e2 ks bs few inner low y t1 held =
      p_one g es (λ w. Safe w ks es × Is g w to (shape bs (drop count es)) (drop count es)) p (shape ks es) y (λ w long here next quiet s.
      right_of g w p line (Unwinds to byte) (Unwind to count it) _ (iters it ++ bs) h (ap₂ (Unwind to) e1 e2) long here (within g w to _ (drop count es) long s.1, zero-le, tt, zero-le)
      (shown_unwind g w p to count it ks bs es s.0 few inner low s.1 held t1))
