-- The machine follows an expression.
use Rattle.std.proofs.Common.{◌≡◌, ℕ, zero, suc, pred, ◌+◌, ◌*◌, ◌≤◌, ◌<◌, Bool, true, false, List, [], ◌∷◌, length, map, Option, Some, None, refl, sym, ap, ◌∙◌, subst, arith}
use Rattle.std.proofs.lemmas.Bool.{ltb-true}
use Rattle.std.specs.Prelude.{Result, Ok, Err, position, bytes_eq, nat_lt, nat_le, if◌then◌else◌}
use Rattle.bc_scheme.specs.mpy_base.World.{DictObject}
use Rattle.bc_scheme.specs.mpy_base.Weights.{room_for}
use Rattle.bc_scheme.specs.mpy_base.Val.{Val, Nil, Truth, Int, Str, Fixed, Empty, Built, At, PlainWorld}
use Rattle.bc_scheme.specs.bc_ops.declared.instr.Op.TheVariants as ops
use Rattle.bc_scheme.specs.bc_ops.declared.instr.Instr.TheVariants as instrs
use Rattle.bc_scheme.specs.py_values.Shown.{PlainHeap, truth}
use Rattle.bc_scheme.specs.py_primitives.Operators.{binary, unary, unary_not}
use Rattle.bc_scheme.specs.py_primitives.Outcome.{Outcome, Stop, Raises, Full, making, making_tuple, making_list}
use Rattle.bc_scheme.specs.py_primitives.Uses.{get_item, get_attr}
use Rattle.bc_scheme.specs.py_tree.declared.expr.CompareOp.{CompareOp}
use Rattle.bc_scheme.specs.py_effects.Effect.{Place, on_heap, Gives, Fails, Thrown, Filled, failed, fault_at}
use Rattle.bc_scheme.specs.py_effects.Names.{Locals, load_local, load_global, Looked, Bound, Free, load_method, store_pair}
use Rattle.bc_scheme.specs.py_effects.Calling as calling
use Rattle.bc_scheme.specs.py_effects.Calling.{callee_of, call_method}
use Rattle.bc_scheme.specs.py_meaning.Tree.{Name, Expr, Exprs, Links, Link, Pairs, Keys, count, pair_count, key_count}
use Rattle.bc_scheme.specs.py_meaning.Program.{Program}
use Rattle.bc_scheme.specs.py_meaning.Outcomes.{Out, EVal, e_turns, e_then, e_given, e_does, e_choose}
use Rattle.bc_scheme.specs.py_meaning.Frames as meanings
use Rattle.bc_scheme.specs.py_meaning.Frames.{place_at, loaded, load_name}
use Rattle.bc_scheme.specs.py_meaning.Expressions as meant
use Rattle.bc_scheme.specs.py_meaning.Expressions.{unary_of, binary_of, negated, apply, apply_looked, values, key_values, and_from, or_from, with_pairs, e_case}
use Rattle.bc_scheme.specs.py_meaning.Meaning.{sem}
use Rattle.bc_scheme.specs.bc_machine.Library.{Item, Plain, Names, Loads, Jumps, Library}
use Rattle.bc_scheme.specs.bc_machine.State.{Slot, Value, Object, Entry, Frame, State, Running, remark, go}
use Rattle.bc_scheme.specs.bc_machine.Parts.{looked_on}
use Rattle.bc_scheme.specs.bc_machine.Operations as operations
use Rattle.bc_scheme.specs.bc_machine.Operations.{Operands}
use Rattle.bc_scheme.specs.bc_machine.Step as steps
use Rattle.bc_scheme.specs.bc_machine.Step.{item_step, one_step, two_step, call_function, call_looked}
use Rattle.bc_scheme.specs.Context.{Context, Has, plain, number, load_by, constant, unary_number, negation, comparing, arithmetic}
use Rattle.bc_scheme.specs.Expressions.{StandsC, straight, StandsE, literal, name, one, «not», two, «and», «or», compare, chain, cond, tuple, items, dict, attr, index, call, method, StandsEs, no_expr, next, StandsO, no_operand, operand, StandsL, last, link, StandsD, no_pair, pair, StandsK, no_key, key}
use Rattle.bc_scheme.specs.Expressions as patterns
use Rattle.sim_stmt.specs.Sites.{Site, at, Sited, Quiet, Fits}
use Rattle.sim_stmt.specs.Lands.{valued}
use Rattle.sim_stmt.specs.Follows.{pushed, laid}
use Rattle.sim_stmt.proofs.Goes.{g_here, g_open, g_wide}
use Rattle.sim_stmt.proofs.Base.{stepped, quiet_in, fits_more, thrown, went}
use Rattle.sim_stmt.proofs.Lands.{Falls, falls_here, falls_over, GoesO, o_wide, o_map, o_bind, o_turned, o_gives, o_prim, o_post, o_goes}
use Rattle.sim_stmt.proofs.Operands.{values_of, below_of, operands_are, unary_found, binary_found, bare, compare_found, compare_straight, compare_negated}
use Rattle.sim_stmt.proofs.ExprSizes.{esize, essize, lsize, psize, ksize, e_pos, c_le, e_le, es_le, o_le, l_le, d_le, k_le}

-- ---- single items

-- a constant
pub literal_step : (library : Library) (place : Place) (paid : ℕ) (f : Frame) (frames : List Frame) (w : PlainWorld) (v : Val)
    → item_step library place paid f frames w (constant v) ≡ go (suc f.position) (Value v ∷ f.slots) f.entries f frames w
literal_step library place paid f frames w Nil = refl
literal_step library place paid f frames w (Truth true) = refl
literal_step library place paid f frames w (Truth false) = refl
literal_step library place paid f frames w (Int z) = refl
literal_step library place paid f frames w (Str text) = by_length (nat_le (length text) 10)
  where
    by_length : (b : Bool) → item_step library place paid f frames w (if b then Names ops.LoadConstString text else Loads (Str text)) ≡ go (suc f.position) (Value (Str text) ∷ f.slots) f.entries f frames w
    by_length true = refl
    by_length false = refl
literal_step library place paid f frames w (Fixed vs) = refl
literal_step library place paid f frames w Empty = refl
literal_step library place paid f frames w (Built b) = refl
literal_step library place paid f frames w (At n) = refl

-- the forms of a name
short_same : (library : Library) (place : Place) (paid slot : ℕ) (f : Frame) (frames : List Frame) (w : PlainWorld) (b : Bool)
    → item_step library place paid f frames w (number (if b then ops.LoadFast else ops.LoadFastN) slot) ≡ steps.gives library place paid f frames w f.slots (load_local w f.locals slot)
short_same library place paid slot f frames w true = refl
short_same library place paid slot f frames w false = refl

module_same : (library : Library) (place : Place) (paid : ℕ) (n : Name) (f : Frame) (frames : List Frame) (w : PlainWorld) (b : Bool)
    → item_step library place paid f frames w (Names (if b then ops.LoadName else ops.LoadGlobal) n) ≡ steps.gives library place paid f frames w f.slots (load_global w f.names n)
module_same library place paid n f frames w true = refl
module_same library place paid n f frames w false = refl

pub load_step : (library : Library) (place : Place) (paid : ℕ) (c : Context) (g : meanings.Frame) (n : Name) (f : Frame) (frames : List Frame) (w : PlainWorld) (o : Option ℕ) → f.names ≡ g.names
    → item_step library place paid f frames w (load_by c n o) ≡ steps.gives library place paid f frames w f.slots (loaded g f.locals n w o)
load_step library place paid c g n f frames w (Some slot) e = short_same library place paid slot f frames w (nat_lt slot 16)
load_step library place paid c g n f frames w None e =
    module_same library place paid n f frames w c.is_module ∙ ap (λ a. steps.gives library place paid f frames w f.slots (load_global w a n)) e

-- `not` behind an effect on the heap
negated_visits : (place : Place) (v : Val) (heap : PlainHeap) (n t : ℕ) (w w0 : PlainWorld)
    → e_turns n t w0 (e_given (Gives (Truth (Rattle.std.specs.Prelude.not (truth heap v))) (record w { heap = heap })))
    ≡ e_then (e_turns n t w0 (e_given (Gives v (record w { heap = heap })))) (λ u t1 w1. e_does place (on_heap w1 (unary_not w1.heap u)) t1 w1)
negated_visits place v heap zero t w w0 = refl
negated_visits place v heap (suc n) zero w w0 = refl
negated_visits place v heap (suc n) (suc t) w w0 = negated_visits place v heap n t w w0

failed_visits : {A B : Type 0} (f : Fails) (nx : A → ℕ → PlainWorld → Out B) (n t : ℕ) (w0 : PlainWorld)
    → e_turns n t w0 (e_given (failed f)) ≡ e_then (e_turns n t w0 (e_given (failed f))) nx
failed_visits (Thrown x w) nx zero t w0 = refl
failed_visits (Filled e w) nx zero t w0 = refl
failed_visits f nx (suc n) zero w0 = refl
failed_visits f nx (suc n) (suc t) w0 = failed_visits f nx n t w0

negated_by : (place : Place) (answer : Result Val Stop) (heap : PlainHeap) (n t : ℕ) (w : PlainWorld)
    → e_does place (on_heap w (negated (record { answer = answer; heap = heap; visits = n }))) t w
    ≡ e_then (e_does place (on_heap w (record { answer = answer; heap = heap; visits = n })) t w) (λ u t1 w1. e_does place (on_heap w1 (unary_not w1.heap u)) t1 w1)
negated_by place (Ok v) heap n t w =
    let e : n + 0 ≡ n = omega arith in
    ap (λ m. e_turns m t w (e_given (Gives (Truth (Rattle.std.specs.Prelude.not (truth heap v))) (record w { heap = heap })))) e ∙ negated_visits place v heap n t w w
negated_by place (Err (Full e)) heap n t w = failed_visits (Filled e (record w { heap = heap })) _ n t w
negated_by place (Err (Raises fault)) heap n t w = failed_visits (fault_at place (record w { heap = heap }) fault) _ n t w

pub negated_does : (place : Place) (outcome : Outcome Val) (t : ℕ) (w : PlainWorld)
    → e_does place (on_heap w (negated outcome)) t w ≡ e_then (e_does place (on_heap w outcome) t w) (λ u t1 w1. e_does place (on_heap w1 (unary_not w1.heap u)) t1 w1)
negated_does place outcome t w = negated_by place outcome.answer outcome.heap outcome.visits t w

-- slots above, from which a raise goes where it goes from those below
pub falls_more : (k : Site) (env : Locals) (s : Slot) (slots1 slots : List Slot) → Fits k.frame.entries (length slots1) → Falls k env slots1 slots → Falls k env (s ∷ slots1) slots
falls_more k env s slots1 slots fits same x p w = thrown x p 0 env (s ∷ []) slots1 k.frame k.waiting w fits ∙ same x 0 w

pub fits_one : (es : List Entry) (s : Slot) (slots : List Slot) → Fits es (length slots) → Fits es (length (s ∷ slots))
fits_one es s slots fits = fits_more es (length slots) (length (s ∷ slots)) (omega arith) fits

-- values above
pub pushed_fits : (es : List Entry) (vs : List Val) (slots : List Slot) → Fits es (length slots) → Fits es (length (pushed vs slots))
pushed_fits es [] slots fits = fits
pushed_fits es (v ∷ vs) slots fits = pushed_fits es vs (Value v ∷ slots) (fits_one es (Value v) slots fits)

pub pushed_falls : (k : Site) (env : Locals) (vs : List Val) (slots1 slots : List Slot) → Fits k.frame.entries (length slots1) → Falls k env slots1 slots → Falls k env (pushed vs slots1) slots
pushed_falls k env [] slots1 slots fits same = same
pushed_falls k env (v ∷ vs) slots1 slots fits same = pushed_falls k env vs (Value v ∷ slots1) slots (fits_one k.frame.entries (Value v) slots1 fits) (falls_more k env (Value v) slots1 slots fits same)

module _ (program : Program) (library : Library) (K : ℕ) (some : 1 ≤ K) where
  -- the machine follows each expression, to a depth n
  abbrev pub SimE : ℕ → Type 0
  SimE n =
      (k : Site) (line p q : ℕ) (e : Expr) (env : Locals) (slots : List Slot) (t : ℕ) (w : PlainWorld) → Sited library k → StandsE k.context line p e q → Quiet k.frame.entries p q
      → Fits k.frame.entries (length slots) → t ≤ n
      → GoesO library K 8 0 (valued k q env slots) k env slots (Running 0 (at k.frame p env slots) k.waiting w) t 0 (esize e) ((sem program n).eval k.meant env line e t w)

  -- and what an instruction does that runs a callee over values
  abbrev pub SimApply : ℕ → Type 0
  SimApply n =
      (k : Site) (line p : ℕ) (item : Item) (env : Locals) (slots0 slots : List Slot) (t : ℕ) (w : PlainWorld) (v : Val) (vs : List Val) (ks : calling.Keys)
      → Sited library k → Has k.context line p item → map (remark (suc p)) k.frame.entries ≡ k.frame.entries → Falls k env slots0 slots → Fits k.frame.entries (length slots) → t ≤ n
      → ((paid : ℕ) → item_step library (place_at k.meant line) paid (at k.frame p env slots0) k.waiting w item
      ≡ steps.run_callee library (place_at k.meant line) paid (at k.frame p env slots0) k.waiting w slots (callee_of w v) vs ks)
      → GoesO library K 0 0 (valued k (suc p) env slots) k env slots (Running 0 (at k.frame p env slots0) k.waiting w) t 3 0
      (apply program (sem program n).eval (sem program n).exec (place_at k.meant line) k.meant v vs ks t w)

  module _ (n : ℕ) (ih : SimE n) where
    -- a part over slots1, and what comes of its value
    pub e_part : {B : Type 0} (spare owed : ℕ) (v : B → PlainWorld → State) (k : Site) (line p m : ℕ) (e : Expr) (env : Locals) (slots1 slots : List Slot) (t x2 x size2 size : ℕ) (w : PlainWorld)
        (nx : Val → ℕ → PlainWorld → Out B) → Sited library k → StandsE k.context line p e m → Quiet k.frame.entries p m → Fits k.frame.entries (length slots1) → Falls k env slots1 slots → t ≤ n
        → x2 ≤ x + 8 → esize e + size2 ≤ size
        → ((u : Val) (t1 : ℕ) (w1 : PlainWorld) → t1 ≤ t → GoesO library K spare owed v k env slots (Running 0 (at k.frame m env (Value u ∷ slots1)) k.waiting w1) t1 x2 size2 (nx u t1 w1))
        → GoesO library K spare owed v k env slots (Running 0 (at k.frame p env slots1) k.waiting w) t x size (e_then ((sem program n).eval k.meant env line e t w) nx)
    e_part spare owed v k line p m e env slots1 slots t x2 x size2 size w nx s se quiet fits same le xs ss h =
        o_bind library K 8 spare 0 owed (valued k m env slots1) v k env slots1 slots _ t 0 x2 x (esize e) size2 size _ nx same (omega arith) (omega arith) (omega arith) (omega arith)
        (ih k line p m e env slots1 t w s se quiet fits le) h

    -- items, each pushed, and what comes of their values
    pub es_part : {B : Type 0} (spare owed : ℕ) (v : B → PlainWorld → State) (k : Site) (line : ℕ) (env : Locals) (slots : List Slot) (x size : ℕ) (p : ℕ) (es : Exprs) (m : ℕ) (slots1 : List Slot)
        (t : ℕ) (w : PlainWorld) (nx : List Val → ℕ → PlainWorld → Out B) → Sited library k → StandsEs k.context line p es m → Quiet k.frame.entries p m → Fits k.frame.entries (length slots1)
        → Falls k env slots1 slots → t ≤ n
        → ((vs : List Val) (t1 : ℕ) (w1 : PlainWorld) → length vs ≡ count es → Fits k.frame.entries (length (pushed vs slots1)) → Falls k env (pushed vs slots1) slots → t1 ≤ t
        → GoesO library K spare owed v k env slots (Running 0 (at k.frame m env (pushed vs slots1)) k.waiting w1) t1 x size (nx vs t1 w1))
        → GoesO library K spare owed v k env slots (Running 0 (at k.frame p env slots1) k.waiting w) t x (essize es + size)
        (values program (sem program n).eval (sem program n).exec k.meant env line es t w nx)
    es_part spare owed v k line env slots x size p es m slots1 t w nx s no_expr quiet fits same le h =
        o_wide library K spare spare owed owed v k env slots _ t x x size (0 + size) _ (omega arith) (omega arith) (omega arith) (omega arith) (h [] t w refl fits same (omega arith))
    es_part spare owed v k line env slots x size p es m slots1 t w nx s (next {m = m1} {e = e} {es = rest} se ss) quiet fits same le h =
        e_part spare owed v k line p m1 e env slots1 slots t x x (essize rest + size) (esize e + essize rest + size) w _ s se (quiet_in k.frame.entries p m p m1 (omega arith) (es_le ss) quiet) fits same le
        (omega arith) (omega arith)
        (λ u t1 w1 l1. es_part spare owed v k line env slots x size m1 rest m (Value u ∷ slots1) t1 w1 (λ vs t2 w2. nx (u ∷ vs) t2 w2) s ss
        (quiet_in k.frame.entries p m m1 m (e_le se) (omega arith) quiet) (fits_one k.frame.entries (Value u) slots1 fits) (falls_more k env (Value u) slots1 slots fits same) (omega arith)
        (λ vs t2 w2 len f2 s2 l2. h (u ∷ vs) t2 w2 (ap suc len) f2 s2 (omega arith)))

    -- keyword arguments, each with its name
    pub ks_part : {B : Type 0} (spare owed : ℕ) (v : B → PlainWorld → State) (k : Site) (line : ℕ) (env : Locals) (slots : List Slot) (x size : ℕ) → 1 ≤ x → (p : ℕ) (keys : Keys) (m : ℕ) (slots1 : List Slot)
        (t : ℕ) (w : PlainWorld) (nx : calling.Keys → ℕ → PlainWorld → Out B) → Sited library k → StandsK k.context line p keys m → Quiet k.frame.entries p m → Fits k.frame.entries (length slots1)
        → Falls k env slots1 slots → t ≤ n
        → ((ks : calling.Keys) (t1 : ℕ) (w1 : PlainWorld) → length ks ≡ key_count keys → Fits k.frame.entries (length (pushed (laid ks) slots1)) → Falls k env (pushed (laid ks) slots1) slots → t1 ≤ t
        → GoesO library K spare owed v k env slots (Running 0 (at k.frame m env (pushed (laid ks) slots1)) k.waiting w1) t1 x size (nx ks t1 w1))
        → GoesO library K spare owed v k env slots (Running 0 (at k.frame p env slots1) k.waiting w) t x (ksize keys + size)
        (key_values program (sem program n).eval (sem program n).exec k.meant env line keys t w nx)
    ks_part spare owed v k line env slots x size xs p keys m slots1 t w nx s no_key quiet fits same le h =
        o_wide library K spare spare owed owed v k env slots _ t x x size (0 + size) _ (omega arith) (omega arith) (omega arith) (omega arith) (h [] t w refl fits same (omega arith))
    ks_part spare owed v k line env slots x size xs p keys m slots1 t w nx s (key {m = m1} {n = nm} {e = e} {keys = rest} h0 se ss) quiet fits same le h =
        let q1 = quiet_in k.frame.entries p m p m1 (omega arith) (k_le ss) quiet in
        o_bind library K 8 spare 0 owed (valued k m1 env (Value (Str nm) ∷ slots1)) v k env (Value (Str nm) ∷ slots1) slots _ t 1 x x (esize e) (ksize rest + size) (esize e + ksize rest + size) _ _
        (falls_more k env (Value (Str nm)) slots1 slots fits same) (omega arith) (omega arith) (omega arith) (omega arith)
        (o_goes library K _ k line p (suc p) (Names ops.LoadConstString nm) env slots1 (Value (Str nm) ∷ slots1) t _ _ _ 0 (esize e) w s h0 (q1 (suc p) (omega arith) (e_le se)) refl
        (ih k line (suc p) m1 e env (Value (Str nm) ∷ slots1) t w s se (quiet_in k.frame.entries p m1 (suc p) m1 (omega arith) (omega arith) q1) (fits_one k.frame.entries (Value (Str nm)) slots1 fits) le))
        (λ u t1 w1 l1. ks_part spare owed v k line env slots x size xs m1 rest m (Value u ∷ Value (Str nm) ∷ slots1) t1 w1 (λ ks t2 w2. nx ((Str nm, u) ∷ ks) t2 w2) s ss
        (quiet_in k.frame.entries p m m1 m (omega (arith, e_le se)) (omega arith) quiet) (fits_one k.frame.entries (Value u) (Value (Str nm) ∷ slots1) (fits_one k.frame.entries (Value (Str nm)) slots1 fits))
        (falls_more k env (Value u) (Value (Str nm) ∷ slots1) slots (fits_one k.frame.entries (Value (Str nm)) slots1 fits) (falls_more k env (Value (Str nm)) slots1 slots fits same)) (omega arith)
        (λ ks t2 w2 len f2 s2 l2. h ((Str nm, u) ∷ ks) t2 w2 (ap suc len) f2 s2 (omega arith)))

    -- a test that goes on at one of two positions
    pub o_branch : {B : Type 0} (spare owed : ℕ) (v : B → PlainWorld → State) (k : Site) (line p a b : ℕ) (item : Item) (env : Locals) (slots0 sa sb slots : List Slot) (t x size : ℕ) (w : PlainWorld) (c : Bool)
        (so otherwise : ℕ → PlainWorld → Out B) → Sited library k → Has k.context line p item → map (remark a) k.frame.entries ≡ k.frame.entries → map (remark b) k.frame.entries ≡ k.frame.entries
        → item_step library (place_at k.meant line) 0 (at k.frame p env slots0) k.waiting w item ≡ (if c then go a sa k.frame.entries (at k.frame p env slots0) k.waiting w else go b sb k.frame.entries (at k.frame p env slots0) k.waiting w)
        → GoesO library K spare owed v k env slots (Running 0 (at k.frame a env sa) k.waiting w) t x size (so t w)
        → GoesO library K spare owed v k env slots (Running 0 (at k.frame b env sb) k.waiting w) t x size (otherwise t w)
        → GoesO library K spare owed v k env slots (Running 0 (at k.frame p env slots0) k.waiting w) t (suc x) size (e_choose c so otherwise t w)
    o_branch spare owed v k line p a b item env slots0 sa sb slots t x size w true so otherwise s h qa qb e ga gb =
        o_goes library K _ k line p a item env slots0 sa t _ _ _ x size w s h qa e ga
    o_branch spare owed v k line p a b item env slots0 sa sb slots t x size w false so otherwise s h qa qb e ga gb =
        o_goes library K _ k line p b item env slots0 sb t _ _ _ x size w s h qb e gb

    -- ---- comparisons

    compare_sim : (k : Site) (line p q : ℕ) (op : CompareOp) (env : Locals) (a b : Val) (slots : List Slot) (t : ℕ) (w : PlainWorld) → Sited library k → StandsC k.context line p op q → Quiet k.frame.entries p q
        → Fits k.frame.entries (length slots)
        → GoesO library K 0 0 (valued k q env slots) k env slots (Running 0 (at k.frame p env (Value b ∷ Value a ∷ slots)) k.waiting w) t 2 0 (e_does (place_at k.meant line) (on_heap w (meant.compare op w.heap a b)) t w)
    compare_sim k line p q op env a b slots t w s (straight e h) quiet fits =
        let st = Value b ∷ Value a ∷ slots in
        o_wide library K 0 0 0 0 (valued k (suc p) env slots) k env slots _ t 1 2 0 0 _ (omega arith) (omega arith) (omega arith) (omega arith)
        (o_prim library K k line p (Plain (instrs.Binary (comparing op))) env st slots t w (on_heap w (meant.compare op w.heap a b)) some s h (quiet (suc p) (omega arith) (omega arith))
        (falls_over k env (Value b ∷ Value a ∷ []) slots fits)
        (λ paid. ap (λ o. two_step library (place_at k.meant line) paid (at k.frame p env st) k.waiting w st o) (compare_found op ∙ ap (λ o. Some (meant.compare o)) (compare_straight op e))))
    compare_sim k line p q op env a b slots t w s (patterns.negated e h h1) quiet fits =
        let st = Value b ∷ Value a ∷ slots in
        let place = place_at k.meant line in
        let same : e_does place (on_heap w (meant.compare op w.heap a b)) t w ≡ e_then (e_does place (on_heap w (meant.compare (bare op) w.heap a b)) t w) (λ u t1 w1. e_does place (on_heap w1 (unary_not w1.heap u)) t1 w1) =
        ap (λ o. e_does place (on_heap w o) t w) (compare_negated op w.heap a b e) ∙ negated_does place (meant.compare (bare op) w.heap a b) t w in
        subst (λ r. GoesO library K 0 0 (valued k (suc (suc p)) env slots) k env slots (Running 0 (at k.frame p env st) k.waiting w) t 2 0 r) (sym same)
        (o_bind library K 0 0 0 0 (valued k (suc p) env slots) (valued k (suc (suc p)) env slots) k env slots slots _ t 1 1 2 0 0 0 _ _ (falls_here k env slots fits) (omega arith) (omega arith) (omega arith) (omega arith)
        (o_prim library K k line p (Plain (instrs.Binary (comparing op))) env st slots t w (on_heap w (meant.compare (bare op) w.heap a b)) some s h (quiet (suc p) (omega arith) (omega arith))
        (falls_over k env (Value b ∷ Value a ∷ []) slots fits)
        (λ paid. ap (λ o. two_step library place paid (at k.frame p env st) k.waiting w st o) (compare_found op)))
        (λ u t1 w1 l1. o_prim library K k line (suc p) negation env (Value u ∷ slots) slots t1 w1 (on_heap w1 (unary_not w1.heap u)) some s h1 (quiet (suc (suc p)) (omega arith) (omega arith))
        (falls_over k env (Value u ∷ []) slots fits) (λ paid. refl)))

    -- the links of a chain, and what there is to do behind it
    chain_sim : (k : Site) (line end : ℕ) (env : Locals) (slots : List Slot) (fail p : ℕ) (links : Links) (q : ℕ) (v : Val) (t : ℕ) (w : PlainWorld) → Sited library k → StandsL k.context line fail p links q
        → Quiet k.frame.entries p fail → q ≤ fail → Fits k.frame.entries (length slots) → t ≤ n
        → ((r : Val) (w1 : PlainWorld) → steps.step library (valued k q env slots r w1) ≡ valued k end env slots r w1)
        → ((r u : Val) (t1 : ℕ) (w1 : PlainWorld) → GoesO library K 0 0 (valued k end env slots) k env slots (Running 0 (at k.frame fail env (Value r ∷ Value u ∷ slots)) k.waiting w1) t1 2 0 (EVal r t1 w1))
        → GoesO library K 0 0 (valued k end env slots) k env slots (Running 0 (at k.frame p env (Value v ∷ slots)) k.waiting w) t 0 (lsize links)
        (meant.chain program (sem program n).eval (sem program n).exec k.meant env line v links t w)
    chain_sim k line end env slots fail p links q v t w s (last {m = m} {op = op} {e = e} se sc) quiet ql fits le done failed =
        e_part 0 0 (valued k end env slots) k line p m e env (Value v ∷ slots) slots t 3 0 0 (esize e) w _ s se (quiet_in k.frame.entries p fail p m (omega arith) (omega (arith, c_le sc)) quiet)
        (fits_one k.frame.entries (Value v) slots fits) (falls_over k env (Value v ∷ []) slots fits) le (omega arith) (omega arith)
        (λ u t1 w1 l1. o_post library K 0 0 0 (valued k q env slots) (valued k end env slots) k env slots _ t1 2 3 0 _ (omega arith) (omega arith) done
        (compare_sim k line m q op env v u slots t1 w1 s sc (quiet_in k.frame.entries p fail m q (e_le se) ql quiet) fits))
    chain_sim k line end env slots fail p links q v t w s (link {m = m} {n = j} {op = op} {e = e} {links = rest} se h1 h2 sc h3 sl) quiet ql fits le done failed =
        let a = e_le se in
        let b = c_le sc in
        let c = l_le sl in
        e_part 0 0 (valued k end env slots) k line p m e env (Value v ∷ slots) slots t 7 0 (lsize rest) (esize e + lsize rest) w _ s se (quiet_in k.frame.entries p fail p m (omega arith) (omega arith) quiet)
        (fits_one k.frame.entries (Value v) slots fits) (falls_over k env (Value v ∷ []) slots fits) le (omega arith) (omega arith)
        (λ u t1 w1 l1. o_goes library K _ k line m (suc m) (plain ops.DupTop) env (Value u ∷ Value v ∷ slots) (Value u ∷ Value u ∷ Value v ∷ slots) t1 _ _ _ 6 _ w1 s h1 (quiet (suc m) (omega arith) (omega arith)) refl
        (o_goes library K _ k line (suc m) (suc (suc m)) (plain ops.RotThree) env (Value u ∷ Value u ∷ Value v ∷ slots) (Value u ∷ Value v ∷ Value u ∷ slots) t1 _ _ _ 5 _ w1 s h2 (quiet (suc (suc m)) (omega arith) (omega arith)) refl
        (o_bind library K 0 0 0 0 (valued k j env (Value u ∷ slots)) (valued k end env slots) k env (Value u ∷ slots) slots _ t1 2 3 5 0 (lsize rest) (lsize rest) _ _ (falls_over k env (Value u ∷ []) slots fits) (omega arith) (omega arith) (omega arith) (omega arith)
        (compare_sim k line (suc (suc m)) j op env v u (Value u ∷ slots) t1 w1 s sc (quiet_in k.frame.entries p fail (suc (suc m)) j (omega arith) (omega arith) quiet) (fits_one k.frame.entries (Value u) slots fits))
        (λ r t2 w2 l2. o_branch 0 0 (valued k end env slots) k line j (suc j) fail (Jumps ops.JumpIfFalseOrPop fail) env (Value r ∷ Value u ∷ slots) (Value u ∷ slots) (Value r ∷ Value u ∷ slots) slots t2 2 (lsize rest) w2 (truth w2.heap r) _ _ s h3
        (quiet (suc j) (omega arith) (omega arith)) (quiet fail (omega arith) (omega arith)) refl
        (o_wide library K 0 0 0 0 (valued k end env slots) k env slots _ t2 0 2 (lsize rest) (lsize rest) _ (omega arith) (omega arith) (omega arith) (omega arith)
        (chain_sim k line end env slots fail (suc j) rest q u t2 w2 s sl (quiet_in k.frame.entries p fail (suc j) fail (omega arith) (omega arith) quiet) ql fits (omega arith) done failed))
        (o_wide library K 0 0 0 0 (valued k end env slots) k env slots _ t2 2 2 0 (lsize rest) (EVal r t2 w2) (omega arith) (omega arith) (omega arith) (omega arith) (failed r u t2 w2))))))

    -- ---- `and` and `or`

    and_sim : (k : Site) (line end : ℕ) (env : Locals) (slots : List Slot) (p : ℕ) (e : Expr) (m : ℕ) (es : Exprs) (q : ℕ) (t : ℕ) (w : PlainWorld) → Sited library k → StandsE k.context line p e m
        → StandsO k.context line ops.JumpIfFalseOrPop end m es q → q ≡ end → Quiet k.frame.entries p end → Fits k.frame.entries (length slots) → t ≤ n
        → GoesO library K 0 0 (valued k end env slots) k env slots (Running 0 (at k.frame p env slots) k.waiting w) t 0 (esize e + essize es)
        (and_from program (sem program n).eval (sem program n).exec k.meant env line e es t w)
    and_sim k line end env slots p e m es q t w s se no_operand eq quiet fits le =
        o_wide library K 8 0 0 0 (valued k end env slots) k env slots _ t 0 0 (esize e) (esize e + 0) _ (omega arith) (omega arith) (omega arith) (omega arith)
        (o_map library K 8 0 (valued k m env slots) (valued k end env slots) k env slots _ t 0 (esize e) _ (λ u w1. ap (λ j. valued k j env slots u w1) eq)
        (ih k line p m e env slots t w s se (quiet_in k.frame.entries p end p m (omega arith) (omega (arith, eq)) quiet) fits le))
    and_sim k line end env slots p e m es q t w s se (operand {m = j} {e = f} {es = rest} h sf so) eq quiet fits le =
        let a = e_le se in
        let b = e_le sf in
        let c = o_le so in
        e_part 0 0 (valued k end env slots) k line p m e env slots slots t 1 0 (esize f + essize rest) (esize e + (esize f + essize rest)) w _ s se (quiet_in k.frame.entries p end p m (omega arith) (omega (arith, eq)) quiet)
        fits (falls_here k env slots fits) le (omega arith) (omega arith)
        (λ u t1 w1 l1. o_branch 0 0 (valued k end env slots) k line m (suc m) end (Jumps ops.JumpIfFalseOrPop end) env (Value u ∷ slots) slots (Value u ∷ slots) slots t1 0 (esize f + essize rest) w1 (truth w1.heap u) _ _ s h
        (quiet (suc m) (omega arith) (omega (arith, eq))) (quiet end (omega (arith, eq)) (omega arith)) refl
        (and_sim k line end env slots (suc m) f j rest q t1 w1 s sf so eq (quiet_in k.frame.entries p end (suc m) end (omega arith) (omega arith) quiet) fits (omega arith))
        (g_wide library K _ _ t1 t1 0 0 0 0 0 0 0 (esize f + essize rest) (omega arith) (omega arith) (g_here library K _ _ t1 refl)))

    or_sim : (k : Site) (line end : ℕ) (env : Locals) (slots : List Slot) (p : ℕ) (e : Expr) (m : ℕ) (es : Exprs) (q : ℕ) (t : ℕ) (w : PlainWorld) → Sited library k → StandsE k.context line p e m
        → StandsO k.context line ops.JumpIfTrueOrPop end m es q → q ≡ end → Quiet k.frame.entries p end → Fits k.frame.entries (length slots) → t ≤ n
        → GoesO library K 0 0 (valued k end env slots) k env slots (Running 0 (at k.frame p env slots) k.waiting w) t 0 (esize e + essize es)
        (or_from program (sem program n).eval (sem program n).exec k.meant env line e es t w)
    or_sim k line end env slots p e m es q t w s se no_operand eq quiet fits le =
        o_wide library K 8 0 0 0 (valued k end env slots) k env slots _ t 0 0 (esize e) (esize e + 0) _ (omega arith) (omega arith) (omega arith) (omega arith)
        (o_map library K 8 0 (valued k m env slots) (valued k end env slots) k env slots _ t 0 (esize e) _ (λ u w1. ap (λ j. valued k j env slots u w1) eq)
        (ih k line p m e env slots t w s se (quiet_in k.frame.entries p end p m (omega arith) (omega (arith, eq)) quiet) fits le))
    or_sim k line end env slots p e m es q t w s se (operand {m = j} {e = f} {es = rest} h sf so) eq quiet fits le =
        let a = e_le se in
        let b = e_le sf in
        let c = o_le so in
        e_part 0 0 (valued k end env slots) k line p m e env slots slots t 1 0 (esize f + essize rest) (esize e + (esize f + essize rest)) w _ s se (quiet_in k.frame.entries p end p m (omega arith) (omega (arith, eq)) quiet)
        fits (falls_here k env slots fits) le (omega arith) (omega arith)
        (λ u t1 w1 l1. o_branch 0 0 (valued k end env slots) k line m end (suc m) (Jumps ops.JumpIfTrueOrPop end) env (Value u ∷ slots) (Value u ∷ slots) slots slots t1 0 (esize f + essize rest) w1 (truth w1.heap u) _ _ s h
        (quiet end (omega (arith, eq)) (omega arith)) (quiet (suc m) (omega arith) (omega (arith, eq))) refl
        (g_wide library K _ _ t1 t1 0 0 0 0 0 0 0 (esize f + essize rest) (omega arith) (omega arith) (g_here library K _ _ t1 refl))
        (or_sim k line end env slots (suc m) f j rest q t1 w1 s sf so eq (quiet_in k.frame.entries p end (suc m) end (omega arith) (omega arith) quiet) fits (omega arith)))

    -- ---- pairs of a dict

    dict_sim : (k : Site) (line : ℕ) (env : Locals) (slots : List Slot) (d : Val) (p : ℕ) (pairs : Pairs) (q : ℕ) (t : ℕ) (w : PlainWorld) → Sited library k → StandsD k.context line p pairs q
        → Quiet k.frame.entries p q → Fits k.frame.entries (length slots) → t ≤ n
        → GoesO library K 0 0 (valued k q env slots) k env slots (Running 0 (at k.frame p env (Value d ∷ slots)) k.waiting w) t 0 (psize pairs)
        (with_pairs program (sem program n).eval (sem program n).exec k.meant env line d pairs t w)
    dict_sim k line env slots d p pairs q t w s no_pair quiet fits le = g_here library K _ _ t refl
    dict_sim k line env slots d p pairs q t w s (pair {m = m} {n = j} {k = ke} {v = ve} {pairs = rest} sv sk h sd) quiet fits le =
        let a = e_le sv in
        let b = e_le sk in
        let c = d_le sd in
        let f1 = fits_one k.frame.entries (Value d) slots fits in
        e_part 0 0 (valued k q env slots) k line p m ve env (Value d ∷ slots) slots t 0 0 (esize ke + psize rest) (esize ve + esize ke + psize rest) w _ s sv (quiet_in k.frame.entries p q p m (omega arith) (omega arith) quiet)
        f1 (falls_over k env (Value d ∷ []) slots fits) le (omega arith) (omega arith)
        (λ u t1 w1 l1. e_part 0 0 (valued k q env slots) k line m j ke env (Value u ∷ Value d ∷ slots) slots t1 1 0 (psize rest) (esize ke + psize rest) w1 _ s sk (quiet_in k.frame.entries p q m j (omega arith) (omega arith) quiet)
        (fits_one k.frame.entries (Value u) (Value d ∷ slots) f1) (falls_over k env (Value u ∷ Value d ∷ []) slots fits) (omega arith) (omega arith) (omega arith)
        (λ x t2 w2 l2. o_bind library K 0 0 K 0 (λ done w3. Running 0 (at k.frame (suc j) env (Value d ∷ slots)) k.waiting w3) (valued k q env slots) k env slots slots _ t2 1 0 1 0 (psize rest) (psize rest) _ _
        (falls_here k env slots fits) (omega arith) (omega arith) (omega arith) (omega arith)
        (o_gives library K (λ done. Value d ∷ slots) k line j (plain ops.StoreMap) env (Value x ∷ Value u ∷ Value d ∷ slots) slots t2 w2 (store_pair w2 d x u) some s h (quiet (suc j) (omega arith) (omega arith))
        (falls_over k env (Value x ∷ Value u ∷ Value d ∷ []) slots fits) (λ paid. refl))
        (λ done t3 w3 l3. dict_sim k line env slots d (suc j) rest q t3 w3 s sd (quiet_in k.frame.entries p q (suc j) q (omega arith) (omega arith) quiet) fits (omega arith))))

    -- ---- calls, behind their operands

    pub looked_falls : (k : Site) (env : Locals) (looked : Looked) (slots : List Slot) → Fits k.frame.entries (length slots) → Falls k env (looked_on looked slots) slots
    looked_falls k env (Bound m o) slots fits = falls_over k env (Object (Some o) ∷ Value (Built m) ∷ []) slots fits
    looked_falls k env (Free u) slots fits = falls_over k env (Object None ∷ Value u ∷ []) slots fits

    pub looked_fits : (es : List Entry) (looked : Looked) (slots : List Slot) → Fits es (length slots) → Fits es (length (looked_on looked slots))
    looked_fits es (Bound m o) slots fits = fits_one es (Object (Some o)) (Value (Built m) ∷ slots) (fits_one es (Value (Built m)) slots fits)
    looked_fits es (Free u) slots fits = fits_one es (Object None) (Value u ∷ slots) (fits_one es (Value u) slots fits)

    pub method_sim : SimApply n → (k : Site) (line p : ℕ) (a b : ℕ) (env : Locals) (slots : List Slot) (t : ℕ) (w : PlainWorld) (looked : Looked) (vs : List Val) (ks : calling.Keys)
        → Sited library k → Has k.context line p (number ops.CallMethod (a + 256 * b)) → map (remark (suc p)) k.frame.entries ≡ k.frame.entries → Fits k.frame.entries (length slots) → t ≤ n
        → Falls k env (pushed (laid ks) (pushed vs (looked_on looked slots))) slots → length vs ≡ a → length ks ≡ b → a < 256
        → GoesO library K 0 0 (valued k (suc p) env slots) k env slots (Running 0 (at k.frame p env (pushed (laid ks) (pushed vs (looked_on looked slots)))) k.waiting w) t 3 0
        (apply_looked program (sem program n).eval (sem program n).exec (place_at k.meant line) k.meant looked vs ks t w)
    method_sim ihc k line p a b env slots t w (Bound m o) vs ks s h quiet fits le same ev ek small =
        let st = pushed (laid ks) (pushed vs (looked_on (Bound m o) slots)) in
        o_wide library K 0 0 0 0 (valued k (suc p) env slots) k env slots _ t 1 3 0 0 _ (omega arith) (omega arith) (omega arith) (omega arith)
        (o_prim library K k line p (number ops.CallMethod (a + 256 * b)) env st slots t w (call_method w m o vs ks) some s h quiet same
        (λ paid. ap (λ (o : Operands). call_looked library (place_at k.meant line) paid (at k.frame p env st) k.waiting w o o.below)
        (operands_are a b vs ks (looked_on (Bound m o) slots) ev ek small)))
    method_sim ihc k line p a b env slots t w (Free u) vs ks s h quiet fits le same ev ek small =
        let st = pushed (laid ks) (pushed vs (looked_on (Free u) slots)) in
        ihc k line p (number ops.CallMethod (a + 256 * b)) env st slots t w u vs ks s h quiet same fits le
        (λ paid. ap (λ (o : Operands). call_looked library (place_at k.meant line) paid (at k.frame p env st) k.waiting w o o.below)
        (operands_are a b vs ks (looked_on (Free u) slots) ev ek small))

    -- ---- the forms

    e_case_sim : SimApply n → (k : Site) (line p q : ℕ) (e : Expr) (env : Locals) (slots : List Slot) (t : ℕ) (w : PlainWorld) → Sited library k → StandsE k.context line p e q → Quiet k.frame.entries p q
        → Fits k.frame.entries (length slots) → t ≤ n → (size : ℕ) → suc size ≡ esize e
        → GoesO library K 0 0 (valued k q env slots) k env slots (Running 0 (at k.frame p env slots) k.waiting w) t 8 size (e_case program (sem program n).eval (sem program n).exec k.meant env line e t w)
    e_case_sim ihc k line p q e env slots t w s (literal {v = u} h) quiet fits le size sz =
        g_wide library K _ _ t t 0 0 0 0 1 8 0 size (omega arith) (omega arith)
        (o_goes library K _ k line p (suc p) (constant u) env slots (Value u ∷ slots) t t 0 0 0 0 w s h (quiet (suc p) (omega arith) (omega arith))
        (literal_step library (place_at k.meant line) 0 (at k.frame p env slots) k.waiting w u) (g_here library K _ _ t refl))
    e_case_sim ihc k line p q e env slots t w s (name {n = nm} h) quiet fits le size sz =
        o_wide library K 0 0 0 0 (valued k (suc p) env slots) k env slots _ t 1 8 0 size _ (omega arith) (omega arith) (omega arith) (omega arith)
        (o_prim library K k line p (load_by k.context nm (position (bytes_eq nm) k.meant.locals)) env slots slots t w (load_name k.meant env nm w) some s
        (subst (λ l. Has k.context line p (load_by k.context nm (position (bytes_eq nm) l))) s.locals h) (quiet (suc p) (omega arith) (omega arith)) (falls_here k env slots fits)
        (λ paid. load_step library (place_at k.meant line) paid k.context k.meant nm (at k.frame p env slots) k.waiting w (position (bytes_eq nm) k.meant.locals) s.names))
    e_case_sim ihc k line p q e env slots t w s (one {m = m} {op = op} {e = a} sa h) quiet fits le size sz =
        e_part 0 0 (valued k q env slots) k line p m a env slots slots t 1 8 0 size w _ s sa (quiet_in k.frame.entries p q p m (omega arith) (omega arith) quiet) fits (falls_here k env slots fits) le (omega arith) (omega arith)
        (λ u t1 w1 l1. o_prim library K k line m (Plain (instrs.Unary (unary_number op))) env (Value u ∷ slots) slots t1 w1 (on_heap w1 (unary w1.heap (unary_of op) u)) some s h (quiet (suc m) (omega (arith, e_le sa)) (omega arith))
        (falls_over k env (Value u ∷ []) slots fits) (λ paid. ap (λ o. one_step library (place_at k.meant line) paid (at k.frame m env (Value u ∷ slots)) k.waiting w1 (Value u ∷ slots) o) (unary_found op)))
    e_case_sim ihc k line p q e env slots t w s («not» {m = m} {e = a} sa h) quiet fits le size sz =
        e_part 0 0 (valued k q env slots) k line p m a env slots slots t 1 8 0 size w _ s sa (quiet_in k.frame.entries p q p m (omega arith) (omega arith) quiet) fits (falls_here k env slots fits) le (omega arith) (omega arith)
        (λ u t1 w1 l1. o_prim library K k line m negation env (Value u ∷ slots) slots t1 w1 (on_heap w1 (unary_not w1.heap u)) some s h (quiet (suc m) (omega (arith, e_le sa)) (omega arith))
        (falls_over k env (Value u ∷ []) slots fits) (λ paid. refl))
    e_case_sim ihc k line p q e env slots t w s (two {m = m} {n = j} {op = op} {a = a} {b = b} sa sb h) quiet fits le size sz =
        let x = e_le sa in
        let y = e_le sb in
        e_part 0 0 (valued k q env slots) k line p m a env slots slots t 0 8 (esize b) size w _ s sa (quiet_in k.frame.entries p q p m (omega arith) (omega arith) quiet) fits (falls_here k env slots fits) le (omega arith) (omega arith)
        (λ u t1 w1 l1. e_part 0 0 (valued k q env slots) k line m j b env (Value u ∷ slots) slots t1 1 0 0 (esize b) w1 _ s sb (quiet_in k.frame.entries p q m j (omega arith) (omega arith) quiet)
        (fits_one k.frame.entries (Value u) slots fits) (falls_over k env (Value u ∷ []) slots fits) (omega arith) (omega arith) (omega arith)
        (λ v t2 w2 l2. o_prim library K k line j (Plain (instrs.Binary (arithmetic op + 13))) env (Value v ∷ Value u ∷ slots) slots t2 w2 (on_heap w2 (binary w2.heap (binary_of op) u v)) some s h (quiet (suc j) (omega arith) (omega arith))
        (falls_over k env (Value v ∷ Value u ∷ []) slots fits) (λ paid. ap (λ o. two_step library (place_at k.meant line) paid (at k.frame j env (Value v ∷ Value u ∷ slots)) k.waiting w2 (Value v ∷ Value u ∷ slots) o) (binary_found op))))
    e_case_sim ihc k line p q e env slots t w s («and» {m = m} {e = a} {es = es} sa so) quiet fits le size sz =
        o_wide library K 0 0 0 0 (valued k q env slots) k env slots _ t 0 8 (esize a + essize es) size _ (omega arith) (omega arith) (omega arith) (omega arith)
        (and_sim k line q env slots p a m es q t w s sa so refl quiet fits le)
    e_case_sim ihc k line p q e env slots t w s («or» {m = m} {e = a} {es = es} sa so) quiet fits le size sz =
        o_wide library K 0 0 0 0 (valued k q env slots) k env slots _ t 0 8 (esize a + essize es) size _ (omega arith) (omega arith) (omega arith) (omega arith)
        (or_sim k line q env slots p a m es q t w s sa so refl quiet fits le)
    e_case_sim ihc k line p q e env slots t w s (compare {m = m} {n = j} {op = op} {a = a} {b = b} sa sb sc) quiet fits le size sz =
        let x = e_le sa in
        let y = e_le sb in
        let z = c_le sc in
        e_part 0 0 (valued k q env slots) k line p m a env slots slots t 0 8 (esize b) size w _ s sa (quiet_in k.frame.entries p q p m (omega arith) (omega arith) quiet) fits (falls_here k env slots fits) le (omega arith) (omega arith)
        (λ u t1 w1 l1. e_part 0 0 (valued k q env slots) k line m j b env (Value u ∷ slots) slots t1 2 0 0 (esize b) w1 _ s sb (quiet_in k.frame.entries p q m j (omega arith) (omega arith) quiet)
        (fits_one k.frame.entries (Value u) slots fits) (falls_over k env (Value u ∷ []) slots fits) (omega arith) (omega arith) (omega arith)
        (λ v t2 w2 l2. compare_sim k line j q op env u v slots t2 w2 s sc (quiet_in k.frame.entries p q j q (omega arith) (omega arith) quiet) fits))
    e_case_sim ihc k line p q e env slots t w s (chain {m = m} {n = j} {op = op} {a = a} {b = b} {links = rest} sa sl h1 h2 h3) quiet fits le size sz =
        let x = e_le sa in
        let y = l_le sl in
        e_part 0 0 (valued k q env slots) k line p m a env slots slots t 0 8 (lsize (Link op b rest)) size w _ s sa (quiet_in k.frame.entries p q p m (omega arith) (omega arith) quiet) fits (falls_here k env slots fits) le (omega arith) (omega arith)
        (λ u t1 w1 l1. chain_sim k line q env slots (suc j) m (Link op b rest) j u t1 w1 s sl (quiet_in k.frame.entries p q m (suc j) (omega arith) (omega arith) quiet) (omega arith) fits (omega arith)
        (λ r w2. stepped library k 0 line j (Jumps ops.Jump q) env (Value r ∷ slots) w2 s h1 ∙ went k j q env (Value r ∷ slots) (Value r ∷ slots) w2 (quiet q (omega arith) (omega arith)))
        (λ r v t2 w2. o_goes library K _ k line (suc j) (suc (suc j)) (plain ops.RotTwo) env (Value r ∷ Value v ∷ slots) (Value v ∷ Value r ∷ slots) t2 t2 0 0 1 0 w2 s h2 (quiet (suc (suc j)) (omega arith) (omega arith)) refl
        (o_goes library K _ k line (suc (suc j)) (suc (suc (suc j))) (plain ops.PopTop) env (Value v ∷ Value r ∷ slots) (Value r ∷ slots) t2 t2 0 0 0 0 w2 s h3 (quiet (suc (suc (suc j))) (omega arith) (omega arith)) refl (g_here library K _ _ t2 refl))))
    e_case_sim ihc k line p q e env slots t w s (cond {m = m} {n = j} {test = c} {a = a} {b = b} sc h1 sa h2 sb) quiet fits le size sz =
        let x = e_le sc in
        let y = e_le sa in
        let z = e_le sb in
        e_part 0 0 (valued k q env slots) k line p m c env slots slots t 2 8 (esize a + esize b) size w _ s sc (quiet_in k.frame.entries p q p m (omega arith) (omega arith) quiet) fits (falls_here k env slots fits) le (omega arith) (omega arith)
        (λ u t1 w1 l1. o_branch 0 0 (valued k q env slots) k line m (suc m) (suc j) (Jumps ops.PopJumpIfFalse (suc j)) env (Value u ∷ slots) slots slots slots t1 1 (esize a + esize b) w1 (truth w1.heap u) _ _ s h1
        (quiet (suc m) (omega arith) (omega arith)) (quiet (suc j) (omega arith) (omega arith)) refl
        (o_post library K 8 0 0 (valued k j env slots) (valued k q env slots) k env slots _ t1 0 1 (esize a + esize b) _ (omega arith) (omega arith)
        (λ v w2. stepped library k 0 line j (Jumps ops.Jump q) env (Value v ∷ slots) w2 s h2 ∙ went k j q env (Value v ∷ slots) (Value v ∷ slots) w2 (quiet q (omega arith) (omega arith)))
        (o_wide library K 8 8 0 0 (valued k j env slots) k env slots _ t1 0 0 (esize a) (esize a + esize b) _ (omega arith) (omega arith) (omega arith) (omega arith)
        (ih k line (suc m) j a env slots t1 w1 s sa (quiet_in k.frame.entries p q (suc m) j (omega arith) (omega arith) quiet) fits (omega arith))))
        (o_wide library K 8 0 0 0 (valued k q env slots) k env slots _ t1 0 1 (esize b) (esize a + esize b) _ (omega arith) (omega arith) (omega arith) (omega arith)
        (ih k line (suc j) q b env slots t1 w1 s sb (quiet_in k.frame.entries p q (suc j) q (omega arith) (omega arith) quiet) fits (omega arith))))
    e_case_sim ihc k line p q e env slots t w s (tuple {m = m} {es = es} ss h) quiet fits le size sz =
        o_wide library K 0 0 0 0 (valued k q env slots) k env slots _ t 1 8 (essize es + 0) size _ (omega arith) (omega arith) (omega arith) (omega arith)
        (es_part 0 0 (valued k q env slots) k line env slots 1 0 p es m slots t w _ s ss (quiet_in k.frame.entries p q p m (omega arith) (omega arith) quiet) fits (falls_here k env slots fits) le
        (λ vs t1 w1 len f1 s1 l1. o_prim library K k line m (number ops.BuildTuple (count es)) env (pushed vs slots) slots t1 w1 (on_heap w1 (making_tuple w1.heap vs)) some s h (quiet (suc m) (omega (arith, es_le ss)) (omega arith)) s1
        (λ paid. ap (λ l. steps.gives library (place_at k.meant line) paid (at k.frame m env (pushed vs slots)) k.waiting w1 l (on_heap w1 (making_tuple w1.heap (operations.values (count es) (pushed vs slots))))) (below_of vs slots (count es) len)
        ∙ ap (λ l. steps.gives library (place_at k.meant line) paid (at k.frame m env (pushed vs slots)) k.waiting w1 slots (on_heap w1 (making_tuple w1.heap l))) (values_of vs slots (count es) len))))
    e_case_sim ihc k line p q e env slots t w s (items {m = m} {es = es} ss h) quiet fits le size sz =
        o_wide library K 0 0 0 0 (valued k q env slots) k env slots _ t 1 8 (essize es + 0) size _ (omega arith) (omega arith) (omega arith) (omega arith)
        (es_part 0 0 (valued k q env slots) k line env slots 1 0 p es m slots t w _ s ss (quiet_in k.frame.entries p q p m (omega arith) (omega arith) quiet) fits (falls_here k env slots fits) le
        (λ vs t1 w1 len f1 s1 l1. o_prim library K k line m (number ops.BuildList (count es)) env (pushed vs slots) slots t1 w1 (on_heap w1 (making_list w1.heap vs)) some s h (quiet (suc m) (omega (arith, es_le ss)) (omega arith)) s1
        (λ paid. ap (λ l. steps.gives library (place_at k.meant line) paid (at k.frame m env (pushed vs slots)) k.waiting w1 l (on_heap w1 (making_list w1.heap (operations.values (count es) (pushed vs slots))))) (below_of vs slots (count es) len)
        ∙ ap (λ l. steps.gives library (place_at k.meant line) paid (at k.frame m env (pushed vs slots)) k.waiting w1 slots (on_heap w1 (making_list w1.heap l))) (values_of vs slots (count es) len))))
    e_case_sim ihc k line p q e env slots t w s (dict {pairs = pairs} h sd) quiet fits le size sz =
        o_bind library K 0 0 0 0 (valued k (suc p) env slots) (valued k q env slots) k env slots slots _ t 1 0 8 0 (psize pairs) size _ _ (falls_here k env slots fits) (omega arith) (omega arith) (omega arith) (omega arith)
        (o_prim library K k line p (number ops.BuildMap (pair_count pairs)) env slots slots t w (on_heap w (making w.heap (DictObject [] (room_for (pair_count pairs))))) some s h (quiet (suc p) (omega arith) (d_le sd)) (falls_here k env slots fits) (λ paid. refl))
        (λ d t1 w1 l1. dict_sim k line env slots d (suc p) pairs q t1 w1 s sd (quiet_in k.frame.entries p q (suc p) q (omega arith) (omega arith) quiet) fits (omega arith))
    e_case_sim ihc k line p q e env slots t w s (attr {m = m} {e = a} {n = nm} sa h) quiet fits le size sz =
        e_part 0 0 (valued k q env slots) k line p m a env slots slots t 1 8 0 size w _ s sa (quiet_in k.frame.entries p q p m (omega arith) (omega arith) quiet) fits (falls_here k env slots fits) le (omega arith) (omega arith)
        (λ u t1 w1 l1. o_prim library K k line m (Names ops.LoadAttr nm) env (Value u ∷ slots) slots t1 w1 (on_heap w1 (get_attr w1.heap u nm)) some s h (quiet (suc m) (omega (arith, e_le sa)) (omega arith))
        (falls_over k env (Value u ∷ []) slots fits) (λ paid. refl))
    e_case_sim ihc k line p q e env slots t w s (index {m = m} {n = j} {a = a} {b = b} sa sb h) quiet fits le size sz =
        let x = e_le sa in
        let y = e_le sb in
        e_part 0 0 (valued k q env slots) k line p m a env slots slots t 0 8 (esize b) size w _ s sa (quiet_in k.frame.entries p q p m (omega arith) (omega arith) quiet) fits (falls_here k env slots fits) le (omega arith) (omega arith)
        (λ u t1 w1 l1. e_part 0 0 (valued k q env slots) k line m j b env (Value u ∷ slots) slots t1 1 0 0 (esize b) w1 _ s sb (quiet_in k.frame.entries p q m j (omega arith) (omega arith) quiet)
        (fits_one k.frame.entries (Value u) slots fits) (falls_over k env (Value u ∷ []) slots fits) (omega arith) (omega arith) (omega arith)
        (λ v t2 w2 l2. o_prim library K k line j (plain ops.LoadSubscr) env (Value v ∷ Value u ∷ slots) slots t2 w2 (on_heap w2 (get_item w2.heap u v)) some s h (quiet (suc j) (omega arith) (omega arith))
        (falls_over k env (Value v ∷ Value u ∷ []) slots fits) (λ paid. refl)))
    e_case_sim ihc k line p q e env slots t w s (call {m = m} {n = j} {k = i} {f = f} {args = args} {keys = keys} small sf sa sk h) quiet fits le size sz =
        let x = e_le sf in
        let y = es_le sa in
        let z = k_le sk in
        e_part 0 0 (valued k q env slots) k line p m f env slots slots t 3 8 (essize args + (ksize keys + 0)) size w _ s sf (quiet_in k.frame.entries p q p m (omega arith) (omega arith) quiet) fits (falls_here k env slots fits) le (omega arith) (omega arith)
        (λ c t1 w1 l1. es_part 0 0 (valued k q env slots) k line env slots 3 (ksize keys + 0) m args j (Value c ∷ slots) t1 w1 _ s sa (quiet_in k.frame.entries p q m j (omega arith) (omega arith) quiet)
        (fits_one k.frame.entries (Value c) slots fits) (falls_over k env (Value c ∷ []) slots fits) (omega arith)
        (λ vs t2 w2 len2 f2 s2 l2. ks_part 0 0 (valued k q env slots) k line env slots 3 0 (omega arith) j keys i (pushed vs (Value c ∷ slots)) t2 w2 _ s sk (quiet_in k.frame.entries p q j i (omega arith) (omega arith) quiet)
        f2 s2 (omega arith)
        (λ ks t3 w3 len3 f3 s3 l3. ihc k line i (number ops.CallFunction (count args + 256 * key_count keys)) env (pushed (laid ks) (pushed vs (Value c ∷ slots))) slots t3 w3 c vs ks s h (quiet (suc i) (omega arith) (omega arith)) s3 fits (omega arith)
        (λ paid. ap (λ (a : Operands). call_function library (place_at k.meant line) paid (at k.frame i env (pushed (laid ks) (pushed vs (Value c ∷ slots)))) k.waiting w3 a a.below)
        (operands_are (count args) (key_count keys) vs ks (Value c ∷ slots) len2 len3 (ltb-true (count args) 256 small))))))
    e_case_sim ihc k line p q e env slots t w s (method {m = m} {n = j} {k = i} {e = a} {a = nm} {args = args} {keys = keys} small sf h0 sa sk h) quiet fits le size sz =
        let x = e_le sf in
        let y = es_le sa in
        let z = k_le sk in
        e_part 0 0 (valued k q env slots) k line p m a env slots slots t 4 8 (essize args + (ksize keys + 0)) size w _ s sf (quiet_in k.frame.entries p q p m (omega arith) (omega arith) quiet) fits (falls_here k env slots fits) le (omega arith) (omega arith)
        (λ c t1 w1 l1. o_bind library K 0 0 K 0 (λ looked w9. Running 0 (at k.frame (suc m) env (looked_on looked slots)) k.waiting w9) (valued k q env slots) k env slots slots _ t1 1 3 4 0 (essize args + (ksize keys + 0)) (essize args + (ksize keys + 0)) _ _
        (falls_here k env slots fits) (omega arith) (omega arith) (omega arith) (omega arith)
        (o_gives library K (λ looked. looked_on looked slots) k line m (Names ops.LoadMethod nm) env (Value c ∷ slots) slots t1 w1 (load_method w1 c nm) some s h0 (quiet (suc m) (omega arith) (omega arith)) (falls_over k env (Value c ∷ []) slots fits) (λ paid. refl))
        (λ looked t5 w5 l5. es_part 0 0 (valued k q env slots) k line env slots 3 (ksize keys + 0) (suc m) args j (looked_on looked slots) t5 w5 _ s sa (quiet_in k.frame.entries p q (suc m) j (omega arith) (omega arith) quiet)
        (looked_fits k.frame.entries looked slots fits) (looked_falls k env looked slots fits) (omega arith)
        (λ vs t2 w2 len2 f2 s2 l2. ks_part 0 0 (valued k q env slots) k line env slots 3 0 (omega arith) j keys i (pushed vs (looked_on looked slots)) t2 w2 _ s sk (quiet_in k.frame.entries p q j i (omega arith) (omega arith) quiet)
        f2 s2 (omega arith)
        (λ ks t3 w3 len3 f3 s3 l3. method_sim ihc k line i (count args) (key_count keys) env slots t3 w3 looked vs ks s h (quiet (suc i) (omega arith) (omega arith)) fits (omega arith) s3 len2 len3 (ltb-true (count args) 256 small)))))

    pub e_sim : SimApply n → SimE (suc n)
    e_sim ihc k line p q e env slots t w s se quiet fits le =
        o_wide library K 8 8 0 0 (valued k q env slots) k env slots _ t 0 0 (suc (pred (esize e))) (esize e) _ (omega arith) (omega arith) (omega (arith, e_pos e)) (omega (arith, e_pos e))
        (o_turned library K 0 (valued k q env slots) k env slots 0 (at k.frame p env slots) t (pred (esize e)) w _
        (λ t1 l1. e_case_sim ihc k line p q e env slots t1 w s se quiet fits (omega arith) (pred (esize e)) (omega (arith, e_pos e))))

  pub e_none : SimE 0
  e_none k line p q e env slots t w s se quiet fits le = g_open library K _ _ (esize e) t le refl
