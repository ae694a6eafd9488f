-- The machine follows the code of a unit, whatever its frame is for.
use Rattle.std.proofs.Common.{◌≡◌, ℕ, zero, suc, ◌+◌, ◌≤◌, Bool, true, false, List, [], ◌∷◌, ◌++◌, length, map, Some, refl, sym, ap, ◌∙◌, subst, arith}
use Rattle.std.proofs.lemmas.List.{get_or-append_right}
use Rattle.std.specs.Prelude.{◌-◌, replicate, nat_lt, cond, None}
use Rattle.bc_scheme.specs.mpy_base.declared.limits.TheConstants.{MAX_CALLS}
use Rattle.bc_scheme.specs.mpy_base.World.{Object, FunctionObject, object}
use Rattle.bc_scheme.specs.mpy_base.Weights.{does_fit, with_made, more_cells, used, cells_of, bytes_of}
use Rattle.bc_scheme.specs.mpy_base.Val.{Val, Nil, At, PlainWorld}
use Rattle.bc_scheme.specs.bc_ops.declared.instr.Op.TheVariants as ops
use Rattle.bc_scheme.specs.py_values.Shown.{PlainHeap}
use Rattle.bc_scheme.specs.py_primitives.Faults.{TooDeep}
use Rattle.bc_scheme.specs.py_primitives.Outcome.{gives, is_full}
use Rattle.bc_scheme.specs.py_effects.Effect.{Place, on_heap, fault_at}
use Rattle.bc_scheme.specs.py_effects.Names.{Locals}
use Rattle.bc_scheme.specs.py_effects.Calling as calling
use Rattle.bc_scheme.specs.py_effects.Calling.{Runs, callee_of, callee_object, bind}
use Rattle.bc_scheme.specs.py_effects.Modules.{make_function}
use Rattle.bc_scheme.specs.py_effects.Ends.{Memory}
use Rattle.bc_scheme.specs.py_meaning.Tree.{Name}
use Rattle.bc_scheme.specs.py_meaning.Program as programs
use Rattle.bc_scheme.specs.py_meaning.Program.{Program, Source, Single, Merge, Units, Part, Parts, size, module_name, module_text}
use Rattle.bc_scheme.specs.py_meaning.Outcomes.{Out, EVal, EExc, EOpen, EFull, Done, Normal, Broke, Continued, Returned, Raised, SOut, SDone, SOpen, SFull, from_body, call_done, e_then, e_does, e_fails, e_choose}
use Rattle.bc_scheme.specs.py_meaning.Imports.{unit_frame, part_place, call_part, run_unit, run_parts}
use Rattle.bc_scheme.specs.py_meaning.Meaning.{sem}
use Rattle.bc_scheme.specs.py_meaning.Bounds.{left_e}
use Rattle.bc_scheme.specs.bc_machine.Library.{Code, Module, Library, code_at}
use Rattle.bc_scheme.specs.bc_machine.State as states
use Rattle.bc_scheme.specs.bc_machine.State.{Slot, Value, Role, Called, Frame, State, Running, Halted, remark, abandoned, give, throw_out}
use Rattle.bc_scheme.specs.bc_machine.Parts.{has_depth, new_frame}
use Rattle.bc_scheme.specs.bc_machine.Step as steps
use Rattle.bc_scheme.specs.bc_machine.Step.{item_step, child_of}
use Rattle.bc_scheme.specs.Context.{Behind, plain, number}
use Rattle.bc_scheme.specs.Statements.{Around}
use Rattle.sim_stmt.specs.Sites.{Site, at, Sited}
use Rattle.sim_stmt.specs.Lands.{IsGoing, valued, state_of}
use Rattle.sim_stmt.proofs.Goes.{GoesIn, g_here, g_wide, g_step, g_pay, g_map, g_bind, g_then}
use Rattle.sim_stmt.proofs.Base.{stepped, stepped_behind, went}
use Rattle.sim_stmt.proofs.Lands.{if_value, Falls, GoesO, o_wide, o_bind, o_turned, o_gives, o_goes, o_fails}
use Rattle.sim_stmt.proofs.Ends.{GoesS, if_normal}
use Rattle.sim_stmt.proofs.Sizes.{bsize}
use Rattle.sim_stmt.proofs.Blocks.{IsText, text_lines, text_name, text_locals, text_children, OnLine1, IsCall, AreCalls, IsOuter, IsUnit, AreUnits, IsHead, head_of, SimS, b_sim}

-- where the machine stands when the code of a frame with this role is done
abbrev pub LandsU : Role → List Frame → Out Val → State → Type 0
LandsU role frames (EVal v t w) s = s ≡ give v role frames w
LandsU role frames (EExc x t w) s = s ≡ throw_out x frames (abandoned role w)
LandsU role frames (EOpen w) s = IsGoing w s
LandsU role frames (EFull e t w) s = s ≡ Halted (Memory e) w

abbrev pub whole : ℕ → Around
whole last = record { brk = last; cont = last; count = 0; iterator = false }

module _ (library : Library) (K : ℕ) where
  -- the end of a code: None is returned
  pub ended : (k : Site) (last : ℕ) (env : Locals) (w : PlainWorld) (L : State → Type 0) (t left1 spare owed x size : ℕ) → Sited library k → k.frame.entries ≡ []
      → Behind k.context last (plain ops.LoadConstNone) → Behind k.context (suc last) (plain ops.ReturnValue)
      → GoesIn library K L (states.leave Nil k.frame.entries (at k.frame (suc last) env []) k.waiting w) t left1 spare owed x size
      → GoesIn library K L (Running 0 (at k.frame last env []) k.waiting w) t left1 spare owed (suc (suc x)) size
  ended k last env w L t left1 spare owed x size s none h1 h2 g =
      let quiet : map (remark (suc last)) k.frame.entries ≡ k.frame.entries = ap (map (remark (suc last))) none ∙ sym none in
      g_step library K L _ _ t left1 spare owed (suc x) size (stepped_behind library k last (plain ops.LoadConstNone) env [] w s h1 ∙ went k last (suc last) env [] (Value Nil ∷ []) w quiet)
      (g_step library K L _ _ t left1 spare owed x size (stepped_behind library k (suc last) (plain ops.ReturnValue) env (Value Nil ∷ []) w s h2) g)

  -- a call is done, and its caller goes on
  pub called_sim : (k : Site) (p : ℕ) (env : Locals) (slots : List Slot) (s : State) (t x size : ℕ) (r : Out Val) → Falls k env slots slots → map (remark (suc p)) k.frame.entries ≡ k.frame.entries
      → GoesIn library K (LandsU Called (at k.frame p env slots ∷ k.waiting) r) s t (left_e r) 0 0 x size → GoesO library K 0 0 (valued k (suc p) env slots) k env slots s t x size r
  called_sim k p env slots s t x size (EVal v t1 w) same quiet g = g_map library K _ _ s t t1 0 0 x size (λ u l. l ∙ went k p (suc p) env slots (Value v ∷ slots) w quiet) g
  called_sim k p env slots s t x size (EExc y t1 w) same quiet g = g_map library K _ _ s t t1 0 0 x size (λ u l. l ∙ same y p w) g
  called_sim k p env slots s t x size (EOpen w) same quiet g = g
  called_sim k p env slots s t x size (EFull e t1 w) same quiet g = g

-- ---- sources

-- both sides run the text of a source
abbrev pub source_site : {library : Library} {K : ℕ} (file name : Name) (names base depth : ℕ) (source : Source) → IsText library K name base (module_text file source base) → Role → List Frame → Site
source_site file name names base depth source is role frames = record {
  meant = unit_frame file name names base depth source.level;
  context = record { lines = is.own.lines; level = source.level; is_module = is.is_module; locals = []; children = is.own.children; base = 0; codes = is.all };
  frame = new_frame name base is.code [] names role;
  waiting = frames;
  holder = is.m;
  code = is.code;
}

module _ (program : Program) (library : Library) (K : ℕ) (some : 1 ≤ K) (n : ℕ) (ihs : SimS program library K n) where
  module _ (file name : Name) (names base depth : ℕ) (source : Source) (is : IsText library K name base (module_text file source base)) (role : Role) (frames : List Frame) (deep : depth ≡ suc (length frames)) where
    abbrev k : Site
    k = source_site file name names base depth source is role frames

    sited : Sited library k
    sited = record {
      of_module = is.of_module;
      of_code = is.of_code;
      lines = text_lines is;
      file = is.file;
      name = text_name is;
      level = refl;
      locals = refl;
      names = refl;
      module_name = refl;
      depth = deep;
      shift = base;
      children = text_children is;
      base = omega arith;
      codes = is.codes;
      rooms = omega arith;
    }

    over_sim : (d : Done) (env : Locals) (t : ℕ) (w : PlainWorld)
        → GoesIn library K (LandsU role frames (call_done d t w)) (state_of k (whole is.stands.last) is.stands.last [] d env w) t (left_e (call_done d t w)) 0 0 2 0
    over_sim Normal env t w = ended library K k is.stands.last env w _ t t 0 0 0 0 sited refl is.stands.none is.stands.return (g_here library K _ _ t refl)
    over_sim Broke env t w = ended library K k is.stands.last env w _ t t 0 0 0 0 sited refl is.stands.none is.stands.return (g_here library K _ _ t refl)
    over_sim Continued env t w = ended library K k is.stands.last env w _ t t 0 0 0 0 sited refl is.stands.none is.stands.return (g_here library K _ _ t refl)
    over_sim (Returned v) env t w = g_wide library K _ _ t t 0 0 0 0 0 2 0 0 (omega arith) (omega arith) (g_here library K _ _ t refl)
    over_sim (Raised x) env t w = g_wide library K _ _ t t 0 0 0 0 0 2 0 0 (omega arith) (omega arith) (g_here library K _ _ t refl)

    body_over : (s : State) (t size : ℕ) (r : SOut) → GoesS library K 0 k (whole is.stands.last) is.stands.last [] s t 0 size r → GoesIn library K (LandsU role frames (from_body r)) s t (left_e (from_body r)) 0 0 2 size
    body_over s t size (SDone d env t1 w) g = g_bind library K _ s _ t t1 (left_e (call_done d t1 w)) (if_normal 0 (SDone d env t1 w)) 0 0 0 0 2 2 size 0 size (omega arith) (omega arith) g (over_sim d env t1 w)
    body_over s t size (SOpen w) g = g_wide library K _ s t 0 0 0 0 0 0 2 size size (omega arith) (omega arith) g
    body_over s t size (SFull e t1 w) g = g_wide library K _ s t t1 0 0 0 0 0 2 size size (omega arith) (omega arith) g

    -- the code of a source
    source_sim : (t : ℕ) (w : PlainWorld) → t ≤ n
        → let r = run_unit (sem program n).exec file name names (Single source) base depth t w in
        GoesIn library K (LandsU role frames r) (Running 0 (new_frame name base is.code [] names role) frames w) t (left_e r) 0 0 2 K
    source_sim t w le =
        let r = run_unit (sem program n).exec file name names (Single source) base depth t w in
        let begin : Running 0 (new_frame name base is.code [] names role) frames w ≡ Running 0 (at k.frame 0 [] []) frames w = ap (λ c. Running 0 (at k.frame 0 (replicate (c - 0) None) []) frames w) (text_locals is) in
        subst (λ s. GoesIn library K (LandsU role frames r) s t (left_e r) 0 0 2 K) (sym begin)
        (g_wide library K _ _ t (left_e r) 0 0 0 0 2 2 (bsize source.body) K (omega arith) (omega (arith, is.small))
        (body_over _ t (bsize source.body) _
        (b_sim program library K n ihs k [] [] (whole is.stands.last) 0 source.body is.stands.last [] t w sited is.stands.body (record { quiet = λ r l h. refl; fits = tt; kept = refl; iter = tt }) is.small le)))

  -- ---- merges

  -- what is known of a value and its world
  abbrev Knows : (Val → PlainWorld → Type 0) → Out Val → Type 0
  Knows P (EVal v t w) = P v w
  Knows P (EExc x t w) = Unit {0}
  Knows P (EOpen w) = Unit {0}
  Knows P (EFull e t w) = Unit {0}

  -- the function that is made is the one that is called
  abbrev IsFunction : (name : Name) → (base names : ℕ) → Val → PlainWorld → Type 0
  IsFunction name base names v w = callee_of w v ≡ Runs (record { module_name = name; code = base; names = names; defaults = Nil })

  made_there : (heap : PlainHeap) (o : Object Val (List ℕ)) → object (with_made heap o).objects (used heap) ≡ Some o
  made_there heap o = get_or-append_right heap.objects (Some o ∷ replicate (more_cells o) None) (used heap) (used heap) None refl (omega arith) ∙ first (used heap - used heap) (omega arith)
    where
      first : (i : ℕ) → i ≡ 0 → object (Some o ∷ replicate (more_cells o) None) i ≡ Some o
      first zero e = refl
      first (suc i) e = absurd cc

  function_by : (place : Place) (name called : Name) (base names : ℕ) (t : ℕ) (w : PlainWorld) (b : Bool) → let o = FunctionObject called name base names Nil in
      Knows (IsFunction name base names) (e_does place (on_heap w (cond b (gives (At (used w.heap)) (with_made w.heap o)) (is_full w.heap (cells_of o) (bytes_of o)))) t w)
  function_by place name called base names t w true =
      let o = FunctionObject called name base names Nil in
      ap (callee_object (record w { heap = with_made w.heap o }) (At (used w.heap))) (made_there w.heap o)
  function_by place name called base names t w false = tt

  function_made : (place : Place) (name called : Name) (base names : ℕ) (t : ℕ) (w : PlainWorld) → Knows (IsFunction name base names) (e_does place (make_function w called name base names Nil) t w)
  function_made place name called base names t w =
      let o : Object Val (List ℕ) = FunctionObject called name base names Nil in function_by place name called base names t w (does_fit w.heap (cells_of o) (bytes_of o))

  -- a bind that knows what is bound
  bind_is : (owed owed1 : ℕ) (v1 v : Val → PlainWorld → State) (k : Site) (env : Locals) (slots : List Slot) (s : State) (t x1 x2 x size1 size2 size : ℕ) (P : Val → PlainWorld → Type 0) (r : Out Val) (nx : Val → ℕ → PlainWorld → Out Val)
      → Falls k env slots slots → x1 + x2 ≤ x → x1 ≤ x → size1 + size2 ≤ size + owed1 → size1 ≤ size → Knows P r → GoesO library K 0 owed1 v1 k env slots s t x1 size1 r
      → ((a : Val) (t1 : ℕ) (w1 : PlainWorld) → P a w1 → t1 ≤ t → GoesO library K 0 owed v k env slots (v1 a w1) t1 x2 size2 (nx a t1 w1)) → GoesO library K 0 owed v k env slots s t x size (e_then r nx)
  bind_is owed owed1 v1 v k env slots s t x1 x2 x size1 size2 size P (EVal a t1 w) nx same xs xw ss sw p g h =
      g_then library K _ s (v1 a w) t t1 (left_e (nx a t1 w)) 0 (if_value 0 (nx a t1 w)) owed1 (if_value owed (nx a t1 w)) x1 x2 x size1 size2 size (omega (arith, xs)) ss g (λ le. h a t1 w p le)
  bind_is owed owed1 v1 v k env slots s t x1 x2 x size1 size2 size P (EExc y t1 w) nx same xs xw ss sw p g h =
      g_wide library K _ s t t1 0 0 0 0 x1 x size1 size (omega (arith, xw)) (omega (arith, sw)) (g_map library K _ _ s t t1 0 0 x1 size1 (λ u l. l ∙ same y 0 w) g)
  bind_is owed owed1 v1 v k env slots s t x1 x2 x size1 size2 size P (EOpen w) nx same xs xw ss sw p g h = g_wide library K _ s t 0 0 0 0 0 x1 x size1 size (omega (arith, xw)) (omega (arith, sw)) g
  bind_is owed owed1 v1 v k env slots s t x1 x2 x size1 size2 size P (EFull e t1 w) nx same xs xw ss sw p g h = g_wide library K _ s t t1 0 0 0 0 x1 x size1 size (omega (arith, xw)) (omega (arith, sw)) g

  module _ (file name : Name) (names : ℕ) where
    abbrev UnitGoes : programs.Unit → (base depth : ℕ) → Type 0
    UnitGoes u base depth =
        (role : Role) (frames : List Frame) → depth ≡ suc (length frames) → (code : Code) → code_at library name base ≡ Some code → (t : ℕ) (w : PlainWorld) → t ≤ n
        → let r = run_unit (sem program n).exec file name names u base depth t w in
        GoesIn library K (LandsU role frames r) (Running 0 (new_frame name base code [] names role) frames w) t (left_e r) 0 0 2 K

    -- both sides run a merge's own code
    module _ (base depth : ℕ) (m : Module) (code : Code) (role : Role) (frames : List Frame) (ls : Locals) where
      abbrev outer : Site
      outer = record {
        meant = unit_frame file name names base depth 0;
        context = record { lines = code.lines; level = 0; is_module = true; locals = []; children = []; base = 0; codes = [] };
        frame = new_frame name base code ls names role;
        waiting = frames;
        holder = m;
        code = code;
      }

      abbrev standing : (p : ℕ) → (env : Locals) → List Slot → PlainWorld → State
      standing p env slots w = Running 0 (at outer.frame p env slots) frames w

      module _ (s : Sited library outer) (deep : depth ≡ suc (length frames)) (env : Locals) where
        falls : (slots0 slots : List Slot) → Falls outer env slots0 slots
        falls slots0 slots x p w = refl

        -- a part is done, and its value is dropped
        part_over : (p : ℕ) (st : State) (t : ℕ) (r : Out Val) → OnLine1 code (suc (suc p)) (plain ops.PopTop) → GoesIn library K (LandsU Called (at outer.frame (suc p) env [] ∷ frames) r) st t (left_e r) 0 0 2 K
            → GoesO library K 0 K (λ v w. standing (suc (suc (suc p))) env [] w) outer env [] st t 3 (K + K) r
        part_over p st t (EVal v t1 w) h g =
            g_bind library K _ st (standing (suc (suc p)) env (Value v ∷ []) w) t t1 t1 0 0 0 K 2 1 3 K K (K + K) (omega arith) (omega arith) g
            (o_goes library K _ outer 1 (suc (suc p)) (suc (suc (suc p))) (plain ops.PopTop) env (Value v ∷ []) [] t1 t1 0 K 0 K w s h refl refl (g_wide library K _ _ t1 t1 0 0 0 K 0 0 0 K (omega arith) (omega arith) (g_here library K _ _ t1 refl)))
        part_over p st t (EExc x t1 w) h g = g_wide library K _ st t t1 0 0 0 0 2 3 K (K + K) (omega arith) (omega arith) g
        part_over p st t (EOpen w) h g = g_wide library K _ st t 0 0 0 0 0 2 3 K (K + K) (omega arith) (omega arith) g
        part_over p st t (EFull e t1 w) h g = g_wide library K _ st t t1 0 0 0 0 2 3 K (K + K) (omega arith) (omega arith) g

        module _ (p index child : ℕ) (is : IsCall code p index child) (head : IsHead library name child) where
          make_is : (paid : ℕ) (w : PlainWorld) → item_step library (part_place file) paid (at outer.frame p env []) frames w (number ops.MakeFunction index)
              ≡ steps.gives library (part_place file) paid (at outer.frame p env []) frames w [] (make_function w module_name name child names Nil)
          make_is paid w =
              let f = at outer.frame p env [] in
              ap (λ o. steps.make library (part_place file) paid f frames w [] Nil (child_of library (part_place file) paid f frames w o index)) s.of_code
              ∙ ap (λ o. steps.make library (part_place file) paid f frames w [] Nil o) is.is
              ∙ ap (λ o. steps.made_function library (part_place file) paid f frames w child [] Nil o) head.of_code
              ∙ ap (λ x. steps.gives library (part_place file) paid f frames w [] (make_function w x name child names Nil)) head.name_is

          call_is : (fv : Val) (w : PlainWorld) (b : Bool) → IsFunction name child names fv w → has_depth frames ≡ b
              → item_step library (part_place file) 0 (at outer.frame (suc p) env (Value fv ∷ [])) frames w (number ops.CallFunction 0)
              ≡ steps.entered library (part_place file) 0 (at outer.frame (suc p) env (Value fv ∷ [])) frames w [] (record { module_name = name; code = child; names = names; defaults = Nil }) head.code [] b w
          call_is fv w b made deep_is =
              let f = at outer.frame (suc p) env (Value fv ∷ []) in
              let fn : calling.Function = record { module_name = name; code = child; names = names; defaults = Nil } in
              ap (λ c. steps.run_callee library (part_place file) 0 f frames w [] c [] []) made
              ∙ ap (λ o. steps.run_code library (part_place file) 0 f frames w [] fn o [] []) head.of_code
              ∙ ap (λ ps. steps.does library (part_place file) 0 f frames w (bind w ps head.code.given Nil [] []) (λ slots. steps.entered library (part_place file) 0 f frames w [] fn head.code slots (has_depth frames))) head.params
              ∙ ap (λ g. steps.does library (part_place file) 0 f frames w (bind w [] g Nil [] []) (λ slots. steps.entered library (part_place file) 0 f frames w [] fn head.code slots (has_depth frames))) head.given
              ∙ ap (λ c. steps.entered library (part_place file) 0 f frames w [] fn head.code [] c w) deep_is

          entered_sim : (u : programs.Unit) → UnitGoes u child (suc depth) → (fv : Val) (t : ℕ) (w : PlainWorld) → IsFunction name child names fv w → t ≤ n → (b : Bool) → has_depth frames ≡ b
              → GoesO library K 0 K (λ v w. standing (suc (suc (suc p))) env [] w) outer env [] (standing (suc p) env (Value fv ∷ []) w) t 4 K
              (e_choose b (run_unit (sem program n).exec file name names u child (suc depth)) (λ t2 w2. e_fails (fault_at (part_place file) w2 TooDeep) t2) t w)
          entered_sim u goes fv t w made le true e =
              let r = run_unit (sem program n).exec file name names u child (suc depth) t w in
              g_pay library K _ _ _ t (left_e r) (if_value 0 r) (if_value K r) 3 K K (omega arith) (stepped library outer 0 1 (suc p) (number ops.CallFunction 0) env (Value fv ∷ []) w s is.call ∙ call_is fv w true made e)
              (part_over p _ t r is.pop (goes Called (at outer.frame (suc p) env [] ∷ frames) (ap suc deep) head.code head.of_code t w le))
          entered_sim u goes fv t w made le false e =
              o_wide library K 0 0 0 K (λ v w. standing (suc (suc (suc p))) env [] w) outer env [] _ t 1 4 0 K _ (omega arith) (omega arith) (omega arith) (omega arith)
              (g_step library K _ _ _ t _ _ _ 0 0 (stepped library outer 0 1 (suc p) (number ops.CallFunction 0) env (Value fv ∷ []) w s is.call ∙ call_is fv w false made e)
              (o_fails library K (λ v w. standing (suc (suc (suc p))) env [] w) outer env (Value fv ∷ []) [] (suc p) t (fault_at (part_place file) w TooDeep) (falls (Value fv ∷ []) [])))

          -- one part: its turn, its function, its call
          part_sim : (u : programs.Unit) → UnitGoes u child (suc depth) → (t : ℕ) (w : PlainWorld) → t ≤ n
              → GoesO library K 0 K (λ v w. standing (suc (suc (suc p))) env [] w) outer env [] (standing p env [] w) t 0 1
              (call_part (sem program n).exec file name names child depth (run_unit (sem program n).exec file name names u child (suc depth)) t w)
          part_sim u goes t w le =
              let v = λ (a : Val) (w1 : PlainWorld). standing (suc (suc (suc p))) env [] w1 in
              let same : has_depth frames ≡ nat_lt depth MAX_CALLS = ap (λ d. nat_lt d MAX_CALLS) (sym deep) in
              o_wide library K 8 0 K K v outer env [] _ t 0 0 1 1 _ (omega arith) (omega arith) (omega arith) (omega arith)
              (o_turned library K K v outer env [] 0 (at outer.frame p env []) t 0 w _
              (λ t1 l1. o_wide library K 0 0 K K v outer env [] _ t1 5 8 0 0 _ (omega arith) (omega arith) (omega arith) (omega arith)
              (bind_is K K (λ fv w1. standing (suc p) env (Value fv ∷ []) w1) v outer env [] _ t1 1 4 5 0 K 0 (IsFunction name child names) _ _ (falls [] []) (omega arith) (omega arith) (omega arith) (omega arith)
              (function_made (part_place file) name module_name child names t1 w)
              (o_gives library K (λ fv. Value fv ∷ []) outer 1 p (number ops.MakeFunction index) env [] [] t1 w (make_function w module_name name child names Nil) some s is.make refl (falls [] []) (λ paid. make_is paid w))
              (λ fv t2 w2 made l2. entered_sim u goes fv t2 w2 made (omega (arith, l1, l2, le)) (nat_lt depth MAX_CALLS) same))))

      sited_outer : (is_code : code_at library name base ≡ Some code) → Rattle.bc_scheme.specs.bc_machine.Library.module_in (Rattle.bc_scheme.specs.bc_machine.Library.entry_in library name) ≡ Some m → m.file ≡ file → code.name ≡ module_name → depth ≡ suc (length frames) → Sited library outer
      sited_outer is_code is_m file_is name_is deep = record {
        of_module = is_m;
        of_code = is_code;
        lines = refl;
        file = file_is;
        name = name_is;
        level = refl;
        locals = refl;
        names = refl;
        module_name = refl;
        depth = deep;
        shift = base;
        children = λ i n e. absurd cc;
        base = omega arith;
        codes = λ i c e. absurd cc;
        rooms = omega arith;
      }

      -- the parts from p to q, and then None
      abbrev PartsGo : Units → (p child q : ℕ) → Type 0
      PartsGo us p child q =
          Sited library outer → depth ≡ suc (length frames) → (env : Locals) (t : ℕ) (w : PlainWorld) → t ≤ n
          → GoesO library K 0 0 (λ v w. standing q env [] w) outer env [] (standing p env [] w) t 0 1 (run_parts (sem program n).exec file name names us child depth t w)

      -- the parts are done
      merge_over : (us : Units) (q : ℕ) → Sited library outer → OnLine1 code q (plain ops.LoadConstNone) → OnLine1 code (suc q) (plain ops.ReturnValue) → (env : Locals) (st : State) (t : ℕ) (r : Out Val)
          → GoesO library K 0 0 (λ v w. standing q env [] w) outer env [] st t 0 1 r → GoesIn library K (LandsU role frames (e_then r (λ done. EVal Nil))) st t (left_e (e_then r (λ done. EVal Nil))) 0 0 2 K
      merge_over us q s h1 h2 env st t (EVal v t1 w) g =
          g_bind library K _ st (standing q env [] w) t t1 t1 0 0 0 0 0 2 2 1 0 K (omega arith) (omega (arith, some)) g
          (o_goes library K _ outer 1 q (suc q) (plain ops.LoadConstNone) env [] (Value Nil ∷ []) t1 t1 0 0 1 0 w s h1 refl refl
          (g_step library K _ _ _ t1 t1 0 0 0 0 (stepped library outer 0 1 (suc q) (plain ops.ReturnValue) env (Value Nil ∷ []) w s h2) (g_here library K _ _ t1 refl)))
      merge_over us q s h1 h2 env st t (EExc x t1 w) g = g_wide library K _ st t t1 0 0 0 0 0 2 1 K (omega arith) (omega (arith, some)) g
      merge_over us q s h1 h2 env st t (EOpen w) g = g_wide library K _ st t 0 0 0 0 0 0 2 1 K (omega arith) (omega (arith, some)) g
      merge_over us q s h1 h2 env st t (EFull e t1 w) g = g_wide library K _ st t t1 0 0 0 0 0 2 1 K (omega arith) (omega (arith, some)) g

    some_is : (code code1 : Code) → Some code ≡ Some code1 → code ≡ code1
    some_is code code1 e = cc

    -- a merge's own code, by its parts
    merge_by : (base depth : ℕ) (units : Units) (is : IsOuter library file name base units) (role : Role) (frames : List Frame) → depth ≡ suc (length frames) → (ls : Locals)
        → PartsGo base depth is.m is.code role frames ls units 0 (suc base) is.last → (t : ℕ) (w : PlainWorld) → t ≤ n
        → let r = run_unit (sem program n).exec file name names (Merge units) base depth t w in
        GoesIn library K (LandsU role frames r) (Running 0 (new_frame name base is.code ls names role) frames w) t (left_e r) 0 0 2 K
    merge_by base depth units is role frames deep ls goes t w le =
        let env = ls ++ replicate (is.code.locals - length ls) None in
        let s = sited_outer base depth is.m is.code role frames ls is.of_code is.of_module is.file_is is.name_is deep in
        merge_over base depth is.m is.code role frames ls units is.last s is.none is.return env _ t _ (goes s deep env t w le)

    mutual
      -- the code of a unit
      pub unit_sim : (base depth : ℕ) (u : programs.Unit) → IsUnit library K file name base u → UnitGoes u base depth
      unit_sim base depth (Single source) is role frames deep code e t w le =
          let r = run_unit (sem program n).exec file name names (Single source) base depth t w in
          subst (λ c. GoesIn library K (LandsU role frames r) (Running 0 (new_frame name base c [] names role) frames w) t (left_e r) 0 0 2 K) (some_is is.code code (sym is.of_code ∙ e))
          (source_sim file name names base depth source is role frames deep t w le)
      unit_sim base depth (Merge units) is role frames deep code e t w le =
          let r = run_unit (sem program n).exec file name names (Merge units) base depth t w in
          subst (λ c. GoesIn library K (LandsU role frames r) (Running 0 (new_frame name base c [] names role) frames w) t (left_e r) 0 0 2 K) (some_is is.0.code code (sym is.0.of_code ∙ e))
          (merge_by base depth units is.0 role frames deep [] (parts_sim base depth is.0.m is.0.code role frames [] units 0 0 (suc base) is.0.last is.0.calls is.1) t w le)

      parts_sim : (base depth : ℕ) (m : Module) (code : Code) (role : Role) (frames : List Frame) (ls : Locals) (us : Units) (p index child q : ℕ) → AreCalls code p index child us q → AreUnits library K file name child us
          → PartsGo base depth m code role frames ls us p child q
      parts_sim base depth m code role frames ls (Part u) p index child q calls is s deep env t w le =
          subst (λ i. GoesO library K 0 0 (λ v w. standing base depth m code role frames ls i env [] w) (outer base depth m code role frames ls) env [] (standing base depth m code role frames ls p env [] w) t 0 1
          (run_parts (sem program n).exec file name names (Part u) child depth t w)) (sym calls.1)
          (o_wide library K 0 0 K 0 (λ v w. standing base depth m code role frames ls (suc (suc (suc p))) env [] w) (outer base depth m code role frames ls) env [] _ t 0 0 1 1 _ (omega arith) (omega arith) (omega arith) (omega arith)
          (part_sim base depth m code role frames ls s deep env p index child calls.0 (head_of library K file name child u is) u (unit_sim child (suc depth) u is) t w le))
      parts_sim base depth m code role frames ls (Parts u us) p index child q calls is s deep env t w le =
          o_bind library K 0 0 K 0 (λ v w. standing base depth m code role frames ls (suc (suc (suc p))) env [] w) (λ v w. standing base depth m code role frames ls q env [] w) (outer base depth m code role frames ls) env [] [] _ t 0 0 0 1 1 1 _ _
          (λ x i w1. refl) (omega arith) (omega arith) (omega (arith, some)) (omega arith)
          (part_sim base depth m code role frames ls s deep env p index child calls.0 (head_of library K file name child u is.0) u (unit_sim child (suc depth) u is.0) t w le)
          (λ v t1 w1 l. parts_sim base depth m code role frames ls us (suc (suc (suc p))) (suc index) (child + size u) q calls.1 is.1 s deep env t1 w1 (omega (arith, l, le)))

    pub merge_sim : (base depth : ℕ) (units : Units) → (is : IsUnit library K file name base (Merge units)) → (role : Role) (frames : List Frame) → depth ≡ suc (length frames) → (ls : Locals) (t : ℕ) (w : PlainWorld) → t ≤ n
        → let r = run_unit (sem program n).exec file name names (Merge units) base depth t w in
        GoesIn library K (LandsU role frames r) (Running 0 (new_frame name base is.0.code ls names role) frames w) t (left_e r) 0 0 2 K
    merge_sim base depth units is role frames deep ls t w le =
        merge_by base depth units is.0 role frames deep ls (parts_sim base depth is.0.m is.0.code role frames ls units 0 0 (suc base) is.0.last is.0.calls is.1) t w le
