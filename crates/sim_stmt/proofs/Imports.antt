-- The machine follows imports: a unit that begins, the prefixes of a name, and both forms of the statement.
use Rattle.std.proofs.Common.{◌≡◌, ℕ, zero, suc, ◌+◌, ◌*◌, ◌≤◌, pos, Bool, true, false, List, [], ◌∷◌, ◌++◌, length, map, reverse, Option, Some, None, append_assoc, refl, sym, ap, ◌∙◌, subst, arith}
use Rattle.std.specs.Prelude.{nat_lt, cond}
use Rattle.std.proofs.lemmas.Grind.{reverse_onto}
use Rattle.bc_scheme.specs.mpy_base.declared.limits.TheConstants.{MAX_CALLS}
use Rattle.bc_scheme.specs.mpy_base.World.{Object, TupleObject, names_of, object}
use Rattle.bc_scheme.specs.mpy_base.Weights.{does_fit, with_made, used, cells_of, bytes_of}
use Rattle.bc_scheme.specs.mpy_base.Val.{Val, Nil, Int, Str, At, PlainWorld}
use Rattle.bc_scheme.specs.bc_ops.declared.instr.Op.TheVariants as ops
use Rattle.bc_scheme.specs.bc_ops.declared.instr.Instr.TheVariants as instrs
use Rattle.bc_scheme.specs.py_primitives.Faults.{TooDeep, NoModule, IncompatibleFile}
use Rattle.bc_scheme.specs.py_values.Shown.{PlainHeap}
use Rattle.bc_scheme.specs.py_primitives.Outcome.{gives, is_full, making_tuple}
use Rattle.bc_scheme.specs.py_primitives.Uses.{get_attr}
use Rattle.bc_scheme.specs.py_tree.declared.stmt.Alias.{Alias}
use Rattle.bc_scheme.specs.py_effects.Effect.{Place, on_heap, does, given, fault_at}
use Rattle.bc_scheme.specs.py_effects.Names.{Locals, import_from}
use Rattle.bc_scheme.specs.py_effects.Modules.{Made, make_module, store_module, stored_in, stored_under, forget_module, registered_as, is_port, outer_name, last_part, module_named, prefixes, prefixes_from, parts_of, first_of}
use Rattle.bc_scheme.specs.py_effects.Growth.{IsRegistered}
use Rattle.bc_scheme.specs.py_meaning.Tree.{Name}
use Rattle.bc_scheme.specs.py_meaning.Program as programs
use Rattle.bc_scheme.specs.py_meaning.Program.{Program, Unit, Runs, Refused, first_file}
use Rattle.bc_scheme.specs.py_meaning.Outcomes.{Out, EVal, EExc, EOpen, EFull, SOut, SDone, SOpen, SFull, Normal, Broke, Continued, Returned, Raised, e_turns, e_then, e_given, e_does, e_fails, e_choose}
use Rattle.bc_scheme.specs.py_meaning.Frames as meanings
use Rattle.bc_scheme.specs.py_meaning.Frames.{place_at}
use Rattle.bc_scheme.specs.py_meaning.Imports.{end_module, begin_unit, begin_entry, is_there, begin_all, part_turns, import_name}
use Rattle.bc_scheme.specs.py_meaning.Statements.{bound_name, from_name, read_parts, last_of, read_all, import_one, imports, import_names, imports_from}
use Rattle.bc_scheme.specs.py_meaning.Meaning.{sem}
use Rattle.bc_scheme.specs.py_meaning.Bounds.{world_e, left_e}
use Rattle.bc_scheme.proofs.py_meaning_lemmas.GrowStmts.{not_there}
use Rattle.bc_scheme.specs.bc_machine.Library as libraries
use Rattle.bc_scheme.specs.bc_machine.Library.{Item, Plain, Names, Holds, Library, entry_in, code_in, module_in}
use Rattle.bc_scheme.specs.bc_machine.State.{Slot, Value, Imported, Frame, State, Running, remark, go, on_given}
use Rattle.bc_scheme.specs.bc_machine.Parts.{has_depth, new_frame, first_absent}
use Rattle.bc_scheme.specs.bc_machine.Operations as operations
use Rattle.bc_scheme.specs.bc_machine.Step as steps
use Rattle.bc_scheme.specs.bc_machine.Step.{item_step, paying}
use Rattle.bc_scheme.proofs.bc_machine_lemmas.Laws.{not_main}
use Rattle.bc_scheme.specs.Context.{Has, plain, number, stores}
use Rattle.bc_scheme.specs.Statements.{Around, StandsR, no_part, part, StandsM, no_import, imported, StandsN, no_text, text, StandsF, no_name, taken}
use Rattle.sim_stmt.specs.Sites.{Site, at, Sited, Quiet, Fits}
use Rattle.sim_stmt.specs.Lands.{valued}
use Rattle.sim_stmt.specs.Follows.{pushed}
use Rattle.sim_stmt.proofs.Goes.{GoesIn, g_here, g_open, g_wide, g_turn, g_step, g_map, g_bind, g_then, g_never, g_order}
use Rattle.sim_stmt.proofs.Base.{stepped, quiet_in}
use Rattle.sim_stmt.proofs.Lands.{if_value, Falls, falls_here, falls_over, GoesO, o_wide, o_bind, o_given, o_fails, o_does, o_gives, o_prim, o_goes}
use Rattle.sim_stmt.proofs.Operands.{pushed_is, values_of, below_of}
use Rattle.sim_stmt.proofs.Exprs.{fits_one}
use Rattle.sim_stmt.proofs.Ends.{GoesS, GoesT, passed, Tells, tells_does, TellsAnswer, s_use_bind, t_use_bind, t_bind, s_store_bind, t_turned, s_goes}
use Rattle.sim_stmt.proofs.Sizes.{isize, r_le, m_le, n_le, f_le}
use Rattle.sim_stmt.proofs.Stores.{Any, tells_any, sinks_over, store_name_sim}
use Rattle.sim_stmt.proofs.Blocks.{IsStart, StartsUnit, Started, SimS}
use Rattle.sim_stmt.proofs.Facts.{IsStill, store_still}
use Rattle.sim_stmt.proofs.Running.{absent_behind, Stay, stay_there, registered_there, both_there, Then, entry_keeps, entry_registers}
use Rattle.sim_stmt.proofs.Units.{LandsU, unit_sim}

-- ---- a module that has ended is stored in the one before it, at once and at any place

still_in : (w : PlainWorld) (name : Name) (m : ℕ) (o : Option ℕ) → IsStill (stored_in w name m o)
still_in w name m (Some names) = store_still w names (last_part name) (At m)
still_in w name m None = record { anywhere = λ place place1. refl; at_once = refl }

still_by : (w : PlainWorld) (name : Name) (m : ℕ) (o : Option ℕ) → IsStill (elim o [ Some n ↦ stored_in w name m (names_of (object w.heap.objects n)) | None ↦ does Nil w ])
still_by w name m (Some n) = still_in w name m (names_of (object w.heap.objects n))
still_by w name m None = record { anywhere = λ place place1. refl; at_once = refl }

still_under : (w : PlainWorld) (name : Name) (m : ℕ) (o : Option Name) → IsStill (stored_under w name m o)
still_under w name m (Some outer) = still_by w name m (registered_as w.modules outer)
still_under w name m None = record { anywhere = λ place place1. refl; at_once = refl }

-- ---- the prefixes of a name

length_prefixes : (front : Name) (parts : List Name) → length (prefixes_from front parts) ≡ length parts
length_prefixes front [] = refl
length_prefixes front (p ∷ parts) = ap suc (length_prefixes (front ++ p ++ 46 ∷ []) parts)

first_more : (ys : List Name) (y : Name) (xs : List Name) → first_of (ys ++ y ∷ []) ≡ first_of ((ys ++ y ∷ []) ++ xs)
first_more [] y xs = refl
first_more (z ∷ ys) y xs = refl

pub last_is : (names : List Name) → last_of names ≡ first_of (reverse names)
last_is [] = refl
last_is (x ∷ []) = refl
last_is (x ∷ y ∷ names) =
    last_is (y ∷ names) ∙ ap first_of (reverse_onto names y []) ∙ first_more (reverse names) y (x ∷ []) ∙ ap (λ l. first_of (l ++ x ∷ [])) (sym (reverse_onto names y [])) ∙ ap first_of (sym (reverse_onto (y ∷ names) x []))

-- how many steps the modules of these names take at most, beside their codes: a begin and an end's two each, and then the value
abbrev room : List Name → ℕ
room [] = 1
room (name ∷ names) = 3 + room names

room_is : (names : List Name) → room names ≡ suc (3 * length names)
room_is [] = refl
room_is (name ∷ names) = let e = room_is names in omega (arith, e)

-- binds that know what is bound
o_bind_is : {A B : Type 0} (library : Library) (K spare owed owed1 : ℕ) (v1 : A → PlainWorld → State) (v : B → PlainWorld → State) (k : Site) (env : Locals) (slots : List Slot) (s : State)
    (t x1 x2 x size1 size2 size : ℕ) (r : Out A) (nx : A → ℕ → PlainWorld → Out B) → Falls k env slots slots → x1 + x2 ≤ x → size1 + size2 ≤ size + owed1
    → x1 ≤ x → size1 ≤ size
    → GoesO library K 0 owed1 v1 k env slots s t x1 size1 r
    → ((a : A) (t1 : ℕ) (w1 : PlainWorld) → r ≡ EVal a t1 w1 → t1 ≤ t → GoesO library K spare owed v k env slots (v1 a w1) t1 x2 size2 (nx a t1 w1)) → GoesO library K spare owed v k env slots s t x size (e_then r nx)
o_bind_is library K spare owed owed1 v1 v k env slots s t x1 x2 x size1 size2 size (EVal a t1 w) nx same xs ss xw sw g h =
    g_then library K _ s (v1 a w) t t1 (left_e (nx a t1 w)) 0 (if_value spare (nx a t1 w)) owed1 (if_value owed (nx a t1 w)) x1 x2 x size1 size2 size (omega (arith, xs)) ss g (λ le. h a t1 w refl le)
o_bind_is library K spare owed owed1 v1 v k env slots s t x1 x2 x size1 size2 size (EExc y t1 w) nx same xs ss xw sw g h =
    g_wide library K _ s t t1 0 0 0 0 x1 x size1 size (omega (arith, xw)) (omega (arith, sw)) (g_map library K _ _ s t t1 0 0 x1 size1 (λ u l. l ∙ same y 0 w) g)
o_bind_is library K spare owed owed1 v1 v k env slots s t x1 x2 x size1 size2 size (EOpen w) nx same xs ss xw sw g h = g_wide library K _ s t 0 0 0 0 0 x1 x size1 size (omega (arith, xw)) (omega (arith, sw)) g
o_bind_is library K spare owed owed1 v1 v k env slots s t x1 x2 x size1 size2 size (EFull e t1 w) nx same xs ss xw sw g h = g_wide library K _ s t t1 0 0 0 0 x1 x size1 size (omega (arith, xw)) (omega (arith, sw)) g

-- `m` turns, each of which is 16 steps
turns_sim : {A : Type 0} (library : Library) (K spare owed : ℕ) (v : A → PlainWorld → State) (k : Site) (env : Locals) (slots : List Slot) (f : Frame) (w : PlainWorld) (nx : ℕ → Out A) (m t x size : ℕ)
    → ((t1 : ℕ) → t1 ≤ t → GoesO library K spare owed v k env slots (Running 0 f k.waiting w) t1 (16 * m + x) size (nx t1)) → GoesO library K spare owed v k env slots (Running 0 f k.waiting w) t x (m + size) (e_turns m t w nx)
turns_sim library K spare owed v k env slots f w nx zero t x size h = o_wide library K spare spare owed owed v k env slots _ t (16 * 0 + x) x size (0 + size) (nx t) (omega arith) (omega arith) (omega arith) (omega arith) (h t (omega arith))
turns_sim library K spare owed v k env slots f w nx (suc m) zero x size h = g_wide library K _ _ 0 0 0 0 0 0 0 x (suc m + size) (suc m + size) (omega arith) (omega arith) (g_open library K _ _ (suc m + size) 0 (omega arith) refl)
turns_sim library K spare owed v k env slots f w nx (suc m) (suc t) x size h =
    let r = e_turns m t w nx in
    g_wide library K _ _ (suc t) (left_e r) (if_value spare r) (if_value spare r) (if_value owed r) (if_value owed r) x x (suc (m + size)) (suc m + size) (omega arith) (omega arith)
    (g_turn library K _ _ t (left_e r) (if_value spare r) (if_value owed r) x (m + size)
    (turns_sim library K spare owed v k env slots f w nx m t (16 + x) size
    (λ t1 l. o_wide library K spare spare owed owed v k env slots _ t1 (16 * suc m + x) (16 * m + (16 + x)) size size (nx t1) (omega arith) (omega arith) (omega arith) (omega arith) (h t1 (omega (arith, l))))))

tells_turns : {A : Type 0} (P : A → Type 0) (w : PlainWorld) (nx : ℕ → Out A) (m t : ℕ) → ((t1 : ℕ) → Tells P (nx t1)) → Tells P (e_turns m t w nx)
tells_turns P w nx zero t h = h t
tells_turns P w nx (suc m) zero h = tt
tells_turns P w nx (suc m) (suc t) h = tells_turns P w nx m t h

module _ (program : Program) (library : Library) (K : ℕ) (some : 1 ≤ K) (started : Started program library K) where
  -- back at the importing instruction
  abbrev back : Site → ℕ → Locals → List Slot → Val → PlainWorld → State
  back k p env slots v w = Running 0 (at k.frame p env slots) k.waiting w

  abbrev nowhere : Place
  nowhere = record { file = []; line = 0; name = [] }

  -- a module's code is done
  end_sim : (k : Site) (p : ℕ) (env : Locals) (slots0 slots : List Slot) (place : Place) (name : Name) (made : Made) (s : State) (t size : ℕ) (r : Out Val) → Falls k env slots0 slots
      → GoesIn library K (LandsU (Imported name made.number) (at k.frame p env slots0 ∷ k.waiting) r) s t (left_e r) 0 0 2 size
      → GoesO library K 0 0 (back k p env slots0) k env slots s t 2 size (end_module place name made r)
  end_sim k p env slots0 slots place name made s t size (EVal v t1 w) same g =
      let effect = store_module w name made.number in
      let still : IsStill effect = still_under w name made.number (outer_name name) in
      let out = e_given (given place effect) t1 in
      subst (λ m. GoesO library K 0 0 (back k p env slots0) k env slots s t 2 size (e_turns m t1 w (e_given (given place effect)))) (sym still.at_once)
      (g_bind library K _ s (on_given (given nowhere effect) (at k.frame p env slots0) k.waiting (back k p env slots0)) t t1 (left_e out) 0 (if_value 0 out) 0 (if_value 0 out) 2 0 2 size 0 size (omega arith) (omega arith) g
      (subst (λ x. GoesO library K 0 0 (back k p env slots0) k env slots (on_given x (at k.frame p env slots0) k.waiting (back k p env slots0)) t1 0 0 out) (still.anywhere place nowhere)
      (o_given library K (back k p env slots0) k env slots0 slots p t1 (given place effect) same)))
  end_sim k p env slots0 slots place name made s t size (EExc x t1 w) same g = g_map library K _ _ s t t1 0 0 2 size (λ u l. l ∙ same x p (forget_module w name)) g
  end_sim k p env slots0 slots place name made s t size (EOpen w) same g = g
  end_sim k p env slots0 slots place name made s t size (EFull e t1 w) same g = g

  module _ (n : ℕ) (ihs : SimS program library K n) where
    -- an import at p, of a module that isn't there
    module _ (k : Site) (line p : ℕ) (item : Item) (env : Locals) (slots0 slots : List Slot) (w : PlainWorld) (nm : Name) (s : Sited library k) (h : Has k.context line p item) (same : Falls k env slots0 slots) (fits : Fits k.frame.entries (length slots)) where
      abbrev place : Place
      place = place_at k.meant line

      abbrev Begins : Option libraries.Entry → Bool → Type 0
      Begins o deep = (paid : ℕ) → item_step library place paid (at k.frame p env slots0) k.waiting w item ≡ steps.begin library place paid (at k.frame p env slots0) k.waiting w nm o deep

      unit_begins : (t : ℕ) (u : Unit) (b : Bool) → t ≤ n → (is : StartsUnit library K nm u) → Begins (Some (Holds is.m)) b
          → GoesO library K 0 0 (back k p env slots0) k env slots (Running 0 (at k.frame p env slots0) k.waiting w) t 3 0
          (e_choose b (begin_unit program (sem program n).exec k.meant place nm u) (λ t1 w1. e_fails (fault_at place w1 TooDeep) t1) t w)
      unit_begins t u false le is e =
          o_wide library K 0 0 0 0 (back k p env slots0) k env slots _ t 1 3 0 0 _ (omega arith) (omega arith) (omega arith) (omega arith)
          (g_step library K _ _ _ t _ _ _ 0 0 (stepped library k 0 line p item env slots0 w s h ∙ e 0) (o_fails library K (back k p env slots0) k env slots0 slots p t (fault_at place w TooDeep) same))
      unit_begins t u true le is e =
          o_bind library K 0 0 K 0 (λ made w1. Running 0 (new_frame nm 0 is.code [] made.names (Imported nm made.number)) (at k.frame p env slots0 ∷ k.waiting) w1) (back k p env slots0) k env slots slots _ t 1 2 3 0 K 0 _ _
          (falls_here k env slots fits) (omega arith) (omega arith) (omega arith) (omega arith)
          (o_does library K (λ made w1. Running 0 (new_frame nm 0 is.code [] made.names (Imported nm made.number)) (at k.frame p env slots0 ∷ k.waiting) w1) k line p item env slots0 slots t w (make_module w nm) some s h
          (λ paid. e paid ∙ ap (λ c. paying library place paid (at k.frame p env slots0) k.waiting w (nat_lt paid (make_module w nm).visits) (make_module w nm) (λ made w1. steps.begun library place paid (at k.frame p env slots0) k.waiting w nm c made w1)) is.of_code) same)
          (λ made t1 w1 l1. end_sim k p env slots0 slots place nm made _ t1 K _ same
          (unit_sim program library K some n ihs (first_file u) nm made.names 0 (suc k.meant.depth) u is.unit (Imported nm made.number) (at k.frame p env slots0 ∷ k.waiting) (ap suc s.depth) is.code
          (ap (λ o. code_in (module_in o) 0) is.entry ∙ is.of_code) t1 w1 (omega (arith, l1, le))))

      entry_begins : (t : ℕ) (o : Option programs.Entry) → t ≤ n → IsStart library K nm o → Begins (entry_in library nm) (has_depth k.waiting)
          → GoesO library K 0 0 (back k p env slots0) k env slots (Running 0 (at k.frame p env slots0) k.waiting w) t 3 0 (begin_entry program (sem program n).exec k.meant place nm o t w)
      entry_begins t None le is e =
          o_wide library K 0 0 0 0 (back k p env slots0) k env slots _ t 1 3 0 0 _ (omega arith) (omega arith) (omega arith) (omega arith)
          (g_step library K _ _ _ t _ _ _ 0 0 (stepped library k 0 line p item env slots0 w s h ∙ e 0 ∙ ap (λ o. steps.begin library place 0 (at k.frame p env slots0) k.waiting w nm o (has_depth k.waiting)) is)
          (o_fails library K (back k p env slots0) k env slots0 slots p t (fault_at place w (NoModule nm)) same))
      entry_begins t (Some Refused) le is e =
          o_wide library K 0 0 0 0 (back k p env slots0) k env slots _ t 1 3 0 0 _ (omega arith) (omega arith) (omega arith) (omega arith)
          (g_step library K _ _ _ t _ _ _ 0 0 (stepped library k 0 line p item env slots0 w s h ∙ e 0 ∙ ap (λ o. steps.begin library place 0 (at k.frame p env slots0) k.waiting w nm o (has_depth k.waiting)) is)
          (o_fails library K (back k p env slots0) k env slots0 slots p t (fault_at place w IncompatibleFile) same))
      entry_begins t (Some (Runs u)) le is e =
          let deep : has_depth k.waiting ≡ meanings.has_depth k.meant = ap (λ d. nat_lt d MAX_CALLS) (sym s.depth) in
          unit_begins t u (meanings.has_depth k.meant) le is
          (λ paid. e paid ∙ ap (λ o. steps.begin library place paid (at k.frame p env slots0) k.waiting w nm o (has_depth k.waiting)) is.entry
          ∙ ap (λ b. steps.begin library place paid (at k.frame p env slots0) k.waiting w nm (Some (Holds is.m)) b) deep)

    -- ---- the modules of all prefixes of x, with these names on the slots, and the module of `target` behind them

    module _ (k : Site) (line p : ℕ) (x : Name) (vn : Val) (target : Name) (env : Locals) (slots : List Slot) (s : Sited library k) (h : Has k.context line p (Names ops.ImportName x))
        (quiet : map (remark (suc p)) k.frame.entries ≡ k.frame.entries) (fits : Fits k.frame.entries (length slots)) where
      abbrev here : Place
      here = place_at k.meant line

      abbrev st : List Slot
      st = Value vn ∷ Value (Int (pos 0)) ∷ slots

      abbrev Wants : Type 0
      Wants = (w : PlainWorld) → steps.wanted library here 0 (at k.frame p env st) k.waiting w vn (prefixes x) ≡ target

      abbrev landed : Val → PlainWorld → State
      landed v w = Running 0 (at k.frame (suc p) env (Value (module_named w target) ∷ slots)) k.waiting w

      -- from the names on, where those in front are there
      abbrev Begun : List Name → Type 0
      Begun names =
          (front : List Name) (t : ℕ) (w : PlainWorld) → t ≤ n → prefixes x ≡ front ++ names → first_absent w front ≡ None
          → GoesO library K 0 0 landed k env slots (Running 0 (at k.frame p env st) k.waiting w) t (room names) 0 (begin_all program (sem program n).exec k.meant here names t w)

      falls : Falls k env st slots
      falls = falls_over k env (Value vn ∷ Value (Int (pos 0)) ∷ []) slots fits

      absent_is : (front names : List Name) (w : PlainWorld) → prefixes x ≡ front ++ names → first_absent w front ≡ None → first_absent w (prefixes x) ≡ first_absent w names
      absent_is front names w e none = ap (first_absent w) e ∙ absent_behind w front names none

      step_is : (paid : ℕ) (w : PlainWorld) (o : Option Name) → first_absent w (prefixes x) ≡ o
          → item_step library here paid (at k.frame p env st) k.waiting w (Names ops.ImportName x) ≡ steps.import_absent library here paid (at k.frame p env st) k.waiting w vn (prefixes x) slots o
      step_is paid w o e = ap (λ o. steps.import_absent library here paid (at k.frame p env st) k.waiting w vn (prefixes x) slots o) e

      all_there : Wants → Begun []
      all_there want front t w le e none =
          o_goes library K _ k line p (suc p) (Names ops.ImportName x) env st (Value (module_named w target) ∷ slots) t t 0 0 0 0 w s h quiet
          (step_is 0 w None (absent_is front [] w e none) ∙ ap (λ m. go (suc p) (Value (module_named w m) ∷ slots) k.frame.entries (at k.frame p env st) k.waiting w) (want w)) (g_here library K _ _ t refl)

      one_more : (name : Name) (names front : List Name) → prefixes x ≡ front ++ name ∷ names → prefixes x ≡ (front ++ name ∷ []) ++ names
      one_more name names front e = e ∙ sym (append_assoc front (name ∷ []) names)

      one_by : (name : Name) (names : List Name) → Begun names → (front : List Name) (t : ℕ) (w : PlainWorld) → t ≤ n → prefixes x ≡ front ++ name ∷ names → first_absent w front ≡ None
          → (b : Bool) → is_there program (sem program n).exec k.meant here w name ≡ b
          → GoesO library K 0 0 landed k env slots (Running 0 (at k.frame p env st) k.waiting w) t (3 + room names) 0
          (e_then (e_choose b (EVal Nil) (begin_entry program (sem program n).exec k.meant here name (programs.entry_in program.entries name)) t w) (λ done. begin_all program (sem program n).exec k.meant here names))
      one_by name names rest front t w le e none true there =
          o_wide library K 0 0 0 0 landed k env slots _ t (room names) (3 + room names) 0 0 _ (omega arith) (omega arith) (omega arith) (omega arith)
          (rest (front ++ name ∷ []) t w le (one_more name names front e) (both_there w front name none (ap (λ b. cond b None (Some name)) there)))
      one_by name names rest front t w le e none false there =
          let entry = programs.entry_in program.entries name in
          let absent : registered_as w.modules name ≡ None = not_there (registered_as w.modules name) (is_port name) there in
          let first : first_absent w (prefixes x) ≡ Some name = absent_is front (name ∷ names) w e none ∙ ap (λ b. cond b (first_absent w names) (Some name)) there in
          g_order library K _ _ t _ _ _ _ _ (λ order.
          o_bind_is library K 0 0 0 (back k p env st) landed k env slots _ t 3 (room names) (3 + room names) 0 0 0 _ _ (falls_here k env slots fits) (omega arith) (omega arith) (omega arith) (omega arith)
          (entry_begins k line p (Names ops.ImportName x) env st slots w name s h falls fits t entry le (started name (not_main w name order.registered.0.main absent)) (λ paid. step_is paid w (Some name) first))
          (λ done t1 w1 is l1.
          let stay : Stay w w1 = subst (λ r. Stay w (world_e r)) is (entry_keeps program n k.meant here name entry t w absent) in
          let own : IsRegistered name w1 = subst (λ r. Then (IsRegistered name) r) is (entry_registers program n k.meant here name entry t w) in
          rest (front ++ name ∷ []) t1 w1 (omega (arith, l1, le)) (one_more name names front e) (both_there w1 front name (stay_there w w1 front stay none) (registered_there w1 name own))))

      all_begun : Wants → (names : List Name) → Begun names
      all_begun want [] = all_there want
      all_begun want (name ∷ names) = λ front t w le e none. one_by name names (all_begun want names) front t w le e none (is_there program (sem program n).exec k.meant here w name) refl

      enough : (parts names : List Name) → length names ≡ length parts → (room names + length parts ≤ 16 * part_turns program (sem program n).exec k.meant here parts + 5) × (part_turns program (sem program n).exec k.meant here parts ≤ length parts)
      enough [] names e = (omega (arith, e, room_is names), omega arith)
      enough (a ∷ []) names e = (omega (arith, e, room_is names), omega arith)
      enough (a ∷ b ∷ parts) names e = (omega (arith, e, room_is names), omega arith)

      -- all of the name
      pub name_sim : Wants → (t : ℕ) (w : PlainWorld) → t ≤ n
          → GoesO library K (length (parts_of x)) 0 landed k env slots (Running 0 (at k.frame p env st) k.waiting w) t 5 (length (parts_of x)) (import_name program (sem program n).exec k.meant here x t w)
      name_sim want t w le =
          let parts = parts_of x in
          let m = part_turns program (sem program n).exec k.meant here parts in
          let few = enough parts (prefixes x) (length_prefixes [] parts) in
          o_wide library K (length parts) (length parts) 0 0 landed k env slots _ t 5 5 (m + 0) (length parts) _ (omega arith) (omega arith) (omega (arith, few.1)) (omega (arith, few.1))
          (turns_sim library K (length parts) 0 landed k env slots (at k.frame p env st) w _ m t 5 0
          (λ t1 l. o_wide library K 0 (length parts) 0 0 landed k env slots _ t1 (room (prefixes x)) (16 * m + 5) 0 0 _ (omega (arith, few.0)) (omega (arith, few.0)) (omega arith) (omega arith) (all_begun want (prefixes x) [] t1 w (omega (arith, l, le)) refl refl)))

    -- ---- `import`

    -- attributes one behind the other
    read_sim : (k : Site) (line p : ℕ) (names : List Name) (q : ℕ) (hs : List ℕ) (v : Val) (env : Locals) (slots : List Slot) (t : ℕ) (w : PlainWorld) → Sited library k → StandsR k.context line p names q → Quiet k.frame.entries p q
        → Fits k.frame.entries (length slots) → GoesO library K 0 0 (valued k q env slots) k env slots (Running 0 (at k.frame p env (Value v ∷ slots)) k.waiting w) t (length names) 0 (read_all program (sem program n) k.meant hs line v names t w)
    read_sim k line p [] q hs v env slots t w s no_part quiet fits = g_here library K _ _ t refl
    read_sim k line p (name ∷ names) q hs v env slots t w s (part h r) quiet fits =
        o_bind library K 0 0 0 0 (valued k (suc p) env slots) (valued k q env slots) k env slots slots _ t 1 (length names) (suc (length names)) 0 0 0 _ _ (falls_here k env slots fits) (omega arith) (omega arith) (omega arith) (omega arith)
        (o_prim library K k line p (Names ops.LoadAttr name) env (Value v ∷ slots) slots t w (on_heap w (get_attr w.heap v name)) some s h (quiet (suc p) (omega arith) (r_le r)) (falls_over k env (Value v ∷ []) slots fits) (λ paid. refl))
        (λ u t1 w1 l. read_sim k line (suc p) names q hs u env slots t1 w1 s r (quiet_in k.frame.entries p q (suc p) q (omega arith) (omega arith) quiet) fits)

    few_read : (parts : List Name) (o : Option Name) → length (read_parts parts o) ≤ length parts
    few_read [] None = omega arith
    few_read [] (Some a) = omega arith
    few_read (p ∷ parts) None = omega arith
    few_read (p ∷ parts) (Some a) = omega arith

    one_sim : (k : Site) (line p m : ℕ) (a : Alias) (hs : List ℕ) (env : Locals) (slots : List Slot) (t : ℕ) (w : PlainWorld) → Sited library k → Has k.context line p (Plain (instrs.Int (pos 0))) → Has k.context line (suc p) (plain ops.LoadConstNone)
        → Has k.context line (suc (suc p)) (Names ops.ImportName a.name) → StandsR k.context line (suc (suc (suc p))) (read_parts (parts_of a.name) a.bound) m → Has k.context line m (stores k.context (bound_name a.name a.bound))
        → Quiet k.frame.entries p (suc m) → Fits k.frame.entries (length slots) → t ≤ n
        → GoesT library K 0 (passed k (suc m) slots) k slots (Running 0 (at k.frame p env slots) k.waiting w) t 8 (length (parts_of a.name)) (import_one program (sem program n) k.meant hs line a.name a.bound env t w)
    one_sim k line p m a hs env slots t w s h1 h2 h3 sr h4 quiet fits le =
        let y = r_le sr in
        let i = suc (suc p) in
        let few = few_read (parts_of a.name) a.bound in
        let reads = length (read_parts (parts_of a.name) a.bound) in
        let target = first_of (prefixes a.name) in
        s_goes library K _ k line p (suc p) (Plain (instrs.Int (pos 0))) env env slots (Value (Int (pos 0)) ∷ slots) t _ _ _ 7 _ w s h1 (quiet (suc p) (omega arith) (omega (arith, y))) refl
        (s_goes library K _ k line (suc p) i (plain ops.LoadConstNone) env env (Value (Int (pos 0)) ∷ slots) (Value Nil ∷ Value (Int (pos 0)) ∷ slots) t _ _ _ 6 _ w s h2 (quiet i (omega arith) (omega (arith, y))) refl
        (t_use_bind library K Any (length (parts_of a.name)) 0 0 (landed k line i a.name Nil target env slots s h3 (quiet (suc i) (omega arith) (omega (arith, y))) fits) (passed k (suc m) slots) k env slots slots _ t 5 (suc reads) 6 (length (parts_of a.name)) 0 (length (parts_of a.name)) _ _
        (falls_here k env slots fits) (omega (arith, few)) (omega arith) (omega arith) (omega arith) (tells_any _)
        (name_sim k line i a.name Nil target env slots s h3 (quiet (suc i) (omega arith) (omega (arith, y))) fits (λ w1. refl) t w le)
        (λ done t1 w1 z l1. t_use_bind library K Any 0 0 0 (valued k m env slots) (passed k (suc m) slots) k env slots slots _ t1 reads 1 (suc reads) 0 0 0 _ _ (falls_here k env slots fits) (omega arith) (omega arith) (omega arith) (omega arith) (tells_any _)
        (read_sim k line (suc i) (read_parts (parts_of a.name) a.bound) m hs (module_named w1 target) env slots t1 w1 s sr (quiet_in k.frame.entries p (suc m) (suc i) m (omega arith) (omega arith) quiet) fits)
        (λ v t2 w2 z2 l2. store_name_sim program library K some k line m (bound_name a.name a.bound) v env slots t2 w2 s h4 (quiet (suc m) (omega (arith, y)) (omega arith)) fits))))

    pub imports_sim : (k : Site) (a : Around) (line p : ℕ) (aliases : List Alias) (q : ℕ) (hs : List ℕ) (env : Locals) (slots : List Slot) (t : ℕ) (w : PlainWorld) → Sited library k → StandsM k.context line p aliases q → Quiet k.frame.entries p q
        → Fits k.frame.entries (length slots) → t ≤ n
        → GoesS library K 0 k a q slots (Running 0 (at k.frame p env slots) k.waiting w) t 0 (isize aliases) (imports program (sem program n) k.meant hs line aliases env t w)
    imports_sim k a line p [] q hs env slots t w s no_import quiet fits le = g_here library K _ _ t refl
    imports_sim k a line p (al ∷ aliases) q hs env slots t w s (imported {m = m} h1 h2 h3 sr h4 sm) quiet fits le =
        let y = r_le sr in
        let z = m_le sm in
        let size = length (parts_of al.name) in
        s_store_bind library K 8 (passed k (suc m) slots) k a q slots slots _ t 0 0 0 (suc size) (isize aliases) (suc (size + isize aliases)) _ _ (λ env0. falls_here k env0 slots fits) (omega arith) (omega arith) (omega arith)
        (t_turned library K (passed k (suc m) slots) k slots (at k.frame p env slots) t size w _
        (λ t1 l. one_sim k line p m al hs env slots t1 w s h1 h2 h3 sr h4 (quiet_in k.frame.entries p q p (suc m) (omega arith) z quiet) fits (omega (arith, l, le))))
        (λ env1 t1 w1 l. imports_sim k a line (suc m) aliases q hs env1 slots t1 w1 s sm (quiet_in k.frame.entries p q (suc m) q (omega (arith, y)) (omega arith) quiet) fits (omega (arith, l, le)))

    -- ---- `from`

    abbrev texts_of : List Alias → List Val
    texts_of aliases = map (λ (a : Alias). Str a.name) aliases

    length_texts : (aliases : List Alias) → length (texts_of aliases) ≡ length aliases
    length_texts [] = refl
    length_texts (a ∷ aliases) = ap suc (length_texts aliases)

    texts_sim : (L : State → Type 0) (k : Site) (line p : ℕ) (aliases : List Alias) (m : ℕ) (env : Locals) (slots : List Slot) (t left1 spare owed x size : ℕ) (w : PlainWorld) → Sited library k → StandsN k.context line p aliases m
        → Quiet k.frame.entries p m → GoesIn library K L (Running 0 (at k.frame m env (pushed (texts_of aliases) slots)) k.waiting w) t left1 spare owed x size
        → GoesIn library K L (Running 0 (at k.frame p env slots) k.waiting w) t left1 spare owed (length aliases + x) size
    texts_sim L k line p [] m env slots t left1 spare owed x size w s no_text quiet g = g_wide library K L _ t left1 spare spare owed owed x (0 + x) size size (omega arith) (omega arith) g
    texts_sim L k line p (a ∷ aliases) m env slots t left1 spare owed x size w s (text h sn) quiet g =
        g_wide library K L _ t left1 spare spare owed owed (suc (length aliases + x)) (suc (length aliases) + x) size size (omega arith) (omega arith)
        (s_goes library K L k line p (suc p) (Names ops.LoadConstString a.name) env env slots (Value (Str a.name) ∷ slots) t left1 spare owed (length aliases + x) size w s h (quiet (suc p) (omega arith) (n_le sn)) refl
        (texts_sim L k line (suc p) aliases m env (Value (Str a.name) ∷ slots) t left1 spare owed x size w s sn (quiet_in k.frame.entries p m (suc p) m (omega arith) (omega arith) quiet) g))

    -- a tuple is not None, so the last module is wanted
    abbrev IsTuple : Val → Type 0
    IsTuple v = (names : List Name) (k : Site) (line p : ℕ) (f : Frame) (w : PlainWorld) → steps.wanted library (place_at k.meant line) p f k.waiting w v names ≡ last_of names

    made_is : (b : Bool) (heap made : PlainHeap) (number cells bytes : ℕ) → TellsAnswer IsTuple (cond b (gives (At number) made) (is_full heap cells bytes)).answer
    made_is true heap made number cells bytes = λ names k line p f w. sym (last_is names)
    made_is false heap made number cells bytes = tt

    tuple_is : (vs : List Val) (w : PlainWorld) → TellsAnswer IsTuple (on_heap w (making_tuple w.heap vs)).answer
    tuple_is [] w = λ names k line p f w1. sym (last_is names)
    tuple_is (v ∷ vs) w = let o : Object Val (List ℕ) = TupleObject (v ∷ vs) in made_is (does_fit w.heap (cells_of o) (bytes_of o)) w.heap (with_made w.heap o) (used w.heap) (cells_of o) (bytes_of o)

    -- names that are taken from a module, which stays on the slots
    taken_sim : (k : Site) (line p : ℕ) (aliases : List Alias) (q : ℕ) (hs : List ℕ) (mv : Val) (env : Locals) (slots : List Slot) (t : ℕ) (w : PlainWorld) → Sited library k → StandsF k.context line p aliases q → Quiet k.frame.entries p q
        → Fits k.frame.entries (length slots)
        → GoesT library K 0 (passed k q (Value mv ∷ slots)) k (Value mv ∷ slots) (Running 0 (at k.frame p env (Value mv ∷ slots)) k.waiting w) t (2 * length aliases) 0 (import_names program (sem program n) k.meant hs line mv aliases env t w)
    taken_sim k line p [] q hs mv env slots t w s no_name quiet fits = g_here library K _ _ t refl
    taken_sim k line p (a ∷ aliases) q hs mv env slots t w s (taken h1 h2 sf) quiet fits =
        let y = f_le sf in
        let below = Value mv ∷ slots in
        let f1 = fits_one k.frame.entries (Value mv) slots fits in
        t_bind library K 0 0 (passed k (suc (suc p)) below) (passed k q below) k below below _ t 2 (2 * length aliases) (2 * suc (length aliases)) 0 0 0 _ _ (λ env0. falls_here k env0 below f1) (omega arith) (omega arith) (omega arith)
        (t_use_bind library K Any 0 0 0 (valued k (suc p) env below) (passed k (suc (suc p)) below) k env below below _ t 1 1 2 0 0 0 _ _ (falls_here k env below f1) (omega arith) (omega arith) (omega arith) (omega arith) (tells_any _)
        (o_prim library K k line p (Names ops.ImportFrom a.name) env below below t w (import_from w mv a.name) some s h1 (quiet (suc p) (omega arith) (omega (arith, y))) (falls_here k env below f1) (λ paid. refl))
        (λ v t1 w1 z l1. store_name_sim program library K some k line (suc p) (from_name a.name a.bound) v env below t1 w1 s h2 (quiet (suc (suc p)) (omega arith) (omega (arith, y))) f1))
        (λ env1 t1 w1 l. taken_sim k line (suc (suc p)) aliases q hs mv env1 slots t1 w1 s sf (quiet_in k.frame.entries p q (suc (suc p)) q (omega arith) (omega arith) quiet) fits)

    -- without the module
    dropped : (k : Site) (a : Around) (line p : ℕ) (mv : Val) (slots : List Slot) (st : State) (t x size : ℕ) (r : SOut) → Sited library k → Has k.context line p (plain ops.PopTop) → map (remark (suc p)) k.frame.entries ≡ k.frame.entries → Fits k.frame.entries (length slots)
        → GoesT library K 0 (passed k p (Value mv ∷ slots)) k (Value mv ∷ slots) st t x size r → GoesS library K 0 k a (suc p) slots st t (suc x) size r
    dropped k a line p mv slots st t x size (SDone Normal env t1 w) s h quiet fits g =
        g_bind library K _ st (Running 0 (at k.frame p env (Value mv ∷ slots)) k.waiting w) t t1 t1 0 0 0 0 x 1 (suc x) size 0 size (omega arith) (omega arith) g
        (s_goes library K _ k line p (suc p) (plain ops.PopTop) env env (Value mv ∷ slots) slots t1 t1 0 0 0 0 w s h quiet refl (g_here library K _ _ t1 refl))
    dropped k a line p mv slots st t x size (SDone Broke env t1 w) s h quiet fits g = g_never library K _ _ st t t1 _ _ _ _ _ _ _ _ _ (λ u l. l) g
    dropped k a line p mv slots st t x size (SDone Continued env t1 w) s h quiet fits g = g_never library K _ _ st t t1 _ _ _ _ _ _ _ _ _ (λ u l. l) g
    dropped k a line p mv slots st t x size (SDone (Returned v) env t1 w) s h quiet fits g = g_never library K _ _ st t t1 _ _ _ _ _ _ _ _ _ (λ u l. l) g
    dropped k a line p mv slots st t x size (SDone (Raised y) env t1 w) s h quiet fits g =
        g_wide library K _ st t t1 0 0 0 0 x (suc x) size size (omega arith) (omega arith) (g_map library K _ _ st t t1 0 0 x size (λ u l. l ∙ sinks_over k (Value mv ∷ []) slots fits env y 0 w) g)
    dropped k a line p mv slots st t x size (SOpen w) s h quiet fits g = g_wide library K _ st t 0 0 0 0 0 x (suc x) size size (omega arith) (omega arith) g
    dropped k a line p mv slots st t x size (SFull e t1 w) s h quiet fits g = g_wide library K _ st t t1 0 0 0 0 x (suc x) size size (omega arith) (omega arith) g

    falls_pushed : (k : Site) (env : Locals) (vs : List Val) (slots : List Slot) → Fits k.frame.entries (length slots) → Falls k env (pushed vs (Value (Int (pos 0)) ∷ slots)) slots
    falls_pushed k env vs slots fits =
        let e : pushed vs (Value (Int (pos 0)) ∷ slots) ≡ (map Value (reverse vs) ++ Value (Int (pos 0)) ∷ []) ++ slots = pushed_is vs (Value (Int (pos 0)) ∷ slots) ∙ sym (append_assoc (map Value (reverse vs)) (Value (Int (pos 0)) ∷ []) slots) in
        subst (λ l. Falls k env l slots) (sym e) (falls_over k env (map Value (reverse vs) ++ Value (Int (pos 0)) ∷ []) slots fits)

    -- the turns of the names, and their tuple
    tuple_sim : (k : Site) (line p m : ℕ) (aliases : List Alias) (env : Locals) (slots : List Slot) (t : ℕ) (w : PlainWorld) → Sited library k → Has k.context line p (Plain (instrs.Int (pos 0))) → StandsN k.context line (suc p) aliases m
        → Has k.context line m (number ops.BuildTuple (length aliases)) → Quiet k.frame.entries p (suc m) → Fits k.frame.entries (length slots)
        → GoesO library K (14 + 2 * length aliases) 0 (λ u w1. Running 0 (at k.frame (suc m) env (Value u ∷ Value (Int (pos 0)) ∷ slots)) k.waiting w1) k env slots (Running 0 (at k.frame p env slots) k.waiting w) t 16 (length aliases)
        (e_turns (length aliases) t w (λ t0. e_does (place_at k.meant line) (on_heap w (making_tuple w.heap (texts_of aliases))) t0 w))
    tuple_sim k line p m aliases env slots t w s h1 sn h2 quiet fits =
        let y = n_le sn in
        let vs = texts_of aliases in
        let n0 = length aliases in
        let v = λ (u : Val) (w1 : PlainWorld). Running 0 (at k.frame (suc m) env (Value u ∷ Value (Int (pos 0)) ∷ slots)) k.waiting w1 in
        let below = Value (Int (pos 0)) ∷ slots in
        o_wide library K (14 + 2 * n0) (14 + 2 * n0) 0 0 v k env slots _ t 16 16 (n0 + 0) n0 _ (omega arith) (omega arith) (omega arith) (omega arith)
        (turns_sim library K (14 + 2 * n0) 0 v k env slots (at k.frame p env slots) w _ n0 t 16 0
        (λ t0 l. o_wide library K 0 (14 + 2 * n0) 0 0 v k env slots _ t0 (suc (n0 + 1)) (16 * n0 + 16) 0 0 _ (omega arith) (omega arith) (omega arith) (omega arith)
        (s_goes library K _ k line p (suc p) (Plain (instrs.Int (pos 0))) env env slots below t0 _ _ _ (n0 + 1) 0 w s h1 (quiet (suc p) (omega arith) (omega (arith, y))) refl
        (texts_sim _ k line (suc p) aliases m env below t0 _ _ _ 1 0 w s sn (quiet_in k.frame.entries p (suc m) (suc p) m (omega arith) (omega arith) quiet)
        (o_wide library K 0 0 K 0 v k env slots _ t0 1 1 0 0 _ (omega arith) (omega arith) (omega arith) (omega arith)
        (o_gives library K (λ u. Value u ∷ below) k line m (number ops.BuildTuple n0) env (pushed vs below) slots t0 w (on_heap w (making_tuple w.heap vs)) some s h2 (quiet (suc m) (omega (arith, y)) (omega arith)) (falls_pushed k env vs slots fits)
        (λ paid. ap (λ l. steps.gives library (place_at k.meant line) paid (at k.frame m env (pushed vs below)) k.waiting w l (on_heap w (making_tuple w.heap (operations.values n0 (pushed vs below))))) (below_of vs below n0 (length_texts aliases))
        ∙ ap (λ l. steps.gives library (place_at k.meant line) paid (at k.frame m env (pushed vs below)) k.waiting w below (on_heap w (making_tuple w.heap l))) (values_of vs below n0 (length_texts aliases)))))))))

    pub from_sim : (k : Site) (a : Around) (line p m j : ℕ) (x : Name) (aliases : List Alias) (hs : List ℕ) (env : Locals) (slots : List Slot) (t : ℕ) (w : PlainWorld) → Sited library k → Has k.context line p (Plain (instrs.Int (pos 0)))
        → StandsN k.context line (suc p) aliases m → Has k.context line m (number ops.BuildTuple (length aliases)) → Has k.context line (suc m) (Names ops.ImportName x) → StandsF k.context line (suc (suc m)) aliases j → Has k.context line j (plain ops.PopTop)
        → Quiet k.frame.entries p (suc j) → Fits k.frame.entries (length slots) → t ≤ n
        → GoesS library K 0 k a (suc j) slots (Running 0 (at k.frame p env slots) k.waiting w) t 16 (length (parts_of x) + length aliases) (imports_from program (sem program n) k.meant hs line x aliases env t w)
    from_sim k a line p m j x aliases hs env slots t w s h1 sn h2 h3 sf h4 quiet fits le =
        let y = n_le sn in
        let z = f_le sf in
        let n0 = length aliases in
        let parts = length (parts_of x) in
        let target = last_of (prefixes x) in
        let qi = quiet (suc (suc m)) (omega (arith, y)) (omega (arith, z)) in
        s_use_bind library K IsTuple (14 + 2 * n0) 0 (λ u w1. Running 0 (at k.frame (suc m) env (Value u ∷ Value (Int (pos 0)) ∷ slots)) k.waiting w1) k a (suc j) env slots slots _ t 16 (14 + 2 * n0) 16 n0 parts (parts + n0) _ _
        (falls_here k env slots fits) (omega arith) (omega arith) (omega arith) (omega arith)
        (tells_turns IsTuple w _ n0 t (λ t0. tells_does IsTuple (place_at k.meant line) (on_heap w (making_tuple w.heap (texts_of aliases))) t0 w (tuple_is (texts_of aliases) w)))
        (tuple_sim k line p m aliases env slots t w s h1 sn h2 (quiet_in k.frame.entries p (suc j) p (suc m) (omega arith) (omega (arith, z)) quiet) fits)
        (λ u t1 w1 is l1. s_use_bind library K Any parts 0 (landed k line (suc m) x u target env slots s h3 qi fits) k a (suc j) env slots slots _ t1 5 (suc (2 * n0)) (14 + 2 * n0) parts 0 parts _ _
        (falls_here k env slots fits) (omega arith) (omega arith) (omega arith) (omega arith) (tells_any _)
        (name_sim k line (suc m) x u target env slots s h3 qi fits (λ w2. is (prefixes x) k line 0 (at k.frame (suc m) env (Value u ∷ Value (Int (pos 0)) ∷ slots)) w2) t1 w1 (omega (arith, l1, le)))
        (λ done t2 w2 z2 l2. dropped k a line j (module_named w2 target) slots _ t2 (2 * n0) 0 _ s h4 (quiet (suc j) (omega (arith, y, z)) (omega arith)) fits
        (taken_sim k line (suc (suc m)) aliases j hs (module_named w2 target) env slots t2 w2 s sf (quiet_in k.frame.entries p (suc j) (suc (suc m)) j (omega (arith, y)) (omega arith) quiet) fits)))
