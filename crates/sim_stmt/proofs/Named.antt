-- The machine follows a clause with a name, which is deleted behind it.
use Rattle.std.proofs.Common.{◌≡◌, ℕ, suc, ◌≤◌, ◌<◌, Bool, true, false, List, ◌∷◌, length, map, Option, Some, None, cond, refl, sym, ap, ◌∙◌, subst, arith}
use Rattle.std.specs.Prelude.{position, bytes_eq, nat_lt}
use Rattle.bc_scheme.specs.mpy_base.World.{ADict, IsA, pairs_at}
use Rattle.bc_scheme.specs.mpy_base.Weights.{does_fit, dict_growth, with_pairs}
use Rattle.bc_scheme.specs.mpy_base.Val.{Val, Nil, Str, At, PlainWorld}
use Rattle.bc_scheme.specs.bc_ops.declared.instr.Op.TheVariants as ops
use Rattle.bc_scheme.specs.py_values.Keys.{with_key}
use Rattle.bc_scheme.specs.py_primitives.Outcome.{gives, is_full}
use Rattle.bc_scheme.specs.py_effects.Effect.{Place, on_heap}
use Rattle.bc_scheme.specs.py_effects.Names.{Locals, local_at, assigned, named_in, store_global, deleted_global, delete_global, with_local, without_local}
use Rattle.bc_scheme.specs.py_meaning.Tree.{Name}
use Rattle.bc_scheme.specs.py_meaning.Program.{Program}
use Rattle.bc_scheme.specs.py_meaning.Outcomes.{Done, Normal, Broke, Continued, Returned, Raised, SOut, SDone, s_use, s_after, on_normal, e_does}
use Rattle.bc_scheme.specs.py_meaning.Frames.{place_at, stored, deleted}
use Rattle.bc_scheme.specs.py_meaning.Statements.{unnamed}
use Rattle.bc_scheme.specs.py_meaning.Meaning.{sem}
use Rattle.bc_scheme.specs.bc_machine.Library.{Names, Jumps, Library}
use Rattle.bc_scheme.specs.bc_machine.State.{Slot, Value, Frame, Running, remark}
use Rattle.bc_scheme.specs.bc_machine.Step as steps
use Rattle.bc_scheme.specs.bc_machine.Step.{item_step, step}
use Rattle.bc_scheme.specs.Context.{Behind, plain, number, store_by, stores, delete_by, deletes as deletion}
use Rattle.bc_scheme.specs.Statements.{Around, deeper}
use Rattle.sim_stmt.specs.Sites.{Site, at, Sited, Fits, Below}
use Rattle.sim_stmt.specs.Lands.{state_of}
use Rattle.sim_stmt.proofs.Goes.{g_here, g_wide, g_step, g_order}
use Rattle.sim_stmt.proofs.Base.{sited_with, stepped_behind, place_behind, quiet_in, quiet_active, went}
use Rattle.sim_stmt.proofs.Exprs.{SimE}
use Rattle.sim_stmt.proofs.Ends.{GoesS, s_wide, s_bind, s_of_store, b_goes}
use Rattle.sim_stmt.proofs.Sizes.{bsize, b_le, within}
use Rattle.sim_stmt.proofs.Stores.{SimT, store_short, store_module, store_name_sim}
use Rattle.sim_stmt.proofs.Blocks.{SimS, b_sim}
use Rattle.sim_stmt.proofs.Parts.{waiting, running, went_by, inside, out_handler, cause_of, kept_by}
use Rattle.sim_stmt.proofs.Simple.{s_post}
use Rattle.sim_stmt.proofs.Tries.{below_body, below_handler, set_up, SimAs, enter_last, leave_last}
use Rattle.sim_stmt.proofs.Found.{stored_local, slot_is_low, stored_name}

delete_module : (library : Library) (place : Place) (paid : ℕ) (n : Name) (st : List Slot) (f : Frame) (frames : List Frame) (w : PlainWorld) (b : Bool) → f.slots ≡ st
    → item_step library place paid f frames w (Names (cond b ops.DeleteName ops.DeleteGlobal) n) ≡ steps.puts library place paid f frames w st (delete_global w f.names n)
delete_module library place paid n st f frames w true e = ap (λ l. steps.name_step library place paid f frames w ops.DeleteName n l) e
delete_module library place paid n st f frames w false e = ap (λ l. steps.name_step library place paid f frames w ops.DeleteGlobal n l) e

module _ (program : Program) (library : Library) (K : ℕ) (some : 1 ≤ K) (n : ℕ) (ihe : SimE program library K some n) (iht : SimT program library K some n) (ihs : SimS program library K n) where
  -- behind the block of a clause
  module _ (k : Site) (a : Around) (slots : List Slot) (hs : List ℕ) (line h end p j own x : ℕ) (nm : Name) (s : Sited library k) (h7 : Behind k.context (suc j) (plain ops.LoadConstNone))
      (h8 : Behind k.context (suc (suc j)) (stores k.context nm)) (h9 : Behind k.context (suc (suc (suc j))) (deletion k.context nm)) (ha : Behind k.context (suc (suc (suc (suc j)))) (plain ops.EndFinally))
      (hb : Behind k.context (suc (suc (suc (suc (suc j))))) (Jumps ops.PopExceptJump end)) (l1 : p ≤ j) (l2 : h ≤ p) (l3 : suc (suc (suc (suc (suc (suc j))))) ≤ end) (below : Below k a slots hs p end) where
    abbrev in_clause : Site
    in_clause = inside k (running h false (length slots) (Some x))

    abbrev in_last : Done → Site
    in_last d = inside in_clause (running (suc j) true (length slots) (kept_by d))

    abbrev kept : Done → List Slot
    kept d = cause_of (deeper a) d ∷ slots

    s1 : Sited library in_clause
    s1 = sited_with library k (running h false (length slots) (Some x) ∷ k.frame.entries) s

    s2 : (d : Done) → Sited library (in_last d)
    s2 d = sited_with library in_clause (running (suc j) true (length slots) (kept_by d) ∷ in_clause.frame.entries) s1

    below1 : Below in_clause (deeper a) slots (x ∷ hs) p end
    below1 = below_handler k a false slots hs x p end h end p (omega arith) l2 (omega arith) below

    quiet : (d : Done) (r : ℕ) → suc j ≤ r → r ≤ end → map (remark r) (in_last d).frame.entries ≡ (in_last d).frame.entries
    quiet d r u v = quiet_active (running (suc j) true (length slots) (kept_by d)) in_clause.frame.entries (suc j) end refl (omega arith) (quiet_in in_clause.frame.entries p end (suc j) end (omega arith) (omega arith) below1.quiet) r u v

    over : (d : Done) (env : Locals) (t : ℕ) (w : PlainWorld) → GoesS library K 0 k a end slots (Running 0 (at (in_last d).frame (suc (suc (suc (suc j)))) env (kept d)) k.waiting w) t 2 0 (SDone d env t w)
    over d env t w =
        s_post program library K some in_clause k (deeper a) a (suc (suc (suc (suc (suc j))))) end slots slots _ t 1 0 (SDone d env t w)
        (λ env1 w1. stepped_behind library in_clause (suc (suc (suc (suc (suc j))))) (Jumps ops.PopExceptJump end) env1 slots w1 s1 hb
        ∙ went_by k.frame k.waiting k.frame.entries (running h false (length slots) (Some x) ∷ k.frame.entries) (suc (suc (suc (suc (suc j))))) end env1 slots slots w1 (below.quiet end (omega arith) (omega arith)))
        (λ d1 env1 w1 early. out_handler k a (suc (suc (suc (suc (suc j))))) end h (Some x) slots d1 env1 w1 below.fits early)
        (leave_last program library K some n ihe iht ihs in_clause (deeper a) slots (x ∷ hs) (suc j) (suc (suc (suc (suc j)))) p d Normal env t w s1 ha (omega arith)
        (within in_clause (deeper a) slots (x ∷ hs) p end p (suc (suc (suc (suc (suc j))))) (omega arith) (omega arith) below1))

    -- the deletion, of a local and of a module's name
    gone_local : (d : Done) (slot : ℕ) (env : Locals) (t : ℕ) (w : PlainWorld) → local_at env slot ≡ Some Nil → Behind k.context (suc (suc (suc j))) (number ops.DeleteFast slot)
        → GoesS library K 0 k a end slots (Running 0 (at (in_last d).frame (suc (suc (suc j))) env (kept d)) k.waiting w) t 3 0 (s_after (deleted k.meant own nm (Some slot) env t w) (on_normal (SDone d)))
    gone_local d slot env t w found has =
        let place = place_behind (in_last d) (suc (suc (suc j))) in
        let f = at (in_last d).frame (suc (suc (suc j))) env (kept d) in
        subst (λ o. GoesS library K 0 k a end slots (Running 0 f k.waiting w) t 3 0 (s_after (s_use (e_does (place_at k.meant own) (assigned w o) t w) env (λ v t1 w1. SDone Normal (without_local env slot) t1 w1)) (on_normal (SDone d)))) (sym found)
        (g_step library K _ _ _ t _ _ _ 2 0
        (stepped_behind library (in_last d) (suc (suc (suc j))) (number ops.DeleteFast slot) env (kept d) w (s2 d) has
        ∙ ap (λ o. steps.does library place 0 f k.waiting w (assigned w o) (λ v. steps.with_locals library place 0 f k.waiting w (without_local env slot) (kept d))) found
        ∙ went (in_last d) (suc (suc (suc j))) (suc (suc (suc (suc j)))) (without_local env slot) (kept d) (kept d) w (quiet d (suc (suc (suc (suc j)))) (omega arith) (omega arith)))
        (over d (without_local env slot) t w))

    gone_global : (d : Done) (env : Locals) (t : ℕ) (w : PlainWorld) → named_in w k.meant.names nm ≡ Some Nil → Behind k.context (suc (suc (suc j))) (delete_by k.context nm None)
        → GoesS library K 0 k a end slots (Running 0 (at (in_last d).frame (suc (suc (suc j))) env (kept d)) k.waiting w) t 3 0 (s_after (deleted k.meant own nm None env t w) (on_normal (SDone d)))
    gone_global d env t w found has =
        let place = place_behind (in_last d) (suc (suc (suc j))) in
        let f = at (in_last d).frame (suc (suc (suc j))) env (kept d) in
        subst (λ o. GoesS library K 0 k a end slots (Running 0 f k.waiting w) t 3 0 (s_after (s_use (e_does (place_at k.meant own) (deleted_global w k.meant.names nm o) t w) env (λ done t1 w1. SDone Normal env t1 w1)) (on_normal (SDone d)))) (sym found)
        (g_step library K _ _ _ t _ _ _ 2 0
        (stepped_behind library (in_last d) (suc (suc (suc j))) (delete_by k.context nm None) env (kept d) w (s2 d) has
        ∙ delete_module library place 0 nm (kept d) f k.waiting w k.context.is_module refl
        ∙ ap (λ l. steps.puts library place 0 f k.waiting w (kept d) (delete_global w l nm)) s.names
        ∙ ap (λ o. steps.puts library place 0 f k.waiting w (kept d) (deleted_global w k.meant.names nm o)) found
        ∙ went (in_last d) (suc (suc (suc j))) (suc (suc (suc (suc j)))) env (kept d) (kept d) _ (quiet d (suc (suc (suc (suc j)))) (omega arith) (omega arith)))
        (over d env t _))

    -- None is stored to the name: it fits, or the run ends
    emptied_by : (d : Done) (b : Bool) (env : Locals) (t cells : ℕ) (w : PlainWorld) (pairs : List (Val × Val)) → named_in (record w { heap = with_pairs w.heap k.meant.names pairs }) k.meant.names nm ≡ Some Nil
        → Behind k.context (suc (suc (suc j))) (delete_by k.context nm None)
        → let f = at (in_last d).frame (suc (suc j)) env (Value Nil ∷ kept d) in
        step library (Running 0 f k.waiting w) ≡ steps.puts library (place_behind (in_last d) (suc (suc j))) 0 f k.waiting w (kept d) (on_heap w (cond b (gives Nil (with_pairs w.heap k.meant.names pairs)) (is_full w.heap cells 0)))
        → GoesS library K 0 k a end slots (Running 0 f k.waiting w) t 4 0
        (s_after (s_use (e_does (place_at k.meant own) (on_heap w (cond b (gives Nil (with_pairs w.heap k.meant.names pairs)) (is_full w.heap cells 0))) t w) env (λ done t1 w1. SDone Normal env t1 w1))
        (on_normal (λ env1 t1 w1. s_after (deleted k.meant own nm None env1 t1 w1) (on_normal (SDone d)))))
    emptied_by d true env t cells w pairs found has e =
        let w1 : PlainWorld = record w { heap = with_pairs w.heap k.meant.names pairs } in
        g_step library K _ _ _ t _ _ _ 3 0
        (e ∙ went (in_last d) (suc (suc j)) (suc (suc (suc j))) env (Value Nil ∷ kept d) (kept d) w1 (quiet d (suc (suc (suc j))) (omega arith) (omega arith)))
        (gone_global d env t w1 found has)
    emptied_by d false env t cells w pairs found has e = g_wide library K _ _ t t 0 0 0 0 1 4 0 0 (omega arith) (omega arith) (g_step library K _ _ _ t t 0 0 0 0 e (g_here library K _ _ t refl))

    emptied : (d : Done) (o : Option ℕ) → position (bytes_eq nm) k.meant.locals ≡ o → (env : Locals) (t : ℕ) (w : PlainWorld) → Behind k.context (suc (suc j)) (store_by k.context nm o) → Behind k.context (suc (suc (suc j))) (delete_by k.context nm o)
        → GoesS library K 0 k a end slots (Running 0 (at (in_last d).frame (suc (suc j)) env (Value Nil ∷ kept d)) k.waiting w) t 4 0
        (s_after (stored k.meant own nm Nil o env t w) (on_normal (λ env1 t1 w1. s_after (deleted k.meant own nm o env1 t1 w1) (on_normal (SDone d)))))
    emptied d (Some slot) found env t w has1 has2 = g_order library K _ _ t _ _ _ 4 0 (λ order.
        let low : slot < length env = omega (arith, slot_is_low nm k.meant.locals slot found, s.rooms, ap (λ (l : List Name). length l) s.locals, order.rooms.0 k.code s.of_code) in
        g_step library K _ _ _ t _ _ _ 3 0
        (stepped_behind library (in_last d) (suc (suc j)) (store_by k.context nm (Some slot)) env (Value Nil ∷ kept d) w (s2 d) has1
        ∙ store_short library (place_behind (in_last d) (suc (suc j))) slot Nil (kept d) (in_last d) (suc (suc j)) env w (nat_lt slot 16)
        ∙ went (in_last d) (suc (suc j)) (suc (suc (suc j))) (with_local env slot Nil) (Value Nil ∷ kept d) (kept d) w (quiet d (suc (suc (suc j))) (omega arith) (omega arith)))
        (gone_local d slot (with_local env slot Nil) t w (stored_local env slot Nil low) has2))
    emptied d None found env t w has1 has2 = g_order library K _ _ t _ _ _ 4 0 (λ order.
        let place = place_behind (in_last d) (suc (suc j)) in
        let f = at (in_last d).frame (suc (suc j)) env (Value Nil ∷ kept d) in
        let pairs = with_key w.heap (pairs_at w.heap k.meant.names) (Str nm) Nil in
        let cells = dict_growth w.heap k.meant.names (length pairs) in
        let dict : IsA w.heap.objects ADict k.meant.names = subst (λ l. IsA w.heap.objects ADict l) s.names order.names.0.dict in
        emptied_by d (does_fit w.heap cells 0) env t cells w pairs (stored_name w k.meant.names nm Nil dict) has2
        (stepped_behind library (in_last d) (suc (suc j)) (store_by k.context nm None) env (Value Nil ∷ kept d) w (s2 d) has1
        ∙ store_module library place 0 nm Nil (kept d) f k.waiting w k.context.is_module refl
        ∙ ap (λ l. steps.puts library place 0 f k.waiting w (kept d) (store_global w l nm Nil)) s.names))

    -- however the block ended
    unnamed_sim : (d : Done) (env : Locals) (t : ℕ) (w : PlainWorld) → Behind k.context j (plain ops.LoadConstNone)
        → GoesS library K 0 k a end slots (state_of (inside in_clause (waiting (suc j) true (length slots))) (deeper (deeper a)) j slots d env w) t 6 0 (unnamed program (sem program n) k.meant hs line own nm d env t w)
    unnamed_sim d env t w h6 =
        enter_last program library K some n ihe iht ihs _ in_clause (deeper a) slots j d env t _ _ _ 5 0 w s1 h6 (below1.quiet (suc j) (omega arith) (omega arith))
        (b_goes library K _ (in_last d) (suc j) (suc (suc j)) (plain ops.LoadConstNone) env (kept d) (Value Nil ∷ kept d) t _ _ _ 4 0 w (s2 d) h7 (quiet d (suc (suc j)) (omega arith) (omega arith)) refl
        (emptied d (position (bytes_eq nm) k.meant.locals) refl env t w (subst (λ l. Behind k.context (suc (suc j)) (store_by k.context nm (position (bytes_eq nm) l))) s.locals h8)
        (subst (λ l. Behind k.context (suc (suc (suc j))) (delete_by k.context nm (position (bytes_eq nm) l))) s.locals h9)))

  -- on in the clause, from where it is left like the site around it
  normal_in : (k : Site) (a : Around) (m end h x : ℕ) (slots : List Slot) (d : Done) (env : Locals) (t y size : ℕ) (w : PlainWorld) (nx : Locals → ℕ → PlainWorld → SOut) → Fits k.frame.entries (length slots)
      → GoesS library K 0 k a end slots (Running 0 (at (inside k (running h false (length slots) (Some x))).frame m env slots) k.waiting w) t y size (nx env t w)
      → GoesS library K 0 k a end slots (state_of (inside k (running h false (length slots) (Some x))) (deeper a) m slots d env w) t y size (on_normal nx d env t w)
  normal_in k a m end h x slots Normal env t y size w nx fits g = g
  normal_in k a m end h x slots Broke env t y size w nx fits g = g_wide library K _ _ t t 0 0 0 0 0 y 0 size (omega arith) (omega arith) (g_here library K _ _ t (out_handler k a m end h (Some x) slots Broke env w fits tt))
  normal_in k a m end h x slots Continued env t y size w nx fits g = g_wide library K _ _ t t 0 0 0 0 0 y 0 size (omega arith) (omega arith) (g_here library K _ _ t (out_handler k a m end h (Some x) slots Continued env w fits tt))
  normal_in k a m end h x slots (Returned v) env t y size w nx fits g = g_wide library K _ _ t t 0 0 0 0 0 y 0 size (omega arith) (omega arith) (g_here library K _ _ t (out_handler k a m end h (Some x) slots (Returned v) env w fits tt))
  normal_in k a m end h x slots (Raised u) env t y size w nx fits g = g_wide library K _ _ t t 0 0 0 0 0 y 0 size (omega arith) (omega arith) (g_here library K _ _ t (out_handler k a m end h (Some x) slots (Raised u) env w fits tt))

  pub named_sim : SimAs program library K some n ihe iht ihs
  named_sim k a slots hs line h end p m j own x e nm b env t w s h4 h5 sb h6 h7 h8 h9 ha hb l1 l2 l3 below fit le =
      let k1 = inside k (running h false (length slots) (Some x)) in
      let k2 = inside k1 (waiting (suc j) true (length slots)) in
      let b1 = below_handler k a false slots hs x p end h end p (omega arith) l2 (omega arith) below in
      let c1 = sited_with library k (running h false (length slots) (Some x) ∷ k.frame.entries) s in
      let c2 = sited_with library k1 (waiting (suc j) true (length slots) ∷ k1.frame.entries) c1 in
      let y = b_le sb in
      s_bind library K k1 k (deeper a) a (suc (suc (suc m))) end slots slots _ t 1 9 10 0 (bsize b) (bsize b) _ _ (omega arith) (omega arith)
      (s_of_store library K 0 k1 (deeper a) (suc (suc (suc m))) slots _ t 1 0 _
      (store_name_sim program library K some k1 own (suc (suc m)) nm (At x) env slots t w c1 h4 (b1.quiet (suc (suc (suc m))) (omega arith) (omega arith)) b1.fits))
      (λ d env1 t1 w1 l. normal_in k a (suc (suc (suc m))) end h x slots d env1 t1 9 (bsize b) w1 _ below.fits
      (s_wide library K k a end slots _ t1 7 9 (bsize b) (bsize b) _ (omega arith) (omega arith)
      (set_up program library K some _ k1 own (suc (suc (suc m))) (suc j) true (Jumps ops.SetupFinally (suc j)) env1 slots t1 _ _ _ 6 _ w1 c1 h5 (omega arith) (b1.quiet (suc (suc (suc (suc m)))) (omega arith) (omega arith)) refl
      (s_bind library K k2 k (deeper (deeper a)) a j end slots slots _ t1 0 6 6 (bsize b) 0 (bsize b) _ _ (omega arith) (omega arith)
      (b_sim program library K n ihs k2 slots (x ∷ hs) (deeper (deeper a)) (suc (suc (suc (suc m)))) b j env1 t1 w1 c2 sb
      (below_body k1 (deeper a) true slots (x ∷ hs) (suc (suc (suc (suc m)))) j (suc j) end p (omega arith) (omega arith) (omega arith) b1) fit (omega arith))
      (λ d2 env2 t2 w2 l4. unnamed_sim k a slots hs line h end p j own x nm s h7 h8 h9 ha hb (omega arith) l2 l3 below d2 env2 t2 w2 h6)))))
