-- The merge of verified modules is verified.
use Rattle.std.proofs.Common.{◌≡◌, ℕ, zero, suc, ◌+◌, ◌≤◌, List, [], ◌∷◌, ◌++◌, length, map, drop, replicate, refl, sym, ap, subst, arith, zero-le, true}
use Rattle.std.proofs.lemmas.List.{length-map, length-replicate}
use Rattle.emit_measures.specs.bc_scheme.bc_ops.declared.instr.Op.TheVariants as ops
use Rattle.emit_measures.specs.bc_scheme.bc_ops.declared.instr.Instr.TheVariants as instrs
use Rattle.bc_resolved.specs.bc_shapes.declared.kinds.Kind.TheVariants as kinds
use Rattle.bc_resolved.specs.bc_shapes.declared.kinds.Give.TheVariants.{New}
use Rattle.bc_resolved.proofs.bc_shapes_lemmas.Joins.{belows_refl}
use Rattle.bc_resolved.specs.bc_progress.bc_flow.Action.{instr_action, op_action}
use Rattle.emit_measures.specs.bc_scheme.mpy_tree.Resolved.{Resolved, ResolvedLine, plain, Body, ResolvedModule}
use Rattle.emit_measures.specs.bc_scheme.bc_machine.Library.{Line, Plain, item_of, line_of, locals_of}
use Rattle.emit_measures.specs.bc_scheme.Context.{Context}
use Rattle.emit_measures.specs.bc_scheme.Merge.{calls, outer_body, on_line_1, trees_of, merge_of}
use Rattle.bc_resolved.specs.Operands.{Keeps}
use Rattle.bc_resolved.specs.Verified.{flow_of, IsVerifiedBody, count_of, AreVerifiedAll, IsVerifiedTree, AllVerifiedTrees}
use Rattle.tr_source.proofs.Base.{Setting, shape}
use Rattle.tr_source.proofs.Parts.{Part, p_none, p_seq, drop_next, get_here}
use Rattle.tr_source.proofs.Steps.{p_straight}
use Rattle.tr_source.proofs.Whole.{Assignment, closed, verified, keeps_all}
use Rattle.tr_source.proofs.Trees.{lines_actions, lines_at}

-- the calls of children, the first of the number `at`, as many as the second number says
abbrev call_lines : ℕ → ℕ → List Line
call_lines at zero = []
call_lines at (suc n) =
    record { item = Plain (instrs.Num ops.MakeFunction at); line = 1 } ∷ record { item = Plain (instrs.Num ops.CallFunction 0); line = 1 } ∷ record { item = Plain (instrs.Plain ops.PopTop); line = 1 } ∷ call_lines (suc at) n

abbrev end_lines : List Line
end_lines = record { item = Plain (instrs.Plain ops.LoadConstNone); line = 1 } ∷ record { item = Plain (instrs.Plain ops.ReturnValue); line = 1 } ∷ []

abbrev end_instrs : List Resolved
end_instrs = plain (instrs.Plain ops.LoadConstNone) ∷ plain (instrs.Plain ops.ReturnValue) ∷ []

same_lines : (size at n : ℕ) → map (line_of size) (map on_line_1 (calls at n ++ end_instrs)) ≡ call_lines at n ++ end_lines
same_lines size at zero = refl
same_lines size at (suc n) = ap (λ z. record { item = Plain (instrs.Num ops.MakeFunction at); line = 1 } ∷ record { item = Plain (instrs.Num ops.CallFunction 0); line = 1 } ∷ record { item = Plain (instrs.Plain ops.PopTop); line = 1 } ∷ z) (same_lines size (suc at) n)

no_local : (at n : ℕ) → locals_of 0 (map (λ (l : ResolvedLine). l.item) (map on_line_1 (calls at n ++ end_instrs))) ≡ 0
no_local at zero = refl
no_local at (suc n) = let h = no_local (suc at) n in omega (arith, h)

-- the position behind calls from `p` on, as many as the second number says
abbrev past : ℕ → ℕ → ℕ
past p zero = p
past p (suc n) = past (suc (suc (suc p))) n

module _ (g : Setting) (few : 1 ≤ g.top) where
  calls_part : (n at p : ℕ) (rest : List Line) → drop p g.c.lines ≡ call_lines at n ++ rest → at + n ≤ length g.c.children → Part g [] (λ w. Unit {0}) p (shape [] []) (past p n) (shape [] [])
  unfolding instr_action op_action
  calls_part zero at p rest e h = p_none g [] _ p _
  calls_part (suc n) at p rest e h =
      let d1 = drop_next p g.c.lines _ _ e in
      let d2 = drop_next (suc p) g.c.lines _ _ d1 in
      let d3 = drop_next (suc (suc p)) g.c.lines _ _ d2 in
      let make = p_straight g [] p 1 (Plain (instrs.Num ops.MakeFunction at)) (get_here p g.c.lines _ _ e) (tt, zero-le, omega (arith, h), zero-le) [] (New kinds.Value ∷ []) refl [] [] (kinds.Value ∷ []) refl zero-le (belows_refl _) zero-le few zero-le in
      let run = p_straight g [] (suc p) 1 (Plain (instrs.Num ops.CallFunction 0)) (get_here (suc p) g.c.lines _ _ d1) (tt, zero-le, tt, zero-le) _ _ refl (kinds.Value ∷ []) [] (kinds.Value ∷ []) refl (omega arith) (belows_refl _) few few zero-le in
      let pop = p_straight g [] (suc (suc p)) 1 (Plain (instrs.Plain ops.PopTop)) (get_here (suc (suc p)) g.c.lines _ _ d2) (tt, zero-le, tt, zero-le) _ _ refl (kinds.Value ∷ []) [] [] refl (omega arith) (belows_refl _) few zero-le zero-le in
      p_seq g [] _ _ _ _ _ _ _ (p_seq g [] _ _ _ _ _ _ _ (p_seq g [] _ _ _ _ _ _ _ make run) pop) (calls_part n (suc at) (suc (suc (suc p))) rest d3 (omega (arith, h)))

past_lines : (n at p : ℕ) (w rest : List Line) → drop p w ≡ call_lines at n ++ rest → drop (past p n) w ≡ rest
past_lines zero at p w rest e = e
past_lines (suc n) at p w rest e = past_lines n (suc at) (suc (suc (suc p))) w rest (drop_next (suc (suc p)) w _ _ (drop_next (suc p) w _ _ (drop_next p w _ _ e)))

merged_length : (at n p : ℕ) → p + length (call_lines at n ++ end_lines) ≡ suc (suc (past p n))
merged_length at zero p = omega arith
merged_length at (suc n) p = let h = merged_length (suc at) n (suc (suc (suc p))) in omega (arith, h)

outer_verified : (n : ℕ) → IsVerifiedBody n (outer_body n)
outer_verified n =
    let body : Body = outer_body n in
    let lines : List Line = map (line_of (length body.lines)) body.lines in
    let is : lines ≡ call_lines 0 n ++ end_lines = same_lines (length body.lines) 0 n in
    let c : Context = record { lines = lines; level = 0; is_module = true; locals = []; children = replicate n 0; base = 0; codes = [] } in
    let none = no_local 0 n in
    let many : length c.children ≡ n = length-replicate n 0 in
    let g : Setting = record {
      c = c;
      code = flow_of body;
      actions = sym (lines_actions (length body.lines) body.lines);
      top = 1;
      room = omega (arith, none);
      slots = zero-le;
      small = omega arith;
    } in
    let last = past 0 n in
    let d0 = past_lines n 0 0 lines end_lines is in
    let d1 = drop_next last lines _ _ d0 in
    let l0 = ap (λ z. length z) is in let l1 = merged_length 0 n 0 in
    let long : length lines ≡ suc (suc last) = omega (arith, l0, l1) in
    let a : Assignment g = closed g last 1 1 long (get_here last lines _ _ d0) (get_here (suc last) lines _ _ d1) (omega arith) (calls_part g (omega arith) n 0 0 end_lines is (omega (arith, many))) in
    let at = lines_at (length body.lines) body.lines in
    subst (λ k. IsVerifiedBody k body) many (record {
      instructions = λ p r h. subst (λ k. Keeps k body.n_state (length c.children) (item_of (length body.lines) r)) (length-map body.lines (line_of (length body.lines)))
          (keeps_all g a p _ ((at p r h).1));
      flow = verified g a;
    })

trees_verified : (ms : List ResolvedModule) → AllVerifiedTrees ms → AreVerifiedAll (trees_of ms)
trees_verified [] h = tt
trees_verified (m ∷ ms) h = (h.0, trees_verified ms h.1)

count : (ms : List ResolvedModule) → length ms ≡ count_of (trees_of ms)
count [] = refl
count (m ∷ ms) = ap suc (count ms)

pub merge_verified : (m : ResolvedModule) (ms : List ResolvedModule) → AllVerifiedTrees (m ∷ ms) → IsVerifiedTree (merge_of m ms)
merge_verified m ms h = (subst (λ k. IsVerifiedBody k (outer_body (suc (length ms)))) (count (m ∷ ms)) (outer_verified (suc (length ms))), trees_verified (m ∷ ms) h)
