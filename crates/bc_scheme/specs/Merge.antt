-- The merge of modules: an outer code that calls the modules' own codes in order.
use Rattle.std.specs.Prelude.{ℕ, zero, suc, List, [], ◌∷◌, ◌++◌, length, map, codes}
use Rattle.bc_machine.specs.bc_ops.declared.instr.Op.TheVariants as ops
use Rattle.bc_machine.specs.bc_ops.declared.instr.Instr.TheVariants as instrs
use Rattle.bc_machine.specs.mpy_tree.Resolved.{Resolved, ResolvedLine, plain, Body, node, Trees, no_more, more, ResolvedModule}

-- calls of children, as many as the second argument says, of which the first has the number `at`
abbrev pub calls : ℕ → ℕ → List Resolved
calls at zero = []
calls at (suc n) =
    plain (instrs.Num ops.MakeFunction at) ∷ plain (instrs.Num ops.CallFunction 0) ∷ plain (instrs.Plain ops.PopTop) ∷ calls (suc at) n

-- the instructions of the outer code over `n` children
abbrev pub outer_instrs : ℕ → List Resolved
outer_instrs n = calls 0 n ++ plain (instrs.Plain ops.LoadConstNone) ∷ plain (instrs.Plain ops.ReturnValue) ∷ []

-- an instruction with line 1
abbrev pub on_line_1 : Resolved → ResolvedLine
on_line_1 item = record { item = item; line = 1 }

-- the outer code over `n` children
abbrev pub outer_body : ℕ → Body
outer_body n = record {
  name = codes "<module>";
  args = [];
  defaults = 0;
  n_state = 1;
  n_exc = 0;
  lines = map on_line_1 (outer_instrs n);
}

-- the modules' own codes, in order
abbrev pub trees_of : List ResolvedModule → Trees
trees_of [] = no_more
trees_of (m ∷ ms) = more m.code (trees_of ms)

-- the merge of one module or more has the name of the first one's source
abbrev pub merge_of : ResolvedModule → List ResolvedModule → ResolvedModule
merge_of m ms = record { source = m.source; code = node (outer_body (suc (length ms))) (trees_of (m ∷ ms)) }
