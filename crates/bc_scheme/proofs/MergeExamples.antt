-- A merge of two modules, computed.
use Rattle.std.proofs.Common.{◌≡◌, ℕ, List, [], ◌∷◌, codes, refl}
use Rattle.bc_machine.specs.bc_ops.declared.instr.Op.TheVariants as ops
use Rattle.bc_machine.specs.bc_ops.declared.instr.Instr.TheVariants as instrs
use Rattle.bc_machine.specs.mpy_tree.Resolved.{plain, lines_of, node, no_more, more, ResolvedModule}
use Rattle.bc_scheme.specs.Merge.{merge_of}

abbrev nothing : List ℕ → ResolvedModule
nothing file = record {
  source = file;
  code = node (record { name = codes "<module>"; args = []; defaults = 0; n_state = 1; n_exc = 0; lines = lines_of (plain (instrs.Plain ops.LoadConstNone) ∷ plain (instrs.Plain ops.ReturnValue) ∷ []) (1 ∷ 1 ∷ []) }) no_more;
}

two : merge_of (nothing (codes "a.py")) (nothing (codes "b.py") ∷ []) ≡ record {
  source = codes "a.py";
  code = node (record {
    name = codes "<module>";
    args = [];
    defaults = 0;
    n_state = 1;
    n_exc = 0;
    lines = lines_of (plain (instrs.Num ops.MakeFunction 0) ∷ plain (instrs.Num ops.CallFunction 0) ∷ plain (instrs.Plain ops.PopTop)
        ∷ plain (instrs.Num ops.MakeFunction 1) ∷ plain (instrs.Num ops.CallFunction 0) ∷ plain (instrs.Plain ops.PopTop)
        ∷ plain (instrs.Plain ops.LoadConstNone) ∷ plain (instrs.Plain ops.ReturnValue) ∷ []) (1 ∷ 1 ∷ 1 ∷ 1 ∷ 1 ∷ 1 ∷ 1 ∷ 1 ∷ []);
  }) (more (nothing (codes "a.py")).code (more (nothing (codes "b.py")).code no_more));
}
two = refl
