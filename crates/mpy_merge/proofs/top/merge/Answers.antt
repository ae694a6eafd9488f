use Rattle.std.proofs.Common.{ℕ, List, Result, Ok, Err, Vec, Global}
use Rattle.std.specs.Prelude.{IfOk, All}
use Rattle.mpy_base.specs.declared.refused.Refused.{Refused}
use Rattle.mpy_writer.specs.mpy_tree.Canonical.{Canonical}
use Rattle.mpy_writer.specs.mpy_tree.File.{IsModule, IsFile}
use Rattle.mpy_writer.specs.mpy_tree.Raw.{Module}
use Rattle.bc_verify.specs.Verified.{IsVerified}
use Rattle.mpy_merge.specs.declared.fault.MergeFault.{MergeFault}
use Rattle.mpy_merge.specs.AsMerge.{ReadsAsMerge}
use Rattle.mpy_merge.specs.Ends.{Ends}
use Rattle.mpy_merge.specs.Merged.{IsMerged}
use Rattle.mpy_merge.proofs.Ended.{answered}
use Rattle.mpy_merge.proofs.Laws.{Laws, Whole, whole}
use Rattle.mpy_merge.proofs.top.merge.Goals as goal

is_whole : Laws → (modules : List Module) → All IsModule modules → All IsVerified modules → (r : Result (Vec ℕ Global) (Refused MergeFault)) → Ends modules (λ v. v.items) r → IfOk r (λ v. Whole modules v.items)
is_whole laws modules read verified (Ok v) ends = whole laws modules v.items ends read verified
is_whole laws modules read verified (Err e) ends = tt

each : (P Q : Vec ℕ Global → Type 0) (r : Result (Vec ℕ Global) (Refused MergeFault)) → ((v : Vec ℕ Global) → P v → Q v) → IfOk r P → IfOk r Q
each P Q (Ok v) step h = step v h
each P Q (Err e) step h = tt

pub returns-clause-merged : goal.returns-clause-merged
returns-clause-merged c = each (λ v. Whole c.args.modules.now v.items) (λ v. IsMerged c.args.modules.now v.items) c.file_or_fault.result (λ v h. h.merged) (is_whole (record {
  lines = c.lines_law.ensures.lines;
  texts = c.file_law.ensures.texts;
  some_tree = c.resolves_law.ensures.tree;
  tree_verified = c.tree_law.ensures;
  module_verified = c.raw_law.ensures;
  merge_verified = c.merge_law.ensures;
})
    c.args.modules.now c.modules_law.ensures.read c.modules_law.ensures.verified c.file_or_fault.result c.file_or_fault.ensures)

pub returns-clause-canonical : goal.returns-clause-canonical
returns-clause-canonical c = each (λ v. Whole c.args.modules.now v.items) (λ v. Canonical v.items) c.file_or_fault.result (λ v h. h.canonical) (is_whole (record {
  lines = c.lines_law.ensures.lines;
  texts = c.file_law.ensures.texts;
  some_tree = c.resolves_law.ensures.tree;
  tree_verified = c.tree_law.ensures;
  module_verified = c.raw_law.ensures;
  merge_verified = c.merge_law.ensures;
})
    c.args.modules.now c.modules_law.ensures.read c.modules_law.ensures.verified c.file_or_fault.result c.file_or_fault.ensures)

pub returns-clause-reads : goal.returns-clause-reads
returns-clause-reads c = each (λ v. Whole c.args.modules.now v.items) (λ v. ReadsAsMerge c.args.modules.now v.items) c.file_or_fault.result (λ v h. h.reads) (is_whole (record {
  lines = c.lines_law.ensures.lines;
  texts = c.file_law.ensures.texts;
  some_tree = c.resolves_law.ensures.tree;
  tree_verified = c.tree_law.ensures;
  module_verified = c.raw_law.ensures;
  merge_verified = c.merge_law.ensures;
})
    c.args.modules.now c.modules_law.ensures.read c.modules_law.ensures.verified c.file_or_fault.result c.file_or_fault.ensures)

pub returns-clause-verified : goal.returns-clause-verified
returns-clause-verified c = each (λ v. Whole c.args.modules.now v.items) (λ v. (m : Module) × IsFile v.items m × IsVerified m) c.file_or_fault.result (λ v h. h.verified) (is_whole (record {
  lines = c.lines_law.ensures.lines;
  texts = c.file_law.ensures.texts;
  some_tree = c.resolves_law.ensures.tree;
  tree_verified = c.tree_law.ensures;
  module_verified = c.raw_law.ensures;
  merge_verified = c.merge_law.ensures;
})
    c.args.modules.now c.modules_law.ensures.read c.modules_law.ensures.verified c.file_or_fault.result c.file_or_fault.ensures)

pub returns-clause-fault : goal.returns-clause-fault
returns-clause-fault c f h = answered c.args.modules.now (λ v. v.items) c.file_or_fault.result c.file_or_fault.ensures f h
