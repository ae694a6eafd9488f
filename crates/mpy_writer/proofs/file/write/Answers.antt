use Rattle.std.proofs.Common.{◌≡◌, ℕ, List, Result, Ok, Err, Vec, Global}
use Rattle.std.specs.Prelude.{IfOk}
use Rattle.mpy_base.specs.declared.refused.Refused.{Refused}
use Rattle.mpy_tree.specs.bc_prelude.Lines.{Rises, table_of, line_of, line_among}
use Rattle.mpy_tree.specs.declared.module.ModuleCode.{ModuleCode}
use Rattle.mpy_tree.specs.Canonical.{Canonical}
use Rattle.mpy_tree.specs.FirstUse.{InFirstUse}
use Rattle.mpy_tree.specs.Resolved.{ReadsAs}
use Rattle.mpy_writer.specs.declared.fault.WriteFault.{WriteFault}
use Rattle.mpy_writer.specs.Ends.{Ends}
use Rattle.mpy_writer.specs.Writable.{IsWritable}
use Rattle.mpy_writer.proofs.Faults.{answered}
use Rattle.mpy_writer.proofs.Whole.{Right, right}
use Rattle.mpy_writer.proofs.file.write.Goals as goal

abbrev LinesLaw : Type 0
LinesLaw = (pairs : List (ℕ × ℕ)) (offset : ℕ) → Rises pairs → line_of (table_of pairs) offset ≡ line_among 1 pairs offset

is_right : LinesLaw → (m : ModuleCode) → IsWritable m → (r : Result (Vec ℕ Global) (Refused WriteFault)) → Ends m (λ v. v.items) r → IfOk r (λ v. Right m v.items)
is_right law m writable (Ok v) ends = right law m v.items writable ends
is_right law m writable (Err e) ends = tt

each : (P Q : Vec ℕ Global → Type 0) (r : Result (Vec ℕ Global) (Refused WriteFault)) → ((v : Vec ℕ Global) → P v → Q v) → IfOk r P → IfOk r Q
each P Q (Ok v) step h = step v h
each P Q (Err e) step h = tt

pub returns-clause-canonical : goal.returns-clause-canonical
returns-clause-canonical c = each (λ v. Right c.args.tree.now v.items) (λ v. Canonical v.items) c.file.result (λ v h. h.canonical) (is_right c.lines_law.ensures.lines c.args.tree.now c.requires c.file.result c.file.ensures)

pub returns-clause-first_use : goal.returns-clause-first_use
returns-clause-first_use c = each (λ v. Right c.args.tree.now v.items) (λ v. InFirstUse v.items) c.file.result (λ v h. h.first_use) (is_right c.lines_law.ensures.lines c.args.tree.now c.requires c.file.result c.file.ensures)

pub returns-clause-reads : goal.returns-clause-reads
returns-clause-reads c = each (λ v. Right c.args.tree.now v.items) (λ v. ReadsAs v.items c.args.tree.now) c.file.result (λ v h. h.reads) (is_right c.lines_law.ensures.lines c.args.tree.now c.requires c.file.result c.file.ensures)

pub returns-clause-fault : goal.returns-clause-fault
returns-clause-fault c f h = answered c.args.tree.now (λ v. v.items) c.file.result c.file.ensures f h
