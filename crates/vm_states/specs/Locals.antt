-- Locals that an instruction names.
use Rattle.std.specs.Prelude.{ℕ, ◌<◌}
use Rattle.bc_progress.specs.bc_ops.declared.instr.Op.TheVariants as ops
use Rattle.bc_progress.specs.bc_ops.declared.instr.Instr.{Instr}
use Rattle.bc_progress.specs.bc_ops.declared.instr.Instr.TheVariants as instrs
use Rattle.bc_progress.specs.bc_machine.Library.{Item, Plain, Names, Loads, Jumps, Unwinds}

-- the local that the instruction names, if it names one, is one of `locals`
abbrev pub InstrIsWithin : (locals : ℕ) → Instr → Type 0
InstrIsWithin locals (instrs.Num ops.LoadFast n) = n < locals
InstrIsWithin locals (instrs.Num ops.LoadFastN n) = n < locals
InstrIsWithin locals (instrs.Num ops.StoreFast n) = n < locals
InstrIsWithin locals (instrs.Num ops.StoreFastN n) = n < locals
InstrIsWithin locals (instrs.Num ops.DeleteFast n) = n < locals
InstrIsWithin locals instr = Unit {0}

-- the local that any instruction names, if it names one, is one of `locals`
abbrev pub IsWithinLocals : (locals : ℕ) → Item → Type 0
IsWithinLocals locals (Plain instr) = InstrIsWithin locals instr
IsWithinLocals locals (Names op name) = Unit {0}
IsWithinLocals locals (Loads v) = Unit {0}
IsWithinLocals locals (Jumps op p) = Unit {0}
IsWithinLocals locals (Unwinds p byte) = Unit {0}
