use Rattle.std.proofs.Common.{Err, inl, inr, ap, subst}
use Rattle.mpy_writer.specs.Tables.{TablesFit}
use Rattle.mpy_writer.proofs.Faults.{same_tables}
use Rattle.mpy_compile.proofs.compiling.with_file.Goals as goal

pub returns-in-Ok-clause-file : goal.returns-in-Ok-clause-file
returns-in-Ok-clause-file c = record {
  reads = c.in-Ok.ensures.reads;
  canonical = c.in-Ok.ensures.canonical;
  first_use = c.in-Ok.ensures.first_use;
  written = c.in-Ok.ensures.written;
  fits = c.requires.texts;
  wide = c.requires.wide;
  within = λ fault first. elim (c.in-Ok.ensures.fault fault first) [ inl e ↦ cc | inr e ↦ cc ];
}

-- what fits with all jumps wide has no fault
pub unreachable-requires : goal.unreachable-requires
unreachable-requires c =
    let wide = c.requires.wide in
    c.wide_law.ensures.fits c.args.whole wide
    (λ tables are far. c.requires.near tables (subst TablesFit (same_tables c.args.whole wide.tables tables wide.are_tables are) wide.fit) far)
    c.in-Err-Fault.field-0-0 (c.in-Err-Fault.ensures.first c.in-Err-Fault.field-0-0 (ap Err c.in-Err-Fault.field-0-is))
