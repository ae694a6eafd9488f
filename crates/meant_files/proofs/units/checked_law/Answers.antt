use Rattle.meant_files.proofs.Crossed.{Below}
use Rattle.meant_files.proofs.Checked.{unit_file, reading, is_verified}
use Rattle.meant_files.proofs.units.checked_law.Goals as goal

pub returns : goal.returns
returns c =
    let b : Below = record {
      one_file = c.file_law.ensures.one_module;
      one_tree = c.resolved_law.ensures;
      one_reading = c.accepted_law.ensures.one;
      formed = c.asked_law.ensures.formed;
      faultless = c.asked_law.ensures.faultless;
      within = c.within_law.ensures;
      verified = c.compiled_law.ensures.file;
    } in
    record {
      reading = λ level text bytes t. reading b c.resolves_law.ensures.one c.fitting_law.ensures level text bytes t;
      file = λ level text bytes t. (t.compares.is_have.0, t.compares.is_have.1);
      verified = λ level text bytes m t is. is_verified b c.resolves_law.ensures.one c.fitting_law.ensures level text bytes t m is;
      unit = λ level text bytes t source m read is. unit_file b c.resolves_law.ensures.one c.fitting_law.ensures level text bytes t source m read is;
    }
