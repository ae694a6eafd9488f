use Rattle.meant_files.proofs.Crossed.{Below, unit_file, reading, is_verified, file_there}
use Rattle.meant_files.proofs.units.crossed_law.Goals as goal

pub returns : goal.returns
returns c =
    let b : Below = record {
      one_file = c.file_law.ensures.one_module;
      one_tree = c.resolved_law.ensures;
      one_reading = c.accepted_law.ensures.one;
      formed = c.asked_law.ensures.formed;
      faultless = c.asked_law.ensures.faultless;
      within = c.within_law.ensures;
      verified = c.compiled_law.ensures.file;
    } in
    record {
      reading = λ level text stored bytes h. reading b level text stored bytes h;
      file = λ level text stored bytes h. file_there b level text stored bytes h;
      verified = λ level text stored bytes m h is. is_verified b level text stored bytes h m is;
      unit = λ level text stored bytes source m h read is. unit_file b level text stored bytes h m source is read;
    }
