use Rattle.meant_files.proofs.Matched.{Below}
use Rattle.meant_files.proofs.Libraries.{program, units, differ}
use Rattle.meant_files.proofs.frozen.images_law.Goals as goal

pub returns : goal.returns
returns c =
    let b : Below = record {
      reading = c.crossed_law.ensures.reading;
      unit = c.crossed_law.ensures.unit;
      resolves = c.freeze_law.ensures.resolves;
      one_answer = c.entries_law.ensures.one;
      one_library = c.over_law.ensures.one_library;
    } in
    record {
      program = λ all main shelf place h found. program b all main shelf place h found;
      units = λ all main shelf h p is. units b all main shelf h p is;
      differ = λ all main shelf h p is. differ b all main shelf h p is;
    }
