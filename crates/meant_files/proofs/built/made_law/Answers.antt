use Rattle.meant_files.proofs.Made.{Laws, is_file, is_verified, is_unit}
use Rattle.meant_files.proofs.built.made_law.Goals as goal

pub returns : goal.returns
returns c =
    let laws : Laws = record {
      one_module = c.file_law-2.ensures.one_module;
      texts = c.file_law.ensures.texts;
      tree_verified = c.tree_law.ensures;
      module_verified = c.raw_law.ensures;
      merge_verified = c.merge_law.ensures;
      crossed_file = c.crossed_law.ensures.file;
      crossed_verified = c.crossed_law.ensures.verified;
      crossed_unit = c.crossed_law.ensures.unit;
      checked_file = c.checked_law.ensures.file;
      checked_verified = c.checked_law.ensures.verified;
      checked_unit = c.checked_law.ensures.unit;
      merged_unit = c.merged_law.ensures;
    } in
    record {
      file = λ unit bytes built. is_file laws unit bytes built;
      verified = λ unit bytes m built is. is_verified laws unit bytes m built is;
      unit = λ unit bytes m built is. is_unit laws unit bytes m built is;
    }
