use Rattle.bc_labels.proofs.Fewest.{one_choice, one_layout, never_both}
use Rattle.bc_labels.proofs.Positions.{is_list}
use Rattle.bc_labels.proofs.Reading.{is_code, length-instrs}
use Rattle.bc_labels.proofs.layout.layout_law.Goals as goal

pub returns-clause-places : goal.returns-clause-places
returns-clause-places c = length-instrs

pub returns-clause-one_choice : goal.returns-clause-one_choice
returns-clause-one_choice c = one_choice

pub returns-clause-one_layout : goal.returns-clause-one_layout
returns-clause-one_layout c = one_layout

pub returns-clause-never_both : goal.returns-clause-never_both
returns-clause-never_both c = never_both

pub returns-clause-read : goal.returns-clause-read
returns-clause-read c = is_code

pub returns-clause-list : goal.returns-clause-list
returns-clause-list c = is_list
