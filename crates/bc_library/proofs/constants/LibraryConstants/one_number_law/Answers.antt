use Rattle.bc_library.proofs.constants.LibraryConstants.one_number_law.Goals as goal

pub returns : goal.returns
returns c = c.library_law.ensures.one_number
