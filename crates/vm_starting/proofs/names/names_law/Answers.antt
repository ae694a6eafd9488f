use Rattle.vm_starting.proofs.Titles as titles
use Rattle.vm_starting.proofs.names.names_law.Goals as goal

pub returns-clause-tables : goal.returns-clause-tables
returns-clause-tables c p names means are = titles.tables_of p means names are

pub returns-clause-told : goal.returns-clause-told
returns-clause-told c p names means are = titles.told p means names are

pub returns-clause-last : goal.returns-clause-last
returns-clause-last c p names means are = titles.last p means names are
