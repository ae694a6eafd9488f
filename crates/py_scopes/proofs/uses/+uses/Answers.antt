use Rattle.std.proofs.Common.{rules}
use Rattle.std.proofs.lemmas.List.{map-append, append_assoc}
use Rattle.py_scopes.proofs.Acts.{acts_And, acts_Or, acts_Tuple, acts_List, acts_Dict, acts_Compare, acts_Call}
use Rattle.py_scopes.proofs.uses.+uses.Goals as goal

pub uses-returns-in-And : goal.uses-returns-in-And
uses-returns-in-And t c = search (rules, acts_And)

pub uses-returns-in-Or : goal.uses-returns-in-Or
uses-returns-in-Or t c = rw (c.in-Or.is, acts_Or, ← c.as_slice-in-Or.ensures) c.uses_all-in-Or.ensures

pub uses-returns-in-Tuple : goal.uses-returns-in-Tuple
uses-returns-in-Tuple t c = rw (c.in-Tuple.is, acts_Tuple, ← c.as_slice-in-Tuple.ensures) c.uses_all-in-Tuple.ensures

pub uses-returns-in-List : goal.uses-returns-in-List
uses-returns-in-List t c = search (rules, acts_List)

pub uses-returns-in-Dict : goal.uses-returns-in-Dict
uses-returns-in-Dict t c = search (rules, acts_Dict)

pub uses-returns-in_ok-uses-in-Compare : goal.uses-returns-in_ok-uses-in-Compare
uses-returns-in_ok-uses-in-Compare t c =
    rw (c.in-Compare.is, acts_Compare, ← c.get-in-Compare.ensures, ← c.as_slice-in-Compare.ensures, map-append, ← append_assoc, ← c.in_ok-uses-in-Compare.ensures) c.uses_compared.ensures

pub uses-returns-in_ok-uses_all-in-Call : goal.uses-returns-in_ok-uses_all-in-Call
uses-returns-in_ok-uses_all-in-Call t c =
    rw (c.in-Call.is, acts_Call, ← c.get-in-Call.ensures, ← c.as_slice-in-Call.ensures, ← c.as_slice-in-Call-2.ensures, map-append, map-append, ← append_assoc, ← append_assoc, ← c.in_ok-uses-in-Call.ensures, ← c.in_ok-uses_all-in-Call.ensures) c.uses_keys.ensures
