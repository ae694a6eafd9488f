use Rattle.py_effects.specs.Ends.{new_world}
use Rattle.py_effects.proofs.ModuleGrows.{sounds, new_sound}
use Rattle.py_meaning.proofs.Growing.{growing}
use Rattle.py_meaning.proofs.Laws.{grown}
use Rattle.py_meaning.proofs.runs.sound_law.Goals as goal

pub returns-clause-expressions : goal.returns-clause-expressions
returns-clause-expressions c program n frame env line e t w f = ((growing sounds program n).eval frame env line e t w f).by.by f.sound

pub returns-clause-statements : goal.returns-clause-statements
returns-clause-statements c program n frame handled line s env t w f = ((growing sounds program n).exec frame handled line s env t w f).by.by f.sound

pub returns-clause-runs : goal.returns-clause-runs
returns-clause-runs c program cells bytes ports t = (grown sounds program t (new_world cells bytes ports) (new_sound cells bytes ports)).by (new_sound cells bytes ports)
