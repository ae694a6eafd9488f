use Rattle.py_tokens.specs.declared.number.NumberFault.TheVariants.{BadToken, Float, Complex, TooBig}
use Rattle.py_tokens.proofs.Numbers.{says_number, fault_says}
use Rattle.py_tokens.proofs.number.number_of.Goals as goal

pub returns-clause-only : goal.returns-clause-only
returns-clause-only c = says_number c.args.run.now c.read_number.result c.read_number.ensures

pub returns-clause-bad_token : goal.returns-clause-bad_token
returns-clause-bad_token c = fault_says c.args.run.now c.read_number.result BadToken c.read_number.ensures

pub returns-clause-float : goal.returns-clause-float
returns-clause-float c = fault_says c.args.run.now c.read_number.result Float c.read_number.ensures

pub returns-clause-complex : goal.returns-clause-complex
returns-clause-complex c = fault_says c.args.run.now c.read_number.result Complex c.read_number.ensures

pub returns-clause-too_big : goal.returns-clause-too_big
returns-clause-too_big c = fault_says c.args.run.now c.read_number.result TooBig c.read_number.ensures
