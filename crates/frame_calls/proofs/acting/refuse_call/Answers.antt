use Rattle.std.proofs.Common.{refl}
use Rattle.frame_moves.specs.py_primitives.Faults.{NotCallable}
use Rattle.frame_moves.specs.prim_faults.declared.fault.Fault.TheVariants as fault_names
use Rattle.frame_moves.specs.prim_faults.Types.{type_text}
use Rattle.prim_calls.specs.declared.callees.Callee.TheVariants as callees
use Rattle.frame_calls.specs.Layouts.{tables_of}
use Rattle.frame_calls.proofs.Answering.{refused_does}
use Rattle.frame_calls.proofs.acting.refuse_call.Goals as goal

pub returns-clause-steps : goal.returns-clause-steps
returns-clause-steps c texts tuples layout item size heap calls args keys some invokes =
    refused_does (tables_of texts tuples layout) item size heap calls args keys (callees.NotCallable c.args.value_type) (fault_names.NotCallable c.args.value_type) (NotCallable (type_text c.args.value_type)) some invokes (λ w. refl) refl

pub returns-clause-known : goal.returns-clause-known
returns-clause-known c texts tuples objects = tt
