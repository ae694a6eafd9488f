use Rattle.std.proofs.Common.{ℤ, Result, sym, ap}
use Rattle.state_values.specs.bc_progress.py_values.declared.small_int.NumFault.{NumFault}
use Rattle.state_values.specs.bc_progress.py_primitives.Operators.{in_place, binary, gives_number, Add, Subtract, Multiply, FloorDivide, Modulo}
use Rattle.state_values.specs.bc_progress.bc_machine.Operations.{operator_at}
use Rattle.vm_at_once.proofs.numbers.answer_of.Goals as goal

pub returns-in-14 : goal.returns-in-14
returns-in-14 c = ((λ heap. in_place heap Add), ap operator_at c.in-14.is, λ heap. ap (λ (r : Result ℤ NumFault). gives_number heap r) (sym c.add.ensures))

pub returns-in-15 : goal.returns-in-15
returns-in-15 c = ((λ heap. in_place heap Subtract), ap operator_at c.in-15.is, λ heap. ap (λ (r : Result ℤ NumFault). gives_number heap r) (sym c.sub.ensures))

pub returns-in-16 : goal.returns-in-16
returns-in-16 c = ((λ heap. in_place heap Multiply), ap operator_at c.in-16.is, λ heap. ap (λ (r : Result ℤ NumFault). gives_number heap r) (sym c.mul.ensures))

pub returns-in-18 : goal.returns-in-18
returns-in-18 c = ((λ heap. in_place heap FloorDivide), ap operator_at c.in-18.is, λ heap. ap (λ (r : Result ℤ NumFault). gives_number heap r) (sym c.floor_div.ensures))

pub returns-in-20 : goal.returns-in-20
returns-in-20 c = ((λ heap. in_place heap Modulo), ap operator_at c.in-20.is, λ heap. ap (λ (r : Result ℤ NumFault). gives_number heap r) (sym c.modulo.ensures))

pub returns-in-27 : goal.returns-in-27
returns-in-27 c = ((λ heap. binary heap Add), ap operator_at c.in-27.is, λ heap. ap (λ (r : Result ℤ NumFault). gives_number heap r) (sym c.add-in-27.ensures))

pub returns-in-28 : goal.returns-in-28
returns-in-28 c = ((λ heap. binary heap Subtract), ap operator_at c.in-28.is, λ heap. ap (λ (r : Result ℤ NumFault). gives_number heap r) (sym c.sub-in-28.ensures))

pub returns-in-29 : goal.returns-in-29
returns-in-29 c = ((λ heap. binary heap Multiply), ap operator_at c.in-29.is, λ heap. ap (λ (r : Result ℤ NumFault). gives_number heap r) (sym c.mul-in-29.ensures))

pub returns-in-31 : goal.returns-in-31
returns-in-31 c = ((λ heap. binary heap FloorDivide), ap operator_at c.in-31.is, λ heap. ap (λ (r : Result ℤ NumFault). gives_number heap r) (sym c.floor_div-in-31.ensures))

pub returns-in-33 : goal.returns-in-33
returns-in-33 c = ((λ heap. binary heap Modulo), ap operator_at c.in-33.is, λ heap. ap (λ (r : Result ℤ NumFault). gives_number heap r) (sym c.modulo-in-33.ensures))
