use Rattle.std.proofs.Common.{sym, subst}
use Rattle.vm_fetching.specs.declared.operations.LocalOp.TheVariants as local_ops
use Rattle.vm_fetching.specs.declared.operations.BuildOp.TheVariants as build_ops
use Rattle.vm_fetching.specs.declared.operations.MakeOp.TheVariants as make_ops
use Rattle.vm_fetching.specs.declared.operations.CallOp.TheVariants as call_ops
use Rattle.vm_fetching.specs.Instructions as fetched
use Rattle.vm_fetching.specs.Numbered.{IsNumbered, local, build, make, call, object}
use Rattle.vm_fetching.proofs.Operating.{not_number}
use Rattle.vm_fetching.proofs.fetching.numbered.Goals as goal

pub returns-in-LoadFast : goal.returns-in-LoadFast
returns-in-LoadFast c = subst (λ z. IsNumbered c.args.library.now c.args.module_number c.args.n z (fetched.local local_ops.LoadFast c.args.n)) (sym c.in-LoadFast.is) (local local_ops.LoadFast)

pub returns-in-LoadFastN : goal.returns-in-LoadFastN
returns-in-LoadFastN c = subst (λ z. IsNumbered c.args.library.now c.args.module_number c.args.n z (fetched.local local_ops.LoadFastN c.args.n)) (sym c.in-LoadFastN.is) (local local_ops.LoadFastN)

pub returns-in-StoreFast : goal.returns-in-StoreFast
returns-in-StoreFast c = subst (λ z. IsNumbered c.args.library.now c.args.module_number c.args.n z (fetched.local local_ops.StoreFast c.args.n)) (sym c.in-StoreFast.is) (local local_ops.StoreFast)

pub returns-in-StoreFastN : goal.returns-in-StoreFastN
returns-in-StoreFastN c = subst (λ z. IsNumbered c.args.library.now c.args.module_number c.args.n z (fetched.local local_ops.StoreFastN c.args.n)) (sym c.in-StoreFastN.is) (local local_ops.StoreFastN)

pub returns-in-DeleteFast : goal.returns-in-DeleteFast
returns-in-DeleteFast c = subst (λ z. IsNumbered c.args.library.now c.args.module_number c.args.n z (fetched.local local_ops.DeleteFast c.args.n)) (sym c.in-DeleteFast.is) (local local_ops.DeleteFast)

pub returns-in-BuildTuple : goal.returns-in-BuildTuple
returns-in-BuildTuple c = subst (λ z. IsNumbered c.args.library.now c.args.module_number c.args.n z (fetched.build build_ops.BuildTuple c.args.n)) (sym c.in-BuildTuple.is) (build build_ops.BuildTuple)

pub returns-in-BuildList : goal.returns-in-BuildList
returns-in-BuildList c = subst (λ z. IsNumbered c.args.library.now c.args.module_number c.args.n z (fetched.build build_ops.BuildList c.args.n)) (sym c.in-BuildList.is) (build build_ops.BuildList)

pub returns-in-BuildMap : goal.returns-in-BuildMap
returns-in-BuildMap c = subst (λ z. IsNumbered c.args.library.now c.args.module_number c.args.n z (fetched.build build_ops.BuildMap c.args.n)) (sym c.in-BuildMap.is) (build build_ops.BuildMap)

pub returns-in-UnpackSequence : goal.returns-in-UnpackSequence
returns-in-UnpackSequence c = subst (λ z. IsNumbered c.args.library.now c.args.module_number c.args.n z (fetched.build build_ops.UnpackSequence c.args.n)) (sym c.in-UnpackSequence.is) (build build_ops.UnpackSequence)

pub returns-in-MakeFunction : goal.returns-in-MakeFunction
returns-in-MakeFunction c = subst (λ z. IsNumbered c.args.library.now c.args.module_number c.args.n z (fetched.make make_ops.MakeFunction c.args.n)) (sym c.in-MakeFunction.is) (make make_ops.MakeFunction)

pub returns-in-MakeFunctionDefargs : goal.returns-in-MakeFunctionDefargs
returns-in-MakeFunctionDefargs c = subst (λ z. IsNumbered c.args.library.now c.args.module_number c.args.n z (fetched.make make_ops.MakeFunctionDefargs c.args.n)) (sym c.in-MakeFunctionDefargs.is) (make make_ops.MakeFunctionDefargs)

pub returns-in-CallFunction : goal.returns-in-CallFunction
returns-in-CallFunction c = subst (λ z. IsNumbered c.args.library.now c.args.module_number c.args.n z (fetched.call call_ops.CallFunction c.args.n)) (sym c.in-CallFunction.is) (call call_ops.CallFunction)

pub returns-in-CallMethod : goal.returns-in-CallMethod
returns-in-CallMethod c = subst (λ z. IsNumbered c.args.library.now c.args.module_number c.args.n z (fetched.call call_ops.CallMethod c.args.n)) (sym c.in-CallMethod.is) (call call_ops.CallMethod)

pub object_of-v-requires : goal.object_of-v-requires
object_of-v-requires c = c.requires.there (not_number c.args.op c.args.n c.in_default.not-LoadFast c.in_default.not-LoadFastN c.in_default.not-StoreFast c.in_default.not-StoreFastN c.in_default.not-DeleteFast c.in_default.not-BuildTuple c.in_default.not-BuildList c.in_default.not-BuildMap c.in_default.not-UnpackSequence c.in_default.not-MakeFunction c.in_default.not-MakeFunctionDefargs c.in_default.not-CallFunction c.in_default.not-CallMethod c.requires.form)

pub returns-in_default : goal.returns-in_default
returns-in_default c =
    subst (λ z. IsNumbered c.args.library.now c.args.module_number c.args.n z (fetched.object c.object_of-v.result))
    (sym (not_number c.args.op c.args.n c.in_default.not-LoadFast c.in_default.not-LoadFastN c.in_default.not-StoreFast c.in_default.not-StoreFastN c.in_default.not-DeleteFast c.in_default.not-BuildTuple c.in_default.not-BuildList c.in_default.not-BuildMap c.in_default.not-UnpackSequence c.in_default.not-MakeFunction c.in_default.not-MakeFunctionDefargs c.in_default.not-CallFunction c.in_default.not-CallMethod c.requires.form))
    (object c.object_of-v.result c.object_of-v.ensures)
