use Rattle.bc_resolved.proofs.Codes.{module_planned, takes}
use Rattle.bc_resolved.proofs.Spelled.{file_known, module_texts}
use Rattle.bc_resolved.proofs.Unraw.{tree_verified}
use Rattle.bc_resolved.proofs.verified.module_law.Goals as goal

pub returns-clause-trees : goal.returns-clause-trees
returns-clause-trees c tree v k = let p = module_planned tree v k in (p.0, p.1)

pub returns-clause-files : goal.returns-clause-files
returns-clause-files c m tree h r v =
    let t = tree_verified m tree (module_texts m h) r v in let p = module_planned tree t (file_known m tree r t) in
    (p.0, p.1)

pub returns-clause-rooms : goal.returns-clause-rooms
returns-clause-rooms c m tree h r v =
    let t = tree_verified m tree (module_texts m h) r v in
    let p = module_planned tree t (file_known m tree r t) in
    (p.0, p.1, λ n_state n_exc w. p.2 n_state n_exc (takes m tree r n_state n_exc w))
