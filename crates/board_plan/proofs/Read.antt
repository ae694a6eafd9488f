-- How far a plan is read.
use Rattle.std.proofs.Common.{◌≡◌, ℕ, suc, ◌+◌, List, [], ◌∷◌, ◌++◌, length, refl, sym, ap, subst, ◌∙◌, append_assoc, append-nil, length-append, add-one}
use Rattle.board_plan.specs.declared.plan.Plan.{Plan}
use Rattle.board_plan.specs.declared.plan.PlanFault.{PlanFault}
use Rattle.board_plan.specs.Lines.{line_of}
use Rattle.board_plan.specs.Plans.{IsPlan, Breaks, HasFault}

-- the first `number` of all lines are read, and are the plan
pub record Reads (all rest : List (List ℕ)) (number : ℕ) (plan : Plan) : Type 0 where
  pub before : List (List ℕ)
  pub parts : all ≡ before ++ rest
  pub count : number ≡ length before
  pub is_plan : IsPlan before plan

pub none_read : (all : List (List ℕ)) (plan : Plan) → IsPlan [] plan → Reads all all 0 plan
none_read all plan is = record { before = []; parts = refl; count = refl; is_plan = is }

pub one_read : (all rest behind : List (List ℕ)) (line : List ℕ) (number : ℕ) (old new : Plan) → Reads all rest number old → rest ≡ line ∷ behind
    → ((text : List (List ℕ)) → IsPlan text old → IsPlan (text ++ line ∷ []) new) → Reads all behind (number + 1) new
one_read all rest behind line number old new r e grows = record {
  before = r.before ++ line ∷ [];
  parts = r.parts ∙ (ap (λ (ls : List (List ℕ)). r.before ++ ls) e ∙ sym (append_assoc r.before (line ∷ []) behind));
  count = ap (λ (n : ℕ). n + 1) r.count ∙ sym (length-append r.before (line ∷ []));
  is_plan = grows r.before r.is_plan;
}

pub all_read : (all rest : List (List ℕ)) (number : ℕ) (plan : Plan) → Reads all rest number plan → rest ≡ [] → IsPlan all plan
all_read all rest number plan r e =
    subst (λ (ls : List (List ℕ)). IsPlan ls plan) (sym (r.parts ∙ (ap (λ (ls : List (List ℕ)). r.before ++ ls) e ∙ append-nil r.before))) r.is_plan

pub broken : (all rest behind : List (List ℕ)) (line : List ℕ) (number : ℕ) (plan : Plan) (fault : PlanFault) → Reads all rest number plan → rest ≡ line ∷ behind
    → Breaks plan (number + 1) (line_of line) fault → HasFault all fault
broken all rest behind line number plan fault r e breaks = record {
  before = r.before;
  line = line;
  behind = behind;
  parts = r.parts ∙ ap (λ (ls : List (List ℕ)). r.before ++ ls) e;
  plan = plan;
  is_plan = r.is_plan;
  breaks = subst (λ (n : ℕ). Breaks plan n (line_of line) fault) (add-one number ∙ ap suc r.count) breaks;
}
