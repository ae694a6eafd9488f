-- How deep the parts of statements are.
use Rattle.std.proofs.Common.{◌≡◌, ◌<◌, ℕ, List, Option, Some, ap, arith, rules}
use denote.Param.Weighed.{most}
use Rattle.py_tree.specs.declared.expr.Expr as trees
use Rattle.py_tree.specs.declared.stmt.Target as aims
use Rattle.py_tree.specs.declared.stmt.Param.{Param}
use Rattle.py_tree.specs.declared.stmt.Stmt.{Stmt, out-Stmt}
use Rattle.py_tree.specs.declared.stmt.Branch.{Branch, out-Branch}
use Rattle.py_tree.specs.declared.stmt.Handler.{Handler, out-Handler}
use Rattle.py_tree.specs.declared.stmt.StmtKind.{StmtKind, the_lemmas}
use Rattle.py_tree.specs.declared.stmt.StmtKind.TheVariants as s
use Rattle.py_tree.proofs.stmt.Stmt.TheLaws.{the_size}
use Rattle.py_tree.proofs.stmt.StmtKind.TheLaws.{the_size as kind_size}
use Rattle.py_tree.proofs.stmt.Branch.TheLaws.{the_size as branch_size}
use Rattle.py_tree.proofs.stmt.Handler.TheLaws.{the_size as handler_size}

pub branch_less : (x : Branch) → most the_size (out-Branch x).body < branch_size x
branch_less x = first_of (search (rules, the_lemmas), grind (arith, the_lemmas))

pub handler_less : (x : Handler) → most the_size (out-Handler x).body < handler_size x
handler_less x = first_of (search (rules, the_lemmas), grind (arith, the_lemmas))

pub kind_less : (x : Stmt) → kind_size (out-Stmt x).kind < the_size x
kind_less x = first_of (search (rules, the_lemmas), grind (arith, the_lemmas))

if_branches : (branches : List Branch) (rest : List Stmt) → most branch_size branches < kind_size (s.If branches rest)
if_branches branches rest = first_of (search (rules, the_lemmas), grind (arith, the_lemmas))

if_rest : (branches : List Branch) (rest : List Stmt) → most the_size rest < kind_size (s.If branches rest)
if_rest branches rest = first_of (search (rules, the_lemmas), grind (arith, the_lemmas))

while_body : (test : trees.Expr) (body rest : List Stmt) → most the_size body < kind_size (s.While test body rest)
while_body test body rest = first_of (search (rules, the_lemmas), grind (arith, the_lemmas))

while_rest : (test : trees.Expr) (body rest : List Stmt) → most the_size rest < kind_size (s.While test body rest)
while_rest test body rest = first_of (search (rules, the_lemmas), grind (arith, the_lemmas))

for_body : (target : aims.Target) (over : trees.Expr) (body rest : List Stmt) → most the_size body < kind_size (s.For target over body rest)
for_body target over body rest = first_of (search (rules, the_lemmas), grind (arith, the_lemmas))

for_rest : (target : aims.Target) (over : trees.Expr) (body rest : List Stmt) → most the_size rest < kind_size (s.For target over body rest)
for_rest target over body rest = first_of (search (rules, the_lemmas), grind (arith, the_lemmas))

try_body : (body : List Stmt) (handlers : List Handler) (rest : List Stmt) (last : Option (List Stmt)) → most the_size body < kind_size (s.Try body handlers rest last)
try_body body handlers rest last = first_of (search (rules, the_lemmas), grind (arith, the_lemmas))

try_handlers : (body : List Stmt) (handlers : List Handler) (rest : List Stmt) (last : Option (List Stmt)) → most handler_size handlers < kind_size (s.Try body handlers rest last)
try_handlers body handlers rest last = first_of (search (rules, the_lemmas), grind (arith, the_lemmas))

try_rest : (body : List Stmt) (handlers : List Handler) (rest : List Stmt) (last : Option (List Stmt)) → most the_size rest < kind_size (s.Try body handlers rest last)
try_rest body handlers rest last = first_of (search (rules, the_lemmas), grind (arith, the_lemmas))

try_last : (body : List Stmt) (handlers : List Handler) (rest last : List Stmt) → most the_size last < kind_size (s.Try body handlers rest (Some last))
try_last body handlers rest last = first_of (search (rules, the_lemmas), grind (arith, the_lemmas))

def_body : (name : List ℕ) (params : List Param) (body : List Stmt) → most the_size body < kind_size (s.Def name params body)
def_body name params body = first_of (search (rules, the_lemmas), grind (arith, the_lemmas))

-- ---- below a statement

below : (x : Stmt) (kind : StmtKind) (n : ℕ) → (out-Stmt x).kind ≡ kind → n < kind_size kind → n < the_size x
below x kind n is h = let k = kind_less x in let e = ap kind_size is in omega (arith, h, k, e)

pub if_below : (x : Stmt) (branches : List Branch) (rest : List Stmt) → (out-Stmt x).kind ≡ s.If branches rest → (most branch_size branches < the_size x) × (most the_size rest < the_size x)
if_below x branches rest is = (below x _ _ is (if_branches branches rest), below x _ _ is (if_rest branches rest))

pub while_below : (x : Stmt) (test : trees.Expr) (body rest : List Stmt) → (out-Stmt x).kind ≡ s.While test body rest → (most the_size body < the_size x) × (most the_size rest < the_size x)
while_below x test body rest is = (below x _ _ is (while_body test body rest), below x _ _ is (while_rest test body rest))

pub for_below : (x : Stmt) (target : aims.Target) (over : trees.Expr) (body rest : List Stmt) → (out-Stmt x).kind ≡ s.For target over body rest → (most the_size body < the_size x) × (most the_size rest < the_size x)
for_below x target over body rest is = (below x _ _ is (for_body target over body rest), below x _ _ is (for_rest target over body rest))

pub try_below : (x : Stmt) (body : List Stmt) (handlers : List Handler) (rest : List Stmt) (last : Option (List Stmt)) → (out-Stmt x).kind ≡ s.Try body handlers rest last
    → (most the_size body < the_size x) × ((most handler_size handlers < the_size x) × (most the_size rest < the_size x))
try_below x body handlers rest last is = (below x _ _ is (try_body body handlers rest last), (below x _ _ is (try_handlers body handlers rest last), below x _ _ is (try_rest body handlers rest last)))

pub last_below : (x : Stmt) (body : List Stmt) (handlers : List Handler) (rest last : List Stmt) → (out-Stmt x).kind ≡ s.Try body handlers rest (Some last) → most the_size last < the_size x
last_below x body handlers rest last is = below x _ _ is (try_last body handlers rest last)

pub def_below : (x : Stmt) (name : List ℕ) (params : List Param) (body : List Stmt) → (out-Stmt x).kind ≡ s.Def name params body → most the_size body < the_size x
def_below x name params body is = below x _ _ is (def_body name params body)
