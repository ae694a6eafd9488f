-- A text's code is as long as it defines functions, and as it has instructions.
use Rattle.std.proofs.Common.{ℕ, ◌≤◌, Bool, true, false, List, [], ◌∷◌, ◌++◌, length, arith, length-append}
use Rattle.emit_module.specs.bc_machine.Library.{Line}
use Rattle.emit_module.specs.py_meaning.Tree.{Name, Exprs, NoExpr, More, Stmt, Do, Assign, AugName, AugAttr, AugIndex, Delete, Pass, Break, Continue, ReturnNone, Return, Reraise, Raise, Assert, AssertWith, Import, From, If, While, For, Try, Finally, TryFinally, Def, Block, End, Next, Branches, Else, Case, Handlers, NoHandler, Any, On, OnAs}
use Rattle.emit_module.specs.bc_scheme.Translation.{own, own_in, own_of, own_by}
use Rattle.emit_module.specs.emit_measures.Wide.{wide_length}
use Rattle.emit_module.specs.emit_measures.Lengths.{defaults_length, stmt_length, block_length, branches_length, handlers_length}
use Rattle.emit_module.proofs.Few.{some_item}

pub no_more_lines : (lines : List Line) → length lines ≤ wide_length lines
no_more_lines [] = omega arith
no_more_lines (line ∷ lines) = let h = no_more_lines lines in let k = some_item line.item in omega (arith, h, k)

some_default : (locals : List Name) (es : Exprs) → 1 ≤ defaults_length locals es
some_default locals NoExpr = omega arith
some_default locals (More e es) = omega arith

module _ (locals : List Name) (level : ℕ) where
  abbrev B : (held it : Bool) → Block → ℕ
  B = block_length locals level

  mutual
    pub own_few : (held it : Bool) (b : Block) → length (own b) ≤ B held it b
    own_few held it End = omega arith
    own_few held it (Next line s b) = let x = stmt_few held it s in let y = own_few held it b in let z = length-append (own_in s) (own b) in omega (arith, x, y, z)

    stmt_few : (held it : Bool) (s : Stmt) → length (own_in s) ≤ stmt_length locals level held it s
    stmt_few held it (Do e) = omega arith
    stmt_few held it (Assign ts e) = omega arith
    stmt_few held it (AugName name op e) = omega arith
    stmt_few held it (AugAttr a name op e) = omega arith
    stmt_few held it (AugIndex a b op e) = omega arith
    stmt_few held it (Delete ts) = omega arith
    stmt_few held it Pass = omega arith
    stmt_few held it Break = omega arith
    stmt_few held it Continue = omega arith
    stmt_few held it ReturnNone = omega arith
    stmt_few held it (Return e) = omega arith
    stmt_few held it Reraise = omega arith
    stmt_few held it (Raise e) = omega arith
    stmt_few held it (Assert e) = omega arith
    stmt_few held it (AssertWith e x) = omega arith
    stmt_few held it (Import names) = omega arith
    stmt_few held it (From path names) = omega arith
    stmt_few held it (If branches) = branches_few held it branches
    stmt_few held it (While e body rest) = let x = own_few false false body in let y = own_few held it rest in let z = length-append (own body) (own rest) in omega (arith, x, y, z)
    stmt_few held it (For t e body rest) = let x = own_few false true body in let y = own_few held it rest in let z = length-append (own body) (own rest) in omega (arith, x, y, z)
    stmt_few held it (Try body handlers rest) =
        let x = own_few true it body in
        let y = handlers_few true it handlers in
        let z = own_few held it rest in
        let v = length-append (own body) (own_by handlers) in
        let w = length-append (own body ++ own_by handlers) (own rest) in
        omega (arith, x, y, z, v, w)
    stmt_few held it (Finally body last) = let x = own_few true it body in let y = own_few true it last in let z = length-append (own body) (own last) in omega (arith, x, y, z)
    stmt_few held it (TryFinally body handlers rest last) =
        let x = own_few true it body in
        let y = handlers_few true it handlers in
        let z = own_few true it rest in
        let u = own_few true it last in
        let v = length-append (own body) (own_by handlers) in
        let w = length-append (own body ++ own_by handlers) (own rest) in
        let q = length-append (own body ++ own_by handlers ++ own rest) (own last) in
        omega (arith, x, y, z, u, v, w, q)
    stmt_few held it (Def number name params defaults body) = let x = some_default locals defaults in omega (arith, x)

    branches_few : (held it : Bool) (bs : Branches) → length (own_of bs) ≤ branches_length locals level held it bs
    branches_few held it (Else b) = own_few held it b
    branches_few held it (Case line e b bs) = let x = own_few held it b in let y = branches_few held it bs in let z = length-append (own b) (own_of bs) in omega (arith, x, y, z)

    handlers_few : (held it : Bool) (hs : Handlers) → length (own_by hs) ≤ handlers_length locals level held it hs
    handlers_few held it NoHandler = omega arith
    handlers_few held it (Any line b) = let x = own_few held it b in omega (arith, x)
    handlers_few held it (On line e b hs) = let x = own_few held it b in let y = handlers_few held it hs in let z = length-append (own b) (own_by hs) in omega (arith, x, y, z)
    handlers_few held it (OnAs line e name b hs) = let x = own_few true it b in let y = handlers_few held it hs in let z = length-append (own b) (own_by hs) in omega (arith, x, y, z)
