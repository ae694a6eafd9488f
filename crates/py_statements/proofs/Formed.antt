-- The statements of formed tokens are formed. What else is known of the tokens is known of those behind a reading.
use Rattle.std.proofs.Common.{◌≡◌, ℕ, Bool, true, ◌&&◌, List, [], ◌∷◌, Option, Some, None, refl, ◌∙◌}
use Rattle.std.specs.Prelude.{nat_lt}
use Rattle.std.specs.List.{list_all}
use Rattle.std.specs.Option.{option_map}
use Rattle.std.proofs.lemmas.List.Folds.{list_all-append}
use Rattle.py_tokens.specs.declared.token.Tok.TheVariants as tok
use Rattle.py_tokens.specs.declared.token.Token.{Token}
use Rattle.py_tokens.specs.declared.operator.Op.TheVariants as op
use Rattle.py_tokens.specs.declared.word.Word.TheVariants as word
use Rattle.py_tree.specs.declared.stmt.Target.{out-Target}
use Rattle.py_tree.specs.Formed.{has_one, is_ascii, expr_formed, target_formed, is_single, is_gone, option_formed, alias_formed, kind_formed, stmt_formed}
use Rattle.py_tree.proofs.Formed.{both}
use Rattle.py_tree.proofs.Statements as stmts
use Rattle.py_tokens.specs.Formed.{token_formed}
use Rattle.py_expressions.specs.Input.{at}
use Rattle.py_expressions.specs.Grammar as e
use Rattle.py_expressions.specs.Targets as t
use Rattle.py_expressions.proofs.Formed as f
use Rattle.py_statements.specs.Reading.{line_at, dot}
use Rattle.py_statements.specs.Grammar.{Name, Dotted, dotted, Renamed, same, renamed, Series, last_comma, comma, Assigned, value, again, Imported, bare, round, Message, Small, Line, last_semicolon, semicolon, name_text, name_tree, dotted_text, dotted_tree, renamed_text, renamed_tree, series_text, series_list, option_text, assigned_text, assigned_targets, assigned_value, imported_text, imported_list, message_text, message_tree, small_text, small_tree, line_text, line_tree, statement_tree}

series_some : {Item A : Type 0} {bracketed : Bool} (tree : Item → A) (xs : Series Item bracketed) → has_one (series_list tree xs) ≡ true
series_some tree (Series.last x) = refl
series_some tree (last_comma x l) = refl
series_some tree (comma x l xs) = refl

assigned_some : (a : Assigned) → has_one (assigned_targets a) ≡ true
assigned_some (value gs l m) = refl
assigned_some (again gs l a) = refl

imported_some : (ns : Imported) → has_one (imported_list ns) ≡ true
imported_some (bare ns) = series_some (renamed_tree name_tree) ns
imported_some (round l ns r) = series_some (renamed_tree name_tree) ns

module _ (Known : List Token → Type 0) (next : (t : Token) (ts : List Token) → Known (t ∷ ts) → Known ts) (here : (t : Token) (ts : List Token) → Known (t ∷ ts) → token_formed t.kind ≡ true) where
  -- it is formed, and these tokens are known
  abbrev pub Formed : Bool → List Token → Type 0
  Formed formed rest = (formed ≡ true) × Known rest

  -- ---- parts

  pub name_formed : (n : Name) (rest : List Token) → Known (name_text n rest) → Formed (is_ascii (name_tree n)) rest
  name_formed n rest k = (here (at n.place (tok.Name n.text)) rest k, next (at n.place (tok.Name n.text)) rest k)

  dotted_formed : (d : Dotted) (rest : List Token) → Known (dotted_text d rest) → Formed (is_ascii (dotted_tree d)) rest
  dotted_formed (Dotted.last n) rest k = name_formed n rest k
  dotted_formed (dotted n l d) rest k =
      let p = name_formed n (at l (tok.Op op.Dot) ∷ dotted_text d rest) k in
      let q = dotted_formed d rest (next _ _ p.1) in
      (list_all-append (λ byte. nat_lt byte 128) n.text (dot ∷ dotted_tree d) ∙ both (is_ascii n.text) (is_ascii (dotted_tree d)) p.0 q.0, q.1)

  renamed_formed : {Path : Type 0} (text : Path → List Token → List Token) (tree : Path → List ℕ) (path : (p : Path) (rest : List Token) → Known (text p rest) → Formed (is_ascii (tree p)) rest)
      (r : Renamed Path) (rest : List Token) → Known (renamed_text text r rest) → Formed (alias_formed (renamed_tree tree r)) rest
  renamed_formed text tree path (same p) rest k = let q = path p rest k in (both (is_ascii (tree p)) true q.0 refl, q.1)
  renamed_formed text tree path (renamed p l n) rest k =
      let q = path p (at l (tok.Word word.As) ∷ name_text n rest) k in
      let r = name_formed n rest (next _ _ q.1) in
      (both (is_ascii (tree p)) (is_ascii n.text) q.0 r.0, r.1)

  pub series_formed : {Item A : Type 0} {bracketed : Bool} (text : Item → List Token → List Token) (tree : Item → A) (good : A → Bool) (item : (x : Item) (rest : List Token) → Known (text x rest) → Formed (good (tree x)) rest)
      (xs : Series Item bracketed) (rest : List Token) → Known (series_text text xs rest) → Formed (list_all good (series_list tree xs)) rest
  series_formed text tree good item (Series.last x) rest k = let p = item x rest k in (both (good (tree x)) true p.0 refl, p.1)
  series_formed text tree good item (last_comma x l) rest k =
      let p = item x (at l (tok.Op op.Comma) ∷ rest) k in
      (both (good (tree x)) true p.0 refl, next _ _ p.1)
  series_formed text tree good item (comma x l xs) rest k =
      let p = item x (at l (tok.Op op.Comma) ∷ series_text text xs rest) k in
      let q = series_formed text tree good item xs rest (next _ _ p.1) in
      (both (good (tree x)) (list_all good (series_list tree xs)) p.0 q.0, q.1)

  option_tests : (o : Option e.Members) (rest : List Token) → Known (option_text e.members_text o rest) → Formed (option_formed (option_map e.members_tree o)) rest
  option_tests None rest k = (refl, k)
  option_tests (Some m) rest k = f.tests_formed Known next here m rest k

  option_test : (o : Option e.Test) (rest : List Token) → Known (option_text e.test_text o rest) → Formed (option_formed (option_map e.test_tree o)) rest
  option_test None rest k = (refl, k)
  option_test (Some t) rest k = f.test_formed Known next here t rest k

  option_message : (o : Option Message) (rest : List Token) → Known (option_text message_text o rest) → Formed (option_formed (option_map message_tree o)) rest
  option_message None rest k = (refl, k)
  option_message (Some m) rest k = f.test_formed Known next here m.test rest (next _ _ k)

  assigned_formed : (a : Assigned) (rest : List Token) → Known (assigned_text a rest) → (list_all target_formed (assigned_targets a) ≡ true) × (expr_formed (assigned_value a) ≡ true) × Known rest
  assigned_formed (value gs l m) rest k =
      let p = f.aims_formed Known next here gs (at l (tok.Op op.Assign) ∷ e.members_text m rest) k in
      let q = f.tests_formed Known next here m rest (next _ _ p.1) in
      (both (target_formed (t.aims_tree gs)) true p.0 refl, q.0, q.1)
  assigned_formed (again gs l a) rest k =
      let p = f.aims_formed Known next here gs (at l (tok.Op op.Assign) ∷ assigned_text a rest) k in
      let q = assigned_formed a rest (next _ _ p.1) in
      (both (target_formed (t.aims_tree gs)) (list_all target_formed (assigned_targets a)) p.0 q.0, q.1, q.2)

  imported_formed : (ns : Imported) (rest : List Token) → Known (imported_text ns rest) → Formed (list_all alias_formed (imported_list ns)) rest
  imported_formed (bare ns) rest k = series_formed (renamed_text name_text) (renamed_tree name_tree) alias_formed (renamed_formed name_text name_tree name_formed) ns rest k
  imported_formed (round l ns r) rest k =
      let p = series_formed (renamed_text name_text) (renamed_tree name_tree) alias_formed (renamed_formed name_text name_tree name_formed) ns (at r (tok.Op op.CloseParen) ∷ rest) (next _ _ k) in
      (p.0, next _ _ p.1)

  -- ---- statements

  removed : (o : t.Gone) (rest : List Token) → Known (t.gone_text o rest) → Formed (is_gone (out-Target (t.gone_tree o)) && target_formed (t.gone_tree o)) rest
  removed o rest k = let p = f.gone_formed Known next here o rest k in (both (is_gone (out-Target (t.gone_tree o))) (target_formed (t.gone_tree o)) (f.gone_gone o) p.0, p.1)

  pub small_formed : (one : Small) (rest : List Token) → Known (small_text one rest) → Formed (kind_formed (small_tree one)) rest
  small_formed (Small.tests m) rest k = let p = f.tests_formed Known next here m rest k in (stmts.formed_Expr (e.members_tree m) ∙ p.0, p.1)
  small_formed (Small.assigned a) rest k =
      let p = assigned_formed a rest k in
      (stmts.formed_Assign (assigned_targets a) (assigned_value a) ∙ both (has_one (assigned_targets a)) (list_all target_formed (assigned_targets a) && expr_formed (assigned_value a)) (assigned_some a) (both (list_all target_formed (assigned_targets a)) (expr_formed (assigned_value a)) p.0 p.1), p.2)
  small_formed (Small.augmented o l kind how is m) rest k =
      let p = f.one_formed Known next here o (at l kind ∷ e.members_text m rest) k in
      let q = f.tests_formed Known next here m rest (next _ _ p.1) in
      (stmts.formed_Aug (t.one_tree o) how (e.members_tree m) ∙ both (is_single (out-Target (t.one_tree o))) (target_formed (t.one_tree o) && expr_formed (e.members_tree m)) (f.one_single o) (both (target_formed (t.one_tree o)) (expr_formed (e.members_tree m)) p.0 q.0), q.1)
  small_formed (Small.del l gs) rest k =
      let p = series_formed t.gone_text t.gone_tree (λ x. is_gone (out-Target x) && target_formed x) removed gs rest (next _ _ k) in
      let xs = series_list t.gone_tree gs in
      (stmts.formed_Del xs ∙ both (has_one xs) (list_all (λ x. is_gone (out-Target x) && target_formed x) xs) (series_some t.gone_tree gs) p.0, p.1)
  small_formed (Small.pass l) rest k = (stmts.formed_Pass, next _ _ k)
  small_formed (Small.break l) rest k = (stmts.formed_Break, next _ _ k)
  small_formed (Small.continue l) rest k = (stmts.formed_Continue, next _ _ k)
  small_formed (Small.return l m) rest k = let p = option_tests m rest (next _ _ k) in (stmts.formed_Return (option_map e.members_tree m) ∙ p.0, p.1)
  small_formed (Small.raise l x) rest k = let p = option_test x rest (next _ _ k) in (stmts.formed_Raise (option_map e.test_tree x) ∙ p.0, p.1)
  small_formed (Small.global l ns) rest k =
      let p = series_formed name_text name_tree is_ascii name_formed ns rest (next _ _ k) in
      let xs = series_list name_tree ns in
      (stmts.formed_Global xs ∙ both (has_one xs) (list_all is_ascii xs) (series_some name_tree ns) p.0, p.1)
  small_formed (Small.assert l x m) rest k =
      let p = f.test_formed Known next here x (option_text message_text m rest) (next _ _ k) in
      let q = option_message m rest p.1 in
      (stmts.formed_Assert (e.test_tree x) (option_map message_tree m) ∙ both (expr_formed (e.test_tree x)) (option_formed (option_map message_tree m)) p.0 q.0, q.1)
  small_formed (Small.import l ns) rest k =
      let p = series_formed (renamed_text dotted_text) (renamed_tree dotted_tree) alias_formed (renamed_formed dotted_text dotted_tree dotted_formed) ns rest (next _ _ k) in
      let xs = series_list (renamed_tree dotted_tree) ns in
      (stmts.formed_Import xs ∙ both (has_one xs) (list_all alias_formed xs) (series_some (renamed_tree dotted_tree) ns) p.0, p.1)
  small_formed (Small.from l d r ns) rest k =
      let p = dotted_formed d (at r (tok.Word word.Import) ∷ imported_text ns rest) (next _ _ k) in
      let q = imported_formed ns rest (next _ _ p.1) in
      (stmts.formed_From (dotted_tree d) (imported_list ns) ∙ both (is_ascii (dotted_tree d)) (has_one (imported_list ns) && list_all alias_formed (imported_list ns)) p.0 (both (has_one (imported_list ns)) (list_all alias_formed (imported_list ns)) (imported_some ns) q.0), q.1)

  statement_formed : (one : Small) (rest : List Token) → Known (small_text one rest) → Formed (stmt_formed (statement_tree one)) rest
  statement_formed one rest k = let p = small_formed one rest k in (stmts.formed_stmt (line_at (small_text one [])) (small_tree one) ∙ p.0, p.1)

  pub line_formed : (one : Line) (rest : List Token) → Known (line_text one rest) → Formed (list_all stmt_formed (line_tree one)) rest
  line_formed (Line.last one n) rest k =
      let p = statement_formed one (at n tok.Newline ∷ rest) k in
      (both (stmt_formed (statement_tree one)) true p.0 refl, next _ _ p.1)
  line_formed (last_semicolon one l n) rest k =
      let p = statement_formed one (at l (tok.Op op.Semicolon) ∷ at n tok.Newline ∷ rest) k in
      (both (stmt_formed (statement_tree one)) true p.0 refl, next _ _ (next _ _ p.1))
  line_formed (semicolon one l others) rest k =
      let p = statement_formed one (at l (tok.Op op.Semicolon) ∷ line_text others rest) k in
      let q = line_formed others rest (next _ _ p.1) in
      (both (stmt_formed (statement_tree one)) (list_all stmt_formed (line_tree others)) p.0 q.0, q.1)

pub line_some : (one : Line) → has_one (line_tree one) ≡ true
line_some (Line.last one n) = refl
line_some (last_semicolon one l n) = refl
line_some (semicolon one l others) = refl
