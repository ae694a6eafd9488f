-- The first text of a source whose code passes a limit.
use Rattle.std.specs.Prelude.{◌≡◌, ℕ, suc, List, [], ◌∷◌, ◌++◌, Some, None}
use Rattle.mpy_base.specs.declared.source.SourceFault.{SourceFault}
use Rattle.tr_source.specs.py_meaning.Tree.{Stmt, If, While, For, Try, Finally, TryFinally, Def, Block, End, Next, Branches, Else}
use Rattle.tr_source.specs.py_meaning.Tree.{Case, Handlers, NoHandler, Any, On, OnAs}
use Rattle.tr_source.specs.py_meaning.Program.{Source, Text, source_texts}
use Rattle.emit_measures.specs.Lengths.{text_length}
use Rattle.emit_measures.specs.declared.faults.Measures.{Measures}
use Rattle.emit_measures.specs.Limits.{saturated}
use Rattle.emit_measures.specs.Faults.{fault_of, IsMeasured}
use Rattle.emit_stmt.specs.Crowded.{crowded_block}

-- where a text stands: the line of its `def`, and how many functions stand around it, itself among them
pub record Site : Type 0 where
  pub line : ℕ
  pub depth : ℕ

-- where the functions in a text of this depth stand, in text order
abbrev mutual
  pub sites : (depth : ℕ) → Block → List Site
  sites depth End = []
  sites depth (Next line s b) = sites_in depth line s ++ sites depth b

  pub sites_in : (depth line : ℕ) → Stmt → List Site
  sites_in depth line (If branches) = sites_of depth branches
  sites_in depth line (While test body rest) = sites depth body ++ sites depth rest
  sites_in depth line (For target over body rest) = sites depth body ++ sites depth rest
  sites_in depth line (Try body handlers rest) = sites depth body ++ sites_by depth handlers ++ sites depth rest
  sites_in depth line (Finally body last) = sites depth body ++ sites depth last
  sites_in depth line (TryFinally body handlers rest last) = sites depth body ++ sites_by depth handlers ++ sites depth rest ++ sites depth last
  sites_in depth line (Def number name params defaults body) = record { line = line; depth = suc depth } ∷ sites (suc depth) body
  sites_in depth line _ = []

  pub sites_of : (depth : ℕ) → Branches → List Site
  sites_of depth (Else b) = sites depth b
  sites_of depth (Case line test b branches) = sites depth b ++ sites_of depth branches

  pub sites_by : (depth : ℕ) → Handlers → List Site
  sites_by depth NoHandler = []
  sites_by depth (Any line b) = sites depth b
  sites_by depth (On line test b handlers) = sites depth b ++ sites_by depth handlers
  sites_by depth (OnAs line test name b handlers) = sites depth b ++ sites_by depth handlers

-- the module's own text stands in line 1
abbrev pub source_sites : Source → List Site
source_sites source = record { line = 1; depth = 0 } ∷ sites 0 source.body

-- ---- one text

-- what is counted of a text
pub record AreCounts (site : Site) (text : Text) (m : Measures) : Type 0 where
  pub numbers : IsMeasured text m
  pub length : m.length ≡ saturated (text_length text.locals text.level text.body)
  pub depth : m.depth ≡ site.depth
  pub crowded : m.crowded ≡ crowded_block text.level 0 text.body

-- the text passes no limit
pub record IsWithin (site : Site) (text : Text) : Type 0 where
  pub counts : Measures
  pub are_counts : AreCounts site text counts
  pub none : fault_of counts ≡ None

-- the text passes a limit, in the line of its site
pub record HasFault (site : Site) (text : Text) (fault : SourceFault) : Type 0 where
  pub counts : Measures
  pub are_counts : AreCounts site text counts
  pub code : fault_of counts ≡ Some fault.code
  pub line : fault.line ≡ site.line
  pub word : fault.word ≡ []

-- ---- texts in preorder

-- no text passes a limit at its place
pub data AllWithin : List Site → List Text → Type 0 where
  no_text : AllWithin [] []
  one_within : {site : Site} {sites : List Site} {text : Text} {texts : List Text}
      → IsWithin site text → AllWithin sites texts → AllWithin (site ∷ sites) (text ∷ texts)

-- the first fault of texts: no text in front of the faulty one passes a limit
pub data FirstFault : List Site → List Text → SourceFault → Type 0 where
  here : {site : Site} {sites : List Site} {text : Text} {texts : List Text} {fault : SourceFault}
      → HasFault site text fault → FirstFault (site ∷ sites) (text ∷ texts) fault
  later : {site : Site} {sites : List Site} {text : Text} {texts : List Text} {fault : SourceFault}
      → IsWithin site text → FirstFault sites texts fault → FirstFault (site ∷ sites) (text ∷ texts) fault

-- no text of the source passes a limit
abbrev pub AreWithin : Source → Type 0
AreWithin source = AllWithin (source_sites source) (source_texts source.file source 0)

-- the fault of the source's first text that passes a limit
abbrev pub IsFirstFault : Source → SourceFault → Type 0
IsFirstFault source fault = FirstFault (source_sites source) (source_texts source.file source 0) fault
