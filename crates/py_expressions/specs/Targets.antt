-- Targets: their grammar, and the targets that expressions are.
use Rattle.std.specs.Prelude.{◌≡◌, ℕ, zero, suc, Bool, true, false, if◌then◌else◌, List, [], ◌∷◌, Option, Some, None}
use Rattle.py_tokens.specs.declared.token.Tok.TheVariants as tok
use Rattle.py_tokens.specs.declared.token.Token.{Token}
use Rattle.py_tokens.specs.declared.operator.Op.TheVariants as op
use Rattle.py_tree.specs.declared.expr.Expr.{Expr, out-Expr}
use Rattle.py_tree.specs.declared.expr.Expr.TheOpen.{Expr-F}
use Rattle.py_tree.specs.declared.stmt.Target.{Target}
use Rattle.py_tree.specs.declared.stmt.Target.TheVariants as target
use Rattle.py_expressions.specs.declared.grammar.Rule.{Rule}
use Rattle.py_expressions.specs.Input.{Parser, ◌>>=◌, pure, refuse, peek, turns, Place, at}
use Rattle.py_expressions.specs.Reading.{expr, atom, primary, all_trailers, begins_trailer, is_name, members, tuple_of}
use Rattle.py_expressions.specs.Grammar.{Atom, Trailers, Members, atom_text, atom_tree, trailers_text, trailers_tree, members_text, members_tree}

-- ---- the grammar

-- what a primary ends in that is a target
pub data Ending : Type 0 where
  attribute : Place → Place → List ℕ → Ending
  index : Place → Members → Place → Ending

-- one = NAME | primary "." NAME | primary "[" tests "]"
pub data One : Type 0 where
  variable : Place → List ℕ → One
  part : Atom → Trailers → Ending → One

-- gone = NAME | primary "[" tests "]"
pub data Gone : Type 0 where
  variable : Place → List ℕ → Gone
  item : Atom → Trailers → Place → Members → Place → Gone

mutual
  -- target = one | "(" targets ")" | "[" targets "]"
  pub data Aim : Type 0 where
    one : One → Aim
    round : Place → Aims → Place → Aim
    square : Place → Aims → Place → Aim

  -- targets = target { "," target } [ "," ]
  pub data Aims : Type 0 where
    listed : Aim → MoreAims → Aims

  -- { "," target } [ "," ]
  pub data MoreAims : Type 0 where
    no_comma : MoreAims
    last_comma : Place → MoreAims
    comma : Place → Aim → MoreAims → MoreAims

-- ---- the tokens of a reading, and then these

-- the tokens of what a primary ends in, and then these
abbrev pub ending_text : Ending → List Token → List Token
ending_text (attribute l r text) rest = at l (tok.Op op.Dot) ∷ at r (tok.Name text) ∷ rest
ending_text (index l m r) rest = at l (tok.Op op.OpenBracket) ∷ members_text m (at r (tok.Op op.CloseBracket) ∷ rest)

-- the tokens of one target, and then these
abbrev pub one_text : One → List Token → List Token
one_text (One.variable l text) rest = at l (tok.Name text) ∷ rest
one_text (part a ts e) rest = atom_text a (trailers_text ts (ending_text e rest))

-- the tokens of a target of `del`, and then these
abbrev pub gone_text : Gone → List Token → List Token
gone_text (Gone.variable l text) rest = at l (tok.Name text) ∷ rest
gone_text (item a ts l m r) rest = atom_text a (trailers_text ts (ending_text (index l m r) rest))

abbrev mutual
  pub aim_text : Aim → List Token → List Token
  aim_text (one o) rest = one_text o rest
  aim_text (round l gs r) rest = at l (tok.Op op.OpenParen) ∷ aims_text gs (at r (tok.Op op.CloseParen) ∷ rest)
  aim_text (square l gs r) rest = at l (tok.Op op.OpenBracket) ∷ aims_text gs (at r (tok.Op op.CloseBracket) ∷ rest)

  pub aims_text : Aims → List Token → List Token
  aims_text (listed a cs) rest = aim_text a (more_text cs rest)

  pub more_text : MoreAims → List Token → List Token
  more_text no_comma rest = rest
  more_text (last_comma l) rest = at l (tok.Op op.Comma) ∷ rest
  more_text (comma l a cs) rest = at l (tok.Op op.Comma) ∷ aim_text a (more_text cs rest)

-- ---- the target of a reading

-- the part of the object that the ending names
abbrev pub ending_tree : Ending → Expr → Target
ending_tree (attribute l r text) object = target.Attr object text
ending_tree (index l m r) object = target.Index object (members_tree m)

-- the tree of one target
abbrev pub one_tree : One → Target
one_tree (One.variable l text) = target.Name text
one_tree (part a ts e) = ending_tree e (trailers_tree ts (atom_tree a))

-- the tree of a target of `del`
abbrev pub gone_tree : Gone → Target
gone_tree (Gone.variable l text) = target.Name text
gone_tree (item a ts l m r) = target.Index (trailers_tree ts (atom_tree a)) (members_tree m)

-- One target without a comma is itself, others are unpacked.
unfoldable pub unpacks : List Target → Bool → Target
unpacks (t ∷ []) false = t
unpacks (t ∷ []) true = target.Unpack (t ∷ [])
unpacks [] c = target.Unpack []
unpacks (t ∷ u ∷ ts) c = target.Unpack (t ∷ u ∷ ts)

abbrev mutual
  pub aim_tree : Aim → Target
  aim_tree (one o) = one_tree o
  aim_tree (round l gs r) = unpacks (aims_list gs) (aims_last gs)
  aim_tree (square l gs r) = target.Unpack (aims_list gs)

  pub aims_list : Aims → List Target
  aims_list (listed a cs) = aim_tree a ∷ more_list cs

  -- whether a comma stands behind the last
  pub aims_last : Aims → Bool
  aims_last (listed a cs) = more_last cs

  pub more_list : MoreAims → List Target
  more_list no_comma = []
  more_list (last_comma l) = []
  more_list (comma l a cs) = aim_tree a ∷ more_list cs

  pub more_last : MoreAims → Bool
  more_last no_comma = false
  more_last (last_comma l) = true
  more_last (comma l a cs) = more_last cs

-- the tree of targets: one without a comma is itself, and others are unpacked
abbrev pub aims_tree : Aims → Target
aims_tree gs = unpacks (aims_list gs) (aims_last gs)

-- ---- the targets that expressions are

-- a target in front of others, where all of them are targets
abbrev pub both : Option Target → Option (List Target) → Option (List Target)
both None ts = None
both (Some t) None = None
both (Some t) (Some ts) = Some (t ∷ ts)

-- the target that each of the expressions is, where all are targets
unfoldable pub each : (Expr → Option Target) → List Expr → Option (List Target)
each go [] = Some []
each go (x ∷ xs) = both (go x) (each go xs)

-- the targets as one that is unpacked
abbrev pub unpacked : Option (List Target) → Option Target
unpacked None = None
unpacked (Some ts) = Some (target.Unpack ts)

-- the targets that one or more expressions are, as one that is unpacked
unfoldable pub unpack : (Expr → Option Target) → List Expr → Option Target
unpack go [] = None
unpack go (x ∷ xs) = unpacked (each go (x ∷ xs))

-- an expression by its outermost part
abbrev pub Layer : Type 0
Layer = Expr-F Expr

-- the target that an expression is by its outermost part: a name, an attribute, an item, or a tuple or list of targets
abbrev pub target_by : (Expr → Option Target) → Layer → Option Target
target_by go (Expr-F.Name text) = Some (target.Name text)
target_by go (Expr-F.Attr object text) = Some (target.Attr object text)
target_by go (Expr-F.Index object i) = Some (target.Index object i)
target_by go (Expr-F.Tuple xs) = unpack go xs
target_by go (Expr-F.List xs) = unpack go xs
target_by go _ = None

-- the target that an expression is, with brackets no deeper than this
unfoldable pub target_of : ℕ → Expr → Option Target
target_of zero x = None
target_of (suc depth) x = target_by (target_of depth) (out-Expr x)

-- an expression is this target, however deep its brackets are
abbrev pub IsTarget : Expr → Target → Type 0
IsTarget x to = (depth : ℕ) × (target_of depth x ≡ Some to)

-- what a primary with trailers may be as a target of an augmented assignment
abbrev pub part_by : Layer → Option Target
part_by (Expr-F.Attr object text) = Some (target.Attr object text)
part_by (Expr-F.Index object i) = Some (target.Index object i)
part_by _ = None

-- the attribute or item that an expression is
unfoldable pub part_of : Expr → Option Target
part_of x = part_by (out-Expr x)

-- what a primary with trailers may be as a target of `del`
abbrev pub item_by : Layer → Option Target
item_by (Expr-F.Index object i) = Some (target.Index object i)
item_by _ = None

-- the item that an expression is
unfoldable pub item_of : Expr → Option Target
item_of x = item_by (out-Expr x)

-- the one or the other, by whether it is deleted
abbrev pub whole_of : Bool → Expr → Option Target
whole_of deletes = if deletes then item_of else part_of

-- the target that an atom alone is, to be assigned or deleted: a name that no bracket encloses, so that a name is its first token
abbrev pub alone_by : Bool → Layer → Option Target
alone_by false _ = None
alone_by true (Expr-F.Name text) = Some (target.Name text)
alone_by true _ = None

-- the target that a whole expression alone is, to be assigned or deleted
unfoldable pub alone_of : Bool → Expr → Option Target
alone_of is_name x = alone_by is_name (out-Expr x)

-- ---- targets that are read as primaries

-- the value, where there is one
abbrev pub given : {A : Type 0} → Option A → Parser A
given None = refuse
given (Some x) = pure x

-- the targets of a `for`, in front of its `in`
unfoldable pub targets : ℕ → Parser Target
targets depth = do
  found ← members (primary (expr depth))
  given (target_of (suc depth) (tuple_of found.0 found.1))

-- targets in front of `in`, with room for each nesting of what is ahead
unfoldable pub all_targets : Parser Target
all_targets = λ i. targets (turns i) i

-- a name alone, or a primary with trailers that is a target
unfoldable pub single : (Expr → Option Target) → (Rule → Parser Expr) → Parser Target
single whole_of inner = do
  kind ← peek
  first ← atom inner
  behind ← peek
  if begins_trailer behind then (do
    whole ← all_trailers inner first
    given (whole_of whole)) else given (alone_of (is_name kind) first)

-- the target of an augmented assignment
unfoldable pub one_target : Parser Target
one_target = λ i. single part_of (expr (turns i)) i

-- a target of a `del`
unfoldable pub one_gone : Parser Target
one_gone = λ i. single item_of (expr (turns i)) i

-- ---- targets among tests

-- a text is that of targets
pub record AimedMembers (text : List Token → List Token) (x : Target) : Type 0 where
  pub aims : Aims
  pub spelled : (rest : List Token) → text rest ≡ aims_text aims rest
  pub is : aims_tree aims ≡ x
