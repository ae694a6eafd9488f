-- The code of imports, from that of their parts.
use Rattle.std.proofs.Common.{◌≡◌, ℕ, suc, false, List, [], ◌∷◌, length, map, Option, Some, None, pos, nat_eq, cond, inl, inr, ◌+◌, refl, sym, ap, ◌∙◌, subst, arith}
use Rattle.std.specs.Prelude.{◌==◌}
use Rattle.std.specs.List.{count_by, slice_split, onto_first}
use Rattle.std.proofs.lemmas.Bool.{eq-eqb}
use Rattle.std.proofs.lemmas.List.{length-map}
use Rattle.std.proofs.lemmas.List.Splits.{length-slice_split}
use Rattle.std.proofs.lemmas.Bool.Decides.{eqb_tells}
use Rattle.emit_expr.specs.bc_machine.bc_ops.declared.instr.Op.TheVariants as ops
use Rattle.emit_expr.specs.bc_machine.bc_ops.declared.instr.Instr.TheVariants as instrs
use Rattle.emit_expr.specs.bc_machine.Library.{Name, Plain, Names}
use Rattle.emit_expr.specs.bc_machine.py_effects.Modules.{parts_of, first_of}
use Rattle.py_tree.specs.declared.stmt.Alias.{Alias}
use Rattle.emit_expr.specs.py_meaning.Tree.{Import, From}
use Rattle.emit_expr.specs.py_meaning.Statements.{bound_name, from_name, read_parts}
use Rattle.emit_expr.specs.bc_scheme.Context.{Context, Has, plain, number, stores}
use Rattle.emit_expr.specs.bc_scheme.Statements as stands
use Rattle.emit_expr.specs.bc_scheme.Statements.{Around, StandsR, StandsM, StandsN, StandsF, StandsS}
use Rattle.emit_expr.specs.emit_draft.declared.draft.Draft.{Draft}
use Rattle.emit_expr.specs.emit_draft.declared.draft.DraftItem.TheVariants as drafts
use Rattle.emit_expr.specs.emit_draft.declared.scope.Scope.{Scope}
use Rattle.emit_expr.specs.emit_draft.Draft.{Puts, PutsCount, passes_items}
use Rattle.emit_expr.specs.emit_draft.Emits.{Emits, IsPut, put}
use Rattle.emit_expr.proofs.emit_draft_lemmas.Lists.{or_false}
use Rattle.emit_expr.proofs.emit_draft_lemmas.Emits.{put_emits, then_emits, put_after, count_after, as_emits, size_emits}
use Rattle.emit_expr.specs.Emits.{PutsAs}
use Rattle.emit_stmt.specs.declared.jumps.Loop.{Loop}
use Rattle.emit_stmt.specs.SimpleEmits.{around_of, EmitsR, EmitsM, EmitsN, EmitsF, EmitsS}
use Rattle.emit_stmt.proofs.SimpleRows.{Row, any_crowds, never_crowds}

-- ---- texts in a row

abbrev pub Text : (line : ℕ) → Context → ℕ → Alias → ℕ → Type 0
Text line c p a q = IsPut c line p (Names ops.LoadConstString a.name) q

text_more : {c : Context} {line p m q : ℕ} {a : Alias} {others : List Alias} → IsPut c line p (Names ops.LoadConstString a.name) m → StandsN c line m others q → StandsN c line p (a ∷ others) q
text_more (put h) k = stands.text h k

text_row : {c : Context} {line p q : ℕ} (aliases : List Alias) → Row (Text line c) p aliases q → StandsN c line p aliases q
text_row {c = c} {line = line} {p = p} [] row = subst (StandsN c line p []) row stands.no_text
text_row {c = c} {line = line} {p = p} {q = q} (a ∷ others) row = text_more row.1 (text_row {p = row.0} others row.2)

pub texts_emit : {a b : Draft} {s : Scope} {line : ℕ} (aliases : List Alias) → Emits (length a.labels.items) a b s false (any_crowds (λ (x : Alias). false) aliases) (λ c labels p q. Row (Text line c) p aliases q) → EmitsN a b s line aliases
texts_emit {line = line} aliases g = record { by = size_emits (never_crowds aliases) (as_emits (λ c labels p q. StandsN c line p aliases q) (λ c labels p q k. text_row aliases k) g) }

pub text_emits : {a b : Draft} {line : ℕ} {name : Name} (s : Scope) (x : Alias) → name ≡ x.name → Puts a b line (drafts.Named ops.LoadConstString name) → Emits (length a.labels.items) a b s false false (λ c labels p q. Text line c p x q)
text_emits {a = a} {b = b} {line = line} s x is p = put_emits a b s line _ (subst (λ n. Puts a b line (drafts.Named ops.LoadConstString n)) is p)

-- ---- names that are taken

abbrev pub Taken : (line : ℕ) → Context → ℕ → Alias → ℕ → Type 0
Taken line c p a q = (m : ℕ) × IsPut c line p (Names ops.ImportFrom a.name) m × IsPut c line m (stores c (from_name a.name a.bound)) q

taken_more : {c : Context} {line p m n q : ℕ} {a : Alias} {others : List Alias} → IsPut c line p (Names ops.ImportFrom a.name) m → IsPut c line m (stores c (from_name a.name a.bound)) n → StandsF c line n others q → StandsF c line p (a ∷ others) q
taken_more (put h) (put k) rest = stands.taken h k rest

taken_row : {c : Context} {line p q : ℕ} (aliases : List Alias) → Row (Taken line c) p aliases q → StandsF c line p aliases q
taken_row {c = c} {line = line} {p = p} [] row = subst (StandsF c line p []) row stands.no_name
taken_row {c = c} {line = line} {p = p} {q = q} (a ∷ others) row = taken_more row.1.1 row.1.2 (taken_row {p = row.0} others row.2)

pub takens_emit : {a b : Draft} {s : Scope} {line : ℕ} (aliases : List Alias) → Emits (length a.labels.items) a b s false (any_crowds (λ (x : Alias). false) aliases) (λ c labels p q. Row (Taken line c) p aliases q) → EmitsF a b s line aliases
takens_emit {line = line} aliases g = record { by = size_emits (never_crowds aliases) (as_emits (λ c labels p q. StandsF c line p aliases q) (λ c labels p q k. taken_row aliases k) g) }

pub taken_emits : {a b d : Draft} {s : Scope} {line : ℕ} {name bound : Name} (x : Alias) → name ≡ x.name → bound ≡ from_name x.name x.bound → Puts a b line (drafts.Named ops.ImportFrom name) → PutsAs b d s line (λ c. stores c bound)
    → Emits (length a.labels.items) a d s false false (λ c labels p q. Taken line c p x q)
taken_emits {a = a} {b = b} {d = d} {s = s} {line = line} x is same p g =
    let h = subst (λ n. Puts a b line (drafts.Named ops.ImportFrom n)) is p in
    let k = subst (λ n. PutsAs b d s line (λ c. stores c n)) same g in
    then_emits (put_emits a b s line _ h) k.by

from_row : {c : Context} {a : Around} {line p m1 m2 m3 m4 n q : ℕ} {x : Name} {aliases : List Alias} → IsPut c line p (Plain (instrs.Int (pos 0))) m1 → StandsN c line m1 aliases m2 → IsPut c line m2 (number ops.BuildTuple (length aliases)) m3
    → IsPut c line m3 (Names ops.ImportName x) m4 → StandsF c line m4 aliases n → IsPut c line n (plain ops.PopTop) q → StandsS c a line p (From x aliases) q
from_row (put h1) sn (put h2) (put h3) sf (put h4) = stands.from h1 sn h2 h3 sf h4

pub from_emits : {a d1 d2 d3 d4 d5 d6 : Draft} {s : Scope} {line n : ℕ} {x : Name} {aliases : List Alias} (around : Loop) → PutsAs a d1 s line (λ c. Plain (instrs.Int (pos 0))) → EmitsN d1 d2 s line aliases → n ≡ length aliases → PutsCount d2 d3 line ops.BuildTuple (passes_items n) n
    → Puts d3 d4 line (drafts.Named ops.ImportName x) → EmitsF d4 d5 s line aliases → Puts d5 d6 line (drafts.Plain (instrs.Plain ops.PopTop)) → EmitsS a d6 s around line (From x aliases)
from_emits {d2 = d2} {d3 = d3} {line = line} {x = x} {aliases = aliases} around p1 en is p2 p3 ef p4 =
    let h = subst (λ z. PutsCount d2 d3 line ops.BuildTuple (passes_items z) z) is p2 in
    record {
      by = size_emits (or_false (passes_items (length aliases))) (as_emits (λ c labels p q. StandsS c (around_of labels around) line p (From x aliases) q) (λ c labels p q k. from_row k.1.1.1.1.1 k.1.1.1.1.2 k.1.1.1.2.1 k.1.1.2 k.1.2 k.2)
          (put_after (then_emits (put_after (count_after (then_emits p1.by en.by) h) p3) ef.by) p4));
    }

-- ---- reads of attributes

-- of what holds a name
abbrev pub Read : {R : Type 0} → (R → Name) → (line : ℕ) → Context → ℕ → R → ℕ → Type 0
Read name line c p r q = IsPut c line p (Names ops.LoadAttr (name r)) q

read_more : {c : Context} {line p m q : ℕ} {n : Name} {names : List Name} → IsPut c line p (Names ops.LoadAttr n) m → StandsR c line m names q → StandsR c line p (n ∷ names) q
read_more (put h) k = stands.part h k

read_row : {R : Type 0} {c : Context} {line p q : ℕ} (name : R → Name) (rs : List R) → Row (Read name line c) p rs q → StandsR c line p (map name rs) q
read_row {c = c} {line = line} {p = p} name [] row = subst (StandsR c line p []) row stands.no_part
read_row {c = c} {line = line} {p = p} {q = q} name (r ∷ rs) row = read_more row.1 (read_row {p = row.0} name rs row.2)

pub reads_emit : {R : Type 0} {a b : Draft} {s : Scope} {line : ℕ} (name : R → Name) (rs : List R) → Emits (length a.labels.items) a b s false (any_crowds (λ (r : R). false) rs) (λ c labels p q. Row (Read name line c) p rs q) → EmitsR a b s line (map name rs)
reads_emit {line = line} name rs g = record { by = size_emits (never_crowds rs) (as_emits (λ c labels p q. StandsR c line p (map name rs) q) (λ c labels p q k. read_row name rs k) g) }

-- ---- the parts of a name

eq_turned : (a b : ℕ) → nat_eq a b ≡ nat_eq b a
eq_turned a b = elim (eqb_tells a b) [ inl p ↦ p.0 ∙ sym (eq-eqb b a (sym p.1)) | inr q ↦ elim (eqb_tells b a) [ inl r ↦ absurd (q.1 (sym r.1)) | inr r ↦ q.0 ∙ sym r.0 ] ]

pub dots_turned : (text : List ℕ) → slice_split (λ byte. byte == 46) text ≡ parts_of text
dots_turned [] = refl
dots_turned (byte ∷ bytes) =
    let rest : List Name = slice_split (λ byte. byte == 46) bytes in
    ap (λ b. cond b ([] ∷ rest) (onto_first byte rest)) (eq_turned byte 46) ∙ ap (λ (z : List Name). cond (nat_eq 46 byte) ([] ∷ z) (onto_first byte z)) (dots_turned bytes)

-- a name has a part
pub no_part_less : {R : Type 0} (name : R → Name) (items slice : List R) (text : Name) → map name items ≡ parts_of text → slice ≡ items → length slice ≡ 0 → ⊥
no_part_less name items slice text is same none =
    let parts : length (map name items) ≡ length (parts_of text) = ap length is in
    let count : length (parts_of text) ≡ count_by (nat_eq 46) text + 1 = length-slice_split (nat_eq 46) text in
    omega (arith, parts, count, ap length same, none, length-map items name)

pub parts_split : {R : Type 0} (name : R → Name) (items slice : List R) (first : R) (others : List R) (text whole : Name) → map name items ≡ parts_of text → slice ≡ items → slice ≡ first ∷ others → text ≡ whole
    → parts_of whole ≡ name first ∷ map name others
parts_split name items slice first others text whole is same split text_is = ap parts_of (sym text_is) ∙ sym is ∙ ap (map name) (sym same ∙ split)

none_read : (parts : List Name) (bound : Option Name) → bound ≡ None → [] ≡ read_parts parts bound
none_read [] bound is = refl
none_read (part ∷ parts) bound is = sym (ap (read_parts (part ∷ parts)) is)

others_read : (parts rest : List Name) (first : Name) (bound : Option Name) (other : Name) → parts ≡ first ∷ rest → bound ≡ Some other → rest ≡ read_parts parts bound
others_read parts rest first bound other is some = sym (ap (λ z. read_parts z bound) is ∙ ap (read_parts (first ∷ rest)) some)

-- ---- one import

pub record Loaded (a b : Draft) (s : Scope) (line : ℕ) (name : Name) : Type 0 where
  pub by : Emits (length a.labels.items) a b s false false (λ c labels p q. Has c line p (Plain (instrs.Int (pos 0))) × Has c line (suc p) (plain ops.LoadConstNone) × Has c line (suc (suc p)) (Names ops.ImportName name) × (q ≡ suc (suc (suc p))))

loaded_row : {c : Context} {line p m n q : ℕ} {name : Name} → IsPut c line p (Plain (instrs.Int (pos 0))) m → IsPut c line m (plain ops.LoadConstNone) n → IsPut c line n (Names ops.ImportName name) q
    → Has c line p (Plain (instrs.Int (pos 0))) × Has c line (suc p) (plain ops.LoadConstNone) × Has c line (suc (suc p)) (Names ops.ImportName name) × (q ≡ suc (suc (suc p)))
loaded_row (put h1) (put h2) (put h3) = (h1, h2, h3, refl)

pub loaded : {a b d f : Draft} {s : Scope} {line : ℕ} {name : Name} → PutsAs a b s line (λ c. Plain (instrs.Int (pos 0))) → Puts b d line (drafts.Plain (instrs.Plain ops.LoadConstNone)) → Puts d f line (drafts.Named ops.ImportName name) → Loaded a f s line name
loaded {line = line} {name = name} p1 p2 p3 = record {
  by = as_emits (λ c labels p q. Has c line p (Plain (instrs.Int (pos 0))) × Has c line (suc p) (plain ops.LoadConstNone) × Has c line (suc (suc p)) (Names ops.ImportName name) × (q ≡ suc (suc (suc p))))
      (λ c labels p q k. loaded_row k.1.1 k.1.2 k.2) (put_after (put_after p1.by p2) p3);
}

imported_row : {c : Context} {line p m n q r : ℕ} {a : Alias} {aliases : List Alias} → Has c line p (Plain (instrs.Int (pos 0))) × Has c line (suc p) (plain ops.LoadConstNone) × Has c line (suc (suc p)) (Names ops.ImportName a.name) × (m ≡ suc (suc (suc p)))
    → StandsR c line m (read_parts (parts_of a.name) a.bound) n → IsPut c line n (stores c (bound_name a.name a.bound)) q → StandsM c line q aliases r → StandsM c line p (a ∷ aliases) r
imported_row {c = c} {line = line} {n = n} {a = a} l sr (put h) sm = stands.imported l.0 l.1 l.2 (subst (λ z. StandsR c line z (read_parts (parts_of a.name) a.bound) n) l.3 sr) h sm

-- nothing is read
pub no_reads : (a : Draft) (s : Scope) (line : ℕ) → EmitsR a a s line []
no_reads a s line = record { by = Rattle.emit_expr.proofs.emit_draft_lemmas.Emits.no_emits a s false (λ c labels p q. StandsR c line p [] q) (λ c labels p. stands.no_part) }

pub alias_emits : {a b d f : Draft} {s : Scope} {line : ℕ} {name : Name} {parts : List Name} (x : Alias) → Loaded a b s line x.name → EmitsR b d s line parts → parts ≡ read_parts (parts_of x.name) x.bound
    → PutsAs d f s line (λ c. stores c name) → name ≡ bound_name x.name x.bound → EmitsM a f s line x
alias_emits {b = b} {d = d} {f = f} {s = s} {line = line} x l er read p bound =
    let er2 = subst (EmitsR b d s line) read er in
    let p2 = subst (λ z. PutsAs d f s line (λ c. stores c z)) bound p in
    record {
      by = as_emits (λ c labels p q. (aliases : List Alias) (r : ℕ) → StandsM c line q aliases r → StandsM c line p (x ∷ aliases) r) (λ c labels p q k aliases r h. imported_row k.1.1 k.1.2 k.2 h) (then_emits (then_emits l.by er2.by) p2.by);
    }

-- bound to its first part
pub plain_alias : {a b d : Draft} {s : Scope} {line : ℕ} {name : Name} (x : Alias) (rest : List Name) (first : Name) → Loaded a b s line x.name → parts_of x.name ≡ first ∷ rest → x.bound ≡ None
    → PutsAs b d s line (λ c. stores c name) → name ≡ first → EmitsM a d s line x
plain_alias {b = b} {s = s} {line = line} x rest first l parts bound p is =
    alias_emits x l (no_reads b s line) (none_read (parts_of x.name) x.bound bound) p (is ∙ sym (ap first_of parts) ∙ sym (ap (bound_name x.name) bound))

-- its last part bound to another name
pub bound_alias : {a b d f : Draft} {s : Scope} {line : ℕ} {name : Name} (x : Alias) (rest : List Name) (first other : Name) → Loaded a b s line x.name → parts_of x.name ≡ first ∷ rest → x.bound ≡ Some other → EmitsR b d s line rest
    → PutsAs d f s line (λ c. stores c name) → name ≡ other → EmitsM a f s line x
bound_alias x rest first other l parts bound er p is =
    alias_emits x l er (others_read (parts_of x.name) rest first x.bound other parts bound) p (is ∙ sym (ap (bound_name x.name) bound))

-- ---- imports

abbrev pub Imported : (line : ℕ) → Context → ℕ → Alias → ℕ → Type 0
Imported line c p a q = (aliases : List Alias) (r : ℕ) → StandsM c line q aliases r → StandsM c line p (a ∷ aliases) r

import_row : {c : Context} {line p q : ℕ} (aliases : List Alias) → Row (Imported line c) p aliases q → StandsM c line p aliases q
import_row {c = c} {line = line} {p = p} [] row = subst (StandsM c line p []) row stands.no_import
import_row {c = c} {line = line} {p = p} {q = q} (a ∷ others) row = row.1 others q (import_row {p = row.0} others row.2)

pub import_emits : {a b : Draft} {s : Scope} {line : ℕ} (around : Loop) (aliases : List Alias) → Emits (length a.labels.items) a b s false (any_crowds (λ (x : Alias). false) aliases) (λ c labels p q. Row (Imported line c) p aliases q) → EmitsS a b s around line (Import aliases)
import_emits {line = line} around aliases g = record {
  by = size_emits (never_crowds aliases) (as_emits (λ c labels p q. StandsS c (around_of labels around) line p (Import aliases) q) (λ c labels p q k. stands.«import» (import_row aliases k)) g);
}
