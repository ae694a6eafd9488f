use Rattle.std.proofs.Common.{◌≡◌, ℕ, List, Option, Some, Err, IfSome, Ok, arith, refl, rules, subst, sym, ◌∙◌}
use Rattle.mpy_base.specs.declared.refused.Refused.TheVariants as refused
use Rattle.mpy_io.specs.Files.{FileOf}
use Rattle.manifest_files.specs.declared.fault.ManifestFault.TheVariants.{Deep}
use Rattle.manifest_files.specs.Answers.{Follows, LinesOf, Tells}
use Rattle.manifest_files.specs.Entries.{Says, LineSays, line_saying}
use Rattle.manifest_files.specs.Quiet.{AllInclude, AreQuiet, IsQuiet}
use Rattle.manifest_files.proofs.FailedReads.{behind_read, inside, itself_read, line_read, lines_read}
use Rattle.manifest_files.proofs.Passing.{here_too, lines_lead, line_leads, inner_leads, passed_over, kept_now}
use Rattle.manifest_files.proofs.Tells.{if_some, if_some_both, refuses, too_deep, unread, line_gave_up, line_went_on, lines_told, whole_told}
use Rattle.manifest_files.proofs.collecting.+manifest.Goals as goal

pub all_lines-returns-in-Err-clause-told : goal.all_lines-returns-in-Err-clause-told
all_lines-returns-in-Err-clause-told g t c =
    line_gave_up (g.F.Folder.files c.args.folder.now) (g.F.Folder.files c.loop-line.folder) c.args.left c.args.opened.now.items c.loop-line.opened.items c.args.name.now c.args.lines.now c.loop-line.line-index c.line-item.result
    c.args.entries.now.items c.loop-line.entries.items c.one_line.new.entries.items c.one_line.new.entries.items c.in-Err.refused
    c.loop-line.invariant.same c.loop-line.invariant.opened c.loop-line-test.true c.line-item.is c.loop-line.invariant.told c.in-Err.ensures.told

pub all_lines-loop-line-preserved : goal.all_lines-loop-line-preserved
all_lines-loop-line-preserved g t c = record {
  told = line_went_on (g.F.Folder.files c.args.folder.now) (g.F.Folder.files c.loop-line.folder) c.args.left c.args.opened.now.items c.loop-line.opened.items c.args.name.now c.args.lines.now c.loop-line.line-index c.line-item.result
      c.args.entries.now.items c.loop-line.entries.items c.one_line.new.entries.items
      c.loop-line.invariant.same c.loop-line.invariant.opened c.loop-line-test.true c.line-item.is c.loop-line.invariant.told c.in-Ok.ensures.told;
  opened = c.in-Ok.ensures.opened ∙ c.loop-line.invariant.opened;
  kept = here_too (λ files. AreQuiet files c.one_line.new.quiet.entries) (g.F.Folder.files c.loop-line.folder) (g.F.Folder.files c.args.folder.now) (sym c.loop-line.invariant.same) c.in-Ok.ensures.kept;
  same = c.in-Ok.ensures.same ∙ c.loop-line.invariant.same;
  cause = c.in-Ok.ensures.cause ∙ c.loop-line.invariant.cause;
  plain = λ h. c.in-Ok.ensures.plain (c.loop-line.invariant.plain h);
}

pub all_lines-returns-clause-told : goal.all_lines-returns-clause-told
all_lines-returns-clause-told g t c =
    lines_told (g.F.Folder.files c.args.folder.now) c.args.left c.args.opened.now.items c.args.name.now c.args.lines.now c.loop-line.line-index c.args.entries.now.items c.loop-line.entries.items
    c.loop-line-test.false c.loop-line.invariant.told

pub all_lines-returns-clause-plain : goal.all_lines-returns-clause-plain
all_lines-returns-clause-plain g t c = λ h. c.loop-line.invariant.plain h

pub manifest-returns-then-left-eq0-clause-told : goal.manifest-returns-then-left-eq0-clause-told
manifest-returns-then-left-eq0-clause-told g t c =
    if_some (λ (files : FileOf). Tells (Says files c.args.left c.args.opened.now.items c.args.name.now) c.args.entries.now.items (Err (refused.Fault (Deep c.in_ok-this.this))) c.args.entries.now.items) (g.F.Folder.files c.args.folder.now)
    (λ files. too_deep files c.args.left c.args.opened.now.items c.args.name.now c.in_ok-this.this c.args.entries.now.items c.args.entries.now.items c.if-left-eq0.true (c.in_ok-this.ensures ∙ c.as_bytes.ensures.value))

pub manifest-returns-in-Err-clause-told : goal.manifest-returns-in-Err-clause-told
manifest-returns-in-Err-clause-told g t c =
    if_some_both (λ (files : FileOf). LinesOf (files c.args.name.now) c.args.name.now (Err c.in-Err.refused))
    (λ (files : FileOf). Tells (Says files c.args.left c.args.opened.now.items c.args.name.now) c.args.entries.now.items (Err c.in-Err.refused) c.args.entries.now.items) (g.F.Folder.files c.args.folder.now) c.in-Err.ensures.lines
    (λ files r. unread files c.args.left c.args.opened.now.items c.args.name.now c.args.entries.now.items c.args.entries.now.items c.in-Err.refused (omega arith) r)

pub manifest-returns-in-Err-all_lines-clause-told : goal.manifest-returns-in-Err-all_lines-clause-told
manifest-returns-in-Err-all_lines-clause-told g t c =
    let those : c.deref.result.now ≡ c.in-Ok.lines.items = first_of (cc, search rules) in
    let is : c.in_ok-this.this ≡ c.args.name.now = c.in_ok-this.ensures ∙ c.as_bytes.ensures.value in
    whole_told (g.F.Folder.files c.args.folder.now) (g.F.Folder.files c.read_lines.new.folder) c.args.left c.args.opened.now.items c.push.new.self.items c.args.name.now c.in_ok-this.this c.in-Ok.lines c.deref.result.now
    c.args.entries.now.items c.all_lines.new.entries.items (Err c.in-Err-all_lines.refused) (omega arith) c.read_lines.ensures.same c.in_ok-push.ensures.items is those c.in-Ok.ensures.lines c.in-Err-all_lines.ensures.told

pub manifest-returns-clause-told : goal.manifest-returns-clause-told
manifest-returns-clause-told g t c =
    let those : c.deref.result.now ≡ c.in-Ok.lines.items = first_of (cc, search rules) in
    let is : c.in_ok-this.this ≡ c.args.name.now = c.in_ok-this.ensures ∙ c.as_bytes.ensures.value in
    whole_told (g.F.Folder.files c.args.folder.now) (g.F.Folder.files c.read_lines.new.folder) c.args.left c.args.opened.now.items c.push.new.self.items c.args.name.now c.in_ok-this.this c.in-Ok.lines c.deref.result.now
    c.args.entries.now.items c.all_lines.new.entries.items (Ok tt) (omega arith) c.read_lines.ensures.same c.in_ok-push.ensures.items is those c.in-Ok.ensures.lines c.in-Ok-all_lines.ensures.told

pub one_line-returns-in-Err-clause-told : goal.one_line-returns-in-Err-clause-told
one_line-returns-in-Err-clause-told g t c =
    let these : c.deref.result.now ≡ c.args.opened.now.items = first_of (cc, search rules) in
    if_some (λ (files : FileOf). Tells (LineSays files c.args.left c.args.opened.now.items c.args.name.now c.args.line.now) c.args.entries.now.items (Err c.in-Err.refused) c.follow.new.entries.items) (g.F.Folder.files c.args.folder.now)
    (λ files. refuses (Says files c.args.left c.args.opened.now.items) (line_saying c.args.opened.now.items c.args.name.now c.args.line.now) c.args.entries.now.items c.follow.new.entries.items c.follow.new.entries.items c.in-Err.refused
    (subst (λ (z : List (List ℕ)). Follows c.args.entries.now.items (line_saying z c.args.name.now c.args.line.now) (Err c.in-Err.refused) c.follow.new.entries.items) these c.in-Err.ensures.said))

-- ---- what is known of quiet manifests

pub all_lines-returns-clause-kept : goal.all_lines-returns-clause-kept
all_lines-returns-clause-kept g t c = c.loop-line.invariant.kept

pub manifest-returns-clause-kept : goal.manifest-returns-clause-kept
manifest-returns-clause-kept g t c =
    here_too (λ files. AreQuiet files c.all_lines.new.quiet.entries) (g.F.Folder.files c.read_lines.new.folder) (g.F.Folder.files c.args.folder.now) (sym c.read_lines.ensures.same) c.in-Ok-all_lines.ensures.kept

pub once-returns-then-is_known-clause-told : goal.once-returns-then-is_known-clause-told
once-returns-then-is_known-clause-told g t c =
    passed_over (g.F.Folder.files c.args.folder.now) c.args.left c.args.opened.now.items c.args.name.now c.args.entries.now.items c.args.quiet.now.entries c.is_known.result
    (λ files h e. subst (IsQuiet files c.args.left) c.as_bytes.ensures.value (c.is_known.ensures files h e)) c.if-is_known.true c.requires.1.1.1.1.0 c.requires.1.1.1.1.1

pub once-returns-clause-kept : goal.once-returns-clause-kept
once-returns-clause-kept g t c =
    kept_now (g.F.Folder.files c.args.folder.now) c.args.left c.args.opened.now.items c.args.name.now c.args.entries.now.items c.manifest.new.entries.items c.manifest.new.quiet.entries c.keep.new.quiet.entries
    (λ files h is. c.in_ok-keep.ensures files h (subst (IsQuiet files c.args.left) (sym c.as_bytes-2.ensures.value) is)) (omega arith) c.in-Ok.ensures.told c.in-Ok.ensures.kept

pub all_lines-one_line-requires : goal.all_lines-one_line-requires
all_lines-one_line-requires g t c κs within_lives = (
  omega arith,
  (
    within_lives,
    (
      omega arith,
      (
        here_too (λ files. AreQuiet files c.loop-line.quiet.entries) (g.F.Folder.files c.args.folder.now) (g.F.Folder.files c.loop-line.folder) c.loop-line.invariant.same c.loop-line.invariant.kept,
        line_leads (g.F.Folder.files c.args.folder.now) (g.F.Folder.files c.loop-line.folder) c.args.opened.now.items c.loop-line.opened.items c.args.name.now c.args.lines.now c.loop-line.line-index c.line-item.result
            c.loop-line.invariant.same c.loop-line.invariant.opened c.loop-line-test.true c.line-item.is c.requires.1.1.1.1.1,
      ),
    ),
  ),
)

pub manifest-all_lines-requires : goal.manifest-all_lines-requires
manifest-all_lines-requires g t c κs within_lives =
    let those : c.deref.result.now ≡ c.in-Ok.lines.items = first_of (cc, search rules) in (
      omega arith,
      (
        within_lives,
        (
          omega arith,
          (
            here_too (λ files. AreQuiet files c.args.quiet.now.entries) (g.F.Folder.files c.args.folder.now) (g.F.Folder.files c.read_lines.new.folder) c.read_lines.ensures.same c.requires.1.1.1.1.0,
            lines_lead (g.F.Folder.files c.args.folder.now) (g.F.Folder.files c.read_lines.new.folder) c.args.opened.now.items c.push.new.self.items c.args.name.now c.in_ok-this.this c.in-Ok.lines c.deref.result.now
                c.read_lines.ensures.same c.in_ok-push.ensures.items (c.in_ok-this.ensures ∙ c.as_bytes.ensures.value) those c.in-Ok.ensures.lines c.requires.1.1.1.1.1,
          ),
        ),
      ),
    )

pub one_line-once-requires : goal.one_line-once-requires
one_line-once-requires g t c κs within_lives =
    let these : c.deref.result.now ≡ c.args.opened.now.items = first_of (cc, search rules) in
    let some : c.in-Ok-Some.field-0 ≡ Some c.in-Ok-Some.inner = first_of (cc, search rules) in
    let said = subst (λ (z : Option (List ℕ)). Follows c.args.entries.now.items (line_saying c.deref.result.now c.args.name.now c.args.line.now) (Ok z) c.follow.new.entries.items) some c.in-Ok-Some.ensures.said in (
      omega arith,
      (
        within_lives,
        (
          omega arith,
          (
            c.requires.1.1.1.1.0,
            inner_leads (g.F.Folder.files c.args.folder.now) c.args.opened.now.items c.deref.result.now c.args.name.now c.args.line.now c.args.entries.now.items c.follow.new.entries.items c.in-Ok-Some.inner c.text_of.result.now
                these c.text_of.ensures said c.requires.1.1.1.1.1,
          ),
        ),
      ),
    )

-- ---- the manifest whose read failed

pub one_line-returns-in-Err-clause-reads : goal.one_line-returns-in-Err-clause-reads
one_line-returns-in-Err-clause-reads g t c =
    inside (λ other. IfSome (g.F.Folder.files c.args.folder.now) (λ (files : FileOf). AllInclude files c.args.opened.now.items other)) c.in-Err.refused c.in-Err.ensures.inside

pub one_line-returns-in-Ok-Some-clause-reads : goal.one_line-returns-in-Ok-Some-clause-reads
one_line-returns-in-Ok-Some-clause-reads g t c =
    let these : c.deref.result.now ≡ c.args.opened.now.items = first_of (cc, search rules) in
    let some : c.in-Ok-Some.field-0 ≡ Some c.in-Ok-Some.inner = first_of (cc, search rules) in
    let said = subst (λ (z : Option (List ℕ)). Follows c.args.entries.now.items (line_saying c.deref.result.now c.args.name.now c.args.line.now) (Ok z) c.follow.new.entries.items) some c.in-Ok-Some.ensures.said in
    line_read (g.F.Folder.files c.args.folder.now) c.args.opened.now.items c.args.opened.now.items c.text_of.result.now c.once.result refl
    (inner_leads (g.F.Folder.files c.args.folder.now) c.args.opened.now.items c.deref.result.now c.args.name.now c.args.line.now c.args.entries.now.items c.follow.new.entries.items c.in-Ok-Some.inner c.text_of.result.now
    these c.text_of.ensures said c.requires.1.1.1.1.1) c.once.ensures.reads

pub all_lines-returns-in-Err-clause-reads : goal.all_lines-returns-in-Err-clause-reads
all_lines-returns-in-Err-clause-reads g t c =
    lines_read (g.F.Folder.files c.args.folder.now) (g.F.Folder.files c.loop-line.folder) c.args.opened.now.items c.loop-line.opened.items c.in-Err.refused
    c.loop-line.invariant.same c.loop-line.invariant.opened c.in-Err.ensures.reads

pub manifest-returns-in-Err-clause-reads : goal.manifest-returns-in-Err-clause-reads
manifest-returns-in-Err-clause-reads g t c =
    itself_read (g.F.Folder.files c.args.folder.now) c.args.opened.now.items c.args.name.now c.in-Err.refused c.in-Err.ensures.reads

pub manifest-returns-in-Err-all_lines-clause-reads : goal.manifest-returns-in-Err-all_lines-clause-reads
manifest-returns-in-Err-all_lines-clause-reads g t c =
    behind_read (g.F.Folder.files c.args.folder.now) (g.F.Folder.files c.read_lines.new.folder) c.args.opened.now.items c.push.new.self.items c.args.name.now c.in_ok-this.this c.in-Err-all_lines.refused
    c.read_lines.ensures.same c.in_ok-push.ensures.items (c.in_ok-this.ensures ∙ c.as_bytes.ensures.value) c.in-Err-all_lines.ensures.reads
