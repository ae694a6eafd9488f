use Rattle.std.proofs.Common.{◌∙◌, ap, subst, Some, ℕ, suc, ◌<◌}
use Rattle.bc_prelude.specs.Lines as tables
use Rattle.frame_moves.specs.bc_labels.Positions.{position_in}
use Rattle.frame_moves.specs.bc_machine.Library.{Line, Item}
use Rattle.vm_fetching.proofs.fetching.fetch.Goals as goal

pub read_at-instr-requires-clause-short : goal.read_at-instr-requires-clause-short
read_at-instr-requires-clause-short c = c.requires.row.is_row.is_row.short

pub shown-requires-clause-reads : goal.shown-requires-clause-reads
shown-requires-clause-reads c = let s = c.requires.starts in (s.0, s.1, s.2, c.read_at-instr.ensures.reads s.0 s.1 s.2)

pub returns : goal.returns
returns c names m code l of there runs listed st =
    let r = c.read_at-instr.ensures.reads l listed st in
    let s = c.shown.ensures names m l of there listed st r in
    record {
      line = runs.line l c.args.offset c.read_at-instr.result.0 c.read_at-instr.result.1 listed st r
          ∙ ap (λ (z : Item). let line : Line = record { item = z; line = tables.line_of c.args.row.now.line_table.now c.args.offset } in Some line) s.item_is;
      next = c.read_at-instr.ensures.next l listed st;
      begins = λ lt. (r.next (subst (λ (n : ℕ). suc (position_in l.offsets c.args.offset) < n) (runs.as_many l listed) lt)).0;
      target = s.target;
      local = s.local;
      text = s.text;
      constant = s.constant;
    }
