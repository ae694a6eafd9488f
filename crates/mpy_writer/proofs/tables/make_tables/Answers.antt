use Rattle.std.proofs.Common.{◌≡◌, ◌∷◌, Result, Ok, map, ap, ◌∙◌}
use Rattle.std.specs.List.{flat_map}
use Rattle.mpy_tree.specs.qstr_pool.Pool.{Texts}
use Rattle.mpy_base.specs.declared.refused.NoMemory.{NoMemory}
use Rattle.mpy_writer.specs.Outcome.{no_texts}
use Rattle.mpy_writer.specs.Codes.{texts_in, objects_in}
use Rattle.mpy_writer.specs.Tables.{spelled}
use Rattle.mpy_writer.proofs.Uses.{first_kept}
use Rattle.mpy_writer.proofs.tables.make_tables.Goals as goal

kept : (t : Texts) → ◌≡◌ {A = Result Texts NoMemory} (Ok t) (Ok no_texts) → t.first ≡ 0
kept t e = let same : t ≡ no_texts = cc in ap (λ (z : Texts). z.first) same

pub returns-clause-fit : goal.returns-clause-fit
returns-clause-fit c =
    let codes = map (λ x. x.now) c.args.codes.now in
    record {
      texts = record {
        first = ap (λ (t : Texts). t.first) c.in_ok-use_all_texts.ensures.ok ∙ (first_kept c.in_ok-texts.texts (c.args.source.now ∷ flat_map texts_in codes) ∙ kept c.in_ok-texts.texts c.in_ok-texts.ensures);
        few = c.pool_law.ensures.is_pool.few;
      };
      objects = record {
        first = ap (λ (t : Texts). t.first) c.in_ok-use_all_objects.ensures.ok ∙ (first_kept c.in_ok-objects.objects (map spelled (flat_map objects_in codes)) ∙ kept c.in_ok-objects.objects c.in_ok-objects.ensures);
        few = c.pool_law-2.ensures.is_pool.few;
      };
    }
