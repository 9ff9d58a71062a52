use Rattle.std.proofs.Common.{◌≡◌, ◌++◌, map, sym, ap, ◌∙◌}
use Rattle.std.proofs.lemmas.List.{append-nil}
use Rattle.site_tables.specs.Tables.{put_of}
use Rattle.site_tables.proofs.AllRows.{value_in-rows, HaveOwnKeys-rows}
use Rattle.site_tables.proofs.versions.all_rows.Goals as goal

rows_are : (c : goal.In-None) → c.loop-key.rows.items ≡ map put_of c.args.versions.now.entries
rows_are c =
    sym (append-nil c.loop-key.rows.items) ∙ ap (λ left. c.loop-key.rows.items ++ map put_of left) (sym c.in-None.ensures.steps.0) ∙ c.loop-key.invariant

pub returns-clause-rows : goal.returns-clause-rows
returns-clause-rows c key = value_in-rows _ _ (rows_are c) key

pub returns-clause-keys : goal.returns-clause-keys
returns-clause-keys c = HaveOwnKeys-rows _ _ (rows_are c) c.len.ensures.unique
