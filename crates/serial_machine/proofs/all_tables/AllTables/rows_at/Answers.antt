use Rattle.std.proofs.Common.{◌≡◌, ◌++◌, sym, ap, ◌∙◌}
use Rattle.std.proofs.lemmas.List.{append-nil}
use Rattle.mdb_base.specs.Rows.{value_in}
use Rattle.serial_machine.specs.AllTables.{rows_from}
use Rattle.serial_machine.proofs.SiteRows.{value_in-rows_from, rows_from-HaveOwnKeys}
use Rattle.serial_machine.proofs.all_tables.AllTables.rows_at.Goals as goal

rows_are : (c : goal.In-None) → c.loop-place.rows.items ≡ rows_from c.args.site c.args.self.now.values.entries
rows_are c =
    sym (append-nil c.loop-place.rows.items) ∙ ap (λ left. c.loop-place.rows.items ++ rows_from c.args.site left) (sym c.in-None.ensures.steps.0) ∙ c.loop-place.invariant

pub returns-clause-values : goal.returns-clause-values
returns-clause-values c key = ap (λ rows. value_in rows key) (rows_are c) ∙ value_in-rows_from c.args.site c.args.self.now.values.entries key

pub returns-clause-keys : goal.returns-clause-keys
returns-clause-keys c = rw (rows_are c) (rows_from-HaveOwnKeys c.args.site c.args.self.now.values.entries c.len.ensures.unique)
