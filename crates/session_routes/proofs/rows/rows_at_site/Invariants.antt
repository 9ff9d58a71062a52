use Rattle.std.proofs.Common.{◌≡◌, ◌++◌, drop}
use Rattle.session_routes.specs.Rows.{rows_at}
use Rattle.session_routes.proofs.rows.rows_at_site.Given as goal

-- the rows so far stand before those that are left
abbrev pub invariant-loop-item : goal.invariant-loop-item
invariant-loop-item l = l.rows.items ++ rows_at (drop l.item-index l.items) l.site ≡ rows_at l.items l.site
