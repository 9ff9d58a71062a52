use Rattle.std.proofs.Common.{◌≡◌, ◌++◌, map}
use Rattle.site_tables.specs.Tables.{put_of}
use Rattle.site_tables.proofs.versions.all_rows.Given as goal

abbrev pub invariant-loop-key : goal.invariant-loop-key
invariant-loop-key l = l.rows.items ++ map put_of l.key-iterator ≡ map put_of l.versions.entries
