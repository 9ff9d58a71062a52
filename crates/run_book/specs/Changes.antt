-- A change of one run in a list of entries.
use Rattle.std.specs.Prelude.{cond, List, [], ◌∷◌}
use Rattle.std.specs.Ordering.{is_eq}
use Rattle.mdb_base.specs.declared.names.Tid.{Tid}
use Rattle.run_book.specs.Held.{Held}
use Rattle.mdb_base.specs.Names.{tid_cmp}

-- the entries with this done to the first run of the attempt
abbrev pub changed_entries : Tid → (Held → Held) → List (Tid × Held) → List (Tid × Held)
changed_entries tid change [] = []
changed_entries tid change (entry ∷ more) = cond (is_eq (tid_cmp tid entry.0)) ((entry.0, change entry.1) ∷ more) (entry ∷ changed_entries tid change more)
