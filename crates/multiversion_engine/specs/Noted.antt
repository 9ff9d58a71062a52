-- The versions that runs are about to supersede, as a book's table has them.
use Rattle.std.specs.Prelude.{List, [], ◌∷◌}
use Rattle.std.specs.FinMap.{insert}
use Rattle.mdb_base.specs.declared.names.Key.{Key}
use Rattle.mdb_base.specs.declared.rows.Put.{Put}
use Rattle.fed_rules.specs.declared.runs.Kept.{Kept}
use Rattle.run_book.specs.Book.{Book, table_in, number_in}
use Rattle.multiversion_engine.specs.OldVersions.{Olds, place_of}

-- the old versions with the newest one of a key
abbrev pub with_newest : Book → Key → Olds → Olds
with_newest book key olds = insert olds (place_of key (number_in book key)) (table_in book key)

-- with those of the keys of these rows
abbrev pub with_rows : Book → List Put → Olds → Olds
with_rows book [] olds = olds
with_rows book (row ∷ rows) olds = with_rows book rows (with_newest book row.key olds)

-- and with those of the keys that the transactions in doubt wrote
abbrev pub with_written : Book → List Kept → Olds → Olds
with_written book [] olds = olds
with_written book (kept ∷ more) olds = with_written book more (with_rows book kept.writes olds)
