-- The hash map that keeps the attempts.
use Rattle.std.specs.Prelude.{◌==◌, ◌&&◌, Bool, List, map}
use Rattle.std.specs.FinMap.{from_entries}
use Rattle.mdb_base.specs.declared.names.Tid.{Tid}
use Rattle.site_book.specs.declared.attempt_map.Name.{Name}
use Rattle.site_book.specs.declared.progress.Progress.{Progress}
use Rattle.site_book.specs.Book.{Attempts}

-- an attempt as a key
abbrev pub name_of : Tid → Name
name_of tid = record { tx = tid.tx.0; attempt = tid.attempt }

-- the attempt of a key
abbrev pub tid_of : Name → Tid
tid_of name = record { tx = record { 0 = name.tx }; attempt = name.attempt }

-- the same attempt
abbrev pub same_name : Name → Name → Bool
same_name a b = (a.tx == b.tx) && (a.attempt == b.attempt)

-- the entries with their attempts
abbrev pub by_tid : List (Name × Progress) → List (Tid × Progress)
by_tid entries = map (λ entry. (tid_of entry.0, entry.1)) entries

-- how far each attempt is
abbrev pub kept_in : List (Name × Progress) → Attempts
kept_in entries = from_entries (by_tid entries)
