-- The hash map that keeps the runs.
use Rattle.std.specs.Prelude.{◌==◌, ◌&&◌, Bool, List, map}
use Rattle.mdb_base.specs.declared.names.Tid.{Tid}
use Rattle.run_book.specs.declared.run_map.Name.{Name}
use Rattle.run_book.specs.Held.{Held}

-- an attempt as a key
abbrev pub name_of : Tid → Name
name_of tid = record { tx = tid.tx.0; attempt = tid.attempt }

-- the attempt of a key
abbrev pub tid_of : Name → Tid
tid_of name = record { tx = record { 0 = name.tx }; attempt = name.attempt }

-- the same attempt
abbrev pub same_name : Name → Name → Bool
same_name a b = (a.tx == b.tx) && (a.attempt == b.attempt)

-- the runs with their attempts
abbrev pub by_tid : List (Name × Held) → List (Tid × Held)
by_tid entries = map (λ entry. (tid_of entry.0, entry.1)) entries
