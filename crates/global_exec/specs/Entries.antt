-- The map that the table keeps its attempts in.
use Rattle.std.specs.Prelude.{◌≡◌, ◌==◌, ◌&&◌, Bool, List}
use Rattle.mdb_base.specs.declared.names.Tid.{Tid}
use Rattle.mdb_base.specs.Words.{Each}
use Rattle.global_exec.specs.declared.entries.Name.{Name}
use Rattle.global_exec.specs.Live.{Live}

-- an attempt as a key
abbrev pub name_of : Tid → Name
name_of tid = record { tx = tid.tx.0; attempt = tid.attempt }

-- each attempt stands at its own name
abbrev pub AreNamed : List (Name × Live) → Type 0
AreNamed entries = Each (λ entry. entry.0 ≡ name_of entry.1.tid) entries

-- the same attempt
abbrev pub same_name : Name → Name → Bool
same_name a b = (a.tx == b.tx) && (a.attempt == b.attempt)
