-- What is said of each unended run of a site, and of each two of them.
use Rattle.std.specs.Prelude.{◌≡◌, Bool, false, Some, List}
use Rattle.mdb_base.specs.declared.names.Key.{Key}
use Rattle.mdb_base.specs.declared.names.Tid.{Tid}
use Rattle.mdb_base.specs.Names.{same_tid}
use Rattle.mdb_base.specs.Words.{Each, some_of}
use Rattle.fed_rules.specs.Runs.{Start, EngineLine, Access, Run, run_at}
use Rattle.fed_rules.specs.Replies.{access_key, writes}

-- the fact holds of each unended run
abbrev pub EachRun : Start → List EngineLine → (Run → Type 0) → Type 0
EachRun start lines P = (tid : Tid) (run : Run) → run_at start lines tid ≡ Some run → P run

-- the fact holds of each unended run and each other one
abbrev pub EachPair : Start → List EngineLine → (Run → Run → Type 0) → Type 0
EachPair start lines Q =
    (t u : Tid) (a b : Run) → same_tid t u ≡ false → run_at start lines t ≡ Some a → run_at start lines u ≡ Some b → Q a b

-- whether one of the accesses writes the key
abbrev pub has_write : Key → List Access → Bool
has_write key acts = some_of (writes key) acts

-- the second accesses neither read nor write a key that the first ones write
abbrev pub IsClear : (first second : List Access) → Type 0
IsClear first second = Each (λ access. has_write (access_key access) first ≡ false) second
