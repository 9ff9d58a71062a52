-- Lists of attempts in which each stands once.
use Rattle.std.specs.Prelude.{cond, List, [], ◌∷◌}
use Rattle.mdb_base.specs.declared.names.Tid.{Tid}
use Rattle.mdb_base.specs.Names.{same_tid}
use Rattle.mdb_base.specs.Words.{some_of}

-- these attempts and this one, which stands before them unless it is one of them
abbrev pub with_attempt : Tid → List Tid → List Tid
with_attempt tid tids = cond (some_of (same_tid tid) tids) tids (tid ∷ tids)

-- the attempts of the list, each once
abbrev pub each_attempt : List Tid → List Tid
each_attempt [] = []
each_attempt (tid ∷ tids) = with_attempt tid (each_attempt tids)
