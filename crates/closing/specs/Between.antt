-- The disks that a call had while it went on.
use Rattle.std.specs.Prelude.{◌≡◌, List, map}
use Rattle.journal_disk.specs.Disk.{Seen}
use Rattle.fed_world.specs.Faults.{faults_of}

-- the call had disks of which this is seen, and no count of faults had risen on them since its beginning. They are disks of the type that was handed in,
-- and not what is seen alone: of a type of which nothing else is known, none come but from its own calls
pub record WereCalm {D : Type 0} (seen : D → Seen) (old between : List Seen) : Type 0 where
  pub disks : List D
  pub are : map seen disks ≡ between
  pub calm : faults_of between ≡ faults_of old
