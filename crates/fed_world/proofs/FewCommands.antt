-- A world that stands for few commands has room for one more. For callers.
use Rattle.std.proofs.Common.{◌≡◌, ℕ, zero, suc, ◌+◌, ◌≤◌, Result, Ok, Err, OnOk, List, [], ◌∷◌, map, sym, ◌∙◌, ap, arith}
use Rattle.mdb_base.specs.Words.{Each}
use Rattle.fed_rules.specs.declared.commands.Command.{Command}
use Rattle.fed_rules.specs.declared.scenario.Scenario.{Scenario}
use Rattle.fed_rules.specs.Sessions.{Session, fresh}
use Rattle.journal_disk.specs.declared.mem_disk.MemDisk.{MemDisk}
use Rattle.journal_disk.specs.Disk.{Seen}
use Rattle.journal_disk.specs.MemDisk.{mem_size}
use Rattle.site_core.specs.Sessions.{mem_seen}
use Rattle.fed_world.specs.FewCommands.{IsWithin}
use Rattle.fed_world.specs.SettingUp.{AreEmpty}
use Rattle.fed_world.specs.Worlds.{EachStory, HasRoom, SomeStory}

-- so many commands leave room for one more
pub has_room : (K : Session → List Command → Type 0) (n : ℕ) → n ≤ 1000 → SomeStory (λ (scenario : Scenario). K (fresh scenario)) (IsWithin n) → SomeStory K HasRoom
has_room K n few s = record { session = fresh s.session; commands = s.commands; stood = s.stood; holds = let h = s.holds in omega (arith, h, few) }

-- one command more
pub one_more : {E : Type 0} {T : Type 0} (K L : Session → List Command → Type 0) (n : ℕ) (command : Command) (r : Result T E) → n ≤ 1000
    → SomeStory (λ (scenario : Scenario). K (fresh scenario)) (IsWithin n)
    → OnOk r (EachStory K (λ session commands. HasRoom session commands → L session (command ∷ commands))) → OnOk r (SomeStory (λ (scenario : Scenario). L (fresh scenario)) (IsWithin (n + 1)))
one_more K L n command (Ok x) few s f =
    record { session = s.session; commands = command ∷ s.commands; stood = f (fresh s.session) s.commands s.stood (let h = s.holds in omega (arith, h, few)); holds = let h = s.holds in omega (arith, h) }
one_more K L n command (Err e) few s f = tt

-- where so many suffice, more do
pub within : (K : Scenario → List Command → Type 0) (n m : ℕ) → n ≤ m → SomeStory K (IsWithin n) → SomeStory K (IsWithin m)
within K n m le s = record { session = s.session; commands = s.commands; stood = s.stood; holds = let h = s.holds in omega (arith, h, le) }

-- disks with nothing on them are seen so
pub are_empty : (disks : List MemDisk) → Each (λ disk. mem_size disk ≡ 0) disks → AreEmpty (map mem_seen disks)
are_empty [] h place disk e = cc
are_empty (d ∷ disks) h zero disk e = let same : mem_seen d ≡ disk = cc in sym (ap (λ (s : Seen). s.size) same) ∙ h.0
are_empty (d ∷ disks) h (suc place) disk e = are_empty disks h.1 place disk e
