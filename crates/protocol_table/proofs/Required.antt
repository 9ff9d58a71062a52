-- Nothing is required of an attempt exactly where it has no Initiation, or no member's protocol acknowledges the decision.
use Rattle.std.proofs.Common.{◌≡◌, Bool, true, false, cond, not, ◌||◌, List, [], ◌∷◌, map, refl}
use Rattle.mdb_base.specs.Words.{some_of}
use Rattle.presumptions.specs.declared.Decision.{Decision}
use Rattle.presumptions.specs.Table.{acks}
use Rattle.fed_rules.specs.CoordRecords.{acking, is_nobody}
use Rattle.protocol_table.specs.declared.members.Member.{Member}
use Rattle.protocol_table.specs.Attempts.{member_acks, participant_of}

pub nobody_acks : (decision : Decision) (members : List Member) → is_nobody (acking decision (map participant_of members)) ≡ not (some_of (member_acks decision) members)
nobody_acks decision [] = refl
nobody_acks decision (m ∷ ms) = by_test (acks m.protocol decision) (nobody_acks decision ms)
  where
    by_test : (b : Bool) → is_nobody (acking decision (map participant_of ms)) ≡ not (some_of (member_acks decision) ms) → is_nobody (cond b (participant_of m ∷ acking decision (map participant_of ms)) (acking decision (map participant_of ms))) ≡ not (b || some_of (member_acks decision) ms)
    by_test true rest = refl
    by_test false rest = rest
