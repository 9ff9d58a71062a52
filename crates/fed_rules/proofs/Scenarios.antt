-- What a scenario declares.
use Rattle.std.proofs.Common.{List, ◌≡◌, Bool, true, false, Option, Some, None, refl}
use Rattle.mdb_base.specs.Rising.{IsRising}
use Rattle.presumptions.specs.declared.Participant.{Participant}
use Rattle.presumptions.specs.declared.Decision.{Decision}
use Rattle.fed_rules.specs.CoordPast.{Undecided, standing_of}

abbrev pub MembersRise : List Participant → Type 0
MembersRise members = IsRising (λ (m : Participant). m.site.0) members

pub undecided_open : (opened : Bool) (decision : Option Decision) → standing_of opened decision ≡ Undecided → opened ≡ true
undecided_open true decision e = refl
undecided_open false (Some decision) e = cc
undecided_open false None e = cc
