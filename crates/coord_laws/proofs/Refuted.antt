-- An attempt that is given up is begun again, where the `go` repeats its number.
use Rattle.std.proofs.Common.{◌≡◌, inl, List, [], ◌∷◌, refl, subst}
use Rattle.mdb_base.specs.declared.acts.Step.{Step}
use Rattle.mdb_base.specs.declared.acts.Act.TheVariants as Act_is
use Rattle.mdb_base.specs.declared.names.Tid.{Tid}
use Rattle.order_laws.specs.Chains.{Distinct}
use Rattle.presumptions.specs.declared.Participant.{Participant}
use Rattle.presumptions.specs.declared.Protocol.TheVariants as By
use Rattle.fed_rules.specs.declared.events.CoordEvent.{CoordEvent}
use Rattle.fed_rules.specs.declared.events.CoordEvent.TheVariants as Ev
use Rattle.fed_rules.specs.Coord.{coord_past}
use Rattle.fed_rules.specs.CoordPast.{begun_tids}
use Rattle.fed_rules.specs.Policies.{always}
use Rattle.fed_rules.proofs.ForCallers.{opened}
use Rattle.coord_laws.specs.WrongPasts.{BeginsTwice}

abbrev first : Tid
first = record { tx = record { 0 = 1 }; attempt = 0 }

abbrev program : List Step
program = record { site = record { 0 = 1 }; act = Act_is.Get (record { 0 = 1 }) } ∷ []

abbrev members : List Participant
members = record { site = record { 0 = 1 }; protocol = By.Nothing } ∷ []

-- it begins, is given up, and begins once more
abbrev twice_gone : List CoordEvent
twice_gone = Ev.Go first program ∷ Ev.Late first ∷ Ev.Go first program ∷ []

both_begun : begun_tids (coord_past members always twice_gone) ≡ first ∷ first ∷ []
unfolding opened
both_begun = refl

pub begins_twice : BeginsTwice
begins_twice = record {
  protocols = members;
  policy = always;
  events = twice_gone;
  twice = λ once. (let differ = subst Distinct both_begun once in differ.0 (inl refl));
}
