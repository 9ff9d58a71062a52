-- The first numbers and sites of 1.
use Rattle.std.specs.Prelude.{◌≡◌, [], ◌∷◌}
use Rattle.mdb_base.specs.declared.names.Engine.TheVariants.{Locking, Validation}
use Rattle.presumptions.specs.declared.Protocol.TheVariants.{Nothing}
use Rattle.scenario_maker.specs.Draws.{behind}
use Rattle.scenario_maker.specs.Made.{made_sites}

-- the number behind 1
abbrev pub FirstNumbers : Type 0
FirstNumbers = behind 1 ≡ 7806831264735756412

-- the first two sites
abbrev pub FirstSites : Type 0
FirstSites =
    made_sites 2 1
    ≡ record { site = record { 0 = 1 }; engine = Validation; protocol = Nothing } ∷ record { site = record { 0 = 2 }; engine = Locking; protocol = Nothing } ∷ []
