-- Disks that are usable each: on the site's a local transaction 1 is committed, and on the coordinator's an attempt of a transaction is begun that visits the
-- site. The session that goes on from them tells the site of the abort, which holds nothing of it. Where the transaction is 1 too, the disks contradict each
-- other, and no session leaves them.
use Rattle.std.specs.Prelude.{ℕ, Some, List, [], ◌∷◌}
use Rattle.mdb_base.specs.declared.names.Engine.TheVariants.{Locking}
use Rattle.mdb_base.specs.declared.names.Tid.{Tid}
use Rattle.presumptions.specs.declared.Protocol.TheVariants as By
use Rattle.fed_rules.specs.declared.answers.Answer.TheVariants as Say
use Rattle.fed_rules.specs.declared.commands.Command.TheVariants as Cmd
use Rattle.fed_rules.specs.declared.commands.Line.{Line}
use Rattle.fed_rules.specs.declared.records.CoordRecord.{CoordRecord}
use Rattle.fed_rules.specs.declared.records.CoordRecord.TheVariants as Coord_rec
use Rattle.fed_rules.specs.declared.records.SiteRecord.{SiteRecord}
use Rattle.fed_rules.specs.declared.records.SiteRecord.TheVariants as Rec
use Rattle.fed_rules.specs.Found.{Found, Journal}

-- the first attempt of the transaction
abbrev pub first_try : ℕ → Tid
first_try tx = record { tx = record { 0 = tx }; attempt = 0 }

abbrev pub begun : ℕ → Journal CoordRecord
begun tx =
    record { records = Coord_rec.Initiation (first_try tx) (record { site = record { 0 = 1 }; protocol = By.Nothing } ∷ []) ∷ []; torn = 0 }

abbrev pub one_local : Journal SiteRecord
one_local =
    record {
      records = Rec.Local (first_try 1) 2 (record { key = record { 0 = 5 }; value = 7 } ∷ []) ∷ Rec.Start 1 ∷ Rec.Setup (record { 0 = 1 }) Locking By.Nothing [] ∷ [];
      torn = 0;
    }

-- the disks where this transaction is begun
abbrev pub two_disks : ℕ → Found
two_disks tx = record { coordinator = Some (begun tx); sites = one_local ∷ [] }

-- the lines of the session, the first one first
abbrev pub worked_lines : ℕ → List Line
worked_lines tx =
    record { command = Cmd.Back 0; answer = Say.UpCoord 1; sends = [] }
    ∷ record { command = Cmd.Back 1; answer = Say.UpSite 2 0; sends = [] }
    ∷ record { command = Cmd.Again (first_try tx); answer = Say.Only; sends = record { site = record { 0 = 1 }; place = 0 } ∷ [] }
    ∷ record { command = Cmd.Give (record { 0 = 1 }) 0; answer = Say.Unheld (first_try tx); sends = record { site = record { 0 = 1 }; place = 0 } ∷ [] }
    ∷ record { command = Cmd.Take (record { 0 = 1 }) 0; answer = Say.Forgets; sends = [] }
    ∷ []
