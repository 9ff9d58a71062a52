-- A site whose Checkpoint would have 65,536 bytes answers `large` and writes nothing; at 65,535 bytes it writes it. The site has as many first
-- rows as it may, and 81 local commits behind them, of 30 new rows each but for the last. The past has the lines alone that write.
use Rattle.std.proofs.Common.{◌≡◌, ℕ, zero, suc, ◌+◌, ◌*◌, ◌-◌, List, [], ◌∷◌, length, refl}
use Rattle.mdb_base.specs.declared.names.Engine.TheVariants.{Locking}
use Rattle.mdb_base.specs.declared.rows.Put.{Put}
use Rattle.presumptions.specs.declared.Protocol.TheVariants as By
use Rattle.fed_rules.specs.declared.answers.Answer.TheVariants as Say
use Rattle.fed_rules.specs.declared.events.SiteEvent.TheVariants as Ev
use Rattle.fed_rules.specs.declared.messages.ToSite.TheVariants as To
use Rattle.fed_rules.specs.declared.records.SiteRecord.TheVariants as Rec
use Rattle.fed_rules.specs.Disk.{Append, Sync}
use Rattle.fed_rules.specs.Happenings.{quiet}
use Rattle.fed_rules.specs.Plans.{most_items}
use Rattle.fed_rules.specs.Site.{checkpoint, site_line}
use Rattle.fed_rules.specs.SitePast.{SiteHappening, SitePast}
use Rattle.fed_rules.specs.SiteRecords.{Home, site_payload}
use Rattle.fed_rules.proofs.Opened.{opened}
use Rattle.fed_rules.proofs.Spelled.{at, tid, entry}

-- so many rows from this key on
rows_from : ℕ → ℕ → List Put
rows_from zero k = []
rows_from (suc n) k = entry k 1 ∷ rows_from n (k + 1)

home : Home
home = record { site = at 1; engine = Locking; protocol = By.Nothing; items = rows_from most_items 5000 }

-- the line of a local commit
local_line : ℕ → List Put → SiteHappening
local_line n writes =
    record {
      event = Ev.Commit (tid n 0);
      answer = Say.Sealed (tid n 0) n;
      sends = [];
      calls = Append (Rec.Local (tid n 0) n writes) ∷ Sync ∷ [];
      lines = [];
    }

-- the line of a yes vote with two writes
prepared_line : ℕ → ℕ → SiteHappening
prepared_line n ticket =
    record {
      event = Ev.Give (To.Prepare (tid n 0) 1 3);
      answer = Say.VotesYes (tid n 0) ticket;
      sends = [];
      calls = Append (Rec.Prepared (tid n 0) 1 n ticket (rows_from 2 (2 * n))) ∷ Sync ∷ [];
      lines = [];
    }

-- so many local commits of 30 new rows each
locals : ℕ → SitePast
locals zero = []
locals (suc n) = local_line (suc n) (rows_from 30 (3000 - 30 * n)) ∷ locals n

too_long : SitePast
too_long = local_line 81 (rows_from 14 400) ∷ locals 80

its_bytes : site_payload (checkpoint home too_long) ≡ 65536
unfolding home too_long locals local_line rows_from
its_bytes = refl

nothing_is_written : site_line home too_long Ev.Check ≡ quiet Ev.Check Say.Large
unfolding opened home too_long locals local_line rows_from
nothing_is_written = refl

-- with two writes in doubt of two attempts each, and ten rows fewer
longest_one : SitePast
longest_one = prepared_line 83 2 ∷ prepared_line 82 1 ∷ local_line 81 (rows_from 4 400) ∷ locals 80

its_length : site_payload (checkpoint home longest_one) ≡ 65535
unfolding home longest_one locals local_line prepared_line rows_from
its_length = refl

it_is_written : (site_line home longest_one Ev.Check).answer ≡ Say.Checked
unfolding opened home longest_one locals local_line prepared_line rows_from
it_is_written = refl

its_calls : length (site_line home longest_one Ev.Check).calls ≡ 3
unfolding opened home longest_one locals local_line prepared_line rows_from
its_calls = refl
