-- A session goes on from the journal of one site, in which a local transaction is committed; and from one that a Checkpoint begins.
use Rattle.std.proofs.Common.{◌≡◌, ℕ, ◌⊎◌, inl, inr, None, Some, List, [], ◌∷◌, reverse, refl, arith}
use Rattle.mdb_base.specs.declared.names.Engine.TheVariants.{Locking}
use Rattle.presumptions.specs.declared.Decision.TheVariants as Decided
use Rattle.presumptions.specs.declared.Protocol.TheVariants as By
use Rattle.fed_rules.specs.declared.answers.Answer.TheVariants as Say
use Rattle.fed_rules.specs.declared.commands.Line.{Line}
use Rattle.fed_rules.specs.declared.records.SiteRecord.{SiteRecord}
use Rattle.fed_rules.specs.declared.records.SiteRecord.TheVariants as Rec
use Rattle.fed_rules.specs.declared.sums.SiteSum.{SiteSum}
use Rattle.fed_rules.specs.Disk.{held_bytes}
use Rattle.fed_rules.specs.Found.{Found, Journal}
use Rattle.fed_rules.specs.Reopened.{home_by, opened_site}
use Rattle.fed_rules.specs.Resumed.{rest_of, resumed, resumed_lines}
use Rattle.fed_rules.specs.SitePast.{disk, journal, records}
use Rattle.fed_rules.specs.SiteRecords.{Home}
use Rattle.fed_rules.specs.SiteSums.{site_sum}
use Rattle.fed_rules.specs.Usable.{IsUsableSite}
use Rattle.fed_rules.proofs.Opened.{opened}
use Rattle.fed_rules.proofs.Spelled.{at, key, tid, entry, back, ask, take, give, place, line, ended, table}

abbrev one_journal : Journal SiteRecord → Found
one_journal found = record { coordinator = Some (record { records = []; torn = 0 }); sites = found ∷ [] }

abbrev local_commit : Journal SiteRecord
local_commit =
    record {
      records = Rec.Local (tid 1 0) 2 (entry 5 7 ∷ []) ∷ Rec.Start 1 ∷ Rec.Setup (at 1) Locking By.Nothing [] ∷ [];
      torn = 0;
    }

lines_are_right : resumed_lines (one_journal local_commit) ≡ reverse (line (back 0) (Say.UpCoord 0) [] ∷ line (back 1) (Say.UpSite 2 0) [] ∷ [])
unfolding opened
lines_are_right = refl

rest_is_right : rest_of (one_journal local_commit) (resumed (one_journal local_commit)) ≡ record { outcomes = []; forgotten = []; tables = table 1 (entry 5 7 ∷ []) ∷ [] }
unfolding opened
rest_is_right = refl

-- a Checkpoint with a committed local transaction, one in doubt, and the owner of the published ticket, which ended
abbrev sum : SiteSum
sum =
    record {
      site = at 1;
      engine = Locking;
      protocol = By.Nothing;
      epoch = 3;
      counter = 9;
      published = 5;
      owner = Some (tid 4 0);
      rows = entry 5 7 ∷ [];
      locals = tid 1 0 ∷ [];
      doubtful = record { tid = tid 3 2; epoch = 2; number = 6; ticket = 4; writes = entry 8 1 ∷ [] } ∷ [];
    }

abbrev checkpoint : Journal SiteRecord
checkpoint = record { records = Rec.Local (tid 2 0) 12 (entry 6 2 ∷ []) ∷ Rec.Start 4 ∷ Rec.Checkpoint sum ∷ []; torn = 3 }

abbrev home : Home
home = record { site = at 1; engine = Locking; protocol = By.Nothing; items = entry 5 7 ∷ [] }

-- the Checkpoint is read as what it sums
checkpoint_is_its_sum : site_sum home (records home (opened_site (record { records = Rec.Checkpoint sum ∷ []; torn = 0 }))) ≡ sum
checkpoint_is_its_sum = refl

-- the journal that is found stands on the disk, torn rest and all
journal_stands : journal home (opened_site checkpoint) ≡ checkpoint.records
journal_stands = refl

-- the frames of the journal, of 124, 41 and 62 bytes, and three more
bytes_stand : held_bytes (disk home (opened_site checkpoint)) ≡ 230
bytes_stand = refl

checkpoint_goes_on : resumed_lines (one_journal checkpoint) ≡ reverse (
    line (back 0) (Say.UpCoord 0) []
    ∷ line (back 1) (Say.UpSite 5 1) []
    ∷ line (ask 1 (tid 3 2)) (Say.Asks (tid 3 2)) (place 1 0 ∷ [])
    ∷ line (take 1 0) (Say.Presumes Decided.Abort) (place 1 0 ∷ [])
    ∷ line (give 1 0) (Say.Settles (tid 3 2) Decided.Abort) (place 1 1 ∷ [])
    ∷ []
    )
unfolding opened
checkpoint_goes_on = refl

its_rest : rest_of (one_journal checkpoint) (resumed (one_journal checkpoint)) ≡ record {
  outcomes = ended (tid 3 2) Decided.Abort ∷ ended (tid 4 0) Decided.Abort ∷ [];
  forgotten = tid 3 2 ∷ tid 4 0 ∷ [];
  tables = table 1 (entry 5 7 ∷ entry 6 2 ∷ []) ∷ [];
}
unfolding opened
its_rest = refl

-- the disk is usable as that of site 1, and foreign as that of site 2
is_usable : IsUsableSite 1 local_commit.records
is_usable = record {
  below = ((omega arith, omega arith), (omega arith, (tt, tt)));
  within = (tt, (tt, (tt, tt)));
  first = refl;
  set_up = tt;
  sums = tt;
  epochs = (omega arith, tt);
  once = (one, tt);
  numbers_differ = ((λ i. i), tt);
  tickets_rise = tt;
  parted = λ tx l g. elim g [ inl e ↦ absurd e | inr e ↦ elim e [ inl f ↦ absurd f | inr f ↦ elim f [ inl h ↦ absurd h | inr h ↦ absurd h ] ] ];
  doubts_apart = ((λ a b i j n. absurd i), ((λ a b i j n. absurd i), ((λ a b i j n. absurd i), (λ a b i j n. absurd i))));
  clear = (tt, (tt, (tt, tt)));
  on_top = (tt, tt);
  sums_of_some = (tt, (tt, (tt, tt)));
}
  where
    one : ⊥ ⊎ (⊥ ⊎ ⊥) → ⊥
    one (inl e) = e
    one (inr (inl e)) = e
    one (inr (inr e)) = e

is_foreign : IsUsableSite 2 local_commit.records → ⊥
is_foreign usable = let no : 1 ≡ 2 = usable.first in absurd (omega (arith, no))

-- no site's disk whose first record is a Checkpoint of epoch 0 is usable
epoch_is_some : (number : ℕ) (sum : SiteSum) → sum.epoch ≡ 0 → IsUsableSite number (Rec.Checkpoint sum ∷ []) → ⊥
epoch_is_some number sum none usable = let some = usable.epochs.0 in absurd (omega (arith, some, none))
