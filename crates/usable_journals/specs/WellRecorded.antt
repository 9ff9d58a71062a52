-- What a usable journal of a site keeps besides the order of those in doubt, of what is committed, and of its Checkpoints' sums: of IsUsableSite's
-- fields all but doubts_apart, clear, on_top and sums.
use Rattle.std.specs.Prelude.{ℕ, List}
use Rattle.mdb_base.specs.Words.{Each}
use Rattle.order_laws.specs.Chains.{Distinct}
use Rattle.fed_rules.specs.declared.records.SiteRecord.{SiteRecord}
use Rattle.fed_rules.specs.Reopened.{first_of}
use Rattle.fed_rules.specs.Usable.{AreParted, AreSumsOfSome, AreWithin, EpochsRise, IsBelow, IsOfSite, OnceEach, SetUpFirst, TicketsRise, counted, home_of_first, numbers}

pub record IsWellRecorded (number : ℕ) (journal : List SiteRecord) : Type 0 where
  pub below : Each IsBelow journal
  pub within : Each AreWithin journal
  pub first : IsOfSite number (home_of_first (first_of journal))
  pub set_up : SetUpFirst journal
  pub epochs : EpochsRise journal
  pub once : OnceEach (counted journal)
  pub numbers_differ : Distinct (numbers journal)
  pub tickets_rise : TicketsRise journal
  pub parted : AreParted (counted journal) journal
  pub sums_of_some : Each AreSumsOfSome journal

abbrev pub IsOfSomeSite : List SiteRecord → Type 0
IsOfSomeSite journal = (number : ℕ) × IsWellRecorded number journal
