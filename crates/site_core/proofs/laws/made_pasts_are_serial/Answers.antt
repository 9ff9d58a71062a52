use Rattle.std.proofs.Common.{ap, sym}
use Rattle.fed_rules.specs.SiteSums.{start_from}
use Rattle.site_history.specs.SiteOrders.{IsSerialPast}
use Rattle.site_history.proofs.ForCallers.{pasts_serial}
use Rattle.site_core.proofs.MadeLaws.{made_goes_on, made_right, made_says_all, made_starts, made_tabled, of_made_once}
use Rattle.site_core.proofs.laws.made_pasts_are_serial.Goals as goal

pub returns-clause-lines : goal.returns-clause-lines
returns-clause-lines c home past made = made_right home past (made_goes_on home past made)

pub returns-clause-starts : goal.returns-clause-starts
returns-clause-starts c home past made = made_starts home past (made_goes_on home past made)

pub returns-clause-sums : goal.returns-clause-sums
returns-clause-sums c home past made = made_says_all home past (made_goes_on home past made)

pub returns-clause-restarts : goal.returns-clause-restarts
returns-clause-restarts c home past made = ap start_from (sym (made_says_all home past (made_goes_on home past made)))

pub returns-clause-tables : goal.returns-clause-tables
returns-clause-tables c home past made = made_tabled home past (made_goes_on home past made)

pub returns-clause-lines_on : goal.returns-clause-lines_on
returns-clause-lines_on c = made_right

pub returns-clause-starts_on : goal.returns-clause-starts_on
returns-clause-starts_on c = made_starts

pub returns-clause-sums_on : goal.returns-clause-sums_on
returns-clause-sums_on c = made_says_all

pub returns-clause-restarts_on : goal.returns-clause-restarts_on
returns-clause-restarts_on c home past made = ap start_from (sym (made_says_all home past made))

pub returns-clause-tables_on : goal.returns-clause-tables_on
returns-clause-tables_on c = made_tabled

pub returns-clause-serial : goal.returns-clause-serial
returns-clause-serial c = of_made_once IsSerialPast pasts_serial
