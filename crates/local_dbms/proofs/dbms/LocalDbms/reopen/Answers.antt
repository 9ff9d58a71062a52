use Rattle.std.proofs.Common.{ap, ◌∙◌, reverse}
use Rattle.fed_rules.specs.Reopened.{opened_site}
use Rattle.site_core.proofs.ForCallers.{found_journal, found_opened}
use Rattle.local_dbms.specs.Found.{found_programs}
use Rattle.local_dbms.proofs.FoundLaws.{are_found, found_named, found_same}
use Rattle.local_dbms.proofs.OpenedOwned.{opened_owned}
use Rattle.local_dbms.proofs.dbms.LocalDbms.reopen.Goals as goal

pub returns-in-Ok-programs_found-clause-stands : goal.returns-in-Ok-programs_found-clause-stands
returns-in-Ok-programs_found-clause-stands g c home journal f of_kind =
    let stood = c.in-Ok.ensures.stands home journal f of_kind in
    let past = opened_site journal in
    record {
      core = stood;
      owns = record {
        held = (λ tx. c.in-Ok-programs_found.ensures tx ∙ ap (λ rs. found_programs rs tx) (c.records.ensures home past stood.holds ∙ ap reverse (found_journal _ home journal f)) ∙ found_same journal.records tx);
        named = found_named journal.records f.stands.in_range;
        owned = opened_owned home (found_programs journal.records) past (found_opened _ home journal f) (are_found journal);
      };
    }
