use Rattle.std.proofs.Common.{List, String, Global, is_some, map, string_bytes, sym, ap, ◌∙◌}
use Rattle.mdb_top.specs.Verdicts.{asked_of_folder}
use Rattle.mdb_top.proofs.ForCallers.{nothing_resumes}
use Rattle.session_tests.proofs.tests.called.Goals as goal

-- words that name no folder don't ask to go on
pub federate-status-requires-clause-synced : goal.federate-status-requires-clause-synced
federate-status-requires-clause-synced g c lives within asked =
    absurd (nothing_resumes (map string_bytes c.deref-2.result.now)
    (ap (λ (words : List (String Global)). is_some (asked_of_folder (map string_bytes words))) (c.deref-2.ensures.value ∙ sym c.deref.ensures.value)
    ∙ (sym c.names_folder.ensures ∙ c.if-names_folder.false)) asked)
