use Rattle.std.proofs.Common.{map, string_bytes, sym, ◌∙◌}
use Rattle.mdb_top.proofs.ForCallers.{nothing_resumes}
use Rattle.cases.proofs.calls.carry_out_words.Goals as goal

-- words that name no folder don't ask to go on
pub federate-requires-clause-synced : goal.federate-requires-clause-synced
federate-requires-clause-synced g c lives within asked =
    absurd (nothing_resumes (map string_bytes c.args.words.now) (sym c.names_folder.ensures ∙ c.if-names_folder.false) asked)
