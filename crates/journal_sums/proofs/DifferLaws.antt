-- What a journal has in doubt are different attempts.
use Rattle.std.proofs.Common.{◌≡◌, false, cond, Option, Some, None, List, [], ◌∷◌, ◌++◌, map, refl, ap, ◌∙◌}
use Rattle.mdb_base.specs.declared.names.Tid.{Tid}
use Rattle.mdb_base.specs.Names.{same_tid}
use Rattle.mdb_base.specs.Words.{Each}
use Rattle.mdb_base.proofs.ForCallers.{same_tid-sym}
use Rattle.engine_laws.specs.Laws.{EachOnce}
use Rattle.fed_rules.specs.declared.records.SiteRecord.{SiteRecord}
use Rattle.fed_rules.specs.declared.sums.SiteSum.{SiteSum}
use Rattle.fed_rules.specs.SiteRecords.{Held, Home, kept_held}
use Rattle.fed_rules.specs.SiteSums.{behind_sum, carried, journal_sum, last_sum, sum_behind}
use Rattle.prepared_state.specs.Book.{AreApart, doubt_about}
use Rattle.engine_laws.proofs.ForCallers.{once_doubts}
use Rattle.journal_sums.specs.Starts.{doubt_held}

pub once_in_journal : (home : Home) (journal : List SiteRecord) → EachOnce (map kept_held (journal_sum home journal).doubtful)
once_in_journal home journal = by_last (last_sum journal)
  where
    by_last : (o : Option SiteSum) → EachOnce (map kept_held (sum_behind home journal o).doubtful)
    by_last None = once_doubts journal
    by_last (Some sum) = once_doubts (behind_sum journal ++ carried sum.doubtful)

none_about : (tid : Tid) (helds : List Held) → Each (λ other. same_tid tid other.tid ≡ false) (map kept_held helds) → doubt_about tid (map doubt_held helds) ≡ None
none_about tid [] apart = refl
none_about tid (held ∷ helds) apart =
    ap (λ b. cond b (Some (doubt_held held)) (doubt_about tid (map doubt_held helds))) (same_tid-sym held.tid tid ∙ apart.0) ∙ none_about tid helds apart.1

pub apart_once : (helds : List Held) → EachOnce (map kept_held helds) → AreApart (map doubt_held helds)
apart_once [] once = tt
apart_once (held ∷ helds) once = (none_about held.tid helds once.0, apart_once helds once.1)

pub apart_in_journal : (home : Home) (journal : List SiteRecord) → AreApart (map doubt_held (journal_sum home journal).doubtful)
apart_in_journal home journal = apart_once (journal_sum home journal).doubtful (once_in_journal home journal)
