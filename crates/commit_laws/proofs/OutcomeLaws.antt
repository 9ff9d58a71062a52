-- All sites that settle an attempt settle it alike.
use Rattle.std.proofs.Common.{◌≡◌, Bool, true, false, cond, List, refl, sym, subst, ◌∙◌}
use Rattle.mdb_base.specs.declared.names.Tid.{Tid}
use Rattle.mdb_base.specs.Words.{Among}
use Rattle.presumptions.specs.declared.Decision.TheVariants as Decided
use Rattle.fed_rules.specs.declared.records.CoordRecord.{CoordRecord}
use Rattle.fed_rules.specs.CoordRecords.{has_commit, outcome}
use Rattle.fed_rules.specs.Story.{past_of, story_of}
use Rattle.commit_laws.specs.Outcomes.{coordinator_keeps, Settles, SettlesSayTheOutcome, SettlesCommitWhereKept, SitesAgree}
use Rattle.coord_laws.specs.Records.{IsCommit}
use Rattle.commit_laws.proofs.Agreed.{agreed}
use Rattle.coord_laws.proofs.ForCallers.{among_commit, commit_among, outcome_is}
use Rattle.commit_laws.proofs.Links.{home-again, its-site}

pub settles-say-the-outcome : SettlesSayTheOutcome
settles-say-the-outcome scenario commands site home declared tid decision m =
    ((agreed scenario home tid commands (home-again scenario site home declared)).settled decision
    (subst (λ s. Settles (past_of s (story_of scenario commands)) tid decision) (sym (its-site scenario site home declared)) m)).1

-- the outcome is commit exactly where a Commit is kept
pub outcome-commits : (kept : List CoordRecord) (tid : Tid) → outcome kept tid ≡ Decided.Commit → Among (IsCommit tid) kept
outcome-commits kept tid e = by_test (has_commit kept tid) refl e where
  by_test : (b : Bool) → has_commit kept tid ≡ b → cond b Decided.Commit Decided.Abort ≡ Decided.Commit → Among (IsCommit tid) kept
  by_test true q e = commit_among tid kept q
  by_test false q e = cc

pub commits-outcome : (kept : List CoordRecord) (tid : Tid) → Among (IsCommit tid) kept → outcome kept tid ≡ Decided.Commit
commits-outcome kept tid m = outcome_is kept tid true (among_commit tid kept m)

pub settles-commit-where-kept : SettlesCommitWhereKept
settles-commit-where-kept scenario commands site home declared tid decision m =
    let is = settles-say-the-outcome scenario commands site home declared tid decision m in (
      (λ e. outcome-commits (coordinator_keeps scenario commands) tid (sym is ∙ e)),
      (λ k. is ∙ commits-outcome (coordinator_keeps scenario commands) tid k),
    )

pub sites-agree : SitesAgree
sites-agree scenario commands one other here there at_one at_other tid a b m n =
    settles-say-the-outcome scenario commands one here at_one tid a m ∙ sym
    (settles-say-the-outcome scenario commands other there at_other tid b n)
