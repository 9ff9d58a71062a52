-- Two sites with one committed local transaction each: either order agrees, and one that leaves a transaction out or names it twice doesn't.
use Rattle.std.proofs.Common.{◌≡◌, List, [], ◌∷◌, ◌++◌, map, refl}
use Rattle.mdb_base.specs.declared.names.Engine.TheVariants.{Locking}
use Rattle.presumptions.specs.declared.Protocol.TheVariants as By
use Rattle.fed_rules.specs.declared.answers.Answer.TheVariants as Say
use Rattle.fed_rules.specs.declared.commands.Line.{Line}
use Rattle.fed_rules.specs.declared.report.Report.{Report}
use Rattle.fed_rules.specs.declared.report.TxReads.{TxReads}
use Rattle.fed_rules.specs.declared.scenario.Scenario.{Scenario}
use Rattle.fed_rules.proofs.ForCallers.{begin, commit, entry, get, key, line, local, opened, read_by, scenario_of, set, site, step, table, tid}
use Rattle.audit_rules.specs.declared.verdict.Verdict.TheVariants.{Agrees, Differs}
use Rattle.audit_rules.specs.declared.verdict.What.TheVariants as Fails
use Rattle.audit_rules.proofs.Spoken.{spoken, reported, audited, verdict_of}

-- five lines, and then the line `printed`: the first printed line has the number 6
abbrev scenario : Scenario
scenario =
    scenario_of
    (site 1 Locking By.Nothing ∷ site 2 Locking By.Nothing ∷ [])
    []
    (local 1 1 (set 1 7 ∷ []) ∷ local 2 2 (get 1 ∷ []) ∷ [])

abbrev lines : List Line
lines =
    line (begin 1) (Say.Begun (tid 1 0)) []
    ∷ line (step 1) (Say.Wrote (key 1) 7) []
    ∷ line (commit 1) (Say.Sealed (tid 1 0) 2) []
    ∷ line (begin 2) (Say.Begun (tid 2 0)) []
    ∷ line (step 2) (Say.Read (key 1) 0) []
    ∷ line (commit 2) (Say.Sealed (tid 2 0) 2) []
    ∷ []

abbrev writer : TxReads
writer = read_by (tid 1 0) []

abbrev reader : TxReads
reader = read_by (tid 2 0) (0 ∷ [])

-- the report with these reads, in their order
abbrev report : List TxReads → Report
report reads =
    record {
      order = map (λ reads. reads.tid) reads;
      reads = reads;
      outcomes = [];
      forgotten = [];
      tables = table 1 (entry 1 7 ∷ []) ∷ table 2 [] ∷ [];
    }

the_least_merge_agrees : verdict_of scenario 6 (spoken lines ++ reported (report (writer ∷ reader ∷ []))) ≡ Agrees
unfolding audited opened
the_least_merge_agrees = refl

the_other_merge_agrees : verdict_of scenario 6 (spoken lines ++ reported (report (reader ∷ writer ∷ []))) ≡ Agrees
unfolding audited opened
the_other_merge_agrees = refl

the_reads_follow_the_order :
    verdict_of scenario 6 (spoken lines ++ reported (record (report (writer ∷ reader ∷ [])) { order = tid 2 0 ∷ tid 1 0 ∷ [] })) ≡ Differs 13 Fails.Reads
unfolding audited opened
the_reads_follow_the_order = refl

one_is_left_out : verdict_of scenario 6 (spoken lines ++ reported (report (writer ∷ []))) ≡ Differs 12 Fails.Order
unfolding audited opened
one_is_left_out = refl

one_is_named_twice : verdict_of scenario 6 (spoken lines ++ reported (report (writer ∷ reader ∷ writer ∷ []))) ≡ Differs 12 Fails.Order
unfolding audited opened
one_is_named_twice = refl
