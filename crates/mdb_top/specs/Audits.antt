-- How an audit ends: each status with its cause, and what the sink has got then.
use Rattle.std.specs.Prelude.{ℕ, ◌≡◌, ◌⊎◌, Bool, true, false, IsTrue, IfSome, List, [], ◌∷◌, ◌++◌, codes, decimal, Result, Ok, Err}
use Rattle.order_laws.specs.Chains.{In}
use Rattle.journal_disk.specs.Disk.{Seen}
use Rattle.fed_world.specs.declared.errors.WorldErr.{WorldErr}
use Rattle.fed_world.specs.declared.errors.WorldErr.TheVariants as World_err
use Rattle.fed_world.specs.Faults.{RisesAt, faults_of}
use Rattle.audit_rules.specs.declared.verdict.Verdict.TheVariants.{Agrees, Differs}
use Rattle.audit_rules.specs.declared.verdict.Verdict as audit
use Rattle.audit_rules.specs.declared.verdict.What.{What}
use Rattle.audit_rules.specs.declared.verdict.What.TheVariants as Fails
use Rattle.audit_text.specs.Texts.{audit_of}
use Rattle.run_audit.specs.declared.submitted.Submitted.{Submitted}
use Rattle.run_audit.specs.Audits.{AgreesWhole, RunIsAudited, verdict_of}
use Rattle.session_outputs.specs.Disks.{first_used, is_used, sizes_of}
use Rattle.outputs.specs.Texts.{disk_failed_text, line}
use Rattle.mdb_top.specs.Endings.{IsPutWhole, SomeBadLine}
use Rattle.mdb_top.specs.Streams.{Gets, IsCalm, IsRead, Rose, Stream, WritesFront}
use Rattle.mdb_top.specs.Texts.{bad_line_text, disk_used_text, no_memory_text, read_failed_text, too_long_text}
use Rattle.mdb_top.specs.Verdicts.{Verdict, TooLong, BadInput, Spells, verdict}

abbrev pub agrees_text : List ℕ
agrees_text = line (codes "agrees")

-- the word of a reason
abbrev pub what_text : What → List ℕ
what_text Fails.Form = codes "form"
what_text Fails.Answer = codes "answer"
what_text Fails.Places = codes "places"
what_text Fails.Cycle = codes "cycle"
what_text Fails.Open = codes "open"
what_text Fails.Order = codes "order"
what_text Fails.Reads = codes "reads"
what_text Fails.Outcome = codes "outcome"
what_text Fails.Forgotten = codes "forgotten"
what_text Fails.Table = codes "table"

-- the first line that differs, with its reason
abbrev pub differs_text : ℕ → What → List ℕ
differs_text number what = line (codes "differs at line " ++ decimal number ++ codes " " ++ what_text what)

-- the statuses that a text leads to
abbrev pub statuses : (used : Bool) → Verdict audit.Verdict → List ℕ
statuses used TooLong = 7 ∷ []
statuses used (BadInput bad) = 2 ∷ []
statuses true (Spells found) = 8 ∷ []
statuses false (Spells Agrees) = 0 ∷ 4 ∷ 5 ∷ []
statuses false (Spells (Differs number what)) = 9 ∷ 5 ∷ []

-- a text is said with its status, unless memory is wanting for it
pub record IsSaid (own : ℕ) (text : List ℕ) (status : ℕ) (sink : Stream) : Type 0 where
  pub either : In status (own ∷ 6 ∷ [])
  pub said : status ≡ own → Gets sink text
  pub no_memory : status ≡ 6 → Gets sink no_memory_text

-- the verdict is put, or why there is none
abbrev pub IsVerdictPut : ℕ → Stream → Result audit.Verdict WorldErr → Type 0
IsVerdictPut status sink (Ok Agrees) = IsPutWhole status sink agrees_text
IsVerdictPut status sink (Ok (Differs number what)) = IsSaid 9 (differs_text number what) status sink
IsVerdictPut status sink (Err (World_err.Disk number)) = IsSaid 5 (disk_failed_text number) status sink
IsVerdictPut status sink (Err World_err.Memory) = (status ≡ 6) × Gets sink no_memory_text

-- what the sink has got where a line differs
abbrev pub Names : Stream → audit.Verdict → Type 0
Names sink Agrees = ⊥
Names sink (Differs number what) = Gets sink (differs_text number what)

-- how the audit of what was handed in ends
pub record HandedEnds (status : ℕ) (sink : Stream) (old new : List Seen) (handed : Submitted) : Type 0 where
  pub led : In status (6 ∷ statuses (is_used (sizes_of old)) (Spells (verdict_of handed)))
  pub agrees : In status (0 ∷ 4 ∷ []) → (verdict_of handed ≡ Agrees) × RunIsAudited handed.scenario handed.printed
  pub told : status ≡ 0 → IsTrue sink.tells → sink.after ≡ sink.before ++ agrees_text
  pub no_write_failed : status ≡ 0 → IsCalm sink
  pub cut_off : status ≡ 4 → IsTrue sink.tells → WritesFront sink.before sink.after agrees_text
  pub write_failed : status ≡ 4 → Rose sink
  pub differs : status ≡ 9 → Names sink (verdict_of handed)
  pub no_memory : status ≡ 6 → Gets sink no_memory_text
  pub used : status ≡ 8 → IfSome (first_used (sizes_of old)) (λ number. Gets sink (disk_used_text number))
  pub broken : status ≡ 5 → (number : ℕ) × Gets sink (disk_failed_text number) × RisesAt number old new
  pub no_disk_failed : In status (0 ∷ 4 ∷ 9 ∷ []) → faults_of new ≡ faults_of old

-- the text has this verdict, of which the fact holds
pub record SomeVerdict (input : List ℕ) (P : audit.Verdict → Type 0) : Type 0 where
  pub found : audit.Verdict
  pub is : verdict audit_of input ≡ Spells found
  pub holds : P found

-- the run agrees, and so it has the headline with its printed order
abbrev pub AgreesWith : List ℕ → audit.Verdict → Type 0
AgreesWith input found = (found ≡ Agrees) × AgreesWhole input

-- how the audit of a text ends: each status with its cause, and what the sink has got then
pub record TextEnds (status : ℕ) (sink : Stream) (old new : List Seen) (input : List ℕ) : Type 0 where
  -- which status comes when; want of memory alone is free
  pub led : In status (6 ∷ statuses (is_used (sizes_of old)) (verdict audit_of input))
  -- what the sink has got
  pub agrees : In status (0 ∷ 4 ∷ []) → SomeVerdict input (AgreesWith input)
  pub told : status ≡ 0 → IsTrue sink.tells → sink.after ≡ sink.before ++ agrees_text
  pub no_write_failed : status ≡ 0 → IsCalm sink
  pub cut_off : status ≡ 4 → IsTrue sink.tells → WritesFront sink.before sink.after agrees_text
  pub write_failed : status ≡ 4 → Rose sink
  pub differs : status ≡ 9 → SomeVerdict input (Names sink)
  pub refused : status ≡ 2 → SomeBadLine audit_of input (λ bad. Gets sink (bad_line_text bad))
  pub no_memory : status ≡ 6 → Gets sink no_memory_text
  pub too_long : status ≡ 7 → Gets sink too_long_text
  pub used : status ≡ 8 → IfSome (first_used (sizes_of old)) (λ number. Gets sink (disk_used_text number))
  -- a disk's count of faults rose at status 5 alone, and no other's
  pub broken : status ≡ 5 → (number : ℕ) × Gets sink (disk_failed_text number) × RisesAt number old new
  pub no_disk_failed : In status (0 ∷ 4 ∷ 9 ∷ []) → faults_of new ≡ faults_of old

-- how the command ends: the text was read and its audit ends so, or a read failed, or memory was wanting before there was a text
pub record AuditEnds (status : ℕ) (source sink : Stream) (old new : List Seen) (input : List ℕ) : Type 0 where
  -- a read failed at status 3 alone, and else the source was read to its end or to byte 4,194,305
  pub read : In status (0 ∷ 2 ∷ 4 ∷ 5 ∷ 7 ∷ 8 ∷ 9 ∷ []) → IsRead source
  pub read_failed : status ≡ 3 → Rose source
  pub no_read_failed : (status ≡ 3 → ⊥) → IsCalm source
  pub unread : status ≡ 3 → Gets sink read_failed_text
  pub ends : (status ≡ 3) ⊎ ((status ≡ 6) × Gets sink no_memory_text ⊎ TextEnds status sink old new input)
