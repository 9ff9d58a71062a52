-- Why there is no verdict, and what it tells.
use Rattle.std.proofs.Common.{◌≡◌, ℕ, List, Result, Ok, Err, length, length-set, refl, sym, ap, ◌∙◌}
use Rattle.std.proofs.lemmas.List.{length-map}
use Rattle.journal_disk.specs.Disk.{Seen}
use Rattle.fed_world.specs.declared.errors.WorldErr.{WorldErr}
use Rattle.fed_world.specs.declared.errors.WorldErr.TheVariants as World_err
use Rattle.fed_world.specs.Faults.{CountsTell, FailedAs, faults_of}
use Rattle.scenario_text.specs.declared.bad.TextErr.{TextErr}
use Rattle.scenario_text.specs.declared.bad.TextErr.TheVariants as Text_err
use Rattle.audit_rules.specs.declared.verdict.Verdict.{Verdict}
use Rattle.run_audit.specs.Audits.{Answers, Hands, IsRefused}
use Rattle.run_audit.specs.Causes.{CauseTells, of_text, of_world}

-- a world that gives none says nothing of the text
pub world_answers : (why : WorldErr) (text : List ℕ) → Answers (Err (of_world why)) text
world_answers (World_err.Disk number) text = tt
world_answers World_err.Memory text = tt

-- nor refuses it
pub world_refuses : (why : WorldErr) → IsRefused (Err (of_world why)) → ⊥
world_refuses (World_err.Disk number) refused = refused
world_refuses World_err.Memory refused = refused

-- and the counts of the disks tell which failed
pub world_tells : (why : WorldErr) (old new : List Seen) → FailedAs why old new → CauseTells {T = Verdict} (Err (of_world why)) old new
world_tells (World_err.Disk number) old new told = told
world_tells World_err.Memory old new told = told

-- a text that gives none is refused with its first bad line
pub text_answers : (why : TextErr) (text : List ℕ) → Hands (Err why) text → Answers (Err (of_text why)) text
text_answers (Text_err.Bad bad) text refused = refused
text_answers Text_err.Memory text refused = tt

-- and no disk was touched
pub text_tells : (why : TextErr) (disks : List Seen) → CauseTells {T = Verdict} (Err (of_text why)) disks disks
text_tells (Text_err.Bad bad) disks = refl
text_tells Text_err.Memory disks = refl

as_many : (old new : List Seen) → length (faults_of new) ≡ length (faults_of old) → length new ≡ length old
as_many old new e = sym (length-map new (λ (disk : Seen). disk.faults)) ∙ (e ∙ length-map old (λ (disk : Seen). disk.faults))

-- there are as many disks as before
pub as_many_disks : {T : Type 0} (outcome : Result T WorldErr) (old new : List Seen) → CountsTell outcome old new → length new ≡ length old
as_many_disks (Ok done) old new told = as_many old new (ap (λ (counts : List ℕ). length counts) told)
as_many_disks (Err World_err.Memory) old new told = as_many old new (ap (λ (counts : List ℕ). length counts) told)
as_many_disks (Err (World_err.Disk number)) old new told =
    as_many old new (ap (λ (counts : List ℕ). length counts) told.others ∙ length-set (faults_of old) number told.now)
