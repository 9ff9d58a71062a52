-- How the top call may end: which status an input leads to, what the sink has got then, and what the disks hold.
use Rattle.std.specs.Prelude.{ℕ, ◌≡◌, ◌⊎◌, Bool, true, false, IsTrue, IfSome, List, [], ◌∷◌, ◌++◌, Result, Ok, Err}
use Rattle.mdb_base.specs.declared.names.Memory.{Memory}
use Rattle.order_laws.specs.Chains.{In}
use Rattle.journal_disk.specs.Disk.{Seen}
use Rattle.fed_world.specs.Faults.{faults_of}
use Rattle.scenario_text.specs.declared.bad.BadLine.{BadLine}
use Rattle.outputs.specs.declared.output.Output.{Output}
use Rattle.outputs.specs.declared.output.Output.TheVariants.{Whole, Broken}
use Rattle.session_outputs.specs.Disks.{first_used, is_used, sizes_of}
use Rattle.outputs.specs.Outputs.{Account}
use Rattle.mdb_top.specs.Streams.{Gets, IsCalm, IsRead, Rose, Stream, WritesFront}
use Rattle.mdb_top.specs.Texts.{bad_line_text, disk_used_text, no_memory_text, read_failed_text, too_long_text}
use Rattle.mdb_top.specs.Verdicts.{Verdict, TooLong, BadInput, Spells, verdict}

-- the statuses that an input leads to: where it spells what is asked for, a disk is found used; or else it is carried out, and the sink or a disk
-- may fail
abbrev pub statuses : {X : Type 0} → (used : Bool) → Verdict X → List ℕ
statuses used TooLong = 7 ∷ []
statuses used (BadInput bad) = 2 ∷ []
statuses true (Spells x) = 8 ∷ []
statuses false (Spells x) = 0 ∷ 4 ∷ 5 ∷ []

-- the status is one that the input leads to, or a read failed, or memory was wanting
abbrev pub IsLedTo : {X : Type 0} → ℕ → Bool → Verdict X → Type 0
IsLedTo status used verdict = In status (3 ∷ 6 ∷ statuses used verdict)

-- the input spells something of which the fact holds
pub record SomeSpelled {X : Type 0} (reads : List ℕ → Result X BadLine) (input : List ℕ) (P : X → Type 0) : Type 0 where
  pub spelled : X
  pub is : verdict reads input ≡ Spells spelled
  pub holds : P spelled

-- the grammar refuses the input, and the fact holds of its first bad line
pub record SomeBadLine {X : Type 0} (reads : List ℕ → Result X BadLine) (input : List ℕ) (P : BadLine → Type 0) : Type 0 where
  pub bad : BadLine
  pub is : verdict reads input ≡ BadInput bad
  pub holds : P bad

-- the fact holds of an output, and the sink, where it tells, has got exactly that one
pub record GetsAll (sink : Stream) (P : List ℕ → Type 0) : Type 0 where
  pub output : List ℕ
  pub holds : P output
  pub put : IsTrue sink.tells → sink.after ≡ sink.before ++ output

-- or a front of it
pub record GetsFront (sink : Stream) (P : List ℕ → Type 0) : Type 0 where
  pub output : List ℕ
  pub holds : P output
  pub put : IsTrue sink.tells → WritesFront sink.before sink.after output

-- or all of it, unless its count of faults rose
pub record GetsSome (sink : Stream) (P : List ℕ → Type 0) : Type 0 where
  pub output : List ℕ
  pub holds : P output
  pub put : Gets sink output

-- how a command ends with what was read of its input
pub record Carries {X : Type 0} (account : Account X) (status : ℕ) (sink : Stream) (old new : List Seen) (x : X) : Type 0 where
  pub led : In status (6 ∷ statuses (is_used (sizes_of old)) (Spells x))
  pub done : status ≡ 0 → GetsAll sink (λ output. account.whole output old new x)
  pub no_write_failed : status ≡ 0 → IsCalm sink
  pub no_disk_failed : In status (0 ∷ 4 ∷ []) → faults_of new ≡ faults_of old
  pub cut_off : status ≡ 4 → GetsFront sink (λ output. account.whole output old new x)
  pub write_failed : status ≡ 4 → Rose sink
  pub broken : status ≡ 5 → GetsSome sink (λ output. account.broken output old new x)
  pub no_memory : status ≡ 6 → Gets sink no_memory_text
  pub short : status ≡ 6 → (new ≡ old) ⊎ account.short old new x
  pub used : status ≡ 8 → IfSome (first_used (sizes_of old)) (λ number. Gets sink (disk_used_text number))

-- how a command with this input ends: each status with its cause, what the sink has got then and what the disks hold
pub record Ends {X : Type 0} (reads : List ℕ → Result X BadLine) (account : Account X) (status : ℕ) (source sink : Stream) (old new : List Seen) (input : List ℕ) : Type 0 where
  -- which status comes when; want of memory alone is free
  pub led : IsLedTo status (is_used (sizes_of old)) (verdict reads input)
  -- a read failed at status 3 alone, and else the source was read to its end or to byte 4,194,305
  pub read : In status (0 ∷ 2 ∷ 4 ∷ 5 ∷ 7 ∷ 8 ∷ []) → IsRead source
  pub read_failed : status ≡ 3 → Rose source
  pub no_read_failed : (status ≡ 3 → ⊥) → IsCalm source
  -- what the sink has got, and what the disks hold
  pub done : status ≡ 0 → SomeSpelled reads input (λ x. GetsAll sink (λ output. account.whole output old new x))
  pub no_write_failed : status ≡ 0 → IsCalm sink
  pub no_disk_failed : In status (0 ∷ 4 ∷ []) → faults_of new ≡ faults_of old
  pub refused : status ≡ 2 → SomeBadLine reads input (λ bad. Gets sink (bad_line_text bad))
  pub unread : status ≡ 3 → Gets sink read_failed_text
  pub cut_off : status ≡ 4 → SomeSpelled reads input (λ x. GetsFront sink (λ output. account.whole output old new x))
  pub write_failed : status ≡ 4 → Rose sink
  pub broken : status ≡ 5 → SomeSpelled reads input (λ x. GetsSome sink (λ output. account.broken output old new x))
  pub no_memory : status ≡ 6 → Gets sink no_memory_text
  pub short : status ≡ 6 → (new ≡ old) ⊎ (IsRead source × SomeSpelled reads input (λ x. account.short old new x))
  pub too_long : status ≡ 7 → Gets sink too_long_text
  pub used : status ≡ 8 → IfSome (first_used (sizes_of old)) (λ number. Gets sink (disk_used_text number))

-- a whole output is put: status 0, or the sink failed at a front of it
pub record IsPutWhole (status : ℕ) (sink : Stream) (output : List ℕ) : Type 0 where
  pub either : In status (0 ∷ 4 ∷ [])
  pub all : status ≡ 0 → IsTrue sink.tells → sink.after ≡ sink.before ++ output
  pub calm : status ≡ 0 → IsCalm sink
  pub front : status ≡ 4 → IsTrue sink.tells → WritesFront sink.before sink.after output
  pub rose : status ≡ 4 → Rose sink

-- what was made is put: an output that names a failed disk as far as the sink takes it
abbrev pub IsPut : ℕ → Stream → Result Output Memory → Type 0
IsPut status sink (Ok (Whole output)) = IsPutWhole status sink output.items
IsPut status sink (Ok (Broken output)) = (status ≡ 5) × Gets sink output.items
IsPut status sink (Err why) = (status ≡ 6) × Gets sink no_memory_text
