-- What is read is spelled so, and what is spelled is read again.
use Rattle.std.specs.Prelude.{ℕ, ◌≡◌, Bool, true, false, cond, List, [], ◌++◌, Some, None, refl}
use Rattle.std.proofs.Common.{sym, ap, subst, ◌∙◌, eqb, arith}
use Rattle.std.proofs.lemmas.Bool.{eqb-true}
use Rattle.std.proofs.lemmas.List.{append-nil}
use Rattle.fed_rules.specs.declared.records.SiteRecord.{SiteRecord}
use Rattle.fed_rules.specs.declared.records.SiteRecord.TheVariants.{Setup, Start, Prepared, Ended, Local, Checkpoint}
use Rattle.byte_numbers.specs.Numbers.{IsBytes, Takes, number, number_at, ◌>>=◌}
use Rattle.byte_numbers.proofs.ForCallers.{number_takes}
use Rattle.field_bytes.proofs.ForCallers.{bind_some, number_then}
use Rattle.record_fields.specs.Field.{IsExact, a_number, both, at_end}
use Rattle.record_fields.specs.Exact.{exact_number, exact_both, exact_made, variant_takes, variant_again, ends_there}
use Rattle.record_fields.specs.ExactNamed.{exact_site, exact_engine, exact_protocol, exact_tid, exact_decision, exact_writes}
use Rattle.record_fields.specs.ExactSums.{exact_maybe, exact_tids, exact_prepared, exact_doubtful}
use Rattle.record_fields.specs.Named.{a_site, an_engine, a_protocol, a_tid, a_decision, writes}
use Rattle.record_fields.specs.Sums.{prepared}
use Rattle.site_journal.specs.Spelling.{setup, start, ended, local, checkpoint, spelling, IsRecord, setup_at, start_at, prepared_at, ended_at, local_at, checkpoint_at, tagged_at, reading}

exact_setup : IsExact setup
exact_setup = exact_both a_site (both an_engine (both a_protocol writes)) exact_site (exact_both an_engine (both a_protocol writes) exact_engine (exact_both a_protocol writes exact_protocol exact_writes))

exact_ended : IsExact ended
exact_ended = exact_both a_tid a_decision exact_tid exact_decision

exact_local : IsExact local
exact_local = exact_both a_tid (both (a_number 8) writes) exact_tid (exact_both (a_number 8) writes (exact_number 8) exact_writes)

exact_checkpoint : IsExact checkpoint
exact_checkpoint =
    exact_made _ _ _ (λ x. refl) (λ p. refl)
    (exact_both _ _ exact_site (exact_both _ _ exact_engine (exact_both _ _ exact_protocol (exact_both _ _ (exact_number 4) (exact_both _ _ (exact_number 8) (exact_both _ _ (exact_number 8)
    (exact_both _ _ (exact_maybe a_tid exact_tid) (exact_both _ _ exact_writes (exact_both _ _ exact_tids exact_doubtful)))))))))

-- a record that was taken from the front
abbrev TakesRecord : List ℕ → SiteRecord × List ℕ → Type 0
TakesRecord bytes found = Takes bytes (spelling found.0) found.1 × IsRecord found.0

setup_takes : (bytes rest : List ℕ) (found : SiteRecord × List ℕ) → Takes bytes (number 1 1) rest → setup_at rest ≡ Some found → TakesRecord bytes found
unfolding setup_at
setup_takes bytes rest found behind e = variant_takes 1 setup (λ f. Setup f.0 f.1.0 f.1.1.0 f.1.1.1) spelling IsRecord exact_setup (λ f. refl) bytes rest found (λ f fits. fits) behind e

start_takes : (bytes rest : List ℕ) (found : SiteRecord × List ℕ) → Takes bytes (number 1 2) rest → start_at rest ≡ Some found → TakesRecord bytes found
unfolding start_at
start_takes bytes rest found behind e = variant_takes 2 start (λ f. Start f) spelling IsRecord (exact_number 4) (λ f. refl) bytes rest found (λ f fits. fits) behind e

prepared_takes : (bytes rest : List ℕ) (found : SiteRecord × List ℕ) → Takes bytes (number 1 3) rest → prepared_at rest ≡ Some found → TakesRecord bytes found
unfolding prepared_at
prepared_takes bytes rest found behind e =
    variant_takes 3 prepared (λ f. Prepared f.0 f.1.0 f.1.1.0 f.1.1.1.0 f.1.1.1.1) spelling IsRecord exact_prepared (λ f. refl) bytes rest found (λ f fits. fits) behind e

ended_takes : (bytes rest : List ℕ) (found : SiteRecord × List ℕ) → Takes bytes (number 1 4) rest → ended_at rest ≡ Some found → TakesRecord bytes found
unfolding ended_at
ended_takes bytes rest found behind e = variant_takes 4 ended (λ f. Ended f.0 f.1) spelling IsRecord exact_ended (λ f. refl) bytes rest found (λ f fits. fits) behind e

local_takes : (bytes rest : List ℕ) (found : SiteRecord × List ℕ) → Takes bytes (number 1 5) rest → local_at rest ≡ Some found → TakesRecord bytes found
unfolding local_at
local_takes bytes rest found behind e = variant_takes 5 local (λ f. Local f.0 f.1.0 f.1.1) spelling IsRecord exact_local (λ f. refl) bytes rest found (λ f fits. fits) behind e

checkpoint_takes : (bytes rest : List ℕ) (found : SiteRecord × List ℕ) → Takes bytes (number 1 6) rest → checkpoint_at rest ≡ Some found → TakesRecord bytes found
unfolding checkpoint_at
checkpoint_takes bytes rest found behind e = variant_takes 6 checkpoint (λ f. Checkpoint f) spelling IsRecord exact_checkpoint (λ f. refl) bytes rest found (λ f fits. fits) behind e

tagged_takes : (bytes : List ℕ) (tag : ℕ) (rest : List ℕ) (found : SiteRecord × List ℕ) → Takes bytes (number 1 tag) rest → tagged_at tag rest ≡ Some found → TakesRecord bytes found
tagged_takes bytes tag rest found behind e = first (eqb tag 1) refl e
  where
    at : (n : ℕ) → eqb tag n ≡ true → Takes bytes (number 1 n) rest
    at n is = let same = eqb-true tag n is in subst (λ (k : ℕ). Takes bytes (number 1 k) rest) same behind

    sixth : (t : Bool) → eqb tag 6 ≡ t → cond t (checkpoint_at rest) None ≡ Some found → TakesRecord bytes found
    sixth true is f = checkpoint_takes bytes rest found (at 6 is) f
    sixth false is f = absurd cc

    fifth : (t : Bool) → eqb tag 5 ≡ t → cond t (local_at rest) (cond (eqb tag 6) (checkpoint_at rest) None) ≡ Some found → TakesRecord bytes found
    fifth true is f = local_takes bytes rest found (at 5 is) f
    fifth false is f = sixth (eqb tag 6) refl f

    fourth : (t : Bool) → eqb tag 4 ≡ t → cond t (ended_at rest) (cond (eqb tag 5) (local_at rest) (cond (eqb tag 6) (checkpoint_at rest) None)) ≡ Some found → TakesRecord bytes found
    fourth true is f = ended_takes bytes rest found (at 4 is) f
    fourth false is f = fifth (eqb tag 5) refl f

    third : (t : Bool) → eqb tag 3 ≡ t
        → cond t (prepared_at rest) (cond (eqb tag 4) (ended_at rest) (cond (eqb tag 5) (local_at rest) (cond (eqb tag 6) (checkpoint_at rest) None))) ≡ Some found → TakesRecord bytes found
    third true is f = prepared_takes bytes rest found (at 3 is) f
    third false is f = fourth (eqb tag 4) refl f

    second : (t : Bool) → eqb tag 2 ≡ t
        → cond t (start_at rest) (cond (eqb tag 3) (prepared_at rest) (cond (eqb tag 4) (ended_at rest) (cond (eqb tag 5) (local_at rest) (cond (eqb tag 6) (checkpoint_at rest) None)))) ≡ Some found
        → TakesRecord bytes found
    second true is f = start_takes bytes rest found (at 2 is) f
    second false is f = third (eqb tag 3) refl f

    first : (t : Bool) → eqb tag 1 ≡ t
        → cond t (setup_at rest)
        (cond (eqb tag 2) (start_at rest) (cond (eqb tag 3) (prepared_at rest) (cond (eqb tag 4) (ended_at rest) (cond (eqb tag 5) (local_at rest) (cond (eqb tag 6) (checkpoint_at rest) None)))))
        ≡ Some found → TakesRecord bytes found
    first true is f = setup_takes bytes rest found (at 1 is) f
    first false is f = second (eqb tag 2) refl f

-- what a payload is read as is a record that it spells
pub read_is_spelled : (payload : List ℕ) (entry : SiteRecord) → IsBytes payload → reading payload ≡ Some entry → IsRecord entry × (payload ≡ spelling entry)
unfolding reading
read_is_spelled payload entry fits e =
    let found = bind_some (number_at 1 payload >>= λ tag. tagged_at tag.0 tag.1) (λ found. at_end found.0 found.1) entry e in
    let tag = bind_some (number_at 1 payload) (λ tag. tagged_at tag.0 tag.1) found.0 found.1 in
    let t = number_takes 1 payload tag.0 fits tag.1 in
    let r = tagged_takes payload tag.0.0 tag.0.1 found.0 t.0 tag.2 in
    let ends = ends_there found.0.0 found.0.1 entry found.2 in
    let none = ends.0 in
    let parts : payload ≡ spelling found.0.0 ++ [] = r.0.parts ∙ ap (λ (l : List ℕ). spelling found.0.0 ++ l) none in
    subst (λ (x : SiteRecord). IsRecord x × (payload ≡ spelling x)) ends.1 (r.1, parts ∙ append-nil (spelling found.0.0))

-- a record that was spelled, whatever follows it
tagged_again : (entry : SiteRecord) (rest : List ℕ) → IsRecord entry → (number_at 1 (spelling entry ++ rest) >>= λ tag. tagged_at tag.0 tag.1) ≡ Some (entry, rest)
unfolding setup_at start_at prepared_at ended_at local_at checkpoint_at
tagged_again (Setup site engine protocol items) rest fits =
    number_then 1 1 (setup.spelling (site, (engine, (protocol, items))) ++ rest) (λ tag. tagged_at tag.0 tag.1) (omega arith)
    ∙ variant_again 1 setup (λ f. Setup f.0 f.1.0 f.1.1.0 f.1.1.1) spelling IsRecord exact_setup (λ f. refl) (site, (engine, (protocol, items))) rest fits
tagged_again (Start epoch) rest fits =
    number_then 1 2 (start.spelling epoch ++ rest) (λ tag. tagged_at tag.0 tag.1) (omega arith)
    ∙ variant_again 2 start (λ f. Start f) spelling IsRecord (exact_number 4) (λ f. refl) epoch rest fits
tagged_again (Prepared tid epoch serial ticket rows) rest fits =
    number_then 1 3 (prepared.spelling (tid, (epoch, (serial, (ticket, rows)))) ++ rest) (λ tag. tagged_at tag.0 tag.1) (omega arith)
    ∙ variant_again 3 prepared (λ f. Prepared f.0 f.1.0 f.1.1.0 f.1.1.1.0 f.1.1.1.1) spelling IsRecord exact_prepared (λ f. refl) (tid, (epoch, (serial, (ticket, rows)))) rest fits
tagged_again (Ended tid decision) rest fits =
    number_then 1 4 (ended.spelling (tid, decision) ++ rest) (λ tag. tagged_at tag.0 tag.1) (omega arith)
    ∙ variant_again 4 ended (λ f. Ended f.0 f.1) spelling IsRecord exact_ended (λ f. refl) (tid, decision) rest fits
tagged_again (Local tid serial rows) rest fits =
    number_then 1 5 (local.spelling (tid, (serial, rows)) ++ rest) (λ tag. tagged_at tag.0 tag.1) (omega arith)
    ∙ variant_again 5 local (λ f. Local f.0 f.1.0 f.1.1) spelling IsRecord exact_local (λ f. refl) (tid, (serial, rows)) rest fits
tagged_again (Checkpoint sum) rest fits =
    number_then 1 6 (checkpoint.spelling sum ++ rest) (λ tag. tagged_at tag.0 tag.1) (omega arith)
    ∙ variant_again 6 checkpoint (λ f. Checkpoint f) spelling IsRecord exact_checkpoint (λ f. refl) sum rest fits

pub spelled_is_read : (entry : SiteRecord) → IsRecord entry → reading (spelling entry) ≡ Some entry
unfolding reading
spelled_is_read entry fits =
    let same : spelling entry ≡ spelling entry ++ [] = sym (append-nil (spelling entry)) in
    let again = tagged_again entry [] fits in
    rw same (rw again refl)
