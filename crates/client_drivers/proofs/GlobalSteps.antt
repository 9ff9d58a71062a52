-- The steps of a global driver.
use Rattle.std.proofs.Common.{◌≡◌, ◌≢◌, ℕ, zero, suc, ◌+◌, ◌<◌, ◌≤◌, ◌^◌, inl, inr, ◌&&◌, ◌==◌, Bool, true, false, cond, List, [], ◌∷◌, length, get_or, set, replicate, Option, Some, None, Result, Ok, Err, refl, ap, sym, ◌∙◌, subst, arith}
use Rattle.std.proofs.lemmas.Bool.{eq-eqb}
use Rattle.std.proofs.lemmas.Bool.Decides.{eqb_tells}
use Rattle.std.proofs.Math.ListN.{length-set}
use Rattle.std.proofs.lemmas.List.{get_or-set_same, get_or-set_other}
use Rattle.mdb_base.proofs.ForCallers.{cond-false, cond-true, same_tid-refl, same_tx-equal}
use Rattle.mdb_base.specs.Names.{same_tid, same_tx}
use Rattle.mdb_base.specs.declared.names.Tid.{Tid}
use Rattle.mdb_base.specs.declared.names.Tx.{Tx}
use Rattle.fed_rules.specs.declared.answers.Answer.{Answer}
use Rattle.fed_rules.specs.declared.answers.Answer.TheVariants as Say
use Rattle.fed_rules.specs.declared.commands.Command.{Command}
use Rattle.fed_rules.specs.declared.commands.Command.TheVariants as Call
use Rattle.line_text.specs.declared.error.DoorErr.{DoorErr}
use Rattle.client_drivers.specs.declared.global.CoordCall.{CoordCall}
use Rattle.client_drivers.specs.declared.global.CoordCall.TheVariants as To
use Rattle.client_drivers.specs.Calls.{Called, Notes}
use Rattle.client_drivers.specs.Table.{Makes, Ends, at_answer, end_of, is_again, agains_of, behind_running, behind_global_fate, global_row, global_next, global_turn}
use Rattle.client_drivers.specs.CoordCalls.{command_of, counted, IsByte}
use Rattle.client_drivers.specs.Driving.{IsDriven}
use Rattle.client_drivers.proofs.Driving.{IsGoing, called, starts, goes_on, ends_now, ends_late}

-- the attempt of the transaction with this number
abbrev pub attempt_of : Tx → ℕ → Tid
attempt_of tx attempt = record { tx = tx; attempt = attempt }

-- the counts are those of the agains that were made
abbrev pub Counts : Tx → List ℕ → List Called → Type 0
Counts tx agains calls = (attempt : ℕ) → get_or agains attempt 0 ≡ agains_of calls (attempt_of tx attempt)

-- the driver made so many calls, the next one is this, and these are the counts of its agains
pub record IsGlobal {D : Type 0} (tells : D → List Called → Type 0) (tries turns : ℕ) (tx : Tx) (old new : D) (call : CoordCall) (agains : List ℕ) (made : ℕ) : Type 0 where
  pub going : IsGoing tells (global_next tries tx) turns (Counts tx agains) old new (command_of tx call) made

none_counted : (n attempt : ℕ) → get_or {A = ℕ} (replicate n 0) attempt 0 ≡ 0
none_counted zero attempt = refl
none_counted (suc n) zero = refl
none_counted (suc n) (suc attempt) = none_counted n attempt

pub global_starts : {D : Type 0} (tells : D → List Called → Type 0) (tries turns : ℕ) (tx : Tx) (door : D) (n : ℕ) →
    IsGlobal tells tries turns tx door door To.Go (replicate n 0) 0
global_starts tells tries turns tx door n = record {
  going = starts tells (global_next tries tx) turns (Counts tx (replicate n 0)) door (command_of tx To.Go) refl (none_counted n);
}

one_more : (b : Bool) (n m : ℕ) → n ≤ m → cond b (suc n) n ≤ suc m
one_more true n m h = omega arith
one_more false n m h = omega arith

-- no attempt was asked again more often than there were calls
at_most : (tid : Tid) (calls : List Called) → agains_of calls tid ≤ length calls
at_most tid [] = omega arith
at_most tid (c ∷ calls) = one_more (is_again tid c.command) (agains_of calls tid) (length calls) (at_most tid calls)

pub few_agains : {D : Type 0} (tells : D → List Called → Type 0) (tries turns : ℕ) (tx : Tx) (old new : D) (call : CoordCall) (agains : List ℕ) (made : ℕ) →
    IsGlobal tells tries turns tx old new call agains made → made < turns → turns < 2 ^ 32 → (attempt : ℕ) → get_or agains attempt 0 + 1 < 2 ^ 32
few_agains tells tries turns tx old new call agains made h lt fits attempt =
    let n = h.going.count in
    let k = h.going.knows attempt in
    let m = at_most (attempt_of tx attempt) h.going.calls in
    omega arith

not_same : (tx : Tx) (a b : ℕ) → a ≢ b → same_tid (attempt_of tx a) (attempt_of tx b) ≡ false
not_same tx a b ne = elim (eqb_tells a b) [
  | inl (is, same) ↦ absurd (ne same)
  | inr (isnt, other) ↦ ap (λ (x : Bool). x && (a == b)) (eq-eqb tx.0 tx.0 refl) ∙ isnt
]

pub counted_length : (call : CoordCall) (agains : List ℕ) → length (counted call agains) ≡ length agains
counted_length (To.Again n) agains = length-set agains n (get_or agains n 0 + 1)
counted_length call agains = refl

-- a call is counted, if it is an again
pub counts_more : (tx : Tx) (agains : List ℕ) (calls : List Called) (call : CoordCall) (answer : Result Answer DoorErr) → length agains ≡ 256 →
    IsByte call → Counts tx agains calls → Counts tx (counted call agains) (called (command_of tx call) answer ∷ calls)
counts_more tx agains calls To.Go answer size fits h attempt = h attempt
counts_more tx agains calls To.Fate answer size fits h attempt = h attempt
counts_more tx agains calls (To.Late n) answer size fits h attempt = h attempt
counts_more tx agains calls (To.Again n) answer size fits h attempt = elim (eqb_tells n attempt) [
  | inl (is, same) ↦
      let inside : n < length agains = let f : n < 256 = fits in omega arith in
      subst (λ (k : ℕ). get_or (set agains n (get_or agains n 0 + 1)) k 0 ≡ agains_of (called (Call.Again (attempt_of tx n)) answer ∷ calls) (attempt_of tx k)) same
      (get_or-set_same agains n (get_or agains n 0 + 1) 0 inside
      ∙ (ap (λ (m : ℕ). m + 1) (h n) ∙ (omega arith ∙ sym (cond-true _ (suc (agains_of calls (attempt_of tx n))) (agains_of calls (attempt_of tx n)) (same_tid-refl (attempt_of tx n))))))
  | inr (isnt, ne) ↦
      get_or-set_other agains n attempt (get_or agains n 0 + 1) 0 (λ e. ne (sym e))
      ∙ (h attempt ∙ sym (cond-false _ (suc (agains_of calls (attempt_of tx attempt))) (agains_of calls (attempt_of tx attempt)) (not_same tx n attempt ne)))
]

of_test : {A : Type 0} (b : Bool) (x y z : A) → (b ≡ true → x ≡ y) → cond b x z ≡ cond b y z
of_test true x y z f = f refl
of_test false x y z f = refl

-- what the counts say of an answer is what the agains say
fate_counts : (tries : ℕ) (tx : Tx) (agains : List ℕ) (calls : List Called) (tid : Tid) → Counts tx agains calls →
    cond (same_tx tid.tx tx) (behind_running tries (get_or agains tid.attempt 0) tid) (Call.Fate tx) ≡ cond (same_tx tid.tx tx) (behind_running tries (agains_of calls tid) tid) (Call.Fate tx)
fate_counts tries tx agains calls tid h =
    of_test (same_tx tid.tx tx) _ _ (Call.Fate tx)
    (λ e. ap (λ (n : ℕ). behind_running tries n tid) (h tid.attempt ∙ ap (λ (t : Tx). agains_of calls (attempt_of t tid.attempt)) (sym (same_tx-equal tid.tx tx e))))

row_counts : (tries : ℕ) (tx : Tx) (agains : List ℕ) (calls : List Called) (answer : Answer) → Counts tx agains calls →
    behind_global_fate tries (λ (tid : Tid). get_or agains tid.attempt 0) tx answer ≡ behind_global_fate tries (agains_of calls) tx answer
row_counts tries tx agains calls (Say.Running tid) h = fate_counts tries tx agains calls tid h
row_counts tries tx agains calls answer h = refl

call_counts : (tries : ℕ) (tx : Tx) (agains : List ℕ) (calls : List Called) (call : CoordCall) (answer : Answer) → Counts tx agains calls →
    global_row tries (λ (tid : Tid). get_or agains tid.attempt 0) tx (command_of tx call) answer ≡ global_row tries (agains_of calls) tx (command_of tx call) answer
call_counts tries tx agains calls To.Fate answer h = row_counts tries tx agains calls answer h
call_counts tries tx agains calls call answer h = refl

pub global_goes_on : {D : Type 0} (tells : D → List Called → Type 0) (tries turns : ℕ) (tx : Tx) (old mid new : D) (call then : CoordCall) (answer : Answer) (agains now : List ℕ) (made : ℕ) →
    IsGlobal tells tries turns tx old mid call agains made → length agains ≡ 256 → IsByte call → made < turns →
    Notes tells mid new (command_of tx call) (Ok answer) → end_of answer ≡ None → now ≡ counted call agains →
    command_of tx then ≡ global_row tries (λ (tid : Tid). get_or now tid.attempt 0) tx (command_of tx call) answer → IsGlobal tells tries turns tx old new then now (made + 1)
global_goes_on tells tries turns tx old mid new call then answer agains now made h size fits lt notes on counts next =
    let g = h.going in
    let calls = called (command_of tx call) (Ok answer) ∷ g.calls in
    let knows : Counts tx now calls = subst (λ (xs : List ℕ). Counts tx xs calls) (sym counts) (counts_more tx agains g.calls call (Ok answer) size fits g.knows) in
    let makes : global_next tries tx calls ≡ Makes (command_of tx then) =
    ap (λ (o : Option Bool). at_answer (length calls) o (global_row tries (agains_of calls) tx (command_of tx call) answer)) on
    ∙ ap (λ (c : Command). Makes c) (sym (call_counts tries tx now calls call answer knows) ∙ sym next) in
    record { going = goes_on tells (global_next tries tx) turns _ (Counts tx now) old mid new (command_of tx call) (command_of tx then) (Ok answer) made g lt notes makes knows }

pub global_ends : {D : Type 0} (tells : D → List Called → Type 0) (tries turns : ℕ) (tx : Tx) (old mid new : D) (call : CoordCall) (answer : Answer) (agains : List ℕ) (made : ℕ) (committed : Bool) →
    IsGlobal tells tries turns tx old mid call agains made → made < turns → Notes tells mid new (command_of tx call) (Ok answer) → end_of answer ≡ Some committed →
    IsDriven tells (global_turn tries turns tx) old new (Ok (record { used = made + 1; committed = committed }))
global_ends tells tries turns tx old mid new call answer agains made committed h lt notes end =
    let g = h.going in
    let calls = called (command_of tx call) (Ok answer) ∷ g.calls in
    let count : length calls ≡ made + 1 = let n = g.count in omega arith in
    ends_now tells (global_next tries tx) turns _ old mid new (command_of tx call) (Ok answer) made (Ok (record { used = made + 1; committed = committed })) g lt notes
    (ap (λ (o : Option Bool). at_answer (length calls) o (global_row tries (agains_of calls) tx (command_of tx call) answer)) end
    ∙ ap (λ (n : ℕ). Ends (Ok (record { used = n; committed = committed }))) count)

pub global_fails : {D : Type 0} (tells : D → List Called → Type 0) (tries turns : ℕ) (tx : Tx) (old mid new : D) (call : CoordCall) (error : DoorErr) (agains : List ℕ) (made : ℕ) →
    IsGlobal tells tries turns tx old mid call agains made → made < turns → Notes tells mid new (command_of tx call) (Err error) →
    IsDriven tells (global_turn tries turns tx) old new (Err error)
global_fails tells tries turns tx old mid new call error agains made h lt notes =
    ends_now tells (global_next tries tx) turns _ old mid new (command_of tx call) (Err error) made (Err error) h.going lt notes refl

pub global_ends_late : {D : Type 0} (tells : D → List Called → Type 0) (tries turns : ℕ) (tx : Tx) (old new : D) (call : CoordCall) (agains : List ℕ) (made : ℕ) →
    IsGlobal tells tries turns tx old new call agains made → made ≡ turns →
    IsDriven tells (global_turn tries turns tx) old new (Ok (record { used = turns; committed = false }))
global_ends_late tells tries turns tx old new call agains made h full =
    ends_late tells (global_next tries tx) turns _ old new (command_of tx call) made h.going full
