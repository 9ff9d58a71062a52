-- The steps of a driver.
use Rattle.std.proofs.Common.{◌≡◌, ℕ, ◌+◌, ◌<◌, false, List, [], ◌∷◌, ◌++◌, length, Result, Ok, Err, IsErr, IsErrAnd, refl, ap, ◌∙◌, arith}
use Rattle.std.proofs.lemmas.Bool.{lt-ltb}
use Rattle.mdb_base.proofs.ForCallers.{cond-false, cond-true, not_below}
use Rattle.fed_rules.specs.declared.answers.Answer.{Answer}
use Rattle.fed_rules.specs.declared.commands.Command.{Command}
use Rattle.line_text.specs.declared.error.DoorErr.{DoorErr}
use Rattle.client_drivers.specs.declared.doors.Driven.{Driven}
use Rattle.client_drivers.specs.Calls.{Called, Notes}
use Rattle.client_drivers.specs.Table.{Turn, Makes, Ends, within}
use Rattle.client_drivers.specs.Driving.{Follows, IsDriven}

-- a table with so many turns
abbrev pub limited : ℕ → (List Called → Turn) → List Called → Turn
limited turns next calls = within turns calls (next calls)

-- The calls so far are the table's, the next one is this, and something is known of them.
pub record IsGoing {D : Type 0} (tells : D → List Called → Type 0) (next : List Called → Turn) (turns : ℕ) (known : List Called → Type 0) (old new : D) (call : Command) (made : ℕ) : Type 0 where
  pub calls : List Called
  pub told : (before : List Called) → tells old before → tells new (calls ++ before)
  pub follows : Follows (limited turns next) calls
  pub next_is : next calls ≡ Makes call
  pub count : length calls ≡ made
  pub knows : known calls

pub starts : {D : Type 0} (tells : D → List Called → Type 0) (next : List Called → Turn) (turns : ℕ) (known : List Called → Type 0) (door : D) (call : Command) →
    next [] ≡ Makes call → known [] → IsGoing tells next turns known door door call 0
starts tells next turns known door call first knows = record { calls = []; told = λ before h. h; follows = tt; next_is = first; count = refl; knows = knows }

-- within the turns the next call is the table's
asks : (turns : ℕ) (next : List Called → Turn) (calls : List Called) (call : Command) → next calls ≡ Makes call → length calls < turns → limited turns next calls ≡ Makes call
asks turns next calls call e lt = ap (within turns calls) e ∙ cond-true _ (Makes call) _ (lt-ltb (length calls) turns lt)

-- behind the last turn the driver ends
asks_no_more : (turns : ℕ) (next : List Called → Turn) (calls : List Called) (call : Command) → next calls ≡ Makes call → length calls ≡ turns →
    limited turns next calls ≡ Ends (Ok (record { used = turns; committed = false }))
asks_no_more turns next calls call e full =
    let out : ℕ → Turn = λ n. Ends (Ok (record { used = n; committed = false })) in
    ap (within turns calls) e ∙ (cond-false _ (Makes call) (out (length calls)) (not_below (length calls) turns (omega arith)) ∙ ap out full)

-- the call with its answer
abbrev pub called : Command → Result Answer DoorErr → Called
called command answer = record { command = command; answer = answer }

-- behind an answer that doesn't end it the driver goes on
pub goes_on : {D : Type 0} (tells : D → List Called → Type 0) (next : List Called → Turn) (turns : ℕ) (known knows : List Called → Type 0) (old mid new : D)
    (call then : Command) (answer : Result Answer DoorErr) (made : ℕ) (g : IsGoing tells next turns known old mid call made) → made < turns →
    Notes tells mid new call answer → next (called call answer ∷ g.calls) ≡ Makes then → knows (called call answer ∷ g.calls) →
    IsGoing tells next turns knows old new then (made + 1)
goes_on tells next turns known knows old mid new call then answer made g lt notes makes k =
    let n = g.count in
    record {
      calls = called call answer ∷ g.calls;
      told = λ before h. notes (g.calls ++ before) (g.told before h);
      follows = (asks turns next g.calls call g.next_is (omega arith), g.follows);
      next_is = makes;
      count = omega arith;
      knows = k;
    }

-- an answer that ends it, or an error
pub ends_now : {D : Type 0} (tells : D → List Called → Type 0) (next : List Called → Turn) (turns : ℕ) (known : List Called → Type 0) (old mid new : D)
    (call : Command) (answer : Result Answer DoorErr) (made : ℕ) (result : Result Driven DoorErr) (g : IsGoing tells next turns known old mid call made) → made < turns →
    Notes tells mid new call answer → next (called call answer ∷ g.calls) ≡ Ends result → IsDriven tells (limited turns next) old new result
ends_now tells next turns known old mid new call answer made result g lt notes ends =
    let n = g.count in
    record {
      calls = called call answer ∷ g.calls;
      told = λ before h. notes (g.calls ++ before) (g.told before h);
      follows = (asks turns next g.calls call g.next_is (omega arith), g.follows);
      ends = ap (within turns (called call answer ∷ g.calls)) ends;
    }

-- no turn is left
pub ends_late : {D : Type 0} (tells : D → List Called → Type 0) (next : List Called → Turn) (turns : ℕ) (known : List Called → Type 0) (old new : D)
    (call : Command) (made : ℕ) (g : IsGoing tells next turns known old new call made) → made ≡ turns →
    IsDriven tells (limited turns next) old new (Ok (record { used = turns; committed = false }))
ends_late tells next turns known old new call made g full = record {
  calls = g.calls;
  told = g.told;
  follows = g.follows;
  ends = asks_no_more turns next g.calls call g.next_is (g.count ∙ full);
}

-- an error that is handed on
pub handed_on : (result : Result Driven DoorErr) (error : DoorErr) → IsErr result × IsErrAnd result (λ e. e ≡ error) → result ≡ Err error
handed_on (Ok driven) error h = cc
handed_on (Err e) error h = ap (λ (x : DoorErr). Err x) h.1
