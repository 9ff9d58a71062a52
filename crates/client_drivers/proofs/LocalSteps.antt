-- The steps of a local driver.
use Rattle.std.proofs.Common.{◌≡◌, ℕ, suc, ◌+◌, ◌<◌, ◌≤◌, ◌&&◌, Bool, true, false, cond, List, ◌∷◌, length, Option, Some, None, Ok, Err, refl, ap, sym, ◌∙◌, arith}
use Rattle.mdb_base.specs.declared.names.Tx.{Tx}
use Rattle.fed_rules.specs.declared.answers.Answer.{Answer}
use Rattle.fed_rules.specs.declared.commands.Command.{Command}
use Rattle.line_text.specs.declared.error.DoorErr.{DoorErr}
use Rattle.client_drivers.specs.declared.local.SiteCall.{SiteCall}
use Rattle.client_drivers.specs.declared.local.SiteCall.TheVariants as To
use Rattle.client_drivers.specs.Calls.{Called, Notes}
use Rattle.client_drivers.specs.Table as Table
use Rattle.client_drivers.specs.Table.{Turn, Makes, Ends, at_answer, end_of, is_waits, local_row, local_next, local_turn, waits_in_row}
use Rattle.client_drivers.specs.SiteCalls.{command_of, is_step}
use Rattle.client_drivers.specs.Driving.{IsDriven}
use Rattle.client_drivers.proofs.Driving.{IsGoing, called, starts, goes_on, ends_now, ends_late}

-- the driver made so many calls, the next one is this, and so many steps in a row waited
pub record IsLocal {D : Type 0} (tells : D → List Called → Type 0) (tries turns : ℕ) (tx : Tx) (old new : D) (call : SiteCall) (waits made : ℕ) : Type 0 where
  pub going : IsGoing tells (local_next tries tx) turns (λ calls. waits_in_row calls ≡ waits) old new (command_of tx call) made
  pub few : waits ≤ made

pub local_starts : {D : Type 0} (tells : D → List Called → Type 0) (tries turns : ℕ) (tx : Tx) (door : D) → IsLocal tells tries turns tx door door To.Begin 0 0
local_starts tells tries turns tx door = record {
  going = starts tells (local_next tries tx) turns (λ calls. waits_in_row calls ≡ 0) door (command_of tx To.Begin) refl refl;
  few = omega arith;
}

step_is : (tx : Tx) (call : SiteCall) → Table.is_step (command_of tx call) ≡ is_step call
step_is tx To.Begin = refl
step_is tx To.Step = refl
step_is tx To.Commit = refl
step_is tx To.Abort = refl
step_is tx To.Fate = refl

few_more : (b : Bool) (waits now made : ℕ) → now ≡ cond b (waits + 1) 0 → waits ≤ made → now ≤ made + 1
few_more true waits now made e le = omega arith
few_more false waits now made e le = omega arith

pub local_goes_on : {D : Type 0} (tells : D → List Called → Type 0) (tries turns : ℕ) (tx : Tx) (old mid new : D) (call then : SiteCall) (answer : Answer) (waits now made : ℕ) →
    IsLocal tells tries turns tx old mid call waits made → made < turns → Notes tells mid new (command_of tx call) (Ok answer) → end_of answer ≡ None →
    now ≡ cond (is_step call && is_waits answer) (waits + 1) 0 → command_of tx then ≡ local_row tries now tx (command_of tx call) answer →
    IsLocal tells tries turns tx old new then now (made + 1)
local_goes_on tells tries turns tx old mid new call then answer waits now made h lt notes on counts next =
    let g = h.going in
    let calls = g.calls in
    let row : waits_in_row (called (command_of tx call) (Ok answer) ∷ calls) ≡ now =
    ap (λ (b : Bool). cond (b && is_waits answer) (suc (waits_in_row calls)) 0) (step_is tx call)
    ∙ (ap (λ (n : ℕ). cond (is_step call && is_waits answer) n 0) (ap suc g.knows ∙ omega arith) ∙ sym counts) in
    let size = length (called (command_of tx call) (Ok answer) ∷ calls) in
    let makes : local_next tries tx (called (command_of tx call) (Ok answer) ∷ calls) ≡ Makes (command_of tx then) =
    ap (λ (o : Option Bool). at_answer size o (local_row tries (waits_in_row (called (command_of tx call) (Ok answer) ∷ calls)) tx (command_of tx call) answer)) on
    ∙ ap (λ (c : Command). Makes c) (ap (λ (n : ℕ). local_row tries n tx (command_of tx call) answer) row ∙ sym next) in
    record {
      going = goes_on tells (local_next tries tx) turns _ (λ cs. waits_in_row cs ≡ now) old mid new (command_of tx call) (command_of tx then) (Ok answer) made g lt notes makes row;
      few = few_more (is_step call && is_waits answer) waits now made counts h.few;
    }

pub local_ends : {D : Type 0} (tells : D → List Called → Type 0) (tries turns : ℕ) (tx : Tx) (old mid new : D) (call : SiteCall) (answer : Answer) (waits made : ℕ) (committed : Bool) →
    IsLocal tells tries turns tx old mid call waits made → made < turns → Notes tells mid new (command_of tx call) (Ok answer) → end_of answer ≡ Some committed →
    IsDriven tells (local_turn tries turns tx) old new (Ok (record { used = made + 1; committed = committed }))
local_ends tells tries turns tx old mid new call answer waits made committed h lt notes end =
    let g = h.going in
    let calls = g.calls in
    let size = length (called (command_of tx call) (Ok answer) ∷ calls) in
    let count : size ≡ made + 1 = let n = g.count in omega arith in
    ends_now tells (local_next tries tx) turns _ old mid new (command_of tx call) (Ok answer) made (Ok (record { used = made + 1; committed = committed })) g lt notes
    (ap (λ (o : Option Bool). at_answer size o (local_row tries (waits_in_row (called (command_of tx call) (Ok answer) ∷ calls)) tx (command_of tx call) answer)) end
    ∙ ap (λ (n : ℕ). Ends (Ok (record { used = n; committed = committed }))) count)

pub local_fails : {D : Type 0} (tells : D → List Called → Type 0) (tries turns : ℕ) (tx : Tx) (old mid new : D) (call : SiteCall) (error : DoorErr) (waits made : ℕ) →
    IsLocal tells tries turns tx old mid call waits made → made < turns → Notes tells mid new (command_of tx call) (Err error) →
    IsDriven tells (local_turn tries turns tx) old new (Err error)
local_fails tells tries turns tx old mid new call error waits made h lt notes =
    ends_now tells (local_next tries tx) turns _ old mid new (command_of tx call) (Err error) made (Err error) h.going lt notes refl

pub local_ends_late : {D : Type 0} (tells : D → List Called → Type 0) (tries turns : ℕ) (tx : Tx) (old new : D) (call : SiteCall) (waits made : ℕ) →
    IsLocal tells tries turns tx old new call waits made → made ≡ turns →
    IsDriven tells (local_turn tries turns tx) old new (Ok (record { used = turns; committed = false }))
local_ends_late tells tries turns tx old new call waits made h full =
    ends_late tells (local_next tries tx) turns _ old new (command_of tx call) made h.going full
