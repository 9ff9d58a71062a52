-- A line that is added to right ones is right, and what is kept beside the lines stays theirs.
use Rattle.std.proofs.Common.{◌≡◌, ℕ, suc, ◌+◌, ◌≤◌, ◌<◌, ◌^◌, Bool, true, false, cond, Option, List, [], ◌∷◌, ◌++◌, length, map, refl, sym, ap, ap₂, ◌∙◌, subst, arith}
use Rattle.std.specs.Prelude.{option_to_list}
use Rattle.mdb_base.specs.declared.names.SiteId.{SiteId}
use Rattle.mdb_base.specs.declared.names.Tx.{Tx}
use Rattle.mdb_base.proofs.ForCallers.{length-append, length-option, reverse_more}
use Rattle.fed_rules.specs.declared.messages.FromSite.{FromSite}
use Rattle.fed_rules.specs.declared.messages.ToSite.{ToSite}
use Rattle.fed_rules.specs.SitePast.{attempts_of, begins_tx}
use Rattle.fed_rules.specs.Story.{place_from}
use Rattle.fed_messages.specs.declared.Envelope.{Envelope}
use Rattle.fed_messages.specs.declared.Packet.{Packet}
use Rattle.fed_hosts.specs.declared.site_actor.SiteActor.{SiteActor}
use Rattle.fed_hosts.specs.declared.site_actor.LineParts.{LineParts}
use Rattle.fed_hosts.specs.Carrying.{IsTold, turn_of}
use Rattle.host_laws.specs.History.{IsNext}
use Rattle.fed_hosts.specs.Keeps.{IsLogged, most_begun}
use Rattle.host_laws.specs.Lines.{next_stamp, packets_at, stamp_of}
use Rattle.host_laws.specs.Plans.{SitePlan, most_lines}
use Rattle.fed_hosts.specs.Rooms.{HasAdded}
use Rattle.host_laws.specs.Turns.{SiteTurn, begun_in, is_due, is_trip, last_stamp, past_of, sends_at, sent_by, trips_of}
use Rattle.fed_hosts.proofs.Words.{max_below}

module _ {E D : Type 0} (plan : SitePlan) (turns : List SiteTurn) (told : LineParts) (took : Option (Envelope ToSite)) (old new : SiteActor E D)
    (logged : IsLogged plan turns old) (is : IsTold plan turns told took) (site : old.ends.site ≡ plan.home.site) (arms : is_trip told.command ≡ is_due plan turns)
    (less : length turns < most_lines) (added : HasAdded old new told) where
  turn : SiteTurn
  turn = turn_of old told took

  stamp_is : next_stamp old.last told.after ≡ next_stamp (last_stamp turns) (stamp_of took)
  stamp_is = ap₂ next_stamp logged.last is.after

  sent_is : length old.sent.items ≡ length (sent_by plan turns)
  sent_is = ap length logged.sent

  sends_is : option_to_list told.send ≡ sends_at plan turns (turn_of old told took)
  sends_is = is.sends

  next_line : IsNext plan turns (turn_of old told took)
  next_line = record {
    command = is.command;
    answer = is.answer;
    sends = ap (λ (s : SiteId). place_from s (length old.sent.items) (option_to_list told.send)) site
        ∙ ap (λ (n : ℕ). place_from plan.home.site n (option_to_list told.send)) sent_is
        ∙ ap (λ (m : List FromSite). place_from plan.home.site (length (sent_by plan turns)) m) sends_is;
    stamp = stamp_is;
    arms = arms;
  }

  offers_are : packets_at (length old.sent.items) (next_stamp old.last told.after) (option_to_list told.send)
      ≡ packets_at (length (sent_by plan turns)) (next_stamp old.last told.after) (sends_at plan turns (turn_of old told took))
  offers_are = ap (λ (n : ℕ). packets_at n (next_stamp old.last told.after) (option_to_list told.send)) sent_is
      ∙ ap (λ (m : List FromSite). packets_at (length (sent_by plan turns)) (next_stamp old.last told.after) m) sends_is

  few_more : length (sent_by plan turns ++ sends_at plan turns (turn_of old told took)) ≤ suc (length turns)
  few_more =
      let one = subst (λ (m : List FromSite). length m ≤ 1) sends_is (length-option told.send) in
      let few = logged.few_sent in
      omega (arith, length-append (sent_by plan turns) (sends_at plan turns (turn_of old told took)))

  low_more : next_stamp old.last told.after ≤ 2 ^ 62 + suc (length turns)
  low_more =
      let low : old.last ≤ 2 ^ 62 + length turns = subst (λ (n : ℕ). n ≤ 2 ^ 62 + length turns) (sym logged.last) logged.low in
      let small : told.after < 2 ^ 62 = subst (λ (n : ℕ). n < 2 ^ 62) (sym is.after) is.small in
      let both = max_below old.last told.after (2 ^ 62 + length turns) low (omega arith) in
      omega (arith, both)

  counted_more : (tx : Tx) → attempts_of (past_of plan (turn_of old told took ∷ turns)) tx ≡ begun_in tx (turn_of old told took ∷ turns)
  counted_more tx = is.counted tx ∙ ap (λ (n : ℕ). cond (begins_tx tx told.answer) (suc n) n) (logged.counted tx)

  begun_more : (tx : Tx) → begun_in tx (turn_of old told took ∷ turns) ≤ most_begun
  begun_more tx = from (begins_tx tx told.answer) refl where
    from : (b : Bool) → begins_tx tx told.answer ≡ b → cond b (suc (begun_in tx turns)) (begun_in tx turns) ≤ most_begun
    from true e = let below = subst (λ (n : ℕ). n < most_begun) (logged.counted tx) (is.few tx e) in omega (arith, below)
    from false e = logged.few tx

  pub logged_more : new.stops ≡ old.stops → new.armed ≡ trips_of (turn_of old told took ∷ turns) → IsLogged plan (turn_of old told took ∷ turns) new
  logged_more stops armed = record {
    right = (next_line, logged.right);
    lines = added.lines ∙ ap (λ xs. xs ++ (turn_of old told took).line ∷ []) logged.lines ∙ sym (reverse_more (turn_of old told took).line (map (λ (t : SiteTurn). t.line) turns));
    sent = added.sent ∙ ap₂ (λ (xs ys : List FromSite). xs ++ ys) logged.sent sends_is;
    offers = added.offers ∙ ap₂ (λ (xs ys : List Packet). xs ++ ys) logged.offers offers_are;
    stops = ap (λ s. s.items) stops ∙ logged.stops;
    armed = armed;
    last = added.last;
    low = low_more;
    short = omega (arith, less);
    few_sent = few_more;
    counted = counted_more;
    few = begun_more;
  }
