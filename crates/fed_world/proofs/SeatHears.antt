-- What a seat holds behind a line, from what its site was told.
use Rattle.std.proofs.Common.{◌≡◌, ℕ, List, [], ◌∷◌, ◌++◌, length, reverse, option_to_list, refl, sym, ap, ap₂, ◌∙◌, arith}
use Rattle.std.proofs.lemmas.Bool.{cond-false, le-ltb}
use Rattle.std.proofs.lemmas.List.{append_assoc, append-nil, reverse-reverse, length-reverse}
use Rattle.mdb_base.specs.declared.names.SiteId.{SiteId}
use Rattle.fed_rules.specs.declared.commands.Line.{Line}
use Rattle.fed_rules.specs.declared.commands.Place.{Place}
use Rattle.fed_rules.specs.declared.events.SiteEvent.{SiteEvent}
use Rattle.fed_rules.specs.declared.events.SiteStep.{SiteStep}
use Rattle.fed_rules.specs.declared.messages.FromSite.{FromSite}
use Rattle.fed_rules.specs.declared.messages.ToSite.{ToSite}
use Rattle.fed_rules.specs.declared.records.SiteRecord.{SiteRecord}
use Rattle.fed_rules.specs.Requests.{Request, Submits, Declines}
use Rattle.fed_rules.specs.SiteCommands.{past_behind}
use Rattle.fed_rules.specs.SitePast.{SitePast, journal}
use Rattle.fed_rules.specs.SiteRecords.{Home}
use Rattle.fed_rules.specs.Story.{place_from}
use Rattle.site_core.specs.Made.{IsGoingOn}
use Rattle.local_dbms.specs.Stands.{OwnPrograms, Tells, sends_of}
use Rattle.session_report.specs.declared.marks.Mark.{Mark}
use Rattle.session_report.specs.declared.marks.Marks.{Marks}
use Rattle.session_report.specs.Marks.{kept_marks, new_marks}
use Rattle.session_report.proofs.ForCallers.{line_marks_one}
use Rattle.fed_world.proofs.MarkedSeats.{going_marked}
use Rattle.session_routes.specs.declared.traffic.Traffic.{Traffic}
use Rattle.fed_world.specs.SeatParts.{PartAt, PartHears}

-- a journal that didn't grow adds no mark
none_new : (js : List SiteRecord) → new_marks (length js) js ≡ []
none_new [] = refl
none_new (j ∷ js) = cond-false _ _ _ (le-ltb (length (j ∷ js)) (length (j ∷ js)) (omega arith))

-- a request adds the mark of the newest record, where the journal grew
request_marks : (home : Home) (past : SitePast) (r : Request SiteEvent) → IsGoingOn home past
    → kept_marks home past ++ new_marks (length (journal home past)) (journal home (past_behind home past r)) ≡ kept_marks home (past_behind home past r)
request_marks home past (Submits event) m = sym (line_marks_one home past event (going_marked home past m))
request_marks home past (Declines answer) m = ap (λ (ms : List Mark). kept_marks home past ++ ms) (none_new (journal home past)) ∙ append-nil (kept_marks home past)

-- the marks, from the records that stood on the disk before and stand there behind
pub seat_marks : (home : Home) (past : SitePast) (r : Request SiteEvent) (first kept now : List Mark) (before : ℕ) (old new : List SiteRecord) → IsGoingOn home past
    → first ++ kept ≡ kept_marks home past → before ≡ length old → old ≡ reverse (journal home past) → new ≡ reverse (journal home (past_behind home past r))
    → now ≡ kept ++ new_marks before (reverse new) → first ++ now ≡ kept_marks home (past_behind home past r)
seat_marks home past r first kept now before old new m is count was are added =
    let turned : reverse new ≡ journal home (past_behind home past r) = ap (λ (rs : List SiteRecord). reverse rs) are ∙ reverse-reverse (journal home (past_behind home past r)) in
    let many : before ≡ length (journal home past) = count ∙ (ap (λ (rs : List SiteRecord). length rs) was ∙ length-reverse (journal home past)) in
    ap (λ (ms : List Mark). first ++ ms) added
    ∙ (sym (append_assoc first kept (new_marks before (reverse new)))
    ∙ (ap (λ (ms : List Mark). ms ++ new_marks before (reverse new)) is
    ∙ (ap₂ (λ (n : ℕ) (rs : List SiteRecord). kept_marks home past ++ new_marks n rs) many turned ∙ request_marks home past r m)))

-- what the site sends is put behind what it sent, and its place is noted
pub record Sets (step : SiteStep) (old traffic : Traffic) (sends : List Place) : Type 0 where
  pub places : sends ≡ place_from old.site (length old.from.items) (option_to_list step.sends)
  pub site : traffic.site ≡ old.site
  pub to : traffic.to.items ≡ old.to.items
  pub from : traffic.from.items ≡ old.from.items ++ option_to_list step.sends

module _ (K L : Home → OwnPrograms → SitePast → Type 0) (step : SiteStep) (home : Home) (programs : OwnPrograms) (past : SitePast) (first : List Mark) (to : List ToSite) (from : List FromSite) (r : Request SiteEvent) where
  -- the seat behind the line
  pub seat_hears : (line : Line) (own marks : Marks) (old traffic : Traffic) → PartAt K own old home programs past first to from → Tells L step home programs past r
      → line.answer ≡ step.answer → marks.site ≡ own.site → first ++ marks.kept.items ≡ kept_marks home (past_behind home past r) → Sets step old traffic line.sends
      → PartHears L line marks traffic home programs past first to from r
  seat_hears line own marks old traffic p t answer named marked s = record {
    said = answer ∙ t.said;
    places = s.places ∙ (ap₂ (λ (n : ℕ) (ms : List FromSite). place_from old.site n ms) (ap (λ (ms : List FromSite). length ms) p.from) t.sent
        ∙ ap (λ (site : SiteId). place_from site (length from) (sends_of home past r)) p.site);
    next = record {
      dbms = t.next;
      marked = named ∙ p.marked;
      site = s.site ∙ p.site;
      marks = marked;
      to = s.to ∙ p.to;
      from = s.from ∙ ap₂ (λ (ms ns : List FromSite). ms ++ ns) p.from t.sent;
    };
  }
