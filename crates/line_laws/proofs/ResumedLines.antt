-- Each right line of a session that goes on from usable disks is one that its command can have.
use Rattle.std.proofs.Common.{◌≡◌, true, false, Some, None, inl, sym, ◌∙◌, subst}
use Rattle.fed_rules.specs.CoordPast as Coordinator
use Rattle.fed_rules.specs.CoordPast.{CoordPast}
use Rattle.fed_rules.specs.Found.{Found}
use Rattle.fed_rules.specs.Resumed.{going_on}
use Rattle.fed_rules.specs.SitePast.{SitePast, trip}
use Rattle.commit_laws.proofs.ForCallers.{HasCalls}
use Rattle.found_laws.specs.FoundSessions.{AreUsable}
use Rattle.found_laws.proofs.ForCallers.{begins, fits, idle, nobody_first, plan_sites, session_begins}
use Rattle.line_laws.specs.Resumed.{ResumedLinesFit, ResumedNextLinesFit}
use Rattle.line_laws.proofs.RightLines.{each_line_fits, next_line_fits}
use Rattle.line_laws.proofs.Starts.{Starts}

-- before its first command every actor is down, so nobody is undecided, nothing is armed, and nothing was sent
resumed_starts : (found : Found) → AreUsable found → Starts (going_on found)
resumed_starts found u = record {
  sites = plan_sites found u;
  programs = λ tx steps e. (let clash : None ≡ Some steps = sym ((idle found).globals tx) ∙ e in cc);
  fits = fits found u;
  first = record {
    ready = λ g o. (let clash : true ≡ false = sym o ∙ nobody_first found u g in cc);
    armed = subst (λ (past : CoordPast). HasCalls (Coordinator.trip past)) (sym (begins found u).at_coordinator) (λ t e. cc);
    site_armed = λ home declared.
        let (journal, among, past_is) = (begins found u).at_sites home.site home declared in subst (λ (past : SitePast). HasCalls (trip past)) (sym past_is) (λ t e. cc);
    senders = λ site. inl (session_begins (going_on found) u.coordinator u.is site).from;
  };
}

pub nexts_fit : ResumedNextLinesFit
nexts_fit found u commands line heard next = next_line_fits (going_on found) (resumed_starts found u) commands line heard next

pub lines_fit : ResumedLinesFit
lines_fit found u lines heard right = each_line_fits (going_on found) (resumed_starts found u) lines heard right
