use Rattle.std.proofs.Common.{Some, None, arith, ◌+◌, ◌≤◌, ◌∙◌, ap, sym, subst}
use Rattle.mdb_base.specs.Rising.{IsRising}
use Rattle.mdb_base.specs.Words.{Each}
use Rattle.presumptions.specs.declared.Participant.{Participant}
use Rattle.std.proofs.lemmas.List.{append-nil}
use Rattle.usable_journals.proofs.DiskLaws.{members_more}
use Rattle.usable_journals.proofs.RisingSites.{below_more, below_push, rising_push}
use Rattle.usable_journals.proofs.journals.protocols_of.Goals as goal
use Rattle.usable_journals.proofs.journals.protocols_of.Goals.{in-Some+in_ok-push, in_default}

pub loop-place-preserved : goal.loop-place-preserved
loop-place-preserved c =
    let old = c.loop-place.protocols.items in
    let n = c.loop-place.place in
    elim c.match-member_at.branch [
      | in-Some+in_ok-push w ↦
          let items = ap (λ v. v.items) w.protocols-is ∙ w.in_ok-push.ensures.items in
          record {
            rising = subst (IsRising (λ (p : Participant). p.site.0)) (sym items) (rising_push old w.in-Some.member n c.loop-place.invariant.rising c.loop-place.invariant.below w.in-Some.ensures.site);
            below = subst (Each (λ (p : Participant). p.site.0 ≤ n + 1)) (sym items) (below_push old w.in-Some.member n c.loop-place.invariant.below w.in-Some.ensures.site);
            items = members_more (λ s. s.now) c.args.sites.now n c.index-sites-place.result old _ (Some w.in-Some.member) (omega arith) c.index-sites-place.is c.loop-place.invariant.items w.in-Some.ensures.is items;
          }
      | in_default w ↦
          let items = ap (λ v. v.items) w.protocols-is in
          record {
            rising = subst (IsRising (λ (p : Participant). p.site.0)) (sym items) c.loop-place.invariant.rising;
            below = subst (Each (λ (p : Participant). p.site.0 ≤ n + 1)) (sym items) (below_more old n c.loop-place.invariant.below);
            items = members_more (λ s. s.now) c.args.sites.now n c.index-sites-place.result old _ None (omega arith) c.index-sites-place.is c.loop-place.invariant.items w.in_default.ensures.is (items ∙ sym (append-nil old));
          }
    ]
