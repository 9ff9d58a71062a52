use Rattle.std.proofs.Common.{◌≡◌, ◌-◌, Some, List, length, slice_get, sym, subst, eqb-true}
use Rattle.federation_run.specs.declared.wired.WiredSite.{WiredSite}
use Rattle.federation_run.proofs.seats.is_next.Goals as goal

pub returns-in-Some : goal.returns-in-Some
returns-in-Some c = λ is. record {
  wired = c.in-Some.wired.now;
  at = subst (λ (bs : List WiredSite). slice_get bs (length bs - 1) ≡ Some c.in-Some.wired.now) c.as_slice.ensures.value (sym c.in-Some.ensures.value);
  site = eqb-true c.in-Some.wired.now.ends.site.0 c.args.actor is;
}

pub returns-in-None : goal.returns-in-None
returns-in-None c = λ is. absurd (cc)
