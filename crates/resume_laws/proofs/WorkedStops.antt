-- A session is stopped while it goes on, and the one behind it ends as it would have ended; and what wrong rules make of its disks.
use Rattle.std.proofs.Common.{◌≡◌, ◌⊎◌, false, [], ◌∷◌, reverse, refl, sym, ap, subst, inl, inr, arith}
use Rattle.mdb_base.specs.declared.names.SiteTicket.{SiteTicket}
use Rattle.mdb_base.specs.Names.{same_tid}
use Rattle.mdb_base.specs.Words.{Each}
use Rattle.mdb_base.proofs.ForCallers.{some_parts}
use Rattle.order_laws.specs.Chains.{In}
use Rattle.order_laws.specs.Tickets.{HasNoCycle, Ticketed}
use Rattle.presumptions.specs.declared.Protocol.TheVariants as By
use Rattle.fed_rules.specs.declared.records.CoordRecord.{CoordRecord}
use Rattle.fed_rules.specs.EngineLines.{AreApart}
use Rattle.fed_rules.specs.Found.{Journal}
use Rattle.fed_rules.specs.Resumed.{going_on, plan_of, rest_of, resumed, resumed_lines}
use Rattle.fed_rules.specs.Scenarios.{protocols}
use Rattle.fed_rules.specs.SiteRecords.{Held, kept_held}
use Rattle.fed_rules.specs.Usable.{AreUnnamed, IsUsableCoordinator, IsUsableSite}
use Rattle.fed_rules.proofs.ForCallers.{opened}
use Rattle.resume_laws.specs.Again.{left_again}
use Rattle.found_laws.specs.Ranges.{CoordInRange, IsInRange}
use Rattle.resume_laws.specs.Closed.{IsSession}
use Rattle.found_laws.specs.FoundSessions.{AreOfDisks, AreUsable}
use Rattle.resume_laws.specs.WorkedDisks.{first_try}
use Rattle.resume_laws.specs.WorkedStops.{KnowsAForgottenOne, committed, in_doubt, left_behind, lines_behind, newest_left, one, prepared, set_up, stopped_session}

pub lines_end : resumed_lines left_behind ≡ reverse lines_behind
unfolding opened
lines_end = refl

pub disks_left : left_again in_doubt stopped_session ≡ left_behind
unfolding opened
disks_left = refl

pub ends_the_same : rest_of left_behind (resumed left_behind) ≡ rest_of in_doubt (resumed in_doubt)
unfolding opened
ends_the_same = refl

pub newest_is_foreign : AreUsable (newest_left left_behind) → ⊥
newest_is_foreign u = by_sites u.sites
  where
    by_sites : AreOfDisks 0 (newest_left left_behind).sites → ⊥
    by_sites (number, less, most, usable, rest) = usable.first

pub knows_a_forgotten_one : KnowsAForgottenOne
knows_a_forgotten_one = record {
  members = record { site = one; protocol = By.Nothing } ∷ [];
  sum = record { open_attempts = []; committed = record { tid = first_try 1; tickets = record { site = one; ticket = 1 } ∷ [] } ∷ [] };
  tid = first_try 1;
  forgotten = refl;
  rightly = refl;
  wrongly = refl;
}

-- ---- the disks are usable

abbrev node : Ticketed
node = record { tid = first_try 1; tickets = record { site = one; ticket = 1 } ∷ [] }

no_cycle : HasNoCycle (node ∷ [])
no_cycle t [] c = c.some refl
no_cycle t (e ∷ es) c =
    let edge = c.edges.0 in
    let from = only edge.from edge.has_from in
    let to = only edge.to edge.has_to in
    let p = edge.precedes in
    let a = ticket_of edge.from p.smaller from p.first in
    let b = ticket_of edge.to p.greater to p.second in
    let less = p.less in absurd (omega (arith, a, b, less))
  where
    only : (n : Ticketed) → In n (node ∷ []) → node ≡ n
    only n (inl e) = e
    only n (inr none) = absurd none

    ticket_of : (n : Ticketed) (k : SiteTicket) → node ≡ n → In k n.tickets → k.ticket ≡ 1
    ticket_of n k e i = by_node (subst (λ (m : Ticketed). In k m.tickets) (sym e) i)
      where
        by_node : In k node.tickets → k.ticket ≡ 1
        by_node (inl f) = sym (ap (λ (j : SiteTicket). j.ticket) f)
        by_node (inr none) = absurd none

usable_coordinator : IsUsableCoordinator (protocols (plan_of in_doubt)) committed.records
usable_coordinator = record {
  below = ((omega arith, tt), tt);
  sums = tt;
  order = ((λ i. i), tt);
  once = ((λ i. i), tt);
  sums_of_open = (tt, tt);
  sites = ((inl refl, tt), tt);
  cycle_free = no_cycle;
}

abbrev held : Held
held = record { tid = first_try 1; epoch = 1; number = 1; ticket = 1; writes = record { key = record { 0 = 5 }; value = 7 } ∷ [] }

one_doubt : (a b : Held) → In a (held ∷ []) → In b (held ∷ []) → same_tid a.tid b.tid ≡ false → AreApart (kept_held a) (kept_held b)
one_doubt a b (inl e) (inl f) other =
    let is : same_tid held.tid held.tid ≡ false = subst (λ (h : Held). same_tid held.tid h.tid ≡ false) (sym f) (subst (λ (h : Held). same_tid h.tid b.tid ≡ false) (sym e) other) in cc
one_doubt a b (inl e) (inr none) other = absurd none
one_doubt a b (inr none) j other = absurd none

usable_site : IsUsableSite 1 (prepared ∷ set_up)
usable_site = record {
  below = ((omega arith, omega arith, omega arith, omega arith, omega arith), (omega arith, (tt, tt)));
  within = (tt, (tt, (tt, tt)));
  first = refl;
  set_up = tt;
  sums = tt;
  epochs = (omega arith, tt);
  once = (none_among, tt);
  numbers_differ = ((λ i. i), tt);
  tickets_rise = (tt, tt);
  parted = λ tx l g. elim l [ inl e ↦ absurd e | inr e ↦ elim e [ inl f ↦ absurd f | inr f ↦ elim f [ inl h ↦ absurd h | inr h ↦ absurd h ] ] ];
  doubts_apart = (one_doubt, ((λ a b i j n. absurd i), ((λ a b i j n. absurd i), (λ a b i j n. absurd i))));
  clear = ((tt, tt), (tt, (tt, tt)));
  on_top = tt;
  sums_of_some = (tt, (tt, (tt, tt)));
}
  where
    none_among : ⊥ ⊎ (⊥ ⊎ ⊥) → ⊥
    none_among (inl e) = e
    none_among (inr (inl e)) = e
    none_among (inr (inr e)) = e

unnamed : AreUnnamed committed.records (prepared ∷ set_up)
unnamed tx (inl none) named = absurd none
unnamed tx (inr (inl none)) named = absurd none
unnamed tx (inr (inr (inl none))) named = absurd none
unnamed tx (inr (inr (inr none))) named = absurd none

pub usable : AreUsable in_doubt
usable = record {
  coordinator = committed;
  is = refl;
  usable = usable_coordinator;
  members = (tt, tt);
  sites = (1, omega arith, omega arith, usable_site, tt);
  unnamed = (unnamed, tt);
}

-- so closing is short behind them: the one attempt that is named lies in its range
in_range : IsInRange (first_try 1)
in_range = (omega arith, omega arith, omega arith)

pub is_session : IsSession (going_on in_doubt)
is_session = inr (record {
  is = refl;
  usable = usable;
  range = record {
    coordinator = λ journal e. subst (λ (j : Journal CoordRecord). Each CoordInRange j.records) (some_parts e) (in_range, tt);
    sites = (((in_range, tt), (tt, (tt, tt))), tt);
  };
})
