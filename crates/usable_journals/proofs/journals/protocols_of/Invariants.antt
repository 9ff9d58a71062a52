use Rattle.std.proofs.Common.{◌≡◌, ◌≤◌, map, take}
use Rattle.mdb_base.specs.Rising.{IsRising}
use Rattle.mdb_base.specs.Words.{Each}
use Rattle.presumptions.specs.declared.Participant.{Participant}
use Rattle.usable_journals.specs.Disks.{members_from}
use Rattle.usable_journals.proofs.journals.protocols_of.Given as goal

-- the sites so far rise, and are of the disks so far
abbrev pub invariant-loop-place : goal.invariant-loop-place
invariant-loop-place l = record {
  rising : IsRising (λ (p : Participant). p.site.0) l.protocols.items;
  below : Each (λ (p : Participant). p.site.0 ≤ l.place) l.protocols.items;
  items : l.protocols.items ≡ members_from 1 (map (λ s. s.now) (take l.place l.sites));
}
