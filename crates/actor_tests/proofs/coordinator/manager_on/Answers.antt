use Rattle.std.proofs.Common.{◌≡◌, true, List, [], length, refl, sym, ap, subst, rules, arith}
use Rattle.mdb_base.specs.Words.{Each}
use Rattle.presumptions.specs.declared.Participant.{Participant}
use Rattle.fed_rules.specs.declared.scenario.TxLine.{TxLine}
use Rattle.journal_disk.specs.Disk.{Image, IsSound}
use Rattle.coord_core.specs.Stands.{IsEmptyDisk}
use Rattle.site_core.specs.Sessions.{mem_seen}
use Rattle.actor_tests.specs.OfThree.{IsOfThree}
use Rattle.global_manager.specs.Stands.{IsDeclared}
use Rattle.actor_tests.proofs.OfThree.{among_sites, sites_of_three}
use Rattle.actor_tests.proofs.coordinator.manager_on.Goals as goal

pub new-requires-clause-sites : goal.new-requires-clause-sites
new-requires-clause-sites g c = sites_of_three c.in_ok-sites.sites c.in_ok-sites.ensures

pub new-requires-clause-declared : goal.new-requires-clause-declared
new-requires-clause-declared g c =
    let is : c.deref.result.now ≡ c.in_ok-lines.lines.items = cc in
    subst (λ (lines : List TxLine). Each (IsDeclared c.in_ok-sites.sites) lines) (sym is)
    (subst (λ (ps : List Participant). Each (IsDeclared ps) c.in_ok-lines.lines.items) (sym c.in_ok-sites.ensures) c.in_ok-lines.ensures)

pub returns : goal.returns
unfolding IsOfThree
returns g c =
    let empty : IsEmptyDisk true (mem_seen c.args.disk.now) = record {
      told = search rules;
      empty = ap (λ (image : Image). length image.bytes) c.requires;
      bytes = refl;
      sound = subst (λ (image : Image). IsSound image) (sym c.requires) (omega arith);
    } in
    record {
      terms = _;
      programs = _;
      past = [];
      stood = c.in_ok-manager.ensures true (mem_seen c.args.disk.now) empty;
      holds = among_sites c.in_ok-sites.sites c.in_ok-sites.ensures;
    }
