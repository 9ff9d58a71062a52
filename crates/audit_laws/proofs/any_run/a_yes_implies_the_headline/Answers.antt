use Rattle.std.proofs.Common.{map}
use Rattle.fed_rules.specs.declared.commands.Line.{Line}
use Rattle.audit_rules.proofs.ForCallers.{audited}
use Rattle.federation_laws.proofs.ForCallers.{declared-in}
use Rattle.audit_laws.proofs.any_run.a_yes_implies_the_headline.Goals as goal

pub returns : goal.returns
returns g c = λ read is scenario good n texts e.
    audited read is scenario
    (λ lines. record {
      least = c.federation_is_serializable.ensures.headline scenario good (map (λ (line : Line). line.command) lines);
      once = (c.federation_is_serializable.ensures.one_order scenario good (map (λ (line : Line). line.command) lines)).once;
      serial = (c.federation_is_serializable.ensures.one_order scenario good (map (λ (line : Line). line.command) lines)).serial;
    })
    (declared-in scenario) n texts e
