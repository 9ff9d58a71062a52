use Rattle.federation_run.proofs.wiring.site_wiring_of.Goals as goal

pub returns-clause-stops : goal.returns-clause-stops
returns-clause-stops c = c.in_ok-stops.ensures

pub returns-clause-rings : goal.returns-clause-rings
returns-clause-rings c = c.in_ok-ends.ensures
