use Rattle.resume_laws.proofs.Readable.{sessions_rest}
use Rattle.resume_laws.proofs.Rightly.{all_go_on}
use Rattle.resume_laws.proofs.tables.sessions_go_on.Goals as goal

pub returns-clause-rightly : goal.returns-clause-rightly
returns-clause-rightly c =
    all_go_on c.each_site_of_a_story_is_serial.ensures.serial c.federation_is_serializable.ensures.headline
    c.inquiries_in_doubt_are_answered_the_outcome.ensures.presumption

pub returns-clause-rest : goal.returns-clause-rest
returns-clause-rest c = sessions_rest
