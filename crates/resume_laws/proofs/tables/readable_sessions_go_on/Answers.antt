use Rattle.resume_laws.proofs.Rightly.{goes_on_rightly}
use Rattle.resume_laws.proofs.tables.readable_sessions_go_on.Goals as goal

pub returns : goal.returns
returns c =
    goes_on_rightly c.each_site_of_a_story_is_serial.ensures.serial c.federation_is_serializable.ensures.headline
    c.inquiries_in_doubt_are_answered_the_outcome.ensures.presumption
