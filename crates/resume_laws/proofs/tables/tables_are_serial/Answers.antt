use Rattle.resume_laws.proofs.TablesAgain.{all_tables}
use Rattle.resume_laws.proofs.tables.tables_are_serial.Goals as goal

pub returns : goal.returns
returns c =
    all_tables c.each_site_of_a_story_is_serial.ensures.serial c.federation_is_serializable.ensures.headline
    c.inquiries_in_doubt_are_answered_the_outcome.ensures.presumption
