-- Which messages of a site speak of an attempt that the coordinator has to know: all but an inquiry, which is answered by presumption.
use Rattle.std.specs.Prelude.{Bool, true, false}
use Rattle.fed_rules.specs.declared.messages.FromSite.{FromSite}
use Rattle.fed_rules.specs.declared.messages.FromSite.TheVariants.{Inquiry}

abbrev pub is_inquiry : FromSite → Bool
is_inquiry (Inquiry tid) = true
is_inquiry message = false
