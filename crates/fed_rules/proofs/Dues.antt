-- What is due from a coordinator to a site.
use Rattle.std.proofs.Common.{ℕ}
use Rattle.fed_rules.specs.Site_of.{due_site}
use Rattle.fed_rules.specs.declared.messages.Due.{Due}

abbrev pub due_number : Due → ℕ
due_number b = (due_site b).0
