-- What a start of a site takes of those in doubt.
use Rattle.fed_rules.specs.declared.runs.Doubt.{Doubt}
use Rattle.fed_rules.specs.SiteRecords.{Held}

-- a subtransaction in doubt, as its site speaks of it
abbrev pub doubt_held : Held → Doubt
doubt_held held = record { tid = held.tid; epoch = held.epoch; ticket = held.ticket }
