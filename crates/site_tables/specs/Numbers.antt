-- The number of the write that gave a version.
use Rattle.std.specs.Prelude.{ℕ, Option, Some, None}
use Rattle.site_tables.specs.declared.versions.Version.{Version}

-- the number of what is kept of a key; that of an absent key is 0
abbrev pub number_of : Option Version → ℕ
number_of None = 0
number_of (Some kept) = kept.number
