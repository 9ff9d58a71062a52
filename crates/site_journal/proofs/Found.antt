-- What was read is a record, spelled so.
use Rattle.std.proofs.Common.{◌≡◌, ℕ, List, Result, Ok, Err}
use Rattle.std.specs.Prelude.{IfOk}
use Rattle.byte_numbers.specs.Numbers.{IsBytes}
use Rattle.byte_numbers.specs.declared.DecodeErr.{DecodeErr}
use Rattle.fed_rules.specs.declared.records.SiteRecord.{SiteRecord}
use Rattle.record_fields.specs.Items.{Reads}
use Rattle.site_journal.specs.Spelling.{reading, spelling, IsRecord}
use Rattle.site_journal.specs.Exact.{read_is_spelled}

pub is_found : (payload : List ℕ) (outcome : Result SiteRecord DecodeErr) → IsBytes payload → Reads (λ entry. entry) outcome (reading payload) → IfOk outcome (λ entry. IsRecord entry × (payload ≡ spelling entry))
is_found payload (Ok entry) fits read = read_is_spelled payload entry fits read
is_found payload (Err why) fits read = tt
