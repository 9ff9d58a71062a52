use Rattle.std.proofs.Common.{◌≡◌, ◌+◌, vec_len, vec_capacity}
use Rattle.federation_run.proofs.hosts.hosts_in.Given as goal

abbrev pub invariant-loop-seat : goal.invariant-loop-seat
invariant-loop-seat g l = record { len : vec_len l.hosts ≡ vec_len l.fn.hosts + l.seat-index; capacity : vec_capacity l.hosts ≡ vec_capacity l.fn.hosts }
