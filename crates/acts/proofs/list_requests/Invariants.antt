-- The first k numbers are listed.
use Rattle.std.proofs.Common.{◌≡◌, length, map, take}
use Rattle.acts.specs.Acts.{request_of}
use Rattle.acts.proofs.list_requests.Given as goal

abbrev pub invariant-loop-k : goal.invariant-loop-k
invariant-loop-k l = record { long : length l.requests ≡ 100; listed : take l.k l.requests ≡ take l.k (map request_of l.entries) }
