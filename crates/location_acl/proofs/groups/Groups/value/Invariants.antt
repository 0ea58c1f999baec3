use Rattle.std.proofs.Common.{◌≡◌, ◌-◌, ◌*◌, ◌^◌, ◌<◌}
use Rattle.location_acl.proofs.groups.Groups.value.Given as goal

-- the groups before the gap, moved up by the places so far
abbrev pub invariant-places : goal.invariant-places
invariant-places l = record { moved : l.high ≡ l.self.front * 65536 ^ (l.counter - l.self.front_len); small : l.high < 65536 ^ l.counter }
