-- The groups of an IPv6 address as they are read: numbers of 16 bits, put together as numbers to the base 65536.
use Rattle.std.specs.Prelude.{◌≡◌, ℕ, ◌+◌, ◌-◌, ◌*◌, ◌^◌, ◌<◌, ◌≤◌, Bool, true, false, ◌==◌, ◌&&◌, ◌||◌, nat_le, if◌then◌else◌}
use Rattle.location_acl.specs.declared.groups.Groups.{Groups}

-- the numbers have as many groups as is said, there are eight at most, and without a gap none are behind it
pub record AreBounded (g : Groups) : Type 0 where
  pub front : g.front < 65536 ^ g.front_len
  pub back : g.back < 65536 ^ g.back_len
  pub few : g.front_len + g.back_len ≤ 8
  pub plain : g.has_gap ≡ false → g.back_len ≡ 0

abbrev pub no_groups : Groups
no_groups = record { front = 0; front_len = 0; has_gap = false; back = 0; back_len = 0 }

-- so many groups more may follow: there are eight, or seven beside a `::`
abbrev pub has_room : ℕ → Groups → Bool
has_room count g = nat_le (g.front_len + g.back_len + count) (if g.has_gap then 7 else 8)

-- an IPv4 address may follow and end the address
abbrev pub has_room_for_dotted : Groups → Bool
has_room_for_dotted g = has_room 2 g && (g.has_gap || g.front_len == 6)

-- the groups are an address
abbrev pub is_whole : Groups → Bool
is_whole g = g.has_gap || g.front_len == 8

-- one more group
abbrev pub with_group : ℕ → Groups → Groups
with_group group g =
    if g.has_gap then record g { back = g.back * 65536 + group; back_len = g.back_len + 1 }
    else record g { front = g.front * 65536 + group; front_len = g.front_len + 1 }

-- a `::` behind the groups
abbrev pub with_gap : Groups → Groups
with_gap g = record g { has_gap = true }

-- their address, with groups of zeros where the `::` stands
abbrev pub groups_value : Groups → ℕ
groups_value g = g.front * 65536 ^ (8 - g.front_len) + g.back
