-- When a list of time windows allows a delivery (RFC 8006, section 4.2.3).
use Rattle.std.specs.Prelude.{ℕ, ◌/◌, Bool, ◌&&◌, nat_lt, nat_le, List}
use Rattle.std.specs.List.{list_any}
use Rattle.std.specs.declared.option.Option.{Option}
use Rattle.listing.specs.FirstMatch.{first_match}
use Rattle.time_window.specs.declared.acl.TimeRule.{TimeRule}
use Rattle.time_window.specs.declared.acl.TimeWindow.{TimeWindow}

-- the window holds this second: its start is inside, its end is not
abbrev pub holds_second : ℕ → TimeWindow → Bool
holds_second second window = nat_le window.start second && nat_lt second window.end

-- one of the rule's windows holds the moment, in milliseconds
abbrev pub holds_moment : ℕ → TimeRule → Bool
holds_moment moment rule = list_any (holds_second (moment / 1000)) rule.windows

-- the first rule that holds the moment decides
abbrev pub time_decision : Option (List TimeRule) → ℕ → Bool × Option ℕ
time_decision rules moment = first_match (holds_moment moment) (λ rule. rule.allow) rules
