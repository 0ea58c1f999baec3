-- Reached limits (RFC 9110, section 15.6.4).
use Rattle.std.specs.Prelude.{◌≡◌, ◌⊎◌, ℕ, List, [], ◌∷◌, None, Some}
use Rattle.std.specs.declared.option.Option.{Option}
use Rattle.cdni_base.specs.Rule.{rule_status}
use Rattle.cdni_base.specs.declared.rule.Rule.{Rule}
use Rattle.control_request.specs.Control.{Course, NoRoom, Uncalled, Replied, full_count}
use Rattle.history.specs.Event.{Admit, RefreshBegin, Command, Cut}
use Rattle.session_base.specs.Answer.{Answer, IsConstant}
use Rattle.session_base.specs.Content.{IsShown, denied_shown}
use Rattle.session_base.specs.Doing.{Called}
use Rattle.session_base.specs.declared.constant.Constant.TheVariants as constant
use Rattle.session_base.specs.declared.manner.Manner.{Manner}

-- the limit that a call of a request is answered with; the steps of a trigger are none
abbrev pub reached_limit : Called → Option ℕ
reached_limit (Admit request moment, answer) = full_count answer
reached_limit (RefreshBegin moment, answer) = full_count answer
reached_limit (Command spec moment, answer) = full_count answer
reached_limit (Cut moment, answer) = full_count answer
reached_limit call = None

-- one of these calls is answered with this limit
abbrev pub IsFullIn : List Called → ℕ → Type 0
IsFullIn [] count = ⊥
IsFullIn (call ∷ calls) count = (reached_limit call ≡ Some count) ⊎ IsFullIn calls count

-- why a request for content has the status 503: a limit is reached, a rule of this status denies it, or no memory was found
abbrev pub IsUnavailable : Manner → List Called → Answer → Type 0
IsUnavailable manner calls answer = ((count : ℕ) × IsFullIn calls count)
    ⊎ (((rule : Rule) × (rule_status rule ≡ 503) × IsShown (denied_shown manner rule) answer) ⊎ IsConstant constant.Unavailable answer)

-- the same of a request of the upstream CDN with one call at most: its reply is that a limit is reached, it has no call, or no
-- memory was found
abbrev pub IsUnavailableControl : Course → Answer → Type 0
IsUnavailableControl NoRoom answer = IsConstant constant.Unavailable answer
IsUnavailableControl (Uncalled given) answer = given.status ≡ 503
IsUnavailableControl (Replied event line short) answer = ((count : ℕ) × (full_count line ≡ Some count)) ⊎ IsConstant constant.Unavailable answer
