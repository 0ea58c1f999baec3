-- The words of the command that passes a trigger command on.
use Rattle.std.specs.Prelude.{ℕ, ◌+◌, Bool, true, false, not, List, [], ◌∷◌, length, map, None, Some, String}
use Rattle.std.specs.Prelude.{string_bytes, bytes_eq, codes, nat_le, ◌&&◌, if◌then◌else◌}
use Rattle.std.specs.List.{list_any}
use Rattle.std.specs.Option.{option_map}
use Rattle.std.specs.Result.{result_ok}
use Rattle.std.specs.declared.alloc.Global.{Global}
use Rattle.std.specs.declared.option.Option.{Option}
use Rattle.cdni_base.specs.Provider.{provider_of}
use Rattle.cdni_base.specs.declared.provider.ProviderId.{ProviderId}
use Rattle.listing.specs.Number.{number_of}
use Rattle.listing.specs.Word.{◌>>=◌, parts_at}
use Rattle.targets.specs.Target.{begins_with, target_of}
use Rattle.targets.specs.declared.target.Target.{Target}
use Rattle.trigger_cascade.specs.OrderParts.{OrderParts}
use Rattle.trigger_cascade.specs.declared.cdn.Cdn.{Cdn}
use Rattle.trigger_cascade.specs.declared.cdn.Standing.TheVariants.{Waiting}

-- the provider id that the text writes (RFC 8007, section 4.6)
abbrev pub provider_in : List ℕ → Option ProviderId
provider_in text = result_ok (provider_of text)

-- the target of an absolute URL of the scheme `http` (RFC 9110, section 4.2.1)
abbrev pub is_http : List ℕ → Bool
is_http url = begins_with (codes "http://") url

abbrev pub http_target : List ℕ → Option Target
http_target url = if is_http url then result_ok (target_of url None false) else None

-- a CDN: its id, `=`, and the URL where it takes commands
abbrev pub cdn_at : List ℕ × List ℕ → Option Cdn
cdn_at parts = provider_in parts.0 >>= λ id. http_target parts.1 >>= λ to.
    Some (record { id = id; to = to; standing = Waiting })

abbrev pub cdn_of : List ℕ → Option Cdn
cdn_of word = parts_at 61 word >>= cdn_at

abbrev pub each_cdn : List (String Global) → Option (List Cdn)
each_cdn [] = Some []
each_cdn (word ∷ words) = cdn_of (string_bytes word) >>= λ cdn. each_cdn words >>= λ cdns. Some (cdn ∷ cdns)

-- a number of rounds, from 1 to 1,000
abbrev pub within : ℕ → ℕ → ℕ → Option ℕ
within least most n = if nat_le least n && nat_le n most then Some n else None

abbrev pub rounds_of : List ℕ → Option ℕ
rounds_of text = number_of text >>= within 1 1000

-- no id is twice
abbrev pub has_id : ProviderId → List Cdn → Bool
has_id id cdns = list_any (λ cdn. bytes_eq cdn.id.0 id.0) cdns

abbrev pub differ : List Cdn → Bool
differ [] = true
differ (cdn ∷ cdns) = not (has_id cdn.id cdns) && differ cdns

abbrev pub are_distinct : ProviderId → List Cdn → Bool
are_distinct own cdns = not (has_id own cdns) && differ cdns

-- 1 to 16 CDNs, of which no two have one id and none has that of this CDN
abbrev pub order_with : ProviderId → ℕ → List Cdn → Option OrderParts
order_with own rounds cdns = if nat_le 1 (length cdns) && nat_le (length cdns) 16 && are_distinct own cdns
    then Some (record { own = own; rounds = rounds; cdns = cdns }) else None

abbrev pub order_in : List ℕ → List ℕ → List (String Global) → Option OrderParts
order_in own rounds cdns = provider_in own >>= λ id. rounds_of rounds >>= λ n. each_cdn cdns >>= order_with id n

-- the word `cascade`, the id of this CDN, a number of rounds, and the CDNs
abbrev pub order_of : List (String Global) → Option OrderParts
order_of [] = None
order_of (first ∷ []) = None
order_of (first ∷ own ∷ []) = None
order_of (first ∷ own ∷ rounds ∷ cdns) = if bytes_eq (string_bytes first) (codes "cascade")
    then order_in (string_bytes own) (string_bytes rounds) cdns else None
