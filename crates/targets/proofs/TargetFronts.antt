-- Where the wrong endpoint of a target is found.
use Rattle.std.proofs.Common.{◌≡◌, ℕ, ◌+◌, Bool, cond, List, [], ◌∷◌, ◌++◌, length, take, drop, refl, ap, sym, subst, ◌∙◌, arith, Option, Some, None, eqb, ⊎_elim, inl, inr, Ok, Err}
use Rattle.std.proofs.lemmas.Bool.{cases_Bool, cond-true, cond-false, cases_lt}
use Rattle.std.proofs.lemmas.List.{take-append-drop, length-take}
use Rattle.std.proofs.lemmas.List.Sums.{prefix_len-le-length}
use Rattle.std.specs.List.{prefix_len}
use Rattle.std.specs.Option.{option_map_or}
use Rattle.std.specs.declared.result.Result.{Result}
use Rattle.targets.specs.declared.endpoint.Endpoint.{Endpoint}
use Rattle.targets.specs.declared.endpoint.EndpointFault.{EndpointFault}
use Rattle.targets.specs.declared.endpoint.EndpointFault.TheVariants as endpoint_fault
use Rattle.targets.specs.declared.target.Protocol.{Protocol}
use Rattle.targets.specs.declared.target.Target.{Target}
use Rattle.targets.specs.declared.target.TargetFault.{TargetFault}
use Rattle.targets.specs.declared.target.TargetFault.TheVariants.{TooLong, NoHost, BadHost, NotOrigin, BadPercent, Memory}
use Rattle.targets.specs.Endpoint.{endpoint_of}
use Rattle.targets.specs.Target.{scheme_of, scheme_length, is_https, is_before_path, is_taken, wrong_byte, first_wrong, first_wrong_of_path, target_at, target_after, absolute_target, target_by, target_of, ReadsTarget}
use Rattle.listing.specs.Fronts.{IsLongestFront}
use Rattle.targets.specs.Fronts.{IsSomeEndpoint, endpoint_text, StandsInEndpoint}
use Rattle.targets.proofs.FrontLemmas.{bad_host_stands, bad_port_stands, ok_err, err_same}
use Rattle.targets.proofs.TargetLemmas.{absolute_parts, within_limit, past_limit}

-- a wrong byte is no wrong endpoint
percent_is_none : (a b : ℕ) → BadPercent a ≡ BadHost b → ⊥
percent_is_none a b h = cc

origin_is_none : (a b : ℕ) → NotOrigin a ≡ BadHost b → ⊥
origin_is_none a b h = cc

long_is_none : (a b : ℕ) → TooLong a ≡ BadHost b → ⊥
long_is_none a b h = cc

no_host_is_none : (b : ℕ) → NoHost ≡ BadHost b → ⊥
no_host_is_none b h = cc

memory_is_none : (b : ℕ) → Memory ≡ BadHost b → ⊥
memory_is_none b h = cc

host_same : (a b : ℕ) → BadHost a ≡ BadHost b → a ≡ b
host_same a b h = cc

some_same : (a b : TargetFault) → Some a ≡ Some b → a ≡ b
some_same a b h = cc

none_some : (a : TargetFault) → None ≡ Some a → ⊥
none_some a h = cc

byte_is_none : (byte at place : ℕ) → wrong_byte byte at ≡ BadHost place → ⊥
byte_is_none byte at place e =
    ⊎_elim (λ here. percent_is_none at place (sym (cond-true (eqb byte 37) (BadPercent at) (NotOrigin at) here) ∙ e)) (λ gone. origin_is_none at place (sym (cond-false (eqb byte 37) (BadPercent at) (NotOrigin at) gone) ∙ e)) (cases_Bool (eqb byte 37))

wrong_is_none : (at : ℕ) (text : List ℕ) (place : ℕ) → first_wrong at text ≡ Some (BadHost place) → ⊥
unfolding first_wrong
wrong_is_none at [] place e = none_some (BadHost place) e
wrong_is_none at (byte ∷ bytes) place e =
    ⊎_elim (λ here. wrong_is_none (at + 1) bytes place (sym (cond-true (is_taken byte bytes) (first_wrong (at + 1) bytes) (Some (wrong_byte byte at)) here) ∙ e))
    (λ gone. byte_is_none byte at place (some_same (wrong_byte byte at) (BadHost place) (sym (cond-false (is_taken byte bytes) (first_wrong (at + 1) bytes) (Some (wrong_byte byte at)) gone) ∙ e))) (cases_Bool (is_taken byte bytes))

path_is_none : (text : List ℕ) (place : ℕ) → first_wrong_of_path text ≡ Some (BadHost place) → ⊥
path_is_none [] place e = origin_is_none 0 place (some_same (NotOrigin 0) (BadHost place) e)
path_is_none (byte ∷ bytes) place e =
    let other = cond (is_taken byte bytes) (Some (NotOrigin 0)) (Some (wrong_byte byte 0)) in
    ⊎_elim (λ here. wrong_is_none 0 (byte ∷ bytes) place (sym (cond-true (eqb byte 47) (first_wrong 0 (byte ∷ bytes)) other here) ∙ e))
    (λ gone.
    let left : other ≡ Some (BadHost place) = sym (cond-false (eqb byte 47) (first_wrong 0 (byte ∷ bytes)) other gone) ∙ e in
    ⊎_elim (λ taken. origin_is_none 0 place (some_same (NotOrigin 0) (BadHost place) (sym (cond-true (is_taken byte bytes) (Some (NotOrigin 0)) (Some (wrong_byte byte 0)) taken) ∙ left)))
    (λ wrong. byte_is_none byte 0 place (some_same (wrong_byte byte 0) (BadHost place) (sym (cond-false (is_taken byte bytes) (Some (NotOrigin 0)) (Some (wrong_byte byte 0)) wrong) ∙ left))) (cases_Bool (is_taken byte bytes))) (cases_Bool (eqb byte 47))

-- the wrong endpoint of a text
after_stands : (authority : List ℕ) (read : Result Endpoint EndpointFault) (secure : Bool) (wrong : Option TargetFault) (text : List ℕ) (at : ℕ) → (wrong ≡ Some (BadHost at) → ⊥) → endpoint_of authority ≡ read → target_after read secure wrong text ≡ Err (BadHost at) → IsLongestFront IsSomeEndpoint authority at
after_stands authority (Ok endpoint) secure None text at no_wrong e h = absurd (ok_err (target_at endpoint secure text) (BadHost at) h)
after_stands authority (Ok endpoint) secure (Some fault) text at no_wrong e h = absurd (no_wrong (ap Some (err_same fault (BadHost at) h)))
after_stands authority (Err (endpoint_fault.BadHost place)) secure wrong text at no_wrong e h = subst (IsLongestFront IsSomeEndpoint authority) (host_same place at (err_same (BadHost place) (BadHost at) h)) (bad_host_stands authority place e)
after_stands authority (Err (endpoint_fault.BadPort place)) secure wrong text at no_wrong e h = subst (IsLongestFront IsSomeEndpoint authority) (host_same place at (err_same (BadHost place) (BadHost at) h)) (bad_port_stands authority place e)
after_stands authority (Err endpoint_fault.Memory) secure wrong text at no_wrong e h = absurd (memory_is_none at (err_same Memory (BadHost at) h))

abbrev StandsAt : List ℕ → Option (List ℕ) → ℕ → Type 0
StandsAt text host at = (authority : List ℕ) × (endpoint_text text host ≡ Some authority) × IsLongestFront IsSomeEndpoint authority at

abbrev authority_behind : List ℕ → Option (List ℕ) → Option Protocol → Option (List ℕ)
authority_behind text host scheme = option_map_or (λ s. Some (take (prefix_len is_before_path (drop (scheme_length s) text)) (drop (scheme_length s) text))) scheme host

absolute_stands : (text : List ℕ) (host : Option (List ℕ)) (protocol : Protocol) (at : ℕ) → scheme_of text ≡ Some protocol → absolute_target protocol text ≡ Err (BadHost at) → StandsAt text host at
absolute_stands text host protocol at is_scheme e =
    let n = scheme_length protocol in
    let behind = drop n text in
    let m = prefix_len is_before_path behind in
    let authority = take m behind in
    let rest = drop m behind in
    let cut : behind ≡ authority ++ rest = sym (take-append-drop m behind) in
    let long : length authority ≡ m = omega (arith, length-take m behind, prefix_len-le-length is_before_path behind) in
    let count : prefix_len is_before_path (authority ++ rest) ≡ length authority = ap (prefix_len is_before_path) (sym cut) ∙ sym long in
    (authority, ap (authority_behind text host) is_scheme, after_stands authority (endpoint_of authority) (is_https protocol) (first_wrong (n + length authority) rest) rest at (wrong_is_none (n + length authority) rest at) refl (sym (absolute_parts protocol text authority rest cut count) ∙ e))

by_stands : (scheme : Option Protocol) (text : List ℕ) (host : Option (List ℕ)) (secure : Bool) (at : ℕ) → scheme_of text ≡ scheme → target_by scheme text host secure ≡ Err (BadHost at) → StandsAt text host at
by_stands (Some protocol) text host secure at is e = absolute_stands text host protocol at is e
by_stands None text None secure at is e = absurd (no_host_is_none at (err_same NoHost (BadHost at) e))
by_stands None text (Some host) secure at is e = (host, ap (authority_behind text (Some host)) is, after_stands host (endpoint_of host) secure (first_wrong_of_path text) text at (path_is_none text at) refl e)

bad_host_of_target : (text : List ℕ) (host : Option (List ℕ)) (secure : Bool) (at : ℕ) → target_of text host secure ≡ Err (BadHost at) → StandsAt text host at
bad_host_of_target text host secure at e = elim (cases_lt 4096 (length text)) [
  | inl long ↦ absurd (long_is_none (length text) at (err_same (TooLong (length text)) (BadHost at) (sym (past_limit text host secure long) ∙ e)))
  | inr fits ↦ by_stands (scheme_of text) text host secure at refl (sym (within_limit text host secure fits) ∙ e)
]

-- where a wrong endpoint is found by a reader
pub target_stands : (text : List ℕ) (host : Option (List ℕ)) (secure : Bool) (result : Result Target TargetFault) → ReadsTarget text host secure result → StandsInEndpoint text host result
target_stands text host secure (Ok target) e = tt
target_stands text host secure (Err (TooLong len)) e = tt
target_stands text host secure (Err NoHost) e = tt
target_stands text host secure (Err (BadHost at)) e = bad_host_of_target text host secure at e
target_stands text host secure (Err (NotOrigin at)) e = tt
target_stands text host secure (Err (BadPercent at)) e = tt
target_stands text host secure (Err Memory) e = tt
