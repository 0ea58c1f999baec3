-- The first HostMatch that matches is found among the places of its host.
use Rattle.std.proofs.Common.{◌≡◌, ℕ, ◌+◌, ◌<◌, ◌≤◌, Bool, true, false, cond, ◌&&◌, bytes_eq, List, [], ◌∷◌, ◌++◌, length, slice_get, refl, sym, ◌∙◌, ap, None, Some, append_assoc, append-nil, arith, length-append, map, take, get_or}
use Rattle.std.specs.List.{find}
use Rattle.std.specs.Option.{option_or}
use Rattle.std.specs.declared.option.Option.{Option}
use Rattle.targets.specs.declared.target.Target.{Target}
use Rattle.std.proofs.lemmas.List.{map-append, take_more, length-map, length-take-le}
use Rattle.metadata_objects.specs.LevelData.{Site, Index, host_view, hosts_view}
use Rattle.metadata_objects.specs.declared.host.HostMatch.{HostMatch}
use Rattle.inheritance.specs.Chain.{matches_port, matches_target}
use Rattle.inheritance.specs.HostTable.{places_from, places_of, site_among}

got_middle : (done : Index) (site : Site) (sites : Index) → slice_get (done ++ site ∷ sites) (length done) ≡ Some site
got_middle [] site sites = refl
got_middle (first ∷ done) site sites = got_middle done site sites

either : (own : Bool) (site : Site) (next : Option Site) → option_or (cond own (Some site) None) next ≡ cond own (Some site) next
either true site next = refl
either false site next = refl

step : (target : Target) (index : Index) (site : Site) (n : ℕ) (later : List ℕ) (next : Option Site) (own : Bool) → slice_get index n ≡ Some site → site_among index target later ≡ next
    → site_among index target (cond own (n ∷ later) later) ≡ cond (own && matches_port site.host.port target.port) (Some site) next
step target index site n later next true at is = rw (at, is) (either (matches_port site.host.port target.port) site next)
step target index site n later next false at is = is

among_rest : (target : Target) (done sites : Index) (n : ℕ) → n ≡ length done → site_among (done ++ sites) target (places_from n target.host sites) ≡ find (matches_target target) sites
among_rest target done [] n is = refl
among_rest target done (site ∷ sites) n is =
    let longer : n + 1 ≡ length (done ++ site ∷ []) = omega (arith, length-append done (site ∷ [])) in
    let same = ap (λ (index : Index). site_among index target (places_from (n + 1) target.host sites)) (append_assoc done (site ∷ []) sites) in
    step target (done ++ site ∷ sites) site n (places_from (n + 1) target.host sites) (find (matches_target target) sites) (bytes_eq site.host.host target.host)
    (ap (slice_get (done ++ site ∷ sites)) is ∙ got_middle done site sites)
    (sym same ∙ among_rest target (done ++ site ∷ []) sites (n + 1) longer)

pub found_among : (target : Target) (index : Index) → site_among index target (places_of index target.host) ≡ find (matches_target target) index
found_among target index = among_rest target [] index 0 refl

-- ---- one HostMatch more

kept_front : (n : ℕ) (b : Bool) (longer shorter back : List ℕ) → longer ≡ shorter ++ back → cond b (n ∷ longer) longer ≡ cond b (n ∷ shorter) shorter ++ back
kept_front n true longer shorter back is = ap (λ xs. n ∷ xs) is
kept_front n false longer shorter back is = is

more_from : (n : ℕ) (host : List ℕ) (sites : Index) (site : Site) (at : ℕ) → at ≡ n + length sites
    → places_from n host (sites ++ site ∷ []) ≡ places_from n host sites ++ cond (bytes_eq site.host.host host) (at ∷ []) []
more_from n host [] site at is = ap (λ (k : ℕ). cond (bytes_eq site.host.host host) (k ∷ []) []) (let e : n ≡ at = omega (arith, is) in e)
more_from n host (first ∷ sites) site at is =
    let e : at ≡ n + 1 + length sites = omega (arith, is) in
    kept_front n (bytes_eq first.host.host host) (places_from (n + 1) host (sites ++ site ∷ [])) (places_from (n + 1) host sites)
    (cond (bytes_eq site.host.host host) (at ∷ []) []) (more_from (n + 1) host sites site at e)

pub place_more : (host : List ℕ) (sites : Index) (site : Site) (at : ℕ) → at ≡ length sites
    → places_of (sites ++ site ∷ []) host ≡ places_of sites host ++ cond (bytes_eq site.host.host host) (at ∷ []) []
place_more host sites site at is = more_from 0 host sites site at (let e : at ≡ 0 + length sites = omega (arith, is) in e)

-- the places of a host among one HostMatch more
pub places_more : (hosts : List HostMatch) (i : ℕ) (host : HostMatch) (name now old : List ℕ) → i < length hosts → host ≡ get_or hosts i host
    → now ≡ cond (bytes_eq host.host.host name) (old ++ i ∷ []) old → old ≡ places_of (hosts_view (take i hosts)) name
    → now ≡ places_of (hosts_view (take (i + 1) hosts)) name
places_more hosts i host name now old below is added before =
    let long : i ≡ length (hosts_view (take i hosts)) = omega (arith, length-map (take i hosts) host_view, length-take-le i hosts (omega arith)) in
    rw (take_more hosts i host below, ← is, map-append) (
    added ∙ split (bytes_eq host.host.host name) old i
    ∙ ap (λ xs. xs ++ cond (bytes_eq host.host.host name) (i ∷ []) []) before
    ∙ sym (place_more name (hosts_view (take i hosts)) (host_view host) i long))
  where
    split : (b : Bool) (xs : List ℕ) (n : ℕ) → cond b (xs ++ n ∷ []) xs ≡ xs ++ cond b (n ∷ []) []
    split true xs n = refl
    split false xs n = sym (append-nil xs)
